-- How many places there are, in closed form at every order, and the table over key lengths and orders. Assumes nothing.
use mathlib.Core.Path.{◌≡◌, refl}
use mathlib.Core.List.{List, [], ◌∷◌, map}
use Prim.Native.Nat.{ℕ, suc, ◌+◌, ◌*◌}
use native.Mathlib.Omega.{arith}
use Rattle.xor.specs.Lists.{tab, runs}
use Rattle.xor.specs.Pairs.{each_pair, pairs}
use Rattle.isw.specs.Place.{place_count}
use Rattle.isw.proofs.OrderLaws.{twice_need, product_need_is}
use Rattle.refresh.specs.Refresh.{refresh_pairs, refresh_need}
use Rattle.refresh.specs.Places.{refresh_count}
use Rattle.refresh.proofs.RefreshLaws.{refresh_need_is}
use Rattle.gadgets.specs.Cube.{cube_count}
use Rattle.cipher.specs.Fips197.{kind, rounds, total_words}
use Rattle.probing.specs.BoxPlaces.{times_count, first_count, second_count, last_count, power_count, box_count}
use Rattle.probing.specs.StringPlaces.{string_count, subs_count}
use Rattle.probing.specs.SchedulePlaces.{temp_count, word_count, schedule_from_count, schedule_count}
use Rattle.probing.specs.RoundPlaces.{round_count, last_round_count, rounds_count, inv_round_count, inv_rounds_count}
use Rattle.probing.specs.CallPlaces.{encrypted_with_count, encryption_count, decrypted_with_count, decryption_count}

-- an S-box, either way
pub box_count_is : (d : ℕ) → box_count d ≡ 3 * (d + 1) * (7 * d + 10)
unfolding box_count power_count first_count second_count last_count times_count cube_count place_count refresh_count
box_count_is d = omega (arith, refresh_need_is d, product_need_is d, twice_need d)

-- a whole call: 200, 224 and 276 S-boxes, and the linear steps of each share
pub record CountedPlaces (d : ℕ) : Type 0 where
  pub encryption_16 : encryption_count 4 d ≡ 200 * box_count d + 1200 * suc d
  pub encryption_24 : encryption_count 6 d ≡ 224 * box_count d + 1424 * suc d
  pub encryption_32 : encryption_count 8 d ≡ 276 * box_count d + 1653 * suc d
  pub decryption_16 : decryption_count 4 d ≡ 200 * box_count d + 1488 * suc d
  pub decryption_24 : decryption_count 6 d ≡ 224 * box_count d + 1776 * suc d
  pub decryption_32 : decryption_count 8 d ≡ 276 * box_count d + 2069 * suc d

pub counted_places : (d : ℕ) → CountedPlaces d
unfolding encryption_count encrypted_with_count rounds_count last_round_count round_count decryption_count decrypted_with_count inv_rounds_count
    inv_round_count schedule_count schedule_from_count word_count temp_count subs_count kind rounds total_words string_count
counted_places d = omega arith

-- ---- the table: a row for each order from 1 to 8, with keys of 16, 24 and 32 bytes

abbrev by_order : ((nk d : ℕ) → ℕ) → List (List ℕ)
by_order count = map (λ d. map (λ nk. count nk d) (4 ∷ 6 ∷ 8 ∷ [])) (1 ∷ 2 ∷ 3 ∷ 4 ∷ 5 ∷ 6 ∷ 7 ∷ 8 ∷ [])

pub box-places : map box_count (1 ∷ 2 ∷ 3 ∷ 4 ∷ 5 ∷ 6 ∷ 7 ∷ 8 ∷ []) ≡ 102 ∷ 216 ∷ 372 ∷ 570 ∷ 810 ∷ 1092 ∷ 1416 ∷ 1782 ∷ []
unfolding box_count power_count first_count second_count last_count times_count cube_count place_count refresh_count refresh_need refresh_pairs
    pairs each_pair tab runs
box-places = refl

pub encryption_places : by_order encryption_count
    ≡ (22800 ∷ 25696 ∷ 31458 ∷ []) ∷ (46800 ∷ 52656 ∷ 64575 ∷ []) ∷ (79200 ∷ 89024 ∷ 109284 ∷ []) ∷ (120000 ∷ 134800 ∷ 165585 ∷ [])
    ∷ (169200 ∷ 189984 ∷ 233478 ∷ []) ∷ (226800 ∷ 254576 ∷ 312963 ∷ []) ∷ (292800 ∷ 328576 ∷ 404040 ∷ []) ∷ (367200 ∷ 411984 ∷ 506709 ∷ []) ∷ []
unfolding encryption_count encrypted_with_count rounds_count last_round_count round_count schedule_count schedule_from_count word_count temp_count
    subs_count kind rounds total_words string_count box_count power_count first_count second_count last_count times_count cube_count place_count
    refresh_count refresh_need refresh_pairs pairs each_pair tab runs
encryption_places = refl

pub decryption_places : by_order decryption_count
    ≡ (23376 ∷ 26400 ∷ 32290 ∷ []) ∷ (47664 ∷ 53712 ∷ 65823 ∷ []) ∷ (80352 ∷ 90432 ∷ 110948 ∷ []) ∷ (121440 ∷ 136560 ∷ 167665 ∷ [])
    ∷ (170928 ∷ 192096 ∷ 235974 ∷ []) ∷ (228816 ∷ 257040 ∷ 315875 ∷ []) ∷ (295104 ∷ 331392 ∷ 407368 ∷ []) ∷ (369792 ∷ 415152 ∷ 510453 ∷ []) ∷ []
unfolding decryption_count decrypted_with_count inv_rounds_count last_round_count inv_round_count schedule_count schedule_from_count word_count
    temp_count subs_count kind rounds total_words string_count box_count power_count first_count second_count last_count times_count cube_count
    place_count refresh_count refresh_need refresh_pairs pairs each_pair tab runs
decryption_places = refl
