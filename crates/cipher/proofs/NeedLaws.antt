-- How much tape each step takes, in closed form: document 01's counts and its table, with the refresh of document 02, wish 7. Assumes nothing.
use mathlib.Core.Path.{◌≡◌, refl, sym, ap, ◌∙◌, subst}
use mathlib.Core.List.{List, [], ◌∷◌, map}
use Prim.Native.Nat.{ℕ, zero, suc, ◌+◌, ◌*◌, ◌-◌}
use native.Mathlib.Nat.{suc-mul, mul_assoc, mul_left_comm}
use native.Mathlib.Omega.{arith}
use Rattle.xor.specs.Lists.{tab, runs}
use Rattle.xor.specs.Pairs.{each_pair, pairs, before_row}
use Rattle.isw.specs.Place.{product_need}
use Rattle.refresh.specs.Refresh.{refresh_pairs, refresh_need}
use Rattle.power254.specs.Power254.{stage_need, power_need}
use Rattle.sbox.specs.Box.{box_need}
use Rattle.tape_words.specs.Words.{words_for}
use Rattle.tape_words.proofs.WordsLaws.{Whole, whole_four, whole-add}
use Rattle.cipher.specs.Fips197.{Kind, turned, subbed, plain, kind, rounds, total_words}
use Rattle.cipher.specs.Cipher.{subs_need, temp_need, schedule_from_need, schedule_need, round_need, rounds_need, encrypted_with_need}
use Rattle.cipher.specs.Cipher.{cipher_need}

-- ---- key expansion: 40, 32 and 52 S-boxes

pub schedule_need_4 : (d : ℕ) → schedule_need 4 d ≡ 40 * box_need d
unfolding schedule_need schedule_from_need temp_need kind subs_need rounds total_words
schedule_need_4 d = omega arith

pub schedule_need_6 : (d : ℕ) → schedule_need 6 d ≡ 32 * box_need d
unfolding schedule_need schedule_from_need temp_need kind subs_need rounds total_words
schedule_need_6 d = omega arith

pub schedule_need_8 : (d : ℕ) → schedule_need 8 d ≡ 52 * box_need d
unfolding schedule_need schedule_from_need temp_need kind subs_need rounds total_words
schedule_need_8 d = omega arith

-- ---- rounds: 16 S-boxes each

pub round_need_is : (d : ℕ) → round_need d ≡ 16 * box_need d
unfolding subs_need
round_need_is d = omega arith

rounds_need_is : (left d : ℕ) → rounds_need left d ≡ suc left * (16 * box_need d)
unfolding rounds_need subs_need
rounds_need_is zero d = omega arith
rounds_need_is (suc left) d = let ih = rounds_need_is left d in omega (arith, suc-mul (suc left) (16 * box_need d))

pub encrypted_with_need_is : (nk d : ℕ) → encrypted_with_need nk d ≡ rounds nk * (16 * box_need d)
unfolding encrypted_with_need rounds
encrypted_with_need_is nk d = rounds_need_is (nk + 6 - 1) d ∙ ap (λ (n : ℕ). n * (16 * box_need d)) (omega arith)

-- ---- S-boxes: 160, 192 and 224 in the rounds; 200, 224 and 276 with the key expansion

pub record Counted (d : ℕ) : Type 0 where
  pub rounds_16 : encrypted_with_need 4 d ≡ 160 * box_need d
  pub rounds_24 : encrypted_with_need 6 d ≡ 192 * box_need d
  pub rounds_32 : encrypted_with_need 8 d ≡ 224 * box_need d
  pub key_16 : cipher_need 4 d ≡ 200 * box_need d
  pub key_24 : cipher_need 6 d ≡ 224 * box_need d
  pub key_32 : cipher_need 8 d ≡ 276 * box_need d

pub counted : (d : ℕ) → Counted d
unfolding cipher_need rounds
counted d = omega (
  arith,
  schedule_need_4 d,
  schedule_need_6 d,
  schedule_need_8 d,
  encrypted_with_need_is 4 d,
  encrypted_with_need_is 6 d,
  encrypted_with_need_is 8 d,
)

-- ---- words: the key expansion, the rounds and a whole call take whole words, so what comes behind one of them starts at a fresh word

temp-whole : (d : ℕ) (k : Kind) → Whole (temp_need d k)
unfolding temp_need subs_need words_for
temp-whole d turned = omega arith
temp-whole d subbed = omega arith
temp-whole d plain = refl

schedule_from-whole : (l i nk d : ℕ) → Whole (schedule_from_need l i nk d)
unfolding schedule_from_need
schedule_from-whole zero i nk d = whole_four 0
schedule_from-whole (suc l) i nk d = whole-add _ _ (temp-whole d (kind nk i)) (schedule_from-whole l (suc i) nk d)

pub schedule-whole : (nk d : ℕ) → Whole (schedule_need nk d)
unfolding schedule_need
schedule-whole nk d = schedule_from-whole (total_words nk - nk) nk nk d

pub encrypted_with-whole : (nk d : ℕ) → Whole (encrypted_with_need nk d)
encrypted_with-whole nk d =
    let e : encrypted_with_need nk d ≡ 4 * (rounds nk * (4 * box_need d)) =
    encrypted_with_need_is nk d ∙ ap (◌*◌ (rounds nk)) (mul_assoc 4 4 (box_need d)) ∙ mul_left_comm (rounds nk) 4 (4 * box_need d) in
    subst Whole (sym e) (whole_four (rounds nk * (4 * box_need d)))

pub cipher-whole : (nk d : ℕ) → Whole (cipher_need nk d)
unfolding cipher_need
cipher-whole nk d = whole-add _ _ (schedule-whole nk d) (encrypted_with-whole nk d)

-- document 01's table in words, as document 02, wishes 6 and 7, restate it: a row for each size of key, at orders 1, 2 and 8
pub tape_table : map (λ nk. map (λ d. words_for (cipher_need nk d)) (1 ∷ 2 ∷ 8 ∷ [])) (4 ∷ 6 ∷ 8 ∷ [])
    ≡ (300 ∷ 900 ∷ 10800 ∷ []) ∷ (336 ∷ 1008 ∷ 12096 ∷ []) ∷ (414 ∷ 1242 ∷ 14904 ∷ []) ∷ []
unfolding cipher_need encrypted_with_need rounds_need schedule_need schedule_from_need temp_need kind subs_need rounds total_words power_need
    stage_need refresh_need refresh_pairs pairs each_pair product_need before_row tab runs words_for
tape_table = refl

-- ---- all that a call for a block or a key can take, in words: a row for each order from 1 to 8, with keys of 16, 24 and 32 bytes

abbrev by_order : ((nk d : ℕ) → ℕ) → List (List ℕ)
by_order need = map (λ d. map (λ nk. words_for (need nk d)) (4 ∷ 6 ∷ 8 ∷ [])) (1 ∷ 2 ∷ 3 ∷ 4 ∷ 5 ∷ 6 ∷ 7 ∷ 8 ∷ [])

pub preparation_table : by_order schedule_need
    ≡ (60 ∷ 48 ∷ 78 ∷ []) ∷ (180 ∷ 144 ∷ 234 ∷ []) ∷ (360 ∷ 288 ∷ 468 ∷ []) ∷ (600 ∷ 480 ∷ 780 ∷ [])
    ∷ (900 ∷ 720 ∷ 1170 ∷ []) ∷ (1260 ∷ 1008 ∷ 1638 ∷ []) ∷ (1680 ∷ 1344 ∷ 2184 ∷ []) ∷ (2160 ∷ 1728 ∷ 2808 ∷ []) ∷ []
unfolding cipher_need encrypted_with_need rounds_need schedule_need schedule_from_need temp_need kind subs_need rounds total_words power_need
    stage_need refresh_need refresh_pairs pairs each_pair product_need before_row tab runs words_for
preparation_table = refl

pub rounds_table : by_order encrypted_with_need
    ≡ (240 ∷ 288 ∷ 336 ∷ []) ∷ (720 ∷ 864 ∷ 1008 ∷ []) ∷ (1440 ∷ 1728 ∷ 2016 ∷ []) ∷ (2400 ∷ 2880 ∷ 3360 ∷ [])
    ∷ (3600 ∷ 4320 ∷ 5040 ∷ []) ∷ (5040 ∷ 6048 ∷ 7056 ∷ []) ∷ (6720 ∷ 8064 ∷ 9408 ∷ []) ∷ (8640 ∷ 10368 ∷ 12096 ∷ []) ∷ []
unfolding cipher_need encrypted_with_need rounds_need schedule_need schedule_from_need temp_need kind subs_need rounds total_words power_need
    stage_need refresh_need refresh_pairs pairs each_pair product_need before_row tab runs words_for
rounds_table = refl

pub single_table : by_order cipher_need
    ≡ (300 ∷ 336 ∷ 414 ∷ []) ∷ (900 ∷ 1008 ∷ 1242 ∷ []) ∷ (1800 ∷ 2016 ∷ 2484 ∷ []) ∷ (3000 ∷ 3360 ∷ 4140 ∷ [])
    ∷ (4500 ∷ 5040 ∷ 6210 ∷ []) ∷ (6300 ∷ 7056 ∷ 8694 ∷ []) ∷ (8400 ∷ 9408 ∷ 11592 ∷ []) ∷ (10800 ∷ 12096 ∷ 14904 ∷ []) ∷ []
unfolding cipher_need encrypted_with_need rounds_need schedule_need schedule_from_need temp_need kind subs_need rounds total_words power_need
    stage_need refresh_need refresh_pairs pairs each_pair product_need before_row tab runs words_for
single_table = refl
