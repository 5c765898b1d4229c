-- The counts that the walk of a call adds up, step by step, and that they fit. Assumes nothing.
use Rattle.std.proofs.Common.{◌≡◌, ℕ, suc, ◌+◌, ◌-◌, ◌*◌, ◌%◌, ◌<◌, ◌≤◌, ◌≢◌, sym, refl, ap, ◌∙◌, add-one, arith}
use Rattle.std.proofs.Math.Nat.{mul-le-mul_left}
use Rattle.gf256.specs.declared.Direction.{Direction}
use Rattle.gf256.specs.declared.Direction.TheVariants.{Forward, Inverse}
use Rattle.cipher.specs.Fips197.{turned, kind, rounds, total_words}
use Rattle.cipher.specs.Cipher.{in_word, by_rows}
use Rattle.probing.specs.BoxPlaces.{box_count}
use Rattle.probing.specs.StringPlaces.{string_count, subs_count}
use Rattle.probing.specs.SchedulePlaces.{temp_count, word_count, schedule_from_count, schedule_count}
use Rattle.probing.specs.RoundPlaces.{round_count, last_round_count, rounds_count, inv_round_count, inv_rounds_count}
use Rattle.probing.specs.CallPlaces.{encrypted_with_count, decrypted_with_count, encryption_count, decryption_count, call_count}
use Rattle.schedule.proofs.WordLaws.{kind_turned, kind_subbed, kind_plain}
use Rattle.call_listing.specs.Walk.{mix_of, round_of, rounds_of, with_of}

-- ---- MixColumns

pub mix_some : (w : Direction) (d : ℕ) → 1 ≤ mix_of w d
unfolding mix_of
mix_some Forward d = omega arith
mix_some Inverse d = omega arith

-- as the code counts them, by the direction
pub mix_forward : (w : Direction) (d : ℕ) → w ≡ Forward → (d + 1) * 81 ≡ mix_of w d
unfolding mix_of
mix_forward w d e = let q : (d + 1) * 81 ≡ suc d * 81 = omega arith in q ∙ ap (λ (v : Direction). mix_of v d) (sym e)

pub mix_inverse : (w : Direction) (d : ℕ) → w ≡ Inverse → (d + 1) * 113 ≡ mix_of w d
unfolding mix_of
mix_inverse w d e = let q : (d + 1) * 113 ≡ suc d * 113 = omega arith in q ∙ ap (λ (v : Direction). mix_of v d) (sym e)

-- ---- S-boxes

-- k of n boxes, and one more
pub boxes_fit : (k n b : ℕ) → k < n → k * b + b ≤ n * b
boxes_fit k n b h =
    let le : k + 1 ≤ n = omega arith in
    omega (arith, mul-le-mul_left b le)

pub subs_count_word : (d : ℕ) → subs_count d in_word ≡ 4 * box_count d
unfolding subs_count
subs_count_word d = omega arith

pub subs_count_rows : (d : ℕ) → subs_count d by_rows ≡ 16 * box_count d
unfolding subs_count
subs_count_rows d = omega arith

-- ---- the key expansion

-- the temporary word of word i, by its kind
pub temp_turned : (nk d i : ℕ) → i % nk ≡ 0 → temp_count d (kind nk i) ≡ temp_count d turned
temp_turned nk d i h = ap (temp_count d) (kind_turned nk i h)

pub temp_subbed : (nk d i : ℕ) → 6 < nk → i % nk ≡ 4 → temp_count d (kind nk i) ≡ subs_count d in_word
unfolding temp_count
temp_subbed nk d i g h = ap (temp_count d) (kind_subbed nk i g h)

pub temp_plain_short : (nk d i : ℕ) → nk ≤ 6 → i % nk ≢ 0 → temp_count d (kind nk i) ≡ 0
unfolding temp_count
temp_plain_short nk d i g h = ap (temp_count d) (kind_plain nk i h (λ u w. omega arith))

pub temp_plain : (nk d i : ℕ) → i % nk ≢ 0 → i % nk ≢ 4 → temp_count d (kind nk i) ≡ 0
unfolding temp_count
temp_plain nk d i h g = ap (temp_count d) (kind_plain nk i h (λ u w. g w))

pub ruleset temp_counts = (temp_turned, temp_subbed, temp_plain_short, temp_plain)

-- the words from i on are word i and those behind it
pub schedule_next : (e i nk d : ℕ) → i < e
    → schedule_from_count (e - i) i nk d ≡ word_count nk d i + schedule_from_count (e - (i + 1)) (i + 1) nk d
unfolding schedule_from_count
schedule_next e i nk d h =
    let l : e - i ≡ suc (e - (i + 1)) = omega arith in
    ap (λ (m : ℕ). schedule_from_count m i nk d) l
    ∙ ap (λ (j : ℕ). word_count nk d i + schedule_from_count (e - (i + 1)) j nk d) (sym (add-one i))

pub schedule_start : (nk d : ℕ) → schedule_from_count (4 * (nk + 7) - nk) nk nk d ≡ schedule_count nk d
unfolding schedule_count total_words rounds
schedule_start nk d =
    let l : 4 * (nk + 7) - nk ≡ 4 * suc (nk + 6) - nk = omega arith in
    ap (λ (m : ℕ). schedule_from_count m nk nk d) l

pub schedule_end : (e i nk d : ℕ) → e ≤ i → schedule_from_count (e - i) i nk d ≡ 0
unfolding schedule_from_count
schedule_end e i nk d h =
    let l : e - i ≡ 0 = omega arith in
    ap (λ (m : ℕ). schedule_from_count m i nk d) l

pub ruleset schedule_counts = (schedule_next, schedule_start, schedule_end)

-- ---- the rounds

pub round_of_parts : (w : Direction) (d : ℕ) → round_of w d ≡ subs_count d by_rows + (mix_of w d + string_count 16 d)
unfolding round_of round_count inv_round_count mix_of
round_of_parts Forward d = refl
round_of_parts Inverse d = omega arith

pub last_round-parts : (d : ℕ) → subs_count d by_rows + string_count 16 d ≡ last_round_count d
unfolding last_round_count
last_round-parts d = refl

rounds_suc : (w : Direction) (l d : ℕ) → rounds_of w (suc l) d ≡ round_of w d + rounds_of w l d
unfolding rounds_of round_of rounds_count inv_rounds_count
rounds_suc Forward l d = refl
rounds_suc Inverse l d = refl

rounds_zero : (w : Direction) (d : ℕ) → rounds_of w 0 d ≡ last_round_count d
unfolding rounds_of rounds_count inv_rounds_count
rounds_zero Forward d = refl
rounds_zero Inverse d = refl

-- the rounds from r on are round r and those behind it
pub rounds_next : (w : Direction) (e r d : ℕ) → r < e → rounds_of w (e - r) d ≡ round_of w d + rounds_of w (e - (r + 1)) d
rounds_next w e r d h =
    let l : e - r ≡ suc (e - (r + 1)) = omega arith in
    ap (λ (m : ℕ). rounds_of w m d) l ∙ rounds_suc w (e - (r + 1)) d

pub rounds_end : (w : Direction) (e r d : ℕ) → e ≤ r → rounds_of w (e - r) d ≡ last_round_count d
rounds_end w e r d h =
    let l : e - r ≡ 0 = omega arith in
    ap (λ (m : ℕ). rounds_of w m d) l ∙ rounds_zero w d

pub rounds_start : (w : Direction) (nk d : ℕ) → rounds_of w (nk + 6 - 1) d ≡ rounds_of w (rounds nk - 1) d
unfolding rounds
rounds_start w nk d = refl

pub ruleset rounds_counts = (rounds_next, rounds_start, rounds_end)

-- ---- the whole call

pub with_of_parts : (w : Direction) (nk d : ℕ) → with_of w nk d ≡ string_count 16 d + rounds_of w (rounds nk - 1) d
unfolding with_of encrypted_with_count decrypted_with_count rounds_of
with_of_parts Forward nk d = refl
with_of_parts Inverse nk d = refl

pub call_count_parts : (w : Direction) (nk d : ℕ)
    → call_count w nk d ≡ string_count (4 * nk) d + string_count 16 d + schedule_count nk d + with_of w nk d
unfolding encryption_count decryption_count with_of
call_count_parts Forward nk d = omega arith
call_count_parts Inverse nk d = omega arith
