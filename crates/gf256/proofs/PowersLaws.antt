-- Powers 2, 4 and 16 by the tables: the log times half of the exponent, what stands above its low byte added to it, and that twice. Assumes nothing.
use Rattle.std.proofs.Common.{◌≡◌, ℕ, zero, suc, ◌+◌, ◌*◌, ◌/◌, ◌%◌, ◌<◌, ◌≤◌, List, sym, refl, ap, ◌∙◌, ap₂, zero-lt-suc, arith}
use Rattle.xor.specs.Lists.{at}
use Rattle.xor.specs.Digit.{if_set}
use Rattle.gf256.specs.Field.{doubled, times_from, times, squared, fourth, sixteenth, power}
use Rattle.gf256.specs.Exponents.{raised_to, half_of}
use Rattle.gf256.specs.Tables.{Tables}
use Rattle.gf256.specs.declared.Exponent.{Exponent}
use Rattle.gf256.specs.declared.Exponent.TheVariants.{Two, Four, Sixteen}
use Rattle.gf256.proofs.ProductLaws.{times_one_l}
use Rattle.gf256.proofs.ExponentLaws.{power_lt, power-add, squared-power, fourth-power, sixteenth-power}
use Rattle.gf256.proofs.TablesLaws.{log_zero-of, log_of, log_le, antilog_table_of}

-- what stands above the low byte, added to it (reduction modulo 255, by a carry at the low end)
unfoldable pub folded : ℕ → ℕ
folded t = t % 256 + t / 256

power_255 : power 3 255 ≡ 1
unfolding power times times_from doubled if_set
power_255 = refl

-- 255 more change nothing
power_turns : (q k : ℕ) → power 3 (255 * q + k) ≡ power 3 k
power_turns zero k = let e : 255 * 0 + k ≡ k = omega arith in ap (power 3) e
power_turns (suc q) k =
    let e : 255 * suc q + k ≡ 255 + (255 * q + k) = omega arith in
    ap (power 3) e
    ∙ power-add 3 255 (255 * q + k)
    ∙ ap (λ (x : ℕ). times x (power 3 (255 * q + k))) power_255
    ∙ times_one_l (power 3 (255 * q + k)) (power_lt 3 (255 * q + k))
    ∙ power_turns q k

power_folded : (t : ℕ) → power 3 (folded t) ≡ power 3 t
unfolding folded
power_folded t =
    let e : 255 * (t / 256) + (t % 256 + t / 256) ≡ t = omega arith in
    sym (power_turns (t / 256) (t % 256 + t / 256)) ∙ ap (power 3) e

-- a power multiplies the exponent
raised_power : (which : Exponent) (k : ℕ) → raised_to which (power 3 k) ≡ power 3 (k * half_of which + k * half_of which)
raised_power Two k = squared-power 3 k ∙ (let e : k + k ≡ k * 1 + k * 1 = omega arith in ap (power 3) e)
raised_power Four k = fourth-power 3 k ∙ (let e : 4 * k ≡ k * 2 + k * 2 = omega arith in ap (power 3) e)
raised_power Sixteen k = sixteenth-power 3 k ∙ (let e : 16 * k ≡ k * 8 + k * 8 = omega arith in ap (power 3) e)

raised_zero : (which : Exponent) → raised_to which 0 ≡ 0
unfolding times times_from doubled if_set squared fourth sixteenth
raised_zero Two = refl
raised_zero Four = refl
raised_zero Sixteen = refl

-- the log of a byte that is not 00 stays below 255, and that of 00 becomes 255
folded_lt : (which : Exponent) (l : ℕ) → l < 255 → folded (l * half_of which) < 255
unfolding folded
folded_lt Two l h = omega arith
folded_lt Four l h = omega arith
folded_lt Sixteen l h = omega arith

-- no log's multiple is longer than twelve bits
multiple_le : (which : Exponent) (l : ℕ) → l ≤ 510 → l * half_of which ≤ 4080
multiple_le Two l h = omega arith
multiple_le Four l h = omega arith
multiple_le Sixteen l h = omega arith

folded_zero : (which : Exponent) → folded (510 * half_of which) ≡ 255
unfolding folded
folded_zero Two = refl
folded_zero Four = refl
folded_zero Sixteen = refl

module _ {ls es : List ℕ} (tables : Tables ls es) where
  pub log_multiple_le : (which : Exponent) (a : ℕ) → a < 256 → at ls a * half_of which ≤ 4080
  log_multiple_le which a h = multiple_le which (at ls a) (log_le tables a h)

  pub folded_le : (which : Exponent) (a : ℕ) → a < 256 → folded (at ls a * half_of which) ≤ 255
  folded_le which zero h =
      let e : folded (at ls 0 * half_of which) ≡ 255 = ap (λ (l : ℕ). folded (l * half_of which)) (log_zero-of tables) ∙ folded_zero which in
      omega arith
  folded_le which (suc i) h =
      let f = folded_lt which (at ls (suc i)) (log_of tables (suc i) (zero-lt-suc i) h).0 in
      omega arith

  -- the antilog of twice the folded multiple is the power, that of 00 included
  pub table_power : (which : Exponent) (a : ℕ) → a < 256 → at es (2 * folded (at ls a * half_of which)) ≡ raised_to which a
  table_power which zero h =
      ap (λ (l : ℕ). at es (2 * folded (l * half_of which))) (log_zero-of tables)
      ∙ ap (λ (k : ℕ). at es (2 * k)) (folded_zero which)
      ∙ (antilog_table_of tables).antilog_zero 510 (omega arith)
      ∙ sym (raised_zero which)
  table_power which (suc i) h =
      let p = log_of tables (suc i) (zero-lt-suc i) h in
      let t = at ls (suc i) * half_of which in
      let f = folded t in
      let small : f < 255 = folded_lt which (at ls (suc i)) p.0 in
      let twice : 2 * f ≡ f + f = omega arith in
      (antilog_table_of tables).antilog_power (2 * f) (omega arith)
      ∙ ap (power 3) twice
      ∙ power-add 3 f f
      ∙ ap₂ times (power_folded t) (power_folded t)
      ∙ sym (power-add 3 t t)
      ∙ sym (raised_power which (at ls (suc i)))
      ∙ ap (raised_to which) p.1
