-- The power 254 is the inverse: one test over the 255 bytes that are not 0. It undoes itself. Assumes nothing.
use mathlib.Core.Path.{◌≡◌, refl, sym, ap, ap₂, ◌∙◌}
use Prim.Native.Nat.{ℕ, zero, suc, ◌<◌}
use native.Mathlib.Nat.{le_of_suc-le-suc, zero-lt-suc, not-suc-le-zero}
use native.Mathlib.Omega.{arith}
use Rattle.xor.specs.Digit.{if_set}
use Rattle.gf256.specs.Field.{doubled, times_from, times, squared, fourth, sixteenth, power, inverse}
use Rattle.gf256.proofs.TableTest.{alike}
use Rattle.gf256.proofs.ProductLaws.{times_assoc, times_comm, times_lt, times_zero_r, times_one_l}
use Rattle.gf256.proofs.ExponentLaws.{power_one, power-add, squared-power, fourth-power, sixteenth-power}

inverse-test : (i : ℕ) → i < 255 → times (suc i) (inverse (suc i)) ≡ 1
unfolding times times_from doubled if_set squared fourth sixteenth inverse
inverse-test = alike (λ i. times (suc i) (inverse (suc i))) (λ i. 1) 255 tt

pub times-inverse : (x : ℕ) → 0 < x → x < 256 → times x (inverse x) ≡ 1
times-inverse zero p h = absurd (not-suc-le-zero p)
times-inverse (suc i) p h = inverse-test i (le_of_suc-le-suc h)

-- 0 has no inverse, and its power is 0
pub inverse_zero : inverse 0 ≡ 0
unfolding times times_from doubled if_set squared fourth sixteenth inverse
inverse_zero = refl

pub inverse_lt : (x : ℕ) → inverse x < 256
unfolding inverse
inverse_lt x = times_lt (times (sixteenth (times (times (squared x) x) (fourth (times (squared x) x)))) (fourth (times (squared x) x))) (squared x)

-- a factor that is not 0 cancels
pub times_cancel : (a x y : ℕ) → 0 < a → a < 256 → x < 256 → y < 256 → times a x ≡ times a y → x ≡ y
times_cancel a x y p h hx hy e = sym (back x hx) ∙ ap (times (inverse a)) e ∙ back y hy
  where
    back : (z : ℕ) → z < 256 → times (inverse a) (times a z) ≡ z
    back z hz =
        sym (times_assoc (inverse a) a z) ∙ ap (λ (n : ℕ). times n z) (times_comm (inverse a) a ∙ times-inverse a p h) ∙ times_one_l z hz

-- a factor of 1 is not 0
factor_pos : (x y : ℕ) → times x y ≡ 1 → 0 < y
factor_pos x zero e = let z = times_zero_r x in absurd (omega arith)
factor_pos x (suc i) e = zero-lt-suc i

pub inverse-inverse : (x : ℕ) → x < 256 → inverse (inverse x) ≡ x
inverse-inverse zero h = ap inverse inverse_zero ∙ inverse_zero
inverse-inverse (suc i) h =
    let x = suc i in
    let y = inverse x in
    let e = times-inverse x (zero-lt-suc i) h in
    let p = factor_pos x y e in
    times_cancel y (inverse y) x p (inverse_lt x) (inverse_lt y) h (times-inverse y p (inverse_lt x) ∙ sym (times_comm y x ∙ e))

-- the chain of document 01 is the power 254
pub inverse_is_power : (x : ℕ) → x < 256 → inverse x ≡ power x 254
unfolding inverse
inverse_is_power x h =
    let z : squared x ≡ power x 2 = ap squared (sym (power_one x h)) ∙ squared-power x 1 in
    let y₁ : times (squared x) x ≡ power x 3 = ap₂ times z (sym (power_one x h)) ∙ sym (power-add x 2 1) in
    let w : fourth (times (squared x) x) ≡ power x 12 = ap fourth y₁ ∙ fourth-power x 3 in
    let y₂ = ap₂ times y₁ w ∙ sym (power-add x 3 12) in
    let y₃ = ap₂ times (ap sixteenth y₂ ∙ sixteenth-power x 15) w ∙ sym (power-add x 240 12) in
    ap₂ times y₃ z ∙ sym (power-add x 252 2)

-- the same of the power by plain products
pub times-power_254 : (x : ℕ) → 0 < x → x < 256 → times x (power x 254) ≡ 1
times-power_254 x p h = ap (times x) (sym (inverse_is_power x h)) ∙ times-inverse x p h
