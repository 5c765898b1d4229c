-- Powers by plain products: exponents add, and a square doubles the exponent. Assumes nothing.
use Rattle.std.proofs.Common.{◌≡◌, ℕ, zero, suc, ◌+◌, ◌*◌, ◌<◌, sym, ap, ◌∙◌, suc-add, zero-add, arith, lit<}
use Rattle.gf256.specs.Field.{times, squared, fourth, sixteenth, power}
use Rattle.gf256.proofs.ProductLaws.{times_assoc, times_lt, times_one_l, times_one_r}

pub power_lt : (a k : ℕ) → power a k < 256
unfolding power
power_lt a zero = lit< tt
power_lt a (suc k) = times_lt a (power a k)

pub power-add : (a i j : ℕ) → power a (i + j) ≡ times (power a i) (power a j)
unfolding power
power-add a zero j = ap (power a) (zero-add j) ∙ sym (times_one_l (power a j) (power_lt a j))
power-add a (suc i) j = ap (power a) (suc-add i j) ∙ ap (times a) (power-add a i j) ∙ sym (times_assoc a (power a i) (power a j))

pub power_one : (a : ℕ) → a < 256 → power a 1 ≡ a
unfolding power
power_one a h = times_one_r a h

-- a square doubles the exponent
pub squared-power : (a k : ℕ) → squared (power a k) ≡ power a (k + k)
unfolding squared
squared-power a k = sym (power-add a k k)

pub fourth-power : (a k : ℕ) → fourth (power a k) ≡ power a (4 * k)
unfolding fourth
fourth-power a k = ap squared (squared-power a k) ∙ squared-power a (k + k) ∙ ap (power a) (omega arith)

pub sixteenth-power : (a k : ℕ) → sixteenth (power a k) ≡ power a (16 * k)
unfolding sixteenth
sixteenth-power a k = ap fourth (fourth-power a k) ∙ fourth-power a (4 * k) ∙ ap (power a) (omega arith)
