-- The masked S-box and inverse S-box join to the plain ones; their lengths, their need, their bytes; surplus tape has no effect. Assumes nothing.
use mathlib.Core.Path.{◌≡◌, refl, sym, ap, ◌∙◌}
use mathlib.Core.List.{List, [], ◌∷◌, ◌++◌, map}
use Prim.Native.Nat.{ℕ, zero, suc, ◌*◌, ◌%◌, ◌<◌, ◌≤◌}
use native.Mathlib.Omega.{arith}
use lib.Dec.{lit<}
use lib.Bits.{bit_xor}
use lib.ListN.{length, get_or, set, length-map}
use Rattle.xor.specs.Digit.{if_set}
use Rattle.xor.specs.Lists.{at, done, ◌&◌, Below}
use Rattle.xor.specs.Sums.{joined}
use Rattle.xor.proofs.XorLaws.{xor_sums}
use Rattle.gf256.specs.declared.Direction.{Direction}
use Rattle.gf256.specs.declared.Direction.TheVariants.{Forward, Inverse}
use Rattle.gf256.specs.Field.{inverse, linear_by, affine_by, rows, constant, affine, s_box}
use Rattle.gf256.specs.Field.{inverse_rows, inverse_constant, inverse_affine, inverse_s_box}
use Rattle.gf256.specs.Directions.{constant_of, affine_of, s_box_of}
use Rattle.byte_maps.proofs.AffineLaws.{joined-affine_by, once_more, affine_lt}
use Rattle.refresh.specs.Refresh.{into}
use Rattle.refresh.proofs.RefreshLaws.{length-into, joined-into, into_below}
use Rattle.power254.specs.Power254.{power_254}
use Rattle.power254.proofs.PowerLaws.{length-power_254, power_254_joins, power_254-surplus, power_need_is, power_need_bound}
use Rattle.sbox.specs.Box.{corrected, affine_shares, box, inverse_box, box_of, box_need, box_most}

-- ---- lengths

length-corrected : (c i : ℕ) (ys : List ℕ) → length (corrected c i ys) ≡ length ys
unfolding corrected
length-corrected c zero ys = refl
length-corrected c (suc i) ys = length-into ys 0 c

length-affine_shares : (w : Direction) (d : ℕ) (x : List ℕ) → length (affine_shares w d x) ≡ length x
unfolding affine_shares
length-affine_shares w d x = length-corrected (constant_of w) (d % 2) (map (affine_of w) x) ∙ length-map x (affine_of w)

pub length-box_of : (w : Direction) (d : ℕ) (x ts : List ℕ) → length (box_of w d x ts) ≡ suc d
unfolding box inverse_box
length-box_of Forward d x ts = length-affine_shares Forward d (power_254 d x ts) ∙ length-power_254 d x ts
length-box_of Inverse d x ts = length-power_254 d (affine_shares Inverse d x) ts

-- ---- joins

corrected_joins : (c i : ℕ) (ys : List ℕ) → 0 < length ys → joined (corrected c i ys) ≡ bit_xor (joined ys) (if_set i c)
unfolding corrected if_set
corrected_joins c zero ys h = simp xor_sums
corrected_joins c (suc i) ys h = joined-into ys 0 c h

opened : (ms : List ℕ) (c a : ℕ) → bit_xor (linear_by ms a) c ≡ affine_by ms c a
unfolding affine_by
opened ms c a = refl

-- d + 1 shares, each by the map, and the constant once more if d is odd
mapped_joins : (ms : List ℕ) (c d : ℕ) (x : List ℕ) → length x ≡ suc d
    → joined (corrected c (d % 2) (map (affine_by ms c) x)) ≡ affine_by ms c (joined x)
mapped_joins ms c d x l =
    let lm : length (map (affine_by ms c) x) ≡ suc d = length-map x (affine_by ms c) ∙ l in
    corrected_joins c (d % 2) (map (affine_by ms c) x) (omega arith)
    ∙ ap (λ (k : ℕ). bit_xor k (if_set (d % 2) c)) (joined-affine_by ms c x)
    ∙ ap (λ (m : ℕ). bit_xor (bit_xor (linear_by ms (joined x)) (if_set (m % 2) c)) (if_set (d % 2) c)) l
    ∙ ap (λ (k : ℕ). bit_xor (bit_xor (linear_by ms (joined x)) k) (if_set (d % 2) c)) (sym (once_more d c))
    ∙ last (linear_by ms (joined x)) (if_set (d % 2) c) c
    ∙ opened ms c (joined x)
  where
    last : (a b c : ℕ) → bit_xor (bit_xor a (bit_xor c b)) b ≡ bit_xor a c
    last a b c = simp xor_sums

affine_shares_join : (w : Direction) (d : ℕ) (x : List ℕ) → length x ≡ suc d → joined (affine_shares w d x) ≡ affine_of w (joined x)
unfolding affine_shares affine inverse_affine
affine_shares_join Forward d x l = mapped_joins rows constant d x l
affine_shares_join Inverse d x l = mapped_joins inverse_rows inverse_constant d x l

pub box_of_joins : (w : Direction) (d : ℕ) (x ts : List ℕ) → length x ≡ suc d → joined (box_of w d x ts) ≡ s_box_of w (joined x)
unfolding box s_box inverse_box inverse_s_box
box_of_joins Forward d x ts l =
    affine_shares_join Forward d (power_254 d x ts) (length-power_254 d x ts) ∙ ap affine (power_254_joins d x ts l)
box_of_joins Inverse d x ts l =
    power_254_joins d (affine_shares Inverse d x) ts (length-affine_shares Inverse d x ∙ l) ∙ ap inverse (affine_shares_join Inverse d x l)

pub box_joins : (d : ℕ) (x ts : List ℕ) → length x ≡ suc d → joined (box d x ts) ≡ s_box (joined x)
box_joins = box_of_joins Forward

pub inverse_box_joins : (d : ℕ) (x ts : List ℕ) → length x ≡ suc d → joined (inverse_box d x ts) ≡ inverse_s_box (joined x)
inverse_box_joins = box_of_joins Inverse

-- ---- the need

pub box_need_is : (d : ℕ) → box_need d ≡ 3 * (d * suc d)
box_need_is d = power_need_is d

pub box_need_bound : (d : ℕ) → d ≤ 8 → box_need d ≤ box_most
box_need_bound d h = power_need_bound d h

-- ---- the constant into share 0

pub corrected_odd : (c v i : ℕ) (ys : List ℕ) → v ≡ c → i ≡ 1 → set ys 0 (bit_xor (get_or ys 0 0) v) ≡ corrected c i ys
unfolding corrected into at
corrected_odd c v i ys w e = rw (w, e) refl

pub corrected_even : (c i : ℕ) (ys : List ℕ) → i ≡ 0 → ys ≡ corrected c i ys
unfolding corrected
corrected_even c i ys e = rw e refl

-- ---- bytes

corrected_below : (c i : ℕ) {ys : List ℕ} → c < 256 → Below 256 ys → Below 256 (corrected c i ys)
unfolding corrected
corrected_below c zero h hs = hs
corrected_below c (suc i) h hs = into_below 8 0 c h hs

affine_below : (ys : List ℕ) → Below 256 (map affine ys)
affine_below [] = done
affine_below (y ∷ ys) = affine_lt y & affine_below ys

pub box_below : (d : ℕ) (x ts : List ℕ) → Below 256 (box d x ts)
unfolding box affine_shares
box_below d x ts = corrected_below constant (d % 2) (lit< tt) (affine_below (power_254 d x ts))

-- ---- a tape that is longer than need be

module _ (d : ℕ) where
  pub box_of-surplus : (w : Direction) (x ts us : List ℕ) → box_need d ≤ length ts → box_of w d x (ts ++ us) ≡ box_of w d x ts
  unfolding box inverse_box
  box_of-surplus Forward x ts us h = ap (affine_shares Forward d) (power_254-surplus d x ts us h)
  box_of-surplus Inverse x ts us h = power_254-surplus d (affine_shares Inverse d x) ts us h
