-- THE CUBE HIDES: no d places of its run tell two values of x apart, for an operation and a map that are closed on numbers of w bits.
-- Assumes nothing.
use mathlib.Core.Path.{◌≡◌, refl, sym, ap, ◌∙◌}
use mathlib.Core.List.{List}
use Prim.Native.Nat.{ℕ, ◌%◌, ◌^◌, ◌≤◌, ◌<◌}
use native.Mathlib.Nat.{mod-lt, mod-eq_of_lt}
use lib.ListN.{length}
use lib.Pow.{pow_pos}
use Rattle.xor.specs.Lists.{Below}
use Rattle.xor.proofs.ListsLaws.{all_take, all_drop}
use Rattle.isw.specs.Place.{listed}
use Rattle.isw.specs.Hiding.{same}
use Rattle.isw.proofs.MaskLaws.{factor_below}
use Rattle.gadgets.specs.Cube.{cube_count}
use Rattle.gadgets.specs.CubeHiding.{cube_choice_length, cube_chosen, cube_readings, CubeHides}
use Rattle.gadgets.proofs.GadgetsLaws.{how_many_cong, strong_hides}
use Rattle.gadgets.proofs.CubeStrong.{cube-strong}
use Rattle.gadgets.proofs.CubeLaws.{cube_sheet_cong}

module _ (op : ℕ → ℕ → ℕ) (f : ℕ → ℕ) (w : ℕ)
    (op_in : (x y : ℕ) → x < 2 ^ w → y < 2 ^ w → op x y < 2 ^ w) (f_in : (x : ℕ) → x < 2 ^ w → f x < 2 ^ w) where
  -- they are made total: every number is read by its last w bits
  abbrev op' : ℕ → ℕ → ℕ
  op' x y = op (x % 2 ^ w) (y % 2 ^ w)

  abbrev f' : ℕ → ℕ
  f' x = f (x % 2 ^ w)

  low : (x : ℕ) → x % 2 ^ w < 2 ^ w
  low x = mod-lt x (pow_pos w)

  op_agree : (x y : ℕ) → x < 2 ^ w → y < 2 ^ w → op x y ≡ op' x y
  op_agree x y hx hy = sym (rw (mod-eq_of_lt hx, mod-eq_of_lt hy) refl)

  f_agree : (x : ℕ) → x < 2 ^ w → f x ≡ f' x
  f_agree x hx = sym (rw (mod-eq_of_lt hx) refl)

  -- which changes no count
  readings_cong : (d x : ℕ) (list reading : List ℕ) → x < 2 ^ w → cube_readings op f w d x list reading ≡ cube_readings op' f' w d x list reading
  unfolding cube_readings cube_chosen
  readings_cong d x list reading hx =
      how_many_cong (2 ^ w) (cube_choice_length d) _ _ (λ cs l b.
      ap (λ (s : List ℕ). same (listed s list) reading)
      (cube_sheet_cong w op op' op_agree f f' f_agree f_in d (factor_below w hx (all_take d b)) (all_drop d b)))

  -- THE RULE: no d places of the cube tell two values of x apart
  pub cube_hides : CubeHides op f w
  unfolding CubeHides
  cube_hides d list reading x y few below hx hy =
      readings_cong d x list reading hx ∙ total d list reading x y few below hx hy ∙ sym (readings_cong d y list reading hy)
    where
      total : (d : ℕ) (list reading : List ℕ) (x y : ℕ) → length list ≤ d → Below (cube_count d) list → x < 2 ^ w → y < 2 ^ w
          → cube_readings op' f' w d x list reading ≡ cube_readings op' f' w d y list reading
      total d list reading x y few below hx hy =
          unfold cube_readings cube_choice_length cube_chosen in
          strong_hides (cube-strong w op' (λ x y. op_in (x % 2 ^ w) (y % 2 ^ w) (low x) (low y)) f' (λ x. f_in (x % 2 ^ w) (low x)) d)
          list reading x y few below hx hy
