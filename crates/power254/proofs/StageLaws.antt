-- The stages of power 254, put together from what each call leaves. Assumes nothing.
use mathlib.Core.Path.{◌≡◌, refl}
use mathlib.Core.List.{List, map}
use Prim.Native.Nat.{ℕ, ◌+◌, ◌-◌}
use lib.ListN.{length, take, drop}
use lib.Seq.{drop-drop}
use Rattle.gf256.specs.Field.{sixteenth}
use Rattle.isw.specs.Place.{product_need}
use Rattle.refresh.specs.Refresh.{refreshed, refresh_need}
use Rattle.xor.proofs.WriteLaws.{part_rest}
use Rattle.power254.specs.Power254.{masked_product, stage_z, stage_y, stage_w, stage_v, stage_last, stage_need, power_254}

-- what a callee gets as `&tape[k..]`
abbrev rest : (tape : List ℕ) (k : ℕ) → List ℕ
rest ts k = take (length ts - k) (drop k ts)

module _ (d : ℕ) where
  -- f over each share, and a refresh
  pub refreshed-after : (f : ℕ → ℕ) (x q r ts : List ℕ) → q ≡ map f x → r ≡ refreshed d q ts → r ≡ refreshed d (map f x) ts
  refreshed-after f x q r ts e₁ e₂ = rw (e₂, e₁) refl

  -- a product of shares that are known, with the tape from k on
  pub product-after : (k n : ℕ) (a b a' b' ts o : List ℕ) → k ≡ n → a ≡ a' → b ≡ b' → o ≡ masked_product d a b (rest ts k)
      → o ≡ masked_product d a' b' (drop n ts)
  product-after k n a b a' b' ts o e₁ e₂ e₃ e₄ = rw (e₄, part_rest ts k, e₁, e₂, e₃) refl

  -- the last stage: v is y times w, q is v¹⁶, u that times w, o that times z
  pub last_after : (k m : ℕ) (y w z ts v q u o : List ℕ) → v ≡ masked_product d y w ts → k ≡ product_need d → q ≡ map sixteenth v
      → u ≡ masked_product d q w (rest ts k) → m ≡ product_need d → o ≡ masked_product d u z (rest ts (k + m))
      → o ≡ stage_last d (masked_product d y w ts) w z (drop (product_need d) ts)
  unfolding stage_last
  last_after k m y w z ts v q u o ev ek eq eu em eo =
      rw (eo, part_rest ts (k + m), eu, part_rest ts k, eq, ev, ek, em, drop-drop (product_need d) (product_need d) ts) refl

  -- the second stage, and the last with the tape from where the refresh ended
  pub later_after : (k : ℕ) (y z ts w o : List ℕ) → k ≡ refresh_need d → w ≡ stage_w d y ts
      → o ≡ stage_last d (masked_product d y w (rest ts k)) w z (drop (product_need d) (rest ts k))
      → o ≡ stage_last d (stage_v d y ts) (stage_w d y ts) z (drop (stage_need d) ts)
  unfolding stage_v stage_need
  later_after k y z ts w o e ew eo = rw (eo, part_rest ts k, ew, e, drop-drop (product_need d) (refresh_need d) ts) refl

  -- the first stage, and the later ones with the tape from where it ended
  pub power-after : (k : ℕ) (x ts z y o : List ℕ) → k ≡ stage_need d → z ≡ stage_z d x ts → y ≡ stage_y d x ts
      → o ≡ stage_last d (stage_v d y (rest ts k)) (stage_w d y (rest ts k)) z (drop (stage_need d) (rest ts k)) → o ≡ power_254 d x ts
  unfolding power_254
  power-after k x ts z y o e ez ey eo = rw (eo, part_rest ts k, ez, ey, e) refl
