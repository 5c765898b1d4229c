-- A round from the calls that make it; encryption and decryption in one. Assumes nothing.
use mathlib.Core.Path.{◌≡◌, refl, ap, ◌∙◌}
use mathlib.Core.Bool.{true, false}
use mathlib.Core.List.{List}
use Prim.Native.Nat.{ℕ, suc, ◌*◌}
use native.Mathlib.Omega.{arith}
use lib.ListN.{length}
use Rattle.gf256.specs.declared.Direction.{Direction}
use Rattle.gf256.specs.declared.Direction.TheVariants.{Forward, Inverse}
use Rattle.shares.specs.Strings.{Shares, Shared, parts, laid}
use Rattle.shares.proofs.StringsLaws.{parts-laid, shared-parts}
use Rattle.cipher.specs.States.{adds}
use Rattle.cipher.specs.Cipher.{round_keys, masked_round, masked_last_round, masked_inv_round, masked_inv_last_round}
use Rattle.cipher.specs.Rounds.{round_of}
use Rattle.cipher.proofs.CipherLaws.{rows-shared, inv_rows-shared}
use Rattle.rounds.specs.Directions.{shifted_of, keyed_of}

-- two steps on a buffer, one after the other
pub two_steps : (d : ℕ) (f g : Shares → Shares) (s s₁ s₂ : List ℕ) → Shared 16 d (f (parts (suc d) 16 s)) → s₁ ≡ laid (f (parts (suc d) 16 s))
    → s₂ ≡ laid (g (parts (suc d) 16 s₁)) → s₂ ≡ laid (g (f (parts (suc d) 16 s)))
two_steps d f g s s₁ s₂ shape e h = h ∙ ap (λ (p : Shares). laid (g p)) (ap (parts (suc d) 16) e ∙ parts-laid shape)

-- a buffer holds the shares of a state
pub state_shape : (d : ℕ) (s : List ℕ) → length s ≡ suc d * 16 → Shared 16 d (parts (suc d) 16 s)
state_shape d s long = shared-parts d 16 s (omega arith)

pub shifted-shared : (w : Direction) {d : ℕ} {s : Shares} (ts : List ℕ) → Shared 16 d s → Shared 16 d (shifted_of w d s ts)
shifted-shared Forward ts hs = rows-shared ts hs
shifted-shared Inverse ts hs = inv_rows-shared ts hs

-- the four steps are the round
pub round-steps : (w : Direction) (d r : ℕ) (ks s : Shares) (ts : List ℕ) → keyed_of w r ks (shifted_of w d s ts) ≡ round_of w false d r ks s ts
unfolding masked_round masked_inv_round
round-steps Forward d r ks s ts = refl
round-steps Inverse d r ks s ts = refl

-- without MixColumns they are the last
pub last_steps : (w : Direction) (d r : ℕ) (ks s : Shares) (ts : List ℕ) → adds (shifted_of w d s ts) (round_keys ks r) ≡ round_of w true d r ks s ts
unfolding masked_last_round masked_inv_last_round
last_steps Forward d r ks s ts = refl
last_steps Inverse d r ks s ts = refl
