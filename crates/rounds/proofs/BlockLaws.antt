-- A block from round keys: the first round key, and then the rounds. Assumes nothing.
use mathlib.Core.Path.{◌≡◌, ap, ap₂, ◌∙◌}
use mathlib.Core.List.{List}
use Prim.Native.Nat.{ℕ, suc, ◌+◌, ◌*◌, ◌≤◌, ◌<◌}
use native.Mathlib.Nat.{mul-le-mul}
use native.Mathlib.Omega.{arith}
use lib.Dec.{eqb}
use lib.ListN.{length}
use Rattle.gf256.specs.declared.Direction.{Direction}
use Rattle.gf256.specs.declared.Direction.TheVariants.{Forward, Inverse}
use Rattle.shares.specs.Strings.{Shares, Shared, parts, laid}
use Rattle.shares.proofs.StringsLaws.{parts-laid, shared-parts}
use Rattle.sbox.specs.Box.{box_most}
use Rattle.sbox.proofs.BoxLaws.{box_need_bound}
use Rattle.cipher.specs.Fips197.{rounds}
use Rattle.cipher.specs.States.{adds}
use Rattle.cipher.specs.Cipher.{round_keys, round_need, encrypted_with_need}
use Rattle.cipher.specs.Rounds.{round_of, key_of, rounds_of}
use Rattle.cipher.proofs.StatesLaws.{adds-shared}
use Rattle.cipher.proofs.CipherLaws.{round_keys-shared}
use Rattle.cipher.proofs.NeedLaws.{round_need_is}
use Rattle.cipher.proofs.RoundsLaws.{round_of-shared, key_of_bound, block_rounds, block_rounds_forward, block_rounds-inverse, block_rounds_need}
use Rattle.rounds.specs.Directions.{with_of}
use Rattle.rounds.proofs.RoundLaws.{state_shape}

-- ---- the loop

-- round i keeps the shape of the state
pub round_keeps : (w : Direction) (d m nr i : ℕ) (keys : List ℕ) → 16 * nr + 16 ≤ m → length keys ≡ suc d * m → i < suc nr
    → (s : Shares) (ts : List ℕ) → Shared 16 d s → Shared 16 d (round_of w (eqb i nr) d (key_of w nr i) (parts (suc d) m keys) s ts)
round_keeps w d m nr i keys fits keyed h s ts hs =
    let b = key_of_bound w nr i (omega arith) in
    round_of-shared w (eqb i nr) (key_of w nr i) ts (shared-parts d m keys (omega arith)) (omega arith) hs

-- the round with the round key that the code counts
pub round-made : (w : Direction) (d m nr i r : ℕ) (keys tape s s' : List ℕ) → r ≡ key_of w nr i
    → s' ≡ laid (round_of w (eqb i nr) d r (parts (suc d) m keys) (parts (suc d) 16 s) tape)
    → s' ≡ laid (round_of w (eqb i nr) d (key_of w nr i) (parts (suc d) m keys) (parts (suc d) 16 s) tape)
round-made w d m nr i r keys tape s s' er e =
    e ∙ ap (λ (n : ℕ). laid (round_of w (eqb i nr) d n (parts (suc d) m keys) (parts (suc d) 16 s) tape)) er

-- ---- the whole

-- so many bytes can be counted
pub rounds_bound : (nr d : ℕ) → nr ≤ 14 → d ≤ 8 → nr * round_need d ≤ 14 * (16 * box_most)
rounds_bound nr d h g =
    let n : round_need d ≤ 16 * box_most = omega (arith, round_need_is d, box_need_bound d g) in
    mul-le-mul h n

-- the keys' length, as the code counts it
pub keys_length : (nk d n : ℕ) → n ≡ suc d * (16 * suc (rounds nk)) → n ≡ suc d * (16 * (nk + 6 + 1))
unfolding rounds
keys_length nk d n e =
    let w : 16 * suc (rounds nk) ≡ 16 * (nk + 6 + 1) = omega arith in
    e ∙ ap (λ (l : ℕ). suc d * l) w

pub rounds_need-of : (nk d : ℕ) → (nk + 6) * round_need d ≡ encrypted_with_need nk d
unfolding rounds
rounds_need-of nk d = block_rounds_need nk d

-- a block from round keys, as the two definitions have it
block_with : (w : Direction) (nk d : ℕ) (ks s : Shares) (ts : List ℕ) → block_rounds w nk d ks s ts ≡ with_of w nk d ks s ts
block_with Forward nk d ks s ts = block_rounds_forward nk d ks s ts
block_with Inverse nk d ks s ts = block_rounds-inverse nk d ks s ts

-- from the calls that make it: the input copied, the first round key added, the rounds
pub with_made : (w : Direction) (nk d r : ℕ) (keys input tape s s₁ s₂ : List ℕ) → length keys ≡ suc d * (16 * suc (rounds nk))
    → length input ≡ suc d * 16 → r ≡ key_of w (nk + 6) 0 → r ≤ nk + 6
    → s ≡ input
    → s₁ ≡ laid (adds (parts (suc d) 16 s) (round_keys (parts (suc d) (16 * (nk + 6 + 1)) keys) r))
    → s₂ ≡ laid (rounds_of w (nk + 6) (nk + 6) 1 d (parts (suc d) (16 * (nk + 6 + 1)) keys) (parts (suc d) 16 s₁) tape)
    → s₂ ≡ laid (with_of w nk d (parts (suc d) (16 * suc (rounds nk)) keys) (parts (suc d) 16 input) tape)
unfolding rounds
with_made w nk d r keys input tape s s₁ s₂ keyed long er ur copied added run =
    let m = 16 * suc (nk + 6) in
    let e : 16 * (nk + 6 + 1) ≡ m = omega arith in
    let ks = parts (suc d) m keys in
    let x = parts (suc d) 16 input in
    let shape = adds-shared (state_shape d input long) (round_keys-shared r (omega arith) (shared-parts d m keys (omega arith))) in
    let first : s₁ ≡ laid (adds x (round_keys ks r)) =
    added ∙ ap₂ (λ (n : ℕ) (y : List ℕ). laid (adds (parts (suc d) 16 y) (round_keys (parts (suc d) n keys) r))) e copied
    in
    run
    ∙ ap₂ (λ (n : ℕ) (p : Shares). laid (rounds_of w (nk + 6) (nk + 6) 1 d (parts (suc d) n keys) p tape)) e
    (ap (parts (suc d) 16) first ∙ parts-laid shape)
    ∙ ap (λ (n : ℕ). laid (rounds_of w (nk + 6) (nk + 6) 1 d ks (adds x (round_keys ks n)) tape)) er
    ∙ ap laid (block_with w nk d ks x tape)
