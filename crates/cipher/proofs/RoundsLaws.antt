-- The rounds counted from 1 up, in either direction, are those of encryption and of decryption; the shape of a round. Assumes nothing.
use mathlib.Core.Path.{◌≡◌, refl, sym, ap, ap₂, ◌∙◌, subst}
use mathlib.Core.Bool.{Bool, true, false}
use mathlib.Core.List.{List}
use Prim.Native.Nat.{ℕ, zero, suc, ◌+◌, ◌*◌, ◌-◌, ◌≤◌}
use native.Mathlib.Omega.{arith}
use borrow.Author.Tests.{eq-eqb, ne_eqb}
use lib.Dec.{eqb}
use lib.ListN.{drop}
use Rattle.gf256.specs.declared.Direction.{Direction}
use Rattle.gf256.specs.declared.Direction.TheVariants.{Forward, Inverse}
use Rattle.shares.specs.Strings.{Shares, Shared}
use Rattle.cipher.specs.Fips197.{rounds}
use Rattle.cipher.specs.States.{adds}
use Rattle.cipher.specs.Cipher.{round_keys, round_need, masked_round, masked_rounds, encrypted_with, encrypted_with_need, masked_inv_round}
use Rattle.cipher.specs.Cipher.{masked_inv_rounds, decrypted_with}
use Rattle.cipher.specs.Rounds.{round_of, key_of, rounds_of}
use Rattle.cipher.proofs.StatesLaws.{adds-shared}
use Rattle.cipher.proofs.DrawingLaws.{left_keeps}
use Rattle.cipher.proofs.DrawingLoops.{round_loop, rounds-whole}
use Rattle.cipher.proofs.CipherLaws.{round_keys-shared, round-shared, last_round-shared, inv_round-shared, inv_last_round-shared}
use Rattle.cipher.proofs.NeedLaws.{round_need_is, encrypted_with_need_is}

-- ---- one round

pub round_of-shared : (w : Direction) (last : Bool) {l d : ℕ} {ks s : Shares} (r : ℕ) (ts : List ℕ) → Shared l d ks → 16 * r + 16 ≤ l → Shared 16 d s
    → Shared 16 d (round_of w last d r ks s ts)
round_of-shared Forward false r ts keys h hs = round-shared keys r ts h hs
round_of-shared Forward true r ts keys h hs = last_round-shared keys r ts h hs
round_of-shared Inverse false r ts keys h hs = inv_round-shared keys r ts h hs
round_of-shared Inverse true r ts keys h hs = inv_last_round-shared keys r ts h hs

-- its round key is one of the first to the last
pub key_of_bound : (w : Direction) (nr i : ℕ) → i ≤ nr → key_of w nr i ≤ nr
key_of_bound Forward nr i h = h
key_of_bound Inverse nr i h = omega arith

-- ---- all rounds

-- their shape
rounds_of-shared : (w : Direction) (nr : ℕ) {l d : ℕ} {ks s : Shares} (ts : List ℕ) → Shared l d ks → 16 * nr + 16 ≤ l → Shared 16 d s
    → Shared 16 d (rounds_of w nr nr 1 d ks s ts)
unfolding round_loop
rounds_of-shared w nr {d = d} {ks = ks} {s = s} ts keys h hs =
    subst (Shared 16 d) (rounds-whole w d nr ks s ts)
    (left_keeps (round_loop w d nr ks) (λ i s. Shared 16 d s)
    (λ i u s ts hs. round_of-shared w (eqb i nr) (key_of w nr i) ts keys (let b = key_of_bound w nr i (omega arith) in omega arith) hs)
    1 (omega arith) s ts hs)

rounds_forward : (nr left i d : ℕ) (ks s : Shares) (ts : List ℕ) → i + left ≡ nr
    → rounds_of Forward nr (suc left) i d ks s ts ≡ masked_rounds left i d ks s ts
unfolding rounds_of masked_rounds
rounds_forward nr zero i d ks s ts e = rw (eq-eqb i nr (omega arith)) refl
rounds_forward nr (suc left) i d ks s ts e =
    rw (ne_eqb i nr (λ q. omega arith)) (rounds_forward nr left (suc i) d ks (masked_round d i ks s ts) (drop (round_need d) ts) (omega arith))

rounds-inverse : (nr left i d : ℕ) (ks s : Shares) (ts : List ℕ) → i + left ≡ nr
    → rounds_of Inverse nr (suc left) i d ks s ts ≡ masked_inv_rounds left d ks s ts
unfolding rounds_of masked_inv_rounds
rounds-inverse nr zero i d ks s ts e =
    let r : nr - i ≡ 0 = omega arith in
    rw (eq-eqb i nr (omega arith)) (ap (λ (k : ℕ). round_of Inverse true d k ks s ts) r)
rounds-inverse nr (suc left) i d ks s ts e =
    let r : nr - i ≡ suc left = omega arith in
    let next = masked_inv_round d (suc left) ks s ts in
    rw (ne_eqb i nr (λ q. omega arith), r) (rounds-inverse nr left (suc i) d ks next (drop (round_need d) ts) (omega arith))

-- the rounds of a block, as the loop counts them
abbrev pub block_rounds : Direction → (nk d : ℕ) → (keys input : Shares) → (tape : List ℕ) → Shares
block_rounds w nk d ks x ts = rounds_of w (rounds nk) (rounds nk) 1 d ks (adds x (round_keys ks (key_of w (rounds nk) 0))) ts

pub block_rounds_forward : (nk d : ℕ) (ks x : Shares) (ts : List ℕ) → block_rounds Forward nk d ks x ts ≡ encrypted_with nk d ks x ts
unfolding encrypted_with rounds
block_rounds_forward nk d ks x ts =
    let e : nk + 6 ≡ suc (nk + 6 - 1) = omega arith in
    ap (λ (n : ℕ). rounds_of Forward (nk + 6) n 1 d ks (adds x (round_keys ks 0)) ts) e
    ∙ rounds_forward (nk + 6) (nk + 6 - 1) 1 d ks (adds x (round_keys ks 0)) ts (omega arith)

pub block_rounds-inverse : (nk d : ℕ) (ks x : Shares) (ts : List ℕ) → block_rounds Inverse nk d ks x ts ≡ decrypted_with nk d ks x ts
unfolding decrypted_with rounds
block_rounds-inverse nk d ks x ts =
    let e : nk + 6 ≡ suc (nk + 6 - 1) = omega arith in
    let f : nk + 6 - 0 ≡ nk + 6 = omega arith in
    ap₂ (λ (n r : ℕ). rounds_of Inverse (nk + 6) n 1 d ks (adds x (round_keys ks r)) ts) e f
    ∙ rounds-inverse (nk + 6) (nk + 6 - 1) 1 d ks (adds x (round_keys ks (nk + 6))) ts (omega arith)

-- how many bytes they draw
pub block_rounds_need : (nk d : ℕ) → rounds nk * round_need d ≡ encrypted_with_need nk d
block_rounds_need nk d = ap (λ (n : ℕ). rounds nk * n) (round_need_is d) ∙ sym (encrypted_with_need_is nk d)

pub block_rounds-shared : (w : Direction) (nk : ℕ) {l d : ℕ} {ks x : Shares} (ts : List ℕ) → 16 * suc (rounds nk) ≤ l → Shared l d ks → Shared 16 d x
    → Shared 16 d (block_rounds w nk d ks x ts)
block_rounds-shared w nk ts h keys hx =
    let r = key_of w (rounds nk) 0 in
    let b = key_of_bound w (rounds nk) 0 (omega arith) in
    rounds_of-shared w (rounds nk) ts keys (omega arith) (adds-shared hx (round_keys-shared r (omega arith) keys))
