-- The key copied to the front of each share of the buffer, and the whole: the buffer of all words is the round keys. Assumes nothing.
use mathlib.Core.Path.{◌≡◌, refl, sym, ap, ap₂, ◌∙◌}
use mathlib.Core.List.{List, [], ◌∷◌, map}
use Prim.Native.Nat.{ℕ, zero, suc, ◌+◌, ◌*◌, ◌-◌, ◌≤◌, ◌<◌}
use native.Mathlib.Nat.{suc-mul, zero-mul}
use native.Mathlib.Omega.{arith}
use lib.ListN.{length, take, drop}
use lib.Seq.{drop-drop, take_at, take_all}
use Rattle.shares.specs.Strings.{Shares, Shared, alone, more, parts, laid}
use Rattle.xor.specs.Writes.{front}
use Rattle.shares.proofs.StringsLaws.{shared-parts, parts-laid}
use Rattle.xor.proofs.WriteLaws.{length_front}
use Rattle.cipher.specs.Fips197.{rounds, total_words}
use Rattle.cipher.specs.States.{each_by}
use Rattle.cipher.specs.Cipher.{schedule_from, schedule_from_need, schedule, schedule_need}
use Rattle.buffers.proofs.PartLaws.{laid-parts-all}
use Rattle.buffers.proofs.SecondLaws.{share_long}
use Rattle.schedule.specs.Stored.{written}
use Rattle.schedule.proofs.WrittenLaws.{each_by-shared}

-- ---- the key copied into the buffer

-- share i of the key over the front of share i of the buffer
abbrev pub with_share : (l : ℕ) (key : List ℕ) → ℕ → List ℕ → List ℕ
with_share l key i p = front (take l (drop (i * l) key)) p

module _ (l m n : ℕ) (key : List ℕ) (fits : l ≤ m) (key_long : length key ≡ n * l) where
  pub with_share_length : (i : ℕ) → i < n → (p : List ℕ) → length p ≡ m → length (with_share l key i p) ≡ m
  with_share_length i u p e =
      let h = share_long l i n key u key_long in
      length_front (take l (drop (i * l) key)) p (omega arith) ∙ e

  with_share_front : (i : ℕ) → i < n → (p : List ℕ) → take l (with_share l key i p) ≡ take l (drop (i * l) key)
  unfolding front
  with_share_front i u p = take_at (take l (drop (i * l) key)) (drop (length (take l (drop (i * l) key))) p) l (share_long l i n key u key_long)

  fronts : (c j : ℕ) (keys : List ℕ) → j + c ≤ n → map (take l) (each_by (with_share l key) j (parts c m keys)) ≡ parts c l (drop (j * l) key)
  unfolding each_by parts
  fronts zero j keys h = refl
  fronts (suc c) j keys h =
      let e : j * l + l ≡ suc j * l = omega (arith, suc-mul j l) in
      ap₂ ◌∷◌ (with_share_front j (omega arith) (take m keys))
      (fronts c (suc j) (drop m keys) (omega arith) ∙ ap (parts c l) (sym (drop-drop l (j * l) key ∙ ap (λ (x : ℕ). drop x key) e)))

pub key_copied : (d l m : ℕ) (key keys₀ keys : List ℕ) → l ≤ m → length key ≡ suc d * l → length keys₀ ≡ suc d * m
    → keys ≡ laid (each_by (with_share l key) 0 (parts (suc d) m keys₀)) → map (take l) (parts (suc d) m keys) ≡ parts (suc d) l key
key_copied d l m key keys₀ keys fits key_long keys-long e =
    let shape = each_by-shared (with_share l key) m (suc d) (with_share_length l m (suc d) key fits key_long) d 0 keys₀ (omega arith) (omega arith) in
    ap (map (take l)) (ap (parts (suc d) m) e ∙ parts-laid shape)
    ∙ fronts l m (suc d) key fits key_long (suc d) 0 keys₀ (omega arith) ∙ ap (λ (x : ℕ). parts (suc d) l (drop x key)) (zero-mul l)

-- ---- the whole

map-take : {m d : ℕ} {ss : Shares} → Shared m d ss → map (take m) ss ≡ ss
map-take {m} (alone {s = s} h) = ap (λ (x : List ℕ). x ∷ []) (take_all m s (omega arith))
map-take {m} (more {s = s} h hs) = ap₂ ◌∷◌ (take_all m s (omega arith)) (map-take hs)

total_is : (nk : ℕ) → 4 * (nk + 7) ≡ total_words nk
unfolding total_words rounds
total_is nk = omega arith

bytes_is : (nk : ℕ) → 4 * (4 * (nk + 7)) ≡ 16 * suc (rounds nk)
unfolding rounds
bytes_is nk = omega arith

pub long_is : (nk d n : ℕ) → n ≡ suc d * (16 * suc (rounds nk)) → n ≡ suc d * (4 * (4 * (nk + 7)))
long_is nk d n e = e ∙ ap (λ (l : ℕ). suc d * l) (sym (bytes_is nk))

pub need_is : (nk d : ℕ) → schedule_from_need (4 * (nk + 7) - nk) nk nk d ≡ schedule_need nk d
unfolding schedule_need
need_is nk d = ap (λ (x : ℕ). schedule_from_need (x - nk) nk nk d) (total_is nk)

pub expanded_is : (nk d total : ℕ) (key tape keys₁ keys₂ : List ℕ) → total ≡ 4 * (nk + 7) → length keys₂ ≡ suc d * (4 * total)
    → written d total nk keys₁ ≡ parts (suc d) (4 * nk) key
    → written d total total keys₂ ≡ schedule_from (total - nk) nk nk d (written d total nk keys₁) tape
    → keys₂ ≡ laid (schedule nk d (parts (suc d) (4 * nk) key) tape)
unfolding schedule
expanded_is nk d total key tape keys₁ keys₂ q h e₁ e₂ =
    sym (laid-parts-all (suc d) (4 * total) keys₂ h)
    ∙ ap laid
    (sym (map-take (shared-parts d (4 * total) keys₂ (omega arith))) ∙ e₂
    ∙ ap₂ (λ (x : ℕ) (p : Shares). schedule_from (x - nk) nk nk d p tape) (q ∙ total_is nk) e₁)
