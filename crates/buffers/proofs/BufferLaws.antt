-- A loop whose steps draw, on a string in shares that stands in a buffer, share after share: `DrawingLaws` of cipher, with the buffer's length.
-- Assumes nothing.
use mathlib.Core.Path.{◌≡◌, sym, ap, ◌∙◌, subst}
use mathlib.Core.List.{List}
use Prim.Native.Nat.{ℕ, suc, ◌+◌, ◌*◌, ◌-◌, ◌≤◌, ◌<◌}
use native.Mathlib.Omega.{arith}
use lib.ListN.{length, take, drop}
use Rattle.tape_words.specs.Words.{bytes_of}
use Rattle.tape_words.proofs.WordsLaws.{bytes-part}
use Rattle.shares.specs.Strings.{Shares, Shared, parts, laid}
use Rattle.shares.proofs.StringsLaws.{laid-length, parts-laid, shared-parts}
use Rattle.cipher.proofs.DrawingLaws.{Loop, Drawing, drawing_start, drawing_room, drawing_more, drawing_taken, drawing_done}
use Rattle.buffers.proofs.PartLaws.{laid-parts-all}

module _ {n : ℕ} (loop : Loop Shares n) (start d l : ℕ) (tape s₀ : List ℕ) where
  -- before step m, with `taken` bytes drawn and the string at s
  pub record Buffered (m taken : ℕ) (s : List ℕ) : Type 0 where
    pub drawing : Drawing loop start (parts (suc d) l s₀) tape m taken (parts (suc d) l s)
    pub long : length s ≡ suc d * l

  pub buffered_start : length s₀ ≡ suc d * l → Buffered start 0 s₀
  buffered_start h = record { drawing = drawing_start loop start (parts (suc d) l s₀) tape; long = h }

module _ {n : ℕ} {loop : Loop Shares n} {start d l : ℕ} {tape s₀ : List ℕ} {m taken : ℕ} {s : List ℕ}
    (so_far : Buffered loop start d l tape s₀ m taken s) where
  pub buffered_room : m < n → taken + loop.cost m ≤ loop.need start
  buffered_room u = drawing_room so_far.drawing u

  -- a step that keeps the shape, on the part of the tape that its callee got
  pub buffered_more : (q : ℕ) (s' : List ℕ) → m < n → ((ss : Shares) (ts : List ℕ) → Shared l d ss → Shared l d (loop.step m ss ts))
      → q ≡ loop.cost m → s' ≡ laid (loop.step m (parts (suc d) l s) (take (length tape - taken) (drop taken tape)))
      → Buffered loop start d l tape s₀ (m + 1) (taken + q) s'
  buffered_more q s' u keeps eq e =
      let ss = parts (suc d) l s in
      let part = take (length tape - taken) (drop taken tape) in
      let shape = keeps ss part (shared-parts d l s (omega (arith, so_far.long))) in
      let back : parts (suc d) l s' ≡ loop.step m ss part = ap (parts (suc d) l) e ∙ parts-laid shape in
      record {
        drawing = drawing_more so_far.drawing q (parts (suc d) l s') u eq back;
        long = ap length e ∙ laid-length shape;
      }

  pub buffered_taken : m ≡ n → taken ≡ loop.need start
  buffered_taken e = drawing_taken so_far.drawing e

  pub buffered_done : m ≡ n → s ≡ laid (loop.left start (parts (suc d) l s₀) tape)
  buffered_done e = sym (laid-parts-all (suc d) l s so_far.long) ∙ ap laid (drawing_done so_far.drawing e)

-- ---- the same on a tape of words

module _ {n : ℕ} {loop : Loop Shares n} {start d l : ℕ} {s₀ : List ℕ} {m : ℕ} {s : List ℕ} (words : List ℕ) (taken : ℕ)
    (so_far : Buffered loop start d l (bytes_of words) s₀ m (4 * taken) s) where
  -- a step that keeps the shape and draws whole words, on the part of them that its callee got
  pub buffered_words : (q : ℕ) (s' : List ℕ) → m < n → ((ss : Shares) (ts : List ℕ) → Shared l d ss → Shared l d (loop.step m ss ts))
      → 4 * q ≡ loop.cost m → s' ≡ laid (loop.step m (parts (suc d) l s) (bytes_of (take (length words - taken) (drop taken words))))
      → Buffered loop start d l (bytes_of words) s₀ (m + 1) (4 * (taken + q)) s'
  buffered_words q s' u keeps eq e =
      let sum : 4 * taken + 4 * q ≡ 4 * (taken + q) = omega arith in
      subst (λ (k : ℕ). Buffered loop start d l (bytes_of words) s₀ (m + 1) k s') sum
      (buffered_more so_far (4 * q) s' u keeps eq (e ∙ ap (λ (ts : List ℕ). laid (loop.step m (parts (suc d) l s) ts)) (bytes-part taken words)))
