-- Steps that draw so many bytes from the front of a tape, and do not heed what is behind them: what a call on words needs to know of the bytes that
-- it unpacks. Assumes nothing.
use mathlib.Core.Path.{◌≡◌, sym, ap, ◌∙◌}
use mathlib.Core.List.{List, ◌++◌}
use Prim.Native.Nat.{ℕ, ◌*◌, ◌≤◌}
use native.Mathlib.Nat.{le_refl}
use lib.ListN.{length, take, drop, take-append-drop}
use native.Mathlib.Omega.{arith}
use lib.Seq.{length-take-le}
use Rattle.xor.specs.Writes.{front}
use Rattle.tape_words.specs.Words.{bytes_of, words_for, SameFront}
use Rattle.tape_words.proofs.WordsLaws.{length-bytes, bytes-append, words_hold, words_least, words_reach}

-- what `unpack` asks for a need n, with a buffer of so many words
pub unpack_fits : (n need room : ℕ) (ws : List ℕ) → n ≡ need → words_for need ≤ length ws → need ≤ 4 * room
    → (words_for n ≤ length ws) × (4 * words_for n ≤ 4 * room)
unpack_fits n need room ws e h l = rw e (h, omega (arith, words_least need room l))

module _ {A : Type 0} (f : (tape : List ℕ) → A) (need : ℕ)
    (surplus : (ts us : List ℕ) → need ≤ length ts → f (ts ++ us) ≡ f ts) where
  -- a front that has their bytes serves as well as the whole tape
  pub front_serves : (n : ℕ) (ts : List ℕ) → need ≤ n → n ≤ length ts → f (take n ts) ≡ f ts
  front_serves n ts h l =
      sym (surplus (take n ts) (drop n ts) (rw (length-take-le n ts l) h)) ∙ ap f (take-append-drop n ts)

  -- two tapes that agree in their bytes give the same
  pub front_decides : (ts us : List ℕ) → need ≤ length ts → need ≤ length us → take need ts ≡ take need us → f ts ≡ f us
  front_decides ts us h l e = sym (front_serves need ts (le_refl need) h) ∙ ap f e ∙ front_serves need us (le_refl need) l

  -- so does what was unpacked for a need n over the front of some room
  pub made_on_words : (n : ℕ) (ws o drawn : List ℕ) (q : A) → n ≡ need → words_for need ≤ length ws
      → drawn ≡ front (take (4 * words_for n) (bytes_of ws)) o → q ≡ f drawn → q ≡ f (bytes_of ws)
  unfolding front
  made_on_words n ws o drawn q e h unpacked made =
      let k = 4 * words_for need in
      let l : k ≤ length (bytes_of ws) = omega (arith, length-bytes ws) in
      made
      ∙ ap f (unpacked ∙ ap (λ (m : ℕ). front (take (4 * words_for m) (bytes_of ws)) o) e)
      ∙ surplus (take k (bytes_of ws)) _ (rw (length-take-le k (bytes_of ws) l) (words_hold need))
      ∙ front_serves k (bytes_of ws) (words_hold need) l

  -- so on words that begin with the same bytes as a tape of bytes, all is as on that tape
  pub same-front-same : (ws ts : List ℕ) → words_for need ≤ length ws → SameFront need ws ts → f (bytes_of ws) ≡ f ts
  same-front-same ws ts h alike = front_decides (bytes_of ws) ts (words_reach need ws h) alike.long alike.same

  -- words behind those that are needed have no effect
  pub words-surplus : (ws us : List ℕ) → words_for need ≤ length ws → f (bytes_of (ws ++ us)) ≡ f (bytes_of ws)
  words-surplus ws us h = ap f (bytes-append ws us) ∙ surplus (bytes_of ws) (bytes_of us) (words_reach need ws h)
