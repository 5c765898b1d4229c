-- Of `encrypt` and `decrypt`, by the outcomes that their contracts name: a call on the shares and the tape of a choice is carried through, and the
-- shares that it puts out stand among the places that the hiding rule counts. Assumes nothing.
use mathlib.Core.Path.{◌≡◌, sym, ap, ap₂, ◌∙◌}
use mathlib.Core.Bool.{true}
use mathlib.Core.List.{List}
use Prim.Native.Nat.{ℕ, suc, ◌*◌, ◌-◌, ◌≤◌}
use native.Mathlib.Omega.{arith}
use lib.ListN.{length, take, drop, length-drop}
use borrow.Author.Tests.{eq-eqb, lt-ltb}
use Rattle.gf256.specs.declared.Direction.{Direction}
use Rattle.gf256.specs.declared.Direction.TheVariants.{Forward, Inverse}
use Rattle.outcomes.specs.declared.Count.{Count}
use Rattle.outcomes.specs.Outcome.{done, took, settled, served, share_length}
use Rattle.outcomes.proofs.OutcomeLaws.{all, ◌and◌, settled-taken, settled-passed, le_reaches}
use Rattle.outcomes.proofs.LengthsLaws.{share_length_16, share_length_24, share_length_32}
use Rattle.tape_words.specs.Words.{bytes_of, words_for}
use Rattle.tape_words.proofs.WordsLaws.{words_reach}
use Rattle.shares.specs.Strings.{Shares, Shared, laid, split, split_need}
use Rattle.shares.specs.Calls.{split_outcome}
use Rattle.shares.proofs.StringsLaws.{laid-length, parts-laid}
use Rattle.shares.proofs.CallsLaws.{split-passed}
use Rattle.cipher.specs.Cipher.{cipher_need, encrypted, encrypted_laid, decrypted, decrypted_laid}
use Rattle.lengths.specs.Lengths.{KeySize, four, six, eight, key_words}
use Rattle.lengths.specs.Previews.{keyed, block_tests}
use Rattle.lengths.proofs.LengthsLaws.{key_words-of, size_bounds}
use Rattle.aes.specs.Calls.{encrypt_outcome, decrypt_outcome}
use Rattle.aes.specs.Directions.{laid_of, single_outcome}
use Rattle.aes.proofs.CallsLaws.{single_is}
use Rattle.probing.specs.CallPlaces.{call_sheet, call_count, made}
use Rattle.probing.specs.Shown.{places_from}
use Rattle.probing.specs.Runs.{Plain, masks_of_two, call_run, split_chosen}
use Rattle.probing.proofs.SplitLaws.{split-shared}
use Rattle.probing.proofs.ShownLaws.{call_shown}

-- ---- on any shares of key and block

laid_of-made : (w : Direction) (nk : ℕ) {d : ℕ} {k x : Shares} (ts : List ℕ) → Shared (4 * nk) d k → Shared 16 d x
    → laid_of w nk d (laid k) (laid x) ts ≡ laid (made w nk d k x ts)
unfolding encrypted_laid decrypted_laid
laid_of-made Forward nk {d} ts hk hx = ap₂ (λ (k x : Shares). laid (encrypted nk d k x ts)) (parts-laid hk) (parts-laid hx)
laid_of-made Inverse nk {d} ts hk hx = ap₂ (λ (k x : Shares). laid (decrypted nk d k x ts)) (parts-laid hk) (parts-laid hx)

module _ (w : Direction) (nk d : ℕ) (order : served d ≡ true) (size : KeySize nk) where
  -- what the call puts out are the last places of its sheet
  pub single_shown : {k x : Shares} (ws o : List ℕ) → Shared (4 * nk) d k → Shared 16 d x → words_for (cipher_need nk d) ≤ length ws
      → length o ≡ suc d * 16
      → single_outcome w d (laid k) (laid x) ws o
      ≡ done (took (words_for (cipher_need nk d)))
      (places_from (call_count w nk d - suc d * 16) (suc d * 16) (call_sheet w nk d k x (bytes_of ws)))
  single_shown {k} {x} ws o hk hx enough room =
      let some : 1 ≤ nk = (size_bounds size).0 in
      let words : key_words d (length (laid k)) ≡ nk = ap (key_words d) (laid-length hk) ∙ key_words-of d size in
      sym (single_is w d (laid k) (laid x) ws o)
      ∙ ap (λ (m : ℕ). settled (keyed d m (block_tests (words_for (cipher_need m d)) d (length (laid x)) (length ws) (length o)))
      (took (words_for (cipher_need m d))) o (laid_of w m d (laid k) (laid x) (bytes_of ws))) words
      ∙ settled-passed _ o _
      (order and lt-ltb 0 nk some and eq-eqb _ _ (laid-length hx) and eq-eqb _ _ room and le_reaches (length ws) _ enough and all)
      ∙ ap (done (took (words_for (cipher_need nk d)))) (laid_of-made w nk (bytes_of ws) hk hx ∙ sym (call_shown w nk (bytes_of ws) some hk hx))

  -- ---- on the shares and the tape of a choice

  pub single_of_choice : (key block ms ws o : List ℕ) → Plain (4 * nk) key → Plain 16 block → masks_of_two d (4 * nk) 16 ≤ length ms
      → words_for (cipher_need nk d) ≤ length ws → length o ≡ suc d * 16
      → single_outcome w d (laid (split d key ms)) (laid (split d block (drop (split_need d (4 * nk)) ms))) ws o
      ≡ done (took (words_for (cipher_need nk d)))
      (places_from ((call_run w nk d).count - suc d * 16) (suc d * 16) ((call_run w nk d).sheet (key, block) ms (bytes_of ws)))
  unfolding masks_of_two
  single_of_choice key block ms ws o pk pb masks enough room =
      let n = split_need d (4 * nk) in
      single_shown ws o (split-shared d (4 * nk) pk ms (omega arith))
      (split-shared d 16 pb (drop n ms) (omega (arith, length-drop n ms))) enough room

  -- ---- where the library splits key and block, on words of their own

  -- a string of a key's length is one that `split` takes
  share_is_key : {nk : ℕ} → KeySize nk → share_length 1 (4 * nk) ≡ 4 * nk
  share_is_key four = share_length_16 1
  share_is_key six = share_length_24 1 (omega arith)
  share_is_key eight = share_length_32 1 (omega arith)

  -- whatever `split` puts out of a string, the shares are those of its tape
  split_carried : (l : ℕ) (xs ts o shares : List ℕ) (c : Count) → Plain l xs → share_length 1 l ≡ l → split_outcome d xs ts o ≡ done c shares
      → (shares ≡ laid (split d xs (bytes_of ts))) × Shared l d (split d xs (bytes_of ts))
  unfolding split_outcome
  split_carried l xs ts o shares c plain fits e =
      let g = settled-taken _ _ o (laid (split d xs (bytes_of ts))) c shares e in
      let t = split-passed d (length xs) (length ts) (length o) g.0 in
      let s : share_length 1 (length xs) ≡ l = ap (share_length 1) plain.long ∙ fits in
      (g.2, split-shared d l plain (bytes_of ts) (words_reach (split_need d l) ts (rw s at t.drawn)))

  -- whatever `split` puts out of the key and of the block, the call on it puts out places of the choice
  pub single_of-split : (k m : ℕ) (key block ws p q keys input o : List ℕ) (c c' : Count) → Plain (4 * nk) key → Plain 16 block
      → split_outcome d key (take k ws) p ≡ done c keys → split_outcome d block (take m (drop k ws)) q ≡ done c' input
      → words_for (cipher_need nk d) ≤ length (drop m (drop k ws)) → length o ≡ suc d * 16
      → single_outcome w d keys input (drop m (drop k ws)) o
      ≡ done (took (words_for (cipher_need nk d)))
      (places_from (call_count w nk d - suc d * 16) (suc d * 16) (split_chosen w nk d k m key block ws))
  unfolding split_chosen
  single_of-split k m key block ws p q keys input o c c' pk pb ek ex enough room =
      let a = split_carried (4 * nk) key (take k ws) p keys c pk (share_is_key size) ek in
      let b = split_carried 16 block (take m (drop k ws)) q input c' pb (share_is_key four) ex in
      ap₂ (λ (ks xs : List ℕ). single_outcome w d ks xs (drop m (drop k ws)) o) a.0 b.0
      ∙ single_shown (drop m (drop k ws)) o a.1 b.1 enough room

-- by their own names

pub encrypt_of_choice : (nk d : ℕ) → served d ≡ true → KeySize nk → (key block ms ws o : List ℕ)
    → Plain (4 * nk) key → Plain 16 block → masks_of_two d (4 * nk) 16 ≤ length ms → words_for (cipher_need nk d) ≤ length ws → length o ≡ suc d * 16
    → encrypt_outcome d (laid (split d key ms)) (laid (split d block (drop (split_need d (4 * nk)) ms))) ws o
    ≡ done (took (words_for (cipher_need nk d)))
    (places_from ((call_run Forward nk d).count - suc d * 16) (suc d * 16) ((call_run Forward nk d).sheet (key, block) ms (bytes_of ws)))
encrypt_of_choice = single_of_choice Forward

pub decrypt_of_choice : (nk d : ℕ) → served d ≡ true → KeySize nk → (key block ms ws o : List ℕ)
    → Plain (4 * nk) key → Plain 16 block → masks_of_two d (4 * nk) 16 ≤ length ms → words_for (cipher_need nk d) ≤ length ws → length o ≡ suc d * 16
    → decrypt_outcome d (laid (split d key ms)) (laid (split d block (drop (split_need d (4 * nk)) ms))) ws o
    ≡ done (took (words_for (cipher_need nk d)))
    (places_from ((call_run Inverse nk d).count - suc d * 16) (suc d * 16) ((call_run Inverse nk d).sheet (key, block) ms (bytes_of ws)))
decrypt_of_choice = single_of_choice Inverse
