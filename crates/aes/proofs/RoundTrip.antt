-- ENCRYPTION AND BACK: decrypting what was encrypted, under shares of the same key, joins to the first block: at one order, or at two, with the
-- ciphertext joined and split again between. About the outcomes that the contracts name. Document 02, wish 2, decides. Assumes nothing.
use mathlib.Core.Path.{◌≡◌, refl, sym, ap, ap₂, ◌∙◌, subst}
use mathlib.Core.List.{List}
use Prim.Native.Nat.{ℕ, suc, ◌*◌, ◌≤◌, ◌<◌}
use native.Mathlib.Omega.{arith}
use borrow.Author.Tests.{eq-eqb, lt-ltb}
use lib.ListN.{length}
use Rattle.xor.specs.Lists.{Below}
use Rattle.gf256.specs.declared.Direction.TheVariants.{Forward}
use Rattle.outcomes.specs.declared.Count.{Count}
use Rattle.outcomes.specs.Outcome.{done, took, share_length}
use Rattle.shares.specs.Strings.{joined_string, parts, split_need}
use Rattle.shares.specs.Calls.{split_outcome, join_outcome}
use Rattle.outcomes.proofs.OutcomeLaws.{all, ◌and◌, settled-taken, settled-passed, le_reaches}
use Rattle.outcomes.proofs.LengthsLaws.{share_length_16}
use Rattle.shares.proofs.CallsLaws.{split-passed}
use Rattle.shares.proofs.StringsLaws.{shares_of, length-joined}
use Rattle.shares.proofs.RoundTrip.{split-laid_joins}
use Rattle.tape_words.specs.Words.{bytes_of, words_for}
use Rattle.tape_words.proofs.WordsLaws.{words_reach}
use Rattle.cipher.specs.Fips197.{inv_cipher}
use Rattle.cipher.specs.Cipher.{cipher_need, decrypted_laid}
use Rattle.cipher.proofs.InverseCipherLaws.{inv_cipher_undoes, joined-parts_below}
use Rattle.lengths.specs.Lengths.{key_words}
use Rattle.aes.specs.Calls.{encrypt_outcome, decrypt_outcome}
use Rattle.lengths.proofs.LengthsLaws.{key_length}
use Rattle.aes.proofs.CallAccuracy.{key_joined, Carried, single_carried, decrypt_then_join}

-- key shares at orders d and e of the same key: as many words, and they join to the same bytes
pub record SameKey (d e : ℕ) (k k' : List ℕ) : Type 0 where
  pub words : key_words e (length k') ≡ key_words d (length k)
  pub bytes : key_joined e k' ≡ key_joined d k

-- d + 1 shares of l bytes join to l bytes
joined-long : (d l : ℕ) (bs : List ℕ) → length bs ≡ suc d * l → length (joined_string (parts (suc d) l bs)) ≡ l
joined-long d l bs h = length-joined (shares_of d l bs h)

module _ (d : ℕ) (j : Count) (k x ts o c : List ℕ) (key_bytes : Below 256 k) (input_bytes : Below 256 x)
    (carried : encrypt_outcome d k x ts o ≡ done j c) where
  -- the call that encrypted
  went : Carried Forward d j k x c
  went = single_carried Forward d j k x ts o c carried

  -- any shares y, at any order, of the ciphertext
  decrypts : (e : ℕ) (i : Count) (k' y ts' o' p q : List ℕ) → SameKey d e k k'
      → joined_string (parts (suc e) 16 y) ≡ joined_string (parts (suc d) 16 c)
      → decrypt_outcome e k' y ts' o' ≡ done i p → length q ≡ 16 → join_outcome e p q ≡ done (took 0) (joined_string (parts (suc d) 16 x))
  decrypts e i k' y ts' o' p q same of-block back long =
      let nk = key_words d (length k) in
      let key = key_joined d k in
      let block = joined_string (parts (suc d) 16 x) in
      decrypt_then_join e i k' y ts' o' p q back long
      ∙ ap (λ (n : ℕ). done (took 0) (inv_cipher n (key_joined e k') (joined_string (parts (suc e) 16 y)))) same.words
      ∙ ap (done (took 0))
      (ap₂ (inv_cipher nk) same.bytes (of-block ∙ went.joins)
      ∙ inv_cipher_undoes nk key block went.some
      (joined-long d (4 * nk) k (key_length d (length k) went.some))
      (joined-parts_below (suc d) (4 * nk) key_bytes)
      (joined-long d 16 x went.input_long)
      (joined-parts_below (suc d) 16 input_bytes))

  -- at one order the decryption is carried through, on as much tape as the encryption took
  pub decrypt_carried : (k' ts' o' : List ℕ) → SameKey d d k k' → j.taken ≤ length ts' → length o' ≡ suc d * 16
      → decrypt_outcome d k' c ts' o' ≡ done j (decrypted_laid (key_words d (length k')) d k' c (bytes_of ts'))
  unfolding decrypt_outcome
  decrypt_carried k' ts' o' same h long =
      let nk = key_words d (length k') in
      let made = decrypted_laid nk d k' c (bytes_of ts') in
      let some : 0 < nk = subst (λ (n : ℕ). 0 < n) (sym same.words) went.some in
      let need : took (words_for (cipher_need nk d)) ≡ j = ap (λ (n : ℕ). took (words_for (cipher_need n d))) same.words ∙ sym went.counted in
      let count : words_for (cipher_need nk d) ≡ j.taken = ap (λ (c : Count). c.taken) need in
      settled-passed _ o' made
      (went.is_served and lt-ltb 0 nk some and eq-eqb (length c) (suc d * 16) went.long and eq-eqb (length o') (suc d * 16) long
      and le_reaches (length ts') (words_for (cipher_need nk d)) (omega (arith, count)) and all)
      ∙ ap (λ (n : Count). done n made) need

  -- and what it puts out joins to the block
  pub encrypt_then_decrypt : (i : Count) (k' ts' o' p q : List ℕ) → SameKey d d k k' → decrypt_outcome d k' c ts' o' ≡ done i p → length q ≡ 16
      → join_outcome d p q ≡ done (took 0) (joined_string (parts (suc d) 16 x))
  encrypt_then_decrypt i k' ts' o' p q same back long = decrypts d i k' c ts' o' p q same refl back long

  -- the ciphertext, joined
  joined_block : (n : Count) (b block : List ℕ) → join_outcome d c b ≡ done n block → block ≡ joined_string (parts (suc d) 16 c)
  unfolding join_outcome
  joined_block n b block e =
      let g = settled-taken _ _ b _ n block e in
      g.2 ∙ ap (λ (l : ℕ). joined_string (parts (suc d) l c)) (ap (share_length (suc d)) went.long ∙ share_length_16 (suc d))

  -- at two orders, with the ciphertext joined and split again between
  pub encrypt_join_split_decrypt : (e : ℕ) (n m i : Count) (b block rs o'' y k' ts' o' p q : List ℕ) → join_outcome d c b ≡ done n block
      → split_outcome e block rs o'' ≡ done m y → SameKey d e k k' → decrypt_outcome e k' y ts' o' ≡ done i p → length q ≡ 16
      → join_outcome e p q ≡ done (took 0) (joined_string (parts (suc d) 16 x))
  unfolding split_outcome
  encrypt_join_split_decrypt e n m i b block rs o'' y k' ts' o' p q joins splits same back long =
      let whole = joined_block n b block joins in
      let sized : length block ≡ 16 = ap length whole ∙ joined-long d 16 c went.long in
      let g = settled-taken _ _ o'' _ m y splits in
      let t = split-passed e (length block) (length rs) (length o'') g.0 in
      let one : share_length 1 (length block) ≡ length block = ap (share_length 1) sized ∙ share_length_16 1 ∙ sym sized in
      let us = bytes_of rs in
      let enough : split_need e (length block) ≤ length us = subst (λ (l : ℕ). split_need e l ≤ length us) one (words_reach _ rs t.drawn) in
      let again : joined_string (parts (suc e) 16 y) ≡ block =
      ap₂ (λ (l : ℕ) (s : List ℕ). joined_string (parts (suc e) l s)) (sym sized) g.2 ∙ split-laid_joins e block us enough in
      decrypts e i k' y ts' o' p q same (again ∙ whole) back long
