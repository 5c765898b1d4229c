-- THE ACCURACY RULE (demand 2) about the outcomes that the contracts name, by either route and in either direction: joining what a call puts out
-- gives FIPS 197's ciphertext, plaintext or round keys, and preparing before encrypting is the single call. Assumes nothing.
use mathlib.Core.Path.{◌≡◌, refl, sym, ap, ap₂, ◌∙◌}
use mathlib.Core.Bool.{Bool, true, false, not, cond}
use mathlib.Core.List.{List}
use Prim.Native.Nat.{ℕ, suc, ◌+◌, ◌*◌, ◌-◌, ◌≤◌, ◌<◌}
use native.Mathlib.Omega.{arith}
use lib.Dec.{ltb, eqb}
use lib.ListN.{length, drop, length-drop}
use borrow.Author.Tests.{eq-eqb, ltb-true, ltb-false, lt-ltb, le-ltb}
use Rattle.gf256.specs.declared.Direction.{Direction}
use Rattle.gf256.specs.declared.Direction.TheVariants.{Forward, Inverse}
use Rattle.outcomes.specs.declared.Refusal.TheVariants.{Order, Key, Input, Output, Tape}
use Rattle.outcomes.specs.declared.Count.{Count}
use Rattle.std.specs.Prelude.{Ok, Err}
use Rattle.outcomes.specs.Outcome.{done, took, answered, ended, settled, served, reaches, share_length}
use Rattle.shares.specs.Strings.{joined_string, parts}
use Rattle.shares.specs.Calls.{join_outcome, unused}
use Rattle.outcomes.proofs.OutcomeLaws.{all, ◌and◌, first_passed, settled-taken, settled-passed, le_reaches}
use Rattle.outcomes.proofs.LengthsLaws.{share_length_16}
use Rattle.shares.proofs.StringsLaws.{shares_of, laid-length}
use Rattle.tape_words.specs.Words.{bytes_of, words_for}
use Rattle.tape_words.proofs.WordsLaws.{bytes_drop, words-add}
use Rattle.cipher.specs.Fips197.{rounds, key_expansion, cipher_with, cipher, inv_cipher}
use Rattle.cipher.specs.Cipher.{schedule_need, prepared_laid, encrypted_with_need, encrypted_with_laid, cipher_need, encrypted_laid, decrypted_laid}
use Rattle.cipher.proofs.Accuracy.{schedule-shared, encrypted_with-shared, encrypted-shared, decrypted-shared, prepared_joins_laid}
use Rattle.cipher.proofs.Accuracy.{encrypted_with_joins_laid, cipher_joins_laid, inv_cipher_joins_laid, encrypted_from_prepared}
use Rattle.cipher.proofs.NeedLaws.{schedule-whole}
use Rattle.lengths.specs.Previews.{keyed, block_tests}
use Rattle.lengths.proofs.PreviewsLaws.{block_passed, preparation_passed}
use Rattle.lengths.specs.Lengths.{key_words, prepared_length, prepared_words}
use Rattle.aes.specs.Calls.{encrypt_outcome, decrypt_outcome, prepare_outcome, encrypt_prepared_outcome, after}
use Rattle.aes.specs.Directions.{laid_of, cipher_of, single_outcome}
use Rattle.lengths.proofs.LengthsLaws.{key_sized, key_length, prepared_long, prepared_words-of}
use Rattle.aes.proofs.CallsLaws.{single_is}

-- ---- lengths

length_prepared : (nk d : ℕ) (k ts : List ℕ) → 1 ≤ nk → length k ≡ suc d * (4 * nk) → length (prepared_laid nk d k ts) ≡ prepared_length nk d
unfolding prepared_laid prepared_length
length_prepared nk d k ts h lk = laid-length (schedule-shared nk ts h (shares_of d (4 * nk) k lk))

length-encrypted_with : (nk d : ℕ) (ks x ts : List ℕ) → length ks ≡ suc d * (16 * suc (rounds nk)) → length x ≡ suc d * 16
    → length (encrypted_with_laid nk d ks x ts) ≡ suc d * 16
unfolding encrypted_with_laid
length-encrypted_with nk d ks x ts lk lx =
    laid-length (encrypted_with-shared nk ts (omega arith) (shares_of d (16 * suc (rounds nk)) ks lk) (shares_of d 16 x lx))

-- shares of a block are joined
join_block : (d : ℕ) (shares p : List ℕ) → served d ≡ true → length shares ≡ suc d * 16 → length p ≡ 16
    → join_outcome d shares p ≡ done (took 0) (joined_string (parts (suc d) 16 shares))
unfolding join_outcome
join_block d shares p u long h =
    let l : share_length (suc d) (length shares) ≡ 16 = ap (share_length (suc d)) long ∙ share_length_16 (suc d) in
    rw l (settled-passed (took 0) p (joined_string (parts (suc d) 16 shares)) (u and refl and eq-eqb (length p) 16 h and all))

-- ---- a single call

-- how long a block is that either call makes, and what it joins to
length-laid_of : (w : Direction) (nk d : ℕ) (k x ts : List ℕ) → 1 ≤ nk → length k ≡ suc d * (4 * nk) → length x ≡ suc d * 16
    → length (laid_of w nk d k x ts) ≡ suc d * 16
unfolding encrypted_laid decrypted_laid
length-laid_of Forward nk d k x ts h lk lx = laid-length (encrypted-shared nk ts h (shares_of d (4 * nk) k lk) (shares_of d 16 x lx))
length-laid_of Inverse nk d k x ts h lk lx = laid-length (decrypted-shared nk ts h (shares_of d (4 * nk) k lk) (shares_of d 16 x lx))

laid_of_joins : (w : Direction) (nk d : ℕ) (k x ts : List ℕ) → 1 ≤ nk → length k ≡ suc d * (4 * nk) → length x ≡ suc d * 16
    → joined_string (parts (suc d) 16 (laid_of w nk d k x ts))
    ≡ cipher_of w nk (joined_string (parts (suc d) (4 * nk) k)) (joined_string (parts (suc d) 16 x))
laid_of_joins Forward = cipher_joins_laid
laid_of_joins Inverse = inv_cipher_joins_laid

-- the key that key shares join to
abbrev pub key_joined : (d : ℕ) (k : List ℕ) → List ℕ
key_joined d k = joined_string (parts (suc d) (4 * key_words d (length k)) k)

-- what is known of a single call that was carried through
pub record Carried (w : Direction) (d : ℕ) (j : Count) (k x shares : List ℕ) : Type 0 where
  pub is_served : served d ≡ true
  pub some : 0 < key_words d (length k)
  pub input_long : length x ≡ suc d * 16
  pub counted : j ≡ took (words_for (cipher_need (key_words d (length k)) d))
  pub long : length shares ≡ suc d * 16
  pub joins : joined_string (parts (suc d) 16 shares) ≡ cipher_of w (key_words d (length k)) (key_joined d k) (joined_string (parts (suc d) 16 x))

pub single_carried : (w : Direction) (d : ℕ) (j : Count) (k x ts o shares : List ℕ) → single_outcome w d k x ts o ≡ done j shares
    → Carried w d j k x shares
single_carried w d j k x ts o shares e =
    let nk = key_words d (length k) in
    let g = settled-taken _ _ o (laid_of w nk d k x (bytes_of ts)) j shares (single_is w d k x ts o ∙ e) in
    let t = block_passed nk (words_for (cipher_need nk d)) d (length x) (length ts) (length o) g.0 in
    let lk = key_length d (length k) t.some in
    record {
      is_served = first_passed g.0;
      some = t.some;
      input_long = t.input;
      counted = g.1;
      long = ap length g.2 ∙ length-laid_of w nk d k x (bytes_of ts) t.some lk t.input;
      joins = ap (λ (s : List ℕ). joined_string (parts (suc d) 16 s)) g.2 ∙ laid_of_joins w nk d k x (bytes_of ts) t.some lk t.input;
    }

single_then_join : (w : Direction) (d : ℕ) (j : Count) (k x ts o shares p : List ℕ) → single_outcome w d k x ts o ≡ done j shares → length p ≡ 16
    → join_outcome d shares p ≡ done (took 0) (cipher_of w (key_words d (length k)) (key_joined d k) (joined_string (parts (suc d) 16 x)))
single_then_join w d j k x ts o shares p e h =
    let g = single_carried w d j k x ts o shares e in
    join_block d shares p g.is_served g.long h ∙ ap (done (took 0)) g.joins

-- whatever `encrypt` puts out, `join` makes FIPS 197's ciphertext of it, for the key and the block that its shares join to
pub encrypt_then_join : (d : ℕ) (j : Count) (k x ts o shares p : List ℕ) → encrypt_outcome d k x ts o ≡ done j shares → length p ≡ 16
    → join_outcome d shares p ≡ done (took 0) (cipher (key_words d (length k)) (key_joined d k) (joined_string (parts (suc d) 16 x)))
encrypt_then_join = single_then_join Forward

-- whatever `decrypt` puts out, `join` makes FIPS 197's plaintext of it
pub decrypt_then_join : (d : ℕ) (j : Count) (k x ts o shares p : List ℕ) → decrypt_outcome d k x ts o ≡ done j shares → length p ≡ 16
    → join_outcome d shares p ≡ done (took 0) (inv_cipher (key_words d (length k)) (key_joined d k) (joined_string (parts (suc d) 16 x)))
decrypt_then_join = single_then_join Inverse

-- ---- prepared keys

-- whatever `prepare` puts out joins to FIPS 197's round keys, for the key that the key shares join to
pub prepare_joins : (d : ℕ) (j : Count) (k ts o keys : List ℕ) → prepare_outcome d k ts o ≡ done j keys
    → joined_string (parts (suc d) (16 * suc (rounds (key_words d (length k)))) keys) ≡ key_expansion (key_words d (length k)) (key_joined d k)
unfolding prepare_outcome
prepare_joins d j k ts o keys e =
    let nk = key_words d (length k) in
    let g = settled-taken _ _ o (prepared_laid nk d k (bytes_of ts)) j keys e in
    let some = (preparation_passed d (length k) (length ts) (length o) g.0).some in
    ap (λ (s : List ℕ). joined_string (parts (suc d) (16 * suc (rounds nk)) s)) g.2
    ∙ prepared_joins_laid nk d k (bytes_of ts) some (key_length d (length k) some)

-- whatever bytes were prepared, `join` makes of what `encrypt_prepared` puts out FIPS 197's rounds with what they join to as round keys
pub encrypt_prepared_then_join : (d : ℕ) (j : Count) (ks x ts o shares p : List ℕ)
    → encrypt_prepared_outcome d ks x ts o ≡ done j shares → length p ≡ 16
    → join_outcome d shares p
    ≡ done (took 0)
    (cipher_with (prepared_words d (length ks)) (joined_string (parts (suc d) (16 * suc (rounds (prepared_words d (length ks)))) ks))
    (joined_string (parts (suc d) 16 x)))
unfolding encrypt_prepared_outcome prepared_length
encrypt_prepared_then_join d j ks x ts o shares p e h =
    let nk = prepared_words d (length ks) in
    let g = settled-taken _ _ o (encrypted_with_laid nk d ks x (bytes_of ts)) j shares e in
    let t = block_passed nk (words_for (encrypted_with_need nk d)) d (length x) (length ts) (length o) g.0 in
    let lk : length ks ≡ suc d * (16 * suc (rounds nk)) = prepared_long d (length ks) t.some in
    join_block d shares p (first_passed g.0) (ap length g.2 ∙ length-encrypted_with nk d ks x (bytes_of ts) lk t.input) h
    ∙ ap (done (took 0))
    (ap (λ (s : List ℕ). joined_string (parts (suc d) 16 s)) g.2 ∙ encrypted_with_joins_laid nk d ks x (bytes_of ts) lk t.input)

-- ---- the two routes agree

-- a block that needs n words more is the block on the tape from n on, with n words drawn before
block_after : (n nk d x t o need : ℕ) (q made : List ℕ) → n ≤ t
    → settled (keyed d nk (block_tests (n + need) d x t o)) (took (n + need)) q made
    ≡ after n (settled (keyed d nk (block_tests need d x (t - n) o)) (took need) q made)
unfolding settled answered
block_after n nk d x t o need q made h = rw short (go (served d) (ltb 0 nk) (eqb x (suc d * 16)) (eqb o (suc d * 16)) (reaches (t - n) need))
  where
    short : reaches t (n + need) ≡ reaches (t - n) need
    short = ap not (decide (ltb (t - n) need) refl)
      where
        decide : (b : Bool) → ltb (t - n) need ≡ b → ltb t (n + need) ≡ b
        decide true e = let l = ltb-true (t - n) need e in lt-ltb t (n + need) (omega arith)
        decide false e = let l = ltb-false (t - n) need e in le-ltb t (n + need) (omega arith)

    go : (u y i r e : Bool)
        → ended (cond u
        (cond y (cond i (cond r (cond e (Ok (took (n + need))) (Err Tape)) (Err Output)) (Err Input)) (Err Key)) (Err Order)) q
        made
        ≡ after n (ended
        (cond u (cond y (cond i (cond r (cond e (Ok (took need)) (Err Tape)) (Err Output)) (Err Input)) (Err Key)) (Err Order))
        q made)
    go false y i r e = refl
    go true false i r e = refl
    go true true false r e = refl
    go true true true false e = refl
    go true true true true false = refl
    go true true true true true = refl

-- preparing, and then encrypting on the unused words, is the single call: the very shares, the counts added, and the same refusals
pub prepare_then_encrypt : (d : ℕ) (n : Count) (k x ts o keys out : List ℕ) → prepare_outcome d k ts o ≡ done n keys
    → encrypt_outcome d k x ts out ≡ after n.taken (encrypt_prepared_outcome d keys x (unused ts n.taken) out)
unfolding encrypt_outcome prepare_outcome encrypt_prepared_outcome cipher_need unused
prepare_then_encrypt d n k x ts o keys out e =
    let nk = key_words d (length k) in
    let with-words : ℕ → ℕ = λ m. words_for (encrypted_with_need m d) in
    let bs = bytes_of ts in
    let rest = bytes_of (drop n.taken ts) in
    let g = settled-taken _ _ o (prepared_laid nk d k bs) n keys e in
    let t = preparation_passed d (length k) (length ts) (length o) g.0 in
    let lk = key_length d (length k) t.some in
    let whole = schedule-whole nk d in
    let count : n.taken ≡ words_for (schedule_need nk d) = ap (λ (c : Count). c.taken) g.1 in
    let words : prepared_words d (length keys) ≡ nk =
    ap (prepared_words d) (ap length g.2 ∙ length_prepared nk d k bs t.some lk) ∙ prepared_words-of d (key_sized d (length k) t.some) in
    let left : drop (schedule_need nk d) bs ≡ rest =
    ap (λ (m : ℕ). drop m bs) (sym whole ∙ ap (◌*◌ 4) (sym count)) ∙ sym (bytes_drop n.taken ts) in
    let made : encrypted_laid nk d k x bs ≡ encrypted_with_laid nk d keys x rest =
    sym (encrypted_from_prepared nk d k x bs t.some lk) ∙ ap₂ (λ (ks ts : List ℕ). encrypted_with_laid nk d ks x ts) (sym g.2) left in
    let sum : words_for (schedule_need nk d + encrypted_with_need nk d) ≡ n.taken + with-words nk =
    words-add (schedule_need nk d) (encrypted_with_need nk d) whole ∙ ap (λ (m : ℕ). m + with-words nk) (sym count) in
    ap₂
    (λ (m : ℕ) (q : List ℕ). settled (keyed d nk (block_tests m d (length x) (length ts) (length out))) (took m) out q)
    sum
    made
    ∙ block_after n.taken nk d (length x) (length ts) (length out) (with-words nk) out (encrypted_with_laid nk d keys x rest)
    (omega (arith, t.drawn))
    ∙ ap (after n.taken)
    (ap₂
    (λ (l m : ℕ). settled (keyed d m (block_tests (with-words m) d (length x) l (length out))) (took (with-words m)) out
    (encrypted_with_laid m d keys x rest))
    (sym (length-drop n.taken ts))
    (sym words))

-- where the single call is carried through, so is the preparation, into a buffer of the right length
pub encrypt_prepares : (d : ℕ) (j : Count) (k x ts out shares o : List ℕ) → encrypt_outcome d k x ts out ≡ done j shares
    → length o ≡ prepared_length (key_words d (length k)) d
    → prepare_outcome d k ts o
    ≡ done (took (words_for (schedule_need (key_words d (length k)) d))) (prepared_laid (key_words d (length k)) d k (bytes_of ts))
unfolding encrypt_outcome prepare_outcome cipher_need
encrypt_prepares d j k x ts out shares o e h =
    let nk = key_words d (length k) in
    let g = settled-taken _ _ out (encrypted_laid nk d k x (bytes_of ts)) j shares e in
    let t = block_passed nk (words_for (schedule_need nk d + encrypted_with_need nk d)) d (length x) (length ts) (length out) g.0 in
    let sum = words-add (schedule_need nk d) (encrypted_with_need nk d) (schedule-whole nk d) in
    let fits : words_for (schedule_need nk d) ≤ length ts = omega (arith, sum, t.drawn) in
    settled-passed _ o _
    (first_passed g.0 and lt-ltb 0 nk t.some and eq-eqb (length o) (prepared_length nk d) h and le_reaches (length ts)
    (words_for (schedule_need nk d)) fits and all)
