-- THE HIDING RULES: no list of at most d places of an S-box, of a whole encryption or decryption with its key expansion, or of a session tells two
-- secrets apart; at every order, for every length of key. Assumes nothing.
use mathlib.Core.Path.{◌≡◌, refl, sym, ap, ◌∙◌}
use mathlib.Core.Logic.{◌≢◌}
use mathlib.Core.List.{List, [], ◌++◌}
use Prim.Native.Nat.{ℕ, ◌+◌, ◌*◌, ◌^◌, ◌≤◌}
use native.Mathlib.Omega.{arith}
use lib.ListN.{length, take, drop, length-map}
use lib.Seq.{take-append-le}
use Rattle.xor.specs.Lists.{All, done, Below}
use Rattle.xor.proofs.ListsLaws.{all_map, all_to_map}
use Rattle.gf256.specs.declared.Direction.{Direction}
use Rattle.isw.specs.Hiding.{how_many, factor, same}
use Rattle.isw.proofs.Missed.{miss}
use Rattle.tape_words.specs.Words.{bytes_of, words_for}
use Rattle.tape_words.proofs.WordsLaws.{words_hold, bytes_drop, bytes_take}
use Rattle.shares.specs.Strings.{Shares, split, split_need}
use Rattle.choices.proofs.WordCount.{how_many-words}
use Rattle.gadgets.specs.Coupling.{Coupled}
use Rattle.gadgets.specs.Steps.{Agree, Asked, Hidden}
use Rattle.gadgets.proofs.CouplingLaws.{coupled-map, coupled_then, coupled-front, coupled_within}
use Rattle.gadgets.proofs.GadgetsLaws.{Shown, strong-coupled, counted, how_many_cong}
use Rattle.cipher.specs.Cipher.{cipher_need}
use Rattle.probing.specs.CallPlaces.{call_sheet, call_count}
use Rattle.probing.specs.SessionPlaces.{session_sheet, session_need, session_count}
use Rattle.probing.specs.Hiding.{viewed, Hides, ViewsHide, WordsHide}
use Rattle.probing.specs.Runs.{Plain, box_run, masks_of_two, two_run, call_run, session_run, split_chosen, split_readings, SplitCallHides}
use Rattle.probing.proofs.BoxStrong.{box-strong}
use Rattle.probing.proofs.StringSteps.{Two}
use Rattle.probing.proofs.CipherSteps.{call_step, session_step}
use Rattle.probing.proofs.SplitLaws.{AllBut, BothBut, two_split, split-coupled, two_split-coupled}
use Rattle.probing.proofs.HidingLaws.{CoupledRun, places_of, viewed-alike, hides, views_hide, words_hide}

-- ---- ONE S-BOX

pub box-coupled : (w : Direction) (d : ℕ) → CoupledRun d (box_run w d)
box-coupled w d =
    record {
      surplus = λ x ms us vs h. (box-strong d w).sheet_surplus (factor x ms) us vs h;
      coupled = λ ps x y few below hx hy. strong-coupled (box-strong d w) ps x y few below hx hy;
    }

pub box_hides : (w : Direction) (d : ℕ) → Hides d (box_run w d)
box_hides w d = hides (box-coupled w d)

pub box_hides_views : (w : Direction) (d : ℕ) → ViewsHide d (box_run w d)
box_hides_views w d = views_hide (box-coupled w d)

pub box_hides_words : (w : Direction) (d : ℕ) → WordsHide d (box_run w d)
box_hides_words w d = words_hide (box-coupled w d)

-- ---- a step on two strings, each in shares by masks of its own: the state is the second string and the first

module _ (l m d need count : ℕ) (sheet : Shares → Shares → List ℕ → List ℕ) (next : Shares × Shares → List ℕ → Shares × Shares)
    (H : Hidden 8 d (Two d) (Two d) need count (λ s ts. sheet s.1 s.0 ts) next) where
  sheet-more : (k x : Shares) (us vs : List ℕ) → need ≤ length us → sheet k x (us ++ vs) ≡ sheet k x us
  sheet-more k x us vs h = H.sheet_surplus (x, k) us vs h

  module _ (ps : List ℕ) (few : length ps ≤ d) (below : Below count ps) where
    asked : Asked 8 d (Two d) (Two d) need count (λ s ts. sheet s.1 s.0 ts) next ps (λ v. [])
    asked = H.hidden ps (λ v. []) below (λ v. done) (λ v. omega arith)

    -- a share that nothing asks for
    free : (q : ℕ) × (q ≤ d) × All (λ i. i ≢ q) (asked.more tt)
    free = let f = asked.few tt in miss d (asked.more tt) (omega arith)

    -- two pairs of strings that have all other shares in common
    sheets_coupled : (k k' x x' : Shares) → AllBut d free.0 k k' → AllBut d free.0 x x'
        → Coupled 8 need (Shown ps) (sheet k x) (sheet k' x')
    sheets_coupled k k' x x' a b =
        coupled-map 8 need (Agree (Two d) count ps (λ v. [])) (Shown ps)
        (λ ts. (sheet k x ts, next (x, k) ts)) (λ ts. (sheet k' x' ts, next (x', k') ts)) (λ y. y.0) (λ y. y.0) (λ y y' q. q.shown)
        (asked.coupled (x, k) (x', k') (b.as_many, a.as_many) (b.as_many', a.as_many')
        (λ v. all_map (λ i n. (b.others i n, a.others i n)) free.2) (λ v. done))

  pub two_coupled : CoupledRun d (two_run l m d need count sheet)
  unfolding two_split
  two_coupled =
      record {
        surplus = λ s ms us vs h. sheet-more (split d s.0 ms) (split d s.1 (drop (split_need d l) ms)) us vs h;
        coupled = λ ps s s' few below g g'.
            let n = masks_of_two d l m in
            let q = free ps few below in
            coupled_then 8 n need (BothBut d q.0) (Shown ps)
            (λ cs. two_split d l s.0 s.1 (take n cs)) (λ cs. two_split d l s'.0 s'.1 (take n cs))
            (λ y ts. sheet y.0 y.1 ts) (λ y ts. sheet y.0 y.1 ts)
            (λ us vs h. ap (two_split d l s.0 s.1) (take-append-le n us vs h))
            (λ us vs h. ap (two_split d l s'.0 s'.1) (take-append-le n us vs h))
            (coupled-front 8 n (BothBut d q.0) (two_split d l s.0 s.1) (two_split d l s'.0 s'.1)
            (two_split-coupled d l m g.0 g'.0 g.1 g'.1 q.0 q.1))
            (λ us us' t t' b. sheets_coupled ps few below _ _ _ _ b.first b.second);
      }

-- ---- A WHOLE CALL, either way

pub call_coupled : (w : Direction) (nk d : ℕ) → CoupledRun d (call_run w nk d)
call_coupled w nk d = two_coupled (4 * nk) 16 d (cipher_need nk d) (call_count w nk d) (call_sheet w nk d) _ (call_step d w nk)

-- NO d PLACES OF A WHOLE CALL TELL TWO PAIRS OF KEY AND BLOCK APART
pub call_hides : (w : Direction) (nk d : ℕ) → Hides d (call_run w nk d)
call_hides w nk d = hides (call_coupled w nk d)

-- nor do d functions of places
pub call_hides_views : (w : Direction) (nk d : ℕ) → ViewsHide d (call_run w nk d)
call_hides_views w nk d = views_hide (call_coupled w nk d)

-- nor on a tape of words
pub call_hides_words : (w : Direction) (nk d : ℕ) → WordsHide d (call_run w nk d)
call_hides_words w nk d = words_hide (call_coupled w nk d)

-- ---- A SESSION

pub session_coupled : (n nk d : ℕ) → CoupledRun d (session_run n nk d)
session_coupled n nk d =
    two_coupled (4 * nk) (16 * n) d (session_need n nk d) (session_count n nk d) (session_sheet n nk d) _ (session_step d n nk)

-- NO d PLACES OF A SESSION TELL TWO KEYS AND THEIR BLOCKS APART
pub session_hides : (n nk d : ℕ) → Hides d (session_run n nk d)
session_hides n nk d = hides (session_coupled n nk d)

pub session_hides_views : (n nk d : ℕ) → ViewsHide d (session_run n nk d)
session_hides_views n nk d = views_hide (session_coupled n nk d)

pub session_hides_words : (n nk d : ℕ) → WordsHide d (session_run n nk d)
session_hides_words n nk d = words_hide (session_coupled n nk d)

-- ---- A CALL WHOSE KEY AND BLOCK ARE SPLIT BY THE LIBRARY, on words

module _ (w : Direction) (nk d k m n : ℕ) where
  -- the three parts of a tape of bytes
  abbrev in_three : (key block tape : List ℕ) → List ℕ
  in_three key block ts =
      call_sheet w nk d (split d key (take (4 * k) ts)) (split d block (take (4 * m) (drop (4 * k) ts))) (drop (4 * m) (drop (4 * k) ts))

  chosen-bytes : (key block ws : List ℕ) → split_chosen w nk d k m key block ws ≡ in_three key block (bytes_of ws)
  unfolding split_chosen
  chosen-bytes key block ws =
      rw (← bytes_drop k ws, ← bytes_drop m (drop k ws), ← bytes_take m (drop k ws), ← bytes_take k ws) refl

  module _ (enough_k : words_for (split_need d (4 * nk)) ≤ k) (enough_m : words_for (split_need d 16) ≤ m)
      (enough_n : words_for (cipher_need nk d) ≤ n) (ps : List ℕ) (few : length ps ≤ d) (below : Below (call_count w nk d) ps)
      {key key' block block' : List ℕ} (pk : Plain (4 * nk) key) (pk' : Plain (4 * nk) key') (pb : Plain 16 block) (pb' : Plain 16 block') where
    abbrev q : ℕ
    q = (free (4 * nk) 16 d (cipher_need nk d) (call_count w nk d) (call_sheet w nk d) _ (call_step d w nk) ps few below).0

    q_le : q ≤ d
    q_le = (free (4 * nk) 16 d (cipher_need nk d) (call_count w nk d) (call_sheet w nk d) _ (call_step d w nk) ps few below).1

    -- a string is split on the first words of a tape
    first_coupled : (l j : ℕ) {xs xs' : List ℕ} → words_for (split_need d l) ≤ j → Plain l xs → Plain l xs'
        → Coupled 8 (4 * j) (AllBut d q) (λ ts. split d xs (take (4 * j) ts)) (λ ts. split d xs' (take (4 * j) ts))
    first_coupled l j enough p p' =
        coupled-front 8 (4 * j) (AllBut d q) _ _ (split-coupled d l (4 * j) p p' q q_le (omega (arith, words_hold (split_need d l))))

    -- the call runs on the last
    last_coupled : (k k' x x' : Shares) → AllBut d q k k' → AllBut d q x x'
        → Coupled 8 (4 * n) (Shown ps) (call_sheet w nk d k x) (call_sheet w nk d k' x')
    last_coupled k k' x x' a b =
        coupled_within 8 (cipher_need nk d) (4 * n) (Shown ps) (call_sheet w nk d k x) (call_sheet w nk d k' x')
        (λ us vs h. (call_step d w nk).sheet_surplus (x, k) us vs h) (λ us vs h. (call_step d w nk).sheet_surplus (x', k') us vs h)
        (omega (arith, words_hold (cipher_need nk d)))
        (sheets_coupled (4 * nk) 16 d (cipher_need nk d) (call_count w nk d) (call_sheet w nk d) _ (call_step d w nk) ps few below k k' x x' a b)

    three_coupled : Coupled 8 (4 * k + (4 * m + 4 * n)) (Shown ps) (in_three key block) (in_three key' block')
    three_coupled =
        coupled_then 8 (4 * k) (4 * m + 4 * n) (AllBut d q) (Shown ps)
        (λ ts. split d key (take (4 * k) ts)) (λ ts. split d key' (take (4 * k) ts))
        (λ y ts. call_sheet w nk d y (split d block (take (4 * m) ts)) (drop (4 * m) ts))
        (λ y ts. call_sheet w nk d y (split d block' (take (4 * m) ts)) (drop (4 * m) ts))
        (λ us vs h. ap (split d key) (take-append-le (4 * k) us vs h)) (λ us vs h. ap (split d key') (take-append-le (4 * k) us vs h))
        (first_coupled (4 * nk) k enough_k pk pk')
        (λ us us' t t' a.
        coupled_then 8 (4 * m) (4 * n) (AllBut d q) (Shown ps)
        (λ ts. split d block (take (4 * m) ts)) (λ ts. split d block' (take (4 * m) ts))
        (call_sheet w nk d (split d key (take (4 * k) us))) (call_sheet w nk d (split d key' (take (4 * k) us')))
        (λ vs ws h. ap (split d block) (take-append-le (4 * m) vs ws h)) (λ vs ws h. ap (split d block') (take-append-le (4 * m) vs ws h))
        (first_coupled 16 m enough_m pb pb')
        (λ vs vs' u u' b. last_coupled _ _ _ _ a b))

-- NO d PLACES OF A CALL TELL TWO PAIRS OF KEY AND BLOCK APART, where the library splits both and only the words of the three tapes are free
pub split_call_hides : (w : Direction) → SplitCallHides w
unfolding SplitCallHides split_readings
split_call_hides w nk d k m n vs rs key block key' block' enough_k enough_m enough_n few below pk pk' pb pb' =
    on_bytes key block
    ∙ counted 8 (4 * k + (4 * m + 4 * n)) (Shown (places_of vs)) (in_three w nk d k m n key block) (in_three w nk d k m n key' block')
    (λ x. same (viewed x vs) rs) (λ x x' h. ap (λ (l : List ℕ). same l rs) (viewed-alike vs x x' h))
    (three_coupled w nk d k m n enough_k enough_m enough_n (places_of vs) (rw length-map few) (all_to_map (λ v. v.0) below) pk pk' pb pb')
    ∙ sym (on_bytes key' block')
  where
    on_bytes : (key block : List ℕ)
        → how_many (2 ^ 32) (k + (m + n)) (λ ws. same (viewed (split_chosen w nk d k m key block ws) vs) rs)
        ≡ how_many 256 (4 * k + (4 * m + 4 * n)) (λ ts. same (viewed (in_three w nk d k m n key block ts) vs) rs)
    on_bytes key block =
        let e : 4 * (k + (m + n)) ≡ 4 * k + (4 * m + 4 * n) = omega arith in
        how_many_cong (2 ^ 32) (k + (m + n)) _ _ (λ ws l b. ap (λ (s : List ℕ). same (viewed s vs) rs) (chosen-bytes w nk d k m n key block ws))
        ∙ how_many-words (k + (m + n)) (λ ts. same (viewed (in_three w nk d k m n key block ts) vs) rs)
        ∙ ap (λ (j : ℕ). how_many 256 j (λ ts. same (viewed (in_three w nk d k m n key block ts) vs) rs)) e
