-- A CALL WHOSE RESULT IS OPENED hides all but its result: no list of at most d places of the call and of the refreshes before opening tells two
-- pairs of key and block with one result apart, though all shares of the result are shown. Assumes nothing.
use mathlib.Core.Path.{◌≡◌, refl, sym, ap, ap₂, ◌∙◌}
use mathlib.Core.Logic.{◌≢◌}
use mathlib.Core.Bool.{Bool, ◌&&◌}
use mathlib.Core.List.{List, [], ◌∷◌, ◌++◌}
use Prim.Native.Nat.{ℕ, suc, ◌+◌, ◌*◌, ◌≤◌}
use native.Mathlib.Omega.{arith}
use lib.ListN.{length, get_or, take, drop, length-append, length-map, length-take, length-drop}
use lib.Seq.{take-append-le, drop-append-le}
use Rattle.xor.specs.Lists.{at, All, done, Below}
use Rattle.xor.specs.Sums.{joined}
use Rattle.xor.proofs.ListsLaws.{all_map, all_append, all_with, all-front, all_rest, all_to_map, all_take, all_drop}
use Rattle.gf256.specs.declared.Direction.{Direction}
use Rattle.gf256.specs.declared.Direction.TheVariants.{Forward, Inverse}
use Rattle.isw.specs.Hiding.{same}
use Rattle.isw.proofs.Missed.{miss}
use Rattle.shares.specs.Strings.{Shares, Shared, joined_string, split, split_need}
use Rattle.shares.proofs.StringsLaws.{split_joins}
use Rattle.refresh.specs.Refresh.{refreshed, refresh_need}
use Rattle.refresh.specs.Places.{refresh_sheet, refresh_count}
use Rattle.refresh.proofs.RefreshLaws.{refresh_surplus}
use Rattle.refresh.proofs.PlacesLaws.{refresh_sheet-surplus}
use Rattle.choices.proofs.ChoicesLaws.{HeedsNoSurplus, choices_alike}
use Rattle.gadgets.specs.Coupling.{Tape, Coupled}
use Rattle.gadgets.specs.Steps.{Agree, Asked}
use Rattle.gadgets.specs.Opening.{Opened, RefreshAsked}
use Rattle.gadgets.proofs.PicksLaws.{before, beyond, cut_count, before_below, beyond_below, cut_same}
use Rattle.gadgets.proofs.CouplingLaws.{coupled-none, coupled-map, coupled_then, coupled-front}
use Rattle.gadgets.proofs.GadgetsLaws.{counted}
use Rattle.gadgets.proofs.RefreshOpens.{refresh_opens}
use Rattle.cipher.specs.States.{column}
use Rattle.cipher.specs.Cipher.{cipher_need, schedule}
use Rattle.cipher.proofs.StatesLaws.{column_joins}
use Rattle.cipher.proofs.Accuracy.{cipher_joins, inv_cipher_joins}
use Rattle.probing.specs.CallPlaces.{call_sheet, call_count, made}
use Rattle.probing.specs.Hiding.{viewed}
use Rattle.probing.specs.Runs.{Plain, masks_of_two}
use Rattle.probing.specs.Opening.{result, opening_sheet, opened, opening_need, opening_count, in_block, opened_need, opened_count}
use Rattle.probing.specs.Opening.{opened_run, opened_chosen, opened_readings, CallOpens}
use Rattle.probing.proofs.StringSteps.{Two, length-column, column-same}
use Rattle.probing.proofs.CipherSteps.{call_step}
use Rattle.probing.proofs.SplitLaws.{BothBut, split-shared, two_split, two_split-coupled}
use Rattle.probing.proofs.SmallShares.{Small, split-small, column_below, made-small}
use Rattle.probing.proofs.HidingLaws.{places_of, viewed-alike}

-- ---- opening the listed bytes of a string

-- two strings in shares that may be opened alike
record AlikeIn (d : ℕ) (of : List ℕ) (ss ss' : Shares) : Type 0 where
  as_many : length ss ≡ suc d
  as_many' : length ss' ≡ suc d
  small : Small ss
  small' : Small ss'
  joint : joined_string ss ≡ joined_string ss'
  common : All (λ i. get_or ss i [] ≡ get_or ss' i []) of

-- from what the listed places and all shares that are shown are simulated
record OpeningAsked (d : ℕ) (ks ps : List ℕ) : Type 0 where
  of : List ℕ
  few : length of ≤ length ps
  inside : Below (suc d) of
  coupled : (ss ss' : Shares) → AlikeIn d of ss ss'
      → Coupled 8 (opening_need d ks) (Opened (opening_count d ks) ps)
      (λ ts. (opening_sheet d ks ss ts, opened d ks ss ts)) (λ ts. (opening_sheet d ks ss' ts, opened d ks ss' ts))

module _ (d k : ℕ) (ks ps : List ℕ) (first : RefreshAsked 8 d (before (refresh_count d) ps))
    (rest : OpeningAsked d ks (beyond (refresh_count d) ps)) where
  abbrev count : ℕ
  count = refresh_count d + opening_count d ks

  module _ (ss ss' : Shares) (a : AlikeIn d (first.of ++ rest.of) ss ss') where
    column_common : All (λ i. at (column k ss) i ≡ at (column k ss') i) first.of
    column_common =
        all_with (λ i l e. column-same d k i ss ss' a.as_many a.as_many' l e)
        first.inside (all-front first.of rest.of a.common)

    column_joint : joined (column k ss) ≡ joined (column k ss')
    column_joint = column_joins k ss ∙ ap (λ (s : List ℕ). at s k) a.joint ∙ sym (column_joins k ss')

    later : AlikeIn d rest.of ss ss'
    later =
        record {
          as_many = a.as_many;
          as_many' = a.as_many';
          small = a.small;
          small' = a.small';
          joint = a.joint;
          common = all_rest first.of rest.of a.common;
        }

    one_surplus : (ss : Shares) (us vs : List ℕ) → refresh_need d ≤ length us
        → ◌≡◌ {A = List ℕ × List ℕ} (refresh_sheet d (column k ss) (us ++ vs), refreshed d (column k ss) (us ++ vs))
        (refresh_sheet d (column k ss) us, refreshed d (column k ss) us)
    one_surplus ss us vs h = λ i. (refresh_sheet-surplus d (column k ss) us vs h i, refresh_surplus d (column k ss) us vs h i)

    both : Coupled 8 (refresh_need d + opening_need d ks) (Opened count ps)
        (λ ts. (
          refresh_sheet d (column k ss) ts ++ opening_sheet d ks ss (drop (refresh_need d) ts),
          refreshed d (column k ss) ts ++ opened d ks ss (drop (refresh_need d) ts),
        ))
        (λ ts. (
          refresh_sheet d (column k ss') ts ++ opening_sheet d ks ss' (drop (refresh_need d) ts),
          refreshed d (column k ss') ts ++ opened d ks ss' (drop (refresh_need d) ts),
        ))
    both =
        coupled_then 8 (refresh_need d) (opening_need d ks) (Opened (refresh_count d) (before (refresh_count d) ps)) (Opened count ps)
        (λ ts. (refresh_sheet d (column k ss) ts, refreshed d (column k ss) ts))
        (λ ts. (refresh_sheet d (column k ss') ts, refreshed d (column k ss') ts))
        (λ x vs. (x.0 ++ opening_sheet d ks ss vs, x.1 ++ opened d ks ss vs))
        (λ x vs. (x.0 ++ opening_sheet d ks ss' vs, x.1 ++ opened d ks ss' vs))
        (one_surplus ss) (one_surplus ss')
        (first.coupled (column k ss) (column k ss') (length-column k ss ∙ a.as_many) (length-column k ss' ∙ a.as_many')
        (column_below k a.small) (column_below k a.small') column_common column_joint)
        (λ us us' t t' r.
        coupled-map 8 (opening_need d ks) (Opened (opening_count d ks) (beyond (refresh_count d) ps)) (Opened count ps)
        (λ ts. (opening_sheet d ks ss ts, opened d ks ss ts)) (λ ts. (opening_sheet d ks ss' ts, opened d ks ss' ts))
        (λ y. (refresh_sheet d (column k ss) us ++ y.0, refreshed d (column k ss) us ++ y.1))
        (λ y. (refresh_sheet d (column k ss') us' ++ y.0, refreshed d (column k ss') us' ++ y.1))
        (λ y y' q. record {
          shown = cut_same (refresh_count d) (refresh_sheet d (column k ss) us) (refresh_sheet d (column k ss') us') y.0 y'.0
              r.long r.long' ps r.shown q.shown;
          equal = ap₂ ◌++◌ r.equal q.equal;
          long = length-append (refresh_sheet d (column k ss) us) y.0 ∙ ap₂ ◌+◌ r.long q.long;
          long' = length-append (refresh_sheet d (column k ss') us') y'.0 ∙ ap₂ ◌+◌ r.long' q.long';
        })
        (rest.coupled ss ss' later))

opening_opens : (d : ℕ) (ks ps : List ℕ) → Below (opening_count d ks) ps → length ps ≤ d → OpeningAsked d ks ps
unfolding opening_sheet opened opening_need opening_count
opening_opens d [] ps below few =
    record {
      of = [];
      few = omega arith;
      inside = done;
      coupled = λ ss ss' a.
          coupled-none 8 (Opened 0 ps) (λ ts. ([], [])) (λ ts. ([], []))
          (record { shown = all_map (λ p l. refl) below; equal = refl; long = refl; long' = refl });
    }
opening_opens d (k ∷ ks) ps below few =
    let c = refresh_count d in
    let first = refresh_opens 8 d (before c ps) (before_below c ps) (omega (arith, cut_count c ps)) in
    let rest = opening_opens d ks (beyond c ps) (beyond_below c (opening_count d ks) below) (omega (arith, cut_count c ps)) in
    record {
      of = first.of ++ rest.of;
      few = omega (arith, length-append first.of rest.of, first.few, rest.few, cut_count c ps);
      inside = all_append first.inside rest.inside;
      coupled = λ ss ss' a. both d k ks ps first rest ss ss' a;
    }

-- ---- a call, and then the opening

module _ (nk d : ℕ) where
  made_joins : (w : Direction) {k x : Shares} (ts : List ℕ) → 1 ≤ nk → Shared (4 * nk) d k → Shared 16 d x
      → joined_string (made w nk d k x ts) ≡ result w nk (joined_string k) (joined_string x)
  made_joins Forward = cipher_joins nk
  made_joins Inverse = inv_cipher_joins nk

  -- what a call makes of a split key and a split block joins to the result
  made-result : (w : Direction) {key block : List ℕ} (ms ts : List ℕ) → 1 ≤ nk → Plain (4 * nk) key → Plain 16 block
      → masks_of_two d (4 * nk) 16 ≤ length ms
      → joined_string (made w nk d (split d key ms) (split d block (drop (split_need d (4 * nk)) ms)) ts) ≡ result w nk key block
  unfolding masks_of_two
  made-result w {key} {block} ms ts some pk pb enough =
      made_joins w ts some (split-shared d (4 * nk) pk ms (omega arith))
      (split-shared d 16 pb (drop (split_need d (4 * nk)) ms) (omega (arith, length-drop (split_need d (4 * nk)) ms)))
      ∙ ap₂ (result w nk) (split_joins d key ms) (split_joins d block (drop (split_need d (4 * nk)) ms))

  module _ (w : Direction) (some : 1 ≤ nk) (ps : List ℕ) (few : length ps ≤ d) (below : Below (call_count w nk d + opening_count d in_block) ps)
      {key block key' block' : List ℕ} (pk : Plain (4 * nk) key) (pk' : Plain (4 * nk) key') (pb : Plain 16 block) (pb' : Plain 16 block')
      (one : result w nk key block ≡ result w nk key' block') where
    abbrev c : ℕ
    c = call_count w nk d

    opening : OpeningAsked d in_block (beyond c ps)
    opening = opening_opens d in_block (beyond c ps) (beyond_below c (opening_count d in_block) below) (omega (arith, cut_count c ps))

    asked : Asked 8 d (Two d) (Two d) (cipher_need nk d) c (λ s ts. call_sheet w nk d s.1 s.0 ts)
        (λ s ts. (schedule nk d s.1 ts, made w nk d s.1 s.0 ts)) (before c ps) (λ v. opening.of)
    asked =
        (call_step d w nk).hidden (before c ps) (λ v. opening.of) (before_below c ps) (λ v. opening.inside)
        (λ v. omega (arith, cut_count c ps, opening.few))

    -- a share that nothing asks for
    free : (q : ℕ) × (q ≤ d) × All (λ i. i ≢ q) (asked.more tt ++ opening.of)
    free =
        miss d (asked.more tt ++ opening.of)
        (omega (arith, length-append (asked.more tt) opening.of, asked.few tt, opening.few, cut_count c ps))

    abbrev Both : List ℕ × List ℕ → List ℕ × List ℕ → Type 0
    Both = Opened (c + opening_count d in_block) ps

    run_surplus : (k x : Shares) (us vs : List ℕ) → cipher_need nk d ≤ length us
        → ◌≡◌ {A = List ℕ × (Two d).Value} (call_sheet w nk d k x (us ++ vs), (schedule nk d k (us ++ vs), made w nk d k x (us ++ vs)))
        (call_sheet w nk d k x us, (schedule nk d k us, made w nk d k x us))
    run_surplus k x us vs h = λ i. ((call_step d w nk).sheet_surplus (x, k) us vs h i, (call_step d w nk).next_surplus (x, k) us vs h i)

    -- the call and the opening, from a key and a block in shares that have all shares in common but the free one
    module _ (k k' x x' : Shares) (b : BothBut d free.0 (k, x) (k', x')) (hk : Small k) (hk' : Small k') (hx : Small x) (hx' : Small x')
        (joint : (ts ts' : List ℕ) → joined_string (made w nk d k x ts) ≡ joined_string (made w nk d k' x' ts')) where
      -- what both make may be opened alike
      made_alike : (ts ts' : List ℕ) → Tape 8 (cipher_need nk d) ts → Tape 8 (cipher_need nk d) ts'
          → Agree (Two d) c (before c ps) (λ v. opening.of)
          (call_sheet w nk d k x ts, (schedule nk d k ts, made w nk d k x ts))
          (call_sheet w nk d k' x' ts', (schedule nk d k' ts', made w nk d k' x' ts'))
          → AlikeIn d opening.of (made w nk d k x ts) (made w nk d k' x' ts')
      made_alike ts ts' t t' r =
          record {
            as_many = r.fine.1;
            as_many' = r.fine'.1;
            small = made-small d w nk hk hx t.small;
            small' = made-small d w nk hk' hx' t'.small;
            joint = joint ts ts';
            common = all_map (λ i e. e.1) (r.alike tt);
          }

      run_coupled : Coupled 8 (cipher_need nk d + opening_need d in_block) Both (opened_run w nk d k x) (opened_run w nk d k' x')
      unfolding opened_run
      run_coupled =
          coupled_then 8 (cipher_need nk d) (opening_need d in_block) (Agree (Two d) c (before c ps) (λ v. opening.of)) Both
          (λ ts. (call_sheet w nk d k x ts, (schedule nk d k ts, made w nk d k x ts)))
          (λ ts. (call_sheet w nk d k' x' ts, (schedule nk d k' ts, made w nk d k' x' ts)))
          (λ y ws. (y.0 ++ opening_sheet d in_block y.1.1 ws, opened d in_block y.1.1 ws))
          (λ y ws. (y.0 ++ opening_sheet d in_block y.1.1 ws, opened d in_block y.1.1 ws))
          (run_surplus k x) (run_surplus k' x')
          (asked.coupled (x, k) (x', k') (b.second.as_many, b.first.as_many) (b.second.as_many', b.first.as_many')
          (λ v. all_map (λ i n. (b.second.others i n, b.first.others i n)) (all-front (asked.more tt) opening.of free.2))
          (λ v. all_map (λ i n. (b.second.others i n, b.first.others i n)) (all_rest (asked.more tt) opening.of free.2)))
          (λ ts ts' t t' r.
          coupled-map 8 (opening_need d in_block) (Opened (opening_count d in_block) (beyond c ps)) Both
          (λ ws. (opening_sheet d in_block (made w nk d k x ts) ws, opened d in_block (made w nk d k x ts) ws))
          (λ ws. (opening_sheet d in_block (made w nk d k' x' ts') ws, opened d in_block (made w nk d k' x' ts') ws))
          (λ y. (call_sheet w nk d k x ts ++ y.0, y.1)) (λ y. (call_sheet w nk d k' x' ts' ++ y.0, y.1))
          (λ y y' q. record {
            shown = cut_same c (call_sheet w nk d k x ts) (call_sheet w nk d k' x' ts') y.0 y'.0
                r.long r.long' ps r.shown q.shown;
            equal = q.equal;
            long = length-append (call_sheet w nk d k x ts) y.0 ∙ ap₂ ◌+◌ r.long q.long;
            long' = length-append (call_sheet w nk d k' x' ts') y'.0 ∙ ap₂ ◌+◌ r.long' q.long';
          })
          (opening.coupled (made w nk d k x ts) (made w nk d k' x' ts') (made_alike ts ts' t t' r)))

    abbrev n : ℕ
    n = masks_of_two d (4 * nk) 16

    -- from masks: the first n bytes of a choice
    all-coupled : Coupled 8 (n + opened_need nk d) Both
        (λ cs. opened_chosen w nk d key block (take n cs) (drop n cs)) (λ cs. opened_chosen w nk d key' block' (take n cs) (drop n cs))
    unfolding opened_need opened_chosen two_split
    all-coupled =
        coupled_then 8 n (cipher_need nk d + opening_need d in_block) (BothBut d free.0) Both
        (λ cs. two_split d (4 * nk) key block (take n cs)) (λ cs. two_split d (4 * nk) key' block' (take n cs))
        (λ y ts. opened_run w nk d y.0 y.1 ts) (λ y ts. opened_run w nk d y.0 y.1 ts)
        (λ us vs h. ap (two_split d (4 * nk) key block) (take-append-le n us vs h))
        (λ us vs h. ap (two_split d (4 * nk) key' block') (take-append-le n us vs h))
        (coupled-front 8 n (BothBut d free.0) (two_split d (4 * nk) key block) (two_split d (4 * nk) key' block')
        (two_split-coupled d (4 * nk) 16 pk pk' pb pb' free.0 free.1))
        (λ us us' t t' b.
        let h : Below 256 (take n us) = all_take n t.small in
        let h' : Below 256 (take n us') = all_take n t'.small in
        run_coupled _ _ _ _ b (split-small d pk.small h) (split-small d pk'.small h')
        (split-small d pb.small (all_drop (split_need d (4 * nk)) h)) (split-small d pb'.small (all_drop (split_need d (4 * nk)) h'))
        (λ ts ts'.
        made-result w (take n us) ts some pk pb (omega (arith, length-take n us, t.long)) ∙ one
        ∙ sym (made-result w (take n us') ts' some pk' pb' (omega (arith, length-take n us', t'.long)))))

-- ---- surplus

opening_surplus : (d : ℕ) (ks : List ℕ) (ss : Shares) (us vs : List ℕ) → opening_need d ks ≤ length us
    → ◌≡◌ {A = List ℕ × List ℕ} (opening_sheet d ks ss (us ++ vs), opened d ks ss (us ++ vs)) (opening_sheet d ks ss us, opened d ks ss us)
unfolding opening_sheet opened opening_need
opening_surplus d [] ss us vs h = refl
opening_surplus d (k ∷ ks) ss us vs h =
    let n = refresh_need d in
    let g : opening_need d ks ≤ length (drop n us) = omega (arith, length-drop n us) in
    let e = opening_surplus d ks ss (drop n us) vs g in
    let enough : n ≤ length us = omega arith in
    rw (drop-append-le n us vs enough, refresh_sheet-surplus d (column k ss) us vs enough, refresh_surplus d (column k ss) us vs enough)
    (λ i. (refresh_sheet d (column k ss) us ++ (e i).0, refreshed d (column k ss) us ++ (e i).1))

run_heedless : (w : Direction) (nk d : ℕ) (k x : Shares) (us vs : List ℕ) → opened_need nk d ≤ length us
    → opened_run w nk d k x (us ++ vs) ≡ opened_run w nk d k x us
unfolding opened_run opened_need
run_heedless w nk d k x us vs h =
    let n = cipher_need nk d in
    let e = opening_surplus d in_block (made w nk d k x us) (drop n us) vs (omega (arith, length-drop n us)) in
    rw (drop-append-le n us vs (omega arith), (call_step d w nk).sheet_surplus (x, k) us vs (omega arith), made-surplus)
    (λ i. (call_sheet w nk d k x us ++ (e i).0, (e i).1))
  where
    made-surplus : made w nk d k x (us ++ vs) ≡ made w nk d k x us
    made-surplus = λ i. ((call_step d w nk).next_surplus (x, k) us vs (omega arith) i).1

-- NO d PLACES OF A CALL AND ITS OPENING TELL TWO PAIRS OF KEY AND BLOCK WITH ONE RESULT APART, with all shares of the result shown
pub call_opens : (w : Direction) → CallOpens w
unfolding CallOpens opened_readings opened_count
call_opens w nk d n vs rs out key block key' block' some enough few below pk pk' pb pb' one =
    choices_alike (masks_of_two d (4 * nk) 16) (opened_need nk d) n (passed key block) (passed key' block')
    (heedless key block) (heedless key' block') enough
    (counted 8 (masks_of_two d (4 * nk) 16 + opened_need nk d) (Opened (call_count w nk d + opening_count d in_block) (places_of vs)) _ _ test
    (λ y y' q. ap₂ (λ (l m : List ℕ). same l rs && same m out) (viewed-alike vs y.0 y'.0 q.shown) q.equal)
    (all-coupled nk d w some (places_of vs) (rw length-map few) (all_to_map (λ v. v.0) below) pk pk' pb pb' one))
  where
    test : List ℕ × List ℕ → Bool
    test r = same (viewed r.0 vs) rs && same r.1 out

    passed : (key block ms ts : List ℕ) → Bool
    passed key block ms ts = test (opened_chosen w nk d key block ms ts)

    heedless : (key block : List ℕ) → HeedsNoSurplus (opened_need nk d) (passed key block)
    heedless key block ms us ws h = unfold opened_chosen in ap test (run_heedless w nk d _ _ us ws h)
