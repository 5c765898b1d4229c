-- GADGETS IN A CHAIN: a run keeps its bytes in shares as numbered variables; each gadget reads two of them and writes a third. Assumes nothing.
use mathlib.Core.Path.{◌≡◌, refl, sym, ap, ap₂, ◌∙◌}
use mathlib.Core.Logic.{◌≢◌}
use mathlib.Core.Bool.{cond}
use mathlib.Core.List.{List, [], ◌∷◌, ◌++◌}
use Prim.Native.Nat.{ℕ, suc, ◌+◌, ◌*◌, ◌≤◌, ◌<◌}
use native.Mathlib.Omega.{arith}
use lib.Dec.{eqb}
use lib.ListN.{length, get_or, length-append}
use Rattle.xor.specs.Lists.{at, tab, All, done, ◌&◌, Below}
use Rattle.xor.proofs.ListsLaws.{all_append, all_with, all-front, all_rest, length-tab}
use Rattle.xor.proofs.Tests.{by_eq}
use Rattle.gadgets.specs.Steps.{each_share, Masked, Alike, Agree, Asked, Hidden}
use Rattle.gadgets.specs.Gadgets.{bytes, Common, Gadget, Kept, Strong}
use Rattle.gadgets.proofs.PicksLaws.{before, beyond, cut_count, before_below, beyond_below, cut_same, length-each, owners}
use Rattle.gadgets.proofs.CouplingLaws.{coupled-map}
use Rattle.gadgets.proofs.StepsLaws.{shows}

-- ---- variables

abbrev pub run : (d : ℕ) → Masked ℕ
run d = record { Value = ℕ → List ℕ; good = λ e. (v : ℕ) → length (e v) ≡ suc d; same = λ v i e e'. at (e v) i ≡ at (e' v) i }

unfoldable pub write : (ℕ → List ℕ) → (k : ℕ) → List ℕ → ℕ → List ℕ
write e k y v = cond (eqb v k) y (e v)

write_good : (d : ℕ) (e : ℕ → List ℕ) (k : ℕ) (y : List ℕ) → ((v : ℕ) → length (e v) ≡ suc d) → length y ≡ suc d
    → (v : ℕ) → length (write e k y v) ≡ suc d
unfolding write
write_good d e k y he hy v = by_eq (λ c. length (cond c y (e v)) ≡ suc d) v k (λ u. hy) (λ u. he v)

write_alike : (e e' : ℕ → List ℕ) (k : ℕ) (y y' : List ℕ) (os : ℕ → List ℕ) → All (λ i. at y i ≡ at y' i) (os k)
    → ((v : ℕ) → All (λ i. at (e v) i ≡ at (e' v) i) (os v))
    → (v : ℕ) → All (λ i. at (write e k y v) i ≡ at (write e' k y' v) i) (os v)
unfolding write
write_alike e e' k y y' os h f v =
    by_eq (λ c. All (λ i. at (cond c y (e v)) i ≡ at (cond c y' (e' v)) i) (os v)) v k (λ u. rw u h) (λ u. f v)

-- ---- a gadget that reads va, through a function of each share, and vb, and writes vo

module _ {width d need count : ℕ} {sheet out : (a b tape : List ℕ) → List ℕ} (G : Gadget width d need count sheet out) (va vb vo : ℕ) (ne : va ≢ vb)
    (f : List ℕ → List ℕ) (f_long : (x : List ℕ) → length (f x) ≡ length x)
    (f_same : (x x' : List ℕ) → length x ≡ suc d → length x' ≡ suc d → (i : ℕ) → i < suc d → at x i ≡ at x' i → at (f x) i ≡ at (f x') i) where
  module _ (ps : List ℕ) (os : ℕ → List ℕ) (k : Kept width d need count sheet out ps (os vo)) where
    asks_a : ℕ → List ℕ
    asks_a v = cond (eqb v va) k.of_a []

    asks_b : ℕ → List ℕ
    asks_b v = cond (eqb v vb) k.of_b []

    abbrev asks : ℕ → List ℕ
    asks v = asks_a v ++ asks_b v

    asks_few : (v : ℕ) → length (asks_a v) + length (asks_b v) ≤ length ps
    unfolding asks_a asks_b
    asks_few v =
        by_eq (λ c. length (cond c k.of_a []) + length (cond (eqb v vb) k.of_b []) ≤ length ps) v va
        (λ t. by_eq (λ c. length k.of_a + length (cond c k.of_b []) ≤ length ps) v vb
        (λ u. absurd (ne (sym t ∙ u))) (λ u. omega (arith, k.few_a)))
        (λ t. by_eq (λ c. length {A = ℕ} [] + length (cond c k.of_b []) ≤ length ps) v vb (λ u. omega (arith, k.few_b)) (λ u. omega arith))

    asks_in : (v : ℕ) → Below (suc d) (asks v)
    unfolding asks_a asks_b
    asks_in v =
        all_append (by_eq (λ c. Below (suc d) (cond c k.of_a [])) v va (λ u. k.in_a) (λ u. done))
        (by_eq (λ c. Below (suc d) (cond c k.of_b [])) v vb (λ u. k.in_b) (λ u. done))

    asked_a : (e e' : ℕ → List ℕ) → Alike (run d) asks e e' → Common (e va) (e' va) k.of_a
    unfolding asks_a
    asked_a e e' a =
        by_eq (λ c. All (λ i. at (e va) i ≡ at (e' va) i) (cond c k.of_a []) → All (λ i. at (e va) i ≡ at (e' va) i) k.of_a) va va
        (λ u h. h) (λ u h. absurd (u refl)) (all-front (asks_a va) (asks_b va) (a va))

    asked_b : (e e' : ℕ → List ℕ) → Alike (run d) asks e e' → Common (e vb) (e' vb) k.of_b
    unfolding asks_b
    asked_b e e' a =
        by_eq (λ c. All (λ i. at (e vb) i ≡ at (e' vb) i) (cond c k.of_b []) → All (λ i. at (e vb) i ≡ at (e' vb) i) k.of_b) vb vb
        (λ u h. h) (λ u h. absurd (u refl)) (all_rest (asks_a vb) (asks_b vb) (a vb))

    gadget_asked :
        Asked width d (run d) (run d) need count (λ e ts. sheet (f (e va)) (e vb) ts) (λ e ts. write e vo (out (f (e va)) (e vb) ts)) ps os
    gadget_asked =
        record {
          more = asks;
          few = λ v. omega (arith, asks_few v, length-append (asks_a v) (asks_b v));
          inside = asks_in;
          coupled = λ e e' h h' a o.
              coupled-map width need (Agree (bytes d) count ps (λ v. os vo)) (Agree (run d) count ps os)
              (λ ts. (sheet (f (e va)) (e vb) ts, out (f (e va)) (e vb) ts)) (λ ts. (sheet (f (e' va)) (e' vb) ts, out (f (e' va)) (e' vb) ts))
              (λ y. (y.0, write e vo y.1)) (λ y. (y.0, write e' vo y.1))
              (λ y y' q. record {
                shown = q.shown;
                alike = write_alike e e' vo y.1 y'.1 os (q.alike tt) o;
                long = q.long;
                long' = q.long';
                fine = write_good d e vo y.1 h q.fine;
                fine' = write_good d e' vo y'.1 h' q.fine';
              })
              (k.coupled (f (e va)) (f (e' va)) (e vb) (e' vb) (f_long (e va) ∙ h va) (f_long (e' va) ∙ h' va) (h vb) (h' vb)
              (all_with (λ i l s. f_same (e va) (e' va) (h va) (h' va) i l s) k.in_a (asked_a e e' a)) (asked_b e e' a));
        }

  pub gadget_step : Hidden width d (run d) (run d) need count (λ e ts. sheet (f (e va)) (e vb) ts) (λ e ts. write e vo (out (f (e va)) (e vb) ts))
  gadget_step =
      record {
        sheet_surplus = λ e ts us h. G.sheet_surplus (f (e va)) (e vb) ts us h;
        next_surplus = λ e ts us h. ap (write e vo) (G.out_surplus (f (e va)) (e vb) ts us h);
        sheet_length = λ e ts h. G.sheet_length (f (e va)) (e vb) ts (f_long (e va) ∙ h va);
        next_good = λ e ts h. write_good d e vo _ h (G.out_length (f (e va)) (e vb) ts (f_long (e va) ∙ h va));
        hidden = λ ps os below os_in few. gadget_asked ps os (G.sni ps (os vo) below (os_in vo) (few vo));
      }

-- the same, with va as it is
pub plain_step : {width d need count : ℕ} {sheet out : (a b tape : List ℕ) → List ℕ} → Gadget width d need count sheet out → (va vb vo : ℕ) → va ≢ vb
    → Hidden width d (run d) (run d) need count (λ e ts. sheet (e va) (e vb) ts) (λ e ts. write e vo (out (e va) (e vb) ts))
plain_step G va vb vo ne = gadget_step G va vb vo ne (λ x. x) (λ x. refl) (λ x x' l l' i h e. e)

-- a look at what is computed of each share of a variable
pub look_step : {width : ℕ} (d v m : ℕ) (g : ℕ → ℕ → List ℕ) → ((i a : ℕ) → length (g i a) ≡ m)
    → Hidden width d (run d) (run d) 0 (suc d * m) (λ e ts. each_share g 0 (e v)) (λ e ts. e)
look_step d v m g each_long =
    shows d (run d) (run d) (λ e. e) (λ e h. h) (λ w i e e' h h' l s. s) 0 m g each_long (λ e. e v) (λ e h. h v)
    (λ l w. cond (eqb w v) l [])
    (λ l w. by_eq (λ c. length (cond c l []) ≤ length l) w v (λ u. omega arith) (λ u. omega arith))
    (λ l w h. by_eq (λ c. Below (suc d) (cond c l [])) w v (λ u. h) (λ u. done))
    (λ l e e' h h' b a. unfold at in
    (by_eq (λ c. All (λ i. get_or (e v) i 0 ≡ get_or (e' v) i 0) (cond c l []) → All (λ i. get_or (e v) i 0 ≡ get_or (e' v) i 0) l) v v
    (λ u k. k) (λ u k. absurd (u refl)) (a v)))

-- ---- a chain from one variable to another, as a gadget of one input

-- variable 0 is the input, and the others are zeros
unfoldable pub start : (d : ℕ) → List ℕ → ℕ → List ℕ
start d x v = cond (eqb v 0) x (tab (λ i. 0) (suc d))

start_good : (d : ℕ) (x : List ℕ) → length x ≡ suc d → (v : ℕ) → length (start d x v) ≡ suc d
unfolding start
start_good d x h v = by_eq (λ c. length (cond c x (tab (λ i. 0) (suc d))) ≡ suc d) v 0 (λ u. h) (λ u. length-tab (λ i. 0) (suc d))

start_alike : (d : ℕ) (x x' : List ℕ) (of : ℕ → List ℕ) → Common x x' (of 0) → (v : ℕ) → All (λ i. at (start d x v) i ≡ at (start d x' v) i) (of v)
unfolding start
start_alike d x x' of h v =
    by_eq (λ c. All (λ i. at (cond c x (tab (λ i. 0) (suc d))) i ≡ at (cond c x' (tab (λ i. 0) (suc d))) i) (of v)) v 0
    (λ u. rw u h) (λ u. all_same (of v))
  where
    all_same : (l : List ℕ) → All (λ i. at (tab (λ i. 0) (suc d)) i ≡ at (tab (λ i. 0) (suc d)) i) l
    all_same [] = done
    all_same (x ∷ l) = refl & all_same l

module _ {width d need count : ℕ} {sh : (ℕ → List ℕ) → List ℕ → List ℕ} {nx : (ℕ → List ℕ) → List ℕ → ℕ → List ℕ}
    (H : Hidden width d (run d) (run d) need count sh nx) (vo : ℕ) (ne : 0 ≢ vo) where
  wanted : List ℕ → ℕ → List ℕ
  wanted os v = cond (eqb v vo) os []

  wanted_in : (os : List ℕ) → Below (suc d) os → (v : ℕ) → Below (suc d) (wanted os v)
  unfolding wanted
  wanted_in os h v = by_eq (λ c. Below (suc d) (cond c os [])) v vo (λ u. h) (λ u. done)

  wanted_few : (os ps : List ℕ) → length ps + length os ≤ d → (v : ℕ) → length ps + length (wanted os v) ≤ d
  unfolding wanted
  wanted_few os ps h v = by_eq (λ c. length ps + length (cond c os []) ≤ d) v vo (λ u. h) (λ u. omega arith)

  wanted_none : {P : ℕ → Type 0} (os : List ℕ) → All P (wanted os 0)
  unfolding wanted
  wanted_none {P} os = by_eq (λ c. All P (cond c os [])) 0 vo (λ u. absurd (ne u)) (λ u. done)

  wanted_all : {P : ℕ → Type 0} (os : List ℕ) → All P (wanted os vo) → All P os
  unfolding wanted
  wanted_all {P} os = by_eq (λ c. All P (cond c os []) → All P os) vo vo (λ u h. h) (λ u h. absurd (u refl))

  pub lone : Strong width d need count (λ x ts. sh (start d x) ts) (λ x ts. nx (start d x) ts vo)
  lone =
      record {
        sheet_surplus = λ x ts us h. H.sheet_surplus (start d x) ts us h;
        out_surplus = λ x ts us h. ap (λ (e : ℕ → List ℕ). e vo) (H.next_surplus (start d x) ts us h);
        sheet_length = λ x ts h. H.sheet_length (start d x) ts (start_good d x h);
        out_length = λ x ts h. H.next_good (start d x) ts (start_good d x h) vo;
        strong = λ ps os below os_in few.
            let a = H.hidden ps (wanted os) below (wanted_in os os_in) (wanted_few os ps few) in
            record {
              of = a.more 0;
              few = a.few 0;
              inside = a.inside 0;
              coupled = λ x x' h h' c.
                  coupled-map width need (Agree (run d) count ps (wanted os)) (Agree (bytes d) count ps (λ v. os))
                  (λ ts. (sh (start d x) ts, nx (start d x) ts)) (λ ts. (sh (start d x') ts, nx (start d x') ts))
                  (λ y. (y.0, y.1 vo)) (λ y. (y.0, y.1 vo))
                  (λ y y' q. record {
                    shown = q.shown;
                    alike = λ v. wanted_all os (q.alike vo);
                    long = q.long;
                    long' = q.long';
                    fine = q.fine vo;
                    fine' = q.fine' vo;
                  })
                  (a.coupled (start d x) (start d x') (start_good d x h) (start_good d x' h')
                  (start_alike d x x' a.more c) (start_alike d x x' (wanted os) (wanted_none os)));
            };
      }

-- ---- a function of each share before or after a gadget of one input, with what is computed on the way

module _ {width d need count : ℕ} {sheet out : (x tape : List ℕ) → List ℕ} (G : Strong width d need count sheet out)
    (f : List ℕ → List ℕ) (f_long : (x : List ℕ) → length (f x) ≡ length x)
    (f_same : (x x' : List ℕ) → length x ≡ suc d → length x' ≡ suc d → (i : ℕ) → i < suc d → at x i ≡ at x' i → at (f x) i ≡ at (f x') i)
    (m : ℕ) (g : ℕ → ℕ → List ℕ) (each_long : (i a : ℕ) → length (g i a) ≡ m) where
  seen_long : (x : List ℕ) → length x ≡ suc d → length (each_share g 0 x) ≡ suc d * m
  seen_long x h = length-each 0 m g each_long 0 x ∙ ap (λ (n : ℕ). n * m) h

  by_at : (x x' l : List ℕ) → Common x x' l → All (λ i. get_or x i 0 ≡ get_or x' i 0) l
  unfolding at
  by_at x x' l h = h

  pub strong_before : Strong width d need (suc d * m + count) (λ x ts. each_share g 0 x ++ sheet (f x) ts) (λ x ts. out (f x) ts)
  strong_before =
      record {
        sheet_surplus = λ x ts us h. ap (λ (l : List ℕ). each_share g 0 x ++ l) (G.sheet_surplus (f x) ts us h);
        out_surplus = λ x ts us h. G.out_surplus (f x) ts us h;
        sheet_length = λ x ts h.
            length-append (each_share g 0 x) (sheet (f x) ts) ∙ ap₂ ◌+◌ (seen_long x h) (G.sheet_length (f x) ts (f_long x ∙ h));
        out_length = λ x ts h. G.out_length (f x) ts (f_long x ∙ h);
        strong = λ ps os below os_in few.
            let k = suc d * m in
            let o = owners 0 m g each_long (suc d) (before_below k ps) in
            let a = G.strong (beyond k ps) os (beyond_below k count below) os_in (omega (arith, cut_count k ps)) in
            record {
              of = o.shares ++ a.of;
              few = omega (arith, length-append o.shares a.of, o.as_many, a.few, cut_count k ps);
              inside = all_append o.among a.inside;
              coupled = λ x x' h h' c.
                  coupled-map width need (Agree (bytes d) count (beyond k ps) (λ v. os)) (Agree (bytes d) (k + count) ps (λ v. os))
                  (λ ts. (sheet (f x) ts, out (f x) ts)) (λ ts. (sheet (f x') ts, out (f x') ts))
                  (λ y. (each_share g 0 x ++ y.0, y.1)) (λ y. (each_share g 0 x' ++ y.0, y.1))
                  (λ y y' q. record {
                    shown = cut_same k (each_share g 0 x) (each_share g 0 x') y.0 y'.0 (seen_long x h) (seen_long x' h') ps
                        (o.show 0 x x' h h' (by_at x x' o.shares (all-front o.shares a.of c))) q.shown;
                    alike = q.alike;
                    long = length-append (each_share g 0 x) y.0 ∙ ap₂ ◌+◌ (seen_long x h) q.long;
                    long' = length-append (each_share g 0 x') y'.0 ∙ ap₂ ◌+◌ (seen_long x' h') q.long';
                    fine = q.fine;
                    fine' = q.fine';
                  })
                  (a.coupled (f x) (f x') (f_long x ∙ h) (f_long x' ∙ h')
                  (all_with (λ i l s. f_same x x' h h' i l s) a.inside (all_rest o.shares a.of c)));
            };
      }

  pub strong-after : Strong width d need (count + suc d * m) (λ x ts. sheet x ts ++ each_share g 0 (out x ts)) (λ x ts. f (out x ts))
  strong-after =
      record {
        sheet_surplus = λ x ts us h. ap₂ (λ (l r : List ℕ). l ++ each_share g 0 r) (G.sheet_surplus x ts us h) (G.out_surplus x ts us h);
        out_surplus = λ x ts us h. ap f (G.out_surplus x ts us h);
        sheet_length = λ x ts h.
            length-append (sheet x ts) (each_share g 0 (out x ts))
            ∙ ap₂ ◌+◌ (G.sheet_length x ts h) (seen_long (out x ts) (G.out_length x ts h));
        out_length = λ x ts h. f_long (out x ts) ∙ G.out_length x ts h;
        strong = λ ps os below os_in few.
            let k = suc d * m in
            let o = owners 0 m g each_long (suc d) (beyond_below count k below) in
            let a = G.strong (before count ps) (o.shares ++ os) (before_below count ps) (all_append o.among os_in)
            (omega (arith, cut_count count ps, o.as_many, length-append o.shares os)) in
            record {
              of = a.of;
              few = omega (arith, a.few, cut_count count ps);
              inside = a.inside;
              coupled = λ x x' h h' c.
                  coupled-map width need (Agree (bytes d) count (before count ps) (λ v. o.shares ++ os)) (Agree (bytes d) (count + k) ps (λ v. os))
                  (λ ts. (sheet x ts, out x ts)) (λ ts. (sheet x' ts, out x' ts))
                  (λ y. (y.0 ++ each_share g 0 y.1, f y.1)) (λ y. (y.0 ++ each_share g 0 y.1, f y.1))
                  (λ y y' q. record {
                    shown = cut_same count y.0 y'.0 (each_share g 0 y.1) (each_share g 0 y'.1) q.long q.long' ps q.shown
                        (o.show 0 y.1 y'.1 q.fine q.fine' (by_at y.1 y'.1 o.shares (all-front o.shares os (q.alike tt))));
                    alike = λ v. all_with (λ i l s. f_same y.1 y'.1 q.fine q.fine' i l s) os_in (all_rest o.shares os (q.alike tt));
                    long = length-append y.0 (each_share g 0 y.1) ∙ ap₂ ◌+◌ q.long (seen_long y.1 q.fine);
                    long' = length-append y'.0 (each_share g 0 y'.1) ∙ ap₂ ◌+◌ q.long' (seen_long y'.1 q.fine');
                    fine = f_long y.1 ∙ q.fine;
                    fine' = f_long y'.1 ∙ q.fine';
                  })
                  (a.coupled x x' h h' c);
            };
      }
