-- STEPS THAT HIDE COMPOSE: one after another, beside a state that stays, and followed by a step that draws nothing. Assumes nothing.
use mathlib.Core.Path.{◌≡◌, refl, ap, ap₂, ◌∙◌}
use mathlib.Core.List.{List, [], ◌++◌}
use Prim.Native.Nat.{ℕ, suc, ◌+◌, ◌*◌, ◌≤◌, ◌<◌}
use native.Mathlib.Nat.{zero-add, add-zero}
use native.Mathlib.Omega.{arith}
use lib.ListN.{length, drop, get_or, length-append, length-drop}
use lib.Seq.{drop-append-le}
use Rattle.xor.specs.Lists.{All, done, Below}
use Rattle.xor.proofs.ListsLaws.{all_map, all_append, all_with, all-front, all_rest}
use Rattle.gadgets.specs.Coupling.{Coupled}
use Rattle.gadgets.specs.Steps.{each_share, Masked, Alike, Agree, Asked, Hidden}
use Rattle.gadgets.proofs.PicksLaws.{before, beyond, cut_count, before_below, beyond_below, cut_same, length-each, owners}
use Rattle.gadgets.proofs.CouplingLaws.{coupled-none, coupled-map, coupled_then}

module _ {Var : Type 0} where
  -- other words for the same counts
  pub recount : {width d n n' k k' : ℕ} {S T : Masked Var} {sh : S.Value → List ℕ → List ℕ} {nx : S.Value → List ℕ → T.Value}
      → n ≡ n' → k ≡ k' → Hidden width d S T n k sh nx → Hidden width d S T n' k' sh nx
  recount e f h = rw (e, f) at h

  -- ---- one step, and then another

  module _ {width d n m k l : ℕ} {S T U : Masked Var} {sh : S.Value → List ℕ → List ℕ} {nx : S.Value → List ℕ → T.Value}
      {sh' : T.Value → List ℕ → List ℕ} {nx' : T.Value → List ℕ → U.Value}
      (A : Hidden width d S T n k sh nx) (B : Hidden width d T U m l sh' nx') where
    pair_surplus : (s : S.Value) (ts us : List ℕ) → n ≤ length ts
        → ◌≡◌ {A = List ℕ × T.Value} (sh s (ts ++ us), nx s (ts ++ us)) (sh s ts, nx s ts)
    pair_surplus s ts us h = λ i. (A.sheet_surplus s ts us h i, A.next_surplus s ts us h i)

    rest_enough : (ts : List ℕ) → n + m ≤ length ts → m ≤ length (drop n ts)
    rest_enough ts h = omega (arith, length-drop n ts)

    both_sheets : (s : S.Value) (ts us : List ℕ) → n + m ≤ length ts
        → sh s (ts ++ us) ++ sh' (nx s (ts ++ us)) (drop n (ts ++ us)) ≡ sh s ts ++ sh' (nx s ts) (drop n ts)
    both_sheets s ts us h =
        let g : n ≤ length ts = omega arith in
        rw (A.sheet_surplus s ts us g, A.next_surplus s ts us g, drop-append-le n ts us g)
        (ap (λ (l : List ℕ). sh s ts ++ l) (B.sheet_surplus (nx s ts) (drop n ts) us (rest_enough ts h)))

    both_next : (s : S.Value) (ts us : List ℕ) → n + m ≤ length ts → nx' (nx s (ts ++ us)) (drop n (ts ++ us)) ≡ nx' (nx s ts) (drop n ts)
    both_next s ts us h =
        let g : n ≤ length ts = omega arith in
        rw (A.next_surplus s ts us g, drop-append-le n ts us g) (B.next_surplus (nx s ts) (drop n ts) us (rest_enough ts h))

    module _ (ps : List ℕ) (os : Var → List ℕ) (below : Below (k + l) ps) (os_in : (v : Var) → Below (suc d) (os v))
        (few : (v : Var) → length ps + length (os v) ≤ d) where
      abbrev ps₁ : List ℕ
      ps₁ = before k ps

      abbrev ps₂ : List ℕ
      ps₂ = beyond k ps

      later : Asked width d T U m l sh' nx' ps₂ os
      later = B.hidden ps₂ os (beyond_below k l below) os_in (λ v. omega (arith, few v, cut_count k ps))

      abbrev os' : Var → List ℕ
      os' v = later.more v ++ os v

      sooner : Asked width d S T n k sh nx ps₁ os'
      sooner =
          A.hidden ps₁ os' (before_below k ps) (λ v. all_append (later.inside v) (os_in v))
          (λ v. omega (arith, few v, cut_count k ps, later.few v, length-append (later.more v) (os v)))

      abbrev asks : Var → List ℕ
      asks v = sooner.more v ++ later.more v

      asks_few : (v : Var) → length (asks v) ≤ length ps
      asks_few v = omega (arith, length-append (sooner.more v) (later.more v), sooner.few v, later.few v, cut_count k ps)

      abbrev after : List ℕ × T.Value → List ℕ → List ℕ × U.Value
      after x vs = (x.0 ++ sh' x.1 vs, nx' x.1 vs)

      after-coupled : (x x' : List ℕ × T.Value) → Agree T k ps₁ os' x x' → Coupled width m (Agree U (k + l) ps os) (after x) (after x')
      after-coupled x x' r =
          coupled-map width m (Agree U l ps₂ os) (Agree U (k + l) ps os)
          (λ ts. (sh' x.1 ts, nx' x.1 ts)) (λ ts. (sh' x'.1 ts, nx' x'.1 ts))
          (λ y. (x.0 ++ y.0, y.1)) (λ y. (x'.0 ++ y.0, y.1))
          (λ y y' q. record {
            shown = cut_same k x.0 x'.0 y.0 y'.0 r.long r.long' ps r.shown q.shown;
            alike = q.alike;
            long = length-append x.0 y.0 ∙ ap₂ ◌+◌ r.long q.long;
            long' = length-append x'.0 y'.0 ∙ ap₂ ◌+◌ r.long' q.long';
            fine = q.fine;
            fine' = q.fine';
          })
          (later.coupled x.1 x'.1 r.fine r.fine'
          (λ v. all-front (later.more v) (os v) (r.alike v)) (λ v. all_rest (later.more v) (os v) (r.alike v)))

      both_asked : Asked width d S U (n + m) (k + l) (λ s ts. sh s ts ++ sh' (nx s ts) (drop n ts)) (λ s ts. nx' (nx s ts) (drop n ts)) ps os
      both_asked =
          record {
            more = asks;
            few = asks_few;
            inside = λ v. all_append (sooner.inside v) (later.inside v);
            coupled = λ s s' h h' a o.
                coupled_then width n m (Agree T k ps₁ os') (Agree U (k + l) ps os)
                (λ ts. (sh s ts, nx s ts)) (λ ts. (sh s' ts, nx s' ts)) after after
                (pair_surplus s) (pair_surplus s')
                (sooner.coupled s s' h h' (λ v. all-front (sooner.more v) (later.more v) (a v))
                (λ v. all_append (all_rest (sooner.more v) (later.more v) (a v)) (o v)))
                (λ us us' t t' r. after-coupled (sh s us, nx s us) (sh s' us', nx s' us') r);
          }

    pub then : Hidden width d S U (n + m) (k + l) (λ s ts. sh s ts ++ sh' (nx s ts) (drop n ts)) (λ s ts. nx' (nx s ts) (drop n ts))
    then =
        record {
          sheet_surplus = both_sheets;
          next_surplus = both_next;
          sheet_length = λ s ts h.
              length-append (sh s ts) (sh' (nx s ts) (drop n ts))
              ∙ ap₂ ◌+◌ (A.sheet_length s ts h) (B.sheet_length (nx s ts) (drop n ts) (A.next_good s ts h));
          next_good = λ s ts h. B.next_good (nx s ts) (drop n ts) (A.next_good s ts h);
          hidden = both_asked;
        }

  -- ---- steps that draw nothing

  module _ (d : ℕ) (S T : Masked Var) (f : S.Value → T.Value) (fine : (s : S.Value) → S.good s → T.good (f s))
      (apart : (v : Var) (i : ℕ) (s s' : S.Value) → S.good s → S.good s' → i < suc d → S.same v i s s' → T.same v i (f s) (f s')) where
    kept_alike : (os : Var → List ℕ) → ((v : Var) → Below (suc d) (os v))
        → (s s' : S.Value) → S.good s → S.good s' → Alike S os s s' → Alike T os (f s) (f s')
    kept_alike os os_in s s' h h' a v = all_with (λ i l e. apart v i s s' h h' l e) (os_in v) (a v)

    -- one that computes nothing: it only moves bytes
    pub moves : {width : ℕ} → Hidden width d S T 0 0 (λ s ts. []) (λ s ts. f s)
    moves {width} =
        record {
          sheet_surplus = λ s ts us h. refl;
          next_surplus = λ s ts us h. refl;
          sheet_length = λ s ts h. refl;
          next_good = λ s ts h. fine s h;
          hidden = λ ps os below os_in few.
              record {
                more = λ v. [];
                few = λ v. omega arith;
                inside = λ v. done;
                coupled = λ s s' h h' a o.
                    coupled-none width (Agree T 0 ps os) (λ ts. ([], f s)) (λ ts. ([], f s')) (record {
                      shown = all_map (λ p l. refl) below;
                      alike = kept_alike os os_in s s' h h' o;
                      long = refl;
                      long' = refl;
                      fine = fine s h;
                      fine' = fine s' h';
                    });
              };
        }

    -- one that shows what it computes share by share, from shares `read s` of variables; `ask` says of which variable they are
    module _ {A : Type 0} (e : A) (m : ℕ) (g : ℕ → A → List ℕ) (each_long : (i : ℕ) (x : A) → length (g i x) ≡ m)
        (read : S.Value → List A) (read_long : (s : S.Value) → S.good s → length (read s) ≡ suc d)
        (ask : List ℕ → Var → List ℕ) (ask_few : (l : List ℕ) (v : Var) → length (ask l v) ≤ length l)
        (ask_in : (l : List ℕ) (v : Var) → Below (suc d) l → Below (suc d) (ask l v))
        (asked : (l : List ℕ) (s s' : S.Value) → S.good s → S.good s' → Below (suc d) l
        → Alike S (ask l) s s' → All (λ i. get_or (read s) i e ≡ get_or (read s') i e) l) where
      show_length : (s : S.Value) → S.good s → length (each_share g 0 (read s)) ≡ suc d * m
      show_length s h = length-each e m g each_long 0 (read s) ∙ ap (λ (n : ℕ). n * m) (read_long s h)

      pub shows : {width : ℕ} → Hidden width d S T 0 (suc d * m) (λ s ts. each_share g 0 (read s)) (λ s ts. f s)
      shows {width} =
          record {
            sheet_surplus = λ s ts us h. refl;
            next_surplus = λ s ts us h. refl;
            sheet_length = λ s ts h. show_length s h;
            next_good = λ s ts h. fine s h;
            hidden = λ ps os below os_in few.
                let o = owners e m g each_long (suc d) below in
                record {
                  more = ask o.shares;
                  few = λ v. omega (arith, ask_few o.shares v, o.as_many);
                  inside = λ v. ask_in o.shares v o.among;
                  coupled = λ s s' h h' a b.
                      coupled-none width (Agree T (suc d * m) ps os)
                      (λ ts. (each_share g 0 (read s), f s)) (λ ts. (each_share g 0 (read s'), f s')) (record {
                        shown = o.show 0 (read s) (read s') (read_long s h) (read_long s' h') (asked o.shares s s' h h' o.among a);
                        alike = kept_alike os os_in s s' h h' b;
                        long = show_length s h;
                        long' = show_length s' h';
                        fine = fine s h;
                        fine' = fine s' h';
                      });
                };
          }

  -- ---- a step within a larger state: it reads `get s`, and what it makes is put back

  module _ {width d n k : ℕ} {S T S' T' : Masked Var} {sh : S.Value → List ℕ → List ℕ} {nx : S.Value → List ℕ → T.Value}
      (get : S'.Value → S.Value) (put : S'.Value → T.Value → T'.Value)
      (get_good : (s : S'.Value) → S'.good s → S.good (get s))
      (put_good : (s : S'.Value) (t : T.Value) → S'.good s → T.good t → T'.good (put s t))
      (get_same : (v : Var) (i : ℕ) (s s' : S'.Value) → S'.same v i s s' → S.same v i (get s) (get s'))
      (put_same : (v : Var) (i : ℕ) (s s' : S'.Value) (t t' : T.Value) → T.good t → T.good t' → i < suc d
      → S'.same v i s s' → T.same v i t t' → T'.same v i (put s t) (put s' t')) where
    within : Hidden width d S T n k sh nx → Hidden width d S' T' n k (λ s ts. sh (get s) ts) (λ s ts. put s (nx (get s) ts))
    within A =
        record {
          sheet_surplus = λ s ts us h. A.sheet_surplus (get s) ts us h;
          next_surplus = λ s ts us h. ap (put s) (A.next_surplus (get s) ts us h);
          sheet_length = λ s ts h. A.sheet_length (get s) ts (get_good s h);
          next_good = λ s ts h. put_good s (nx (get s) ts) h (A.next_good (get s) ts (get_good s h));
          hidden = λ ps os below os_in few.
              let a = A.hidden ps os below os_in few in
              record {
                more = a.more;
                few = a.few;
                inside = a.inside;
                coupled = λ s s' h h' m o.
                    coupled-map width n (Agree T k ps os) (Agree T' k ps os)
                    (λ ts. (sh (get s) ts, nx (get s) ts)) (λ ts. (sh (get s') ts, nx (get s') ts))
                    (λ y. (y.0, put s y.1)) (λ y. (y.0, put s' y.1))
                    (λ y y' q. record {
                      shown = q.shown;
                      alike = λ v.
                          all_with {P = λ i. (i < suc d) × S'.same v i s s'}
                          (λ i e f. put_same v i s s' y.1 y'.1 q.fine q.fine' e.0 e.1 f)
                          (all_with (λ i l e. (l, e)) (os_in v) (o v)) (q.alike v);
                      long = q.long;
                      long' = q.long';
                      fine = put_good s y.1 h q.fine;
                      fine' = put_good s' y'.1 h' q.fine';
                    })
                    (a.coupled (get s) (get s') (get_good s h) (get_good s' h')
                    (λ v. all_map (λ i e. get_same v i s s' e) (m v)) (λ v. all_map (λ i e. get_same v i s s' e) (o v)));
              };
        }

  -- what a step makes, moved on
  pub followed : {width d n k : ℕ} {S T : Masked Var} {sh : S.Value → List ℕ → List ℕ} {nx : S.Value → List ℕ → T.Value}
      (U : Masked Var) (f : T.Value → U.Value)
      → ((t : T.Value) → T.good t → U.good (f t))
      → ((v : Var) (i : ℕ) (t t' : T.Value) → T.good t → T.good t' → i < suc d → T.same v i t t' → U.same v i (f t) (f t'))
      → Hidden width d S T n k sh nx → Hidden width d S U n k sh (λ s ts. f (nx s ts))
  followed {S = S} U f fine apart A =
      within {S' = S} (λ s. s) (λ s t. f t) (λ s h. h) (λ s t h g. fine t g) (λ v i s s' e. e)
      (λ v i s s' t t' g g' l e q. apart v i t t' g g' l q) A

  -- beside a state that stays
  abbrev pub pair : Masked Var → Masked Var → Masked Var
  pair K S =
      record {
        Value = K.Value × S.Value;
        good = λ s. K.good s.0 × S.good s.1;
        same = λ v i s s'. K.same v i s.0 s'.0 × S.same v i s.1 s'.1;
      }

  pub beside : {width d n k : ℕ} {S T : Masked Var} {sh : S.Value → List ℕ → List ℕ} {nx : S.Value → List ℕ → T.Value} (K : Masked Var)
      → Hidden width d S T n k sh nx → Hidden width d (pair K S) (pair K T) n k (λ s ts. sh s.1 ts) (λ s ts. (s.0, nx s.1 ts))
  beside {S = S} {T} K A =
      within {S' = pair K S} {T' = pair K T} (λ s. s.1) (λ s t. (s.0, t)) (λ s h. h.1) (λ s t h g. (h.0, g)) (λ v i s s' e. e.1)
      (λ v i s s' t t' g g' l e q. (e.0, q)) A

  -- ---- a step that draws nothing after another, and before it

  pub then_show : {width d n k l : ℕ} {S T U : Masked Var} {sh : S.Value → List ℕ → List ℕ} {nx : S.Value → List ℕ → T.Value}
      {sh' : T.Value → List ℕ → List ℕ} {nx' : T.Value → List ℕ → U.Value} → Hidden width d S T n k sh nx → Hidden width d T U 0 l sh' nx'
      → Hidden width d S U n (k + l) (λ s ts. sh s ts ++ sh' (nx s ts) (drop n ts)) (λ s ts. nx' (nx s ts) (drop n ts))
  then_show {n = n} A B = recount (add-zero n) refl (then A B)

  pub show_then : {width d m k l : ℕ} {S T U : Masked Var} {sh : S.Value → List ℕ → List ℕ} {nx : S.Value → List ℕ → T.Value}
      {sh' : T.Value → List ℕ → List ℕ} {nx' : T.Value → List ℕ → U.Value} → Hidden width d S T 0 k sh nx → Hidden width d T U m l sh' nx'
      → Hidden width d S U m (k + l) (λ s ts. sh s ts ++ sh' (nx s ts) ts) (λ s ts. nx' (nx s ts) ts)
  show_then {m = m} A B = recount (zero-add m) refl (then A B)
