-- STEPS ON STRINGS IN SHARES HIDE: what is computed share by share, and S-boxes of listed bytes, which are strongly non-interfering. The shares that
-- must stay are the same for all bytes of a string. Assumes nothing.
use mathlib.Core.Path.{◌≡◌, refl, sym, ap, ap₂, ◌∙◌}
use mathlib.Core.List.{List, [], ◌∷◌, ◌++◌, map}
use Prim.Native.Nat.{ℕ, zero, suc, ◌*◌, ◌<◌}
use native.Mathlib.Omega.{arith}
use lib.ListN.{length, get_or, set, length-map}
use Rattle.xor.specs.Lists.{at, tab}
use Rattle.xor.specs.Sums.{xors}
use Rattle.xor.proofs.ListsLaws.{all_with, length-tab}
use Rattle.gf256.specs.declared.Direction.{Direction}
use Rattle.shares.specs.Strings.{Shares}
use Rattle.gadgets.specs.Steps.{each_share, Masked, Agree, Hidden}
use Rattle.gadgets.specs.Gadgets.{bytes}
use Rattle.gadgets.proofs.CouplingLaws.{coupled-map}
use Rattle.gadgets.proofs.StepsLaws.{then, moves, shows, show_then, pair}
use Rattle.sbox.specs.Box.{box_of, box_need}
use Rattle.cipher.specs.States.{column, put, adds, behind, into_first}
use Rattle.cipher.specs.Cipher.{sub_at, subs_of, subs_need}
use Rattle.probing.specs.BoxPlaces.{number, box_sheet, box_count}
use Rattle.probing.specs.StringPlaces.{shares_sheet, whole_sheet, string_sheet, string_count, subs_sheet, subs_count}
use Rattle.probing.proofs.BoxStrong.{box-strong}

-- a string in shares. Its bytes are one variable: what must stay is asked of share i as a whole
abbrev pub strings : (d : ℕ) → Masked (Unit {0})
strings d = record { Value = Shares; good = λ ss. length ss ≡ suc d; same = λ v i ss ss'. get_or ss i [] ≡ get_or ss' i [] }

-- ---- share i of what is computed share by share

share_map : (f : List ℕ → List ℕ) (ss : Shares) (i : ℕ) → i < length ss → get_or (map f ss) i [] ≡ f (get_or ss i [])
share_map f [] i h = absurd (omega arith)
share_map f (s ∷ ss) zero h = refl
share_map f (s ∷ ss) (suc i) h = share_map f ss i (omega arith)

share_adds : (ss ts : Shares) (i : ℕ) → i < length ss → i < length ts → get_or (adds ss ts) i [] ≡ xors (get_or ss i []) (get_or ts i [])
unfolding adds
share_adds [] ts i h g = absurd (omega arith)
share_adds (s ∷ ss) [] i h g = absurd (omega arith)
share_adds (s ∷ ss) (t ∷ ts) zero h g = refl
share_adds (s ∷ ss) (t ∷ ts) (suc i) h g = share_adds ss ts i (omega arith) (omega arith)

length-adds : (ss ts : Shares) → length ss ≡ length ts → length (adds ss ts) ≡ length ss
unfolding adds
length-adds [] [] e = refl
length-adds [] (t ∷ ts) e = absurd (omega arith)
length-adds (s ∷ ss) [] e = refl
length-adds (s ∷ ss) (t ∷ ts) e = ap suc (length-adds ss ts (omega arith))

share_behind : (ss ts : Shares) (i : ℕ) → i < length ss → i < length ts → get_or (behind ss ts) i [] ≡ get_or ss i [] ++ get_or ts i []
unfolding behind
share_behind [] ts i h g = absurd (omega arith)
share_behind (s ∷ ss) [] i h g = absurd (omega arith)
share_behind (s ∷ ss) (t ∷ ts) zero h g = refl
share_behind (s ∷ ss) (t ∷ ts) (suc i) h g = share_behind ss ts i (omega arith) (omega arith)

length-behind : (ss ts : Shares) → length ss ≡ length ts → length (behind ss ts) ≡ length ss
unfolding behind
length-behind [] [] e = refl
length-behind [] (t ∷ ts) e = absurd (omega arith)
length-behind (s ∷ ss) [] e = refl
length-behind (s ∷ ss) (t ∷ ts) e = ap suc (length-behind ss ts (omega arith))

into_share : List ℕ → (i : ℕ) → List ℕ → List ℕ
into_share t zero s = xors s t
into_share t (suc i) s = s

share_into_first : (t : List ℕ) (ss : Shares) (i : ℕ) → i < length ss → get_or (into_first t ss) i [] ≡ into_share t i (get_or ss i [])
unfolding into_first into_share
share_into_first t [] i h = absurd (omega arith)
share_into_first t (s ∷ ss) zero h = refl
share_into_first t (s ∷ ss) (suc i) h = refl

length-into_first : (t : List ℕ) (ss : Shares) → length (into_first t ss) ≡ length ss
unfolding into_first
length-into_first t [] = refl
length-into_first t (s ∷ ss) = refl

share_put : (ss : Shares) (k : ℕ) (vs : List ℕ) (i : ℕ) → i < length ss → i < length vs
    → get_or (put ss k vs) i [] ≡ set (get_or ss i []) k (at vs i)
unfolding put at
share_put [] k vs i h g = absurd (omega arith)
share_put (s ∷ ss) k [] i h g = absurd (omega arith)
share_put (s ∷ ss) k (v ∷ vs) zero h g = refl
share_put (s ∷ ss) k (v ∷ vs) (suc i) h g = share_put ss k vs i (omega arith) (omega arith)

length-put : (ss : Shares) (k : ℕ) (vs : List ℕ) → length (put ss k vs) ≡ length ss
unfolding put
length-put [] k vs = refl
length-put (s ∷ ss) k [] = refl
length-put (s ∷ ss) k (v ∷ vs) = ap suc (length-put ss k vs)

pub share_column : (k : ℕ) (ss : Shares) (i : ℕ) → i < length ss → at (column k ss) i ≡ at (get_or ss i []) k
unfolding column at
share_column k [] i h = absurd (omega arith)
share_column k (s ∷ ss) zero h = refl
share_column k (s ∷ ss) (suc i) h = share_column k ss i (omega arith)

pub length-column : (k : ℕ) (ss : Shares) → length (column k ss) ≡ length ss
unfolding column
length-column k ss = length-map ss (λ s. at s k)

module _ (d : ℕ) where
  abbrev pub Strings : Masked (Unit {0})
  Strings = strings d

  -- ---- strings that are computed share by share from a state

  pub record Reads (S : Masked (Unit {0})) (r : S.Value → Shares) : Type 0 where
    pub as_many : (s : S.Value) → S.good s → length (r s) ≡ suc d
    pub apart : (i : ℕ) (s s' : S.Value) → S.good s → S.good s' → i < suc d → S.same tt i s s' → get_or (r s) i [] ≡ get_or (r s') i []

  pub reads_self : Reads Strings (λ s. s)
  reads_self = record { as_many = λ s h. h; apart = λ i s s' h h' l e. e }

  abbrev pub Two : Masked (Unit {0})
  Two = pair Strings Strings

  pub reads_first : Reads Two (λ s. s.0)
  reads_first = record { as_many = λ s h. h.0; apart = λ i s s' h h' l e. e.0 }

  pub reads_second : Reads Two (λ s. s.1)
  reads_second = record { as_many = λ s h. h.1; apart = λ i s s' h h' l e. e.1 }

  module _ {S : Masked (Unit {0})} where
    pub reads-map : {r : S.Value → Shares} (f : List ℕ → List ℕ) → Reads S r → Reads S (λ s. map f (r s))
    reads-map {r} f R =
        record {
          as_many = λ s h. length-map (r s) f ∙ R.as_many s h;
          apart = λ i s s' h h' l e.
              share_map f (r s) i (omega (arith, R.as_many s h))
              ∙ ap f (R.apart i s s' h h' l e)
              ∙ sym (share_map f (r s') i (omega (arith, R.as_many s' h')));
        }

    pub reads-adds : {r q : S.Value → Shares} → Reads S r → Reads S q → Reads S (λ s. adds (r s) (q s))
    reads-adds {r} {q} R Q =
        record {
          as_many = λ s h. length-adds (r s) (q s) (R.as_many s h ∙ sym (Q.as_many s h)) ∙ R.as_many s h;
          apart = λ i s s' h h' l e.
              share_adds (r s) (q s) i (omega (arith, R.as_many s h)) (omega (arith, Q.as_many s h))
              ∙ ap₂ xors (R.apart i s s' h h' l e) (Q.apart i s s' h h' l e)
              ∙ sym (share_adds (r s') (q s') i (omega (arith, R.as_many s' h')) (omega (arith, Q.as_many s' h')));
        }

    pub reads-behind : {r q : S.Value → Shares} → Reads S r → Reads S q → Reads S (λ s. behind (r s) (q s))
    reads-behind {r} {q} R Q =
        record {
          as_many = λ s h. length-behind (r s) (q s) (R.as_many s h ∙ sym (Q.as_many s h)) ∙ R.as_many s h;
          apart = λ i s s' h h' l e.
              share_behind (r s) (q s) i (omega (arith, R.as_many s h)) (omega (arith, Q.as_many s h))
              ∙ ap₂ ◌++◌ (R.apart i s s' h h' l e) (Q.apart i s s' h h' l e)
              ∙ sym (share_behind (r s') (q s') i (omega (arith, R.as_many s' h')) (omega (arith, Q.as_many s' h')));
        }

    pub reads-into : {r : S.Value → Shares} (t : List ℕ) → Reads S r → Reads S (λ s. into_first t (r s))
    reads-into {r} t R =
        record {
          as_many = λ s h. length-into_first t (r s) ∙ R.as_many s h;
          apart = λ i s s' h h' l e.
              share_into_first t (r s) i (omega (arith, R.as_many s h)) ∙ ap (into_share t i) (R.apart i s s' h h' l e)
              ∙ sym (share_into_first t (r s') i (omega (arith, R.as_many s' h')));
        }

    -- ---- steps that draw nothing, to one string or to two

    pub to_one : {r : S.Value → Shares} → Reads S r → Hidden 8 d S Strings 0 0 (λ s ts. []) (λ s ts. r s)
    to_one {r} R = moves d S Strings r (λ s h. R.as_many s h) (λ v i s s' h h' l e. R.apart i s s' h h' l e)

    pub to_two : {r q : S.Value → Shares} → Reads S r → Reads S q → Hidden 8 d S Two 0 0 (λ s ts. []) (λ s ts. (r s, q s))
    to_two {r} {q} R Q =
        moves d S Two (λ s. (r s, q s)) (λ s h. (R.as_many s h, Q.as_many s h))
        (λ v i s s' h h' l e. (R.apart i s s' h h' l e, Q.apart i s s' h h' l e))

    module _ (m : ℕ) (g : ℕ → List ℕ → List ℕ) (each_long : (i : ℕ) (s : List ℕ) → length (g i s) ≡ m) where
      -- to any state
      pub show_to : (T : Masked (Unit {0})) (f : S.Value → T.Value) → ((s : S.Value) → S.good s → T.good (f s))
          → ((v : Unit {0}) (i : ℕ) (s s' : S.Value) → S.good s → S.good s' → i < suc d → S.same v i s s' → T.same v i (f s) (f s'))
          → {q : S.Value → Shares} → Reads S q → Hidden 8 d S T 0 (suc d * m) (λ s ts. each_share g 0 (q s)) (λ s ts. f s)
      show_to T f fine apart {q} Q =
          shows d S T f fine apart [] m g each_long q (λ s h. Q.as_many s h)
          (λ l v. l) (λ l v. omega arith) (λ l v h. h) (λ l s s' h h' b a. all_with (λ i u e. Q.apart i s s' h h' u e) b (a tt))

      pub show_two : {r p q : S.Value → Shares} → Reads S r → Reads S p → Reads S q
          → Hidden 8 d S Two 0 (suc d * m) (λ s ts. each_share g 0 (q s)) (λ s ts. (r s, p s))
      show_two {r} {p} {q} R P Q =
          show_to Two (λ s. (r s, p s)) (λ s h. (R.as_many s h, P.as_many s h))
          (λ v i s s' h h' l e. (R.apart i s s' h h' l e, P.apart i s s' h h' l e)) Q

    -- a string that is shown, each share as a whole and its bytes
    module _ (m : ℕ) where
      pub string_to : (T : Masked (Unit {0})) (f : S.Value → T.Value) → ((s : S.Value) → S.good s → T.good (f s))
          → ((v : Unit {0}) (i : ℕ) (s s' : S.Value) → S.good s → S.good s' → i < suc d → S.same v i s s' → T.same v i (f s) (f s'))
          → {q : S.Value → Shares} → Reads S q → Hidden 8 d S T 0 (string_count m d) (λ s ts. string_sheet m (q s)) (λ s ts. f s)
      unfolding string_count string_sheet whole_sheet shares_sheet
      string_to T f fine apart Q =
          show_then (show_to 1 (λ i s. number s ∷ []) (λ i s. refl) S (λ s. s) (λ s h. h) (λ v i s s' h h' l e. e) Q)
          (show_to m (λ i s. tab (at s) m) (λ i s. length-tab (at s) m) T f fine apart Q)

      pub string_one : {r q : S.Value → Shares} → Reads S r → Reads S q
          → Hidden 8 d S Strings 0 (string_count m d) (λ s ts. string_sheet m (q s)) (λ s ts. r s)
      string_one {r} R Q = string_to Strings r (λ s h. R.as_many s h) (λ v i s s' h h' l e. R.apart i s s' h h' l e) Q

      pub string_two : {r p q : S.Value → Shares} → Reads S r → Reads S p → Reads S q
          → Hidden 8 d S Two 0 (string_count m d) (λ s ts. string_sheet m (q s)) (λ s ts. (r s, p s))
      string_two {r} {p} R P Q =
          string_to Two (λ s. (r s, p s)) (λ s h. (R.as_many s h, P.as_many s h))
          (λ v i s s' h h' l e. (R.apart i s s' h h' l e, P.apart i s s' h h' l e)) Q

  -- ---- S-boxes

  -- byte k of two strings, made anew alike in share i
  put_same : (k i : ℕ) (ss ss' : Shares) (vs vs' : List ℕ) → length ss ≡ suc d → length ss' ≡ suc d → length vs ≡ suc d → length vs' ≡ suc d
      → i < suc d → get_or ss i [] ≡ get_or ss' i [] → at vs i ≡ at vs' i → get_or (put ss k vs) i [] ≡ get_or (put ss' k vs') i []
  put_same k i ss ss' vs vs' l l' n n' u e f =
      share_put ss k vs i (omega arith) (omega arith)
      ∙ ap₂ (λ (s : List ℕ) (b : ℕ). set s k b) e f
      ∙ sym (share_put ss' k vs' i (omega arith) (omega arith))

  pub column-same : (k i : ℕ) (ss ss' : Shares) → length ss ≡ suc d → length ss' ≡ suc d → i < suc d → get_or ss i [] ≡ get_or ss' i []
      → at (column k ss) i ≡ at (column k ss') i
  column-same k i ss ss' l l' u e =
      share_column k ss i (omega arith) ∙ ap (λ (s : List ℕ). at s k) e ∙ sym (share_column k ss' i (omega arith))

  sub_step : (w : Direction) (k : ℕ)
      → Hidden 8 d Strings Strings (box_need d) (box_count d) (λ ss ts. box_sheet w d (column k ss) ts) (λ ss ts. sub_at w d k ss ts)
  unfolding sub_at
  sub_step w k =
      let B = box-strong d w in
      record {
        sheet_surplus = λ ss ts us h. B.sheet_surplus (column k ss) ts us h;
        next_surplus = λ ss ts us h. ap (put ss k) (B.out_surplus (column k ss) ts us h);
        sheet_length = λ ss ts h. B.sheet_length (column k ss) ts (length-column k ss ∙ h);
        next_good = λ ss ts h. length-put ss k (box_of w d (column k ss) ts) ∙ h;
        hidden = λ ps os below os_in few.
            let a = B.strong ps (os tt) below (os_in tt) (few tt) in
            record {
              more = λ v. a.of;
              few = λ v. a.few;
              inside = λ v. a.inside;
              coupled = λ ss ss' h h' m o.
                  coupled-map 8 (box_need d) (Agree (bytes d) (box_count d) ps (λ v. os tt)) (Agree Strings (box_count d) ps os)
                  (λ ts. (box_sheet w d (column k ss) ts, box_of w d (column k ss) ts))
                  (λ ts. (box_sheet w d (column k ss') ts, box_of w d (column k ss') ts))
                  (λ y. (y.0, put ss k y.1)) (λ y. (y.0, put ss' k y.1))
                  (λ y y' q. record {
                    shown = q.shown;
                    alike = λ v.
                        all_with {P = λ i. (i < suc d) × (get_or ss i [] ≡ get_or ss' i [])}
                        (λ i u e. put_same k i ss ss' y.1 y'.1 h h' q.fine q.fine' u.0 u.1 e)
                        (all_with (λ i l e. (l, e)) (os_in tt) (o tt)) (q.alike tt);
                    long = q.long;
                    long' = q.long';
                    fine = length-put ss k y.1 ∙ h;
                    fine' = length-put ss' k y'.1 ∙ h';
                  })
                  (a.coupled (column k ss) (column k ss') (length-column k ss ∙ h) (length-column k ss' ∙ h')
                  (all_with (λ i u e. column-same k i ss ss' h h' u e) a.inside (m tt)));
            };
      }

  pub subs_step : (w : Direction) (ks : List ℕ) → Hidden 8 d Strings Strings (subs_need d ks) (subs_count d ks) (subs_sheet w d ks) (subs_of w d ks)
  unfolding subs_need subs_count subs_sheet subs_of
  subs_step w [] = to_one reads_self
  subs_step w (k ∷ ks) = then (sub_step w k) (subs_step w ks)
