-- Reading a number digit by digit. Assumes nothing.
use mathlib.Core.Path.{◌≡◌, refl, sym, ap, ◌∙◌}
use mathlib.Core.Bool.{Bool, true, false, cond}
use mathlib.Core.List.{List, [], ◌∷◌}
use Prim.Native.Nat.{ℕ, ◌+◌, ◌≤◌, ◌<◌}
use native.Mathlib.Numerals.{add-one}
use native.Mathlib.Omega.{arith}
use Rattle.std.proofs.lemmas.Bool.{lt-ltb}
use lib.ListN.{length, drop, get_or, drop_of_length-le}
use lib.Seq.{drop-cons}
use Rattle.std.specs.Prelude.{Option, Some, None}
use Rattle.text.specs.Decimal.{is_decimal, appended, number_from, decimal_from, read}

-- the number that digits are behind a number v
unfoldable pub read_on : ℕ → List ℕ → Option ℕ
read_on v cs = cond (decimal_from true cs) (Some (number_from v cs)) None

-- a text that has a character is read from 0
pub read_first : (t : List ℕ) → 0 < length t → read_on 0 t ≡ read t
unfolding read_on read
read_first t h = rw (lt-ltb 0 (length t) h) refl

pub read_empty : (t : List ℕ) → length t ≡ 0 → None ≡ read t
unfolding read decimal_from
read_empty [] h = refl
read_empty (c ∷ cs) h = absurd (omega arith)

-- behind a character that is no digit there is no number
none_from : (cs : List ℕ) → decimal_from false cs ≡ false
unfolding decimal_from
none_from [] = refl
none_from (c ∷ cs) = none_from cs

-- one character more, where it is a digit
one_more : (b : Bool) (c v w : ℕ) (cs : List ℕ) → is_decimal c ≡ b → Some w ≡ cond b (Some (appended v c)) None
    → read_on w cs ≡ read_on v (c ∷ cs)
unfolding read_on decimal_from number_from
one_more true c v w cs d e =
    let k : w ≡ appended v c = cc in
    rw k (ap (λ (b : Bool). cond (decimal_from b cs) (Some (number_from (appended v c) cs)) None) (sym d))
one_more false c v w cs d e = cc

no_more : (b : Bool) (c v : ℕ) (cs : List ℕ) → is_decimal c ≡ b → None ≡ cond b (Some (appended v c)) None → None ≡ read_on v (c ∷ cs)
unfolding read_on decimal_from number_from
no_more true c v cs d e = cc
no_more false c v cs d e =
    ap (λ (b : Bool). cond b (Some (number_from (appended v c) cs)) None) (sym (ap (λ (b : Bool). decimal_from b cs) d ∙ none_from cs))

pub read_more : (t : List ℕ) (k v w : ℕ) → Some w ≡ cond (is_decimal (get_or t k 0)) (Some (appended v (get_or t k 0))) None → k < length t
    → read_on w (drop (k + 1) t) ≡ read_on v (drop k t)
read_more t k v w e h = rw (add-one k, drop-cons t k 0 h) (one_more _ _ _ _ _ refl e)

pub read_none : (t : List ℕ) (k v : ℕ) → None ≡ cond (is_decimal (get_or t k 0)) (Some (appended v (get_or t k 0))) None → k < length t
    → None ≡ read_on v (drop k t)
read_none t k v e h = rw (drop-cons t k 0 h) (no_more _ _ _ _ refl e)

-- no character is left
pub read_all : (t : List ℕ) (k v : ℕ) → length t ≤ k → Some v ≡ read_on v (drop k t)
unfolding read_on decimal_from number_from
read_all t k v h = rw (drop_of_length-le t {i = k} h) refl
