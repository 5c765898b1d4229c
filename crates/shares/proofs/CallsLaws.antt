-- What is known of a call that its tests let through, by the names of the tests. Assumes nothing.
use mathlib.Core.Path.{◌≡◌, sym, ap, ◌∙◌}
use mathlib.Core.Bool.{true}
use mathlib.Core.List.{List, [], ◌∷◌}
use Prim.Native.Nat.{ℕ, suc, ◌*◌, ◌≤◌, ◌<◌}
use lib.Dec.{ltb, eqb}
use borrow.Author.Tests.{eqb-true, ltb-true}
use Rattle.outcomes.specs.declared.Refusal.TheVariants.{Order, Input, Output, Tape}
use Rattle.outcomes.specs.declared.Count.{Count}
use Rattle.outcomes.specs.Outcome.{Answer}
use Rattle.std.specs.Prelude.{Ok}
use Rattle.outcomes.specs.Outcome.{Test, test, answered, took, served, reaches, share_length}
use Rattle.tape_words.specs.Words.{words_for}
use Rattle.shares.specs.Strings.{split_need}
use Rattle.shares.specs.Calls.{input_served, input_tests, split_served, split_tests, join_served, join_tests}
use Rattle.outcomes.proofs.OutcomeLaws.{Passed, ◌and◌, answered-behind, answered-taken, served_bounds, reaches_le}

-- ---- the shares of one byte

-- what the tests of a call answer, by its own need
pub input-answered : {bytes : ℕ} (room need d x t o : ℕ) (a : Answer) → bytes ≡ need
    → a ≡ answered (input_tests room (words_for bytes) d x t o) (took (words_for bytes))
    → a ≡ answered (input_tests room (words_for need) d x t o) (took (words_for need))
input-answered room need d x t o a same e =
    e ∙ ap (λ (n : ℕ). answered (input_tests room (words_for n) d x t o) (took (words_for n))) same

-- the same of the tests behind the order's
pub input_served-answered : {bytes : ℕ} (room need d x t o : ℕ) (a : Answer) → bytes ≡ need
    → a ≡ answered (input_served room (words_for bytes) d x t o) (took (words_for bytes))
    → a ≡ answered (input_served room (words_for need) d x t o) (took (words_for need))
input_served-answered room need d x t o a same e =
    e ∙ ap (λ (n : ℕ). answered (input_served room (words_for n) d x t o) (took (words_for n))) same

-- the room counts only where the order is served
pub input-room : (room' room need d x t o : ℕ) (k : Count) (a : Answer) → (served d ≡ true → room' ≡ room)
    → a ≡ answered (input_tests room' need d x t o) k → a ≡ answered (input_tests room need d x t o) k
input-room room' room need d x t o k a same e =
    e ∙ answered-behind Order (served d) _ _ k (λ u. ap (λ (m : ℕ). input_served m need d x t o) (same u))

-- let through by the tests behind the order's, at any order
pub record InputServed (room need d x t o : ℕ) : Type 0 where
  pub input : x ≡ suc d
  pub output : o ≡ room
  pub drawn : need ≤ t

pub input_served-passed : (room need d x t o : ℕ) → Passed (input_served room need d x t o) → InputServed room need d x t o
input_served-passed room need d x t o (i and r and n and p) =
    record { input = eqb-true x (suc d) i; output = eqb-true o room r; drawn = reaches_le t need n }

pub input_served-through : (room need d x t o : ℕ) (a : Answer) (c : Count) → a ≡ answered (input_served room need d x t o) (took need) → a ≡ Ok c
    → InputServed room need d x t o
input_served-through room need d x t o a c e f = input_served-passed room need d x t o (answered-taken _ _ c (sym e ∙ f)).0

-- by all of them
pub record InputThrough (room need d x t o : ℕ) : Type 0 where
  pub order : d ≤ 8
  pub input : x ≡ suc d
  pub output : o ≡ room
  pub drawn : need ≤ t

pub input-passed : (room need d x t o : ℕ) → Passed (input_tests room need d x t o) → InputThrough room need d x t o
input-passed room need d x t o (u and p) =
    let s = input_served-passed room need d x t o p in
    record { order = (served_bounds d u).1; input = s.input; output = s.output; drawn = s.drawn }

pub input_through : (room need d x t o : ℕ) (a : Answer) (c : Count) → a ≡ answered (input_tests room need d x t o) (took need) → a ≡ Ok c
    → InputThrough room need d x t o
input_through room need d x t o a c e f = input-passed room need d x t o (answered-taken _ _ c (sym e ∙ f)).0

-- ---- split and join

-- the tests of a splitting on a share's length and a need that were found
abbrev split_tests_lem : (n l d t o : ℕ) → List Test
split_tests_lem n l d t o = test Input (ltb 0 l) ∷ test Output (eqb o (suc d * l)) ∷ test Tape (reaches t n) ∷ []

pub split-answered : (n l d x t o : ℕ) (a : Answer) → l ≡ share_length 1 x → n ≡ words_for (d * l)
    → a ≡ answered (split_tests_lem n l d t o) (took n)
    → a ≡ answered (split_served d x t o) (took (words_for (split_need d (share_length 1 x))))
unfolding split_need
split-answered n l d x t o a e q f =
    f
    ∙ ap (λ (m : ℕ). answered (split_tests_lem m l d t o) (took m)) q
    ∙ ap (λ (m : ℕ). answered (split_tests_lem (words_for (d * m)) m d t o) (took (words_for (d * m)))) e

-- the same of a joining
abbrev join_tests_lem : (l d o : ℕ) → List Test
join_tests_lem l d o = test Input (ltb 0 l) ∷ test Output (eqb o l) ∷ []

pub join_answered : (l d x o : ℕ) (a : Answer) → l ≡ share_length (suc d) x → a ≡ answered (join_tests_lem l d o) (took 0)
    → a ≡ answered (join_served d x o) (took 0)
join_answered l d x o a e f = f ∙ ap (λ (n : ℕ). answered (join_tests_lem n d o) (took 0)) e

-- let through by the tests behind the order's, at any order; and by all of them
pub record SplitServed (d x t o : ℕ) : Type 0 where
  pub input : 0 < share_length 1 x
  pub output : o ≡ suc d * share_length 1 x
  pub drawn : words_for (split_need d (share_length 1 x)) ≤ t

pub split_served-passed : (d x t o : ℕ) → Passed (split_served d x t o) → SplitServed d x t o
split_served-passed d x t o (i and r and n and p) =
    record { input = ltb-true 0 (share_length 1 x) i; output = eqb-true o _ r; drawn = reaches_le t _ n }

pub split_served-through : (d x t o : ℕ) (a : Answer) (k c : Count) → a ≡ answered (split_served d x t o) k → a ≡ Ok c → SplitServed d x t o
split_served-through d x t o a k c e f = split_served-passed d x t o (answered-taken _ k c (sym e ∙ f)).0

pub record SplitThrough (d x t o : ℕ) : Type 0 where
  pub order : d ≤ 8
  pub input : 0 < share_length 1 x
  pub output : o ≡ suc d * share_length 1 x
  pub drawn : words_for (split_need d (share_length 1 x)) ≤ t

pub split-passed : (d x t o : ℕ) → Passed (split_tests d x t o) → SplitThrough d x t o
split-passed d x t o (u and p) =
    let s = split_served-passed d x t o p in
    record { order = (served_bounds d u).1; input = s.input; output = s.output; drawn = s.drawn }

pub split_through : (d x t o : ℕ) (a : Answer) (k c : Count) → a ≡ answered (split_tests d x t o) k → a ≡ Ok c → SplitThrough d x t o
split_through d x t o a k c e f = split-passed d x t o (answered-taken _ k c (sym e ∙ f)).0

pub record JoinServed (d x o : ℕ) : Type 0 where
  pub input : 0 < share_length (suc d) x
  pub output : o ≡ share_length (suc d) x

pub join_served-passed : (d x o : ℕ) → Passed (join_served d x o) → JoinServed d x o
join_served-passed d x o (i and r and p) =
    record { input = ltb-true 0 (share_length (suc d) x) i; output = eqb-true o _ r }

pub join_served-through : (d x o : ℕ) (a : Answer) (k c : Count) → a ≡ answered (join_served d x o) k → a ≡ Ok c → JoinServed d x o
join_served-through d x o a k c e f = join_served-passed d x o (answered-taken _ k c (sym e ∙ f)).0

pub record JoinThrough (d x o : ℕ) : Type 0 where
  pub order : d ≤ 8
  pub input : 0 < share_length (suc d) x
  pub output : o ≡ share_length (suc d) x

pub join_passed : (d x o : ℕ) → Passed (join_tests d x o) → JoinThrough d x o
join_passed d x o (u and p) =
    let s = join_served-passed d x o p in
    record { order = (served_bounds d u).1; input = s.input; output = s.output }

pub join_through : (d x o : ℕ) (a : Answer) (k c : Count) → a ≡ answered (join_tests d x o) k → a ≡ Ok c → JoinThrough d x o
join_through d x o a k c e f = join_passed d x o (answered-taken _ k c (sym e ∙ f)).0
