-- What a call answers and leaves behind, with document 01's number for each refusal. Document 01, "Turned-down calls", decides.
-- Assumes nothing: these are definitions.
use Rattle.std.specs.Prelude.{Option, Some, None, Result, Ok, Err, Bool, not, cond, ◌&&◌, List, [], ◌∷◌, ℕ, ◌*◌, ltb, eqb}
use Rattle.outcomes.specs.declared.Refusal.{Refusal}
use Rattle.outcomes.specs.declared.Refusal.TheVariants.{Order, Key, Input, Output, Tape, List as Listed, Place}
use Rattle.outcomes.specs.declared.Count.{Count}

-- what a call answers: what it counted, or why it is refused
abbrev pub Answer : Type 0
Answer = Result Count Refusal

-- a call was carried through, with what it counted; or it was refused with a number. Either way with the output's bytes afterwards
pub data Outcome : Type 0 where
  done : (count : Count) (output : List ℕ) → Outcome
  refused : (number : ℕ) (output : List ℕ) → Outcome

-- document 01's numbers
abbrev pub number : Refusal → ℕ
number Order = 1
number Key = 2
number Input = 3
number Output = 4
number Tape = 5
number Listed = 6
number Place = 7

-- so many tape bytes taken
abbrev pub took : (taken : ℕ) → Count
took n = record { taken = n }

-- an answer, with the output as the call left it
abbrev pub outcome : Answer → (output : List ℕ) → Outcome
outcome (Ok k) q = done k q
outcome (Err r) q = refused (number r) q

-- ---- the tests of a call, as document 01's table lists them

-- a test: what is asked, and the refusal where it is not so
pub record Test : Type 0 where
  pub refusal : Refusal
  pub passed : Bool

-- the same from its parts
abbrev pub test : Refusal → Bool → Test
test r b = record { refusal = r; passed = b }

-- the tests in turn: the first that fails is the answer; if none does, the count
unfoldable pub answered : List Test → Count → Answer
answered [] k = Ok k
answered (t ∷ ts) k = cond t.passed (answered ts k) (Err t.refusal)

-- an answer, with the output as it was where the call is refused, and as it is made where it is done
abbrev pub ended : Answer → (output made : List ℕ) → Outcome
ended (Ok k) o made = done k made
ended (Err r) o made = refused (number r) o

-- THE OUTCOME of a call: its tests decide; a refused call leaves the output as it was
unfoldable pub settled : List Test → Count → (output made : List ℕ) → Outcome
settled ts k o made = ended (answered ts k) o made

-- ---- what is asked

-- orders 1 to 8 are served
unfoldable pub served : (order : ℕ) → Bool
served d = ltb 0 d && ltb d 9

-- the order of a call, if it is served; else the call's refusal
unfoldable pub order_served : (order : ℕ) → Result ℕ Refusal
order_served d = cond (served d) (Ok d) (Err Order)

-- the tape has as many bytes as the call draws
abbrev pub reaches : (tape need : ℕ) → Bool
reaches t n = not (ltb t n)

-- which of the listed lengths one of n shares has, in a string of so many bytes; 0 where it is none of them
unfoldable pub one_of : (lengths : List ℕ) (n bytes : ℕ) → ℕ
one_of [] n b = 0
one_of (l ∷ ls) n b = cond (eqb b (n * l)) l (one_of ls n b)

-- the same, where none of them is told apart from a length 0
unfoldable pub listed_length : (lengths : List ℕ) (n bytes : ℕ) → Option ℕ
listed_length [] n b = None
listed_length (l ∷ ls) n b = cond (eqb b (n * l)) (Some l) (listed_length ls n b)

-- the lengths of keys, and of strings that are split and joined
abbrev pub key_lengths : List ℕ
key_lengths = 16 ∷ 24 ∷ 32 ∷ []

-- the length of one share of a string of n shares, if it is 16, 24 or 32; else 0
abbrev pub share_length : (n bytes : ℕ) → ℕ
share_length n b = one_of key_lengths n b
