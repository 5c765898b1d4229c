-- Numbers in decimal. Assumes nothing: these are definitions. No document decides them.
use Rattle.std.specs.Prelude.{Bool, false, cond, List, [], ◌∷◌, ℕ, ◌+◌, ◌*◌, ◌-◌, ltb, length, Option, Some, None}

-- whether a character is a decimal digit
unfoldable pub is_decimal : (c : ℕ) → Bool
is_decimal c = cond (ltb c 48) false (ltb c 58)

-- a number with one more digit behind it; one above 99999 stays as it is, and so does any where the character is no digit
unfoldable pub appended : (v c : ℕ) → ℕ
appended v c = cond (ltb 99999 v) v (cond (ltb c 48) v (cond (ltb c 58) (v * 10 + (c - 48)) v))

-- a number with all characters of a text behind it
unfoldable pub number_from : (v : ℕ) → List ℕ → ℕ
number_from v [] = v
number_from v (c ∷ cs) = number_from (appended v c) cs

-- whether a text is all digits, after a part that was, or was not
unfoldable pub decimal_from : Bool → List ℕ → Bool
decimal_from b [] = b
decimal_from b (c ∷ cs) = decimal_from (cond b (is_decimal c) false) cs

-- the number that a text is, where it is all digits; an empty one is none
unfoldable pub read : List ℕ → Option ℕ
read t = cond (decimal_from (ltb 0 (length t)) t) (Some (number_from 0 t)) None
