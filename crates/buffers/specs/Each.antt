-- What a closure does to the shares of a string, one by one. Assumes nothing: these are definitions.
-- Inner contracts: no document decides them.
use Rattle.std.specs.Prelude.{List, ◌≡◌, ℕ, ◌<◌, length}
use denote.Ref.{MutBor}
use denote.Param.Members.{Shared}

module _ {F : Type 0} (calls : Shared F (ℕ × (MutBor (List ℕ) × Unit {0})) (Unit {0} × (MutBor (List ℕ) × Unit {0}))) (f : F) (n l : ℕ) where
  -- f may be called with the number of each share of n, and a share of l bytes
  abbrev pub TakesShares : Type 0
  TakesShares = (i : ℕ) (p : MutBor (List ℕ)) → i < n → length p.now ≡ l → calls.pre f (i, (p, tt))

  -- of share i it makes g i of its bytes, and as many
  pub record MakesShares (g : ℕ → List ℕ → List ℕ) : Type 0 where
    pub made : (i : ℕ) (p q : MutBor (List ℕ)) → i < n → length p.now ≡ l → calls.post f (i, (p, tt)) (tt, (q, tt)) → q.now ≡ g i p.now
    pub keeps : (i : ℕ) → i < n → (s : List ℕ) → length s ≡ l → length (g i s) ≡ l
