-- STEPS THAT HIDE (non-interference). A step takes a state in shares and a tape, shows a list of values (its sheet) and makes the next state.
-- It hides if any listed places of its sheet (the probes) and any listed shares of what it makes, of each variable at most d together with the
-- probes, can be simulated from few shares of the state: of each variable its listed shares, and no more besides than there are probes. Two states
-- that have these shares in common then make coupled runs.
-- The form in which hiding composes: no document decides it. Assumes nothing: these are definitions.
use Rattle.std.specs.Prelude.{◌≡◌, List, [], ◌∷◌, ◌++◌, ℕ, suc, ◌+◌, ◌≤◌, length}
use Rattle.xor.specs.Lists.{at, All, Below}
use Rattle.gadgets.specs.Coupling.{Coupled}

-- what a step on each share by itself (a sharewise step) shows, share after share from share i on: f i x are the values it computes of share i, x
unfoldable pub each_share : {A : Type 0} → (ℕ → A → List ℕ) → (i : ℕ) → List A → List ℕ
each_share f i [] = []
each_share f i (x ∷ xs) = f i x ++ each_share f (suc i) xs

-- a kind of state in shares (masked): it has variables, and each variable has shares
pub record Masked (Var : Type 0) : Type 1 where
  -- the states
  pub Value : Type 0
  -- a state of the right form: as many shares as there should be
  pub good : Value → Type 0
  -- two states have share i of variable v in common
  pub same : (v : Var) (i : ℕ) → Value → Value → Type 0

module _ {Var : Type 0} where
  -- two states have in common, of each variable v, the shares that `of v` lists
  abbrev pub Alike : (S : Masked Var) (of : Var → List ℕ) (s s' : S.Value) → Type 0
  Alike S of s s' = (v : Var) → All (λ i. S.same v i s s') (of v)

  -- two outcomes, each a sheet and a next state, agree: at the listed places ps (the probes), and of each variable v in the listed shares os v;
  -- and both have the right form, with `count` places
  pub record Agree (T : Masked Var) (count : ℕ) (ps : List ℕ) (os : Var → List ℕ) (x x' : List ℕ × T.Value) : Type 0 where
    pub shown : All (λ p. at x.0 p ≡ at x'.0 p) ps
    pub alike : Alike T os x.1 x'.1
    pub long : length x.0 ≡ count
    pub long' : length x'.0 ≡ count
    pub fine : T.good x.1
    pub fine' : T.good x'.1

  -- from what the probes ps and the listed shares os of the next state are simulated: the same shares os of the state, and `more`, which has of each
  -- variable no more shares than there are probes. Whatever else two states differ in, their runs are coupled
  pub record Asked (width d : ℕ) (S T : Masked Var) (need count : ℕ) (sheet : S.Value → List ℕ → List ℕ) (next : S.Value → List ℕ → T.Value)
      (ps : List ℕ) (os : Var → List ℕ) : Type 0 where
    pub more : Var → List ℕ
    pub few : (v : Var) → length (more v) ≤ length ps
    pub inside : (v : Var) → Below (suc d) (more v)
    pub coupled : (s s' : S.Value) → S.good s → S.good s' → Alike S more s s' → Alike S os s s'
        → Coupled width need (Agree T count ps os) (λ ts. (sheet s ts, next s ts)) (λ ts. (sheet s' ts, next s' ts))

  -- a step of order d that draws `need` numbers of `width` bits, shows `count` places, and hides (d-non-interference)
  pub record Hidden (width d : ℕ) (S T : Masked Var) (need count : ℕ) (sheet : S.Value → List ℕ → List ℕ) (next : S.Value → List ℕ → T.Value)
      : Type 0 where
    -- surplus tape has no effect
    pub sheet_surplus : (s : S.Value) (ts us : List ℕ) → need ≤ length ts → sheet s (ts ++ us) ≡ sheet s ts
    pub next_surplus : (s : S.Value) (ts us : List ℕ) → need ≤ length ts → next s (ts ++ us) ≡ next s ts
    pub sheet_length : (s : S.Value) (ts : List ℕ) → S.good s → length (sheet s ts) ≡ count
    pub next_good : (s : S.Value) (ts : List ℕ) → S.good s → T.good (next s ts)
    pub hidden : (ps : List ℕ) (os : Var → List ℕ) → Below count ps → ((v : Var) → Below (suc d) (os v))
        → ((v : Var) → length ps + length (os v) ≤ d) → Asked width d S T need count sheet next ps os
