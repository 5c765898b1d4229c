-- GADGETS, AND STRONG NON-INTERFERENCE in counting form. A gadget takes one or two bytes in shares and a tape, shows a sheet and makes a byte in
-- shares. It is strongly non-interfering if any listed places of its sheet (the probes) and any listed shares of what it makes, at most d together,
-- can be simulated from no more shares of each input than there are probes, however many shares of the output are listed. Two inputs that have
-- these shares in common then make coupled runs; `tapes_giving` says what that means in plain counts.
-- What hiding of a whole run is built of: no document decides it. Assumes nothing: these are definitions.
use Rattle.std.specs.Prelude.{◌≡◌, ◌&&◌, List, ◌++◌, ℕ, suc, ◌+◌, ◌^◌, ◌≤◌, length}
use Rattle.xor.specs.Lists.{at, All, Below}
use Rattle.isw.specs.Place.{listed}
use Rattle.isw.specs.Hiding.{how_many, same}
use Rattle.gadgets.specs.Coupling.{Coupled}
use Rattle.gadgets.specs.Steps.{Masked, Agree}

-- a byte in shares as a state (see `Steps`): its one variable is the byte, and it has d + 1 shares
abbrev pub bytes : (d : ℕ) → Masked (Unit {0})
bytes d = record { Value = List ℕ; good = λ x. length x ≡ suc d; same = λ v i x x'. at x i ≡ at x' i }

-- two bytes in shares have the listed shares in common
abbrev pub Common : (x x' : List ℕ) → List ℕ → Type 0
Common x x' l = All (λ i. at x i ≡ at x' i) l

-- ---- two inputs

-- from what the probes ps and the listed shares os of the output are simulated: shares `of_a` and `of_b` of the inputs a and b, of each no more than
-- there are probes. Whatever else two inputs differ in, their runs are coupled
pub record Kept (width d need count : ℕ) (sheet out : (a b tape : List ℕ) → List ℕ) (ps os : List ℕ) : Type 0 where
  pub of_a : List ℕ
  pub of_b : List ℕ
  pub few_a : length of_a ≤ length ps
  pub few_b : length of_b ≤ length ps
  pub in_a : Below (suc d) of_a
  pub in_b : Below (suc d) of_b
  pub coupled : (a a' b b' : List ℕ) → length a ≡ suc d → length a' ≡ suc d → length b ≡ suc d → length b' ≡ suc d
      → Common a a' of_a → Common b b' of_b
      → Coupled width need (Agree (bytes d) count ps (λ v. os)) (λ ts. (sheet a b ts, out a b ts)) (λ ts. (sheet a' b' ts, out a' b' ts))

-- a gadget of order d that draws `need` numbers of `width` bits, shows `count` places, and is strongly non-interfering (d-SNI)
pub record Gadget (width d need count : ℕ) (sheet out : (a b tape : List ℕ) → List ℕ) : Type 0 where
  -- surplus tape has no effect
  pub sheet_surplus : (a b ts us : List ℕ) → need ≤ length ts → sheet a b (ts ++ us) ≡ sheet a b ts
  pub out_surplus : (a b ts us : List ℕ) → need ≤ length ts → out a b (ts ++ us) ≡ out a b ts
  pub sheet_length : (a b ts : List ℕ) → length a ≡ suc d → length (sheet a b ts) ≡ count
  pub out_length : (a b ts : List ℕ) → length a ≡ suc d → length (out a b ts) ≡ suc d
  pub sni : (ps os : List ℕ) → Below count ps → Below (suc d) os → length ps + length os ≤ d → Kept width d need count sheet out ps os

-- how many tapes put just the reading rs at the listed places ps (the probes) and make just the values vs of the listed shares os of the output
unfoldable pub tapes_giving : (width need : ℕ) (sheet out : (a b tape : List ℕ) → List ℕ) (a b ps os rs vs : List ℕ) → ℕ
tapes_giving w n sheet out a b ps os rs vs = how_many (2 ^ w) n (λ ts. same (listed (sheet a b ts) ps) rs && same (listed (out a b ts) os) vs)

-- ---- one input

-- from what the probes and the listed shares of the output are simulated: shares `of` of the input, no more than there are probes
pub record Lone (width d need count : ℕ) (sheet out : (x tape : List ℕ) → List ℕ) (ps os : List ℕ) : Type 0 where
  pub of : List ℕ
  pub few : length of ≤ length ps
  pub inside : Below (suc d) of
  pub coupled : (x x' : List ℕ) → length x ≡ suc d → length x' ≡ suc d → Common x x' of
      → Coupled width need (Agree (bytes d) count ps (λ v. os)) (λ ts. (sheet x ts, out x ts)) (λ ts. (sheet x' ts, out x' ts))

-- the same as `Gadget`, of one input
pub record Strong (width d need count : ℕ) (sheet out : (x tape : List ℕ) → List ℕ) : Type 0 where
  -- surplus tape has no effect
  pub sheet_surplus : (x ts us : List ℕ) → need ≤ length ts → sheet x (ts ++ us) ≡ sheet x ts
  pub out_surplus : (x ts us : List ℕ) → need ≤ length ts → out x (ts ++ us) ≡ out x ts
  pub sheet_length : (x ts : List ℕ) → length x ≡ suc d → length (sheet x ts) ≡ count
  pub out_length : (x ts : List ℕ) → length x ≡ suc d → length (out x ts) ≡ suc d
  pub strong : (ps os : List ℕ) → Below count ps → Below (suc d) os → length ps + length os ≤ d → Lone width d need count sheet out ps os
