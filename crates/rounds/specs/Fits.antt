-- What the routines of rounds ask of their slices. Assumes nothing: these are definitions.
-- Inner contracts: no document decides them.
use Rattle.std.specs.Prelude.{◌≡◌, List, ℕ, suc, ◌+◌, ◌*◌, ◌≤◌, length}
use Rattle.cipher.specs.Fips197.{rounds}
use Rattle.cipher.specs.Cipher.{round_need, encrypted_with_need}

-- what one round asks: the order, and the lengths of keys, tape and state
pub record RoundFits (d m r : ℕ) (keys tape s : List ℕ) : Type 0 where
  pub round : 16 * r + 16 ≤ m
  pub keyed : length keys ≡ suc d * m
  pub drawn : round_need d ≤ length tape
  pub long : length s ≡ suc d * 16

-- the same for nr rounds, with round keys 0 to nr
pub record RoundsFit (d m nr : ℕ) (keys tape s : List ℕ) : Type 0 where
  pub small : nr ≤ 14
  pub round : 16 * nr + 16 ≤ m
  pub keyed : length keys ≡ suc d * m
  pub drawn : nr * round_need d ≤ length tape
  pub long : length s ≡ suc d * 16

-- what a block from round keys asks
pub record KeyedFits (nk d : ℕ) (keys x tape out : List ℕ) : Type 0 where
  pub small : nk ≤ 8
  pub keyed : length keys ≡ suc d * (16 * suc (rounds nk))
  pub input : length x ≡ suc d * 16
  pub output : length out ≡ suc d * 16
  pub drawn : encrypted_with_need nk d ≤ length tape
