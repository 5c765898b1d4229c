-- A refresh whose output is all shown, as where a byte is joined in the open: what its places and its output are simulated from.
-- What hiding of an opened result is built of: no document decides it. Assumes nothing: these are definitions.
use Rattle.std.specs.Prelude.{◌≡◌, List, ℕ, suc, ◌^◌, ◌≤◌, length}
use Rattle.xor.specs.Lists.{at, All, Below}
use Rattle.xor.specs.Sums.{joined}
use Rattle.refresh.specs.Refresh.{refreshed, refresh_need}
use Rattle.refresh.specs.Places.{refresh_sheet, refresh_count}
use Rattle.gadgets.specs.Coupling.{Coupled}
use Rattle.gadgets.specs.Gadgets.{Common}

-- two outcomes, each a sheet of `count` places and the shares that are shown, agree: at the listed places ps (the probes), and in all shares
pub record Opened (count : ℕ) (ps : List ℕ) (y y' : List ℕ × List ℕ) : Type 0 where
  pub shown : All (λ p. at y.0 p ≡ at y'.0 p) ps
  pub equal : y.1 ≡ y'.1
  pub long : length y.0 ≡ count
  pub long' : length y'.0 ≡ count

-- from what the probes ps and all of the output are simulated: shares `of` of the input, no more than there are probes, and what the input joins to
pub record RefreshAsked (width d : ℕ) (ps : List ℕ) : Type 0 where
  pub of : List ℕ
  pub few : length of ≤ length ps
  pub inside : Below (suc d) of
  pub coupled : (xs xs' : List ℕ) → length xs ≡ suc d → length xs' ≡ suc d → Below (2 ^ width) xs → Below (2 ^ width) xs'
      → Common xs xs' of → joined xs ≡ joined xs'
      → Coupled width (refresh_need d) (Opened (refresh_count d) ps)
      (λ ts. (refresh_sheet d xs ts, refreshed d xs ts)) (λ ts. (refresh_sheet d xs' ts, refreshed d xs' ts))
