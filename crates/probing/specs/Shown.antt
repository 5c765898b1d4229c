-- Places in a row, by number: how a theorem says where an output stands. Assumes nothing: these are definitions.
use Rattle.std.specs.Prelude.{List, ℕ, take, drop}

-- the values at n places of a sheet, from place p on
abbrev pub places_from : (p n : ℕ) (sheet : List ℕ) → List ℕ
places_from p n l = take n (drop p l)
