-- The hiding rule of the cube: d places of its run say nothing about x (security against d probes), for an operation on numbers of w bits.
-- Document 02, wish 8, decides. Assumes nothing: these are definitions.
use Rattle.std.specs.Prelude.{◌≡◌, List, ℕ, ◌+◌, ◌^◌, ◌≤◌, ◌<◌, length, take, drop}
use Rattle.xor.specs.Lists.{Below}
use Rattle.isw.specs.Place.{listed}
use Rattle.isw.specs.Hiding.{how_many, factor, same}
use Rattle.gadgets.specs.Cube.{cube_need, cube_sheet, cube_count}

-- a choice is d masks for x, and the tape; each may be any number of w bits, and none is tied to another
unfoldable pub cube_choice_length : (d : ℕ) → ℕ
cube_choice_length d = d + cube_need d

-- the sheet that a choice makes of x
unfoldable pub cube_chosen : (op : ℕ → ℕ → ℕ) (f : ℕ → ℕ) (d x : ℕ) (choice : List ℕ) → List ℕ
cube_chosen op f d x cs = cube_sheet op f d (factor x (take d cs)) (drop d cs)

-- how many choices put just the reading's values (the observation) at the listed places (the probes)
unfoldable pub cube_readings : (op : ℕ → ℕ → ℕ) (f : ℕ → ℕ) (w d x : ℕ) (list reading : List ℕ) → ℕ
cube_readings op f w d x ps rs = how_many (2 ^ w) (cube_choice_length d) (λ cs. same (listed (cube_chosen op f d x cs) ps) rs)

-- THE RULE: at every order d, for every list of at most d places, every reading and any two values of x, equally many choices give the reading.
-- Bytes are w = 8
unfoldable pub CubeHides : (op : ℕ → ℕ → ℕ) (f : ℕ → ℕ) (w : ℕ) → Type 0
CubeHides op f w =
    (d : ℕ) (list reading : List ℕ) (x y : ℕ) → length list ≤ d → Below (cube_count d) list → x < 2 ^ w → y < 2 ^ w
    → cube_readings op f w d x list reading ≡ cube_readings op f w d y list reading
