-- How far a listing of places by number and name goes. Assumes nothing: this is a definition.
use Rattle.std.specs.Prelude.{ℕ}

-- no listing has as many places, so that the next number always fits
abbrev pub most : ℕ
most = 4096
