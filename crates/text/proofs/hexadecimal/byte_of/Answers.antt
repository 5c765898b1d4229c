-- `text::hexadecimal::byte_of` meets its contract. Assumes nothing.
use mathlib.Core.Path.{◌≡◌, refl}
use Prim.Native.Nat.{ℕ, ◌%◌, ◌<◌}
use native.Mathlib.Omega.{arith}
use Rattle.std.specs.Option.{unwrap_or, MatchOption}
use Rattle.std.specs.Prelude.{Option, Some, None}
use Rattle.text.specs.Hexadecimal.{digit, byte}
use Rattle.text.proofs.hexadecimal.byte_of.Goals as goal

-- a character that is no digit counts as 0
value : (c : ℕ) (o : Option ℕ) → MatchOption o (digit c ≡ 16) (λ d. (d ≡ digit c) × (d < 16)) → unwrap_or o 0 ≡ digit c % 16
value c None h = rw h refl
value c (Some d) h = omega (arith, h.0, h.1)

pub returns : goal.returns
unfolding byte
returns c =
    rw (
      c.unwrap_or.ensures,
      c.unwrap_or-2.ensures,
      value c.args.high c.digit.result c.digit.ensures,
      value c.args.low c.digit-2.result c.digit-2.ensures,
    ) refl
