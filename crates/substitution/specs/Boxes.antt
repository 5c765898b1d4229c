-- The bytes that four S-boxes take, and what the routines of S-boxes ask of their slices. Assumes nothing: these are definitions.
-- Inner contracts: document 01 decides the order of S-boxes, which is `by_rows` and `in_word` of the crate cipher.
use Rattle.std.specs.Prelude.{◌≡◌, List, ℕ, suc, ◌+◌, ◌*◌, ◌≤◌, ◌<◌, length}
use Rattle.xor.specs.Lists.{tab}
use Rattle.sbox.specs.Box.{box_need}
use Rattle.cipher.specs.Cipher.{subs_need}

-- four bytes of a string: the first, and the next each `stride` further
unfoldable pub spaced : (first stride : ℕ) → List ℕ
spaced first stride = tab (λ m. first + m * stride) 4

-- row r of a state
abbrev pub in_row : (r : ℕ) → List ℕ
in_row r = spaced r 4

-- what the S-box of byte k asks of a string of l bytes in shares
pub record PlaceFits (d l k : ℕ) (tape s : List ℕ) : Type 0 where
  pub place : k < l
  pub long : length s ≡ suc d * l
  pub drawn : box_need d ≤ length tape

-- what four S-boxes ask, a quarter of the string apart
pub record FourFits (d l first stride : ℕ) (tape s : List ℕ) : Type 0 where
  pub quarter : l ≡ 4 * stride
  pub place : first < stride
  pub small : l ≤ 16
  pub long : length s ≡ suc d * l
  pub drawn : subs_need d (spaced first stride) ≤ length tape
