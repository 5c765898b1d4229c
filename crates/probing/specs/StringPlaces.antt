-- The places of steps on strings in shares: the strings themselves, and S-boxes of listed bytes (probes).
-- No document asks for it; document 01 decides the steps. Assumes nothing: these are definitions. The steps are those of `Cipher`.
-- A wide place shows a whole share as one number: whatever a routine computes from one share by itself is a function of it.
use Rattle.std.specs.Prelude.{List, [], ◌∷◌, ◌++◌, ℕ, suc, ◌+◌, ◌*◌, drop}
use Rattle.xor.specs.Lists.{at, tab}
use Rattle.gf256.specs.declared.Direction.{Direction}
use Rattle.shares.specs.Strings.{Shares}
use Rattle.gadgets.specs.Steps.{each_share}
use Rattle.sbox.specs.Box.{box_need}
use Rattle.cipher.specs.States.{column}
use Rattle.cipher.specs.Cipher.{sub_at}
use Rattle.probing.specs.BoxPlaces.{number, box_sheet, box_count}

-- ---- a string of m bytes

-- each share as one number
unfoldable pub whole_sheet : Shares → List ℕ
whole_sheet ss = each_share (λ i s. number s ∷ []) 0 ss

-- its bytes: all of share 0, then all of share 1, and so on
unfoldable pub shares_sheet : (m : ℕ) → Shares → List ℕ
shares_sheet m ss = each_share (λ i s. tab (at s) m) 0 ss

-- both
unfoldable pub string_sheet : (m : ℕ) → Shares → List ℕ
string_sheet m ss = whole_sheet ss ++ shares_sheet m ss

-- how many they are
unfoldable pub string_count : (m d : ℕ) → ℕ
string_count m d = suc d * 1 + suc d * m

-- ---- S-boxes of the listed bytes of a string, in the order of the list

-- their places, S-box after S-box
unfoldable pub subs_sheet : Direction → (d : ℕ) → (ks : List ℕ) → Shares → (tape : List ℕ) → List ℕ
subs_sheet w d [] ss ts = []
subs_sheet w d (k ∷ ks) ss ts = box_sheet w d (column k ss) ts ++ subs_sheet w d ks (sub_at w d k ss ts) (drop (box_need d) ts)

-- how many they are
unfoldable pub subs_count : (d : ℕ) → (ks : List ℕ) → ℕ
subs_count d [] = 0
subs_count d (k ∷ ks) = box_count d + subs_count d ks
