-- S-boxes of two lists of bytes, one after the other: those of the first, then those of the second on the tape behind. Assumes nothing.
use mathlib.Core.Path.{◌≡◌, refl, ap, ◌∙◌}
use mathlib.Core.List.{List, [], ◌∷◌, ◌++◌}
use Prim.Native.Nat.{ℕ, ◌+◌}
use native.Mathlib.Omega.{arith}
use lib.ListN.{drop}
use lib.Seq.{drop-drop}
use Rattle.gf256.specs.declared.Direction.{Direction}
use Rattle.shares.specs.Strings.{Shares}
use Rattle.sbox.specs.Box.{box_need}
use Rattle.cipher.specs.Cipher.{sub_at, subs_of, subs_need}

pub subs_need-append : (d : ℕ) (ks js : List ℕ) → subs_need d (ks ++ js) ≡ subs_need d ks + subs_need d js
unfolding subs_need
subs_need-append d [] js = omega arith
subs_need-append d (k ∷ ks) js = omega (arith, subs_need-append d ks js)

pub subs_of-append : (w : Direction) (d : ℕ) (ks js : List ℕ) (ss : Shares) (ts : List ℕ)
    → subs_of w d (ks ++ js) ss ts ≡ subs_of w d js (subs_of w d ks ss ts) (drop (subs_need d ks) ts)
unfolding subs_of subs_need
subs_of-append w d [] js ss ts = refl
subs_of-append w d (k ∷ ks) js ss ts =
    let next = sub_at w d k ss ts in
    let rest = drop (box_need d) ts in
    subs_of-append w d ks js next rest
    ∙ ap (subs_of w d js (subs_of w d ks next rest)) (drop-drop (subs_need d ks) (box_need d) ts)
