-- THE HIDING RULE: what any d places of a masked product of order d show is spread over the choices of masks and tape alike for all factors.
-- It holds for every closed operation on numbers of w bits. Assumes nothing.
use mathlib.Core.Path.{◌≡◌, sym, ap, ◌∙◌}
use mathlib.Core.Logic.{◌≢◌}
use mathlib.Core.Bool.{Bool, true, false, cond}
use mathlib.Core.List.{List, ◌++◌, map, map-map, append_assoc}
use Prim.Native.Nat.{ℕ, suc, ◌+◌, ◌^◌, ◌≤◌, ◌<◌}
use native.Mathlib.Omega.{arith}
use lib.Bits.{bit_xor, xor_lt}
use lib.ListN.{length, get_or, length-map}
use lib.Pow.{pow_pos}
use lib.Seq.{take_at, drop_at, drop-drop}
use Rattle.xor.specs.Lists.{at, All, Below}
use Rattle.xor.specs.Pairs.{each_pair}
use Rattle.xor.specs.Sums.{xors}
use Rattle.xor.proofs.ListsLaws.{all_map, all_of_map, all_to_map, all_get_d, map_cong, at_map, at_below}
use Rattle.xor.proofs.PairsLaws.{length-each_pair, all-each_pair}
use Rattle.isw.specs.Place.{Place, left, places, place_count, product_need, value, sheet, listed}
use Rattle.isw.specs.Hiding.{sums, factor, choice_length, chosen, same, readings, Hides}
use Rattle.isw.proofs.OrderLaws.{drawn_moved}
use Rattle.isw.proofs.PlaceLaws.{Within, places_within, length-places}
use Rattle.isw.proofs.CountLaws.{how_many-sums, sums_cong, sums-split, sums-xors}
use Rattle.isw.proofs.MaskLaws.{taken_up, length-taken_up, other_shares, taken_up_below, xors_below, factor_below}
use Rattle.isw.proofs.Missed.{miss}
use Rattle.isw.proofs.Unseen.{seen_a, seen_b, kept_rows, pick, change, correction, unseen}

-- ---- the corrections are numbers of w bits where the operation makes such numbers

pub pick_lt : (w : ℕ) (si sj : Bool) (x y : ℕ) → x < 2 ^ w → y < 2 ^ w → pick si sj x y < 2 ^ w
unfolding pick
pick_lt w true sj x y hx hy = pow_pos w
pick_lt w false true x y hx hy = xor_lt w x y hx hy
pick_lt w false false x y hx hy = hx

pub correction_lt : (op : ℕ → ℕ → ℕ) (w : ℕ) → ((x y : ℕ) → x < 2 ^ w → y < 2 ^ w → op x y < 2 ^ w)
    → (s : ℕ → Bool) (a a' b b' : ℕ → ℕ)
    → ((i : ℕ) → a i < 2 ^ w) → ((i : ℕ) → a' i < 2 ^ w) → ((i : ℕ) → b i < 2 ^ w) → ((i : ℕ) → b' i < 2 ^ w)
    → (i j : ℕ) → correction op s a a' b b' i j < 2 ^ w
unfolding correction change
correction_lt op w closed s a a' b b' ha ha' hb hb' i j = pick_lt w (s i) (s j) _ _ (ok i j) (ok j i)
  where
    ok : (i j : ℕ) → change op a a' b b' i j < 2 ^ w
    ok i j = xor_lt w _ _ (closed _ _ (ha i) (hb j)) (closed _ _ (ha' i) (hb' j))

-- ---- places by name

-- what the places show for factors x and y, masks and a tape
unfoldable pub shown : (op : ℕ → ℕ → ℕ) (d x y : ℕ) (masks_a masks_b tape : List ℕ) → Place → ℕ
shown op d x y ma mb ts = value op d (factor x ma) (factor y mb) ts

-- the sum, over all choices, of a number that is made from what the named places show
unfoldable pub over_choices : (op : ℕ → ℕ → ℕ) (w d x y : ℕ) (named : List Place) → (List ℕ → ℕ) → ℕ
over_choices op w d x y ps g =
    sums (2 ^ w) d (λ ma. sums (2 ^ w) d (λ mb. sums (2 ^ w) (product_need d) (λ ts. g (map (shown op d x y ma mb ts) ps))))

-- the proof, for a share p of a and a share q of b that no named place sees
module _ (op : ℕ → ℕ → ℕ) (w : ℕ) (closed : (x y : ℕ) → x < 2 ^ w → y < 2 ^ w → op x y < 2 ^ w)
    (d : ℕ) (ps : List Place) (within : All (Within (suc d)) ps) (g : List ℕ → ℕ)
    (x y v z : ℕ) (hx : x < 2 ^ w) (hy : y < 2 ^ w) (hv : v < 2 ^ w) (hz : z < 2 ^ w)
    (p q : ℕ) (p_le : p ≤ d) (q_le : q ≤ d) (p_free : All (λ k. seen_a k ≢ p) ps) (q_free : All (λ k. seen_b (kept_rows ps) k ≢ q) ps) where
  -- how the masks move
  abbrev left_move : List ℕ
  left_move = taken_up p (bit_xor x v)

  left_below : Below (2 ^ w) left_move
  left_below = taken_up_below w p (xor_lt w x v hx hv)

  abbrev right_move : List ℕ
  right_move = taken_up q (bit_xor y z)

  right_below : Below (2 ^ w) right_move
  right_below = taken_up_below w q (xor_lt w y z hy hz)

  module _ (ma mb : List ℕ) (ha : Below (2 ^ w) ma) (hb : Below (2 ^ w) mb) where
    abbrev a : ℕ → ℕ
    a = at (factor x ma)

    abbrev a' : ℕ → ℕ
    a' = at (factor v (xors ma left_move))

    abbrev b : ℕ → ℕ
    b = at (factor y mb)

    abbrev b' : ℕ → ℕ
    b' = at (factor z (xors mb right_move))

    -- the shares that the places see stay
    left_stays : All (λ k. a (seen_a k) ≡ a' (seen_a k)) ps
    left_stays = all_map (λ k n. other_shares x v p ma (seen_a k) n) p_free

    right_stays : All (λ k. b (seen_b (kept_rows ps) k) ≡ b' (seen_b (kept_rows ps) k)) ps
    right_stays = all_map (λ k n. other_shares y z q mb (seen_b (kept_rows ps) k) n) q_free

    -- how the tape moves
    abbrev moved : (i j : ℕ) → ℕ
    moved = correction op (kept_rows ps) a a' b b'

    tape_below : Below (2 ^ w) (each_pair (suc d) moved)
    tape_below =
        all-each_pair (suc d) moved (λ i j l u.
        correction_lt op w closed (kept_rows ps) a a' b b'
        (at_below w (factor_below w hx ha)) (at_below w (factor_below w hv (xors_below w ha left_below)))
        (at_below w (factor_below w hy hb)) (at_below w (factor_below w hz (xors_below w hb right_below))) i j)

    tape_step : sums (2 ^ w) (product_need d) (λ ts. g (map (shown op d x y ma mb ts) ps))
        ≡ sums (2 ^ w) (product_need d) (λ ts. g (map (shown op d v z (xors ma left_move) (xors mb right_move) ts) ps))
    unfolding shown value product_need
    tape_step =
        sums_cong (2 ^ w) _ _ _ (λ ts lt ht.
        ap g (map_cong _ _ (unseen op (suc d) ps a a' b b' _ _ within left_stays right_stays (drawn_moved (suc d) ts moved))))
        ∙ sym (sums-xors w _ (each_pair (suc d) moved) _ (omega (arith, length-each_pair (suc d) moved)) tape_below)

  all_same : over_choices op w d x y ps g ≡ over_choices op w d v z ps g
  unfolding over_choices
  all_same =
      sums_cong (2 ^ w) d _ _ (λ ma la ha.
      sums_cong (2 ^ w) d _ _ (λ mb lb hb. tape_step ma mb ha hb)
      ∙ sym (sums-xors w d right_move _ (omega (arith, length-taken_up q (bit_xor y z))) right_below))
      ∙ sym (sums-xors w d left_move _ (omega (arith, length-taken_up p (bit_xor x v))) left_below)

-- the rule for places by name, and for any number `g` that is made from what they show
pub hides_named : (op : ℕ → ℕ → ℕ) (w : ℕ) → ((x y : ℕ) → x < 2 ^ w → y < 2 ^ w → op x y < 2 ^ w)
    → (d : ℕ) (ps : List Place) → All (Within (suc d)) ps → length ps ≤ d
    → (x y v z : ℕ) → x < 2 ^ w → y < 2 ^ w → v < 2 ^ w → z < 2 ^ w
    → (g : List ℕ → ℕ) → over_choices op w d x y ps g ≡ over_choices op w d v z ps g
hides_named op w closed d ps within few x y v z hx hy hv hz g =
    let (p, p_le, p_free) = miss d (map seen_a ps) (rw length-map few) in
    let (q, q_le, q_free) = miss d (map (seen_b (kept_rows ps)) ps) (rw length-map few) in
    all_same op w closed d ps within g x y v z hx hy hv hz p q p_le q_le (all_of_map seen_a ps p_free) (all_of_map (seen_b (kept_rows ps)) ps q_free)

-- ---- places by number

-- the places that a list numbers
unfoldable pub named : (d : ℕ) (numbers : List ℕ) → List Place
named d ns = map (λ p. get_or (places (suc d)) p (left 0)) ns

pub named_within : (d : ℕ) {ns : List ℕ} → Below (place_count d) ns → All (Within (suc d)) (named d ns)
unfolding named
named_within d h = all_to_map _ (all_map (λ p l. all_get_d (left 0) p (rw (length-places d) l) (places_within (suc d))) h)

pub listed_named : (f : Place → ℕ) (d : ℕ) {ns : List ℕ} → Below (place_count d) ns → listed (map f (places (suc d))) ns ≡ map f (named d ns)
unfolding listed named
listed_named f d {ns} h =
    map_cong (at (map f (places (suc d)))) (λ p. f (get_or (places (suc d)) p (left 0)))
    (all_map (λ p l. at_map f (places (suc d)) (left 0) p (rw (length-places d) l)) h)
    ∙ sym (map-map f (λ p. get_or (places (suc d)) p (left 0)) ns)

-- a choice, taken apart
chosen_apart : (op : ℕ → ℕ → ℕ) (d x y : ℕ) (ma mb ts : List ℕ) → length ma ≡ d → length mb ≡ d
    → chosen op d x y (ma ++ mb ++ ts) ≡ map (shown op d x y ma mb ts) (places (suc d))
unfolding chosen sheet shown
chosen_apart op d x y ma mb ts la lb =
    let us = mb ++ ts in
    rw (append_assoc ma mb ts, ← drop-drop d d (ma ++ us), take_at ma us d la, drop_at ma us d la, take_at mb ts d lb, drop_at mb ts d lb)

-- the count over flat choices is the sum over masks and tapes
pub readings_named : (op : ℕ → ℕ → ℕ) (w d x y : ℕ) (ns rs : List ℕ) → Below (place_count d) ns
    → readings op w d x y ns rs ≡ over_choices op w d x y (named d ns) (λ l. cond (same l rs) 1 0)
unfolding readings choice_length over_choices
readings_named op w d x y ns rs h =
    let m = 2 ^ w in
    let t = product_need d in
    let f : List ℕ → ℕ = λ cs. cond (same (listed (chosen op d x y cs) ns) rs) 1 0 in
    how_many-sums m (d + d + t) _
    ∙ sums-split m (d + d) t f
    ∙ sums-split m d d (λ us. sums m t (λ ts. f (us ++ ts)))
    ∙ sums_cong m d _ _ (λ ma la ha. sums_cong m d _ _ (λ mb lb hb. sums_cong m t _ _ (λ ts lt ht.
    ap (λ (l : List ℕ). cond (same l rs) 1 0)
    (ap (λ (s : List ℕ). listed s ns) (chosen_apart op d x y ma mb ts la lb) ∙ listed_named (shown op d x y ma mb ts) d h))))

pub hides : (op : ℕ → ℕ → ℕ) (w : ℕ) → ((x y : ℕ) → x < 2 ^ w → y < 2 ^ w → op x y < 2 ^ w) → Hides op w
unfolding Hides
hides op w closed d ns rs x y v z few below hx hy hv hz =
    let short : length (named d ns) ≤ d = unfold named in (rw length-map few) in
    readings_named op w d x y ns rs below
    ∙ hides_named op w closed d (named d ns) (named_within d below) short x y v z hx hy hv hz _
    ∙ sym (readings_named op w d v z ns rs below)
