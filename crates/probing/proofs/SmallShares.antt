-- Bytes stay bytes: the shares that a call makes of shares and a tape of bytes are bytes. Assumes nothing.
use mathlib.Core.List.{List, [], ◌∷◌, map}
use Prim.Native.Nat.{ℕ, zero, suc, ◌-◌, ◌/◌, ◌<◌}
use lib.ListN.{length, drop, set}
use Rattle.xor.specs.Lists.{All, done, ◌&◌, Below}
use Rattle.xor.proofs.ListsLaws.{all_append, all_take, all_drop, at_below}
use Rattle.gf256.specs.declared.Direction.{Direction}
use Rattle.gf256.specs.declared.Direction.TheVariants.{Forward, Inverse}
use Rattle.gf256.specs.Field.{times, squared, fourth, sixteenth}
use Rattle.gf256.proofs.ProductLaws.{times_lt, squared_lt, fourth_lt, sixteenth_lt}
use Rattle.isw.specs.Place.{product_need}
use Rattle.isw.proofs.MaskLaws.{xors_below}
use Rattle.isw.proofs.SheetLaws.{product_below}
use Rattle.shares.specs.Strings.{Shares, joined_string, parts, split}
use Rattle.refresh.proofs.RefreshLaws.{refresh_below}
use Rattle.power254.specs.Power254.{masked_product, stage_z, stage_y, stage_w, stage_v, stage_last, stage_need, power_254}
use Rattle.sbox.specs.Box.{affine_shares, inverse_box, box_of, box_need}
use Rattle.sbox.proofs.BoxLaws.{box_below}
use Rattle.cipher.specs.Fips197.{Kind, turned, subbed, plain, kind, word, rot_word, rounds, total_words, round_key}
use Rattle.cipher.specs.Fips197.{shift_rows, mix_columns, inv_shift_rows, inv_mix_columns}
use Rattle.cipher.specs.States.{column, put, adds, behind, into_first}
use Rattle.cipher.specs.Cipher.{sub_at, subs_of, in_word, masked_temp, temp_need, masked_word, schedule_from, schedule, schedule_need, by_rows}
use Rattle.cipher.specs.Cipher.{round_keys, masked_round, masked_last_round, round_need, masked_rounds, encrypted_with, encrypted}
use Rattle.cipher.specs.Cipher.{masked_inv_last_round, masked_inv_round, masked_inv_rounds, decrypted_with, decrypted}
use Rattle.cipher.proofs.BytesLaws.{shift_rows_below, inv_shift_rows_below, mix_columns_below, inv_mix_columns_below, rot_word_below, rcon_below}
use Rattle.cipher.proofs.BytesLaws.{word_below, round_key_below}
use Rattle.probing.specs.CallPlaces.{made}

-- all bytes of all shares
abbrev pub Small : Shares → Type 0
Small ss = All (Below 256) ss

-- ---- one byte in shares

map_below : (f : ℕ → ℕ) → ((x : ℕ) → f x < 256) → (xs : List ℕ) → Below 256 (map f xs)
map_below f h [] = done
map_below f h (x ∷ xs) = h x & map_below f h xs

times_below : (d : ℕ) (a b ts : List ℕ) → Below 256 a → Below 256 b → Below 256 ts → Below 256 (masked_product d a b ts)
times_below d a b ts ha hb ht = product_below times 8 (λ x y h g. times_lt x y) d a b ts ha hb ht

last_below : (d : ℕ) (v w z ts : List ℕ) → Below 256 w → Below 256 z → Below 256 ts → Below 256 (stage_last d v w z ts)
unfolding stage_last
last_below d v w z ts hw hz ht =
    times_below d (masked_product d (map sixteenth v) w ts) z (drop (product_need d) ts)
    (times_below d (map sixteenth v) w ts (map_below sixteenth sixteenth_lt v) hw ht) hz (all_drop (product_need d) ht)

stage_z_below : (d : ℕ) (x ts : List ℕ) → Below 256 ts → Below 256 (stage_z d x ts)
unfolding stage_z
stage_z_below d x ts ht = refresh_below 8 d (map_below squared squared_lt x) ht

stage_w_below : (d : ℕ) (y ts : List ℕ) → Below 256 ts → Below 256 (stage_w d y ts)
unfolding stage_w
stage_w_below d y ts ht = refresh_below 8 d (map_below fourth fourth_lt y) ht

power_below : (d : ℕ) (x ts : List ℕ) → Below 256 ts → Below 256 (power_254 d x ts)
unfolding power_254
power_below d x ts ht =
    let y = stage_y d x ts in
    let us = drop (stage_need d) ts in
    let hu : Below 256 us = all_drop (stage_need d) ht in
    last_below d (stage_v d y us) (stage_w d y us) (stage_z d x ts) (drop (stage_need d) us)
    (stage_w_below d y us hu) (stage_z_below d x ts ht) (all_drop (stage_need d) hu)

box_of_below : (w : Direction) (d : ℕ) (x ts : List ℕ) → Below 256 ts → Below 256 (box_of w d x ts)
unfolding inverse_box
box_of_below Forward d x ts ht = box_below d x ts
box_of_below Inverse d x ts ht = power_below d (affine_shares Inverse d x) ts ht

-- ---- strings in shares

small-map : (f : List ℕ → List ℕ) → ((s : List ℕ) → Below 256 s → Below 256 (f s)) → {ss : Shares} → Small ss → Small (map f ss)
small-map f g done = done
small-map f g (◌&◌ {x = s} h hs) = g s h & small-map f g hs

small-adds : {ss ts : Shares} → Small ss → Small ts → Small (adds ss ts)
unfolding adds
small-adds done gs = gs
small-adds (h & hs) done = h & hs
small-adds (h & hs) (g & gs) = xors_below 8 h g & small-adds hs gs

small-behind : {ss ts : Shares} → Small ss → Small ts → Small (behind ss ts)
unfolding behind
small-behind done gs = gs
small-behind (h & hs) done = h & hs
small-behind (h & hs) (g & gs) = all_append h g & small-behind hs gs

small-into_first : {t : List ℕ} {ss : Shares} → Below 256 t → Small ss → Small (into_first t ss)
unfolding into_first
small-into_first g done = done
small-into_first g (h & hs) = xors_below 8 h g & hs

set_below : {xs : List ℕ} (i v : ℕ) → v < 256 → Below 256 xs → Below 256 (set xs i v)
set_below i v g done = done
set_below zero v g (h & hs) = g & hs
set_below (suc i) v g (h & hs) = h & set_below i v g hs

small_put : {ss : Shares} {vs : List ℕ} (k : ℕ) → Small ss → Below 256 vs → Small (put ss k vs)
unfolding put
small_put k done g = done
small_put k (h & hs) done = h & hs
small_put k (h & hs) (g & gs) = set_below k _ g h & small_put k hs gs

small-joined : {ss : Shares} → Small ss → Below 256 (joined_string ss)
unfolding joined_string
small-joined done = done
small-joined (h & hs) = xors_below 8 h (small-joined hs)

small-parts : (n l : ℕ) {bs : List ℕ} → Below 256 bs → Small (parts n l bs)
unfolding parts
small-parts zero l h = done
small-parts (suc n) l h = all_take l h & small-parts n l (all_drop l h)

pub split-small : (d : ℕ) {xs ts : List ℕ} → Below 256 xs → Below 256 ts → Small (split d xs ts)
unfolding split
split-small d {xs} {ts} hx ht = xors_below 8 hx (small-joined (small-parts d (length xs) ht)) & small-parts d (length xs) ht

pub column_below : (k : ℕ) {ss : Shares} → Small ss → Below 256 (column k ss)
unfolding column
column_below k done = done
column_below k (h & hs) = at_below 8 h k & column_below k hs

-- ---- the steps

module _ (d : ℕ) where
  subs-small : (w : Direction) (ks : List ℕ) {ss : Shares} {ts : List ℕ} → Small ss → Below 256 ts → Small (subs_of w d ks ss ts)
  unfolding subs_of sub_at
  subs-small w [] hs ht = hs
  subs-small w (k ∷ ks) {ss} {ts} hs ht =
      subs-small w ks (small_put k hs (box_of_below w d (column k ss) ts ht)) (all_drop (box_need d) ht)

  temp-small : (k : Kind) (j : ℕ) {ws : Shares} {ts : List ℕ} → Small ws → Below 256 ts → Small (masked_temp d k j ws ts)
  unfolding masked_temp
  temp-small turned j hs ht = small-into_first (rcon_below j) (small-map rot_word (λ s. rot_word_below) (subs-small Forward in_word hs ht))
  temp-small subbed j hs ht = subs-small Forward in_word hs ht
  temp-small plain j hs ht = hs

  words_small : (i : ℕ) {ks : Shares} → Small ks → Small (map (λ k. word k i) ks)
  words_small i hs = small-map (λ k. word k i) (λ s. word_below i) hs

  schedule_from-small : (left i nk : ℕ) {ks : Shares} {ts : List ℕ} → Small ks → Below 256 ts → Small (schedule_from left i nk d ks ts)
  unfolding schedule_from masked_word
  schedule_from-small zero i nk hs ht = hs
  schedule_from-small (suc l) i nk hs ht =
      schedule_from-small l (suc i) nk
      (small-behind hs (small-adds (words_small (i - nk) hs) (temp-small (kind nk i) (i / nk) (words_small (i - 1) hs) ht)))
      (all_drop (temp_need d (kind nk i)) ht)

  schedule-small : (nk : ℕ) {k : Shares} {ts : List ℕ} → Small k → Below 256 ts → Small (schedule nk d k ts)
  unfolding schedule
  schedule-small nk hs ht = schedule_from-small (total_words nk - nk) nk nk hs ht

  keys_small : (r : ℕ) {ks : Shares} → Small ks → Small (round_keys ks r)
  keys_small r hs = small-map (λ k. round_key k r) (λ s. round_key_below r) hs

  rounds-small : (left r : ℕ) {ks s : Shares} {ts : List ℕ} → Small ks → Small s → Below 256 ts → Small (masked_rounds left r d ks s ts)
  unfolding masked_rounds masked_round masked_last_round
  rounds-small zero r hk hs ht = small-adds (small-map shift_rows (λ s. shift_rows_below) (subs-small Forward by_rows hs ht)) (keys_small r hk)
  rounds-small (suc l) r hk hs ht =
      rounds-small l (suc r) hk
      (small-adds
      (small-map mix_columns (λ s. mix_columns_below) (small-map shift_rows (λ s. shift_rows_below) (subs-small Forward by_rows hs ht)))
      (keys_small r hk))
      (all_drop (round_need d) ht)

  inv_rounds-small : (r : ℕ) {ks s : Shares} {ts : List ℕ} → Small ks → Small s → Below 256 ts → Small (masked_inv_rounds r d ks s ts)
  unfolding masked_inv_rounds masked_inv_round masked_inv_last_round
  inv_rounds-small zero hk hs ht =
      small-adds (subs-small Inverse by_rows (small-map inv_shift_rows (λ s. inv_shift_rows_below) hs) ht) (keys_small 0 hk)
  inv_rounds-small (suc r) hk hs ht =
      inv_rounds-small r hk
      (small-map inv_mix_columns (λ s h. inv_mix_columns_below s)
      (small-adds (subs-small Inverse by_rows (small-map inv_shift_rows (λ s. inv_shift_rows_below) hs) ht) (keys_small (suc r) hk)))
      (all_drop (round_need d) ht)

  -- what a call makes
  pub made-small : (w : Direction) (nk : ℕ) {k x : Shares} {ts : List ℕ} → Small k → Small x → Below 256 ts → Small (made w nk d k x ts)
  unfolding encrypted encrypted_with decrypted decrypted_with
  made-small Forward nk hk hx ht =
      let ks = schedule-small nk hk ht in
      rounds-small (rounds nk - 1) 1 ks (small-adds hx (keys_small 0 ks)) (all_drop (schedule_need nk d) ht)
  made-small Inverse nk hk hx ht =
      let ks = schedule-small nk hk ht in
      inv_rounds-small (rounds nk - 1) ks (small-adds hx (keys_small (rounds nk) ks)) (all_drop (schedule_need nk d) ht)
