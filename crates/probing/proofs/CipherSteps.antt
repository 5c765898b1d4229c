-- KEY EXPANSION, ENCRYPTION, DECRYPTION AND SESSIONS HIDE: they are composed of S-boxes, which are strongly non-interfering, and of steps on each
-- share by itself. Each step lemma follows its definition. Assumes nothing.
use mathlib.Core.Path.{refl, ap, ◌≡◌}
use mathlib.Core.List.{List, map}
use Prim.Native.Nat.{ℕ, zero, suc, ◌+◌, ◌-◌, ◌*◌, ◌/◌}
use native.Mathlib.Nat.{zero-add}
use lib.ListN.{length, take, drop}
use Rattle.xor.proofs.ListsLaws.{length_runs}
use Rattle.gf256.specs.declared.Direction.{Direction}
use Rattle.gf256.specs.declared.Direction.TheVariants.{Forward, Inverse}
use Rattle.gadgets.specs.Steps.{Masked, Hidden}
use Rattle.gadgets.proofs.StepsLaws.{recount, then, followed, then_show, show_then, pair, beside}
use Rattle.cipher.specs.Fips197.{Kind, turned, subbed, plain, kind, word, rot_word, rcon, rounds, total_words, round_key}
use Rattle.cipher.specs.Fips197.{shift_rows, mix_columns, inv_shift_rows, inv_mix_columns}
use Rattle.cipher.specs.States.{adds, behind}
use Rattle.cipher.specs.Cipher.{in_word, masked_temp, temp_need, words, masked_word, schedule_from, schedule_from_need, schedule, schedule_need}
use Rattle.cipher.specs.Cipher.{by_rows, round_keys, masked_round, masked_last_round, round_need, masked_rounds, rounds_need}
use Rattle.cipher.specs.Cipher.{encrypted_with, encrypted_with_need, encrypted, cipher_need}
use Rattle.cipher.specs.Cipher.{masked_inv_last_round, masked_inv_round, masked_inv_rounds, decrypted_with, decrypted}
use Rattle.probing.specs.StringPlaces.{string_count, subs_count}
use Rattle.probing.specs.SchedulePlaces.{temp_sheet, temp_count, word_sheet, word_count, schedule_from_sheet, schedule_from_count}
use Rattle.probing.specs.SchedulePlaces.{schedule_sheet, schedule_count}
use Rattle.probing.specs.RoundPlaces.{mixed_places, inverse_mixed_places, mix_bytes, inv_mix_bytes, mix_sheet, inv_mix_sheet}
use Rattle.probing.specs.RoundPlaces.{round_sheet, round_count, last_round_sheet, last_round_count, rounds_sheet, rounds_count}
use Rattle.probing.specs.RoundPlaces.{inv_round_sheet, inv_round_count, inv_last_round_sheet, inv_rounds_sheet, inv_rounds_count}
use Rattle.probing.specs.CallPlaces.{encrypted_with_sheet, encrypted_with_count, encryption_sheet, encryption_count}
use Rattle.probing.specs.CallPlaces.{decrypted_with_sheet, decrypted_with_count, decryption_sheet, decryption_count}
use Rattle.probing.specs.CallPlaces.{call_sheet, call_count, made}
use Rattle.probing.specs.SessionPlaces.{block_of, keys_length, preparation_sheet, preparation_count, block_sheet, block_count}
use Rattle.probing.specs.SessionPlaces.{blocks_sheet, blocks_need, blocks_count, session_sheet, session_need, session_count}
use Rattle.probing.proofs.StringSteps.{Strings, Two, Reads, reads_self, reads_first, reads_second, reads-map, reads-adds, reads-behind}
use Rattle.probing.proofs.StringSteps.{reads-into, to_one, to_two, show_two, string_to, string_one, string_two, subs_step}

module _ (d : ℕ) where
  -- ---- key expansion

  temp_step : (k : Kind) (j : ℕ) → Hidden 8 d (Strings d) (Strings d) (temp_need d k) (temp_count d k) (temp_sheet d k j) (masked_temp d k j)
  unfolding temp_need temp_count temp_sheet masked_temp
  temp_step turned j =
      let sum = reads-into d (rcon j) (reads-map d rot_word (reads_self d)) in
      then_show (subs_step d Forward in_word) (string_one d 4 sum sum)
  temp_step subbed j = subs_step d Forward in_word
  temp_step plain j = to_one d (reads_self d)

  word_step : (nk i : ℕ) → Hidden 8 d (Strings d) (Strings d) (temp_need d (kind nk i)) (word_count nk d i) (word_sheet nk d i)
      (λ ks ts. behind ks (masked_word nk d i ks ts))
  unfolding word_count word_sheet masked_word
  word_step nk i =
      let sum : Reads d (Two d) (λ s. adds (words s.0 (i - nk)) s.1) =
      reads-adds d (reads-map d (λ k. word k (i - nk)) (reads_first d)) (reads_second d) in
      recount refl (zero-add (temp_count d (kind nk i) + string_count 4 d))
      (show_then (to_two d (reads_self d) (reads-map d (λ k. word k (i - 1)) (reads_self d)))
      (then_show (beside (Strings d) (temp_step (kind nk i) (i / nk)))
      (string_one d 4 (reads-behind d (reads_first d) sum) sum)))

  schedule_from_step : (left i nk : ℕ) → Hidden 8 d (Strings d) (Strings d) (schedule_from_need left i nk d) (schedule_from_count left i nk d)
      (schedule_from_sheet left i nk d) (schedule_from left i nk d)
  unfolding schedule_from_need schedule_from_count schedule_from_sheet schedule_from
  schedule_from_step zero i nk = to_one d (reads_self d)
  schedule_from_step (suc l) i nk = then (word_step nk i) (schedule_from_step l (suc i) nk)

  pub schedule_step : (nk : ℕ)
      → Hidden 8 d (Strings d) (Strings d) (schedule_need nk d) (schedule_count nk d) (schedule_sheet nk d) (schedule nk d)
  unfolding schedule_need schedule_count schedule_sheet schedule
  schedule_step nk = schedule_from_step (total_words nk - nk) nk nk

  -- ---- rounds: the state is the round keys and the block

  mix_places : (i : ℕ) (s : List ℕ) → length (mix_bytes s) ≡ 81
  unfolding mix_bytes mixed_places
  mix_places i s = ap suc (length_runs 5 _ 16 (λ k l. refl))

  inv_mix_places : (i : ℕ) (s : List ℕ) → length (inv_mix_bytes s) ≡ 113
  unfolding inv_mix_bytes inverse_mixed_places
  inv_mix_places i s = ap suc (length_runs 7 _ 16 (λ k l. refl))

  round_step : (r : ℕ) → Hidden 8 d (Two d) (Two d) (round_need d) (round_count d)
      (λ s ts. round_sheet d r s.0 s.1 ts) (λ s ts. (s.0, masked_round d r s.0 s.1 ts))
  unfolding round_count round_sheet masked_round mix_sheet
  round_step r =
      let added : Reads d (Two d) (λ s. adds (map mix_columns (map shift_rows s.1)) (round_keys s.0 r)) =
      reads-adds d (reads-map d mix_columns (reads-map d shift_rows (reads_second d))) (reads-map d (λ k. round_key k r) (reads_first d)) in
      then_show (beside (Strings d) (subs_step d Forward by_rows))
      (then_show (show_two d 81 (λ i s. mix_bytes s) mix_places (reads_first d) (reads_second d) (reads-map d shift_rows (reads_second d)))
      (string_two d 16 (reads_first d) added added))

  last_round_step : (r : ℕ) → Hidden 8 d (Two d) (Two d) (round_need d) (last_round_count d)
      (λ s ts. last_round_sheet d r s.0 s.1 ts) (λ s ts. (s.0, masked_last_round d r s.0 s.1 ts))
  unfolding last_round_count last_round_sheet masked_last_round
  last_round_step r =
      let added : Reads d (Two d) (λ s. adds (map shift_rows s.1) (round_keys s.0 r)) =
      reads-adds d (reads-map d shift_rows (reads_second d)) (reads-map d (λ k. round_key k r) (reads_first d)) in
      then_show (beside (Strings d) (subs_step d Forward by_rows)) (string_two d 16 (reads_first d) added added)

  pub rounds_step : (left r : ℕ) → Hidden 8 d (Two d) (Two d) (rounds_need left d) (rounds_count left d)
      (λ s ts. rounds_sheet left r d s.0 s.1 ts) (λ s ts. (s.0, masked_rounds left r d s.0 s.1 ts))
  unfolding rounds_need rounds_count rounds_sheet masked_rounds
  rounds_step zero r = last_round_step r
  rounds_step (suc l) r = then (round_step r) (rounds_step l (suc r))

  inv_round_step : (r : ℕ) → Hidden 8 d (Two d) (Two d) (round_need d) (inv_round_count d)
      (λ s ts. inv_round_sheet d r s.0 s.1 ts) (λ s ts. (s.0, masked_inv_round d r s.0 s.1 ts))
  unfolding inv_round_count inv_round_sheet masked_inv_round inv_mix_sheet
  inv_round_step r =
      let added : Reads d (Two d) (λ s. adds s.1 (round_keys s.0 r)) =
      reads-adds d (reads_second d) (reads-map d (λ k. round_key k r) (reads_first d)) in
      recount refl (zero-add (subs_count d by_rows + (string_count 16 d + suc d * 113)))
      (show_then (to_two d (reads_first d) (reads-map d inv_shift_rows (reads_second d)))
      (then_show (beside (Strings d) (subs_step d Inverse by_rows))
      (then_show (string_two d 16 (reads_first d) added added)
      (show_two d 113 (λ i s. inv_mix_bytes s) inv_mix_places (reads_first d) (reads-map d inv_mix_columns (reads_second d)) (reads_second d)))))

  inv_last_round_step : (r : ℕ) → Hidden 8 d (Two d) (Two d) (round_need d) (last_round_count d)
      (λ s ts. inv_last_round_sheet d r s.0 s.1 ts) (λ s ts. (s.0, masked_inv_last_round d r s.0 s.1 ts))
  unfolding last_round_count inv_last_round_sheet masked_inv_last_round
  inv_last_round_step r =
      let added : Reads d (Two d) (λ s. adds s.1 (round_keys s.0 r)) =
      reads-adds d (reads_second d) (reads-map d (λ k. round_key k r) (reads_first d)) in
      recount refl (zero-add (subs_count d by_rows + string_count 16 d))
      (show_then (to_two d (reads_first d) (reads-map d inv_shift_rows (reads_second d)))
      (then_show (beside (Strings d) (subs_step d Inverse by_rows)) (string_two d 16 (reads_first d) added added)))

  inv_rounds_step : (r : ℕ) → Hidden 8 d (Two d) (Two d) (rounds_need r d) (inv_rounds_count r d)
      (λ s ts. inv_rounds_sheet r d s.0 s.1 ts) (λ s ts. (s.0, masked_inv_rounds r d s.0 s.1 ts))
  unfolding rounds_need inv_rounds_count inv_rounds_sheet masked_inv_rounds
  inv_rounds_step zero = inv_last_round_step 0
  inv_rounds_step (suc r) = then (inv_round_step (suc r)) (inv_rounds_step r)

  -- ---- whole calls: the state is the block and the key

  encryption_step : (nk : ℕ) → Hidden 8 d (Two d) (Two d) (cipher_need nk d) (encryption_count nk d)
      (λ s ts. encryption_sheet nk d s.1 s.0 ts) (λ s ts. (schedule nk d s.1 ts, encrypted nk d s.1 s.0 ts))
  unfolding cipher_need encrypted_with_need encryption_count encrypted_with_count encryption_sheet encrypted_with_sheet encrypted encrypted_with
  encryption_step nk =
      let added : Reads d (Two d) (λ s. adds s.0 (round_keys s.1 0)) =
      reads-adds d (reads_first d) (reads-map d (λ k. round_key k 0) (reads_second d)) in
      show_then (string_two d (4 * nk) (reads_first d) (reads_second d) (reads_second d))
      (show_then (string_two d 16 (reads_first d) (reads_second d) (reads_first d))
      (then (beside (Strings d) (schedule_step nk))
      (show_then (string_two d 16 (reads_second d) added added) (rounds_step (rounds nk - 1) 1))))

  decryption_step : (nk : ℕ) → Hidden 8 d (Two d) (Two d) (cipher_need nk d) (decryption_count nk d)
      (λ s ts. decryption_sheet nk d s.1 s.0 ts) (λ s ts. (schedule nk d s.1 ts, decrypted nk d s.1 s.0 ts))
  unfolding cipher_need encrypted_with_need decryption_count decrypted_with_count decryption_sheet decrypted_with_sheet decrypted decrypted_with
  decryption_step nk =
      let added : Reads d (Two d) (λ s. adds s.0 (round_keys s.1 (rounds nk))) =
      reads-adds d (reads_first d) (reads-map d (λ k. round_key k (rounds nk)) (reads_second d)) in
      show_then (string_two d (4 * nk) (reads_first d) (reads_second d) (reads_second d))
      (show_then (string_two d 16 (reads_first d) (reads_second d) (reads_first d))
      (then (beside (Strings d) (schedule_step nk))
      (show_then (string_two d 16 (reads_second d) added added) (inv_rounds_step (rounds nk - 1)))))

  -- either, by the direction of the cipher
  pub call_step : (w : Direction) (nk : ℕ) → Hidden 8 d (Two d) (Two d) (cipher_need nk d) (call_count w nk d)
      (λ s ts. call_sheet w nk d s.1 s.0 ts) (λ s ts. (schedule nk d s.1 ts, made w nk d s.1 s.0 ts))
  call_step Forward nk = encryption_step nk
  call_step Inverse nk = decryption_step nk

  -- ---- a session: the state is the blocks and the round keys

  abbrev Three : Masked (Unit {0})
  Three = pair (Strings d) (Two d)

  reads_block : (j : ℕ) → Reads d (Two d) (λ s. block_of s.0 j)
  reads_block j = reads-map d (λ s. take 16 (drop (16 * j) s)) (reads_first d)

  pub block_step : (nk j : ℕ) → Hidden 8 d (Two d) (Two d) (encrypted_with_need nk d) (block_count nk d)
      (λ s ts. block_sheet nk d s.1 (block_of s.0 j) ts) (λ s ts. s)
  unfolding encrypted_with_need encrypted_with_sheet encrypted_with_count block_sheet block_count
  block_step nk j =
      let added : Reads d (Two d) (λ s. adds (block_of s.0 j) (round_keys s.1 0)) =
      reads-adds d (reads_block j) (reads-map d (λ k. round_key k 0) (reads_second d)) in
      show_then (string_two d 16 (reads_first d) (reads_second d) (reads_block j))
      (followed (Two d) (λ s. (s.0, s.1.0)) (λ s h. (h.0, h.1.0)) (λ v i s s' h h' l e. (e.0, e.1.0))
      (show_then
      (string_to d 16 Three (λ s. (s.0, (s.1, adds (block_of s.0 j) (round_keys s.1 0))))
      (λ s h. (h.0, (h.1, added.as_many s h))) (λ v i s s' h h' l e. (e.0, (e.1, added.apart i s s' h h' l e))) added)
      (beside (Strings d) (rounds_step (rounds nk - 1) 1))))

  blocks_step : (left j nk : ℕ) → Hidden 8 d (Two d) (Two d) (blocks_need left nk d) (blocks_count left nk d)
      (λ s ts. blocks_sheet left j nk d s.1 s.0 ts) (λ s ts. s)
  unfolding blocks_need blocks_count blocks_sheet
  blocks_step zero j nk = to_two d (reads_first d) (reads_second d)
  blocks_step (suc l) j nk = then (block_step nk j) (blocks_step l (suc j) nk)

  pub preparation_step : (nk : ℕ) → Hidden 8 d (Two d) (Two d) (schedule_need nk d) (preparation_count nk d)
      (λ s ts. preparation_sheet nk d s.1 ts) (λ s ts. (s.0, schedule nk d s.1 ts))
  unfolding preparation_sheet preparation_count
  preparation_step nk =
      show_then (string_two d (4 * nk) (reads_first d) (reads_second d) (reads_second d))
      (then_show (beside (Strings d) (schedule_step nk))
      (string_two d (keys_length nk) (reads_first d) (reads_second d) (reads_second d)))

  pub session_step : (n nk : ℕ) → Hidden 8 d (Two d) (Two d) (session_need n nk d) (session_count n nk d)
      (λ s ts. session_sheet n nk d s.1 s.0 ts) (λ s ts. (s.0, schedule nk d s.1 ts))
  unfolding session_need session_count session_sheet
  session_step n nk = then (preparation_step nk) (blocks_step n 0 nk)
