-- What a call puts out stands among its places: the output's shares, share after share as the call lays them out, the prepared keys, and the shares
-- of an S-box. Assumes nothing.
use mathlib.Core.Path.{◌≡◌, refl, sym, ap, ap₂, ◌∙◌}
use mathlib.Core.List.{List, [], ◌++◌, map, append_assoc, append-nil}
use Prim.Native.Nat.{ℕ, zero, suc, ◌+◌, ◌-◌, ◌*◌, ◌%◌, ◌≤◌, ◌<◌}
use native.Mathlib.Nat.{zero-add, add-zero, suc-mul, zero-mul}
use native.Mathlib.Omega.{arith}
use lib.ListN.{length, get_or, take, drop, length-append, length-take, length-drop}
use lib.Seq.{drop_at, take_at, drop-drop, get_or-append-add}
use Rattle.xor.specs.Lists.{at, tab}
use Rattle.xor.proofs.ListsLaws.{tab-at}
use Rattle.gf256.specs.declared.Direction.{Direction}
use Rattle.gf256.specs.declared.Direction.TheVariants.{Forward, Inverse}
use Rattle.gf256.specs.Directions.{affine_of, constant_of}
use Rattle.shares.specs.Strings.{Shares, Shared, alone, more, laid}
use Rattle.shares.proofs.StringsLaws.{laid-length}
use Rattle.power254.specs.Power254.{power_254}
use Rattle.gadgets.specs.Steps.{each_share}
use Rattle.gadgets.proofs.PicksLaws.{at_share}
use Rattle.sbox.specs.Box.{box}
use Rattle.cipher.specs.Fips197.{rounds, inv_shift_rows}
use Rattle.cipher.specs.States.{adds}
use Rattle.cipher.specs.Cipher.{by_rows, round_keys, schedule, schedule_need, masked_round, masked_last_round, round_need, masked_rounds}
use Rattle.cipher.specs.Cipher.{encrypted_with, encrypted_with_need, encrypted, masked_inv_round, masked_inv_last_round, masked_inv_rounds}
use Rattle.cipher.specs.Cipher.{decrypted_with, decrypted}
use Rattle.cipher.proofs.Accuracy.{schedule-shared, encrypted_with-shared, encrypted-shared, decrypted-shared}
use Rattle.cipher.proofs.StatesLaws.{map-shared}
use Rattle.probing.specs.BoxPlaces.{power_sheet, power_count, share_corrected, affine_bytes, affine_sheet, box_sheet}
use Rattle.probing.specs.StringPlaces.{shares_sheet, whole_sheet, string_sheet, subs_sheet}
use Rattle.probing.specs.SchedulePlaces.{schedule_sheet}
use Rattle.probing.specs.RoundPlaces.{round_sheet, last_round_sheet, rounds_sheet, inv_round_sheet, inv_last_round_sheet, inv_rounds_sheet}
use Rattle.probing.specs.CallPlaces.{encrypted_with_sheet, encryption_sheet, decrypted_with_sheet, decryption_sheet}
use Rattle.probing.specs.CallPlaces.{call_sheet, call_count, made}
use Rattle.probing.specs.SessionPlaces.{block_of, keys_length, preparation_sheet, preparation_count, block_sheet, block_count}
use Rattle.probing.specs.SessionPlaces.{blocks_sheet, session_sheet}
use Rattle.probing.specs.Shown.{places_from}
use Rattle.probing.proofs.BoxStrong.{power-strong, at-affine, four-places}
use Rattle.probing.proofs.CipherSteps.{call_step, preparation_step, block_step}

-- ---- a string's places are its bytes as they are laid out

each_laid : {m d : ℕ} {ss : Shares} (i : ℕ) → Shared m d ss → each_share (λ i s. tab (at s) m) i ss ≡ laid ss
unfolding each_share laid
each_laid {m} i (alone {s = s} h) = ap (λ (n : ℕ). tab (at s) n ++ []) (sym h) ∙ ap (λ (l : List ℕ). l ++ []) (tab-at s)
each_laid {m} i (more {s = s} {ss = ss} h hs) = ap₂ ◌++◌ (ap (λ (n : ℕ). tab (at s) n) (sym h) ∙ tab-at s) (each_laid (suc i) hs)

sheet-laid : {m d : ℕ} {ss : Shares} → Shared m d ss → shares_sheet m ss ≡ laid ss
unfolding shares_sheet
sheet-laid hs = each_laid 0 hs

pub shared-count : {l d : ℕ} {ss : Shares} → Shared l d ss → length ss ≡ suc d
shared-count (alone h) = refl
shared-count (more h hs) = ap suc (shared-count hs)

-- ---- what a sheet ends with

abbrev Ends : (sheet last : List ℕ) → Type 0
Ends l e = (front : List ℕ) × (l ≡ front ++ e)

ends_more : (f l e : List ℕ) → Ends l e → Ends (f ++ l) e
ends_more f l e h = (f ++ h.0, ap (λ (x : List ℕ). f ++ x) h.1 ∙ sym (append_assoc f h.0 e))

string_ends : (m : ℕ) (ss : Shares) → Ends (string_sheet m ss) (shares_sheet m ss)
unfolding string_sheet
string_ends m ss = (whole_sheet ss, refl)

rounds_end : (left r d : ℕ) (ks s : Shares) (ts : List ℕ) → Ends (rounds_sheet left r d ks s ts) (shares_sheet 16 (masked_rounds left r d ks s ts))
unfolding rounds_sheet last_round_sheet masked_rounds
rounds_end zero r d ks s ts = ends_more (subs_sheet Forward d by_rows s ts) _ _ (string_ends 16 (masked_last_round d r ks s ts))
rounds_end (suc l) r d ks s ts =
    ends_more (round_sheet d r ks s ts) _ _ (rounds_end l (suc r) d ks (masked_round d r ks s ts) (drop (round_need d) ts))

inv_rounds_end : (r d : ℕ) (ks s : Shares) (ts : List ℕ) → Ends (inv_rounds_sheet r d ks s ts) (shares_sheet 16 (masked_inv_rounds r d ks s ts))
unfolding inv_rounds_sheet inv_last_round_sheet masked_inv_rounds
inv_rounds_end zero d ks s ts =
    ends_more (subs_sheet Inverse d by_rows (map inv_shift_rows s) ts) _ _ (string_ends 16 (masked_inv_last_round d 0 ks s ts))
inv_rounds_end (suc r) d ks s ts =
    ends_more (inv_round_sheet d (suc r) ks s ts) _ _ (inv_rounds_end r d ks (masked_inv_round d (suc r) ks s ts) (drop (round_need d) ts))

encrypted_with_end : (nk d : ℕ) (ks x : Shares) (ts : List ℕ)
    → Ends (encrypted_with_sheet nk d ks x ts) (shares_sheet 16 (encrypted_with nk d ks x ts))
unfolding encrypted_with_sheet encrypted_with
encrypted_with_end nk d ks x ts =
    ends_more (string_sheet 16 (adds x (round_keys ks 0))) _ _ (rounds_end (rounds nk - 1) 1 d ks (adds x (round_keys ks 0)) ts)

decrypted_with_end : (nk d : ℕ) (ks x : Shares) (ts : List ℕ)
    → Ends (decrypted_with_sheet nk d ks x ts) (shares_sheet 16 (decrypted_with nk d ks x ts))
unfolding decrypted_with_sheet decrypted_with
decrypted_with_end nk d ks x ts =
    ends_more (string_sheet 16 (adds x (round_keys ks (rounds nk)))) _ _
    (inv_rounds_end (rounds nk - 1) d ks (adds x (round_keys ks (rounds nk))) ts)

call_end : (w : Direction) (nk d : ℕ) (k x : Shares) (ts : List ℕ) → Ends (call_sheet w nk d k x ts) (shares_sheet 16 (made w nk d k x ts))
unfolding encryption_sheet encrypted decryption_sheet decrypted
call_end Forward nk d k x ts =
    ends_more (string_sheet (4 * nk) k) _ _ (ends_more (string_sheet 16 x) _ _ (ends_more (schedule_sheet nk d k ts) _ _
    (encrypted_with_end nk d (schedule nk d k ts) x (drop (schedule_need nk d) ts))))
call_end Inverse nk d k x ts =
    ends_more (string_sheet (4 * nk) k) _ _ (ends_more (string_sheet 16 x) _ _ (ends_more (schedule_sheet nk d k ts) _ _
    (decrypted_with_end nk d (schedule nk d k ts) x (drop (schedule_need nk d) ts))))

preparation_end : (nk d : ℕ) (k : Shares) (ts : List ℕ) → Ends (preparation_sheet nk d k ts) (shares_sheet (keys_length nk) (schedule nk d k ts))
unfolding preparation_sheet
preparation_end nk d k ts =
    ends_more (string_sheet (4 * nk) k) _ _ (ends_more (schedule_sheet nk d k ts) _ _ (string_ends (keys_length nk) (schedule nk d k ts)))

block_end : (nk d : ℕ) (ks x : Shares) (ts : List ℕ) → Ends (block_sheet nk d ks x ts) (shares_sheet 16 (encrypted_with nk d ks x ts))
unfolding block_sheet
block_end nk d ks x ts = ends_more (string_sheet 16 x) _ _ (encrypted_with_end nk d ks x ts)

-- ---- by number: of a sheet of n places that ends with a string in shares, followed by whatever comes behind it

shown_last : (n m d : ℕ) (l rest : List ℕ) {ss : Shares} → Ends l (shares_sheet m ss) → Shared m d ss → length l ≡ n
    → places_from (n - suc d * m) (suc d * m) (l ++ rest) ≡ laid ss
shown_last n m d l rest {ss} h hs q =
    let e = sheet-laid hs in
    let c : length (laid ss) ≡ suc d * m = laid-length hs in
    let s : l ++ rest ≡ h.0 ++ (laid ss ++ rest) =
    ap (λ (x : List ℕ). x ++ rest) (h.1 ∙ ap (λ (x : List ℕ). h.0 ++ x) e) ∙ append_assoc h.0 (laid ss) rest in
    let u : length h.0 ≡ n - suc d * m =
    omega (arith, length-append h.0 (laid ss), ap length (h.1 ∙ ap (λ (x : List ℕ). h.0 ++ x) e)) in
    ap (λ (x : List ℕ). take (suc d * m) (drop (n - suc d * m) x)) s
    ∙ ap (take (suc d * m)) (drop_at h.0 (laid ss ++ rest) (n - suc d * m) u)
    ∙ take_at (laid ss) rest (suc d * m) c

places_behind : (a : List ℕ) (n p m : ℕ) (l : List ℕ) → length a ≡ n → places_from (n + p) m (a ++ l) ≡ places_from p m l
places_behind a n p m l h =
    ap (take m) (sym (drop-drop p n (a ++ l)) ∙ ap (drop p) (drop_at a l n h))

-- THE OUTPUT OF A CALL stands at its last places
pub call_shown : (w : Direction) (nk : ℕ) {d : ℕ} {k x : Shares} (ts : List ℕ) → 1 ≤ nk → Shared (4 * nk) d k → Shared 16 d x
    → places_from (call_count w nk d - suc d * 16) (suc d * 16) (call_sheet w nk d k x ts) ≡ laid (made w nk d k x ts)
call_shown w nk {d} {k} {x} ts h hk hx =
    ap (places_from (call_count w nk d - suc d * 16) (suc d * 16)) (sym (append-nil (call_sheet w nk d k x ts)))
    ∙ shown_last (call_count w nk d) 16 d (call_sheet w nk d k x ts) [] (call_end w nk d k x ts) (made-shared w)
    ((call_step d w nk).sheet_length (x, k) ts (shared-count hx, shared-count hk))
  where
    made-shared : (w : Direction) → Shared 16 d (made w nk d k x ts)
    made-shared Forward = encrypted-shared nk ts h hk hx
    made-shared Inverse = decrypted-shared nk ts h hk hx

-- ---- a session

module _ (nk : ℕ) {d : ℕ} {k xs : Shares} (some : 1 ≤ nk) (hk : Shared (4 * nk) d k) (n : ℕ) (hx : Shared (16 * n) d xs) (ts : List ℕ) where
  preparation_long : length (preparation_sheet nk d k ts) ≡ preparation_count nk d
  preparation_long = (preparation_step d nk).sheet_length (xs, k) ts (shared-count hx, shared-count hk)

  keys_shared : Shared (keys_length nk) d (schedule nk d k ts)
  keys_shared = schedule-shared nk ts some hk

  -- THE PREPARED KEYS stand at the last places of the preparation
  pub prepared_shown :
      places_from (preparation_count nk d - suc d * keys_length nk) (suc d * keys_length nk) (session_sheet n nk d k xs ts)
      ≡ laid (schedule nk d k ts)
  unfolding session_sheet
  prepared_shown =
      shown_last (preparation_count nk d) (keys_length nk) d (preparation_sheet nk d k ts) _ (preparation_end nk d k ts) keys_shared preparation_long

  -- block j of the blocks
  pub block_shared : (j : ℕ) → j < n → Shared 16 d (block_of xs j)
  block_shared j l =
      map-shared (λ s. take 16 (drop (16 * j) s)) (λ s h. length-take-drop s h) hx
    where
      length-take-drop : (s : List ℕ) → length s ≡ 16 * n → length (take 16 (drop (16 * j) s)) ≡ 16
      length-take-drop s h = omega (arith, length-take 16 (drop (16 * j) s), length-drop (16 * j) s)

  block_long : (j : ℕ) (us : List ℕ) → length (block_sheet nk d (schedule nk d k ts) (block_of xs j) us) ≡ block_count nk d
  block_long j us = (block_step d nk j).sheet_length (xs, schedule nk d k ts) us (shared-count hx, shared-count keys_shared)

  -- the output of block i + j, j blocks behind block i, among `left` blocks from i on
  blocks_shown : (left i j : ℕ) (us : List ℕ) → j < left → i + left ≡ n
      → places_from (j * block_count nk d + (block_count nk d - suc d * 16)) (suc d * 16) (blocks_sheet left i nk d (schedule nk d k ts) xs us)
      ≡ laid (encrypted_with nk d (schedule nk d k ts) (block_of xs (i + j)) (drop (j * encrypted_with_need nk d) us))
  unfolding blocks_sheet
  blocks_shown zero i j us l e = absurd (omega arith)
  blocks_shown (suc left) i zero us l e =
      let c = block_count nk d in
      let z : 0 * c + (c - suc d * 16) ≡ c - suc d * 16 = omega (arith, zero-mul c) in
      ap (λ (p : ℕ). places_from p (suc d * 16) (blocks_sheet (suc left) i nk d (schedule nk d k ts) xs us)) z
      ∙ shown_last c 16 d (block_sheet nk d (schedule nk d k ts) (block_of xs i) us) _ (block_end nk d (schedule nk d k ts) (block_of xs i) us)
      (encrypted_with-shared nk us (omega arith) keys_shared (block_shared i (omega arith))) (block_long i us)
      ∙ ap₂ (λ (b : ℕ) (ws : List ℕ). laid (encrypted_with nk d (schedule nk d k ts) (block_of xs b) ws)) (sym (add-zero i))
      (ap (λ (m : ℕ). drop m us) (sym (zero-mul (encrypted_with_need nk d))))
  blocks_shown (suc left) i (suc j) us l e =
      let c = block_count nk d in
      let m = encrypted_with_need nk d in
      let z : suc j * c + (c - suc d * 16) ≡ c + (j * c + (c - suc d * 16)) = omega (arith, suc-mul j c) in
      let y : m + j * m ≡ suc j * m = omega (arith, suc-mul j m) in
      let v : suc i + j ≡ i + suc j = omega arith in
      ap (λ (p : ℕ). places_from p (suc d * 16) (blocks_sheet (suc left) i nk d (schedule nk d k ts) xs us)) z
      ∙ places_behind (block_sheet nk d (schedule nk d k ts) (block_of xs i) us) c (j * c + (c - suc d * 16)) (suc d * 16) _ (block_long i us)
      ∙ blocks_shown left (suc i) j (drop m us) (omega arith) (omega arith)
      ∙ ap₂ (λ (b : ℕ) (ws : List ℕ). laid (encrypted_with nk d (schedule nk d k ts) (block_of xs b) ws)) v
      (drop-drop (j * m) m us ∙ ap (λ (q : ℕ). drop q us) y)

  -- THE OUTPUT OF BLOCK j of a session stands at the last places of that block
  pub block_shown : (j : ℕ) → j < n
      → places_from (preparation_count nk d + (j * block_count nk d + (block_count nk d - suc d * 16))) (suc d * 16) (session_sheet n nk d k xs ts)
      ≡ laid (encrypted_with nk d (schedule nk d k ts) (block_of xs j) (drop (j * encrypted_with_need nk d) (drop (schedule_need nk d) ts)))
  unfolding session_sheet
  block_shown j l =
      places_behind (preparation_sheet nk d k ts) (preparation_count nk d) (j * block_count nk d + (block_count nk d - suc d * 16)) (suc d * 16) _
      preparation_long
      ∙ blocks_shown n 0 j (drop (schedule_need nk d) ts) l (zero-add n)
      ∙ ap (λ (b : ℕ). laid (encrypted_with nk d (schedule nk d k ts) (block_of xs b)
      (drop (j * encrypted_with_need nk d) (drop (schedule_need nk d) ts)))) (zero-add j)

-- ---- THE OUTPUT OF AN S-BOX: share i is the last of the four values of share i in the affine map

last_of-four : (d i a : ℕ) → get_or (affine_bytes Forward d i a) 3 0 ≡ share_corrected (constant_of Forward) (d % 2) i (affine_of Forward a)
unfolding affine_bytes
last_of-four d i a = refl

pub box-shown : (d : ℕ) (x ts : List ℕ) (i : ℕ) → length x ≡ suc d → i < suc d
    → at (box_sheet Forward d x ts) (power_count d + (i * 4 + 3)) ≡ at (box d x ts) i
unfolding box_sheet affine_sheet box at
box-shown d x ts i h l =
    let p = power_sheet d x ts in
    let y = power_254 d x ts in
    let long : length p ≡ power_count d = (power-strong d).sheet_length x ts h in
    let out : length y ≡ suc d = (power-strong d).out_length x ts h in
    ap (λ (n : ℕ). get_or (p ++ each_share (affine_bytes Forward d) 0 y) (n + (i * 4 + 3)) 0) (sym long)
    ∙ get_or-append-add p (each_share (affine_bytes Forward d) 0 y) (i * 4 + 3) 0
    ∙ at_share 0 4 (affine_bytes Forward d) (four-places d Forward) i 3 0 y (omega arith) (omega arith)
    ∙ ap (λ (k : ℕ). get_or (affine_bytes Forward d k (get_or y i 0)) 3 0) (zero-add i)
    ∙ last_of-four d i (get_or y i 0)
    ∙ sym (at-affine d Forward y i (omega arith))
