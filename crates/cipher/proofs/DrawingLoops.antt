-- The loops of the cipher whose steps draw, as instances of `DrawingLaws`: S-boxes of listed bytes, words of the key expansion, rounds.
-- Assumes nothing.
use mathlib.Core.Path.{◌≡◌, ap, ◌∙◌}
use mathlib.Core.List.{List}
use Prim.Native.Nat.{ℕ, suc, ◌+◌, ◌*◌, ◌-◌, ◌<◌}
use native.Mathlib.Nat.{suc-mul, zero-mul}
use native.Mathlib.Omega.{arith}
use lib.Dec.{eqb}
use lib.ListN.{length, drop}
use lib.Seq.{drop-cons, drop-length}
use Rattle.xor.specs.Lists.{at}
use Rattle.gf256.specs.declared.Direction.{Direction}
use Rattle.shares.specs.Strings.{Shares}
use Rattle.sbox.specs.Box.{box_need}
use Rattle.cipher.specs.Fips197.{kind}
use Rattle.cipher.specs.States.{behind}
use Rattle.cipher.specs.Cipher.{sub_at, subs_of, subs_need, masked_word, temp_need, schedule_from, schedule_from_need, round_need}
use Rattle.cipher.specs.Rounds.{round_of, key_of, rounds_of}
use Rattle.cipher.proofs.DrawingLaws.{Loop}

-- ---- S-boxes of the bytes ks, in turn

unfoldable pub box_loop : Direction → (d : ℕ) → (ks : List ℕ) → Loop Shares (length ks)
unfolding subs_of subs_need at
box_loop w d ks = record {
  step = λ m ss ts. sub_at w d (at ks m) ss ts;
  cost = λ m. box_need d;
  left = λ m ss ts. subs_of w d (drop m ks) ss ts;
  need = λ m. subs_need d (drop m ks);
  left_next = λ m h ss ts. ap (λ (js : List ℕ). subs_of w d js ss ts) (drop-cons ks m 0 h);
  left_end = λ ss ts. ap (λ (js : List ℕ). subs_of w d js ss ts) (drop-length ks);
  need_next = λ m h. ap (subs_need d) (drop-cons ks m 0 h);
  need_end = ap (subs_need d) (drop-length ks);
}

-- ---- the words of the key expansion up to the total

pub one_left : (n i : ℕ) → i < n → n - i ≡ suc (n - suc i)
one_left n i h = omega arith

pub none_left : (n : ℕ) → n - n ≡ 0
none_left n = omega arith

unfoldable pub word_loop : (nk d total : ℕ) → Loop Shares total
unfolding schedule_from schedule_from_need
word_loop nk d total = record {
  step = λ i ks ts. behind ks (masked_word nk d i ks ts);
  cost = λ i. temp_need d (kind nk i);
  left = λ i ks ts. schedule_from (total - i) i nk d ks ts;
  need = λ i. schedule_from_need (total - i) i nk d;
  left_next = λ i h ks ts. ap (λ (l : ℕ). schedule_from l i nk d ks ts) (one_left total i h);
  left_end = λ ks ts. ap (λ (l : ℕ). schedule_from l total nk d ks ts) (none_left total);
  need_next = λ i h. ap (λ (l : ℕ). schedule_from_need l i nk d) (one_left total i h);
  need_end = ap (λ (l : ℕ). schedule_from_need l total nk d) (none_left total);
}

-- ---- the rounds, from 1 to nr

pub rounds_next : (nr i m : ℕ) → i < suc nr → (suc nr - i) * m ≡ m + (suc nr - suc i) * m
rounds_next nr i m h =
    let e : (suc nr - i) * m ≡ suc (suc nr - suc i) * m = ap (λ (l : ℕ). l * m) (one_left (suc nr) i h) in
    omega (arith, suc-mul (suc nr - suc i) m)

unfoldable pub round_loop : Direction → (d nr : ℕ) → (keys : Shares) → Loop Shares (suc nr)
unfolding rounds_of
round_loop w d nr ks = record {
  step = λ i s ts. round_of w (eqb i nr) d (key_of w nr i) ks s ts;
  cost = λ i. round_need d;
  left = λ i s ts. rounds_of w nr (suc nr - i) i d ks s ts;
  need = λ i. (suc nr - i) * round_need d;
  left_next = λ i h s ts. ap (λ (l : ℕ). rounds_of w nr l i d ks s ts) (one_left (suc nr) i h);
  left_end = λ s ts. ap (λ (l : ℕ). rounds_of w nr l (suc nr) d ks s ts) (none_left (suc nr));
  need_next = λ i h. rounds_next nr i (round_need d) h;
  need_end = ap (λ (l : ℕ). l * round_need d) (none_left (suc nr)) ∙ zero-mul (round_need d);
}

-- what is left before round 1 is all of them
pub rounds-whole : (w : Direction) (d nr : ℕ) (ks s : Shares) (ts : List ℕ) → (round_loop w d nr ks).left 1 s ts ≡ rounds_of w nr nr 1 d ks s ts
unfolding round_loop
rounds-whole w d nr ks s ts = let e : suc nr - 1 ≡ nr = omega arith in ap (λ (l : ℕ). rounds_of w nr l 1 d ks s ts) e

pub rounds-whole-need : (w : Direction) (d nr : ℕ) (ks : Shares) → (round_loop w d nr ks).need 1 ≡ nr * round_need d
unfolding round_loop
rounds-whole-need w d nr ks = let e : suc nr - 1 ≡ nr = omega arith in ap (λ (l : ℕ). l * round_need d) e
