-- `schedule::word::make_temp` meets its contract. Assumes nothing.
use Prim.Native.Nat.{◌*◌}
use native.Mathlib.Omega.{arith}
use Rattle.cipher.specs.Fips197.{turned}
use Rattle.cipher.specs.Cipher.{temp_need}
use Rattle.tape_words.specs.Words.{bytes_of}
use Rattle.schedule.proofs.WordLaws.{kind_turned, kind_subbed, kind_plain, temp_says, subbed_says, plain_says, need_turned, need_subbed}
use Rattle.schedule.proofs.WordLaws.{some_turn}
use borrow.Author.Rules.{rules}
use Rattle.schedule.proofs.word.make_temp.Goals as goal

pub turned_temp-requires : goal.turned_temp-requires
turned_temp-requires c =
    let v = c.args in
    let fit = c.requires in
    let e = kind_turned v.nk v.i (omega arith) in
    record {
      some = some_turn v.nk v.i fit.some fit.past;
      long = fit.long;
      drawn = need_turned v.nk v.d v.i _ e fit.drawn;
    }

pub returns-then-left-eq0 : goal.returns-then-left-eq0
unfolding temp_need
returns-then-left-eq0 c =
    let v = c.args in
    let q = c.turned_temp in
    let e = kind_turned v.nk v.i (omega arith) in
    temp_says v.nk v.d v.i turned (bytes_of v.tape.now) v.t.now _ (4 * q.result) e q.ensures.0 q.ensures.1

pub sub_word-requires : goal.sub_word-requires
sub_word-requires c =
    let v = c.args in
    let fit = c.requires in
    let e = kind_subbed v.nk v.i (omega arith) (omega arith) in
    (fit.long, need_subbed v.nk v.d v.i _ e fit.drawn)

pub returns-then-left-eq4 : goal.returns-then-left-eq4
returns-then-left-eq4 c =
    let v = c.args in
    let q = c.sub_word in
    let e = kind_subbed v.nk v.i (omega arith) (omega arith) in
    subbed_says v.nk v.d v.i (bytes_of v.tape.now) v.t.now _ (4 * q.result) e q.ensures.0 q.ensures.1

pub returns-else-left-eq4 : goal.returns-else-left-eq4
returns-else-left-eq4 c =
    let v = c.args in
    let e = kind_plain v.nk v.i (λ z. omega arith) (λ u w. omega arith) in
    plain_says v.nk v.d v.i (bytes_of v.tape.now) v.t.now e (omega arith)

pub returns-else-nk-gt6 : goal.returns-else-nk-gt6
returns-else-nk-gt6 c =
    let v = c.args in
    let e = kind_plain v.nk v.i (λ z. omega arith) (λ u w. omega arith) in
    plain_says v.nk v.d v.i (bytes_of v.tape.now) v.t.now e (omega arith)
