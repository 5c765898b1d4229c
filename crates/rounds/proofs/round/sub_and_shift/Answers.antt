-- `rounds::round::sub_and_shift` meets its contract. Assumes nothing.
use mathlib.Core.List.{map}
use mathlib.Core.Path.{sym, ap, ◌∙◌}
use Prim.Native.Nat.{suc}
use Rattle.tape_words.specs.Words.{bytes_of}
use Rattle.gf256.specs.declared.Direction.{Direction}
use Rattle.shares.specs.Strings.{parts, laid}
use Rattle.cipher.specs.Fips197.{shift_rows, inv_shift_rows}
use Rattle.cipher.specs.Cipher.{subs, inv_subs, by_rows}
use Rattle.cipher.proofs.FipsLaws.{inv_shift_rows-length}
use Rattle.cipher.proofs.StatesLaws.{map-shared}
use Rattle.cipher.proofs.CipherLaws.{subs-shared}
use Rattle.rounds.specs.Directions.{shifted_of}
use Rattle.rounds.proofs.RoundLaws.{two_steps, state_shape}
use Rattle.rounds.proofs.round.sub_and_shift.Goals as goal

pub returns-in-Forward : goal.returns-in-Forward
returns-in-Forward c =
    let a = c.args in
    let ts = bytes_of a.tape.now in
    let p = parts (suc a.d) 16 a.s.now in
    let shape = subs-shared by_rows ts (state_shape a.d a.s.now c.requires.1) in
    let boxed = c.sub_rows-drawn.ensures in
    let made = two_steps a.d (λ p. subs a.d by_rows p ts) (map shift_rows) _ _ _ shape boxed.1 c.step_all.ensures in
    (boxed.0, made ∙ sym (ap (λ (w : Direction). laid (shifted_of w a.d p ts)) c.in-Forward.is))

pub returns-in-Inverse : goal.returns-in-Inverse
returns-in-Inverse c =
    let a = c.args in
    let ts = bytes_of a.tape.now in
    let p = parts (suc a.d) 16 a.s.now in
    let shape = map-shared inv_shift_rows (λ s e. inv_shift_rows-length s) (state_shape a.d a.s.now c.requires.1) in
    let boxed = c.sub_rows.ensures in
    let made = two_steps a.d (map inv_shift_rows) (λ p. inv_subs a.d by_rows p ts) _ _ _ shape c.step_all-in-Inverse.ensures boxed.1 in
    (boxed.0, made ∙ sym (ap (λ (w : Direction). laid (shifted_of w a.d p ts)) c.in-Inverse.is))
