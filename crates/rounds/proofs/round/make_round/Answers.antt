-- `rounds::round::make_round` meets its contract. Assumes nothing.
use mathlib.Core.Bool.{Bool}
use mathlib.Core.Path.{sym, ap, ◌∙◌}
use Prim.Native.Nat.{suc}
use Rattle.tape_words.specs.Words.{bytes_of}
use Rattle.shares.specs.Strings.{parts, laid}
use Rattle.cipher.specs.States.{adds}
use Rattle.cipher.specs.Cipher.{round_keys}
use Rattle.cipher.specs.Rounds.{round_of}
use Rattle.rounds.specs.Directions.{shifted_of, keyed_of}
use Rattle.rounds.proofs.RoundLaws.{two_steps, state_shape, shifted-shared, round-steps, last_steps}
use Rattle.rounds.proofs.round.make_round.Goals as goal

pub returns-then-last : goal.returns-then-last
returns-then-last c =
    let a = c.args in
    let ts = bytes_of a.tape.now in
    let p = parts (suc a.d) 16 a.s.now in
    let ks = parts (suc a.d) a.m a.keys.now in
    let shape = shifted-shared a.which ts (state_shape a.d a.s.now c.requires.long) in
    let half = c.sub_and_shift-drawn.ensures in
    let made = two_steps a.d (λ p. shifted_of a.which a.d p ts) (λ p. adds p (round_keys ks a.r)) _ _ _ shape half.1 in
    let all = made c.add_key.ensures ∙ ap laid (last_steps a.which a.d a.r ks p ts) in
    (half.0, all ∙ sym (ap (λ (l : Bool). laid (round_of a.which l a.d a.r ks p ts)) c.if-last.true))

pub returns-else-last : goal.returns-else-last
returns-else-last c =
    let a = c.args in
    let ts = bytes_of a.tape.now in
    let p = parts (suc a.d) 16 a.s.now in
    let ks = parts (suc a.d) a.m a.keys.now in
    let shape = shifted-shared a.which ts (state_shape a.d a.s.now c.requires.long) in
    let half = c.sub_and_shift-drawn.ensures in
    let made = two_steps a.d (λ p. shifted_of a.which a.d p ts) (keyed_of a.which a.r ks) _ _ _ shape half.1 in
    let all = made c.mix_and_add.ensures ∙ ap laid (round-steps a.which a.d a.r ks p ts) in
    (half.0, all ∙ sym (ap (λ (l : Bool). laid (round_of a.which l a.d a.r ks p ts)) c.if-last.false))
