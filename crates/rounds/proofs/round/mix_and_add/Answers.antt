-- `rounds::round::mix_and_add` meets its contract. Assumes nothing.
use mathlib.Core.List.{map}
use mathlib.Core.Path.{sym, ap, ◌∙◌}
use Prim.Native.Nat.{suc}
use native.Mathlib.Omega.{arith}
use Rattle.gf256.specs.declared.Direction.{Direction}
use Rattle.shares.specs.Strings.{parts, laid}
use Rattle.shares.proofs.StringsLaws.{shared-parts}
use Rattle.cipher.specs.Fips197.{mix_columns, inv_mix_columns}
use Rattle.cipher.specs.States.{adds}
use Rattle.cipher.specs.Cipher.{round_keys}
use Rattle.cipher.proofs.FipsLaws.{mix_columns-length}
use Rattle.cipher.proofs.StatesLaws.{map-shared, adds-shared}
use Rattle.cipher.proofs.CipherLaws.{round_keys-shared}
use Rattle.rounds.specs.Directions.{keyed_of}
use Rattle.rounds.proofs.RoundLaws.{two_steps, state_shape}
use Rattle.rounds.proofs.round.mix_and_add.Goals as goal

pub returns-in-Forward : goal.returns-in-Forward
returns-in-Forward c =
    let a = c.args in
    let p = parts (suc a.d) 16 a.s.now in
    let ks = parts (suc a.d) a.m a.keys.now in
    let shape = map-shared mix_columns (λ s e. mix_columns-length s) (state_shape a.d a.s.now c.requires.2) in
    let made = two_steps a.d (map mix_columns) (λ p. adds p (round_keys ks a.r)) _ _ _ shape c.step_all.ensures in
    made c.add_key.ensures ∙ sym (ap (λ (w : Direction). laid (keyed_of w a.r ks p)) c.in-Forward.is)

pub returns-in-Inverse : goal.returns-in-Inverse
returns-in-Inverse c =
    let a = c.args in
    let fit = c.requires in
    let p = parts (suc a.d) 16 a.s.now in
    let ks = parts (suc a.d) a.m a.keys.now in
    let keyed = round_keys-shared a.r fit.0 (shared-parts a.d a.m a.keys.now (omega (arith, fit.1))) in
    let shape = adds-shared (state_shape a.d a.s.now fit.2) keyed in
    let made = two_steps a.d (λ p. adds p (round_keys ks a.r)) (map inv_mix_columns) _ _ _ shape c.add_key-in-Inverse.ensures in
    made c.step_all-in-Inverse.ensures ∙ sym (ap (λ (w : Direction). laid (keyed_of w a.r ks p)) c.in-Inverse.is)
