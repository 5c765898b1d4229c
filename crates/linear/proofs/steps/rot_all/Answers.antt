-- `linear::steps::rot_all` meets its contract. Assumes nothing.
use mathlib.Core.Path.{◌≡◌, ap, ◌∙◌}
use mathlib.Core.List.{◌++◌}
use lib.ListN.{take, drop}
use Rattle.shares.specs.Strings.{laid}
use Rattle.cipher.specs.Fips197.{rot_word}
use Rattle.cipher.proofs.FipsLaws.{rot_word-length}
use Rattle.buffers.proofs.ShareLaws.{each_by-map}
use Rattle.linear.proofs.StepLaws.{word_turned}
use borrow.Author.Rules.{rules}
use Rattle.linear.proofs.steps.rot_all.Goals as goal

pub returns : goal.returns
returns c =
    c.each_share.ensures (λ _. rot_word) (record {
      made = λ i p q u h e. (let k : q.now ≡ drop 1 p.now ++ take 1 p.now = search rules in k ∙ word_turned p.now h);
      keeps = λ i u s h. rot_word-length s;
    })
    ∙ ap laid (each_by-map rot_word 0 _)
