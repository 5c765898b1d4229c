-- `power254::powers::raise_refreshed` meets its contract. Assumes nothing.
use Rattle.gf256.specs.Exponents.{raised_to}
use Rattle.power254.proofs.StageLaws.{refreshed-after}
use Rattle.power254.proofs.powers.raise_refreshed.Goals as goal

pub returns : goal.returns
returns c =
    let r = c.refresh_core.ensures in
    (r.0, refreshed-after _ (raised_to c.args.which) c.args.x.now _ _ _ c.raise.ensures r.1)
