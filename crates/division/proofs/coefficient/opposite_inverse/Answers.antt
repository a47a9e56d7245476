use Rattle.division.proofs.Coefficients.{opposite_inverse_is}
use Rattle.division.proofs.coefficient.opposite_inverse.Goals as goal

pub returns : goal.returns
returns g c =
    opposite_inverse_is (g.met.F.Field.lawful c.args.field.now) c.args.b c.in_ok-inverse.inverse c.in_ok-inverse.ensures c.opposite.result c.opposite.ensures
