use Rattle.std.proofs.Common.{◌∙◌}
use Rattle.division.proofs.Coefficients.{no_quotient, quotient_is}
use Rattle.division.proofs.coefficient.opposite_quotient.Goals as goal

pub returns-in_err-quotient : goal.returns-in_err-quotient
returns-in_err-quotient g c =
    c.from_residual-in_err-quotient.ensures
    ∙ no_quotient (g.met.F.Field.lawful c.args.field.now) c.args.b c.in_ok-inverse.inverse c.in_ok-inverse.ensures c.args.a c.in_err-quotient.ensures

pub returns : goal.returns
returns g c =
    quotient_is (g.met.F.Field.lawful c.args.field.now) c.args.b c.in_ok-inverse.inverse c.in_ok-inverse.ensures
    c.args.a c.in_ok-quotient.quotient c.opposite.result c.in_ok-quotient.ensures c.opposite.ensures
