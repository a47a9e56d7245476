use Rattle.std.proofs.Common.{is_some, ap, ◌∙◌, ap₂}
use Rattle.order.specs.Orders.{compared}
use Rattle.polynomial.proofs.Comparing.{compared_at}
use Rattle.polynomial.proofs.ring.Ring.compare.Goals as goal

pub unwrap-requires : goal.unwrap-requires
unwrap-requires g c =
    let cmp = g.O.MonomialOrder.comparison c.args.self.now.order in
    ap is_some (c.compare.ensures ∙ ap₂ (compared cmp) c.exponents.ensures.value c.exponents-2.ensures.value ∙ compared_at cmp c.args.a.now c.args.b.now c.requires)
