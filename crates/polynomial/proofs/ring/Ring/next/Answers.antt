use Rattle.std.proofs.Common.{sym, rules}
use Rattle.std.proofs.lemmas.List.{take_rest}
use Rattle.polynomial.proofs.Nexts.{only_left, next_less, next_greater, next_equal}
use Rattle.polynomial.proofs.ring.Ring.next.Goals as goal

pub returns-in_default-q-clause-sum : goal.returns-in_default-q-clause-sum
returns-in_default-q-clause-sum g c =
    let k = g.F.Field.arithmetic c.args.self.now.field in
    let cmp = g.O.MonomialOrder.comparison c.args.self.now.order in
    let F = g.met.F.Field.lawful c.args.self.now.field in
    let n = c.args.self.now.variables in
    let O = g.met.O.MonomialOrder.lawful c.args.self.now.order n in
    let p = c.args.p.now in
    let q = c.args.q.now in
    rw (take_rest p 1) (only_left {k = k} F {n = n} {cmp = cmp} O p q c.x-item.result (search rules) (search rules) c.x-item.is c.requires.p_within)

pub returns-in-Less-clause-sum : goal.returns-in-Less-clause-sum
returns-in-Less-clause-sum g c =
    let k = g.F.Field.arithmetic c.args.self.now.field in
    let cmp = g.O.MonomialOrder.comparison c.args.self.now.order in
    let F = g.met.F.Field.lawful c.args.self.now.field in
    let n = c.args.self.now.variables in
    let O = g.met.O.MonomialOrder.lawful c.args.self.now.order n in
    let p = c.args.p.now in
    let q = c.args.q.now in
    rw (take_rest q 1) (next_less {k = k} F {n = n} {cmp = cmp} O p q c.x-item.result c.y-item.result (search rules) c.x-item.is (search rules) c.y-item.is c.requires.p_within c.requires.q_within (sym c.in-Less.ensures))

pub returns-in-Greater-clause-sum : goal.returns-in-Greater-clause-sum
returns-in-Greater-clause-sum g c =
    let k = g.F.Field.arithmetic c.args.self.now.field in
    let cmp = g.O.MonomialOrder.comparison c.args.self.now.order in
    let F = g.met.F.Field.lawful c.args.self.now.field in
    let n = c.args.self.now.variables in
    let O = g.met.O.MonomialOrder.lawful c.args.self.now.order n in
    let p = c.args.p.now in
    let q = c.args.q.now in
    rw (take_rest p 1) (next_greater {k = k} F {n = n} {cmp = cmp} O p q c.x-item.result c.y-item.result (search rules) c.x-item.is (search rules) c.y-item.is c.requires.p_within c.requires.q_within (sym c.in-Greater.ensures))

pub returns-in-Equal-clause-sum : goal.returns-in-Equal-clause-sum
returns-in-Equal-clause-sum g c =
    let k = g.F.Field.arithmetic c.args.self.now.field in
    let cmp = g.O.MonomialOrder.comparison c.args.self.now.order in
    let F = g.met.F.Field.lawful c.args.self.now.field in
    let n = c.args.self.now.variables in
    let O = g.met.O.MonomialOrder.lawful c.args.self.now.order n in
    let p = c.args.p.now in
    let q = c.args.q.now in
    rw (take_rest p 1, take_rest q 1, c.unite.ensures) (next_equal {k = k} F {n = n} {cmp = cmp} O p q c.x-item.result c.y-item.result (search rules) c.x-item.is (search rules) c.y-item.is c.requires.p_within c.requires.q_within (sym c.in-Equal.ensures))
