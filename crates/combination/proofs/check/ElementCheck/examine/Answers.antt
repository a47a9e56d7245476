-- How far the check has come, and what is still asked there.
use Rattle.std.proofs.Common.{◌≡◌, ℕ, Bool, true, false, not, eqb, List, [], ◌∷◌, length, Ok, Err, vec_items, Result, sym, refl, ap, ◌∙◌, ap₂, arith}
use Rattle.std.proofs.lemmas.Result.{err_from_is_err_and}
use Rattle.std.proofs.lemmas.Bool.{ne_eqb}
use Rattle.ideal.specs.Rings.{Raw}
use Rattle.polynomial.specs.Cuts.{cut}
use Rattle.polynomial.specs.Equality.{equal}
use Rattle.polynomial.specs.Kept.{polynomials}
use Rattle.polynomial.specs.Results.{◌>>◌, check, answered}
use Rattle.polynomial.specs.Views.{view}
use Rattle.polynomial.specs.declared.term.Term.{Term}
use Rattle.polynomial.proofs.Outcomes.{because_ok, answered_ok}
use Rattle.fault.specs.declared.fault.Fault.{Fault}
use Rattle.fault.specs.declared.fault.Fault.TheVariants.{Table, NotTheSum}
use Rattle.combination.specs.Combinations.{sizes, forgotten, read_cofactors, sum_cofactors}
use Rattle.combination.specs.Checks.{has_term}
use Rattle.combination.proofs.Elements.{examined, sum-refused}
use Rattle.combination.proofs.check.ElementCheck.examine.Goals as goal

-- whether the element has a term, by the code's test
tested : (ts us : List Term) (b : Bool) → ts ≡ us → b ≡ eqb (length ts) 0 → has_term (view us) ≡ not b
tested ts us b e h = at us (h ∙ ap (λ x. eqb (length x) 0) e)
  where
    at : (us : List Term) → b ≡ eqb (length us) 0 → has_term (view us) ≡ not b
    at [] h = ap not (sym h)
    at (u ∷ us) h = ap not (sym (h ∙ ne_eqb (length (u ∷ us)) 0 (λ z. omega arith)))

abbrev refusing : Fault → Result Raw Fault
refusing e = Err e

pub returns-in_err-table-clause-value : goal.returns-in_err-table-clause-value
returns-in_err-table-clause-value g c =
    let r = c.args.generators.now.ring.now in
    let offered = c.args.offered.now in
    let p = view (vec_items c.read.new.out.terms) in
    let is : c.read.result ≡ Ok _ = because_ok _ c.read.result _ c.in_ok-in_table.ensures in
    let (fault, refused, was) = err_from_is_err_and c.from_residual-in_err-table.result c.from_residual-in_err-table.ensures.1 in
    ap (λ (r : Result (Unit {0}) Fault). answered r p) refused ∙ ap refusing was
    ∙ sym (examined (g.F.Field.arithmetic r.field) r.variables (g.O.MonomialOrder.comparison r.order) (polynomials c.args.generators.now.list.now) c.args.number
    offered.table.now offered.cofactors.now offered.counts.now p
    (answered_ok c.read.result _ p _ is c.read.ensures.value) true (Err c.in_err-table.field-0.0) _
    (tested c.terms.result.now (vec_items c.read.new.out.terms) false c.terms.ensures c.if-is_empty.ensures) c.in_err-table.ensures.done refl)

pub returns-in_err-check_cofactors-clause-value : goal.returns-in_err-check_cofactors-clause-value
returns-in_err-check_cofactors-clause-value g c =
    let r = c.args.generators.now.ring.now in
    let k = g.F.Field.arithmetic r.field in
    let n = r.variables in
    let cmp = g.O.MonomialOrder.comparison r.order in
    let generators = polynomials c.args.generators.now.list.now in
    let offered = c.args.offered.now in
    let p = view (vec_items c.read.new.out.terms) in
    let is : c.read.result ≡ Ok _ = because_ok _ c.read.result _ c.in_ok-in_table.ensures in
    let (fault, refused, was) = err_from_is_err_and c.from_residual-in_err-check_cofactors.result c.from_residual-in_err-check_cofactors.ensures.1 in
    let e = c.in_err-check_cofactors.field-0.0 in
    let t = c.in_ok-table.table in
    let (family, counts, numbers) = c.in_ok-table.ensures.held in
    let unread : Err e ≡ forgotten (read_cofactors k n cmp 0 (cut (sizes n offered.counts.now) offered.cofactors.now)) = c.in_err-check_cofactors.ensures
    ∙ ap (λ f. forgotten (read_cofactors (g.F.Field.arithmetic f.ring.now.field) f.ring.now.variables (g.O.MonomialOrder.comparison f.ring.now.order) 0 (cut (sizes f.ring.now.variables t.counts.now) t.numbers.now))) family
    ∙ ap₂ (λ cs ns. forgotten (read_cofactors k n cmp 0 (cut (sizes n cs) ns))) counts numbers in
    ap (λ (r : Result (Unit {0}) Fault). answered r p) refused ∙ ap refusing was
    ∙ sym (examined k n cmp generators c.args.number offered.table.now offered.cofactors.now offered.counts.now p
    (answered_ok c.read.result _ p _ is c.read.ensures.value) true (Ok tt) (Err (Table e))
    (tested c.terms.result.now (vec_items c.read.new.out.terms) false c.terms.ensures c.if-is_empty.ensures) c.in_ok-table.ensures.done
    (sum-refused k n cmp generators c.args.number offered.table.now offered.cofactors.now offered.counts.now e unread))

pub returns-in_err-add_cofactors-clause-value : goal.returns-in_err-add_cofactors-clause-value
returns-in_err-add_cofactors-clause-value g c =
    let r = c.args.generators.now.ring.now in
    let k = g.F.Field.arithmetic r.field in
    let n = r.variables in
    let cmp = g.O.MonomialOrder.comparison r.order in
    let generators = polynomials c.args.generators.now.list.now in
    let offered = c.args.offered.now in
    let p = view (vec_items c.read.new.out.terms) in
    let is : c.read.result ≡ Ok _ = because_ok _ c.read.result _ c.in_ok-in_table.ensures in
    let t = c.in_ok-table.table in
    let (family, counts, numbers) = c.in_ok-table.ensures.held in
    let summed : Err c.in_err-add_cofactors.field-0.0 ≡ sum_cofactors k n cmp (cut (sizes n offered.counts.now) offered.cofactors.now) generators = c.in_err-add_cofactors.ensures
    ∙ ap (λ f. sum_cofactors (g.F.Field.arithmetic f.ring.now.field) f.ring.now.variables (g.O.MonomialOrder.comparison f.ring.now.order) (cut (sizes f.ring.now.variables t.counts.now) t.numbers.now) (polynomials f.list.now)) family
    ∙ ap₂ (λ cs ns. sum_cofactors k n cmp (cut (sizes n cs) ns) generators) counts numbers in
    let (fault, refused, was) = err_from_is_err_and c.from_residual-in_err-add_cofactors.result c.from_residual-in_err-add_cofactors.ensures.1 in
    ap (λ (r : Result (Unit {0}) Fault). answered r p) refused ∙ ap refusing was
    ∙ sym (examined k n cmp generators c.args.number offered.table.now offered.cofactors.now offered.counts.now p
    (answered_ok c.read.result _ p _ is c.read.ensures.value) true (Ok tt) (Err c.in_err-add_cofactors.field-0.0)
    (tested c.terms.result.now (vec_items c.read.new.out.terms) false c.terms.ensures c.if-is_empty.ensures) c.in_ok-table.ensures.done (sym summed))

-- the comparison, by the code's test
compared : (number : ℕ) (ss ts us vs : List Term) (b : Bool) → ss ≡ us → ts ≡ vs → b ≡ equal (view ss) (view ts) → (check (equal (view us) (view vs)) (NotTheSum number) >> Ok (view vs)) ≡ (check b (NotTheSum number) >> Ok (view vs))
compared number ss ts us vs b d e h = ap (λ x. check x (NotTheSum number) >> Ok (view vs)) (sym (h ∙ ap₂ (λ x y. equal (view x) (view y)) d e))

pub returns-then-not-are_equal-clause-value : goal.returns-then-not-are_equal-clause-value
returns-then-not-are_equal-clause-value g c =
    let r = c.args.generators.now.ring.now in
    let k = g.F.Field.arithmetic r.field in
    let n = r.variables in
    let cmp = g.O.MonomialOrder.comparison r.order in
    let generators = polynomials c.args.generators.now.list.now in
    let offered = c.args.offered.now in
    let p = view (vec_items c.read.new.out.terms) in
    let is : c.read.result ≡ Ok _ = because_ok _ c.read.result _ c.in_ok-in_table.ensures in
    let t = c.in_ok-table.table in
    let (family, counts, numbers) = c.in_ok-table.ensures.held in
    let summed : Ok (view (vec_items c.add_cofactors.new.self.sum.sum.terms)) ≡ sum_cofactors k n cmp (cut (sizes n offered.counts.now) offered.cofactors.now) generators = c.in_ok-add_cofactors.ensures
    ∙ ap (λ f. sum_cofactors (g.F.Field.arithmetic f.ring.now.field) f.ring.now.variables (g.O.MonomialOrder.comparison f.ring.now.order) (cut (sizes f.ring.now.variables t.counts.now) t.numbers.now) (polynomials f.list.now)) family
    ∙ ap₂ (λ cs ns. sum_cofactors k n cmp (cut (sizes n cs) ns) generators) counts numbers in
    sym (examined k n cmp generators c.args.number offered.table.now offered.cofactors.now offered.counts.now p
    (answered_ok c.read.result _ p _ is c.read.ensures.value) true (Ok tt) (Ok (view (vec_items c.add_cofactors.new.self.sum.sum.terms)))
    (tested c.terms.result.now (vec_items c.read.new.out.terms) false c.terms.ensures c.if-is_empty.ensures) c.in_ok-table.ensures.done (sym summed)
    ∙ compared c.args.number c.terms-2.result.now c.terms-3.result.now (vec_items c.add_cofactors.new.self.sum.sum.terms) (vec_items c.read.new.out.terms) false c.terms-2.ensures c.terms-3.ensures c.if-not-are_equal.ensures)

pub returns-clause-value : goal.returns-clause-value
returns-clause-value g c =
    let r = c.args.generators.now.ring.now in
    let k = g.F.Field.arithmetic r.field in
    let n = r.variables in
    let cmp = g.O.MonomialOrder.comparison r.order in
    let generators = polynomials c.args.generators.now.list.now in
    let offered = c.args.offered.now in
    let p = view (vec_items c.read.new.out.terms) in
    let is : c.read.result ≡ Ok _ = because_ok _ c.read.result _ c.in_ok-in_table.ensures in
    let t = c.in_ok-table.table in
    let (family, counts, numbers) = c.in_ok-table.ensures.held in
    let summed : Ok (view (vec_items c.add_cofactors.new.self.sum.sum.terms)) ≡ sum_cofactors k n cmp (cut (sizes n offered.counts.now) offered.cofactors.now) generators = c.in_ok-add_cofactors.ensures
    ∙ ap (λ f. sum_cofactors (g.F.Field.arithmetic f.ring.now.field) f.ring.now.variables (g.O.MonomialOrder.comparison f.ring.now.order) (cut (sizes f.ring.now.variables t.counts.now) t.numbers.now) (polynomials f.list.now)) family
    ∙ ap₂ (λ cs ns. sum_cofactors k n cmp (cut (sizes n cs) ns) generators) counts numbers in
    sym (examined k n cmp generators c.args.number offered.table.now offered.cofactors.now offered.counts.now p
    (answered_ok c.read.result _ p _ is c.read.ensures.value) true (Ok tt) (Ok (view (vec_items c.add_cofactors.new.self.sum.sum.terms)))
    (tested c.terms.result.now (vec_items c.read.new.out.terms) false c.terms.ensures c.if-is_empty.ensures) c.in_ok-table.ensures.done (sym summed)
    ∙ compared c.args.number c.terms-2.result.now c.terms-3.result.now (vec_items c.add_cofactors.new.self.sum.sum.terms) (vec_items c.read.new.out.terms) true c.terms-2.ensures c.terms-3.ensures c.if-not-are_equal.ensures)
