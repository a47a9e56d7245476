use Rattle.std.proofs.Common.{◌≡◌, ℕ, ◌≤◌, List, [], ◌∷◌, ◌++◌, length, Some, None, Err, vec_items, Option, sym, ap, ◌∙◌, ap₂, append-nil, append_assoc, rules}
use Rattle.std.specs.Option.{option_to_list}
use Rattle.std.proofs.lemmas.List.{nil_from_length}
use Rattle.ideal.specs.Polynomials.{sum}
use Rattle.ideal.specs.Rings.{Raw}
use Rattle.polynomial.specs.declared.flaw.Limit.TheVariants.{Terms}
use Rattle.polynomial.specs.Limits.{bounded}
use Rattle.polynomial.specs.Rings.{over}
use Rattle.polynomial.specs.Views.{term_of, view}
use Rattle.polynomial.specs.declared.term.Term.{Term}
use Rattle.polynomial.proofs.Viewing.{view-length, view-append}
use Rattle.polynomial.proofs.Steps.{too_long, fits}
use Rattle.polynomial.proofs.ring.Ring.sum.Goals as goal

-- the whole sum, what is written, and what was and is left of the sum, before and behind a step with the term t
module _ (whole left rest : Raw) (out : List Term) (t : Option Term) (so_far : whole ≡ view out ++ left) (step : left ≡ view (option_to_list t) ++ rest) where
  turn : whole ≡ (view out ++ view (option_to_list t)) ++ rest
  turn = so_far ∙ ap (λ v. view out ++ v) step ∙ sym (append_assoc (view out) (view (option_to_list t)) rest)

  past : (room : ℕ) (x : Term) → t ≡ Some x → room ≤ length out → Err Terms ≡ bounded room whole
  past room x e h =
      let w : whole ≡ view out ++ (term_of x ∷ rest) = so_far ∙ ap (λ v. view out ++ v) (step ∙ ap (λ y. view (option_to_list y) ++ rest) e) in
      too_long room (view out) (term_of x) rest (rw (view-length out) h) ∙ ap (bounded room) (sym w)

  written : (x : Term) (after : List Term) → t ≡ Some x → after ≡ out ++ (x ∷ []) → whole ≡ view after ++ rest
  written x after e f = turn ∙ ap (λ v. v ++ rest) (ap (λ y. view out ++ view (option_to_list y)) e ∙ sym (view-append out (x ∷ [])) ∙ ap view (sym f))

  unwritten : t ≡ None → whole ≡ view out ++ rest
  unwritten e = turn ∙ ap (λ v. v ++ rest) (ap (λ y. view out ++ view (option_to_list y)) e ∙ append-nil (view out))

pub returns-then-len-room : goal.returns-then-len-room
returns-then-len-room g c = past _ _ _ (vec_items c.loop-p.out.terms) _ c.loop-p.invariant.so_far c.next-next.ensures.sum c.args.room c.in-Some.term c.in-Some.is (search rules)

pub loop-p-preserved-in-Some : goal.loop-p-preserved-in-Some
loop-p-preserved-in-Some g c =
    record {
      p_within = c.next-next.ensures.within.0;
      q_within = c.next-next.ensures.within.1;
      few = search rules;
      so_far = written _ _ _ (vec_items c.loop-p.out.terms) _ c.loop-p.invariant.so_far c.next-next.ensures.sum c.in-Some.term _ c.in-Some.is c.push_reserved.ensures.items;
    }

pub loop-p-preserved : goal.loop-p-preserved
loop-p-preserved g c =
    record {
      p_within = c.next-next.ensures.within.0;
      q_within = c.next-next.ensures.within.1;
      few = search rules;
      so_far = unwritten _ _ _ (vec_items c.loop-p.out.terms) _ c.loop-p.invariant.so_far c.next-next.ensures.sum c.in_default.is;
    }

pub returns : goal.returns
returns g c =
    let o = over c.args.self.now in
    let out = vec_items c.loop-p.out.terms in
    let p : c.loop-p.p.now ≡ [] = nil_from_length c.loop-p.p.now (search rules) in
    let q : c.loop-p.q.now ≡ [] = nil_from_length c.loop-p.q.now (search rules) in
    let whole = c.loop-p.invariant.so_far ∙ ap₂ (λ x y. view out ++ sum o (view x) (view y)) p q ∙ append-nil (view out) in
    fits c.args.room (view out) (rw (view-length out) (search rules)) ∙ ap (bounded c.args.room) (sym whole)
