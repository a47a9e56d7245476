-- Fewer than 32 polynomials of at most 32 terms leave room for another, which stands behind them.
use Rattle.std.proofs.Common.{◌≡◌, ℕ, ◌+◌, ◌<◌, ◌≤◌, true, List, [], ◌∷◌, ◌++◌, length, vec_items, vec_capacity, sym, refl, ap, ◌∙◌, ap₂, arith, length-append}
use Rattle.std.proofs.lemmas.List.{length_push}
use Rattle.std.proofs.lemmas.Slice.{pushed}
use Rattle.polynomial.specs.Cuts.{total, each_short, cut}
use Rattle.polynomial.specs.Kept.{polynomials}
use Rattle.polynomial.specs.Views.{view}
use Rattle.polynomial.specs.declared.list.PolynomialList.{PolynomialList}
use Rattle.polynomial.specs.declared.term.Term.{Term}
use Rattle.polynomial.proofs.Cutting.{total_push, cut_push, short_push}
use Rattle.polynomial.proofs.Keeping.{numbered, few-terms}
use Rattle.polynomial.proofs.Viewing.{view-length, view-append}
use Rattle.polynomial.proofs.list.PolynomialList.append.Goals as goal

-- one polynomial more, as lists
module _ (l : PolynomialList) (p : List Term) (cs : List ℕ) (ts : List Term) (counted : cs ≡ vec_items l.counts ++ (length p ∷ [])) (written : ts ≡ vec_items l.terms ++ p) where
  few : length (vec_items l.counts) < 32 → length cs ≤ 32
  few h = let e = ap length counted ∙ length_push (vec_items l.counts) (length p) in omega arith

  short : length p ≤ 32 → each_short cs ≡ true
  short h = ap each_short counted ∙ short_push (vec_items l.counts) (length p) h l.short

  whole : total cs ≡ length ts
  whole = ap total counted ∙ total_push (vec_items l.counts) (length p) ∙ ap (λ n. n + length p) l.whole ∙ sym (ap length written ∙ length-append (vec_items l.terms) p)

  kept : cut cs (view ts) ≡ polynomials l ++ (view p ∷ [])
  kept =
      let vs = view (vec_items l.terms) in
      ap₂ (λ x y. cut x (view y)) counted written ∙ ap (cut (vec_items l.counts ++ (length p ∷ []))) (view-append (vec_items l.terms) p)
      ∙ ap (λ n. cut (vec_items l.counts ++ (n ∷ [])) (vs ++ view p)) (sym (view-length p))
      ∙ cut_push (vec_items l.counts) vs (view p) (l.whole ∙ sym (view-length (vec_items l.terms)))

pub unwrap-requires : goal.unwrap-requires
unwrap-requires c =
    let l = c.args.self.now in
    let n = numbered l in
    let t = few-terms l in
    let a = l.counts.ok.0 in
    let b = l.terms.ok.0 in
    let r = l.terms_room in
    c.extend_from_slice.ensures.succeeds (omega arith)

pub push_reserved-requires : goal.push_reserved-requires
push_reserved-requires c = let n = numbered c.args.self.now in let r = c.args.self.now.counts_room in omega arith

pub invariant_of-self : goal.invariant_of-self
invariant_of-self c =
    let l = c.args.self.now in
    let p = c.args.p.now in
    let cs = vec_items c.push_reserved.new.self in
    let ts = vec_items c.extend_from_slice.new.self in
    let counted = c.push_reserved.ensures.items in
    let written : ts ≡ vec_items l.terms ++ p = pushed p refl c.unwrap.ensures c.extend_from_slice.ensures.items in
    let n = numbered l in
    let k = l.counts.ok.0 in
    let terms_room : 1024 ≤ vec_capacity c.extend_from_slice.new.self = let r = l.terms_room in let d = c.extend_from_slice.ensures.capacity in omega arith in
    let counts_room : 32 ≤ vec_capacity c.push_reserved.new.self = let r = l.counts_room in let d = c.push_reserved.ensures.capacity in omega arith in
    record {
      terms_room = terms_room;
      counts_room = counts_room;
      few = few l p cs ts counted written (omega arith);
      short = short l p cs ts counted written c.requires.short;
      whole = whole l p cs ts counted written;
    }

pub returns : goal.returns
returns c =
    let l = c.args.self.now in
    let p = c.args.p.now in
    let cs = vec_items c.push_reserved.new.self in
    let ts = vec_items c.extend_from_slice.new.self in
    kept l p cs ts c.push_reserved.ensures.items (pushed p refl c.unwrap.ensures c.extend_from_slice.ensures.items)
