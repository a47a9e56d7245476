-- A polynomial begins where those before it end, and has as many terms as its count says.
use Rattle.std.proofs.Common.{◌≡◌, ℕ, zero, suc, ◌+◌, ◌-◌, ◌<◌, ◌≤◌, List, [], ◌∷◌, length, get_or, take, drop, vec_items, sym, refl, ap, ◌∙◌, ap₂, arith}
use Rattle.std.proofs.lemmas.List.{length-take}
use Rattle.polynomial.specs.Cuts.{total}
use Rattle.polynomial.specs.Kept.{polynomials}
use Rattle.polynomial.specs.Views.{term_of, view}
use Rattle.polynomial.specs.declared.list.PolynomialList.{PolynomialList}
use Rattle.polynomial.specs.declared.term.Term.{Term}
use Rattle.polynomial.proofs.Cutting.{total_within, cut-length, cut_at, short_at}
use Rattle.polynomial.proofs.Keeping.{few-terms}
use Rattle.polynomial.proofs.list.PolynomialList.nth.Goals as goal

view-take : (n : ℕ) (ts : List Term) → view (take n ts) ≡ take n (view ts)
view-take zero ts = refl
view-take (suc n) [] = refl
view-take (suc n) (t ∷ ts) = ap (λ p. term_of t ∷ p) (view-take n ts)

view-drop : (n : ℕ) (ts : List Term) → view (drop n ts) ≡ drop n (view ts)
view-drop zero ts = refl
view-drop (suc n) [] = refl
view-drop (suc n) (t ∷ ts) = view-drop n ts

-- at polynomial number i
module _ (l : PolynomialList) (i : ℕ) (within : i < length (polynomials l)) where
  abbrev cs : List ℕ
  cs = vec_items l.counts

  abbrev start : ℕ
  start = total (take i cs)

  counted : i < length cs
  counted = let n = cut-length cs (view (vec_items l.terms)) in omega arith

  ends : start + get_or cs i 0 ≤ length (vec_items l.terms)
  ends = let m = total_within cs i counted in let w = l.whole in omega arith

  fits : start + get_or cs i 0 ≤ 1024
  fits = let e = ends in let t = few-terms l in let f = l.few in omega arith

  short : get_or cs i 0 ≤ 32
  short = short_at cs i l.short counted

  viewed : view (take (get_or cs i 0) (drop start (vec_items l.terms))) ≡ get_or (polynomials l) i []
  viewed = view-take (get_or cs i 0) (drop start (vec_items l.terms)) ∙ ap (take (get_or cs i 0)) (view-drop start (vec_items l.terms)) ∙ sym (cut_at cs (view (vec_items l.terms)) i counted)

pub overflow_add-result : goal.overflow_add-result
overflow_add-result c =
    let f = fits c.args.self.now c.args.i c.requires in
    let n = ap (λ (cs : List ℕ). get_or cs c.args.i 0) c.counts.ensures.value in
    omega arith

pub offset_bounds-as_slice-start : goal.offset_bounds-as_slice-start
offset_bounds-as_slice-start c = let f = fits c.args.self.now c.args.i c.requires in omega arith

pub slice_bounds-result-end : goal.slice_bounds-result-end
slice_bounds-result-end c =
    let e = ends c.args.self.now c.args.i c.requires in
    let n = ap (λ (cs : List ℕ). get_or cs c.args.i 0) c.counts.ensures.value in
    let t = ap length c.as_slice.ensures.value in
    omega arith

pub returns : goal.returns
returns c =
    let l = c.args.self.now in
    let start = c.start-start.result in
    let n = get_or c.counts.result.now c.args.i 0 in
    let ts = c.as_slice.result.now in
    let is = ap (λ (cs : List ℕ). get_or cs c.args.i 0) c.counts.ensures.value in
    let s = short l c.args.i c.requires in
    record {
      value =
          ap (λ k. view (take k (drop start ts))) (let m : start + n - start ≡ n = omega arith in m ∙ is)
          ∙ ap₂ (λ b ts. view (take (get_or (vec_items l.counts) c.args.i 0) (drop b ts))) c.start-start.ensures c.as_slice.ensures.value
          ∙ viewed l c.args.i c.requires;
      short = simp length-take (omega arith);
    }
