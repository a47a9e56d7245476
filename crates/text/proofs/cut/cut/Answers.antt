use Rattle.std.proofs.Common.{◌≡◌, true, false, eqb, arith, rules, tests, add-one}
use Rattle.std.proofs.lemmas.Iterator.{YieldsList-from_slice, IsFirst-from_position}
use Rattle.std.proofs.lemmas.List.Splits.{slice_split_none}
use Rattle.std.proofs.lemmas.List.{take_rest}
use Rattle.text.proofs.Pieces.{pieces_at}
use Rattle.text.proofs.cut.cut.Goals as goal

pub returns-in-Some-clause-pieces : goal.returns-in-Some-clause-pieces
returns-in-Some-clause-pieces c =
    let f = IsFirst-from_position _ _ _ (λ b. eqb b c.args.stop ≡ true) (λ b. eqb b c.args.stop ≡ false) c.position.ensures.ran (YieldsList-from_slice c.args.bytes.now cc) (λ x q k. search (rules, tests)) (λ x q k. search (rules, tests)) in
    let g = rw c.in-Some.is at f in
    simp (take_rest, add-one) (pieces_at c.args.stop c.args.bytes.now c.in-Some.end g.0 (g.1 0) (λ k l. g.2 k 0 (omega arith) l))

pub returns-in-None-clause-pieces : goal.returns-in-None-clause-pieces
returns-in-None-clause-pieces c =
    let f = IsFirst-from_position _ _ _ (λ b. eqb b c.args.stop ≡ true) (λ b. eqb b c.args.stop ≡ false) c.position.ensures.ran (YieldsList-from_slice c.args.bytes.now cc) (λ x q k. search (rules, tests)) (λ x q k. search (rules, tests)) in
    let g = rw c.in-None.is at f in
    slice_split_none (λ b. eqb b c.args.stop) c.args.bytes.now (λ k d l. g k d (omega arith) l)
