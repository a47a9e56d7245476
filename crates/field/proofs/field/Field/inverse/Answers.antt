-- The first code that multiplies to 1 is the inverse.
use Rattle.std.proofs.Common.{arith, rules, tests}
use Rattle.std.proofs.lemmas.Iterator.{first_from_Range}
use Rattle.field.proofs.Inverses.{GivesOne, sought}
use Rattle.field.proofs.field.Field.inverse.Goals as goal

pub returns : goal.returns
returns g c =
    let k = g.Self.Field.arithmetic c.args.self.now in
    let gives_one = GivesOne k c.args.a in
    let found = first_from_Range _ _ _ _ gives_one (λ b. gives_one b → ⊥) c.find.ensures.ran (λ b q h. search (rules, tests)) (λ b q h. search (rules, tests)) in
    sought k (g.met.Self.Field.lawful c.args.self.now) c.args.a _ c.find.result (omega arith) (rw c.size-2.ensures at found)
