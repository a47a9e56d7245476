-- There are no more counts than generators.
use Rattle.std.proofs.Common.{arith}
use Rattle.polynomial.proofs.Keeping.{few-polynomials}
use Rattle.combination.proofs.table.CofactorTable.new.Goals as goal

pub count_terms-requires : goal.count_terms-requires
count_terms-requires g c = let few = few-polynomials c.args.generators.now.list.now in omega arith
