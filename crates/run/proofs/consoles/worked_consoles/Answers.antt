-- Each run computed.
use Rattle.std.proofs.Common.{refl}
use Rattle.run.proofs.consoles.worked_consoles.Goals as goal

pub returns : goal.returns
returns c = record {
  one_variable_runs = record { passed = refl; refused = refl };
  two_variable_runs = record { passed = refl; incomplete = refl };
  one_pair = refl;
  nothing = refl;
}
