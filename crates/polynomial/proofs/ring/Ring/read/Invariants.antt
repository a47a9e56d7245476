-- The terms that are read, and behind them those of the rest of the table.
use Rattle.std.proofs.Common.{◌≡◌, ◌-◌, ◌*◌, ◌/◌, ◌≤◌, length, IfSome, None, vec_items, vec_len}
use Rattle.std.specs.Iterator.Adapters.{enumerate_source, enumerate_count}
use Rattle.std.specs.Slice.Iter.{chunks_exact_rest, chunks_exact_size}
use Rattle.std.specs.Option.{option_map}
use Rattle.polynomial.specs.Tables.{terms}
use Rattle.polynomial.specs.Views.{exponents_of, view}
use Rattle.polynomial.proofs.Reading.{prefixed}
use Rattle.polynomial.proofs.ring.Ring.read.Given as goal

abbrev pub invariant-loop-number : goal.invariant-loop-number
invariant-loop-number g l =
    let k = g.F.Field.arithmetic l.self.field in
    let cmp = g.O.MonomialOrder.comparison l.self.order in
    let n = l.self.variables in
    let count = length l.table / l.stride in
    let number = enumerate_count l.number-iterator in
    let chunks = enumerate_source l.number-iterator in
    let rest = chunks_exact_rest chunks in
    record {
      finite : (goal.iterator-loop-number g).is_finite l.number-iterator;
      size : chunks_exact_size chunks ≡ l.stride;
      within : number ≤ count;
      whole : length rest ≡ (count - number) * l.stride;
      written : vec_len l.out.terms ≡ number;
      alike : IfSome l.last (λ m. m.variables ≡ n);
      so_far : terms k n cmp count 0 None l.table ≡ prefixed (view (vec_items l.out.terms)) (terms k n cmp (count - number) number (option_map exponents_of l.last) rest);
    }
