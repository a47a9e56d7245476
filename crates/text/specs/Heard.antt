-- What the code's values say, in the words of the grammar. Assumes nothing.
--   listed           the numbers that are held
--   few              numbers, if they are at most 25
--   heard_numbers    a put line with these numbers, or a line of another form
--   heard            what a line says
use Rattle.std.specs.Prelude.{ℕ, List, Option, Some, None, take, length, if◌then◌else◌, nat_le}
use Rattle.text.specs.declared.numbers.Numbers.{Numbers}
use Rattle.text.specs.declared.line.Line.{Line}
use Rattle.text.specs.declared.line.Line.TheVariants.{Put, Cofactor, Rule, Offer, Question, Close, Finish, Other}
use Rattle.text.specs.Grammar as grammar

abbrev pub listed : Numbers → List ℕ
listed ns = take ns.count ns.numbers

abbrev pub few : Option (List ℕ) → Option (List ℕ)
few None = None
few (Some ns) = if nat_le (length ns) 25 then Some ns else None

abbrev pub heard_numbers : Option Numbers → grammar.Line
heard_numbers None = grammar.Other
heard_numbers (Some ns) = grammar.Put (listed ns)

abbrev pub heard : Line → grammar.Line
heard (Put ns) = grammar.Put (listed ns)
heard Cofactor = grammar.Cofactor
heard Rule = grammar.Rule
heard Offer = grammar.Offer
heard Question = grammar.Question
heard Close = grammar.Close
heard Finish = grammar.Finish
heard Other = grammar.Other
