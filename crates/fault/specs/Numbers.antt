-- The five numbers of a fault: refusal, layer, subject, first, second. Assumes nothing.
--   layer_number      1 field, 2 table, 3 arithmetic, 4 check
--   subject_number    0 none, 1 generator, 2 basis element, 3 cofactor, 4 question, 5 pair
--   first             the number, from 0, that the generator, element or cofactor has or would get; of a pair, its first element
--   second            the term, where one is at fault; of a pair, its second element
--   five .. numbers   the five numbers put together; of a flaw of some subject, of a flaw in some place, and of each kind of fault
use Rattle.std.specs.Prelude.{ℕ}
use Rattle.field.specs.declared.fault.FieldFault.TheVariants.{UnlistedSize}
use Rattle.polynomial.specs.declared.flaw.Flaw.{Flaw}
use Rattle.polynomial.specs.declared.flaw.Flaw.TheVariants.{Length, Terms, Coefficient, Exponent, Order}
use Rattle.polynomial.specs.declared.flaw.Limit.{Limit}
use Rattle.polynomial.specs.declared.flaw.Limit.TheVariants.{Exponent as ExponentLimit, Terms as TermLimit}
use Rattle.fault.specs.declared.fault.Place.{Place}
use Rattle.fault.specs.declared.fault.Place.TheVariants.{Generator, Element, Cofactor, Question}
use Rattle.fault.specs.declared.fault.TableFault.{TableFault}
use Rattle.fault.specs.declared.fault.TableFault.TheVariants.{Flawed, NoTerm, CofactorCount, NoRoom}
use Rattle.fault.specs.declared.fault.Work.{Work}
use Rattle.fault.specs.declared.fault.Work.TheVariants.{Generator as Dividing, CofactorTerm, Question as Asking, Pair}
use Rattle.fault.specs.declared.fault.ArithmeticFault.{ArithmeticFault}
use Rattle.fault.specs.declared.fault.Fault.{Fault}
use Rattle.fault.specs.declared.fault.Fault.TheVariants.{Field, Variables, State, Full, Table, Arithmetic, NotTheSum, GeneratorLeft, PairLeft}
use Rattle.fault.specs.declared.numbers.Layer.{Layer}
use Rattle.fault.specs.declared.numbers.Layer.TheVariants.{Field as InField, Table as InTable, Arithmetic as InArithmetic, Check as InCheck}
use Rattle.fault.specs.declared.numbers.Subject.{Subject}
use Rattle.fault.specs.declared.numbers.Subject.TheVariants.{None as NoSubject, Generator as OfGenerator, Element as OfElement, Cofactor as OfCofactor, Question as OfQuestion, Pair as OfPair}
use Rattle.fault.specs.declared.numbers.FaultNumbers.{FaultNumbers}

abbrev pub layer_number : Layer → ℕ
layer_number InField = 1
layer_number InTable = 2
layer_number InArithmetic = 3
layer_number InCheck = 4

abbrev pub subject_number : Subject → ℕ
subject_number NoSubject = 0
subject_number OfGenerator = 1
subject_number OfElement = 2
subject_number OfCofactor = 3
subject_number OfQuestion = 4
subject_number OfPair = 5

abbrev pub five : ℕ → ℕ → ℕ → ℕ → ℕ → FaultNumbers
five refusal layer subject first second = record { refusal = refusal; layer = layer; subject = subject; first = first; second = second }

abbrev pub flaw_numbers : ℕ → ℕ → Flaw → FaultNumbers
flaw_numbers subject first Length = five 4 2 subject first 0
flaw_numbers subject first Terms = five 5 2 subject first 0
flaw_numbers subject first (Coefficient term) = five 6 2 subject first term
flaw_numbers subject first (Exponent term) = five 7 2 subject first term
flaw_numbers subject first (Order term) = five 8 2 subject first term

abbrev pub place_numbers : Place → Flaw → FaultNumbers
place_numbers (Generator number) = flaw_numbers 1 number
place_numbers (Element number) = flaw_numbers 2 number
place_numbers (Cofactor number) = flaw_numbers 3 number
place_numbers Question = flaw_numbers 4 0

abbrev pub table_numbers : TableFault → FaultNumbers
table_numbers (Flawed place flaw) = place_numbers place flaw
table_numbers (NoTerm number) = five 9 2 2 number 0
table_numbers CofactorCount = five 10 2 0 0 0
table_numbers NoRoom = five 16 2 4 0 0

abbrev pub limit_number : Limit → ℕ
limit_number ExponentLimit = 11
limit_number TermLimit = 12

abbrev pub work_numbers : ℕ → Work → FaultNumbers
work_numbers refusal (Dividing number) = five refusal 3 1 number 0
work_numbers refusal (CofactorTerm number term) = five refusal 3 3 number term
work_numbers refusal Asking = five refusal 3 4 0 0
work_numbers refusal (Pair first second) = five refusal 3 5 first second

abbrev pub arithmetic_numbers : ArithmeticFault → FaultNumbers
arithmetic_numbers fault = work_numbers (limit_number fault.limit) fault.work

abbrev pub numbers : Fault → FaultNumbers
numbers (Field UnlistedSize) = five 17 1 0 0 0
numbers Variables = five 1 4 0 0 0
numbers State = five 2 4 0 0 0
numbers Full = five 3 4 0 0 0
numbers (Table fault) = table_numbers fault
numbers (Arithmetic fault) = arithmetic_numbers fault
numbers (NotTheSum number) = five 13 4 2 number 0
numbers (GeneratorLeft number) = five 14 4 1 number 0
numbers (PairLeft first second) = five 15 4 5 first second
