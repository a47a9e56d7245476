-- An answer or a refusal. Assumes nothing.
--   do              go on with the answer; the first refusal ends it
--   check b e       go on if b, else the refusal e
--   because f r     r, its refusal carried whole inside another
--   answered r x    what a call has answered, with the x that it has written
--   mapped_ok f r   r, with f of its answer
use Rattle.std.specs.Prelude.{Bool, true, false, Ok, Err, Result}

infixl 20 ◌>>=◌
infixl 20 ◌>>◌
abbrev pub ◌>>=◌ : {E A B : Type 0} → Result A E → (A → Result B E) → Result B E
◌>>=◌ (Ok a) f = f a
◌>>=◌ (Err e) f = Err e

abbrev pub ◌>>◌ : {E B : Type 0} → Result (Unit {0}) E → Result B E → Result B E
◌>>◌ (Ok a) r = r
◌>>◌ (Err e) r = Err e

abbrev pub check : {E : Type 0} → Bool → E → Result (Unit {0}) E
check true e = Ok tt
check false e = Err e

abbrev pub because : {E F A : Type 0} → (E → F) → Result A E → Result A F
because f (Ok a) = Ok a
because f (Err e) = Err (f e)

abbrev pub answered : {E A U : Type 0} → Result U E → A → Result A E
answered (Ok u) x = Ok x
answered (Err e) x = Err e

abbrev pub mapped_ok : {E A B : Type 0} → (A → B) → Result A E → Result B E
mapped_ok f (Ok a) = Ok (f a)
mapped_ok f (Err e) = Err e
