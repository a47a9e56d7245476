-- What an answer says of the steps that led to it. Assumes nothing.
use Rattle.std.proofs.Common.{◌≡◌, Bool, true, false, ◌⊎◌, IfOk, Ok, Err, Result, sym, refl, ap, ◌∙◌, subst, inl, inr}
use Rattle.polynomial.specs.Results.{◌>>=◌, ◌>>◌, check, because, answered}

-- a test that was passed
pub checked : {E A : Type 0} (b : Bool) (e : E) (r : Result A E) (x : A) → (check b e >> r) ≡ Ok x → (b ≡ true) × (r ≡ Ok x)
checked true e r x h = (refl, h)
checked false e r x h = cc

-- an answer that was gone on with
pub bound : {E A B : Type 0} (r : Result A E) (f : A → Result B E) (y : B) → (r >>= f) ≡ Ok y → (x : A) × (r ≡ Ok x) × (f x ≡ Ok y)
bound (Ok x) f y h = (x, refl, h)
bound (Err e) f y h = cc

-- an answer is not changed by what its refusal would have been carried in
pub because_ok : {E F A : Type 0} (f : E → F) (r : Result A E) (x : A) → Ok x ≡ because f r → r ≡ Ok x
because_ok f (Ok a) x h = let z : a ≡ x = cc in ap Ok z
because_ok f (Err e) x h = cc

-- what is said of an answer, where there is one
pub on_answer : {E A : Type 0} (P : A → Type 0) (r : Result A E) (x : A) → r ≡ Ok x → IfOk r P → P x
on_answer P r x e h = subst (λ r. IfOk r P) e h

pub answered_ok : {E A U : Type 0} (r : Result U E) (u : U) (v : A) (w : Result A E) → r ≡ Ok u → answered r v ≡ w → Ok v ≡ w
answered_ok r u v w e h = sym (ap (λ r. answered r v) e) ∙ h

pub answered_err : {E A U : Type 0} (r : Result U E) (e : E) (v : A) (w : Result A E) → r ≡ Err e → answered r v ≡ w → Err e ≡ w
answered_err r e v w i h = sym (ap (λ r. answered r v) i) ∙ h

-- where a refusal comes from
pub bound_err : {E A B : Type 0} (r : Result A E) (f : A → Result B E) (e : E) → (r >>= f) ≡ Err e → (r ≡ Err e) ⊎ ((x : A) × (r ≡ Ok x) × (f x ≡ Err e))
bound_err (Ok x) f e h = inr (x, refl, h)
bound_err (Err x) f e h = let z : x ≡ e = cc in inl (ap Err z)

pub checked_err : {E A : Type 0} (b : Bool) (d : E) (r : Result A E) (e : E) → (check b d >> r) ≡ Err e → ((b ≡ false) × (d ≡ e)) ⊎ ((b ≡ true) × (r ≡ Err e))
checked_err true d r e h = inr (refl, h)
checked_err false d r e h = inl (refl, (let z : d ≡ e = cc in z))

pub because_err : {E F A : Type 0} (f : E → F) (r : Result A E) (e : F) → because f r ≡ Err e → (x : E) × (r ≡ Err x) × (f x ≡ e)
because_err f (Ok a) e h = cc
because_err f (Err x) e h = (x, refl, (let z : f x ≡ e = cc in z))

-- to be said only of an answer
pub made_if : {E A : Type 0} (P : Type 0) (r : Result A E) → ((x : A) → r ≡ Ok x → P) → IfOk r (λ _. P)
made_if P (Ok x) h = h x refl
made_if P (Err e) h = tt

pub not_made : {E A : Type 0} (P : Type 0) (r : Result A E) (e : E) → r ≡ Err e → IfOk r (λ _. P)
not_made P (Ok x) e h = cc
not_made P (Err x) e h = tt
