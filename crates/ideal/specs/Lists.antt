-- Members of a list. Assumes nothing.
--   Among x xs          x is one of xs
--   Each P xs           P of each of xs
--   Together P xs ys    P of each of xs and the one of ys at its place
use Rattle.std.specs.Prelude.{◌≡◌, ◌⊎◌, List, [], ◌∷◌}

abbrev pub Among : {A : Type 0} → A → List A → Type 0
Among x [] = ⊥
Among x (y ∷ xs) = (x ≡ y) ⊎ Among x xs

abbrev pub Each : {A : Type 0} → (A → Type 0) → List A → Type 0
Each P [] = Unit {0}
Each P (x ∷ xs) = P x × Each P xs

abbrev pub Together : {A B : Type 0} → (A → B → Type 0) → List A → List B → Type 0
Together P [] ys = Unit {0}
Together P (x ∷ xs) [] = Unit {0}
Together P (x ∷ xs) (y ∷ ys) = P x y × Together P xs ys
