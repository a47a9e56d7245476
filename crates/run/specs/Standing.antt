-- What holds of what a checker holds, however it was used. Assumes nothing.
--   Follows m f      f follows from the generators held: it is in their ideal
--   Complete m       every polynomial but 0 that follows has a leading monomial that the leading monomial of a basis element divides
--   Kept m p         a polynomial of at most 32 terms with exponents up to 255
--   Standing m       the bounds, that the basis elements are not 0 and follow, and that they are complete once they have passed
use Rattle.std.specs.Prelude.{◌≡◌, ◌≤◌, false, [], length}
use Rattle.field.specs.Fields.{Arithmetic}
use Rattle.order.specs.Orders.{Compare}
use Rattle.ideal.specs.Lists.{Each}
use Rattle.ideal.specs.Rings.{Raw}
use Rattle.ideal.specs.Ideals.{Member, Groebner}
use Rattle.division.specs.Bounds.{Held}
use Rattle.division.specs.Elements.{elements}
use Rattle.run.specs.declared.state.State.TheVariants.{Generators, Passed}
use Rattle.run.specs.Finishing.{is_zero}
use Rattle.run.specs.Models.{Model}

module _ (k : Arithmetic) (cmp : Compare) (m : Model) where
  abbrev pub Follows : Raw → Type 0
  Follows f = Member k m.variables cmp m.generators f

  abbrev pub Complete : Type 0
  Complete = Groebner k m.variables cmp m.generators (elements m.basis)

  abbrev pub Kept : Raw → Type 0
  Kept p = Held k m.variables cmp p × (length p ≤ 32)

  pub record Standing : Type 0 where
    pub some_variable : 1 ≤ m.variables
    pub few_variables : m.variables ≤ 24
    pub few_generators : length m.generators ≤ 32
    pub few_elements : length m.basis ≤ 32
    pub generators_kept : Each Kept m.generators
    pub elements_kept : Each Kept m.basis
    pub elements_nonzero : Each (λ g. is_zero g ≡ false) m.basis
    pub elements_follow : Each Follows m.basis
    pub none_early : m.state ≡ Generators → m.basis ≡ []
    pub complete : m.state ≡ Passed → Complete
