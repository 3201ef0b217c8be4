-- What the end of a run has to have for a store to keep all of it.
use Rattle.std.specs.Prelude.{◌+◌, ◌≤◌, All}
use Rattle.s38_base.specs.Limits.{ceiling_step, last_number}
use Rattle.s38_image_writer.specs.Parts.{CanSettle}
use Rattle.s38_laws_images.specs.openings.Opening.{IsNumbered}
use Rattle.s38_rules.specs.state.State.{State}
use Rattle.s38_rules.specs.store.Storable.{IsStorable}

pub record CanClose (s : State) : Type 0 where
  -- a store can keep each object
  pub storable : All IsStorable s.held.objects
  -- 0 is the number of no object
  pub numbers : All IsNumbered s.held.objects
  -- every change of a unit can be taken back of it
  pub settles : All (λ o. CanSettle s.units o.number.0 o.body) s.held.objects
  -- a store can keep the ceiling of numbers
  pub ceiling : s.held.ceiling ≤ last_number + ceiling_step
