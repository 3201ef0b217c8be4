-- With which objects a run may begin: those of a machine that was not stored before, and those that a restart gives.
use Rattle.std.specs.Prelude.{◌+◌, ◌<◌, ◌≤◌, All}
use Rattle.s38_base.specs.Limits.{body_limit, ceiling_step, last_number}
use Rattle.s38_laws_units.specs.Right.{IsData}
use Rattle.s38_laws_objects.specs.Well.{IsWell}
use Rattle.s38_objects.specs.Lawful.{IsObjectMap, number_of}
use Rattle.s38_laws_images.specs.openings.Bodies.{HoldsBody}
use Rattle.s38_laws_images.specs.openings.Fitting.{FitTogether}
use Rattle.s38_laws_processes.specs.owners.Beginnings.{HoldsChecked}
use Rattle.s38_rules.specs.state.Held.{Held}
use Rattle.s38_rules.specs.state.Parts.{data_of}
use Rattle.s38_rules.specs.declared.object.Object.{Object}

-- no object has the number 0
abbrev pub IsNumbered : Object → Type 0
IsNumbered o = 1 ≤ number_of o

-- what a data space holds is a table of its fields
abbrev pub HoldsTable : Object → Type 0
HoldsTable o = IsData (data_of o.body)

pub record IsOpening (h : Held) : Type 0 where
  -- a store can keep each object, and its private rows are in order
  pub well : All IsWell h.objects
  -- each entry of a data space is one of its fields
  pub tables : All HoldsTable h.objects
  -- each program is one that creation makes
  pub programs : All HoldsChecked h.objects
  -- bodies keep to their limits
  pub bodies : All (HoldsBody body_limit) h.objects
  -- numbers rise and were given, and names are told apart in each context
  pub lawful : IsObjectMap h
  -- 0 is the number of no object, and never will be: the next one is above it
  pub numbered : All IsNumbered h.objects
  pub next : 1 ≤ h.next
  -- each object says an owner and a context whose numbers were given, or no context
  pub owned : All (λ o. o.owner.0 < h.next) h.objects
  pub placed : All (λ o. o.context.0 < h.next) h.objects
  -- each object has an owner who is there, and is in a context or in none
  pub fit : FitTogether h
  -- a store can keep the ceiling of numbers, and no number above it was given
  pub ceiling : h.ceiling ≤ last_number + ceiling_step
  pub within : h.next ≤ h.ceiling + 1
