-- The objects of an opening are in order for those who act.
use Rattle.s38_laws_images.specs.openings.Opening.{IsOpening}
use Rattle.s38_laws_processes.specs.owners.Beginnings.{IsSoundStart}
use Rattle.s38_rules.specs.state.Held.{Held}

pub in_order : (held : Held) → IsOpening held → IsSoundStart held
in_order held opening = record { given = opening.lawful.given; numbered = opening.numbered; next = opening.next; programs = opening.programs }
