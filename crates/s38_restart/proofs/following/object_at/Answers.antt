use Rattle.std.proofs.Common.{Bor, ap, sym, ◌∙◌}
use Rattle.std.specs.Prelude.{Option}
use Rattle.std.specs.Option.{option_copied, option_map}
use Rattle.s38_restart.specs.catalog.Readings.{object_in_stored}
use Rattle.s38_image.specs.declared.stored.Stored.{Stored}
use Rattle.s38_restart.proofs.FollowLaws.{object_found}
use Rattle.s38_restart.proofs.following.object_at.Goals as goal

pub returns-in-Some : goal.returns-in-Some
returns-in-Some c =
    ap (λ (r : Option (Bor Stored)). option_map object_in_stored (option_copied r)) (sym c.in-Some.is)
    ∙ object_found c.args.numbers.now c.args.stored.now c.args.number c.place_of.result c.get.result c.place_of.ensures c.requires.numbers c.get.ensures.lookup

pub returns-in-None : goal.returns-in-None
returns-in-None c =
    ap (λ (r : Option (Bor Stored)). option_map object_in_stored (option_copied r)) (sym c.in-None.is)
    ∙ object_found c.args.numbers.now c.args.stored.now c.args.number c.place_of.result c.get.result c.place_of.ensures c.requires.numbers c.get.ensures.lookup
