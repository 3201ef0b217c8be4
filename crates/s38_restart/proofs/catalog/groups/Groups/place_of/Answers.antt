use Rattle.std.proofs.Common.{◌==◌, ap, ◌∙◌}
use Rattle.std.specs.List.{position_or_len}
use Rattle.s38_image.specs.Faults.{group_has_number}
use Rattle.s38_restart.proofs.catalog.LookupLaws.{place_of_group}
use Rattle.s38_restart.proofs.catalog.groups.Groups.place_of.Goals as goal

pub returns : goal.returns
returns c =
    c.place_of.ensures ∙ ap (position_or_len (λ k. k == c.args.number)) (c.deref.ensures.value ∙ c.self.invariant.numbers)
    ∙ place_of_group c.args.number c.self.inside.groups.items ∙ ap (position_or_len (group_has_number c.args.number)) c.self.view_is
