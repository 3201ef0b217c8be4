use Rattle.std.proofs.Common.{List, map, ap, subst, sym, ◌∙◌}
use Rattle.std.specs.Prelude.{find}
use Rattle.std.specs.List.Sorted.{IsStrictlyIncreasing}
use Rattle.s38_image.specs.Faults.{sound_at}
use Rattle.s38_image.specs.declared.stored.Stored.{Stored}
use Rattle.s38_restart.specs.catalog.Readings.{Reading, is_object, stored_number}
use Rattle.s38_restart.proofs.catalog.SoundLaws.{found_sound, sound_rise}
use Rattle.s38_restart.proofs.catalog.reading.Reading.sound_at.Goals as goal

pub object_in-requires : goal.object_in-requires
object_in-requires c =
    let r = c.self.inside in
    subst (λ (ss : List Stored). IsStrictlyIncreasing (map stored_number ss)) (sym (c.as_slice.ensures.value ∙ c.self.invariant.stored)) (sound_rise r.groups r.limit r.ceiling r.groups c.self.invariant.rising)

pub returns : goal.returns
returns c =
    let r = c.self.inside in
    c.object_in.ensures ∙ ap (find (is_object c.args.number)) (c.as_slice.ensures.value ∙ c.self.invariant.stored) ∙ found_sound r.groups r.limit r.ceiling c.args.number c.self.invariant.rising
    ∙ ap (λ (w : Reading). sound_at w.groups w.limit w.ceiling c.args.number) c.self.view_is
