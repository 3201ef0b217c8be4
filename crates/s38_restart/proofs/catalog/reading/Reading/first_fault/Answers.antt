use Rattle.std.proofs.Common.{ℕ, List, ap, sym, ◌∙◌}
use Rattle.std.specs.Prelude.{Option, slice_get}
use Rattle.s38_image.specs.Faults.{first_fault_of}
use Rattle.s38_restart.specs.catalog.Readings.{Reading, all_faults, all_sound, first_beside, lower}
use Rattle.s38_restart.proofs.catalog.SoundLaws.{first_is}
use Rattle.s38_restart.proofs.catalog.reading.Reading.first_fault.Goals as goal

pub returns-clause-fault : goal.returns-clause-fault
returns-clause-fault c =
    let v = c.args.self.now in
    let r = c.self.inside in
    let beside = c.first_beside-beside.ensures ∙ ap (first_beside v.groups v.limit v.ceiling) (c.as_slice.ensures.value ∙ c.self.invariant.stored)
    ∙ ap (λ (w : Reading). first_beside w.groups w.limit w.ceiling (all_sound r.groups r.limit r.ceiling)) (sym c.self.view_is) in
    let alone = c.copied.ensures ∙ c.first.ensures.value ∙ ap (λ (l : List (ℕ × ℕ)). slice_get l 0) (c.deref.ensures.value ∙ c.self.invariant.faults) in
    c.lower.ensures ∙ ap (λ (o : Option (ℕ × ℕ)). lower c.first_beside-beside.result o) alone
    ∙ ap (λ (o : Option (ℕ × ℕ)). lower o (slice_get (all_faults r.groups r.limit r.ceiling) 0)) beside
    ∙ sym (first_is r.groups r.limit r.ceiling c.self.invariant.rising)
    ∙ ap (λ (w : Reading). first_fault_of w.groups w.limit w.ceiling w.groups) c.self.view_is
