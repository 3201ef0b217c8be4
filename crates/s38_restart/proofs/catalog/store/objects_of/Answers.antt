use Rattle.std.proofs.Common.{◌≡◌, ◌∙◌, ℕ, List, None, ap, subst, sym}
use Rattle.s38_image.specs.Faults.{first_fault_of}
use Rattle.s38_image.specs.declared.stored.Stored.{Stored}
use Rattle.s38_restart.specs.catalog.Readings.{Reading, all_sound}
use Rattle.s38_restart.specs.catalog.Stores.{FormObjectMap}
use Rattle.s38_restart.proofs.catalog.LawfulLaws.{are_lawful}
use Rattle.s38_restart.proofs.catalog.StoreLaws.{under_all}
use Rattle.s38_restart.proofs.catalog.store.objects_of.Goals as goal

pub returns-in-Some-first_fault-clause-fault : goal.returns-in-Some-first_fault-clause-fault
returns-in-Some-first_fault-clause-fault c =
    under_all c.args.groups c.args.limit c.args.ceiling (sym c.in_default.ensures) ∙ ap (λ (x : Reading). first_fault_of x.groups x.limit x.ceiling x.groups) (sym c.in_ok-reading.ensures)
    ∙ sym c.in-Some-first_fault.ensures.fault

pub returns-clause-sound : goal.returns-clause-sound
returns-clause-sound c =
    under_all c.args.groups c.args.limit c.args.ceiling (sym c.in_default.ensures) ∙ ap (λ (x : Reading). first_fault_of x.groups x.limit x.ceiling x.groups) (sym c.in_ok-reading.ensures)
    ∙ sym c.in_default-first_fault.ensures.fault

pub returns-clause-lawful : goal.returns-clause-lawful
returns-clause-lawful c =
    let r = c.in_ok-reading.reading in
    let none : first_fault_of r.groups r.limit r.ceiling r.groups ≡ None = sym c.in_default-first_fault.ensures.fault in
    let law = are_lawful r.groups r.limit r.ceiling none c.in_default-first_fault.ensures.rising in
    let here = subst (λ (k : ℕ). FormObjectMap k (all_sound r.groups r.limit r.ceiling)) (ap (λ (x : Reading). x.ceiling) c.in_ok-reading.ensures) law in
    subst (λ (ss : List Stored). FormObjectMap c.args.ceiling ss) (sym c.into_stored.ensures) here
