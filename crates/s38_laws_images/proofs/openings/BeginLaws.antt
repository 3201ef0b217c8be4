-- An opening is well and right, and so is each state of a run from there; the first stores are openings.
use Rattle.std.proofs.Common.{◌≡◌, ℕ, ◌≤◌, ◌==◌, false, List, [], ◌∷◌, refl, arith}
use Rattle.std.proofs.lemmas.Bool.{cond_both}
use Rattle.std.proofs.lemmas.Bool.Decides.{nat_tests}
use Rattle.std.proofs.lemmas.List.Elements.{All-nil, recursion_from_All}
use Rattle.std.specs.List.{AllByRecursion}
use Rattle.std.specs.Prelude.{None, Some, Option}
use Rattle.s38_code.specs.declared.deck.Job.{Job}
use Rattle.s38_code.specs.declared.entry.Entry.{Entry}
use Rattle.s38_code.specs.declared.made.CheckedTemplate.{CheckedTemplate}
use Rattle.s38_laws_units.proofs.StepLaws.{history_right}
use Rattle.s38_laws_units.specs.Right.{IsData, IsRight, IsUnit}
use Rattle.s38_laws_objects.proofs.EventLaws.{history_well}
use Rattle.s38_laws_objects.specs.Well.{AreWell}
use Rattle.s38_laws_images.specs.openings.Opening.{HoldsTable, IsNumbered, IsOpening}
use Rattle.s38_laws_processes.specs.owners.Beginnings.{state_over}
use Rattle.s38_rules.specs.store.Room.{Room}
use Rattle.s38_rules.specs.state.Held.{Held, has_number, object_in}
use Rattle.s38_rules.specs.step.Legal.{Leads}
use Rattle.s38_rules.specs.state.Parts.{data_part, part_in}
use Rattle.s38_rules.specs.state.State.{State}
use Rattle.s38_rules.specs.declared.object.Object.{Object}
use Rattle.s38_commits.specs.Units.{BlocksRise}
use Rattle.std.specs.List.Sorted.{IsStrictlySortedBy}
use Rattle.s38_rules.specs.step.Histories.{Throughout}

-- ---- objects that are well

pub opening_well : (room : Option Room) (h : Held) (templates : List CheckedTemplate) (jobs : List Job) → IsOpening h → AreWell (state_over room h templates jobs)
opening_well room h templates jobs is = record { limit = omega arith; objects = is.well }

pub run_well : (room : Option Room) (h : Held) (templates : List CheckedTemplate) (jobs : List Job) (history : List Entry) (end : State) → IsOpening h → Leads (state_over room h templates jobs) [] history end
    → Throughout AreWell (state_over room h templates jobs) history × AreWell end
run_well room h templates jobs history end is leads = history_well (state_over room h templates jobs) [] history end (opening_well room h templates jobs is) leads

-- ---- units that are right

zero_unused : (os : List Object) → AllByRecursion IsNumbered os → object_in os 0 ≡ None
zero_unused [] all = refl
zero_unused (o ∷ os) all =
    let first : 1 ≤ o.number.0 = all.0 in
    let other : (o.number.0 == 0) ≡ false = grind (arith, nat_tests) in
    rw other (zero_unused os all.1)

table_in : (n : ℕ) (os : List Object) → AllByRecursion HoldsTable os → IsData (part_in data_part (object_in os n))
table_in n [] all = tt
table_in n (o ∷ os) all =
    cond_both (has_number n o) (Some o) (object_in os n) (λ x. IsData (part_in data_part x)) (λ own. all.0) (λ other. table_in n os all.1)

no_unit_rises : BlocksRise []
unfolding IsStrictlySortedBy
no_unit_rises = tt

pub opening_right : (room : Option Room) (h : Held) (templates : List CheckedTemplate) (jobs : List Job) → IsOpening h → IsRight (state_over room h templates jobs)
opening_right room h templates jobs is = record {
  rising = no_unit_rises;
  apart = λ one other space at first second. cc;
  each = All-nil (IsUnit h);
  room = λ journal. omega arith;
  tables = λ n. table_in n h.objects (recursion_from_All HoldsTable h.objects is.tables);
  unused = record { none = zero_unused h.objects (recursion_from_All IsNumbered h.objects is.numbered); next = is.next };
}

pub run_right : (room : Option Room) (h : Held) (templates : List CheckedTemplate) (jobs : List Job) (history : List Entry) (end : State) → IsOpening h → Leads (state_over room h templates jobs) [] history end
    → Throughout IsRight (state_over room h templates jobs) history × IsRight end
run_right room h templates jobs history end is leads = history_right (state_over room h templates jobs) [] history end (opening_right room h templates jobs is) leads
