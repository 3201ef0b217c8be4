-- A store can keep all that a run leaves, if the run began with an opening.
use Rattle.std.proofs.Common.{◌≡◌, ℕ, zero, suc, ◌==◌, Bool, true, false, cond, ◌≤◌, List, [], ◌∷◌, map, refl, subst, ◌∙◌, ap, arith}
use Rattle.std.proofs.lemmas.Bool.{eqb-true}
use Rattle.std.proofs.lemmas.Bool.Decides.{nat_tests}
use Rattle.std.proofs.lemmas.List.Elements.{All-from_recursion, All-weaker}
use Rattle.std.proofs.lemmas.Map.Keys.{sorted_head, sorted_tail}
use Rattle.std.specs.Ordering.{nat_cmp}
use Rattle.std.specs.declared.cmp.Ordering.TheVariants.{Less}
use Rattle.std.specs.List.{AllByRecursion}
use Rattle.std.specs.Prelude.{All, IsTrue, None, Option, Some, nat_le, length}
use Rattle.s38_code.specs.declared.deck.Job.{Job}
use Rattle.s38_code.specs.declared.entry.Entry.{Entry}
use Rattle.s38_code.specs.declared.made.CheckedTemplate.{CheckedTemplate}
use Rattle.s38_laws_units.specs.Right.{IsChange, IsChangeOf, IsLogged, IsUnit, IsUnused}
use Rattle.s38_commits.specs.Units.{UnitMap}
use Rattle.s38_commits.specs.declared.change.UnitChange.{UnitChange}
use Rattle.s38_dataspaces.specs.Table.{DataTable, may_restore}
use Rattle.s38_image_writer.specs.Parts.{CanSettle}
use Rattle.s38_image_writer.specs.Restoring.{AreRestorable, IsRestorable}
use Rattle.s38_objects.specs.Lawful.{IsObjectMap, number_of}
use Rattle.s38_laws_images.proofs.openings.BeginLaws.{run_right, run_well}
use Rattle.s38_laws_images.proofs.openings.CeilingLaws.{history_low}
use Rattle.s38_laws_images.specs.openings.Closing.{CanClose}
use Rattle.s38_laws_images.specs.openings.Opening.{IsNumbered, IsOpening}
use Rattle.s38_rules.proofs.ChargeLaws.{AreRising, rising_by}
use Rattle.s38_laws_processes.specs.owners.Beginnings.{state_over}
use Rattle.s38_rules.specs.store.Room.{Room}
use Rattle.s38_rules.specs.state.Held.{Held, object, object_in}
use Rattle.s38_rules.specs.state.Journaling.{block_port}
use Rattle.s38_rules.specs.store.Storable.{IsStorable}
use Rattle.s38_laws_objects.specs.Well.{IsWell}
use Rattle.s38_rules.specs.step.Legal.{Leads}
use Rattle.s38_rules.specs.state.Parts.{data_of, data_part, part_at, part_in}
use Rattle.s38_rules.specs.state.State.{State}
use Rattle.s38_rules.specs.declared.data_body.DataBody.{DataBody}
use Rattle.s38_rules.specs.declared.object.Body.{Body}
use Rattle.s38_rules.specs.declared.object.Body.TheVariants as bodies
use Rattle.s38_rules.specs.declared.object.Object.{Object}

-- ---- objects are found by their numbers

none_below : (n : ℕ) (os : List Object) → AllByRecursion (λ k. nat_cmp n k ≡ Less) (map number_of os) → object_in os n ≡ None
none_below n [] above = refl
none_below n (o ∷ os) above =
    let here : nat_cmp n o.number.0 ≡ Less = above.0 in
    let off : (o.number.0 == n) ≡ false = grind (arith, nat_tests) in
    rw off (none_below n os above.1)

not_found : (o : Object) (r : Option Object) → r ≡ None → r ≡ Some o → ⊥
not_found o r none some = cc

-- what is true of all that is found by its number is true of all, where numbers rise
each_found : (P : Object → Type 0) (os : List Object) → AreRising os → ((o : Object) → object_in os o.number.0 ≡ Some o → P o) → AllByRecursion P os
each_found P [] rising next = tt
each_found P (x ∷ os) rising next =
    let self : (x.number.0 == x.number.0) ≡ true = grind (arith, nat_tests) in
    let above = sorted_head nat_cmp x.number.0 (map number_of os) rising in
    (next x (rw self refl), each_found P os (sorted_tail nat_cmp x.number.0 (map number_of os) rising) (λ o found. next o (behind above o found (x.number.0 == o.number.0) refl)))
  where
    behind : AllByRecursion (λ k. nat_cmp x.number.0 k ≡ Less) (map number_of os) → (o : Object) → object_in os o.number.0 ≡ Some o → (b : Bool) → (x.number.0 == o.number.0) ≡ b → cond b (Some x) (object_in os o.number.0) ≡ Some o
    behind above o found true same = absurd (not_found o (object_in os o.number.0) (subst (λ (n : ℕ). object_in os n ≡ None) (eqb-true x.number.0 o.number.0 same) (none_below x.number.0 os above)) found)
    behind above o found false other = found

-- where no object is found by 0, it is the number of none
numbered_by : (n : ℕ) (o : Object) (os : List Object) → object_in os 0 ≡ None → object_in os n ≡ Some o → 1 ≤ n
numbered_by zero o os none found = absurd (not_found o (object_in os 0) none found)
numbered_by (suc n) o os none found = omega arith

all_numbered : (h : Held) → IsObjectMap h → IsUnused h → All IsNumbered h.objects
all_numbered h lawful unused =
    All-from_recursion IsNumbered h.objects
    (each_found IsNumbered h.objects (rising_by h.objects lawful.rising) (λ o found. numbered_by o.number.0 o h.objects unused.none found))

-- ---- changes of units can be taken back

may_be_restored : (change : UnitChange) (t : DataTable) → IsChange change t → IsTrue (may_restore t change.at change.before)
may_be_restored change t is =
    let least = is.first in
    let most = is.last in
    let low : nat_le 1 change.at ≡ true = grind (arith, nat_tests) in
    let high : nat_le change.at (length t.entries) ≡ true = grind (arith, nat_tests) in
    rw (low, high, is.before) refl

restorable : (h : Held) (port : ℕ) (o : Object) (d : DataBody) → object h o.number.0 ≡ Some o → data_of o.body ≡ Some d → (change : UnitChange) → IsLogged h port change → IsRestorable o.number.0 d.space change
restorable h port o d found holds change logged at =
    let there : part_at data_part h change.space.0 ≡ Some d = ap (part_at data_part h) at ∙ ap (part_in data_part) found ∙ holds in
    may_be_restored change d.space (subst (λ (x : Option DataBody). IsChangeOf change x) there logged.entry)

data_settles : (h : Held) (units : UnitMap) (o : Object) (d : DataBody) → All (IsUnit h) units → object h o.number.0 ≡ Some o → data_of o.body ≡ Some d → AreRestorable units o.number.0 d.space
data_settles h units o d each found holds =
    All-weaker (IsUnit h) (λ e. All (IsRestorable o.number.0 d.space) e.1.changes)
    (λ e is. All-weaker (IsLogged h (block_port h e.0)) (IsRestorable o.number.0 d.space) (restorable h (block_port h e.0) o d found holds) e.1.changes is.changes)
    units each

settles_by : (h : Held) (units : UnitMap) (o : Object) (b : Body) → All (IsUnit h) units → object h o.number.0 ≡ Some o → o.body ≡ b → CanSettle units o.number.0 b
settles_by h units o (bodies.DataSpace d) each found is = data_settles h units o d each found (ap data_of is)
settles_by h units o _ each found is = tt

all_settle : (h : Held) (units : UnitMap) → IsObjectMap h → All (IsUnit h) units → All (λ o. CanSettle units o.number.0 o.body) h.objects
all_settle h units lawful each =
    All-from_recursion (λ o. CanSettle units o.number.0 o.body) h.objects
    (each_found (λ o. CanSettle units o.number.0 o.body) h.objects (rising_by h.objects lawful.rising) (λ o found. settles_by h units o o.body each found refl))

-- ---- the end of a run

pub end_closes : (room : Option Room) (h : Held) (templates : List CheckedTemplate) (jobs : List Job) (history : List Entry) (end : State) → IsOpening h → Leads (state_over room h templates jobs) [] history end → IsObjectMap end.held → CanClose end
end_closes room h templates jobs history end is leads lawful = record {
  storable = All-weaker IsWell IsStorable (λ o well. well.storable) end.held.objects (run_well room h templates jobs history end is leads).1.objects;
  numbers = all_numbered end.held lawful (run_right room h templates jobs history end is leads).1.unused;
  settles = all_settle end.held end.units lawful (run_right room h templates jobs history end is leads).1.each;
  ceiling = history_low (state_over room h templates jobs) [] history end is.ceiling leads;
}
