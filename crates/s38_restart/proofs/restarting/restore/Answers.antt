use Rattle.std.proofs.Common.{All, List, ℕ, ◌+◌, ◌<◌, ◌≤◌, ◌∙◌, ap, arith, map, subst, sym}
use Rattle.std.specs.List.Sorted.{IsStrictlyIncreasing}
use Rattle.s38_base.specs.Limits.{ceiling_step, last_number}
use Rattle.s38_objects.specs.Lawful.{IsObjectMap}
use Rattle.s38_rules.specs.declared.object.Object.{Object}
use Rattle.s38_durable_state.specs.Following.{extent_in}
use Rattle.s38_space_map.specs.Extents.{AreRising}
use Rattle.s38_image.specs.declared.stored.Stored.{Stored}
use Rattle.s38_rules.specs.store.Room.{Extent}
use Rattle.s38_rules.specs.store.Storable.{IsStorable}
use Rattle.s38_base.specs.declared.page.Change.{Change}
use Rattle.s38_restart.specs.catalog.Groups.{removals}
use Rattle.s38_restart.specs.Parts.{AreParts}
use Rattle.s38_restart.proofs.CeilingBound.{ceiling_bound}
use Rattle.s38_restart.proofs.ExtentLaws.{all_storable, extents_rise}
use Rattle.s38_restart.specs.Restarted.{number_in_stored}
use Rattle.s38_restart.proofs.RestartLaws.{followed_lawful, followed_placed, stored_numbers}
use Rattle.s38_restart.proofs.restarting.restore.Goals as goal

pub followed-requires : goal.followed-requires
followed-requires c =
    let ss = c.in_ok-store.store.stored.items in
    subst (λ (ns : List ℕ). IsStrictlyIncreasing ns) (sym (stored_numbers ss)) c.in_ok-store.ensures.lawful.lawful.rising

pub overflow_add-ceiling : goal.overflow_add-ceiling
overflow_add-ceiling c =
    let bound : c.in_ok-store.store.ceiling ≤ last_number + ceiling_step =
    subst (λ (n : ℕ). n ≤ last_number + ceiling_step) (sym c.in_ok-store.ensures.ceiling) (ceiling_bound c.as_slice.result.now) in
    record { fits = omega (arith, bound) }

pub restored-requires-clause-lawful : goal.restored-requires-clause-lawful
restored-requires-clause-lawful c =
    let n = c.in_ok-store.store.ceiling in
    subst (λ (os : List Object). IsObjectMap (record { objects = os; next = n + 1; ceiling = n })) (sym c.in_ok-objects.ensures) (followed_lawful n c.in_ok-store.store.stored.items c.in_ok-store.ensures.lawful)

pub restored-requires-clause-placed : goal.restored-requires-clause-placed
restored-requires-clause-placed c =
    let n = c.in_ok-store.store.ceiling in
    subst (λ (os : List Object). All (λ o. o.context.0 < n + 1) os) (sym c.in_ok-objects.ensures) (followed_placed n c.in_ok-store.store.stored.items c.in_ok-store.ensures.lawful)

pub extents_of-requires : goal.extents_of-requires
extents_of-requires c =
    let parts = subst (λ (l : List Change). AreParts l) (sym c.as_slice.ensures.value) c.requires.parts in
    subst (λ (ss : List Stored). All (λ s. IsStorable s.object) ss) (sym (c.deref.ensures.value ∙ c.in_ok-store.ensures.stored))
    (all_storable c.args.limit c.as_slice.result.now c.requires.limit parts c.in_ok-store.ensures.sound)

pub returns-clause-rising : goal.returns-clause-rising
returns-clause-rising c =
    let ss = c.in_ok-store.store.stored.items in
    let numbers : IsStrictlyIncreasing (map number_in_stored ss) =
    subst (λ (ns : List ℕ). IsStrictlyIncreasing ns) (sym (stored_numbers ss)) c.in_ok-store.ensures.lawful.lawful.rising in
    subst (λ (xs : List Extent). AreRising xs) (sym c.in_ok-extents.ensures)
    (subst (λ (l : List Stored). AreRising (map extent_in l)) (sym c.deref.ensures.value) (extents_rise ss numbers))

pub returns-clause-removals : goal.returns-clause-removals
returns-clause-removals c = c.in_ok-store.ensures.removals ∙ ap (λ (l : List Change). removals l) c.as_slice.ensures.value
