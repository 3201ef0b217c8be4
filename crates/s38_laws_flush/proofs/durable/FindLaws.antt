-- What takes effect finds room for all that it forces, and holds no further parts afterwards.
use Rattle.std.proofs.Common.{◌≡◌, ◌+◌, ◌-◌, ◌<◌, ◌≤◌, ◌∙◌, ◌∷◌, [], List, Option, Some, ap, arith, refl, subst, sym, true, ℕ}
use Rattle.std.proofs.lemmas.List.Sums.{sum_by-cons}
use Rattle.std.specs.FinMap.{get, keys, len}
use Rattle.std.specs.List.{AllByRecursion, list_any}
use Rattle.std.specs.Prelude.{map, sum_by}
use Rattle.s38_code.specs.declared.event.Event.{Event}
use Rattle.s38_durable_state.specs.Durable.{Durable, durable_after}
use Rattle.s38_durable_state.specs.Following.{Counts, extent_in}
use Rattle.s38_durable_state.specs.Represents.{Represents, aims_of}
use Rattle.s38_page_diff.proofs.WantedLaws.{pages_held}
use Rattle.s38_page_diff.specs.Aims.{all_differences}
use Rattle.s38_image.specs.declared.stored.Stored.{Stored}
use Rattle.s38_restart.proofs.RemoveLaws.{keys_in_order}
use Rattle.s38_rules.specs.step.Effect.{effect_of}
use Rattle.s38_rules.specs.store.Forcing.{Forced, must_persist, new_parts}
use Rattle.s38_rules.specs.state.Held.{Held}
use Rattle.s38_rules.specs.store.Room as rooms
use Rattle.s38_rules.specs.store.Room.{Extent, Room, free}
use Rattle.s38_rules.specs.state.State.{State}
use Rattle.s38_rules.specs.step.Step.{step}
use Rattle.s38_rules.specs.store.Storing.{stored}
use Rattle.s38_vault.specs.Content.{Content}
use Rattle.s38_vault.specs.Directory.{keys_of, new_keys}
use Rattle.s38_flush.proofs.EachLaws.{each_is}
use Rattle.s38_flush.proofs.NumberLaws.{Rise, numbers_are, numbers_rise}
use Rattle.s38_flush.specs.Numbers.{numbered, numbers, with_all_numbers}
use Rattle.s38_flush.specs.Stepping.{HaveHeaders, IsNumber, ceiling_changes, is_forced_ceiling, object_changes}
use Rattle.s38_laws_flush.specs.durable.Kept.{HasParts, IsKeptOf}
use Rattle.s38_laws_flush.proofs.durable.KeepLaws.{DurableLaws, forced_low, goes, numbered_same, users}
use Rattle.s38_laws_flush.proofs.durable.NumberLaws.{numbers_numbered}
use Rattle.s38_laws_flush.proofs.durable.RoomLaws.{ceiling_few, keys_most, objects_few}
use Rattle.s38_laws_flush.proofs.durable.RuleLaws.{IsWithin, permitted_within}
use Rattle.s38_laws_flush.proofs.durable.StepLaws.{IsDone, takes_effect}

extents_sum : (xs : List Stored) → sum_by rooms.parts_of (map extent_in xs) ≡ sum_by (λ x. rooms.parts_of (extent_in x)) xs
extents_sum [] = refl
extents_sum (x ∷ xs) =
    let one = sum_by-cons rooms.parts_of (extent_in x) (map extent_in xs) in
    let two = sum_by-cons (λ (y : Stored). rooms.parts_of (extent_in y)) x xs in
    let rest = extents_sum xs in
    omega (arith, one, two, rest)

-- where nothing is forced nothing is new
nothing_new : (m : Content) (d : Durable) → new_keys (keys_of m) (object_changes (numbered []) (get m) d) ≡ 0
unfolding with_all_numbers
nothing_new m d = refl

module _ (laws : DurableLaws) (s : State) (p : ℕ) (e : Event) (d : Durable) (is : IsKeptOf s d) (does : IsDone (step s p e).reply) (room : Room) (over : s.room ≡ Some room) (m : Content) (stands : Represents m d) (parts : HasParts m) (headers : HaveHeaders d) where
  abbrev t : State
  t = (step s p e).state

  abbrev all : List Forced
  all = must_persist s p e

  counts : room.extents ≡ map extent_in d.objects
  counts = subst (λ (r : Option Room). Counts r d) over is.counts

  within : IsWithin room all t.held.objects
  within =
      let takes = takes_effect s p e does in
      subst (λ (h : Held). IsWithin room all h.objects) (sym takes.held) (permitted_within s p e room over takes.permit)

  -- those free are as many as the room has
  room_left : (spare : ℕ) → spare + len (keys_of m) ≡ room.parts + 1 → free room ≤ spare
  room_left spare sum =
      let most = keys_most (keys_of m) m d (pages_held (keys_of m) m refl) stands headers parts (keys_in_order (keys_of m)) in
      let same : sum_by rooms.parts_of room.extents ≡ sum_by (λ x. rooms.parts_of (extent_in x)) d.objects = ap (sum_by rooms.parts_of) counts ∙ extents_sum d.objects in
      omega (arith, most, same, sum)

  module _ (new_headers : HaveHeaders (durable_after all d t)) where
    few : (ns : List ℕ) → AllByRecursion IsNumber ns → Rise ns → new_keys (keys_of m) (all_differences (get m) (aims_of (durable_after all d t) ns)) ≤ new_parts room all t.held.objects
    few ns are rise = objects_few (keys_of m) m d (pages_held (keys_of m) m refl) stands headers all t (goes laws s p e d is does).numbered.rising (users laws s p e d is does) room counts new_headers ns are rise

    none : new_keys (keys_of m) (ceiling_changes (numbered all) (get m) (durable_after all d t)) ≡ 0
    none = ceiling_few (keys_of m) m d (pages_held (keys_of m) m refl) stands headers all t (goes laws s p e d is does).numbered.rising (users laws s p e d is does) room counts new_headers (list_any is_forced_ceiling (numbered all))

    -- where something is forced, the rule was asked
    by_rule : (some : List Forced) → some ≡ all → IsWithin room some t.held.objects → new_keys (keys_of m) (object_changes (numbered all) (get m) (durable_after all d t)) ≤ free room
    by_rule [] same rule = let zero_is : new_keys (keys_of m) (object_changes (numbered all) (get m) (durable_after all d t)) ≡ 0 = ap (λ (fs : List Forced). new_keys (keys_of m) (object_changes (numbered fs) (get m) (durable_after all d t))) (sym same) ∙ nothing_new m (durable_after all d t) in omega (arith, zero_is)
    by_rule (one ∷ more) same rule =
        let ns = numbers (numbered all) in
        let are = each_is (numbered all) ns (numbers_numbered all (forced_low laws s p e d is does)) (λ n among. sym (numbers_are n (numbered all)) ∙ among) in
        let most = few ns are (numbers_rise (numbered all)) in
        let asked : new_parts room (one ∷ more) t.held.objects ≡ new_parts room all t.held.objects = ap (λ (fs : List Forced). new_parts room fs t.held.objects) same in
        omega (arith, most, asked, rule)

    finds : (spare : ℕ) → spare + len (keys_of m) ≡ room.parts + 1
        → new_keys (keys_of m) (ceiling_changes (numbered all) (get m) (durable_after all d t)) + new_keys (keys_of m) (object_changes (numbered all) (get m) (durable_after all d t)) ≤ spare
    finds spare sum =
        let left = room_left spare sum in
        let rule = by_rule all refl within in
        omega (arith, left, rule, none)

  -- what is forced finds room
  pub finds_room : HaveHeaders (durable_after (numbered all) d t) → (spare : ℕ) → spare + len (keys_of m) ≡ room.parts + 1
      → new_keys (keys_of m) (ceiling_changes (numbered all) (get m) (durable_after (numbered all) d t)) + new_keys (keys_of m) (object_changes (numbered all) (get m) (durable_after (numbered all) d t)) ≤ spare
  finds_room have spare sum =
      let same : durable_after (numbered all) d t ≡ durable_after all d t = numbered_same laws s p e d is does in
      subst (λ (new : Durable). new_keys (keys_of m) (ceiling_changes (numbered all) (get m) new) + new_keys (keys_of m) (object_changes (numbered all) (get m) new) ≤ spare) (sym same)
      (finds (subst HaveHeaders same have) spare sum)
