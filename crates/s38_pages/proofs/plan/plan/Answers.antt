use Rattle.std.proofs.Common.{◌≡◌, ◌≤◌, ◌∙◌, [], ap, length, subst, sym, refl, arith, take}
use Rattle.std.proofs.lemmas.List.{take_more}
use Rattle.std.specs.FinMap.{get}
use Rattle.s38_pages.specs.Index.{Planned, Tallied, marked}
use Rattle.s38_pages.proofs.Planning.{planned_start}
use Rattle.s38_pages.proofs.Tallies.{all_at, new_same, rising_apart, room_for, tallied_start}
use Rattle.s38_pages.proofs.plan.plan.Goals as goal

pub loop-change-init : goal.loop-change-init
loop-change-init c =
    let homes = c.args.homes.now.values in
    let marks = c.args.marks.now in
    let none = sym c.requires.empty in
    record {
      planned = λ lay free index. subst (λ es. Planned lay (get homes) (get homes) (marked marks) es []) none (planned_start lay (get homes) (marked marks) index);
      tallied = subst (λ es. Tallied homes homes marks marks es []) none (tallied_start homes marks);
      free = λ lay free. free;
      room = omega arith;
      slots = let n : length c.args.slots.now.items ≡ 0 = ap length c.requires.empty in omega (arith, n);
      capacity = refl;
    }

pub plan_one-requires : goal.plan_one-requires
plan_one-requires c =
    let k = c.loop-change.change-index in
    let cs = c.args.changes.now in
    let lt = c.loop-change-test.true in
    let t = c.loop-change.invariant.tallied in
    record {
      room = omega (arith, c.requires.room, c.loop-change.invariant.room, lt);
      slots = omega (arith, c.requires.slots, c.loop-change.invariant.slots, c.loop-change.invariant.capacity, lt);
      free = λ new. room_for c.args.homes.now.values c.loop-change.homes.values c.args.marks.now c.loop-change.marks c.loop-change.slots.items cs k _ lt c.requires.free t
          (sym (new_same c.args.homes.now.values c.loop-change.homes.values c.args.marks.now c.loop-change.marks c.loop-change.slots.items (take k cs) t _ (rising_apart cs c.requires.rising k _ lt)) ∙ new);
      size = omega (arith, t.size, c.requires.size);
      object = all_at (λ x. 1 ≤ x.key.object) cs k _ c.requires.objects lt;
    }

pub loop-change-preserved : goal.loop-change-preserved
loop-change-preserved c =
    let k = c.loop-change.change-index in
    let cs = c.args.changes.now in
    let lt = c.loop-change-test.true in
    let new = rising_apart cs c.requires.rising k _ lt in
    let more = sym (take_more cs k _ lt) in
    record {
      planned = λ lay free index. subst (Planned lay (get c.args.homes.now.values) (get c.plan_one.new.homes.values) (marked c.plan_one.new.marks) c.plan_one.new.slots.items) more
          (c.plan_one.ensures.planned lay (get c.args.homes.now.values) (take k cs) (c.loop-change.invariant.free lay free) (c.loop-change.invariant.planned lay free index) new);
      tallied = subst (Tallied c.args.homes.now.values c.plan_one.new.homes.values c.args.marks.now c.plan_one.new.marks c.plan_one.new.slots.items) more
          (c.plan_one.ensures.tallied c.args.homes.now.values c.args.marks.now (take k cs) c.loop-change.invariant.tallied new);
      free = λ lay free. c.plan_one.ensures.free lay (c.loop-change.invariant.free lay free);
      room = omega (arith, c.plan_one.ensures.room, c.loop-change.invariant.room);
      slots = omega (arith, c.plan_one.ensures.slots, c.loop-change.invariant.slots);
      capacity = c.plan_one.ensures.capacity ∙ c.loop-change.invariant.capacity;
    }
