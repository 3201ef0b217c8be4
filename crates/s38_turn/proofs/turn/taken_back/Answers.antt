use Rattle.std.proofs.Common.{◌≡◌, Some, None, ◌∙◌, sym, subst, Option}
use mathlib.Core.Option.{some-injective}
use Rattle.std.specs.Slots.{slots_items}
use Rattle.std.proofs.lemmas.Option.{same_Some}
use Rattle.s38_turn.specs.Calls.{Ended, IsLike}
use Rattle.s38_turn.specs.Items.{items_of}
use Rattle.s38_turn.proofs.Ends.{closes}
use Rattle.s38_turn.proofs.turn.taken_back.Goals as goal

abbrev IsFilled : {A : Type 0} → Option A → Type 0
IsFilled None = ⊥
IsFilled (Some x) = Unit {0}

pub unreachable-requires : goal.unreachable-requires
unreachable-requires g c =
    let S = g.M.Stepper in
    let t = c.args.table.shared in
    let key = t.key.machine.value in
    let end = closes g.row.M.Denot key t.key.processes (IsLike S.is_sound S.origin key) (items_of S.history S.stopped)
    c.args.seat.id c.args.seat.me.0 (slots_items c.close_with-closed.result.words) (slots_items c.close_with-closed.result.slots) c.requires.idle.2 c.requires.all c.close_with-closed.ensures.values.2 in
    let found : c.take-slot.result ≡ Some end.machine = some-injective c.take-slot.result (Some end.machine) (sym c.take-slot.ensures.value ∙ end.is) in
    subst IsFilled (sym found ∙ c.in-None.is) tt

pub returns : goal.returns
returns g c =
    let S = g.M.Stepper in
    let t = c.args.table.shared in
    let key = t.key.machine.value in
    let end = closes g.row.M.Denot key t.key.processes (IsLike S.is_sound S.origin key) (items_of S.history S.stopped)
    c.args.seat.id c.args.seat.me.0 (slots_items c.close_with-closed.result.words) (slots_items c.close_with-closed.result.slots) c.requires.idle.2 c.requires.all c.close_with-closed.ensures.values.2 in
    let found : c.take-slot.result ≡ Some end.machine = some-injective c.take-slot.result (Some end.machine) (sym c.take-slot.ensures.value ∙ end.is) in
    subst (λ (m : g.row.M.Denot). Ended (IsLike S.is_sound S.origin key) (items_of S.history S.stopped) c.args.seat.me.0.seen c.args.seat.me.0.lists m)
    (same_Some end.machine c.in-Some.machine (sym found ∙ c.in-Some.is)) end.ended
