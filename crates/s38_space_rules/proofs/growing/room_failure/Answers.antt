use Rattle.std.proofs.Common.{◌==◌, ℕ, List, length, ◌∙◌, sym, ap}
use Rattle.s38_rules.specs.step.Effect.{effect_of}
use Rattle.s38_rules.specs.store.Forcing.{Forced, must_persist, room_rule}
use Rattle.s38_space_rules.proofs.EventGrowth.{store_none, store_some}
use Rattle.s38_space_rules.proofs.growing.room_failure.Goals as goal

pub returns-then-is_empty : goal.returns-then-is_empty
returns-then-is_empty c =
    let w = c.args.world.now in
    let same = ap (λ (all : List Forced). length all == 0) (sym c.requires.anew) in
    sym (store_none c.args.room.now.room (must_persist w c.args.process c.args.event.now) (effect_of w c.args.process c.args.event.now).state.held.objects (same ∙ sym c.is_empty.ensures ∙ c.if-is_empty.true))

pub returns : goal.returns
returns c =
    let w = c.args.world.now in
    let same = ap (λ (all : List Forced). length all == 0) (sym c.requires.anew) in
    c.room_rule.ensures
    ∙ ap (λ (n : ℕ). room_rule c.args.room.now.room n) c.new_parts.ensures.parts
    ∙ sym (store_some c.args.room.now.room (must_persist w c.args.process c.args.event.now) (effect_of w c.args.process c.args.event.now).state.held.objects (same ∙ sym c.is_empty.ensures ∙ c.if-is_empty.false))
