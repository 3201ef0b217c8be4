use Rattle.std.proofs.Common.{◌≡◌, ◌<◌, ◌^◌, ap, sym, ◌∙◌, arith, rules}
use Rattle.std.specs.Prelude.{Option, Some}
use Rattle.std.specs.Option.{option_map}
use Rattle.s38_base.specs.declared.id.ObjNum.{ObjNum}
use Rattle.s38_commits.specs.Units.{above, next_block}
use Rattle.s38_commits.proofs.WalkLaws.{next_above}
use Rattle.s38_rules.specs.state.State.{State}
use Rattle.s38_rules.specs.families.Units.{all_decommitted}
use Rattle.s38_units.proofs.UnitLaws.{taken_first}
use Rattle.s38_units.proofs.ends.take_all_back.Goals as goal

pub loop-next-init : goal.loop-next-init
loop-next-init c =
    ap (λ (s : State). all_decommitted s c.args.process (above 0 s.units)) c.take_back.ensures.taken
    ∙ sym (taken_first c.args.world.now c.args.process c.take_back.ensures.rising)

pub loop-next-smaller : goal.loop-next-smaller
loop-next-smaller c =
    let next : next_block c.world.inside.units c.loop-next.block.0 ≡ Some c.in-Some.next.0 =
    sym c.next_block.ensures.next ∙ ap (λ (o : Option ObjNum). option_map (λ n. n.0) o) c.in-Some.is in
    let more : c.loop-next.block.0 < c.in-Some.next.0 = next_above c.world.inside.units c.loop-next.block.0 c.in-Some.next.0 next in
    let fits : c.in-Some.next.0 < 2 ^ 64 = search rules in
    omega (arith, more, fits)
