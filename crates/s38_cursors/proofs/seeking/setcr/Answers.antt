use Rattle.std.proofs.Common.{◌≡◌, ap}
use Rattle.s38_rules.specs.families.CursorSeeks.{at_sought}
use Rattle.s38_rules.specs.state.State.{State}
use Rattle.s38_cursors.proofs.seeking.setcr.Goals as goal

pub returns : goal.returns
unfolding at_sought
returns c =
    let held : c.world.inside.objects ≡ c.args.world.now.held = ap (λ (s : State). s.held) c.world.view_is in
    rw (c.target-number.ensures, c.sought_ordinal-ordinal.ensures, c.seek_of.ensures, c.word_at.ensures, held) at c.move_at.ensures
