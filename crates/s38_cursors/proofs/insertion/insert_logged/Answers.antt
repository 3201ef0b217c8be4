use Rattle.std.proofs.Common.{◌≡◌, ◌≤◌, ℕ, ap, subst}
use Rattle.s38_base.specs.Limits.{furthest}
use Rattle.s38_cursors.specs.Insertion.{logged_by}
use Rattle.s38_rules.specs.state.PartsAt.{table_at}
use Rattle.s38_rules.specs.state.State.{State}
use Rattle.s38_cursors.proofs.CursorLaws.{taken_by}
use Rattle.s38_cursors.proofs.InsertLaws.{inserted_left, insertion_ok, journal_there, room_met}
use Rattle.s38_cursors.proofs.insertion.insert_logged.Goals as goal

pub insert_both-requires-clause-there : goal.insert_both-requires-clause-there
insert_both-requires-clause-there c =
    let held : c.world.inside.objects ≡ c.args.world.now.held = ap (λ (s : State). s.held) c.world.view_is in
    rw held (journal_there c.args.world.now.held c.args.change.now.space.0 c.args.journal.0 c.requires.there)

pub insert_both-requires-clause-room : goal.insert_both-requires-clause-room
insert_both-requires-clause-room c =
    let held : c.world.inside.objects ≡ c.args.world.now.held = ap (λ (s : State). s.held) c.world.view_is in
    let units : c.world.inside.units ≡ c.args.world.now.units = ap (λ (s : State). s.units) c.world.view_is in
    rw (held, units) (room_met c.args.world.now c.args.block.0 _ c.args.journal.0 c.requires.limits)

pub invariant_of-world : goal.invariant_of-world
invariant_of-world c = (
  c.world.invariant.0,
  inserted_left c.world.inside.profiles c.world.inside.objects c.insert_both.new.objects c.args.journal.0
      (logged_by c.world.inside.objects c.world.inside.units c.args.process c.args.block.0 c.args.journal.0 c.args.change.now) c.args.change.now.space.0 c.args.entry.now
      c.insert_both.result c.insert_both.ensures.objects c.insert_both.ensures.objects_left c.world.invariant.1,
)

pub returns-clause-ok : goal.returns-clause-ok
returns-clause-ok c =
    let held : c.world.inside.objects ≡ c.args.world.now.held = ap (λ (s : State). s.held) c.world.view_is in
    rw (← c.world.view_is)
    (insertion_ok _ c.args.process c.args.block.0 c.args.journal.0 c.args.change.now c.args.entry.now c.insert_both.result c.insert_both.new.objects c.insert_both.new.units
    (rw held c.requires.there) c.insert_both.ensures.objects c.insert_both.ensures.units)

pub insert_both-requires-clause-fits : goal.insert_both-requires-clause-fits
insert_both-requires-clause-fits c =
    let held : c.world.inside.objects ≡ c.args.world.now.held = ap (λ (s : State). s.held) c.world.view_is in
    let few : c.args.world.now.limit ≤ furthest = subst (λ (n : ℕ). n ≤ furthest) (ap (λ (s : State). s.limit) c.world.view_is) c.world.invariant.0 in
    rw held (taken_by c.args.world.now.limit (table_at c.args.world.now.held c.args.change.now.space.0) c.args.entry.now few c.requires.len c.requires.image)

pub insert_both-requires-clause-values : goal.insert_both-requires-clause-values
insert_both-requires-clause-values c =
    let held : c.world.inside.objects ≡ c.args.world.now.held = ap (λ (s : State). s.held) c.world.view_is in
    rw held c.requires.values
