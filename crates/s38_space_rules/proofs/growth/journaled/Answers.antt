use Rattle.std.proofs.Common.{ℕ, ◌∙◌, sym, ap}
use Rattle.std.specs.Prelude.{Option}
use Rattle.s38_space_rules.proofs.ObjectGrowth.{journaled_same}
use Rattle.s38_space_rules.specs.Growing.{ensured_growth}
use Rattle.s38_space_rules.proofs.growth.journaled.Goals as goal

pub returns-clause-parts : goal.returns-clause-parts
returns-clause-parts c =
    c.ensured_growth.ensures.parts
    ∙ ap (λ (j : Option ℕ). ensured_growth c.args.room.now.room.extents c.args.world.now.held c.args.space.0 j) c.journal_then-journal.ensures
    ∙ sym (journaled_same c.args.room.now.room.extents c.args.world.now.held c.args.space.0 c.args.port.0 _)
