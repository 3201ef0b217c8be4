use Rattle.std.proofs.Common.{ℕ, ◌∙◌, ap}
use Rattle.s38_commits.specs.Units.{unit_of}
use Rattle.s38_rules.specs.families.Changes.{through_port}
use Rattle.s38_rules.specs.state.Journaling.{journal_for}
use Rattle.s38_rules.specs.families.Journals.{journals_row}
use Rattle.s38_rules.specs.ask.Operands.{target}
use Rattle.s38_rules.specs.state.PartsAt.{on_data}
use Rattle.s38_space_rules.specs.Growing.{commit_growth, ensured_growth}
use Rattle.s38_space_rules.proofs.growing.journals.Goals as goal

pub returns-in-Jrnlobj-clause-parts : goal.returns-in-Jrnlobj-clause-parts
unfolding journals_row
returns-in-Jrnlobj-clause-parts c =
    let h = c.args.world.now.held in
    let xs = c.args.room.now.room.extents in
    let n : ℕ = target h c.args.act.request.now.operands 1 in
    rw c.in-Jrnlobj.is
    (c.journaled.ensures.parts
    ∙ ap (λ (n : ℕ). ensured_growth xs (on_data h n (through_port c.number_at.result.0)) n (journal_for (on_data h n (through_port c.number_at.result.0)) n)) c.number_at-number.ensures
    ∙ ap (λ (port : ℕ). ensured_growth xs (on_data h n (through_port port)) n (journal_for (on_data h n (through_port port)) n)) c.number_at.ensures)

pub returns-in-Commit-clause-parts : goal.returns-in-Commit-clause-parts
unfolding journals_row
returns-in-Commit-clause-parts c =
    rw c.in-Commit.is (c.commit_growth.ensures.parts ∙ ap (λ (n : ℕ). commit_growth c.args.room.now.room.extents c.args.world.now n (unit_of c.args.world.now.units n)) c.number_at-number.ensures)

pub returns-in-Ensobj-clause-parts : goal.returns-in-Ensobj-clause-parts
unfolding journals_row
returns-in-Ensobj-clause-parts c =
    rw c.in-Ensobj.is (c.ensured.ensures.parts ∙ ap (λ (n : ℕ). ensured_growth c.args.room.now.room.extents c.args.world.now.held n (journal_for c.args.world.now.held n)) c.number_at-number.ensures)
