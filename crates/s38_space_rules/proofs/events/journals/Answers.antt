use Rattle.std.proofs.Common.{ℕ, ◌∙◌, ◌∷◌, refl, ap}
use Rattle.s38_rules.specs.families.Changes.{through_port}
use Rattle.s38_rules.specs.store.Forcing.{Whole, whole_if}
use Rattle.s38_rules.specs.state.Journaling.{journal_for}
use Rattle.s38_rules.specs.families.Journals.{journals_row}
use Rattle.s38_rules.specs.ask.Operands.{target}
use Rattle.s38_rules.specs.state.PartsAt.{on_data}
use Rattle.s38_space_rules.proofs.events.journals.Goals as goal

pub returns-in-Crtjs : goal.returns-in-Crtjs
unfolding journals_row
returns-in-Crtjs c = rw c.in-Crtjs.is (c.made.ensures _ _ _ _ refl refl)

pub returns-in-Crtjp : goal.returns-in-Crtjp
unfolding journals_row
returns-in-Crtjp c = rw c.in-Crtjp.is (c.made-in-Crtjp.ensures _ _ _ _ refl refl)

pub returns-in-Crtcb : goal.returns-in-Crtcb
unfolding journals_row
returns-in-Crtcb c = rw c.in-Crtcb.is (c.made-in-Crtcb.ensures _ _ _ _ refl refl)

pub returns-in-Jrnlobj : goal.returns-in-Jrnlobj
unfolding journals_row
returns-in-Jrnlobj c =
    let h = c.args.world.now.held in
    rw c.in-Jrnlobj.is
    (c.journaled.ensures
    ∙ ap (λ (n : ℕ). Whole n ∷ whole_if (journal_for (on_data h n (through_port c.number_at-in-Jrnlobj-2.result.0)) n)) c.number_at-in-Jrnlobj.ensures
    ∙ ap (λ (port : ℕ). Whole (target h c.args.act.request.now.operands 1) ∷ whole_if (journal_for (on_data h (target h c.args.act.request.now.operands 1) (through_port port)) (target h c.args.act.request.now.operands 1))) c.number_at-in-Jrnlobj-2.ensures)

pub returns-in-Ensobj : goal.returns-in-Ensobj
unfolding journals_row
returns-in-Ensobj c =
    rw c.in-Ensobj.is (c.ensured.ensures ∙ ap (λ (n : ℕ). Whole n ∷ whole_if (journal_for c.args.world.now.held n)) c.number_at-in-Ensobj.ensures)
