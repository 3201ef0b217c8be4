use Rattle.std.proofs.Common.{◌∙◌, ap, sym}
use Rattle.s38_code.specs.declared.family.Family.{Family}
use Rattle.s38_rules.specs.store.Forcing.{forced_by}
use Rattle.s38_rules.specs.families.Rows.{row_in}
use Rattle.s38_space_rules.proofs.RowLaws.{locks_silent, resolving_silent}
use Rattle.s38_space_rules.proofs.events.act_forces.Goals as goal

pub returns-in-Resolving : goal.returns-in-Resolving
unfolding row_in
returns-in-Resolving c =
    let w = c.args.world.now in
    let a = c.args.act in
    c.none-in-Resolving.ensures ∙ sym (ap (λ (f : Family). forced_by w a.process ((row_in f a.request.now.op).changes w a.process a.depth a.request.now)) (sym c.family_of.ensures ∙ c.in-Resolving.is) ∙ resolving_silent a.request.now.op w a.process a.depth a.request.now)

pub returns-in-Locks : goal.returns-in-Locks
unfolding row_in
returns-in-Locks c =
    let w = c.args.world.now in
    let a = c.args.act in
    c.none-in-Locks.ensures ∙ sym (ap (λ (f : Family). forced_by w a.process ((row_in f a.request.now.op).changes w a.process a.depth a.request.now)) (sym c.family_of.ensures ∙ c.in-Locks.is) ∙ locks_silent a.request.now.op w a.process a.depth a.request.now)
