use Rattle.std.proofs.Common.{◌∙◌, ap, sym}
use Rattle.s38_code.specs.declared.family.Family.{Family}
use Rattle.s38_rules.specs.families.Rows.{row_in}
use Rattle.s38_space_rules.proofs.EventGrowth.{contexts_still, indexes_still, locks_still, programs_still, queues_still, resolving_still, spaces_still}
use Rattle.s38_space_rules.specs.Growing.{growth}
use Rattle.s38_space_rules.proofs.growing.act_growth.Goals as goal

pub returns-in-Resolving-clause-parts : goal.returns-in-Resolving-clause-parts
unfolding row_in
returns-in-Resolving-clause-parts c =
    let w = c.args.world.now in
    let a = c.args.act in
    let r = c.args.room.now.room in
    sym (ap (λ (f : Family). growth r w a.process ((row_in f a.request.now.op).changes w a.process a.depth a.request.now)) (sym c.family_of.ensures ∙ c.in-Resolving.is) ∙ resolving_still a.request.now.op r w a.process a.depth a.request.now)

pub returns-in-Contexts-clause-parts : goal.returns-in-Contexts-clause-parts
unfolding row_in
returns-in-Contexts-clause-parts c =
    let w = c.args.world.now in
    let a = c.args.act in
    let r = c.args.room.now.room in
    sym (ap (λ (f : Family). growth r w a.process ((row_in f a.request.now.op).changes w a.process a.depth a.request.now)) (sym c.family_of.ensures ∙ c.in-Contexts.is) ∙ contexts_still a.request.now.op r w a.process a.depth a.request.now)

pub returns-in-Programs-clause-parts : goal.returns-in-Programs-clause-parts
unfolding row_in
returns-in-Programs-clause-parts c =
    let w = c.args.world.now in
    let a = c.args.act in
    let r = c.args.room.now.room in
    sym (ap (λ (f : Family). growth r w a.process ((row_in f a.request.now.op).changes w a.process a.depth a.request.now)) (sym c.family_of.ensures ∙ c.in-Programs.is) ∙ programs_still a.request.now.op r w a.process a.depth a.request.now)

pub returns-in-Locks-clause-parts : goal.returns-in-Locks-clause-parts
unfolding row_in
returns-in-Locks-clause-parts c =
    let w = c.args.world.now in
    let a = c.args.act in
    let r = c.args.room.now.room in
    sym (ap (λ (f : Family). growth r w a.process ((row_in f a.request.now.op).changes w a.process a.depth a.request.now)) (sym c.family_of.ensures ∙ c.in-Locks.is) ∙ locks_still a.request.now.op r w a.process a.depth a.request.now)

pub returns-in-Spaces-clause-parts : goal.returns-in-Spaces-clause-parts
unfolding row_in
returns-in-Spaces-clause-parts c =
    let w = c.args.world.now in
    let a = c.args.act in
    let r = c.args.room.now.room in
    sym (ap (λ (f : Family). growth r w a.process ((row_in f a.request.now.op).changes w a.process a.depth a.request.now)) (sym c.family_of.ensures ∙ c.in-Spaces.is) ∙ spaces_still a.request.now.op r w a.process a.depth a.request.now)

pub returns-in-Queues-clause-parts : goal.returns-in-Queues-clause-parts
unfolding row_in
returns-in-Queues-clause-parts c =
    let w = c.args.world.now in
    let a = c.args.act in
    let r = c.args.room.now.room in
    sym (ap (λ (f : Family). growth r w a.process ((row_in f a.request.now.op).changes w a.process a.depth a.request.now)) (sym c.family_of.ensures ∙ c.in-Queues.is) ∙ queues_still a.request.now.op r w a.process a.depth a.request.now)

pub returns-in-Indexes-clause-parts : goal.returns-in-Indexes-clause-parts
unfolding row_in
returns-in-Indexes-clause-parts c =
    let w = c.args.world.now in
    let a = c.args.act in
    let r = c.args.room.now.room in
    sym (ap (λ (f : Family). growth r w a.process ((row_in f a.request.now.op).changes w a.process a.depth a.request.now)) (sym c.family_of.ensures ∙ c.in-Indexes.is) ∙ indexes_still a.request.now.op r w a.process a.depth a.request.now)
