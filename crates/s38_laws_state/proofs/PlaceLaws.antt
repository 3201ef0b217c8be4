-- The rows whose changes make an object, destroy one or change its head: by their rules the objects still fit one another.
use Rattle.std.proofs.Common.{◌≡◌, arith, refl, ℕ}
use Rattle.std.proofs.lemmas.List.Elements.{Contains-append_left}
use Rattle.std.specs.Prelude.{None}
use Rattle.s38_base.specs.declared.id.Kind.TheVariants as kinds
use Rattle.s38_base.specs.declared.id.Kind.{Kind}
use Rattle.s38_base.specs.declared.op.Op.TheVariants.{Crtcb, Crtcr, Crtds, Crtinx, Crtjp, Crtjs, Crtpg, Crtq, Crts, Descb, Descr, Desds, Desinx, Desjp, Desjs, Despg, Desq, Dess, Insdsen, Jrnlobj, Lock, Rslvsp}
use Rattle.s38_base.specs.declared.op.Op.{Op}
use Rattle.s38_code.specs.declared.family.Family.TheVariants as families
use Rattle.s38_code.specs.declared.family.Family.{Family}
use Rattle.s38_code.specs.declared.program.Program.{Program}
use Rattle.s38_rules.proofs.RuleLaws.{first_none}
use Rattle.s38_rules.proofs.VerdictLaws.{rule_met}
use Rattle.s38_rules.specs.families.Creation.{creation_needs, destroyed}
use Rattle.s38_rules.specs.families.DataSpaces.{created_data_space, crtds, crtds_fails, data_spaces_row}
use Rattle.s38_rules.specs.families.Cursors.{created_cursor, crtcr, crtcr_fails, crtcr_needs}
use Rattle.s38_rules.specs.families.Indexes.{created_index, crtinx, crtinx_fails, indexes_row}
use Rattle.s38_rules.specs.families.Journals.{created_journal, crtjs, crtjs_fails, journals_row}
use Rattle.s38_rules.specs.families.CommitBlocks.{created_block, crtcb, crtcb_fails, crtcb_needs}
use Rattle.s38_rules.specs.families.Ports.{created_port, crtjp, crtjp_fails, crtjp_needs}
use Rattle.s38_rules.specs.families.Locking.{locks_row}
use Rattle.s38_rules.specs.ask.Operands.{target}
use Rattle.s38_rules.specs.state.PartsAt.{no_journal}
use Rattle.s38_rules.specs.families.Programs.{crtpg, crtpg_fails, program_in, programs_row, template_at}
use Rattle.s38_rules.specs.families.Queues.{created_queue, crtq, crtq_fails, queues_row}
use Rattle.s38_rules.specs.families.Resolving.{resolving_row}
use Rattle.s38_rules.specs.families.Rows.{row_in as instruction_in}
use Rattle.s38_rules.specs.families.Spaces.{crts, crts_fails, length_rule, new_space, spaces_row}
use Rattle.s38_rules.specs.state.State.{State}
use Rattle.s38_rules.specs.declared.object.Body.TheVariants as bodies
use Rattle.s38_laws_state.proofs.HeadLaws.{destroyed_fits}
use Rattle.s38_laws_state.proofs.FitRowLaws.{IsUsed, FitsIn, MayRow}
use Rattle.s38_laws_state.proofs.CreatedLaws.{container, container_there, made_in, made_program}
use Rattle.s38_laws_state.proofs.ContextRowLaws.{contexts_may}
use Rattle.s38_laws_state.proofs.ProfileRowLaws.{profiles_may}
use Rattle.s38_laws_state.proofs.GrantRowLaws.{grants_may}

-- ---- the other families

-- an object that is no context and no profile is destroyed
gone_may : (s : State) (kind : Kind) (n : ℕ) → FitsIn s s.held → (kind ≡ kinds.Context → ⊥) → (kind ≡ kinds.Profile → ⊥) → FitsIn s (destroyed s.held kind n)
gone_may s kind n fits context profile = destroyed_fits (IsUsed s.processes) s.held fits kind n (λ is. absurd (context is)) (λ is there. absurd (profile is))

programs_may : (op : Op) → MayRow (programs_row op)
unfolding programs_row crtpg_fails
programs_may Crtpg = λ s p d t fits e. made_program s p d t (program_in (template_at s t.operands)) fits e (first_none _ _ (rule_met crtpg s p d t e)).0
programs_may Despg = λ s p d t fits e. gone_may s kinds.Program (target s.held t.operands 1) fits (λ g. cc) (λ g. cc)
programs_may _ = λ s p d t fits e. tt

locks_may : (op : Op) → MayRow (locks_row op)
unfolding locks_row
locks_may Lock = λ s p d t fits e. tt
locks_may _ = λ s p d t fits e. tt

resolving_may : (op : Op) → MayRow (resolving_row op)
unfolding resolving_row
resolving_may Rslvsp = λ s p d t fits e. tt
resolving_may _ = λ s p d t fits e. tt

spaces_may : (op : Op) → MayRow (spaces_row op)
unfolding spaces_row crts_fails
spaces_may Crts = λ s p d t fits e.
    made_in crts s p d t (new_space s t.operands) _ (length_rule s t.operands 5) fits e (λ given. container_there t.operands given) refl (omega arith) (rule_met crts s p d t e) (λ id. refl)
spaces_may Dess = λ s p d t fits e. gone_may s kinds.Space (target s.held t.operands 1) fits (λ g. cc) (λ g. cc)
spaces_may _ = λ s p d t fits e. tt

queues_may : (op : Op) → MayRow (queues_row op)
unfolding queues_row crtq_fails
queues_may Crtq = λ s p d t fits e.
    made_in crtq s p d t (created_queue s.held t.operands) _ None fits e (λ given. container_there t.operands given) refl (omega arith) (rule_met crtq s p d t e) (λ id. refl)
queues_may Desq = λ s p d t fits e. gone_may s kinds.Queue (target s.held t.operands 1) fits (λ g. cc) (λ g. cc)
queues_may _ = λ s p d t fits e. tt

indexes_may : (op : Op) → MayRow (indexes_row op)
unfolding indexes_row crtinx_fails
indexes_may Crtinx = λ s p d t fits e.
    made_in crtinx s p d t (created_index s.held t.operands) _ None fits e (λ given. container_there t.operands given) refl (omega arith) (rule_met crtinx s p d t e) (λ id. refl)
indexes_may Desinx = λ s p d t fits e. gone_may s kinds.Index (target s.held t.operands 1) fits (λ g. cc) (λ g. cc)
indexes_may _ = λ s p d t fits e. tt

crtcr_may : MayRow crtcr
unfolding crtcr_fails crtcr_needs
crtcr_may s p d t fits e =
    made_in crtcr s p d t (created_cursor s.held t.operands) _ None fits e (λ given. Contains-append_left (creation_needs t.operands) _ container (container_there t.operands given)) refl (omega arith)
    (rule_met crtcr s p d t e) (λ id. refl)

data_spaces_may : (op : Op) → MayRow (data_spaces_row op)
unfolding data_spaces_row crtds_fails
data_spaces_may Crtds = λ s p d t fits e.
    made_in crtds s p d t (created_data_space s.held t.operands) _ None fits e (λ given. container_there t.operands given) refl (omega arith) (rule_met crtds s p d t e) (λ id. refl)
data_spaces_may Desds = λ s p d t fits e. gone_may s kinds.DataSpace (target s.held t.operands 1) fits (λ g. cc) (λ g. cc)
data_spaces_may Crtcr = crtcr_may
data_spaces_may Descr = λ s p d t fits e. gone_may s kinds.Cursor (target s.held t.operands 1) fits (λ g. cc) (λ g. cc)
data_spaces_may Insdsen = λ s p d t fits e. (tt, tt)
data_spaces_may _ = λ s p d t fits e. tt

crtjp_may : MayRow crtjp
unfolding crtjp_fails crtjp_needs
crtjp_may s p d t fits e =
    made_in crtjp s p d t (created_port s.held t.operands) _ _ fits e (λ given. Contains-append_left (creation_needs t.operands) _ container (container_there t.operands given)) refl (omega arith)
    (rule_met crtjp s p d t e) (λ id. refl)

crtcb_may : MayRow crtcb
unfolding crtcb_fails crtcb_needs
crtcb_may s p d t fits e =
    made_in crtcb s p d t (created_block s.held t.operands) _ None fits e (λ given. Contains-append_left (creation_needs t.operands) _ container (container_there t.operands given)) refl (omega arith)
    (rule_met crtcb s p d t e) (λ id. refl)

journals_may : (op : Op) → MayRow (journals_row op)
unfolding journals_row crtjs_fails
journals_may Crtjs = λ s p d t fits e.
    made_in crtjs s p d t (created_journal s.held t.operands) (bodies.Journal no_journal) None fits e (λ given. container_there t.operands given) refl (omega arith) (rule_met crtjs s p d t e) (λ id. refl)
journals_may Desjs = λ s p d t fits e. gone_may s kinds.Journal (target s.held t.operands 1) fits (λ g. cc) (λ g. cc)
journals_may Crtjp = crtjp_may
journals_may Desjp = λ s p d t fits e. gone_may s kinds.Port (target s.held t.operands 1) fits (λ g. cc) (λ g. cc)
journals_may Crtcb = crtcb_may
journals_may Descb = λ s p d t fits e. gone_may s kinds.Block (target s.held t.operands 1) fits (λ g. cc) (λ g. cc)
journals_may Jrnlobj = λ s p d t fits e. (tt, tt)
journals_may _ = λ s p d t fits e. tt

pub row_may : (f : Family) (op : Op) → MayRow (instruction_in f op)
unfolding instruction_in
row_may families.Computing op = λ s p d t fits e. tt
row_may families.Resolving op = resolving_may op
row_may families.Contexts op = contexts_may op
row_may families.Profiles op = profiles_may op
row_may families.Grants op = grants_may op
row_may families.Programs op = programs_may op
row_may families.Locks op = locks_may op
row_may families.Spaces op = spaces_may op
row_may families.Queues op = queues_may op
row_may families.Indexes op = indexes_may op
row_may families.DataSpaces op = data_spaces_may op
row_may families.Journals op = journals_may op
row_may _ op = λ s p d t fits e. tt
