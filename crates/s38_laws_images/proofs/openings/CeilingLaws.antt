-- Step by step a store can keep the ceiling of numbers: it rises only before an object is made, and none is made once the
-- last number was given.
use Rattle.std.proofs.Common.{◌≡◌, ℕ, ◌+◌, ◌≤◌, ◌==◌, Bool, true, false, cond, List, [], ◌∷◌, ◌++◌, arith, refl, subst}
use Rattle.std.proofs.lemmas.Bool.{cond_both}
use Rattle.std.proofs.lemmas.Bool.Decides.{nat_tests}
use Rattle.std.specs.Prelude.{◌||◌, None, Option, Some, length, nat_le, nat_lt}
use Rattle.s38_base.specs.Exceptions as exceptions
use Rattle.s38_base.specs.Limits.{ceiling_step, last_number, most_objects}
use Rattle.s38_base.specs.Pointers.{target_of}
use Rattle.s38_base.specs.Signals.{first}
use Rattle.s38_base.specs.declared.exception.Exception.{Exception}
use Rattle.s38_base.specs.declared.id.Id.{Id}
use Rattle.s38_base.specs.declared.id.Kind.{Kind}
use Rattle.s38_base.specs.declared.id.ObjNum.{ObjNum}
use Rattle.s38_base.specs.declared.op.Op.TheVariants.{Crtcb, Crtcr, Crtctx, Crtds, Crtinx, Crtjp, Crtjs, Crtpg, Crtq, Crts, Crtup, Grant, Insdsen, Jrnlobj, Lock, Rslvsp}
use Rattle.s38_base.specs.declared.op.Op.{Op}
use Rattle.s38_code.specs.Operations.{family_of}
use Rattle.s38_code.specs.declared.entry.Entry.{Entry}
use Rattle.s38_code.specs.declared.event.Event.TheVariants.{Act, Finish, Start}
use Rattle.s38_code.specs.declared.event.Event.{Event}
use Rattle.s38_code.specs.declared.event.Request.{Request}
use Rattle.s38_code.specs.declared.family.Family.TheVariants as families
use Rattle.s38_code.specs.declared.family.Family.{Family}
use Rattle.s38_code.specs.declared.operand.Operand.TheVariants as operands
use Rattle.s38_code.specs.declared.operand.Operand.{Operand}
use Rattle.s38_code.specs.declared.reply.Val.TheVariants as vals
use Rattle.s38_code.specs.declared.reply.Val.{Val}
use Rattle.s38_commits.specs.Unit.{CommitUnit}
use Rattle.s38_commits.specs.Units.{UnitMap, unit_of}
use Rattle.s38_commits.specs.declared.change.UnitChange.{UnitChange}
use Rattle.s38_journals.specs.Entries as journaled
use Rattle.s38_journals.specs.declared.entry.EntryKind.TheVariants as kinds_of_entries
use Rattle.s38_memory.specs.declared.cell.Cell.{Cell}
use Rattle.s38_rules.proofs.RoomLaws.{permitted_by_rules}
use Rattle.s38_rules.proofs.RuleLaws.{fails_none, first_none}
use Rattle.s38_rules.proofs.StoreLaws.{stored_holds}
use Rattle.s38_rules.proofs.VerdictLaws.{permitted_none, rule_met}
use Rattle.s38_rules.specs.families.Changes.{CellsPut, Changes, Committed, Decommitted, Entered, Framed, Gone, Made, Named, Then, done, made_by, renamed_by}
use Rattle.s38_rules.specs.families.Changing.{logged, logged_in}
use Rattle.s38_rules.specs.families.Computing.{receiver_at, shift_at}
use Rattle.s38_rules.specs.families.Contexts.{contexts_row, crtctx, crtctx_fails, new_context}
use Rattle.s38_rules.specs.families.Creation.{created, creation_changes, creation_fails, creation_limits, destroyed, is_of_kind, name_rule, number_rule, pages_rule}
use Rattle.s38_rules.specs.families.DataSpaces.{created_data_space, crtds, crtds_fails, data_spaces_row}
use Rattle.s38_rules.specs.families.Cursors.{created_cursor, crtcr, crtcr_fails}
use Rattle.s38_rules.specs.step.Effect.{effect, effect_of, end_at, start_at}
use Rattle.s38_rules.specs.families.Grants.{grants_row}
use Rattle.s38_rules.specs.state.Held.{Held, charge_in, object, without}
use Rattle.s38_rules.specs.families.Indexes.{created_index, crtinx, crtinx_fails, indexes_row}
use Rattle.s38_rules.specs.families.Instruction.{Instruction}
use Rattle.s38_rules.specs.state.Invocations.{restack_at}
use Rattle.s38_rules.specs.state.Journaling.{journal_for, journal_for_block}
use Rattle.s38_rules.specs.families.Journals.{created_journal, crtjs, crtjs_fails, journals_row}
use Rattle.s38_rules.specs.families.CommitBlocks.{created_block, crtcb, crtcb_fails}
use Rattle.s38_rules.specs.families.Ports.{created_port, crtjp, crtjp_fails}
use Rattle.s38_rules.specs.step.Legal.{Leads}
use Rattle.s38_rules.specs.families.Locking.{locks_row}
use Rattle.s38_rules.specs.ask.Operands.{cells_put}
use Rattle.s38_rules.specs.ask.Receivers.{delivered, put_value}
use Rattle.s38_rules.specs.families.Profiles.{crtup, crtup_fails, new_profile, profiles_row}
use Rattle.s38_rules.specs.families.Programs.{crtpg, crtpg_fails, new_program, programs_row, template_at, template_rule}
use Rattle.s38_rules.specs.families.Queues.{created_queue, crtq, crtq_fails, queues_row}
use Rattle.s38_rules.specs.families.Resolving.{resolving_row}
use Rattle.s38_rules.specs.families.Rows.{row, row_in}
use Rattle.s38_rules.specs.families.Spaces.{crts, crts_fails, length_rule, new_space, spaces_row}
use Rattle.s38_rules.specs.state.State.{State, process_entry, waits}
use Rattle.s38_rules.specs.step.Step.{awake_verdict, by_verdict, by_waiting, step}
use Rattle.s38_rules.specs.families.Units.{all_decommitted, all_undone, committed, decommitted, end_entry, end_written}
use Rattle.s38_rules.specs.ask.Users.{user_of}
use Rattle.s38_rules.specs.step.Verdict.{refused_by, ruled_verdict}
use Rattle.s38_rules.specs.declared.creating.Creating.{Creating}
use Rattle.s38_rules.specs.declared.object.Body.{Body}
use Rattle.s38_rules.specs.declared.process.ProcessEntry.{ProcessEntry}
use Rattle.s38_rules.specs.declared.verdict.Verdict.TheVariants.{Permit}
use Rattle.s38_rules.specs.declared.verdict.Verdict.{Verdict}

-- a store can keep the ceiling
abbrev pub IsLow : Held → Type 0
IsLow h = h.ceiling ≤ last_number + ceiling_step

-- ---- objects are made

low_for : (most step ceiling next : ℕ) → ceiling ≤ most + step → next ≤ most → cond (nat_lt ceiling next) (ceiling + step) ceiling ≤ most + step
low_for most step ceiling next low given = by (nat_lt ceiling next) refl
  where
    by : (b : Bool) → nat_lt ceiling next ≡ b → cond b (ceiling + step) ceiling ≤ most + step
    by true less = grind (arith, nat_tests)
    by false more = low

created_low : (h : Held) (owner : ℕ) (made : Creating) (body : Body) (id : Option Id) → IsLow h → h.next ≤ last_number → IsLow (created h owner made body id)
created_low h owner made body None low given = low
created_low h owner made body (Some id) low given = low_for last_number ceiling_step h.ceiling h.next low given

made_low : (h : Held) (owner : ℕ) (made : Creating) (body : Option Body) → IsLow h → h.next ≤ last_number → IsLow (made_by h owner made body)
unfolding creation_changes
made_low h owner made None low given = low
made_low h owner made (Some body) low given = created_low h owner made body made.id low given

-- ---- the other words of change

named_low : (h : Held) (n : ℕ) (id : Option Id) → IsLow h → IsLow (renamed_by h n id)
named_low h n None low = low
named_low h n (Some id) low = low

cells_low : (h : Held) (operand : Option Operand) (piece : List Cell) → IsLow h → IsLow (cells_put h operand piece)
cells_low h (Some (operands.InSpace base offset attr)) piece low = low
cells_low h _ piece low = low

gone_low : (h : Held) (kind : Kind) (n : ℕ) → IsLow h → IsLow (destroyed h kind n)
gone_low h kind n low = cond_both (is_of_kind kind (object h n)) (without h n) h IsLow (λ of. low) (λ other. low)

logged_in_low : (s : State) (p block : ℕ) (change : UnitChange) (journal : Option ℕ) → IsLow s.held → IsLow (logged_in s p block change journal).held
logged_in_low s p block change None low = low
logged_in_low s p block change (Some journal) low = low

logged_low : (s : State) (p block : ℕ) (change : UnitChange) → IsLow s.held → IsLow (logged s p block change).held
unfolding logged
logged_low s p block change low = logged_in_low s p block change (journal_for s.held change.space.0) low

restacked_low : (f : List ObjNum → List ObjNum) (s : State) (p : ℕ) (x : Option ProcessEntry) → IsLow s.held → IsLow (restack_at f s p x).held
restacked_low f s p None low = low
restacked_low f s p (Some x) low = low

end_low : (h : Held) (journal : Option ℕ) (entry : journaled.JournalRecord) → IsLow h → IsLow (end_written h journal entry)
end_low h None entry low = low
end_low h (Some journal) entry low = low

undone_low : (changes : List UnitChange) (h : Held) → IsLow h → IsLow (all_undone h changes)
unfolding all_undone
undone_low [] h low = low
undone_low (change ∷ newer) h low = undone_low newer h low

committed_low : (s : State) (p block : ℕ) (unit : Option CommitUnit) → IsLow s.held → IsLow (committed s p block unit).held
committed_low s p block None low = low
committed_low s p block (Some unit) low = end_low s.held (journal_for_block s.held block) (end_entry kinds_of_entries.Commit p unit) low

decommitted_low : (s : State) (p block : ℕ) (unit : Option CommitUnit) → IsLow s.held → IsLow (decommitted s p block unit).held
decommitted_low s p block None low = low
decommitted_low s p block (Some unit) low =
    end_low (all_undone s.held unit.changes) (journal_for_block s.held block) (end_entry kinds_of_entries.Decommit p unit) (undone_low unit.changes s.held low)

all_decommitted_low : (units : UnitMap) (s : State) (p : ℕ) → IsLow s.held → IsLow (all_decommitted s p units).held
unfolding all_decommitted
all_decommitted_low [] s p low = low
all_decommitted_low (e ∷ units) s p low =
    let taken = decommitted s p e.0 (Some e.1) in
    cond_both (e.1.process == p) taken s (λ (t : State). IsLow (all_decommitted t p units).held)
    (λ own. all_decommitted_low units taken p (decommitted_low s p e.0 (Some e.1) low))
    (λ other. all_decommitted_low units s p low)

-- what a change must meet: an object is made only while a number is left
abbrev pub May : State → ℕ → Changes → Type 0
May s p (Made owner made body) = s.held.next ≤ last_number
May s p (Then a b) = May s p a × May (done s p a) p b
May s p _ = Unit {0}

done_low : (x : Changes) (s : State) (p : ℕ) → IsLow s.held → May s p x → IsLow (done s p x).held
done_low (CellsPut operand piece) s p low may = cells_low s.held operand piece low
done_low (Entered block change f) s p low may = logged_low s p block change low
done_low (Named n id) s p low may = named_low s.held n id low
done_low (Made owner made body) s p low may = made_low s.held owner made body low may
done_low (Gone kind n) s p low may = gone_low s.held kind n low
done_low (Framed f) s p low may = restacked_low f s p (process_entry s p) low
done_low (Committed block) s p low may = committed_low s p block (unit_of s.units block) low
done_low (Decommitted block) s p low may = decommitted_low s p block (unit_of s.units block) low
done_low (Then a b) s p low may = done_low b (done s p a) p (done_low a s p low may.0) may.1
done_low _ s p low may = low

-- ---- the rows that make an object

number_left : (full high : Bool) → (full || high) ≡ false → high ≡ false
number_left true high h = absurd cc
number_left false high h = h

not_above : (a b : ℕ) → nat_lt a b ≡ false → b ≤ a
not_above a b h = grind (arith, nat_tests)

creation_left : (h : Held) (owner : ℕ) (made : Creating) (own : Option Exception) → creation_fails h owner made own ≡ None → h.next ≤ last_number
unfolding creation_fails creation_limits
creation_left h owner made own met =
    let one = first_none (name_rule h made) (first own (creation_limits h owner made.pages)) met in
    let two = first_none own (creation_limits h owner made.pages) one.1 in
    let three = first_none (pages_rule h owner (charge_in h.objects owner + made.pages) 0) (number_rule h) two.1 in
    not_above last_number h.next (number_left (nat_le most_objects (length h.objects)) (nat_lt last_number h.next) (fails_none _ exceptions.limit_exceeded 0 three.1))

-- where no rule refuses an instruction, its changes meet what they must
abbrev pub MayRow : Instruction → Type 0
MayRow i = (s : State) (p d : ℕ) (t : Request) → refused_by i s p d t ≡ None → May s p (i.changes s p d t)

contexts_may : (op : Op) → MayRow (contexts_row op)
unfolding contexts_row crtctx_fails
contexts_may Crtctx = λ s p d t e. creation_left s.held (user_of s p) (new_context s.held t.operands) None (rule_met crtctx s p d t e)
contexts_may _ = λ s p d t e. tt

profiles_may : (op : Op) → MayRow (profiles_row op)
unfolding profiles_row crtup_fails
profiles_may Crtup = λ s p d t e. creation_left s.held (user_of s p) (new_profile s.held t.operands) None (rule_met crtup s p d t e)
profiles_may _ = λ s p d t e. tt

grants_may : (op : Op) → MayRow (grants_row op)
unfolding grants_row
grants_may Grant = λ s p d t e. tt
grants_may _ = λ s p d t e. tt

programs_may : (op : Op) → MayRow (programs_row op)
unfolding programs_row crtpg_fails
programs_may Crtpg = λ s p d t e.
    creation_left s.held (user_of s p) (new_program s.held t.operands) (template_rule (template_at s t.operands)) (first_none _ _ (rule_met crtpg s p d t e)).0
programs_may _ = λ s p d t e. tt

locks_may : (op : Op) → MayRow (locks_row op)
unfolding locks_row
locks_may Lock = λ s p d t e. tt
locks_may _ = λ s p d t e. tt

resolving_may : (op : Op) → MayRow (resolving_row op)
unfolding resolving_row
resolving_may Rslvsp = λ s p d t e. tt
resolving_may _ = λ s p d t e. tt

spaces_may : (op : Op) → MayRow (spaces_row op)
unfolding spaces_row crts_fails
spaces_may Crts = λ s p d t e. creation_left s.held (user_of s p) (new_space s t.operands) (length_rule s t.operands 5) (rule_met crts s p d t e)
spaces_may _ = λ s p d t e. tt

queues_may : (op : Op) → MayRow (queues_row op)
unfolding queues_row crtq_fails
queues_may Crtq = λ s p d t e. creation_left s.held (user_of s p) (created_queue s.held t.operands) None (rule_met crtq s p d t e)
queues_may _ = λ s p d t e. tt

indexes_may : (op : Op) → MayRow (indexes_row op)
unfolding indexes_row crtinx_fails
indexes_may Crtinx = λ s p d t e. creation_left s.held (user_of s p) (created_index s.held t.operands) None (rule_met crtinx s p d t e)
indexes_may _ = λ s p d t e. tt

data_spaces_may : (op : Op) → MayRow (data_spaces_row op)
unfolding data_spaces_row crtds_fails crtcr_fails
data_spaces_may Crtds = λ s p d t e. creation_left s.held (user_of s p) (created_data_space s.held t.operands) None (rule_met crtds s p d t e)
data_spaces_may Crtcr = λ s p d t e. creation_left s.held (user_of s p) (created_cursor s.held t.operands) None (rule_met crtcr s p d t e)
data_spaces_may Insdsen = λ s p d t e. (tt, tt)
data_spaces_may _ = λ s p d t e. tt

journals_may : (op : Op) → MayRow (journals_row op)
unfolding journals_row crtjs_fails crtjp_fails crtcb_fails
journals_may Crtjs = λ s p d t e. creation_left s.held (user_of s p) (created_journal s.held t.operands) None (rule_met crtjs s p d t e)
journals_may Crtjp = λ s p d t e. creation_left s.held (user_of s p) (created_port s.held t.operands) _ (rule_met crtjp s p d t e)
journals_may Crtcb = λ s p d t e. creation_left s.held (user_of s p) (created_block s.held t.operands) None (rule_met crtcb s p d t e)
journals_may Jrnlobj = λ s p d t e. (tt, tt)
journals_may _ = λ s p d t e. tt

row_may : (f : Family) (op : Op) → MayRow (row_in f op)
unfolding row_in
row_may families.Computing op = λ s p d t e. tt
row_may families.Resolving op = resolving_may op
row_may families.Contexts op = contexts_may op
row_may families.Profiles op = profiles_may op
row_may families.Grants op = grants_may op
row_may families.Programs op = programs_may op
row_may families.Locks op = locks_may op
row_may families.Spaces op = spaces_may op
row_may families.Queues op = queues_may op
row_may families.Indexes op = indexes_may op
row_may families.DataSpaces op = data_spaces_may op
row_may families.Journals op = journals_may op
row_may _ op = λ s p d t e. tt

-- ---- an event, a step and a history

value_low : (h : Held) (n at : ℕ) (v : Val) → IsLow h → IsLow (put_value h n at v)
value_low h n at (vals.Bytes bytes) low = low
value_low h n at (vals.Ptr p) low = low
value_low h n at _ low = low

delivered_low : (s : State) (shift : ℕ) (receiver : Option Operand) (v : Option Val) → IsLow s.held → IsLow (delivered s shift receiver v).state.held
delivered_low s shift receiver None low = low
delivered_low s shift (Some (operands.InSpace base offset attr)) (Some v) low = value_low s.held (target_of base) _ v low
delivered_low s shift _ (Some v) low = low

start_low : (s : State) (p : ℕ) (x : Option ProcessEntry) → IsLow s.held → IsLow (start_at s p x).held
start_low s p None low = low
start_low s p (Some x) low = low

finish_low : (s : State) (p : ℕ) (x : Option ProcessEntry) → IsLow s.held → IsLow (end_at s p x).held
finish_low s p None low = low
finish_low s p (Some x) low = all_decommitted_low s.units s p low

act_low : (s : State) (p d : ℕ) (t : Request) → IsLow s.held → refused_by (row t.op) s p d t ≡ None → IsLow (effect (row t.op) s p d t).state.held
unfolding effect
act_low s p d t low met =
    let x = (row t.op).changes s p d t in
    delivered_low (done s p x) (shift_at s.held t.op t.operands) (receiver_at t.op t.operands) ((row t.op).gives s p d t) (done_low x s p low (row_may (family_of t.op) t.op s p d t met))

event_low : (s : State) (p : ℕ) (e : Event) → IsLow s.held → awake_verdict s p e ≡ Permit → IsLow (effect_of s p e).state.held
unfolding effect_of ruled_verdict
event_low s p Start low may = start_low s p (process_entry s p) low
event_low s p (Act d t) low may = act_low s p d t low (permitted_none s p t (refused_by (row t.op) s p d t) (permitted_by_rules s p (Act d t) may))
event_low s p (Finish cause) low may = finish_low s p (process_entry s p) low

verdict_low : (s : State) (p : ℕ) (e : Event) (v : Verdict) → IsLow s.held → awake_verdict s p e ≡ v → IsLow (by_verdict s p e v).state.held
verdict_low s p e Permit low is = stored_holds IsLow (λ h n so_far. so_far) s p e (effect_of s p e).state (event_low s p e low is)
verdict_low s p e _ low is = low

step_low : (s : State) (p : ℕ) (e : Event) → IsLow s.held → IsLow (step s p e).state.held
unfolding step
step_low s p e low = by (waits s p)
  where
    by : (b : Bool) → IsLow (by_waiting b s p e).state.held
    by true = low
    by false = verdict_low s p e (awake_verdict s p e) low refl

pub history_low : (s : State) (before history : List Entry) (end : State) → IsLow s.held → Leads s before history end → IsLow end.held
history_low s before [] end low leads = subst (λ (t : State). IsLow t.held) leads low
history_low s before (e ∷ es) end low leads = history_low (step s e.process e.event).state (before ++ e ∷ []) es end (step_low s e.process e.event low) leads.1
