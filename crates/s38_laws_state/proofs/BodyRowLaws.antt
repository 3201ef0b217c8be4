-- Bodies keep to their limits in each step: one clause for each instruction that makes a body or changes how long one is.
use Rattle.s38_base.specs.Exceptions as exceptions
use Rattle.s38_base.specs.Pointers.{target_of}
use Rattle.s38_base.specs.declared.op.Op.TheVariants.{Crtctx, Crtjs, Crtpg, Crtup, Grant, Jrnlobj, Lock, Rslvsp}
use Rattle.s38_base.specs.declared.op.Op.{Op}
use Rattle.s38_changes.proofs.CellLaws.{bytes_length, pointer_length}
use Rattle.s38_code.specs.Operations.{family_of}
use Rattle.s38_code.specs.declared.event.Event.TheVariants.{Act, Finish, Start}
use Rattle.s38_code.specs.declared.event.Event.{Event}
use Rattle.s38_code.specs.declared.event.Request.{Request}
use Rattle.s38_code.specs.declared.family.Family.TheVariants as families
use Rattle.s38_code.specs.declared.family.Family.{Family}
use Rattle.s38_code.specs.declared.operand.Operand.TheVariants as operands
use Rattle.s38_code.specs.declared.operand.Operand.{Operand}
use Rattle.s38_code.specs.declared.program.Program.{Program}
use Rattle.s38_code.specs.declared.reply.Val.TheVariants as vals
use Rattle.s38_code.specs.declared.reply.Val.{Val}
use Rattle.s38_rules.proofs.RoomLaws.{permitted_by_rules}
use Rattle.s38_rules.proofs.RuleLaws.{fails_none, first_none}
use Rattle.s38_rules.proofs.StoreLaws.{stored_holds}
use Rattle.s38_rules.proofs.VerdictLaws.{permitted_none, rule_met}
use Rattle.s38_rules.specs.state.Cells.{with_bytes, with_pointer}
use Rattle.s38_rules.specs.families.Changes.{done}
use Rattle.s38_rules.specs.families.Computing.{receiver_at, shift_at}
use Rattle.s38_rules.specs.families.Contexts.{contexts_row}
use Rattle.s38_rules.specs.families.Creation.{creation_fails}
use Rattle.s38_rules.specs.step.Effect.{effect, effect_of, end_at, start_at}
use Rattle.s38_rules.specs.families.Grants.{grants_row}
use Rattle.s38_rules.specs.state.Held.{Held}
use Rattle.s38_rules.specs.families.Journals.{journals_row}
use Rattle.s38_rules.specs.families.Locking.{locks_row}
use Rattle.s38_rules.specs.ask.Receivers.{delivered, put_value}
use Rattle.s38_rules.specs.families.Profiles.{profiles_row}
use Rattle.s38_rules.specs.families.Programs.{crtpg, crtpg_fails, new_program, program_in, programs_row, size_of, template_at, template_rule}
use Rattle.s38_rules.specs.families.Resolving.{resolving_row}
use Rattle.s38_rules.specs.families.Rows.{row, row_in as instruction_in}
use Rattle.s38_rules.specs.state.State.{State, process_entry, waits}
use Rattle.s38_rules.specs.step.Step.{awake_verdict, by_verdict, by_waiting, step}
use Rattle.s38_rules.specs.ask.Users.{user_of}
use Rattle.s38_rules.specs.step.Verdict.{refused_by, ruled_verdict}
use Rattle.s38_rules.specs.declared.object.Body.TheVariants as bodies
use Rattle.s38_rules.specs.declared.process.ProcessEntry.{ProcessEntry}
use Rattle.s38_rules.specs.declared.verdict.Verdict.TheVariants.{Permit, Refuse, Wait}
use Rattle.s38_rules.specs.declared.verdict.Verdict.{Verdict}
use Rattle.s38_laws_state.proofs.BodyLaws.{Hold, MadeSo, all_decommitted_hold, done_hold, forced_hold, space_hold}
use Rattle.std.proofs.Common.{Bool, arith, false, refl, true, ℕ, ◌≡◌}
use Rattle.std.specs.Option.{option_map}
use Rattle.std.specs.Prelude.{None, Option, Some, nat_lt}
use Rattle.s38_laws_state.proofs.BodyLimitLaws.{IsLimit, MayRow, under}
use Rattle.s38_laws_state.proofs.QueueBodyLaws.{queues_may, indexes_may}
use Rattle.s38_laws_state.proofs.SpaceBodyLaws.{spaces_may, data_spaces_may}

-- ---- the other families

program_so : (limit : ℕ) (x : Option Program) → nat_lt limit (size_of x) ≡ false → MadeSo limit (option_map bodies.Program x)
program_so limit None short = tt
program_so limit (Some program) short = under limit (size_of (Some program)) short

crtpg_may : MayRow crtpg
unfolding crtpg_fails
crtpg_may s p d t small e =
    let met = first_none (creation_fails s.held (user_of s p) (new_program s.held t.operands) (template_rule (template_at s t.operands))) _ (rule_met crtpg s p d t e) in
    program_so s.limit (program_in (template_at s t.operands)) (fails_none _ exceptions.limit_exceeded 0 met.1)

programs_may : (op : Op) → MayRow (programs_row op)
unfolding programs_row
programs_may Crtpg = crtpg_may
programs_may _ = λ s p d t small e. tt

resolving_may : (op : Op) → MayRow (resolving_row op)
unfolding resolving_row
resolving_may Rslvsp = λ s p d t small e. tt
resolving_may _ = λ s p d t small e. tt

contexts_may : (op : Op) → MayRow (contexts_row op)
unfolding contexts_row
contexts_may Crtctx = λ s p d t small e. tt
contexts_may _ = λ s p d t small e. tt

profiles_may : (op : Op) → MayRow (profiles_row op)
unfolding profiles_row
profiles_may Crtup = λ s p d t small e. tt
profiles_may _ = λ s p d t small e. tt

grants_may : (op : Op) → MayRow (grants_row op)
unfolding grants_row
grants_may Grant = λ s p d t small e. tt
grants_may _ = λ s p d t small e. tt

locks_may : (op : Op) → MayRow (locks_row op)
unfolding locks_row
locks_may Lock = λ s p d t small e. tt
locks_may _ = λ s p d t small e. tt

-- ---- data spaces

journals_may : (op : Op) → MayRow (journals_row op)
unfolding journals_row
journals_may Crtjs = λ s p d t small e. omega arith
journals_may Jrnlobj = λ s p d t small e. (tt, tt)
journals_may _ = λ s p d t small e. tt

row_may : (f : Family) (op : Op) → MayRow (instruction_in f op)
unfolding instruction_in
row_may families.Computing op = λ s p d t small e. tt
row_may families.Resolving op = resolving_may op
row_may families.Contexts op = contexts_may op
row_may families.Profiles op = profiles_may op
row_may families.Grants op = grants_may op
row_may families.Programs op = programs_may op
row_may families.Locks op = locks_may op
row_may families.Spaces op = spaces_may op
row_may families.Queues op = queues_may op
row_may families.Indexes op = indexes_may op
row_may families.DataSpaces op = data_spaces_may op
row_may families.Journals op = journals_may op
row_may _ op = λ s p d t small e. tt

-- ---- an event, and a step

value_hold : (limit : ℕ) (h : Held) (n at : ℕ) (v : Val) → Hold limit h → Hold limit (put_value h n at v)
value_hold limit h n at (vals.Bytes bytes) all = space_hold limit h n (with_bytes at bytes) (bytes_length at bytes) all
value_hold limit h n at (vals.Ptr p) all = space_hold limit h n (with_pointer at p) (pointer_length at p) all
value_hold limit h n at _ all = all

delivered_hold : (limit : ℕ) (s : State) (shift : ℕ) (receiver : Option Operand) (v : Option Val) → Hold limit s.held → Hold limit (delivered s shift receiver v).state.held
delivered_hold limit s shift receiver None all = all
delivered_hold limit s shift (Some (operands.InSpace base offset attr)) (Some v) all = value_hold limit s.held (target_of base) _ v all
delivered_hold limit s shift _ (Some v) all = all

act_hold : (s : State) (p d : ℕ) (t : Request) → IsLimit s.limit → refused_by (row t.op) s p d t ≡ None → Hold s.limit s.held → Hold s.limit (effect (row t.op) s p d t).state.held
unfolding effect
act_hold s p d t small met all =
    let x = (row t.op).changes s p d t in
    delivered_hold s.limit (done s p x) (shift_at s.held t.op t.operands) (receiver_at t.op t.operands) ((row t.op).gives s p d t) (done_hold s.limit x s p (row_may (family_of t.op) t.op s p d t small met) all)

start_hold : (s : State) (p : ℕ) (x : Option ProcessEntry) → Hold s.limit s.held → Hold s.limit (start_at s p x).held
start_hold s p None all = all
start_hold s p (Some x) all = all

finish_hold : (s : State) (p : ℕ) (x : Option ProcessEntry) → Hold s.limit s.held → Hold s.limit (end_at s p x).held
finish_hold s p None all = all
finish_hold s p (Some x) all = all_decommitted_hold s.limit s.units s p all

event_hold : (s : State) (p : ℕ) (e : Event) → IsLimit s.limit → awake_verdict s p e ≡ Permit → Hold s.limit s.held → Hold s.limit (effect_of s p e).state.held
unfolding effect_of ruled_verdict
event_hold s p Start small may all = start_hold s p (process_entry s p) all
event_hold s p (Act d t) small may all = act_hold s p d t small (permitted_none s p t (refused_by (row t.op) s p d t) (permitted_by_rules s p (Act d t) may)) all
event_hold s p (Finish cause) small may all = finish_hold s p (process_entry s p) all

verdict_hold : (s : State) (p : ℕ) (e : Event) (v : Verdict) → IsLimit s.limit → awake_verdict s p e ≡ v → Hold s.limit s.held → Hold s.limit (by_verdict s p e v).state.held
verdict_hold s p e Permit small is all = stored_holds (Hold s.limit) (forced_hold s.limit) s p e (effect_of s p e).state (event_hold s p e small is all)
verdict_hold s p e Wait small is all = all
verdict_hold s p e (Refuse x) small is all = all

pub step_hold : (s : State) (p : ℕ) (e : Event) → IsLimit s.limit → Hold s.limit s.held → Hold s.limit (step s p e).state.held
unfolding step
step_hold s p e small all = by (waits s p)
  where
    by : (b : Bool) → Hold s.limit (by_waiting b s p e).state.held
    by true = all
    by false = verdict_hold s p e (awake_verdict s p e) small refl all
