-- Step by step what journal spaces tell and what is kept goes on.
use Rattle.std.proofs.Common.{◌≡◌, ◌+◌, ◌≤◌, Bool, true, false, refl, sym, subst, ℕ}
use Rattle.std.specs.Prelude.{None, Option, Some}
use Rattle.s38_base.specs.Limits.{body_limit}
use Rattle.s38_base.specs.Pointers.{start_of, target_of}
use Rattle.s38_code.specs.Operations.{family_of}
use Rattle.s38_code.specs.declared.event.Event.TheVariants.{Act, Finish, Start}
use Rattle.s38_code.specs.declared.event.Event.{Event}
use Rattle.s38_code.specs.declared.operand.Operand.TheVariants as operands
use Rattle.s38_code.specs.declared.operand.Operand.{Operand}
use Rattle.s38_code.specs.declared.reply.Val.TheVariants as vals
use Rattle.s38_code.specs.declared.reply.Val.{Val}
use Rattle.s38_commits.specs.Units.{UnitMap}
use Rattle.s38_durable_state.specs.Durable.{Durable}
use Rattle.s38_journals.specs.Journals as journals
use Rattle.s38_rules.proofs.RoomLaws.{permitted_by_rules}
use Rattle.s38_rules.proofs.StoreLaws.{stored_beside, stored_holds}
use Rattle.s38_rules.proofs.VerdictLaws.{permitted_none}
use Rattle.s38_rules.specs.state.Cells.{with_bytes, with_pointer}
use Rattle.s38_rules.specs.families.Changes.{done}
use Rattle.s38_rules.specs.families.Computing.{receiver_at, shift_at}
use Rattle.s38_rules.specs.step.Effect.{effect, effect_of, end_at, start_at}
use Rattle.s38_rules.specs.store.Forcing.{must_persist}
use Rattle.s38_rules.specs.state.Held.{Held}
use Rattle.s38_rules.specs.ask.Receivers.{deliver, delivered, put_value}
use Rattle.s38_rules.specs.families.Rows.{row}
use Rattle.s38_rules.specs.state.State.{State, process_entry, waits}
use Rattle.s38_rules.specs.step.Step.{awake_verdict, by_verdict, by_waiting, step}
use Rattle.s38_rules.specs.store.Storing.{stored}
use Rattle.s38_rules.specs.step.Verdict.{refused_by, ruled_verdict}
use Rattle.s38_rules.specs.declared.process.ProcessEntry.{ProcessEntry}
use Rattle.s38_rules.specs.declared.verdict.Verdict.TheVariants.{Permit, Refuse, Wait}
use Rattle.s38_rules.specs.declared.verdict.Verdict.{Verdict}
use Rattle.s38_laws_units.proofs.EndLaws.{forced_right}
use Rattle.s38_laws_commits.proofs.GoingLaws.{Covers, IsGoing, space_still, still_going}
use Rattle.s38_laws_units.proofs.KeptLaws.{right_carried}
use Rattle.s38_laws_commits.proofs.LinkLaws.{Still, still_journal, still_same}
use Rattle.s38_laws_units.proofs.RowLaws.{row_may, value_carries}
use Rattle.s38_laws_commits.proofs.TellLaws.{done_going}
use Rattle.s38_laws_commits.proofs.RowTellLaws.{row_tells}
use Rattle.s38_laws_units.proofs.UnitLaws.{each_found}
use Rattle.s38_laws_commits.proofs.WordLaws.{all_going}

-- ---- the value that comes back

pub value_still : (h : Held) (n at : ℕ) (v : Val) → Still h (put_value h n at v)
value_still h n at (vals.Bytes bytes) = space_still h n (with_bytes at bytes)
value_still h n at (vals.Ptr p) = space_still h n (with_pointer at p)
value_still h n at _ = still_same h

deliver_going : (s : State) (shift : ℕ) (receiver : Option Operand) (v : Val) (d : Durable) (anew : ℕ → Bool) → IsGoing s.held s.units d anew
    → IsGoing (deliver s shift receiver v).state.held (deliver s shift receiver v).state.units d anew
deliver_going s shift (Some (operands.InSpace base offset attr)) v d anew going =
    still_going s.held _ s.units d anew (value_still s.held (target_of base) (start_of base offset + shift) v)
    (right_carried s.held _ s.units going.right (value_carries s.held (target_of base) (start_of base offset + shift) v)) going
deliver_going s shift _ v d anew going = going

delivered_going : (s : State) (shift : ℕ) (receiver : Option Operand) (v : Option Val) (d : Durable) (anew : ℕ → Bool) → IsGoing s.held s.units d anew
    → IsGoing (delivered s shift receiver v).state.held (delivered s shift receiver v).state.units d anew
delivered_going s shift receiver None d anew going = going
delivered_going s shift receiver (Some v) d anew going = deliver_going s shift receiver v d anew going

-- ---- an event

start_going : (s : State) (p : ℕ) (x : Option ProcessEntry) (d : Durable) (anew : ℕ → Bool) → IsGoing s.held s.units d anew → IsGoing (start_at s p x).held (start_at s p x).units d anew
start_going s p None d anew going = going
start_going s p (Some x) d anew going = going

finish_going : (s : State) (p : ℕ) (x : Option ProcessEntry) (d : Durable) (anew : ℕ → Bool) → IsGoing s.held s.units d anew → IsGoing (end_at s p x).held (end_at s p x).units d anew
finish_going s p None d anew going = going
finish_going s p (Some x) d anew going = all_going s.units s p d anew going.right.rising (each_found s.units going.right.rising) going

event_going : (s : State) (p : ℕ) (e : Event) (d : Durable) (anew : ℕ → Bool) → s.limit ≤ body_limit → awake_verdict s p e ≡ Permit → Covers anew (must_persist s p e) → IsGoing s.held s.units d anew
    → IsGoing (effect_of s p e).state.held (effect_of s p e).state.units d anew
unfolding effect_of effect ruled_verdict must_persist
event_going s p Start d anew limit may cover going = start_going s p (process_entry s p) d anew going
event_going s p (Act depth t) d anew limit may cover going =
    let x = (row t.op).changes s p depth t in
    let met = permitted_none s p t (refused_by (row t.op) s p depth t) (permitted_by_rules s p (Act depth t) may) in
    delivered_going (done s p x) (shift_at s.held t.op t.operands) (receiver_at t.op t.operands) ((row t.op).gives s p depth t) d anew
    (done_going x s p d anew (row_may (family_of t.op) t.op s p depth t going.right met) (row_tells (family_of t.op) t.op s p depth t going.right limit met) cover going)
event_going s p (Finish cause) d anew limit may cover going = finish_going s p (process_entry s p) d anew going

-- what a store keeps leaves it going
stored_going : (s : State) (p : ℕ) (e : Event) (t : State) (d : Durable) (anew : ℕ → Bool) → IsGoing t.held t.units d anew → IsGoing (stored s p e t).held (stored s p e t).units d anew
stored_going s p e t d anew going =
    subst (λ (units : UnitMap). IsGoing (stored s p e t).held units d anew) (sym (stored_beside s p e t).units)
    (stored_holds (λ (h : Held). IsGoing h t.units d anew) (λ h n so_far. still_going h _ t.units d anew (still_journal h n journals.forced (λ j. refl)) (forced_right h t.units n so_far.right) so_far) s p e t going)

verdict_going : (s : State) (p : ℕ) (e : Event) (v : Verdict) (d : Durable) (anew : ℕ → Bool) → s.limit ≤ body_limit → awake_verdict s p e ≡ v → Covers anew (must_persist s p e) → IsGoing s.held s.units d anew
    → IsGoing (by_verdict s p e v).state.held (by_verdict s p e v).state.units d anew
verdict_going s p e Permit d anew limit is cover going = stored_going s p e (effect_of s p e).state d anew (event_going s p e d anew limit is cover going)
verdict_going s p e Wait d anew limit is cover going = going
verdict_going s p e (Refuse x) d anew limit is cover going = going

pub step_going : (s : State) (p : ℕ) (e : Event) (d : Durable) (anew : ℕ → Bool) → s.limit ≤ body_limit → Covers anew (must_persist s p e) → IsGoing s.held s.units d anew
    → IsGoing (step s p e).state.held (step s p e).state.units d anew
unfolding step
step_going s p e d anew limit cover going = by (waits s p)
  where
    by : (b : Bool) → IsGoing (by_waiting b s p e).state.held (by_waiting b s p e).state.units d anew
    by true = going
    by false = verdict_going s p e (awake_verdict s p e) d anew limit refl cover going
