-- Step by step data spaces, ports and journal spaces stay linked: one case for each word of change.
use Rattle.std.proofs.Common.{◌≡◌, ◌+◌, ◌==◌, ℕ, List, [], ◌∷◌, refl, sym, subst}
use Rattle.std.proofs.lemmas.Bool.{cond_both}
use Rattle.std.specs.Prelude.{None, Option, Some}
use Rattle.s38_base.specs.Pointers.{start_of, target_of}
use Rattle.s38_base.specs.declared.id.Id.{Id}
use Rattle.s38_base.specs.declared.id.Kind.{Kind}
use Rattle.s38_base.specs.declared.id.ObjNum.{ObjNum}
use Rattle.s38_code.specs.Operations.{family_of}
use Rattle.s38_code.specs.declared.event.Event.TheVariants.{Act, Finish, Start}
use Rattle.s38_code.specs.declared.event.Event.{Event}
use Rattle.s38_code.specs.declared.operand.Operand.TheVariants as operands
use Rattle.s38_code.specs.declared.operand.Operand.{Operand}
use Rattle.s38_code.specs.declared.reply.Reply.TheVariants.{Done, MustWait, Signal}
use Rattle.s38_code.specs.declared.reply.Reply.{Reply}
use Rattle.s38_code.specs.declared.reply.Val.{Val}
use Rattle.s38_laws_units.proofs.HeldLaws.{cursor_other, index_other, profile_other, queue_other}
use Rattle.s38_laws_units.specs.Right.{IsRight, IsUnused}
use Rattle.s38_commits.specs.Changes.{journal_bytes}
use Rattle.s38_commits.specs.Unit.{CommitUnit}
use Rattle.s38_commits.specs.Units.{UnitMap, unit_of}
use Rattle.s38_commits.specs.declared.change.UnitChange.{UnitChange}
use Rattle.s38_laws_commits.proofs.ActLaws.{value_still}
use Rattle.s38_laws_commits.proofs.GoingLaws.{JournalsTo, cells_still, ensured_quiet, journaled_linked, renamed_still, space_still}
use Rattle.s38_laws_commits.proofs.LinkLaws.{Keeps, Still, keeps_journal, keeps_same, keeps_table, keeps_then, linked_kept, still_header, still_other}
use Rattle.s38_laws_commits.proofs.NewLaws.{linked_gone, linked_made}
use Rattle.s38_laws_commits.proofs.TellLaws.{NewIn}
use Rattle.s38_laws_commits.proofs.MadeWordLaws.{new_of}
use Rattle.s38_laws_commits.specs.Linked.{AreLinked}
use Rattle.s38_dataspaces.specs.Table.{DataTable}
use Rattle.s38_journals.specs.Entries.{JournalRecord}
use Rattle.s38_journals.specs.Journals as journals
use Rattle.s38_journals.specs.declared.entry.EntryKind.TheVariants.{Commit, Decommit}
use Rattle.s38_laws_flush.proofs.durable.KeepLaws.{not_done}
use Rattle.s38_laws_flush.proofs.durable.StepLaws.{IsDone, stayed, takes_effect}
use Rattle.s38_memory.specs.Tagged.{resized}
use Rattle.s38_rules.proofs.RoomLaws.{permitted_by_rules}
use Rattle.s38_rules.proofs.StoreLaws.{stored_holds}
use Rattle.s38_rules.proofs.VerdictLaws.{permitted_none}
use Rattle.s38_rules.specs.families.Changes.{CellsPut, Changes, Committed, Decommitted, Ensured, Entered, Framed, Gone, Journaled, Locked, Made, Moved, Named, OnAccess, OnCursor, OnIndex, OnQueue, Profiled, Resized, Stays, Then, done, made_by, through_port}
use Rattle.s38_rules.specs.families.Changing.{change_entry, logged, logged_in, next_sequence, number_for, with_change_logged}
use Rattle.s38_rules.specs.families.Computing.{receiver_at, shift_at}
use Rattle.s38_rules.specs.families.Creation.{created, creation_changes, destroyed, is_of_kind, new_object}
use Rattle.s38_rules.specs.step.Effect.{effect, effect_of, end_at, start_at}
use Rattle.s38_rules.specs.state.Held.{Held, ensured, object, without}
use Rattle.s38_rules.specs.state.Invocations.{restack_at}
use Rattle.s38_rules.specs.state.Journaling.{journal_for, journal_for_block, open_after}
use Rattle.s38_rules.specs.ask.Receivers.{delivered}
use Rattle.s38_rules.specs.state.Parts.{cursor_part, index_part, profile_part, queue_part}
use Rattle.s38_rules.specs.state.PartsAt.{journal_at, on_data}
use Rattle.s38_rules.specs.state.LawfulParts.{cursor_lawful, index_lawful, profile_lawful, queue_lawful}
use Rattle.s38_rules.specs.families.Rows.{row}
use Rattle.s38_rules.specs.state.Access.{access_of, with_access}
use Rattle.s38_rules.specs.state.State.{State, process_entry}
use Rattle.s38_rules.specs.step.Step.{awake_verdict, step}
use Rattle.s38_rules.specs.families.Units.{all_decommitted, all_undone, committed, decommitted, end_entry, end_written, journal_with_entry, put_back}
use Rattle.s38_rules.specs.step.Verdict.{refused_by, ruled_verdict}
use Rattle.s38_rules.specs.declared.creating.Creating.{Creating}
use Rattle.s38_rules.specs.declared.object.Body.{Body}
use Rattle.s38_rules.specs.declared.process.ProcessEntry.{ProcessEntry}
use Rattle.s38_rules.specs.declared.verdict.Verdict.TheVariants.{Permit}
use Rattle.s38_laws_flush.proofs.puts.PlainLaws.{IsPlain, row_plain}

-- ---- what leaves the links

still_linked : (h k : Held) → Still h k → AreLinked h → AreLinked k
still_linked h k still linked = linked_kept h k still.quiet.keeps linked

-- a change is logged
logged_keeps : (s : State) (p block : ℕ) (change : UnitChange) (r : Option ℕ) → Keeps s.held (logged_in s p block change r).held
logged_keeps s p block change None = keeps_same s.held
logged_keeps s p block change (Some journal) =
    keeps_journal s.held journal (with_change_logged (journal_bytes change) (open_after s.held s.units journal block) (change_entry (number_for s.units block (next_sequence (journal_at s.held journal))) p change))

entered_keeps : (s : State) (p block : ℕ) (change : UnitChange) (f : DataTable → DataTable) → Keeps s.held (done s p (Entered block change f)).held
unfolding logged
entered_keeps s p block change f =
    let k = (logged_in s p block change (journal_for s.held change.space.0)).held in
    keeps_then s.held k _ (logged_keeps s p block change (journal_for s.held change.space.0)) (keeps_table k change.space.0 f)

-- a unit ends
undone_keeps : (cs : List UnitChange) (h : Held) → Keeps h (all_undone h cs)
unfolding all_undone
undone_keeps [] h = keeps_same h
undone_keeps (c ∷ cs) h = keeps_then h (all_undone h cs) _ (undone_keeps cs h) (keeps_table (all_undone h cs) c.space.0 (put_back c))

end_keeps : (h : Held) (r : Option ℕ) (entry : JournalRecord) → Keeps h (end_written h r entry)
end_keeps h None entry = keeps_same h
end_keeps h (Some journal) entry = keeps_journal h journal (journal_with_entry entry)

committed_keeps : (s : State) (p block : ℕ) (unit : Option CommitUnit) → Keeps s.held (committed s p block unit).held
committed_keeps s p block None = keeps_same s.held
committed_keeps s p block (Some unit) = end_keeps s.held (journal_for_block s.held block) (end_entry Commit p unit)

decommitted_keeps : (s : State) (p block : ℕ) (unit : Option CommitUnit) → Keeps s.held (decommitted s p block unit).held
decommitted_keeps s p block None = keeps_same s.held
decommitted_keeps s p block (Some unit) =
    keeps_then s.held (all_undone s.held unit.changes) _ (undone_keeps unit.changes s.held) (end_keeps (all_undone s.held unit.changes) (journal_for_block s.held block) (end_entry Decommit p unit))

all_keep : (units : UnitMap) (s : State) (p : ℕ) → Keeps s.held (all_decommitted s p units).held
unfolding all_decommitted
all_keep [] s p = keeps_same s.held
all_keep (e ∷ es) s p =
    let taken = decommitted s p e.0 (Some e.1) in
    cond_both (e.1.process == p) taken s (λ (t : State). Keeps s.held (all_decommitted t p es).held)
    (λ own. keeps_then s.held taken.held _ (decommitted_keeps s p e.0 (Some e.1)) (all_keep es taken p))
    (λ other. all_keep es s p)

restacked_linked : (f : List ObjNum → List ObjNum) (s : State) (p : ℕ) (x : Option ProcessEntry) → AreLinked s.held → AreLinked (restack_at f s p x).held
restacked_linked f s p None linked = linked
restacked_linked f s p (Some x) linked = linked

-- ---- what is made, is gone, or is journaled

made_linked : (h : Held) (owner : ℕ) (made : Creating) (body : Option Body) → IsUnused h → NewIn body → AreLinked h → AreLinked (made_by h owner made body)
unfolding creation_changes
made_linked h owner made None unused new linked = linked
made_linked h owner made (Some body) unused new linked = by made.id
  where
    by : (id : Option Id) → AreLinked (created h owner made body id)
    by None = linked
    by (Some id) = linked_made h (new_object h owner made id body) linked unused refl (new_of body new)

gone_linked : (h : Held) (kind : Kind) (n : ℕ) → IsUnused h → AreLinked h → AreLinked (destroyed h kind n)
gone_linked h kind n unused linked = cond_both (is_of_kind kind (object h n)) (without h n) h AreLinked (λ own. linked_gone h n linked unused) (λ other. linked)

through_linked : (h : Held) (n port m : ℕ) → JournalsTo h n port m → IsUnused h → AreLinked h → AreLinked (ensured (on_data h n (through_port port)) m)
through_linked h n port m journals unused linked =
    subst (λ (k : ℕ). JournalsTo h n port k → AreLinked (ensured (on_data h n (through_port port)) k)) journals.same (λ own. journaled_linked h n port [] own linked unused) journals

-- ---- each word of change

done_linked : (x : Changes) (s : State) (p : ℕ) → IsPlain s x → IsUnused s.held → AreLinked s.held → AreLinked (done s p x).held
done_linked Stays s p plain unused linked = linked
done_linked (OnQueue n f) s p plain unused linked = still_linked s.held _ (still_other queue_part queue_lawful queue_other s.held n f) linked
done_linked (OnIndex n f) s p plain unused linked = still_linked s.held _ (still_other index_part index_lawful index_other s.held n f) linked
done_linked (OnCursor n f) s p plain unused linked = still_linked s.held _ (still_other cursor_part cursor_lawful cursor_other s.held n f) linked
done_linked (Resized n bytes) s p plain unused linked = still_linked s.held _ (space_still s.held n (resized bytes)) linked
done_linked (CellsPut operand piece) s p plain unused linked = still_linked s.held _ (cells_still s.held operand piece) linked
done_linked (Entered block change f) s p plain unused linked = linked_kept s.held _ (entered_keeps s p block change f) linked
done_linked (Journaled n port) s p plain unused linked = absurd plain
done_linked (OnAccess n f) s p plain unused linked = still_linked s.held _ (still_header s.held n (λ x. with_access (f (access_of x)) x) (λ x. refl) (λ x. refl) (λ x. refl)) linked
done_linked (Profiled n special limit) s p plain unused linked = still_linked s.held _ (still_other profile_part profile_lawful profile_other s.held n (λ _. (special, limit))) linked
done_linked (Named n id) s p plain unused linked = still_linked s.held _ (renamed_still s.held n id) linked
done_linked (Moved n context) s p plain unused linked = still_linked s.held _ (still_header s.held n (λ x. record x { context = context }) (λ x. refl) (λ x. refl) (λ x. refl)) linked
done_linked (Ensured n) s p plain unused linked = linked_kept s.held _ (ensured_quiet s.held n).keeps linked
done_linked (Made owner made body) s p plain unused linked = made_linked s.held owner made body unused plain linked
done_linked (Gone kind n) s p plain unused linked = gone_linked s.held kind n unused linked
done_linked (Framed f) s p plain unused linked = restacked_linked f s p (process_entry s p) linked
done_linked (Locked n held) s p plain unused linked = linked
done_linked (Committed block) s p plain unused linked = linked_kept s.held _ (committed_keeps s p block (unit_of s.units block)) linked
done_linked (Decommitted block) s p plain unused linked = linked_kept s.held _ (decommitted_keeps s p block (unit_of s.units block)) linked
done_linked (Then (Entered block change f) (OnCursor n g)) s p plain unused linked =
    let k = (done s p (Entered block change f)).held in
    still_linked k _ (still_other cursor_part cursor_lawful cursor_other k n g) (linked_kept s.held k (entered_keeps s p block change f) linked)
done_linked (Then (Journaled n port) (Ensured m)) s p plain unused linked = through_linked s.held n port m plain unused linked
done_linked (Then a b) s p plain unused linked = absurd plain

-- ---- a step

delivered_linked : (s : State) (shift : ℕ) (receiver : Option Operand) (v : Option Val) → AreLinked s.held → AreLinked (delivered s shift receiver v).state.held
delivered_linked s shift receiver None linked = linked
delivered_linked s shift (Some (operands.InSpace base offset attr)) (Some v) linked = still_linked s.held _ (value_still s.held (target_of base) (start_of base offset + shift) v) linked
delivered_linked s shift _ (Some v) linked = linked

start_linked : (s : State) (p : ℕ) (x : Option ProcessEntry) → AreLinked s.held → AreLinked (start_at s p x).held
start_linked s p None linked = linked
start_linked s p (Some x) linked = linked

finish_linked : (s : State) (p : ℕ) (x : Option ProcessEntry) → AreLinked s.held → AreLinked (end_at s p x).held
finish_linked s p None linked = linked
finish_linked s p (Some x) linked = linked_kept s.held _ (all_keep s.units s p) linked

event_linked : (s : State) (p : ℕ) (e : Event) → IsRight s → awake_verdict s p e ≡ Permit → AreLinked s.held → AreLinked (effect_of s p e).state.held
unfolding effect_of effect ruled_verdict
event_linked s p Start right may linked = start_linked s p (process_entry s p) linked
event_linked s p (Act d t) right may linked =
    let x = (row t.op).changes s p d t in
    let met = permitted_none s p t (refused_by (row t.op) s p d t) (permitted_by_rules s p (Act d t) may) in
    delivered_linked (done s p x) (shift_at s.held t.op t.operands) (receiver_at t.op t.operands) ((row t.op).gives s p d t)
    (done_linked x s p (row_plain (family_of t.op) t.op s p d t met) right.unused linked)
event_linked s p (Finish cause) right may linked = finish_linked s p (process_entry s p) linked

pub step_linked : (s : State) (p : ℕ) (e : Event) → IsRight s → AreLinked s.held → AreLinked (step s p e).state.held
step_linked s p e right linked = by (step s p e).reply refl
  where
    effected : State
    effected = (effect_of s p e).state

    takes : IsDone (step s p e).reply → AreLinked (step s p e).state.held
    takes does =
        let it = takes_effect s p e does in
        subst AreLinked (sym it.held)
        (stored_holds AreLinked (λ h n so_far. linked_kept h _ (keeps_journal h n journals.forced) so_far) s p e effected (event_linked s p e right it.permit linked))

    stays : (IsDone (step s p e).reply → ⊥) → AreLinked (step s p e).state.held
    stays not = subst AreLinked (sym (stayed s p e not).held) linked

    by : (r : Reply) → (step s p e).reply ≡ r → AreLinked (step s p e).state.held
    by (Done values) same = takes (subst IsDone (sym same) tt)
    by (Signal x) same = stays (not_done (Signal x) (step s p e).reply same (λ h. h))
    by MustWait same = stays (not_done MustWait (step s p e).reply same (λ h. h))
