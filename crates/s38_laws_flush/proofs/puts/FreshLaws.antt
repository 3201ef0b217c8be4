-- A journal space that is not on disk has no entry: one case for each word of change.
use Rattle.std.proofs.Common.{◌≡◌, ◌∙◌, ℕ, ◌≤◌, ◌==◌, Bool, true, false, cond, List, [], ◌∷◌, length, refl, sym, ap, subst, arith}
use Rattle.std.proofs.lemmas.Bool.{and_parts}
use Rattle.std.proofs.lemmas.List.Elements.{All-cons, All-head, All-nil, All-tail}
use Rattle.std.proofs.lemmas.List.Folds.{find-append}
use Rattle.std.specs.Option.{option_map, option_or}
use Rattle.std.specs.Prelude.{All, None, Option, Some, is_some}
use Rattle.s38_base.specs.Pointers.{start_of, target_of}
use Rattle.s38_base.specs.declared.id.Id.{Id}
use Rattle.s38_base.specs.declared.id.Kind.{Kind}
use Rattle.s38_base.specs.declared.id.ObjNum.{ObjNum}
use Rattle.s38_code.specs.Operations.{family_of}
use Rattle.s38_code.specs.declared.event.Event.TheVariants.{Act, Finish, Start}
use Rattle.s38_code.specs.declared.event.Event.{Event}
use Rattle.s38_code.specs.declared.operand.Operand.TheVariants as operands
use Rattle.s38_code.specs.declared.operand.Operand.{Operand}
use Rattle.s38_commits.proofs.MapLaws.{nat_same}
use Rattle.s38_commits.specs.Changes.{journal_bytes}
use Rattle.s38_commits.specs.Unit.{CommitUnit}
use Rattle.s38_commits.specs.Units.{UnitMap, unit_of}
use Rattle.s38_commits.specs.declared.change.UnitChange.{UnitChange}
use Rattle.s38_dataspaces.specs.Table.{DataTable}
use Rattle.s38_journals.specs.Entries.{JournalRecord}
use Rattle.s38_journals.specs.Journals.{JournalList}
use Rattle.s38_memory.specs.Tagged.{resized}
use Rattle.s38_memory.specs.declared.cell.Cell.{Cell}
use Rattle.s38_rules.proofs.ChargeLaws.{KeepsNumber, object_changed, object_without}
use Rattle.s38_rules.proofs.RoomLaws.{permitted_by_rules}
use Rattle.s38_rules.proofs.VerdictLaws.{permitted_none}
use Rattle.s38_rules.specs.state.Cells.{with_cells}
use Rattle.s38_rules.specs.families.Changes.{CellsPut, Changes, Committed, Decommitted, Ensured, Entered, Framed, Gone, Journaled, Locked, Made, Moved, Named, OnAccess, OnCursor, OnIndex, OnQueue, Profiled, Resized, Stays, Then, done, made_by, renamed_by, through_port}
use Rattle.s38_rules.specs.families.Changing.{change_entry, logged, logged_in, next_sequence, number_for, with_change_logged}
use Rattle.s38_rules.specs.families.Computing.{receiver_at, shift_at}
use Rattle.s38_rules.specs.families.Creation.{created, creation_changes, destroyed, is_of_kind, new_object}
use Rattle.s38_rules.specs.step.Effect.{effect, effect_of, end_at, start_at}
use Rattle.s38_rules.specs.state.Held.{Held, change, disk_in, has_number, is_on_disk, kept_on_disk, object, with_object, without}
use Rattle.s38_rules.specs.state.Invocations.{restack_at}
use Rattle.s38_rules.specs.state.Journaling.{block_port, data_port, journal_for, journal_of_port, open_after}
use Rattle.s38_rules.specs.ask.Operands.{cells_put}
use Rattle.s38_rules.specs.state.Parts.{cursor_part, data_part, index_part, journal_of, journal_part, part_at, part_in, profile_part, queue_part}
use Rattle.s38_rules.specs.state.PartsAt.{journal_at, on_data, on_journal, over_table}
use Rattle.s38_rules.specs.state.LawfulParts.{cursor_lawful, data_lawful, index_lawful, profile_lawful, queue_lawful}
use Rattle.s38_rules.specs.families.Rows.{row}
use Rattle.s38_rules.specs.state.Access.{access_of, with_access}
use Rattle.s38_rules.specs.state.State.{State, process_entry}
use Rattle.s38_rules.specs.step.Step.{awake_verdict}
use Rattle.s38_rules.specs.step.Verdict.{refused_by, ruled_verdict}
use Rattle.s38_rules.specs.declared.creating.Creating.{Creating}
use Rattle.s38_rules.specs.declared.object.Body.TheVariants as bodies
use Rattle.s38_rules.specs.declared.object.Body.{Body}
use Rattle.s38_rules.specs.declared.object.Object.{Object}
use Rattle.s38_rules.specs.declared.process.ProcessEntry.{ProcessEntry}
use Rattle.s38_rules.specs.declared.verdict.Verdict.TheVariants.{Permit}
use Rattle.s38_laws_units.proofs.HeldLaws.{part_without}
use Rattle.s38_laws_units.proofs.UnitLaws.{Both, all_found}
use Rattle.s38_laws_units.specs.Right.{IsLogged, IsRight, IsUnit}
use Rattle.s38_laws_commits.proofs.TellLaws.{NewIn}
use Rattle.s38_laws_flush.proofs.durable.SameLaws.{seen_same}
use Rattle.s38_laws_flush.specs.puts.Fresh.{AreFresh}
use Rattle.s38_laws_flush.proofs.puts.ShapeLaws.{SameBeside, delivered_beside, other_beside, same_beside, space_beside}
use Rattle.s38_laws_flush.proofs.puts.PlainLaws.{IsPlain, row_plain}
use Rattle.s38_laws_flush.proofs.puts.AvoidLaws.{Besides, besides_same, besides_then, data_besides, journal_besides, Avoids, committed_besides, decommitted_besides, all_besides}

-- the journal space of each data space that is journaled is on disk
abbrev pub LeadToDisk : Held → Type 0
LeadToDisk h = (space journal : ℕ) → journal_for h space ≡ Some journal → is_on_disk h journal ≡ true

-- ---- what goes on

-- a journal space that was not on disk has no entry then, and one that was on disk is
pub record KeepsFresh (h k : Held) : Type 0 where
  pub still : (n : ℕ) (j : JournalList) → is_on_disk h n ≡ false → part_at journal_part k n ≡ Some j → j.entries ≡ []
  pub disk : (n : ℕ) (j : JournalList) → is_on_disk h n ≡ true → part_at journal_part k n ≡ Some j → is_on_disk k n ≡ true

pub then_fresh : (h k : Held) → KeepsFresh h k → AreFresh k
then_fresh h k keeps n j is off = by (is_on_disk h n) refl
  where
    by : (b : Bool) → is_on_disk h n ≡ b → j.entries ≡ []
    by true on = absurd (let e : true ≡ false = sym (keeps.disk n j on is) ∙ off in cc)
    by false was = keeps.still n j was is

-- what is not on disk stays as it is
record Spaces (h k : Held) : Type 0 where
  pub spaces : (n : ℕ) → is_on_disk h n ≡ false → part_at journal_part k n ≡ part_at journal_part h n
  pub disk : (n : ℕ) → is_on_disk h n ≡ true → is_on_disk k n ≡ true

-- each journal space does
record Quiets (h k : Held) : Type 0 where
  pub spaces : (n : ℕ) → part_at journal_part k n ≡ part_at journal_part h n
  pub disk : (n : ℕ) → is_on_disk h n ≡ true → is_on_disk k n ≡ true

spaces_fresh : (h k : Held) → AreFresh h → Spaces h k → KeepsFresh h k
spaces_fresh h k fresh same = record { still = λ n j off is. fresh n j (sym (same.spaces n off) ∙ is) off; disk = λ n j on is. same.disk n on }

quiets_fresh : (h k : Held) → AreFresh h → Quiets h k → KeepsFresh h k
quiets_fresh h k fresh same = spaces_fresh h k fresh (record { spaces = λ n off. same.spaces n; disk = same.disk })

fresh_then : (h j k : Held) → KeepsFresh h j → Quiets j k → KeepsFresh h k
fresh_then h j k keeps same = record { still = λ n i off is. keeps.still n i off (sym (same.spaces n) ∙ is); disk = λ n i on is. same.disk n (keeps.disk n i on (sym (same.spaces n) ∙ is)) }

beside_quiets : (h k : Held) → SameBeside h k → Quiets h k
beside_quiets h k same = record { spaces = same.journals; disk = λ n on. same.disk n ∙ on }

pub beside_fresh : (h j k : Held) → KeepsFresh h j → SameBeside j k → KeepsFresh h k
beside_fresh h j k keeps same = fresh_then h j k keeps (beside_quiets j k same)

header_quiets : (h : Held) (n : ℕ) (f : Object → Object) → KeepsNumber f → ((x : Object) → (f x).body ≡ x.body) → ((x : Object) → x.on_disk ≡ true → (f x).on_disk ≡ true) → Quiets h (change h n f)
header_quiets h n f keeps body disk = record {
  spaces = λ m. seen_same (part_in journal_part) h n m f keeps (λ x. ap journal_of (body x));
  disk = λ m on. ap disk_in (object_changed n m f h.objects keeps) ∙ by (n == m) (object h m) on;
}
  where
    by : (b : Bool) (x : Option Object) → disk_in x ≡ true → disk_in (cond b (option_map f x) x) ≡ true
    by true None on = on
    by true (Some x) on = disk x on
    by false x on = on

cells_beside : (h : Held) (operand : Option Operand) (piece : List Cell) → SameBeside h (cells_put h operand piece)
cells_beside h (Some (operands.InSpace base offset attr)) piece = space_beside h (target_of base) (with_cells (start_of base offset) piece)
cells_beside h _ piece = same_beside h

same_quiets : (h : Held) → Quiets h h
same_quiets h = beside_quiets h h (same_beside h)

renamed_quiets : (h : Held) (n : ℕ) (id : Option Id) → Quiets h (renamed_by h n id)
renamed_quiets h n None = same_quiets h
renamed_quiets h n (Some id) = header_quiets h n (λ x. record x { id = id }) (λ x. refl) (λ x. refl) (λ x on. on)

ensured_quiets : (h : Held) (n : ℕ) → Quiets h (change h n kept_on_disk)
ensured_quiets h n = header_quiets h n kept_on_disk (λ x. refl) (λ x. refl) (λ x on. refl)

-- ---- an object is made, or destroyed

new_entries : (b : Body) (j : JournalList) → NewIn (Some b) → journal_of b ≡ Some j → j.entries ≡ []
new_entries (bodies.Journal i) j new is = let same : i ≡ j = cc in subst (λ (x : JournalList). x.entries ≡ []) same new
new_entries _ j new is = absurd (let e : None ≡ Some j = is in cc)

added_fresh : (h : Held) (x : Object) → AreFresh h → NewIn (Some x.body) → KeepsFresh h (with_object h x)
added_fresh h x fresh new = record {
  still = λ n j off is. still n j (object h n) refl off (sym (ap (part_in journal_part) (seen n)) ∙ is);
  disk = λ n j on is. ap disk_in (seen n) ∙ there n (object h n) on;
}
  where
    seen : (n : ℕ) → object (with_object h x) n ≡ option_or (object h n) (cond (x.number.0 == n) (Some x) None)
    seen n = find-append (has_number n) h.objects (x ∷ [])

    own : (b : Bool) (j : JournalList) → part_in journal_part (cond b (Some x) None) ≡ Some j → j.entries ≡ []
    own true j is = new_entries x.body j new is
    own false j is = cc

    still : (n : ℕ) (j : JournalList) (y : Option Object) → object h n ≡ y → is_on_disk h n ≡ false → part_in journal_part (option_or y (cond (x.number.0 == n) (Some x) None)) ≡ Some j → j.entries ≡ []
    still n j None found off is = own (x.number.0 == n) j is
    still n j (Some o) found off is = fresh n j (ap (part_in journal_part) found ∙ is) off

    there : (n : ℕ) (y : Option Object) → disk_in y ≡ true → disk_in (option_or y (cond (x.number.0 == n) (Some x) None)) ≡ true
    there n None on = absurd (let e : false ≡ true = on in cc)
    there n (Some o) on = on

made_fresh : (h : Held) (owner : ℕ) (made : Creating) (body : Option Body) → AreFresh h → NewIn body → KeepsFresh h (made_by h owner made body)
unfolding creation_changes
made_fresh h owner made None fresh new = quiets_fresh h h fresh (same_quiets h)
made_fresh h owner made (Some body) fresh new = by made.id
  where
    by : (id : Option Id) → KeepsFresh h (created h owner made body id)
    by None = quiets_fresh h h fresh (same_quiets h)
    by (Some id) = added_fresh h (new_object h owner made id body) fresh new

gone_fresh : (h : Held) (kind : Kind) (n : ℕ) → AreFresh h → KeepsFresh h (destroyed h kind n)
gone_fresh h kind n fresh = by (is_of_kind kind (object h n))
  where
    old : (m : ℕ) (j : JournalList) → part_at journal_part (without h n) m ≡ Some j → ((n == m) ≡ false) × (part_at journal_part h m ≡ Some j)
    old m j is = at (n == m) refl (sym (part_without journal_part h n m) ∙ is)
      where
        at : (b : Bool) → (n == m) ≡ b → cond b None (part_at journal_part h m) ≡ Some j → ((n == m) ≡ false) × (part_at journal_part h m ≡ Some j)
        at true same e = cc
        at false off e = (off, e)

    by : (b : Bool) → KeepsFresh h (cond b (without h n) h)
    by true = record {
      still = λ m j off is. fresh m j (old m j is).1 off;
      disk = λ m j on is. ap disk_in (object_without n m h.objects) ∙ ap (λ b. disk_in (cond b None (object h m))) (old m j is).0 ∙ on;
    }
    by false = quiets_fresh h h fresh (same_quiets h)

-- ---- units go to journal spaces on disk

abbrev Off : Held → ℕ → Type 0
Off h n = is_on_disk h n ≡ false

on_off : (h : Held) (n : ℕ) → is_on_disk h n ≡ true → Off h n → ⊥
on_off h n on off = let e : true ≡ false = sym on ∙ off in cc

unit_avoids : (h : Held) (e : Both) → LeadToDisk h → IsUnit h e → Avoids (Off h) h e
unit_avoids h e disk unit journal to off = by e.1.changes unit.some unit.changes
  where
    by : (cs : List UnitChange) → 1 ≤ length cs → All (IsLogged h (block_port h e.0)) cs → ⊥
    by [] some all = omega (arith, some)
    by (c ∷ cs) some all =
        let logged = All-head (IsLogged h (block_port h e.0)) c cs all in
        let port : data_port h c.space.0 ≡ block_port h e.0 = nat_same _ _ (and_parts (data_port h c.space.0 == block_port h e.0) (is_some (journal_for h c.space.0)) logged.journaled).0 in
        on_off h journal (disk c.space.0 journal (ap (journal_of_port h) port ∙ to)) off

units_avoid : (h : Held) (units : UnitMap) → LeadToDisk h → All (IsUnit h) units → All (Avoids (Off h) h) units
units_avoid h [] disk each = All-nil (Avoids (Off h) h)
units_avoid h (e ∷ es) disk each = All-cons (Avoids (Off h) h) e es (unit_avoids h e disk (All-head (IsUnit h) e es each)) (units_avoid h es disk (All-tail (IsUnit h) e es each))

besides_fresh : (h k : Held) → AreFresh h → Besides (Off h) h k → KeepsFresh h k
besides_fresh h k fresh same = spaces_fresh h k fresh (record { spaces = same.spaces; disk = λ n on. same.disk n ∙ on })

-- ---- each word of change

restacked_quiets : (f : List ObjNum → List ObjNum) (s : State) (p : ℕ) (x : Option ProcessEntry) → Quiets s.held (restack_at f s p x).held
restacked_quiets f s p None = same_quiets s.held
restacked_quiets f s p (Some x) = same_quiets s.held

entered_besides : (s : State) (p block : ℕ) (change : UnitChange) (f : DataTable → DataTable) → LeadToDisk s.held → Besides (Off s.held) s.held (done s p (Entered block change f)).held
unfolding logged
entered_besides s p block change f disk = by (journal_for s.held change.space.0) refl
  where
    by : (r : Option ℕ) → journal_for s.held change.space.0 ≡ r → Besides (Off s.held) s.held (on_data (logged_in s p block change r).held change.space.0 (over_table f))
    by None to = data_besides (Off s.held) s.held change.space.0 (over_table f)
    by (Some journal) to =
        let bytes = journal_bytes change in
        let units = open_after s.held s.units journal block in
        let entry : JournalRecord = change_entry (number_for s.units block (next_sequence (journal_at s.held journal))) p change in
        besides_then (Off s.held) s.held (on_journal s.held journal (with_change_logged bytes units entry)) _
        (journal_besides (Off s.held) s.held journal (with_change_logged bytes units entry) (λ off. on_off s.held journal (disk change.space.0 journal to) off))
        (data_besides (Off s.held) (on_journal s.held journal (with_change_logged bytes units entry)) change.space.0 (over_table f))

own_avoids : (s : State) (block : ℕ) → IsRight s → LeadToDisk s.held → (u : CommitUnit) → unit_of s.units block ≡ Some u → Avoids (Off s.held) s.held (block, u)
own_avoids s block right disk u found = all_found (Avoids (Off s.held) s.held) s.units block u (units_avoid s.held s.units disk right.each) found

done_fresh : (x : Changes) (s : State) (p : ℕ) → IsRight s → LeadToDisk s.held → AreFresh s.held → IsPlain s x → KeepsFresh s.held (done s p x).held
done_fresh (OnQueue n f) s p right disk fresh plain = quiets_fresh s.held _ fresh (beside_quiets s.held _ (other_beside queue_part queue_lawful (λ x. refl) s.held n f))
done_fresh (OnIndex n f) s p right disk fresh plain = quiets_fresh s.held _ fresh (beside_quiets s.held _ (other_beside index_part index_lawful (λ x. refl) s.held n f))
done_fresh (OnCursor n f) s p right disk fresh plain = quiets_fresh s.held _ fresh (beside_quiets s.held _ (other_beside cursor_part cursor_lawful (λ x. refl) s.held n f))
done_fresh (Resized n bytes) s p right disk fresh plain = quiets_fresh s.held _ fresh (beside_quiets s.held _ (space_beside s.held n (resized bytes)))
done_fresh (CellsPut operand piece) s p right disk fresh plain = quiets_fresh s.held _ fresh (beside_quiets s.held _ (cells_beside s.held operand piece))
done_fresh (Entered block change f) s p right disk fresh plain = besides_fresh s.held _ fresh (entered_besides s p block change f disk)
done_fresh (Journaled n port) s p right disk fresh plain = absurd plain
done_fresh (OnAccess n f) s p right disk fresh plain = quiets_fresh s.held _ fresh (header_quiets s.held n (λ o. with_access (f (access_of o)) o) (λ x. refl) (λ x. refl) (λ x on. on))
done_fresh (Profiled n special limit) s p right disk fresh plain = quiets_fresh s.held _ fresh (beside_quiets s.held _ (other_beside profile_part profile_lawful (λ x. refl) s.held n (λ _. (special, limit))))
done_fresh (Named n id) s p right disk fresh plain = quiets_fresh s.held _ fresh (renamed_quiets s.held n id)
done_fresh (Moved n context) s p right disk fresh plain = quiets_fresh s.held _ fresh (header_quiets s.held n (λ o. record o { context = context }) (λ x. refl) (λ x. refl) (λ x on. on))
done_fresh (Ensured n) s p right disk fresh plain = quiets_fresh s.held _ fresh (ensured_quiets s.held n)
done_fresh (Made owner made body) s p right disk fresh plain = made_fresh s.held owner made body fresh plain
done_fresh (Gone kind n) s p right disk fresh plain = gone_fresh s.held kind n fresh
done_fresh (Framed f) s p right disk fresh plain = quiets_fresh s.held _ fresh (restacked_quiets f s p (process_entry s p))
done_fresh (Committed block) s p right disk fresh plain = besides_fresh s.held _ fresh (committed_besides (Off s.held) s p block (unit_of s.units block) (own_avoids s block right disk))
done_fresh (Decommitted block) s p right disk fresh plain = besides_fresh s.held _ fresh (decommitted_besides (Off s.held) s p block (unit_of s.units block) (own_avoids s block right disk))
done_fresh (Then (Entered block change f) (OnCursor n g)) s p right disk fresh plain =
    beside_fresh s.held (done s p (Entered block change f)).held _ (besides_fresh s.held _ fresh (entered_besides s p block change f disk))
    (other_beside cursor_part cursor_lawful (λ x. refl) (done s p (Entered block change f)).held n g)
done_fresh (Then (Journaled n port) (Ensured m)) s p right disk fresh plain =
    fresh_then s.held (on_data s.held n (through_port port)) _ (quiets_fresh s.held _ fresh (beside_quiets s.held _ (other_beside data_part data_lawful (λ x. refl) s.held n (through_port port))))
    (ensured_quiets (on_data s.held n (through_port port)) m)
done_fresh (Then a b) s p right disk fresh plain = absurd plain
done_fresh Stays s p right disk fresh plain = quiets_fresh s.held s.held fresh (same_quiets s.held)
done_fresh (Locked n held) s p right disk fresh plain = quiets_fresh s.held s.held fresh (same_quiets s.held)

-- ---- an event

start_quiets : (s : State) (p : ℕ) (x : Option ProcessEntry) → Quiets s.held (start_at s p x).held
start_quiets s p None = same_quiets s.held
start_quiets s p (Some x) = same_quiets s.held

finish_besides : (s : State) (p : ℕ) (x : Option ProcessEntry) → IsRight s → LeadToDisk s.held → Besides (Off s.held) s.held (end_at s p x).held
finish_besides s p None right disk = besides_same (Off s.held) s.held
finish_besides s p (Some x) right disk = all_besides (Off s.held) s.units s p (units_avoid s.held s.units disk right.each)

pub event_fresh : (s : State) (p : ℕ) (e : Event) → IsRight s → awake_verdict s p e ≡ Permit → LeadToDisk s.held → AreFresh s.held → KeepsFresh s.held (effect_of s p e).state.held
unfolding effect_of effect ruled_verdict
event_fresh s p Start right may disk fresh = quiets_fresh s.held _ fresh (start_quiets s p (process_entry s p))
event_fresh s p (Act d t) right may disk fresh =
    let x = (row t.op).changes s p d t in
    let met = permitted_none s p t (refused_by (row t.op) s p d t) (permitted_by_rules s p (Act d t) may) in
    beside_fresh s.held (done s p x).held _ (done_fresh x s p right disk fresh (row_plain (family_of t.op) t.op s p d t met))
    (delivered_beside (done s p x) (shift_at s.held t.op t.operands) (receiver_at t.op t.operands) ((row t.op).gives s p d t))
event_fresh s p (Finish cause) right may disk fresh = besides_fresh s.held _ fresh (finish_besides s p (process_entry s p) right disk)
