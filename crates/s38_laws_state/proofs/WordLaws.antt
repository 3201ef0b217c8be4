-- What holds of objects wherever one of them becomes another one with the same head, holds after each word of change, but
-- for those that make an object, destroy one, or change its head.
use Rattle.std.proofs.Common.{◌==◌, ◌≡◌, ◌∷◌, List, [], refl, ℕ}
use Rattle.std.proofs.lemmas.Bool.{cond_both}
use Rattle.std.specs.Prelude.{None, Option, Some}
use Rattle.s38_base.specs.Pointers.{start_of, target_of}
use Rattle.s38_base.specs.declared.id.Kind.TheVariants as kinds
use Rattle.s38_base.specs.declared.id.Kind.{Kind}
use Rattle.s38_base.specs.declared.id.ObjNum.{ObjNum}
use Rattle.s38_code.specs.declared.event.Event.{Event}
use Rattle.s38_code.specs.declared.event.Request.{Request}
use Rattle.s38_code.specs.declared.operand.Operand.TheVariants as operands
use Rattle.s38_code.specs.declared.operand.Operand.{Operand}
use Rattle.s38_code.specs.declared.reply.Val.TheVariants as vals
use Rattle.s38_code.specs.declared.reply.Val.{Val}
use Rattle.s38_commits.specs.Unit.{CommitUnit}
use Rattle.s38_commits.specs.Units.{UnitMap, unit_of}
use Rattle.s38_commits.specs.declared.change.UnitChange.{UnitChange}
use Rattle.s38_journals.specs.Entries.{JournalRecord}
use Rattle.s38_journals.specs.Journals as journals
use Rattle.s38_journals.specs.declared.entry.EntryKind.TheVariants as entry_kinds
use Rattle.s38_memory.specs.Tagged.{resized}
use Rattle.s38_memory.specs.declared.cell.Cell.{Cell}
use Rattle.s38_rules.proofs.PartLaws.{over_same}
use Rattle.s38_rules.proofs.StoreLaws.{stored_holds}
use Rattle.s38_rules.specs.state.Cells.{with_bytes, with_cells, with_pointer}
use Rattle.s38_rules.specs.families.Changes.{CellsPut, Changes, Committed, Decommitted, Ensured, Entered, Framed, Gone, Journaled, Locked, Made, Moved, Named, OnAccess, OnCursor, OnIndex, OnQueue, Profiled, Resized, Stays, Then, done, through_port}
use Rattle.s38_rules.specs.families.Changing.{logged, logged_in}
use Rattle.s38_rules.specs.families.Computing.{receiver_at, shift_at}
use Rattle.s38_rules.specs.step.Effect.{effect, end_at, start_at}
use Rattle.s38_rules.specs.state.Held.{Held, change, kept_on_disk, kind_of}
use Rattle.s38_rules.specs.state.Invocations.{restack_at}
use Rattle.s38_rules.specs.state.Journaling.{journal_for, journal_for_block}
use Rattle.s38_rules.specs.ask.Operands.{cells_put}
use Rattle.s38_rules.specs.ask.Receivers.{delivered, put_value}
use Rattle.s38_rules.specs.state.Parts.{Part, cursor_part, data_part, index_part, journal_part, over_object, over_part, profile_part, queue_part, space_part}
use Rattle.s38_rules.specs.state.PartsAt.{over_table}
use Rattle.s38_rules.specs.state.LawfulParts.{IsPart, cursor_lawful, data_lawful, index_lawful, journal_lawful, profile_lawful, queue_lawful, space_lawful}
use Rattle.s38_rules.specs.families.Rows.{row}
use Rattle.s38_rules.specs.state.State.{State, process_entry}
use Rattle.s38_rules.specs.store.Storing.{stored}
use Rattle.s38_rules.specs.families.Units.{all_decommitted, all_undone, committed, decommitted, end_entry, end_written, journal_with_entry, put_back}
use Rattle.s38_rules.specs.declared.object.Object.{Object}
use Rattle.s38_rules.specs.declared.process.ProcessEntry.{ProcessEntry}
use Rattle.s38_laws_state.proofs.FitLaws.{KeepsHead}

-- what an object holds is something else of its kind
part_head : {T : Type 0} (p : Part T) → IsPart T p → (k : Kind) → ((x : T) → kind_of (p.make x) ≡ k) → (f : T → T) → KeepsHead (over_object p f)
part_head p lawful k kind f = record {
  number = λ o. refl;
  context = λ o. refl;
  id = λ o. refl;
  owner = λ o. refl;
  kind = λ o. over_same p lawful kind_of k kind f o.body (p.of o.body) refl;
}

disk_head : KeepsHead kept_on_disk
disk_head = record { number = λ o. refl; context = λ o. refl; id = λ o. refl; owner = λ o. refl; kind = λ o. refl }

module _ (P : Held → Type 0) (keeps : (h : Held) (n : ℕ) (f : Object → Object) → KeepsHead f → P h → P (change h n f)) where
  part_keeps : {T : Type 0} (p : Part T) → IsPart T p → (k : Kind) → ((x : T) → kind_of (p.make x) ≡ k) → (h : Held) (n : ℕ) (f : T → T) → P h → P (over_part p h n f)
  part_keeps p lawful k kind h n f holds = keeps h n (over_object p f) (part_head p lawful k kind f) holds

  space_keeps : (h : Held) (n : ℕ) (f : List Cell → List Cell) → P h → P (over_part space_part h n f)
  space_keeps h n f holds = part_keeps space_part space_lawful kinds.Space (λ x. refl) h n f holds

  journal_keeps : (h : Held) (n : ℕ) (f : journals.JournalList → journals.JournalList) → P h → P (over_part journal_part h n f)
  journal_keeps h n f holds = part_keeps journal_part journal_lawful kinds.Journal (λ x. refl) h n f holds

  cells_keeps : (h : Held) (operand : Option Operand) (piece : List Cell) → P h → P (cells_put h operand piece)
  cells_keeps h (Some (operands.InSpace base offset attr)) piece holds = space_keeps h (target_of base) (with_cells (start_of base offset) piece) holds
  cells_keeps h _ piece holds = holds

  -- ---- units

  logged_in_keeps : (s : State) (p block : ℕ) (change : UnitChange) (journal : Option ℕ) → P s.held → P (logged_in s p block change journal).held
  logged_in_keeps s p block change None holds = holds
  logged_in_keeps s p block change (Some journal) holds = journal_keeps s.held journal _ holds

  logged_keeps : (s : State) (p block : ℕ) (change : UnitChange) → P s.held → P (logged s p block change).held
  unfolding logged
  logged_keeps s p block change holds = logged_in_keeps s p block change (journal_for s.held change.space.0) holds

  end_keeps : (h : Held) (journal : Option ℕ) (entry : JournalRecord) → P h → P (end_written h journal entry)
  end_keeps h None entry holds = holds
  end_keeps h (Some journal) entry holds = journal_keeps h journal (journal_with_entry entry) holds

  undone_keeps : (changes : List UnitChange) (h : Held) → P h → P (all_undone h changes)
  unfolding all_undone
  undone_keeps [] h holds = holds
  undone_keeps (change ∷ newer) h holds =
      part_keeps data_part data_lawful kinds.DataSpace (λ x. refl) (all_undone h newer) change.space.0 (over_table (put_back change)) (undone_keeps newer h holds)

  committed_keeps : (s : State) (p block : ℕ) (unit : Option CommitUnit) → P s.held → P (committed s p block unit).held
  committed_keeps s p block None holds = holds
  committed_keeps s p block (Some unit) holds = end_keeps s.held (journal_for_block s.held block) (end_entry entry_kinds.Commit p unit) holds

  decommitted_keeps : (s : State) (p block : ℕ) (unit : Option CommitUnit) → P s.held → P (decommitted s p block unit).held
  decommitted_keeps s p block None holds = holds
  decommitted_keeps s p block (Some unit) holds =
      end_keeps (all_undone s.held unit.changes) (journal_for_block s.held block) (end_entry entry_kinds.Decommit p unit) (undone_keeps unit.changes s.held holds)

  all_decommitted_keeps : (units : UnitMap) (s : State) (p : ℕ) → P s.held → P (all_decommitted s p units).held
  unfolding all_decommitted
  all_decommitted_keeps [] s p holds = holds
  all_decommitted_keeps (e ∷ units) s p holds =
      let taken = decommitted s p e.0 (Some e.1) in
      cond_both (e.1.process == p) taken s (λ (t : State). P (all_decommitted t p units).held)
      (λ own. all_decommitted_keeps units taken p (decommitted_keeps s p e.0 (Some e.1) holds))
      (λ other. all_decommitted_keeps units s p holds)

  -- ---- each word of change

  restacked_keeps : (f : List ObjNum → List ObjNum) (s : State) (p : ℕ) (x : Option ProcessEntry) → P s.held → P (restack_at f s p x).held
  restacked_keeps f s p None holds = holds
  restacked_keeps f s p (Some x) holds = holds

  -- what a change must meet: those that make an object, destroy one or change its head have to keep what holds
  abbrev pub May : State → ℕ → Changes → Type 0
  May s p (OnAccess n f) = P (done s p (OnAccess n f)).held
  May s p (Named n id) = P (done s p (Named n id)).held
  May s p (Moved n context) = P (done s p (Moved n context)).held
  May s p (Made owner made body) = P (done s p (Made owner made body)).held
  May s p (Gone kind n) = P (done s p (Gone kind n)).held
  May s p (Then a b) = May s p a × May (done s p a) p b
  May s p _ = Unit {0}

  pub done_keeps : (x : Changes) (s : State) (p : ℕ) → P s.held → May s p x → P (done s p x).held
  done_keeps Stays s p holds may = holds
  done_keeps (OnQueue n f) s p holds may = part_keeps queue_part queue_lawful kinds.Queue (λ x. refl) s.held n f holds
  done_keeps (OnIndex n f) s p holds may = part_keeps index_part index_lawful kinds.Index (λ x. refl) s.held n f holds
  done_keeps (OnCursor n f) s p holds may = part_keeps cursor_part cursor_lawful kinds.Cursor (λ x. refl) s.held n f holds
  done_keeps (Resized n bytes) s p holds may = space_keeps s.held n (resized bytes) holds
  done_keeps (CellsPut operand piece) s p holds may = cells_keeps s.held operand piece holds
  done_keeps (Entered block change f) s p holds may =
      part_keeps data_part data_lawful kinds.DataSpace (λ x. refl) (logged s p block change).held change.space.0 (over_table f) (logged_keeps s p block change holds)
  done_keeps (Journaled n port) s p holds may = part_keeps data_part data_lawful kinds.DataSpace (λ x. refl) s.held n (through_port port) holds
  done_keeps (OnAccess n f) s p holds may = may
  done_keeps (Profiled n special limit) s p holds may = part_keeps profile_part profile_lawful kinds.Profile (λ x. refl) s.held n (λ _. (special, limit)) holds
  done_keeps (Named n id) s p holds may = may
  done_keeps (Moved n context) s p holds may = may
  done_keeps (Ensured n) s p holds may = keeps s.held n kept_on_disk disk_head holds
  done_keeps (Made owner made body) s p holds may = may
  done_keeps (Gone kind n) s p holds may = may
  done_keeps (Framed f) s p holds may = restacked_keeps f s p (process_entry s p) holds
  done_keeps (Locked n held) s p holds may = holds
  done_keeps (Committed block) s p holds may = committed_keeps s p block (unit_of s.units block) holds
  done_keeps (Decommitted block) s p holds may = decommitted_keeps s p block (unit_of s.units block) holds
  done_keeps (Then a b) s p holds may = done_keeps b (done s p a) p (done_keeps a s p holds may.0) may.1

  -- ---- an event

  value_keeps : (h : Held) (n at : ℕ) (v : Val) → P h → P (put_value h n at v)
  value_keeps h n at (vals.Bytes bytes) holds = space_keeps h n (with_bytes at bytes) holds
  value_keeps h n at (vals.Ptr p) holds = space_keeps h n (with_pointer at p) holds
  value_keeps h n at _ holds = holds

  delivered_keeps : (s : State) (shift : ℕ) (receiver : Option Operand) (v : Option Val) → P s.held → P (delivered s shift receiver v).state.held
  delivered_keeps s shift receiver None holds = holds
  delivered_keeps s shift (Some (operands.InSpace base offset attr)) (Some v) holds = value_keeps s.held (target_of base) _ v holds
  delivered_keeps s shift _ (Some v) holds = holds

  pub act_keeps : (s : State) (p d : ℕ) (t : Request) → P s.held → May s p ((row t.op).changes s p d t) → P (effect (row t.op) s p d t).state.held
  unfolding effect
  act_keeps s p d t holds may =
      delivered_keeps (done s p ((row t.op).changes s p d t)) (shift_at s.held t.op t.operands) (receiver_at t.op t.operands) ((row t.op).gives s p d t)
      (done_keeps ((row t.op).changes s p d t) s p holds may)

  pub start_keeps : (s : State) (p : ℕ) (x : Option ProcessEntry) → P s.held → P (start_at s p x).held
  start_keeps s p None holds = holds
  start_keeps s p (Some x) holds = holds

  pub finish_keeps : (s : State) (p : ℕ) (x : Option ProcessEntry) → P s.held → P (end_at s p x).held
  finish_keeps s p None holds = holds
  finish_keeps s p (Some x) holds = all_decommitted_keeps s.units s p holds

  pub stored_keeps : (s : State) (p : ℕ) (e : Event) (t : State) → P t.held → P (stored s p e t).held
  stored_keeps s p e t holds = stored_holds P (λ h n so_far. journal_keeps h n journals.forced so_far) s p e t holds
