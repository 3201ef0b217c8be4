-- Journal spaces become longer, or are there no more: one case for each word of change.
use Rattle.std.proofs.Common.{◌≡◌, ◌∙◌, ℕ, ◌<◌, ◌==◌, Bool, true, false, cond, List, [], ◌∷◌, ◌++◌, refl, sym, ap, subst, arith}
use Rattle.std.proofs.lemmas.Bool.{cond_both}
use Rattle.std.proofs.lemmas.Bool.Decides.{nat_tests}
use Rattle.std.proofs.lemmas.List.{append_assoc}
use Rattle.std.proofs.lemmas.List.Folds.{find-append}
use Rattle.std.proofs.lemmas.List.Sums.{sum_by-append}
use Rattle.std.specs.Option.{option_map, option_or}
use Rattle.std.specs.Prelude.{None, Option, Some}
use Rattle.s38_base.specs.Pointers.{start_of, target_of}
use Rattle.s38_base.specs.declared.id.Id.{Id}
use Rattle.s38_base.specs.declared.id.Kind.{Kind}
use Rattle.s38_base.specs.declared.id.ObjNum.{ObjNum}
use Rattle.s38_code.specs.declared.event.Event.TheVariants.{Act, Finish, Start}
use Rattle.s38_code.specs.declared.event.Event.{Event}
use Rattle.s38_code.specs.declared.operand.Operand.TheVariants as operands
use Rattle.s38_code.specs.declared.operand.Operand.{Operand}
use Rattle.s38_code.specs.declared.reply.Val.TheVariants as vals
use Rattle.s38_code.specs.declared.reply.Val.{Val}
use Rattle.s38_commits.specs.Changes.{journal_bytes}
use Rattle.s38_commits.specs.Unit.{CommitUnit}
use Rattle.s38_commits.specs.Units.{UnitMap, unit_of}
use Rattle.s38_commits.specs.declared.change.UnitChange.{UnitChange}
use Rattle.s38_dataspaces.specs.Table.{DataTable}
use Rattle.s38_journals.specs.Entries.{JournalRecord, journal_entry_len}
use Rattle.s38_journals.specs.Journals.{JournalList, appended, can_write, journal_with, journal_with_room}
use Rattle.s38_journals.specs.declared.entry.EntryKind.TheVariants as entry_kinds
use Rattle.s38_memory.specs.Tagged.{resized}
use Rattle.s38_memory.specs.declared.cell.Cell.{Cell}
use Rattle.s38_rules.proofs.ChargeLaws.{KeepsNumber, object_changed}
use Rattle.s38_rules.proofs.PartLaws.{over_same, part_apart}
use Rattle.s38_rules.specs.state.Cells.{with_bytes, with_cells, with_pointer}
use Rattle.s38_rules.specs.families.Changes.{CellsPut, Changes, Committed, Decommitted, Ensured, Entered, Framed, Gone, Journaled, Locked, Made, Moved, Named, OnAccess, OnCursor, OnIndex, OnQueue, Profiled, Resized, Stays, Then, done, made_by, renamed_by, through_port}
use Rattle.s38_rules.specs.families.Changing.{change_entry, logged, logged_in, next_sequence, number_for, with_change_logged}
use Rattle.s38_rules.specs.families.Computing.{receiver_at, shift_at}
use Rattle.s38_rules.specs.families.Creation.{created, creation_changes, destroyed, is_of_kind, new_object}
use Rattle.s38_rules.specs.step.Effect.{effect, effect_of, end_at, start_at}
use Rattle.s38_rules.specs.state.Held.{Held, change, has_number, kept_on_disk, object, with_object, without}
use Rattle.s38_rules.specs.state.Invocations.{restack_at}
use Rattle.s38_rules.specs.state.Journaling.{journal_for, journal_for_block, open_after}
use Rattle.s38_rules.specs.ask.Operands.{cells_put}
use Rattle.s38_rules.specs.ask.Receivers.{delivered, put_value}
use Rattle.s38_rules.specs.state.Parts.{Part, cursor_part, data_part, index_part, journal_of, journal_part, over_part, part_at, part_in, profile_part, queue_part, space_part}
use Rattle.s38_rules.specs.state.PartsAt.{journal_at, on_data, on_journal, on_space, over_table}
use Rattle.s38_rules.specs.state.LawfulParts.{IsPart, cursor_lawful, data_lawful, index_lawful, journal_lawful, profile_lawful, queue_lawful, space_lawful}
use Rattle.s38_rules.specs.families.Rows.{row}
use Rattle.s38_rules.specs.state.Access.{access_of, with_access}
use Rattle.s38_rules.specs.state.State.{State, process_entry}
use Rattle.s38_rules.specs.families.Units.{all_decommitted, all_undone, committed, decommitted, end_entry, end_written, journal_with_entry, put_back}
use Rattle.s38_rules.specs.declared.creating.Creating.{Creating}
use Rattle.s38_rules.specs.declared.data_body.DataBody.{DataBody}
use Rattle.s38_rules.specs.declared.object.Body.{Body}
use Rattle.s38_rules.specs.declared.object.Object.{Object}
use Rattle.s38_rules.specs.declared.process.ProcessEntry.{ProcessEntry}
use Rattle.s38_laws_units.proofs.HeldLaws.{part_over, part_without}
use Rattle.s38_laws_flush.specs.puts.Lengthening.{AreLonger, IsLonger, Lengthens}

-- ---- one journal

pub append_none : (xs : List JournalRecord) → xs ≡ xs ++ []
append_none [] = refl
append_none (x ∷ xs) = ap (λ (l : List JournalRecord). x ∷ l) (append_none xs)

pub longer_same : (j : JournalList) → IsLonger j j
longer_same j = record { rest = []; entries = append_none j.entries; unforced = omega arith }

pub longer_then : (x y z : JournalList) → IsLonger x y → IsLonger y z → IsLonger x z
longer_then x y z a b = record {
  rest = a.rest ++ b.rest;
  entries = b.entries ∙ ap (λ (es : List JournalRecord). es ++ b.rest) a.entries ∙ append_assoc x.entries a.rest b.rest;
  unforced = let one = a.unforced in let two = b.unforced in let all = sum_by-append journal_entry_len a.rest b.rest in omega (arith, one, two, all);
}

-- one entry more, or none
pub written_longer : (entry : JournalRecord) (j : JournalList) → IsLonger j (journal_with j entry)
written_longer entry j = by (can_write j entry)
  where
    by : (b : Bool) → IsLonger j (cond b (appended j entry) j)
    by true = record { rest = entry ∷ []; entries = refl; unforced = omega arith }
    by false = longer_same j

roomed_longer : (bytes units : ℕ) (j : JournalList) → IsLonger j (journal_with_room j bytes units)
roomed_longer bytes units j = record { rest = []; entries = append_none j.entries; unforced = omega arith }

pub logged_longer : (bytes units : ℕ) (entry : JournalRecord) (j : JournalList) → IsLonger j (with_change_logged bytes units entry j)
logged_longer bytes units entry j = longer_then j (journal_with_room j bytes units) _ (roomed_longer bytes units j) (written_longer entry (journal_with_room j bytes units))

-- ---- the journal spaces of all numbers that were given

lengthens_same : (x : Option JournalList) → Lengthens x x
lengthens_same None = tt
lengthens_same (Some j) = longer_same j

lengthens_then : (x y z : Option JournalList) → Lengthens x y → Lengthens y z → Lengthens x z
lengthens_then x y None a b = tt
lengthens_then None None (Some z) a b = absurd b
lengthens_then None (Some y) (Some z) a b = absurd a
lengthens_then (Some x) None (Some z) a b = absurd b
lengthens_then (Some x) (Some y) (Some z) a b = longer_then x y z a b

-- the same journal spaces are there
longer_by : (h k : Held) → k.next ≡ h.next → ((n : ℕ) → part_at journal_part k n ≡ part_at journal_part h n) → AreLonger h k
longer_by h k next same = record {
  next = omega (arith, next);
  each = λ n less. subst (Lengthens (part_at journal_part h n)) (sym (same n)) (lengthens_same (part_at journal_part h n));
}

pub all_same : (h : Held) → AreLonger h h
all_same h = longer_by h h refl (λ n. refl)

pub all_then : (h j k : Held) → AreLonger h j → AreLonger j k → AreLonger h k
all_then h j k a b = record {
  next = let one = a.next in let two = b.next in omega (arith, one, two);
  each = λ n less.
      let one = a.next in
      lengthens_then (part_at journal_part h n) (part_at journal_part j n) (part_at journal_part k n) (a.each n less) (b.each n (omega (arith, one, less)));
}

-- ---- an object is another one

header_longer : (h : Held) (n : ℕ) (f : Object → Object) → KeepsNumber f → ((x : Object) → (f x).body ≡ x.body) → AreLonger h (change h n f)
header_longer h n f keeps body = longer_by h (change h n f) refl (λ m. ap (part_in journal_part) (object_changed n m f h.objects keeps) ∙ by (n == m) (object h m))
  where
    by : (b : Bool) (x : Option Object) → part_in journal_part (cond b (option_map f x) x) ≡ part_in journal_part x
    by true None = refl
    by true (Some x) = ap journal_of (body x)
    by false x = refl

-- what an object of another kind holds is something else
other_longer : {T : Type 0} (p : Part T) → IsPart T p → ((x : T) → journal_of (p.make x) ≡ None) → (h : Held) (n : ℕ) (f : T → T) → AreLonger h (over_part p h n f)
other_longer p lawful other h n f =
    longer_by h (over_part p h n f) refl (λ m. part_apart journal_part p f (λ b. over_same p lawful journal_of None other f b (p.of b) refl) h n m)

space_longer : (h : Held) (n : ℕ) (f : List Cell → List Cell) → AreLonger h (on_space h n f)
space_longer h n f = other_longer space_part space_lawful (λ x. refl) h n f

data_longer : (h : Held) (n : ℕ) (f : DataBody → DataBody) → AreLonger h (on_data h n f)
data_longer h n f = other_longer data_part data_lawful (λ x. refl) h n f

cells_longer : (h : Held) (operand : Option Operand) (piece : List Cell) → AreLonger h (cells_put h operand piece)
cells_longer h (Some (operands.InSpace base offset attr)) piece = space_longer h (target_of base) (with_cells (start_of base offset) piece)
cells_longer h _ piece = all_same h

renamed_longer : (h : Held) (n : ℕ) (id : Option Id) → AreLonger h (renamed_by h n id)
renamed_longer h n None = all_same h
renamed_longer h n (Some id) = header_longer h n (λ x. record x { id = id }) (λ x. refl) (λ x. refl)

-- a journal space became longer
journal_longer : (h : Held) (n : ℕ) (f : JournalList → JournalList) → ((j : JournalList) → IsLonger j (f j)) → AreLonger h (on_journal h n f)
journal_longer h n f longer = record {
  next = omega arith;
  each = λ m less. subst (Lengthens (part_at journal_part h m)) (sym (part_over journal_part journal_lawful h n m f)) (by (n == m) (part_at journal_part h m));
}
  where
    by : (b : Bool) (x : Option JournalList) → Lengthens x (cond b (option_map f x) x)
    by true None = tt
    by true (Some j) = longer j
    by false x = lengthens_same x

-- ---- an object is made, or destroyed

added_longer : (h : Held) (x : Object) → x.number.0 ≡ h.next → AreLonger h (with_object h x)
added_longer h x number = record {
  next = omega arith;
  each = λ n less. subst (Lengthens (part_at journal_part h n)) (sym (ap (part_in journal_part) (find-append (has_number n) h.objects (x ∷ [])))) (by n less (object h n));
}
  where
    other : (n : ℕ) → n < h.next → (x.number.0 == n) ≡ false
    other n less = grind (arith, nat_tests, number, less)

    by : (n : ℕ) → n < h.next → (y : Option Object) → Lengthens (part_in journal_part y) (part_in journal_part (option_or y (cond (x.number.0 == n) (Some x) None)))
    by n less None = rw (other n less) tt
    by n less (Some y) = lengthens_same (part_in journal_part (Some y))

made_longer : (h : Held) (owner : ℕ) (made : Creating) (body : Option Body) → AreLonger h (made_by h owner made body)
unfolding creation_changes
made_longer h owner made None = all_same h
made_longer h owner made (Some body) = by made.id
  where
    by : (id : Option Id) → AreLonger h (created h owner made body id)
    by None = all_same h
    by (Some id) = added_longer h (new_object h owner made id body) refl

gone_longer : (h : Held) (kind : Kind) (n : ℕ) → AreLonger h (destroyed h kind n)
gone_longer h kind n = by (is_of_kind kind (object h n))
  where
    one : (b : Bool) (x : Option JournalList) → Lengthens x (cond b None x)
    one true x = tt
    one false x = lengthens_same x

    by : (b : Bool) → AreLonger h (cond b (without h n) h)
    by true = record { next = omega arith; each = λ m less. subst (Lengthens (part_at journal_part h m)) (sym (part_without journal_part h n m)) (one (n == m) (part_at journal_part h m)) }
    by false = all_same h

-- ---- units

logged_in_longer : (s : State) (p block : ℕ) (change : UnitChange) (journal : Option ℕ) → AreLonger s.held (logged_in s p block change journal).held
logged_in_longer s p block change None = all_same s.held
logged_in_longer s p block change (Some journal) =
    let bytes = journal_bytes change in
    let units = open_after s.held s.units journal block in
    let entry : JournalRecord = change_entry (number_for s.units block (next_sequence (journal_at s.held journal))) p change in
    journal_longer s.held journal (with_change_logged bytes units entry) (logged_longer bytes units entry)

entered_longer : (s : State) (p block : ℕ) (change : UnitChange) (f : DataTable → DataTable) → AreLonger s.held (done s p (Entered block change f)).held
unfolding logged
entered_longer s p block change f =
    let r = journal_for s.held change.space.0 in
    all_then s.held (logged_in s p block change r).held _ (logged_in_longer s p block change r) (data_longer (logged_in s p block change r).held change.space.0 (over_table f))

end_longer : (h : Held) (journal : Option ℕ) (entry : JournalRecord) → AreLonger h (end_written h journal entry)
end_longer h None entry = all_same h
end_longer h (Some journal) entry = journal_longer h journal (journal_with_entry entry) (λ j. written_longer entry j)

undone_longer : (changes : List UnitChange) (h : Held) → AreLonger h (all_undone h changes)
unfolding all_undone
undone_longer [] h = all_same h
undone_longer (change ∷ newer) h =
    all_then h (all_undone h newer) _ (undone_longer newer h) (data_longer (all_undone h newer) change.space.0 (over_table (put_back change)))

committed_longer : (s : State) (p block : ℕ) (unit : Option CommitUnit) → AreLonger s.held (committed s p block unit).held
committed_longer s p block None = all_same s.held
committed_longer s p block (Some unit) = end_longer s.held (journal_for_block s.held block) (end_entry entry_kinds.Commit p unit)

decommitted_longer : (s : State) (p block : ℕ) (unit : Option CommitUnit) → AreLonger s.held (decommitted s p block unit).held
decommitted_longer s p block None = all_same s.held
decommitted_longer s p block (Some unit) =
    all_then s.held (all_undone s.held unit.changes) _ (undone_longer unit.changes s.held)
    (end_longer (all_undone s.held unit.changes) (journal_for_block s.held block) (end_entry entry_kinds.Decommit p unit))

all_decommitted_longer : (units : UnitMap) (s : State) (p : ℕ) → AreLonger s.held (all_decommitted s p units).held
unfolding all_decommitted
all_decommitted_longer [] s p = all_same s.held
all_decommitted_longer (e ∷ units) s p =
    let taken = decommitted s p e.0 (Some e.1) in
    cond_both (e.1.process == p) taken s (λ (t : State). AreLonger s.held (all_decommitted t p units).held)
    (λ own. all_then s.held taken.held _ (decommitted_longer s p e.0 (Some e.1)) (all_decommitted_longer units taken p))
    (λ other. all_decommitted_longer units s p)

-- ---- each word of change

restacked_longer : (f : List ObjNum → List ObjNum) (s : State) (p : ℕ) (x : Option ProcessEntry) → AreLonger s.held (restack_at f s p x).held
restacked_longer f s p None = all_same s.held
restacked_longer f s p (Some x) = all_same s.held

pub done_longer : (x : Changes) (s : State) (p : ℕ) → AreLonger s.held (done s p x).held
done_longer Stays s p = all_same s.held
done_longer (OnQueue n f) s p = other_longer queue_part queue_lawful (λ x. refl) s.held n f
done_longer (OnIndex n f) s p = other_longer index_part index_lawful (λ x. refl) s.held n f
done_longer (OnCursor n f) s p = other_longer cursor_part cursor_lawful (λ x. refl) s.held n f
done_longer (Resized n bytes) s p = space_longer s.held n (resized bytes)
done_longer (CellsPut operand piece) s p = cells_longer s.held operand piece
done_longer (Entered block change f) s p = entered_longer s p block change f
done_longer (Journaled n port) s p = data_longer s.held n (through_port port)
done_longer (OnAccess n f) s p = header_longer s.held n (λ o. with_access (f (access_of o)) o) (λ x. refl) (λ x. refl)
done_longer (Profiled n special limit) s p = other_longer profile_part profile_lawful (λ x. refl) s.held n (λ _. (special, limit))
done_longer (Named n id) s p = renamed_longer s.held n id
done_longer (Moved n context) s p = header_longer s.held n (λ o. record o { context = context }) (λ x. refl) (λ x. refl)
done_longer (Ensured n) s p = header_longer s.held n kept_on_disk (λ x. refl) (λ x. refl)
done_longer (Made owner made body) s p = made_longer s.held owner made body
done_longer (Gone kind n) s p = gone_longer s.held kind n
done_longer (Framed f) s p = restacked_longer f s p (process_entry s p)
done_longer (Locked n held) s p = all_same s.held
done_longer (Committed block) s p = committed_longer s p block (unit_of s.units block)
done_longer (Decommitted block) s p = decommitted_longer s p block (unit_of s.units block)
done_longer (Then a b) s p = all_then s.held (done s p a).held _ (done_longer a s p) (done_longer b (done s p a) p)

-- ---- an event

pub value_longer : (h : Held) (n at : ℕ) (v : Val) → AreLonger h (put_value h n at v)
value_longer h n at (vals.Bytes bytes) = space_longer h n (with_bytes at bytes)
value_longer h n at (vals.Ptr p) = space_longer h n (with_pointer at p)
value_longer h n at _ = all_same h

delivered_longer : (s : State) (shift : ℕ) (receiver : Option Operand) (v : Option Val) → AreLonger s.held (delivered s shift receiver v).state.held
delivered_longer s shift receiver None = all_same s.held
delivered_longer s shift (Some (operands.InSpace base offset attr)) (Some v) = value_longer s.held (target_of base) _ v
delivered_longer s shift _ (Some v) = all_same s.held

start_longer : (s : State) (p : ℕ) (x : Option ProcessEntry) → AreLonger s.held (start_at s p x).held
start_longer s p None = all_same s.held
start_longer s p (Some x) = all_same s.held

finish_longer : (s : State) (p : ℕ) (x : Option ProcessEntry) → AreLonger s.held (end_at s p x).held
finish_longer s p None = all_same s.held
finish_longer s p (Some x) = all_decommitted_longer s.units s p

pub event_longer : (s : State) (p : ℕ) (e : Event) → AreLonger s.held (effect_of s p e).state.held
unfolding effect_of effect
event_longer s p Start = start_longer s p (process_entry s p)
event_longer s p (Act d t) =
    let x = (row t.op).changes s p d t in
    all_then s.held (done s p x).held _ (done_longer x s p) (delivered_longer (done s p x) (shift_at s.held t.op t.operands) (receiver_at t.op t.operands) ((row t.op).gives s p d t))
event_longer s p (Finish cause) = finish_longer s p (process_entry s p)
