-- Objects stay well whatever is changed: one case for each word of change. Most words must meet nothing.
use Rattle.std.proofs.Common.{◌==◌, ◌∙◌, ◌∷◌, ◌≡◌, ◌≤◌, Bool, List, [], arith, false, length, refl, subst, true, ℕ}
use Rattle.std.proofs.lemmas.Bool.{cond_both}
use Rattle.std.proofs.lemmas.List.Elements.{All-append, All-cons, All-filter, All-head, All-nil, All-tail}
use Rattle.std.specs.Prelude.{All, None, Option, Some, not}
use Rattle.s38_base.specs.Limits.{most_rows}
use Rattle.s38_base.specs.Pointers.{start_of, target_of}
use Rattle.s38_base.specs.declared.id.Id.{Id}
use Rattle.s38_base.specs.declared.id.Kind.TheVariants as kinds
use Rattle.s38_base.specs.declared.id.Kind.{Kind}
use Rattle.s38_base.specs.declared.id.ObjNum.{ObjNum}
use Rattle.s38_code.specs.declared.operand.Operand.TheVariants as operands
use Rattle.s38_code.specs.declared.operand.Operand.{Operand}
use Rattle.s38_commits.specs.Unit.{CommitUnit}
use Rattle.s38_commits.specs.Units.{UnitMap, unit_of}
use Rattle.s38_commits.specs.declared.change.UnitChange.{UnitChange}
use Rattle.s38_journals.specs.Entries.{JournalRecord}
use Rattle.s38_journals.specs.Journals.{JournalList}
use Rattle.s38_journals.specs.declared.entry.EntryKind.TheVariants as entry_kinds
use Rattle.s38_memory.specs.Tagged.{resized}
use Rattle.s38_memory.specs.declared.cell.Cell.{Cell}
use Rattle.s38_rules.proofs.PartLaws.{over_same}
use Rattle.s38_rules.specs.state.Cells.{with_cells}
use Rattle.s38_rules.specs.families.Changes.{CellsPut, Changes, Committed, Decommitted, Ensured, Entered, Framed, Gone, Journaled, Locked, Made, Moved, Named, OnAccess, OnCursor, OnIndex, OnQueue, Profiled, Resized, Stays, Then, done, made_by, renamed_by, through_port}
use Rattle.s38_rules.specs.families.Changing.{logged, logged_in}
use Rattle.s38_rules.specs.families.Creation.{created, creation_changes, destroyed, is_of_kind, maker_rows, new_object}
use Rattle.s38_rules.specs.state.Held.{Held, change, change_in, has_number, kept_on_disk, kind_of, object, object_in, without}
use Rattle.s38_rules.specs.state.Invocations.{restack_at}
use Rattle.s38_rules.specs.state.Journaling.{journal_for, journal_for_block}
use Rattle.s38_rules.specs.ask.Operands.{cells_put}
use Rattle.s38_rules.specs.state.Parts.{Part, cursor_part, data_part, index_part, journal_part, over, over_object, over_part, profile_part, queue_part, space_part}
use Rattle.s38_rules.specs.state.PartsAt.{on_journal, on_space, over_table}
use Rattle.s38_rules.specs.state.LawfulParts.{IsPart, cursor_lawful, data_lawful, index_lawful, journal_lawful, profile_lawful, queue_lawful, space_lawful}
use Rattle.s38_rules.specs.state.PrivateRows.{AreRows}
use Rattle.s38_rules.specs.state.Access.{Access, access_of, with_access}
use Rattle.s38_rules.specs.state.State.{State, process_entry}
use Rattle.s38_rules.specs.store.Storable.{HasShortText}
use Rattle.s38_rules.specs.families.Units.{all_decommitted, all_undone, committed, decommitted, end_entry, end_written, journal_with_entry, put_back}
use Rattle.s38_rules.specs.declared.creating.Creating.{Creating}
use Rattle.s38_rules.specs.declared.object.Body.{Body}
use Rattle.s38_rules.specs.declared.object.Object.{Object}
use Rattle.s38_rules.specs.declared.process.ProcessEntry.{ProcessEntry}
use Rattle.s38_rules.specs.declared.rows.PrivateRow.{PrivateRow}
use Rattle.s38_laws_objects.specs.Well.{IsWell}

-- the objects of a map are well
abbrev pub HoldsWell : Held → Type 0
HoldsWell h = All IsWell h.objects

-- ---- an object is another one

changed_well : (n : ℕ) (f : Object → Object) (os : List Object) → All IsWell os → ((o : Object) → object_in os n ≡ Some o → IsWell o → IsWell (f o)) → All IsWell (change_in os n f)
changed_well n f [] well next = well
changed_well n f (o ∷ os) well next = by (changed_well n f os (All-tail IsWell o os well)) (has_number n o) refl
  where
    by : (((x : Object) → object_in os n ≡ Some x → IsWell x → IsWell (f x)) → All IsWell (change_in os n f)) → (b : Bool) → has_number n o ≡ b → All IsWell (change_in (o ∷ os) n f)
    by rest true is = rw is (All-cons IsWell (f o) os (next o (rw is refl) (All-head IsWell o os well)) (All-tail IsWell o os well))
    by rest false is = rw is (All-cons IsWell o (change_in os n f) (All-head IsWell o os well) (rest (λ x found. next x (rw is found))))

change_well : (h : Held) (n : ℕ) (f : Object → Object) → HoldsWell h → ((o : Object) → object h n ≡ Some o → IsWell o → IsWell (f o)) → HoldsWell (change h n f)
change_well h n f well next = changed_well n f h.objects well next

over_short : {T : Type 0} (p : Part T) → ((x : T) → HasShortText (p.make x)) → (f : T → T) (b : Body) (r : Option T) → HasShortText b → HasShortText (over p f b r)
over_short p short f b None text = text
over_short p short f b (Some x) text = short (f x)

-- what an object holds is something else of its kind
part_well : {T : Type 0} (p : Part T) → IsPart T p → (k : Kind) → ((x : T) → kind_of (p.make x) ≡ k) → ((x : T) → HasShortText (p.make x)) → (h : Held) (n : ℕ) (f : T → T) → HoldsWell h → HoldsWell (over_part p h n f)
part_well p lawful k kind short h n f well = change_well h n (over_object p f) well
    (λ o found was. record {
      storable = record {
        kind = over_same p lawful kind_of k kind f o.body (p.of o.body) refl ∙ was.storable.kind;
        rows = was.storable.rows;
        text = over_short p short f o.body (p.of o.body) was.storable.text;
      };
      rows = was.rows;
    })

pub space_well : (h : Held) (n : ℕ) (f : List Cell → List Cell) → HoldsWell h → HoldsWell (on_space h n f)
space_well h n f well = part_well space_part space_lawful kinds.Space (λ x. refl) (λ x. tt) h n f well

pub journal_well : (h : Held) (n : ℕ) (f : JournalList → JournalList) → HoldsWell h → HoldsWell (on_journal h n f)
journal_well h n f well = part_well journal_part journal_lawful kinds.Journal (λ x. refl) (λ x. tt) h n f well

cells_well : (h : Held) (operand : Option Operand) (piece : List Cell) → HoldsWell h → HoldsWell (cells_put h operand piece)
cells_well h (Some (operands.InSpace base offset attr)) piece well = space_well h (target_of base) (with_cells (start_of base offset) piece) well
cells_well h _ piece well = well

-- ---- headers

-- private rows in order, and not too many
pub record AreFit (rows : List PrivateRow) : Type 0 where
  pub few : length rows ≤ most_rows
  pub rising : AreRows rows

abbrev pub KeepsRowsFit : Option Object → (Access → Access) → Type 0
KeepsRowsFit None f = Unit {0}
KeepsRowsFit (Some o) f = IsWell o → AreFit (f (access_of o)).rows

standing_well : (h : Held) (n : ℕ) (f : Access → Access) → HoldsWell h → KeepsRowsFit (object h n) f → HoldsWell (change h n (λ o. with_access (f (access_of o)) o))
standing_well h n f well stands = change_well h n (λ o. with_access (f (access_of o)) o) well
    (λ o found was. let fit = (subst (λ x. KeepsRowsFit x f) found stands) was in
    record { storable = record { kind = was.storable.kind; rows = fit.few; text = was.storable.text }; rows = fit.rising })

-- a new identification says the kind of the body
abbrev pub RenamedWell : Option Object → Option Id → Type 0
RenamedWell None id = Unit {0}
RenamedWell (Some o) None = Unit {0}
RenamedWell (Some o) (Some id) = kind_of o.body ≡ id.kind

renamed_well : (h : Held) (n : ℕ) (id : Option Id) → HoldsWell h → RenamedWell (object h n) id → HoldsWell (renamed_by h n id)
renamed_well h n None well named = well
renamed_well h n (Some id) well named = change_well h n (λ o. record o { id = id }) well
    (λ o found was. record { storable = record { kind = subst (λ x. RenamedWell x (Some id)) found named; rows = was.storable.rows; text = was.storable.text }; rows = was.rows })

header_well : (h : Held) (n : ℕ) (f : Object → Object) → HoldsWell h → ((o : Object) → IsWell o → IsWell (f o)) → HoldsWell (change h n f)
header_well h n f well next = change_well h n f well (λ o found was. next o was)

-- ---- objects are made and destroyed

-- a new body is of the kind that the identification says, and no program is too long
abbrev pub MadeWell : Option Id → Option Body → Type 0
MadeWell None body = Unit {0}
MadeWell (Some id) None = Unit {0}
MadeWell (Some id) (Some body) = (kind_of body ≡ id.kind) × HasShortText body

-- a single row is in order
one_row : (owner : ℕ) → AreFit (maker_rows owner)
one_row owner = record { few = omega arith; rising = (λ h. cc, tt, tt) }

made_well : (h : Held) (owner : ℕ) (made : Creating) (body : Option Body) → HoldsWell h → MadeWell made.id body → HoldsWell (made_by h owner made body)
unfolding creation_changes
made_well h owner made None well new = well
made_well h owner made (Some body) well new = by made.id new
  where
    by : (id : Option Id) → MadeWell id (Some body) → HoldsWell (created h owner made body id)
    by None new = well
    by (Some id) new =
        let o = new_object h owner made id body in
        All-append IsWell h.objects (o ∷ []) well (All-cons IsWell o []
        (record { storable = record { kind = new.0; rows = (one_row owner).few; text = new.1 }; rows = (one_row owner).rising })
        (All-nil IsWell))

gone_well : (h : Held) (kind : Kind) (n : ℕ) → HoldsWell h → HoldsWell (destroyed h kind n)
gone_well h kind n well = cond_both (is_of_kind kind (object h n)) (without h n) h HoldsWell (λ of. All-filter (λ o. not (has_number n o)) IsWell h.objects well) (λ other. well)

-- ---- units

logged_in_well : (s : State) (p block : ℕ) (change : UnitChange) (journal : Option ℕ) → HoldsWell s.held → HoldsWell (logged_in s p block change journal).held
logged_in_well s p block change None well = well
logged_in_well s p block change (Some journal) well = journal_well s.held journal _ well

logged_well : (s : State) (p block : ℕ) (change : UnitChange) → HoldsWell s.held → HoldsWell (logged s p block change).held
unfolding logged
logged_well s p block change well = logged_in_well s p block change (journal_for s.held change.space.0) well

end_well : (h : Held) (journal : Option ℕ) (entry : JournalRecord) → HoldsWell h → HoldsWell (end_written h journal entry)
end_well h None entry well = well
end_well h (Some journal) entry well = journal_well h journal (journal_with_entry entry) well

undone_well : (changes : List UnitChange) (h : Held) → HoldsWell h → HoldsWell (all_undone h changes)
unfolding all_undone
undone_well [] h well = well
undone_well (change ∷ newer) h well =
    part_well data_part data_lawful kinds.DataSpace (λ x. refl) (λ x. tt) (all_undone h newer) change.space.0 (over_table (put_back change)) (undone_well newer h well)

committed_well : (s : State) (p block : ℕ) (unit : Option CommitUnit) → HoldsWell s.held → HoldsWell (committed s p block unit).held
committed_well s p block None well = well
committed_well s p block (Some unit) well = end_well s.held (journal_for_block s.held block) (end_entry entry_kinds.Commit p unit) well

decommitted_well : (s : State) (p block : ℕ) (unit : Option CommitUnit) → HoldsWell s.held → HoldsWell (decommitted s p block unit).held
decommitted_well s p block None well = well
decommitted_well s p block (Some unit) well =
    end_well (all_undone s.held unit.changes) (journal_for_block s.held block) (end_entry entry_kinds.Decommit p unit) (undone_well unit.changes s.held well)

pub all_decommitted_well : (units : UnitMap) (s : State) (p : ℕ) → HoldsWell s.held → HoldsWell (all_decommitted s p units).held
unfolding all_decommitted
all_decommitted_well [] s p well = well
all_decommitted_well (e ∷ units) s p well =
    let taken = decommitted s p e.0 (Some e.1) in
    cond_both (e.1.process == p) taken s (λ (t : State). HoldsWell (all_decommitted t p units).held)
    (λ own. all_decommitted_well units taken p (decommitted_well s p e.0 (Some e.1) well))
    (λ other. all_decommitted_well units s p well)

-- ---- each word of change

restacked_well : (f : List ObjNum → List ObjNum) (s : State) (p : ℕ) (x : Option ProcessEntry) → HoldsWell s.held → HoldsWell (restack_at f s p x).held
restacked_well f s p None well = well
restacked_well f s p (Some x) well = well

-- what a change must meet for objects to stay well: those of most words nothing
abbrev pub May : State → ℕ → Changes → Type 0
May s p (OnAccess n f) = KeepsRowsFit (object s.held n) f
May s p (Named n id) = RenamedWell (object s.held n) id
May s p (Made owner made body) = MadeWell made.id body
May s p (Then a b) = May s p a × May (done s p a) p b
May s p _ = Unit {0}

pub done_well : (x : Changes) (s : State) (p : ℕ) → HoldsWell s.held → May s p x → HoldsWell (done s p x).held
done_well Stays s p well may = well
done_well (OnQueue n f) s p well may = part_well queue_part queue_lawful kinds.Queue (λ x. refl) (λ x. tt) s.held n f well
done_well (OnIndex n f) s p well may = part_well index_part index_lawful kinds.Index (λ x. refl) (λ x. tt) s.held n f well
done_well (OnCursor n f) s p well may = part_well cursor_part cursor_lawful kinds.Cursor (λ x. refl) (λ x. tt) s.held n f well
done_well (Resized n bytes) s p well may = space_well s.held n (resized bytes) well
done_well (CellsPut operand piece) s p well may = cells_well s.held operand piece well
done_well (Entered block change f) s p well may =
    part_well data_part data_lawful kinds.DataSpace (λ x. refl) (λ x. tt) (logged s p block change).held change.space.0 (over_table f) (logged_well s p block change well)
done_well (Journaled n port) s p well may = part_well data_part data_lawful kinds.DataSpace (λ x. refl) (λ x. tt) s.held n (through_port port) well
done_well (OnAccess n f) s p well may = standing_well s.held n f well may
done_well (Profiled n special limit) s p well may = part_well profile_part profile_lawful kinds.Profile (λ x. refl) (λ x. tt) s.held n (λ _. (special, limit)) well
done_well (Named n id) s p well may = renamed_well s.held n id well may
done_well (Moved n context) s p well may = header_well s.held n (λ o. record o { context = context }) well
    (λ o was. record { storable = record { kind = was.storable.kind; rows = was.storable.rows; text = was.storable.text }; rows = was.rows })
done_well (Ensured n) s p well may = header_well s.held n kept_on_disk well
    (λ o was. record { storable = record { kind = was.storable.kind; rows = was.storable.rows; text = was.storable.text }; rows = was.rows })
done_well (Made owner made body) s p well may = made_well s.held owner made body well may
done_well (Gone kind n) s p well may = gone_well s.held kind n well
done_well (Framed f) s p well may = restacked_well f s p (process_entry s p) well
done_well (Locked n held) s p well may = well
done_well (Committed block) s p well may = committed_well s p block (unit_of s.units block) well
done_well (Decommitted block) s p well may = decommitted_well s p block (unit_of s.units block) well
done_well (Then a b) s p well may = done_well b (done s p a) p (done_well a s p well may.0) may.1
