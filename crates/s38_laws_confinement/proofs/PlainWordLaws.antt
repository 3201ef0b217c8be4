-- Each word of change is plain: owners and rights stay, and no pointer is new.
use Rattle.std.proofs.Common.{arith, ◌==◌, ◌∙◌, ◌∷◌, ◌≡◌, Bool, List, [], false, refl, subst, sym, true, ℕ}
use Rattle.std.proofs.lemmas.Bool.Decides.{nat_tests}
use Rattle.std.proofs.lemmas.Bool.{and_parts, cond_both, true≢false}
use Rattle.std.proofs.lemmas.List.Elements.{All-filter}
use Rattle.std.specs.Option.{option_map}
use Rattle.std.specs.Prelude.{None, Option, Some, not}
use Rattle.s38_base.specs.Pointers.{start_of, target_of}
use Rattle.s38_base.specs.Ids.{same_kind}
use Rattle.s38_base.specs.declared.id.Id.{Id}
use Rattle.s38_base.specs.declared.id.Kind.TheVariants as kinds
use Rattle.s38_base.specs.declared.id.Kind.{Kind}
use Rattle.s38_base.specs.declared.id.ObjNum.{ObjNum}
use Rattle.s38_base.specs.declared.pointer.Pointer.{Pointer}
use Rattle.s38_code.specs.declared.operand.Operand.TheVariants as operands
use Rattle.s38_code.specs.declared.operand.Operand.{Operand}
use Rattle.s38_commits.specs.Unit.{CommitUnit}
use Rattle.s38_commits.specs.Units.{UnitMap}
use Rattle.s38_commits.specs.declared.change.UnitChange.{UnitChange}
use Rattle.s38_journals.specs.Entries.{JournalRecord}
use Rattle.s38_journals.specs.Journals.{JournalList}
use Rattle.s38_journals.specs.declared.entry.EntryKind.TheVariants as entry_kinds
use Rattle.s38_memory.specs.Tagged.{resized}
use Rattle.s38_memory.specs.declared.cell.Cell.{Cell}
use Rattle.s38_rules.proofs.ChargeLaws.{KeepsNumber, object_changed, object_without}
use Rattle.s38_rules.specs.state.Cells.{with_cells}
use Rattle.s38_rules.specs.ask.Authority.{is_profile}
use Rattle.s38_rules.specs.families.Changes.{CellsPut, Changes, Committed, Decommitted, Ensured, Entered, Framed, Gone, Journaled, Locked, Made, Moved, Named, OnAccess, OnCursor, OnIndex, OnQueue, Profiled, Resized, Stays, Then, done, renamed_by, through_port}
use Rattle.s38_rules.specs.families.Changing.{logged, logged_in}
use Rattle.s38_rules.specs.families.Creation.{destroyed, is_of_kind}
use Rattle.s38_rules.specs.state.Headers.{special_of}
use Rattle.s38_rules.specs.state.Held.{Held, change, ensured, has_number, kept_on_disk, kind_of, moved, object, without}
use Rattle.s38_rules.specs.state.Invocations.{restack_at}
use Rattle.s38_rules.specs.ask.Operands.{cells_put}
use Rattle.s38_rules.proofs.PartLaws.{over_same}
use Rattle.s38_rules.specs.state.Parts.{Part, cursor_part, data_part, index_part, journal_part, over, over_object, over_part, queue_part, space_part}
use Rattle.s38_rules.specs.state.PartsAt.{on_cursor, on_data, on_journal, on_space, over_table}
use Rattle.s38_rules.specs.state.LawfulParts.{IsPart, cursor_lawful, data_lawful, index_lawful, journal_lawful, queue_lawful, space_lawful}
use Rattle.s38_rules.specs.state.Journaling.{journal_for, journal_for_block}
use Rattle.s38_rules.specs.state.State.{State, process_entry}
use Rattle.s38_rules.specs.families.Units.{all_decommitted, all_undone, committed, decommitted, end_entry, end_written, journal_with_entry, put_back}
use Rattle.s38_rules.specs.declared.cursor.Cursor.{Cursor}
use Rattle.s38_rules.specs.declared.data_body.DataBody.{DataBody}
use Rattle.s38_rules.specs.declared.object.Body.TheVariants as bodies
use Rattle.s38_rules.specs.declared.object.Body.{Body}
use Rattle.s38_rules.specs.declared.object.Object.{Object}
use Rattle.s38_rules.specs.declared.process.ProcessEntry.{ProcessEntry}
use Rattle.s38_laws_confinement.proofs.PointerLaws.{cells_laid, change_kept, resized_of}
use Rattle.s38_laws_confinement.specs.OfPointers.{OfBody, OfCells, OfObject, OfObjects}
use Rattle.s38_laws_confinement.specs.Plain.{HasSameAccess, IsAsBefore, is_plain}

as_before : (x : Option Object) → IsAsBefore x x
as_before None = tt
as_before (Some x) = record { standing = refl; special = refl; user = refl }

as_before_then : (x y z : Option Object) → IsAsBefore x y → IsAsBefore y z → IsAsBefore x z
as_before_then None None None a b = tt
as_before_then None None (Some z) a b = absurd b
as_before_then None (Some y) z a b = absurd a
as_before_then (Some x) None None a b = a
as_before_then (Some x) None (Some z) a b = absurd b
as_before_then (Some x) (Some y) None a b = sym a.user ∙ b
as_before_then (Some x) (Some y) (Some z) a b = record { standing = b.standing ∙ a.standing; special = b.special ∙ a.special; user = b.user ∙ a.user }

mapped_as_before : (f : Object → Object) (x : Option Object) → ((y : Object) → HasSameAccess y (f y)) → IsAsBefore x (option_map f x)
mapped_as_before f None stands = tt
mapped_as_before f (Some x) stands = stands x

-- other objects, none of them new, with the owners and rights that they had, and of whose pointers the same holds
pub record Keeps (q : Pointer → Type 0) (h k : Held) : Type 0 where
  pub next : k.next ≡ h.next
  pub objects : (n : ℕ) → IsAsBefore (object h n) (object k n)
  pub pointers : OfObjects q h.objects → OfObjects q k.objects

pub keeps_same : (q : Pointer → Type 0) (h : Held) → Keeps q h h
keeps_same q h = record { next = refl; objects = λ n. as_before (object h n); pointers = λ of. of }

pub keeps_then : (q : Pointer → Type 0) (h j k : Held) → Keeps q h j → Keeps q j k → Keeps q h k
keeps_then q h j k a b = record {
  next = b.next ∙ a.next;
  objects = λ n. as_before_then (object h n) (object j n) (object k n) (a.objects n) (b.objects n);
  pointers = λ of. b.pointers (a.pointers of);
}

change_keeps : (q : Pointer → Type 0) (h : Held) (n : ℕ) (f : Object → Object) → KeepsNumber f → ((x : Object) → HasSameAccess x (f x)) → ((x : Object) → OfObject q x → OfObject q (f x))
    → Keeps q h (change h n f)
change_keeps q h n f number stands pointers = record {
  next = refl;
  objects = λ m. subst (IsAsBefore (object h m)) (sym (object_changed n m f h.objects number))
      (cond_both (n == m) (option_map f (object h m)) (object h m) (IsAsBefore (object h m)) (λ e. mapped_as_before f (object h m) stands) (λ e. as_before (object h m)));
  pointers = λ of. change_kept q n f h.objects pointers of;
}

renamed_keeps : (q : Pointer → Type 0) (h : Held) (n : ℕ) (id : Option Id) → Keeps q h (renamed_by h n id)
renamed_keeps q h n None = keeps_same q h
renamed_keeps q h n (Some id) = change_keeps q h n (λ x. record x { id = id }) (λ x. refl) (λ x. record { standing = refl; special = refl; user = refl }) (λ x of. of)

moved_keeps : (q : Pointer → Type 0) (h : Held) (n : ℕ) (context : ObjNum) → Keeps q h (moved h n context)
moved_keeps q h n context = change_keeps q h n (λ x. record x { context = context }) (λ x. refl) (λ x. record { standing = refl; special = refl; user = refl }) (λ x of. of)

over_of : {T : Type 0} (q : Pointer → Type 0) (part : Part T) (f : T → T) (b : Body) (r : Option T) → ((x : T) → r ≡ Some x → OfBody q (part.make (f x))) → OfBody q b → OfBody q (over part f b r)
over_of q part f b None puts of = of
over_of q part f b (Some x) puts of = puts x refl

ensured_keeps : (q : Pointer → Type 0) (h : Held) (n : ℕ) → Keeps q h (ensured h n)
ensured_keeps q h n = change_keeps q h n kept_on_disk (λ x. refl) (λ x. record { standing = refl; special = refl; user = refl }) (λ x of. of)

-- what the object of a number holds is something else, where no user's profile is of the kind
part_keeps : {T : Type 0} (q : Pointer → Type 0) (p : Part T) → IsPart T p → ((x : T) → special_of (p.make x) ≡ 0) → ((x : T) → is_profile (p.make x) ≡ false) → (h : Held) (n : ℕ) (f : T → T)
    → ((b : Body) (x : T) → b ≡ p.make x → OfBody q b → OfBody q (p.make (f x))) → Keeps q h (over_part p h n f)
part_keeps q p lawful plain other h n f puts = change_keeps q h n (over_object p f) (λ x. refl)
    (λ x. record {
      standing = refl;
      special = over_same p lawful special_of 0 plain f x.body (p.of x.body) refl;
      user = over_same p lawful is_profile false other f x.body (p.of x.body) refl;
    })
    (λ x of. over_of q p f x.body (p.of x.body) (λ y e. puts x.body y (lawful.back x.body y e) of) of)

pub space_keeps : (q : Pointer → Type 0) (h : Held) (n : ℕ) (f : List Cell → List Cell) → ((cells : List Cell) → OfCells q cells → OfCells q (f cells)) → Keeps q h (on_space h n f)
space_keeps q h n f keeps = part_keeps q space_part space_lawful (λ x. refl) (λ x. refl) h n f (λ b x e of. keeps x (subst (OfBody q) e of))

-- cells that are copied into a space
cells_keep : (q : Pointer → Type 0) (h : Held) (operand : Option Operand) (piece : List Cell) → OfCells q piece → Keeps q h (cells_put h operand piece)
cells_keep q h (Some (operands.InSpace base offset attr)) piece given =
    space_keeps q h (target_of base) (with_cells (start_of base offset) piece) (λ cells of. cells_laid q (start_of base offset) piece cells given of)
cells_keep q h _ piece given = keeps_same q h

data_keeps : (q : Pointer → Type 0) (h : Held) (n : ℕ) (f : DataBody → DataBody) → Keeps q h (on_data h n f)
data_keeps q h n f = part_keeps q data_part data_lawful (λ x. refl) (λ x. refl) h n f (λ b x e here. tt)

cursor_keeps : (q : Pointer → Type 0) (h : Held) (n : ℕ) (f : Cursor → Cursor) → Keeps q h (on_cursor h n f)
cursor_keeps q h n f = part_keeps q cursor_part cursor_lawful (λ x. refl) (λ x. refl) h n f (λ b x e here. tt)

pub journal_keeps : (q : Pointer → Type 0) (h : Held) (n : ℕ) (f : JournalList → JournalList) → Keeps q h (on_journal h n f)
journal_keeps q h n f = part_keeps q journal_part journal_lawful (λ x. refl) (λ x. refl) h n f (λ b x e here. tt)

logged_in_keeps : (q : Pointer → Type 0) (s : State) (p block : ℕ) (change : UnitChange) (journal : Option ℕ) → Keeps q s.held (logged_in s p block change journal).held
logged_in_keeps q s p block change None = keeps_same q s.held
logged_in_keeps q s p block change (Some journal) = journal_keeps q s.held journal _

logged_keeps : (q : Pointer → Type 0) (s : State) (p block : ℕ) (change : UnitChange) → Keeps q s.held (logged s p block change).held
unfolding logged
logged_keeps q s p block change = logged_in_keeps q s p block change (journal_for s.held change.space.0)

end_keeps : (q : Pointer → Type 0) (h : Held) (journal : Option ℕ) (entry : JournalRecord) → Keeps q h (end_written h journal entry)
end_keeps q h None entry = keeps_same q h
end_keeps q h (Some journal) entry = journal_keeps q h journal (journal_with_entry entry)

undone_keeps : (q : Pointer → Type 0) (changes : List UnitChange) (h : Held) → Keeps q h (all_undone h changes)
unfolding all_undone
undone_keeps q [] h = keeps_same q h
undone_keeps q (change ∷ newer) h =
    keeps_then q h (all_undone h newer) _ (undone_keeps q newer h) (data_keeps q (all_undone h newer) change.space.0 (over_table (put_back change)))

committed_keeps : (q : Pointer → Type 0) (s : State) (p block : ℕ) (unit : Option CommitUnit) → Keeps q s.held (committed s p block unit).held
committed_keeps q s p block None = keeps_same q s.held
committed_keeps q s p block (Some unit) = end_keeps q s.held (journal_for_block s.held block) (end_entry entry_kinds.Commit p unit)

decommitted_keeps : (q : Pointer → Type 0) (s : State) (p block : ℕ) (unit : Option CommitUnit) → Keeps q s.held (decommitted s p block unit).held
decommitted_keeps q s p block None = keeps_same q s.held
decommitted_keeps q s p block (Some unit) =
    keeps_then q s.held (all_undone s.held unit.changes) _ (undone_keeps q unit.changes s.held)
    (end_keeps q (all_undone s.held unit.changes) (journal_for_block s.held block) (end_entry entry_kinds.Decommit p unit))

-- the units of a process that are taken back
pub all_decommitted_keeps : (q : Pointer → Type 0) (units : UnitMap) (s : State) (p : ℕ) → Keeps q s.held (all_decommitted s p units).held
unfolding all_decommitted
all_decommitted_keeps q [] s p = keeps_same q s.held
all_decommitted_keeps q (e ∷ units) s p =
    let taken = decommitted s p e.0 (Some e.1) in
    cond_both (e.1.process == p) taken s (λ (t : State). Keeps q s.held (all_decommitted t p units).held)
    (λ own. keeps_then q s.held taken.held _ (decommitted_keeps q s p e.0 (Some e.1)) (all_decommitted_keeps q units taken p))
    (λ other. all_decommitted_keeps q units s p)

was_no_user : (kind : Kind) (x : Option Object) → same_kind kind kinds.Profile ≡ false → is_of_kind kind x ≡ true → IsAsBefore x None
was_no_user kind None other is = tt
was_no_user kind (Some x) other is = by x.body other is
  where
    by : (b : Body) → same_kind kind kinds.Profile ≡ false → same_kind kind (kind_of b) ≡ true → is_profile b ≡ false
    by (bodies.Profile special limit) other is = absurd (true≢false (sym is ∙ other))
    by _ other is = refl

-- an object that is no user's profile is gone
gone_keeps : (q : Pointer → Type 0) (h : Held) (kind : Kind) (n : ℕ) → same_kind kind kinds.Profile ≡ false → Keeps q h (destroyed h kind n)
gone_keeps q h kind n other = cond_both (is_of_kind kind (object h n)) (without h n) h (Keeps q h) (λ is. gone is) (λ stays. keeps_same q h)
  where
    same : (m : ℕ) → (n == m) ≡ true → n ≡ m
    same m e = grind (arith, nat_tests)

    gone : is_of_kind kind (object h n) ≡ true → Keeps q h (without h n)
    gone is = record {
      next = refl;
      objects = λ m. subst (IsAsBefore (object h m)) (sym (object_without n m h.objects))
          (cond_both (n == m) None (object h m) (IsAsBefore (object h m)) (λ e. was_no_user kind (object h m) other (subst (λ k. is_of_kind kind (object h k) ≡ true) (same m e) is)) (λ e. as_before (object h m)));
      pointers = λ of. All-filter (λ x. not (has_number n x)) (OfObject q) h.objects of;
    }

restack_keeps : (q : Pointer → Type 0) (f : List ObjNum → List ObjNum) (s : State) (p : ℕ) (x : Option ProcessEntry) → Keeps q s.held (restack_at f s p x).held
restack_keeps q f s p None = keeps_same q s.held
restack_keeps q f s p (Some x) = keeps_same q s.held

-- what holds of the pointers that a change puts into a space
abbrev pub OfChange : (Pointer → Type 0) → Changes → Type 0
OfChange q (CellsPut operand piece) = OfCells q piece
OfChange q (Then a b) = OfChange q a × OfChange q b
OfChange q _ = Unit {0}

pub not_true : (b : Bool) → not b ≡ true → b ≡ false
not_true true e = cc
not_true false e = refl

pub done_keeps : (q : Pointer → Type 0) (x : Changes) (s : State) (p : ℕ) → is_plain x ≡ true → OfChange q x → Keeps q s.held (done s p x).held
done_keeps q Stays s p plain of = keeps_same q s.held
done_keeps q (OnQueue n f) s p plain of = part_keeps q queue_part queue_lawful (λ x. refl) (λ x. refl) s.held n f (λ b x e here. tt)
done_keeps q (OnIndex n f) s p plain of = part_keeps q index_part index_lawful (λ x. refl) (λ x. refl) s.held n f (λ b x e here. tt)
done_keeps q (OnCursor n f) s p plain of = cursor_keeps q s.held n f
done_keeps q (Resized n bytes) s p plain of = space_keeps q s.held n (resized bytes) (λ cells here. resized_of q bytes cells here)
done_keeps q (CellsPut operand piece) s p plain of = cells_keep q s.held operand piece of
done_keeps q (Entered block change f) s p plain of = keeps_then q s.held _ _ (logged_keeps q s p block change) (data_keeps q _ change.space.0 (over_table f))
done_keeps q (Journaled n port) s p plain of = data_keeps q s.held n (through_port port)
done_keeps q (OnAccess n f) s p plain of = cc
done_keeps q (Profiled n special limit) s p plain of = cc
done_keeps q (Named n id) s p plain of = renamed_keeps q s.held n id
done_keeps q (Moved n context) s p plain of = moved_keeps q s.held n context
done_keeps q (Ensured n) s p plain of = ensured_keeps q s.held n
done_keeps q (Made owner made body) s p plain of = cc
done_keeps q (Gone kind n) s p plain of = gone_keeps q s.held kind n (not_true (same_kind kind kinds.Profile) plain)
done_keeps q (Framed f) s p plain of = restack_keeps q f s p (process_entry s p)
done_keeps q (Locked n held) s p plain of = keeps_same q s.held
done_keeps q (Committed block) s p plain of = committed_keeps q s p block _
done_keeps q (Decommitted block) s p plain of = decommitted_keeps q s p block _
done_keeps q (Then a b) s p plain of =
    let both = and_parts (is_plain a) (is_plain b) plain in
    keeps_then q s.held (done s p a).held _ (done_keeps q a s p both.0 of.0) (done_keeps q b (done s p a) p both.1 of.1)
