-- What a store keeps of an object beside its body stays wherever the store has to keep nothing anew of it: one case for
-- each word of change.
use Rattle.std.proofs.Common.{◌==◌, ◌∙◌, ◌∷◌, ◌≡◌, ◌++◌, Bool, List, [], ap, cond, false, refl, subst, sym, true, ℕ}
use Rattle.std.proofs.lemmas.Bool.{cond_both, false≢true}
use Rattle.std.proofs.lemmas.List.Folds.{find-append}
use Rattle.std.specs.Option.{option_map, option_or}
use Rattle.std.specs.Prelude.{◌&&◌, ◌||◌, None, Option, Some, nat_lt}
use Rattle.s38_base.specs.Pointers.{start_of, target_of}
use Rattle.s38_base.specs.declared.id.Id.{Id}
use Rattle.s38_base.specs.declared.id.Kind.{Kind}
use Rattle.s38_base.specs.declared.id.ObjNum.{ObjNum}
use Rattle.s38_base.specs.declared.rights.Special.{Special}
use Rattle.s38_code.specs.declared.operand.Operand.TheVariants as operands
use Rattle.s38_code.specs.declared.operand.Operand.{Operand}
use Rattle.s38_commits.proofs.MapLaws.{nat_itself, nat_same}
use Rattle.s38_commits.specs.Unit.{CommitUnit}
use Rattle.s38_commits.specs.Units.{UnitMap, unit_of}
use Rattle.s38_commits.specs.declared.change.UnitChange.{UnitChange}
use Rattle.s38_journals.specs.Entries.{JournalRecord}
use Rattle.s38_journals.specs.Journals.{JournalList}
use Rattle.s38_journals.specs.declared.entry.EntryKind.TheVariants as entry_kinds
use Rattle.s38_memory.specs.Tagged.{resized}
use Rattle.s38_memory.specs.declared.cell.Cell.{Cell}
use Rattle.s38_rules.proofs.ChargeLaws.{KeepsNumber, object_changed, object_without}
use Rattle.s38_rules.proofs.PartLaws.{over_same}
use Rattle.s38_rules.specs.state.Cells.{with_cells}
use Rattle.s38_rules.specs.families.Changes.{CellsPut, Changes, Committed, Decommitted, Ensured, Entered, Framed, Gone, Journaled, Locked, Made, Moved, Named, OnAccess, OnCursor, OnIndex, OnQueue, Profiled, Resized, Stays, Then, done, made_by, renamed_by, through_port}
use Rattle.s38_rules.specs.families.Changing.{logged, logged_in}
use Rattle.s38_rules.specs.families.Creation.{created, creation_changes, destroyed, is_of_kind, new_object}
use Rattle.s38_rules.specs.store.Forcing.{Ceiling, Forced, Header, Removed, Whole, creation_forces, followed, forced_by, forced_removal, whole_if}
use Rattle.s38_rules.specs.state.Held.{Held, change, disk_in, has_number, is_on_disk, kept_on_disk, object, with_object, without}
use Rattle.s38_rules.specs.state.Invocations.{restack_at}
use Rattle.s38_rules.specs.state.Journaling.{journal_for, journal_for_block}
use Rattle.s38_rules.specs.ask.Operands.{cells_put}
use Rattle.s38_rules.specs.state.Parts.{Part, cursor_part, data_part, index_part, journal_part, over_object, over_part, profile_of, profile_part, queue_part, space_part}
use Rattle.s38_rules.specs.state.PartsAt.{on_journal, on_space, over_table}
use Rattle.s38_rules.specs.state.LawfulParts.{IsPart, cursor_lawful, data_lawful, index_lawful, journal_lawful, queue_lawful, space_lawful}
use Rattle.s38_rules.specs.state.Access.{access_of, with_access}
use Rattle.s38_rules.specs.state.State.{State, process_entry}
use Rattle.s38_rules.specs.families.Units.{all_decommitted, all_undone, committed, decommitted, end_entry, end_written, journal_with_entry, put_back}
use Rattle.s38_rules.specs.declared.creating.Creating.{Creating}
use Rattle.s38_rules.specs.declared.object.Body.{Body}
use Rattle.s38_rules.specs.declared.object.Object.{Object}
use Rattle.s38_rules.specs.declared.process.ProcessEntry.{ProcessEntry}
use Rattle.s38_laws_objects.specs.Outline.{is_forced, kept_outline, outline_at, outline_of, speaks_of}

-- ---- what is forced

both_false : (a b : Bool) → (a || b) ≡ false → (a ≡ false) × (b ≡ false)
both_false false b h = (refl, h)
both_false true b h = cc

pub forced_both : (n : ℕ) (xs ys : List Forced) → is_forced n (xs ++ ys) ≡ false → (is_forced n xs ≡ false) × (is_forced n ys ≡ false)
forced_both n [] ys h = (refl, h)
forced_both n (x ∷ xs) ys h =
    let first = both_false (speaks_of n x) (is_forced n (xs ++ ys)) h in
    let rest = forced_both n xs ys first.1 in
    (rw (first.0, rest.0) refl, rest.1)

itself_forced : (n : ℕ) (b : Bool) → ((n == n) || b) ≡ false → ⊥
itself_forced n b h = false≢true (sym h ∙ ap (λ c. c || b) (nat_itself n))

unless_header : (n : ℕ) (d : Bool) → is_forced n (cond d (Header n ∷ []) []) ≡ false → d ≡ false
unless_header n false h = refl
unless_header n true h = absurd (itself_forced n false h)

unless_whole : (n : ℕ) (d : Bool) → is_forced n (cond d (Whole n ∷ []) []) ≡ false → d ≡ false
unless_whole n false h = refl
unless_whole n true h = absurd (itself_forced n false h)

unless_removed : (n : ℕ) (d : Bool) → is_forced n (cond d (Removed n ∷ []) []) ≡ false → d ≡ false
unless_removed n false h = refl
unless_removed n true h = absurd (itself_forced n false h)

-- ---- an object is another one

-- nothing is kept of an object that is not on disk
nothing_kept : (o : Object) → o.on_disk ≡ false → kept_outline (Some o) ≡ None
nothing_kept o off = rw off refl

change_outline : (h : Held) (n m : ℕ) (f : Object → Object) → KeepsNumber f → ((o : Object) → kept_outline (Some (f o)) ≡ kept_outline (Some o)) → outline_at (change h n f) m ≡ outline_at h m
change_outline h n m f number same = ap kept_outline (object_changed n m f h.objects number) ∙ by (n == m) (object h m)
  where
    by : (b : Bool) (x : Option Object) → kept_outline (cond b (option_map f x) x) ≡ kept_outline x
    by true None = refl
    by true (Some o) = same o
    by false x = refl

off_stays : (f : Object → Object) → ((o : Object) → (f o).on_disk ≡ o.on_disk) → (x : Option Object) → disk_in x ≡ false → kept_outline (option_map f x) ≡ kept_outline x
off_stays f disk None off = refl
off_stays f disk (Some o) off = nothing_kept (f o) (disk o ∙ off) ∙ sym (nothing_kept o off)

-- where nothing is kept anew of an object that changes, it was not on disk, and is not
followed_outline : (h : Held) (n m : ℕ) (f : Object → Object) → KeepsNumber f → ((o : Object) → (f o).on_disk ≡ o.on_disk) → is_forced m (followed h n) ≡ false → outline_at (change h n f) m ≡ outline_at h m
followed_outline h n m f number disk unforced = ap kept_outline (object_changed n m f h.objects number) ∙ by (n == m) refl
  where
    by : (b : Bool) → (n == m) ≡ b → kept_outline (cond b (option_map f (object h m)) (object h m)) ≡ kept_outline (object h m)
    by false is = refl
    by true is = off_stays f disk (object h m) (unless_header m (is_on_disk h m) (subst (λ (k : ℕ). is_forced m (followed h k) ≡ false) (nat_same n m is) unforced))

-- what an object holds is something else, where no user's profile is of the kind
part_outline : {T : Type 0} (p : Part T) → IsPart T p → ((x : T) → profile_of (p.make x) ≡ None) → (h : Held) (n m : ℕ) (f : T → T) → outline_at (over_part p h n f) m ≡ outline_at h m
part_outline p lawful other h n m f = change_outline h n m (over_object p f) (λ o. refl)
    (λ o. ap (λ (user : Option (Special × ℕ)). cond o.on_disk (Some (record (outline_of o) { user = user })) None) (over_same p lawful profile_of None other f o.body (p.of o.body) refl))

pub space_outline : (h : Held) (n m : ℕ) (f : List Cell → List Cell) → outline_at (on_space h n f) m ≡ outline_at h m
space_outline h n m f = part_outline space_part space_lawful (λ x. refl) h n m f

pub journal_outline : (h : Held) (n m : ℕ) (f : JournalList → JournalList) → outline_at (on_journal h n f) m ≡ outline_at h m
journal_outline h n m f = part_outline journal_part journal_lawful (λ x. refl) h n m f

cells_outline : (h : Held) (operand : Option Operand) (piece : List Cell) (m : ℕ) → outline_at (cells_put h operand piece) m ≡ outline_at h m
cells_outline h (Some (operands.InSpace base offset attr)) piece m = space_outline h (target_of base) m (with_cells (start_of base offset) piece)
cells_outline h _ piece m = refl

renamed_outline : (h : Held) (n m : ℕ) (id : Option Id) → is_forced m (followed h n) ≡ false → outline_at (renamed_by h n id) m ≡ outline_at h m
renamed_outline h n m None unforced = refl
renamed_outline h n m (Some id) unforced = followed_outline h n m (λ o. record o { id = id }) (λ o. refl) (λ o. refl) unforced

-- an object that is ensured is kept whole; others stay as they were
ensured_outline : (h : Held) (n m : ℕ) (more : List Forced) → is_forced m (Whole n ∷ more) ≡ false → outline_at (change h n kept_on_disk) m ≡ outline_at h m
ensured_outline h n m more unforced = ap kept_outline (object_changed n m kept_on_disk h.objects (λ o. refl)) ∙ by (n == m) (both_false _ _ unforced).0
  where
    by : (b : Bool) → b ≡ false → kept_outline (cond b (option_map kept_on_disk (object h m)) (object h m)) ≡ kept_outline (object h m)
    by false is = refl
    by true is = cc

-- ---- an object is made

-- a user is kept whole, and nothing of another new object
new_outline : (h : Held) (x : Object) (m : ℕ) → is_forced m (creation_forces h (with_object h x)) ≡ false → x.number.0 ≡ h.next → outline_at (with_object h x) m ≡ outline_at h m
new_outline h x m unforced number = ap kept_outline (find-append (has_number m) h.objects (x ∷ [])) ∙ by (object h m) refl (x.number.0 == m) refl
  where
    whole : is_forced m (cond (is_on_disk (with_object h x) h.next) (Whole h.next ∷ []) []) ≡ false
    whole = (forced_both m (cond (nat_lt h.ceiling (with_object h x).ceiling) (Ceiling ∷ []) []) (cond (is_on_disk (with_object h x) h.next) (Whole h.next ∷ []) []) unforced).1

    there : object h m ≡ None → (x.number.0 == m) ≡ true → object (with_object h x) m ≡ Some x
    there none is = find-append (has_number m) h.objects (x ∷ []) ∙ rw (none, is) refl

    same : (x.number.0 == m) ≡ true → m ≡ h.next
    same is = sym (nat_same x.number.0 m is) ∙ number

    off : object h m ≡ None → (x.number.0 == m) ≡ true → x.on_disk ≡ false
    off none is = sym (ap disk_in (there none is)) ∙ unless_whole m (is_on_disk (with_object h x) m)
        (subst (λ (k : ℕ). is_forced m (cond (is_on_disk (with_object h x) k) (Whole k ∷ []) []) ≡ false) (sym (same is)) whole)

    by : (y : Option Object) → object h m ≡ y → (b : Bool) → (x.number.0 == m) ≡ b → kept_outline (option_or y (cond b (Some x) None)) ≡ kept_outline y
    by (Some o) found b is = refl
    by None none false is = refl
    by None none true is = nothing_kept x (off none is)

made_outline : (h : Held) (owner m : ℕ) (made : Creating) (body : Option Body) → is_forced m (creation_forces h (made_by h owner made body)) ≡ false → outline_at (made_by h owner made body) m ≡ outline_at h m
unfolding creation_changes
made_outline h owner m made None unforced = refl
made_outline h owner m made (Some body) unforced = by made.id unforced
  where
    by : (id : Option Id) → is_forced m (creation_forces h (created h owner made body id)) ≡ false → outline_at (created h owner made body id) m ≡ outline_at h m
    by None unforced = refl
    by (Some id) unforced = new_outline h (new_object h owner made id body) m unforced refl

-- ---- an object is destroyed

gone_outline : (h : Held) (kind : Kind) (n m : ℕ) → is_forced m (forced_removal h kind n) ≡ false → outline_at (destroyed h kind n) m ≡ outline_at h m
gone_outline h kind n m unforced = by (is_of_kind kind (object h n)) refl
  where
    off : is_of_kind kind (object h n) ≡ true → n ≡ m → disk_in (object h m) ≡ false
    off of is = unless_removed m (is_on_disk h m)
        (subst (λ (k : ℕ). is_forced m (cond (is_on_disk h k) (Removed k ∷ []) []) ≡ false) is
        (subst (λ (b : Bool). is_forced m (cond (b && is_on_disk h n) (Removed n ∷ []) []) ≡ false) of unforced))

    none : (x : Option Object) → disk_in x ≡ false → None ≡ kept_outline x
    none None off = refl
    none (Some o) off = sym (nothing_kept o off)

    gone : is_of_kind kind (object h n) ≡ true → (b : Bool) → (n == m) ≡ b → kept_outline (cond b None (object h m)) ≡ kept_outline (object h m)
    gone of false is = refl
    gone of true is = none (object h m) (off of (nat_same n m is))

    by : (b : Bool) → is_of_kind kind (object h n) ≡ b → outline_at (cond b (without h n) h) m ≡ outline_at h m
    by false of = refl
    by true of = ap kept_outline (object_without n m h.objects) ∙ gone of (n == m) refl

-- ---- units

logged_in_outline : (s : State) (p block : ℕ) (change : UnitChange) (journal : Option ℕ) (m : ℕ) → outline_at (logged_in s p block change journal).held m ≡ outline_at s.held m
logged_in_outline s p block change None m = refl
logged_in_outline s p block change (Some journal) m = journal_outline s.held journal m _

logged_outline : (s : State) (p block : ℕ) (change : UnitChange) (m : ℕ) → outline_at (logged s p block change).held m ≡ outline_at s.held m
unfolding logged
logged_outline s p block change m = logged_in_outline s p block change (journal_for s.held change.space.0) m

end_outline : (h : Held) (journal : Option ℕ) (entry : JournalRecord) (m : ℕ) → outline_at (end_written h journal entry) m ≡ outline_at h m
end_outline h None entry m = refl
end_outline h (Some journal) entry m = journal_outline h journal m (journal_with_entry entry)

undone_outline : (changes : List UnitChange) (h : Held) (m : ℕ) → outline_at (all_undone h changes) m ≡ outline_at h m
unfolding all_undone
undone_outline [] h m = refl
undone_outline (change ∷ newer) h m =
    part_outline data_part data_lawful (λ x. refl) (all_undone h newer) change.space.0 m (over_table (put_back change)) ∙ undone_outline newer h m

committed_outline : (s : State) (p block : ℕ) (unit : Option CommitUnit) (m : ℕ) → outline_at (committed s p block unit).held m ≡ outline_at s.held m
committed_outline s p block None m = refl
committed_outline s p block (Some unit) m = end_outline s.held (journal_for_block s.held block) (end_entry entry_kinds.Commit p unit) m

decommitted_outline : (s : State) (p block : ℕ) (unit : Option CommitUnit) (m : ℕ) → outline_at (decommitted s p block unit).held m ≡ outline_at s.held m
decommitted_outline s p block None m = refl
decommitted_outline s p block (Some unit) m =
    end_outline (all_undone s.held unit.changes) (journal_for_block s.held block) (end_entry entry_kinds.Decommit p unit) m ∙ undone_outline unit.changes s.held m

pub all_decommitted_outline : (units : UnitMap) (s : State) (p m : ℕ) → outline_at (all_decommitted s p units).held m ≡ outline_at s.held m
unfolding all_decommitted
all_decommitted_outline [] s p m = refl
all_decommitted_outline (e ∷ units) s p m =
    let taken = decommitted s p e.0 (Some e.1) in
    cond_both (e.1.process == p) taken s (λ (t : State). outline_at (all_decommitted t p units).held m ≡ outline_at s.held m)
    (λ own. all_decommitted_outline units taken p m ∙ decommitted_outline s p e.0 (Some e.1) m)
    (λ other. all_decommitted_outline units s p m)

-- ---- each word of change

restacked_outline : (f : List ObjNum → List ObjNum) (s : State) (p m : ℕ) (x : Option ProcessEntry) → outline_at (restack_at f s p x).held m ≡ outline_at s.held m
restacked_outline f s p m None = refl
restacked_outline f s p m (Some x) = refl

pub done_outline : (x : Changes) (s : State) (p m : ℕ) → is_forced m (forced_by s p x) ≡ false → outline_at (done s p x).held m ≡ outline_at s.held m
done_outline Stays s p m unforced = refl
done_outline (OnQueue n f) s p m unforced = part_outline queue_part queue_lawful (λ x. refl) s.held n m f
done_outline (OnIndex n f) s p m unforced = part_outline index_part index_lawful (λ x. refl) s.held n m f
done_outline (OnCursor n f) s p m unforced = part_outline cursor_part cursor_lawful (λ x. refl) s.held n m f
done_outline (Resized n bytes) s p m unforced = space_outline s.held n m (resized bytes)
done_outline (CellsPut operand piece) s p m unforced = cells_outline s.held operand piece m
done_outline (Entered block change f) s p m unforced =
    part_outline data_part data_lawful (λ x. refl) (logged s p block change).held change.space.0 m (over_table f) ∙ logged_outline s p block change m
done_outline (Journaled n port) s p m unforced = part_outline data_part data_lawful (λ x. refl) s.held n m (through_port port)
done_outline (OnAccess n f) s p m unforced = followed_outline s.held n m (λ o. with_access (f (access_of o)) o) (λ o. refl) (λ o. refl) unforced
done_outline (Profiled n special limit) s p m unforced = followed_outline s.held n m (over_object profile_part (λ _. (special, limit))) (λ o. refl) (λ o. refl) unforced
done_outline (Named n id) s p m unforced = renamed_outline s.held n m id unforced
done_outline (Moved n context) s p m unforced = followed_outline s.held n m (λ o. record o { context = context }) (λ o. refl) (λ o. refl) unforced
done_outline (Ensured n) s p m unforced = ensured_outline s.held n m (whole_if (journal_for s.held n)) unforced
done_outline (Made owner made body) s p m unforced = made_outline s.held owner m made body unforced
done_outline (Gone kind n) s p m unforced = gone_outline s.held kind n m unforced
done_outline (Framed f) s p m unforced = restacked_outline f s p m (process_entry s p)
done_outline (Locked n held) s p m unforced = refl
done_outline (Committed block) s p m unforced = committed_outline s p block (unit_of s.units block) m
done_outline (Decommitted block) s p m unforced = decommitted_outline s p block (unit_of s.units block) m
done_outline (Then a b) s p m unforced =
    let both = forced_both m (forced_by s p a) (forced_by (done s p a) p b) unforced in
    done_outline b (done s p a) p m both.1 ∙ done_outline a s p m both.0
