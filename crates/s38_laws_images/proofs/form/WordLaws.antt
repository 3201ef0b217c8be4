-- Step by step bodies keep their form: one case for each word of change.
use Rattle.std.proofs.Common.{List, [], not, refl, subst, true, ℕ, ◌==◌, ◌∷◌, ◌≡◌}
use Rattle.std.proofs.lemmas.Bool.{cond_both}
use Rattle.std.proofs.lemmas.List.Elements.{All-append, All-cons, All-filter, All-head, All-nil, All-tail}
use Rattle.std.specs.Prelude.{All, None, Option, Some}
use Rattle.s38_base.specs.Pointers.{start_of, target_of}
use Rattle.s38_base.specs.declared.id.Id.{Id}
use Rattle.s38_base.specs.declared.id.Kind.{Kind}
use Rattle.s38_base.specs.declared.id.ObjNum.{ObjNum}
use Rattle.s38_code.specs.declared.operand.Operand.TheVariants as operands
use Rattle.s38_code.specs.declared.operand.Operand.{Operand}
use Rattle.s38_commits.specs.Changes.{journal_bytes}
use Rattle.s38_commits.specs.Unit.{CommitUnit}
use Rattle.s38_commits.specs.Units.{UnitMap, unit_of}
use Rattle.s38_commits.specs.declared.change.UnitChange.{UnitChange}
use Rattle.s38_dataspaces.specs.Table.{DataTable}
use Rattle.s38_image.specs.Bodies.{is_special_byte}
use Rattle.s38_journals.specs.Entries.{JournalRecord}
use Rattle.s38_journals.specs.Journals as journals
use Rattle.s38_journals.specs.declared.entry.EntryKind.TheVariants as entry_kinds
use Rattle.s38_memory.specs.Tagged.{resized}
use Rattle.s38_memory.specs.declared.cell.Cell.{Cell}
use Rattle.s38_queues.specs.MessageQueue.{MessageQueue}
use Rattle.s38_laws_images.specs.readable.Forms.{HasForm, HoldsForm, has_keys}
use Rattle.s38_rules.specs.state.Cells.{with_cells}
use Rattle.s38_rules.specs.families.Changes.{CellsPut, Changes, Committed, Decommitted, Ensured, Entered, Framed, Gone, Journaled, Locked, Made, Moved, Named, OnAccess, OnCursor, OnIndex, OnQueue, Profiled, Resized, Stays, Then, done, made_by, renamed_by, through_port}
use Rattle.s38_rules.specs.families.Changing.{change_entry, logged, logged_in, next_sequence, number_for, with_change_logged}
use Rattle.s38_rules.specs.families.Creation.{created, creation_changes, destroyed, is_of_kind, new_object}
use Rattle.s38_rules.specs.state.Held.{Held, change, change_in, has_number, kept_on_disk, object, without}
use Rattle.s38_rules.specs.state.Invocations.{restack_at}
use Rattle.s38_rules.specs.state.Journaling.{journal_for, journal_for_block, open_after}
use Rattle.s38_rules.specs.ask.Operands.{cells_put}
use Rattle.s38_rules.specs.state.Parts.{Part, cursor_part, data_part, index_part, journal_part, over, over_object, over_part, profile_part, queue_part, space_part}
use Rattle.s38_rules.specs.state.PartsAt.{journal_at, over_table}
use Rattle.s38_rules.specs.state.LawfulParts.{IsPart, queue_lawful}
use Rattle.s38_rules.specs.state.Access.{access_of, with_access}
use Rattle.s38_rules.specs.state.State.{State, process_entry}
use Rattle.s38_rules.specs.families.Units.{all_decommitted, all_undone, committed, decommitted, end_entry, end_written, journal_with_entry as with_last, put_back}
use Rattle.s38_rules.specs.declared.creating.Creating.{Creating}
use Rattle.s38_rules.specs.declared.object.Body.{Body}
use Rattle.s38_rules.specs.declared.object.Object.{Object}
use Rattle.s38_rules.specs.declared.process.ProcessEntry.{ProcessEntry}

-- the bodies of a map have their form
abbrev pub Hold : Held → Type 0
Hold h = All HoldsForm h.objects

-- ---- an object is another one

changed_hold : (n : ℕ) (f : Object → Object) (os : List Object) → ((o : Object) → HoldsForm o → HoldsForm (f o)) → All HoldsForm os → All HoldsForm (change_in os n f)
changed_hold n f [] next all = all
changed_hold n f (o ∷ os) next all =
    let here = All-head HoldsForm o os all in
    let rest = All-tail HoldsForm o os all in
    cond_both (has_number n o) (f o ∷ os) (o ∷ change_in os n f) (All HoldsForm)
    (λ own. All-cons HoldsForm (f o) os (next o here) rest)
    (λ other. All-cons HoldsForm o (change_in os n f) here (changed_hold n f os next rest))

change_hold : (h : Held) (n : ℕ) (f : Object → Object) → ((o : Object) → HoldsForm o → HoldsForm (f o)) → Hold h → Hold (change h n f)
change_hold h n f next all = changed_hold n f h.objects next all

over_form : {T : Type 0} (p : Part T) (f : T → T) → ((x : T) → HasForm (p.make (f x))) → (b : Body) (r : Option T) → HasForm b → HasForm (over p f b r)
over_form p f has b None was = was
over_form p f has b (Some x) was = has x

-- what a body holds is something else that has the form
part_hold : {T : Type 0} (p : Part T) (f : T → T) → ((x : T) → HasForm (p.make (f x))) → (h : Held) (n : ℕ) → Hold h → Hold (over_part p h n f)
part_hold p f has h n all = change_hold h n (over_object p f) (λ o was. over_form p f has o.body (p.of o.body) was) all

-- what a body holds keeps the form
kept_form : {T : Type 0} (p : Part T) → IsPart T p → (f : T → T) → ((x : T) → HasForm (p.make x) → HasForm (p.make (f x))) → (b : Body) (r : Option T) → p.of b ≡ r → HasForm b → HasForm (over p f b r)
kept_form p lawful f keeps b None is was = was
kept_form p lawful f keeps b (Some x) is was = keeps x (subst HasForm (lawful.back b x is) was)

queue_hold : (f : MessageQueue → MessageQueue) → ((q : MessageQueue) → has_keys q.order q.key_len ≡ true → has_keys (f q).order (f q).key_len ≡ true) → (h : Held) (n : ℕ) → Hold h → Hold (over_part queue_part h n f)
queue_hold f keeps h n all = change_hold h n (over_object queue_part f) (λ o was. kept_form queue_part queue_lawful f keeps o.body (queue_part.of o.body) refl was) all

pub forced_hold : (h : Held) (n : ℕ) → Hold h → Hold (over_part journal_part h n journals.forced)
forced_hold h n all = part_hold journal_part journals.forced (λ j. tt) h n all

pub space_hold : (h : Held) (n : ℕ) (f : List Cell → List Cell) → Hold h → Hold (over_part space_part h n f)
space_hold h n f all = part_hold space_part f (λ cells. tt) h n all

cells_hold : (h : Held) (operand : Option Operand) (piece : List Cell) → Hold h → Hold (cells_put h operand piece)
cells_hold h (Some (operands.InSpace base offset attr)) piece all = space_hold h (target_of base) (with_cells (start_of base offset) piece) all
cells_hold h _ piece all = all

named_hold : (h : Held) (n : ℕ) (id : Option Id) → Hold h → Hold (renamed_by h n id)
named_hold h n None all = all
named_hold h n (Some id) all = change_hold h n (λ o. record o { id = id }) (λ o was. was) all

-- ---- objects are made and destroyed

abbrev pub MadeSo : Option Body → Type 0
MadeSo None = Unit {0}
MadeSo (Some body) = HasForm body

created_hold : (h : Held) (owner : ℕ) (made : Creating) (body : Body) (id : Option Id) → HasForm body → Hold h → Hold (created h owner made body id)
created_hold h owner made body None so all = all
created_hold h owner made body (Some id) so all = All-append HoldsForm h.objects (new_object h owner made id body ∷ []) all (All-cons HoldsForm (new_object h owner made id body) [] so (All-nil HoldsForm))

made_hold : (h : Held) (owner : ℕ) (made : Creating) (body : Option Body) → MadeSo body → Hold h → Hold (made_by h owner made body)
unfolding creation_changes
made_hold h owner made None so all = all
made_hold h owner made (Some body) so all = created_hold h owner made body made.id so all

gone_hold : (h : Held) (kind : Kind) (n : ℕ) → Hold h → Hold (destroyed h kind n)
gone_hold h kind n all = cond_both (is_of_kind kind (object h n)) (without h n) h Hold (λ of. All-filter (λ o. not (has_number n o)) HoldsForm h.objects all) (λ other. all)

-- ---- units

logged_in_hold : (s : State) (p block : ℕ) (change : UnitChange) (journal : Option ℕ) → Hold s.held → Hold (logged_in s p block change journal).held
logged_in_hold s p block change None all = all
logged_in_hold s p block change (Some journal) all =
    let entry = change_entry (number_for s.units block (next_sequence (journal_at s.held journal))) p change in
    part_hold journal_part (with_change_logged (journal_bytes change) (open_after s.held s.units journal block) entry) (λ j. tt) s.held journal all

entered_hold : (s : State) (p block : ℕ) (change : UnitChange) (f : DataTable → DataTable) → Hold s.held → Hold (over_part data_part (logged s p block change).held change.space.0 (over_table f))
unfolding logged
entered_hold s p block change f all =
    part_hold data_part (over_table f) (λ d. tt) (logged s p block change).held change.space.0 (logged_in_hold s p block change (journal_for s.held change.space.0) all)

end_hold : (h : Held) (journal : Option ℕ) (entry : JournalRecord) → Hold h → Hold (end_written h journal entry)
end_hold h None entry all = all
end_hold h (Some journal) entry all = part_hold journal_part (with_last entry) (λ j. tt) h journal all

undone_hold : (changes : List UnitChange) (h : Held) → Hold h → Hold (all_undone h changes)
unfolding all_undone
undone_hold [] h all = all
undone_hold (change ∷ newer) h all = part_hold data_part (over_table (put_back change)) (λ d. tt) (all_undone h newer) change.space.0 (undone_hold newer h all)

committed_hold : (s : State) (p block : ℕ) (unit : Option CommitUnit) → Hold s.held → Hold (committed s p block unit).held
committed_hold s p block None all = all
committed_hold s p block (Some unit) all = end_hold s.held (journal_for_block s.held block) (end_entry entry_kinds.Commit p unit) all

decommitted_hold : (s : State) (p block : ℕ) (unit : Option CommitUnit) → Hold s.held → Hold (decommitted s p block unit).held
decommitted_hold s p block None all = all
decommitted_hold s p block (Some unit) all =
    end_hold (all_undone s.held unit.changes) (journal_for_block s.held block) (end_entry entry_kinds.Decommit p unit) (undone_hold unit.changes s.held all)

pub all_decommitted_hold : (units : UnitMap) (s : State) (p : ℕ) → Hold s.held → Hold (all_decommitted s p units).held
unfolding all_decommitted
all_decommitted_hold [] s p all = all
all_decommitted_hold (e ∷ units) s p all =
    let taken = decommitted s p e.0 (Some e.1) in
    cond_both (e.1.process == p) taken s (λ (t : State). Hold (all_decommitted t p units).held)
    (λ own. all_decommitted_hold units taken p (decommitted_hold s p e.0 (Some e.1) all))
    (λ other. all_decommitted_hold units s p all)

-- ---- each word of change

restacked_hold : (f : List ObjNum → List ObjNum) (s : State) (p : ℕ) (x : Option ProcessEntry) → Hold s.held → Hold (restack_at f s p x).held
restacked_hold f s p None all = all
restacked_hold f s p (Some x) all = all

-- what is made has the form, a queue keeps it, and a user's special authorities have it
abbrev pub May : State → ℕ → Changes → Type 0
May s p (OnQueue n f) = (q : MessageQueue) → has_keys q.order q.key_len ≡ true → has_keys (f q).order (f q).key_len ≡ true
May s p (Made owner made body) = MadeSo body
May s p (Profiled n special limit) = is_special_byte special.0 ≡ true
May s p (Then a b) = May s p a × May (done s p a) p b
May s p _ = Unit {0}

pub done_hold : (x : Changes) (s : State) (p : ℕ) → May s p x → Hold s.held → Hold (done s p x).held
done_hold Stays s p may all = all
done_hold (OnQueue n f) s p may all = queue_hold f may s.held n all
done_hold (OnIndex n f) s p may all = part_hold index_part f (λ i. tt) s.held n all
done_hold (OnCursor n f) s p may all = part_hold cursor_part f (λ c. tt) s.held n all
done_hold (Resized n bytes) s p may all = space_hold s.held n (resized bytes) all
done_hold (CellsPut operand piece) s p may all = cells_hold s.held operand piece all
done_hold (Entered block change f) s p may all = entered_hold s p block change f all
done_hold (Journaled n port) s p may all = part_hold data_part (through_port port) (λ d. tt) s.held n all
done_hold (OnAccess n f) s p may all = change_hold s.held n (λ o. with_access (f (access_of o)) o) (λ o was. was) all
done_hold (Profiled n special limit) s p may all = part_hold profile_part (λ _. (special, limit)) (λ x. may) s.held n all
done_hold (Named n id) s p may all = named_hold s.held n id all
done_hold (Moved n context) s p may all = change_hold s.held n (λ o. record o { context = context }) (λ o was. was) all
done_hold (Ensured n) s p may all = change_hold s.held n kept_on_disk (λ o was. was) all
done_hold (Made owner made body) s p may all = made_hold s.held owner made body may all
done_hold (Gone kind n) s p may all = gone_hold s.held kind n all
done_hold (Framed f) s p may all = restacked_hold f s p (process_entry s p) all
done_hold (Locked n held) s p may all = all
done_hold (Committed block) s p may all = committed_hold s p block (unit_of s.units block) all
done_hold (Decommitted block) s p may all = decommitted_hold s p block (unit_of s.units block) all
done_hold (Then a b) s p may all = done_hold b (done s p a) p may.1 (done_hold a s p may.0 all)
