-- What lies inside a space still does after every change but those that cut a space or take an object away: one case
-- for each word of change.
use Rattle.std.proofs.Common.{◌*◌, ◌++◌, ◌+◌, ◌-◌, ◌/◌, ◌==◌, ◌∙◌, ◌∷◌, ◌≡◌, Bool, List, [], ap, arith, cond, drop, false, length, length-append, min, refl, subst, sym, take, true, ℕ}
use Rattle.std.proofs.lemmas.Bool.Decides.{nat_tests}
use Rattle.std.proofs.lemmas.Bool.{and_parts, cond_both}
use Rattle.std.proofs.lemmas.List.{length-drop, length-take}
use Rattle.std.specs.Option.{option_map, unwrap_or}
use Rattle.std.specs.Prelude.{◌&&◌, None, Option, Some, is_some, nat_le}
use Rattle.s38_base.specs.Pointers.{start_of, target_of}
use Rattle.s38_base.specs.declared.id.Id.{Id}
use Rattle.s38_base.specs.declared.id.ObjNum.{ObjNum}
use Rattle.s38_code.specs.declared.operand.Operand.TheVariants as operands
use Rattle.s38_code.specs.declared.operand.Operand.{Operand}
use Rattle.s38_commits.specs.Unit.{CommitUnit}
use Rattle.s38_commits.specs.declared.change.UnitChange.{UnitChange}
use Rattle.s38_journals.specs.Entries.{JournalRecord}
use Rattle.s38_journals.specs.declared.entry.EntryKind.TheVariants as entry_kinds
use Rattle.s38_memory.specs.Tagged.{is_aligned, is_within, overlaid}
use Rattle.s38_memory.specs.declared.cell.Cell.{Cell}
use Rattle.s38_rules.proofs.ChargeLaws.{KeepsNumber, object_changed}
use Rattle.s38_rules.specs.state.Cells.{with_cells}
use Rattle.s38_rules.specs.families.Changes.{CellsPut, Changes, Committed, Decommitted, Ensured, Entered, Framed, Gone, Journaled, Locked, Made, Moved, Named, OnAccess, OnCursor, OnIndex, OnQueue, Profiled, Resized, Stays, Then, done, made_by, renamed_by, through_port}
use Rattle.s38_rules.specs.families.Changing.{logged, logged_in}
use Rattle.s38_rules.specs.families.Creation.{created, creation_changes}
use Rattle.s38_rules.specs.state.Held.{Held, change, has_number, kept_on_disk, object, object_in}
use Rattle.s38_rules.specs.state.Invocations.{restack_at}
use Rattle.s38_rules.specs.state.Journaling.{journal_for, journal_for_block}
use Rattle.s38_rules.specs.ask.Operands.{cells_put}
use Rattle.s38_rules.specs.state.Parts.{Part, cursor_part, data_part, index_part, journal_part, over, over_object, over_part, part_in, profile_part, queue_part, space_of, space_part}
use Rattle.s38_rules.specs.state.PartsAt.{on_data, on_journal, on_space, over_table}
use Rattle.s38_rules.specs.state.LawfulParts.{IsPart, cursor_lawful, data_lawful, index_lawful, journal_lawful, queue_lawful}
use Rattle.s38_rules.specs.state.Access.{access_of, with_access}
use Rattle.s38_rules.specs.state.State.{State, process_entry}
use Rattle.s38_rules.specs.families.Units.{all_undone, committed, decommitted, end_entry, end_written, journal_with_entry, put_back}
use Rattle.s38_rules.specs.declared.creating.Creating.{Creating}
use Rattle.s38_rules.specs.declared.object.Body.TheVariants as bodies
use Rattle.s38_rules.specs.declared.object.Body.{Body}
use Rattle.s38_rules.specs.declared.object.Object.{Object}
use Rattle.s38_rules.specs.declared.process.ProcessEntry.{ProcessEntry}
use Rattle.s38_laws_bounds.specs.Placed.{KeepsBytes, leaves_spaces}

keeps_same : (h : Held) → KeepsBytes h h
keeps_same h n at len is = is

keeps_then : (h j k : Held) → KeepsBytes h j → KeepsBytes j k → KeepsBytes h k
keeps_then h j k a b n at len is = b n at len (a n at len is)

-- so many bytes are cells of this list, where there is one
abbrev are_in : Option (List Cell) → ℕ → ℕ → Bool
are_in x at len = is_some x && is_within at len (unwrap_or x [])

-- ---- an object is another one

changed_keeps : (h : Held) (n : ℕ) (f : Object → Object) → KeepsNumber f
    → ((x : Object) (at len : ℕ) → are_in (space_of x.body) at len ≡ true → are_in (space_of (f x).body) at len ≡ true) → KeepsBytes h (change h n f)
changed_keeps h n f number keeps m at len is =
    subst (λ x. are_in (part_in space_part x) at len ≡ true) (sym (object_changed n m f h.objects number)) (by (n == m) (object h m) is)
  where
    by : (b : Bool) (x : Option Object) → are_in (part_in space_part x) at len ≡ true → are_in (part_in space_part (cond b (option_map f x) x)) at len ≡ true
    by true None is = cc
    by true (Some x) is = keeps x at len is
    by false x is = is

-- its body stays
header_keeps : (h : Held) (n : ℕ) (f : Object → Object) → KeepsNumber f → ((x : Object) → (f x).body ≡ x.body) → KeepsBytes h (change h n f)
header_keeps h n f number body = changed_keeps h n f number (λ x at len is. subst (λ b. are_in (space_of b) at len ≡ true) (sym (body x)) is)

over_apart : {T : Type 0} (q : Part T) → IsPart T q → ((x : T) → space_of (q.make x) ≡ None) → (f : T → T) (b : Body) (r : Option T) → q.of b ≡ r → space_of (over q f b r) ≡ space_of b
over_apart q lawful other f b None is = refl
over_apart q lawful other f b (Some x) is = other (f x) ∙ sym (ap space_of (lawful.back b x is) ∙ other x)

-- what is no space holds something else
part_keeps : {T : Type 0} (q : Part T) → IsPart T q → ((x : T) → space_of (q.make x) ≡ None) → (h : Held) (n : ℕ) (f : T → T) → KeepsBytes h (over_part q h n f)
part_keeps q lawful other h n f = changed_keeps h n (over_object q f) (λ x. refl)
    (λ x at len is. subst (λ r. are_in r at len ≡ true) (sym (over_apart q lawful other f x.body (q.of x.body) refl)) is)

profile_keeps : (h : Held) (n : ℕ) (f : _ → _) → KeepsBytes h (over_part profile_part h n f)
profile_keeps h n f = changed_keeps h n (over_object profile_part f) (λ x. refl) (λ x at len is. by x.body at len is)
  where
    by : (b : Body) (at len : ℕ) → are_in (space_of b) at len ≡ true → are_in (space_of (over profile_part f b (profile_part.of b))) at len ≡ true
    by (bodies.Profile special limit) at len is = is
    by _ at len is = is

-- a space holds as many other cells
space_keeps : (h : Held) (n : ℕ) (f : List Cell → List Cell) → ((cells : List Cell) → length (f cells) ≡ length cells) → KeepsBytes h (on_space h n f)
space_keeps h n f same = changed_keeps h n (over_object space_part f) (λ x. refl) (λ x at len is. by x.body at len is)
  where
    by : (b : Body) (at len : ℕ) → are_in (space_of b) at len ≡ true → are_in (space_of (over space_part f b (space_of b))) at len ≡ true
    by (bodies.Space cells) at len is = subst (λ count. nat_le (at + len) (16 * count) ≡ true) (sym (same cells)) is
    by _ at len is = is

-- ---- cells that are put

few_cells : (at piece cells : ℕ) → nat_le (at + 16 * piece) (16 * cells) ≡ true → min (at / 16) cells + (piece + (cells - (at / 16 + piece))) ≡ cells
few_cells at piece cells is = grind (arith, nat_tests)

laid_length : (at : ℕ) (piece cells : List Cell) → length (with_cells at piece cells) ≡ length cells
laid_length at piece cells =
    cond_both (is_within at (16 * length piece) cells && is_aligned at) (overlaid (at / 16) piece cells) cells (λ (new : List Cell). length new ≡ length cells)
    (λ yes.
    let behind = drop (at / 16 + length piece) cells in
    let all = length-append (take (at / 16) cells) (piece ++ behind) in
    let last = length-append piece behind in
    let front = length-take (at / 16) cells in
    let rest = length-drop (at / 16 + length piece) cells in
    let few = few_cells at (length piece) (length cells) (and_parts (is_within at (16 * length piece) cells) (is_aligned at) yes).0 in
    omega (arith, all, last, front, rest, few))
    (λ no. refl)

cells_keep : (h : Held) (x : Option Operand) (piece : List Cell) → KeepsBytes h (cells_put h x piece)
cells_keep h (Some (operands.InSpace base offset attr)) piece =
    space_keeps h (target_of base) (with_cells (start_of base offset) piece) (λ cells. laid_length (start_of base offset) piece cells)
cells_keep h _ piece = keeps_same h

-- ---- entries, journals and units

data_keeps : (h : Held) (n : ℕ) (f : _ → _) → KeepsBytes h (on_data h n f)
data_keeps h n f = part_keeps data_part data_lawful (λ x. refl) h n f

journal_keeps : (h : Held) (n : ℕ) (f : _ → _) → KeepsBytes h (on_journal h n f)
journal_keeps h n f = part_keeps journal_part journal_lawful (λ x. refl) h n f

logged_in_keeps : (s : State) (p block : ℕ) (change : UnitChange) (journal : Option ℕ) → KeepsBytes s.held (logged_in s p block change journal).held
logged_in_keeps s p block change None = keeps_same s.held
logged_in_keeps s p block change (Some journal) = journal_keeps s.held journal _

logged_keeps : (s : State) (p block : ℕ) (change : UnitChange) → KeepsBytes s.held (logged s p block change).held
unfolding logged
logged_keeps s p block change = logged_in_keeps s p block change (journal_for s.held change.space.0)

end_keeps : (h : Held) (journal : Option ℕ) (entry : JournalRecord) → KeepsBytes h (end_written h journal entry)
end_keeps h None entry = keeps_same h
end_keeps h (Some journal) entry = journal_keeps h journal (journal_with_entry entry)

undone_keeps : (changes : List UnitChange) (h : Held) → KeepsBytes h (all_undone h changes)
unfolding all_undone
undone_keeps [] h = keeps_same h
undone_keeps (change ∷ newer) h =
    let behind = all_undone h newer in
    keeps_then h behind (on_data behind change.space.0 (over_table (put_back change))) (undone_keeps newer h) (data_keeps behind change.space.0 (over_table (put_back change)))

committed_keeps : (s : State) (p block : ℕ) (unit : Option CommitUnit) → KeepsBytes s.held (committed s p block unit).held
committed_keeps s p block None = keeps_same s.held
committed_keeps s p block (Some unit) = end_keeps s.held (journal_for_block s.held block) (end_entry entry_kinds.Commit p unit)

decommitted_keeps : (s : State) (p block : ℕ) (unit : Option CommitUnit) → KeepsBytes s.held (decommitted s p block unit).held
decommitted_keeps s p block None = keeps_same s.held
decommitted_keeps s p block (Some unit) =
    let back = all_undone s.held unit.changes in
    let journal = journal_for_block s.held block in
    let entry = end_entry entry_kinds.Decommit p unit in
    keeps_then s.held back (end_written back journal entry) (undone_keeps unit.changes s.held) (end_keeps back journal entry)

-- ---- an object more

added_keeps : (os : List Object) (o : Object) (m at len : ℕ) → are_in (part_in space_part (object_in os m)) at len ≡ true → are_in (part_in space_part (object_in (os ++ o ∷ []) m)) at len ≡ true
added_keeps [] o m at len is = cc
added_keeps (x ∷ os) o m at len is =
    elim (has_number m x) as (λ b. are_in (part_in space_part (cond b (Some x) (object_in os m))) at len ≡ true
    → are_in (part_in space_part (cond b (Some x) (object_in (os ++ o ∷ []) m))) at len ≡ true) [
      | true ↦ λ is. is
      | false ↦ λ is. added_keeps os o m at len is
    ] is

created_keeps : (h : Held) (owner : ℕ) (made : Creating) (body : Body) (id : Option Id) → KeepsBytes h (created h owner made body id)
created_keeps h owner made body None = keeps_same h
created_keeps h owner made body (Some id) = λ m at len is. added_keeps h.objects _ m at len is

made_keeps : (h : Held) (owner : ℕ) (made : Creating) (body : Option Body) → KeepsBytes h (made_by h owner made body)
unfolding creation_changes
made_keeps h owner made None = keeps_same h
made_keeps h owner made (Some body) = created_keeps h owner made body made.id

-- ---- each word of change

renamed_keeps : (h : Held) (n : ℕ) (id : Option Id) → KeepsBytes h (renamed_by h n id)
renamed_keeps h n None = keeps_same h
renamed_keeps h n (Some id) = header_keeps h n (λ x. record x { id = id }) (λ x. refl) (λ x. refl)

restack_keeps : (f : List ObjNum → List ObjNum) (s : State) (p : ℕ) (x : Option ProcessEntry) → KeepsBytes s.held (restack_at f s p x).held
restack_keeps f s p None = keeps_same s.held
restack_keeps f s p (Some x) = keeps_same s.held

pub done_keeps : (s : State) (p : ℕ) (x : Changes) → leaves_spaces x ≡ true → KeepsBytes s.held (done s p x).held
done_keeps s p Stays leaves = keeps_same s.held
done_keeps s p (OnQueue n f) leaves = part_keeps queue_part queue_lawful (λ x. refl) s.held n f
done_keeps s p (OnIndex n f) leaves = part_keeps index_part index_lawful (λ x. refl) s.held n f
done_keeps s p (OnCursor n f) leaves = part_keeps cursor_part cursor_lawful (λ x. refl) s.held n f
done_keeps s p (Resized n bytes) leaves = cc
done_keeps s p (CellsPut x piece) leaves = cells_keep s.held x piece
done_keeps s p (Entered block change f) leaves = let after = (logged s p block change).held in
    keeps_then s.held after (on_data after change.space.0 (over_table f)) (logged_keeps s p block change) (data_keeps after change.space.0 (over_table f))
done_keeps s p (Journaled n port) leaves = data_keeps s.held n (through_port port)
done_keeps s p (OnAccess n f) leaves = header_keeps s.held n (λ o. with_access (f (access_of o)) o) (λ x. refl) (λ x. refl)
done_keeps s p (Profiled n special limit) leaves = profile_keeps s.held n (λ _. (special, limit))
done_keeps s p (Named n id) leaves = renamed_keeps s.held n id
done_keeps s p (Moved n context) leaves = header_keeps s.held n (λ x. record x { context = context }) (λ x. refl) (λ x. refl)
done_keeps s p (Ensured n) leaves = header_keeps s.held n kept_on_disk (λ x. refl) (λ x. refl)
done_keeps s p (Made owner made body) leaves = made_keeps s.held owner made body
done_keeps s p (Gone kind n) leaves = cc
done_keeps s p (Framed f) leaves = restack_keeps f s p (process_entry s p)
done_keeps s p (Locked n held) leaves = keeps_same s.held
done_keeps s p (Committed block) leaves = committed_keeps s p block _
done_keeps s p (Decommitted block) leaves = decommitted_keeps s p block _
done_keeps s p (Then a b) leaves =
    let both = and_parts (leaves_spaces a) (leaves_spaces b) leaves in
    keeps_then s.held (done s p a).held (done (done s p a) p b).held (done_keeps s p a both.0) (done_keeps (done s p a) p b both.1)
