-- The numbers of objects rise and were given, whatever is changed: one case for each word of change.
use Rattle.std.proofs.Common.{◌≡◌, ℕ, ◌+◌, ◌<◌, ◌==◌, Bool, true, false, cond, not, List, [], ◌∷◌, ◌++◌, map, refl, sym, subst, arith}
use Rattle.std.proofs.lemmas.Bool.{cond_both}
use Rattle.std.proofs.lemmas.Bool.Decides.{nat_tests}
use Rattle.std.proofs.lemmas.List.Elements.{All-head, All-tail}
use Rattle.std.proofs.lemmas.Map.Keys.{sorted_from_strictly_increasing, sorted_head, sorted_tail}
use Rattle.std.specs.List.{AllByRecursion}
use Rattle.std.specs.List.Sorted.{IsStrictlySortedBy}
use Rattle.std.specs.Ordering.{nat_cmp}
use Rattle.std.specs.declared.cmp.Ordering.TheVariants.{Less}
use Rattle.std.specs.Prelude.{All, Option, Some, None}
use Rattle.s38_base.specs.declared.id.Id.{Id}
use Rattle.s38_base.specs.declared.id.ObjNum.{ObjNum}
use Rattle.s38_base.specs.Pointers.{start_of, target_of}
use Rattle.s38_code.specs.declared.operand.Operand.{Operand}
use Rattle.s38_code.specs.declared.operand.Operand.TheVariants as operands
use Rattle.s38_commits.specs.declared.change.UnitChange.{UnitChange}
use Rattle.s38_commits.specs.Unit.{CommitUnit}
use Rattle.s38_commits.specs.Units.{UnitMap, unit_of}
use Rattle.s38_journals.specs.declared.entry.EntryKind.TheVariants as entry_kinds
use Rattle.s38_journals.specs.Entries.{JournalRecord}
use Rattle.s38_memory.specs.declared.cell.Cell.{Cell}
use Rattle.s38_memory.specs.Tagged.{resized}
use Rattle.s38_objects.specs.Lawful.{IsObjectMap, number_of}
use Rattle.s38_rules.proofs.ChargeLaws.{KeepsNumber}
use Rattle.s38_rules.specs.state.Cells.{with_cells}
use Rattle.s38_rules.specs.families.Changes.{CellsPut, Changes, Committed, Decommitted, Ensured, Entered, Framed, Gone, Journaled, Locked, Made, Moved, Named, OnAccess, OnCursor, OnIndex, OnQueue, Profiled, Resized, Stays, Then, done, made_by, renamed_by, through_port}
use Rattle.s38_rules.specs.families.Changing.{logged, logged_in}
use Rattle.s38_rules.specs.families.Creation.{created, creation_changes, is_of_kind, new_object}
use Rattle.s38_rules.specs.state.Held.{Held, change, change_in, has_number, kept_on_disk, object, without, without_in}
use Rattle.s38_rules.specs.state.Invocations.{restack_at}
use Rattle.s38_rules.specs.state.Journaling.{journal_for, journal_for_block}
use Rattle.s38_rules.specs.ask.Operands.{cells_put}
use Rattle.s38_rules.specs.state.Parts.{Part, cursor_part, data_part, index_part, journal_part, over_object, over_part, profile_part, queue_part, space_part}
use Rattle.s38_rules.specs.state.PartsAt.{over_table}
use Rattle.s38_rules.specs.state.Access.{access_of, with_access}
use Rattle.s38_rules.specs.state.State.{State, process_entry}
use Rattle.s38_rules.specs.families.Units.{all_decommitted, all_undone, committed, decommitted, end_entry, end_written, journal_with_entry, put_back}
use Rattle.s38_rules.specs.declared.creating.Creating.{Creating}
use Rattle.s38_rules.specs.declared.object.Body.{Body}
use Rattle.s38_rules.specs.declared.object.Object.{Object}
use Rattle.s38_rules.specs.declared.process.ProcessEntry.{ProcessEntry}

-- a number is less than that of each object
abbrev pub Below : ℕ → List Object → Type 0
Below n [] = Unit {0}
Below n (o ∷ os) = (n < o.number.0) × Below n os

-- each number is less than those after it, and than the next one
abbrev pub Rise : ℕ → List Object → Type 0
Rise next [] = Unit {0}
Rise next (o ∷ os) = (o.number.0 < next) × Below o.number.0 os × Rise next os

abbrev pub AreNumbered : Held → Type 0
AreNumbered h = Rise h.next h.objects

below_by : (n : ℕ) (os : List Object) → AllByRecursion (λ k. nat_cmp n k ≡ Less) (map number_of os) → Below n os
below_by n [] above = tt
below_by n (o ∷ os) above = let here : nat_cmp n o.number.0 ≡ Less = above.0 in (grind (arith, nat_tests), below_by n os above.1)

rise_by : (next : ℕ) (os : List Object) → IsStrictlySortedBy nat_cmp (map number_of os) → All (λ o. number_of o < next) os → Rise next os
rise_by next [] rising given = tt
rise_by next (o ∷ os) rising given = (
  All-head (λ (x : Object). number_of x < next) o os given,
  below_by o.number.0 os (sorted_head nat_cmp o.number.0 (map number_of os) rising),
  rise_by next os (sorted_tail nat_cmp o.number.0 (map number_of os) rising) (All-tail (λ (x : Object). number_of x < next) o os given),
)

pub numbered_by : (h : Held) → IsObjectMap h → AreNumbered h
numbered_by h lawful = rise_by h.next h.objects (sorted_from_strictly_increasing (map number_of h.objects) lawful.rising) lawful.given

-- ---- an object is another one

below_changed : (k n : ℕ) (f : Object → Object) (os : List Object) → KeepsNumber f → Below k os → Below k (change_in os n f)
below_changed k n f [] keeps below = tt
below_changed k n f (o ∷ os) keeps below = by (below_changed k n f os keeps below.1) (has_number n o)
  where
    by : Below k (change_in os n f) → (b : Bool) → Below k (cond b (f o ∷ os) (o ∷ change_in os n f))
    by rest true = (subst (λ (m : ObjNum). k < m.0) (sym (keeps o)) below.0, below.1)
    by rest false = (below.0, rest)

rise_changed : (next n : ℕ) (f : Object → Object) (os : List Object) → KeepsNumber f → Rise next os → Rise next (change_in os n f)
rise_changed next n f [] keeps rise = tt
rise_changed next n f (o ∷ os) keeps rise = by (rise_changed next n f os keeps rise.2) (has_number n o)
  where
    by : Rise next (change_in os n f) → (b : Bool) → Rise next (cond b (f o ∷ os) (o ∷ change_in os n f))
    by rest true = (subst (λ (m : ObjNum). m.0 < next) (sym (keeps o)) rise.0, subst (λ (m : ObjNum). Below m.0 os) (sym (keeps o)) rise.1, rise.2)
    by rest false = (rise.0, below_changed o.number.0 n f os keeps rise.1, rest)

pub change_numbered : (h : Held) (n : ℕ) (f : Object → Object) → KeepsNumber f → AreNumbered h → AreNumbered (change h n f)
change_numbered h n f keeps numbered = rise_changed h.next n f h.objects keeps numbered

pub part_numbered : {T : Type 0} (p : Part T) (h : Held) (n : ℕ) (f : T → T) → AreNumbered h → AreNumbered (over_part p h n f)
part_numbered p h n f numbered = change_numbered h n (over_object p f) (λ o. refl) numbered

cells_numbered : (h : Held) (operand : Option Operand) (piece : List Cell) → AreNumbered h → AreNumbered (cells_put h operand piece)
cells_numbered h (Some (operands.InSpace base offset attr)) piece numbered = part_numbered space_part h (target_of base) (with_cells (start_of base offset) piece) numbered
cells_numbered h _ piece numbered = numbered

renamed_numbered : (h : Held) (n : ℕ) (id : Option Id) → AreNumbered h → AreNumbered (renamed_by h n id)
renamed_numbered h n None numbered = numbered
renamed_numbered h n (Some id) numbered = change_numbered h n (λ o. record o { id = id }) (λ o. refl) numbered

-- ---- one object more, and one less

below_last : (k : ℕ) (x : Object) (os : List Object) → k < x.number.0 → Below k os → Below k (os ++ x ∷ [])
below_last k x [] under below = (under, tt)
below_last k x (o ∷ os) under below = (below.0, below_last k x os under below.1)

rise_last : (x : Object) (os : List Object) → Rise x.number.0 os → Rise (x.number.0 + 1) (os ++ x ∷ [])
rise_last x [] rise = (omega arith, tt, tt)
rise_last x (o ∷ os) rise = (omega (arith, rise.0), below_last o.number.0 x os rise.0 rise.1, rise_last x os rise.2)

made_numbered : (h : Held) (owner : ℕ) (made : Creating) (body : Option Body) → AreNumbered h → AreNumbered (made_by h owner made body)
unfolding creation_changes
made_numbered h owner made None numbered = numbered
made_numbered h owner made (Some body) numbered = by made.id
  where
    by : (id : Option Id) → AreNumbered (created h owner made body id)
    by None = numbered
    by (Some id) = rise_last (new_object h owner made id body) h.objects numbered

below_without : (k n : ℕ) (os : List Object) → Below k os → Below k (without_in os n)
below_without k n [] below = tt
below_without k n (o ∷ os) below = by (below_without k n os below.1) (has_number n o)
  where
    by : Below k (without_in os n) → (b : Bool) → Below k (cond (not b) (o ∷ without_in os n) (without_in os n))
    by rest true = rest
    by rest false = (below.0, rest)

rise_without : (next n : ℕ) (os : List Object) → Rise next os → Rise next (without_in os n)
rise_without next n [] rise = tt
rise_without next n (o ∷ os) rise = by (rise_without next n os rise.2) (has_number n o)
  where
    by : Rise next (without_in os n) → (b : Bool) → Rise next (cond (not b) (o ∷ without_in os n) (without_in os n))
    by rest true = rest
    by rest false = (rise.0, below_without o.number.0 n os rise.1, rest)

gone_numbered : (h : Held) (n : ℕ) (b : Bool) → AreNumbered h → AreNumbered (cond b (without h n) h)
gone_numbered h n true numbered = rise_without h.next n h.objects numbered
gone_numbered h n false numbered = numbered

-- ---- units

logged_in_numbered : (s : State) (p block : ℕ) (change : UnitChange) (journal : Option ℕ) → AreNumbered s.held → AreNumbered (logged_in s p block change journal).held
logged_in_numbered s p block change None numbered = numbered
logged_in_numbered s p block change (Some journal) numbered = part_numbered journal_part s.held journal _ numbered

logged_numbered : (s : State) (p block : ℕ) (change : UnitChange) → AreNumbered s.held → AreNumbered (logged s p block change).held
unfolding logged
logged_numbered s p block change numbered = logged_in_numbered s p block change (journal_for s.held change.space.0) numbered

end_numbered : (h : Held) (journal : Option ℕ) (entry : JournalRecord) → AreNumbered h → AreNumbered (end_written h journal entry)
end_numbered h None entry numbered = numbered
end_numbered h (Some journal) entry numbered = part_numbered journal_part h journal (journal_with_entry entry) numbered

undone_numbered : (changes : List UnitChange) (h : Held) → AreNumbered h → AreNumbered (all_undone h changes)
unfolding all_undone
undone_numbered [] h numbered = numbered
undone_numbered (change ∷ newer) h numbered = part_numbered data_part (all_undone h newer) change.space.0 (over_table (put_back change)) (undone_numbered newer h numbered)

committed_numbered : (s : State) (p block : ℕ) (unit : Option CommitUnit) → AreNumbered s.held → AreNumbered (committed s p block unit).held
committed_numbered s p block None numbered = numbered
committed_numbered s p block (Some unit) numbered = end_numbered s.held (journal_for_block s.held block) (end_entry entry_kinds.Commit p unit) numbered

decommitted_numbered : (s : State) (p block : ℕ) (unit : Option CommitUnit) → AreNumbered s.held → AreNumbered (decommitted s p block unit).held
decommitted_numbered s p block None numbered = numbered
decommitted_numbered s p block (Some unit) numbered =
    end_numbered (all_undone s.held unit.changes) (journal_for_block s.held block) (end_entry entry_kinds.Decommit p unit) (undone_numbered unit.changes s.held numbered)

restacked_numbered : (f : List ObjNum → List ObjNum) (s : State) (p : ℕ) (x : Option ProcessEntry) → AreNumbered s.held → AreNumbered (restack_at f s p x).held
restacked_numbered f s p None numbered = numbered
restacked_numbered f s p (Some x) numbered = numbered

-- ---- each word of change

pub done_numbered : (x : Changes) (s : State) (p : ℕ) → AreNumbered s.held → AreNumbered (done s p x).held
done_numbered Stays s p numbered = numbered
done_numbered (OnQueue n f) s p numbered = part_numbered queue_part s.held n f numbered
done_numbered (OnIndex n f) s p numbered = part_numbered index_part s.held n f numbered
done_numbered (OnCursor n f) s p numbered = part_numbered cursor_part s.held n f numbered
done_numbered (Resized n bytes) s p numbered = part_numbered space_part s.held n (resized bytes) numbered
done_numbered (CellsPut operand piece) s p numbered = cells_numbered s.held operand piece numbered
done_numbered (Entered block change f) s p numbered = part_numbered data_part (logged s p block change).held change.space.0 (over_table f) (logged_numbered s p block change numbered)
done_numbered (Journaled n port) s p numbered = part_numbered data_part s.held n (through_port port) numbered
done_numbered (OnAccess n f) s p numbered = change_numbered s.held n (λ o. with_access (f (access_of o)) o) (λ o. refl) numbered
done_numbered (Profiled n special limit) s p numbered = part_numbered profile_part s.held n (λ _. (special, limit)) numbered
done_numbered (Named n id) s p numbered = renamed_numbered s.held n id numbered
done_numbered (Moved n context) s p numbered = change_numbered s.held n (λ o. record o { context = context }) (λ o. refl) numbered
done_numbered (Ensured n) s p numbered = change_numbered s.held n kept_on_disk (λ o. refl) numbered
done_numbered (Made owner made body) s p numbered = made_numbered s.held owner made body numbered
done_numbered (Gone kind n) s p numbered = gone_numbered s.held n (is_of_kind kind (object s.held n)) numbered
done_numbered (Framed f) s p numbered = restacked_numbered f s p (process_entry s p) numbered
done_numbered (Locked n held) s p numbered = numbered
done_numbered (Committed block) s p numbered = committed_numbered s p block (unit_of s.units block) numbered
done_numbered (Decommitted block) s p numbered = decommitted_numbered s p block (unit_of s.units block) numbered
done_numbered (Then a b) s p numbered = done_numbered b (done s p a) p (done_numbered a s p numbered)

-- ---- the units of a process

pub all_decommitted_numbered : (units : UnitMap) (s : State) (p : ℕ) → AreNumbered s.held → AreNumbered (all_decommitted s p units).held
unfolding all_decommitted
all_decommitted_numbered [] s p numbered = numbered
all_decommitted_numbered (e ∷ units) s p numbered =
    let taken = decommitted s p e.0 (Some e.1) in
    cond_both (e.1.process == p) taken s (λ (t : State). AreNumbered (all_decommitted t p units).held)
    (λ own. all_decommitted_numbered units taken p (decommitted_numbered s p e.0 (Some e.1) numbered))
    (λ other. all_decommitted_numbered units s p numbered)
