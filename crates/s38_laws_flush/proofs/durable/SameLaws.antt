-- What stays of the numbers of objects, of their kinds and of which are on disk, where an object is another one.
use Rattle.std.proofs.Common.{◌≡◌, ◌∙◌, ℕ, ◌+◌, ◌<◌, ◌≤◌, ◌==◌, Bool, true, false, cond, List, [], ◌∷◌, map, refl, sym, ap, subst}
use Rattle.std.specs.List.Sorted.{IsStrictlyIncreasing}
use Rattle.std.specs.Option.{option_map}
use Rattle.std.specs.Prelude.{All, None, Option, Some}
use Rattle.s38_base.specs.Limits.{ceiling_step, last_number}
use Rattle.s38_base.specs.Pointers.{start_of, target_of}
use Rattle.s38_base.specs.declared.id.Id.{Id}
use Rattle.s38_base.specs.declared.id.Kind.{Kind}
use Rattle.s38_base.specs.declared.id.ObjNum.{ObjNum}
use Rattle.s38_code.specs.declared.operand.Operand.TheVariants as operands
use Rattle.s38_code.specs.declared.operand.Operand.{Operand}
use Rattle.s38_code.specs.declared.reply.Val.TheVariants as vals
use Rattle.s38_code.specs.declared.reply.Val.{Val}
use Rattle.s38_commits.specs.Unit.{CommitUnit}
use Rattle.s38_commits.specs.Units.{UnitMap}
use Rattle.s38_commits.specs.declared.change.UnitChange.{UnitChange}
use Rattle.s38_durable_state.specs.Following.{object_number}
use Rattle.s38_journals.specs.Entries.{JournalRecord}
use Rattle.s38_journals.specs.Journals.{JournalList}
use Rattle.s38_journals.specs.declared.entry.EntryKind.TheVariants as entry_kinds
use Rattle.s38_memory.specs.declared.cell.Cell.{Cell}
use Rattle.s38_rules.proofs.ChargeLaws.{KeepsNumber, object_changed}
use Rattle.s38_rules.proofs.PartLaws.{over_same}
use Rattle.s38_rules.specs.state.Cells.{with_bytes, with_cells, with_pointer}
use Rattle.s38_rules.specs.families.Changes.{renamed_by}
use Rattle.s38_rules.specs.families.Changing.{logged, logged_in}
use Rattle.s38_rules.specs.step.Effect.{end_at, start_at}
use Rattle.s38_rules.specs.state.Held.{Held, change, change_in, disk_in, has_number, is_on_disk, kind_of, object}
use Rattle.s38_rules.specs.state.Invocations.{restack_at}
use Rattle.s38_rules.specs.state.Journaling.{journal_for, journal_for_block}
use Rattle.s38_rules.specs.ask.Operands.{cells_put}
use Rattle.s38_rules.specs.ask.Receivers.{delivered, put_value}
use Rattle.s38_rules.specs.state.Parts.{Part, data_part, journal_part, over_object, over_part, space_part}
use Rattle.s38_rules.specs.state.PartsAt.{on_journal, on_space, over_table}
use Rattle.s38_rules.specs.state.LawfulParts.{IsPart, data_lawful, journal_lawful, space_lawful}
use Rattle.s38_rules.specs.state.State.{State}
use Rattle.s38_rules.specs.families.Units.{all_decommitted, all_undone, committed, decommitted, end_entry, end_written, journal_with_entry, put_back}
use Rattle.s38_rules.specs.declared.object.Object.{Object}
use Rattle.s38_rules.specs.declared.process.ProcessEntry.{ProcessEntry}
use Rattle.s38_laws_flush.specs.durable.Kept.{AreNumbered}
use Rattle.std.proofs.lemmas.Bool.{cond_both}

-- ---- what stays

abbrev pub kind_in : Option Object → Option Kind
kind_in None = None
kind_in (Some o) = Some (kind_of o.body)

-- the kind of what the object of a number holds
abbrev pub kind_at : Held → ℕ → Option Kind
kind_at h n = kind_in (object h n)

-- the numbers that are there and were given, the ceiling, the kind of each object, and which are on disk
pub record Same (h k : Held) : Type 0 where
  pub numbers : map object_number k.objects ≡ map object_number h.objects
  pub next : k.next ≡ h.next
  pub ceiling : k.ceiling ≡ h.ceiling
  pub kinds : (n : ℕ) → kind_at k n ≡ kind_at h n
  pub disk : (n : ℕ) → is_on_disk k n ≡ is_on_disk h n

pub same_itself : (h : Held) → Same h h
same_itself h = record { numbers = refl; next = refl; ceiling = refl; kinds = λ n. refl; disk = λ n. refl }

pub same_then : (h j k : Held) → Same h j → Same j k → Same h k
same_then h j k a b = record {
  numbers = b.numbers ∙ a.numbers;
  next = b.next ∙ a.next;
  ceiling = b.ceiling ∙ a.ceiling;
  kinds = λ n. b.kinds n ∙ a.kinds n;
  disk = λ n. b.disk n ∙ a.disk n;
}

pub none_by_kind : (x : Option Object) → kind_in x ≡ None → x ≡ None
none_by_kind None h = refl
none_by_kind (Some o) h = cc

pub same_numbered : (h k : Held) → Same h k → AreNumbered h → AreNumbered k
same_numbered h k same are = record {
  rising = subst (λ (ns : List ℕ). IsStrictlyIncreasing ns) (sym same.numbers) are.rising;
  given = subst (λ (ns : List ℕ). All (λ n. n < k.next) ns) (sym same.numbers) (subst (λ (m : ℕ). All (λ n. n < m) (map object_number h.objects)) (sym same.next) are.given);
  none = none_by_kind (object k 0) (same.kinds 0 ∙ ap kind_in are.none);
  first = subst (λ (m : ℕ). 1 ≤ m) (sym same.next) are.first;
  within = subst (λ (m : ℕ). m ≤ k.ceiling + 1) (sym same.next) (subst (λ (c : ℕ). h.next ≤ c + 1) (sym same.ceiling) are.within);
  low = subst (λ (c : ℕ). c ≤ last_number + ceiling_step) (sym same.ceiling) are.low;
}

-- ---- an object is another one

numbers_same : (os : List Object) (n : ℕ) (f : Object → Object) → KeepsNumber f → map object_number (change_in os n f) ≡ map object_number os
numbers_same [] n f keeps = refl
numbers_same (o ∷ os) n f keeps = by (has_number n o) (numbers_same os n f keeps)
  where
    by : (b : Bool) → map object_number (change_in os n f) ≡ map object_number os → map object_number (cond b (f o ∷ os) (o ∷ change_in os n f)) ≡ map object_number (o ∷ os)
    by true rest = ap (λ (m : ObjNum). m.0 ∷ map object_number os) (keeps o)
    by false rest = ap (λ (ms : List ℕ). object_number o ∷ ms) rest

pub seen_same : {A : Type 0} (g : Option Object → A) (h : Held) (n m : ℕ) (f : Object → Object) → KeepsNumber f → ((x : Object) → g (Some (f x)) ≡ g (Some x)) → g (object (change h n f) m) ≡ g (object h m)
seen_same g h n m f keeps same = ap g (object_changed n m f h.objects keeps) ∙ by (n == m) (object h m)
  where
    by : (b : Bool) (x : Option Object) → g (cond b (option_map f x) x) ≡ g x
    by true None = refl
    by true (Some x) = same x
    by false x = refl

-- all but which objects are on disk
pub change_numbers : (h : Held) (n : ℕ) (f : Object → Object) → KeepsNumber f → map object_number (change h n f).objects ≡ map object_number h.objects
change_numbers h n f keeps = numbers_same h.objects n f keeps

pub change_same : (h : Held) (n : ℕ) (f : Object → Object) → KeepsNumber f → ((x : Object) → kind_of (f x).body ≡ kind_of x.body) → ((x : Object) → (f x).on_disk ≡ x.on_disk) → Same h (change h n f)
change_same h n f keeps kind disk = record {
  numbers = numbers_same h.objects n f keeps;
  next = refl;
  ceiling = refl;
  kinds = λ m. seen_same kind_in h n m f keeps (λ x. ap (λ (k : Kind). Some k) (kind x));
  disk = λ m. seen_same disk_in h n m f keeps disk;
}

-- what an object holds is something else of its kind
pub part_same : {T : Type 0} (p : Part T) → IsPart T p → (k : Kind) → ((x : T) → kind_of (p.make x) ≡ k) → (h : Held) (n : ℕ) (f : T → T) → Same h (over_part p h n f)
part_same p lawful k kind h n f = change_same h n (over_object p f) (λ x. refl) (λ x. over_same p lawful kind_of k kind f x.body (p.of x.body) refl) (λ x. refl)

pub space_same : (h : Held) (n : ℕ) (f : List Cell → List Cell) → Same h (on_space h n f)
space_same h n f = part_same space_part space_lawful _ (λ x. refl) h n f

pub journal_same : (h : Held) (n : ℕ) (f : JournalList → JournalList) → Same h (on_journal h n f)
journal_same h n f = part_same journal_part journal_lawful _ (λ x. refl) h n f

pub cells_same : (h : Held) (operand : Option Operand) (piece : List Cell) → Same h (cells_put h operand piece)
cells_same h (Some (operands.InSpace base offset attr)) piece = space_same h (target_of base) (with_cells (start_of base offset) piece)
cells_same h _ piece = same_itself h

pub renamed_same : (h : Held) (n : ℕ) (id : Option Id) → Same h (renamed_by h n id)
renamed_same h n None = same_itself h
renamed_same h n (Some id) = change_same h n (λ o. record o { id = id }) (λ x. refl) (λ x. refl) (λ x. refl)

-- ---- units

logged_in_same : (s : State) (p block : ℕ) (change : UnitChange) (journal : Option ℕ) → Same s.held (logged_in s p block change journal).held
logged_in_same s p block change None = same_itself s.held
logged_in_same s p block change (Some journal) = journal_same s.held journal _

pub logged_same : (s : State) (p block : ℕ) (change : UnitChange) → Same s.held (logged s p block change).held
unfolding logged
logged_same s p block change = logged_in_same s p block change (journal_for s.held change.space.0)

end_same : (h : Held) (journal : Option ℕ) (entry : JournalRecord) → Same h (end_written h journal entry)
end_same h None entry = same_itself h
end_same h (Some journal) entry = journal_same h journal (journal_with_entry entry)

undone_same : (changes : List UnitChange) (h : Held) → Same h (all_undone h changes)
unfolding all_undone
undone_same [] h = same_itself h
undone_same (change ∷ newer) h =
    same_then h (all_undone h newer) _ (undone_same newer h) (part_same data_part data_lawful _ (λ x. refl) (all_undone h newer) change.space.0 (over_table (put_back change)))

pub committed_same : (s : State) (p block : ℕ) (unit : Option CommitUnit) → Same s.held (committed s p block unit).held
committed_same s p block None = same_itself s.held
committed_same s p block (Some unit) = end_same s.held (journal_for_block s.held block) (end_entry entry_kinds.Commit p unit)

pub decommitted_same : (s : State) (p block : ℕ) (unit : Option CommitUnit) → Same s.held (decommitted s p block unit).held
decommitted_same s p block None = same_itself s.held
decommitted_same s p block (Some unit) =
    same_then s.held (all_undone s.held unit.changes) _ (undone_same unit.changes s.held)
    (end_same (all_undone s.held unit.changes) (journal_for_block s.held block) (end_entry entry_kinds.Decommit p unit))

pub all_decommitted_same : (units : UnitMap) (s : State) (p : ℕ) → Same s.held (all_decommitted s p units).held
unfolding all_decommitted
all_decommitted_same [] s p = same_itself s.held
all_decommitted_same (e ∷ units) s p =
    let taken = decommitted s p e.0 (Some e.1) in
    cond_both (e.1.process == p) taken s (λ (t : State). Same s.held (all_decommitted t p units).held)
    (λ own. same_then s.held taken.held _ (decommitted_same s p e.0 (Some e.1)) (all_decommitted_same units taken p))
    (λ other. all_decommitted_same units s p)

-- ---- processes, and the value that comes back

pub restacked_same : (f : List ObjNum → List ObjNum) (s : State) (p : ℕ) (x : Option ProcessEntry) → Same s.held (restack_at f s p x).held
restacked_same f s p None = same_itself s.held
restacked_same f s p (Some x) = same_itself s.held

value_same : (h : Held) (n at : ℕ) (v : Val) → Same h (put_value h n at v)
value_same h n at (vals.Bytes bytes) = space_same h n (with_bytes at bytes)
value_same h n at (vals.Ptr p) = space_same h n (with_pointer at p)
value_same h n at _ = same_itself h

pub delivered_same : (s : State) (shift : ℕ) (receiver : Option Operand) (v : Option Val) → Same s.held (delivered s shift receiver v).state.held
delivered_same s shift receiver None = same_itself s.held
delivered_same s shift (Some (operands.InSpace base offset attr)) (Some v) = value_same s.held (target_of base) _ v
delivered_same s shift _ (Some v) = same_itself s.held

pub start_same : (s : State) (p : ℕ) (x : Option ProcessEntry) → Same s.held (start_at s p x).held
start_same s p None = same_itself s.held
start_same s p (Some x) = same_itself s.held

pub finish_same : (s : State) (p : ℕ) (x : Option ProcessEntry) → Same s.held (end_at s p x).held
finish_same s p None = same_itself s.held
finish_same s p (Some x) = all_decommitted_same s.units s p
