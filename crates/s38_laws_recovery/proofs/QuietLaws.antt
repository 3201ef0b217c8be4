-- The words of change that leave links, kinds and what is on disk as they are.
use Rattle.std.proofs.Common.{◌≡◌, ◌==◌, ℕ, Bool, true, false, cond, List, [], ◌∷◌, Option, Some, None, refl, subst}
use Rattle.std.proofs.lemmas.Bool.{cond_both}
use Rattle.std.specs.List.{list_any}
use Rattle.std.specs.Prelude.{◌&&◌, ◌||◌, ◌+◌, nat_lt}
use Rattle.s38_base.specs.declared.id.Kind.{Kind}
use Rattle.s38_base.specs.declared.id.ObjNum.{ObjNum}
use Rattle.s38_code.specs.declared.operand.Operand.{Operand}
use Rattle.s38_code.specs.declared.operand.Operand.TheVariants as operands
use Rattle.s38_code.specs.declared.reply.Val.{Val}
use Rattle.s38_commits.proofs.MapLaws.{nat_same}
use Rattle.s38_commits.specs.Unit.{CommitUnit}
use Rattle.s38_commits.specs.Units.{UnitMap}
use Rattle.s38_commits.specs.declared.change.UnitChange.{UnitChange}
use Rattle.s38_laws_commits.proofs.ActLaws.{value_still}
use Rattle.s38_laws_commits.proofs.LinkLaws.{Keeps, Still, keeps_journal, keeps_same, keeps_table, keeps_then, port_journal_there}
use Rattle.s38_dataspaces.specs.Table.{DataTable}
use Rattle.s38_journals.specs.Entries.{JournalRecord}
use Rattle.s38_journals.specs.declared.entry.EntryKind.TheVariants as entry_kinds
use Rattle.s38_laws_flush.proofs.durable.SameLaws.{Same, committed_same, decommitted_same, delivered_same, finish_same, logged_same, part_same, restacked_same, same_then, start_same}
use Rattle.s38_rules.specs.families.Changing.{logged, logged_in}
use Rattle.s38_rules.specs.step.Effect.{end_at, start_at}
use Rattle.s38_rules.specs.store.Forcing.{Header, Removed, Whole, commit_forces, followed, forced_removal, is_whole, overdue, whole_if}
use Rattle.s38_rules.specs.state.Held.{Held, is_on_disk, object}
use Rattle.s38_rules.specs.families.Creation.{is_of_kind}
use Rattle.s38_rules.specs.state.Invocations.{restack_at}
use Rattle.s38_rules.specs.state.Journaling.{block_port, is_journal, journal_for, journal_for_block, journal_of_port}
use Rattle.s38_rules.specs.ask.Receivers.{delivered}
use Rattle.s38_rules.specs.state.Parts.{data_part}
use Rattle.s38_rules.specs.state.PartsAt.{journal_at, on_table, over_table}
use Rattle.s38_rules.specs.state.LawfulParts.{data_lawful}
use Rattle.s38_base.specs.Pointers.{start_of, target_of}
use Rattle.s38_rules.specs.state.State.{State}
use Rattle.s38_rules.specs.families.Units.{all_decommitted, all_undone, committed, decommitted, end_entry, end_written, journal_with_entry, put_back}
use Rattle.s38_rules.specs.declared.process.ProcessEntry.{ProcessEntry}
use Rattle.s38_laws_recovery.proofs.LinkLaws.{Quiet}

pub quiet_by : (h k : Held) → Same h k → Keeps h k → Quiet h k
quiet_by h k same keeps = record { keeps = keeps; kinds = same.kinds; ceiling = same.ceiling }

pub still_quiet : (h k : Held) → Same h k → Still h k → Quiet h k
still_quiet h k same still = quiet_by h k same still.quiet.keeps

-- ---- entries and units

logged_keeps : (s : State) (p block : ℕ) (change : UnitChange) → Keeps s.held (logged s p block change).held
unfolding logged
logged_keeps s p block change = by (journal_for s.held change.space.0)
  where
    by : (r : Option ℕ) → Keeps s.held (logged_in s p block change r).held
    by None = keeps_same s.held
    by (Some journal) = keeps_journal s.held journal _

pub entered_quiet : (s : State) (p block : ℕ) (change : UnitChange) (f : DataTable → DataTable) → Quiet s.held (on_table (logged s p block change).held change.space.0 f)
entered_quiet s p block change f =
    quiet_by s.held _
    (same_then s.held (logged s p block change).held _ (logged_same s p block change) (part_same data_part data_lawful _ (λ x. refl) (logged s p block change).held change.space.0 (over_table f)))
    (keeps_then s.held (logged s p block change).held _ (logged_keeps s p block change) (keeps_table (logged s p block change).held change.space.0 f))

end_keeps : (h : Held) (journal : Option ℕ) (entry : JournalRecord) → Keeps h (end_written h journal entry)
end_keeps h None entry = keeps_same h
end_keeps h (Some journal) entry = keeps_journal h journal (journal_with_entry entry)

undone_keeps : (changes : List UnitChange) (h : Held) → Keeps h (all_undone h changes)
unfolding all_undone
undone_keeps [] h = keeps_same h
undone_keeps (change ∷ newer) h = keeps_then h (all_undone h newer) _ (undone_keeps newer h) (keeps_table (all_undone h newer) change.space.0 (put_back change))

committed_keeps : (s : State) (p block : ℕ) (unit : Option CommitUnit) → Keeps s.held (committed s p block unit).held
committed_keeps s p block None = keeps_same s.held
committed_keeps s p block (Some unit) = end_keeps s.held (journal_for_block s.held block) (end_entry entry_kinds.Commit p unit)

decommitted_keeps : (s : State) (p block : ℕ) (unit : Option CommitUnit) → Keeps s.held (decommitted s p block unit).held
decommitted_keeps s p block None = keeps_same s.held
decommitted_keeps s p block (Some unit) =
    keeps_then s.held (all_undone s.held unit.changes) _ (undone_keeps unit.changes s.held)
    (end_keeps (all_undone s.held unit.changes) (journal_for_block s.held block) (end_entry entry_kinds.Decommit p unit))

all_decommitted_keeps : (units : UnitMap) (s : State) (p : ℕ) → Keeps s.held (all_decommitted s p units).held
unfolding all_decommitted
all_decommitted_keeps [] s p = keeps_same s.held
all_decommitted_keeps (e ∷ units) s p =
    let taken = decommitted s p e.0 (Some e.1) in
    cond_both (e.1.process == p) taken s (λ (t : State). Keeps s.held (all_decommitted t p units).held)
    (λ own. keeps_then s.held taken.held _ (decommitted_keeps s p e.0 (Some e.1)) (all_decommitted_keeps units taken p))
    (λ other. all_decommitted_keeps units s p)

pub committed_quiet : (s : State) (p block : ℕ) (unit : Option CommitUnit) → Quiet s.held (committed s p block unit).held
committed_quiet s p block unit = quiet_by s.held _ (committed_same s p block unit) (committed_keeps s p block unit)

pub decommitted_quiet : (s : State) (p block : ℕ) (unit : Option CommitUnit) → Quiet s.held (decommitted s p block unit).held
decommitted_quiet s p block unit = quiet_by s.held _ (decommitted_same s p block unit) (decommitted_keeps s p block unit)

-- ---- processes, and the value that comes back

pub restacked_quiet : (f : List ObjNum → List ObjNum) (s : State) (p : ℕ) (x : Option ProcessEntry) → Quiet s.held (restack_at f s p x).held
restacked_quiet f s p x = quiet_by s.held _ (restacked_same f s p x) (by x)
  where
    by : (x : Option ProcessEntry) → Keeps s.held (restack_at f s p x).held
    by None = keeps_same s.held
    by (Some x) = keeps_same s.held

pub start_quiet : (s : State) (p : ℕ) (x : Option ProcessEntry) → Quiet s.held (start_at s p x).held
start_quiet s p x = quiet_by s.held _ (start_same s p x) (by x)
  where
    by : (x : Option ProcessEntry) → Keeps s.held (start_at s p x).held
    by None = keeps_same s.held
    by (Some x) = keeps_same s.held

pub finish_quiet : (s : State) (p : ℕ) (x : Option ProcessEntry) → Quiet s.held (end_at s p x).held
finish_quiet s p x = quiet_by s.held _ (finish_same s p x) (by x)
  where
    by : (x : Option ProcessEntry) → Keeps s.held (end_at s p x).held
    by None = keeps_same s.held
    by (Some x) = all_decommitted_keeps s.units s p

pub delivered_quiet : (s : State) (shift : ℕ) (receiver : Option Operand) (v : Option Val) → Quiet s.held (delivered s shift receiver v).state.held
delivered_quiet s shift receiver v = quiet_by s.held _ (delivered_same s shift receiver v) (by receiver v)
  where
    by : (receiver : Option Operand) (v : Option Val) → Keeps s.held (delivered s shift receiver v).state.held
    by receiver None = keeps_same s.held
    by (Some (operands.InSpace base offset attr)) (Some v) = (value_still s.held (target_of base) (start_of base offset + shift) v).quiet.keeps
    by _ (Some v) = keeps_same s.held

-- ---- what is forced whole beside

pub followed_whole : (h : Held) (m n : ℕ) → list_any (is_whole n) (followed h m) ≡ true → ⊥
followed_whole h m n is = by (is_on_disk h m) is
  where
    by : (b : Bool) → list_any (is_whole n) (cond b (Header m ∷ []) []) ≡ true → ⊥
    by true is = let e : false ≡ true = is in cc
    by false is = let e : false ≡ true = is in cc

pub removed_whole : (h : Held) (kind : Kind) (m n : ℕ) → list_any (is_whole n) (forced_removal h kind m) ≡ true → ⊥
removed_whole h kind m n is = by (is_of_kind kind (object h m)) (is_on_disk h m) is
  where
    by : (a b : Bool) → list_any (is_whole n) (cond (a && b) (Removed m ∷ []) []) ≡ true → ⊥
    by true true is = let e : false ≡ true = is in cc
    by true false is = let e : false ≡ true = is in cc
    by false b is = let e : false ≡ true = is in cc

one_whole : (h : Held) (port m n : ℕ) → journal_of_port h port ≡ Some m → ((m == n) || false) ≡ true → is_journal h n ≡ true
one_whole h port m n to is = by (m == n) refl is
  where
    by : (b : Bool) → (m == n) ≡ b → (b || false) ≡ true → is_journal h n ≡ true
    by true same is = subst (λ (k : ℕ). is_journal h k ≡ true) (nat_same m n same) (port_journal_there h port m to)
    by false other is = absurd (let e : false ≡ true = is in cc)

pub whole_port_journal : (h : Held) (port n : ℕ) → list_any (is_whole n) (whole_if (journal_of_port h port)) ≡ true → is_journal h n ≡ true
whole_port_journal h port n is = by (journal_of_port h port) refl is
  where
    by : (r : Option ℕ) → journal_of_port h port ≡ r → list_any (is_whole n) (whole_if r) ≡ true → is_journal h n ≡ true
    by None to is = absurd (let e : false ≡ true = is in cc)
    by (Some m) to is = one_whole h port m n to is

pub overdue_whole : (h k : Held) (port n : ℕ) → list_any (is_whole n) (overdue k (journal_of_port h port)) ≡ true → is_journal h n ≡ true
overdue_whole h k port n is = by (journal_of_port h port) refl is
  where
    due : (m : ℕ) (b : Bool) → journal_of_port h port ≡ Some m → list_any (is_whole n) (cond b (Whole m ∷ []) []) ≡ true → is_journal h n ≡ true
    due m true to is = one_whole h port m n to is
    due m false to is = absurd (let e : false ≡ true = is in cc)

    by : (r : Option ℕ) → journal_of_port h port ≡ r → list_any (is_whole n) (overdue k r) ≡ true → is_journal h n ≡ true
    by None to is = absurd (let e : false ≡ true = is in cc)
    by (Some m) to is = due m (nat_lt 32768 (journal_at k m).unforced) to is

pub commit_whole : (h : Held) (block n : ℕ) (unit : Option CommitUnit) → list_any (is_whole n) (commit_forces h block unit) ≡ true → is_journal h n ≡ true
commit_whole h block n None is = absurd (let e : false ≡ true = is in cc)
commit_whole h block n (Some unit) is = whole_port_journal h (block_port h block) n is
