-- Step by step objects, users and locks stay in order.
use Rattle.std.proofs.Common.{◌<◌, ◌≤◌, ◌==◌, ◌∷◌, Bool, List, [], arith, length, not, suc, ℕ}
use Rattle.std.proofs.lemmas.Bool.{cond_both}
use Rattle.std.proofs.lemmas.List.Elements.{All-weaker}
use Rattle.std.proofs.lemmas.Map.Entries.{All-lookup}
use Rattle.std.specs.BTreeMap.{is_at}
use Rattle.std.specs.Map.{lookup}
use Rattle.std.specs.Option.{unwrap_or}
use Rattle.std.specs.Ordering.{nat_cmp}
use Rattle.std.specs.Prelude.{All, IfSome, None, Option, Some, filter}
use Rattle.s38_base.specs.Limits.{most_rows}
use Rattle.s38_base.specs.declared.id.Id.{Id}
use Rattle.s38_base.specs.declared.id.Kind.{Kind}
use Rattle.s38_base.specs.declared.id.ObjNum.{ObjNum}
use Rattle.s38_code.specs.declared.event.Event.TheVariants.{Act, Finish, Start}
use Rattle.s38_code.specs.declared.event.Event.{Event}
use Rattle.s38_code.specs.declared.event.Request.{Request}
use Rattle.s38_code.specs.declared.operand.Operand.TheVariants as operands
use Rattle.s38_code.specs.declared.operand.Operand.{Operand}
use Rattle.s38_code.specs.declared.reply.Val.{Val}
use Rattle.s38_commits.specs.Unit.{CommitUnit}
use Rattle.s38_commits.specs.Units.{UnitMap, unit_of}
use Rattle.s38_commits.specs.declared.change.UnitChange.{UnitChange}
use Rattle.s38_locks.proofs.OrderLaws.{orderly_filtered}
use Rattle.s38_locks.specs.Locks.{IsOrderly, Lock, without_process}
use Rattle.s38_locks.specs.Table.{Table, locks_of, with_locks}
use Rattle.s38_rules.specs.families.Changes.{Changes, Committed, Decommitted, Entered, Framed, Gone, Locked, Made, Moved, Named, OnAccess, Then, done, made_by, renamed_by}
use Rattle.s38_rules.specs.families.Changing.{logged, logged_in}
use Rattle.s38_rules.specs.families.Computing.{receiver_at, shift_at}
use Rattle.s38_rules.specs.families.Creation.{created, creation_changes, destroyed, is_of_kind}
use Rattle.s38_rules.specs.step.Effect.{effect, effect_of, end_at, start_at}
use Rattle.s38_rules.specs.state.Held.{Held, change, object, without}
use Rattle.s38_rules.specs.state.Invocations.{restack_at}
use Rattle.s38_rules.specs.state.Journaling.{journal_for}
use Rattle.s38_rules.specs.families.Locking.{lock}
use Rattle.s38_rules.specs.ask.Receivers.{delivered}
use Rattle.s38_rules.specs.families.Rows.{row}
use Rattle.s38_rules.specs.state.State.{State, process_entry}
use Rattle.s38_rules.specs.store.Storing.{stored}
use Rattle.s38_rules.specs.families.Units.{all_decommitted, committed, decommitted}
use Rattle.s38_rules.specs.declared.creating.Creating.{Creating}
use Rattle.s38_rules.specs.declared.object.Body.{Body}
use Rattle.s38_rules.specs.declared.object.Object.{Object}
use Rattle.s38_rules.specs.declared.process.ProcessEntry.{ProcessEntry}
use Rattle.s38_laws_state.proofs.FitLaws.{KeepsHead}
use Rattle.s38_laws_state.proofs.RowLaws.{May as LocksMay}
use Rattle.s38_laws_state.proofs.TableLaws.{AreOrdered, ordered_released, ordered_with, released_entries, with_entries}
use Rattle.s38_laws_state.proofs.WordLaws.{May as HeadsMay, act_keeps, done_keeps, finish_keeps, start_keeps, stored_keeps}
use Rattle.s38_laws_state.specs.Order.{AreLocks}

-- ---- the next number is no less than it was

module _ (low : ℕ) where
  abbrev pub IsLater : Held → Type 0
  IsLater h = low ≤ h.next

  pub later_keeps : (h : Held) (n : ℕ) (f : Object → Object) → KeepsHead f → IsLater h → IsLater (change h n f)
  later_keeps h n f head later = later

  named_later : (h : Held) (n : ℕ) (id : Option Id) → IsLater h → IsLater (renamed_by h n id)
  named_later h n None later = later
  named_later h n (Some id) later = later

  created_later : (h : Held) (owner : ℕ) (made : Creating) (body : Body) (id : Option Id) → IsLater h → IsLater (created h owner made body id)
  created_later h owner made body None later = later
  created_later h owner made body (Some id) later = omega (arith, later)

  made_later : (h : Held) (owner : ℕ) (made : Creating) (body : Option Body) → IsLater h → IsLater (made_by h owner made body)
  unfolding creation_changes
  made_later h owner made None later = later
  made_later h owner made (Some body) later = created_later h owner made body made.id later

  gone_later : (h : Held) (kind : Kind) (n : ℕ) → IsLater h → IsLater (destroyed h kind n)
  gone_later h kind n later = cond_both (is_of_kind kind (object h n)) (without h n) h IsLater (λ of. later) (λ other. later)

  later_may : (x : Changes) (s : State) (p : ℕ) → IsLater s.held → HeadsMay IsLater later_keeps s p x
  later_may (OnAccess n f) s p later = later
  later_may (Named n id) s p later = named_later s.held n id later
  later_may (Moved n context) s p later = later
  later_may (Made owner made body) s p later = made_later s.held owner made body later
  later_may (Gone kind n) s p later = gone_later s.held kind n later
  later_may (Then a b) s p later = (later_may a s p later, later_may b (done s p a) p (done_keeps IsLater later_keeps a s p later (later_may a s p later)))
  later_may _ s p later = tt

  effect_later : (s : State) (p : ℕ) (e : Event) → IsLater s.held → IsLater (effect_of s p e).state.held
  unfolding effect_of
  effect_later s p Start later = start_keeps IsLater later_keeps s p (process_entry s p) later
  effect_later s p (Act d t) later = act_keeps IsLater later_keeps s p d t later (later_may ((row t.op).changes s p d t) s p later)
  effect_later s p (Finish cause) later = finish_keeps IsLater later_keeps s p (process_entry s p) later

  pub stored_later : (s : State) (p : ℕ) (e : Event) → IsLater s.held → IsLater (stored s p e (effect_of s p e).state).held
  stored_later s p e later = stored_keeps IsLater later_keeps s p e (effect_of s p e).state (effect_later s p e later)

-- ---- locks

-- so many locks an object may have
abbrev pub IsFew : List Lock → Type 0
IsFew locks = length locks ≤ most_rows

filter_less : (p : Lock → Bool) (ls : List Lock) → length (filter p ls) ≤ length ls
filter_less p [] = omega arith
filter_less p (l ∷ ls) =
    cond_both (p l) (l ∷ filter p ls) (filter p ls) (λ (new : List Lock). length new ≤ suc (length ls)) (λ stays. omega (arith, filter_less p ls)) (λ goes. omega (arith, filter_less p ls))

fewer : (p : ℕ) (ls : List Lock) → IsFew ls → IsFew (without_process p ls)
fewer p ls few = omega (arith, filter_less (λ lock. not (lock.0 == p)) ls, few)

-- the table of locks is in order, for numbers below one
pub record LocksWell (next : ℕ) (table : Table) : Type 0 where
  pub rising : AreOrdered table
  pub locks : All (AreLocks next) table

pub locks_later : (low high : ℕ) (table : Table) → low ≤ high → LocksWell low table → LocksWell high table
locks_later low high table more well = record {
  rising = well.rising;
  locks = All-weaker (AreLocks low) (AreLocks high) (λ e is. record { given = less e.0 is.given; some = is.some; most = is.most; orderly = is.orderly }) table well.locks;
}
  where
    less : (n : ℕ) → n < low → n < high
    less n under = omega (arith, under, more)

-- what an object's locks must be
pub record Fit (next n : ℕ) (held : List Lock) : Type 0 where
  pub given : n < next
  pub orderly : IsOrderly held
  pub most : length held ≤ most_rows

module _ (next : ℕ) where
  with_locks_well : (n : ℕ) (held : List Lock) (table : Table) → Fit next n held → LocksWell next table → LocksWell next (with_locks table n held)
  with_locks_well n held table fit well = record {
    rising = ordered_with n held table well.rising;
    locks = with_entries (AreLocks next) n held table (λ some. record { given = fit.given; some = some; most = fit.most; orderly = fit.orderly }) well.locks;
  }

  logged_locks : (s : State) (p block : ℕ) (change : UnitChange) (journal : Option ℕ) → LocksWell next s.locks → LocksWell next (logged_in s p block change journal).locks
  logged_locks s p block change None well = well
  logged_locks s p block change (Some journal) well = well

  entered_locks : (s : State) (p block : ℕ) (change : UnitChange) → LocksWell next s.locks → LocksWell next (logged s p block change).locks
  unfolding logged
  entered_locks s p block change well = logged_locks s p block change (journal_for s.held change.space.0) well

  restacked_locks : (f : List ObjNum → List ObjNum) (s : State) (p : ℕ) (x : Option ProcessEntry) → LocksWell next s.locks → LocksWell next (restack_at f s p x).locks
  restacked_locks f s p None well = well
  restacked_locks f s p (Some x) well = well

  committed_locks : (s : State) (p block : ℕ) (unit : Option CommitUnit) → LocksWell next s.locks → LocksWell next (committed s p block unit).locks
  committed_locks s p block None well = well
  committed_locks s p block (Some unit) well = well

  decommitted_locks : (s : State) (p block : ℕ) (unit : Option CommitUnit) → LocksWell next s.locks → LocksWell next (decommitted s p block unit).locks
  decommitted_locks s p block None well = well
  decommitted_locks s p block (Some unit) well = well

  -- one case for each word of change
  done_locks : (x : Changes) (s : State) (p : ℕ) → LocksWell next s.locks → LocksMay (Fit next) s p x → LocksWell next (done s p x).locks
  done_locks (Entered block change f) s p well may = entered_locks s p block change well
  done_locks (Framed f) s p well may = restacked_locks f s p (process_entry s p) well
  done_locks (Locked n held) s p well may = with_locks_well n held s.locks may well
  done_locks (Committed block) s p well may = committed_locks s p block (unit_of s.units block) well
  done_locks (Decommitted block) s p well may = decommitted_locks s p block (unit_of s.units block) well
  done_locks (Then a b) s p well may = done_locks b (done s p a) p (done_locks a s p well may.0) may.1
  done_locks _ s p well may = well

  delivered_locks : (s : State) (shift : ℕ) (receiver : Option Operand) (v : Option Val) → LocksWell next s.locks → LocksWell next (delivered s shift receiver v).state.locks
  delivered_locks s shift receiver None well = well
  delivered_locks s shift (Some (operands.InSpace base offset attr)) (Some v) well = well
  delivered_locks s shift _ (Some v) well = well

  pub act_locks : (s : State) (p d : ℕ) (t : Request) → LocksWell next s.locks → LocksMay (Fit next) s p ((row t.op).changes s p d t) → LocksWell next (effect (row t.op) s p d t).state.locks
  unfolding effect
  act_locks s p d t well may =
      delivered_locks (done s p ((row t.op).changes s p d t)) (shift_at s.held t.op t.operands) (receiver_at t.op t.operands) ((row t.op).gives s p d t)
      (done_locks ((row t.op).changes s p d t) s p well may)

  all_decommitted_locks : (units : UnitMap) (s : State) (p : ℕ) → LocksWell next s.locks → LocksWell next (all_decommitted s p units).locks
  unfolding all_decommitted
  all_decommitted_locks [] s p well = well
  all_decommitted_locks (e ∷ units) s p well =
      let taken = decommitted s p e.0 (Some e.1) in
      cond_both (e.1.process == p) taken s (λ (t : State). LocksWell next (all_decommitted t p units).locks)
      (λ own. all_decommitted_locks units taken p (decommitted_locks s p e.0 (Some e.1) well))
      (λ other. all_decommitted_locks units s p well)

  pub end_locks : (s : State) (p : ℕ) (x : Option ProcessEntry) → LocksWell next s.locks → LocksWell next (end_at s p x).locks
  end_locks s p None well = well
  end_locks s p (Some x) well =
      let taken = all_decommitted_locks s.units s p well in
      record {
        rising = ordered_released p (all_decommitted s p s.units).locks taken.rising;
        locks = released_entries (AreLocks next) p (λ e is some. record { given = is.given; some = some; most = fewer p e.1 is.most; orderly = orderly_filtered _ e.1 is.orderly }) (all_decommitted s p s.units).locks taken.locks;
      }

  pub start_locks : (s : State) (p : ℕ) (x : Option ProcessEntry) → LocksWell next s.locks → LocksWell next (start_at s p x).locks
  start_locks s p None well = well
  start_locks s p (Some x) well = well

  pub few_there : (table : Table) (object : ℕ) → LocksWell next table → length (locks_of table object) ≤ most_rows
  few_there table object well =
      by (lookup (is_at (nat_cmp object)) table) (All-lookup IsFew (is_at (nat_cmp object)) table (All-weaker (AreLocks next) (λ e. IsFew e.1) (λ e is. is.most) table well.locks))
    where
      by : (r : Option (List Lock)) → IfSome r IsFew → length (unwrap_or r []) ≤ most_rows
      by None h = omega arith
      by (Some locks) h = h

  pub orderly_there : (table : Table) (object : ℕ) → LocksWell next table → IsOrderly (locks_of table object)
  orderly_there table object well =
      by (lookup (is_at (nat_cmp object)) table) (All-lookup IsOrderly (is_at (nat_cmp object)) table (All-weaker (AreLocks next) (λ e. IsOrderly e.1) (λ e is. is.orderly) table well.locks))
    where
      by : (r : Option (List Lock)) → IfSome r IsOrderly → IsOrderly (unwrap_or r [])
      by None h = tt
      by (Some locks) h = h
