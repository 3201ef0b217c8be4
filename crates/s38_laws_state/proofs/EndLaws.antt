-- Whole runs leave nothing: every process has ended, so nothing is locked, no unit of changes is open, and nobody waits.
use Rattle.std.proofs.Common.{◌+◌, ◌-◌, ◌∷◌, ◌≡◌, ◌&&◌, Bool, List, [], ap, arith, false, not, refl, subst, suc, true, ◌∙◌, ℕ}
use Rattle.std.proofs.lemmas.List.Elements.{All-cons, All-head, All-nil}
use Rattle.std.proofs.lemmas.Option.{slice_get_within}
use Rattle.std.specs.Prelude.{All, None, Option, Some, is_some, slice_get}
use Rattle.s38_code.specs.declared.deck.Job.{Job}
use Rattle.s38_code.specs.declared.entry.Entry.{Entry}
use Rattle.s38_code.specs.declared.made.CheckedTemplate.{CheckedTemplate}
use Rattle.s38_commits.specs.Units.{UnitMap}
use Rattle.s38_locks.specs.Locks.{Lock, is_locked}
use Rattle.s38_locks.specs.Table.{Table}
use Rattle.s38_laws_images.specs.openings.Opening.{IsOpening}
use Rattle.s38_laws_processes.specs.owners.Beginnings.{state_over}
use Rattle.s38_rules.specs.store.Room.{Room}
use Rattle.s38_rules.specs.state.Held.{Held}
use Rattle.s38_rules.specs.step.Legal.{Leads}
use Rattle.s38_rules.specs.families.Locking.{is_going_in}
use Rattle.s38_rules.specs.state.State.{State}
use Rattle.s38_rules.specs.declared.process.ProcessEntry.{ProcessEntry}
use Rattle.s38_laws_state.proofs.FollowLaws.{all_ended, run_live}
use Rattle.s38_laws_state.proofs.StepLaws.{run_in_order}
use Rattle.s38_laws_state.specs.Live.{AreHeld, AreWholeRuns, HasNothingLeft, IsAlive, IsOfLiving, MayWait, is_open_in, is_pending_in}
use Rattle.s38_laws_state.specs.Order.{AreLocks}

-- who is alive, or may wait, has not ended
going_open : (x : Option ProcessEntry) → is_going_in x ≡ true → is_open_in x ≡ true
going_open None h = cc
going_open (Some x) h = by (is_some x.started) (not x.ended) h
  where
    by : (a b : Bool) → (a && b) ≡ true → b ≡ true
    by true b g = g
    by false b g = cc

standing_open : (xs : List ProcessEntry) (x : Option ProcessEntry) → is_pending_in xs x ≡ true → is_open_in x ≡ true
standing_open xs None h = cc
standing_open xs (Some x) h = by (not x.ended) _ h
  where
    by : (a b : Bool) → (a && b) ≡ true → a ≡ true
    by true b g = refl
    by false b g = cc

-- no place of the processes has one that has not ended
abbrev NoneOpen : List ProcessEntry → Type 0
NoneOpen xs = (k : ℕ) → is_open_in (slice_get xs k) ≡ false

true_false : (b : Bool) → b ≡ true → b ≡ false → ⊥
true_false b h g = cc

none_alive : (xs : List ProcessEntry) (p : ℕ) → NoneOpen xs → IsAlive xs p → ⊥
none_alive xs p none alive = true_false _ (going_open (slice_get xs (p - 1)) alive.going) (none (p - 1))

none_locked : (next : ℕ) (xs : List ProcessEntry) (table : Table) → NoneOpen xs → All (AreHeld xs) table → All (AreLocks next) table → table ≡ []
none_locked next xs [] none held locks = refl
none_locked next xs (e ∷ es) none held locks = absurd (by e.1 (All-head (AreHeld xs) e es held) (All-head (AreLocks next) e es locks).some)
  where
    by : (locks : List Lock) → All (λ lock. IsAlive xs lock.0) locks → is_locked locks ≡ true → ⊥
    by [] all some = cc
    by (lock ∷ more) all some = none_alive xs lock.0 none (All-head (λ l. IsAlive xs l.0) lock more all)

none_owned : (xs : List ProcessEntry) (units : UnitMap) → NoneOpen xs → All (IsOfLiving xs) units → units ≡ []
none_owned xs [] none all = refl
none_owned xs (e ∷ es) none all = absurd (none_alive xs e.1.process none (All-head (IsOfLiving xs) e es all))

none_waits : (xs : List ProcessEntry) (waiting : List ℕ) → NoneOpen xs → All (MayWait xs) waiting → waiting ≡ []
none_waits xs [] none all = refl
none_waits xs (p ∷ ps) none all = absurd (true_false _ (standing_open xs (slice_get xs (p - 1)) (All-head (MayWait xs) p ps all).standing) (none (p - 1)))

each_ended : (xs : List ProcessEntry) → NoneOpen xs → All (λ x. x.ended ≡ true) xs
each_ended [] none = All-nil (λ x. x.ended ≡ true)
each_ended (x ∷ xs) none = All-cons (λ y. y.ended ≡ true) x xs (turned x.ended (none 0)) (each_ended xs (λ k. none (suc k)))
  where
    turned : (b : Bool) → not b ≡ false → b ≡ true
    turned true h = refl
    turned false h = cc

-- after whole runs no place has one that has not ended
none_open : (room : Option Room) (held : Held) (templates : List CheckedTemplate) (jobs : List Job) (history : List Entry) (end : State) → AreWholeRuns jobs history → Leads (state_over room held templates jobs) [] history end → NoneOpen end.processes
none_open room held templates jobs history end run leads k = by (slice_get end.processes k) refl
  where
    by : (x : Option ProcessEntry) → slice_get end.processes k ≡ x → is_open_in x ≡ false
    by None at = refl
    by (Some x) at =
        let within = slice_get_within end.processes k x at in
        let place : k + 1 - 1 ≡ k = omega arith in
        subst (λ o. is_open_in o ≡ false) (ap (slice_get end.processes) place ∙ at) (all_ended room held templates jobs history end run leads (k + 1) (omega arith) (omega (arith, within)))

pub nothing_left : (room : Option Room) (held : Held) (templates : List CheckedTemplate) (jobs : List Job) (history : List Entry) (end : State) → IsOpening held → AreWholeRuns jobs history → Leads (state_over room held templates jobs) [] history end
    → HasNothingLeft end
nothing_left room held templates jobs history end is run leads =
    let live = (run_live room held templates jobs history end run.runs leads).1 in
    let order = (run_in_order room held templates jobs history end is leads).1 in
    let none = none_open room held templates jobs history end run leads in
    record {
      ended = each_ended end.processes none;
      locks = none_locked end.held.next end.processes end.locks none live.locks order.locks;
      units = none_owned end.processes end.units none live.units;
      waiting = none_waits end.processes end.waiting none live.waiting;
    }
