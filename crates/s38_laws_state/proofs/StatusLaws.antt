-- How far processes have come after a step: one that is alive stays so but where it ends, and how far each has come is as
-- what it asks next wants it.
use Rattle.std.proofs.Common.{◌-◌, ◌∙◌, ◌∷◌, ◌≡◌, ◌≢◌, ◌&&◌, Bool, List, [], ap, false, not, refl, subst, suc, sym, true, zero, ℕ}
use Rattle.std.proofs.lemmas.Option.{slice_get-map}
use Rattle.std.specs.Option.{option_map}
use Rattle.std.specs.Prelude.{None, Option, Some, is_some, slice_get, slice_set}
use Rattle.s38_code.specs.declared.event.Event.TheVariants.{Act, Finish, Start}
use Rattle.s38_code.specs.declared.event.Event.{Event}
use Rattle.s38_process.specs.declared.status.Status.TheVariants.{Ended, Ending, Fresh, Running}
use Rattle.s38_process.specs.declared.status.Status.{Status}
use Rattle.s38_rules.proofs.Laws.{act_keeps, all_decommitted_keeps}
use Rattle.s38_rules.specs.step.Effect.{effect_of, end_at, start_at, started_as}
use Rattle.s38_rules.specs.families.Instruction.{AreKept, unstacked}
use Rattle.s38_rules.specs.families.Locking.{is_going_in}
use Rattle.s38_rules.specs.families.Rows.{row}
use Rattle.s38_rules.specs.state.State.{State, process_entry}
use Rattle.s38_rules.specs.declared.process.ProcessEntry.{ProcessEntry}
use Rattle.s38_rules.specs.declared.process.Started.{Started}
use Rattle.s38_laws_state.specs.Live.{IsAlive, is_open_in}

-- ---- as far as what it asks next wants it

-- a fresh process has not ended, a running one has started too, and one that has come to its end has ended
abbrev pub status_agrees : Status → Option ProcessEntry → Bool
status_agrees Fresh x = is_open_in x
status_agrees Running x = is_going_in x
status_agrees (Ending cause) x = true
status_agrees Ended x = not (is_open_in x)

-- ---- other frames make no difference

open_unstacked : (x : Option ProcessEntry) → is_open_in (option_map unstacked x) ≡ is_open_in x
open_unstacked None = refl
open_unstacked (Some x) = refl

going_unstacked : (x : Option ProcessEntry) → is_going_in (option_map unstacked x) ≡ is_going_in x
going_unstacked None = refl
going_unstacked (Some x) = by x.started x.ended
  where
    by : (o : Option Started) (ended : Bool) → is_going_in (Some (unstacked (record x { started = o; ended = ended }))) ≡ (is_some o && not ended)
    by None ended = refl
    by (Some p) ended = refl

stands_unstacked : (status : Status) (x : Option ProcessEntry) → status_agrees status (option_map unstacked x) ≡ status_agrees status x
stands_unstacked Fresh x = open_unstacked x
stands_unstacked Running x = going_unstacked x
stands_unstacked (Ending cause) x = refl
stands_unstacked Ended x = ap not (open_unstacked x)

-- so each process is as it was
pub kept_stands : (p : ℕ) (xs ys : List ProcessEntry) (status : Status) (k : ℕ) → AreKept p xs ys → status_agrees status (slice_get ys k) ≡ status_agrees status (slice_get xs k)
kept_stands p xs ys status k kept =
    sym (stands_unstacked status (slice_get ys k)) ∙ ap (status_agrees status) (sym (slice_get-map unstacked ys k)) ∙ ap (λ (l : List ProcessEntry). status_agrees status (slice_get l k)) kept.stays
    ∙ ap (status_agrees status) (slice_get-map unstacked xs k) ∙ stands_unstacked status (slice_get xs k)

-- ---- another entry of one process

pub set_other : (xs : List ProcessEntry) (k j : ℕ) (y : ProcessEntry) → j ≢ k → slice_get (slice_set xs k y) j ≡ slice_get xs j
set_other [] k j y away = refl
set_other (x ∷ xs) zero zero y away = absurd (away refl)
set_other (x ∷ xs) zero (suc j) y away = refl
set_other (x ∷ xs) (suc k) zero y away = refl
set_other (x ∷ xs) (suc k) (suc j) y away = set_other xs k j y (λ e. away (ap suc e))

pub set_here : (xs : List ProcessEntry) (k : ℕ) (x y : ProcessEntry) → slice_get xs k ≡ Some x → slice_get (slice_set xs k y) k ≡ Some y
set_here [] k x y there = cc
set_here (z ∷ xs) zero x y there = refl
set_here (z ∷ xs) (suc k) x y there = set_here xs k x y there

-- where the new one is as far as the old one, each place is as it was
pub set_stands : (xs : List ProcessEntry) (k j : ℕ) (x y : ProcessEntry) (status : Status) → slice_get xs k ≡ Some x → (status_agrees status (Some x) ≡ true → status_agrees status (Some y) ≡ true)
    → status_agrees status (slice_get xs j) ≡ true → status_agrees status (slice_get (slice_set xs k y) j) ≡ true
set_stands [] k j x y status there next was = cc
set_stands (z ∷ xs) zero zero x y status there next was = next (subst (λ o. status_agrees status o ≡ true) there was)
set_stands (z ∷ xs) zero (suc j) x y status there next was = was
set_stands (z ∷ xs) (suc k) zero x y status there next was = was
set_stands (z ∷ xs) (suc k) (suc j) x y status there next was = set_stands xs k j x y status there next was

-- ---- after an effect

start_stands : (s : State) (p j : ℕ) (o : Option ProcessEntry) (status : Status) → process_entry s p ≡ o → status_agrees status (slice_get s.processes j) ≡ true
    → status_agrees status (slice_get (start_at s p o).processes j) ≡ true
start_stands s p j None status there was = was
start_stands s p j (Some x) status there was = set_stands s.processes (p - 1) j x _ status there (next status) was
  where
    second : (a b : Bool) → (a && b) ≡ true → b ≡ true
    second true b h = h
    second false b h = cc

    next : (status : Status) → status_agrees status (Some x) ≡ true → status_agrees status (Some (record x { started = Some (started_as s.held x.job) })) ≡ true
    next Fresh h = h
    next Running h = second (is_some x.started) (not x.ended) h
    next (Ending cause) h = refl
    next Ended h = h

end_stands : (s : State) (p j : ℕ) (o : Option ProcessEntry) (status : Status) → j ≢ p - 1 → status_agrees status (slice_get s.processes j) ≡ true
    → status_agrees status (slice_get (end_at s p o).processes j) ≡ true
end_stands s p j None status away was = was
end_stands s p j (Some x) status away was =
    subst (λ o. status_agrees status o ≡ true) (sym (set_other _ (p - 1) j _ away ∙ ap (λ (l : List ProcessEntry). slice_get l j) (all_decommitted_keeps s.units s p))) was

-- of an event that is no end, or of another process than the one that ends
abbrev pub Spares : ℕ → ℕ → Event → Type 0
Spares p j (Finish cause) = j ≢ p - 1
Spares p j Start = Unit {0}
Spares p j (Act depth request) = Unit {0}

pub effect_agrees : (s : State) (p : ℕ) (e : Event) (j : ℕ) (status : Status) → Spares p j e → status_agrees status (slice_get s.processes j) ≡ true
    → status_agrees status (slice_get (effect_of s p e).state.processes j) ≡ true
unfolding effect_of
effect_agrees s p Start j status spared was = start_stands s p j (process_entry s p) status refl was
effect_agrees s p (Act depth request) j status spared was = kept_stands p s.processes _ status j (act_keeps (row request.op) s p depth request) ∙ was
effect_agrees s p (Finish cause) j status away was = end_stands s p j (process_entry s p) status away was

-- one that is alive stays so
pub effect_alive : (s : State) (p : ℕ) (e : Event) (q : ℕ) → Spares p (q - 1) e → IsAlive s.processes q → IsAlive (effect_of s p e).state.processes q
effect_alive s p e q spared alive = record { first = alive.first; going = effect_agrees s p e (q - 1) Running spared alive.going }
