-- A machine without a store stays at the moment of its start.
use Rattle.std.proofs.Common.{◌≡◌, ◌≤◌, ℕ, arith, refl, sym, ap, ◌∙◌, subst}
use Rattle.std.specs.Prelude.{Result, Ok, Err, OnErr, OnOk}
use Rattle.s38_code.specs.declared.event.Event.{Event}
use Rattle.s38_rules.specs.step.Legal.{IsSound, Run, after, begun}
use Rattle.s38_rules.specs.state.State.{State}
use Rattle.s38_rules.proofs.Laws.{sound_begun}
use Rattle.s38_run.specs.Still.{Beginning, IsStill, beginning}

-- a step, or none
pub record IsStepOrNone (m n : Run) : Type 0 where
  pub origin : n.origin ≡ m.origin
  pub first : n.first ≡ m.first
  pub moment : n.moment ≡ m.moment

after_is : (m : Run) (p : ℕ) (e : Event) → IsStepOrNone m (after m m.moment p e)
unfolding after
after_is m p e = record { origin = refl; first = refl; moment = refl }

is_after : (m n : Run) (p : ℕ) (e : Event) → n ≡ after m m.moment p e → IsStepOrNone m n
is_after m n p e ok = subst (IsStepOrNone m) (sym ok) (after_is m p e)

pub step_or_none : {T E : Type 0} (r : Result T E) (m n : Run) (p : ℕ) (e : Event) → OnOk r (n ≡ after m m.moment p e) → OnErr r (n ≡ m) → IsStepOrNone m n
step_or_none (Ok x) m n p e ok err = is_after m n p e ok
step_or_none (Err x) m n p e ok err = subst (IsStepOrNone m) (sym err) (record { origin = refl; first = refl; moment = refl })

-- it is one at the moment to which it came
pub moved_still : {T E : Type 0} (r : Result T E) (m n : Run) (p : ℕ) (e : Event) → OnOk r (n ≡ after m m.moment p e) → OnOk r (n ≡ after m n.moment p e)
moved_still (Ok x) m n p e ok = subst (λ k. n ≡ after m k p e) (sym (is_after m n p e ok).moment) ok
moved_still (Err x) m n p e ok = tt

pub later_still : {T E : Type 0} (r : Result T E) (m n : Run) (p : ℕ) (e : Event) → OnOk r (n ≡ after m m.moment p e) → OnOk r (m.moment ≤ n.moment)
later_still (Ok x) m n p e ok = omega (arith, (is_after m n p e ok).moment)
later_still (Err x) m n p e ok = tt

pub kept_still : {T E A : Type 0} (r : Result T E) (m n : Run) (f : Run → A) → OnErr r (n ≡ m) → OnErr r (f n ≡ f m)
kept_still (Ok x) m n f err = tt
kept_still (Err x) m n f err = ap f err

pub same_beginning : (m n : Run) → IsStepOrNone m n → beginning n ≡ beginning m
same_beginning m n s = λ k. record { state = s.origin k; first = s.first k }

pub still_yet : (m n : Run) → IsStepOrNone m n → IsStill m → IsSound n → IsStill n
still_yet m n s still sound = record { sound = sound; moment = s.moment ∙ (still.moment ∙ sym s.first) }

-- a machine that has just begun
pub still_begun : (m : Run) (s : State) → m ≡ begun m.first s → IsStill m
still_begun m s is = record { sound = subst IsSound (sym is) (sound_begun m.first s); moment = ap (λ (k : Run). k.moment) is }

-- it stays at its first moment
pub still_from : (m n : Run) → IsStill n → beginning n ≡ beginning m → (n.first ≡ m.first) × (n.moment ≡ m.first)
still_from m n still same = let first : n.first ≡ m.first = ap (λ (b : Beginning). b.first) same in (first, still.moment ∙ first)
