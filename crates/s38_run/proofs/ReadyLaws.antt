-- Who is ready: by what it changes, and by what it does not.
use Rattle.std.proofs.Common.{◌≡◌, ◌≢◌, ℕ, zero, suc, ◌+◌, ◌-◌, ◌<◌, ◌≤◌, ◌==◌, Bool, true, false, cond, not, ◌&&◌, ◌||◌, List, [], ◌∷◌, length, map, refl, sym, ◌∙◌, ap, arith}
use Rattle.std.proofs.lemmas.List.Elements.{filter_agree}
use Rattle.std.proofs.lemmas.Option.{same_Some}
use Rattle.std.proofs.lemmas.List.FromFn.{length-range_with_len}
use Rattle.std.proofs.lemmas.Bool.Decides.{nat_tests}
use Rattle.std.specs.Prelude.{Option, Some, None, filter, nat_lt, slice_get, slice_set}
use Rattle.std.specs.Option.{option_map}
use Rattle.std.specs.List.{list_any, range_with_len}
use Rattle.s38_rules.specs.declared.process.ProcessEntry.{ProcessEntry}
use Rattle.s38_rules.specs.step.Effect.{start_at}
use Rattle.s38_rules.specs.families.Instruction.{AreKept, unstacked}
use Rattle.s38_rules.specs.step.Legal.{IsProcess}
use Rattle.s38_rules.specs.state.State.{State, is_early, process_entry, ready, ready_in, ready_list, runs_before, waits}

-- the numbers of the processes, in order
abbrev process_numbers : State → List ℕ
process_numbers s = range_with_len 1 (length s.processes)

-- ---- what readiness looks at: which processes have ended, their stages, and who waits

abbrev Outline : Type 0
Outline = Bool × ℕ

abbrev outline_of : ProcessEntry → Outline
outline_of x = (x.ended, x.job.stage)

abbrev pub outline : List ProcessEntry → List (Bool × ℕ)
outline xs = map outline_of xs

abbrev before : ℕ → Outline → Bool
before stage o = not o.0 && nat_lt o.1 stage

early_is : (xs : List ProcessEntry) (stage : ℕ) → is_early xs stage ≡ list_any (before stage) (outline xs)
early_is [] stage = refl
early_is (x ∷ xs) stage = ap (λ b. runs_before stage x || b) (early_is xs stage)

get_outline : (xs : List ProcessEntry) (k : ℕ) → slice_get (outline xs) k ≡ option_map outline_of (slice_get xs k)
get_outline [] k = refl
get_outline (x ∷ xs) zero = refl
get_outline (x ∷ xs) (suc k) = get_outline xs k

abbrev ready_by : Option Outline → List Outline → Bool → Bool
ready_by None os waiting = false
ready_by (Some o) os waiting = not o.0 && (not (list_any (before o.1) os) && not waiting)

ready_at : (s : State) (p : ℕ) (o : Option ProcessEntry) → ready_in s p o ≡ ready_by (option_map outline_of o) (outline s.processes) (waits s p)
ready_at s p None = refl
ready_at s p (Some x) = ap (λ b. not x.ended && (not b && not (waits s p))) (early_is s.processes x.job.stage)

ready_is : (s : State) (p : ℕ) → ready s p ≡ ready_by (slice_get (outline s.processes) (p - 1)) (outline s.processes) (waits s p)
ready_is s p = ready_at s p (process_entry s p) ∙ ap (λ o. ready_by o (outline s.processes) (waits s p)) (sym (get_outline s.processes (p - 1)))

same_ready : (s t : State) (p : ℕ) → outline t.processes ≡ outline s.processes → t.waiting ≡ s.waiting → ready t p ≡ ready s p
same_ready s t p same waiting =
    ready_is t p
    ∙ ap (λ os. ready_by (slice_get os (p - 1)) os (waits t p)) same
    ∙ ap (λ ws. ready_by (slice_get (outline s.processes) (p - 1)) (outline s.processes) (list_any (λ w. w == p) ws)) waiting
    ∙ sym (ready_is s p)

-- where the outline is the same, so is whether the process at a place has ended
pub same_ended : (xs ys : List ProcessEntry) (k : ℕ) (x y : ProcessEntry) → outline ys ≡ outline xs → slice_get xs k ≡ Some x → slice_get ys k ≡ Some y → y.ended ≡ x.ended
same_ended xs ys k x y same x_at y_at = ap (λ (o : Outline). o.0) (same_Some (outline_of y) (outline_of x) (sym (ap (option_map outline_of) y_at) ∙ sym (get_outline ys k) ∙ ap (λ os. slice_get os k) same ∙ get_outline xs k ∙ ap (option_map outline_of) x_at))

-- ---- a start

set_outline : (xs : List ProcessEntry) (k : ℕ) (x y : ProcessEntry) → slice_get xs k ≡ Some x → outline_of y ≡ outline_of x → outline (slice_set xs k y) ≡ outline xs
set_outline [] k x y h e = refl
set_outline (z ∷ xs) zero x y h e = ap (λ o. o ∷ outline xs) (e ∙ ap outline_of (same_Some x z (sym h)))
set_outline (z ∷ xs) (suc k) x y h e = ap (λ os. outline_of z ∷ os) (set_outline xs k x y h e)

pub start_outline : (s : State) (p : ℕ) (o : Option ProcessEntry) → process_entry s p ≡ o → outline (start_at s p o).processes ≡ outline s.processes
start_outline s p None h = refl
start_outline s p (Some x) h = set_outline s.processes (p - 1) x _ h refl

-- ---- an instruction

unstacked_outline : (xs : List ProcessEntry) → outline (map unstacked xs) ≡ outline xs
unstacked_outline [] = refl
unstacked_outline (x ∷ xs) = ap (λ os. outline_of x ∷ os) (unstacked_outline xs)

-- other frames change nothing of who is ready
pub kept_outline : (p : ℕ) (xs ys : List ProcessEntry) → AreKept p xs ys → outline ys ≡ outline xs
kept_outline p xs ys kept = sym (unstacked_outline ys) ∙ ap outline kept.stays ∙ unstacked_outline xs

-- ---- lists that are filtered

cons_get : {A : Type 0} (f : A → Bool) (x : A) (xs : List A) (b : Bool) (i : ℕ) (y : A) → f x ≡ b → slice_get (cond b (x ∷ filter f xs) (filter f xs)) i ≡ Some y
    → ((j : ℕ) → slice_get (filter f xs) j ≡ Some y → (f y ≡ true) × ((k : ℕ) × (slice_get xs k ≡ Some y)))
    → (f y ≡ true) × ((k : ℕ) × (slice_get (x ∷ xs) k ≡ Some y))
cons_get f x xs true zero y e h more = (sym (ap f (same_Some x y h)) ∙ e, (zero, h))
cons_get f x xs true (suc i) y e h more = let rest = more i h in (rest.0, (suc rest.1.0, rest.1.1))
cons_get f x xs false i y e h more = let rest = more i h in (rest.0, (suc rest.1.0, rest.1.1))

-- what is kept passes, and was there
pub kept_at : {A : Type 0} (f : A → Bool) (xs : List A) (i : ℕ) (y : A) → slice_get (filter f xs) i ≡ Some y → (f y ≡ true) × ((k : ℕ) × (slice_get xs k ≡ Some y))
kept_at f [] i y h = cc
kept_at f (x ∷ xs) i y h = cons_get f x xs (f x) i y refl h (λ j g. kept_at f xs j y g)

not_cons : {A : Type 0} (x : A) (xs : List A) → x ∷ xs ≡ [] → ⊥
not_cons x xs h = cc

-- where none is kept, none passes
pub none_kept : {A : Type 0} (f : A → Bool) (xs : List A) (k : ℕ) (y : A) → filter f xs ≡ [] → slice_get xs k ≡ Some y → f y ≡ false
none_kept f [] k y h at = cc
none_kept {A = A} f (x ∷ xs) k y h at = by_test (f x) refl h k at (λ g j there. none_kept f xs j y g there)
  where
    by_test : (b : Bool) → f x ≡ b → cond b (x ∷ filter f xs) (filter f xs) ≡ [] → (k : ℕ) → slice_get (x ∷ xs) k ≡ Some y
        → (filter f xs ≡ [] → (j : ℕ) → slice_get xs j ≡ Some y → f y ≡ false) → f y ≡ false
    by_test true e h k at more = absurd (not_cons x (filter f xs) h)
    by_test false e h zero at more = sym (ap f (same_Some x y at)) ∙ e
    by_test false e h (suc k) at more = more h k at

pub filter_twice : {A : Type 0} (f g : A → Bool) (xs : List A) → filter f (filter g xs) ≡ filter (λ x. g x && f x) xs
filter_twice f g [] = refl
filter_twice f g (x ∷ xs) = by_test (g x) (filter_twice f g xs)
  where
    by_test : (b : Bool) → filter f (filter g xs) ≡ filter (λ y. g y && f y) xs
        → filter f (cond b (x ∷ filter g xs) (filter g xs)) ≡ cond (b && f x) (x ∷ filter (λ y. g y && f y) xs) (filter (λ y. g y && f y) xs)
    by_test true h = ap (λ ys. cond (f x) (x ∷ ys) ys) h
    by_test false h = h

filter_few : {A : Type 0} (f : A → Bool) (xs : List A) → length (filter f xs) ≤ length xs
filter_few f [] = omega arith
filter_few f (x ∷ xs) = by_test (f x) (filter_few f xs)
  where
    by_test : (b : Bool) → length (filter f xs) ≤ length xs → length (cond b (x ∷ filter f xs) (filter f xs)) ≤ length (x ∷ xs)
    by_test true h = omega arith
    by_test false h = omega arith

-- what does not pass is missing
pub filter_fewer : {A : Type 0} (f : A → Bool) (xs : List A) (i : ℕ) (y : A) → slice_get xs i ≡ Some y → f y ≡ false → length (filter f xs) < length xs
filter_fewer f [] i y h e = cc
filter_fewer f (x ∷ xs) zero y h e = let here : f x ≡ false = ap f (same_Some x y h) ∙ e in rw here (omega (arith, filter_few f xs))
filter_fewer f (x ∷ xs) (suc i) y h e = by_test (f x) (filter_fewer f xs i y h e)
  where
    by_test : (b : Bool) → length (filter f xs) < length xs → length (cond b (x ∷ filter f xs) (filter f xs)) < length (x ∷ xs)
    by_test true h = omega arith
    by_test false h = omega arith

-- where some element passes, one of them
abbrev pub Among : {A : Type 0} → (A → Bool) → List A → Type 0
Among {A} p xs = (j : ℕ) × ((y : A) × ((slice_get xs j ≡ Some y) × (p y ≡ true)))

among_first : {A : Type 0} (p : A → Bool) (x : A) (xs : List A) (b : Bool) → p x ≡ b → (b || list_any p xs) ≡ true → (list_any p xs ≡ true → Among p xs) → Among p (x ∷ xs)
among_first p x xs true e g more = (0, (x, (refl, e)))
among_first p x xs false e g more = let there = more g in (suc there.0, (there.1.0, there.1.1))

pub any_some : {A : Type 0} (p : A → Bool) (xs : List A) → list_any p xs ≡ true → Among p xs
any_some p [] h = cc
any_some p (x ∷ xs) h = among_first p x xs (p x) refl h (any_some p xs)

range_has : (a n k : ℕ) → k < n → slice_get (range_with_len a n) k ≡ Some (a + k)
range_has a zero k h = absurd (omega arith)
range_has a (suc n) zero h = let here : a ≡ a + 0 = omega arith in ap Some here
range_has a (suc n) (suc k) h = let on : a + 1 + k ≡ a + suc k = omega arith in range_has (a + 1) n k (omega arith) ∙ ap Some on

range_within : (a n k x : ℕ) → slice_get (range_with_len a n) k ≡ Some x → (a ≤ x) × (x < a + n)
range_within a zero k x h = cc
range_within a (suc n) zero x h = let same : a ≡ x = same_Some a x h in (omega arith, omega arith)
range_within a (suc n) (suc k) x h = let rest = range_within (a + 1) n k x h in (omega (arith, rest.0), omega (arith, rest.1))

-- ---- those that are ready

-- each is a process, and ready
pub listed_ready : (s : State) (i p : ℕ) → slice_get (ready_list s) i ≡ Some p → (ready s p ≡ true) × IsProcess s p
listed_ready s i p h =
    let kept = kept_at (ready s) (process_numbers s) i p h in
    let within = range_within 1 (length s.processes) kept.1.0 p kept.1.1 in
    (kept.0, record { first = omega (arith, within.0); last = omega (arith, within.1) })

-- none other is
pub none_listed : (s : State) (p : ℕ) → ready_list s ≡ [] → IsProcess s p → ready s p ≡ false
none_listed s p none is =
    let at : 1 + (p - 1) ≡ p = omega (arith, is.first) in
    none_kept (ready s) (process_numbers s) (p - 1) p none (range_has 1 (length s.processes) (p - 1) (omega (arith, is.first, is.last)) ∙ ap Some at)

pub ready_few : (s : State) → length (ready_list s) ≤ length s.processes
ready_few s = omega (arith, filter_few (ready s) (process_numbers s), length-range_with_len 1 (length s.processes))

-- where nothing of what readiness looks at has changed, the same are ready
pub same_list : (s t : State) → length t.processes ≡ length s.processes → outline t.processes ≡ outline s.processes → t.waiting ≡ s.waiting → ready_list t ≡ ready_list s
same_list s t count same waiting =
    ap (λ n. filter (ready t) (range_with_len 1 n)) count
    ∙ filter_agree (ready t) (ready s) (λ p. same_ready s t p same waiting) (process_numbers s)

-- a process more waits
abbrev pub with_waiting : State → ℕ → State
with_waiting s p = record s { waiting = p ∷ s.waiting }

split_waits : (ended early here there : Bool) → (not ended && (not early && not (here || there))) ≡ (not ended && (not early && not there)) && not here
split_waits true early here there = refl
split_waits false true here there = refl
split_waits false false true true = refl
split_waits false false true false = refl
split_waits false false false there = by_test there
  where
    by_test : (b : Bool) → not b ≡ not b && true
    by_test true = refl
    by_test false = refl

waiting_in : (s : State) (p q : ℕ) (o : Option ProcessEntry) → ready_in (with_waiting s p) q o ≡ ready_in s q o && not (p == q)
waiting_in s p q None = refl
waiting_in s p q (Some x) = split_waits x.ended (is_early s.processes x.job.stage) (p == q) (waits s q)

pub waiting_ready : (s : State) (p q : ℕ) → ready (with_waiting s p) q ≡ ready s q && not (p == q)
waiting_ready s p q = waiting_in s p q (process_entry s q)

-- the others that were ready are ready
pub waiting_list : (s : State) (p : ℕ) → ready_list (with_waiting s p) ≡ filter (λ q. not (p == q)) (ready_list s)
waiting_list s p =
    filter_agree (ready (with_waiting s p)) (λ q. ready s q && not (p == q)) (λ q. waiting_in s p q (process_entry s q)) (process_numbers s)
    ∙ sym (filter_twice (λ q. not (p == q)) (ready s) (process_numbers s))

-- another process is ready
pub record OtherReady (s : State) (p : ℕ) : Type 0 where
  pub number : ℕ
  pub is : IsProcess s number
  pub other : number ≢ p
  pub ready : ready s number ≡ true

both_tests : (a b : Bool) → (a && b) ≡ true → (a ≡ true) × (b ≡ true)
both_tests true true h = (refl, refl)
both_tests true false h = cc
both_tests false b h = cc

-- where some other process is found ready, another is
pub other_found : (s : State) (p : ℕ) → list_any (λ q. not (q == p) && ready s q) (process_numbers s) ≡ true → OtherReady s p
other_found s p h =
    let found = any_some (λ q. not (q == p) && ready s q) (process_numbers s) h in
    let tests = both_tests (not (found.1.0 == p)) (ready s found.1.0) found.1.1.1 in
    let within = range_within 1 (length s.processes) found.0 found.1.0 found.1.1.0 in
    record {
      number = found.1.0;
      is = record { first = omega (arith, within.0); last = omega (arith, within.1) };
      other = grind (arith, nat_tests, tests.0);
      ready = tests.1;
    }
