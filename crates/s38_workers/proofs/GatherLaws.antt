-- The seats of the jobs, as they are gathered.
use Rattle.std.proofs.Common.{◌≡◌, ℕ, ◌+◌, ◌-◌, ◌<◌, Bool, true, false, List, [], ◌∷◌, ◌++◌, length, refl, sym, ap, ◌∙◌, subst, ⊎_elim, arith, take, take-take, length-append, slice_index_or}
use Rattle.std.proofs.lemmas.Option.{same_Some}
use Rattle.std.specs.Prelude.{Option, Some, None, IfSome, slice_get}
use Rattle.std.proofs.Math.ListN.{get_or-append}
use Rattle.std.proofs.Math.Seq.{get_or-append_seam}
use native.Mathlib.Decide.{ℕ_discrete}
use mathlib.Core.Logic.{dite}
use lib.Seq.{length-take-le, get_or-take}
use Rattle.s38_code.specs.declared.deck.Job.{Job}
use Rattle.s38_code.specs.declared.made.CreateResult.{CreateResult}
use Rattle.s38_code.specs.declared.event.Event.{Event}
use Rattle.s38_turn.specs.declared.item.Item.{Item}
use Rattle.s38_turn.specs.declared.item.Item.TheVariants.{Stopped}
use Rattle.s38_turn.specs.declared.view.ProcessList.{ProcessList}
use Rattle.s38_turn.specs.Rule.{IsOneOf}
use Rattle.s38_turn.specs.Lists.{has, list_of}
use Rattle.s38_turn.specs.Seats.{IsSeatOf, SeatView, TurnView}
use Rattle.s38_turn.proofs.ListLaws.{has_either, has_first, has_second, no_list}
use Rattle.s38_workers.specs.declared.runner.Runner.{Runner}
use Rattle.s38_workers.specs.Going.{IsByProgramSoFar, IsRunning}
use Rattle.s38_workers.specs.Runs.{AreGathered, AreSeated, HasRun}
use Rattle.s38_workers.proofs.ListLaws.{list_back, list_front}

pub head_of : {A : Type 0} (xs : List A) → 0 < length xs → A
head_of [] lt = absurd (omega (arith, lt))
head_of (x ∷ xs) lt = x

if_not : (b : Bool) → (b ≡ true → ⊥) → b ≡ false
if_not true k = absurd (k refl)
if_not false k = refl

-- what was taken from the end of a list
pub popped : {M : Type 0} (left : List (Runner M)) (was n : ℕ) (last : Option (Runner M)) (runner d : Runner M) → last ≡ Some runner → last ≡ Some (slice_index_or left (was - 1) d) → was - 1 ≡ n → runner ≡ slice_index_or left n d
popped left was n last runner d is value size = same_Some runner (slice_index_or left (was - 1) d) (sym is ∙ value) ∙ ap (λ m. slice_index_or left m d) size

-- one more job has its seat
pub seated_more : {M : Type 0} (Halted : Type 0) (turn : TurnView M) (made : List CreateResult) (jobs : List Job) (runners more : List (Runner M)) (runner : Runner M) → AreSeated Halted turn made jobs runners → IsRunning Halted turn made jobs runner
    → runner.number ≡ length runners + 1 → more ≡ runners ++ runner ∷ [] → AreSeated Halted turn made jobs more
seated_more {M} Halted turn made jobs runners more runner seated running number is =
    subst (AreSeated Halted turn made jobs) (sym is) (record { each = λ k d lt. (at k d lt).0; number = λ k d lt. (at k d lt).1 })
  where
    at : (k : ℕ) (d : Runner M) → k < length (runners ++ runner ∷ []) → IsRunning Halted turn made jobs (slice_index_or (runners ++ runner ∷ []) k d) × ((slice_index_or (runners ++ runner ∷ []) k d).number ≡ k + 1)
    at k d lt = dite (ℕ_discrete k (length runners))
        (λ e. subst (λ (x : Runner M × ℕ). IsRunning Halted turn made jobs x.0 × (x.0.number ≡ x.1 + 1))
        (λ i. ((sym (get_or-append_seam runners runner [] d) ∙ ap (λ m. slice_index_or (runners ++ runner ∷ []) m d) (sym e)) i, sym e i)) (running, number))
        (λ ne. let before : k < length runners = omega (arith, lt, ne, length-append runners (runner ∷ [])) in
        subst (λ (x : Runner M). IsRunning Halted turn made jobs x × (x.number ≡ k + 1)) (sym (get_or-append runners (runner ∷ []) d k before)) (seated.each k d before, seated.number k d before))

module _ {M : Type 0} (Halted : Type 0) (turn : TurnView M) (made : List CreateResult) (jobs : List Job) (all : List (Runner M)) where
  run_here : (runner : Runner M) (n : ℕ) (ks ls : List ProcessList) → IsRunning Halted turn made jobs runner → runner.number ≡ n + 1 → ls ≡ ks ++ runner.seat.lists → has (n + 1) ks ≡ false → HasRun Halted made jobs n runner ls
  run_here runner n ks ls running number e none =
      let own : has (n + 1) runner.seat.lists ≡ true = subst (λ p. has p runner.seat.lists ≡ true) number running.own in
      let list : list_of runner.number runner.seat.lists ≡ list_of (n + 1) ls = ap (λ p. list_of p runner.seat.lists) number ∙ (sym (list_back (n + 1) ks runner.seat.lists none) ∙ ap (list_of (n + 1)) (sym e)) in
      let place : runner.number - 1 ≡ n = omega (arith, number) in
      record {
        has_it = ap (has (n + 1)) e ∙ has_second (n + 1) ks runner.seat.lists own;
        stands = λ job one job_at one_at. subst (λ items. IsByProgramSoFar Halted one job.budget items runner.progress) list
            (running.stands job one (ap (slice_get jobs) place ∙ job_at) (ap (slice_get made) place ∙ one_at));
      }

  run_still : (runner : Runner M) (k : ℕ) (ks more ls : List ProcessList) → ls ≡ ks ++ more → HasRun Halted made jobs k runner ks → HasRun Halted made jobs k runner ls
  run_still runner k ks more ls e r = record {
    has_it = ap (has (k + 1)) e ∙ has_first (k + 1) ks more r.has_it;
    stands = λ job one job_at one_at. subst (λ items. IsByProgramSoFar Halted one job.budget items runner.progress) (sym (list_front (k + 1) ks more r.has_it) ∙ ap (list_of (k + 1)) (sym e)) (r.stands job one job_at one_at);
  }

  pub gathered_more : (left left' : List (Runner M)) (runner : Runner M) (seat seat' : SeatView M) (n : ℕ) → AreSeated Halted turn made jobs all → AreGathered Halted turn made jobs all left seat → length left ≡ n + 1
      → ((d : Runner M) → runner ≡ slice_index_or left n d) → left' ≡ take n left → IsSeatOf turn seat' → seat'.lists ≡ seat.lists ++ runner.seat.lists → AreGathered Halted turn made jobs all left' seat'
  gathered_more left left' runner seat seat' n seated g len runner_is rest of lists =
      let count = g.count in
      let left_at : left ≡ take (n + 1) all = g.left_is ∙ ap (λ m. take m all) len in
      let left_n : left' ≡ take n all = rest ∙ (ap (take n) left_at ∙ take-take n (n + 1) all (omega arith)) in
      let len' : length left' ≡ n = ap length left_n ∙ length-take-le n all (omega (arith, count, len)) in
      let at_n : (d : Runner M) → runner ≡ slice_index_or all n d = (λ d. runner_is d ∙ (ap (λ xs. slice_index_or xs n d) left_at ∙ get_or-take (n + 1) all n d (omega arith))) in
      let within : n < length all = omega (arith, count, len) in
      let running : IsRunning Halted turn made jobs runner = subst (IsRunning Halted turn made jobs) (sym (at_n runner)) (seated.each n runner within) in
      let number : runner.number ≡ n + 1 = ap (λ (x : Runner M). x.number) (at_n runner) ∙ seated.number n runner within in
      let apart : has (n + 1) seat.lists ≡ false = if_not (has (n + 1) seat.lists) (λ h. let lt = g.none (n + 1) h in omega (arith, lt, len)) in
      record {
        seat_of = of;
        left_is = left_n ∙ ap (λ m. take m all) (sym len');
        count = omega (arith, count, len, len');
        none = λ p h. ⊎_elim (λ a. let lt = g.none p a in omega (arith, lt, len, len'))
            (λ b. let e : p ≡ runner.number = running.alone p b in omega (arith, e, number, len'))
            (has_either p seat.lists runner.seat.lists (ap (has p) (sym lists) ∙ h));
        last = λ p h. ⊎_elim (λ a. g.last p a)
            (λ b. let e : p ≡ runner.number = running.alone p b in let le = running.last in omega (arith, e, le))
            (has_either p seat.lists runner.seat.lists (ap (has p) (sym lists) ∙ h));
        each = λ k d le lt. dite (ℕ_discrete k n)
            (λ e. subst (λ (x : Runner M × ℕ). HasRun Halted made jobs x.1 x.0 seat'.lists) (λ i. ((at_n d ∙ ap (λ m. slice_index_or all m d) (sym e)) i, sym e i)) (run_here runner n seat.lists seat'.lists running number lists apart))
            (λ ne. run_still (slice_index_or all k d) k seat.lists runner.seat.lists seat'.lists lists (g.each k d (omega (arith, le, ne, len, len')) lt));
      }

-- ---- the call that is noted

some_item : (before : List Item) (x : Item) → before ++ x ∷ [] ≡ [] → ⊥
some_item [] x e = cc
some_item (y ∷ before) x e = cc

has_noted : (p : ℕ) (event : Event) (lists : List ProcessList) (before : List Item) (b : Bool) → has p lists ≡ b → list_of p lists ≡ before ++ Stopped p event ∷ [] → has p lists ≡ true
has_noted p event lists before true is e = is
has_noted p event lists before false is e = absurd (some_item before (Stopped p event) (sym e ∙ no_list p lists is))

-- it is that of a process whose list is there
pub named : (stopped : Option (ℕ × Event)) (people : ℕ) (lists : List ProcessList) → ((p : ℕ) → has p lists ≡ true → IsOneOf people p) → IfSome stopped (λ s. (before : List Item) × (list_of s.0 lists ≡ before ++ Stopped s.0 s.1 ∷ []))
    → IfSome stopped (λ s. IsOneOf people s.0)
named None people lists one noted = tt
named (Some s) people lists one noted = one s.0 (has_noted s.0 s.1 lists noted.0 (has s.0 lists) refl noted.1)
