-- One step of a machine, by what it answers where it is asked.
use Rattle.std.proofs.Common.{◌≡◌, ℕ, true, true≢false, List, refl, sym, subst, Option, Some, None, Result, Ok, Err, IfOk, IfSome, IsErrOf, OnErr, is_some}
use Rattle.std.specs.Option.{option_map}
use Rattle.s38_code.specs.declared.asked.Asked.{Asked}
use Rattle.s38_code.specs.declared.entry.Entry.{Entry}
use Rattle.s38_code.specs.declared.event.Event.{Event}
use Rattle.s38_code.specs.declared.reply.Reply.{Reply}
use Rattle.s38_code.specs.declared.step.StepFault.{StepFault}
use Rattle.s38_code.specs.declared.step.StepFault.TheVariants as faults
use Rattle.s38_code.specs.Asking.{answer_by, reply_by}
use Rattle.s38_code.specs.History.{IsAnswered, first_stop}
use Rattle.s38_turn.specs.Calls.{IsTold, Stepped}
use Rattle.s38_turn.specs.Items.{items, items_of}
use Rattle.s38_turn.proofs.HistoryLaws.{Adding, nothing, reply_adds, stop_adds}

abbrev IsFault : Result Asked StepFault → Type 0
IsFault (Ok asked) = ⊥
IsFault (Err fault) = Unit {0}

abbrev known : Asked → Result Asked StepFault
known a = Ok a

abbrev answered_by : Option Reply → Option (Result Reply StepFault)
answered_by o = option_map (λ (r : Reply). Ok r) o

-- a step that answers goes on
still_going : (a : Asked) (s : Option (ℕ × Event)) → IfSome s (λ _. IsErrOf (known a) faults.Stopped) → s ≡ None
still_going a None over = refl
still_going a (Some s) over = absurd (subst IsFault (sym over) tt)

module _ {M O : Type 0} (sound : M → Type 0) (origin : M → O) (history : M → List Entry) (stopped : M → Option (ℕ × Event)) (steps : M → ℕ → Event → Result Reply StepFault → M → Type 0)
    (p : ℕ) (event : Event) (Told : Result Reply StepFault → Type 0) (m m' : M) where
  abbrev Took : Type 0
  Took = Stepped sound origin (items_of history stopped) steps p event Told m m'

  abbrev pub ToldBy : Result Asked StepFault → Type 0
  ToldBy (Ok a) = IfSome (reply_by a (history m')) (λ reply. Told (Ok reply))
  ToldBy (Err fault) = Told (Err fault)

  by_adding : (answer : Result Reply StepFault) → Told answer → sound m' → origin m' ≡ origin m → steps m p event answer m' → Adding p event answer (items (history m) (stopped m)) (items (history m') (stopped m')) → Took
  by_adding answer told fine same steps adding = record { answer = answer; told = told; sound_is = fine; origin_is = same; stepped = steps; added = adding.added; is_added = adding.is_added; now = adding.now }

  replied : (o : Option Reply) → is_some o ≡ true → IfSome o (λ reply. Told (Ok reply)) → sound m' → origin m' ≡ origin m → IfSome (answered_by o) (λ answer. steps m p event answer m')
      → stopped m ≡ None → IfSome o (λ reply. IsAnswered p event reply (history m) (history m')) → stopped m' ≡ stopped m → Took
  replied None some told fine same steps going answered still = absurd (true≢false (sym some))
  replied (Some reply) some told fine same steps going answered still = by_adding (Ok reply) told fine same steps (reply_adds p event reply (history m) (history m') (stopped m) (stopped m') going answered still)

  -- by what `ask` ensures, in its order
  pub asked : (r : Result Asked StepFault) → ToldBy r → origin m' ≡ origin m → sound m' → IfOk r (λ a. is_some (reply_by a (history m')) ≡ true) → IfSome (answer_by r (history m')) (λ answer. steps m p event answer m')
      → IfOk r (λ a. IfSome (reply_by a (history m')) (λ reply. IsAnswered p event reply (history m) (history m'))) → OnErr r (history m' ≡ history m) → (IsErrOf r faults.Stopped → stopped m' ≡ first_stop (stopped m) p event)
      → IfOk r (λ _. stopped m' ≡ stopped m) → (IsErrOf r faults.NoMemory → stopped m' ≡ stopped m) → IfSome (stopped m) (λ _. IsErrOf r faults.Stopped) → Took
  asked (Ok a) told same fine some steps answered err stop still refused over = replied (reply_by a (history m')) some told fine same steps (still_going a (stopped m) over) answered still
  asked (Err faults.Stopped) told same fine some steps answered err stop still refused over = by_adding (Err faults.Stopped) told fine same steps (stop_adds p event (history m) (history m') (stopped m) (stopped m') err (stop refl))
  asked (Err faults.NoMemory) told same fine some steps answered err stop still refused over =
      by_adding (Err faults.NoMemory) told fine same steps (nothing p event (Err faults.NoMemory) (items (history m) (stopped m)) (items (history m') (stopped m')) refl (λ k. items (err k) (refused refl k)))

-- what the listener heard is what was answered
pub heard : {L : Type 0} (hears : L → Reply → L → Type 0) (old new : L) (o : Option Reply) → IfSome o (λ reply. hears old reply new) → IfSome o (λ reply. IsTold hears old (Ok tt) new (Ok reply))
heard hears old new None h = tt
heard hears old new (Some reply) h = (reply, refl, h)
