-- What is said of an answer of a machine over a vault, by whether it goes on.
use Rattle.std.proofs.Common.{◌≡◌, ◌∙◌, ◌⊎◌, inl, inr, ℕ, ◌-◌, ◌≤◌, List, [], ◌∷◌, ◌++◌, length, refl, sym, ap, subst, arith, length-append}
use Rattle.std.specs.Option.{option_map}
use Rattle.std.specs.Prelude.{None, Option, Some, Result, Ok, Err, IfErr, IfOk, IfSome, IsErrOf, OnErr, OnOk, slice_get}
use Rattle.s38_code.specs.Asking.{last_reply, reply_by}
use Rattle.s38_code.specs.History.{IsAnswered, entry_after, first_stop}
use Rattle.s38_code.specs.declared.asked.Asked.{Asked}
use Rattle.s38_code.specs.declared.entry.Entry.{Entry}
use Rattle.s38_code.specs.declared.event.Event.{Event}
use Rattle.s38_code.specs.declared.reply.Reply.{Reply}
use Rattle.s38_code.specs.declared.reply.Reply.TheVariants.{MustWait}
use Rattle.s38_code.specs.declared.step.StepFault.{StepFault}
use Rattle.s38_code.specs.declared.step.StepFault.TheVariants as faults
use Rattle.s38_laws_flush.proofs.durable.KeepLaws.{DurableLaws}
use Rattle.s38_rules.proofs.Laws.{answered_after}
use Rattle.s38_rules.specs.step.Legal.{Run, after}
use Rattle.s38_rules.specs.step.Step.{step}
use Rattle.s38_vault.specs.Content.{Content}
use Rattle.s38_vault.specs.Vaults.{VaultView}
use Rattle.s38_durable_machine.specs.Asking.{IsAskedOver}
use Rattle.s38_durable_machine.specs.Seen.{StoredView, answered_by, beginning_of, broken_off, call_of, run_of, stopped_by, stopped_of, without_last}
use Rattle.s38_durable_machine.specs.Sound.{EndsWithVault, IsSoundOver}
use Rattle.s38_durable_machine.specs.declared.ending.Ending.{Ending}
use Rattle.s38_durable_machine.specs.declared.ending.Ending.TheVariants.{Going, Stopped, Wanting}
use Rattle.s38_durable_machine.proofs.MarkLaws.{last_left}
use Rattle.s38_durable_machine.proofs.WantLaws.{broken_sound}

one_there : {A : Type 0} (x : A) (xs : List A) → (z : A) × (slice_get (x ∷ xs) (length xs) ≡ Some z)
one_there x [] = (x, refl)
one_there x (y ∷ ys) = one_there y ys

last_there : {A : Type 0} (xs : List A) → 1 ≤ length xs → (x : A) × (slice_get xs (length xs - 1) ≡ Some x)
last_there [] some = absurd (omega (arith, some))
last_there {A} (x ∷ xs) some =
    let at : length (x ∷ xs) - 1 ≡ length xs = omega arith in
    subst (λ k. (z : A) × (slice_get (x ∷ xs) k ≡ Some z)) (sym at) (one_there x xs)

not_stopped : {A : Type 0} → ◌≡◌ {A = Result A StepFault} (Err faults.NoMemory) (Err faults.Stopped) → ⊥
not_stopped h = cc

module _ {V A : Type 0} (view : V → VaultView) (holds : V → Content → Type 0) (leaves : V → ℕ → Content → Type 0) (x : StoredView V) (is : IsSoundOver view holds leaves x) (p : ℕ) (e : Event) (replies : A → Reply → Type 0) where
  abbrev AskedBy : StoredView V → Result A StepFault → Type 0
  AskedBy y answer = IsAskedOver view holds leaves x y p e replies answer

  abbrev answer_of : StepFault → Result A StepFault
  answer_of fault = Err fault

  -- a machine that stopped answers so again
  pub stopped_asked : x.ending ≡ Stopped → AskedBy x (Err faults.Stopped)
  stopped_asked at =
      let there = last_there x.machine.history (subst (λ (k : Ending). EndsWithVault k x.machine (view x.first) (view x.vault)) at is.ending).1 in
      let call : stopped_of x ≡ Some (call_of there.0) = ap (λ (k : Ending). stopped_by k x.machine.history) at ∙ ap (option_map call_of) there.1 in
      record {
        sound = is;
        origin = refl;
        moved = tt;
        later = tt;
        reply = tt;
        history = refl;
        stopped = λ h. call ∙ ap (λ (c : Option (ℕ × Event)). first_stop c p e) (sym call);
        goes = tt;
        refused = λ h. refl;
        over = subst (λ (c : Option (ℕ × Event)). IfSome c (λ one. IsErrOf (answer_of faults.Stopped) faults.Stopped)) (sym call) refl;
      }

  none_of : (k : Ending) → x.ending ≡ k → stopped_by k x.machine.history ≡ None → stopped_of x ≡ None
  none_of k at none = ap (λ (j : Ending). stopped_by j x.machine.history) at ∙ none

  -- and one that wanted memory
  pub refused_asked : stopped_of x ≡ None → AskedBy x (Err faults.NoMemory)
  refused_asked none = record {
    sound = is;
    origin = refl;
    moved = tt;
    later = tt;
    reply = tt;
    history = refl;
    stopped = λ h. absurd (not_stopped h);
    goes = tt;
    refused = λ h. refl;
    over = subst (λ (c : Option (ℕ × Event)). IfSome c (λ one. IsErrOf (answer_of faults.NoMemory) faults.Stopped)) (sym none) tt;
  }

  pub wanting_asked : x.ending ≡ Wanting → AskedBy x (Err faults.NoMemory)
  wanting_asked at = refused_asked (none_of Wanting at refl)

  pub unasked : x.ending ≡ Going → AskedBy x (Err faults.NoMemory)
  unasked at = refused_asked (none_of Going at refl)

  -- one that goes on, by what is said of its answer
  pub going_asked : (y : StoredView V) (answer : Result A StepFault) → x.ending ≡ Going → IsSoundOver view holds leaves y → beginning_of y ≡ beginning_of x
      → OnOk answer (run_of y ≡ after (run_of x) (run_of y).moment p e) → OnOk answer ((run_of x).moment ≤ (run_of y).moment)
      → IfOk answer (λ a. replies a (step (run_of x).state p e).reply) → OnOk answer (y.ending ≡ Going) → OnErr answer ((run_of y).history ≡ (run_of x).history)
      → (IsErrOf answer faults.Stopped → stopped_of y ≡ Some (p, e)) → (IsErrOf answer faults.NoMemory → stopped_of y ≡ stopped_of x) → AskedBy y answer
  going_asked y answer at sound origin moved later reply going history stopped refused =
      let none = none_of Going at refl in
      record {
        sound = sound;
        origin = origin;
        moved = moved;
        later = later;
        reply = reply;
        history = history;
        stopped = λ h. stopped h ∙ ap (λ (c : Option (ℕ × Event)). first_stop c p e) (sym none);
        goes = goes_on answer going;
        refused = refused;
        over = subst (λ (c : Option (ℕ × Event)). IfSome c (λ one. IsErrOf answer faults.Stopped)) (sym none) tt;
      }
    where
      goes_on : (r : Result A StepFault) → OnOk r (y.ending ≡ Going) → OnOk r (stopped_of y ≡ stopped_of x)
      goes_on (Ok a) goes = ap (λ (k : Ending). stopped_by k y.machine.history) goes ∙ sym (none_of Going at refl)
      goes_on (Err f) goes = tt

-- ---- whether an entry was made

same_length : {A : Type 0} (xs : List A) (x : A) → length (xs ++ x ∷ []) ≡ length xs → ⊥
same_length xs x same = omega (arith, length-append xs (x ∷ []), same)

-- none was where the history is as long as before, and then the process waits
pub waits_on : (m n : Run) (p : ℕ) (e : Event) (t : ℕ) → n ≡ after m t p e → length n.history ≡ length m.history → (step m.state p e).reply ≡ MustWait
waits_on m n p e t moved same = by (subst (λ (k : Run). (k.history ≡ m.history ++ entry_after m.history p e (step m.state p e).reply ∷ []) ⊎ (((step m.state p e).reply ≡ MustWait) × (k.history ≡ m.history))) (sym moved) (answered_after m t p e))
  where
    by : (n.history ≡ m.history ++ entry_after m.history p e (step m.state p e).reply ∷ []) ⊎ (((step m.state p e).reply ≡ MustWait) × (n.history ≡ m.history)) → (step m.state p e).reply ≡ MustWait
    by (inl added) = absurd (same_length m.history (entry_after m.history p e (step m.state p e).reply) (ap length (sym added) ∙ same))
    by (inr still) = still.0

-- one was where it is longer
pub entry_made : (m n : Run) (p : ℕ) (e : Event) (t : ℕ) → n ≡ after m t p e → (length n.history ≡ length m.history → ⊥) → n.history ≡ m.history ++ entry_after m.history p e (step m.state p e).reply ∷ []
entry_made m n p e t moved other = by (subst (λ (k : Run). (k.history ≡ m.history ++ entry_after m.history p e (step m.state p e).reply ∷ []) ⊎ (((step m.state p e).reply ≡ MustWait) × (k.history ≡ m.history))) (sym moved) (answered_after m t p e))
  where
    by : (n.history ≡ m.history ++ entry_after m.history p e (step m.state p e).reply ∷ []) ⊎ (((step m.state p e).reply ≡ MustWait) × (n.history ≡ m.history)) → n.history ≡ m.history ++ entry_after m.history p e (step m.state p e).reply ∷ []
    by (inl added) = added
    by (inr still) = absurd (other (ap length still.1))

at_end : {A : Type 0} (xs : List A) (x : A) → slice_get (xs ++ x ∷ []) (length xs) ≡ Some x
at_end [] x = refl
at_end (y ∷ xs) x = at_end xs x

-- whose reply is the last one
pub last_is : (history : List Entry) (one : Entry) → last_reply (history ++ one ∷ []) ≡ Some one.reply
last_is history one =
    let at : length (history ++ one ∷ []) - 1 ≡ length history = omega (arith, length-append history (one ∷ [])) in
    ap (λ k. option_map (λ (x : Entry). x.reply) (slice_get (history ++ one ∷ []) k)) at ∙ ap (option_map (λ (x : Entry). x.reply)) (at_end history one)

same_reply : (a b : Reply) → ◌≡◌ {A = Option Reply} (Some a) (Some b) → a ≡ b
same_reply a b h = cc

not_failed : {r : Reply} {f : StepFault} → ◌≡◌ {A = Result Reply StepFault} (Ok r) (Err f) → ⊥
not_failed h = cc

-- ---- the reply itself, of a machine that goes on

module _ {V : Type 0} (view : V → VaultView) (holds : V → Content → Type 0) (leaves : V → ℕ → Content → Type 0) (laws : DurableLaws) (x y : StoredView V) (p : ℕ) (e : Event)
    (is : IsSoundOver view holds leaves x) (at : x.ending ≡ Going) (sound : IsSoundOver view holds leaves y) (goes : y.ending ≡ Going) (origin : beginning_of y ≡ beginning_of x)
    (moved : run_of y ≡ after (run_of x) (run_of y).moment p e) (later : (run_of x).moment ≤ (run_of y).moment) where
  abbrev is_reply : Reply → Reply → Type 0
  is_reply answer reply = reply ≡ answer

  abbrev Answers : StoredView V → Result Reply StepFault → Type 0
  Answers z answer = IsAskedOver view holds leaves x z p e is_reply answer

  was_there : (run_of x).history ≡ x.machine.history
  was_there = ap (λ (k : Ending). (answered_by k x.machine).history) at

  is_there : (run_of y).history ≡ y.machine.history
  is_there = ap (λ (k : Ending). (answered_by k y.machine).history) goes

  answers : (r : Reply) → (step (run_of x).state p e).reply ≡ r → Answers y (Ok r)
  answers r told = going_asked view holds leaves x is p e is_reply y (Ok r) at sound origin moved later told goes tt (λ h. absurd (not_failed h)) (λ h. absurd (not_failed h))

  pub waited : length y.machine.history ≡ length x.machine.history → Answers y (Ok MustWait)
  waited same = answers MustWait (waits_on (run_of x) (run_of y) p e (run_of y).moment moved (ap length is_there ∙ same ∙ ap length (sym was_there)))

  module _ (other : length y.machine.history ≡ length x.machine.history → ⊥) where
    made : y.machine.history ≡ x.machine.history ++ entry_after (run_of x).history p e (step (run_of x).state p e).reply ∷ []
    made = sym is_there ∙ entry_made (run_of x) (run_of y) p e (run_of y).moment moved (λ same. other (ap length (sym is_there) ∙ same ∙ ap length was_there))
        ∙ ap (λ (es : List Entry). es ++ entry_after (run_of x).history p e (step (run_of x).state p e).reply ∷ []) was_there

    pub some_there : 1 ≤ length y.machine.history
    some_there = let count = length-append x.machine.history (entry_after (run_of x).history p e (step (run_of x).state p e).reply ∷ []) in let same = ap length made in omega (arith, count, same)

    pub told : (r : Reply) → last_reply y.machine.history ≡ Some r → Answers y (Ok r)
    told r last = answers r (same_reply _ _ (sym (last_is x.machine.history (entry_after (run_of x).history p e (step (run_of x).state p e).reply)) ∙ ap last_reply (sym made) ∙ last))

    pub broken : Answers (broken_off y) (Err faults.NoMemory)
    broken =
        let none = ap (λ (k : Ending). stopped_by k x.machine.history) at in
        record {
          sound = broken_sound view holds leaves laws y sound goes some_there;
          origin = origin;
          moved = tt;
          later = tt;
          reply = tt;
          history = ap (λ (es : List Entry). without_last es) made ∙ last_left x.machine.history (entry_after (run_of x).history p e (step (run_of x).state p e).reply) ∙ sym was_there;
          stopped = λ h. absurd (not_stopped h);
          goes = tt;
          refused = λ h. sym none;
          over = subst (λ (c : Option (ℕ × Event)). IfSome c (λ one. IsErrOf (failed faults.NoMemory) faults.Stopped)) (sym none) tt;
        }
      where
        failed : StepFault → Result Reply StepFault
        failed f = Err f

    -- by what the copy of the reply came to
    pub copied_told : (z : StoredView V) (answer : Result Reply StepFault) → IfOk answer (λ r. (last_reply y.machine.history ≡ Some r) × (z ≡ y)) → IfErr answer (λ f. (f ≡ faults.NoMemory) × (z ≡ broken_off y)) → Answers z answer
    copied_told z (Ok r) ok err = subst (λ (w : StoredView V). Answers w (Ok r)) (sym ok.1) (told r ok.0)
    copied_told z (Err f) ok err = subst (λ (w : StoredView V). Answers w (Err f)) (sym err.1) (subst (λ (k : StepFault). Answers (broken_off y) (Err k)) (sym err.0) broken)

-- ---- what a call of the trait says

abbrev Over : {V : Type 0} → StoredView V → StoredView V → ℕ → Event → Reply → Type 0
Over x y p e r = ((step (run_of x).state p e).reply ≡ r) × (run_of y ≡ after (run_of x) (run_of y).moment p e)

pub entered_over : {V : Type 0} (x y : StoredView V) (p : ℕ) (e : Event) (r : Reply) → (step (run_of x).state p e).reply ≡ r → run_of y ≡ after (run_of x) (run_of y).moment p e → IsAnswered p e r (run_of x).history (run_of y).history
entered_over x y p e r reply moved =
    subst (λ (z : Reply). IsAnswered p e z (run_of x).history (run_of y).history) reply
    (subst (λ (k : Run). IsAnswered p e (step (run_of x).state p e).reply (run_of x).history k.history) (sym moved) (answered_after (run_of x) (run_of y).moment p e))

pub replied_over : {V : Type 0} (view : V → VaultView) (holds : V → Content → Type 0) (leaves : V → ℕ → Content → Type 0) (x y : StoredView V) (p : ℕ) (e : Event) (answer : Result Reply StepFault)
    → IsAskedOver view holds leaves x y p e (λ (a r : Reply). r ≡ a) answer → IfOk answer (λ r. IsAnswered p e r (run_of x).history (run_of y).history)
replied_over view holds leaves x y p e (Ok r) is = entered_over x y p e r is.reply is.moved
replied_over view holds leaves x y p e (Err f) is = tt

pub asked_over : {V : Type 0} (view : V → VaultView) (holds : V → Content → Type 0) (leaves : V → ℕ → Content → Type 0) (x y : StoredView V) (p : ℕ) (e : Event) (answer : Result Asked StepFault)
    → IsAskedOver view holds leaves x y p e (λ (a : Asked) (r : Reply). reply_by a (run_of y).history ≡ Some r) answer → IfOk answer (λ a. IfSome (reply_by a (run_of y).history) (λ r. IsAnswered p e r (run_of x).history (run_of y).history))
asked_over view holds leaves x y p e (Ok a) is =
    subst (λ (o : Option Reply). IfSome o (λ r. IsAnswered p e r (run_of x).history (run_of y).history)) (sym is.reply)
    (entered_over x y p e (step (run_of x).state p e).reply refl is.moved)
asked_over view holds leaves x y p e (Err f) is = tt
