-- What is said of a machine over a vault after each event, by how the store took what it did.
use Rattle.std.proofs.Common.{◌≡◌, ◌∙◌, ◌⊎◌, inl, inr, ℕ, ◌≤◌, Bool, true, false, List, [], ◌∷◌, refl, sym, ap, subst, arith}
use Rattle.std.specs.Prelude.{None, Some, Result, Ok, Err, IfOk, IsErrOf, OnErr, OnOk}
use Rattle.s38_code.specs.Asking.{reply_by}
use Rattle.s38_code.specs.History.{entry_after}
use Rattle.s38_code.specs.declared.asked.Asked.{Asked}
use Rattle.s38_code.specs.declared.entry.Entry.{Entry}
use Rattle.s38_code.specs.declared.event.Event.{Event}
use Rattle.s38_code.specs.declared.reply.Reply.{Reply}
use Rattle.s38_code.specs.declared.step.StepFault.{StepFault}
use Rattle.s38_code.specs.declared.step.StepFault.TheVariants as faults
use Rattle.s38_laws_flush.proofs.durable.KeepLaws as kept_laws
use Rattle.s38_laws_flush.proofs.durable.StepLaws.{IsDone}
use Rattle.s38_machine.specs.Stored.{kept_anew, stamped}
use Rattle.s38_rules.specs.store.Forcing.{Forced, must_persist}
use Rattle.s38_rules.specs.step.Legal.{IsProcess, Run, after}
use Rattle.s38_rules.specs.step.Step.{step}
use Rattle.s38_flush.specs.Numbers.{numbered}
use Rattle.s38_vault.specs.Content.{Content}
use Rattle.s38_vault.specs.Vaults.{VaultView}
use Rattle.s38_durable_machine.specs.Keeping.{IsFlushed, IsKeptAfter, KeepsStep, answer_by, stored_after}
use Rattle.s38_durable_machine.specs.Seen.{StoredView, answered_by, beginning_of, run_of, stopped_by, stopped_of}
use Rattle.s38_durable_machine.specs.Sound.{IsSoundOver}
use Rattle.s38_durable_machine.specs.declared.ending.Ending.{Ending}
use Rattle.s38_durable_machine.specs.declared.ending.Ending.TheVariants.{Going, Stopped, Wanting}
use Rattle.s38_durable_machine.proofs.SoundLaws.{after_entered, after_silent, enters_done, entered, going_sound, last_call, low_moment, quiet_sound, stopped_sound, wanting_sound}
use Rattle.s38_durable_machine.proofs.MarkLaws.{last_left, last_set}
use Rattle.s38_durable_machine.proofs.StateLaws.{is_done, kept_done, kept_none}

not_error : {a : Asked} {f : StepFault} → Ok a ≡ Err f → ⊥
not_error h = cc

same_asked : (a b : Asked) → ◌≡◌ {A = Result Asked StepFault} (Ok a) (Ok b) → a ≡ b
same_asked a b h = cc

-- a vault that stopped, and a machine that memory was refused, are told apart
stopped_only : ◌≡◌ {A = Result Asked StepFault} (Err faults.Stopped) (Err faults.NoMemory) → ⊥
stopped_only h = cc

refused_only : ◌≡◌ {A = Result Asked StepFault} (Err faults.NoMemory) (Err faults.Stopped) → ⊥
refused_only h = cc

-- what is said of a machine after an event
pub record IsSoundAfter {V : Type 0} (view : V → VaultView) (holds : V → Content → Type 0) (leaves : V → ℕ → Content → Type 0) (x y : StoredView V) (p : ℕ) (e : Event) (asked : Asked) (answer : Result Asked StepFault) : Type 0 where
  pub sound : IsSoundOver view holds leaves y
  pub first : y.first ≡ x.first
  pub origin : y.machine.origin ≡ x.machine.origin
  pub moved : OnOk answer (run_of y ≡ after (run_of x) (run_of y).moment p e)
  pub later : OnOk answer ((run_of x).moment ≤ (run_of y).moment)
  pub same : OnOk answer ((run_of y).history ≡ (after x.machine x.machine.moment p e).history)
  pub told : OnOk answer (answer ≡ Ok asked)
  pub going : OnOk answer (y.ending ≡ Going)
  pub history : OnErr answer ((run_of y).history ≡ (run_of x).history)
  pub marks : OnErr answer ((run_of y).marks ≡ (run_of x).marks)
  pub stopped : IsErrOf answer faults.Stopped → stopped_of y ≡ Some (p, e)
  pub refused : IsErrOf answer faults.NoMemory → stopped_of y ≡ stopped_of x

module _ {V : Type 0} (view : V → VaultView) (holds : V → Content → Type 0) (leaves : V → ℕ → Content → Type 0) (laws : kept_laws.DurableLaws)
    (x : StoredView V) (p : ℕ) (e : Event) (is : IsSoundOver view holds leaves x) (going : x.ending ≡ Going) (may : IsProcess x.machine.origin p) (asked : Asked) where
  abbrev m : Run
  m = x.machine

  abbrev now : Run
  now = after m m.moment p e

  abbrev Behind : StoredView V → Result Asked StepFault → Type 0
  Behind y answer = IsSoundAfter view holds leaves x y p e asked answer

  run_is : run_of x ≡ m
  run_is = ap (λ (k : Ending). answered_by k m) going

  stopped_is : stopped_of x ≡ None
  stopped_is = ap (λ (k : Ending). stopped_by k m.history) going

  -- ---- no entry was made

  silent : (step m.state p e).enters ≡ false → Behind x (Ok asked)
  silent not = record {
    sound = is;
    first = refl;
    origin = refl;
    moved = subst (λ (r : Run). r ≡ after r r.moment p e) (sym run_is) (sym (after_silent m p e not));
    later = omega arith;
    same = ap (λ (r : Run). r.history) run_is ∙ ap (λ (r : Run). r.history) (sym (after_silent m p e not));
    told = refl;
    going = going;
    history = tt;
    marks = tt;
    stopped = λ h. absurd (not_error h);
    refused = λ h. absurd (not_error h);
  }

  -- ---- an entry was made

  abbrev one : Entry
  one = entry_after m.history p e (step m.state p e).reply

  module _ (enters : (step m.state p e).enters ≡ true) where
    abbrev answered_run : ℕ → Run
    answered_run moment = entered m moment one (step m.state p e).state

    moved_at : (moment : ℕ) → answered_run moment ≡ after (run_of x) moment p e
    moved_at moment = sym (after_entered m moment p e enters) ∙ ap (λ (r : Run). after r moment p e) (sym run_is)

    quiet : kept_anew m.state p e ≡ [] → Behind (record { machine = answered_run m.moment; vault = x.vault; first = x.first; ending = Going }) (Ok asked)
    quiet nothing = record {
      sound = quiet_sound view holds leaves laws x p e is going may enters nothing;
      first = refl;
      origin = refl;
      moved = moved_at m.moment;
      later = let same = ap (λ (r : Run). r.moment) run_is in omega (arith, same);
      same = ap (λ (r : Run). r.history) (sym (after_entered m m.moment p e enters));
      told = refl;
      going = refl;
      history = tt;
      marks = tt;
      stopped = λ h. absurd (not_error h);
      refused = λ h. absurd (not_error h);
    }

    -- after what was kept, or not
    kept_by : IsDone (step m.state p e).reply → (v : V) (k : Ending) → KeepsStep view holds leaves x.vault v (step m.state p e).state.held (step m.state p e).state.units (numbered (must_persist m.state p e)) k
        → Behind (stored_after k (view v).moment v (record { machine = answered_run m.moment; vault = x.vault; first = x.first; ending = x.ending })) (answer_by k asked)
    kept_by does v Going keeps =
        let same : stamped (view v).moment (answered_run m.moment) ≡ answered_run (view v).moment = ap (λ (ms : List ℕ). record (answered_run (view v).moment) { marks = ms }) (last_set m.marks m.moment (view v).moment) in
        subst (λ (r : Run). Behind (record { machine = r; vault = v; first = x.first; ending = Going }) (Ok asked)) (sym same)
        (record {
          sound = going_sound view holds leaves laws x p e is going may does v keeps;
          first = refl;
          origin = refl;
          moved = moved_at (view v).moment;
          later = let at = ap (λ (r : Run). r.moment) run_is in let low = low_moment view holds leaves laws x p e is going may does v Going keeps in omega (arith, at, low);
          same = ap (λ (r : Run). r.history) (sym (after_entered m m.moment p e enters));
          told = refl;
          going = refl;
          history = tt;
          marks = tt;
          stopped = λ h. absurd (not_error h);
          refused = λ h. absurd (not_error h);
        })
    kept_by does v Stopped keeps = record {
      sound = stopped_sound view holds leaves laws x p e is going may does v keeps;
      first = refl;
      origin = refl;
      moved = tt;
      later = tt;
      same = tt;
      told = tt;
      going = tt;
      history = last_left m.history one ∙ ap (λ (r : Run). r.history) (sym run_is);
      marks = last_left m.marks m.moment ∙ ap (λ (r : Run). r.marks) (sym run_is);
      stopped = λ h. last_call m.history one;
      refused = λ h. absurd (stopped_only h);
    }
    kept_by does v Wanting keeps = record {
      sound = wanting_sound view holds leaves laws x p e is going may does v keeps;
      first = refl;
      origin = refl;
      moved = tt;
      later = tt;
      same = tt;
      told = tt;
      going = tt;
      history = last_left m.history one ∙ ap (λ (r : Run). r.history) (sym run_is);
      marks = last_left m.marks m.moment ∙ ap (λ (r : Run). r.marks) (sym run_is);
      stopped = λ h. absurd (refused_only h);
      refused = λ h. sym stopped_is;
    }

  -- ---- both

  abbrev stepped : StoredView V
  stepped = record { machine = now; vault = x.vault; first = x.first; ending = x.ending }

  ready : (step m.state p e).enters ≡ true → stepped ≡ record { machine = entered m m.moment one (step m.state p e).state; vault = x.vault; first = x.first; ending = x.ending }
  ready enters = ap (λ (r : Run). record { machine = r; vault = x.vault; first = x.first; ending = x.ending }) (after_entered m m.moment p e enters)

  nothing_by : (b : Bool) → (step m.state p e).enters ≡ b → kept_anew m.state p e ≡ [] → Behind stepped (Ok asked)
  nothing_by true enters nothing =
      subst (λ (y : StoredView V). Behind y (Ok asked))
      (ap (λ (k : Ending). record { machine = entered m m.moment one (step m.state p e).state; vault = x.vault; first = x.first; ending = k }) (sym going) ∙ sym (ready enters))
      (quiet enters nothing)
  nothing_by false enters nothing =
      subst (λ (r : Run). Behind (record { machine = r; vault = x.vault; first = x.first; ending = x.ending }) (Ok asked)) (sym (after_silent m p e enters)) (silent enters)

  pub takes : (one : Forced) (more : List Forced) → one ∷ more ≡ kept_anew m.state p e → (IsDone (step m.state p e).reply → ⊥) ⊎ IsDone (step m.state p e).reply → IsDone (step m.state p e).reply
  takes one more same (inl not) = absurd (let h : one ∷ more ≡ [] = same ∙ kept_none m.state p e not in cc)
  takes one more same (inr does) = does

  abbrev Kept : StoredView V → StoredView V → List Forced → Result Asked StepFault → Type 0
  Kept old y all answer = IsKeptAfter view holds leaves old y all asked answer

  behind_kept : (y : StoredView V) (all : List Forced) (answer : Result Asked StepFault) → IsDone (step m.state p e).reply → all ≡ kept_anew m.state p e → Kept stepped y all answer → Behind y answer
  behind_kept y all answer does same kept =
      let enters = enters_done m.state p e does in
      let anew : all ≡ must_persist m.state p e = same ∙ kept_done m.state p e is.state.room does in
      let ready_kept : Kept (record { machine = entered m m.moment one (step m.state p e).state; vault = x.vault; first = x.first; ending = x.ending }) y (must_persist m.state p e) answer =
      subst (λ (fs : List Forced). Kept (record { machine = entered m m.moment one (step m.state p e).state; vault = x.vault; first = x.first; ending = x.ending }) y fs answer) anew
      (subst (λ (old : StoredView V). Kept old y all answer) (ready enters) kept)
      in
      subst (λ (z : StoredView V). Behind z answer) (sym ready_kept.is)
      (subst (λ (r : Result Asked StepFault). Behind (stored_after y.ending (view y.vault).moment y.vault (record { machine = entered m m.moment one (step m.state p e).state; vault = x.vault; first = x.first; ending = x.ending })) r)
      (sym ready_kept.answered) (kept_by enters does y.vault y.ending ready_kept.keeps))

  pub after_settled : (y : StoredView V) (all : List Forced) (answer : Result Asked StepFault) → all ≡ kept_anew m.state p e → IsFlushed view holds leaves stepped y all asked answer → Behind y answer
  after_settled y [] answer same settled =
      subst (λ (r : Result Asked StepFault). Behind y r) (sym settled.1)
      (subst (λ (z : StoredView V). Behind z (Ok asked)) (sym settled.0) (nothing_by (step m.state p e).enters refl (sym same)))
  after_settled y (one ∷ more) answer same settled = behind_kept y (one ∷ more) answer (takes one more same (is_done (step m.state p e).reply)) same settled

-- ---- the reply

replied_by : {V : Type 0} (y : StoredView V) (answer : Result Asked StepFault) (asked : Asked) (h : List Entry) (r : Reply) → OnOk answer (answer ≡ Ok asked) → OnOk answer ((run_of y).history ≡ h) → reply_by asked h ≡ Some r
    → IfOk answer (λ a. reply_by a (run_of y).history ≡ Some r)
replied_by y (Ok a) asked h r told same is = ap (λ (b : Asked). reply_by b (run_of y).history) (same_asked a asked told) ∙ ap (λ (es : List Entry). reply_by asked es) same ∙ is
replied_by y (Err f) asked h r told same is = tt

-- the reply of a machine that goes on is that of the step
pub replied : {V : Type 0} (view : V → VaultView) (holds : V → Content → Type 0) (leaves : V → ℕ → Content → Type 0) (x y : StoredView V) (p : ℕ) (e : Event) (asked : Asked) (answer : Result Asked StepFault) → x.ending ≡ Going
    → IsSoundAfter view holds leaves x y p e asked answer → reply_by asked (after x.machine x.machine.moment p e).history ≡ Some (step x.machine.state p e).reply
    → IfOk answer (λ a. reply_by a (run_of y).history ≡ Some (step (run_of x).state p e).reply)
replied view holds leaves x y p e asked answer going b is =
    subst (λ (r : Run). IfOk answer (λ a. reply_by a (run_of y).history ≡ Some (step r.state p e).reply)) (sym (ap (λ (k : Ending). answered_by k x.machine) going))
    (replied_by y answer asked (after x.machine x.machine.moment p e).history (step x.machine.state p e).reply b.told b.same is)

-- with what it was started
pub same_beginning : {V : Type 0} (x y : StoredView V) → y.first ≡ x.first → y.machine.origin ≡ x.machine.origin → beginning_of y ≡ beginning_of x
same_beginning x y first origin = λ k. record { state = origin k; vault = first k }

pub after_state : (m : Run) (p : ℕ) (e : Event) → (after m m.moment p e).state ≡ (step m.state p e).state
unfolding after
after_state m p e = refl
