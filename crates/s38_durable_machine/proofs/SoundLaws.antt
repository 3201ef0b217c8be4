-- A machine over a vault stays sound after each step, whether what the step forces was kept or not.
use Rattle.std.proofs.Common.{◌≡◌, ◌∙◌, ℕ, ◌-◌, ◌≤◌, Bool, true, false, cond, List, [], ◌∷◌, ◌++◌, length, refl, sym, ap, subst, arith, length-append}
use Rattle.std.specs.Option.{option_map}
use Rattle.std.specs.Prelude.{◌↔◌, Option, Some, slice_get}
use Rattle.s38_base.specs.Faults.{Rose}
use Rattle.s38_code.specs.History.{entry_after}
use Rattle.s38_code.specs.declared.entry.Entry.{Entry}
use Rattle.s38_code.specs.declared.event.Event.{Event}
use Rattle.s38_durable_state.specs.Durable.{Durable}
use Rattle.s38_laws_flush.proofs.durable.KeepLaws as kept_laws
use Rattle.s38_laws_flush.proofs.durable.StepLaws.{IsDone}
use Rattle.s38_laws_flush.specs.durable.Crashes.{IsKeptPrefix}
use Rattle.s38_machine.specs.Stored.{kept_anew}
use Rattle.s38_rules.proofs.Laws.{sound_after}
use Rattle.s38_rules.specs.store.Forcing.{must_persist}
use Rattle.s38_rules.specs.step.Legal.{AreMoments, IsProcess, IsSound, Run, after}
use Rattle.s38_rules.specs.state.State.{State, waits}
use Rattle.s38_rules.specs.step.Step.{awake_verdict, by_verdict, by_waiting, step}
use Rattle.s38_rules.specs.declared.verdict.Verdict.TheVariants.{Permit, Refuse, Wait}
use Rattle.s38_rules.specs.declared.verdict.Verdict.{Verdict}
use Rattle.s38_flush.specs.Numbers.{numbered}
use Rattle.s38_vault.specs.Content.{Content}
use Rattle.s38_vault.specs.Vaults.{VaultView, most_changes}
use Rattle.s38_durable_machine.specs.Keeping.{KeepsStep}
use Rattle.s38_durable_machine.specs.Seen.{StoredView, call_of, without_last}
use Rattle.s38_durable_machine.specs.Sound.{EndsWithVault, IsKeptFrom, IsOf, IsSoundOver}
use Rattle.s38_durable_machine.specs.declared.ending.Ending.{Ending}
use Rattle.s38_durable_machine.specs.declared.ending.Ending.TheVariants.{Going, Stopped, Wanting}
use Rattle.s38_durable_machine.proofs.MarkLaws.{last_left}
use Rattle.s38_durable_machine.proofs.RestartLaws.{kept_from}
use Rattle.s38_durable_machine.proofs.StateLaws.{step_stored}
use Rattle.s38_durable_machine.proofs.DurableStepLaws.{held, short_new, kept_now, again, ended_crash, going_crash, images_new, none_again, quiet, quiet_crash}

-- ---- steps that make no entry

pub enters_done : (s : State) (p : ℕ) (e : Event) → IsDone (step s p e).reply → (step s p e).enters ≡ true
unfolding step
enters_done s p e = by (waits s p)
  where
    verdict : (v : Verdict) → IsDone (by_verdict s p e v).reply → (by_verdict s p e v).enters ≡ true
    verdict Permit is = refl
    verdict Wait is = absurd is
    verdict (Refuse x) is = absurd is

    by : (b : Bool) → IsDone (by_waiting b s p e).reply → (by_waiting b s p e).enters ≡ true
    by true is = absurd is
    by false is = verdict (awake_verdict s p e) is

silent_state : (s : State) (p : ℕ) (e : Event) → (step s p e).enters ≡ false → (step s p e).state ≡ s
unfolding step
silent_state s p e = by (waits s p)
  where
    verdict : (v : Verdict) → (by_verdict s p e v).enters ≡ false → (by_verdict s p e v).state ≡ s
    verdict Permit h = absurd (let i : true ≡ false = h in cc)
    verdict Wait h = absurd (let i : true ≡ false = h in cc)
    verdict (Refuse x) h = refl

    by : (b : Bool) → (by_waiting b s p e).enters ≡ false → (by_waiting b s p e).state ≡ s
    by true h = refl
    by false h = verdict (awake_verdict s p e) h

run_by : Bool → Run → ℕ → Entry → State → Run
run_by b m now e t = record { origin = m.origin; state = t; history = cond b (m.history ++ e ∷ []) m.history; marks = cond b (m.marks ++ now ∷ []) m.marks; first = m.first; moment = now }

-- a run with one entry more, answered at a moment
abbrev pub entered : Run → ℕ → Entry → State → Run
entered m now e t = record { origin = m.origin; state = t; history = m.history ++ e ∷ []; marks = m.marks ++ now ∷ []; first = m.first; moment = now }

after_is : (m : Run) (now p : ℕ) (e : Event) (b : Bool) → (step m.state p e).enters ≡ b → after m now p e ≡ run_by b m now (entry_after m.history p e (step m.state p e).reply) (step m.state p e).state
unfolding after run_by
after_is m now p e b is = ap (λ (c : Bool). run_by c m now (entry_after m.history p e (step m.state p e).reply) (step m.state p e).state) is

pub after_entered : (m : Run) (now p : ℕ) (e : Event) → (step m.state p e).enters ≡ true → after m now p e ≡ entered m now (entry_after m.history p e (step m.state p e).reply) (step m.state p e).state
unfolding run_by
after_entered m now p e is = after_is m now p e true is

pub after_silent : (m : Run) (p : ℕ) (e : Event) → (step m.state p e).enters ≡ false → after m m.moment p e ≡ m
unfolding run_by
after_silent m p e is =
    after_is m m.moment p e false is
    ∙ ap (λ (t : State). record { origin = m.origin; state = t; history = m.history; marks = m.marks; first = m.first; moment = m.moment }) (silent_state m.state p e is)

-- ---- the last call

at_end : {A : Type 0} (xs : List A) (x : A) → slice_get (xs ++ x ∷ []) (length xs) ≡ Some x
at_end [] x = refl
at_end (y ∷ xs) x = at_end xs x

pub last_call : (history : List Entry) (e : Entry) → option_map call_of (slice_get (history ++ e ∷ []) (length (history ++ e ∷ []) - 1)) ≡ Some (e.process, e.event)
last_call history e =
    let count = length-append history (e ∷ []) in
    let at : length (history ++ e ∷ []) - 1 ≡ length history = omega (arith, count) in
    ap (λ (k : ℕ). option_map call_of (slice_get (history ++ e ∷ []) k)) at ∙ ap (λ (x : Option Entry). option_map call_of x) (at_end history e)

-- ---- the machine after it

module _ {V : Type 0} (view : V → VaultView) (holds : V → Content → Type 0) (leaves : V → ℕ → Content → Type 0) (laws : kept_laws.DurableLaws)
    (x : StoredView V) (p : ℕ) (e : Event) (is : IsSoundOver view holds leaves x) (going : x.ending ≡ Going) (may : IsProcess x.machine.origin p) where
  abbrev m : Run
  m = x.machine

  abbrev s : State
  s = m.state

  abbrev t : State
  t = (step s p e).state

  abbrev one : Entry
  one = entry_after m.history p e (step s p e).reply

  now_is : (m.moment ≡ (view x.vault).moment) × ((view x.vault).faults ≡ (view x.first).faults)
  now_is = subst (λ (k : Ending). EndsWithVault k m (view x.first) (view x.vault)) going is.ending

  abbrev last_entry : Run
  last_entry = entered m m.moment one t

  later_than_first : (view x.first).moment ≤ (view x.vault).moment
  later_than_first = let low = first_low m.first m.marks m.moment is.sound.stored.stamped in let first = is.first in let now = now_is.0 in omega (arith, low, first, now)
    where
      first_low : (first : ℕ) (marks : List ℕ) (moment : ℕ) → AreMoments first marks moment → first ≤ moment
      first_low first [] moment are = are
      first_low first (mark ∷ marks) moment are = let rest = first_low mark marks moment are.1 in let low = are.0 in omega (arith, rest, low)

  sound_entered : (step s p e).enters ≡ true → IsSound last_entry
  sound_entered enters = subst (λ (r : Run). IsSound r) (after_entered m m.moment p e enters) (sound_after m m.moment p e is.sound may (omega arith))

  -- nothing had to persist
  pub quiet_sound : (step s p e).enters ≡ true → kept_anew s p e ≡ [] → IsSoundOver view holds leaves (record { machine = last_entry; vault = x.vault; first = x.first; ending = Going })
  quiet_sound enters nothing = record {
    sound = sound_entered enters;
    origin = is.origin;
    state = step_stored s p e is.state;
    first = is.first;
    moment = is.moment;
    ending = now_is;
    shape = is.shape;
    present = is.present;
    past = is.past;
    kept = λ c d held_first of.
        let kept = is.kept c d held_first of in
        let now = held view holds leaves laws x p e is going may c d of kept in
        let both = quiet view holds leaves laws x p e is going may c d of kept nothing in
        kept_from view holds leaves laws (record { machine = last_entry; vault = x.vault; first = x.first; ending = Going }) c d (sound_entered enters) is.origin of
        (record { content = now.content; held = now.held; stands = both.0; headers = both.1 }) (short_new view holds leaves laws x p e is going may c d of kept) (images_new view holds leaves laws x p e is going may c d of kept (none_again view holds leaves laws x p e is going may c d of kept nothing)) (quiet_crash view holds leaves laws x p e is going may c d of kept nothing);
  }

  module _ (does : IsDone (step s p e).reply) (v : V) where
    Keeps : Ending → Type 0
    Keeps k = KeepsStep view holds leaves x.vault v t.held t.units (numbered (must_persist s p e)) k

    past_behind : (k : Ending) → KeepsStep view holds leaves x.vault v t.held t.units (numbered (must_persist s p e)) k → (j : ℕ) (n : Content) → j ≤ (view x.first).moment → leaves x.first j n ↔ leaves v j n
    past_behind k keeps j n low =
        let high : j ≤ (view x.vault).moment = let later = later_than_first in omega (arith, low, later) in
        let one = is.past j n low in
        let two = keeps.past j n high in
        (λ left. two.0 (one.0 left), λ left. one.1 (two.1 left))

    -- what had to persist
    pub going_sound : KeepsStep view holds leaves x.vault v t.held t.units (numbered (must_persist s p e)) Going
        → IsSoundOver view holds leaves (record { machine = entered m (view v).moment one t; vault = v; first = x.first; ending = Going })
    going_sound keeps =
        let enters = enters_done s p e does in
        let now = now_is.0 in
        let later = keeps.later in
        let le : m.moment ≤ (view v).moment = omega (arith, now, later) in
        let sound : IsSound (entered m (view v).moment one t) =
        subst (λ (r : Run). IsSound r) (after_entered m (view v).moment p e enters) (sound_after m (view v).moment p e is.sound may le)
        in
        record {
          sound = sound;
          origin = is.origin;
          state = step_stored s p e is.state;
          first = is.first;
          moment = omega arith;
          ending = (refl, keeps.count refl ∙ now_is.1);
          shape = keeps.shape ∙ is.shape;
          present = keeps.present;
          past = past_behind Going keeps;
          kept = λ c d held_first of.
              let kept = is.kept c d held_first of in
              kept_from view holds leaves laws (record { machine = entered m (view v).moment one t; vault = v; first = x.first; ending = Going }) c d sound is.origin of
              (kept_now view holds leaves laws x p e is going may c d of kept does v Going keeps refl) (short_new view holds leaves laws x p e is going may c d of kept) (images_new view holds leaves laws x p e is going may c d of kept (again view holds leaves laws x p e is going may c d of kept does v Going keeps)) (going_crash view holds leaves laws x p e is going may c d of kept does v Going keeps refl);
        }

    ended_crash_by : (k : Ending) (marks : List ℕ) → marks ≡ m.marks → KeepsStep view holds leaves x.vault v t.held t.units (numbered (must_persist s p e)) k → (c : Content) (d : Durable) → IsOf c d m.origin → IsKeptFrom view holds leaves x d
        → (view x.first).shape.most ≡ most_changes → (j : ℕ) (n : Content) → (view x.first).moment ≤ j → j ≤ (view v).moment → leaves v j n
        → IsKeptPrefix d m.origin (m.history ++ one ∷ []) marks j n
    ended_crash_by k marks same keeps c d of kept most j n low high left =
        subst (λ (ms : List ℕ). IsKeptPrefix d m.origin (m.history ++ one ∷ []) ms j n) (sym same) (ended_crash view holds leaves laws x p e is going may c d of kept does v k keeps most j n low high left)

    pub low_moment : (k : Ending) → KeepsStep view holds leaves x.vault v t.held t.units (numbered (must_persist s p e)) k → m.moment ≤ (view v).moment
    low_moment k keeps = let now = now_is.0 in let later = keeps.later in omega (arith, now, later)

    pub stopped_sound : KeepsStep view holds leaves x.vault v t.held t.units (numbered (must_persist s p e)) Stopped → IsSoundOver view holds leaves (record { machine = last_entry; vault = v; first = x.first; ending = Stopped })
    stopped_sound keeps = record {
      sound = sound_entered (enters_done s p e does);
      origin = is.origin;
      state = step_stored s p e is.state;
      first = is.first;
      moment = low_moment Stopped keeps;
      ending = (subst (λ (n : ℕ). Rose n (view v).faults) now_is.1 (keeps.failed refl), let count = length-append m.history (one ∷ []) in omega (arith, count));
      shape = keeps.shape ∙ is.shape;
      present = keeps.present;
      past = past_behind Stopped keeps;
      kept = λ c d held_first of.
          let kept = is.kept c d held_first of in
          kept_from view holds leaves laws (record { machine = last_entry; vault = v; first = x.first; ending = Stopped }) c d (sound_entered (enters_done s p e does)) is.origin of
          tt (short_new view holds leaves laws x p e is going may c d of kept) (images_new view holds leaves laws x p e is going may c d of kept (again view holds leaves laws x p e is going may c d of kept does v Stopped keeps)) (ended_crash_by Stopped (without_last (m.marks ++ m.moment ∷ [])) (last_left m.marks m.moment) keeps c d of kept);
    }

    pub wanting_sound : KeepsStep view holds leaves x.vault v t.held t.units (numbered (must_persist s p e)) Wanting → IsSoundOver view holds leaves (record { machine = last_entry; vault = v; first = x.first; ending = Wanting })
    wanting_sound keeps = record {
      sound = sound_entered (enters_done s p e does);
      origin = is.origin;
      state = step_stored s p e is.state;
      first = is.first;
      moment = low_moment Wanting keeps;
      ending = tt;
      shape = keeps.shape ∙ is.shape;
      present = keeps.present;
      past = past_behind Wanting keeps;
      kept = λ c d held_first of.
          let kept = is.kept c d held_first of in
          kept_from view holds leaves laws (record { machine = last_entry; vault = v; first = x.first; ending = Wanting }) c d (sound_entered (enters_done s p e does)) is.origin of
          tt (short_new view holds leaves laws x p e is going may c d of kept) (images_new view holds leaves laws x p e is going may c d of kept (again view holds leaves laws x p e is going may c d of kept does v Wanting keeps)) (ended_crash_by Wanting (without_last (m.marks ++ m.moment ∷ [])) (last_left m.marks m.moment) keeps c d of kept);
    }
