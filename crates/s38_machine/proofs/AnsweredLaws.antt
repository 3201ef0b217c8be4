-- The world after an answer: rights were checked before, and then the event took effect.
use Rattle.std.proofs.Common.{◌≡◌, ◌≤◌, ◌∙◌, ℕ, Bool, true, false, List, [], length, refl, sym, ap, subst}
use Rattle.std.specs.Prelude.{OnErr, Result, Ok, Err, Some, if◌then◌else◌}
use Rattle.s38_code.specs.Asking.{last_reply}
use Rattle.s38_code.specs.History.{entry_after}
use Rattle.s38_code.specs.declared.entry.Entry.{Entry}
use Rattle.s38_code.specs.declared.event.Event.{Event}
use Rattle.s38_code.specs.declared.event.Event.TheVariants.{Start, Act, Finish}
use Rattle.s38_code.specs.declared.reply.Reply.TheVariants.{MustWait}
use Rattle.s38_machine.proofs.AskingLaws.{entered_by}
use Rattle.s38_machine.proofs.FollowedLaws.{world_after_state}
use Rattle.s38_machine.specs.Answered.{IsAnsweredWorld, IsCheckedWorld, WorldRun, entered, run_of, world_by}
use Rattle.s38_machine.specs.Stored.{kept_anew, must_persist_by}
use Rattle.s38_rules.specs.declared.verdict.Verdict.{Verdict}
use Rattle.s38_rules.specs.declared.verdict.Verdict.TheVariants.{Permit, Wait, Refuse}
use Rattle.s38_rules.specs.store.Forcing.{Forced}
use Rattle.s38_rules.specs.step.Legal.{after, after_by}
use Rattle.s38_rules.specs.state.State.{State, waits}
use Rattle.s38_rules.specs.step.Step.{Stepped, awake_verdict, by_verdict, by_waiting, step, verdict_of}
use Rattle.s38_verdicts.specs.Asked.{checked_world, checks_of, depth_of, rows_for}
use Rattle.s38_rights_cache.proofs.AskLaws.{checked_state}
use Rattle.s38_rights_cache.specs.declared.found.Visits.{Visits}
use Rattle.s38_rights_cache.specs.Following.{world_after_event}
use Rattle.s38_rights_cache.specs.Places.{AreChecked, RisesBy}
use Rattle.s38_rights_cache.specs.Worlds.{WorldState}

-- ---- what follows a verdict

by_state : (v : Verdict) (w : WorldState) (p : ℕ) (e : Event) (t : State) → (world_by v w p e t).state ≡ t
by_state Permit w p e t = world_after_state w p e t
by_state Wait w p e t = refl
by_state (Refuse x) w p e t = refl

behind_beside : (w : WorldState) (visits : Visits) (p : ℕ) (e : Event) (t : State) → world_after_event (record w { visits = visits }) p e t ≡ record (world_after_event w p e t) { visits = visits }
unfolding world_after_event
behind_beside w visits p Start t = refl
behind_beside w visits p (Act depth request) t = refl
behind_beside w visits p (Finish cause) t = refl

-- it does not depend on how many rows were visited before
by_beside : (v : Verdict) (w : WorldState) (visits : Visits) (p : ℕ) (e : Event) (t : State) → world_by v (record w { visits = visits }) p e t ≡ record (world_by v w p e t) { visits = visits }
by_beside Permit w visits p e t = behind_beside w visits p e t
by_beside Wait w visits p e t = refl
by_beside (Refuse x) w visits p e t = refl

-- ---- a process that does not wait

stepped : (s : State) (p : ℕ) (e : Event) → waits s p ≡ false → step s p e ≡ by_verdict s p e (awake_verdict s p e)
unfolding step
stepped s p e awake = ap (λ (b : Bool). by_waiting b s p e) awake

-- the step that a verdict makes in the same state
by_same : (s t : State) (p : ℕ) (e : Event) (v : Verdict) → waits s p ≡ false → v ≡ awake_verdict s p e → t ≡ s → by_verdict t p e v ≡ step s p e
by_same s t p e v awake is same = ap (λ (u : State). by_verdict u p e v) same ∙ ap (by_verdict s p e) is ∙ sym (stepped s p e awake)

-- what was checked of a machine's world, and that it leaves all else
pub record IsJudged (m x : WorldRun) (p : ℕ) (e : Event) (v : Verdict) : Type 0 where
  pub checked : AreChecked m.world p (depth_of e) (checks_of m.world.state p e) x.world
  pub same : x ≡ record m { world = x.world }
  pub verdict : v ≡ awake_verdict m.world.state p e

pub judged_state : (m x : WorldRun) (p : ℕ) (e : Event) (v : Verdict) → IsJudged m x p e v → x.world.state ≡ m.world.state
judged_state m x p e v judged = checked_state m.world x.world p (depth_of e) (checks_of m.world.state p e) judged.checked

-- the verdict is that of the state in which it was given
pub judged_verdict : (m x : WorldRun) (p : ℕ) (e : Event) (v : Verdict) → IsJudged m x p e v → awake_verdict x.world.state p e ≡ v
judged_verdict m x p e v judged = ap (λ (s : State). awake_verdict s p e) (judged_state m x p e v judged) ∙ sym judged.verdict

pub judged_last : (m x : WorldRun) (p : ℕ) (e : Event) (v : Verdict) → IsJudged m x p e v → p ≤ length m.world.state.processes → p ≤ length x.world.state.processes
judged_last m x p e v judged last = subst (λ (s : State). p ≤ length s.processes) (sym (judged_state m x p e v judged)) last

-- what must persist is that of the state in which the verdict was given
pub judged_anew : (m x : WorldRun) (p : ℕ) (e : Event) (v : Verdict) (all : List Forced) → IsJudged m x p e v → all ≡ must_persist_by m.world.state p e v → all ≡ must_persist_by x.world.state p e v
judged_anew m x p e v all judged are = are ∙ ap (λ (s : State). must_persist_by s p e v) (sym (judged_state m x p e v judged))

-- the event was entered
pub answered_run : (m x n : WorldRun) (p : ℕ) (e : Event) (v : Verdict) → waits m.world.state p ≡ false → IsJudged m x p e v
    → n ≡ entered x p e v (by_verdict x.world.state p e v) → run_of n ≡ after (run_of m) m.moment p e
unfolding after
answered_run m x n p e v awake judged is =
    let y : WorldRun = record m { world = x.world } in
    let made : Stepped = by_verdict x.world.state p e v in
    ap run_of is
    ∙ ap (λ (z : WorldRun). run_of (entered z p e v made)) judged.same
    ∙ ap (λ (s : State). record (run_of (entered y p e v made)) { state = s }) (by_state v x.world p e made.state)
    ∙ ap (λ (made : Stepped). after_by (run_of m) m.moment p e made) (by_same m.world.state x.world.state p e v awake judged.verdict (judged_state m x p e v judged))

entered_last : (h : List Entry) (s : State) (p : ℕ) (e : Event) (v : Verdict) (m : WorldRun) → m.history ≡ h → last_reply (entered m p e v (by_verdict s p e v)).history ≡ Some (by_verdict s p e v).reply
entered_last h s p e Permit m is = entered_by m.history (entry_after m.history p e (by_verdict s p e Permit).reply)
entered_last h s p e Wait m is = entered_by m.history (entry_after m.history p e (by_verdict s p e Wait).reply)
entered_last h s p e (Refuse x) m is = entered_by m.history (entry_after m.history p e (by_verdict s p e (Refuse x)).reply)

-- the reply of the last entry is that of the step
pub answered_last : (m x n : WorldRun) (p : ℕ) (e : Event) (v : Verdict) → waits m.world.state p ≡ false → IsJudged m x p e v
    → n ≡ entered x p e v (by_verdict x.world.state p e v) → last_reply n.history ≡ Some (step m.world.state p e).reply
answered_last m x n p e v awake judged is =
    ap (λ (z : WorldRun). last_reply z.history) is
    ∙ entered_last x.history x.world.state p e v x refl
    ∙ ap (λ (made : Stepped). Some made.reply) (by_same m.world.state x.world.state p e v awake judged.verdict (judged_state m x p e v judged))

-- the reply that a verdict makes
pub answered_reply : (m x : WorldRun) (p : ℕ) (e : Event) (v : Verdict) → waits m.world.state p ≡ false → IsJudged m x p e v
    → (by_verdict x.world.state p e v).reply ≡ (step m.world.state p e).reply
answered_reply m x p e v awake judged =
    ap (λ (made : Stepped). made.reply) (by_same m.world.state x.world.state p e v awake judged.verdict (judged_state m x p e v judged))

-- what must persist
pub answered_anew : (s : State) (p : ℕ) (e : Event) (v : Verdict) → waits s p ≡ false → v ≡ awake_verdict s p e → must_persist_by s p e v ≡ kept_anew s p e
unfolding verdict_of
answered_anew s p e v awake is =
    let told : verdict_of s p e ≡ awake_verdict s p e = ap (λ (b : Bool). if b then Wait else awake_verdict s p e) awake in
    ap (must_persist_by s p e) (is ∙ sym told)

-- the world after it
answered_by : (w x t : WorldState) (p : ℕ) (e : Event) (v : Verdict) → waits w.state p ≡ false → AreChecked w p (depth_of e) (checks_of w.state p e) x → v ≡ awake_verdict w.state p e
    → t ≡ world_by v x p e (by_verdict x.state p e v).state → IsAnsweredWorld w p e t
answered_by w x t p e v awake checked is led =
    let c : WorldState = checked_world w p e in
    let own : Verdict = awake_verdict w.state p e in
    let to : State = (step w.state p e).state in
    let states : (by_verdict x.state p e v).state ≡ to =
    ap (λ (made : Stepped). made.state) (by_same w.state x.state p e v awake is (checked_state w x p (depth_of e) (checks_of w.state p e) checked)) in
    let apart : t ≡ record (world_by own c p e to) { visits = x.visits } =
    led ∙ ap (λ (s : State). world_by v x p e s) states ∙ ap (λ (u : Verdict). world_by u x p e to) is
    ∙ ap (λ (z : WorldState). world_by own z p e to) checked.places ∙ by_beside own c x.visits p e to in
    let visits : t.visits ≡ x.visits = ap (λ (z : WorldState). z.visits) apart in
    record {
      world = subst (λ (b : Bool). t ≡ record (if b then w else world_by own c p e to) { visits = t.visits }) (sym awake)
          (apart ∙ ap (λ (k : Visits). record (world_by own c p e to) { visits = k }) (sym visits));
      visits = subst (λ (b : Bool). RisesBy w.visits (if b then 0 else rows_for w p e) t.visits) (sym awake)
          (subst (λ (k : Visits). RisesBy w.visits (rows_for w p e) k) (sym visits) checked.visits);
    }

pub answered_world : (m x n : WorldRun) (p : ℕ) (e : Event) (v : Verdict) → waits m.world.state p ≡ false → IsJudged m x p e v
    → n ≡ entered x p e v (by_verdict x.world.state p e v) → IsAnsweredWorld m.world p e n.world
answered_world m x n p e v awake judged is = answered_by m.world x.world n.world p e v awake judged.checked judged.verdict (ap (λ (z : WorldRun). z.world) is)

-- ---- a process that waits already

pub waits_run : (m : WorldRun) (p : ℕ) (e : Event) → waits m.world.state p ≡ true → run_of m ≡ after (run_of m) m.moment p e
unfolding step after
waits_run m p e still = ap (λ (b : Bool). after_by (run_of m) m.moment p e (by_waiting b m.world.state p e)) (sym still)

pub waits_reply : (s : State) (p : ℕ) (e : Event) → waits s p ≡ true → (step s p e).reply ≡ MustWait
unfolding step
waits_reply s p e still = ap (λ (b : Bool). (by_waiting b s p e).reply) still

-- nothing must persist
pub waits_anew : (s : State) (p : ℕ) (e : Event) → waits s p ≡ true → kept_anew s p e ≡ []
unfolding verdict_of
waits_anew s p e still = ap (λ (b : Bool). must_persist_by s p e (if b then Wait else awake_verdict s p e)) still

-- ---- no answer

pub checked_run : (m x : WorldRun) (p : ℕ) (e : Event) (v : Verdict) → IsJudged m x p e v → run_of x ≡ run_of m
checked_run m x p e v judged = ap run_of judged.same ∙ ap (λ (s : State). record (run_of m) { state = s }) (judged_state m x p e v judged)

-- the same where an error is handed on
pub handed_on : {A B : Type 0} (r : Result A B) (P : Type 0) → P → OnErr r P
handed_on (Ok x) P is = tt
handed_on (Err x) P is = is
