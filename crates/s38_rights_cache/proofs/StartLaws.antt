-- After a start that the rules permit, places are right.
use Rattle.std.proofs.Common.{◌≡◌, ◌<◌, ◌≤◌, ℕ, zero, suc, ◌-◌, ◌==◌, Bool, true, false, cond, List, [], ◌∷◌, length, refl, sym, ap, ◌∙◌, subst, arith}
use Rattle.std.proofs.lemmas.Bool.Decides.{nat_tests}
use Rattle.std.proofs.lemmas.List.Elements.{All-cons, All-nil}
use Rattle.std.proofs.lemmas.List.{length-set}
use Rattle.std.specs.Option.{unwrap_or}
use Rattle.std.specs.Prelude.{All, Option, Some, None, find, is_some, slice_get, slice_set}
use Rattle.s38_base.specs.Limits.{machine_context}
use Rattle.s38_base.specs.declared.exception.Exception.{Exception}
use Rattle.s38_base.specs.declared.id.Id.{Id}
use Rattle.s38_base.specs.declared.id.ObjNum.{ObjNum}
use Rattle.s38_rules.proofs.RuleLaws.{first_none}
use Rattle.s38_rules.specs.step.Effect.{start_at, started_as}
use Rattle.s38_rules.specs.state.Held.{Held, found_in, has_number, is_named, is_there, number_found, number_in, object_in}
use Rattle.s38_rules.specs.state.Invocations.{stack_in, stack_of}
use Rattle.s38_rules.specs.state.State.{State, is_early, process_entry, set_process, started_in}
use Rattle.s38_rules.specs.ask.Users.{user_in, user_of}
use Rattle.s38_rules.specs.step.Verdict.{absent, absent_context, of_failure, profile_id, start_failure, start_verdict}
use Rattle.s38_rules.specs.declared.object.Object.{Object}
use Rattle.s38_rules.specs.declared.process.ProcessEntry.{ProcessEntry}
use Rattle.s38_rules.specs.declared.verdict.Verdict.TheVariants.{Permit, Wait}
use Rattle.s38_rights_cache.specs.declared.found.Verified.{Verified}
use Rattle.s38_rights_cache.specs.Following.{world_after_start}
use Rattle.s38_rights_cache.specs.Numbers.{FrameNumbers, begun_numbers, frames_in, last_count, number_at}
use Rattle.s38_rights_cache.specs.Places.{AreNumbered, AreOwned, IsRightIn, IsSteady, is_live, is_live_in}
use Rattle.s38_rights_cache.specs.Worlds.{WorldState, frames_of, place_in, place_of}
use Rattle.s38_rights_cache.proofs.ChangeLaws.{last_set}
use Rattle.s38_rights_cache.proofs.FrameLaws.{HasSameFrames, same_numbered, same_right_in}
use Rattle.s38_rights_cache.proofs.ListLaws.{by_place, get_set_other, get_set_same, get_within}

-- what is found is there
found_there : (test : Object → Bool) (os : List Object) (o : Object) → find test os ≡ Some o → is_some (object_in os o.number.0) ≡ true
found_there test [] o e = cc
found_there test (x ∷ os) o e = by (found_there test os o) (test x) e
  where
    itself : (n : ℕ) → (n == n) ≡ true
    itself n = grind (arith, nat_tests)

    here : (b : Bool) → b ≡ true → is_some (cond b (Some x) (object_in os x.number.0)) ≡ true
    here true e = refl
    here false e = cc

    later : (b : Bool) → is_some (object_in os o.number.0) ≡ true → is_some (cond b (Some x) (object_in os o.number.0)) ≡ true
    later true e = refl
    later false e = e

    named : Option Object → ℕ
    named None = 0
    named (Some z) = z.number.0

    by : (find test os ≡ Some o → is_some (object_in os o.number.0) ≡ true) → (b : Bool) → cond b (Some x) (find test os) ≡ Some o → is_some (cond (has_number o.number.0 x) (Some x) (object_in os o.number.0)) ≡ true
    by rest true g =
        let same : x.number.0 ≡ o.number.0 = ap named g in
        let own : has_number o.number.0 x ≡ true = grind (arith, nat_tests, same) in
        rw own refl
    by rest false g = later (has_number o.number.0 x) (rest g)

number_there : (h : Held) (context : ℕ) (id : Id) (n : ObjNum) → number_found h context id ≡ Some n → is_there h n.0 ≡ true
number_there h context id n e = by (is_there h context) e
  where
    numbered : (x : Option Object) → find (is_named context id) h.objects ≡ x → number_in x ≡ Some n → is_some (object_in h.objects n.0) ≡ true
    numbered None is g = cc
    numbered (Some o) is g =
        let same : o.number ≡ n = some_same o.number n g in
        subst (λ (m : ObjNum). is_some (object_in h.objects m.0) ≡ true) same (found_there (is_named context id) h.objects o is)
      where
        some_same : (a b : ObjNum) → Some a ≡ Some b → a ≡ b
        some_same a b e = cc

    by : (b : Bool) → number_in (cond b (found_in h.objects context id) None) ≡ Some n → is_there h n.0 ≡ true
    by true g = numbered (found_in h.objects context id) refl g
    by false g = cc

-- a permitted start finds its user
pub user_given : (h : Held) (owned : AreOwned h) (x : ProcessEntry) → start_failure h x.job ≡ None → (started_as h x.job).user.0 < h.next
unfolding start_failure
user_given h owned x met = by (number_found h machine_context (profile_id x.job.user)) refl (first_none _ (absent_context h x.job.contexts 2) met).0
  where
    by : (r : Option ObjNum) → number_found h machine_context (profile_id x.job.user) ≡ r → absent r 1 ≡ None → (unwrap_or r (record { 0 = 0 })).0 < h.next
    by None is g = cc
    by (Some n) is g = owned.numbers n.0 (number_there h machine_context (profile_id x.job.user) n is)

no_failure : (x : Option Exception) → of_failure x ≡ Permit → x ≡ None
no_failure None e = refl
no_failure (Some x) e = cc

pub start_met : (s : State) (p : ℕ) (x : ProcessEntry) → start_verdict s p (Some x) ≡ Permit → start_failure s.held x.job ≡ None
start_met s p x may = by (is_early s.processes x.job.stage) may
  where
    by : (b : Bool) → cond b Wait (of_failure (start_failure s.held x.job)) ≡ Permit → start_failure s.held x.job ≡ None
    by true e = cc
    by false e = no_failure (start_failure s.held x.job) e

-- what there is of a live process after a start
record IsBegun (w x : WorldState) (q : ℕ) : Type 0 where
  pub numbered : AreNumbered x q
  pub right : IsRightIn x q (place_of x q)
  pub user : user_of x.state q < w.state.held.next
  pub programs : All (λ (f : ObjNum). f.0 < w.state.held.next) (stack_of x.state q)

-- one that has just begun
fresh_begun : (w x : WorldState) (q : ℕ) (f : FrameNumbers) → stack_of x.state q ≡ record { 0 = 0 } ∷ [] → frames_of x q ≡ begun_numbers f → place_of x q ≡ None → user_of x.state q < w.state.held.next
    → IsBegun w x q
fresh_begun w x q f stack frames place user = record {
  numbered = record {
    some = rw stack (omega arith);
    each = rw (stack, frames) refl;
    given = λ k. rw frames (zero_at k);
    apart = λ j k some more one two same other. omega (arith, some, more, one, two, ap length stack);
  };
  right = rw place tt;
  user = user;
  programs = rw stack (All-cons (λ (g : ObjNum). g.0 < w.state.held.next) (record { 0 = 0 }) [] (omega (arith, user)) (All-nil (λ (g : ObjNum). g.0 < w.state.held.next)));
}
  where
    zero_at : (k : ℕ) → number_at k (0 ∷ []) ≤ f.last
    zero_at zero = omega arith
    zero_at (suc zero) = omega arith
    zero_at (suc (suc k)) = omega arith

-- another process after a start
begun_other : (w x : WorldState) (q : ℕ) → IsSteady w → x.state.held ≡ w.state.held → x.authority ≡ w.authority → frames_of x q ≡ frames_of w q → place_of x q ≡ place_of w q
    → process_entry x.state q ≡ process_entry w.state q → is_live x.state q ≡ true → IsBegun w x q
begun_other w x q steady held authority frames place entry live =
    let was : is_live w.state q ≡ true = subst (λ (y : Option ProcessEntry). is_live_in y ≡ true) entry live in
    let same : HasSameFrames w x q = record {
      stack = ap (λ (y : Option ProcessEntry). stack_in (started_in y)) entry;
      frames = frames;
      user = ap (λ (y : Option ProcessEntry). user_in (started_in y)) entry;
      held = held;
      authority = authority;
    } in
    record {
      numbered = same_numbered w x q same (steady.right.numbers q was);
      right = rw place (same_right_in w x q (place_of w q) same (steady.right.rights q was));
      user = rw same.user (steady.given.users q was);
      programs = rw same.stack (steady.given.programs q was);
    }

begun_each : (w : WorldState) (p : ℕ) (y : Option ProcessEntry) → process_entry w.state p ≡ y → ((e : ProcessEntry) → y ≡ Some e → (started_as w.state.held e.job).user.0 < w.state.held.next)
    → IsSteady w → (q : ℕ) → is_live (start_at w.state p y) q ≡ true → IsBegun w (world_after_start w p (start_at w.state p y)) q
begun_each w p None is user steady q live = by_place (IsBegun w (world_after_start w p w.state) q) (q - 1) (p - 1)
    (λ same. absurd (no_process (process_entry w.state q) live (ap (λ (k : ℕ). slice_get w.state.processes k) same ∙ is)))
    (λ away. begun_other w (world_after_start w p w.state) q steady refl refl (ap frames_in (get_set_other w.frames (p - 1) (q - 1) (begun_numbers (frames_of w p)) away))
    (ap place_in (get_set_other w.places (p - 1) (q - 1) None away)) refl live)
  where
    no_process : (x : Option ProcessEntry) → is_live_in x ≡ true → x ≡ None → ⊥
    no_process None live none = cc
    no_process (Some x) live none = cc
begun_each w p (Some e) is user steady q live = by_place (IsBegun w x q) (q - 1) (p - 1)
    (λ same.
    let within : p - 1 < length w.state.processes = get_within w.state.processes (p - 1) e is in
    let entry : process_entry t q ≡ Some begun = ap (λ (k : ℕ). slice_get t.processes k) same ∙ get_set_same w.state.processes (p - 1) begun within in
    let frames : frames_of x q ≡ begun_numbers (frames_of w p) =
    ap (λ (k : ℕ). frames_in (slice_get x.frames k)) same ∙ ap frames_in (get_set_same w.frames (p - 1) (begun_numbers (frames_of w p)) (omega (arith, within, steady.right.frames))) in
    let place : place_of x q ≡ None =
    ap (λ (k : ℕ). place_in (slice_get x.places k)) same ∙ ap place_in (get_set_same w.places (p - 1) None (omega (arith, within, steady.right.places))) in
    fresh_begun w x q (frames_of w p) (ap (λ (z : Option ProcessEntry). stack_in (started_in z)) entry) frames place
    (rw (ap (λ (z : Option ProcessEntry). user_in (started_in z)) entry) (user e refl)))
    (λ away. begun_other w x q steady refl refl (ap frames_in (get_set_other w.frames (p - 1) (q - 1) (begun_numbers (frames_of w p)) away))
    (ap place_in (get_set_other w.places (p - 1) (q - 1) None away)) (get_set_other w.state.processes (p - 1) (q - 1) begun away) live)
  where
    begun : ProcessEntry
    begun = record e { started = Some (started_as w.state.held e.job) }

    t : State
    t = set_process w.state p begun

    x : WorldState
    x = world_after_start w p t

start_held : (s : State) (p : ℕ) (y : Option ProcessEntry) → (start_at s p y).held ≡ s.held
start_held s p None = refl
start_held s p (Some y) = refl

start_many : (s : State) (p : ℕ) (y : Option ProcessEntry) → length (start_at s p y).processes ≡ length s.processes
start_many s p None = refl
start_many s p (Some y) = length-set s.processes (p - 1) _

found_set : (places : List (Option Verified)) (k j next : ℕ) → ((v : Verified) → place_in (slice_get places j) ≡ Some v → v.object.0 < next) → (v : Verified) → place_in (slice_get (slice_set places k None) j) ≡ Some v
    → v.object.0 < next
found_set [] k j next old v e = old v e
found_set (x ∷ xs) zero zero next old v e = cc
found_set (x ∷ xs) zero (suc j) next old v e = old v e
found_set (x ∷ xs) (suc k) zero next old v e = old v e
found_set (x ∷ xs) (suc k) (suc j) next old v e = found_set xs k j next old v e

pub start_steady : (w : WorldState) (p : ℕ) (y : Option ProcessEntry) → process_entry w.state p ≡ y → ((e : ProcessEntry) → y ≡ Some e → (started_as w.state.held e.job).user.0 < w.state.held.next)
    → IsSteady w → IsSteady (world_after_start w p (start_at w.state p y))
start_steady w p y is user steady =
    let many = start_many w.state p y in
    let held = start_held w.state p y in
    record {
      right = record {
        places = length-set w.places (p - 1) None ∙ steady.right.places ∙ sym many;
        frames = length-set w.frames (p - 1) (begun_numbers (frames_of w p)) ∙ steady.right.frames ∙ sym many;
        numbers = λ q live. (begun_each w p y is user steady q live).numbered;
        rights = λ q live. (begun_each w p y is user steady q live).right;
      };
      given = record {
        authority = steady.given.authority;
        frames = λ q. last_set w.frames (p - 1) (q - 1) (begun_numbers (frames_of w p)) (steady.given.frames p) (steady.given.frames q);
        objects = rw held steady.given.objects;
        users = λ q live. rw held (begun_each w p y is user steady q live).user;
        programs = λ q live. rw held (begun_each w p y is user steady q live).programs;
        found = λ q v e. rw held (found_set w.places (p - 1) (q - 1) w.state.held.next (steady.given.found q) v e);
      };
    }
