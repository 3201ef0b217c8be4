-- After each change that the rules permit, with the counts that follow it, places are right.
use Rattle.std.proofs.Common.{◌≡◌, ◌≢◌, ◌<◌, ◌≤◌, inl, inr, ℕ, zero, suc, ◌-◌, ◌&&◌, ◌||◌, ◌++◌, Bool, true, false, not, List, [], ◌∷◌, length, refl, sym, ap, ◌∙◌, subst, take, arith}
use Rattle.std.proofs.lemmas.Bool.{and_parts}
use Rattle.std.proofs.lemmas.List.Elements.{All-append, All-cons, All-head, All-nil, All-tail}
use Rattle.std.proofs.lemmas.List.{length-set}
use Rattle.std.specs.Option.{option_map}
use Rattle.std.specs.Prelude.{All, Option, Some, None, is_some, slice_get, slice_set}
use Rattle.s38_base.specs.Faults.{counted}
use Rattle.s38_base.specs.declared.id.ObjNum.{ObjNum}
use Rattle.s38_rules.specs.families.Changes.{Changes, Framed, Gone, OnAccess, Profiled, Then, done}
use Rattle.s38_rules.specs.state.Invocations.{restack, restack_at, restacked, stack_in, stack_of, with_stack}
use Rattle.s38_rules.specs.state.State.{State, process_entry, started_in}
use Rattle.s38_rules.specs.ask.Users.{user_in, user_of}
use Rattle.s38_rules.specs.declared.process.ProcessEntry.{ProcessEntry}
use Rattle.s38_rules.specs.declared.process.Started.{Started}
use Rattle.s38_rights_cache.specs.Following.{changes_authority, changes_frames, is_quiet, world_after_change}
use Rattle.s38_rights_cache.specs.Numbers.{FrameNumbers, frames_in, last_count, renumbered}
use Rattle.s38_rights_cache.specs.Places.{AreNumbered, AreOwned, IsRightIn, IsSteady, is_live, is_live_in}
use Rattle.s38_rights_cache.specs.Worlds.{WorldState, frames_of, place_of}
use Rattle.s38_rights_cache.proofs.FitLaws.{KeepsFrames}
use Rattle.s38_rights_cache.proofs.FrameLaws.{HasNewFrame, HasSameFrames, new_numbered, new_right_in, same_numbered, same_right_in}
use Rattle.s38_rights_cache.proofs.KeepLaws.{IsFollowed, KeepsEntries, given_kept, kept}
use Rattle.s38_rights_cache.proofs.ListLaws.{by_place, get_set_other, get_set_same, get_within, length_new}
use Rattle.s38_rights_cache.proofs.PlaceLaws.{live_within}
use Rattle.s38_rights_cache.proofs.SameLaws.{Same, done_same, quiet_processes}
use Rattle.s38_rights_cache.proofs.WordLaws.{IsFollowing, same_following}

-- ---- a step that leaves processes

stand_so : (s t : State) → t.processes ≡ s.processes → KeepsEntries s t
stand_so s t same p live = ap (λ (xs : List ProcessEntry). slice_get xs (p - 1)) same

pub step_steady : (w : WorldState) (t : State) (a : ℕ) → IsSteady w → IsFollowed w t.held a → a ≤ last_count → AreOwned t.held → w.state.held.next ≤ t.held.next → KeepsEntries w.state t
    → length t.processes ≡ length w.state.processes → IsSteady (record w { state = t; authority = a })
step_steady w t a steady followed count owned next stand many = record {
  right = kept w t a steady.right steady.given followed stand many;
  given = given_kept w t a steady.given count owned next stand;
}

-- what rights rest on stays
pub following_steady : (w : WorldState) (t : State) → IsSteady w → IsFollowing w.state t.held → KeepsEntries w.state t → length t.processes ≡ length w.state.processes → IsSteady (record w { state = t })
following_steady w t steady follows stand many = step_steady w t w.authority steady (inl (refl, follows.leaves)) steady.given.authority follows.owned follows.next stand many

pub same_steady : (w : WorldState) (t : State) → IsSteady w → Same w.state.held t.held → t.processes ≡ w.state.processes → IsSteady (record w { state = t })
same_steady w t steady same processes =
    following_steady w t steady (same_following w.state t.held same steady.given.objects) (stand_so w.state t processes) (ap length processes)

-- authority changes
pub raised_steady : (w : WorldState) (t : State) → IsSteady w → AreOwned t.held → w.state.held.next ≤ t.held.next → t.processes ≡ w.state.processes → IsSteady (record w { state = t; authority = counted w.authority })
raised_steady w t steady owned next processes =
    step_steady w t (counted w.authority) steady (inr refl) (omega arith) owned next (stand_so w.state t processes) (ap length processes)

-- ---- what is quiet moves no count

or_off : (a b : Bool) → a ≡ false → b ≡ false → (a || b) ≡ false
or_off true b e g = cc
or_off false b e g = g

quiet_authority : (x : Changes) → is_quiet x ≡ true → changes_authority x ≡ false
quiet_authority (OnAccess n f) quiet = cc
quiet_authority (Profiled n special limit) quiet = cc
quiet_authority (Gone kind n) quiet = cc
quiet_authority (Then a b) quiet =
    let both = and_parts (is_quiet a) (is_quiet b) quiet in
    or_off (changes_authority a) (changes_authority b) (quiet_authority a both.0) (quiet_authority b both.1)
quiet_authority _ quiet = refl

quiet_frames : (x : Changes) → is_quiet x ≡ true → changes_frames x ≡ false
quiet_frames (Framed f) quiet = cc
quiet_frames (Then a b) quiet =
    let both = and_parts (is_quiet a) (is_quiet b) quiet in
    or_off (changes_frames a) (changes_frames b) (quiet_frames a both.0) (quiet_frames b both.1)
quiet_frames _ quiet = refl

pub quiet_steady : (w : WorldState) (p : ℕ) (x : Changes) → is_quiet x ≡ true → IsSteady w → IsSteady (world_after_change w p x (done w.state p x))
quiet_steady w p x quiet steady =
    rw (quiet_authority x quiet, quiet_frames x quiet) (same_steady w (done w.state p x) steady (done_same x w.state p quiet) (quiet_processes x w.state p quiet))

-- ---- other frames

restacked_entry : (f : List ObjNum → List ObjNum) (s : State) (p : ℕ) (x : Option ProcessEntry) → process_entry s p ≡ x → process_entry (restack_at f s p x) p ≡ option_map (with_stack f) x
restacked_entry f s p None is = is
restacked_entry f s p (Some x) is = get_set_same s.processes (p - 1) (with_stack f x) (get_within s.processes (p - 1) x is)

restacked_other : (f : List ObjNum → List ObjNum) (s : State) (p q : ℕ) (x : Option ProcessEntry) → q - 1 ≢ p - 1 → process_entry (restack_at f s p x) q ≡ process_entry s q
restacked_other f s p q None away = refl
restacked_other f s p q (Some x) away = get_set_other s.processes (p - 1) (q - 1) (with_stack f x) away

restacked_many : (f : List ObjNum → List ObjNum) (s : State) (p : ℕ) (x : Option ProcessEntry) → length (restack_at f s p x).processes ≡ length s.processes
restacked_many f s p None = refl
restacked_many f s p (Some x) = length-set s.processes (p - 1) (with_stack f x)

restacked_held : (f : List ObjNum → List ObjNum) (s : State) (p : ℕ) (x : Option ProcessEntry) → (restack_at f s p x).held ≡ s.held
restacked_held f s p None = refl
restacked_held f s p (Some x) = refl

-- what there is of a process with other frames
live_restacked : (f : List ObjNum → List ObjNum) (x : Option ProcessEntry) → is_live_in (option_map (with_stack f) x) ≡ true → is_live_in x ≡ true
live_restacked f None live = cc
live_restacked f (Some x) live = by x.started live
  where
    by : (p : Option Started) → (is_some (restacked f p) && not x.ended) ≡ true → (is_some p && not x.ended) ≡ true
    by None live = live
    by (Some p) live = live

stack_restacked : (f : List ObjNum → List ObjNum) (x : Option ProcessEntry) → is_live_in x ≡ true → stack_in (started_in (option_map (with_stack f) x)) ≡ f (stack_in (started_in x))
stack_restacked f None live = cc
stack_restacked f (Some x) live = by x.started live
  where
    by : (p : Option Started) → (is_some p && not x.ended) ≡ true → stack_in (restacked f p) ≡ f (stack_in p)
    by None live = cc
    by (Some p) live = refl

user_restacked : (f : List ObjNum → List ObjNum) (x : Option ProcessEntry) → user_in (started_in (option_map (with_stack f) x)) ≡ user_in (started_in x)
user_restacked f None = refl
user_restacked f (Some x) = by x.started
  where
    by : (p : Option Started) → user_in (restacked f p) ≡ user_in p
    by None = refl
    by (Some p) = refl

-- after a new frame of a process, of another process and of its own
record IsFramed (w x : WorldState) (p q : ℕ) : Type 0 where
  pub live : is_live w.state q ≡ true
  pub numbered : AreNumbered x q
  pub right : IsRightIn x q (place_of w q)
  pub user : user_of x.state q ≡ user_of w.state q
  pub programs : All (λ (f : ObjNum). f.0 < w.state.held.next) (stack_of x.state q)

framed_other : (w x : WorldState) (p q : ℕ) → IsSteady w → x.state.held ≡ w.state.held → x.authority ≡ w.authority → frames_of x q ≡ frames_of w q → process_entry x.state q ≡ process_entry w.state q
    → is_live x.state q ≡ true → IsFramed w x p q
framed_other w x p q steady held authority frames entry live =
    let was : is_live w.state q ≡ true = subst (λ (y : Option ProcessEntry). is_live_in y ≡ true) entry live in
    let same : HasSameFrames w x q = record {
      stack = ap (λ (y : Option ProcessEntry). stack_in (started_in y)) entry;
      frames = frames;
      user = ap (λ (y : Option ProcessEntry). user_in (started_in y)) entry;
      held = held;
      authority = authority;
    } in
    record {
      live = was;
      numbered = same_numbered w x q same (steady.right.numbers q was);
      right = same_right_in w x q (place_of w q) same (steady.right.rights q was);
      user = same.user;
      programs = rw same.stack (steady.given.programs q was);
    }

taken_all : (P : ObjNum → Type 0) (k : ℕ) (frames : List ObjNum) → All P frames → All P (take k frames)
taken_all P zero frames all = All-nil P
taken_all P (suc k) [] all = All-nil P
taken_all P (suc k) (f ∷ frames) all = All-cons P f (take k frames) (All-head P f frames all) (taken_all P k frames (All-tail P f frames all))

framed_own : (w x : WorldState) (p q k : ℕ) (program : ObjNum) → IsSteady w → is_live w.state q ≡ true → HasNewFrame w x q k program → program.0 < w.state.held.next → IsFramed w x p q
framed_own w x p q k program steady was new given = record {
  live = was;
  numbered = new_numbered w x q k program new (steady.given.frames q) (steady.right.numbers q was);
  right = new_right_in w x q k program (place_of w q) new (steady.given.frames q) (steady.right.numbers q was) (steady.right.rights q was);
  user = new.user;
  programs = rw new.stack (All-append (λ (f : ObjNum). f.0 < w.state.held.next) (take k (stack_of w.state q)) (program ∷ [])
      (taken_all (λ (f : ObjNum). f.0 < w.state.held.next) k (stack_of w.state q) (steady.given.programs q was))
      (All-cons (λ (f : ObjNum). f.0 < w.state.held.next) program [] given (All-nil (λ (f : ObjNum). f.0 < w.state.held.next))));
}

framed_last : (last : ℕ) → counted last ≤ last_count
framed_last last = omega arith

framed_each : (w : WorldState) (p : ℕ) (f : List ObjNum → List ObjNum) → KeepsFrames w.state.held.next (stack_of w.state p) f → IsSteady w
    → (q : ℕ) → is_live (restack f w.state p) q ≡ true → IsFramed w (world_after_change w p (Framed f) (restack f w.state p)) p q
framed_each w p f fit steady q live = by_place (IsFramed w x p q) (q - 1) (p - 1) own other
  where
    t : State
    t = restack f w.state p

    x : WorldState
    x = world_after_change w p (Framed f) t

    new : FrameNumbers
    new = renumbered (length (stack_of t p) - 1) (frames_of w p)

    held : t.held ≡ w.state.held
    held = restacked_held f w.state p (process_entry w.state p)

    other : q - 1 ≢ p - 1 → IsFramed w x p q
    other away = framed_other w x p q steady held refl (ap frames_in (get_set_other w.frames (p - 1) (q - 1) new away)) (restacked_other f w.state p q (process_entry w.state p) away) live

    own : q - 1 ≡ p - 1 → IsFramed w x p q
    own same =
        let entry : process_entry t q ≡ option_map (with_stack f) (process_entry w.state q) =
        ap (λ (k : ℕ). slice_get t.processes k) same ∙ restacked_entry f w.state p (process_entry w.state p) refl ∙ ap (λ (k : ℕ). option_map (with_stack f) (slice_get w.state.processes k)) (sym same) in
        let was : is_live w.state q ≡ true = live_restacked f (process_entry w.state q) (subst (λ (y : Option ProcessEntry). is_live_in y ≡ true) entry live) in
        let one : stack_of w.state q ≡ stack_of w.state p = ap (λ (k : ℕ). stack_in (started_in (slice_get w.state.processes k))) same in
        let stack : stack_of t q ≡ take fit.stays (stack_of w.state q) ++ fit.program ∷ [] =
        ap (λ (y : Option ProcessEntry). stack_in (started_in y)) entry ∙ stack_restacked f (process_entry w.state q) was ∙ ap f one ∙ fit.is ∙ ap (λ (xs : List ObjNum). take fit.stays xs ++ fit.program ∷ []) (sym one) in
        let within : fit.stays ≤ length (stack_of w.state q) = omega (arith, fit.within, ap length one) in
        let long : length (stack_of t p) ≡ suc fit.stays =
        ap (λ (k : ℕ). length (stack_in (started_in (slice_get t.processes k)))) (sym same) ∙ ap length stack ∙ length_new (stack_of w.state q) fit.stays fit.program within in
        let place : length (stack_of t p) - 1 ≡ fit.stays = omega (arith, long) in
        let low : p - 1 < length w.frames = subst (λ (k : ℕ). k < length w.frames) same (omega (arith, steady.right.frames, live_within w.state.processes (q - 1) was)) in
        let frames : frames_of x q ≡ renumbered fit.stays (frames_of w q) =
        ap (λ (k : ℕ). frames_in (slice_get (slice_set w.frames (p - 1) new) k)) same ∙ ap frames_in (get_set_same w.frames (p - 1) new low)
        ∙ ap (λ (k : ℕ). renumbered k (frames_of w p)) place ∙ ap (λ (k : ℕ). renumbered fit.stays (frames_in (slice_get w.frames k))) (sym same) in
        let user : user_of t q ≡ user_of w.state q = ap (λ (y : Option ProcessEntry). user_in (started_in y)) entry ∙ user_restacked f (process_entry w.state q) in
        let fresh : HasNewFrame w x q fit.stays fit.program = record { within = within; stack = stack; frames = frames; user = user; held = held; authority = refl } in
        framed_own w x p q fit.stays fit.program steady was fresh (fit.given (omega (arith, steady.given.users q was)))

pub last_set : (fs : List FrameNumbers) (k j : ℕ) (f : FrameNumbers) → f.last ≤ last_count → (frames_in (slice_get fs j)).last ≤ last_count → (frames_in (slice_get (slice_set fs k f) j)).last ≤ last_count
last_set [] k j f new old = old
last_set (x ∷ fs) zero zero f new old = new
last_set (x ∷ fs) zero (suc j) f new old = old
last_set (x ∷ fs) (suc k) zero f new old = old
last_set (x ∷ fs) (suc k) (suc j) f new old = last_set fs k j f new old

pub framed_steady : (w : WorldState) (p : ℕ) (f : List ObjNum → List ObjNum) → KeepsFrames w.state.held.next (stack_of w.state p) f → IsSteady w → IsSteady (world_after_change w p (Framed f) (restack f w.state p))
framed_steady w p f fit steady =
    let many = restacked_many f w.state p (process_entry w.state p) in
    let held = restacked_held f w.state p (process_entry w.state p) in
    let new : FrameNumbers = renumbered (length (stack_of (restack f w.state p) p) - 1) (frames_of w p) in
    record {
      right = record {
        places = steady.right.places ∙ sym many;
        frames = length-set w.frames (p - 1) new ∙ steady.right.frames ∙ sym many;
        numbers = λ q live. (framed_each w p f fit steady q live).numbered;
        rights = λ q live. (framed_each w p f fit steady q live).right;
      };
      given = record {
        authority = steady.given.authority;
        frames = λ q. last_set w.frames (p - 1) (q - 1) new (framed_last (frames_of w p).last) (steady.given.frames q);
        objects = rw held steady.given.objects;
        users = λ q live. let each = framed_each w p f fit steady q live in rw (each.user, held) (steady.given.users q each.live);
        programs = λ q live. let each = framed_each w p f fit steady q live in rw held each.programs;
        found = λ q v e. rw held (steady.given.found q v e);
      };
    }
