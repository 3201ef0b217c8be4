-- Places that are right stay right where a state becomes another one that leaves what they rest on, or where the count of
-- authority changes rises.
use Rattle.std.proofs.Common.{◌≡◌, ◌≢◌, ◌<◌, ◌≤◌, ◌⊎◌, inl, inr, ℕ, zero, suc, ◌==◌, ◌&&◌, ◌||◌, Bool, true, false, cond, List, [], ◌∷◌, length, refl, sym, ap, ◌∙◌, subst, take, arith}
use Rattle.std.proofs.lemmas.List.Elements.{All-cons, All-head, All-nil, All-tail, All-weaker}
use Rattle.std.specs.Prelude.{All, Option, Some, None}
use Rattle.s38_base.specs.Faults.{counted}
use Rattle.s38_base.specs.declared.id.ObjNum.{ObjNum}
use Rattle.s38_rules.specs.declared.object.Object.{Object}
use Rattle.s38_rules.specs.declared.process.ProcessEntry.{ProcessEntry}
use Rattle.s38_rules.specs.ask.Authority.{available}
use Rattle.s38_rules.specs.state.Headers.{header_in, header_of}
use Rattle.s38_rules.specs.state.Held.{Held, is_there, object}
use Rattle.s38_rules.specs.state.Invocations.{frames_used, in_use, stack_in, stack_of}
use Rattle.s38_rules.specs.state.State.{State, process_entry, started_in}
use Rattle.s38_rules.specs.ask.Users.{acting, adopted, adoption_of, frame_header, user_in, user_of, with_owner}
use Rattle.s38_rights_cache.specs.declared.found.Verified.{Verified}
use Rattle.s38_rights_cache.specs.Numbers.{FrameNumbers, last_count, number_at}
use Rattle.s38_rights_cache.specs.Places.{AreGiven, AreOwned, ArePlacesRight, IsRight, IsRightIn, is_current, is_for, is_live, is_live_in, rights_anew}
use Rattle.s38_rights_cache.specs.Worlds.{WorldState, frames_of, place_of}
use Rattle.s38_rights_cache.proofs.BearLaws.{AdoptsSo, IsSame, IsSameUser, adopted_same, available_same, there_same}
use Rattle.s38_rights_cache.proofs.PlaceLaws.{now_parts}

-- ---- what rights rest on

-- other objects, by which nobody that acts has other rights on an object that was there
pub record Leaves (s : State) (k : Held) : Type 0 where
  pub objects : (n : ℕ) → n < s.held.next → is_there k n ≡ true → IsSame (object s.held n) (object k n)
  pub programs : (n : ℕ) → n < s.held.next → AdoptsSo (object s.held n) (object k n)
  pub owners : (n : ℕ) (o : Object) → object s.held n ≡ Some o → IsSameUser (object s.held o.owner.0) (object k o.owner.0)
  pub users : (p : ℕ) → is_live s p ≡ true → IsSameUser (object s.held (user_of s p)) (object k (user_of s p))

-- the owner that a program brings owns it
header_there : (x : Option Object) (last : Bool) (owner : ℕ) → adoption_of last (header_in x) ≡ Some owner → (o : Object) × (x ≡ Some o) × (o.owner.0 ≡ owner)
header_there None last owner e = cc
header_there (Some o) last owner e = (o, refl, by ((header_of o).adopts && (last || (header_of o).propagates)) e)
  where
    by : (b : Bool) → cond b (Some o.owner.0) None ≡ Some owner → o.owner.0 ≡ owner
    by true e = cc
    by false e = cc

frame_there : (h : Held) (frame : ObjNum) (last : Bool) (owner : ℕ) → adoption_of last (frame_header h frame) ≡ Some owner → (o : Object) × (object h frame.0 ≡ Some o) × (o.owner.0 ≡ owner)
frame_there h frame last owner e =
    elim (frame.0 == 0) as (λ b. adoption_of last (cond b None (header_in (object h frame.0))) ≡ Some owner → (o : Object) × (object h frame.0 ≡ Some o) × (o.owner.0 ≡ owner)) [
      | true ↦ λ g. cc
      | false ↦ λ g. header_there (object h frame.0) last owner g
    ] e

-- what holds of each owner of an object holds of all whom frames bring
joined_all : (Q : ℕ → Type 0) (x : Option ℕ) (users : List ℕ) → ((owner : ℕ) → x ≡ Some owner → Q owner) → All Q users → All Q (with_owner x users)
joined_all Q None users each all = all
joined_all Q (Some owner) users each all = All-cons Q owner users (each owner refl) all

adopted_all : (Q : ℕ → Type 0) (h : Held) (frames : List ObjNum) → ((n : ℕ) (o : Object) → object h n ≡ Some o → Q o.owner.0) → All Q (adopted h frames)
adopted_all Q h [] owners = All-nil Q
adopted_all Q h (frame ∷ more) owners =
    joined_all Q (adoption_of (length more == 0) (frame_header h frame)) (adopted h more)
    (λ owner e. let is = frame_there h frame (length more == 0) owner e in subst Q is.2 (owners frame.0 is.0 is.1))
    (adopted_all Q h more owners)

acting_all : (Q : ℕ → Type 0) (s : State) (p d : ℕ) → Q (user_of s p) → ((n : ℕ) (o : Object) → object s.held n ≡ Some o → Q o.owner.0) → All Q (acting s p d)
unfolding acting
acting_all Q s p d user owners = All-cons Q (user_of s p) _ user (adopted_all Q s.held (in_use d (stack_of s p)) owners)

used_all : (P : ObjNum → Type 0) (k : ℕ) (frames : List ObjNum) → All P frames → All P (take k frames)
used_all P zero frames all = All-nil P
used_all P (suc k) [] all = All-nil P
used_all P (suc k) (f ∷ frames) all = All-cons P f (take k frames) (All-head P f frames all) (used_all P k frames (All-tail P f frames all))

acting_so : (s t : State) (p d : ℕ) → user_of t p ≡ user_of s p → in_use d (stack_of t p) ≡ in_use d (stack_of s p)
    → All (λ (f : ObjNum). AdoptsSo (object s.held f.0) (object t.held f.0)) (in_use d (stack_of s p)) → acting t p d ≡ acting s p d
unfolding acting
acting_so s t p d user frames each = rw (user, frames, adopted_same s.held t.held (in_use d (stack_of s p)) each) refl

-- a live process has the rights that it had, on an object that is there
pub rights_left : (s t : State) (p d n : ℕ) → Leaves s t.held → is_live s p ≡ true → user_of t p ≡ user_of s p → in_use d (stack_of t p) ≡ in_use d (stack_of s p)
    → All (λ (f : ObjNum). f.0 < s.held.next) (in_use d (stack_of s p)) → n < s.held.next → is_there t.held n ≡ true → rights_anew t p d n ≡ rights_anew s p d n
rights_left s t p d n leaves live user frames given low there =
    let acts = acting_so s t p d user frames (All-weaker (λ (f : ObjNum). f.0 < s.held.next) (λ (f : ObjNum). AdoptsSo (object s.held f.0) (object t.held f.0)) (λ f g. leaves.programs f.0 g) _ given) in
    ap (λ (users : List ℕ). available t.held users n 0) acts
    ∙ available_same s.held t.held (acting s p d) n 0 (leaves.objects n low there)
    (acting_all (λ u. IsSameUser (object s.held u) (object t.held u)) s p d (leaves.users p live) leaves.owners)

-- ---- counts

-- the count of authority changes rose, or what rights rest on stays
abbrev pub IsFollowed : WorldState → Held → ℕ → Type 0
IsFollowed w k authority = ((authority ≡ w.authority) × Leaves w.state k) ⊎ (authority ≡ counted w.authority)

-- a place from before the count rose is not current
outdated : (before now found : ℕ) → now ≡ counted before → now ≢ last_count → found ≡ now → found ≤ before → ⊥
outdated before now found is counts same le = omega (arith, is, counts, same, le)

not_less : (before now : ℕ) → (now ≡ before) ⊎ (now ≡ counted before) → (found : ℕ) → before ≤ last_count → found ≤ before → found ≤ now
not_less before now (inl e) found low le = omega (arith, e, le)
not_less before now (inr e) found low le = omega (arith, e, le, low)

-- ---- places

-- the entry of each process that lives stays
abbrev pub KeepsEntries : State → State → Type 0
KeepsEntries s t = (p : ℕ) → is_live t p ≡ true → process_entry t p ≡ process_entry s p

live_before : (s t : State) (p : ℕ) → process_entry t p ≡ process_entry s p → is_live t p ≡ true → is_live s p ≡ true
live_before s t p e live = subst (λ (x : Option ProcessEntry). is_live_in x ≡ true) e live

stack_so : (s t : State) (p : ℕ) → process_entry t p ≡ process_entry s p → stack_of t p ≡ stack_of s p
stack_so s t p e = ap (λ (x : Option ProcessEntry). stack_in (started_in x)) e

user_so : (s t : State) (p : ℕ) → process_entry t p ≡ process_entry s p → user_of t p ≡ user_of s p
user_so s t p e = ap (λ (x : Option ProcessEntry). user_in (started_in x)) e

-- a place is current by the frames and the counts
pub current_so : (w x : WorldState) (p d n : ℕ) (v : Verified) → frames_of x p ≡ frames_of w p → x.authority ≡ w.authority → stack_of x.state p ≡ stack_of w.state p
    → is_current x p d n v ≡ true → is_current w p d n v ≡ true
current_so w x p d n v frames authority stack now =
    subst (λ (f : FrameNumbers). is_for n w.authority (frames_used d (stack_of w.state p)) (number_at (frames_used d (stack_of w.state p)) f.numbers) v ≡ true) frames
    (subst (λ (a : ℕ). is_for n a (frames_used d (stack_of w.state p)) (number_at (frames_used d (stack_of w.state p)) (frames_of x p).numbers) v ≡ true) authority
    (subst (λ (os : List ObjNum). is_for n x.authority (frames_used d os) (number_at (frames_used d os) (frames_of x p).numbers) v ≡ true) stack now))

-- a place that was right is right in the next world
place_kept : (w : WorldState) (t : State) (a p : ℕ) (v : Verified) → AreGiven w → IsFollowed w t.held a → is_live w.state p ≡ true → process_entry t p ≡ process_entry w.state p
    → v.object.0 < w.state.held.next → IsRight w p v → IsRight (record w { state = t; authority = a }) p v
place_kept w t a p v given (inr rose) live entry low right = record {
  authority = not_less w.authority a (inr rose) v.authority given.authority right.authority;
  frame = right.frame;
  rights = λ d now there.
      let parts = now_parts (record w { state = t; authority = a }) p d v.object.0 v now in
      absurd (outdated w.authority a v.authority rose parts.counts parts.authority right.authority);
}
place_kept w t a p v given (inl (stays, leaves)) live entry low right = record {
  authority = not_less w.authority a (inl stays) v.authority given.authority right.authority;
  frame = right.frame;
  rights = λ d now there.
      let x : WorldState = record w { state = t; authority = a } in
      let stack = stack_so w.state t p entry in
      let before = current_so w x p d v.object.0 v refl stays stack now in
      let was : is_there w.state.held v.object.0 ≡ true = sym (there_same (object w.state.held v.object.0) (object t.held v.object.0) (leaves.objects v.object.0 low there)) ∙ there in
      let same = rights_left w.state t p d v.object.0 leaves live (user_so w.state t p entry) (ap (in_use d) stack)
      (used_all (λ (f : ObjNum). f.0 < w.state.held.next) (frames_used d (stack_of w.state p)) (stack_of w.state p) (given.programs p live)) low there in
      right.rights d before was ∙ sym same;
}

place_kept_in : (w : WorldState) (t : State) (a p : ℕ) (v : Option Verified) → AreGiven w → IsFollowed w t.held a → is_live w.state p ≡ true → process_entry t p ≡ process_entry w.state p
    → ((x : Verified) → v ≡ Some x → x.object.0 < w.state.held.next) → IsRightIn w p v → IsRightIn (record w { state = t; authority = a }) p v
place_kept_in w t a p None given followed live entry low right = tt
place_kept_in w t a p (Some v) given followed live entry low right = place_kept w t a p v given followed live entry (low v refl) right

pub kept : (w : WorldState) (t : State) (a : ℕ) → ArePlacesRight w → AreGiven w → IsFollowed w t.held a → KeepsEntries w.state t → length t.processes ≡ length w.state.processes
    → ArePlacesRight (record w { state = t; authority = a })
kept w t a right given followed stand count = record {
  places = right.places ∙ sym count;
  frames = right.frames ∙ sym count;
  numbers = λ p live.
      let entry = stand p live in
      let stack = stack_so w.state t p entry in
      let old = right.numbers p (live_before w.state t p entry live) in
      record {
        some = rw stack old.some;
        each = rw stack old.each;
        given = old.given;
        apart = λ j k one two low high same other. old.apart j k one two (rw (← stack) low) (rw (← stack) high) same other;
      };
  rights = λ p live.
      let entry = stand p live in
      let was = live_before w.state t p entry live in
      place_kept_in w t a p (place_of w p) given followed was entry (given.found p) (right.rights p was);
}

-- the numbers that are named were given
pub given_kept : (w : WorldState) (t : State) (a : ℕ) → AreGiven w → a ≤ last_count → AreOwned t.held → w.state.held.next ≤ t.held.next → KeepsEntries w.state t
    → AreGiven (record w { state = t; authority = a })
given_kept w t a given count owned next stand = record {
  authority = count;
  frames = given.frames;
  objects = owned;
  users = λ p live.
      let entry = stand p live in
      rw (user_so w.state t p entry) (omega (arith, given.users p (live_before w.state t p entry live), next));
  programs = λ p live.
      let entry = stand p live in
      rw (stack_so w.state t p entry) (All-weaker (λ (f : ObjNum). f.0 < w.state.held.next) (λ (f : ObjNum). f.0 < t.held.next) (λ f low. omega (arith, low, next)) _ (given.programs p (live_before w.state t p entry live)));
  found = λ p v e. omega (arith, given.found p v e, next);
}
