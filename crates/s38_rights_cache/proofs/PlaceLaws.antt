-- A current place has what would be found now, and a place with what was found now is right.
use Rattle.std.proofs.Common.{◌≡◌, ◌≢◌, ◌<◌, ℕ, zero, suc, ◌-◌, ◌==◌, ◌&&◌, ◌||◌, Bool, true, false, not, List, length, refl, sym, ap, ◌∙◌, subst, arith}
use Rattle.std.proofs.lemmas.Bool.Decides.{nat_tests}
use Rattle.std.proofs.lemmas.Bool.{and_parts}
use Rattle.std.proofs.lemmas.List.{length-set}
use Rattle.std.specs.Prelude.{Option, Some, None, slice_get, slice_set, if◌then◌else◌}
use Rattle.s38_base.specs.declared.id.ObjNum.{ObjNum}
use Rattle.s38_rules.specs.state.Held.{is_there}
use Rattle.s38_rules.specs.ask.Authority.{available}
use Rattle.s38_rules.specs.state.Invocations.{frames_used, stack_in, stack_of}
use Rattle.s38_rules.specs.state.State.{State, started_in}
use Rattle.s38_rules.specs.ask.Users.{acting}
use Rattle.s38_rules.specs.declared.process.ProcessEntry.{ProcessEntry}
use Rattle.s38_rights_cache.specs.declared.found.Verified.{Verified}
use Rattle.s38_rights_cache.specs.declared.found.Visits.{Visits}
use Rattle.s38_rights_cache.specs.Numbers.{frames_in, last_count, number_at}
use Rattle.s38_rights_cache.specs.Places.{ArePlacesRight, AreVisited, IsChecked, IsRight, IsRightIn, RisesBy, found_now, is_current, is_current_in, is_for, is_live, is_live_in, is_of_now, is_told_apart, rights_anew, with_found}
use Rattle.s38_rights_cache.specs.Worlds.{WorldState, frame_of, frames_of, place_in, place_of}
use Rattle.s38_rights_cache.proofs.ListLaws.{by_place, get_set_other, get_set_same, get_within, set_there}

-- what it is to be current, part by part
pub record IsNow (w : WorldState) (p d n : ℕ) (v : Verified) : Type 0 where
  pub object : v.object.0 ≡ n
  pub authority : v.authority ≡ w.authority
  pub counts : w.authority ≢ last_count
  pub frame : v.frame ≡ frame_of w p d
  pub numbers : v.frame ≢ last_count
  pub apart : (not (frame_of w p d == 0) || (frames_used d (stack_of w.state p) == 1)) ≡ true

nat_same : (a b : ℕ) → (a == b) ≡ true → a ≡ b
nat_same a b h = grind (arith, nat_tests)

nat_other : (a b : ℕ) → not (a == b) ≡ true → a ≢ b
nat_other a b h e = grind (arith, nat_tests)

pub now_parts : (w : WorldState) (p d n : ℕ) (v : Verified) → is_current w p d n v ≡ true → IsNow w p d n v
now_parts w p d n v h =
    let used = frames_used d (stack_of w.state p) in
    let one = and_parts (v.object.0 == n) (is_of_now w.authority used (frame_of w p d) v) h in
    let two = and_parts (v.authority == w.authority) (not (w.authority == last_count) && ((v.frame == frame_of w p d) && is_told_apart used (frame_of w p d))) one.1 in
    let three = and_parts (not (w.authority == last_count)) ((v.frame == frame_of w p d) && is_told_apart used (frame_of w p d)) two.1 in
    let four = and_parts (v.frame == frame_of w p d) (is_told_apart used (frame_of w p d)) three.1 in
    let five = and_parts (not (frame_of w p d == last_count)) (not (frame_of w p d == 0) || (used == 1)) four.1 in
    let frame = nat_same (v.frame) (frame_of w p d) four.0 in
    record {
      object = nat_same v.object.0 n one.0;
      authority = nat_same v.authority w.authority two.0;
      counts = nat_other w.authority last_count three.0;
      frame = frame;
      numbers = λ e. nat_other (frame_of w p d) last_count five.0 (sym frame ∙ e);
      apart = five.1;
    }

-- the frame of a current place has a number that some frame has
pub some_frame : (w : WorldState) (p d n : ℕ) (v : Verified) → IsNow w p d n v → 0 < frames_used d (stack_of w.state p)
some_frame w p d n v now = by (frames_used d (stack_of w.state p)) now.apart
  where
    by : (used : ℕ) → (not (number_at used (frames_of w p).numbers == 0) || (used == 1)) ≡ true → 0 < used
    by zero apart = cc
    by (suc used) apart = omega arith

-- ---- a current place

-- it has what would be found now
pub current_found : (w : WorldState) (p d : ℕ) (o : ObjNum) (v : Verified) → ArePlacesRight w → is_live w.state p ≡ true → is_there w.state.held o.0 ≡ true
    → place_of w p ≡ Some v → is_current w p d o.0 v ≡ true → v ≡ found_now w p d o
current_found w p d o v right live there is now =
    let parts = now_parts w p d o.0 v now in
    let own : IsRight w p v = subst (IsRightIn w p) is (right.rights p live) in
    let same : v.object ≡ o = ap (λ (n : ℕ). record { 0 = n }) parts.object in
    let rights : v.rights.0 ≡ rights_anew w.state p d v.object.0 =
    own.rights d (subst (λ (n : ℕ). is_current w p d n v ≡ true) (sym parts.object) now) (subst (λ (n : ℕ). is_there w.state.held n ≡ true) (sym parts.object) there) in
    rw (← same, ← parts.authority, ← parts.frame, ← rights) refl

-- ---- a place with what was found now

acting_used : (s : State) (p c d : ℕ) → frames_used c (stack_of s p) ≡ frames_used d (stack_of s p) → acting s p c ≡ acting s p d
unfolding acting
acting_used s p c d same = rw same refl

-- it is right at each depth at which it is current
found_right : (w : WorldState) (p d : ℕ) (o : ObjNum) → ArePlacesRight w → is_live w.state p ≡ true → 0 < d → IsRight w p (found_now w p d o)
found_right w p d o right live some =
    let frames = right.numbers p live in
    record {
      authority = omega arith;
      frame = frames.given (frames_used d (stack_of w.state p));
      rights = λ c now there.
          let parts = now_parts w p c o.0 (found_now w p d o) now in
          let some_used = some_frame w p c o.0 (found_now w p d o) parts in
          let here : 0 < frames_used d (stack_of w.state p) = omega (arith, frames.some, some) in
          let one : frames_used d (stack_of w.state p) ≡ frames_used c (stack_of w.state p) =
          frames.apart (frames_used d (stack_of w.state p)) (frames_used c (stack_of w.state p)) here some_used (omega arith) (omega arith) parts.frame parts.numbers in
          rw (acting_used w.state p c d (sym one)) refl;
    }

-- ---- other places, and one process by two numbers

acting_at : (s : State) (p q d : ℕ) → q - 1 ≡ p - 1 → acting s q d ≡ acting s p d
unfolding acting
acting_at s p q d same = rw same refl

pub live_within : (xs : List ProcessEntry) (k : ℕ) → is_live_in (slice_get xs k) ≡ true → k < length xs
live_within xs k live = by (slice_get xs k) refl live
  where
    by : (x : Option ProcessEntry) → slice_get xs k ≡ x → is_live_in x ≡ true → k < length xs
    by None e live = cc
    by (Some x) e live = get_within xs k x e

-- a process that lives has a place
pub live_place : (w : WorldState) (p : ℕ) → is_live w.state p ≡ true → length w.places ≡ length w.state.processes → p - 1 < length w.places
live_place w p live as_many = omega (arith, live_within w.state.processes (p - 1) live, as_many)

-- rights do not depend on other places, and a process is told by its place
moved_right : (w : WorldState) (places : List (Option Verified)) (visits : Visits) (p q : ℕ) (v : Verified) → q - 1 ≡ p - 1 → IsRight w p v
    → IsRight (record w { places = places; visits = visits }) q v
moved_right w places visits p q v same right = record {
  authority = right.authority;
  frame = rw same right.frame;
  rights = λ d now there. right.rights d (subst (λ (k : ℕ). is_for v.object.0 w.authority (frames_used d (stack_in (started_in (slice_get w.state.processes k)))) (number_at (frames_used d (stack_in (started_in (slice_get w.state.processes k)))) (frames_in (slice_get w.frames k)).numbers) v ≡ true) same now) there
      ∙ ap (λ (users : List ℕ). available w.state.held users v.object.0 0) (sym (acting_at w.state p q d same));
}

moved_right_in : (w : WorldState) (places : List (Option Verified)) (visits : Visits) (p : ℕ) (v : Option Verified) → IsRightIn w p v
    → IsRightIn (record w { places = places; visits = visits }) p v
moved_right_in w places visits p None right = tt
moved_right_in w places visits p (Some v) right = moved_right w places visits p p v refl right

pub found_keeps : (w : WorldState) (p d : ℕ) (o : ObjNum) (visits : Visits) → ArePlacesRight w → is_live w.state p ≡ true → 0 < d
    → ArePlacesRight (record (with_found w p d o) { visits = visits })
found_keeps w p d o visits right live some =
    let found : Verified = found_now w p d o in
    let new : List (Option Verified) = slice_set w.places (p - 1) (Some found) in
    let low : p - 1 < length w.places = omega (arith, live_within w.state.processes (p - 1) live, right.places) in
    record {
      places = length-set w.places (p - 1) (Some found) ∙ right.places;
      frames = right.frames;
      numbers = λ q alive. let frames = right.numbers q alive in record { some = frames.some; each = frames.each; given = frames.given; apart = frames.apart };
      rights = λ q alive. by_place (IsRightIn (record w { places = new; visits = visits }) q (place_in (slice_get new (q - 1)))) (q - 1) (p - 1)
          (λ same.
          let read : slice_get new (q - 1) ≡ Some (Some found) = ap (λ (k : ℕ). slice_get new k) same ∙ get_set_same w.places (p - 1) (Some found) low in
          subst (λ (x : Option (Option Verified)). IsRightIn (record w { places = new; visits = visits }) q (place_in x)) (sym read)
          (moved_right w new visits p q found same (found_right w p d o right live some)))
          (λ other. subst (λ (x : Option (Option Verified)). IsRightIn (record w { places = new; visits = visits }) q (place_in x)) (sym (get_set_other w.places (p - 1) (q - 1) (Some found) other))
          (moved_right_in w new visits q (place_of w q) (right.rights q alive)));
    }

-- what is found now in the place already changes nothing
pub found_there : (w : WorldState) (p d : ℕ) (o : ObjNum) → place_of w p ≡ Some (found_now w p d o) → with_found w p d o ≡ w
found_there w p d o is = ap (λ (places : List (Option Verified)). record w { places = places }) (set_there w.places (p - 1) (Some (found_now w p d o)) (in_place (slice_get w.places (p - 1)) is))
  where
    in_place : (x : Option (Option Verified)) → place_in x ≡ Some (found_now w p d o) → x ≡ Some (Some (found_now w p d o))
    in_place None e = cc
    in_place (Some place) e = ap Some e

-- ---- how many rows are visited

-- someone acts
acting_some : (s : State) (p d : ℕ) → 0 < length (acting s p d)
unfolding acting
acting_some s p d = omega arith

rises_some : (before : Visits) (n : ℕ) (after : Visits) → 0 < n → AreVisited before n after → RisesBy before n after
rises_some before zero after some visits = absurd (omega (arith, some))
rises_some before (suc n) after some visits = visits

-- rights that the rows say are kept
pub checked_anew : (w t : WorldState) (p d : ℕ) (o : ObjNum) → ArePlacesRight w → is_live w.state p ≡ true → 0 < d → is_current_in w p d o.0 (place_of w p) ≡ false
    → t ≡ record (with_found w p d o) { visits = t.visits } → AreVisited w.visits (length (acting w.state p d)) t.visits → IsChecked w p d o t
checked_anew w t p d o right live some old place visits = record {
  place = place;
  visits = subst (λ (b : Bool). RisesBy w.visits (if b then 0 else length (acting w.state p d)) t.visits) (sym old)
      (rises_some w.visits (length (acting w.state p d)) t.visits (acting_some w.state p d) visits);
  right = subst ArePlacesRight (sym place) (found_keeps w p d o t.visits right live some);
}
