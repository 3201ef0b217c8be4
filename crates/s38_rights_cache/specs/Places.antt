-- When what a place holds is of now, and that it is then what the rule finds from scratch.
use Rattle.std.specs.Prelude.{◌≡◌, ◌≢◌, ◌<◌, ◌≤◌, ℕ, zero, suc, ◌+◌, ◌-◌, ◌==◌, Bool, true, false, ◌&&◌, ◌||◌, not, All, List, [], ◌∷◌, length, Option, Some, None, is_some, min, slice_set, if◌then◌else◌}
use Rattle.s38_base.specs.Faults.{counted}
use Rattle.s38_base.specs.declared.id.ObjNum.{ObjNum}
use Rattle.s38_base.specs.RightNames as rights
use Rattle.s38_profiles.specs.ProfileMaps.{ProfileMaps}
use Rattle.s38_rules.specs.declared.object.Object.{Object}
use Rattle.s38_rules.specs.declared.process.ProcessEntry.{ProcessEntry}
use Rattle.s38_rules.specs.ask.Authority.{available}
use Rattle.s38_rules.specs.state.Held.{Held, is_there, object}
use Rattle.s38_rules.specs.state.Invocations.{frames_used, stack_of}
use Rattle.s38_rules.specs.state.State.{State, process_entry}
use Rattle.s38_rules.specs.ask.Users.{acting, user_of}
use Rattle.s38_rights_cache.specs.declared.found.Verified.{Verified}
use Rattle.s38_rights_cache.specs.declared.found.Visits.{Visits}
use Rattle.s38_rights_cache.specs.Numbers.{last_count, number_at}
use Rattle.s38_rights_cache.specs.Worlds.{WorldState, frame_of, frames_of, place_of}

-- ---- what is found from scratch

-- the rights of a process at a depth on an object, without those that a pointer carries
abbrev pub rights_anew : State → ℕ → ℕ → ℕ → ℕ
rights_anew s process depth n = available s.held (acting s process depth) n rights.no_rights

-- so many more visits of rows
abbrev pub visited : ℕ → ProfileMaps → ProfileMaps
visited zero maps = maps
visited (suc n) maps = visited n (record maps { visits = counted maps.visits })

-- so many more rows were visited; where the count of the profiles has come to its end, that is not seen from then on
pub record AreVisited (before : Visits) (n : ℕ) (after : Visits) : Type 0 where
  pub count : after.spent ≡ false → after.count ≡ min (before.count + n) last_count
  pub spent : before.spent ≡ true → after.spent ≡ true

-- the same, where no row may be visited
abbrev pub RisesBy : Visits → ℕ → Visits → Type 0
RisesBy before zero after = after ≡ before
RisesBy before (suc n) after = AreVisited before (suc n) after

-- ---- what is of now

-- a frame has this number, and another one has not: the count of numbers has not come to its end, and 0 is the number of
-- the first frame while it alone is in use
abbrev pub is_told_apart : ℕ → ℕ → Bool
is_told_apart used frame = not (frame == last_count) && (not (frame == 0) || (used == 1))

-- it was found at this count of authority changes and in this frame
abbrev pub is_of_now : ℕ → ℕ → ℕ → Verified → Bool
is_of_now authority used frame v =
    (v.authority == authority) && (not (authority == last_count) && ((v.frame == frame) && is_told_apart used frame))

-- it was found for this object too
abbrev pub is_for : ℕ → ℕ → ℕ → ℕ → Verified → Bool
is_for n authority used frame v = (v.object.0 == n) && is_of_now authority used frame v

-- what was found is used again for an object at a depth
abbrev pub is_current : WorldState → ℕ → ℕ → ℕ → Verified → Bool
is_current w process depth n v =
    is_for n w.authority (frames_used depth (stack_of w.state process)) (frame_of w process depth) v

abbrev pub is_current_in : WorldState → ℕ → ℕ → ℕ → Option Verified → Bool
is_current_in w process depth n None = false
is_current_in w process depth n (Some v) = is_current w process depth n v

-- ---- what is right

-- a process has started, and has not ended
abbrev pub is_live_in : Option ProcessEntry → Bool
is_live_in None = false
is_live_in (Some x) = is_some x.started && not x.ended

abbrev pub is_live : State → ℕ → Bool
is_live s process = is_live_in (process_entry s process)

-- what was found is what would be found now, wherever it is used again
pub record IsRight (w : WorldState) (process : ℕ) (v : Verified) : Type 0 where
  -- its counts are not from later
  pub authority : v.authority ≤ w.authority
  pub frame : v.frame ≤ (frames_of w process).last
  pub rights : (depth : ℕ) → is_current w process depth v.object.0 v ≡ true → is_there w.state.held v.object.0 ≡ true
      → v.rights.0 ≡ rights_anew w.state process depth v.object.0

abbrev pub IsRightIn : WorldState → ℕ → Option Verified → Type 0
IsRightIn w process None = Unit {0}
IsRightIn w process (Some v) = IsRight w process v

-- each frame of a process has a number that was given, and no two have one number while the count goes on
pub record AreNumbered (w : WorldState) (process : ℕ) : Type 0 where
  pub some : 0 < length (stack_of w.state process)
  pub each : length (frames_of w process).numbers ≡ length (stack_of w.state process)
  pub given : (k : ℕ) → number_at k (frames_of w process).numbers ≤ (frames_of w process).last
  pub apart : (j k : ℕ) → 0 < j → 0 < k → j ≤ length (stack_of w.state process) → k ≤ length (stack_of w.state process)
      → number_at j (frames_of w process).numbers ≡ number_at k (frames_of w process).numbers
      → number_at j (frames_of w process).numbers ≢ last_count → j ≡ k

-- the places of all processes that live, and their frames
pub record ArePlacesRight (w : WorldState) : Type 0 where
  -- each process has a place
  pub places : length w.places ≡ length w.state.processes
  pub frames : length w.frames ≡ length w.state.processes
  pub numbers : (process : ℕ) → is_live w.state process ≡ true → AreNumbered w process
  pub rights : (process : ℕ) → is_live w.state process ≡ true → IsRightIn w process (place_of w process)

-- each object has a number that was given, and its owner too
pub record AreOwned (h : Held) : Type 0 where
  pub numbers : (n : ℕ) → is_there h n ≡ true → n < h.next
  pub owners : (n : ℕ) (o : Object) → object h n ≡ Some o → o.owner.0 < h.next

-- numbers that processes and places name were given, so that no new object gets one
pub record AreGiven (w : WorldState) : Type 0 where
  -- counts do not go beyond their end
  pub authority : w.authority ≤ last_count
  pub frames : (process : ℕ) → (frames_of w process).last ≤ last_count
  pub objects : AreOwned w.state.held
  pub users : (process : ℕ) → is_live w.state process ≡ true → user_of w.state process < w.state.held.next
  pub programs : (process : ℕ) → is_live w.state process ≡ true → All (λ (f : ObjNum). f.0 < w.state.held.next) (stack_of w.state process)
  pub found : (process : ℕ) (v : Verified) → place_of w process ≡ Some v → v.object.0 < w.state.held.next

-- what a machine's world keeps to
pub record IsSteady (w : WorldState) : Type 0 where
  pub right : ArePlacesRight w
  pub given : AreGiven w

-- no process has started that has not ended
abbrev pub NobodyLives : State → Type 0
NobodyLives s = (process : ℕ) → is_live s process ≡ false

-- ---- after a check

-- what was found in a world at a depth
abbrev pub found_now : WorldState → ℕ → ℕ → ObjNum → Verified
found_now w process depth object = record {
  object = object;
  rights = record { 0 = rights_anew w.state process depth object.0 };
  authority = w.authority;
  frame = frame_of w process depth;
}

-- a process's place has what was found, and all else stays
abbrev pub with_found : WorldState → ℕ → ℕ → ObjNum → WorldState
with_found w process depth object = record w { places = slice_set w.places (process - 1) (Some (found_now w process depth object)) }

-- how many rows a check of an object visits: none where the place is current, else one of each acting user
abbrev pub rows_of : WorldState → ℕ → ℕ → ℕ → ℕ
rows_of w process depth n = if is_current_in w process depth n (place_of w process) then 0 else length (acting w.state process depth)

-- after a check of an object
pub record IsChecked (w : WorldState) (process depth : ℕ) (object : ObjNum) (t : WorldState) : Type 0 where
  pub place : t ≡ record (with_found w process depth object) { visits = t.visits }
  pub visits : RisesBy w.visits (rows_of w process depth object.0) t.visits
  pub right : ArePlacesRight t

-- ---- after checks of objects, one after another

abbrev pub all_found : WorldState → ℕ → ℕ → List ObjNum → WorldState
all_found w process depth [] = w
all_found w process depth (object ∷ more) = all_found (with_found w process depth object) process depth more

-- how many rows they visit
abbrev pub rows_of_all : WorldState → ℕ → ℕ → List ObjNum → ℕ
rows_of_all w process depth [] = 0
rows_of_all w process depth (object ∷ more) = rows_of w process depth object.0 + rows_of_all (with_found w process depth object) process depth more

pub record AreChecked (w : WorldState) (process depth : ℕ) (objects : List ObjNum) (t : WorldState) : Type 0 where
  pub places : t ≡ record (all_found w process depth objects) { visits = t.visits }
  pub visits : RisesBy w.visits (rows_of_all w process depth objects) t.visits
  pub steady : IsSteady t
