-- What is true of the objects, of the users of processes and of the locks in every state of a run.
use Rattle.std.specs.Prelude.{◌≡◌, ◌<◌, ◌≤◌, ℕ, false, All, IsTrue, List, [], ◌∷◌, Some, length}
use Rattle.std.specs.List.Sorted.{IsStrictlySortedBy}
use Rattle.std.specs.Map.{keys_of}
use Rattle.std.specs.Ordering.{nat_cmp}
use Rattle.s38_base.specs.Limits.{body_limit, most_rows}
use Rattle.s38_code.specs.declared.entry.Entry.{Entry}
use Rattle.s38_locks.specs.Locks.{IsOrderly, Lock, is_locked}
use Rattle.s38_objects.specs.Lawful.{IsObjectMap}
use Rattle.s38_laws_images.specs.openings.Bodies.{HoldsBody}
use Rattle.s38_laws_images.specs.openings.Fitting.{FitTogether, IsUser}
use Rattle.s38_laws_images.specs.openings.Opening.{IsNumbered}
use Rattle.s38_rules.specs.state.Held.{Held}
use Rattle.s38_rules.specs.state.State.{State}
use Rattle.s38_rules.specs.step.Step.{step}
use Rattle.s38_rules.specs.declared.process.ProcessEntry.{ProcessEntry}
use Rattle.s38_rules.specs.declared.process.Started.{Started}

-- the user of a process that has started and has not ended is there
abbrev pub HasUser : Held → ProcessEntry → Type 0
HasUser h x = (p : Started) → x.started ≡ Some p → x.ended ≡ false → IsUser h p.user.0

-- an object with locks: its number was given, they are not too many, and they are in order, so that no two of different
-- processes are incompatible
pub record AreLocks (next : ℕ) (e : ℕ × List Lock) : Type 0 where
  pub given : e.0 < next
  pub some : IsTrue (is_locked e.1)
  pub most : length e.1 ≤ most_rows
  pub orderly : IsOrderly e.1

pub record AreInOrder (s : State) : Type 0 where
  -- numbers rise and were given, and no two objects of a context that is there have one identification
  pub lawful : IsObjectMap s.held
  -- 0 is the number of no object
  pub numbered : All IsNumbered s.held.objects
  -- each object has an owner who is there, and lies in a context or in none
  pub fit : FitTogether s.held
  -- bodies keep to their limits, and the limit of a body stays what it is
  pub limit : s.limit ≡ body_limit
  pub bodies : All (HoldsBody s.limit) s.held.objects
  pub users : All (HasUser s.held) s.processes
  -- objects with locks rise by number
  pub rising : IsStrictlySortedBy nat_cmp (keys_of s.locks)
  pub locks : All (AreLocks s.held.next) s.locks
