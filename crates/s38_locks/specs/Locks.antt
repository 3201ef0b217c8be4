-- The locks of one object, in order of process and state, each as often as it is held.
use Rattle.std.specs.Prelude.{◌≡◌, ℕ, ◌+◌, ◌*◌, ◌≤◌, ◌==◌, Bool, true, false, not, ◌&&◌, nat_lt, Option, Some, None, List, [], ◌∷◌, drop, filter, find, if◌then◌else◌, is_some, position}
use Rattle.std.specs.List.{AllByRecursion, position_or_len}
use Rattle.std.specs.List.Sorted.{IsNonDecreasingBy}
use Rattle.s38_base.specs.declared.words.Category.{Category}
use Rattle.s38_base.specs.declared.words.LockState.{LockState}
use Rattle.s38_locks.specs.States.{are_compatible, blocks, rank}

-- a lock of an object: the process that holds it, and its state
abbrev pub Lock : Type 0
Lock = ℕ × LockState

-- the place of a lock in the order of process and state
abbrev pub lock_place : Lock → ℕ
lock_place lock = 5 * lock.0 + rank lock.1

abbrev pub is_same : Lock → Lock → Bool
is_same lock other = lock_place other == lock_place lock

-- whether a lock of another process is incompatible with a state that a process asks for
abbrev pub hinders : ℕ → LockState → Lock → Bool
hinders process state lock = not (lock.0 == process) && not (are_compatible lock.1 state)

-- the least lock that is in the way of a state that a process asks for
abbrev pub hindrance : ℕ → LockState → List Lock → Option Lock
hindrance process state locks = find (hinders process state) locks

-- whether a lock of another process blocks such a use
abbrev pub is_blocker : ℕ → Category → Lock → Bool
is_blocker process category lock = not (lock.0 == process) && blocks lock.1 category

-- the least lock of another process that blocks such a use
abbrev pub blocker : ℕ → Category → List Lock → Option Lock
blocker process category locks = find (is_blocker process category) locks

abbrev pub is_held : Lock → List Lock → Bool
is_held lock locks = is_some (position (is_same lock) locks)

-- whether there is a lock at all
abbrev pub is_locked : List Lock → Bool
is_locked [] = false
is_locked (lock ∷ locks) = true

-- whether a lock comes later in the order of process and state
abbrev pub comes_later : Lock → Lock → Bool
comes_later lock other = nat_lt (lock_place lock) (lock_place other)

-- the locks that come later than one, where these are in order
abbrev pub later_than : Lock → List Lock → List Lock
later_than lock locks = drop (position_or_len (comes_later lock) locks) locks

-- whether there is a lock, and it is such a one
abbrev pub is_at : Lock → Option Lock → Bool
is_at lock None = false
is_at lock (Some other) = is_same lock other

-- one more lock, in its place
abbrev pub with_lock : Lock → List Lock → List Lock
with_lock lock [] = lock ∷ []
with_lock lock (other ∷ locks) = if comes_later lock other then lock ∷ other ∷ locks else other ∷ with_lock lock locks

-- one such lock less
abbrev pub without_lock : Lock → List Lock → List Lock
without_lock lock [] = []
without_lock lock (other ∷ locks) = if is_same lock other then locks else other ∷ without_lock lock locks

abbrev pub without_process : ℕ → List Lock → List Lock
without_process process locks = filter (λ lock. not (lock.0 == process)) locks

-- the locks are in order of process and state
abbrev pub IsInOrder : List Lock → Type 0
IsInOrder locks = IsNonDecreasingBy lock_place locks

-- two locks in their order, which two processes may hold at once
pub record GoesBefore (lock other : Lock) : Type 0 where
  pub ordered : lock_place lock ≤ lock_place other
  pub compatible : hinders lock.0 lock.1 other ≡ false

-- the locks are in their order, and no two of different processes are incompatible
abbrev pub IsOrderly : List Lock → Type 0
IsOrderly [] = Unit {0}
IsOrderly (lock ∷ locks) = AllByRecursion (GoesBefore lock) locks × IsOrderly locks

-- no lock that passes the test comes before this one
pub record IsLeast (test : Lock → Bool) (lock : Lock) (locks : List Lock) : Type 0 where
  pub least : AllByRecursion (λ other. test other ≡ true → lock_place lock ≤ lock_place other) locks
