-- The rule of the turn: one history, which each view knows in part, and tickets that are served in order.
use Rattle.std.specs.Prelude.{◌≡◌, ◌⊎◌, ℕ, ◌<◌, ◌≤◌, ◌==◌, Bool, true, false, List, [], ◌∷◌, Option, Some, None}
use mathlib.Core.Option.{some, none}
use mathlib.Core.Option as maybe
use lib.ListN.{get_elem?}
use Rattle.atomic_table.specs.Table.{State}
use Rattle.s38_turn.specs.declared.item.Item.{Item}
use Rattle.s38_turn.specs.declared.view.Place.{Place}
use Rattle.s38_turn.specs.declared.view.Place.TheVariants.{Idle, Waits, Acts}
use Rattle.s38_turn.specs.declared.view.View.{View}
use Rattle.s38_turn.specs.Items.{Begins, items_by}
use Rattle.s38_turn.specs.Lists.{has, lists_in}

-- whether a view has the turn
abbrev pub is_acting : Place → Bool
is_acting Idle = false
is_acting (Waits t) = false
is_acting (Acts t) = true

-- whether a view has that ticket
abbrev pub has_ticket : ℕ → Place → Bool
has_ticket n Idle = false
has_ticket n (Waits t) = t == n
has_ticket n (Acts t) = t == n

-- A ticket of a view is between the two words, and its own. Who has the turn has the ticket that is served, and has seen
-- the whole history.
module _ (drawer : ℕ → ℕ) (served next : ℕ) (log : List Item) (id : ℕ) (seen : List Item) where
  abbrev pub IsPlaced : Place → Type 0
  IsPlaced Idle = Unit {0}
  IsPlaced (Waits t) = (drawer t ≡ id) × (served ≤ t) × (t < next)
  IsPlaced (Acts t) = (drawer t ≡ id) × (t ≡ served) × (served < next) × (log ≡ seen)

-- a view that is spent has no ticket, no process, and has seen nothing
pub record IsSpent {M : Type 0} (v : View M) : Type 0 where
  pub first : v.first ≡ None
  pub place : v.place ≡ Idle
  pub seen : v.seen ≡ []
  pub lists : v.lists ≡ []

abbrev pub IsOneOf : ℕ → ℕ → Type 0
IsOneOf people p = (0 < p) × (p ≤ people)

-- one view of the history
pub record IsView {M : Type 0} (first_machine : M) (people : ℕ) (owner drawer : ℕ → ℕ) (served next : ℕ) (log : List Item) (id : ℕ) (v : View M) : Type 0 where
  -- a view that isn't spent has the machine that the turn was made with
  pub first : (v.first ≡ Some first_machine) ⊎ IsSpent v
  -- what it has seen is a beginning of the history
  pub seen : Begins v.seen log
  -- its processes are some of all, and are in no other view
  pub people_are : (p : ℕ) → has p v.lists ≡ true → IsOneOf people p
  pub owner_is : (p : ℕ) → has p v.lists ≡ true → owner p ≡ id
  -- its lists are those of the history
  pub own : lists_in log v.lists ≡ v.lists
  -- with a ticket it has a process
  pub busy : (v.place ≡ Idle) ⊎ ((p : ℕ) × (has p v.lists ≡ true))
  pub place : IsPlaced drawer served next log id v.seen v.place

-- the view of that number is so
abbrev pub IsThere : {M : Type 0} → List (View M) → ℕ → (View M → Type 0) → Type 0
IsThere {M} views id Is = (v : View M) × (get_elem? views id ≡ some v) × Is v

-- The machine is at home with the history, and no view has the turn. Good says what holds of it, and all gives its items.
abbrev pub IsHome : {M : Type 0} → (M → Type 0) → (M → List Item) → List Item → List (View M) → List (maybe.Option (Option M)) → Type 0
IsHome {M} good all log views homes = (m : M) × (homes ≡ some (Some m) ∷ []) × good m × (all m ≡ log)
    × ((id : ℕ) (v : View M) → get_elem? views id ≡ some v → is_acting v.place ≡ false)

-- the slot is out, and a view has the turn
abbrev pub IsAway : {M : Type 0} → List (View M) → List (maybe.Option (Option M)) → Type 0
IsAway views homes = (homes ≡ none ∷ []) × (id : ℕ) × IsThere views id (λ v. is_acting v.place ≡ true)

pub record IsKept {M : Type 0} (first_machine : M) (people : ℕ) (good : M → Type 0) (all : M → List Item) (s : State (Option M) (View M)) : Type 0 where
  -- the history
  pub log : List Item
  -- the next ticket, and the ticket that is served
  pub next : ℕ
  pub served : ℕ
  -- in which view each process is, and each ticket that is out
  pub owner : ℕ → ℕ
  pub drawer : ℕ → ℕ
  pub words : s.words ≡ next ∷ served ∷ []
  pub behind : served ≤ next
  pub each : (id : ℕ) (v : View M) → get_elem? s.views id ≡ some v → IsView first_machine people owner drawer served next log id v
  pub tickets : (t : ℕ) → served ≤ t → t < next → IsThere s.views (drawer t) (λ v. has_ticket t v.place ≡ true)
  pub processes : (p : ℕ) → IsOneOf people p → IsThere s.views (owner p) (λ v. has p v.lists ≡ true)
  -- nobody else has an item
  pub others : (p : ℕ) → (IsOneOf people p → ⊥) → items_by p log ≡ []
  pub slot : IsHome good all log s.views s.homes ⊎ IsAway s.views s.homes
