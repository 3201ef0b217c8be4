-- What each step tells the view that takes it.
use Rattle.std.specs.Prelude.{◌≡◌, ℕ, ◌==◌, Bool, true, false, List, [], ◌∷◌, ◌++◌, Option, Some, None}
use Rattle.atomic_table.specs.Table.{Me, Step}
use Rattle.s38_turn.specs.declared.item.Item.{Item}
use Rattle.s38_turn.specs.declared.view.Place.{Place}
use Rattle.s38_turn.specs.declared.view.Place.TheVariants.{Idle, Waits, Acts}
use Rattle.s38_turn.specs.declared.view.View.{View}
use Rattle.s38_turn.specs.Items.{Begins}
use Rattle.s38_turn.specs.Lists.{empty_lists, lists_in, longer, only, without}

-- a view, and the slots that are out with its seat
abbrev pub Mine : Type 0 → Type 0
Mine M = Me (Option M) (View M)

-- the number served is the view's ticket
abbrev pub is_turn : ℕ → Place → Bool
is_turn n Idle = false
is_turn n (Waits t) = n == t
is_turn n (Acts t) = false

module _ {M : Type 0} where
  abbrev pub placed : Place → View M → View M
  placed place v = record v { place = place }

  -- with the turn, which shows the whole history
  abbrev pub acting : ℕ → List Item → View M → View M
  acting ticket all v = record v { place = Acts ticket; seen = all }

  -- idle again, with all of a history seen
  abbrev pub knowing : List Item → View M → View M
  knowing all v = record v { place = Idle; seen = all; lists = lists_in all v.lists }

  -- the machine is like the first, by what that means
  abbrev pub IsLikeFirst : (M → M → Type 0) → Option M → M → Type 0
  IsLikeFirst like None m = Unit {0}
  IsLikeFirst like (Some first) m = like first m

  abbrev pub DrewIf : Bool → ℕ → Mine M → Mine M → Type 0
  DrewIf true ticket old new = new ≡ (placed (Waits ticket) old.0, old.1)
  DrewIf false ticket old new = new ≡ old

  -- the ticket is drawn where the number found is the one expected
  abbrev pub Drew : Step (Option M) → Mine M → ℕ → Mine M → Type 0
  Drew s old found new = DrewIf (found == s.first) s.first old new

  -- the turn is taken: a machine, whose history goes on from what was seen, and has no more of the view's processes
  pub record Took (like : M → M → Type 0) (all : M → List Item) (ticket : ℕ) (old new : Mine M) : Type 0 where
    pub machine : M
    pub is : new ≡ (acting ticket (all machine) old.0, (0, Some machine) ∷ [])
    pub like_first : IsLikeFirst like old.0.first machine
    pub more : Begins old.0.seen (all machine)
    pub own : lists_in (all machine) old.0.lists ≡ old.0.lists

  abbrev pub LookedIf : (M → M → Type 0) → (M → List Item) → Bool → ℕ → Mine M → Mine M → Type 0
  LookedIf like all true found old new = Took like all found old new
  LookedIf like all false found old new = new ≡ old

  -- the turn is taken where the number served is the view's ticket
  abbrev pub Looked : (M → M → Type 0) → (M → List Item) → Step (Option M) → Mine M → ℕ → Mine M → Type 0
  Looked like all s old found new = LookedIf like all (is_turn found old.0.place) found old new

  -- the history of the machine in hand
  abbrev pub in_hand : (M → List Item) → List (ℕ × Option M) → List Item
  in_hand all [] = []
  in_hand all ((k, None) ∷ more) = []
  in_hand all ((k, Some m) ∷ more) = all m

  -- the turn is given on, with the machine
  abbrev pub Served : (M → List Item) → Step (Option M) → Mine M → ℕ → Mine M → Type 0
  Served all s old found new = new ≡ (knowing (in_hand all old.1) old.0, [])

  -- ---- split and join

  abbrev pub left_with : ℕ → View M → View M
  left_with p v = record v { lists = without p v.lists }

  abbrev pub parted : ℕ → View M → View M
  parted p v = record { first = v.first; place = Idle; seen = v.seen; lists = only p v.lists }

  abbrev pub united : View M → View M → View M
  united v w = record { first = v.first; place = Idle; seen = longer v.seen w.seen; lists = v.lists ++ w.lists }

  abbrev pub spent : View M
  spent = record { first = None; place = Idle; seen = []; lists = [] }

  -- the view of the first seat
  abbrev pub first_view : M → ℕ → View M
  first_view m people = record { first = Some m; place = Idle; seen = []; lists = empty_lists people }
