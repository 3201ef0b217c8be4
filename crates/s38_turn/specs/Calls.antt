-- What a call of the turn says of the machine and of the seat.
use Rattle.std.specs.Prelude.{◌≡◌, ◌⊎◌, ℕ, ⊤, true, List, [], ◌∷◌, ◌++◌, Option, Some, Result, Ok, Err}
use Rattle.atomic_table.specs.Seated.{TableId}
use Rattle.atomic_table.specs.declared.shared.Seat as table
use Rattle.s38_code.specs.declared.event.Event.{Event}
use Rattle.s38_code.specs.declared.reply.Reply.{Reply}
use Rattle.s38_code.specs.declared.step.StepFault.{StepFault}
use Rattle.s38_turn.specs.declared.item.Item.{Item}
use Rattle.s38_turn.specs.declared.view.ProcessList.{ProcessList}
use Rattle.s38_turn.specs.declared.view.Place.{Place}
use Rattle.s38_turn.specs.declared.view.Place.TheVariants.{Idle}
use Rattle.s38_turn.specs.declared.view.View.{View}
use Rattle.s38_turn.specs.Items.{Begins, IsAdded, is_by, items_by}
use Rattle.s38_turn.specs.Lists.{lengthened, list_of, lists_in}
use Rattle.s38_turn.specs.Seats.{SeatView}

-- a machine is like another: it is sound, and has the same origin
abbrev pub IsLike : {M O : Type 0} → (M → Type 0) → (M → O) → M → M → Type 0
IsLike sound origin first m = sound m × (origin m ≡ origin first)

-- what the machine answered, by what the caller got: a reply that the listener heard, or a fault
abbrev pub IsTold : {L : Type 0} → (L → Reply → L → Type 0) → L → Result ⊤ StepFault → L → Result Reply StepFault → Type 0
IsTold hears old (Ok done) new answer = (reply : Reply) × (answer ≡ Ok reply) × hears old reply new
IsTold hears old (Err fault) new answer = (answer ≡ Err fault) × (new ≡ old)

-- the machine took one step of its own, and its answer was told
pub record Stepped {M O : Type 0} (sound : M → Type 0) (origin : M → O) (all : M → List Item) (steps : M → ℕ → Event → Result Reply StepFault → M → Type 0) (process : ℕ) (event : Event)
    (Told : Result Reply StepFault → Type 0) (before after : M) : Type 0 where
  pub answer : Result Reply StepFault
  pub told : Told answer
  pub sound_is : sound after
  pub origin_is : origin after ≡ origin before
  pub stepped : steps before process event answer after
  -- what is new of the history
  pub added : List Item
  pub is_added : IsAdded (all before) process event answer added
  pub now : all after ≡ all before ++ added

-- One call. The machine that was found had a history that goes on from what was seen, with just these items of the seat's
-- processes. It took one step of its own, and then this was seen.
pub record Called {M O : Type 0} (sound : M → Type 0) (origin : M → O) (all : M → List Item) (steps : M → ℕ → Event → Result Reply StepFault → M → Type 0) (first : M) (process : ℕ) (event : Event)
    (Told : Result Reply StepFault → Type 0) (old new : SeatView M) : Type 0 where
  pub before : M
  pub after : M
  pub like_first : IsLike sound origin first before
  pub more : Begins old.seen (all before)
  pub own : lists_in (all before) old.lists ≡ old.lists
  pub step : Stepped sound origin all steps process event Told before after
  pub seen : new.seen ≡ all after
  pub lists : new.lists ≡ lengthened process step.added old.lists

-- the machine that comes back: its history goes on from what was seen, and has of each process just the items of its list
pub record Ended {M : Type 0} (good : M → Type 0) (all : M → List Item) (seen : List Item) (lists : List ProcessList) (m : M) : Type 0 where
  pub good_is : good m
  pub more : Begins seen (all m)
  pub own : (p : ℕ) → items_by p (all m) ≡ list_of p lists

-- ---- the seat of the table

-- a machine is in the one slot
abbrev pub IsOneFull : {M : Type 0} → List (Option M) → Type 0
IsOneFull (Some m ∷ []) = Unit {0}
IsOneFull _ = ⊥

-- a table of the turn: two words and one slot
abbrev pub IsSized : TableId → Type 0
IsSized z = (z.words ≡ 2) × (z.slots ≡ 1)

-- the place of the seat, and which slots are out with it
abbrev pub IsAt : {M : Type 0} → TableId → M → Place → List (ℕ × Option M) → table.Seat (Option M) (View M) → Type 0
IsAt z first place hand s = (s.table_id ≡ z) × (s.me.0.first ≡ Some first) × (s.me.0.place ≡ place) × (s.me.1 ≡ hand)

-- a seat between two calls
abbrev pub IsIdle : {M : Type 0} → TableId → M → table.Seat (Option M) (View M) → Type 0
IsIdle z first s = IsAt z first Idle [] s

-- the same seat
abbrev pub IsSame : {M : Type 0} → table.Seat (Option M) (View M) → table.Seat (Option M) (View M) → Type 0
IsSame s t = (t.table_id ≡ s.table_id) × (t.id ≡ s.id)

-- it knows what it knew
abbrev pub Knows : {M : Type 0} → table.Seat (Option M) (View M) → table.Seat (Option M) (View M) → Type 0
Knows s t = (t.id ≡ s.id) × (t.me.0.lists ≡ s.me.0.lists) × (t.me.0.seen ≡ s.me.0.seen)

-- a history is as it was, or has one item more, of this process
abbrev pub Grew : ℕ → List Item → List Item → Type 0
Grew p old new = (new ≡ old) ⊎ ((x : Item) × (new ≡ old ++ x ∷ []) × (is_by p x ≡ true))

-- the machine in hand took a step, and is in hand again
pub record Acted {M O : Type 0} (sound : M → Type 0) (origin : M → O) (all : M → List Item) (steps : M → ℕ → Event → Result Reply StepFault → M → Type 0) (process : ℕ) (event : Event)
    (Told : Result Reply StepFault → Type 0) (s t : table.Seat (Option M) (View M)) : Type 0 where
  pub before : M
  pub after : M
  pub held : s.me.1 ≡ (0, Some before) ∷ []
  pub same : IsSame s t
  pub holds : t.me ≡ (s.me.0, (0, Some after) ∷ [])
  pub step : Stepped sound origin all steps process event Told before after
