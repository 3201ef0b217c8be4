-- Which processes a seat has.
use Rattle.std.specs.Prelude.{◌≡◌, ℕ, ◌≤◌, true, List}
use Rattle.s38_turn.specs.declared.view.ProcessList.{ProcessList}
use Rattle.s38_turn.specs.Lists.{has}

-- it has those between two numbers
abbrev pub HasThese : ℕ → ℕ → List ProcessList → Type 0
HasThese first last ls = (p : ℕ) → first ≤ p → p ≤ last → has p ls ≡ true

-- it has those that it had
abbrev pub HasStill : List ProcessList → List ProcessList → Type 0
HasStill old new = (p : ℕ) → has p old ≡ true → has p new ≡ true
