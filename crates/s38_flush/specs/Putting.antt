-- Changes that are put before others.
use Rattle.std.specs.Prelude.{◌≡◌, ◌⊎◌, ◌==◌, ◌||◌, ℕ, Bool, false, true, List, Option, None, Some, not}
use Rattle.std.specs.List.{AllByRecursion}
use Rattle.s38_base.specs.declared.page.Change.{Change}
use Rattle.s38_base.specs.declared.page.Key.{Key}
use Rattle.s38_page_diff.specs.Puts.{IsAfterPuts}
use Rattle.s38_rules.specs.state.Held.{Held, object}
use Rattle.s38_rules.specs.declared.object.Object.{Object}
use Rattle.s38_vault.specs.Content.{AreRising, Content, changed}
use Rattle.s38_flush.specs.Stepping.{IsNumber}

-- some puts were made of at most so many changes each: those of the ceiling, then the first of the others, and then the later ones
abbrev pub IsBetweenPuts : ℕ → Content → List Change → List Change → List Change → Content → Type 0
IsBetweenPuts most before ceiling first later now =
    IsAfterPuts most before ceiling now ⊎ (IsAfterPuts most (changed before ceiling) first now ⊎ IsAfterPuts most (changed (changed before ceiling) first) later now)

-- ---- the first and the later ones

abbrev pub is_on_disk_in : Option Object → Bool
is_on_disk_in None = false
is_on_disk_in (Some o) = o.on_disk

-- the key of a header, or of an object that is there and on disk
abbrev pub belongs_to : Held → Key → Bool
belongs_to h key = (key.part == 0) || is_on_disk_in (object h key.object)

-- so is the key of a change
abbrev pub is_of_one : Held → Change → Bool
is_of_one h c = belongs_to h c.key

abbrev pub is_of_none : Held → Change → Bool
is_of_none h c = not (belongs_to h c.key)

-- changes in two turns: each is of rising keys of objects, and a test of keys tells the first from the later
pub record AreTurns (first later : List Change) : Type 0 where
  pub first_rising : AreRising first
  pub later_rising : AreRising later
  pub first_objects : AllByRecursion (λ c. IsNumber c.key.object) first
  pub later_objects : AllByRecursion (λ c. IsNumber c.key.object) later
  pub test : Key → Bool
  pub passes : AllByRecursion (λ c. test c.key ≡ true) first
  pub fails : AllByRecursion (λ c. test c.key ≡ false) later
