-- What a vault holds: a finite map from keys to pages, and what changes make of it.
use Rattle.std.specs.Prelude.{◌≤◌, Option, Some, None, List, [], ◌∷◌}
use Rattle.std.specs.List.{AllByRecursion}
use Rattle.std.specs.FinMap.{FinMap, insert, remove}
use Rattle.s38_base.specs.declared.page.Change.{Change}
use Rattle.s38_base.specs.declared.page.Key.{Key}
use Rattle.s38_base.specs.declared.page.Page.{Page}
use Rattle.s38_vault.specs.Keys.{IsBefore, key_cmp}

abbrev pub Content : Type 0
Content = FinMap key_cmp Page

-- a key has this value, or is not there
abbrev pub with_value : {V : Type 0} → FinMap key_cmp V → Key → Option V → FinMap key_cmp V
with_value map key (Some value) = insert map key value
with_value map key None = remove map key

-- all changes are made
abbrev pub changed : Content → List Change → Content
changed content [] = content
changed content (change ∷ changes) = changed (with_value content change.key change.page) changes

-- each change is of a key above the one before
abbrev pub AreRising : List Change → Type 0
AreRising [] = Unit {0}
AreRising (change ∷ []) = Unit {0}
AreRising (change ∷ next ∷ changes) = IsBefore change.key next.key × AreRising (next ∷ changes)

-- no change is of object 0
abbrev pub HaveObjects : List Change → Type 0
HaveObjects changes = AllByRecursion (λ change. 1 ≤ change.key.object) changes
