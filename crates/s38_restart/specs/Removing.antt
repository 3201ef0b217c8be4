-- Parts that are taken away.
use Rattle.std.specs.Prelude.{◌≡◌, None, List}
use Rattle.std.specs.List.{AllByRecursion}
use Rattle.s38_base.specs.declared.page.Change.{Change}

-- each change takes a part away
abbrev pub AreRemovals : List Change → Type 0
AreRemovals changes = AllByRecursion (λ change. change.page ≡ None) changes
