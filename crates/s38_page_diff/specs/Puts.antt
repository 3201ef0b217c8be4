-- Changes that are made in several puts.
use Rattle.std.specs.Prelude.{◌≡◌, ◌*◌, ℕ, List, take}
use Rattle.s38_base.specs.declared.page.Change.{Change}
use Rattle.s38_vault.specs.Content.{Content, changed}

-- some puts were made of at most so many changes each, the first changes first
abbrev pub IsAfterPuts : ℕ → Content → List Change → Content → Type 0
IsAfterPuts most before changes now = (puts : ℕ) × (now ≡ changed before (take (puts * most) changes))
