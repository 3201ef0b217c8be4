-- The units of changes whose COMMIT entry lies after an image, as marks.
use Rattle.std.specs.Prelude.{◌≡◌, ℕ, Bool, false, List, get_or}
use Rattle.s38_journals.specs.Entries.{JournalRecord}
use Rattle.s38_restart.specs.Redo.{is_committed}

-- each unit is marked exactly if its COMMIT entry lies after the image
abbrev pub AreCommitted : ℕ → List JournalRecord → List Bool → Type 0
AreCommitted image es marks = (unit : ℕ) → get_or marks unit false ≡ is_committed image unit 1 es
