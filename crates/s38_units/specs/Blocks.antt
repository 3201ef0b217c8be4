-- Where the unit of a commit block goes, by the number of the block alone.
use Rattle.std.specs.Prelude.{ℕ, Bool}
use Rattle.s38_rules.specs.state.Held.{Held}
use Rattle.s38_rules.specs.state.Journaling.{is_that_number, journal_for_block}

-- the unit of a block goes to a journal space
unfoldable pub leads_to : Held → ℕ → ℕ → Bool
leads_to h journal block = is_that_number journal (journal_for_block h block)
