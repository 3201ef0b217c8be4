-- How few bytes of a journal space are unforced, where a store keeps it.
use Rattle.std.specs.Prelude.{◌≡◌, ◌+◌, ◌*◌, ◌≤◌, ℕ, true}
use Rattle.s38_commits.specs.Units.{UnitMap}
use Rattle.s38_rules.specs.families.Changing.{most_units}
use Rattle.s38_rules.specs.store.Forcing.{most_unforced}
use Rattle.s38_rules.specs.state.Held.{Held, is_on_disk}
use Rattle.s38_rules.specs.state.Journaling.{open_units}
use Rattle.s38_rules.specs.state.PartsAt.{journal_at}

-- as many bytes as may stay unforced after a change, and the ends of as many units as may be open, which are heads
-- alone: a unit that is taken back forces nothing
abbrev pub most_trailing : ℕ
most_trailing = most_unforced + 41 * most_units

-- no more units are open in a journal space than may be; and of one on disk no more bytes are unforced, with the ends of its
-- open units
pub record AreLow (h : Held) (units : UnitMap) : Type 0 where
  pub opened : (n : ℕ) → open_units h units n ≤ most_units
  pub bytes : (n : ℕ) → is_on_disk h n ≡ true → (journal_at h n).unforced + 41 * open_units h units n ≤ most_trailing
