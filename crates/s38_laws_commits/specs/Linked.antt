-- How data spaces, ports and journal spaces are linked.
use Rattle.std.specs.Prelude.{◌≡◌, ◌<◌, ℕ, true, All, List, Some, map}
use Rattle.s38_durable_state.specs.Following.{NumbersRise, object_number}
use Rattle.s38_rules.specs.state.Held.{Held, is_on_disk}
use Rattle.s38_rules.specs.state.Journaling.{data_port, journal_for}
use Rattle.s38_rules.specs.families.Ports.{port_journal}

-- each number was given: it is below the next one
abbrev pub AreGiven : ℕ → List ℕ → Type 0
AreGiven next ns = All (λ n. n < next) ns

pub record AreLinked (h : Held) : Type 0 where
  -- numbers rise, and each was given
  pub rising : NumbersRise h
  pub given : AreGiven h.next (map object_number h.objects)
  -- so was that of the port that a data space names, and that of the journal space that the port names
  pub port : (n : ℕ) → data_port h n < h.next
  pub journal : (n : ℕ) → port_journal h (data_port h n) < h.next
  -- a data space that is journaled is on disk, and so are its port and its journal space
  pub disk : (n journal : ℕ) → journal_for h n ≡ Some journal → is_on_disk h n ≡ true
  pub port_disk : (n journal : ℕ) → journal_for h n ≡ Some journal → is_on_disk h (data_port h n) ≡ true
  pub journal_disk : (n journal : ℕ) → journal_for h n ≡ Some journal → is_on_disk h journal ≡ true
