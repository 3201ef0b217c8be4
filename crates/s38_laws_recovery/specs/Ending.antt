-- What is durable at the end of a run, while objects are ensured one after another.
use Rattle.std.specs.Prelude.{◌≡◌, ℕ, Bool, true, List, [], ◌∷◌, None, Option, Some, if◌then◌else◌}
use Rattle.std.specs.List.{flat_map}
use Rattle.s38_commits.specs.Units.{UnitMap}
use Rattle.s38_durable_state.specs.Durable.{Durable, kept, whole_stored}
use Rattle.s38_image.specs.declared.stored.Stored.{Stored}
use Rattle.s38_rules.specs.state.Held.{Held}
use Rattle.s38_rules.specs.state.Journaling.{journal_for}
use Rattle.s38_rules.specs.declared.object.Object.{Object}

abbrev pub kept_if_any : Option Stored → List Stored
kept_if_any None = []
kept_if_any (Some x) = x ∷ []

abbrev pub mixed_of : (ℕ → Bool) → UnitMap → Held → List Stored → Object → List Stored
mixed_of ensured units h old o = if ensured o.number.0 then whole_stored units h o ∷ [] else kept_if_any (kept old o.number.0)

-- the objects of some numbers were ensured: of these the current state is kept, and of the others what was kept before,
-- if it was
abbrev pub mixed : (ℕ → Bool) → UnitMap → Held → Durable → Durable
mixed ensured units h d = record { ceiling = h.ceiling; objects = flat_map (mixed_of ensured units h d.objects) h.objects }

-- with a data space its journal space is ensured
abbrev pub IsWithJournals : (ℕ → Bool) → Held → Type 0
IsWithJournals ensured h = (n journal : ℕ) → ensured n ≡ true → journal_for h n ≡ Some journal → ensured journal ≡ true
