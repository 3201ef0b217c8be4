-- A data space with every uncommitted change taken back.
use Rattle.std.specs.Prelude.{◌≡◌, ℕ, All, IsTrue, ◌==◌, if◌then◌else◌}
use Rattle.s38_commits.specs.Units.{UnitMap}
use Rattle.s38_commits.specs.declared.change.UnitChange.{UnitChange}
use Rattle.s38_dataspaces.specs.Table.{DataTable, may_restore}
use Rattle.s38_image.specs.DataSpaces.{DataParts}
use Rattle.s38_image.specs.Settled.{settled_entries}
use Rattle.s38_rules.specs.declared.data_body.DataBody.{DataBody}

-- what a change of this data space found may be put back
abbrev pub IsRestorable : ℕ → DataTable → UnitChange → Type 0
IsRestorable space t change = change.space.0 ≡ space → IsTrue (may_restore t change.at change.before)

-- all uncommitted changes of a data space may be taken back
abbrev pub AreRestorable : UnitMap → ℕ → DataTable → Type 0
AreRestorable units space t = All (λ e. All (IsRestorable space t) e.1.changes) units

-- the values of a data space, one after another, with the last entry of its journal space
abbrev pub settled_data : UnitMap → ℕ → ℕ → DataBody → DataParts
settled_data units number last d =
    (d.port.0, ((if d.port.0 == 0 then 0 else last), (d.space.fields, settled_entries units number 1 d.space.entries)))
