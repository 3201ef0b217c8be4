-- What contracts see of a vault beside what it holds, and why a put is refused.
use Rattle.std.specs.Prelude.{◌≡◌, ℕ, nat_lt, Option, Some, None, List, if◌then◌else◌}
use Rattle.s38_base.specs.Limits.{body_limit}
use Rattle.s38_base.specs.declared.page.Change.{Change}
use Rattle.s38_vault.specs.Directory.{Keys, new_keys}
use Rattle.s38_vault.specs.declared.fault.VaultFault.{VaultFault}
use Rattle.s38_vault.specs.declared.fault.VaultFault.TheVariants.{Full}

-- what no call changes: how many parts there are, how many changes a put takes and how many bytes a body has, at most,
-- and how often the vault had failed as it was made
pub record VaultShape : Type 0 where
  pub parts : ℕ
  pub most : ℕ
  pub body_limit : ℕ
  pub start : ℕ

-- which keys are there, how many parts are free, for how many changes memory is reserved, the moment, and how often
-- the vault has failed
pub record VaultView : Type 0 where
  pub keys : Keys
  pub free : ℕ
  pub spare : ℕ
  pub moment : ℕ
  pub faults : ℕ
  pub shape : VaultShape

-- how many changes a put takes at most, in the one format that there is
abbrev pub most_changes : ℕ
most_changes = 2286

-- the limits of that format
abbrev pub AreLimits : VaultShape → Type 0
AreLimits shape = (shape.most ≡ most_changes) × (shape.body_limit ≡ body_limit)

-- changes are refused where they bring more keys than there are free parts
abbrev pub refusal : VaultView → List Change → Option VaultFault
refusal vault changes =
    if nat_lt vault.free (new_keys vault.keys changes) then Some (Full (new_keys vault.keys changes) vault.free) else None
