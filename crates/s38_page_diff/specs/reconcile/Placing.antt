-- Changes that wait to be put together.
use Rattle.std.specs.Prelude.{◌≡◌, ◌≤◌, ◌⊎◌, ◌+◌, ◌++◌, ℕ, List, [], length}
use Rattle.std.specs.FinMap.{len}
use Rattle.s38_base.specs.declared.page.Change.{Change}
use Rattle.s38_vault.specs.Content.{Content, changed}
use Rattle.s38_vault.specs.Directory.{keys_of}
use Rattle.s38_vault.specs.Vaults.{VaultView}

-- The keys of a vault are those of what it holds, and with the free parts they are all parts.
pub record IsCounted {V : Type 0} (view : V → VaultView) (holds : V → Content → Type 0) (vault : V) : Type 0 where
  pub keys : (m : Content) → holds vault m → (view vault).keys ≡ keys_of m
  pub sum : (view vault).free + len (view vault).keys ≡ (view vault).shape.parts

-- Of the changes that waited the first ones were put, and the others wait. None was put, and one put takes them; or those
-- before the mark were put.
pub record IsPlaced {V : Type 0} (holds : V → Content → Type 0) (old now : V) (most mark : ℕ) (before after : List Change) : Type 0 where
  pub front : List Change
  pub parted : before ≡ front ++ after
  pub made : (m : Content) → holds old m → holds now (changed m front)
  pub told : (n : Content) → holds now n → (m : Content) × (holds old m × (n ≡ changed m front))
  pub place : ((front ≡ []) × (length after ≤ most)) ⊎ (length front ≡ mark)
