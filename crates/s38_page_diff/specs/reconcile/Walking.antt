-- How the numbers of a vault are gone through, one after another.
use Rattle.std.specs.Prelude.{◌≡◌, ◌↔◌, ℕ, ◌==◌, ◌≤◌, ◌<◌, ◌^◌, ◌++◌, true, false, List, Option, Some, None, if◌then◌else◌}
use Rattle.std.specs.FinMap.{contains_key, get}
use Rattle.std.specs.List.{AllByRecursion}
use Rattle.s38_base.specs.declared.page.Change.{Change}
use Rattle.s38_base.specs.declared.page.Key.{Key}
use Rattle.s38_base.specs.declared.page.Page.{Page}
use Rattle.s38_page_diff.specs.Differences.{HavePages, IsWanted, differences}
use Rattle.s38_page_diff.specs.reconcile.Replacing.{changes_to, last_part, range_of}
use Rattle.s38_vault.specs.Content.{AreRising, Content, HaveObjects}
use Rattle.s38_vault.specs.Directory.{Keys, is_after, keys_of}
use Rattle.s38_vault.specs.Vaults.{VaultView}

-- ---- keys

-- the last key of the numbers up to one, none of number 0
abbrev pub last_key : ℕ → Option Key
last_key n = if n == 0 then None else Some (record { object = n; part = last_part })

-- a key of a number from 1 on, and of a part of 32 bits
pub record IsKeyInRange (key : Key) : Type 0 where
  pub from : 1 ≤ key.object
  pub part : key.part < 2 ^ 32

-- a key of a number up to the last one, and of a part of 32 bits
pub record IsKnown (last : ℕ) (key : Key) : Type 0 where
  pub from : 1 ≤ key.object
  pub upto : key.object ≤ last
  pub part : key.part < 2 ^ 32

-- all keys up to the last one of a number are fine
abbrev pub AreFineTo : Keys → ℕ → Type 0
AreFineTo keys done = (key : Key) → contains_key keys key ≡ true → is_after (last_key done) key ≡ false → IsKeyInRange key

-- ---- what stays

-- the vault is as it was, but for its count of faults
pub record Stays {V : Type 0} (view : V → VaultView) (holds : V → Content → Type 0) (leaves : V → ℕ → Content → Type 0) (old new : V) : Type 0 where
  pub same : view new ≡ record (view old) { faults = (view new).faults }
  pub held : (m : Content) → holds old m ↔ holds new m
  pub past : (t : ℕ) (m : Content) → t ≤ (view old).moment → leaves old t m ↔ leaves new t m

-- ---- what was found

-- these changes are added, of a number where these parts are wanted, for what is held and for some pages at the keys
pub record AreAt (keys : Keys) (holds : Content → Type 0) (n : ℕ) (wanted old new : List Change) : Type 0 where
  pub told : (m : Content) → holds m → new ≡ old ++ differences (get m) (range_of n) wanted
  pub pages : Key → Option Page
  pub have : HavePages keys pages
  pub read : new ≡ old ++ differences pages (range_of n) wanted

-- these are all changes up to a number
pub record AreSoFar (keys : Keys) (holds : Content → Type 0) (wants : ℕ → List Change) (done : ℕ) (changes : List Change) : Type 0 where
  pub keys_held : (m : Content) → holds m → keys ≡ keys_of m
  pub wanted : (n : ℕ) → 1 ≤ n → n ≤ done → IsWanted (range_of n) (wants n)
  pub told : (m : Content) → holds m → changes ≡ changes_to (get m) wants done
  pub rising : AreRising changes
  pub objects : HaveObjects changes
  pub upto : AllByRecursion (λ c. c.key.object ≤ done) changes
