-- When no way is open for users to a right on an object: none of them owns the object, has the right by its row, or has
-- a special authority; not everybody has it; and no pointer that lies anywhere carries it, or lies in the object
-- where the right is that of a space.
use Rattle.std.specs.Prelude.{◌≡◌, ◌≢◌, ◌<◌, ℕ, IsTrue, false, All, List, Some}
use Rattle.std.specs.Int.{bit_at}
use Rattle.s38_base.specs.declared.pointer.Pointer.{Pointer}
use Rattle.s38_base.specs.Pointers.{carried_by, object_of}
use Rattle.s38_base.specs.RightNames as rights
use Rattle.s38_process.specs.Process.{ProcessState}
use Rattle.s38_rules.specs.declared.object.Object.{Object}
use Rattle.s38_rules.specs.declared.need.PointerKind.TheVariants as pointer_kinds
use Rattle.s38_rules.specs.ask.Authority.{has_special}
use Rattle.s38_rules.specs.state.Headers.{public_in, rights_in_row}
use Rattle.s38_rules.specs.state.Held.{Held, object}
use Rattle.s38_rules.specs.ask.AddressRules.{is_pointer}
use Rattle.s38_laws_confinement.specs.OfPointers.{OfObjects, OfVals}

-- rights are told apart by the place of their bit: that of the right over a space
abbrev pub space_right : ℕ
space_right = 4

-- some rights don't have the one at a place
abbrev pub Lacks : ℕ → ℕ → Type 0
Lacks r given = bit_at given r ≡ 0

-- a pointer opens no way: one to the object does not carry the right, and where the right is that over a space it does
-- not lie in the object
pub record IsHarmless (o r : ℕ) (p : Pointer) : Type 0 where
  pub carries : object_of p ≡ o → Lacks r (carried_by p)
  pub lies : object_of p ≡ o → r ≡ space_right → IsTrue (is_pointer pointer_kinds.System p)

-- a user has none
pub record HasNoWay (h : Held) (o r user : ℕ) : Type 0 where
  pub owner : (x : Object) → object h o ≡ Some x → x.owner.0 ≢ user
  pub row : Lacks r (rights_in_row (object h o) user)
  pub all : has_special h rights.allobj user ≡ false
  pub profiles : has_special h rights.profile user ≡ false

-- among the objects
pub record NoWay (h : Held) (users : List ℕ) (o r : ℕ) : Type 0 where
  pub given : o < h.next
  pub right : r < 8
  pub nobody : All (HasNoWay h o r) users
  pub everybody : Lacks r (public_in (object h o))
  pub spaces : OfObjects (IsHarmless o r) h.objects

-- in the variables of a process
abbrev pub NoWayIn : ℕ → ℕ → ProcessState → Type 0
NoWayIn o r d = OfVals (IsHarmless o r) d.stack.values
