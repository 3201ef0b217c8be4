-- When what an instruction does is plain: it makes no object, changes nothing of who may do what with one, destroys no
-- user, and brings no pointer that did not lie in a space and was not asked with.
use Rattle.std.specs.Prelude.{◌≡◌, ◌&&◌, ◌||◌, ℕ, Bool, true, false, not, List, ◌∷◌, Option, Some, None, is_some}
use Rattle.s38_base.specs.Ids.{same_kind}
use Rattle.s38_base.specs.declared.id.Kind.TheVariants as kinds
use Rattle.s38_base.specs.declared.op.Op.{Op}
use Rattle.s38_base.specs.declared.pointer.Pointer.{Pointer}
use Rattle.s38_code.specs.Operations.{classes, family_of, made_kind}
use Rattle.s38_code.specs.declared.class.Class.{Class}
use Rattle.s38_code.specs.declared.class.Class.TheVariants.{PointerReceiver}
use Rattle.s38_code.specs.declared.event.Request.{Request}
use Rattle.s38_code.specs.declared.family.Family.{Family}
use Rattle.s38_code.specs.declared.family.Family.TheVariants.{Computing}
use Rattle.s38_rules.specs.declared.object.Object.{Object}
use Rattle.s38_rules.specs.ask.Authority.{is_profile}
use Rattle.s38_rules.specs.families.Changes.{Changes, Gone, Made, OnAccess, Profiled, Then}
use Rattle.s38_rules.specs.state.Headers.{special_of}
use Rattle.s38_rules.specs.state.Held.{Held, object}
use Rattle.s38_rules.specs.ask.Receivers.{Done}
use Rattle.s38_rules.specs.families.Rows.{row}
use Rattle.s38_rules.specs.state.Access.{access_of}
use Rattle.s38_rules.specs.state.State.{State}
use Rattle.s38_laws_confinement.specs.OfPointers.{OfObjects, OfVals}

-- a change makes no object, changes nothing of who may do what with one, and destroys no user
abbrev pub is_plain : Changes → Bool
is_plain (OnAccess n f) = false
is_plain (Profiled n special limit) = false
is_plain (Made owner made body) = false
is_plain (Gone kind n) = not (same_kind kind kinds.Profile)
is_plain (Then a b) = is_plain a && is_plain b
is_plain _ = true

-- the first operand receives a pointer
abbrev pub receives_pointer : List Class → Bool
receives_pointer (PointerReceiver ∷ more) = true
receives_pointer _ = false

-- a computation gives no pointer but a space pointer that it has, with another offset
abbrev pub is_computation : Family → Bool
is_computation Computing = true
is_computation _ = false

-- an instruction makes a pointer to what is there if it receives one, though it makes no object and is no computation
abbrev pub makes_pointer : Op → Bool
makes_pointer op = receives_pointer (classes op) && not (is_some (made_kind op) || is_computation (family_of op))

-- what is asked makes no pointer, and its change is plain
abbrev pub asks_plainly : State → ℕ → ℕ → Request → Bool
asks_plainly s p d t = not (makes_pointer t.op) && is_plain ((row t.op).changes s p d t)

-- owner, rights of everybody, rows and special authorities are those of the other one, and so is whether it is a user
pub record HasSameAccess (x y : Object) : Type 0 where
  pub standing : access_of y ≡ access_of x
  pub special : special_of y.body ≡ special_of x.body
  pub user : is_profile y.body ≡ is_profile x.body

-- the object of a number has the owner and the rights that it had, or is gone and was no user; none is new
abbrev pub IsAsBefore : Option Object → Option Object → Type 0
IsAsBefore None None = Unit {0}
IsAsBefore (Some x) None = is_profile x.body ≡ false
IsAsBefore None (Some y) = ⊥
IsAsBefore (Some x) (Some y) = HasSameAccess x y

abbrev pub Passes : (Pointer → Bool) → Pointer → Type 0
Passes test p = test p ≡ true

-- where all pointers that lie in spaces or are asked with pass a test, so do those that are there and come back then:
-- each is one of them, or such a space pointer with another offset
pub record IsPlain (test : Pointer → Bool) (h : Held) (done : Done) : Type 0 where
  pub next : done.state.held.next ≡ h.next
  pub objects : (n : ℕ) → IsAsBefore (object h n) (object done.state.held n)
  pub pointers : OfObjects (Passes test) done.state.held.objects
  pub values : OfVals (Passes test) done.values
