-- Authority over objects: granted and retracted, and an object given to another owner.
use Rattle.std.specs.Prelude.{ℕ, ◌+◌, List, ◌++◌, Option, Some, None, bit_or, if◌then◌else◌}
use Rattle.bitflags.specs.Sets.{without}
use Rattle.s38_base.specs.declared.exception.Exception.{Exception}
use Rattle.s38_base.specs.declared.id.Kind.TheVariants as kinds
use Rattle.s38_base.specs.declared.id.ObjNum.{ObjNum}
use Rattle.s38_base.specs.declared.op.Op.{Op}
use Rattle.s38_base.specs.declared.op.Op.TheVariants.{Grant, Retract, Xfro, Testau, Matau, Matauobj}
use Rattle.s38_base.specs.RightNames as rights
use Rattle.s38_base.specs.Signals.{fails, first}
use Rattle.s38_code.specs.declared.operand.Operand.{Operand}
use Rattle.s38_rules.specs.declared.need.Claim.TheVariants.{Granting, Ownership}
use Rattle.s38_rules.specs.declared.need.Need.{Need}
use Rattle.s38_rules.specs.declared.need.Sought.TheVariants.{Of}
use Rattle.s38_rules.specs.declared.object.Object.{Object}
use Rattle.s38_rules.specs.families.Changes.{Changes, OnAccess}
use Rattle.s38_rules.specs.families.Creation.{pages_rule}
use Rattle.s38_rules.specs.state.Held.{Held, charge_in, object, pages_of, without_in}
use Rattle.s38_rules.specs.families.Instruction.{Instruction, inert}
use Rattle.s38_rules.specs.ask.Needs.{governed, on_object}
use Rattle.s38_rules.specs.ask.Operands.{is_given, rights_at, target}
use Rattle.s38_rules.specs.state.Access.{Access, granted, owned_by}
use Rattle.s38_rules.specs.families.Grantees.{user_needs, user_at, rights_of, with_rights, row_rule}
use Rattle.s38_rules.specs.families.AuthorityReads.{testau, matau, matauobj}

-- ---- GRANT and RETRACT

-- the rule of granting on the object, and a profile or everybody
unfoldable pub grant_needs : List Operand → List Need
grant_needs ops = governed Granting 1 (rights_at ops 3) ++ user_needs ops 2

unfoldable pub grant_fails : Held → List Operand → Option Exception
grant_fails h ops = if is_given ops 2 then row_rule h (target h ops 1) (target h ops 2) (rights_at ops 3) else None

-- the rights are added
abbrev pub with_granted : Held → List Operand → (Access → Access)
with_granted h ops =
    λ s. with_rights (is_given ops 2) (user_at h ops 2) (bit_or (rights_of (is_given ops 2) (user_at h ops 2) s) (rights_at ops 3)) s

abbrev pub grant_changes : Held → List Operand → Changes
grant_changes h ops = OnAccess (target h ops 1) (with_granted h ops)

-- the rights are taken away; what pointers carry stays
abbrev pub with_retracted : Held → List Operand → (Access → Access)
with_retracted h ops =
    λ s. with_rights (is_given ops 2) (user_at h ops 2) (without 8 (rights_of (is_given ops 2) (user_at h ops 2) s) (rights_at ops 3)) s

abbrev pub retract_changes : Held → List Operand → Changes
retract_changes h ops = OnAccess (target h ops 1) (with_retracted h ops)

abbrev pub grant : Instruction
grant = record inert {
  needs = λ s p d r. grant_needs r.operands;
  fails = λ s p d r. grant_fails s.held r.operands;
  changes = λ s p d r. grant_changes s.held r.operands;
}

abbrev pub retract : Instruction
retract = record inert {
  needs = λ s p d r. grant_needs r.operands;
  changes = λ s p d r. retract_changes s.held r.operands;
}

-- ---- XFRO

-- ownership of the object, and a profile
unfoldable pub xfro_needs : List Need
xfro_needs = governed Ownership 1 rights.no_rights ++ on_object 2 (Of kinds.Profile) rights.no_rights None

-- a user may own the pages of the object of a number beside its others
abbrev pub taker_rule : Held → ℕ → ℕ → Option Object → Option Exception
taker_rule h n user None = None
taker_rule h n user (Some o) = pages_rule h user (charge_in (without_in h.objects n) user + pages_of o.body) 2

-- the new owner may own the object's pages, and a row is left for it
unfoldable pub xfro_fails : Held → List Operand → Option Exception
xfro_fails h ops =
    first (taker_rule h (target h ops 1) (target h ops 2) (object h (target h ops 1)))
    (row_rule h (target h ops 1) (target h ops 2) rights.all_rights)

-- the new owner has all eight rights by a row; the row of the one before stays
abbrev pub given_to : ObjNum → (Access → Access)
given_to user = λ s. owned_by user (granted user (record { 0 = rights.all_rights }) s)

abbrev pub xfro_changes : Held → List Operand → Changes
xfro_changes h ops = OnAccess (target h ops 1) (given_to (user_at h ops 2))

abbrev pub xfro : Instruction
xfro = record inert {
  needs = λ s p d r. xfro_needs;
  fails = λ s p d r. xfro_fails s.held r.operands;
  changes = λ s p d r. xfro_changes s.held r.operands;
}

-- ---- the family

unfoldable pub grants_row : Op → Instruction
grants_row Grant = grant
grants_row Retract = retract
grants_row Xfro = xfro
grants_row Testau = testau
grants_row Matau = matau
grants_row Matauobj = matauobj
grants_row _ = inert
