-- What authority there is over an object: TESTAU asks for rights, MATAU and MATAUOBJ list them.
use Rattle.std.specs.Prelude.{ℕ, ◌+◌, ◌==◌, Bool, true, false, not, ◌||◌, List, [], ◌∷◌, ◌++◌, filter, length, Option, Some, None, if◌then◌else◌}
use Rattle.std.specs.List.{flat_map, list_any}
use Rattle.s38_base.specs.declared.id.Kind.TheVariants as kinds
use Rattle.s38_base.specs.declared.words.Category.TheVariants.{Read}
use Rattle.s38_base.specs.Pointers.{carried_in}
use Rattle.s38_base.specs.RightNames as rights
use Rattle.s38_code.specs.declared.operand.Operand.{Operand}
use Rattle.s38_code.specs.declared.reply.Val.{Val}
use Rattle.s38_code.specs.declared.reply.Val.TheVariants as vals
use Rattle.s38_rules.specs.declared.need.Need.{Need}
use Rattle.s38_rules.specs.declared.need.Sought.TheVariants.{Any, Of}
use Rattle.s38_rules.specs.declared.object.Object.{Object}
use Rattle.s38_rules.specs.ask.Authority.{available, has_rights}
use Rattle.s38_rules.specs.state.Headers.{public_in, rights_in_row}
use Rattle.s38_rules.specs.state.Held.{Held, object, owner_in}
use Rattle.s38_rules.specs.families.Instruction.{Instruction, inert}
use Rattle.s38_rules.specs.ask.Needs.{on_object}
use Rattle.s38_rules.specs.ask.Operands.{is_given, pointer_at, rights_at, room_at, target}
use Rattle.s38_rules.specs.ask.Receivers.{count_image, fitted, number_image}
use Rattle.s38_rules.specs.state.PrivateRows.{row_of}
use Rattle.s38_rules.specs.state.State.{State}
use Rattle.s38_rules.specs.ask.Users.{acting}
use Rattle.s38_rules.specs.families.Grantees.{user_needs}

-- any object, of which no right is asked
unfoldable pub testau_needs : List Need
testau_needs = on_object 2 Any rights.no_rights None

-- a binary number of two bytes
abbrev pub truth : Bool → List ℕ
truth b = 0 ∷ (if b then 1 else 0) ∷ []

-- 1 where all the rights are available
unfoldable pub testau_bytes : State → ℕ → ℕ → List Operand → List ℕ
testau_bytes s p d ops = truth (has_rights (rights_at ops 3) (available s.held (acting s p d) (target s.held ops 2) (carried_in (pointer_at s.held ops 2))))

abbrev pub testau_gives : State → ℕ → ℕ → List Operand → Val
testau_gives s p d ops = vals.Bytes (testau_bytes s p d ops)

abbrev pub testau : Instruction
testau = record inert {
  needs = λ s p d r. testau_needs;
  gives = λ s p d r. Some (testau_gives s p d r.operands);
}

-- object management on the object, and a profile or everybody
unfoldable pub matau_needs : List Operand → List Need
matau_needs ops = on_object 2 Any rights.objmgt (Some Read) ++ user_needs ops 3

abbrev pub row_or_public : Bool → Option Object → ℕ → ℕ
row_or_public true o user = rights_in_row o user
row_or_public false o user = public_in o

abbrev pub authority_image : Option Object → ℕ → List ℕ
authority_image o r = number_image (owner_in o) ++ public_in o ∷ r ∷ []

-- the owner, the rights of everybody, and those of the user's row
unfoldable pub matau_bytes : Held → List Operand → List ℕ
matau_bytes h ops = fitted (room_at ops 1) 0 (authority_image (object h (target h ops 2)) (row_or_public (is_given ops 3) (object h (target h ops 2)) (target h ops 3)))

abbrev pub matau_gives : Held → List Operand → Val
matau_gives h ops = vals.Bytes (matau_bytes h ops)

abbrev pub matau : Instruction
matau = record inert {
  needs = λ s p d r. matau_needs r.operands;
  gives = λ s p d r. Some (matau_gives s.held r.operands);
}

-- the profile is read, and no right on it is asked
unfoldable pub matauobj_needs : List Need
matauobj_needs = on_object 2 (Of kinds.Profile) rights.no_rights (Some Read)

-- the special authority over profiles, but for one's own
unfoldable pub matauobj_special : State → ℕ → ℕ → List Operand → ℕ
matauobj_special s p d ops =
    if list_any (λ user. user == target s.held ops 2) (acting s p d) then rights.no_rights else rights.profile

-- the user owns the object, or has a row on it
abbrev pub concerns : ℕ → Object → Bool
concerns user o = (o.owner.0 == user) || not (row_of o.rows user == rights.no_rights)

-- its number, whether the user owns it, and the rights of the user's row
abbrev pub concern_image : ℕ → Object → List ℕ
concern_image user o = number_image o.number.0 ++ (if o.owner.0 == user then 1 else 0) ∷ row_of o.rows user ∷ []

abbrev pub concerns_image : ℕ → List Object → List ℕ
concerns_image user os = count_image (length os) ++ flat_map (concern_image user) os

-- the number of these objects, and each in order of number
unfoldable pub matauobj_bytes : Held → List Operand → List ℕ
matauobj_bytes h ops = fitted (room_at ops 1) 0 (concerns_image (target h ops 2) (filter (concerns (target h ops 2)) h.objects))

abbrev pub matauobj_gives : Held → List Operand → Val
matauobj_gives h ops = vals.Bytes (matauobj_bytes h ops)

abbrev pub matauobj : Instruction
matauobj = record inert {
  needs = λ s p d r. matauobj_needs;
  special = λ s p d r. matauobj_special s p d r.operands;
  gives = λ s p d r. Some (matauobj_gives s.held r.operands);
}
