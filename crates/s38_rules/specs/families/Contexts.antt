-- Contexts: made and destroyed; the address and the name of an object changed.
use Rattle.std.specs.Prelude.{ℕ, ◌==◌, Bool, false, not, ◌||◌, List, [], ◌++◌, Option, Some, None, if◌then◌else◌}
use Rattle.s38_base.specs.declared.exception.Exception.{Exception}
use Rattle.s38_base.specs.declared.id.Id.{Id}
use Rattle.s38_base.specs.declared.id.Kind.TheVariants as kinds
use Rattle.s38_base.specs.declared.op.Op.{Op}
use Rattle.s38_base.specs.declared.op.Op.TheVariants.{Crtctx, Modadr, Rename, Matctx, Desctx}
use Rattle.s38_base.specs.declared.words.Category.TheVariants.{Change}
use Rattle.s38_base.specs.Exceptions as exceptions
use Rattle.s38_base.specs.Ids.{same_kind}
use Rattle.s38_base.specs.Limits.{machine_context}
use Rattle.s38_base.specs.RightNames as rights
use Rattle.s38_base.specs.Signals.{fails, first}
use Rattle.s38_code.specs.declared.operand.Operand.{Operand}
use Rattle.s38_rules.specs.declared.creating.Creating.{Creating}
use Rattle.s38_rules.specs.declared.need.Need.{Need}
use Rattle.s38_rules.specs.declared.need.Sought.TheVariants.{Any, Of}
use Rattle.s38_rules.specs.declared.object.Body.TheVariants as bodies
use Rattle.s38_rules.specs.declared.object.Object.{Object}
use Rattle.s38_rules.specs.families.Changes.{Changes, Gone, Made, Moved, Named}
use Rattle.s38_rules.specs.families.Creation.{creation_fails, creation_gives, destruction_needs, is_taken_beside, machine_needs, of_machine}
use Rattle.s38_rules.specs.state.Held.{Held, context_in, home, is_there, kind_of, object}
use Rattle.s38_rules.specs.families.Instruction.{Instruction, inert}
use Rattle.s38_rules.specs.ask.Needs.{on_implied, on_object}
use Rattle.s38_rules.specs.ask.Operands.{id_at, is_given, rights_at, target}
use Rattle.s38_rules.specs.state.State.{State}
use Rattle.s38_rules.specs.ask.Users.{user_of}
use Rattle.s38_rules.specs.families.ContextLists.{matctx}

-- ---- CRTCTX

abbrev pub new_context : Held → List Operand → Creating
new_context h ops = of_machine kinds.Context (rights_at ops 3) h ops

unfoldable pub crtctx_fails : State → ℕ → List Operand → Option Exception
crtctx_fails s p ops = creation_fails s.held (user_of s p) (new_context s.held ops) None

abbrev pub crtctx_changes : State → ℕ → List Operand → Changes
crtctx_changes s p ops = Made (user_of s p) (new_context s.held ops) (Some bodies.Context)

abbrev pub crtctx : Instruction
crtctx = record inert {
  needs = λ s p d r. machine_needs;
  fails = λ s p d r. crtctx_fails s p r.operands;
  gives = λ s p d r. Some (creation_gives s.held (new_context s.held r.operands));
  changes = λ s p d r. crtctx_changes s p r.operands;
}

-- ---- DESCTX

-- the machine context stays
unfoldable pub desctx_fails : Held → List Operand → Option Exception
desctx_fails h ops = fails (target h ops 1 == machine_context) exceptions.object_in_use 1

abbrev pub desctx : Instruction
desctx = record inert {
  needs = λ s p d r. destruction_needs kinds.Context;
  fails = λ s p d r. desctx_fails s.held r.operands;
  changes = λ s p d r. Gone kinds.Context (target s.held r.operands 1);
}

-- ---- the context that an object is in

-- a right on it; an object that says a context which is gone is in none
abbrev pub own_context : Held → ℕ → ℕ → List Need
own_context h context rights = if is_there h context then on_implied context (Of kinds.Context) rights (Some Change) else []

-- ---- MODADR

-- INSERT on the new context, where one is given
abbrev pub new_address : List Operand → List Need
new_address ops = if is_given ops 2 then on_object 2 (Of kinds.Context) rights.insert (Some Change) else []

-- object management on the object, INSERT on the new context, DELETE on the present one
unfoldable pub modadr_needs : Held → List Operand → List Need
modadr_needs h ops =
    on_object 1 Any rights.objmgt (Some Change)
    ++ (new_address ops ++ own_context h (context_in (object h (target h ops 1))).0 rights.delete)

-- contexts and profiles stay in the machine context
abbrev pub is_at_home : Option Object → Bool
is_at_home None = false
is_at_home (Some o) = same_kind kinds.Context (kind_of o.body) || same_kind kinds.Profile (kind_of o.body)

abbrev pub is_name_beside : Held → ℕ → ℕ → Option Object → Bool
is_name_beside h n context None = false
is_name_beside h n context (Some o) = is_taken_beside h n context o.id

-- the object may leave the machine context, nothing else enters it, and the identification is new there
unfoldable pub modadr_fails : Held → List Operand → Option Exception
modadr_fails h ops =
    first (fails (is_at_home (object h (target h ops 1))) exceptions.object_type_invalid 1)
    (first (fails (target h ops 2 == machine_context) exceptions.object_type_invalid 2)
    (fails (is_name_beside h (target h ops 1) (target h ops 2) (object h (target h ops 1))) exceptions.duplicate_identification 1))

-- the object is in the new context, or in none
abbrev pub modadr_changes : Held → List Operand → Changes
modadr_changes h ops = Moved (target h ops 1) (home h (target h ops 2))

abbrev pub modadr : Instruction
modadr = record inert {
  needs = λ s p d r. modadr_needs s.held r.operands;
  fails = λ s p d r. modadr_fails s.held r.operands;
  changes = λ s p d r. modadr_changes s.held r.operands;
}

-- ---- RENAME

-- object management on the object, UPDATE on its context
unfoldable pub rename_needs : Held → List Operand → List Need
rename_needs h ops =
    on_object 1 Any rights.objmgt (Some Change) ++ own_context h (context_in (object h (target h ops 1))).0 rights.update

abbrev pub is_other_kind : Option Object → Id → Bool
is_other_kind None id = false
is_other_kind (Some o) id = not (same_kind id.kind (kind_of o.body))

abbrev pub rename_rule : Held → ℕ → Option Id → Option Exception
rename_rule h n None = None
rename_rule h n (Some id) =
    first (fails (is_other_kind (object h n) id) exceptions.object_type_invalid 2)
    (fails (is_taken_beside h n (context_in (object h n)).0 id) exceptions.duplicate_identification 2)

-- the kind stays, and the identification is new in the object's context
unfoldable pub rename_fails : Held → List Operand → Option Exception
rename_fails h ops = rename_rule h (target h ops 1) (id_at ops 2)

abbrev pub rename_changes : Held → List Operand → Changes
rename_changes h ops = Named (target h ops 1) (id_at ops 2)

abbrev pub rename : Instruction
rename = record inert {
  needs = λ s p d r. rename_needs s.held r.operands;
  fails = λ s p d r. rename_fails s.held r.operands;
  changes = λ s p d r. rename_changes s.held r.operands;
}

-- ---- the family

unfoldable pub contexts_row : Op → Instruction
contexts_row Crtctx = crtctx
contexts_row Desctx = desctx
contexts_row Modadr = modadr
contexts_row Rename = rename
contexts_row Matctx = matctx
contexts_row _ = inert
