-- Pointers to objects: RSLVSP finds an object by its identification, SETSPFP names that of a pointer.
use Rattle.std.specs.Prelude.{ℕ, ◌==◌, Bool, false, ◌&&◌, List, [], ◌∷◌, Option, Some, None, is_none, bit_or, if◌then◌else◌}
use Rattle.std.specs.Option.{option_map}
use Rattle.s38_base.specs.declared.exception.Exception.{Exception}
use Rattle.s38_base.specs.declared.id.Id.{Id}
use Rattle.s38_base.specs.declared.id.Kind.TheVariants as kinds
use Rattle.s38_base.specs.declared.id.ObjNum.{ObjNum}
use Rattle.s38_base.specs.declared.op.Op.{Op}
use Rattle.s38_base.specs.declared.op.Op.TheVariants.{Rslvsp, Setspfp}
use Rattle.s38_base.specs.declared.pointer.Pointer.{Pointer}
use Rattle.s38_base.specs.declared.pointer.Pointer.TheVariants as pointers
use Rattle.s38_base.specs.declared.words.Category.TheVariants.{Read}
use Rattle.s38_base.specs.Exceptions as exceptions
use Rattle.s38_base.specs.Ids.{same_kind}
use Rattle.s38_base.specs.Limits.{machine_context}
use Rattle.s38_base.specs.Pointers.{object_of}
use Rattle.s38_base.specs.RightNames as rights
use Rattle.s38_base.specs.Signals.{plain}
use Rattle.s38_code.specs.declared.operand.Operand.{Operand}
use Rattle.s38_code.specs.declared.reply.Val.{Val}
use Rattle.s38_code.specs.declared.reply.Val.TheVariants as vals
use Rattle.s38_rules.specs.declared.need.Located.{Located}
use Rattle.s38_rules.specs.declared.need.Named.{Named}
use Rattle.s38_rules.specs.declared.need.Named.TheVariants.{Written, Implied}
use Rattle.s38_rules.specs.declared.need.Need.{Need}
use Rattle.s38_rules.specs.declared.need.PointerKind.TheVariants as pointer_kinds
use Rattle.s38_rules.specs.declared.need.Sought.TheVariants.{Any, Of}
use Rattle.s38_rules.specs.declared.object.Object.{Object}
use Rattle.s38_rules.specs.ask.Authority.{available, has_rights, missing}
use Rattle.s38_rules.specs.ask.Blocking.{blocked}
use Rattle.s38_rules.specs.state.Held.{Held, found, kind_of, object}
use Rattle.s38_rules.specs.families.Instruction.{Instruction, inert}
use Rattle.s38_rules.specs.ask.Needs.{need}
use Rattle.s38_rules.specs.ask.Operands.{id_at, is_list, is_machine, pointer_at, rights_at, target}
use Rattle.s38_rules.specs.state.State.{State}
use Rattle.s38_rules.specs.ask.Users.{acting, contexts_of}

-- ---- a search through the contexts of the job's list

abbrev pub is_context_in : Option Object → Bool
is_context_in None = false
is_context_in (Some o) = same_kind (kind_of o.body) kinds.Context

-- the context is there, the acting users may read it, and no lock of another process keeps them from it
abbrev pub may_search : State → ℕ → List ℕ → ℕ → Bool
may_search s p users context =
    is_context_in (object s.held context)
    && (has_rights rights.retrieve (available s.held users context rights.no_rights) && is_none (blocked s.locks p context Read))

abbrev pub first_place : ObjNum → Option Object → Option Located → Option Located
first_place context None later = later
first_place context (Some o) later = Some (record { context = context; object = o.number })

-- the first context of the list that the process may read and that has the identification; the others are passed over
unfoldable pub search_in : State → ℕ → List ℕ → List ObjNum → Id → Option Located
search_in s p users [] id = None
search_in s p users (context ∷ contexts) id =
    if may_search s p users context.0
    then first_place context (found s.held context.0 id) (search_in s p users contexts id)
    else search_in s p users contexts id

-- ---- what an identification names

-- the context that operand 2 names: the machine's, or that of the pointer
abbrev pub context_at : Held → List Operand → ℕ
context_at h ops = if is_machine ops 2 then machine_context else target h ops 2

abbrev pub resolved_by : State → ℕ → ℕ → List Operand → Option Id → Option Located
resolved_by s p d ops None = None
resolved_by s p d ops (Some id) =
    if is_list ops 2 then search_in s p (acting s p d) (contexts_of s p) id
    else first_place (record { 0 = context_at s.held ops }) (found s.held (context_at s.held ops) id) None

-- the object that operands 2 and 3 of RSLVSP name
abbrev pub resolved : State → ℕ → ℕ → List Operand → Option Located
resolved s p d ops = resolved_by s p d ops (id_at ops 3)

-- ---- RSLVSP

-- the context in which the object is found is read
abbrev pub context_read : Named → List Need
context_read named = need 2 named pointer_kinds.System (Of kinds.Context) rights.retrieve (Some Read)

abbrev pub listed_need : Option Located → List Need
listed_need None = []
listed_need (Some l) = context_read (Implied l.context)

-- RETRIEVE on the context: the machine's, that of the pointer, or the one of the list in which the object is found
unfoldable pub rslvsp_needs : State → ℕ → ℕ → List Operand → List Need
rslvsp_needs s p d ops =
    if is_list ops 2 then listed_need (resolved s p d ops)
    else (if is_machine ops 2 then context_read (Implied (record { 0 = machine_context })) else context_read Written)

abbrev pub carried_rights : Held → List ℕ → ℕ → Option Located → Option Exception
carried_rights h users word None = Some (plain exceptions.object_not_found 3)
carried_rights h users word (Some l) =
    if word == rights.no_rights then None
    else missing 0 (bit_or rights.autptr word) (available h users l.object.0 rights.no_rights)

-- the object is found; where the pointer is to carry rights, they and AUTPTR are available on it
unfoldable pub rslvsp_fails : State → ℕ → ℕ → List Operand → Option Exception
rslvsp_fails s p d ops = carried_rights s.held (acting s p d) (rights_at ops 4) (resolved s p d ops)

-- a system pointer to what was found, which carries the rights that were asked
abbrev pub pointer_to : ℕ → Option Located → Option Pointer
pointer_to word None = None
pointer_to word (Some l) = Some (pointers.System l.object (record { 0 = word }))

unfoldable pub rslvsp_gives : State → ℕ → ℕ → List Operand → Val
rslvsp_gives s p d ops = vals.Ptr (pointer_to (rights_at ops 4) (resolved s p d ops))

abbrev pub rslvsp : Instruction
rslvsp = record inert {
  needs = λ s p d r. rslvsp_needs s p d r.operands;
  fails = λ s p d r. rslvsp_fails s p d r.operands;
  gives = λ s p d r. Some (rslvsp_gives s p d r.operands);
}

-- ---- SETSPFP

-- a pointer of any kind
unfoldable pub setspfp_needs : List Need
setspfp_needs = need 2 Written pointer_kinds.Any Any rights.no_rights None

abbrev pub num_of : Pointer → ObjNum
num_of p = record { 0 = object_of p }

-- a pointer to the object, without rights
unfoldable pub setspfp_gives : Held → List Operand → Val
setspfp_gives h ops = vals.Ptr (option_map (λ p. pointers.System (num_of p) (record { 0 = rights.no_rights })) (pointer_at h ops 2))

abbrev pub setspfp : Instruction
setspfp = record inert {
  needs = λ s p d r. setspfp_needs;
  gives = λ s p d r. Some (setspfp_gives s.held r.operands);
}

-- ---- the family

unfoldable pub resolving_row : Op → Instruction
resolving_row Rslvsp = rslvsp
resolving_row Setspfp = setspfp
resolving_row _ = inert
