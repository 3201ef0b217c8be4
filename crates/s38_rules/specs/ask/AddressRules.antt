-- Address rules: what each operand must lie in or point to, and how rules go operand by operand.
use Rattle.std.specs.Prelude.{ℕ, ◌+◌, ◌==◌, Bool, true, false, not, ◌&&◌, List, [], ◌∷◌, filter, min, Option, Some, None, if◌then◌else◌}
use Rattle.s38_base.specs.declared.attr.Attr.{Attr}
use Rattle.s38_base.specs.declared.exception.Exception.{Exception}
use Rattle.s38_base.specs.declared.id.Kind.TheVariants as kinds
use Rattle.s38_base.specs.declared.pointer.Pointer.{Pointer}
use Rattle.s38_base.specs.declared.pointer.Pointer.TheVariants as pointers
use Rattle.s38_base.specs.Exceptions as exceptions
use Rattle.s38_base.specs.Ids.{same_kind}
use Rattle.s38_base.specs.Limits.{last_operand, machine_context}
use Rattle.s38_base.specs.Pointers.{object_of, offset_of}
use Rattle.s38_base.specs.Attributes.{is_pointer_attr, length_of, same_attr}
use Rattle.s38_base.specs.Signals.{fails, first, plain}
use Rattle.s38_memory.specs.declared.cell.Cell.{Cell}
use Rattle.s38_memory.specs.Tagged.{is_aligned, is_within}
use Rattle.s38_code.specs.declared.operand.Operand.{Operand}
use Rattle.s38_code.specs.declared.operand.Operand.TheVariants as operands
use Rattle.s38_rules.specs.declared.need.Need.{Need}
use Rattle.s38_rules.specs.declared.need.Named.{Named}
use Rattle.s38_rules.specs.declared.need.Named.TheVariants.{Written, Implied}
use Rattle.s38_rules.specs.declared.need.PointerKind.{PointerKind}
use Rattle.s38_rules.specs.declared.need.PointerKind.TheVariants as pointer_kinds
use Rattle.s38_rules.specs.declared.need.Sought.{Sought}
use Rattle.s38_rules.specs.declared.need.Sought.TheVariants.{Any, Of, Container, Ignored}
use Rattle.s38_rules.specs.declared.object.Object.{Object}
use Rattle.s38_rules.specs.state.Held.{Held, kind_of, object}
use Rattle.s38_rules.specs.ask.Needs.{first_of}
use Rattle.s38_rules.specs.ask.Operands.{pointer_at}
use Rattle.s38_rules.specs.state.Parts.{space_of}

abbrev pub is_base : Pointer → ℕ → Attr → Bool
is_base (pointers.System o r) offset attr = false
is_base (pointers.Space o n) offset attr = true
is_base (pointers.Item o n a) offset attr = (offset == 0) && same_attr a attr

abbrev pub place_rule : ℕ → List Cell → ℕ → Attr → Option Exception
place_rule k cells at attr =
    if is_within at (length_of attr) cells then fails (is_pointer_attr attr && not (is_aligned at)) exceptions.boundary_alignment k
    else Some (plain exceptions.space_addressing k)

abbrev pub cells_rule : ℕ → Option (List Cell) → ℕ → Attr → Option Exception
cells_rule k None at attr = Some (plain exceptions.object_type_invalid k)
cells_rule k (Some cells) at attr = place_rule k cells at attr

abbrev pub space_rule : ℕ → Option Object → ℕ → Attr → Option Exception
space_rule k None at attr = Some (plain exceptions.object_destroyed k)
space_rule k (Some o) at attr = cells_rule k (space_of o.body) at attr

abbrev pub base_rule : Held → ℕ → Option Pointer → ℕ → Attr → Option Exception
base_rule h k None offset attr = Some (plain exceptions.pointer_missing k)
base_rule h k (Some p) offset attr =
    if is_base p offset attr then space_rule k (object h (object_of p)) (offset_of p + offset) attr
    else Some (plain exceptions.pointer_type_invalid k)

unfoldable pub item_rule : Held → ℕ → Operand → Option Exception
item_rule h k (operands.InSpace base offset attr) = base_rule h k base offset attr
item_rule h k _ = None

abbrev pub is_pointer : PointerKind → Pointer → Bool
is_pointer pointer_kinds.System (pointers.System o r) = true
is_pointer pointer_kinds.Space (pointers.Space o n) = true
is_pointer pointer_kinds.Item (pointers.Item o n a) = true
is_pointer pointer_kinds.Any p = true
is_pointer _ p = false

abbrev pub is_sought : Sought → Object → Bool
is_sought Any o = true
is_sought (Of kind) o = same_kind kind (kind_of o.body)
is_sought Container o = same_kind kinds.Context (kind_of o.body) && not (o.number.0 == machine_context)
is_sought Ignored o = true

abbrev pub is_looked_at : Sought → Bool
is_looked_at Ignored = false
is_looked_at _ = true

abbrev pub object_rule : Need → Option Object → Option Exception
object_rule need None = fails (is_looked_at need.sought) exceptions.object_destroyed need.place
object_rule need (Some o) = fails (not (is_sought need.sought o)) exceptions.object_type_invalid need.place

abbrev pub pointer_rule : Held → Need → Option Pointer → Option Exception
pointer_rule h need None = Some (plain exceptions.pointer_missing need.place)
pointer_rule h need (Some p) =
    if is_pointer need.pointer p then object_rule need (object h (object_of p))
    else Some (plain exceptions.pointer_type_invalid need.place)

abbrev pub named_rule : Held → List Operand → Need → Named → Option Exception
named_rule h ops need Written = pointer_rule h need (pointer_at h ops need.place)
named_rule h ops need (Implied n) = object_rule need (object h n.0)

unfoldable pub address_rule : Held → List Operand → Need → Option Exception
address_rule h ops need = named_rule h ops need need.named

abbrev pub is_of_operand : ℕ → Need → Bool
is_of_operand k need = need.place == k

abbrev pub needs_rule : (Need → Option Exception) → List Need → ℕ → Option Exception
needs_rule rule wanted k = first_of rule (filter (is_of_operand k) wanted)

abbrev pub by_operand : (ℕ → Operand → Option Exception) → (Need → Option Exception) → List Need → ℕ → List Operand → Option Exception
by_operand itself rule wanted k [] = needs_rule rule wanted 0
by_operand itself rule wanted k (operand ∷ more) =
    first (itself (min k last_operand) operand)
    (first (needs_rule rule wanted (min k last_operand)) (by_operand itself rule wanted (k + 1) more))

unfoldable pub address_rules : Held → List Operand → List Need → Option Exception
address_rules h ops wanted = by_operand (item_rule h) (address_rule h ops) wanted 1 ops
