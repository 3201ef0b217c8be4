-- What the rules of addresses see to: each operand in a space lies inside it.
use Rattle.std.proofs.Common.{◌+◌, ◌≡◌, ◌∷◌, Bool, List, [], cond, false, min, refl, true, ℕ}
use Rattle.std.proofs.lemmas.List.Elements.{All-cons, All-nil}
use Rattle.std.specs.Option.{unwrap_or}
use Rattle.std.specs.Prelude.{◌&&◌, ◌||◌, All, None, Option, Some, is_some, not}
use Rattle.s38_base.specs.Exceptions as exceptions
use Rattle.s38_base.specs.Limits.{last_operand}
use Rattle.s38_base.specs.Pointers.{object_of, offset_of}
use Rattle.s38_base.specs.Attributes.{is_pointer_attr, length_of}
use Rattle.s38_base.specs.Signals.{fails, plain}
use Rattle.s38_base.specs.declared.attr.Attr.{Attr}
use Rattle.s38_base.specs.declared.exception.Exception.{Exception}
use Rattle.s38_code.specs.declared.event.Event.TheVariants.{Act}
use Rattle.s38_code.specs.declared.event.Request.{Request}
use Rattle.s38_code.specs.declared.operand.Operand.TheVariants as operands
use Rattle.s38_code.specs.declared.operand.Operand.{Operand}
use Rattle.s38_memory.specs.Tagged.{is_aligned, is_within}
use Rattle.s38_memory.specs.declared.cell.Cell.{Cell}
use Rattle.s38_rules.proofs.RuleLaws.{fails_none, first_none}
use Rattle.s38_rules.proofs.VerdictLaws.{permitted_none}
use Rattle.s38_rules.specs.state.Held.{Held, object}
use Rattle.s38_rules.specs.families.Instruction.{Instruction}
use Rattle.s38_rules.specs.state.Parts.{part_in, space_of, space_part}
use Rattle.s38_rules.specs.families.Rows.{row}
use Rattle.s38_rules.specs.state.State.{State}
use Rattle.s38_rules.specs.step.Verdict.{refused_by, ruled_verdict}
use Rattle.s38_rules.specs.ask.AddressRules.{address_rule, address_rules, by_operand, cells_rule, is_base, item_rule, space_rule}
use Rattle.s38_rules.specs.declared.need.Need.{Need}
use Rattle.s38_rules.specs.declared.object.Object.{Object}
use Rattle.s38_rules.specs.declared.verdict.Verdict.TheVariants.{Permit}
use Rattle.s38_laws_bounds.specs.Inside.{LiesInside}

-- ---- one operand

-- an item lies so in cells
abbrev lies_in : Option (List Cell) → ℕ → Attr → Bool
lies_in cells at attr =
    (is_some cells && is_within at (length_of attr) (unwrap_or cells [])) && (is_aligned at || not (is_pointer_attr attr))

aligned_by : (pointer aligned : Bool) → (pointer && not aligned) ≡ false → (aligned || not pointer) ≡ true
aligned_by true true h = refl
aligned_by true false h = cc
aligned_by false true h = refl
aligned_by false false h = refl

by_place : (within : Bool) (k : ℕ) (pointer aligned : Bool) → cond within (fails (pointer && not aligned) exceptions.boundary_alignment k) (Some (plain exceptions.space_addressing k)) ≡ None
    → (within && (aligned || not pointer)) ≡ true
by_place true k pointer aligned h = aligned_by pointer aligned (fails_none (pointer && not aligned) exceptions.boundary_alignment k h)
by_place false k pointer aligned h = cc

in_cells : (k : ℕ) (cells : Option (List Cell)) (at : ℕ) (attr : Attr) → cells_rule k cells at attr ≡ None → lies_in cells at attr ≡ true
in_cells k None at attr h = cc
in_cells k (Some cells) at attr h = by_place (is_within at (length_of attr) cells) k (is_pointer_attr attr) (is_aligned at) h

in_object : (k : ℕ) (x : Option Object) (at : ℕ) (attr : Attr) → space_rule k x at attr ≡ None → lies_in (part_in space_part x) at attr ≡ true
in_object k None at attr h = cc
in_object k (Some o) at attr h = in_cells k (space_of o.body) at attr h

passed : (b : Bool) (more : Option Exception) (x : Exception) → cond b more (Some x) ≡ None → more ≡ None
passed true more x h = h
passed false more x h = cc

-- an operand that passed its rule
item_inside : (h : Held) (k : ℕ) (x : Operand) → item_rule h k x ≡ None → LiesInside h x
unfolding item_rule
item_inside h k (operands.InSpace None offset attr) rule = cc
item_inside h k (operands.InSpace (Some p) offset attr) rule = in_object k (object h (object_of p)) (offset_of p + offset) attr (passed (is_base p offset attr) _ _ rule)
item_inside h k _ rule = tt

-- ---- all of them

each_inside : (h : Held) (rule : Need → Option Exception) (wanted : List Need) (k : ℕ) (ops : List Operand) → by_operand (item_rule h) rule wanted k ops ≡ None → All (LiesInside h) ops
each_inside h rule wanted k [] passed = All-nil (LiesInside h)
each_inside h rule wanted k (x ∷ ops) passed =
    let one = first_none (item_rule h (min k last_operand) x) _ passed in
    let two = first_none _ (by_operand (item_rule h) rule wanted (k + 1) ops) one.1 in
    All-cons (LiesInside h) x ops (item_inside h (min k last_operand) x one.0) (each_inside h rule wanted (k + 1) ops two.1)

pub unrefused_inside : (i : Instruction) (s : State) (p d : ℕ) (t : Request) → refused_by i s p d t ≡ None → All (LiesInside s.held) t.operands
unfolding refused_by address_rules
unrefused_inside i s p d t h =
    each_inside s.held (address_rule s.held t.operands) (i.needs s p d t) 1 t.operands (first_none (address_rules s.held t.operands (i.needs s p d t)) _ h).0

-- what the rules permit, none of them refuses
pub unrefused : (s : State) (p d : ℕ) (t : Request) → ruled_verdict s p (Act d t) ≡ Permit → refused_by (row t.op) s p d t ≡ None
unfolding ruled_verdict
unrefused s p d t h = permitted_none s p t (refused_by (row t.op) s p d t) h

pub permitted_inside : (s : State) (p d : ℕ) (t : Request) → ruled_verdict s p (Act d t) ≡ Permit → All (LiesInside s.held) t.operands
permitted_inside s p d t h = unrefused_inside (row t.op) s p d t (unrefused s p d t h)
