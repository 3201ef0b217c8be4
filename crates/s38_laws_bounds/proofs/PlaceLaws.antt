-- What a permitted instruction puts into a space lies inside it: its value, and cells that it copies.
use Rattle.std.proofs.Common.{◌*◌, ◌+◌, ◌∷◌, ◌≡◌, ◌≤◌, Bool, List, [], ap, arith, false, length, refl, subst, true, ℕ}
use Rattle.std.proofs.lemmas.Bool.Decides.{nat_tests}
use Rattle.std.proofs.lemmas.Bool.{and_from, and_parts, cond_both}
use Rattle.std.proofs.lemmas.List.Elements.{All-head}
use Rattle.std.proofs.lemmas.Option.{same_Some}
use Rattle.std.specs.Prelude.{◌||◌, All, IfSome, None, Option, Some, is_some, nat_le, not, slice_get}
use Rattle.s38_base.specs.Pointers.{start_of, target_of}
use Rattle.s38_base.specs.Attributes.{is_pointer_attr, length_of}
use Rattle.s38_base.specs.declared.attr.Attr.TheVariants as attrs
use Rattle.s38_base.specs.declared.attr.Attr.{Attr}
use Rattle.s38_base.specs.declared.op.Op.{Op}
use Rattle.s38_base.specs.declared.pointer.Pointer.{Pointer}
use Rattle.s38_code.specs.Operations.{classes, family_of}
use Rattle.s38_code.specs.declared.class.Class.TheVariants.{PointerReceiver}
use Rattle.s38_code.specs.declared.class.Class.{Class}
use Rattle.s38_code.specs.declared.event.Event.TheVariants.{Act}
use Rattle.s38_code.specs.declared.event.Request.{Request}
use Rattle.s38_code.specs.declared.operand.Operand.TheVariants as operands
use Rattle.s38_code.specs.declared.operand.Operand.{Operand}
use Rattle.s38_code.specs.declared.reply.Val.TheVariants as vals
use Rattle.s38_code.specs.declared.reply.Val.{Val}
use Rattle.s38_memory.specs.Tagged.{is_aligned, is_within}
use Rattle.s38_rules.specs.families.Changes.{done}
use Rattle.s38_rules.specs.families.Computing.{shift_at}
use Rattle.s38_rules.specs.state.Held.{Held}
use Rattle.s38_rules.specs.ask.Operands.{place, room_at, room_of}
use Rattle.s38_rules.specs.ask.Receivers.{is_in_space}
use Rattle.s38_rules.specs.state.Parts.{part_at, space_part}
use Rattle.s38_rules.specs.state.PartsAt.{cells_at}
use Rattle.s38_rules.specs.families.Rows.{row}
use Rattle.s38_rules.specs.state.State.{State}
use Rattle.s38_rules.specs.step.Verdict.{ruled_verdict}
use Rattle.s38_rules.specs.declared.verdict.Verdict.TheVariants.{Permit}
use Rattle.s38_laws_bounds.proofs.AddressLaws.{permitted_inside}
use Rattle.s38_laws_bounds.proofs.SizeLaws.{done_keeps}
use Rattle.s38_laws_bounds.proofs.ValueLaws.{row_fits}
use Rattle.s38_laws_bounds.proofs.FitLaws.{Fits, SuitsRow, begins_with_pointer, gets_pointer, goes_back}
use Rattle.s38_laws_bounds.specs.Inside.{LiesInside, has_bytes, has_cells, has_item}
use Rattle.s38_laws_bounds.specs.Placed.{IsPlaced, IsValuePlaced, has_value, is_cell_value, leaves_spaces}
use Rattle.s38_laws_bounds.specs.Suited.{SuitsTable, all_suit, attr_of, suits}

-- ---- parts of what lies inside

few_within : (at len cells shift size : ℕ) → nat_le (at + len) (16 * cells) ≡ true → shift + size ≤ len → nat_le (at + shift + size) (16 * cells) ≡ true
few_within at len cells shift size within few = grind (arith, nat_tests)

-- fewer bytes, so many past the first
pub part_inside : (h : Held) (n at len shift size : ℕ) → has_bytes h n at len ≡ true → shift + size ≤ len → has_bytes h n (at + shift) size ≡ true
part_inside h n at len shift size is few =
    let both = and_parts (is_some (part_at space_part h n)) (is_within at len (cells_at h n)) is in
    and_from (is_some (part_at space_part h n)) (is_within (at + shift) size (cells_at h n)) both.0 (few_within at len (length (cells_at h n)) shift size both.1 few)

-- ---- a value that fits

aligned_pointer : (aligned pointer : Bool) → (aligned || not pointer) ≡ true → pointer ≡ true → aligned ≡ true
aligned_pointer true pointer begins is = refl
aligned_pointer false true begins is = cc
aligned_pointer false false begins is = cc

pointer_length : (attr : Attr) → is_pointer_attr attr ≡ true → length_of attr ≡ 16
pointer_length attrs.Pointer is = refl
pointer_length _ is = cc

-- a pointer goes into the cell in which its receiver lies
cell_inside : (h : Held) (n at shift : ℕ) (attr : Attr) (p : Option Pointer) → has_item h n at attr ≡ true → is_pointer_attr attr ≡ true → shift ≡ 0 → is_cell_value p ≡ true
    → has_value h n (at + shift) (vals.Ptr p) ≡ true
cell_inside h n at shift attr p item pointer none held =
    let both = and_parts (has_bytes h n at (length_of attr)) _ item in
    let bytes = part_inside h n at (length_of attr) shift 16 both.0 (omega (arith, none, pointer_length attr pointer)) in
    let place : at ≡ at + shift = omega (arith, none) in
    let aligned = subst (λ i. is_aligned i ≡ true) place (aligned_pointer (is_aligned at) (is_pointer_attr attr) both.1 pointer) in
    and_from (has_cells h n (at + shift) 16) (is_cell_value p) (and_from (has_bytes h n (at + shift) 16) (is_aligned (at + shift)) bytes aligned) held

value_inside : (h : Held) (n at shift : ℕ) (attr : Attr) (op : Op) (v : Val) → has_item h n at attr ≡ true → (gets_pointer op ≡ true → is_pointer_attr attr ≡ true) → goes_back op ≡ false
    → Fits op (length_of attr) shift v → has_value h n (at + shift) v ≡ true
value_inside h n at shift attr op (vals.Bytes bytes) item pointer stays fits =
    part_inside h n at (length_of attr) shift (length bytes) (and_parts (has_bytes h n at (length_of attr)) _ item).0 fits
value_inside h n at shift attr op (vals.Ptr p) item pointer stays fits = cell_inside h n at shift attr p item (pointer fits.1.1) fits.1.0 fits.0
value_inside h n at shift attr op _ item pointer stays fits = cc

-- ---- the receiver

pub first_of : (P : Operand → Type 0) (xs : List Operand) (x : Operand) → All P xs → slice_get xs 0 ≡ Some x → P x
first_of P [] x all is = cc
first_of P (y ∷ xs) x all is = subst P (same_Some y x is) (All-head P y xs all)

-- who receives a pointer is a pointer
pointer_first : (more : List Class) (ops : List Operand) (x : Operand) → begins_with_pointer more ≡ true → all_suit more ops ≡ true → slice_get ops 0 ≡ Some x → is_pointer_attr (attr_of x) ≡ true
pointer_first (PointerReceiver ∷ more) (y ∷ ops) x begins suited is =
    subst (λ (z : Operand). is_pointer_attr (attr_of z) ≡ true) (same_Some y x is) (and_parts (suits PointerReceiver y) (all_suit more ops) suited).0
pointer_first _ _ x begins suited is = cc

pub suits_row : (t : Request) → SuitsTable t → SuitsRow t.op t.operands
suits_row t suited = record { classes = suited.classes; ruled = suited.ruled }

item_kept : (h k : Held) (n at : ℕ) (attr : Attr) → ((len : ℕ) → has_bytes h n at len ≡ true → has_bytes k n at len ≡ true) → has_item h n at attr ≡ true → has_item k n at attr ≡ true
item_kept h k n at attr keeps item =
    let both = and_parts (has_bytes h n at (length_of attr)) (is_aligned at || not (is_pointer_attr attr)) item in
    and_from (has_bytes k n at (length_of attr)) (is_aligned at || not (is_pointer_attr attr)) (keeps (length_of attr) both.0) both.1

-- a receiver in a space, after what an instruction changes
placed_by : (s : State) (p d : ℕ) (t : Request) (shift : ℕ) (given : Option Val) → ruled_verdict s p (Act d t) ≡ Permit → SuitsTable t → goes_back t.op ≡ false
    → (is_in_space (place t.operands 1) ≡ true → IfSome given (λ v. Fits t.op (room_at t.operands 1) shift v × (leaves_spaces ((row t.op).changes s p d t) ≡ true)))
    → (x : Option Operand) → place t.operands 1 ≡ x → (v : Option Val) → given ≡ v → IsValuePlaced (done s p ((row t.op).changes s p d t)).held shift x v
placed_by s p d t shift given may suited stays own (Some (operands.InSpace base offset attr)) at (Some v) is =
    let x = (row t.op).changes s p d t in
    let end = (done s p x).held in
    let inside = first_of (LiesInside s.held) t.operands (operands.InSpace base offset attr) (permitted_inside s p d t may) at in
    let well = subst (λ (r : Option Val). IfSome r (λ u. Fits t.op (room_at t.operands 1) shift u × (leaves_spaces x ≡ true))) is (own (ap is_in_space at)) in
    let kept = item_kept s.held end (target_of base) (start_of base offset) attr (done_keeps s p x well.1 (target_of base) (start_of base offset)) inside in
    let room : room_of (place t.operands 1) ≡ length_of attr = ap room_of at in
    value_inside end (target_of base) (start_of base offset) shift attr t.op v kept
    (λ gets. pointer_first (classes t.op) t.operands (operands.InSpace base offset attr) gets suited.classes at) stays
    (subst (λ r. Fits t.op r shift v) room well.0)
placed_by s p d t shift given may suited stays own _ at _ is = tt

pub value_placed : (s : State) (p d : ℕ) (t : Request) → ruled_verdict s p (Act d t) ≡ Permit → SuitsTable t → IsPlaced s p d t
value_placed s p d t may suited =
    let end = (done s p ((row t.op).changes s p d t)).held in
    let shift = shift_at s.held t.op t.operands in
    let given = (row t.op).gives s p d t in
    cond_both (goes_back t.op) None (place t.operands 1) (λ receiver. IsValuePlaced end shift receiver given) (λ yes. tt)
    (λ no. placed_by s p d t shift given may suited no (λ there. row_fits (family_of t.op) s p d t (suits_row t suited) there) (place t.operands 1) refl given refl)
