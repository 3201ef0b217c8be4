-- Cells that a permitted instruction copies into a space lie inside it.
use Rattle.std.proofs.Common.{◌*◌, ◌+◌, ◌-◌, ◌/◌, ◌==◌, ◌∙◌, ◌∷◌, ◌≡◌, ◌≤◌, List, [], ap, arith, cond, drop, false, length, min, subst, sym, true, ℕ}
use Rattle.std.proofs.lemmas.Bool.Decides.{nat_tests}
use Rattle.std.proofs.lemmas.Bool.{and_from, and_parts}
use Rattle.std.proofs.lemmas.List.Elements.{All-head, All-tail}
use Rattle.std.proofs.lemmas.List.{length-drop, length-take}
use Rattle.std.specs.Prelude.{◌%◌, All, None, Some, is_some, nat_le, not}
use Rattle.s38_base.specs.Exceptions as exceptions
use Rattle.s38_base.specs.Pointers.{start_of, target_of}
use Rattle.s38_base.specs.Attributes.{length_of}
use Rattle.s38_base.specs.Signals.{fails}
use Rattle.s38_base.specs.declared.op.Op.TheVariants.{Callx, Cpybwp, Crtctx, Crtinx, Crtq, Crtup, Grant, Insdsen, Jrnlobj, Lock, Rslvsp}
use Rattle.s38_base.specs.declared.op.Op.{Op}
use Rattle.s38_code.specs.Operations.{classes, family_of, operand_rule}
use Rattle.s38_code.specs.declared.class.Class.TheVariants.{CellsReceiver, CellsSource}
use Rattle.s38_code.specs.declared.event.Event.TheVariants.{Act}
use Rattle.s38_code.specs.declared.event.Request.{Request}
use Rattle.s38_code.specs.declared.family.Family.TheVariants as families
use Rattle.s38_code.specs.declared.family.Family.{Family}
use Rattle.s38_code.specs.declared.operand.Operand.TheVariants as operands
use Rattle.s38_code.specs.declared.operand.Operand.{Operand}
use Rattle.s38_memory.specs.Tagged.{cells_in, is_aligned, is_within}
use Rattle.s38_memory.specs.declared.cell.Cell.{Cell}
use Rattle.s38_rules.proofs.VerdictLaws.{rule_met}
use Rattle.s38_rules.proofs.RuleLaws.{fails_none, first_none, not_false}
use Rattle.s38_rules.specs.state.Cells.{cells_there}
use Rattle.s38_rules.specs.families.Contexts.{contexts_row}
use Rattle.s38_rules.specs.families.DataSpaces.{data_spaces_row}
use Rattle.s38_rules.specs.families.Grants.{grants_row}
use Rattle.s38_rules.specs.state.Held.{Held}
use Rattle.s38_rules.specs.families.Indexes.{indexes_row}
use Rattle.s38_rules.specs.families.Instruction.{Instruction}
use Rattle.s38_rules.specs.families.Journals.{journals_row}
use Rattle.s38_rules.specs.families.Locking.{locks_row}
use Rattle.s38_rules.specs.ask.Operands.{cells_of, place, source_cells}
use Rattle.s38_rules.specs.state.Parts.{part_at, space_part}
use Rattle.s38_rules.specs.state.PartsAt.{cells_at}
use Rattle.s38_rules.specs.families.Profiles.{profiles_row}
use Rattle.s38_rules.specs.families.Programs.{programs_row}
use Rattle.s38_rules.specs.families.Queues.{queues_row}
use Rattle.s38_rules.specs.families.Resolving.{resolving_row}
use Rattle.s38_rules.specs.families.Rows.{row, row_in}
use Rattle.s38_rules.specs.families.Spaces.{spaces_row}
use Rattle.s38_rules.specs.families.SpacePointers.{cpybwp_fails, is_unaligned}
use Rattle.s38_rules.specs.state.State.{State}
use Rattle.s38_rules.specs.step.Verdict.{refused_by, ruled_verdict}
use Rattle.s38_rules.specs.declared.verdict.Verdict.TheVariants.{Permit}
use Rattle.s38_laws_bounds.proofs.AddressLaws.{unrefused, unrefused_inside}
use Rattle.s38_laws_bounds.proofs.PlaceLaws.{suits_row}
use Rattle.s38_laws_bounds.proofs.FitLaws.{SuitsRow}
use Rattle.s38_laws_bounds.specs.Inside.{LiesInside, has_bytes, has_cells}
use Rattle.s38_laws_bounds.specs.Placed.{AreCellsPlaced, ArePlaced}
use Rattle.s38_laws_bounds.specs.Suited.{SuitsTable, all_suit, attr_of, fills_cells, has_cells_of, same_length}

-- ---- how many cells are copied

all_there : (at len count : ℕ) → nat_le (at + len) (16 * count) ≡ true → (at % 16 == 0) ≡ true → len % 16 ≡ 0 → 16 * min (len / 16) (count - at / 16) ≡ len
all_there at len count within aligned fills =
    let low : at + len ≤ 16 * count = grind (arith, nat_tests) in
    let even : at % 16 ≡ 0 = grind (arith, nat_tests) in
    omega (arith, low, even, fills)

cells_all : (h : Held) (n at : ℕ) (len : ℕ) → has_bytes h n at len ≡ true → is_aligned at ≡ true → len % 16 ≡ 0 → 16 * length (cells_there (cells_at h n) at len) ≡ len
cells_all h n at len inside aligned fills =
    let cells = cells_at h n in
    let within = (and_parts (is_some (part_at space_part h n)) (is_within at len cells) inside).1 in
    let found : cells_there cells at len ≡ cells_in at len cells = ap (λ b. cond b (cells_in at len cells) []) (and_from (is_within at len cells) (is_aligned at) within aligned) in
    let count : length (cells_there cells at len) ≡ length (cells_in at len cells) = ap (λ (l : List Cell). length l) found in
    let size : length (cells_in at len cells) ≡ min (len / 16) (length cells - at / 16) =
    length-take (len / 16) (drop (at / 16) cells) ∙ ap (min (len / 16)) (length-drop (at / 16) cells) in
    let all = all_there at len (length cells) within aligned fills in
    omega (arith, count, size, all)

-- an operand that has cells reads as cells for all of its bytes
source_all : (h : Held) (x : Operand) → has_cells_of x ≡ true → length_of (attr_of x) % 16 ≡ 0 → LiesInside h x → is_unaligned (Some x) ≡ false → 16 * length (cells_of h (Some x)) ≡ length_of (attr_of x)
source_all h (operands.Ptr p) has fills inside aligned = omega arith
source_all h (operands.InSpace base offset attr) has fills inside aligned =
    cells_all h (target_of base) (start_of base offset) (length_of attr) (and_parts (has_bytes h (target_of base) (start_of base offset) (length_of attr)) _ inside).0
    (not_false (is_aligned (start_of base offset)) aligned) fills
source_all h _ has fills inside aligned = cc

-- ---- CPYBWP

cells_inside : (h : Held) (n start len : ℕ) → has_bytes h n start len ≡ true → not (is_aligned start) ≡ false → has_cells h n start len ≡ true
cells_inside h n start len bytes aligned = and_from (has_bytes h n start len) (is_aligned start) bytes (not_false (is_aligned start) aligned)

copied_inside : (s : State) (ops : List Operand) → all_suit (CellsReceiver ∷ CellsSource ∷ []) ops ≡ true → same_length ops ≡ true → All (LiesInside s.held) ops
    → is_unaligned (place ops 1) ≡ false → is_unaligned (place ops 2) ≡ false → AreCellsPlaced s.held (place ops 1) (source_cells s.held ops 2)
copied_inside s (operands.InSpace base offset attr ∷ y ∷ more) suited same all one two =
    let n = target_of base in
    let start = start_of base offset in
    let x = operands.InSpace base offset attr in
    let first = and_parts (fills_cells x) _ suited in
    let second = and_parts (has_cells_of y) _ first.1 in
    let long : length_of attr ≡ length_of (attr_of y) = grind (arith, nat_tests) in
    let fills : length_of (attr_of y) % 16 ≡ 0 = subst (λ len. len % 16 ≡ 0) long (grind (arith, nat_tests, first.0)) in
    let item = All-head (LiesInside s.held) x (y ∷ more) all in
    let source = All-head (LiesInside s.held) y more (All-tail (LiesInside s.held) x (y ∷ more) all) in
    let count = source_all s.held y second.0 fills source two in
    (count ∙ sym long, cells_inside s.held n start (length_of attr) (and_parts (has_bytes s.held n start (length_of attr)) _ item).0 one)
copied_inside s (operands.InSpace base offset attr ∷ []) suited same all one two = cc
copied_inside s _ suited same all one two = tt

-- what passed the rules of its row
abbrev Unrefused : Instruction → State → ℕ → ℕ → Request → Type 0
Unrefused i s p d t = refused_by i s p d t ≡ None

spaces_placed : (op : Op) (s : State) (p d : ℕ) (t : Request) → SuitsRow op t.operands → Unrefused (spaces_row op) s p d t → ArePlaced s p ((spaces_row op).changes s p d t)
unfolding spaces_row classes operand_rule cpybwp_fails
spaces_placed Cpybwp s p d t suited may =
    let one = fails (is_unaligned (place t.operands 1)) exceptions.boundary_alignment 1 in
    let two = fails (is_unaligned (place t.operands 2)) exceptions.boundary_alignment 2 in
    let rules = first_none one two (rule_met _ s p d t may) in
    copied_inside s t.operands suited.classes suited.ruled (unrefused_inside _ s p d t may)
    (fails_none (is_unaligned (place t.operands 1)) exceptions.boundary_alignment 1 rules.0)
    (fails_none (is_unaligned (place t.operands 2)) exceptions.boundary_alignment 2 rules.1)
spaces_placed _ s p d t suited may = tt

-- ---- the other families copy no cells

contexts_placed : (op : Op) (s : State) (p d : ℕ) (t : Request) → ArePlaced s p ((contexts_row op).changes s p d t)
unfolding contexts_row
contexts_placed Crtctx s p d t = tt
contexts_placed _ s p d t = tt

profiles_placed : (op : Op) (s : State) (p d : ℕ) (t : Request) → ArePlaced s p ((profiles_row op).changes s p d t)
unfolding profiles_row
profiles_placed Crtup s p d t = tt
profiles_placed _ s p d t = tt

grants_placed : (op : Op) (s : State) (p d : ℕ) (t : Request) → ArePlaced s p ((grants_row op).changes s p d t)
unfolding grants_row
grants_placed Grant s p d t = tt
grants_placed _ s p d t = tt

programs_placed : (op : Op) (s : State) (p d : ℕ) (t : Request) → ArePlaced s p ((programs_row op).changes s p d t)
unfolding programs_row
programs_placed Callx s p d t = tt
programs_placed _ s p d t = tt

locks_placed : (op : Op) (s : State) (p d : ℕ) (t : Request) → ArePlaced s p ((locks_row op).changes s p d t)
unfolding locks_row
locks_placed Lock s p d t = tt
locks_placed _ s p d t = tt

resolving_placed : (op : Op) (s : State) (p d : ℕ) (t : Request) → ArePlaced s p ((resolving_row op).changes s p d t)
unfolding resolving_row
resolving_placed Rslvsp s p d t = tt
resolving_placed _ s p d t = tt

queues_placed : (op : Op) (s : State) (p d : ℕ) (t : Request) → ArePlaced s p ((queues_row op).changes s p d t)
unfolding queues_row
queues_placed Crtq s p d t = tt
queues_placed _ s p d t = tt

indexes_placed : (op : Op) (s : State) (p d : ℕ) (t : Request) → ArePlaced s p ((indexes_row op).changes s p d t)
unfolding indexes_row
indexes_placed Crtinx s p d t = tt
indexes_placed _ s p d t = tt

data_spaces_placed : (op : Op) (s : State) (p d : ℕ) (t : Request) → ArePlaced s p ((data_spaces_row op).changes s p d t)
unfolding data_spaces_row
data_spaces_placed Insdsen s p d t = (tt, tt)
data_spaces_placed _ s p d t = tt

journals_placed : (op : Op) (s : State) (p d : ℕ) (t : Request) → ArePlaced s p ((journals_row op).changes s p d t)
unfolding journals_row
journals_placed Jrnlobj s p d t = (tt, tt)
journals_placed _ s p d t = tt

row_placed : (f : Family) (s : State) (p d : ℕ) (t : Request) → SuitsRow t.op t.operands → Unrefused (row_in f t.op) s p d t → ArePlaced s p ((row_in f t.op).changes s p d t)
unfolding row_in
row_placed families.Resolving s p d t suited may = resolving_placed t.op s p d t
row_placed families.Contexts s p d t suited may = contexts_placed t.op s p d t
row_placed families.Profiles s p d t suited may = profiles_placed t.op s p d t
row_placed families.Grants s p d t suited may = grants_placed t.op s p d t
row_placed families.Programs s p d t suited may = programs_placed t.op s p d t
row_placed families.Locks s p d t suited may = locks_placed t.op s p d t
row_placed families.Spaces s p d t suited may = spaces_placed t.op s p d t suited may
row_placed families.Queues s p d t suited may = queues_placed t.op s p d t
row_placed families.Indexes s p d t suited may = indexes_placed t.op s p d t
row_placed families.DataSpaces s p d t suited may = data_spaces_placed t.op s p d t
row_placed families.Journals s p d t suited may = journals_placed t.op s p d t
row_placed _ s p d t suited may = tt

pub cells_placed : (s : State) (p d : ℕ) (t : Request) → ruled_verdict s p (Act d t) ≡ Permit → SuitsTable t → ArePlaced s p ((row t.op).changes s p d t)
cells_placed s p d t may suited = row_placed (family_of t.op) s p d t (suits_row t suited) (unrefused s p d t may)
