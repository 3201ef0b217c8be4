-- A call that the rules permit goes into a program that is there, gives it, and puts its number among the frames.
use Rattle.std.proofs.Common.{◌<◌, ◌∙◌, ◌∷◌, ◌≡◌, ◌⊎◌, Bool, List, [], ap, arith, cond, false, inl, inr, refl, subst, sym, true, ℕ}
use Rattle.std.proofs.lemmas.Bool.Decides.{nat_tests}
use Rattle.std.specs.Option.{option_map}
use Rattle.std.specs.Prelude.{None, Option, Some, nat_le, not}
use Rattle.s38_base.specs.Exceptions as exceptions
use Rattle.s38_base.specs.Pointers.{object_of, target_of}
use Rattle.s38_base.specs.RightNames as rights
use Rattle.s38_base.specs.declared.exception.Exception.{Exception}
use Rattle.s38_base.specs.declared.id.Kind.TheVariants as kinds
use Rattle.s38_base.specs.declared.op.Op.TheVariants.{Callx, Xctl}
use Rattle.s38_base.specs.declared.op.Op.{Op}
use Rattle.s38_base.specs.declared.pointer.Pointer.{Pointer}
use Rattle.s38_base.specs.declared.words.Category.TheVariants.{Read}
use Rattle.s38_base.specs.Ids.{same_kind}
use Rattle.s38_code.specs.Operations.{family_of}
use Rattle.s38_code.specs.declared.event.Event.TheVariants.{Act}
use Rattle.s38_code.specs.declared.event.Request.{Request}
use Rattle.s38_code.specs.declared.operand.Operand.{Operand}
use Rattle.s38_code.specs.declared.program.Program.{Program}
use Rattle.s38_code.specs.declared.reply.Val.TheVariants as vals
use Rattle.s38_code.specs.declared.reply.Val.{Val}
use Rattle.s38_rules.proofs.RoomLaws.{permitted_by_rules}
use Rattle.s38_rules.proofs.RuleLaws.{fails_none, first_none, not_false}
use Rattle.s38_rules.proofs.VerdictLaws.{permitted_none, rule_met}
use Rattle.s38_rules.specs.families.Changes.{Framed, done}
use Rattle.s38_rules.specs.families.Computing.{is_call, receiver_at, shift_at}
use Rattle.s38_rules.specs.step.Effect.{effect, effect_of}
use Rattle.s38_rules.specs.state.Held.{Held, kind_of, object}
use Rattle.s38_rules.specs.families.Instruction.{Instruction}
use Rattle.s38_rules.specs.state.Invocations.{frames_used, most_frames, pushed, replaced, stack_of}
use Rattle.s38_rules.specs.ask.Operands.{pointer_at, target}
use Rattle.s38_rules.specs.ask.Receivers.{delivered}
use Rattle.s38_rules.specs.families.Programs.{programs_row}
use Rattle.s38_rules.specs.families.Calls.{argument_rule, call_gives, call_needs, callx_fails, code_of, frame_rule, program_at}
use Rattle.s38_rules.specs.families.Rows.{row, row_in}
use Rattle.s38_rules.specs.state.State.{State}
use Rattle.s38_rules.specs.step.Step.{awake_verdict}
use Rattle.s38_rules.specs.step.Verdict.{refused_by, ruled_verdict}
use Rattle.s38_rules.specs.ask.AddressRules.{address_rule, address_rules, by_operand, is_pointer, is_sought, item_rule, needs_rule, object_rule, pointer_rule}
use Rattle.s38_rules.specs.declared.verdict.Verdict.TheVariants.{Permit}
use Rattle.s38_rules.specs.declared.need.Claim.TheVariants.{Available}
use Rattle.s38_rules.specs.declared.need.Named.TheVariants.{Written}
use Rattle.s38_rules.specs.declared.need.Need.{Need}
use Rattle.s38_rules.specs.declared.need.PointerKind.TheVariants as pointer_kinds
use Rattle.s38_rules.specs.declared.need.Sought.TheVariants.{Of}
use Rattle.s38_rules.specs.declared.object.Body.TheVariants as bodies
use Rattle.s38_rules.specs.declared.object.Body.{Body}
use Rattle.s38_rules.specs.declared.object.Object.{Object}

-- ---- the program is there

-- the program that the first operand names
pub record Reaches (h : Held) (ops : List Operand) : Type 0 where
  pub o : Object
  pub program : Program
  pub there : object h (target h ops 1) ≡ Some o
  pub code : code_of o.body ≡ Some program

passed : (b : Bool) (more : Option Exception) (x : Exception) → cond b more (Some x) ≡ None → more ≡ None
passed true more x h = h
passed false more x h = cc

is_program : (b : Body) → same_kind kinds.Program (kind_of b) ≡ true → (program : Program) × (code_of b ≡ Some program)
is_program (bodies.Program program) h = (program, refl)
is_program bodies.Context h = cc
is_program (bodies.Profile special limit) h = cc
is_program (bodies.Space cells) h = cc
is_program (bodies.Queue q) h = cc
is_program (bodies.Index index) h = cc
is_program (bodies.DataSpace held) h = cc
is_program (bodies.Cursor cursor) h = cc
is_program (bodies.Port port) h = cc
is_program (bodies.Journal journal) h = cc
is_program (bodies.Block block) h = cc

sought : (h : Held) (ops : List Operand) (need : Need) (y : Option Object) → need.sought ≡ Of kinds.Program → object h (target h ops 1) ≡ y → object_rule need y ≡ None → Reaches h ops
sought h ops need None is there rule = absurd (no_rule (subst (λ s. object_rule (record need { sought = s }) None ≡ None) is rule))
  where
    no_rule : object_rule (record need { sought = Of kinds.Program }) None ≡ None → ⊥
    no_rule e = cc
sought h ops need (Some o) is there rule =
    let of : is_sought need.sought o ≡ true = not_false (is_sought need.sought o) (fails_none (not (is_sought need.sought o)) exceptions.object_type_invalid need.place rule) in
    let program = is_program o.body (subst (λ s. is_sought s o ≡ true) is of) in
    record { o = o; program = program.0; there = there; code = program.1 }

pointed : (h : Held) (ops : List Operand) (need : Need) (x : Option Pointer) → need.sought ≡ Of kinds.Program → pointer_at h ops 1 ≡ x → pointer_rule h need x ≡ None → Reaches h ops
pointed h ops need None is at rule = cc
pointed h ops need (Some p) is at rule =
    let there : object h (target h ops 1) ≡ object h (object_of p) = ap (λ x. object h (target_of x)) at in
    sought h ops need (object h (object_of p)) is there (passed (is_pointer need.pointer p) (object_rule need (object h (object_of p))) _ rule)

-- what a call needs of its first operand
abbrev call_need : Need
call_need = record { place = 1; named = Written; pointer = pointer_kinds.System; sought = Of kinds.Program; rights = record { 0 = rights.retrieve }; claim = Available; category = Some Read }

addressed : (h : Held) (first : Operand) (more : List Operand) → address_rules h (first ∷ more) call_needs ≡ None → Reaches h (first ∷ more)
unfolding address_rules address_rule call_needs
addressed h x more rule =
    let ops = x ∷ more in
    let one = first_none (item_rule h 1 x) _ rule in
    let two = first_none (needs_rule (address_rule h ops) call_needs 1) (by_operand (item_rule h) (address_rule h ops) call_needs 2 more) one.1 in
    let three = first_none (pointer_rule h call_need (pointer_at h ops 1)) None two.0 in
    pointed h ops call_need (pointer_at h ops 1) refl refl three.0

-- ---- the row of a call

pub call_by : (op : Op) → is_call op ≡ true → (op ≡ Callx) ⊎ (op ≡ Xctl)
call_by Callx h = inl refl
call_by Xctl h = inr refl
call_by _ h = cc

abbrev CallRow : Instruction → Type 0
CallRow i = (s : State) (p d : ℕ) (t : Request) → (i.needs s p d t ≡ call_needs) × (i.gives s p d t ≡ call_gives s.held t.operands)

callx_row : CallRow (row Callx)
unfolding row_in programs_row family_of
callx_row s p d t = (refl, refl)

xctl_row : CallRow (row Xctl)
unfolding row_in programs_row family_of
xctl_row s p d t = (refl, refl)

call_row : (op : Op) → is_call op ≡ true → CallRow (row op)
call_row op is = elim (call_by op is) as (λ _. CallRow (row op)) [
  | inl call ↦ subst (λ o. CallRow (row o)) (sym call) callx_row
  | inr transfer ↦ subst (λ o. CallRow (row o)) (sym transfer) xctl_row
]

no_receiver : (op : Op) (ops : List Operand) → is_call op ≡ true → receiver_at op ops ≡ None
no_receiver Callx ops h = refl
no_receiver Xctl ops h = refl
no_receiver _ ops h = cc

-- ---- a call that is permitted

pub permitted_unrefused : (s : State) (p d : ℕ) (t : Request) → awake_verdict s p (Act d t) ≡ Permit → refused_by (row t.op) s p d t ≡ None
unfolding ruled_verdict
permitted_unrefused s p d t may = permitted_none s p t (refused_by (row t.op) s p d t) (permitted_by_rules s p (Act d t) may)

-- it goes into the program that its first operand names, if it has one
pub call_reaches : (s : State) (p d : ℕ) (t : Request) (first : Operand) (more : List Operand) → is_call t.op ≡ true → t.operands ≡ first ∷ more → refused_by (row t.op) s p d t ≡ None → Reaches s.held t.operands
unfolding refused_by
call_reaches s p d t first more call some unrefused =
    let one = (first_none (address_rules s.held t.operands ((row t.op).needs s p d t)) _ unrefused).0 in
    let two : address_rules s.held t.operands call_needs ≡ None = subst (λ wanted. address_rules s.held t.operands wanted ≡ None) (call_row t.op call s p d t).0 one in
    subst (Reaches s.held) (sym some) (addressed s.held first more (subst (λ ops. address_rules s.held ops call_needs ≡ None) some two))

-- the program at the first operand
pub reached_program : (h : Held) (ops : List Operand) → (reached : Reaches h ops) → program_at h ops ≡ Some reached.program
reached_program h ops reached = ap code_there reached.there ∙ reached.code
  where
    code_there : Option Object → Option Program
    code_there None = None
    code_there (Some o) = code_of o.body

given_back : (s : State) (shift : ℕ) (receiver : Option Operand) (v : Option Val) (x : Val) → receiver ≡ None → v ≡ Some x → (delivered s shift receiver v).values ≡ x ∷ []
given_back s shift receiver v x none is = ap (λ r. (delivered s shift r v).values) none ∙ ap (λ w. (delivered s shift None w).values) is

-- and gives it
pub call_values : (s : State) (p d : ℕ) (t : Request) → is_call t.op ≡ true → (reached : Reaches s.held t.operands) → (effect_of s p (Act d t)).values ≡ vals.Code reached.program ∷ []
unfolding effect_of effect call_gives
call_values s p d t call reached =
    let at = reached_program s.held t.operands reached in
    given_back (done s p ((row t.op).changes s p d t)) (shift_at s.held t.op t.operands) (receiver_at t.op t.operands) ((row t.op).gives s p d t) (vals.Code reached.program)
    (no_receiver t.op t.operands call) ((call_row t.op call s p d t).1 ∙ ap (option_map vals.Code) at)

callx_frames_by : (s : State) (p d : ℕ) (t : Request) → (row Callx).changes s p d t ≡ Framed (pushed d (record { 0 = target s.held t.operands 1 }))
unfolding row_in programs_row family_of
callx_frames_by s p d t = refl

xctl_frames_by : (s : State) (p d : ℕ) (t : Request) → (row Xctl).changes s p d t ≡ Framed (replaced d (record { 0 = target s.held t.operands 1 }))
unfolding row_in programs_row family_of
xctl_frames_by s p d t = refl

pub callx_frames : (s : State) (p d : ℕ) (t : Request) → t.op ≡ Callx → (row t.op).changes s p d t ≡ Framed (pushed d (record { 0 = target s.held t.operands 1 }))
callx_frames s p d t is = ap (λ o. (row o).changes s p d t) is ∙ callx_frames_by s p d t

pub xctl_frames : (s : State) (p d : ℕ) (t : Request) → t.op ≡ Xctl → (row t.op).changes s p d t ≡ Framed (replaced d (record { 0 = target s.held t.operands 1 }))
xctl_frames s p d t is = ap (λ o. (row o).changes s p d t) is ∙ xctl_frames_by s p d t

-- a frame is left for it
callx_room_by : (s : State) (p d : ℕ) (t : Request) → (row Callx).fails s p d t ≡ None → frames_used d (stack_of s p) < most_frames
unfolding row_in programs_row family_of callx_fails
callx_room_by s p d t met =
    let full = fails_none (nat_le most_frames (frames_used d (stack_of s p))) exceptions.limit_exceeded 0 (first_none (argument_rule s.held t.operands) (frame_rule s p d) met).1 in
    grind (arith, nat_tests, full)

pub callx_room : (s : State) (p d : ℕ) (t : Request) → t.op ≡ Callx → refused_by (row t.op) s p d t ≡ None → frames_used d (stack_of s p) < most_frames
callx_room s p d t is unrefused = callx_room_by s p d t (subst (λ o. (row o).fails s p d t ≡ None) is (rule_met (row t.op) s p d t unrefused))
