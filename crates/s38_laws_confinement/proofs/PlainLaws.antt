-- The effect of what is asked plainly is plain, and so are those of a start and an end.
use Rattle.std.proofs.Common.{◌+◌, ◌≡◌, Bool, [], true, ℕ}
use Rattle.std.proofs.lemmas.Bool.{and_parts}
use Rattle.std.proofs.lemmas.List.Elements.{All-cons, All-nil}
use Rattle.std.specs.Prelude.{All, IfSome, None, Option, Some, not}
use Rattle.s38_base.specs.Pointers.{start_of, target_of}
use Rattle.s38_base.specs.declared.pointer.Pointer.{Pointer}
use Rattle.s38_code.specs.Operations.{family_of}
use Rattle.s38_code.specs.declared.event.EndCause.{EndCause}
use Rattle.s38_code.specs.declared.event.Event.TheVariants.{Finish, Start}
use Rattle.s38_code.specs.declared.event.Request.{Request}
use Rattle.s38_code.specs.declared.operand.Operand.TheVariants as operands
use Rattle.s38_code.specs.declared.operand.Operand.{Operand}
use Rattle.s38_code.specs.declared.reply.Val.TheVariants as vals
use Rattle.s38_code.specs.declared.reply.Val.{Val}
use Rattle.s38_rules.specs.state.Cells.{with_bytes, with_pointer}
use Rattle.s38_rules.specs.families.Changes.{done}
use Rattle.s38_rules.specs.families.Computing.{receiver_at, shift_at}
use Rattle.s38_rules.specs.step.Effect.{effect, effect_of, end_at, start_at}
use Rattle.s38_rules.specs.state.Held.{Held}
use Rattle.s38_rules.specs.ask.Receivers.{Done, deliver, delivered, put_value}
use Rattle.s38_rules.specs.families.Rows.{row}
use Rattle.s38_rules.specs.state.State.{State, process_entry}
use Rattle.s38_rules.specs.declared.process.ProcessEntry.{ProcessEntry}
use Rattle.s38_laws_confinement.proofs.PointerLaws.{bytes_put, pointer_put}
use Rattle.s38_laws_confinement.specs.OfPointers.{IsClosed, OfObjects, OfOperand, OfVal, OfVals}
use Rattle.s38_laws_confinement.specs.Plain.{IsPlain, Passes, asks_plainly, is_plain, makes_pointer}
use Rattle.s38_laws_confinement.proofs.PlainWordLaws.{Keeps, keeps_same, keeps_then, space_keeps, all_decommitted_keeps, not_true, done_keeps}
use Rattle.s38_laws_confinement.proofs.PlainRowLaws.{row_plain, given_by}

-- ---- what comes back

-- what a receiver in a space gets
value_keeps : (q : Pointer → Type 0) (h : Held) (n at : ℕ) (v : Val) → OfVal q v → Keeps q h (put_value h n at v)
value_keeps q h n at (vals.Bytes bytes) given = space_keeps q h n (with_bytes at bytes) (λ cells of. bytes_put q at bytes cells of)
value_keeps q h n at (vals.Ptr p) given = space_keeps q h n (with_pointer at p) (λ cells of. pointer_put q at p cells given of)
value_keeps q h n at _ given = keeps_same q h

-- what an effect leaves, and what it gives
abbrev pub KeepsDone : (Pointer → Type 0) → Held → Done → Type 0
KeepsDone q h done = Keeps q h done.state.held × OfVals q done.values

deliver_keeps : (q : Pointer → Type 0) (s : State) (shift : ℕ) (receiver : Option Operand) (v : Val) → OfVal q v → KeepsDone q s.held (deliver s shift receiver v)
deliver_keeps q s shift (Some (operands.InSpace base offset attr)) v given = (value_keeps q s.held (target_of base) (start_of base offset + shift) v given, All-nil (OfVal q))
deliver_keeps q s shift _ v given = (keeps_same q s.held, All-cons (OfVal q) v [] given (All-nil (OfVal q)))

pub delivered_keeps : (q : Pointer → Type 0) (s : State) (shift : ℕ) (receiver : Option Operand) (v : Option Val) → IfSome v (OfVal q) → KeepsDone q s.held (delivered s shift receiver v)
delivered_keeps q s shift receiver None given = (keeps_same q s.held, All-nil (OfVal q))
delivered_keeps q s shift receiver (Some v) given = deliver_keeps q s shift receiver v given

-- of the other families each row puts no pointer into a space and gives none, but that to a new object

-- what is asked plainly leaves owners and rights as they are, and gives no new pointer
pub plain_keeps : (q : Pointer → Type 0) → IsClosed q → (s : State) (p d : ℕ) (t : Request) → asks_plainly s p d t ≡ true → OfObjects q s.held.objects → All (OfOperand q) t.operands
    → Keeps q s.held (done s p ((row t.op).changes s p d t)).held × IfSome ((row t.op).gives s p d t) (OfVal q)
plain_keeps q closed s p d t plainly of asked =
    let x = (row t.op).changes s p d t in
    let both = and_parts (not (makes_pointer t.op)) (is_plain x) plainly in
    let own = row_plain q closed (family_of t.op) t.op (not_true (makes_pointer t.op) both.0) s p d t of asked in
    (done_keeps q x s p both.1 own.0, given_by q (is_plain x) ((row t.op).gives s p d t) both.1 own.1)

effect_keeps : (q : Pointer → Type 0) → IsClosed q → (s : State) (p d : ℕ) (t : Request) → asks_plainly s p d t ≡ true → OfObjects q s.held.objects → All (OfOperand q) t.operands
    → KeepsDone q s.held (effect (row t.op) s p d t)
unfolding effect
effect_keeps q closed s p d t plainly of asked =
    let i = row t.op in
    let after = done s p (i.changes s p d t) in
    let kept = plain_keeps q closed s p d t plainly of asked in
    let last = delivered_keeps q after (shift_at s.held t.op t.operands) (receiver_at t.op t.operands) (i.gives s p d t) kept.1 in
    (keeps_then q s.held after.held _ kept.0 last.0, last.1)

plain_by : (test : Pointer → Bool) (h : Held) (end : Done) → OfObjects (Passes test) h.objects → KeepsDone (Passes test) h end → IsPlain test h end
plain_by test h end of kept = record { next = kept.0.next; objects = kept.0.objects; pointers = kept.0.pointers of; values = kept.1 }

-- an effect is plain
pub effects_plain : (test : Pointer → Bool) (s : State) (p d : ℕ) (t : Request) → asks_plainly s p d t ≡ true → IsClosed (Passes test) → OfObjects (Passes test) s.held.objects
    → All (OfOperand (Passes test)) t.operands → IsPlain test s.held (effect (row t.op) s p d t)
effects_plain test s p d t plainly closed of asked = plain_by test s.held (effect (row t.op) s p d t) of (effect_keeps (Passes test) closed s p d t plainly of asked)

start_keeps : (q : Pointer → Type 0) (s : State) (p : ℕ) (x : Option ProcessEntry) → Keeps q s.held (start_at s p x).held
start_keeps q s p None = keeps_same q s.held
start_keeps q s p (Some x) = keeps_same q s.held

finish_keeps : (q : Pointer → Type 0) (s : State) (p : ℕ) (x : Option ProcessEntry) → Keeps q s.held (end_at s p x).held
finish_keeps q s p None = keeps_same q s.held
finish_keeps q s p (Some x) = all_decommitted_keeps q s.units s p

-- so is a start
pub starts_plain : (test : Pointer → Bool) (s : State) (p : ℕ) → OfObjects (Passes test) s.held.objects → IsPlain test s.held (effect_of s p Start)
unfolding effect_of
starts_plain test s p of = plain_by test s.held _ of (start_keeps (Passes test) s p (process_entry s p), All-nil (OfVal (Passes test)))

-- and an end
pub ends_plain : (test : Pointer → Bool) (s : State) (p : ℕ) (cause : EndCause) → OfObjects (Passes test) s.held.objects → IsPlain test s.held (effect_of s p (Finish cause))
unfolding effect_of
ends_plain test s p cause of = plain_by test s.held _ of (finish_keeps (Passes test) s p (process_entry s p), All-nil (OfVal (Passes test)))
