-- Bodies keep their form in each step: one clause for each instruction that makes a program or says special authorities.
use Rattle.std.proofs.Common.{Bool, List, [], ap, arith, cond, false, refl, suc, true, zero, ℕ, ◌%◌, ◌*◌, ◌/◌, ◌<◌, ◌∙◌, ◌≡◌}
use Rattle.std.proofs.lemmas.Nat.Bits.{and_high}
use Rattle.std.proofs.lemmas.Bool.Decides.{nat_tests}
use Rattle.std.specs.Option.{option_map}
use Rattle.std.specs.Prelude.{None, Option, Some, bit_and, find, max, min, nat_le, ◌&&◌, ◌==◌}
use Rattle.s38_base.specs.Pointers.{target_of}
use Rattle.s38_base.specs.declared.op.Op.TheVariants.{Crtctx, Crtds, Crtinx, Crtjs, Crtpg, Crtq, Crts, Crtup, Deq, Enq, Grant, Insdsen, Jrnlobj, Lock, Modup, Rslvsp}
use Rattle.s38_base.specs.declared.op.Op.{Op}
use Rattle.s38_code.specs.Operations.{family_of}
use Rattle.s38_code.specs.declared.event.Event.TheVariants.{Act, Finish, Start}
use Rattle.s38_code.specs.declared.event.Event.{Event}
use Rattle.s38_code.specs.declared.event.Request.{Request}
use Rattle.s38_code.specs.declared.family.Family.TheVariants as families
use Rattle.s38_code.specs.declared.family.Family.{Family}
use Rattle.s38_code.specs.declared.made.CheckedTemplate.{CheckedTemplate}
use Rattle.s38_code.specs.declared.made.CreateResult.TheVariants.{Created, Refused}
use Rattle.s38_code.specs.declared.made.CreateResult.{CreateResult}
use Rattle.s38_code.specs.declared.operand.Operand.TheVariants as operands
use Rattle.s38_code.specs.declared.operand.Operand.{Operand}
use Rattle.s38_code.specs.declared.reply.Val.TheVariants as vals
use Rattle.s38_code.specs.declared.reply.Val.{Val}
use Rattle.s38_laws_images.proofs.form.WordLaws.{Hold, MadeSo, May, all_decommitted_hold, done_hold, forced_hold, space_hold}
use Rattle.s38_image.specs.Bodies.{is_special_byte}
use Rattle.s38_image_writer.proofs.DataLaws.{found_fits}
use Rattle.s38_queues.specs.MessageQueue.{MessageQueue, is_keyed, longest_key, without_place}
use Rattle.s38_laws_images.specs.readable.Forms.{has_keys}
use Rattle.s38_laws_images.specs.readable.Templates.{AreMade, IsMade}
use Rattle.s38_rules.proofs.StoreLaws.{stored_holds}
use Rattle.s38_rules.specs.state.Cells.{with_bytes, with_pointer}
use Rattle.s38_rules.specs.families.Changes.{done}
use Rattle.s38_rules.specs.families.Computing.{receiver_at, shift_at}
use Rattle.s38_rules.specs.families.Contexts.{contexts_row}
use Rattle.s38_rules.specs.families.DataSpaces.{data_spaces_row}
use Rattle.s38_rules.specs.step.Effect.{effect, effect_of, end_at, start_at}
use Rattle.s38_rules.specs.families.Grants.{grants_row}
use Rattle.s38_rules.specs.state.Held.{Held}
use Rattle.s38_rules.specs.families.Indexes.{indexes_row}
use Rattle.s38_rules.specs.families.Instruction.{Instruction}
use Rattle.s38_rules.specs.families.Journals.{journals_row}
use Rattle.s38_rules.specs.families.Locking.{locks_row}
use Rattle.s38_rules.specs.ask.Operands.{place, whole_at, word_at}
use Rattle.s38_rules.specs.ask.Receivers.{delivered, put_value}
use Rattle.s38_rules.specs.families.Profiles.{profiles_row}
use Rattle.s38_rules.specs.families.Programs.{program_in, programs_row, template_in, template_is_named}
use Rattle.s38_rules.specs.families.Queues.{order_of, queues_row}
use Rattle.s38_rules.specs.families.Resolving.{resolving_row}
use Rattle.s38_rules.specs.families.Rows.{row, row_in as instruction_in}
use Rattle.s38_rules.specs.families.Spaces.{spaces_row}
use Rattle.s38_rules.specs.state.State.{State, process_entry, waits}
use Rattle.s38_rules.specs.step.Step.{awake_verdict, by_verdict, by_waiting, step}
use Rattle.s38_rules.specs.declared.object.Body.TheVariants as bodies
use Rattle.s38_rules.specs.declared.process.ProcessEntry.{ProcessEntry}
use Rattle.s38_rules.specs.declared.verdict.Verdict.TheVariants.{Permit, Refuse, Wait}
use Rattle.s38_rules.specs.declared.verdict.Verdict.{Verdict}

abbrev pub MayRow : Instruction → Type 0
MayRow i = (s : State) (p d : ℕ) (t : Request) → AreMade s.templates → May s p (i.changes s p d t)

-- ---- profiles

two_bits : (n : ℕ) → n < 4 → is_special_byte (n * 64) ≡ true
two_bits zero lt = refl
two_bits (suc zero) lt = refl
two_bits (suc (suc zero)) lt = refl
two_bits (suc (suc (suc zero))) lt = refl
two_bits (suc (suc (suc (suc n)))) lt = absurd (omega (arith, lt))

special_said : (word : ℕ) → is_special_byte (bit_and word 192) ≡ true
special_said word =
    let few : word / 64 % 4 < 4 = omega arith in
    ap is_special_byte (and_high word 2 6) ∙ two_bits (word / 64 % 4) few

profiles_may : (op : Op) → MayRow (profiles_row op)
unfolding profiles_row
profiles_may Crtup = λ s p d t made. special_said (word_at t.operands 3)
profiles_may Modup = λ s p d t made. special_said (word_at t.operands 2)
profiles_may _ = λ s p d t made. tt

-- ---- programs

made_so : (x : CreateResult) → IsMade x → MadeSo (option_map bodies.Program (program_in (Some (record { name = []; made = x }))))
made_so (Created program) made = made
made_so (Refused id number) made = tt

found_so : (x : Option CheckedTemplate) → ((t : CheckedTemplate) → x ≡ Some t → IsMade t.made) → MadeSo (option_map bodies.Program (program_in x))
found_so None made = tt
found_so (Some t) made = made_so t.made (made t refl)

program_so : (templates : List CheckedTemplate) (operand : Option Operand) → AreMade templates → MadeSo (option_map bodies.Program (program_in (template_in templates operand)))
program_so templates (Some (operands.Text name)) made = found_so (find (template_is_named name) templates) (λ t is. (found_fits (λ x. IsMade x.made) (template_is_named name) templates t made is).0)
program_so templates _ made = tt

programs_may : (op : Op) → MayRow (programs_row op)
unfolding programs_row
programs_may Crtpg = λ s p d t made. program_so s.templates (place t.operands 5) made
programs_may _ = λ s p d t made. tt

-- ---- the other families

resolving_may : (op : Op) → MayRow (resolving_row op)
unfolding resolving_row
resolving_may Rslvsp = λ s p d t made. tt
resolving_may _ = λ s p d t made. tt

contexts_may : (op : Op) → MayRow (contexts_row op)
unfolding contexts_row
contexts_may Crtctx = λ s p d t made. tt
contexts_may _ = λ s p d t made. tt

grants_may : (op : Op) → MayRow (grants_row op)
unfolding grants_row
grants_may Grant = λ s p d t made. tt
grants_may _ = λ s p d t made. tt

locks_may : (op : Op) → MayRow (locks_row op)
unfolding locks_row
locks_may Lock = λ s p d t made. tt
locks_may _ = λ s p d t made. tt

spaces_may : (op : Op) → MayRow (spaces_row op)
unfolding spaces_row
spaces_may Crts = λ s p d t made. tt
spaces_may _ = λ s p d t made. tt

made_keys : (keyed : Bool) (n : ℕ) → cond keyed (nat_le 1 (cond keyed (max 1 (min longest_key n)) 0) && nat_le (cond keyed (max 1 (min longest_key n)) 0) longest_key) (cond keyed (max 1 (min longest_key n)) 0 == 0) ≡ true
made_keys true n = grind (arith, nat_tests)
made_keys false n = refl

left_keys : (q : MessageQueue) (at : Option ℕ) → has_keys q.order q.key_len ≡ true → has_keys (without_place q at).order (without_place q at).key_len ≡ true
left_keys q None has = has
left_keys q (Some at) has = has

queues_may : (op : Op) → MayRow (queues_row op)
unfolding queues_row
queues_may Crtq = λ s p d t made. made_keys (is_keyed (order_of (word_at t.operands 5))) (whole_at t.operands 6)
queues_may Enq = λ s p d t made q has. has
queues_may Deq = λ s p d t made q has. left_keys q _ has
queues_may _ = λ s p d t made. tt

indexes_may : (op : Op) → MayRow (indexes_row op)
unfolding indexes_row
indexes_may Crtinx = λ s p d t made. tt
indexes_may _ = λ s p d t made. tt

data_spaces_may : (op : Op) → MayRow (data_spaces_row op)
unfolding data_spaces_row
data_spaces_may Crtds = λ s p d t made. tt
data_spaces_may Insdsen = λ s p d t made. (tt, tt)
data_spaces_may _ = λ s p d t made. tt

journals_may : (op : Op) → MayRow (journals_row op)
unfolding journals_row
journals_may Crtjs = λ s p d t made. tt
journals_may Jrnlobj = λ s p d t made. (tt, tt)
journals_may _ = λ s p d t made. tt

row_may : (f : Family) (op : Op) → MayRow (instruction_in f op)
unfolding instruction_in
row_may families.Computing op = λ s p d t made. tt
row_may families.Resolving op = resolving_may op
row_may families.Contexts op = contexts_may op
row_may families.Profiles op = profiles_may op
row_may families.Grants op = grants_may op
row_may families.Programs op = programs_may op
row_may families.Locks op = locks_may op
row_may families.Spaces op = spaces_may op
row_may families.Queues op = queues_may op
row_may families.Indexes op = indexes_may op
row_may families.DataSpaces op = data_spaces_may op
row_may families.Journals op = journals_may op
row_may _ op = λ s p d t made. tt

-- ---- an event, and a step

value_hold : (h : Held) (n at : ℕ) (v : Val) → Hold h → Hold (put_value h n at v)
value_hold h n at (vals.Bytes bytes) all = space_hold h n (with_bytes at bytes) all
value_hold h n at (vals.Ptr p) all = space_hold h n (with_pointer at p) all
value_hold h n at _ all = all

delivered_hold : (s : State) (shift : ℕ) (receiver : Option Operand) (v : Option Val) → Hold s.held → Hold (delivered s shift receiver v).state.held
delivered_hold s shift receiver None all = all
delivered_hold s shift (Some (operands.InSpace base offset attr)) (Some v) all = value_hold s.held (target_of base) _ v all
delivered_hold s shift _ (Some v) all = all

act_hold : (s : State) (p d : ℕ) (t : Request) → AreMade s.templates → Hold s.held → Hold (effect (row t.op) s p d t).state.held
unfolding effect
act_hold s p d t made all =
    let x = (row t.op).changes s p d t in
    delivered_hold (done s p x) (shift_at s.held t.op t.operands) (receiver_at t.op t.operands) ((row t.op).gives s p d t) (done_hold x s p (row_may (family_of t.op) t.op s p d t made) all)

start_hold : (s : State) (p : ℕ) (x : Option ProcessEntry) → Hold s.held → Hold (start_at s p x).held
start_hold s p None all = all
start_hold s p (Some x) all = all

finish_hold : (s : State) (p : ℕ) (x : Option ProcessEntry) → Hold s.held → Hold (end_at s p x).held
finish_hold s p None all = all
finish_hold s p (Some x) all = all_decommitted_hold s.units s p all

event_hold : (s : State) (p : ℕ) (e : Event) → AreMade s.templates → Hold s.held → Hold (effect_of s p e).state.held
unfolding effect_of
event_hold s p Start made all = start_hold s p (process_entry s p) all
event_hold s p (Act d t) made all = act_hold s p d t made all
event_hold s p (Finish cause) made all = finish_hold s p (process_entry s p) all

verdict_hold : (s : State) (p : ℕ) (e : Event) (v : Verdict) → AreMade s.templates → Hold s.held → Hold (by_verdict s p e v).state.held
verdict_hold s p e Permit made all = stored_holds Hold forced_hold s p e (effect_of s p e).state (event_hold s p e made all)
verdict_hold s p e Wait made all = all
verdict_hold s p e (Refuse x) made all = all

pub step_hold : (s : State) (p : ℕ) (e : Event) → AreMade s.templates → Hold s.held → Hold (step s p e).state.held
unfolding step
step_hold s p e made all = by (waits s p)
  where
    by : (b : Bool) → Hold (by_waiting b s p e).state.held
    by true = all
    by false = verdict_hold s p e (awake_verdict s p e) made all
