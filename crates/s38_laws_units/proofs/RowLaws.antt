-- Units stay right whatever a permitted instruction changes: one case for each word of change. Most words must meet
-- nothing; where one must, the rules of its row say that it does.
use Rattle.std.proofs.Common.{◌∷◌, ◌≡◌, Bool, List, [], cond, false, refl, true, ℕ}
use Rattle.std.proofs.lemmas.List.Elements.{All-nil}
use Rattle.std.specs.Option.{option_map}
use Rattle.std.specs.Prelude.{None, Option, Some, is_some}
use Rattle.s38_base.specs.Pointers.{start_of, target_of}
use Rattle.s38_base.specs.declared.attr.Attr.TheVariants as attrs
use Rattle.s38_base.specs.declared.attr.Attr.{Attr}
use Rattle.s38_base.specs.declared.id.Id.{Id}
use Rattle.s38_base.specs.declared.id.Kind.TheVariants as kinds
use Rattle.s38_base.specs.declared.id.Kind.{Kind}
use Rattle.s38_base.specs.declared.id.ObjNum.{ObjNum}
use Rattle.s38_base.specs.declared.op.Op.TheVariants.{Crtctx, Crtds, Crtinx, Crtpg, Crtq, Crts, Crtup, Deldsen, Descb, Desds, Desjp, Desjs, Grant, Insdsen, Jrnlobj, Lock, Rslvsp, Updsen}
use Rattle.s38_base.specs.declared.op.Op.{Op}
use Rattle.s38_code.specs.Operations.{family_of}
use Rattle.s38_code.specs.declared.event.Request.{Request}
use Rattle.s38_code.specs.declared.family.Family.TheVariants as families
use Rattle.s38_code.specs.declared.family.Family.{Family}
use Rattle.s38_code.specs.declared.operand.Operand.TheVariants as operands
use Rattle.s38_code.specs.declared.operand.Operand.{Operand}
use Rattle.s38_code.specs.declared.program.Program.{Program}
use Rattle.s38_code.specs.declared.reply.Val.TheVariants as vals
use Rattle.s38_code.specs.declared.reply.Val.{Val}
use Rattle.s38_commits.specs.Units.{is_space_changed, unit_of}
use Rattle.s38_dataspaces.specs.Table.{are_fields}
use Rattle.s38_memory.specs.Tagged.{resized}
use Rattle.s38_memory.specs.declared.cell.Cell.{Cell}
use Rattle.s38_rules.proofs.VerdictLaws.{rule_met}
use Rattle.s38_rules.proofs.RuleLaws.{fails_none, first_none}
use Rattle.s38_rules.specs.state.Cells.{with_bytes, with_cells, with_pointer}
use Rattle.s38_rules.specs.families.Changes.{CellsPut, Changes, Committed, Decommitted, Ensured, Entered, Framed, Gone, Journaled, Locked, Made, Moved, Named, OnAccess, OnCursor, OnIndex, OnQueue, Profiled, Resized, Stays, Then, done, made_by, renamed_by}
use Rattle.s38_rules.specs.families.Computing.{receiver_at, shift_at}
use Rattle.s38_rules.specs.families.Creation.{destroyed}
use Rattle.s38_rules.specs.state.Journaling.{journal_for}
use Rattle.s38_rules.specs.families.Contexts.{contexts_row}
use Rattle.s38_rules.specs.families.DataSpaces.{attributes_of, data_spaces_row, desds, desds_fails, new_data_space, proper_fields}
use Rattle.s38_rules.specs.step.Effect.{effect}
use Rattle.s38_rules.specs.families.Grants.{grants_row}
use Rattle.s38_rules.specs.state.Held.{Held, kept_on_disk}
use Rattle.s38_rules.specs.families.Indexes.{indexes_row}
use Rattle.s38_rules.specs.families.Instruction.{Instruction}
use Rattle.s38_rules.specs.state.Invocations.{restack_at}
use Rattle.s38_rules.specs.families.Journals.{desjs, desjs_fails, journals_row}
use Rattle.s38_rules.specs.families.CommitBlocks.{descb, descb_fails}
use Rattle.s38_rules.specs.families.Ports.{desjp, desjp_fails, is_attached, jrnlobj, jrnlobj_fails, port_is_used}
use Rattle.s38_rules.specs.families.Locking.{locks_row}
use Rattle.s38_rules.specs.ask.Operands.{cells_put, place}
use Rattle.s38_rules.specs.ask.Receivers.{deliver, delivered, put_value}
use Rattle.s38_rules.specs.state.Parts.{cursor_part, data_of, index_part, profile_part, queue_part, space_part}
use Rattle.s38_rules.specs.state.PartsAt.{on_space}
use Rattle.s38_rules.specs.state.LawfulParts.{cursor_lawful, index_lawful, profile_lawful, queue_lawful, space_lawful}
use Rattle.s38_rules.specs.families.Profiles.{profiles_row}
use Rattle.s38_rules.specs.families.Programs.{program_in, programs_row, template_at}
use Rattle.s38_rules.specs.families.Queues.{queues_row}
use Rattle.s38_rules.specs.families.Resolving.{resolving_row}
use Rattle.s38_rules.specs.families.Rows.{row, row_in}
use Rattle.s38_rules.specs.families.Spaces.{spaces_row}
use Rattle.s38_rules.specs.state.Access.{access_of, with_access}
use Rattle.s38_rules.specs.state.State.{State, process_entry}
use Rattle.s38_rules.specs.step.Verdict.{refused_by}
use Rattle.s38_rules.specs.declared.creating.Creating.{Creating}
use Rattle.s38_rules.specs.declared.data_body.DataBody.{DataBody}
use Rattle.s38_rules.specs.declared.object.Body.TheVariants as bodies
use Rattle.s38_rules.specs.declared.object.Body.{Body}
use Rattle.s38_rules.specs.declared.process.ProcessEntry.{ProcessEntry}
use Rattle.s38_laws_units.proofs.DestroyLaws.{right_block_gone, right_gone, right_journal_gone, right_port_gone, right_space_gone}
use Rattle.s38_laws_units.proofs.EndLaws.{commit_right, decommit_right}
use Rattle.s38_laws_units.proofs.EntryLaws.{MayEnter, deldsen_may, entered_right, insdsen_may, journaling_right, updsen_may}
use Rattle.s38_laws_units.proofs.HeldLaws.{Carries, carries_same, cursor_other, index_other, profile_other, queue_other, space_other, creation_carries, header_carries, other_carries}
use Rattle.s38_laws_units.proofs.KeptLaws.{right_carried}
use Rattle.s38_laws_units.specs.Right.{AreRight, IsData, IsEntryOf, IsRight}

-- ---- the words of change

space_carries : (h : Held) (n : ℕ) (f : List Cell → List Cell) → Carries h (on_space h n f)
space_carries h n f = other_carries space_part space_lawful space_other h n f

cells_carry : (h : Held) (operand : Option Operand) (piece : List Cell) → Carries h (cells_put h operand piece)
cells_carry h (Some (operands.InSpace base offset attr)) piece = space_carries h (target_of base) (with_cells (start_of base offset) piece)
cells_carry h _ piece = carries_same h

renamed_carries : (h : Held) (n : ℕ) (id : Option Id) → Carries h (renamed_by h n id)
renamed_carries h n None = carries_same h
renamed_carries h n (Some id) = header_carries h n (λ x. record x { id = id }) (λ x. refl) (λ x. refl)

abbrev pub data_in : Option Body → Option DataBody
data_in None = None
data_in (Some body) = data_of body

made_carries : (h : Held) (owner : ℕ) (made : Creating) (body : Option Body) → IsData (data_in body) → Carries h (made_by h owner made body)
made_carries h owner made None of = carries_same h
made_carries h owner made (Some body) of = creation_carries h owner made body of

restack_right : (f : List ObjNum → List ObjNum) (s : State) (p : ℕ) (x : Option ProcessEntry) → IsRight s → IsRight (restack_at f s p x)
restack_right f s p None right = right
restack_right f s p (Some x) right = right

-- nothing that a unit names is of an object that is destroyed
abbrev pub IsUnnamedBy : State → Kind → ℕ → Type 0
IsUnnamedBy s kinds.DataSpace n = is_space_changed s.units n ≡ false
IsUnnamedBy s kinds.Port n = port_is_used s.held n ≡ false
IsUnnamedBy s kinds.Journal n = is_attached s.held n ≡ false
IsUnnamedBy s kinds.Block n = is_some (unit_of s.units n) ≡ false
IsUnnamedBy s _ n = Unit {0}

kind_right : (s : State) (kind : Kind) (n : ℕ) → IsRight s → IsUnnamedBy s kind n → AreRight (destroyed s.held kind n) s.units
kind_right s kinds.DataSpace n right none = right_space_gone s.held s.units n right none
kind_right s kinds.Port n right none = right_port_gone s.held s.units n right none
kind_right s kinds.Journal n right none = right_journal_gone s.held s.units n right none
kind_right s kinds.Block n right none = right_block_gone s.held s.units n right none
kind_right s kinds.Context n right none = right_gone s.held s.units kinds.Context n right (refl, refl, refl, refl)
kind_right s kinds.Program n right none = right_gone s.held s.units kinds.Program n right (refl, refl, refl, refl)
kind_right s kinds.Profile n right none = right_gone s.held s.units kinds.Profile n right (refl, refl, refl, refl)
kind_right s kinds.Space n right none = right_gone s.held s.units kinds.Space n right (refl, refl, refl, refl)
kind_right s kinds.Queue n right none = right_gone s.held s.units kinds.Queue n right (refl, refl, refl, refl)
kind_right s kinds.Index n right none = right_gone s.held s.units kinds.Index n right (refl, refl, refl, refl)
kind_right s kinds.Cursor n right none = right_gone s.held s.units kinds.Cursor n right (refl, refl, refl, refl)

-- what a change must meet for the units to stay right: those of most words nothing
abbrev pub May : State → ℕ → Changes → Type 0
May s p (Entered block change f) = MayEnter s block change f
May s p (Journaled n port) = is_some (journal_for s.held n) ≡ false
May s p (Made owner made body) = IsData (data_in body)
May s p (Gone kind n) = IsUnnamedBy s kind n
May s p (Then a b) = May s p a × May (done s p a) p b
May s p _ = Unit {0}

pub done_right : (x : Changes) (s : State) (p : ℕ) → IsRight s → May s p x → IsRight (done s p x)
done_right Stays s p right may = right
done_right (OnQueue n f) s p right may = right_carried s.held _ s.units right (other_carries queue_part queue_lawful queue_other s.held n f)
done_right (OnIndex n f) s p right may = right_carried s.held _ s.units right (other_carries index_part index_lawful index_other s.held n f)
done_right (OnCursor n f) s p right may = right_carried s.held _ s.units right (other_carries cursor_part cursor_lawful cursor_other s.held n f)
done_right (Resized n bytes) s p right may = right_carried s.held _ s.units right (space_carries s.held n (resized bytes))
done_right (CellsPut operand piece) s p right may = right_carried s.held _ s.units right (cells_carry s.held operand piece)
done_right (Entered block change f) s p right may = entered_right s p block change f right may
done_right (Journaled n port) s p right may = journaling_right s.held s.units n port right may
done_right (OnAccess n f) s p right may = right_carried s.held _ s.units right (header_carries s.held n (λ x. with_access (f (access_of x)) x) (λ x. refl) (λ x. refl))
done_right (Profiled n special limit) s p right may =
    right_carried s.held _ s.units right (other_carries profile_part profile_lawful profile_other s.held n (λ _. (special, limit)))
done_right (Named n id) s p right may = right_carried s.held _ s.units right (renamed_carries s.held n id)
done_right (Moved n context) s p right may = right_carried s.held _ s.units right (header_carries s.held n (λ x. record x { context = context }) (λ x. refl) (λ x. refl))
done_right (Ensured n) s p right may = right_carried s.held _ s.units right (header_carries s.held n kept_on_disk (λ x. refl) (λ x. refl))
done_right (Made owner made body) s p right may = right_carried s.held _ s.units right (made_carries s.held owner made body may)
done_right (Gone kind n) s p right may = kind_right s kind n right may
done_right (Framed f) s p right may = restack_right f s p (process_entry s p) right
done_right (Locked n held) s p right may = right
done_right (Committed block) s p right may = commit_right s p block _ right refl
done_right (Decommitted block) s p right may = decommit_right s p block _ right refl
done_right (Then a b) s p right may = done_right b (done s p a) p (done_right a s p right may.0) may.1

-- ---- the rows whose changes must meet something: those of the objects that units name

-- a new data space is as it should be
fields_fit : (attributes : List Attr) → are_fields (proper_fields attributes) ≡ true
fields_fit attributes = by (are_fields attributes) refl
  where
    by : (b : Bool) → are_fields attributes ≡ b → are_fields (cond b attributes (attrs.Chars 1 ∷ [])) ≡ true
    by true is = is
    by false is = refl

new_table : (ops : List Operand) → IsData (Some (new_data_space ops))
new_table ops = record { fields = fields_fit (attributes_of (place ops 5)); entries = All-nil (IsEntryOf (new_data_space ops).space.fields) }

-- where no rule refuses an instruction, its changes meet what they must
abbrev pub MayRow : Instruction → Type 0
MayRow i = (s : State) (p d : ℕ) (t : Request) → IsRight s → refused_by i s p d t ≡ None → May s p (i.changes s p d t)

desds_may : MayRow desds
unfolding desds_fails
desds_may s p d t right e = fails_none _ _ _ (rule_met desds s p d t e)

data_spaces_may : (op : Op) → MayRow (data_spaces_row op)
unfolding data_spaces_row
data_spaces_may Crtds = λ s p d t right e. new_table t.operands
data_spaces_may Desds = desds_may
data_spaces_may Insdsen = λ s p d t right e. (insdsen_may s p d t right e, tt)
data_spaces_may Updsen = updsen_may
data_spaces_may Deldsen = deldsen_may
data_spaces_may _ = λ s p d t right e. tt

desjs_may : MayRow desjs
unfolding desjs_fails
desjs_may s p d t right e = fails_none _ _ _ (rule_met desjs s p d t e)

desjp_may : MayRow desjp
unfolding desjp_fails
desjp_may s p d t right e = fails_none _ _ _ (rule_met desjp s p d t e)

descb_may : MayRow descb
unfolding descb_fails
descb_may s p d t right e = fails_none _ _ _ (rule_met descb s p d t e)

jrnlobj_may : MayRow jrnlobj
unfolding jrnlobj_fails
jrnlobj_may s p d t right e = (fails_none _ _ _ (first_none _ _ (rule_met jrnlobj s p d t e)).0, tt)

journals_may : (op : Op) → MayRow (journals_row op)
unfolding journals_row
journals_may Desjs = desjs_may
journals_may Desjp = desjp_may
journals_may Descb = descb_may
journals_may Jrnlobj = jrnlobj_may
journals_may _ = λ s p d t right e. tt

program_data : (program : Option Program) → IsData (data_in (option_map bodies.Program program))
program_data None = tt
program_data (Some program) = tt

programs_may : (op : Op) → MayRow (programs_row op)
unfolding programs_row
programs_may Crtpg = λ s p d t right e. program_data (program_in (template_at s t.operands))
programs_may _ = λ s p d t right e. tt

-- of the other families each row is written in words that must meet nothing

contexts_may : (op : Op) → MayRow (contexts_row op)
unfolding contexts_row
contexts_may Crtctx = λ s p d t right e. tt
contexts_may _ = λ s p d t right e. tt

profiles_may : (op : Op) → MayRow (profiles_row op)
unfolding profiles_row
profiles_may Crtup = λ s p d t right e. tt
profiles_may _ = λ s p d t right e. tt

grants_may : (op : Op) → MayRow (grants_row op)
unfolding grants_row
grants_may Grant = λ s p d t right e. tt
grants_may _ = λ s p d t right e. tt

locks_may : (op : Op) → MayRow (locks_row op)
unfolding locks_row
locks_may Lock = λ s p d t right e. tt
locks_may _ = λ s p d t right e. tt

resolving_may : (op : Op) → MayRow (resolving_row op)
unfolding resolving_row
resolving_may Rslvsp = λ s p d t right e. tt
resolving_may _ = λ s p d t right e. tt

spaces_may : (op : Op) → MayRow (spaces_row op)
unfolding spaces_row
spaces_may Crts = λ s p d t right e. tt
spaces_may _ = λ s p d t right e. tt

queues_may : (op : Op) → MayRow (queues_row op)
unfolding queues_row
queues_may Crtq = λ s p d t right e. tt
queues_may _ = λ s p d t right e. tt

indexes_may : (op : Op) → MayRow (indexes_row op)
unfolding indexes_row
indexes_may Crtinx = λ s p d t right e. tt
indexes_may _ = λ s p d t right e. tt

pub row_may : (f : Family) (op : Op) → MayRow (row_in f op)
unfolding row_in
row_may families.Computing op = λ s p d t right e. tt
row_may families.Resolving op = resolving_may op
row_may families.Contexts op = contexts_may op
row_may families.Profiles op = profiles_may op
row_may families.Grants op = grants_may op
row_may families.Programs op = programs_may op
row_may families.Locks op = locks_may op
row_may families.Spaces op = spaces_may op
row_may families.Queues op = queues_may op
row_may families.Indexes op = indexes_may op
row_may families.DataSpaces op = data_spaces_may op
row_may families.Journals op = journals_may op
row_may _ op = λ s p d t right e. tt

-- ---- the value that comes back

pub value_carries : (h : Held) (n at : ℕ) (v : Val) → Carries h (put_value h n at v)
value_carries h n at (vals.Bytes bytes) = space_carries h n (with_bytes at bytes)
value_carries h n at (vals.Ptr p) = space_carries h n (with_pointer at p)
value_carries h n at _ = carries_same h

deliver_right : (s : State) (shift : ℕ) (receiver : Option Operand) (v : Val) → IsRight s → IsRight (deliver s shift receiver v).state
deliver_right s shift (Some (operands.InSpace base offset attr)) v right = right_carried s.held _ s.units right (value_carries s.held (target_of base) _ v)
deliver_right s shift _ v right = right

delivered_right : (s : State) (shift : ℕ) (receiver : Option Operand) (v : Option Val) → IsRight s → IsRight (delivered s shift receiver v).state
delivered_right s shift receiver None right = right
delivered_right s shift receiver (Some v) right = deliver_right s shift receiver v right

-- what an instruction does that no rule refuses
pub effect_right : (s : State) (p d : ℕ) (t : Request) → IsRight s → refused_by (row t.op) s p d t ≡ None → IsRight (effect (row t.op) s p d t).state
unfolding effect
effect_right s p d t right e =
    let x = (row t.op).changes s p d t in
    delivered_right (done s p x) (shift_at s.held t.op t.operands) (receiver_at t.op t.operands) ((row t.op).gives s p d t)
    (done_right x s p right (row_may (family_of t.op) t.op s p d t right e))
