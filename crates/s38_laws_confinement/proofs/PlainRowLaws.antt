-- What each row gives, and which pointers it puts into spaces. One lemma for each family.
use Rattle.std.proofs.Common.{◌≡◌, Bool, List, cond, false, true, ℕ}
use Rattle.std.specs.Option.{option_map}
use Rattle.std.specs.Prelude.{All, IfSome, None, Option, Some}
use Rattle.s38_base.specs.declared.op.Op.TheVariants.{Callx, Cpybwp, Crtctx, Crtinx, Crtq, Crtup, Grant, Insdsen, Jrnlobj, Lock, Rslvsp, Setdp, Setspfp, Setsppfp, Xctl}
use Rattle.s38_base.specs.declared.op.Op.{Op}
use Rattle.s38_base.specs.declared.pointer.Pointer.{Pointer}
use Rattle.s38_code.specs.Operations.{classes, family_of, made_kind}
use Rattle.s38_code.specs.declared.event.Request.{Request}
use Rattle.s38_code.specs.declared.family.Family.TheVariants as families
use Rattle.s38_code.specs.declared.family.Family.{Family}
use Rattle.s38_code.specs.declared.program.Program.{Program}
use Rattle.s38_code.specs.declared.reply.Val.TheVariants as vals
use Rattle.s38_code.specs.declared.reply.Val.{Val}
use Rattle.s38_memory.specs.declared.cell.Cell.{Cell}
use Rattle.s38_rules.specs.state.Cells.{first_pointer}
use Rattle.s38_rules.specs.families.Computing.{computing, computing_gives, of_operands}
use Rattle.s38_rules.specs.families.Contexts.{contexts_row}
use Rattle.s38_rules.specs.families.Grants.{grants_row}
use Rattle.s38_rules.specs.families.Instruction.{Instruction}
use Rattle.s38_rules.specs.ask.Operands.{place, source_cells}
use Rattle.s38_rules.specs.ask.Receivers.{is_in_space}
use Rattle.s38_rules.specs.families.Profiles.{profiles_row}
use Rattle.s38_rules.specs.families.Programs.{programs_row}
use Rattle.s38_rules.specs.families.Calls.{call_gives, program_at}
use Rattle.s38_rules.specs.families.Locking.{locks_row}
use Rattle.s38_rules.specs.families.DataSpaces.{data_spaces_row}
use Rattle.s38_rules.specs.families.Indexes.{indexes_row}
use Rattle.s38_rules.specs.families.Journals.{journals_row}
use Rattle.s38_rules.specs.families.Queues.{queues_row}
use Rattle.s38_rules.specs.families.Resolving.{resolving_row}
use Rattle.s38_rules.specs.families.Rows.{row_in}
use Rattle.s38_rules.specs.families.Spaces.{spaces_row}
use Rattle.s38_rules.specs.families.SpacePointers.{cpybwp_gives}
use Rattle.s38_rules.specs.state.State.{State}
use Rattle.s38_laws_confinement.proofs.PointerLaws.{computed_kept, first_kept, pointer_kept, source_kept}
use Rattle.s38_laws_confinement.specs.OfPointers.{IsClosed, OfCells, OfObjects, OfOperand, OfVal}
use Rattle.s38_laws_confinement.specs.Plain.{is_plain, makes_pointer}
use Rattle.s38_laws_confinement.proofs.PlainWordLaws.{OfChange}

-- what a plain instruction gives
abbrev pub OfGiven : (Pointer → Type 0) → Bool → Option Val → Type 0
OfGiven q true value = IfSome value (OfVal q)
OfGiven q false value = Unit {0}

-- what a row puts and gives holds nothing new, whatever holds of the pointers
abbrev pub PlainRow : (Pointer → Type 0) → Instruction → Type 0
PlainRow q i = (s : State) (p d : ℕ) (t : Request) → OfObjects q s.held.objects → All (OfOperand q) t.operands
    → OfChange q (i.changes s p d t) × OfGiven q (is_plain (i.changes s p d t)) (i.gives s p d t)

computing_plain : (q : Pointer → Type 0) → IsClosed q → PlainRow q computing
unfolding computing_gives
computing_plain q closed s p d t of asked =
    (tt, computed_kept q closed t.op t.round (of_operands s.held t.operands) (pointer_kept q s.held t.operands 2 of asked))

resolving_plain : (q : Pointer → Type 0) (op : Op) → makes_pointer op ≡ false → PlainRow q (resolving_row op)
unfolding resolving_row classes family_of made_kind
resolving_plain q Rslvsp other = cc
resolving_plain q Setspfp other = cc
resolving_plain q _ other = λ s p d t of asked. (tt, tt)

code_of : (q : Pointer → Type 0) (program : Option Program) → IfSome (option_map vals.Code program) (OfVal q)
code_of q None = tt
code_of q (Some program) = tt

programs_plain : (q : Pointer → Type 0) (op : Op) → PlainRow q (programs_row op)
unfolding programs_row call_gives
programs_plain q Callx = λ s p d t of asked. (tt, code_of q (program_at s.held t.operands))
programs_plain q Xctl = λ s p d t of asked. (tt, code_of q (program_at s.held t.operands))
programs_plain q _ = λ s p d t of asked. (tt, tt)

-- a pointer of a cell that is copied
copied_of : (q : Pointer → Type 0) (in_space : Bool) (cells : List Cell) → OfCells q cells → IfSome (cond in_space None (Some (vals.Ptr (first_pointer cells)))) (OfVal q)
copied_of q true cells of = tt
copied_of q false cells of = first_kept q cells of

spaces_plain : (q : Pointer → Type 0) (op : Op) → makes_pointer op ≡ false → PlainRow q (spaces_row op)
unfolding spaces_row cpybwp_gives classes family_of made_kind
spaces_plain q Setsppfp other = cc
spaces_plain q Setdp other = cc
spaces_plain q Cpybwp other = λ s p d t of asked.
    let cells = source_kept q s.held t.operands 2 of asked in
    (cells, copied_of q (is_in_space (place t.operands 1)) (source_cells s.held t.operands 2) cells)
spaces_plain q _ other = λ s p d t of asked. (tt, tt)

contexts_plain : (q : Pointer → Type 0) (op : Op) → PlainRow q (contexts_row op)
unfolding contexts_row
contexts_plain q Crtctx = λ s p d t of asked. (tt, tt)
contexts_plain q _ = λ s p d t of asked. (tt, tt)

profiles_plain : (q : Pointer → Type 0) (op : Op) → PlainRow q (profiles_row op)
unfolding profiles_row
profiles_plain q Crtup = λ s p d t of asked. (tt, tt)
profiles_plain q _ = λ s p d t of asked. (tt, tt)

locks_plain : (q : Pointer → Type 0) (op : Op) → PlainRow q (locks_row op)
unfolding locks_row
locks_plain q Lock = λ s p d t of asked. (tt, tt)
locks_plain q _ = λ s p d t of asked. (tt, tt)

grants_plain : (q : Pointer → Type 0) (op : Op) → PlainRow q (grants_row op)
unfolding grants_row
grants_plain q Grant = λ s p d t of asked. (tt, tt)
grants_plain q _ = λ s p d t of asked. (tt, tt)

queues_plain : (q : Pointer → Type 0) (op : Op) → PlainRow q (queues_row op)
unfolding queues_row
queues_plain q Crtq = λ s p d t of asked. (tt, tt)
queues_plain q _ = λ s p d t of asked. (tt, tt)

indexes_plain : (q : Pointer → Type 0) (op : Op) → PlainRow q (indexes_row op)
unfolding indexes_row
indexes_plain q Crtinx = λ s p d t of asked. (tt, tt)
indexes_plain q _ = λ s p d t of asked. (tt, tt)

data_spaces_plain : (q : Pointer → Type 0) (op : Op) → PlainRow q (data_spaces_row op)
unfolding data_spaces_row
data_spaces_plain q Insdsen = λ s p d t of asked. ((tt, tt), tt)
data_spaces_plain q _ = λ s p d t of asked. (tt, tt)

journals_plain : (q : Pointer → Type 0) (op : Op) → PlainRow q (journals_row op)
unfolding journals_row
journals_plain q Jrnlobj = λ s p d t of asked. ((tt, tt), tt)
journals_plain q _ = λ s p d t of asked. (tt, tt)

pub row_plain : (q : Pointer → Type 0) → IsClosed q → (f : Family) (op : Op) → makes_pointer op ≡ false → PlainRow q (row_in f op)
unfolding row_in
row_plain q closed families.Computing op other = computing_plain q closed
row_plain q closed families.Resolving op other = resolving_plain q op other
row_plain q closed families.Contexts op other = contexts_plain q op
row_plain q closed families.Profiles op other = profiles_plain q op
row_plain q closed families.Grants op other = grants_plain q op
row_plain q closed families.Programs op other = programs_plain q op
row_plain q closed families.Locks op other = locks_plain q op
row_plain q closed families.Spaces op other = spaces_plain q op other
row_plain q closed families.Queues op other = queues_plain q op
row_plain q closed families.Indexes op other = indexes_plain q op
row_plain q closed families.DataSpaces op other = data_spaces_plain q op
row_plain q closed families.Journals op other = journals_plain q op
row_plain q closed _ op other = λ s p d t of asked. (tt, tt)

pub given_by : (q : Pointer → Type 0) (b : Bool) (value : Option Val) → b ≡ true → OfGiven q b value → IfSome value (OfVal q)
given_by q true value e given = given
given_by q false value e given = cc
