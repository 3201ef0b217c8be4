-- Of the words of each row at most one forces an object, besides the ceiling.
use Rattle.std.proofs.Common.{◌≡◌, ◌∙◌, ℕ, ◌+◌, Bool, true, false, cond, List, [], ◌∷◌, ◌++◌, refl, sym}
use Rattle.std.specs.Option.{option_map}
use Rattle.std.specs.Prelude.{◌||◌, None, Option, Some, nat_lt}
use Rattle.s38_base.specs.declared.op.Op.TheVariants.{Crtctx, Crtds, Crtinx, Crtjs, Crtpg, Crtq, Crts, Crtup, Grant, Insdsen, Jrnlobj, Lock, Rslvsp}
use Rattle.s38_base.specs.declared.op.Op.{Op}
use Rattle.s38_code.specs.declared.event.Request.{Request}
use Rattle.s38_code.specs.declared.family.Family.TheVariants as families
use Rattle.s38_code.specs.declared.family.Family.{Family}
use Rattle.s38_code.specs.declared.program.Program.{Program}
use Rattle.s38_commits.proofs.MapLaws.{nat_same}
use Rattle.s38_commits.specs.Unit.{CommitUnit}
use Rattle.s38_laws_objects.specs.Outline.{is_forced, speaks_of}
use Rattle.s38_rules.specs.families.Changes.{Changes, Ensured, Entered, Journaled, Made, OnCursor, Then}
use Rattle.s38_rules.specs.families.Contexts.{contexts_row}
use Rattle.s38_rules.specs.families.DataSpaces.{data_spaces_row}
use Rattle.s38_rules.specs.store.Forcing.{Ceiling, Forced, Header, Removed, Whole, commit_forces, overdue, whole_if}
use Rattle.s38_rules.specs.families.Grants.{grants_row}
use Rattle.s38_rules.specs.state.Held.{Held, change}
use Rattle.s38_rules.specs.families.Indexes.{indexes_row}
use Rattle.s38_rules.specs.families.Instruction.{Instruction}
use Rattle.s38_rules.specs.state.Journaling.{journal_for_block}
use Rattle.s38_rules.specs.families.Journals.{journals_row}
use Rattle.s38_rules.specs.families.Locking.{locks_row}
use Rattle.s38_rules.specs.state.PartsAt.{journal_at}
use Rattle.s38_rules.specs.families.Profiles.{profiles_row}
use Rattle.s38_rules.specs.families.Programs.{program_in, programs_row, template_at}
use Rattle.s38_rules.specs.families.Queues.{queues_row}
use Rattle.s38_rules.specs.families.Resolving.{resolving_row}
use Rattle.s38_rules.specs.families.Rows.{row_in}
use Rattle.s38_rules.specs.families.Spaces.{spaces_row}
use Rattle.s38_rules.specs.state.State.{State}
use Rattle.s38_rules.specs.step.Verdict.{refused_by}
use Rattle.s38_rules.specs.declared.object.Body.TheVariants as bodies
use Rattle.s38_laws_commits.proofs.GoingLaws.{JournalsTo}
use Rattle.s38_laws_commits.proofs.TellLaws.{NewIn}
use Rattle.s38_laws_commits.proofs.RowTellLaws.{jrnlobj_journals, new_small}

-- all that is forced is of one object
abbrev pub IsOneForced : List Forced → Type 0
IsOneForced all = (n m : ℕ) → is_forced n all ≡ true → is_forced m all ≡ true → n ≡ m

pub none_forced : IsOneForced []
none_forced n m a b = absurd (let e : false ≡ true = a in cc)

only_first : (b : Bool) → (b || false) ≡ true → b ≡ true
only_first true is = refl
only_first false is = is

spoken : (x : Forced) (n m : ℕ) → speaks_of n x ≡ true → speaks_of m x ≡ true → n ≡ m
spoken Ceiling n m a b = absurd (let e : false ≡ true = a in cc)
spoken (Header k) n m a b = sym (nat_same k n a) ∙ nat_same k m b
spoken (Whole k) n m a b = sym (nat_same k n a) ∙ nat_same k m b
spoken (Removed k) n m a b = sym (nat_same k n a) ∙ nat_same k m b

pub single : (x : Forced) → IsOneForced (x ∷ [])
single x n m a b = spoken x n m (only_first (speaks_of n x) a) (only_first (speaks_of m x) b)

pub single_if : (b : Bool) (x : Forced) → IsOneForced (cond b (x ∷ []) [])
single_if true x = single x
single_if false x = none_forced

-- the ceiling is of no object
pub beside_ceiling : (b : Bool) (more : List Forced) → IsOneForced more → IsOneForced (cond b (Ceiling ∷ []) [] ++ more)
beside_ceiling true more one = one
beside_ceiling false more one = one

pub whole_one : (r : Option ℕ) → IsOneForced (whole_if r)
whole_one None = none_forced
whole_one (Some n) = single (Whole n)

pub overdue_one : (h : Held) (r : Option ℕ) → IsOneForced (overdue h r)
overdue_one h None = none_forced
overdue_one h (Some journal) = single_if (nat_lt 32768 (journal_at h journal).unforced) (Whole journal)

-- of the words that are one after another the second forces nothing, or the first; what is made is new; and a data space is
-- journaled to a port and a journal space on disk
abbrev pub IsPlain : State → Changes → Type 0
IsPlain s (Made owner made body) = NewIn body
IsPlain s (Journaled n port) = ⊥
IsPlain s (Then (Entered block change f) (OnCursor n g)) = Unit {0}
IsPlain s (Then (Journaled n port) (Ensured m)) = JournalsTo s.held n port m
IsPlain s (Then a b) = ⊥
IsPlain s _ = Unit {0}

-- so it is where no rule refuses the instruction
abbrev pub PlainRow : Instruction → Type 0
PlainRow i = (s : State) (p d : ℕ) (t : Request) → refused_by i s p d t ≡ None → IsPlain s (i.changes s p d t)

data_spaces_plain : (op : Op) → PlainRow (data_spaces_row op)
unfolding data_spaces_row
data_spaces_plain Crtds = λ s p d t e. (refl, new_small t.operands)
data_spaces_plain Insdsen = λ s p d t e. tt
data_spaces_plain _ = λ s p d t e. tt

journals_plain : (op : Op) → PlainRow (journals_row op)
unfolding journals_row
journals_plain Crtjs = λ s p d t e. refl
journals_plain Jrnlobj = jrnlobj_journals
journals_plain _ = λ s p d t e. tt

contexts_plain : (op : Op) → PlainRow (contexts_row op)
unfolding contexts_row
contexts_plain Crtctx = λ s p d t e. tt
contexts_plain _ = λ s p d t e. tt

profiles_plain : (op : Op) → PlainRow (profiles_row op)
unfolding profiles_row
profiles_plain Crtup = λ s p d t e. tt
profiles_plain _ = λ s p d t e. tt

grants_plain : (op : Op) → PlainRow (grants_row op)
unfolding grants_row
grants_plain Grant = λ s p d t e. tt
grants_plain _ = λ s p d t e. tt

program_new : (program : Option Program) → NewIn (option_map bodies.Program program)
program_new None = tt
program_new (Some program) = tt

programs_plain : (op : Op) → PlainRow (programs_row op)
unfolding programs_row
programs_plain Crtpg = λ s p d t e. program_new (program_in (template_at s t.operands))
programs_plain _ = λ s p d t e. tt

locks_plain : (op : Op) → PlainRow (locks_row op)
unfolding locks_row
locks_plain Lock = λ s p d t e. tt
locks_plain _ = λ s p d t e. tt

resolving_plain : (op : Op) → PlainRow (resolving_row op)
unfolding resolving_row
resolving_plain Rslvsp = λ s p d t e. tt
resolving_plain _ = λ s p d t e. tt

spaces_plain : (op : Op) → PlainRow (spaces_row op)
unfolding spaces_row
spaces_plain Crts = λ s p d t e. tt
spaces_plain _ = λ s p d t e. tt

queues_plain : (op : Op) → PlainRow (queues_row op)
unfolding queues_row
queues_plain Crtq = λ s p d t e. tt
queues_plain _ = λ s p d t e. tt

indexes_plain : (op : Op) → PlainRow (indexes_row op)
unfolding indexes_row
indexes_plain Crtinx = λ s p d t e. tt
indexes_plain _ = λ s p d t e. tt

pub row_plain : (f : Family) (op : Op) → PlainRow (row_in f op)
unfolding row_in
row_plain families.Computing op = λ s p d t e. tt
row_plain families.Resolving op = resolving_plain op
row_plain families.Contexts op = contexts_plain op
row_plain families.Profiles op = profiles_plain op
row_plain families.Grants op = grants_plain op
row_plain families.Programs op = programs_plain op
row_plain families.Locks op = locks_plain op
row_plain families.Spaces op = spaces_plain op
row_plain families.Queues op = queues_plain op
row_plain families.Indexes op = indexes_plain op
row_plain families.DataSpaces op = data_spaces_plain op
row_plain families.Journals op = journals_plain op
row_plain _ op = λ s p d t e. tt
