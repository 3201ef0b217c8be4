-- Where no rule refuses an instruction, a change that begins a unit finds fewer units open in its journal space than may be.
use Rattle.std.proofs.Common.{◌≡◌, ◌∙◌, ℕ, Bool, false, true, refl, sym, ap}
use Rattle.std.specs.Prelude.{◌||◌, None, Some}
use Rattle.s38_base.specs.declared.op.Op.TheVariants.{Crtctx, Crtinx, Crtpg, Crtq, Crts, Crtup, Deldsen, Grant, Insdsen, Jrnlobj, Lock, Rslvsp, Updsen}
use Rattle.s38_base.specs.declared.op.Op.{Op}
use Rattle.s38_base.specs.Exceptions as exceptions
use Rattle.s38_code.specs.declared.event.Request.{Request}
use Rattle.s38_code.specs.declared.family.Family.TheVariants as families
use Rattle.s38_code.specs.declared.family.Family.{Family}
use Rattle.s38_commits.specs.Changes.{journal_bytes}
use Rattle.s38_commits.specs.declared.change.UnitChange.{UnitChange}
use Rattle.s38_dataspaces.specs.Entries as spaces
use Rattle.s38_rules.proofs.RuleLaws.{fails_none, first_none}
use Rattle.s38_rules.proofs.VerdictLaws.{rule_met}
use Rattle.s38_rules.specs.families.Changes.{Changes, Entered, Then, done}
use Rattle.s38_rules.specs.families.Changing.{are_units_full, is_journal_full, is_unit_full, journal_rule}
use Rattle.s38_rules.specs.families.Contexts.{contexts_row}
use Rattle.s38_rules.specs.families.DataSpaces.{data_spaces_row}
use Rattle.s38_rules.specs.families.EntryChanges.{change_at, change_rules, current_fails, deldsen, entry_room_rule, entry_rule, insdsen, insdsen_fails, insertion, journal_room, next_ordinal, updsen, updsen_fails}
use Rattle.s38_rules.specs.families.Cursors.{cursor_named, position_rule, table_of}
use Rattle.s38_rules.specs.families.Grants.{grants_row}
use Rattle.s38_rules.specs.families.Indexes.{indexes_row}
use Rattle.s38_rules.specs.families.Instruction.{Instruction}
use Rattle.s38_rules.specs.state.Journaling.{journal_for}
use Rattle.s38_rules.specs.families.Journals.{journals_row}
use Rattle.s38_rules.specs.families.Locking.{locks_row}
use Rattle.s38_rules.specs.ask.Operands.{bytes_at}
use Rattle.s38_rules.specs.families.Profiles.{profiles_row}
use Rattle.s38_rules.specs.families.Programs.{programs_row}
use Rattle.s38_rules.specs.families.Queues.{queues_row}
use Rattle.s38_rules.specs.families.Resolving.{resolving_row}
use Rattle.s38_rules.specs.families.Rows.{row_in}
use Rattle.s38_rules.specs.families.Spaces.{spaces_row}
use Rattle.s38_rules.specs.state.State.{State}
use Rattle.s38_rules.specs.step.Verdict.{refused_by}
use Rattle.s38_rules.specs.declared.cursor.Cursor.{Cursor}

-- in the journal space of a data space not one unit too many would be open
abbrev pub FindsUnit : State → ℕ → ℕ → Type 0
FindsUnit s block space = (journal : ℕ) → journal_for s.held space ≡ Some journal → are_units_full s.held s.units journal block ≡ false

-- what a change must meet: that of most words nothing
abbrev pub MayOpen : State → ℕ → Changes → Type 0
MayOpen s p (Entered block change f) = FindsUnit s block change.space.0
MayOpen s p (Then a b) = MayOpen s p a × MayOpen (done s p a) p b
MayOpen s p _ = Unit {0}

abbrev pub MayRow : Instruction → Type 0
MayRow i = (s : State) (p d : ℕ) (t : Request) → refused_by i s p d t ≡ None → MayOpen s p (i.changes s p d t)

-- ---- the rule

first_false : (a b : Bool) → (a || b) ≡ false → a ≡ false
first_false true b h = h
first_false false b h = refl

last_false : (a b : Bool) → (a || b) ≡ false → b ≡ false
last_false true b h = cc
last_false false b h = h

room_finds : (s : State) (cursor : Cursor) (change : UnitChange) → journal_room s cursor change ≡ None → FindsUnit s cursor.block.0 cursor.space.0
room_finds s cursor change met journal to =
    let block = cursor.block.0 in
    let rule : journal_rule s block (journal_bytes change) (Some journal) ≡ None = ap (journal_rule s block (journal_bytes change)) (sym to) ∙ met in
    let none = fails_none (is_journal_full s.held s.units journal block (journal_bytes change) || (are_units_full s.held s.units journal block || is_unit_full s.units block (journal_bytes change))) exceptions.limit_exceeded 0 rule in
    first_false (are_units_full s.held s.units journal block) (is_unit_full s.units block (journal_bytes change))
    (last_false (is_journal_full s.held s.units journal block (journal_bytes change)) (are_units_full s.held s.units journal block || is_unit_full s.units block (journal_bytes change)) none)

current_finds : (s : State) (p : ℕ) (ops : _) (entry : spaces.DataEntry) → current_fails s p ops entry ≡ None → FindsUnit s (cursor_named s.held ops 1).block.0 (cursor_named s.held ops 1).space.0
unfolding current_fails
current_finds s p ops entry met =
    let cursor = cursor_named s.held ops 1 in
    let rule = first_none (position_rule s.held ops 1) _ met in
    room_finds s cursor (change_at s.held ops entry) (first_none (change_rules s p cursor cursor.position) (journal_room s cursor (change_at s.held ops entry)) rule.1).1

insdsen_finds : MayRow insdsen
unfolding insdsen_fails
insdsen_finds s p d t e =
    let ops = t.operands in
    let cursor = cursor_named s.held ops 1 in
    let rule = first_none (entry_rule (table_of s.held ops 1).fields s.held ops) _ (rule_met insdsen s p d t e) in
    let limits = first_none (change_rules s p cursor (next_ordinal (table_of s.held ops 1))) _ rule.1 in
    (room_finds s cursor (insertion s.held ops) (first_none (entry_room_rule s.limit (table_of s.held ops 1)) (journal_room s cursor (insertion s.held ops)) limits.1).1, tt)

updsen_finds : MayRow updsen
unfolding updsen_fails
updsen_finds s p d t e =
    current_finds s p t.operands (Some (bytes_at s.held t.operands 2)) (first_none (entry_rule (table_of s.held t.operands 1).fields s.held t.operands) _ (rule_met updsen s p d t e)).1

deldsen_finds : MayRow deldsen
deldsen_finds s p d t e = current_finds s p t.operands None (rule_met deldsen s p d t e)

-- ---- each family

data_spaces_open : (op : Op) → MayRow (data_spaces_row op)
unfolding data_spaces_row
data_spaces_open Insdsen = insdsen_finds
data_spaces_open Updsen = updsen_finds
data_spaces_open Deldsen = deldsen_finds
data_spaces_open _ = λ s p d t e. tt

journals_open : (op : Op) → MayRow (journals_row op)
unfolding journals_row
journals_open Jrnlobj = λ s p d t e. (tt, tt)
journals_open _ = λ s p d t e. tt

contexts_open : (op : Op) → MayRow (contexts_row op)
unfolding contexts_row
contexts_open Crtctx = λ s p d t e. tt
contexts_open _ = λ s p d t e. tt

profiles_open : (op : Op) → MayRow (profiles_row op)
unfolding profiles_row
profiles_open Crtup = λ s p d t e. tt
profiles_open _ = λ s p d t e. tt

grants_open : (op : Op) → MayRow (grants_row op)
unfolding grants_row
grants_open Grant = λ s p d t e. tt
grants_open _ = λ s p d t e. tt

programs_open : (op : Op) → MayRow (programs_row op)
unfolding programs_row
programs_open Crtpg = λ s p d t e. tt
programs_open _ = λ s p d t e. tt

locks_open : (op : Op) → MayRow (locks_row op)
unfolding locks_row
locks_open Lock = λ s p d t e. tt
locks_open _ = λ s p d t e. tt

resolving_open : (op : Op) → MayRow (resolving_row op)
unfolding resolving_row
resolving_open Rslvsp = λ s p d t e. tt
resolving_open _ = λ s p d t e. tt

spaces_open : (op : Op) → MayRow (spaces_row op)
unfolding spaces_row
spaces_open Crts = λ s p d t e. tt
spaces_open _ = λ s p d t e. tt

queues_open : (op : Op) → MayRow (queues_row op)
unfolding queues_row
queues_open Crtq = λ s p d t e. tt
queues_open _ = λ s p d t e. tt

indexes_open : (op : Op) → MayRow (indexes_row op)
unfolding indexes_row
indexes_open Crtinx = λ s p d t e. tt
indexes_open _ = λ s p d t e. tt

pub row_open : (f : Family) (op : Op) → MayRow (row_in f op)
unfolding row_in
row_open families.Computing op = λ s p d t e. tt
row_open families.Resolving op = resolving_open op
row_open families.Contexts op = contexts_open op
row_open families.Profiles op = profiles_open op
row_open families.Grants op = grants_open op
row_open families.Programs op = programs_open op
row_open families.Locks op = locks_open op
row_open families.Spaces op = spaces_open op
row_open families.Queues op = queues_open op
row_open families.Indexes op = indexes_open op
row_open families.DataSpaces op = data_spaces_open op
row_open families.Journals op = journals_open op
row_open _ op = λ s p d t e. tt
