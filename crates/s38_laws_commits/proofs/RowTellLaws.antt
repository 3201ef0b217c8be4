-- The rows of all instructions are written in words of change that meet what a journal space tells.
use Rattle.std.proofs.Common.{◌≡◌, ◌≤◌, ℕ, Bool, true, false, cond, List, [], ◌∷◌, length, refl, arith}
use Rattle.std.proofs.lemmas.Bool.Decides.{nat_tests}
use Rattle.std.proofs.lemmas.Bool.{and_parts}
use Rattle.std.specs.List.{list_all}
use Rattle.std.specs.Option.{option_map}
use Rattle.std.specs.Prelude.{None, Option, Some, nat_le}
use Rattle.s38_base.specs.Limits.{body_limit}
use Rattle.s38_base.specs.declared.attr.Attr.TheVariants as attrs
use Rattle.s38_base.specs.declared.attr.Attr.{Attr}
use Rattle.s38_base.specs.declared.op.Op.TheVariants.{Crtctx, Crtds, Crtinx, Crtjs, Crtpg, Crtq, Crts, Crtup, Deldsen, Desds, Grant, Insdsen, Jrnlobj, Lock, Rslvsp, Updsen}
use Rattle.s38_base.specs.declared.op.Op.{Op}
use Rattle.s38_code.specs.declared.event.Request.{Request}
use Rattle.s38_code.specs.declared.family.Family.TheVariants as families
use Rattle.s38_code.specs.declared.family.Family.{Family}
use Rattle.s38_code.specs.declared.operand.Operand.{Operand}
use Rattle.s38_code.specs.declared.program.Program.{Program}
use Rattle.s38_dataspaces.specs.Table.{are_fields, data_space_image_size, entry_len, is_field}
use Rattle.s38_rules.proofs.RuleLaws.{fails_none, first_none, not_false}
use Rattle.s38_rules.proofs.VerdictLaws.{rule_met}
use Rattle.s38_rules.specs.families.Contexts.{contexts_row}
use Rattle.s38_rules.specs.families.DataSpaces.{attributes_of, data_spaces_row, desds, desds_fails, new_data_space, proper_fields}
use Rattle.s38_rules.specs.families.Grants.{grants_row}
use Rattle.s38_rules.specs.state.Held.{is_on_disk}
use Rattle.s38_rules.specs.families.Indexes.{indexes_row}
use Rattle.s38_rules.specs.families.Journals.{journals_row}
use Rattle.s38_rules.specs.families.Ports.{jrnlobj, jrnlobj_fails, port_journal}
use Rattle.s38_rules.specs.families.Locking.{locks_row}
use Rattle.s38_rules.specs.ask.Operands.{place, target}
use Rattle.s38_rules.specs.families.Profiles.{profiles_row}
use Rattle.s38_rules.specs.families.Programs.{program_in, programs_row, template_at}
use Rattle.s38_rules.specs.families.Queues.{queues_row}
use Rattle.s38_rules.specs.families.Resolving.{resolving_row}
use Rattle.s38_rules.specs.families.Rows.{row_in}
use Rattle.s38_rules.specs.families.Spaces.{spaces_row}
use Rattle.s38_rules.specs.state.State.{State}
use Rattle.s38_rules.specs.step.Verdict.{refused_by}
use Rattle.s38_rules.specs.declared.object.Body.TheVariants as bodies
use Rattle.s38_laws_commits.proofs.GoingLaws.{JournalsTo}
use Rattle.s38_laws_commits.specs.Told.{IsSmall}
use Rattle.s38_laws_commits.proofs.EntryTellLaws.{TellRow, insdsen_tells, updsen_tells, deldsen_tells}
use Rattle.s38_laws_commits.proofs.TellLaws.{NewIn}

fields_fit : (attributes : List Attr) → are_fields (proper_fields attributes) ≡ true
fields_fit attributes = by (are_fields attributes) refl
  where
    by : (b : Bool) → are_fields attributes ≡ b → are_fields (cond b attributes (attrs.Chars 1 ∷ [])) ≡ true
    by true is = is
    by false is = refl

few_fields : (fields : List Attr) → are_fields fields ≡ true → length fields ≤ 256
few_fields fields fit =
    let parts = and_parts (list_all is_field fields) _ fit in
    let more = and_parts (nat_le 1 (length fields)) _ parts.1 in
    let few = (and_parts (nat_le (length fields) 256) (nat_le (entry_len fields) 4096) more.1).0 in
    grind (arith, nat_tests, few)

empty_small : (fields : List Attr) → length fields ≤ 256 → data_space_image_size fields 0 ≤ body_limit
empty_small fields few = omega (arith, few)

pub new_small : (ops : List Operand) → IsSmall (new_data_space ops).space
new_small ops = empty_small (proper_fields (attributes_of (place ops 5))) (few_fields (proper_fields (attributes_of (place ops 5))) (fields_fit (attributes_of (place ops 5))))

desds_tells : TellRow desds
unfolding desds_fails
desds_tells s p d t right limit e = fails_none _ _ _ (rule_met desds s p d t e)

data_spaces_tell : (op : Op) → TellRow (data_spaces_row op)
unfolding data_spaces_row
data_spaces_tell Crtds = λ s p d t right limit e. (refl, new_small t.operands)
data_spaces_tell Desds = desds_tells
data_spaces_tell Insdsen = λ s p d t right limit e. (insdsen_tells s p d t right limit e, tt)
data_spaces_tell Updsen = updsen_tells
data_spaces_tell Deldsen = deldsen_tells
data_spaces_tell _ = λ s p d t right limit e. tt

-- JRNLOBJ has its rules see to what is on disk
pub jrnlobj_journals : (s : State) (p d : ℕ) (t : Request) → refused_by jrnlobj s p d t ≡ None → JournalsTo s.held (target s.held t.operands 1) (target s.held t.operands 2) (target s.held t.operands 1)
unfolding jrnlobj_fails
jrnlobj_journals s p d t e =
    let both = first_none _ _ (rule_met jrnlobj s p d t e) in
    let port = target s.held t.operands 2 in
    let disks = and_parts (is_on_disk s.held port) (is_on_disk s.held (port_journal s.held port)) (not_false _ (fails_none _ _ _ both.1)) in
    record { same = refl; none = fails_none _ _ _ both.0; port_disk = disks.0; journal_disk = disks.1 }

journals_tell : (op : Op) → TellRow (journals_row op)
unfolding journals_row
journals_tell Crtjs = λ s p d t right limit e. refl
journals_tell Jrnlobj = λ s p d t right limit e. jrnlobj_journals s p d t e
journals_tell _ = λ s p d t right limit e. tt

pub program_new : (program : Option Program) → NewIn (option_map bodies.Program program)
program_new None = tt
program_new (Some program) = tt

programs_tell : (op : Op) → TellRow (programs_row op)
unfolding programs_row
programs_tell Crtpg = λ s p d t right limit e. program_new (program_in (template_at s t.operands))
programs_tell _ = λ s p d t right limit e. tt

contexts_tell : (op : Op) → TellRow (contexts_row op)
unfolding contexts_row
contexts_tell Crtctx = λ s p d t right limit e. tt
contexts_tell _ = λ s p d t right limit e. tt

profiles_tell : (op : Op) → TellRow (profiles_row op)
unfolding profiles_row
profiles_tell Crtup = λ s p d t right limit e. tt
profiles_tell _ = λ s p d t right limit e. tt

grants_tell : (op : Op) → TellRow (grants_row op)
unfolding grants_row
grants_tell Grant = λ s p d t right limit e. tt
grants_tell _ = λ s p d t right limit e. tt

locks_tell : (op : Op) → TellRow (locks_row op)
unfolding locks_row
locks_tell Lock = λ s p d t right limit e. tt
locks_tell _ = λ s p d t right limit e. tt

resolving_tell : (op : Op) → TellRow (resolving_row op)
unfolding resolving_row
resolving_tell Rslvsp = λ s p d t right limit e. tt
resolving_tell _ = λ s p d t right limit e. tt

spaces_tell : (op : Op) → TellRow (spaces_row op)
unfolding spaces_row
spaces_tell Crts = λ s p d t right limit e. tt
spaces_tell _ = λ s p d t right limit e. tt

queues_tell : (op : Op) → TellRow (queues_row op)
unfolding queues_row
queues_tell Crtq = λ s p d t right limit e. tt
queues_tell _ = λ s p d t right limit e. tt

indexes_tell : (op : Op) → TellRow (indexes_row op)
unfolding indexes_row
indexes_tell Crtinx = λ s p d t right limit e. tt
indexes_tell _ = λ s p d t right limit e. tt

pub row_tells : (f : Family) (op : Op) → TellRow (row_in f op)
unfolding row_in
row_tells families.Computing op = λ s p d t right limit e. tt
row_tells families.Resolving op = resolving_tell op
row_tells families.Contexts op = contexts_tell op
row_tells families.Profiles op = profiles_tell op
row_tells families.Grants op = grants_tell op
row_tells families.Programs op = programs_tell op
row_tells families.Locks op = locks_tell op
row_tells families.Spaces op = spaces_tell op
row_tells families.Queues op = queues_tell op
row_tells families.Indexes op = indexes_tell op
row_tells families.DataSpaces op = data_spaces_tell op
row_tells families.Journals op = journals_tell op
row_tells _ op = λ s p d t right limit e. tt
