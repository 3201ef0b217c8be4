-- Programs as objects: CRTPG makes one of a template of the deck, DESPG destroys one.
use Rattle.std.specs.Prelude.{ℕ, Bool, List, find, Option, Some, None, nat_lt}
use Rattle.std.specs.Option.{option_map}
use Rattle.std.specs.Str.{bytes_eq}
use Rattle.s38_base.specs.declared.exception.Exception.{Exception}
use Rattle.s38_base.specs.declared.exception.Rule.TheVariants.{Creation}
use Rattle.s38_base.specs.declared.id.Kind.TheVariants as kinds
use Rattle.s38_base.specs.declared.op.Op.{Op}
use Rattle.s38_base.specs.declared.op.Op.TheVariants.{Crtpg, Callx, Xctl, Despg}
use Rattle.s38_base.specs.Exceptions as exceptions
use Rattle.s38_base.specs.Signals.{fails, first, plain}
use Rattle.s38_code.specs.declared.made.CheckedTemplate.{CheckedTemplate}
use Rattle.s38_code.specs.declared.made.CreateResult.{CreateResult}
use Rattle.s38_code.specs.declared.made.CreateResult.TheVariants.{Created, Refused}
use Rattle.s38_code.specs.declared.operand.Operand.{Operand}
use Rattle.s38_code.specs.declared.operand.Operand.TheVariants as operands
use Rattle.s38_code.specs.declared.program.Program.{Program}
use Rattle.s38_rules.specs.declared.creating.Creating.{Creating}
use Rattle.s38_rules.specs.declared.object.Body.TheVariants as bodies
use Rattle.s38_rules.specs.families.Changes.{Changes, Gone, Made}
use Rattle.s38_rules.specs.families.Creation.{creation_fails, creation_gives, creation_needs, destruction_needs, in_context}
use Rattle.s38_rules.specs.state.Held.{Held}
use Rattle.s38_rules.specs.families.Instruction.{Instruction, inert}
use Rattle.s38_rules.specs.ask.Operands.{place, target}
use Rattle.s38_rules.specs.store.Room.{program_size}
use Rattle.s38_rules.specs.state.State.{State}
use Rattle.s38_rules.specs.ask.Users.{user_of}
use Rattle.s38_rules.specs.families.Calls.{callx, xctl}

-- ---- the deck's templates

abbrev pub template_is_named : List ℕ → CheckedTemplate → Bool
template_is_named name template = bytes_eq template.name name

abbrev pub template_in : List CheckedTemplate → Option Operand → Option CheckedTemplate
template_in templates (Some (operands.Text name)) = find (template_is_named name) templates
template_in templates _ = None

-- the template that operand 5 names
abbrev pub template_at : State → List Operand → Option CheckedTemplate
template_at s ops = template_in s.templates (place ops 5)

abbrev pub program_by : CreateResult → Option Program
program_by (Created program) = Some program
program_by (Refused id number) = None

-- the program that a template makes
abbrev pub program_in : Option CheckedTemplate → Option Program
program_in None = None
program_in (Some template) = program_by template.made

-- the size of a program's image
abbrev pub size_of : Option Program → ℕ
size_of None = 0
size_of (Some program) = program_size program

abbrev pub size_in : Option CheckedTemplate → ℕ
size_in template = size_of (program_in template)

-- ---- CRTPG

abbrev pub new_program : Held → List Operand → Creating
new_program h ops = in_context kinds.Program 1 h ops

abbrev pub refused_in : CreateResult → Option Exception
refused_in (Created program) = None
refused_in (Refused id number) = Some (record { id = id; operand = 5; rule = Creation number })

-- the deck has the template, and creation makes a program of it
abbrev pub template_rule : Option CheckedTemplate → Option Exception
template_rule None = Some (plain exceptions.template_missing 5)
template_rule (Some template) = refused_in template.made

unfoldable pub crtpg_fails : State → ℕ → List Operand → Option Exception
crtpg_fails s p ops =
    first (creation_fails s.held (user_of s p) (new_program s.held ops) (template_rule (template_at s ops)))
    (fails (nat_lt s.limit (size_in (template_at s ops))) exceptions.limit_exceeded 0)

-- the program of the template that is named
abbrev pub crtpg_changes : State → ℕ → List Operand → Changes
crtpg_changes s p ops =
    Made (user_of s p) (new_program s.held ops) (option_map bodies.Program (program_in (template_at s ops)))

abbrev pub crtpg : Instruction
crtpg = record inert {
  needs = λ s p d r. creation_needs r.operands;
  fails = λ s p d r. crtpg_fails s p r.operands;
  gives = λ s p d r. Some (creation_gives s.held (new_program s.held r.operands));
  changes = λ s p d r. crtpg_changes s p r.operands;
}

-- ---- DESPG

abbrev pub despg : Instruction
despg = record inert {
  needs = λ s p d r. destruction_needs kinds.Program;
  changes = λ s p d r. Gone kinds.Program (target s.held r.operands 1);
}

-- ---- the family

unfoldable pub programs_row : Op → Instruction
programs_row Crtpg = crtpg
programs_row Callx = callx
programs_row Xctl = xctl
programs_row Despg = despg
programs_row _ = inert
