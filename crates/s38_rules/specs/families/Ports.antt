-- Ports to journal spaces: made and destroyed, and data spaces journaled through them.
use Rattle.std.specs.Prelude.{ℕ, ◌==◌, Bool, false, not, ◌&&◌, List, ◌++◌, Option, Some, None, is_some}
use Rattle.std.specs.List.{list_any}
use Rattle.s38_base.specs.declared.exception.Exception.{Exception}
use Rattle.s38_base.specs.declared.id.Kind.TheVariants as kinds
use Rattle.s38_base.specs.declared.words.Category.TheVariants.{Change}
use Rattle.s38_base.specs.Exceptions as exceptions
use Rattle.s38_base.specs.RightNames as rights
use Rattle.s38_base.specs.Signals.{fails, first}
use Rattle.s38_code.specs.declared.operand.Operand.{Operand}
use Rattle.s38_rules.specs.declared.creating.Creating.{Creating}
use Rattle.s38_rules.specs.declared.need.Need.{Need}
use Rattle.s38_rules.specs.declared.need.Sought.TheVariants.{Of}
use Rattle.s38_rules.specs.declared.object.Body.{Body}
use Rattle.s38_rules.specs.declared.object.Body.TheVariants as bodies
use Rattle.s38_rules.specs.declared.object.Object.{Object}
use Rattle.s38_rules.specs.declared.port.Port.{Port}
use Rattle.s38_rules.specs.families.Changes.{Changes, Ensured, Gone, Journaled, Made, Then}
use Rattle.s38_rules.specs.families.Creation.{creation_fails, creation_gives, creation_needs, destruction_needs, in_context}
use Rattle.s38_rules.specs.state.Held.{Held, is_on_disk}
use Rattle.s38_rules.specs.families.Instruction.{Instruction, inert}
use Rattle.s38_rules.specs.state.Journaling.{journal_for}
use Rattle.s38_rules.specs.ask.Needs.{on_object}
use Rattle.s38_rules.specs.ask.Operands.{target}
use Rattle.s38_rules.specs.state.Parts.{part_at, port_part}
use Rattle.s38_rules.specs.state.State.{State}
use Rattle.s38_rules.specs.ask.Users.{user_of}

abbrev pub is_port_to : ℕ → Body → Bool
is_port_to journal (bodies.Port port) = port.journal.0 == journal
is_port_to journal _ = false

abbrev pub leads_to : ℕ → Object → Bool
leads_to journal o = is_port_to journal o.body

-- some port leads to a journal space
abbrev pub is_attached : Held → ℕ → Bool
is_attached h journal = list_any (leads_to journal) h.objects

abbrev pub is_data_of : ℕ → Body → Bool
is_data_of port (bodies.DataSpace d) = d.port.0 == port
is_data_of port _ = false

abbrev pub names_port : ℕ → Object → Bool
names_port port o = is_data_of port o.body

-- some data space is journaled to a port
abbrev pub port_is_used : Held → ℕ → Bool
port_is_used h port = list_any (names_port port) h.objects

abbrev pub created_port : Held → List Operand → Creating
created_port h ops = in_context kinds.Port 1 h ops

-- INSERT on the journal space
unfoldable pub crtjp_needs : List Operand → List Need
crtjp_needs ops = creation_needs ops ++ on_object 5 (Of kinds.Journal) rights.insert None

-- no port leads to the journal space yet
unfoldable pub crtjp_fails : State → ℕ → List Operand → Option Exception
crtjp_fails s p ops =
    creation_fails s.held (user_of s p) (created_port s.held ops)
    (fails (is_attached s.held (target s.held ops 5)) exceptions.object_in_use 5)

abbrev pub new_port : Held → List Operand → Port
new_port h ops = record { journal = record { 0 = target h ops 5 } }

abbrev pub crtjp_changes : State → ℕ → List Operand → Changes
crtjp_changes s p ops = Made (user_of s p) (created_port s.held ops) (Some (bodies.Port (new_port s.held ops)))

abbrev pub crtjp : Instruction
crtjp = record inert {
  needs = λ s p d r. crtjp_needs r.operands;
  fails = λ s p d r. crtjp_fails s p r.operands;
  gives = λ s p d r. Some (creation_gives s.held (created_port s.held r.operands));
  changes = λ s p d r. crtjp_changes s p r.operands;
}

-- no data space is journaled to it
unfoldable pub desjp_fails : Held → List Operand → Option Exception
desjp_fails h ops = fails (port_is_used h (target h ops 1)) exceptions.object_in_use 1

abbrev pub desjp : Instruction
desjp = record inert {
  needs = λ s p d r. destruction_needs kinds.Port;
  fails = λ s p d r. desjp_fails s.held r.operands;
  changes = λ s p d r. Gone kinds.Port (target s.held r.operands 1);
}

-- OBJMGT on the data space and on the port
unfoldable pub jrnlobj_needs : List Need
jrnlobj_needs =
    on_object 1 (Of kinds.DataSpace) rights.objmgt (Some Change) ++ on_object 2 (Of kinds.Port) rights.objmgt (Some Change)

abbrev pub port_journal_in : Option Port → ℕ
port_journal_in None = 0
port_journal_in (Some port) = port.journal.0

-- the journal space that a port names
abbrev pub port_journal : Held → ℕ → ℕ
port_journal h port = port_journal_in (part_at port_part h port)

-- a port and the journal space that it names are on disk
abbrev pub is_port_on_disk : Held → ℕ → Bool
is_port_on_disk h port = is_on_disk h port && is_on_disk h (port_journal h port)

-- the data space is not journaled yet, and port and journal space are on disk
unfoldable pub jrnlobj_fails : Held → List Operand → Option Exception
jrnlobj_fails h ops =
    first (fails (is_some (journal_for h (target h ops 1))) exceptions.object_in_use 1)
    (fails (not (is_port_on_disk h (target h ops 2))) exceptions.object_not_on_disk 2)

-- its changes go through the port from now on, and it is on disk
abbrev pub jrnlobj_changes : Held → List Operand → Changes
jrnlobj_changes h ops = Then (Journaled (target h ops 1) (target h ops 2)) (Ensured (target h ops 1))

abbrev pub jrnlobj : Instruction
jrnlobj = record inert {
  needs = λ s p d r. jrnlobj_needs;
  fails = λ s p d r. jrnlobj_fails s.held r.operands;
  changes = λ s p d r. jrnlobj_changes s.held r.operands;
}
