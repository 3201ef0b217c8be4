-- Commit blocks: made and destroyed, and their units committed or taken back.
use Rattle.std.specs.Prelude.{ℕ, List, ◌++◌, Option, Some, None, is_some}
use Rattle.s38_base.specs.declared.exception.Exception.{Exception}
use Rattle.s38_base.specs.declared.id.Kind.TheVariants as kinds
use Rattle.s38_base.specs.declared.words.Category.TheVariants.{Change}
use Rattle.s38_base.specs.Exceptions as exceptions
use Rattle.s38_base.specs.RightNames as rights
use Rattle.s38_base.specs.Signals.{fails}
use Rattle.s38_code.specs.declared.operand.Operand.{Operand}
use Rattle.s38_commits.specs.Units.{unit_of}
use Rattle.s38_rules.specs.declared.block.Block.{Block}
use Rattle.s38_rules.specs.declared.creating.Creating.{Creating}
use Rattle.s38_rules.specs.declared.need.Need.{Need}
use Rattle.s38_rules.specs.declared.need.Sought.TheVariants.{Of}
use Rattle.s38_rules.specs.declared.object.Body.TheVariants as bodies
use Rattle.s38_rules.specs.declared.port.Port.{Port}
use Rattle.s38_rules.specs.families.Changes.{Changes, Committed, Decommitted, Gone, Made}
use Rattle.s38_rules.specs.families.Changing.{unit_rule}
use Rattle.s38_rules.specs.families.Creation.{creation_fails, creation_gives, creation_needs, destruction_needs, in_context}
use Rattle.s38_rules.specs.state.Held.{Held}
use Rattle.s38_rules.specs.families.Instruction.{Instruction, inert}
use Rattle.s38_rules.specs.ask.Needs.{on_object}
use Rattle.s38_rules.specs.ask.Operands.{target}
use Rattle.s38_rules.specs.state.State.{State}
use Rattle.s38_rules.specs.ask.Users.{user_of}

abbrev pub created_block : Held → List Operand → Creating
created_block h ops = in_context kinds.Block 1 h ops

-- INSERT on the port
unfoldable pub crtcb_needs : List Operand → List Need
crtcb_needs ops = creation_needs ops ++ on_object 5 (Of kinds.Port) rights.insert None

unfoldable pub crtcb_fails : State → ℕ → List Operand → Option Exception
crtcb_fails s p ops = creation_fails s.held (user_of s p) (created_block s.held ops) None

abbrev pub new_block : Held → List Operand → Block
new_block h ops = record { port = record { 0 = target h ops 5 } }

abbrev pub crtcb_changes : State → ℕ → List Operand → Changes
crtcb_changes s p ops = Made (user_of s p) (created_block s.held ops) (Some (bodies.Block (new_block s.held ops)))

abbrev pub crtcb : Instruction
crtcb = record inert {
  needs = λ s p d r. crtcb_needs r.operands;
  fails = λ s p d r. crtcb_fails s p r.operands;
  gives = λ s p d r. Some (creation_gives s.held (created_block s.held r.operands));
  changes = λ s p d r. crtcb_changes s p r.operands;
}

-- it has no unit
unfoldable pub descb_fails : State → List Operand → Option Exception
descb_fails s ops = fails (is_some (unit_of s.units (target s.held ops 1))) exceptions.object_in_use 1

abbrev pub descb : Instruction
descb = record inert {
  needs = λ s p d r. destruction_needs kinds.Block;
  fails = λ s p d r. descb_fails s r.operands;
  changes = λ s p d r. Gone kinds.Block (target s.held r.operands 1);
}

-- UPDATE on the commit block
unfoldable pub unit_needs : List Need
unit_needs = on_object 1 (Of kinds.Block) rights.update (Some Change)

-- its unit, where it has one, is of the process
unfoldable pub unit_fails : State → ℕ → List Operand → Option Exception
unit_fails s p ops = unit_rule p (unit_of s.units (target s.held ops 1))

-- without a unit nothing happens
abbrev pub commit_changes : Held → List Operand → Changes
commit_changes h ops = Committed (target h ops 1)

abbrev pub decommit_changes : Held → List Operand → Changes
decommit_changes h ops = Decommitted (target h ops 1)

abbrev pub commit : Instruction
commit = record inert {
  needs = λ s p d r. unit_needs;
  fails = λ s p d r. unit_fails s p r.operands;
  changes = λ s p d r. commit_changes s.held r.operands;
}

abbrev pub decommit : Instruction
decommit = record inert {
  needs = λ s p d r. unit_needs;
  fails = λ s p d r. unit_fails s p r.operands;
  changes = λ s p d r. decommit_changes s.held r.operands;
}
