-- The row of each instruction, by its family. A computation of the process itself, and a branch, is no row: it needs
-- nothing of the machine and does nothing to it.
use Rattle.s38_base.specs.declared.op.Op.{Op}
use Rattle.s38_code.specs.declared.family.Family.{Family}
use Rattle.s38_code.specs.declared.family.Family.TheVariants as families
use Rattle.s38_code.specs.Operations.{family_of}
use Rattle.s38_rules.specs.families.Computing.{computing}
use Rattle.s38_rules.specs.families.Contexts.{contexts_row}
use Rattle.s38_rules.specs.families.DataSpaces.{data_spaces_row}
use Rattle.s38_rules.specs.families.Grants.{grants_row}
use Rattle.s38_rules.specs.families.Indexes.{indexes_row}
use Rattle.s38_rules.specs.families.Instruction.{Instruction, inert}
use Rattle.s38_rules.specs.families.Journals.{journals_row}
use Rattle.s38_rules.specs.families.Locking.{locks_row}
use Rattle.s38_rules.specs.families.Profiles.{profiles_row}
use Rattle.s38_rules.specs.families.Programs.{programs_row}
use Rattle.s38_rules.specs.families.Queues.{queues_row}
use Rattle.s38_rules.specs.families.Resolving.{resolving_row}
use Rattle.s38_rules.specs.families.Spaces.{spaces_row}

unfoldable pub row_in : Family → Op → Instruction
row_in families.Computing op = computing
row_in families.Resolving op = resolving_row op
row_in families.Contexts op = contexts_row op
row_in families.Profiles op = profiles_row op
row_in families.Grants op = grants_row op
row_in families.Programs op = programs_row op
row_in families.Locks op = locks_row op
row_in families.Spaces op = spaces_row op
row_in families.Queues op = queues_row op
row_in families.Indexes op = indexes_row op
row_in families.DataSpaces op = data_spaces_row op
row_in families.Journals op = journals_row op
row_in _ op = inert

abbrev pub row : Op → Instruction
row op = row_in (family_of op) op
