-- Which instructions change authority, and which store a frame.
use Rattle.std.proofs.Common.{◌≡◌, ℕ, refl}
use Rattle.s38_base.specs.declared.op.Op.TheVariants.{Callx, Modup}
use Rattle.s38_base.specs.declared.op.Op.{Op}
use Rattle.s38_code.specs.Operations.{family_of}
use Rattle.s38_code.specs.declared.event.Request.{Request}
use Rattle.s38_rules.specs.families.Contexts.{contexts_row}
use Rattle.s38_rules.specs.families.DataSpaces.{data_spaces_row}
use Rattle.s38_rules.specs.families.Grants.{grants_row}
use Rattle.s38_rules.specs.families.Indexes.{indexes_row}
use Rattle.s38_rules.specs.families.Journals.{journals_row}
use Rattle.s38_rules.specs.families.Locking.{locks_row}
use Rattle.s38_rules.specs.families.Profiles.{profiles_row}
use Rattle.s38_rules.specs.families.Programs.{programs_row}
use Rattle.s38_rules.specs.families.Queues.{queues_row}
use Rattle.s38_rules.specs.families.Resolving.{resolving_row}
use Rattle.s38_rules.specs.families.Rows.{row, row_in}
use Rattle.s38_rules.specs.families.Spaces.{spaces_row}
use Rattle.s38_rules.specs.state.State.{State}
use Rattle.s38_rights_cache.specs.Following.{changes_authority, changes_frames, is_of_authority, is_of_frames, world_after_change, world_after_op}
use Rattle.s38_rights_cache.specs.Worlds.{WorldState}

pub authority_of : (op : Op) (s : State) (p d : ℕ) (r : Request) → changes_authority ((row op).changes s p d r) ≡ is_of_authority op
unfolding row_in family_of contexts_row data_spaces_row grants_row indexes_row journals_row locks_row profiles_row programs_row queues_row resolving_row spaces_row
authority_of Modup s p d r = refl
authority_of _ s p d r = refl

pub frames_of_op : (op : Op) (s : State) (p d : ℕ) (r : Request) → changes_frames ((row op).changes s p d r) ≡ is_of_frames op
unfolding row_in family_of contexts_row data_spaces_row grants_row indexes_row journals_row locks_row profiles_row programs_row queues_row resolving_row spaces_row
frames_of_op Callx s p d r = refl
frames_of_op _ s p d r = refl

-- what follows an instruction is what follows its change
pub world_after_act : (w : WorldState) (s : State) (p d : ℕ) (r : Request) (t : State) → world_after_op w p r.op t ≡ world_after_change (record w { state = s }) p ((row r.op).changes s p d r) t
world_after_act w s p d r t = rw (authority_of r.op s p d r, frames_of_op r.op s p d r) refl
