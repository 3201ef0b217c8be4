-- What rows force.
use Rattle.std.proofs.Common.{◌≡◌, ℕ, List, [], refl, subst}
use Rattle.s38_base.specs.declared.op.Op.{Op}
use Rattle.s38_base.specs.declared.op.Op.TheVariants.{Lock, Unlock, Xfrlock, Rslvsp, Setspfp}
use Rattle.s38_code.specs.declared.event.Request.{Request}
use Rattle.s38_commits.specs.declared.change.UnitChange.{UnitChange}
use Rattle.s38_commits.specs.Changes.{entry_size}
use Rattle.s38_dataspaces.specs.Table.{DataTable}
use Rattle.s38_rules.specs.families.Changes.{Entered}
use Rattle.s38_rules.specs.store.Forcing.{Forced, forced_by}
use Rattle.s38_rules.specs.families.Locking.{locks_row}
use Rattle.s38_rules.specs.families.Resolving.{resolving_row}
use Rattle.s38_rules.specs.state.State.{State}
use Rattle.s38_space_rules.specs.declared.logging.EntryChange.{EntryChange}

-- what a change of an entry forces, where it is the change that a row makes
pub changed_row : (s : State) (p : ℕ) (all : List Forced) (x y : EntryChange) (made : UnitChange) (f : DataTable → DataTable)
    → ((process : ℕ) (made : UnitChange) (f : DataTable → DataTable) → made.space ≡ x.space → entry_size made.before ≡ x.before → entry_size made.after ≡ x.after → all ≡ forced_by s process (Entered x.block.0 made f))
    → x ≡ y → made.space ≡ y.space → entry_size made.before ≡ y.before → entry_size made.after ≡ y.after → all ≡ forced_by s p (Entered y.block.0 made f)
changed_row s p all x y made f forces same =
    subst (λ (z : EntryChange). made.space ≡ z.space → entry_size made.before ≡ z.before → entry_size made.after ≡ z.after → all ≡ forced_by s p (Entered z.block.0 made f)) same (forces p made f)

-- locks force nothing
pub locks_silent : (op : Op) (s : State) (p d : ℕ) (r : Request) → forced_by s p ((locks_row op).changes s p d r) ≡ []
unfolding locks_row
locks_silent Lock s p d r = refl
locks_silent Unlock s p d r = refl
locks_silent Xfrlock s p d r = refl
locks_silent _ s p d r = refl

-- nor do pointers that are resolved
pub resolving_silent : (op : Op) (s : State) (p d : ℕ) (r : Request) → forced_by s p ((resolving_row op).changes s p d r) ≡ []
unfolding resolving_row
resolving_silent Rslvsp s p d r = refl
resolving_silent Setspfp s p d r = refl
resolving_silent _ s p d r = refl
