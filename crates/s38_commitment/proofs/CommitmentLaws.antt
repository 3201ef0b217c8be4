-- What making journal spaces, ports and commit blocks has met, entries that are not there, and what is kept of users.
use Rattle.s38_rules.specs.families.Changes.{through_port}
use Rattle.std.proofs.Common.{◌≡◌, ℕ, zero, suc, ◌<◌, ◌≤◌, List, [], ◌∷◌, ap, arith, length, not, refl, sym}
use Rattle.std.specs.Prelude.{Option, Some, None, is_some, option_map, slice_get}
use Rattle.s38_base.specs.declared.exception.Exception.{Exception}
use Rattle.s38_base.specs.Exceptions as exceptions
use Rattle.s38_base.specs.Signals.{fails, first}
use Rattle.s38_code.specs.declared.operand.Operand.{Operand}
use Rattle.s38_journals.specs.Entries.{JournalRecord, entry_image}
use Rattle.s38_journals.specs.Journals.{entry_bytes_at}
use Rattle.s38_profiles.specs.ProfileMaps.{ProfileMaps}
use Rattle.s38_changes.proofs.KeptLaws.{left}
use Rattle.s38_units.proofs.KeptLaws.{data_kept}
use Rattle.s38_rules.specs.families.Creation.{creation_fails}
use Rattle.s38_rules.specs.state.Held.{Held, ensured, kept_on_disk}
use Rattle.s38_rules.specs.families.Journals.{created_journal, crtjs_fails}
use Rattle.s38_rules.specs.families.CommitBlocks.{crtcb_fails, created_block}
use Rattle.s38_rules.specs.families.Ports.{created_port, crtjp_fails, is_attached, is_port_on_disk, jrnlobj_fails}
use Rattle.s38_rules.specs.state.Journaling.{journal_for}
use Rattle.s38_rules.specs.state.Kept.{Mirrors}
use Rattle.s38_rules.specs.ask.Operands.{target}
use Rattle.s38_rules.specs.state.PartsAt.{on_data}
use Rattle.s38_rules.specs.state.State.{State}
use Rattle.s38_rules.specs.ask.Users.{user_of}

-- ---- creation

pub crtjs_created : (s : State) (p : ℕ) (ops : List Operand) → crtjs_fails s p ops ≡ None
    → (own : Option Exception) × (creation_fails s.held (user_of s p) (created_journal s.held ops) own ≡ None)
unfolding crtjs_fails
crtjs_created s p ops h = (None, h)

pub crtjp_created : (s : State) (p : ℕ) (ops : List Operand) → crtjp_fails s p ops ≡ None
    → (own : Option Exception) × (creation_fails s.held (user_of s p) (created_port s.held ops) own ≡ None)
unfolding crtjp_fails
crtjp_created s p ops h = (fails (is_attached s.held (target s.held ops 5)) exceptions.object_in_use 5, h)

pub crtcb_created : (s : State) (p : ℕ) (ops : List Operand) → crtcb_fails s p ops ≡ None
    → (own : Option Exception) × (creation_fails s.held (user_of s p) (created_block s.held ops) own ≡ None)
unfolding crtcb_fails
crtcb_created s p ops h = (None, h)

-- ---- entries

-- a journal without an entry has no bytes of one
pub no_bytes : (sequence : ℕ) → entry_bytes_at [] sequence ≡ None
no_bytes zero = refl
no_bytes (suc k) = refl

none_there : (entries : List JournalRecord) (k : ℕ) → length entries ≤ k → slice_get entries k ≡ None
none_there [] k far = refl
none_there (e ∷ entries) zero far = absurd (omega (arith, far))
none_there (e ∷ entries) (suc k) far = none_there entries k (omega (arith, far))

-- after the last sequence there is none
pub none_after : (entries : List JournalRecord) (sequence : ℕ) → length entries < sequence → entry_bytes_at entries sequence ≡ None
none_after entries zero far = refl
none_after entries (suc k) far = ap (option_map (entry_image (suc k))) (none_there entries k (omega (arith, far)))

-- ---- the rules of journaling, one after another

pub journaled_first : (h : Held) (ops : List Operand) (failure : Exception) → fails (is_some (journal_for h (target h ops 1))) exceptions.object_in_use 1 ≡ Some failure
    → Some failure ≡ jrnlobj_fails h ops
unfolding jrnlobj_fails
journaled_first h ops failure is =
    sym (ap (λ (x : Option Exception). first x (fails (not (is_port_on_disk h (target h ops 2))) exceptions.object_not_on_disk 2)) is)

pub journaled_then : (h : Held) (ops : List Operand) → fails (is_some (journal_for h (target h ops 1))) exceptions.object_in_use 1 ≡ None
    → fails (not (is_port_on_disk h (target h ops 2))) exceptions.object_not_on_disk 2 ≡ jrnlobj_fails h ops
unfolding jrnlobj_fails
journaled_then h ops is =
    sym (ap (λ (x : Option Exception). first x (fails (not (is_port_on_disk h (target h ops 2))) exceptions.object_not_on_disk 2)) is)

-- ---- what is kept of users

-- an object is on disk
pub ensured_kept : (maps : ProfileMaps) (h : Held) (n : ℕ) → Mirrors maps h → Mirrors maps (ensured h n)
ensured_kept maps h n m =
    left maps h n kept_on_disk (λ o. refl) (λ o there. record { owner = refl; rows = refl; pages = refl; profile = λ charge. refl }) m

-- a data space is journaled, and on disk
pub journaled_kept : (maps : ProfileMaps) (h : Held) (space port : ℕ) → Mirrors maps h → Mirrors maps (ensured (on_data h space (through_port port)) space)
journaled_kept maps h space port m = ensured_kept maps (on_data h space (through_port port)) space (data_kept maps h space (through_port port) m)
