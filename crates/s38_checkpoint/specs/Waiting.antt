-- Changes wait while objects are gone through, and go into one put with those of the next objects.
use Rattle.std.specs.Prelude.{◌≡◌, ◌<◌, ℕ, Bool, false, List, ◌∷◌, ◌++◌, Option, Some, None}
use Rattle.s38_base.specs.declared.page.Change.{Change}
use Rattle.s38_checkpoint.specs.Ensuring.{IsAfter, IsFullAt, IsLeft, IsReached}
use Rattle.s38_checkpoint.specs.Passing.{last_object_number}
use Rattle.s38_durable_state.specs.Durable.{Durable}
use Rattle.s38_page_diff.specs.Differences.{IsWanted}
use Rattle.s38_page_diff.specs.Puts.{IsAfterPuts}
use Rattle.s38_page_diff.specs.declared.fault.FlushFault.{FlushFault}
use Rattle.s38_page_diff.specs.declared.fault.FlushFault.TheVariants.{BadHeader, Failed, Full, NoMemory}
use Rattle.s38_page_diff.specs.reconcile.Replacing.{range_of}
use Rattle.s38_page_diff.specs.reconcile.Walking.{AreAt, AreSoFar}
use Rattle.s38_rules.specs.state.Held.{Held}
use Rattle.s38_rules.specs.declared.object.Object.{Object}
use Rattle.s38_vault.specs.Content.{Content, changed}
use Rattle.s38_vault.specs.Directory.{Keys}

-- ---- the next object

-- an object is the next one after those whose last number this is
pub record IsNext (h : Held) (gone rest : List Object) (o : Object) (done : ℕ) : Type 0 where
  pub all : h.objects ≡ gone ++ o ∷ rest
  pub last : done ≡ last_object_number gone

-- the changes of a number are added, where there is one
abbrev pub AddsNumber : Keys → (Content → Type 0) → (ℕ → List Change) → Option ℕ → ℕ → List Change → List Change → Type 0
AddsNumber keys holds wants None last old new = new ≡ old
AddsNumber keys holds wants (Some n) last old new = (last < n) × (IsWanted (range_of n) (wants n) × AreAt keys holds n (wants n) old new)

-- all changes up to a number are known, and those of a journal space that is kept with it, if there are such
pub record AddsNext (keys : Keys) (holds : Content → Type 0) (wants : ℕ → List Change) (n : ℕ) (journal : Option ℕ) (ahead : Bool) (changes : List Change) : Type 0 where
  pub between : List Change
  pub so_far : AreSoFar keys holds wants n between
  pub behind : AddsNumber keys holds wants journal n between changes
  pub none : ahead ≡ false → changes ≡ between

-- ---- what waits

-- A content is held that may be a crash image. With the changes that wait it is that after these objects, and each content
-- between may be a crash image.
pub record Waits (most : ℕ) (m : Content) (d : Durable) (h : Held) (gone : List Object) (n : Content) (changes : List Change) : Type 0 where
  pub held : IsReached m d h n
  pub next : IsAfter m d h gone (changed n changes)
  pub left : (x : Content) → IsAfterPuts most n changes x → IsLeft most m d h x

-- ---- why not all is kept

-- the first objects are kept, unless the vault failed; where it is full, all those before the one that does not fit; no header
-- is read
abbrev pub IsStoppedBy : (Content → Type 0) → ℕ → Content → Durable → Held → FlushFault → Type 0
IsStoppedBy holds parts m d h (Full needed free) = (n : Content) × (holds n × IsFullAt parts m d h n needed free)
IsStoppedBy holds parts m d h (BadHeader object) = ⊥
IsStoppedBy holds parts m d h NoMemory = (n : Content) × (holds n × IsReached m d h n)
IsStoppedBy holds parts m d h Failed = Unit {0}
