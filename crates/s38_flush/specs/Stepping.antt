-- What the flush of a step puts: first the ceiling, and then what differs of each object that must persist.
use Rattle.std.specs.Prelude.{◌≡◌, ◌≤◌, ◌<◌, ℕ, Bool, false, true, List, [], ◌∷◌, length, Option, None, Some, if◌then◌else◌}
use Rattle.std.specs.List.{list_any}
use Rattle.s38_base.specs.Limits.{most_rows}
use Rattle.s38_base.specs.declared.id.Kind.TheVariants as kinds
use Rattle.s38_base.specs.declared.page.Change.{Change}
use Rattle.s38_base.specs.declared.page.Key.{Key}
use Rattle.s38_base.specs.declared.page.Page.{Page}
use Rattle.s38_commits.specs.Units.{UnitMap}
use Rattle.s38_durable_state.specs.Durable.{Durable, durable_after, kept, kept_after}
use Rattle.s38_durable_state.specs.Represents.{Represents, aims_of, pages_put_at}
use Rattle.s38_page_diff.specs.Aims.{all_differences}
use Rattle.s38_image.specs.PartPlaces.{ceiling_key}
use Rattle.s38_image.specs.Fitting.{header_codec}
use Rattle.s38_image.specs.Images.{stored_header}
use Rattle.s38_image.specs.declared.stored.Stored.{Stored}
use Rattle.s38_laws_objects.specs.Outline.{is_forced}
use Rattle.s38_rules.specs.store.Forcing.{Ceiling, Forced}
use Rattle.s38_rules.specs.state.Held.{Held, object}
use Rattle.s38_rules.specs.store.Room.{image_len}
use Rattle.s38_rules.specs.state.State.{State}
use Rattle.s38_rules.specs.declared.object.Object.{Object}
use Rattle.s38_vault.specs.Content.{Content}
use Rattle.s38_flush.specs.Growing.{AreBeginnings}
use Rattle.s38_flush.specs.Numbers.{numbers}

-- ---- what may have to persist

-- the number of an object: neither 0 nor that of the ceiling
abbrev pub IsNumber : ℕ → Type 0
IsNumber n = (1 ≤ n) × (n < ceiling_key)

-- the numbers of what must persist are those of objects
abbrev pub AreNumbers : List Forced → Type 0
AreNumbers all = (n : ℕ) → is_forced n all ≡ true → IsNumber n

-- ---- what is put

abbrev pub is_forced_ceiling : Forced → Bool
is_forced_ceiling Ceiling = true
is_forced_ceiling _ = false

-- the number of the ceiling, where it must persist
abbrev pub ceiling_number : List Forced → List ℕ
ceiling_number all = if list_any is_forced_ceiling all then ceiling_key ∷ [] else []

-- the ceiling where it differs
abbrev pub ceiling_changes : List Forced → (Key → Option Page) → Durable → List Change
ceiling_changes all pages d = all_differences pages (aims_of d (ceiling_number all))

-- of the objects the parts that differ, in the order of their keys
abbrev pub object_changes : List Forced → (Key → Option Page) → Durable → List Change
object_changes all pages d = all_differences pages (aims_of d (numbers all))

-- the content after the put of the ceiling
abbrev pub put_ceiling : List Forced → Content → Durable → Content
put_ceiling all m d = pages_put_at (ceiling_number all) m d

-- the content after all puts
abbrev pub put_forced : List Forced → Content → Durable → Content
put_forced all m d = pages_put_at (numbers all) (put_ceiling all m d) d

-- what is durable once the ceiling is put
abbrev pub raised : Durable → State → Durable
raised d s = record d { ceiling = s.held.ceiling }

-- what is durable after the step of an object that is there
abbrev pub kept_there : List Forced → State → List Stored → Object → Option Stored
kept_there all s old o = if o.on_disk then Some (kept_after all s (kept old o.number.0) o) else None

-- ---- what can follow

-- the header that is kept of an object can be read again, and says as many bytes as the image of the body has, there are not
-- too many rows, and no entry of a journal space is counted in of a user
pub record HasHeader (x : Stored) : Type 0 where
  pub fits : header_codec.fits (stored_header x) ≡ true
  pub long : (stored_header x).body ≡ image_len x.object.body
  pub rows : length x.object.rows ≤ most_rows
  pub user : x.object.id.kind ≡ kinds.Profile → x.sequence ≡ 0

-- where something is kept
abbrev pub HasHeaderIn : Option Stored → Type 0
HasHeaderIn None = Unit {0}
HasHeaderIn (Some x) = HasHeader x

-- of all that is kept
abbrev pub HaveHeaders : Durable → Type 0
HaveHeaders d = (n : ℕ) (x : Stored) → kept d.objects n ≡ Some x → HasHeader x

-- ---- before the puts

-- the content represents what is durable, of which each header can be read again, and the state has these objects and
-- units; an object that is there is kept under its kind, and of a journal space a beginning is kept
pub record Precedes (h : Held) (us : UnitMap) (m : Content) (d : Durable) (s : State) : Type 0 where
  pub held : s.held ≡ h
  pub units : s.units ≡ us
  pub stands : Represents m d
  pub headers : HaveHeaders d
  pub kinds : (n : ℕ) (o : Object) (x : Stored) → object s.held n ≡ Some o → kept d.objects n ≡ Some x → x.object.id.kind ≡ o.id.kind
  pub grows : AreBeginnings s.held d

-- a step led from what is durable to the state, and this must persist: all else stays durable
pub record IsDue (all : List Forced) (d : Durable) (s : State) : Type 0 where
  pub objects : (n : ℕ) → is_forced n all ≡ false → kept (durable_after all d s).objects n ≡ kept d.objects n
  pub ceiling : list_any is_forced_ceiling all ≡ false → s.held.ceiling ≡ d.ceiling
