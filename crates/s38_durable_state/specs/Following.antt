-- How what is durable goes with a state: of each object on disk the store has what is said beside its body, and of nothing
-- else it has anything; and its room counts these objects.
use Rattle.std.specs.Prelude.{◌≡◌, ℕ, true, map, Option, Some, None, is_some, if◌then◌else◌}
use Rattle.std.specs.List.Sorted.{IsStrictlyIncreasing}
use Rattle.std.specs.Option.{option_map}
use Rattle.s38_base.specs.declared.id.Id.{Id}
use Rattle.s38_base.specs.declared.id.ObjNum.{ObjNum}
use Rattle.s38_base.specs.declared.rights.Special.{Special}
use Rattle.s38_image.specs.declared.stored.Stored.{Stored}
use Rattle.s38_rules.specs.declared.object.Body.{Body}
use Rattle.s38_rules.specs.declared.object.Body.TheVariants as bodies
use Rattle.s38_rules.specs.declared.object.Object.{Object}
use Rattle.s38_rules.specs.state.Held.{Held, object}
use Rattle.s38_rules.specs.state.Parts.{profile_of}
use Rattle.s38_rules.specs.store.Room.{Extent, Room, extent_of}
use Rattle.s38_rules.specs.state.Access.{Access, access_of}
use Rattle.s38_durable_state.specs.Durable.{Durable, kept}

-- what is said of an object beside its body and beside what is said of a user
pub record Header : Type 0 where
  pub id : Id
  pub context : ObjNum
  pub standing : Access

abbrev pub image_header_of : Object → Header
image_header_of o = record { id = o.id; context = o.context; standing = access_of o }

abbrev pub image_header_in : Option Object → Option Header
image_header_in None = None
image_header_in (Some o) = if o.on_disk then Some (image_header_of o) else None

abbrev pub header_kept : Stored → Header
header_kept x = image_header_of x.object

-- what is said of a user under a number, where an object on disk is one
abbrev pub user_said_in : Option Object → Option (Special × ℕ)
user_said_in None = None
user_said_in (Some o) = if o.on_disk then profile_of o.body else None

-- what is kept under a number has the header of an object on disk, and no other object is kept; of a user all is kept as it
-- is; and what is kept says that it is on disk
pub record Follows (h : Held) (d : Durable) : Type 0 where
  pub headers : (n : ℕ) → option_map header_kept (kept d.objects n) ≡ image_header_in (object h n)
  pub users : (n : ℕ) (u : Special × ℕ) (x : Stored) → user_said_in (object h n) ≡ Some u → kept d.objects n ≡ Some x → profile_of x.object.body ≡ Some u
  pub disk : (n : ℕ) (x : Stored) → kept d.objects n ≡ Some x → x.object.on_disk ≡ true

abbrev pub object_number : Object → ℕ
object_number o = o.number.0

-- numbers rise
abbrev pub NumbersRise : Held → Type 0
NumbersRise h = IsStrictlyIncreasing (map object_number h.objects)

abbrev pub extent_in : Stored → Extent
extent_in x = extent_of x.object

-- the room of a store counts what is durable
abbrev pub Counts : Option Room → Durable → Type 0
Counts None d = Unit {0}
Counts (Some room) d = room.extents ≡ map extent_in d.objects

-- ---- who is a user was kept as one

abbrev pub StaysUser : Body → Body → Type 0
StaysUser (bodies.Profile special limit) old = is_some (profile_of old) ≡ true
StaysUser _ old = Unit {0}

abbrev pub StaysUserOf : Body → Option Stored → Type 0
StaysUserOf body None = Unit {0}
StaysUserOf body (Some x) = StaysUser body x.object.body

-- what is kept of a user is that of a user
abbrev pub StaysUserIn : Durable → Object → Type 0
StaysUserIn d o = StaysUserOf o.body (kept d.objects o.number.0)
