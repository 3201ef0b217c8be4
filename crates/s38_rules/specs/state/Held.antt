-- The objects of the one address space, and the numbers that were given. They are looked into and changed by the
-- words below and those of `Parts` alone.
use Rattle.std.specs.Prelude.{ℕ, ◌+◌, ◌*◌, ◌/◌, ◌==◌, Bool, true, false, ◌&&◌, not, List, [], ◌∷◌, ◌++◌, length, filter, sum_by, Option, Some, None, is_some, find, nat_lt, if◌then◌else◌}
use Rattle.s38_base.specs.declared.id.Id.{Id}
use Rattle.s38_base.specs.declared.id.Kind.{Kind}
use Rattle.s38_base.specs.declared.id.Kind.TheVariants as kinds
use Rattle.s38_base.specs.declared.id.ObjNum.{ObjNum}
use Rattle.s38_base.specs.Ids.{same_id}
use Rattle.s38_base.specs.Limits.{cell_bytes, ceiling_step, page_bytes}
use Rattle.s38_rules.specs.declared.object.Object.{Object}
use Rattle.s38_rules.specs.declared.object.Body.{Body}
use Rattle.s38_rules.specs.declared.object.Body.TheVariants as bodies

pub record Held : Type 0 where
  -- in rising order of number
  pub objects : List Object
  -- the number of the next new object
  pub next : ℕ
  -- up to which number objects may be given without asking the store
  pub ceiling : ℕ

-- no object yet
abbrev pub nothing : Held
nothing = record { objects = []; next = 1; ceiling = 0 }

-- ---- looking

abbrev pub has_number : ℕ → Object → Bool
has_number n o = o.number.0 == n

abbrev pub object_in : List Object → ℕ → Option Object
object_in os n = find (has_number n) os

abbrev pub object : Held → ℕ → Option Object
object h n = object_in h.objects n

-- the object of a number is there
abbrev pub is_there : Held → ℕ → Bool
is_there h n = is_some (object h n)

-- a context that is there, or none: what is put into one that is not there is in no context
abbrev pub home : Held → ℕ → ObjNum
home h context = record { 0 = if is_there h context then context else 0 }

-- the object says that it is in a context; one whose context number is 0 is in no context
abbrev pub is_in_context : ℕ → Object → Bool
is_in_context context o = not (context == 0) && (o.context.0 == context)

-- the objects in a context; one that is gone holds nothing
abbrev pub contents : Held → ℕ → List Object
contents h context = if is_there h context then filter (is_in_context context) h.objects else []

abbrev pub is_named : ℕ → Id → Object → Bool
is_named context id o = is_in_context context o && same_id o.id id

abbrev pub found_in : List Object → ℕ → Id → Option Object
found_in os context id = find (is_named context id) os

-- the object of an identification in a context; in one that is gone nothing is found
abbrev pub found : Held → ℕ → Id → Option Object
found h context id = if is_there h context then found_in h.objects context id else None

abbrev pub number_in : Option Object → Option ObjNum
number_in None = None
number_in (Some o) = Some o.number

-- its number
abbrev pub number_found : Held → ℕ → Id → Option ObjNum
number_found h context id = number_in (found h context id)

abbrev pub kind_of : Body → Kind
kind_of bodies.Context = kinds.Context
kind_of (bodies.Program code) = kinds.Program
kind_of (bodies.Profile special limit) = kinds.Profile
kind_of (bodies.Space cells) = kinds.Space
kind_of (bodies.Queue q) = kinds.Queue
kind_of (bodies.Index index) = kinds.Index
kind_of (bodies.DataSpace held) = kinds.DataSpace
kind_of (bodies.Cursor cursor) = kinds.Cursor
kind_of (bodies.Port port) = kinds.Port
kind_of (bodies.Journal journal) = kinds.Journal
kind_of (bodies.Block block) = kinds.Block

abbrev pub owner_in : Option Object → ℕ
owner_in None = 0
owner_in (Some o) = o.owner.0

-- the context that an object says
abbrev pub context_in : Option Object → ObjNum
context_in None = record { 0 = 0 }
context_in (Some o) = o.context

abbrev pub disk_in : Option Object → Bool
disk_in None = false
disk_in (Some o) = o.on_disk

-- the number is one of those on disk
abbrev pub is_on_disk : Held → ℕ → Bool
is_on_disk h n = disk_in (object h n)

-- ---- changing

-- the object of a number is another one from now on
abbrev pub change_in : List Object → ℕ → (Object → Object) → List Object
change_in [] n f = []
change_in (o ∷ os) n f = if has_number n o then f o ∷ os else o ∷ change_in os n f

abbrev pub change : Held → ℕ → (Object → Object) → Held
change h n f = record h { objects = change_in h.objects n f }

-- the object of a number has another identification from now on
abbrev pub renamed : Held → ℕ → Id → Held
renamed h n id = change h n (λ o. record o { id = id })

-- the object of a number says another context from now on, or none
abbrev pub moved : Held → ℕ → ObjNum → Held
moved h n context = change h n (λ o. record o { context = context })

abbrev pub kept_on_disk : Object → Object
kept_on_disk o = record o { on_disk = true }

-- the number is one of those on disk from now on, where there is such an object
abbrev pub ensured : Held → ℕ → Held
ensured h n = change h n kept_on_disk

-- the objects without that of a number
abbrev pub without_in : List Object → ℕ → List Object
without_in os n = filter (λ o. not (has_number n o)) os

-- the object of a number is gone; its number stays given
abbrev pub without : Held → ℕ → Held
without h n = record h { objects = without_in h.objects n }

-- a new object comes after the others, and neither its number nor a lesser one is given again
abbrev pub with_added : Held → Object → Held
with_added h o = record h { objects = h.objects ++ o ∷ []; next = o.number.0 + 1 }

-- where the next number is above the ceiling, the ceiling rises
abbrev pub ceiling_for : ℕ → ℕ → ℕ
ceiling_for ceiling next = if nat_lt ceiling next then ceiling + ceiling_step else ceiling

-- a new object gets the next number
abbrev pub with_object : Held → Object → Held
with_object h o = record { objects = h.objects ++ o ∷ []; next = h.next + 1; ceiling = ceiling_for h.ceiling h.next }

-- ---- what a user pays for

-- the pages of a space: one for each page begun
abbrev pub space_pages : ℕ → ℕ
space_pages cells = (cell_bytes * cells + 511) / page_bytes

-- one page for an object, and those of a space
abbrev pub pages_of : Body → ℕ
pages_of (bodies.Space cells) = 1 + space_pages (length cells)
pages_of _ = 1

abbrev pub pages_for : ℕ → Object → ℕ
pages_for user o = if o.owner.0 == user then pages_of o.body else 0

-- the pages of all objects that a user owns
unfoldable pub charge_in : List Object → ℕ → ℕ
charge_in os user = sum_by (pages_for user) os

-- the pages of the other objects of an object's owner
unfoldable pub charge_beside : List Object → ℕ → ℕ
charge_beside os n = charge_in (without_in os n) (owner_in (object_in os n))
