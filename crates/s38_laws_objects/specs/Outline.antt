-- What a store keeps of an object beside its body, and which objects a step has the store keep anew.
use Rattle.std.specs.Prelude.{ℕ, ◌==◌, Bool, false, List, Option, Some, None, if◌then◌else◌}
use Rattle.std.specs.List.{list_any}
use Rattle.s38_base.specs.declared.id.Id.{Id}
use Rattle.s38_base.specs.declared.id.ObjNum.{ObjNum}
use Rattle.s38_base.specs.declared.rights.Special.{Special}
use Rattle.s38_rules.specs.declared.object.Object.{Object}
use Rattle.s38_rules.specs.store.Forcing.{Ceiling, Forced, Header, Removed, Whole}
use Rattle.s38_rules.specs.state.Held.{Held, object}
use Rattle.s38_rules.specs.state.Parts.{profile_of}
use Rattle.s38_rules.specs.state.Access.{Access, access_of}

-- its identification, its context, its owner, rights and rows, and what is said of a user
pub record Outline : Type 0 where
  pub id : Id
  pub context : ObjNum
  pub standing : Access
  pub user : Option (Special × ℕ)

abbrev pub outline_of : Object → Outline
outline_of o = record { id = o.id; context = o.context; standing = access_of o; user = profile_of o.body }

-- a store keeps the outline of an object on disk
abbrev pub kept_outline : Option Object → Option Outline
kept_outline None = None
kept_outline (Some o) = if o.on_disk then Some (outline_of o) else None

-- what it keeps of the object of a number
abbrev pub outline_at : Held → ℕ → Option Outline
outline_at h n = kept_outline (object h n)

-- a store has to keep something anew of the object of a number
abbrev pub speaks_of : ℕ → Forced → Bool
speaks_of n Ceiling = false
speaks_of n (Header m) = m == n
speaks_of n (Whole m) = m == n
speaks_of n (Removed m) = m == n

abbrev pub is_forced : ℕ → List Forced → Bool
is_forced n all = list_any (speaks_of n) all
