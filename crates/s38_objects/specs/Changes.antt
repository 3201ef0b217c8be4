-- How the map from numbers to objects is changed.
use Rattle.std.specs.Prelude.{◌≡◌, ℕ, ◌==◌, List, [], ◌∷◌, if◌then◌else◌}
use Rattle.s38_base.specs.declared.id.Id.{Id}
use Rattle.s38_base.specs.declared.id.ObjNum.{ObjNum}
use Rattle.s38_rules.specs.declared.object.Object.{Object}
use Rattle.s38_rules.specs.declared.object.Body.{Body}
use Rattle.s38_rules.specs.state.Access.{Access, access_of, with_access}

-- an object with another body
abbrev pub with_body : (Body → Body) → Object → Object
with_body f o = record o { body = f o.body }

-- an object whose owner, rights or rows are others
abbrev pub with_changed_standing : (Access → Access) → Object → Object
with_changed_standing f o = with_access (f (access_of o)) o

-- an object in another context and with another identification
abbrev pub placed : ObjNum → Id → Object → Object
placed context id o = record o { context = context; id = id }

-- the object of a number is another one from now on
abbrev pub changed_at : List (ℕ × Object) → ℕ → (Object → Object) → List (ℕ × Object)
changed_at [] n f = []
changed_at (e ∷ es) n f = if e.0 == n then (e.0, f e.1) ∷ es else e ∷ changed_at es n f

-- an object is found by the same number and name as before
pub record KeepsName (f : Object → Object) : Type 0 where
  pub number : (o : Object) → (f o).number ≡ o.number
  pub context : (o : Object) → (f o).context ≡ o.context
  pub id : (o : Object) → (f o).id ≡ o.id
