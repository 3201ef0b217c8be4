-- What a store can keep of an object.
use Rattle.std.specs.Prelude.{◌≡◌, ℕ, ◌≤◌, length}
use Rattle.s38_base.specs.Limits.{most_rows}
use Rattle.s38_rules.specs.state.Held.{kind_of}
use Rattle.s38_rules.specs.store.Room.{program_size}
use Rattle.s38_rules.specs.declared.object.Body.{Body}
use Rattle.s38_rules.specs.declared.object.Body.TheVariants as bodies
use Rattle.s38_rules.specs.declared.object.Object.{Object}

-- the text of a program is not too long; other bodies keep to their limits by themselves
abbrev pub HasShortText : Body → Type 0
HasShortText (bodies.Program p) = program_size p ≤ 16777216
HasShortText _ = Unit {0}

-- an object whose body is of its kind, with not too many rows and no text that is too long
pub record IsStorable (o : Object) : Type 0 where
  pub kind : kind_of o.body ≡ o.id.kind
  pub rows : length o.rows ≤ most_rows
  pub text : HasShortText o.body
