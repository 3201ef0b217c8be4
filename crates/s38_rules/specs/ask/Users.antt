-- Who acts in a process: its user, and the owners of programs that adopt.
use Rattle.std.specs.Prelude.{ℕ, ◌==◌, Bool, ◌&&◌, ◌||◌, List, [], ◌∷◌, length, Option, Some, None, if◌then◌else◌}
use Rattle.s38_base.specs.declared.id.ObjNum.{ObjNum}
use Rattle.s38_rules.specs.declared.process.Started.{Started}
use Rattle.s38_rules.specs.declared.table.Header.{Header}
use Rattle.s38_rules.specs.state.Headers.{header_in}
use Rattle.s38_rules.specs.state.Held.{Held, object}
use Rattle.s38_rules.specs.state.Invocations.{in_use, stack_of}
use Rattle.s38_rules.specs.state.State.{State, started}

abbrev pub user_in : Option Started → ℕ
user_in None = 0
user_in (Some p) = p.user.0

abbrev pub user_of : State → ℕ → ℕ
user_of s process = user_in (started s process)

abbrev pub contexts_in : Option Started → List ObjNum
contexts_in None = []
contexts_in (Some p) = p.contexts

abbrev pub contexts_of : State → ℕ → List ObjNum
contexts_of s process = contexts_in (started s process)

-- what is said of the program of a frame: nothing of the job's own template, nor of a program that is gone
abbrev pub frame_header : Held → ObjNum → Option Header
frame_header h frame = if frame.0 == 0 then None else header_in (object h frame.0)

-- its owner acts too where the program adopts, and either is the last that counts or passes its adoption on
abbrev pub adoption_of : Bool → Option Header → Option ℕ
adoption_of last None = None
adoption_of last (Some program) = if program.adopts && (last || program.propagates) then Some program.owner.0 else None

abbrev pub with_owner : Option ℕ → List ℕ → List ℕ
with_owner None users = users
with_owner (Some owner) users = owner ∷ users

-- the owners that the frames bring, from the first on
abbrev pub adopted : Held → List ObjNum → List ℕ
adopted h [] = []
adopted h (frame ∷ more) = with_owner (adoption_of (length more == 0) (frame_header h frame)) (adopted h more)

-- the acting users of a process that has come to a depth of invocations: its user first
unfoldable pub acting : State → ℕ → ℕ → List ℕ
acting s process depth = user_of s process ∷ adopted s.held (in_use depth (stack_of s process))
