-- With what the machine begins: the machine context and the security officer, a context for everybody, a user
-- without special authorities, and a queue that everybody may find and nobody else may use.
use Rattle.std.specs.Prelude.{ℕ, ◌+◌, false, true, List, [], ◌∷◌, None, map, codes}
use Rattle.s38_base.specs.declared.id.ObjNum.{ObjNum}
use Rattle.s38_base.specs.declared.id.Id.{Id}
use Rattle.s38_base.specs.declared.id.Kind.{Kind}
use Rattle.s38_base.specs.declared.id.Kind.TheVariants as kinds
use Rattle.s38_base.specs.Limits.{body_limit}
use Rattle.s38_base.specs.RightNames as rights
use Rattle.s38_queues.specs.declared.message.Order.TheVariants.{Fifo}
use Rattle.s38_code.specs.declared.deck.Job.{Job}
use Rattle.s38_code.specs.declared.made.CheckedTemplate.{CheckedTemplate}
use Rattle.s38_rules.specs.declared.object.Object.{Object}
use Rattle.s38_rules.specs.declared.object.Body.{Body}
use Rattle.s38_rules.specs.declared.object.Body.TheVariants as bodies
use Rattle.s38_rules.specs.declared.rows.PrivateRow.{PrivateRow}
use Rattle.s38_rules.specs.declared.process.ProcessEntry.{ProcessEntry}
use Rattle.s38_rules.specs.state.Held.{Held}
use Rattle.s38_rules.specs.state.PrivateRows.{row_for}
use Rattle.s38_rules.specs.state.State.{State}

abbrev pub num : ℕ → ObjNum
num n = record { 0 = n }

-- all eight rights of the security officer, who is user 2
abbrev pub officer_rows : List PrivateRow
officer_rows = row_for (num 2) (record { 0 = rights.all_rights })

abbrev pub named : Kind → List ℕ → Id
named kind name = record { kind = kind; sub = 0; name = name }

-- RETRIEVE and INSERT: everybody finds objects in the context, and puts objects into it
abbrev pub found_and_filled : ℕ
found_and_filled = rights.retrieve + rights.insert

abbrev pub both_specials : ℕ
both_specials = rights.allobj + rights.profile

-- an object of the security officer, which is on disk
abbrev pub owned : ℕ → Id → ℕ → ℕ → Body → Object
owned number id context public body =
    record { number = num number; id = id; context = num context; owner = num 2; public = record { 0 = public }; rows = officer_rows; on_disk = true; body = body }

abbrev pub machine_context_object : Object
machine_context_object = owned 1 (named kinds.Context (codes "QMACHINE")) 1 found_and_filled bodies.Context

abbrev pub officer_object : Object
officer_object = owned 2 (named kinds.Profile (codes "QSECOFR")) 1 rights.no_rights (bodies.Profile (record { 0 = both_specials }) 4294967295)

abbrev pub general_context : Object
general_context = owned 3 (named kinds.Context (codes "QGPL")) 1 found_and_filled bodies.Context

abbrev pub plain_user : Object
plain_user = owned 4 (named kinds.Profile (codes "QUSER")) 1 rights.no_rights (bodies.Profile (record { 0 = rights.no_rights }) 100)

abbrev pub locked_queue : Object
locked_queue = owned 5 (named kinds.Queue (codes "QLOCKED")) 3 rights.retrieve (bodies.Queue (record { order = Fifo; key_len = 0; longest = 8; messages = [] }))

unfoldable pub opening : List Object
opening = machine_context_object ∷ officer_object ∷ general_context ∷ plain_user ∷ locked_queue ∷ []

-- no process has started
abbrev pub process_entries : List Job → List ProcessEntry
process_entries jobs = map (λ job. record { job = job; started = None; ended = false }) jobs

abbrev pub state_of : Held → List CheckedTemplate → List Job → State
state_of held templates jobs =
    record { held = held; limit = body_limit; templates = templates; processes = process_entries jobs; waiting = []; locks = []; units = []; room = None }

abbrev pub held_first : Held
held_first = record { objects = opening; next = 6; ceiling = 5 }

-- the machine context and the security officer alone, as after the installation of a store
unfoldable pub installed : List Object
installed = machine_context_object ∷ officer_object ∷ []

abbrev pub held_installed : Held
held_installed = record { objects = installed; next = 3; ceiling = 2 }

-- the state in which a deck's jobs find the machine, with the deck's templates
abbrev pub opened : List CheckedTemplate → List Job → State
opened templates jobs = state_of held_first templates jobs
