-- On which objects an event has rights checked, and the world after that.
use Rattle.std.specs.Prelude.{ℕ, nat_lt, Bool, true, false, ◌&&◌, List, [], ◌∷◌, ◌++◌, Option, Some, None, if◌then◌else◌}
use Rattle.s38_base.specs.declared.exception.Exception.{Exception}
use Rattle.s38_base.specs.declared.id.ObjNum.{ObjNum}
use Rattle.s38_code.specs.declared.event.Event.{Event}
use Rattle.s38_code.specs.declared.event.Event.TheVariants.{Start, Act, Finish}
use Rattle.s38_code.specs.declared.event.Request.{Request}
use Rattle.s38_code.specs.declared.operand.Operand.{Operand}
use Rattle.s38_rules.specs.declared.need.Claim.{Claim}
use Rattle.s38_rules.specs.declared.need.Claim.TheVariants.{Available, Granting, Ownership}
use Rattle.s38_rules.specs.declared.need.Need.{Need}
use Rattle.s38_rules.specs.ask.Authority.{is_governed, lacks_special}
use Rattle.s38_rules.specs.state.Held.{is_there}
use Rattle.s38_rules.specs.families.Instruction.{Instruction}
use Rattle.s38_rules.specs.families.Rows.{row}
use Rattle.s38_rules.specs.state.State.{State}
use Rattle.s38_rules.specs.ask.Users.{acting}
use Rattle.s38_rules.specs.ask.RightsRules.{rights_rule, subject}
use Rattle.s38_rules.specs.ask.AddressRules.{address_rules}
use Rattle.s38_rights_cache.specs.Places.{all_found, is_live, rows_of_all}
use Rattle.s38_rights_cache.specs.Worlds.{WorldState}

-- ---- a need

-- a claim is met by rights; that of who gives or takes authority by rights only where no acting user governs the object
abbrev pub checked_for : Claim → Bool → List ObjNum → List ObjNum
checked_for Available governed objects = objects
checked_for Granting true objects = []
checked_for Granting false objects = objects
checked_for Ownership governed objects = []

-- rights are checked of a process that lives, while a frame of it is in use, on an object that is there
abbrev pub is_checked : State → ℕ → ℕ → ℕ → Bool
is_checked s p d n = is_there s.held n && nat_lt 0 d && is_live s p

abbrev pub checked_on : State → ℕ → ℕ → ObjNum → List ObjNum
checked_on s p d object = if is_checked s p d object.0 then object ∷ [] else []

abbrev pub need_checks : State → ℕ → ℕ → List Operand → Need → List ObjNum
need_checks s p d ops need =
    checked_for need.claim (is_governed s.held (subject s.held ops need.place need.named) (acting s p d)) (checked_on s p d (record { 0 = subject s.held ops need.place need.named }))

-- ---- an instruction

-- after a rule that fails nothing is checked
abbrev pub unless_failed : Option Exception → List ObjNum → List ObjNum
unless_failed None objects = objects
unless_failed (Some x) objects = []

-- need by need, up to the first whose claim is not met
abbrev pub needs_check : State → ℕ → ℕ → List Operand → List Need → List ObjNum
needs_check s p d ops [] = []
needs_check s p d ops (need ∷ more) =
    need_checks s p d ops need ++ unless_failed (rights_rule s.held (acting s p d) ops need) (needs_check s p d ops more)

-- only where no address rule fails and no special authority is missing
abbrev pub checks_with : Instruction → State → ℕ → ℕ → Request → List Need → List ObjNum
checks_with i s p d r wanted =
    unless_failed (address_rules s.held r.operands wanted)
    (unless_failed (lacks_special s.held (acting s p d) (i.special s p d r)) (needs_check s p d r.operands wanted))

-- ---- an event

unfoldable pub checks_of : State → ℕ → Event → List ObjNum
checks_of s p Start = []
checks_of s p (Act depth request) = checks_with (row request.op) s p depth request ((row request.op).needs s p depth request)
checks_of s p (Finish cause) = []

abbrev pub depth_of : Event → ℕ
depth_of Start = 0
depth_of (Act depth request) = depth
depth_of (Finish cause) = 0

-- after its checks the place of its process has what was found last, if anything was
abbrev pub checked_world : WorldState → ℕ → Event → WorldState
checked_world w p event = all_found w p (depth_of event) (checks_of w.state p event)

-- how many rows they visit
abbrev pub rows_for : WorldState → ℕ → Event → ℕ
rows_for w p event = rows_of_all w p (depth_of event) (checks_of w.state p event)
