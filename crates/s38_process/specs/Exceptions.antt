-- Who takes an exception: it is offered to the newest invocation, then to its callers, newest first. In an invocation
-- the first description in order of declaration takes it that is on and names it. Invocations that do not take it end.
use Rattle.std.specs.Prelude.{ℕ, ◌==◌, Bool, true, false, ◌&&◌, List, [], ◌∷◌, take, Option, Some, None, if◌then◌else◌}
use Rattle.std.specs.Option.{option_or}
use Rattle.s38_code.specs.declared.program.Form.{Form}
use Rattle.s38_code.specs.declared.program.Form.TheVariants as forms
use Rattle.s38_code.specs.declared.program.Row.{Row}
use Rattle.s38_code.specs.declared.reply.Val.{Val}
use Rattle.s38_local.specs.declared.frame.Frame.{Frame}
use Rattle.s38_process.specs.declared.invocation.Invocation.{Invocation}
use Rattle.s38_process.specs.Invocations.{Stack, program_rows_in}

-- one code, or each
abbrev pub names : Option ℕ → ℕ → Bool
names None code = true
names (Some one) code = one == code

-- where a description goes on, if it takes the exception
abbrev pub taken_by : Form → Bool → ℕ → Option ℕ
taken_by (forms.Handler control_taken at) on code = if on && names control_taken code then Some at else None
taken_by (forms.Local attr first) on code = None
taken_by (forms.Parm k attr) on code = None
taken_by (forms.Based base offset attr) on code = None

abbrev pub label_for : List Row → List Bool → ℕ → Option ℕ
label_for [] on code = None
label_for (row ∷ rows) [] code = None
label_for (row ∷ rows) (on ∷ more) code = option_or (taken_by row.form on code) (label_for rows more code)

-- where an invocation goes on, if it takes the exception
abbrev pub label_by : Invocation → ℕ → Option ℕ
label_by top code = label_for (program_rows_in top.made) top.frame.on code

-- control goes to the label, and the internal calls of the invocation end
abbrev pub control_taken : Frame → ℕ → ℕ → Frame
control_taken frame code at = record frame { at = at; returns = []; latest = code }

abbrev pub takes : Invocation → ℕ → ℕ → Invocation
takes top code at = record top { frame = control_taken top.frame code at }

pub record Offered : Type 0 where
  -- the invocations that are left
  pub stack : Stack
  -- whether the newest of them took the exception
  pub taken : Bool

-- the newest invocation takes it, or what follows holds
abbrev pub or_else : ℕ → Stack → Option ℕ → Offered → Offered
or_else code s (Some at) next = record { stack = record s { top = takes s.top code at }; taken = true }
or_else code s None next = next

abbrev pub offered_from : ℕ → List Val → Invocation → List Invocation → Offered
offered_from code values top [] =
    let s : Stack = record { values = values; top = top; callers = [] } in
    or_else code s (label_by top code) (record { stack = s; taken = false })
offered_from code values top (caller ∷ more) =
    let s : Stack = record { values = values; top = top; callers = caller ∷ more } in
    or_else code s (label_by top code) (offered_from code (take top.frame.base values) caller more)

abbrev pub offered : ℕ → Stack → Offered
offered code s = offered_from code s.values s.top s.callers
