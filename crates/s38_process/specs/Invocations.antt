-- The invocations of a process. Each has its program and its place, and its variables are among those of all, after
-- those of its callers. A parameter is no variable of its own: it lies where the caller's argument does.
use Rattle.std.specs.Prelude.{◌≡◌, ◌<◌, ℕ, ◌+◌, ◌-◌, true, List, [], ◌∷◌, ◌++◌, map, drop, length, take, replicate, Option, Some, None, unwrap_or, slice_get, nat_lt, if◌then◌else◌}
use Rattle.std.specs.List.{range_with_len}
use Rattle.s38_base.specs.declared.attr.Attr.{Attr}
use Rattle.s38_base.specs.declared.attr.Attr.TheVariants as attrs
use Rattle.s38_code.specs.declared.made.CreateResult.{CreateResult}
use Rattle.s38_code.specs.declared.made.CreateResult.TheVariants.{Created, Refused}
use Rattle.s38_code.specs.declared.program.Arg.{Arg}
use Rattle.s38_code.specs.declared.program.Arg.TheVariants as args
use Rattle.s38_code.specs.declared.program.Form.{Form}
use Rattle.s38_code.specs.declared.program.Form.TheVariants as forms
use Rattle.s38_code.specs.declared.program.Instruction.{Instruction}
use Rattle.s38_code.specs.declared.program.Program.{Program}
use Rattle.s38_code.specs.declared.program.Row.{Row}
use Rattle.s38_code.specs.declared.reply.Val.{Val}
use Rattle.s38_code.specs.declared.reply.Val.TheVariants as vals
use Rattle.s38_local.specs.declared.frame.Frame.{Frame}
use Rattle.s38_local.specs.Variables.{item_place, value_of_item, value_put_at}
use Rattle.s38_odt.specs.First.{blank_of}
use Rattle.s38_process.specs.declared.invocation.Invocation.{Invocation}

pub record Stack : Type 0 where
  -- all variables, the oldest invocation's first
  pub values : List Val
  -- the newest invocation
  pub top : Invocation
  -- those that called it, the newest first
  pub callers : List Invocation

-- how many invocations there are
abbrev pub depth_of : Stack → ℕ
depth_of s = length s.callers + 1

-- how many there are at most
abbrev pub deepest : ℕ
deepest = 64

-- ---- the program of an invocation; a template that was refused has none

abbrev pub program_rows_in : CreateResult → List Row
program_rows_in (Created program) = program.rows
program_rows_in (Refused id number) = []

abbrev pub instructions_in : CreateResult → List Instruction
instructions_in (Created program) = program.code
instructions_in (Refused id number) = []

-- the instruction that comes next; none past the last
abbrev pub instruction_of : Invocation → Option Instruction
instruction_of top = slice_get (instructions_in top.made) top.frame.at

-- ---- what variables begin with

-- a pointer variable begins with no pointer, another with its first bytes
abbrev pub initial_value : Attr → List ℕ → Val
initial_value attrs.Pointer first = vals.Ptr None
initial_value _ first = vals.Bytes first

-- a name that means no variable of the invocation has a place that nothing uses
abbrev pub first_value : Form → Val
first_value (forms.Local attr first) = initial_value attr first
first_value (forms.Parm k attr) = vals.Ptr None
first_value (forms.Based base offset attr) = vals.Ptr None
first_value (forms.Handler code at) = vals.Ptr None

abbrev pub first_values : List Row → List Val
first_values rows = map (λ row. first_value row.form) rows

-- a job gives a variable for each parameter of its template, which begins as one without a literal does
abbrev pub blank_bytes : Attr → List ℕ
blank_bytes attr = unwrap_or (blank_of attr) []

abbrev pub with_blank_value : Form → List Val → List Val
with_blank_value (forms.Parm k attr) more = initial_value attr (blank_bytes attr) ∷ more
with_blank_value _ more = more

abbrev pub blank_values : List Row → List Val
blank_values [] = []
blank_values (row ∷ rows) = with_blank_value row.form (blank_values rows)

-- ---- where names lie

-- where the caller's argument lies, if that stays while the invocation lasts
abbrev pub lent : ℕ → Option ℕ → ℕ → ℕ
lent base None own = own
lent base (Some place) own = if nat_lt place base then place else own

-- parameters are numbered from 1
abbrev pub home_for : ℕ → List ℕ → ℕ → Form → ℕ
home_for base places own (forms.Parm k attr) = lent base (slice_get places (k - 1)) own
home_for base places own _ = own

-- each declared name has its own place after the base, in order
abbrev pub homes_from : ℕ → List ℕ → ℕ → List Row → List ℕ
homes_from base places own [] = []
homes_from base places own (row ∷ rows) = home_for base places own row.form ∷ homes_from base places (own + 1) rows

-- the places of arguments; what is no item lies nowhere below the base
abbrev pub argument_places : List ℕ → ℕ → List Arg → List ℕ
argument_places homes base arguments = map (λ argument. unwrap_or (item_place homes (Some argument)) base) arguments

-- an invocation begins with its first instruction, and each description of exceptions is on
abbrev pub first_frame : List Row → ℕ → List ℕ → Frame
first_frame rows base places =
    record { at = 0; base = base; homes = homes_from base places base rows; on = replicate (length rows) true; returns = []; latest = 0 }

-- ---- how invocations begin and end

-- the first invocation of a job, after the variables that the job gives for parameters
abbrev pub first_stack : CreateResult → Stack
first_stack made =
    let rows = program_rows_in made in
    let given = blank_values rows in
    record {
      values = given ++ first_values rows;
      top = record { made = made; frame = first_frame rows (length given) (range_with_len 0 (length given)) };
      callers = [];
    }

abbrev pub invoked : Program → ℕ → List ℕ → Invocation
invoked program base places = record { made = Created program; frame = first_frame program.rows base places }

-- a caller goes on after its call
abbrev pub after_call : Invocation → Invocation
after_call caller = record caller { frame = record caller.frame { at = caller.frame.at + 1 } }

-- the arguments of a call come after the program
abbrev pub arguments_in : Option Instruction → List Arg
arguments_in None = []
arguments_in (Some i) = drop 1 i.args

abbrev pub places_for : Invocation → ℕ → List ℕ
places_for caller base = argument_places caller.frame.homes base (arguments_in (instruction_of caller))

-- a program is called by the next instruction of the newest invocation
abbrev pub with_call : Stack → Program → Stack
with_call s program =
    let base = length s.values in
    record {
      values = s.values ++ first_values program.rows;
      top = invoked program base (places_for s.top base);
      callers = after_call s.top ∷ s.callers;
    }

-- a program comes in place of the newest invocation, whose variables end
abbrev pub exchanged : Stack → Program → Stack
exchanged s program =
    let base = s.top.frame.base in
    record s {
      values = take base s.values ++ first_values program.rows;
      top = invoked program base (places_for s.top base);
    }

-- the newest invocation ends, and its variables with it; the first one stays
abbrev pub popped_to : Stack → List Invocation → Stack
popped_to s [] = s
popped_to s (caller ∷ more) = record { values = take s.top.frame.base s.values; top = caller; callers = more }

abbrev pub popped : Stack → Stack
popped s = popped_to s s.callers

-- ---- parameters, in the words of programs

-- in a program that is called, the name at a row is a parameter, and the caller passes the item for it that lies at
-- a place
pub record IsPassedFor (s : Stack) (program : Program) (row place : ℕ) : Type 0 where
  pub number : ℕ
  pub attr : Attr
  pub item : ℕ
  pub name : Row
  pub declared : slice_get program.rows row ≡ Some name
  pub parameter : name.form ≡ forms.Parm number attr
  pub passed : slice_get (arguments_in (instruction_of s.top)) (number - 1) ≡ Some (args.Item item)
  pub lies : slice_get s.top.frame.homes item ≡ Some place
  pub there : place < length s.values

-- what a name of the newest invocation means
abbrev pub read_at : Stack → ℕ → Option Val
read_at s name = value_of_item s.top.frame.homes s.values name

-- what is written there
abbrev pub written_at : Stack → ℕ → Val → Stack
written_at s name v = record s { values = value_put_at s.values (slice_get s.top.frame.homes name) v }
