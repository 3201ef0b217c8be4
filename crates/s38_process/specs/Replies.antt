-- What a reply brings to the variables, and where the process goes on.
use Rattle.std.specs.Prelude.{ℕ, ◌&&◌, Bool, false, not, List, [], ◌∷◌, Option, Some, None, slice_get, if◌then◌else◌}
use Rattle.std.specs.Option.{option_or}
use Rattle.s38_base.specs.declared.op.Op.{Op}
use Rattle.s38_code.specs.declared.class.Class.{Class}
use Rattle.s38_code.specs.declared.program.Arg.{Arg}
use Rattle.s38_code.specs.declared.program.Arg.TheVariants as args
use Rattle.s38_code.specs.declared.program.Row.{Row}
use Rattle.s38_code.specs.declared.reply.Val.{Val}
use Rattle.s38_code.specs.declared.reply.Val.TheVariants as vals
use Rattle.s38_compute.specs.Computed.{copies_left, copies_right}
use Rattle.s38_local.specs.Variables.{form_in, is_based, item_place, value_at, value_put_at}
use Rattle.s38_requests.specs.Requests.{is_receiver}
use Rattle.s38_strings.specs.Copies.{copied_left, copied_right}

-- a copy into a receiver that is longer brings the copied bytes and no others, and the others stay
abbrev pub merged_bytes : Op → List ℕ → List ℕ → List ℕ
merged_bytes op old new =
    if copies_left op then copied_left old new else (if copies_right op then copied_right old new else new)

abbrev pub merged : Op → Option Val → Val → Val
merged op (Some (vals.Bytes old)) (vals.Bytes new) = vals.Bytes (merged_bytes op old new)
merged op old v = v

abbrev pub put_received : Op → List Val → Option ℕ → Val → List Val
put_received op values place v = value_put_at values place (merged op (value_at values place) v)

-- a receiver gets a value, but for one in a space, which the machine has changed there
abbrev pub takes_value : List Row → Class → Arg → Bool
takes_value rows class (args.Item i) = is_receiver class && not (is_based (form_in (slice_get rows i)))
takes_value rows class _ = is_receiver class

-- the variables after a reply, whose values go to the receivers in order
abbrev pub values_received : Op → List Row → List ℕ → List Class → List Arg → List Val → List Val → List Val
values_received op rows homes (class ∷ more) (arg ∷ rest) [] values = values
values_received op rows homes (class ∷ more) (arg ∷ rest) (v ∷ vs) values =
    if takes_value rows class arg then values_received op rows homes more rest vs (put_received op values (item_place homes (Some arg)) v)
    else values_received op rows homes more rest (v ∷ vs) values
values_received op rows homes _ _ vs values = values

-- where the value of a reply goes that brings one: to the first receiver
abbrev pub place_for : List Row → List ℕ → List Class → List Arg → Option ℕ
place_for rows homes (class ∷ more) (arg ∷ rest) = if takes_value rows class arg then item_place homes (Some arg) else place_for rows homes more rest
place_for rows homes _ _ = None

-- a comparison that was asked tells whether it branches
abbrev pub branch_is_taken : List Val → Bool
branch_is_taken (vals.Branch taken ∷ vs) = taken
branch_is_taken _ = false

abbrev pub label_of : Arg → Option ℕ
label_of (args.Jump at) = Some at
label_of _ = None

-- the first label
abbrev pub first_label_in : List Arg → Option ℕ
first_label_in [] = None
first_label_in (arg ∷ rest) = option_or (label_of arg) (first_label_in rest)
