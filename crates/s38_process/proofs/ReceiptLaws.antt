-- What a reply of one value brings.
use Rattle.std.proofs.Common.{◌≡◌, ◌≤◌, ◌<◌, ℕ, Bool, true, false, List, [], ◌∷◌, drop, get_or, length, refl, sym, ◌∙◌, ap, arith}
use Rattle.std.proofs.Math.ListN.{drop_of_length-le}
use Rattle.std.specs.Prelude.{Option, Some, None, if◌then◌else◌}
use Rattle.s38_base.specs.declared.op.Op.{Op}
use Rattle.s38_code.specs.declared.class.Class.{Class}
use Rattle.s38_code.specs.declared.program.Arg.{Arg}
use Rattle.s38_code.specs.declared.program.Row.{Row}
use Rattle.s38_code.specs.declared.reply.Val.{Val}
use Rattle.s38_local.specs.Variables.{item_place}
use Rattle.s38_process.specs.Replies.{place_for, put_received, takes_value, values_received}

-- no value changes nothing
pub received_none : (op : Op) (rows : List Row) (homes : List ℕ) (classes : List Class) (given : List Arg) (values : List Val) → values_received op rows homes classes given [] values ≡ values
received_none op rows homes (class ∷ more) (arg ∷ rest) values = refl
received_none op rows homes [] given values = refl
received_none op rows homes (class ∷ more) [] values = refl

chosen : (b : Bool) (op : Op) (values one other : List Val) (at past : Option ℕ) (v : Val) → one ≡ put_received op values at v → other ≡ put_received op values past v
    → (if b then one else other) ≡ put_received op values (if b then at else past) v
chosen true op values one other at past v f g = f
chosen false op values one other at past v f g = g

-- one value goes to the first receiver
pub received_one : (op : Op) (rows : List Row) (homes : List ℕ) (classes : List Class) (given : List Arg) (v : Val) (values : List Val)
    → values_received op rows homes classes given (v ∷ []) values ≡ put_received op values (place_for rows homes classes given) v
received_one op rows homes (class ∷ more) (arg ∷ rest) v values =
    let at = item_place homes (Some arg) in
    chosen (takes_value rows class arg) op values (values_received op rows homes more rest [] (put_received op values at v)) (values_received op rows homes more rest (v ∷ []) values) at (place_for rows homes more rest) v
    (received_none op rows homes more rest (put_received op values at v)) (received_one op rows homes more rest v values)
received_one op rows homes [] given v values = refl
received_one op rows homes (class ∷ more) [] v values = refl

pub none_given : (op : Op) (rows : List Row) (homes : List ℕ) (classes : List Class) (given : List Arg) (vs values : List Val) → length vs < 1 → values ≡ values_received op rows homes classes given vs values
none_given op rows homes classes given [] values few = sym (received_none op rows homes classes given values)
none_given op rows homes classes given (v ∷ vs) values few = absurd (omega arith)

pub one_value : (vs : List Val) (v : Val) → 1 ≤ length vs → length vs < 2 → v ≡ get_or vs 0 v → vs ≡ v ∷ []
one_value [] v some few is = absurd (omega arith)
one_value (x ∷ []) v some few is = ap (λ y. y ∷ []) (sym is)
one_value (x ∷ y ∷ more) v some few is = absurd (omega arith)

none_left : (rows : List Row) (homes : List ℕ) (more : List Class) → place_for rows homes more [] ≡ None
none_left rows homes [] = refl
none_left rows homes (class ∷ more) = refl

-- after the last argument there is no receiver
pub none_past : (rows : List Row) (homes : List ℕ) (more : List Class) (given : List Arg) (k : ℕ) (place : Option ℕ) → length given ≤ k → place_for rows homes more (drop k given) ≡ place → None ≡ place
none_past rows homes more given k place past h = sym (none_left rows homes more) ∙ sym (ap (place_for rows homes more) (drop_of_length-le given past)) ∙ h
