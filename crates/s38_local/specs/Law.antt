-- What an invocation keeps to, however its program runs, where the program's instructions suit its declarations: each
-- variable holds what its declaration says, and control stays within the code.
use Rattle.std.specs.Prelude.{◌≡◌, ◌≤◌, ℕ, List, map, length, slice_get, Option, Some, None, if◌then◌else◌}
use Rattle.std.specs.List.{All}
use Rattle.s38_base.specs.declared.attr.Attr.{Attr}
use Rattle.s38_base.specs.Attributes.{is_pointer_attr, length_of}
use Rattle.s38_code.specs.declared.program.Arg.{Arg}
use Rattle.s38_code.specs.declared.program.Arg.TheVariants as args
use Rattle.s38_code.specs.declared.program.Form.{Form}
use Rattle.s38_code.specs.declared.program.Form.TheVariants as forms
use Rattle.s38_code.specs.declared.program.Row.{Row}
use Rattle.s38_code.specs.declared.reply.Val.{Val}
use Rattle.s38_code.specs.declared.reply.Val.TheVariants as vals
use Rattle.s38_local.specs.declared.frame.Frame.{Frame}
use Rattle.s38_local.specs.declared.local_end.LocalEnd.{LocalEnd}
use Rattle.s38_local.specs.declared.local_end.LocalEnd.TheVariants as ends
use Rattle.s38_local.specs.Frames.{Went}

-- ---- what a variable holds, but for which

pub data Shape : Type 0 where
  OfBytes : ℕ → Shape
  OfPointer : Shape
  OfNeither : Shape

abbrev pub shape_of : Val → Shape
shape_of (vals.Bytes bytes) = OfBytes (length bytes)
shape_of (vals.Ptr p) = OfPointer
shape_of (vals.Branch taken) = OfNeither
shape_of (vals.Code program) = OfNeither

abbrev pub shapes_of : List Val → List Shape
shapes_of values = map shape_of values

-- as the attribute says
abbrev pub shape_for : Attr → Shape
shape_for attr = if is_pointer_attr attr then OfPointer else OfBytes (length_of attr)

-- ---- a name means what its declaration says

abbrev pub shape_at : List Shape → Option ℕ → Option Shape
shape_at shapes None = None
shape_at shapes (Some place) = slice_get shapes place

-- a variable or a parameter; other names mean no variable
abbrev pub HasShape : Form → Option Shape → Type 0
HasShape (forms.Local attr first) shape = shape ≡ Some (shape_for attr)
HasShape (forms.Parm k attr) shape = shape ≡ Some (shape_for attr)
HasShape (forms.Based base offset attr) shape = Unit {0}
HasShape (forms.Handler code at) shape = Unit {0}

-- each declared name has its place, where what it declares lies
pub record HavePlaces (rows : List Row) (homes : List ℕ) (shapes : List Shape) : Type 0 where
  pub each : (k : ℕ) (row : Row) → slice_get rows k ≡ Some row → HasShape row.form (shape_at shapes (slice_get homes k))

-- ---- an invocation of a program of so many instructions is within it

pub record FrameIsInRange (count : ℕ) (frame : Frame) : Type 0 where
  pub at : frame.at ≤ count
  pub returns : All (λ at. at ≤ count) frame.returns

-- and goes on there
abbrev pub EndsWithin : ℕ → LocalEnd → Type 0
EndsWithin count (ends.Jump at) = at ≤ count
EndsWithin count _ = Unit {0}

-- ---- an operand of its class

-- a literal means itself; an item is declared, and if it lies in no space its variable holds what it declares
abbrev pub ArgumentIsMet : List Row → List ℕ → List Shape → Arg → Type 0
ArgumentIsMet rows homes shapes (args.Item i) = (row : Row) × ((slice_get rows i ≡ Some row) × HasShape row.form (shape_at shapes (slice_get homes i)))
ArgumentIsMet rows homes shapes _ = Unit {0}

-- ---- what one instruction keeps

pub record KeepsLaw (rows : List Row) (count : ℕ) (frame : Frame) (values : List Val) (given : List Arg) (went : Went) : Type 0 where
  -- it meets no operand of another class
  pub met : All (ArgumentIsMet rows frame.homes (shapes_of values)) given
  -- each variable goes on holding what its declaration says
  pub shapes : shapes_of went.values ≡ shapes_of values
  -- names lie where they lay
  pub homes : went.frame.homes ≡ frame.homes
  pub base : went.frame.base ≡ frame.base
  -- the invocation is within its program, and goes on there
  pub within : FrameIsInRange count went.frame
  pub end : EndsWithin count went.end
