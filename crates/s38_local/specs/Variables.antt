-- The variables of an invocation: what their declarations say, and what they hold.
use Rattle.std.specs.Prelude.{ℕ, Bool, true, false, List, [], Option, Some, None, slice_get, slice_set}
use Rattle.s38_base.specs.declared.attr.Attr.{Attr}
use Rattle.s38_base.specs.declared.attr.Attr.TheVariants as attrs
use Rattle.s38_base.specs.declared.pointer.Pointer.{Pointer}
use Rattle.s38_code.specs.declared.program.Arg.{Arg}
use Rattle.s38_code.specs.declared.program.Arg.TheVariants as args
use Rattle.s38_code.specs.declared.program.Form.{Form}
use Rattle.s38_code.specs.declared.program.Form.TheVariants as forms
use Rattle.s38_code.specs.declared.program.Row.{Row}
use Rattle.s38_code.specs.declared.reply.Val.{Val}
use Rattle.s38_code.specs.declared.reply.Val.TheVariants as vals

-- ---- what a declaration says

abbrev pub attr_of_form : Form → Attr
attr_of_form (forms.Local attr first) = attr
attr_of_form (forms.Parm k attr) = attr
attr_of_form (forms.Based base offset attr) = attr
attr_of_form (forms.Handler code at) = attrs.Pointer

abbrev pub form_in : Option Row → Option Form
form_in None = None
form_in (Some row) = Some row.form

-- an item with a base lies in a space
abbrev pub is_based : Option Form → Bool
is_based (Some (forms.Based base offset attr)) = true
is_based (Some (forms.Local attr first)) = false
is_based (Some (forms.Parm k attr)) = false
is_based (Some (forms.Handler code at)) = false
is_based None = false

abbrev pub attr_in : Option Row → Attr
attr_in None = attrs.Pointer
attr_in (Some row) = attr_of_form row.form

-- ---- where a variable lies: all variables of a process are one list, and each declared name has a place there

-- the place of an item; other operands have none
abbrev pub item_place : List ℕ → Option Arg → Option ℕ
item_place homes (Some (args.Item i)) = slice_get homes i
item_place homes _ = None

abbrev pub value_at : List Val → Option ℕ → Option Val
value_at values None = None
value_at values (Some place) = slice_get values place

-- what an item holds
abbrev pub value_of_item : List ℕ → List Val → ℕ → Option Val
value_of_item homes values i = value_at values (slice_get homes i)

-- ---- what a variable holds

abbrev pub value_bytes : Option Val → List ℕ
value_bytes (Some (vals.Bytes bytes)) = bytes
value_bytes _ = []

abbrev pub value_pointer : Option Val → Option Pointer
value_pointer (Some (vals.Ptr p)) = p
value_pointer _ = None

-- ---- what an argument means: an item, or a literal

abbrev pub argument_attr : List Row → Option Arg → Attr
argument_attr rows (Some (args.Item i)) = attr_in (slice_get rows i)
argument_attr rows (Some (args.Literal attr bytes)) = attr
argument_attr rows _ = attrs.Pointer

abbrev pub argument_bytes : List ℕ → List Val → Option Arg → List ℕ
argument_bytes homes values (Some (args.Item i)) = value_bytes (value_of_item homes values i)
argument_bytes homes values (Some (args.Literal attr bytes)) = bytes
argument_bytes homes values _ = []

abbrev pub argument_pointer : List ℕ → List Val → Option Arg → Option Pointer
argument_pointer homes values (Some (args.Item i)) = value_pointer (value_of_item homes values i)
argument_pointer homes values _ = None

-- ---- how a variable gets a value

abbrev pub value_put_at : List Val → Option ℕ → Val → List Val
value_put_at values None v = values
value_put_at values (Some place) v = slice_set values place v

-- the bytes at a place
abbrev pub held_at : List Val → Option ℕ → List ℕ
held_at values place = value_bytes (value_at values place)
