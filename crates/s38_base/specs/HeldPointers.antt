-- A pointer or none, as a value holds it: the attribute of an item has its place beside the offset.
use Rattle.std.specs.Prelude.{◌≡◌, ℕ, Option, Some, None, refl}
use Rattle.s38_base.specs.declared.attr.Attr.{Attr}
use Rattle.s38_base.specs.declared.attr.Attr.TheVariants as attrs
use Rattle.s38_base.specs.declared.id.ObjNum.{ObjNum}
use Rattle.s38_base.specs.declared.pointer.Pointer.{Pointer}
use Rattle.s38_base.specs.declared.pointer.Pointer.TheVariants as pointers
use Rattle.s38_base.specs.declared.held_pointer.Form.{Form}
use Rattle.s38_base.specs.declared.held_pointer.Form.TheVariants as forms

-- the pointer that a form holds
abbrev pub pointer_of : Form → Option Pointer
pointer_of forms.Nothing = None
pointer_of (forms.System rights object) = Some (pointers.System object rights)
pointer_of (forms.Space offset object) = Some (pointers.Space object offset)
pointer_of (forms.Packed digits fraction offset object) = Some (pointers.Item object offset (attrs.Packed digits fraction))
pointer_of (forms.Zoned digits fraction offset object) = Some (pointers.Item object offset (attrs.Zoned digits fraction))
pointer_of (forms.Binary size offset object) = Some (pointers.Item object offset (attrs.Binary size))
pointer_of (forms.Chars len offset object) = Some (pointers.Item object offset (attrs.Chars len))
pointer_of (forms.Pointer offset object) = Some (pointers.Item object offset attrs.Pointer)

-- the form of a pointer to an item of this attribute
abbrev pub form_of_item : ObjNum → ℕ → Attr → Form
form_of_item object offset (attrs.Packed digits fraction) = forms.Packed digits fraction offset object
form_of_item object offset (attrs.Zoned digits fraction) = forms.Zoned digits fraction offset object
form_of_item object offset (attrs.Binary size) = forms.Binary size offset object
form_of_item object offset (attrs.Chars len) = forms.Chars len offset object
form_of_item object offset attrs.Pointer = forms.Pointer offset object

-- the form that holds a pointer
abbrev pub form_of : Option Pointer → Form
form_of None = forms.Nothing
form_of (Some (pointers.System object rights)) = forms.System rights object
form_of (Some (pointers.Space object offset)) = forms.Space offset object
form_of (Some (pointers.Item object offset attr)) = form_of_item object offset attr

-- so the pointer gives its form back
pub form-back : (form : Form) → form_of (pointer_of form) ≡ form
form-back forms.Nothing = refl
form-back (forms.System rights object) = refl
form-back (forms.Space offset object) = refl
form-back (forms.Packed digits fraction offset object) = refl
form-back (forms.Zoned digits fraction offset object) = refl
form-back (forms.Binary size offset object) = refl
form-back (forms.Chars len offset object) = refl
form-back (forms.Pointer offset object) = refl
