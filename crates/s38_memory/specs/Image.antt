-- The sixteen bytes that show a pointer: its kind, three bytes of detail, the offset and the object's number.
use Rattle.std.specs.Prelude.{ℕ, ◌==◌, ◌^◌, ◌<◌, List, [], ◌∷◌, ◌++◌, Option, Some, None, option_and_then, slice_index, drop, if◌then◌else◌}
use Rattle.byteorder.specs.Endian.{big_bytes, big_number}
use Rattle.s38_base.specs.declared.attr.Attr.{Attr}
use Rattle.s38_base.specs.declared.attr.Attr.TheVariants.{Packed, Zoned, Binary, Chars}
use Rattle.s38_base.specs.declared.pointer.Pointer.{Pointer}
use Rattle.s38_base.specs.declared.pointer.Pointer.TheVariants.{System, Space, Item}

-- the kind of an attribute, and two bytes of it: digits and fraction, 0 and the size, or the length
abbrev pub attr_image : Attr → List ℕ
attr_image (Packed digits fraction) = 1 ∷ digits ∷ fraction ∷ []
attr_image (Zoned digits fraction) = 2 ∷ digits ∷ fraction ∷ []
attr_image (Binary size) = 3 ∷ 0 ∷ size ∷ []
attr_image (Chars len) = 4 ∷ big_bytes 2 len
attr_image _ = 0 ∷ 0 ∷ 0 ∷ []

unfoldable pub fields : ℕ → List ℕ → ℕ → ℕ → List ℕ
fields kind detail offset object = (kind ∷ detail) ++ (big_bytes 4 offset ++ big_bytes 8 object)

-- kind 1 carries rights, kind 3 an attribute
abbrev pub image : Pointer → List ℕ
image (System object rights) = fields 1 (rights.0 ∷ 0 ∷ 0 ∷ []) 0 object.0
image (Space object offset) = fields 2 (0 ∷ 0 ∷ 0 ∷ []) offset object.0
image (Item object offset attr) = fields 3 (attr_image attr) offset object.0

-- every attribute but that of a pointer has an image of its own
abbrev pub HasAttrImage : Attr → Type 0
HasAttrImage (Packed digits fraction) = (digits < 2 ^ 8) × (fraction < 2 ^ 8)
HasAttrImage (Zoned digits fraction) = (digits < 2 ^ 8) × (fraction < 2 ^ 8)
HasAttrImage (Binary size) = size < 2 ^ 8
HasAttrImage (Chars len) = len < 2 ^ 16
HasAttrImage _ = ⊥

-- every pointer but one to an item that is a pointer has an image of its own; its numbers fit their fields
abbrev pub HasImage : Pointer → Type 0
HasImage (System object rights) = (object.0 < 2 ^ 64) × (rights.0 < 2 ^ 8)
HasImage (Space object offset) = (object.0 < 2 ^ 64) × (offset < 2 ^ 32)
HasImage (Item object offset attr) = (object.0 < 2 ^ 64) × (offset < 2 ^ 32) × HasAttrImage attr

-- the attribute that three bytes of detail may show
abbrev pub attr_in_detail : List ℕ → Option Attr
attr_in_detail bytes =
    if slice_index bytes 1 == 1 then Some (Packed (slice_index bytes 2) (slice_index bytes 3))
    else (if slice_index bytes 1 == 2 then Some (Zoned (slice_index bytes 2) (slice_index bytes 3))
    else (if slice_index bytes 1 == 3 then Some (Binary (slice_index bytes 3))
    else (if slice_index bytes 1 == 4 then Some (Chars (big_number 2 (drop 2 bytes))) else None)))

-- the only pointer whose image the bytes may be
unfoldable pub candidate : List ℕ → Option Pointer
candidate bytes =
    if slice_index bytes 0 == 1 then Some (System (record { 0 = big_number 8 (drop 8 bytes) }) (record { 0 = slice_index bytes 1 }))
    else (if slice_index bytes 0 == 2 then Some (Space (record { 0 = big_number 8 (drop 8 bytes) }) (big_number 4 (drop 4 bytes)))
    else (if slice_index bytes 0 == 3 then option_and_then (λ attr. Some (Item (record { 0 = big_number 8 (drop 8 bytes) }) (big_number 4 (drop 4 bytes)) attr)) (attr_in_detail bytes) else None))

-- no pointer to an item that is a pointer: of such a one there is no image
abbrev pub IsNoPointer : Attr → Type 0
IsNoPointer (Packed digits fraction) = Unit {0}
IsNoPointer (Zoned digits fraction) = Unit {0}
IsNoPointer (Binary size) = Unit {0}
IsNoPointer (Chars len) = Unit {0}
IsNoPointer _ = ⊥

abbrev pub PointerHasImage : Pointer → Type 0
PointerHasImage (Item object offset attr) = IsNoPointer attr
PointerHasImage _ = Unit {0}
