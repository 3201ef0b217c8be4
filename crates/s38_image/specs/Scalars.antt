-- Attributes and pointers as bytes.
use Rattle.std.specs.Prelude.{ℕ, ◌+◌, ◌*◌, ◌/◌, ◌%◌, Bool, ◌&&◌, ◌||◌, ◌==◌, not, nat_le, if◌then◌else◌}
use Rattle.s38_base.specs.declared.attr.Attr.{Attr}
use Rattle.s38_base.specs.declared.attr.Attr.TheVariants as attrs
use Rattle.s38_base.specs.declared.pointer.Pointer.{Pointer}
use Rattle.s38_base.specs.declared.pointer.Pointer.TheVariants as pointers
use Rattle.s38_codec.specs.Codec.{Codec, byte, dependent_pair, only, seen}
use Rattle.s38_codec.specs.Formats.{u32, u64}

-- ---- attributes

abbrev pub AttrBytes : Type 0
AttrBytes = ℕ × (ℕ × ℕ)

-- 1 packed, 2 zoned: digits and fraction; 3 binary: 0 and the size; 4 bytes: the length
abbrev pub attr_by : AttrBytes → Attr
attr_by x =
    if x.0 == 1 then attrs.Packed x.1.0 x.1.1
    else (if x.0 == 2 then attrs.Zoned x.1.0 x.1.1
    else (if x.0 == 3 then attrs.Binary x.1.1
    else (if x.0 == 4 then attrs.Chars (x.1.0 * 256 + x.1.1)
    else attrs.Pointer)))

abbrev pub attr_bytes : Attr → AttrBytes
attr_bytes (attrs.Packed digits fraction) = (1, (digits, fraction))
attr_bytes (attrs.Zoned digits fraction) = (2, (digits, fraction))
attr_bytes (attrs.Binary size) = (3, (0, size))
attr_bytes (attrs.Chars len) = (4, (len / 256, len % 256))
attr_bytes attrs.Pointer = (0, (0, 0))

abbrev pub is_attr : AttrBytes → Bool
is_attr x = (nat_le 1 x.0 && nat_le x.0 4) && (not (x.0 == 3) || (x.1.0 == 0))

abbrev pub attr : Codec Attr
attr = seen attr_by attr_bytes (only is_attr (dependent_pair byte (λ _. dependent_pair byte (λ _. byte))))

-- ---- pointers

abbrev pub PointerBytes : Type 0
PointerBytes = ℕ × (AttrBytes × (ℕ × ℕ))

-- the kind, three bytes of detail, the offset, the object
abbrev pub pointer_by : PointerBytes → Pointer
pointer_by x =
    if x.0 == 1 then pointers.System (record { 0 = x.1.1.1 }) (record { 0 = x.1.0.0 })
    else (if x.0 == 2 then pointers.Space (record { 0 = x.1.1.1 }) x.1.1.0
    else pointers.Item (record { 0 = x.1.1.1 }) x.1.1.0 (attr_by x.1.0))

abbrev pub pointer_bytes : Pointer → PointerBytes
pointer_bytes (pointers.System object rights) = (1, ((rights.0, (0, 0)), (0, object.0)))
pointer_bytes (pointers.Space object offset) = (2, ((0, (0, 0)), (offset, object.0)))
pointer_bytes (pointers.Item object offset attr) = (3, (attr_bytes attr, (offset, object.0)))

abbrev pub is_system : PointerBytes → Bool
is_system x = (x.0 == 1) && ((x.1.0.1.0 == 0) && ((x.1.0.1.1 == 0) && (x.1.1.0 == 0)))

abbrev pub is_space : PointerBytes → Bool
is_space x = (x.0 == 2) && ((x.1.0.0 == 0) && ((x.1.0.1.0 == 0) && (x.1.0.1.1 == 0)))

abbrev pub is_item : PointerBytes → Bool
is_item x = (x.0 == 3) && is_attr x.1.0

-- a system pointer has rights and no offset, a space pointer no detail, and a data pointer an attribute
abbrev pub is_pointer_image : PointerBytes → Bool
is_pointer_image x = is_system x || (is_space x || is_item x)

abbrev pub pointer : Codec Pointer
pointer = seen pointer_by pointer_bytes (only is_pointer_image (dependent_pair byte (λ _. dependent_pair (dependent_pair byte (λ _. dependent_pair byte (λ _. byte))) (λ _. dependent_pair u32 (λ _. u64)))))
