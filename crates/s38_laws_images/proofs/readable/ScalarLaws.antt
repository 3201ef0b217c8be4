-- Which attributes and pointers are read again as they were printed.
use Rattle.std.proofs.Common.{◌≡◌, ◌/◌, ◌%◌, ◌<◌, ◌^◌, true, refl, arith}
use Rattle.std.proofs.lemmas.Bool.{lt-ltb}
use Rattle.s38_base.specs.declared.attr.Attr.{Attr}
use Rattle.s38_base.specs.declared.attr.Attr.TheVariants as attrs
use Rattle.s38_base.specs.declared.pointer.Pointer.{Pointer}
use Rattle.s38_base.specs.declared.pointer.Pointer.TheVariants as pointers
use Rattle.s38_codec.proofs.CodecLaws.{and_true, both_true}
use Rattle.s38_image.specs.Scalars.{attr, attr_bytes, is_attr, pointer}
use Rattle.s38_memory.specs.Image.{HasAttrImage, HasImage}

pub attr_fits : (a : Attr) → HasAttrImage a → attr.fits a ≡ true
attr_fits (attrs.Packed digits fraction) is = and_true (is_attr (1, (digits, fraction))) _ refl (and_true _ _ (lt-ltb digits 256 is.0) (lt-ltb fraction 256 is.1))
attr_fits (attrs.Zoned digits fraction) is = and_true (is_attr (2, (digits, fraction))) _ refl (and_true _ _ (lt-ltb digits 256 is.0) (lt-ltb fraction 256 is.1))
attr_fits (attrs.Binary size) is = lt-ltb size 256 is
attr_fits (attrs.Chars len) is =
    let high : len / 256 < 256 = omega (arith, is) in
    let low : len % 256 < 256 = omega arith in
    and_true (is_attr (4, (len / 256, len % 256))) _ refl (and_true _ _ (lt-ltb (len / 256) 256 high) (lt-ltb (len % 256) 256 low))
attr_fits attrs.Pointer is = absurd is

pub pointer_fits : (p : Pointer) → HasImage p → pointer.fits p ≡ true
pointer_fits (pointers.System object rights) is = and_true _ _ (and_true _ true (lt-ltb rights.0 256 is.1) refl) (lt-ltb object.0 (2 ^ 64) is.0)
pointer_fits (pointers.Space object offset) is = and_true _ _ (lt-ltb offset (2 ^ 32) is.1) (lt-ltb object.0 (2 ^ 64) is.0)
pointer_fits (pointers.Item object offset a) is =
    let fits = both_true (is_attr (attr_bytes a)) _ (attr_fits a is.2) in
    and_true (is_attr (attr_bytes a)) _ fits.0 (and_true _ _ fits.1 (and_true _ _ (lt-ltb offset (2 ^ 32) is.1) (lt-ltb object.0 (2 ^ 64) is.0)))
