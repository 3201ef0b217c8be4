-- Attributes and pointers are read as they are printed, and a pointer is printed as its image.
use Rattle.std.proofs.Common.{◌≡◌, ℕ, zero, suc, ◌+◌, ◌*◌, ◌/◌, ◌%◌, ◌<◌, Bool, true, false, eqb, refl, sym, ap, arith}
use Rattle.std.specs.Prelude.{◌&&◌, ◌||◌, nat_le}
use Rattle.std.proofs.lemmas.Bool.{eqb-true}
use Rattle.std.proofs.lemmas.Bool.Decides.{nat_tests}
use Rattle.s38_base.specs.declared.attr.Attr.{Attr}
use Rattle.s38_base.specs.declared.attr.Attr.TheVariants as attrs
use Rattle.s38_base.specs.declared.pointer.Pointer.{Pointer}
use Rattle.s38_base.specs.declared.pointer.Pointer.TheVariants as pointers
use Rattle.s38_codec.specs.Codec.{Codec, IsCodec, byte, dependent_pair}
use Rattle.s38_codec.specs.Formats.{u32, u64}
use Rattle.s38_codec.proofs.CodecLaws.{both_true, byte_is, dependent_pair_is, only_is, seen_is}
use Rattle.s38_codec.proofs.FormatLaws.{u32_is, u64_is}
use Rattle.s38_image.proofs.HeaderLaws.{at_most}
use Rattle.s38_image.specs.Scalars.{AttrBytes, PointerBytes, attr, attr_by, attr_bytes, is_attr, is_pointer_image, pointer, pointer_by, pointer_bytes}

-- ---- attributes

length_back : (len : ℕ) → len / 256 * 256 + len % 256 ≡ len
length_back len = omega arith

attr_there : (a : Attr) → attr_by (attr_bytes a) ≡ a
attr_there (attrs.Packed digits fraction) = refl
attr_there (attrs.Zoned digits fraction) = refl
attr_there (attrs.Binary size) = refl
attr_there (attrs.Chars len) = ap (λ (n : ℕ). attrs.Chars n) (length_back len)
attr_there attrs.Pointer = refl

abbrev three : ℕ → ℕ → ℕ → AttrBytes
three k a b = (k, (a, b))

length_here : (a b : ℕ) → b < 256 → three 4 ((a * 256 + b) / 256) ((a * 256 + b) % 256) ≡ three 4 a b
length_here a b lt =
    let q : (a * 256 + b) / 256 ≡ a = omega arith in
    let r : (a * 256 + b) % 256 ≡ b = omega arith in
    cc

size_here : (a b : ℕ) → (eqb a 0) ≡ true → three 3 0 b ≡ three 3 a b
size_here a b h = ap (λ (n : ℕ). three 3 n b) (sym (eqb-true a 0 h))

attr_here : (k a b : ℕ) → is_attr (k, (a, b)) ≡ true → b < 256 → attr_bytes (attr_by (k, (a, b))) ≡ three k a b
attr_here zero a b h lt = absurd cc
attr_here (suc zero) a b h lt = refl
attr_here (suc (suc zero)) a b h lt = refl
attr_here (suc (suc (suc zero))) a b h lt = size_here a b h
attr_here (suc (suc (suc (suc zero)))) a b h lt = length_here a b lt
attr_here (suc (suc (suc (suc (suc n))))) a b h lt =
    let f = both_true (nat_le 1 (suc (suc (suc (suc (suc n))))) && nat_le (suc (suc (suc (suc (suc n))))) 4) _ h in
    let g = both_true (nat_le 1 (suc (suc (suc (suc (suc n)))))) (nat_le (suc (suc (suc (suc (suc n))))) 4) f.0 in
    let le = at_most (suc (suc (suc (suc (suc n))))) 4 g.1 in
    absurd (omega arith)

abbrev pub three_bytes : Codec AttrBytes
three_bytes = dependent_pair byte (λ _. dependent_pair byte (λ _. byte))

three_bytes_is : IsCodec AttrBytes three_bytes
three_bytes_is = dependent_pair_is byte _ byte_is (λ _. dependent_pair_is byte _ byte_is (λ _. byte_is))

last_byte : (x : AttrBytes) → three_bytes.fits x ≡ true → x.1.1 < 256
last_byte x h =
    let f = both_true (byte.fits x.0) (byte.fits x.1.0 && byte.fits x.1.1) h in
    let g = both_true (byte.fits x.1.0) (byte.fits x.1.1) f.1 in
    grind (arith, nat_tests, g.1)

pub attr_is : IsCodec Attr attr
attr_is =
    seen_is attr_by attr_bytes _
    (record { there = attr_there; here = λ x h. let f = both_true (is_attr x) (three_bytes.fits x) h in attr_here x.0 x.1.0 x.1.1 f.0 (last_byte x f.1) })
    (only_is is_attr three_bytes three_bytes_is)

-- ---- pointers

pointer_there : (p : Pointer) → pointer_by (pointer_bytes p) ≡ p
pointer_there (pointers.System object rights) = refl
pointer_there (pointers.Space object offset) = refl
pointer_there (pointers.Item object offset a) = ap (λ (b : Attr). pointers.Item object offset b) (attr_there a)

abbrev fields : ℕ → AttrBytes → ℕ → ℕ → PointerBytes
fields kind detail offset object = (kind, (detail, (offset, object)))

system_here : (a b c offset object : ℕ) → ((eqb b 0) && ((eqb c 0) && (eqb offset 0))) ≡ true → fields 1 (three a 0 0) 0 object ≡ fields 1 (three a b c) offset object
system_here a b c offset object h =
    let f = both_true (eqb b 0) (eqb c 0 && eqb offset 0) h in
    let g = both_true (eqb c 0) (eqb offset 0) f.1 in
    let x = eqb-true b 0 f.0 in
    let y = eqb-true c 0 g.0 in
    let z = eqb-true offset 0 g.1 in
    cc

space_here : (a b c offset object : ℕ) → ((eqb a 0) && ((eqb b 0) && (eqb c 0))) ≡ true → fields 2 (three 0 0 0) offset object ≡ fields 2 (three a b c) offset object
space_here a b c offset object h =
    let f = both_true (eqb a 0) (eqb b 0 && eqb c 0) h in
    let g = both_true (eqb b 0) (eqb c 0) f.1 in
    let x = eqb-true a 0 f.0 in
    let y = eqb-true b 0 g.0 in
    let z = eqb-true c 0 g.1 in
    cc

or_nothing : (b : Bool) → (b || (false || false)) ≡ true → b ≡ true
or_nothing true h = refl
or_nothing false h = absurd cc

or_false : (b : Bool) → (b || false) ≡ true → b ≡ true
or_false true h = refl
or_false false h = absurd cc

apart : (k m : ℕ) → m < k → eqb k m ≡ false
apart k m lt = grind (arith, nat_tests)

no_kind : (k : ℕ) (detail : AttrBytes) (offset object : ℕ) → 3 < k → is_pointer_image (fields k detail offset object) ≡ true → ⊥
no_kind k detail offset object lt h =
    let one = apart k 1 (omega arith) in
    let two = apart k 2 (omega arith) in
    let none = apart k 3 lt in
    let q : false ≡ true = rw (one, two, none) at h in
    absurd cc

pointer_here : (kind a b c offset object : ℕ) → is_pointer_image (kind, ((a, (b, c)), (offset, object))) ≡ true → c < 256 → pointer_bytes (pointer_by (kind, ((a, (b, c)), (offset, object)))) ≡ fields kind (three a b c) offset object
pointer_here zero a b c offset object h lt = absurd cc
pointer_here (suc zero) a b c offset object h lt = system_here a b c offset object (or_nothing _ h)
pointer_here (suc (suc zero)) a b c offset object h lt = space_here a b c offset object (or_false _ h)
pointer_here (suc (suc (suc zero))) a b c offset object h lt = ap (λ (t : AttrBytes). fields 3 t offset object) (attr_here a b c h lt)
pointer_here (suc (suc (suc (suc n)))) a b c offset object h lt = absurd (no_kind (suc (suc (suc (suc n)))) (three a b c) offset object (omega arith) h)

abbrev pub sixteen : Codec PointerBytes
sixteen = dependent_pair byte (λ _. dependent_pair three_bytes (λ _. dependent_pair u32 (λ _. u64)))

pub pointer_is : IsCodec Pointer pointer
pointer_is =
    seen_is pointer_by pointer_bytes _
    (record {
      there = pointer_there;
      here = λ x h. let f = both_true (is_pointer_image x) (sixteen.fits x) h in
          let g = both_true (byte.fits x.0) (three_bytes.fits x.1.0 && (u32.fits x.1.1.0 && u64.fits x.1.1.1)) f.1 in
          pointer_here x.0 x.1.0.0 x.1.0.1.0 x.1.0.1.1 x.1.1.0 x.1.1.1 f.0 (last_byte x.1.0 (both_true (three_bytes.fits x.1.0) _ g.1).0);
    })
    (only_is is_pointer_image sixteen (dependent_pair_is byte _ byte_is (λ _. dependent_pair_is three_bytes _ three_bytes_is (λ _. dependent_pair_is u32 _ u32_is (λ _. u64_is)))))
