-- The bytes of an image give its pointer back.
use Rattle.std.proofs.lemmas.Bool.{false≢true}
use Rattle.std.proofs.Common.{◌≡◌, ◌↔◌, Bool, false, IsTrue, sym, subst, ℕ, ◌^◌, ◌<◌, List, [], ◌++◌, Option, Some, None, ap, ◌∙◌}
use Rattle.byteorder.specs.Endian.{big_bytes, big_number}
use Rattle.byteorder.specs.Numbers.{big_number-reads_back}
use Rattle.s38_base.specs.declared.attr.Attr.{Attr}
use Rattle.s38_base.specs.declared.attr.Attr.TheVariants.{Packed, Zoned, Binary, Chars}
use Rattle.s38_base.specs.declared.id.ObjNum.{ObjNum}
use Rattle.s38_base.specs.declared.pointer.Pointer.{Pointer}
use Rattle.s38_base.specs.declared.pointer.Pointer.TheVariants.{System, Space, Item}
use Rattle.s38_memory.specs.Image.{HasImage, candidate, fields, image}

object-back : (x : ℕ) → x < 2 ^ 64 → big_number 8 (big_bytes 8 x) ≡ x
object-back x h = big_number-reads_back 8 x [] h

offset-back : (x : ℕ) (rest : List ℕ) → x < 2 ^ 32 → big_number 4 (big_bytes 4 x ++ rest) ≡ x
offset-back x rest h = big_number-reads_back 4 x rest h

space-back : (object : ObjNum) (offset : ℕ) → object.0 < 2 ^ 64 → offset < 2 ^ 32
    → Some (Space (record { 0 = big_number 8 (big_bytes 8 object.0) }) (big_number 4 (big_bytes 4 offset ++ big_bytes 8 object.0))) ≡ Some (Space object offset)
space-back object offset h k =
    ap (λ n. Some (Space (record { 0 = n }) (big_number 4 (big_bytes 4 offset ++ big_bytes 8 object.0)))) (object-back object.0 h)
    ∙ ap (λ n. Some (Space object n)) (offset-back offset (big_bytes 8 object.0) k)

item-back : (object : ObjNum) (offset : ℕ) (attr : Attr) → object.0 < 2 ^ 64 → offset < 2 ^ 32
    → Some (Item (record { 0 = big_number 8 (big_bytes 8 object.0) }) (big_number 4 (big_bytes 4 offset ++ big_bytes 8 object.0)) attr) ≡ Some (Item object offset attr)
item-back object offset attr h k =
    ap (λ n. Some (Item (record { 0 = n }) (big_number 4 (big_bytes 4 offset ++ big_bytes 8 object.0)) attr)) (object-back object.0 h)
    ∙ ap (λ n. Some (Item object n attr)) (offset-back offset (big_bytes 8 object.0) k)

chars-back : (object : ObjNum) (offset len : ℕ) → object.0 < 2 ^ 64 → offset < 2 ^ 32 → len < 2 ^ 16
    → Some (Item (record { 0 = big_number 8 (big_bytes 8 object.0) }) (big_number 4 (big_bytes 4 offset ++ big_bytes 8 object.0)) (Chars (big_number 2 (big_bytes 2 len ++ (big_bytes 4 offset ++ big_bytes 8 object.0))))) ≡ Some (Item object offset (Chars len))
chars-back object offset len h k l =
    item-back object offset (Chars (big_number 2 (big_bytes 2 len ++ (big_bytes 4 offset ++ big_bytes 8 object.0)))) h k
    ∙ ap (λ n. Some (Item object offset (Chars n))) (big_number-reads_back 2 len (big_bytes 4 offset ++ big_bytes 8 object.0) l)

pub candidate-image : (p : Pointer) → HasImage p → candidate (image p) ≡ Some p
unfolding fields candidate
candidate-image (System object rights) h = ap (λ n. Some (System (record { 0 = n }) rights)) (object-back object.0 h.0)
candidate-image (Space object offset) h = space-back object offset h.0 h.1
candidate-image (Item object offset (Packed digits fraction)) h = item-back object offset (Packed digits fraction) h.0 h.1
candidate-image (Item object offset (Zoned digits fraction)) h = item-back object offset (Zoned digits fraction) h.0 h.1
candidate-image (Item object offset (Binary size)) h = item-back object offset (Binary size) h.0 h.1
candidate-image (Item object offset (Chars len)) h = chars-back object offset len h.0 h.1 h.2
candidate-image (Item object offset _) h = absurd h.2

-- so the pointer with these bytes is known before its image is looked at
pub candidate-of_image : (bytes : List ℕ) (p : Pointer) → HasImage p → bytes ≡ image p → candidate bytes ≡ Some p
candidate-of_image bytes p h e = ap candidate e ∙ candidate-image p h

pub none-some : (x : Option Pointer) (p : Pointer) → x ≡ None → x ≡ Some p → ⊥
none-some x p none some = cc

some-injective : (x p : Pointer) → Some x ≡ Some p → x ≡ p
some-injective x p e = cc

pub not-refused : (r : Bool) (x p : Pointer) (bytes : List ℕ) → (IsTrue r ↔ (HasImage x × (bytes ≡ image x))) → r ≡ false
    → Some x ≡ Some p → HasImage p → bytes ≡ image p → ⊥
not-refused r x p bytes tested refused same h e =
    let alike : p ≡ x = sym (some-injective x p same) in
    let holds : HasImage x × (bytes ≡ image x) = subst (λ (q : Pointer). HasImage q × (bytes ≡ image q)) alike (h, e) in
    false≢true (sym refused ∙ tested.1 holds)
