-- The shared formats are formats.
use Rattle.std.proofs.Common.{◌≡◌, ℕ, zero, suc, ◌+◌, ◌^◌, ◌≤◌, true, eqb, List, [], ◌∷◌, ◌++◌, length, Option, Some, None, refl, sym, ap, subst, ◌∙◌, arith}
use Rattle.std.specs.Prelude.{nat_le}
use Rattle.std.specs.List.{list_all}
use Rattle.std.specs.Int.{w16, w32, w64}
use Rattle.std.proofs.lemmas.Bool.{eqb-true}
use Rattle.std.proofs.lemmas.List.{length-append}
use Rattle.s38_codec.specs.Codec.{AreBytes, Case, Codec, IsCase, IsCodec, byte, byte_is_zero, bytes, copies, dependent_pair, only, times, ◌>>=◌}
use Rattle.s38_codec.specs.Formats.{FitsCase, IsSpelling, Spelling, all_by, case_by, counted_by, filled_by, fits_from, list_of, print_by, print_from, read_from, short_list, short_text, text, u16, u32, u64, with_count}
use Rattle.s38_codec.proofs.CodecLaws.{AreBytes-after, AreSame, and_true, bind_some, both_true, byte_is, bytes_is, dependent_pair_is, fits_copies, number_is, only_is, seen_is, some_is, times_is, whole_again, whole_exact, wide16, wide32, wide64}

pub u16_is : IsCodec ℕ u16
u16_is = number_is w16 (2 ^ 16) wide16

pub u32_is : IsCodec ℕ u32
u32_is = number_is w32 (2 ^ 32) wide32

pub u64_is : IsCodec ℕ u64
u64_is = number_is w64 (2 ^ 64) wide64

-- ---- a length, and what has it

pub list_same : {A : Type 0} (n : Codec ℕ) (c : Codec A) → AreSame (ℕ × List A) (List A) counted_by with_count (dependent_pair n (λ k. times k c))
list_same n c = record {
  there = λ y. refl;
  here = λ x h. let e : length x.1 ≡ x.0 = fits_copies x.0 c x.1 (both_true _ _ h).1 in ap (λ (k : ℕ). (k, x.1)) e;
}

pub list_of_is : {A : Type 0} (c : Codec A) → IsCodec A c → IsCodec (List A) (list_of c)
list_of_is c p = seen_is counted_by with_count _ (list_same u32 c) (dependent_pair_is u32 _ u32_is (λ n. times_is n c p))

pub short_list_is : {A : Type 0} (c : Codec A) → IsCodec A c → IsCodec (List A) (short_list c)
short_list_is c p = seen_is counted_by with_count _ (list_same u16 c) (dependent_pair_is u16 _ u16_is (λ n. times_is n c p))

text_same : (n : Codec ℕ) → AreSame (ℕ × List ℕ) (List ℕ) counted_by with_count (dependent_pair n bytes)
text_same n = record {
  there = λ y. refl;
  here = λ x h. let e : length x.1 ≡ x.0 = eqb-true _ _ (both_true _ _ h).1 in ap (λ (n : ℕ). (n, x.1)) e;
}

pub text_is : (longest : ℕ) → IsCodec (List ℕ) (text longest)
text_is longest =
    let length_of : Codec ℕ = only (λ n. nat_le n longest) u16 in
    seen_is counted_by with_count (dependent_pair length_of bytes) (text_same length_of) (dependent_pair_is length_of bytes (only_is (λ n. nat_le n longest) u16 u16_is) bytes_is)

pub short_text_is : (longest : ℕ) → IsCodec (List ℕ) (short_text longest)
short_text_is longest =
    let length_of : Codec ℕ = only (λ n. nat_le n longest) byte in
    seen_is counted_by with_count (dependent_pair length_of bytes) (text_same length_of) (dependent_pair_is length_of bytes (only_is (λ n. nat_le n longest) byte byte_is) bytes_is)

-- ---- zeros

pub zeros_are : (xs : List ℕ) → list_all byte_is_zero xs ≡ true → xs ≡ copies (length xs) 0
unfolding copies
zeros_are [] h = refl
zeros_are (x ∷ xs) h =
    let b = both_true (eqb x 0) (list_all byte_is_zero xs) h in
    let first : x ≡ 0 = eqb-true _ _ b.0 in
    let rest = zeros_are xs b.1 in
    cc

pub copies_zero : (n : ℕ) → list_all byte_is_zero (copies n 0) ≡ true
unfolding copies
copies_zero zero = refl
copies_zero (suc n) = copies_zero n

pub length_copies : {A : Type 0} (n : ℕ) (x : A) → length (copies n x) ≡ n
unfolding copies
length_copies zero x = refl
length_copies (suc n) x = ap suc (length_copies n x)

-- ---- all bytes

pub all_by_is : {T : Type 0} (c : Codec T) → IsCodec T c → IsSpelling T (all_by c) (λ x. c.fits x ≡ true)
all_by_is c is = record { again = whole_again c is; exact = whole_exact c is }

abbrev some_list : {A : Type 0} → List A → Option (List A)
some_list xs = Some xs

pub list_is : {A : Type 0} (xs ys : List A) → some_list xs ≡ some_list ys → xs ≡ ys
list_is xs ys e = cc

case_again : {T B : Type 0} (p : Case T B) (s : Spelling T) (Fits : T → Type 0) → IsCase T B p → IsSpelling T s Fits → (b : B) (o : Option T) → p.of b ≡ o → FitsCase Fits o → (s.read (print_by s o) >>= λ x. Some (p.make x)) ≡ Some b
case_again p s Fits l q b None e h = absurd h
case_again p s Fits l q b (Some x) e h = rw (q.again x h, l.back b x e) refl

case_exact : {T B : Type 0} (p : Case T B) (s : Spelling T) (Fits : T → Type 0) → IsCase T B p → IsSpelling T s Fits → (bytes : List ℕ) (b : B) → AreBytes bytes → (case_by p s).read bytes ≡ Some b → (bytes ≡ (case_by p s).print b) × FitsCase Fits (p.of b)
case_exact {T} {B} p s Fits l q bytes b fine e =
    let u = bind_some (s.read bytes) (λ x. Some (p.make x)) b e in
    let m = q.exact bytes u.0 fine u.1 in
    subst (λ (z : B). (bytes ≡ (case_by p s).print z) × FitsCase Fits (p.of z)) (some_is (p.make u.0) b u.2)
    (rw (l.got u.0) m.0, rw (l.got u.0) m.1)

pub case_by_is : {T B : Type 0} (p : Case T B) (s : Spelling T) (Fits : T → Type 0) → IsCase T B p → IsSpelling T s Fits → IsSpelling B (case_by p s) (λ b. FitsCase Fits (p.of b))
case_by_is p s Fits l q = record { again = λ b h. case_again p s Fits l q b (p.of b) refl h; exact = case_exact p s Fits l q }

-- ---- as many as fill the bytes

-- the formats are formats, and each takes a byte at least
pub record AreLong (A : Type 0) (cs : ℕ → Codec A) : Type 0 where
  pub each : (k : ℕ) → IsCodec A (cs k)
  pub some : (k : ℕ) (x : A) → 1 ≤ length ((cs k).print x)

not_nil : (xs rest : List ℕ) → 1 ≤ length xs → (b : ℕ) × (bs : List ℕ) × (xs ++ rest ≡ b ∷ bs)
not_nil [] rest le = absurd (omega arith)
not_nil (b ∷ bs) rest le = (b, bs ++ rest, refl)

from_again : {A : Type 0} (cs : ℕ → Codec A) → AreLong A cs → (most k : ℕ) (xs : List A) → length (print_from cs k xs) ≤ most → fits_from cs k xs ≡ true → read_from cs most k (print_from cs k xs) ≡ Some xs
unfolding print_from read_from fits_from
from_again cs are most k [] le h = refl
from_again cs are zero k (x ∷ xs) le h = absurd (omega (arith, are.some k x, length-append ((cs k).print x) (print_from cs (k + 1) xs)))
from_again {A} cs are (suc most) k (x ∷ xs) le h =
    let f = both_true ((cs k).fits x) (fits_from cs (k + 1) xs) h in
    let n = not_nil ((cs k).print x) (print_from cs (k + 1) xs) (are.some k x) in
    let one : (cs k).read (n.0 ∷ n.1) ≡ Some (x, print_from cs (k + 1) xs) = ap (cs k).read (sym n.2) ∙ (are.each k).again x (print_from cs (k + 1) xs) f.0 in
    let rest = from_again cs are most (k + 1) xs (omega (arith, are.some k x, length-append ((cs k).print x) (print_from cs (k + 1) xs))) f.1 in
    ap (read_from cs (suc most) k) n.2 ∙ rw (one, rest) refl

from_exact : {A : Type 0} (cs : ℕ → Codec A) → AreLong A cs → (most k : ℕ) (bs : List ℕ) (xs : List A) → AreBytes bs → read_from cs most k bs ≡ Some xs → (bs ≡ print_from cs k xs) × (fits_from cs k xs ≡ true)
unfolding print_from read_from fits_from
from_exact {A} cs are most k [] xs fine e = subst (λ (z : List A). ([] ≡ print_from cs k z) × (fits_from cs k z ≡ true)) (list_is [] xs e) (refl, refl)
from_exact cs are zero k (b ∷ bs) xs fine e = absurd cc
from_exact {A} cs are (suc most) k (b ∷ bs) xs fine e =
    let u = bind_some ((cs k).read (b ∷ bs)) (λ x. read_from cs most (k + 1) x.1 >>= λ ys. Some (x.0 ∷ ys)) xs e in
    let v = bind_some (read_from cs most (k + 1) u.0.1) (λ ys. Some (u.0.0 ∷ ys)) xs u.2 in
    let first = (are.each k).exact (b ∷ bs) u.0.0 u.0.1 fine u.1 in
    let rest = from_exact cs are most (k + 1) u.0.1 v.0 (AreBytes-after ((cs k).print u.0.0) u.0.1 (b ∷ bs) first.parts fine) v.1 in
    subst (λ (z : List A). ((b ∷ bs) ≡ print_from cs k z) × (fits_from cs k z ≡ true)) (list_is (u.0.0 ∷ v.0) xs v.2)
    (first.parts ∙ ap (λ (t : List ℕ). (cs k).print u.0.0 ++ t) rest.0, and_true _ _ first.fits rest.1)

pub filled_by_is : {A : Type 0} (cs : ℕ → Codec A) → AreLong A cs → (first : ℕ) → IsSpelling (List A) (filled_by cs first) (λ xs. fits_from cs first xs ≡ true)
filled_by_is cs are first = record { again = λ xs h. from_again cs are (length (print_from cs first xs)) first xs (omega arith) h; exact = λ bs xs fine e. from_exact cs are (length bs) first bs xs fine e }
