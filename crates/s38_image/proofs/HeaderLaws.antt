-- Headers and rows are read as they are printed.
use Rattle.std.proofs.Common.{◌≡◌, ℕ, zero, suc, ◌-◌, ◌≤◌, Bool, true, false, eqb, List, ◌∷◌, ◌++◌, length, take, drop, refl, sym, ap, ◌∙◌, arith}
use Rattle.std.specs.Prelude.{◌&&◌, nat_le, replicate}
use Rattle.std.specs.List.{list_all}
use Rattle.std.proofs.lemmas.Bool.{eqb-true}
use Rattle.std.proofs.lemmas.Bool.Decides.{nat_tests}
use Rattle.std.proofs.lemmas.List.{length-append, length-take, take_at, take-append-drop}
use Rattle.s38_image.specs.Fitting.{header_codec, rows_codec}
use Rattle.s38_base.specs.Ids.{kind_code}
use Rattle.s38_base.specs.NameText.{is_name, padded}
use Rattle.s38_base.specs.declared.id.Kind.{Kind}
use Rattle.s38_base.specs.declared.id.Kind.TheVariants as kinds
use Rattle.s38_base.specs.declared.id.ObjNum.{ObjNum}
use Rattle.s38_base.specs.declared.rights.Rights.{Rights}
use Rattle.s38_codec.specs.Codec.{Codec, IsCodec, byte, byte_is_zero, bytes, copies, dependent_pair, only}
use Rattle.s38_codec.specs.Formats.{IsSpelling, u16, u32, u64}
use Rattle.s38_codec.proofs.CodecLaws.{both_true, byte_is, bytes_is, dependent_pair_is, fits_copies, only_is, seen_is, times_is}
use Rattle.s38_codec.proofs.FormatLaws.{all_by_is, u16_is, u32_is, u64_is, zeros_are}
use Rattle.s38_image.specs.Headers.{HeaderFields, header, header_by, header_fields, header_format, is_kind, is_mark, is_padded, kind, kind_by, mark, name, name_by, name_parts, object_by, object_number, object_number_form, rights, rights_bits, rights_by, row_by, row_form, row_has_rights, row_parts, rows, users_rise}
use Rattle.s38_image.specs.declared.header.Header.{Header}
use Rattle.s38_rules.specs.declared.rows.PrivateRow.{PrivateRow}

-- ---- small values

pub object_is : IsCodec ObjNum object_number_form
object_is = seen_is object_by object_number u64 (record { there = λ y. refl; here = λ x h. refl }) u64_is

pub rights_is : IsCodec Rights rights
rights_is = seen_is rights_by rights_bits byte (record { there = λ y. refl; here = λ x h. refl }) byte_is

kind_there : (k : Kind) → kind_by (kind_code k) ≡ k
kind_there kinds.Context = refl
kind_there kinds.Program = refl
kind_there kinds.Profile = refl
kind_there kinds.Space = refl
kind_there kinds.Queue = refl
kind_there kinds.Index = refl
kind_there kinds.DataSpace = refl
kind_there kinds.Cursor = refl
kind_there kinds.Port = refl
kind_there kinds.Journal = refl
kind_there kinds.Block = refl

-- a test of numbers
pub at_most : (a b : ℕ) → nat_le a b ≡ true → a ≤ b
at_most a b h = grind (arith, nat_tests)

kind_here : (n : ℕ) → is_kind n ≡ true → kind_code (kind_by n) ≡ n
kind_here zero h = absurd cc
kind_here (suc zero) h = refl
kind_here (suc (suc zero)) h = refl
kind_here (suc (suc (suc zero))) h = refl
kind_here (suc (suc (suc (suc zero)))) h = refl
kind_here (suc (suc (suc (suc (suc zero))))) h = refl
kind_here (suc (suc (suc (suc (suc (suc zero)))))) h = refl
kind_here (suc (suc (suc (suc (suc (suc (suc zero))))))) h = refl
kind_here (suc (suc (suc (suc (suc (suc (suc (suc zero)))))))) h = refl
kind_here (suc (suc (suc (suc (suc (suc (suc (suc (suc zero))))))))) h = refl
kind_here (suc (suc (suc (suc (suc (suc (suc (suc (suc (suc zero)))))))))) h = refl
kind_here (suc (suc (suc (suc (suc (suc (suc (suc (suc (suc (suc zero))))))))))) h = refl
kind_here (suc (suc (suc (suc (suc (suc (suc (suc (suc (suc (suc (suc n)))))))))))) h =
    let f = both_true (nat_le 1 (suc (suc (suc (suc (suc (suc (suc (suc (suc (suc (suc (suc n))))))))))))) (nat_le (suc (suc (suc (suc (suc (suc (suc (suc (suc (suc (suc (suc n)))))))))))) 11) h in
    let le = at_most _ 11 f.1 in
    absurd (omega arith)

pub kind_is : IsCodec Kind kind
kind_is = seen_is kind_by kind_code _ (record { there = kind_there; here = λ x h. kind_here x (both_true (is_kind x) _ h).0 }) (only_is is_kind byte byte_is)

-- zeros as they are written after a name
pub zeros : (m : ℕ) → replicate {A = ℕ} m 0 ≡ copies m 0
unfolding copies
zeros zero = refl
zeros (suc m) = ap (λ (t : List ℕ). 0 ∷ t) (zeros m)

same_count : (a b : ℕ) → a ≡ b → copies {A = ℕ} a 0 ≡ copies b 0
same_count a b e = ap (λ (k : ℕ). copies {A = ℕ} k 0) e

pub drop_zeros : (n m : ℕ) → drop {A = ℕ} n (replicate m 0) ≡ copies (m - n) 0
unfolding copies
drop_zeros zero m = zeros m ∙ same_count m (m - 0) (omega arith)
drop_zeros (suc n) zero = same_count 0 (0 - suc n) (omega arith)
drop_zeros (suc n) (suc m) = drop_zeros n m ∙ same_count (m - n) (suc m - suc n) (omega arith)

name_there : (text : List ℕ) → take (length text) (padded text) ≡ text
name_there text = take_at text (drop (length text) (replicate 30 0)) (length text) refl

abbrev name_fields : ℕ → List ℕ → ℕ × List ℕ
name_fields n xs = (n, xs)

both_are : (n m : ℕ) (xs ys : List ℕ) → n ≡ m → xs ≡ ys → name_fields n xs ≡ name_fields m ys
both_are n m xs ys e f = cc

name_here : (n : ℕ) (xs : List ℕ) → is_padded (n, xs) ≡ true → length xs ≡ 30 → name_parts (name_by (n, xs)) ≡ name_fields n xs
name_here n xs h long =
    let f = both_true (nat_le n 30 && is_name (take n xs)) (list_all byte_is_zero (drop n xs)) h in
    let le : n ≤ 30 = at_most n 30 (both_true (nat_le n 30) (is_name (take n xs)) f.0).0 in
    let size : length (take n xs) ≡ n = omega (arith, length-take n xs) in
    let rest : length (drop n xs) ≡ 30 - n = omega (arith, length-append (take n xs) (drop n xs), ap length (take-append-drop n xs)) in
    let zeros : drop (length (take n xs)) (replicate 30 0) ≡ drop n xs =
    drop_zeros (length (take n xs)) 30 ∙ ap (λ (k : ℕ). copies k 0) (ap (λ (k : ℕ). 30 - k) size ∙ sym rest) ∙ sym (zeros_are (drop n xs) f.1) in
    both_are (length (take n xs)) n (padded (take n xs)) xs size (ap (λ (t : List ℕ). take n xs ++ t) zeros ∙ take-append-drop n xs)

name_long : (x : ℕ × List ℕ) → (dependent_pair u16 (λ _. bytes 30)).fits x ≡ true → length x.1 ≡ 30
name_long x h = eqb-true _ _ (both_true (u16.fits x.0) (eqb (length x.1) 30) h).1

pub name_is : IsCodec (List ℕ) name
name_is =
    seen_is name_by name_parts _
    (record { there = name_there; here = λ x h. let f = both_true (is_padded x) ((dependent_pair u16 (λ _. bytes 30)).fits x) h in name_here x.0 x.1 f.0 (name_long x f.1) })
    (only_is is_padded _ (dependent_pair_is u16 (λ _. bytes 30) u16_is (λ _. bytes_is 30)))

-- ---- the header

abbrev unused : Codec (List ℕ)
unused = only (λ xs. list_all byte_is_zero xs) (bytes 448)

header_there : (h : Header) → header_by (header_fields h) ≡ h
header_there h = refl

-- the fields that a header does not keep are as it writes them
record SaysNothing (x : HeaderFields) : Type 0 where
  marked : x.0 ≡ mark
  empty : x.1.1.1.1.1.1.1.0 ≡ 0
  rest : x.1.1.1.1.1.1.1.1.1.1 ≡ copies 448 0

fields_same : (x : HeaderFields) → SaysNothing x → header_fields (header_by x) ≡ x
fields_same (m, (k, (sub, (n, (context, (owner, (public, (z, (rs, (len, xs)))))))))) s =
    let a = sym s.marked in
    let b = sym s.empty in
    let c = sym s.rest in
    λ i. (a i, (k, (sub, (n, (context, (owner, (public, (b i, (rs, (len, c i))))))))))

last_true : (a b : Bool) → (a && b) ≡ true → b ≡ true
last_true true b e = e
last_true false b e = absurd cc

says_nothing : (x : HeaderFields) → header_format.fits x ≡ true → SaysNothing x
says_nothing (m, (k, (sub, (n, (context, (owner, (public, (z, (rs, (len, xs)))))))))) h =
    let a = both_true ((only is_mark u32).fits m) _ h in
    let b = last_true (kind.fits k) _ a.1 in
    let c = last_true (byte.fits sub) _ b in
    let d = last_true (name.fits n) _ c in
    let e = last_true (object_number_form.fits context) _ d in
    let f = last_true (object_number_form.fits owner) _ e in
    let g = last_true (rights.fits public) _ f in
    let i = both_true ((only byte_is_zero byte).fits z) _ g in
    let j = last_true (u32.fits rs) _ i.1 in
    let l = last_true (u32.fits len) _ j in
    let u = both_true (list_all byte_is_zero xs) (eqb (length xs) 448) l in
    record {
      marked = eqb-true m mark (both_true (is_mark m) _ a.0).0;
      empty = eqb-true z 0 (both_true (byte_is_zero z) _ i.0).0;
      rest = zeros_are xs u.0 ∙ ap (λ (k : ℕ). copies k 0) (eqb-true _ _ u.1);
    }

format_is : IsCodec HeaderFields header_format
format_is =
    dependent_pair_is _ _ (only_is is_mark u32 u32_is) (λ _. dependent_pair_is kind _ kind_is (λ _. dependent_pair_is byte _ byte_is (λ _. dependent_pair_is name _ name_is (λ _. dependent_pair_is object_number_form _ object_is (λ _. dependent_pair_is object_number_form _ object_is (λ _. dependent_pair_is rights _ rights_is (λ _.
    dependent_pair_is _ _ (only_is byte_is_zero byte byte_is) (λ _. dependent_pair_is u32 _ u32_is (λ _. dependent_pair_is u32 _ u32_is (λ _. only_is (λ xs. list_all byte_is_zero xs) _ (bytes_is 448)))))))))))

pub header_is : IsSpelling Header header (λ h. header_codec.fits h ≡ true)
header_is = all_by_is header_codec (seen_is header_by header_fields header_format (record { there = header_there; here = λ x h. fields_same x (says_nothing x h) }) format_is)

-- ---- rows

pub row_is : IsCodec PrivateRow row_form
row_is = seen_is row_by row_parts _ (record { there = λ y. refl; here = λ x h. refl }) (dependent_pair_is object_number_form _ object_is (λ _. only_is row_has_rights rights rights_is))

pub rows_is : (n : ℕ) → IsSpelling (List PrivateRow) (rows n) (λ rs. (rows_codec n).fits rs ≡ true)
rows_is n = all_by_is (rows_codec n) (only_is users_rise _ (times_is n row_form row_is))

pub rows_long : (n : ℕ) (rs : List PrivateRow) → (rows_codec n).fits rs ≡ true → length rs ≡ n
rows_long n rs h = fits_copies n row_form rs (both_true (users_rise rs) _ h).1
