-- Which headers are read again as they were printed, and how long a body may be that a header says.
use Rattle.std.proofs.Common.{◌≡◌, ◌∙◌, ◌^◌, ◌<◌, ◌≤◌, ◌-◌, List, ap, arith, drop, length, refl, suc, take, true, zero, ℕ}
use Rattle.std.proofs.lemmas.Bool.{eq-eqb, lt-ltb}
use Rattle.std.proofs.lemmas.List.{drop_at, length-append, length-drop, take_at}
use Rattle.std.specs.List.{list_all}
use Rattle.std.specs.Prelude.{IsTrue, nat_le, nat_lt, replicate}
use Rattle.s38_base.specs.NameText.{are_name_bytes, is_name, padded}
use Rattle.s38_base.specs.declared.id.Kind.TheVariants as kinds
use Rattle.s38_base.specs.declared.id.Kind.{Kind}
use Rattle.s38_codec.proofs.CodecLaws.{and_true, both_true}
use Rattle.s38_codec.proofs.FormatLaws.{length_copies}
use Rattle.s38_codec.specs.Codec.{byte, byte_is_zero, copies, only}
use Rattle.s38_codec.specs.Formats.{u32}
use Rattle.s38_image.proofs.HeaderLaws.{at_most, drop_zeros}
use Rattle.s38_image.specs.Fitting.{header_codec}
use Rattle.s38_image.specs.Headers.{is_mark, kind, mark, name}
use Rattle.s38_image.specs.declared.header.Header.{Header}

-- ---- small values

kind_fits : (k : Kind) → kind.fits k ≡ true
kind_fits kinds.Context = refl
kind_fits kinds.Program = refl
kind_fits kinds.Profile = refl
kind_fits kinds.Space = refl
kind_fits kinds.Queue = refl
kind_fits kinds.Index = refl
kind_fits kinds.DataSpace = refl
kind_fits kinds.Cursor = refl
kind_fits kinds.Port = refl
kind_fits kinds.Journal = refl
kind_fits kinds.Block = refl

all_zeros : (m : ℕ) → list_all byte_is_zero (copies m 0) ≡ true
unfolding copies
all_zeros zero = refl
all_zeros (suc m) = all_zeros m

name_fits : (text : List ℕ) → IsTrue (is_name text) → name.fits text ≡ true
name_fits text is =
    let some = both_true (nat_lt 0 (length text)) _ is in
    let most = both_true (nat_le (length text) 30) (are_name_bytes text) some.1 in
    let short : length text ≤ 30 = at_most (length text) 30 most.0 in
    let rest : length (drop (length text) (replicate {A = ℕ} 30 0)) ≡ 30 - length text = length-drop (length text) (replicate 30 0) in
    let long : length (padded text) ≡ 30 = omega (arith, short, rest, length-append text (drop (length text) (replicate 30 0))) in
    let front : take (length text) (padded text) ≡ text = take_at text (drop (length text) (replicate 30 0)) (length text) refl in
    let back : drop (length text) (padded text) ≡ drop (length text) (replicate 30 0) = drop_at text (drop (length text) (replicate 30 0)) (length text) refl in
    let zeros : list_all byte_is_zero (drop (length text) (padded text)) ≡ true = ap (λ (xs : List ℕ). list_all byte_is_zero xs) (back ∙ drop_zeros (length text) 30) ∙ all_zeros (30 - length text) in
    let small : length text < 2 ^ 16 = omega (arith, short) in
    and_true _ _ (and_true _ _ (and_true _ _ most.0 (ap is_name front ∙ is)) zeros) (and_true _ _ (lt-ltb (length text) (2 ^ 16) small) (eq-eqb (length (padded text)) 30 long))

-- ---- a header

-- each field is of its type
pub record AreFields (h : Header) : Type 0 where
  pub sub : h.id.sub < 256
  pub name : IsTrue (is_name h.id.name)
  pub context : h.context.0 < 2 ^ 64
  pub owner : h.owner.0 < 2 ^ 64
  pub public : h.public.0 < 256
  pub rows : h.rows < 2 ^ 32
  pub body : h.body < 2 ^ 32

pub header_fits : (h : Header) → AreFields h → header_codec.fits h ≡ true
header_fits h are =
    let unused : length {A = ℕ} (copies 448 0) ≡ 448 = length_copies {A = ℕ} 448 0 in
    and_true ((only is_mark u32).fits mark) _ refl (and_true _ _ (kind_fits h.id.kind) (and_true _ _ (lt-ltb h.id.sub 256 are.sub) (and_true _ _ (name_fits h.id.name are.name)
    (and_true _ _ (lt-ltb h.context.0 (2 ^ 64) are.context) (and_true _ _ (lt-ltb h.owner.0 (2 ^ 64) are.owner) (and_true _ _ (lt-ltb h.public.0 256 are.public)
    (and_true ((only byte_is_zero byte).fits 0) _ refl (and_true _ _ (lt-ltb h.rows (2 ^ 32) are.rows) (and_true _ _ (lt-ltb h.body (2 ^ 32) are.body)
    (and_true _ _ (all_zeros 448) (eq-eqb (length {A = ℕ} (copies 448 0)) 448 unused)))))))))))
