-- The page of the ceiling is read as it is printed.
use Rattle.std.proofs.Common.{◌≡◌, ℕ, true, eqb, List, length, refl, sym, ap, ◌∙◌}
use Rattle.std.specs.List.{list_all}
use Rattle.std.proofs.lemmas.Bool.{eqb-true}
use Rattle.s38_codec.specs.Codec.{Codec, byte_is_zero, bytes, copies, dependent_pair, only, seen}
use Rattle.s38_codec.specs.Formats.{IsSpelling, u32, u64}
use Rattle.s38_codec.proofs.CodecLaws.{both_true, bytes_is, dependent_pair_is, only_is, seen_is}
use Rattle.s38_codec.proofs.FormatLaws.{all_by_is, u32_is, u64_is, zeros_are}
use Rattle.s38_image.specs.Faults.{ceiling_by, ceiling_fields, ceiling_mark, ceiling_page, is_ceiling, is_ceiling_mark}

abbrev ceiling_format : Codec (ℕ × (ℕ × (ℕ × List ℕ)))
ceiling_format = dependent_pair (only is_ceiling_mark u32) (λ _. dependent_pair (only byte_is_zero u32) (λ _. dependent_pair (only is_ceiling u64) (λ _. only (λ xs. list_all byte_is_zero xs) (bytes 496))))

abbrev pub ceiling_codec : Codec ℕ
ceiling_codec = seen ceiling_by ceiling_fields ceiling_format

-- the fields that a ceiling does not keep are as it writes them
record SaysNothing (m z : ℕ) (xs : List ℕ) : Type 0 where
  pub marked : m ≡ ceiling_mark
  pub empty : z ≡ 0
  pub rest : xs ≡ copies 496 0

says_nothing : (m z n : ℕ) (xs : List ℕ) → ceiling_format.fits (m, (z, (n, xs))) ≡ true → SaysNothing m z xs
says_nothing m z n xs h =
    let a = both_true ((only is_ceiling_mark u32).fits m) _ h in
    let b = both_true ((only byte_is_zero u32).fits z) _ a.1 in
    let c = both_true ((only is_ceiling u64).fits n) _ b.1 in
    let u = both_true (list_all byte_is_zero xs) (eqb (length xs) 496) c.1 in
    record {
      marked = eqb-true m ceiling_mark (both_true (is_ceiling_mark m) _ a.0).0;
      empty = eqb-true z 0 (both_true (byte_is_zero z) _ b.0).0;
      rest = zeros_are xs u.0 ∙ ap (λ (k : ℕ). copies k 0) (eqb-true _ _ u.1);
    }

fields_same : (x : ℕ × (ℕ × (ℕ × List ℕ))) → ceiling_format.fits x ≡ true → ceiling_fields (ceiling_by x) ≡ x
fields_same (m, (z, (n, xs))) h =
    let s = says_nothing m z n xs h in
    let a = sym s.marked in
    let b = sym s.empty in
    let c = sym s.rest in
    λ i. (a i, (b i, (n, c i)))

pub ceiling_is : IsSpelling ℕ ceiling_page (λ n. ceiling_codec.fits n ≡ true)
ceiling_is =
    all_by_is ceiling_codec (seen_is ceiling_by ceiling_fields ceiling_format (record { there = λ n. refl; here = fields_same })
    (dependent_pair_is _ _ (only_is is_ceiling_mark u32 u32_is) (λ _. dependent_pair_is _ _ (only_is byte_is_zero u32 u32_is) (λ _. dependent_pair_is _ _ (only_is is_ceiling u64 u64_is) (λ _. only_is (λ xs. list_all byte_is_zero xs) _ (bytes_is 496))))))
