-- A ceiling that a store can keep is read as it was printed.
use Rattle.std.proofs.Common.{◌≡◌, ◌∙◌, ◌+◌, ◌*◌, ◌≤◌, ◌^◌, ℕ, true, List, [], ◌∷◌, Some, length, refl, sym, ap, subst, arith}
use Rattle.std.proofs.lemmas.Bool.Decides.{nat_tests}
use Rattle.std.specs.List.{list_all}
use Rattle.std.specs.Prelude.{◌==◌, nat_le, nat_lt}
use Rattle.s38_base.specs.Limits.{ceiling_step, last_number, page_bytes}
use Rattle.s38_codec.proofs.CodecLaws.{and_true}
use Rattle.s38_codec.proofs.FormatLaws.{copies_zero, length_copies}
use Rattle.s38_codec.specs.Codec.{byte_is_zero, bytes, copies, only}
use Rattle.s38_codec.specs.Formats.{u32, u64}
use Rattle.s38_durable_state.specs.Represents.{ceiling_parts}
use Rattle.s38_restart.proofs.catalog.CeilingLaws.{ceiling_codec, ceiling_is}
use Rattle.s38_image.proofs.PageLaws.{parts_again}
use Rattle.s38_image.specs.Faults.{ceiling_in, ceiling_mark, ceiling_page, is_ceiling, is_ceiling_mark}
use Rattle.s38_image.specs.PartPlaces.{ceiling_key, rows_part}
use Rattle.s38_image.specs.Images.{leading}
use Rattle.s38_image.specs.Pages.{needed, no_tags, numbered_pieces, page_pieces, read_parts, stream_parts, zero_filled}

-- it keeps to its form
ceiling_fits : (c : ℕ) → c ≤ last_number + ceiling_step → ceiling_codec.fits c ≡ true
ceiling_fits c low =
    let small : nat_le c (2 ^ 62 + 64) ≡ true = grind (arith, nat_tests) in
    let short : nat_lt c (2 ^ 64) ≡ true = grind (arith, nat_tests) in
    let long : length {A = ℕ} (copies 496 0) ≡ 496 = length_copies {A = ℕ} 496 0 in
    let all : (length {A = ℕ} (copies 496 0) == 496) ≡ true = grind (arith, nat_tests) in
    and_true ((only is_ceiling_mark u32).fits ceiling_mark) _ refl
    (and_true ((only byte_is_zero u32).fits 0) _ refl
    (and_true ((only is_ceiling u64).fits c) _ (and_true (is_ceiling c) _ small short)
    (and_true (list_all byte_is_zero (copies 496 0)) _ (copies_zero 496) all)))

ceiling_long : (c : ℕ) → length (ceiling_page.print c) ≡ 512
ceiling_long c = let zeros : length {A = ℕ} (copies 496 0) ≡ 496 = length_copies {A = ℕ} 496 0 in omega (arith, zeros)

-- it is one part, the first
leads_all : (bytes tags : List ℕ) → length bytes ≡ 512 → leading rows_part (stream_parts ceiling_key 0 bytes tags) ≡ stream_parts ceiling_key 0 bytes tags
unfolding numbered_pieces page_pieces
leads_all bytes tags long =
    subst (λ (n : ℕ). leading rows_part (numbered_pieces ceiling_key 0 (page_pieces n (zero_filled (page_bytes * n) bytes)) tags) ≡ numbered_pieces ceiling_key 0 (page_pieces n (zero_filled (page_bytes * n) bytes)) tags) (sym count) (by tags)
  where
    count : needed (length bytes) ≡ 1
    count = ap needed long

    by : (tags : List ℕ) → leading rows_part (numbered_pieces ceiling_key 0 (page_pieces 1 (zero_filled (page_bytes * 1) bytes)) tags) ≡ numbered_pieces ceiling_key 0 (page_pieces 1 (zero_filled (page_bytes * 1) bytes)) tags
    by [] = refl
    by (t ∷ tags) = refl

pub ceiling_again : (c : ℕ) → c ≤ last_number + ceiling_step → ceiling_in (ceiling_parts c) ≡ Some c
ceiling_again c low =
    let tags : length (no_tags ceiling_page c) ≡ needed (length (ceiling_page.print c)) = length_copies {A = ℕ} (needed (length (ceiling_page.print c))) 0 in
    ap (read_parts ceiling_key 0 ceiling_page (no_tags ceiling_page) 512) (leads_all (ceiling_page.print c) (no_tags ceiling_page c) (ceiling_long c))
    ∙ ap (λ (n : ℕ). read_parts ceiling_key 0 ceiling_page (no_tags ceiling_page) n (ceiling_parts c)) (sym (ceiling_long c))
    ∙ parts_again ceiling_key 0 ceiling_page (no_tags ceiling_page) (λ n. ceiling_codec.fits n ≡ true) ceiling_is c (ceiling_fits c low) tags
