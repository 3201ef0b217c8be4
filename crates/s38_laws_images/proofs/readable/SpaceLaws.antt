-- Which spaces are read again as they were printed.
use Rattle.std.proofs.Common.{◌≡◌, ◌∙◌, ℕ, zero, suc, ◌+◌, ◌-◌, ◌*◌, ◌/◌, ◌%◌, ◌==◌, ◌<◌, ◌≤◌, Bool, true, false, List, [], ◌∷◌, ◌++◌, ap, append_assoc, drop, length, map, refl, subst, sym, take, arith, ◌⊎◌, inl, inr}
use Rattle.std.proofs.Math.Seq.{take-append_seam}
use Rattle.std.proofs.lemmas.Bool.{cases_lt, eq-eqb}
use Rattle.std.proofs.lemmas.List.Elements.{All-head, All-tail}
use Rattle.std.proofs.lemmas.List.{append-nil, length-drop, length-map, length-take, take-append-drop, take_all}
use Rattle.std.specs.Prelude.{All, nat_le}
use Rattle.s38_codec.proofs.CodecLaws.{and_true}
use Rattle.s38_codec.specs.Codec.{copies, fits_each}
use Rattle.s38_image.specs.Fitting.{FitsSpace}
use Rattle.s38_image.specs.Pages.{needed}
use Rattle.s38_image.specs.Spaces.{bit, bits, cell, cells_by, flags_in, is_tagged, space_tags, tag_number, tag_numbers}
use Rattle.s38_image.specs.PartPlaces.{page_cells}
use Rattle.s38_memory.specs.Cell.{IsCell}
use Rattle.s38_memory.specs.Tagged.{IsStorage}
use Rattle.s38_memory.specs.declared.cell.Cell.TheVariants as cells
use Rattle.s38_memory.specs.declared.cell.Cell.{Cell}
use Rattle.s38_laws_images.proofs.readable.ListLaws.{at_most}
use Rattle.s38_laws_images.proofs.readable.ScalarLaws.{pointer_fits}

-- ---- the tags

half : (f : Bool) (t : ℕ) → (bit f + 2 * t) / 2 ≡ t
half true t = omega arith
half false t = omega arith

lowest : (f : Bool) (t : ℕ) → ((bit f + 2 * t) % 2 == 1) ≡ f
lowest true t = let odd : (1 + 2 * t) % 2 ≡ 1 = omega arith in ap (λ (n : ℕ). n == 1) odd
lowest false t = let even : (0 + 2 * t) % 2 ≡ 0 = omega arith in ap (λ (n : ℕ). n == 1) even

no_bits : (n : ℕ) → bits n 0 ≡ copies n false
unfolding bits copies
no_bits zero = refl
no_bits (suc n) = ap (λ (fs : List Bool). false ∷ fs) (no_bits n)

-- the bits of a number that was made of flags
bits_made : (n : ℕ) (fs : List Bool) → length fs ≤ n → bits n (tag_number fs) ≡ fs ++ copies (n - length fs) false
unfolding bits copies
bits_made zero [] few = refl
bits_made zero (f ∷ fs) few = absurd (omega (arith, few))
bits_made (suc n) [] few = let all : suc n ≡ suc n - 0 = omega arith in no_bits (suc n) ∙ ap (λ (m : ℕ). copies m false) all
bits_made (suc n) (f ∷ fs) few =
    let less : n - length fs ≡ suc n - suc (length fs) = omega arith in
    ap (λ (b : Bool). b ∷ bits n ((bit f + 2 * tag_number fs) / 2)) (lowest f (tag_number fs))
    ∙ ap (λ (t : ℕ). f ∷ bits n t) (half f (tag_number fs))
    ∙ ap (λ (gs : List Bool). f ∷ gs) (bits_made n fs (omega (arith, few)))
    ∙ ap (λ (m : ℕ). f ∷ (fs ++ copies m false)) less

-- the flags of the pages lead those of the numbers that were made of them
abbrev Leads : List Bool → List Bool → Type 0
Leads fs all = (rest : List Bool) × (all ≡ fs ++ rest)

one_page : (fs : List Bool) (ts : List ℕ) → length fs ≤ 32 → Leads fs (flags_in (tag_number (take page_cells fs) ∷ ts))
one_page fs ts few =
    let front : bits page_cells (tag_number (take page_cells fs)) ≡ fs ++ copies (32 - length fs) false =
    ap (λ (gs : List Bool). bits page_cells (tag_number gs)) (take_all 32 fs few) ∙ bits_made 32 fs few in
    (copies (32 - length fs) false ++ flags_in ts, ap (λ (gs : List Bool). gs ++ flags_in ts) front ∙ append_assoc fs (copies (32 - length fs) false) (flags_in ts))

full_page : (fs : List Bool) → 32 ≤ length fs → bits page_cells (tag_number (take page_cells fs)) ≡ take page_cells fs
unfolding copies
full_page fs many =
    let long : length (take 32 fs) ≡ 32 = omega (arith, length-take 32 fs, many) in
    let left : 32 - length (take 32 fs) ≡ 0 = omega (arith, long) in
    bits_made 32 (take 32 fs) (omega (arith, long)) ∙ ap (λ (n : ℕ). take 32 fs ++ copies n false) left ∙ append-nil (take 32 fs)

more_pages : (fs : List Bool) (ts : List ℕ) → 32 ≤ length fs → Leads (drop page_cells fs) (flags_in ts) → Leads fs (flags_in (tag_number (take page_cells fs) ∷ ts))
more_pages fs ts many later = (
  later.0,
  ap (λ (gs : List Bool). gs ++ flags_in ts) (full_page fs many)
      ∙ ap (λ (gs : List Bool). take 32 fs ++ gs) later.1
      ∙ sym (append_assoc (take 32 fs) (drop 32 fs) later.0)
      ∙ ap (λ (gs : List Bool). gs ++ later.0) (take-append-drop 32 fs),
)

pages_lead : (n : ℕ) (fs : List Bool) → length fs ≤ 32 * suc n → (length fs < 32) ⊎ (32 ≤ length fs)
    → (length (drop page_cells fs) ≤ 32 * n → Leads (drop page_cells fs) (flags_in (tag_numbers n (drop page_cells fs)))) → Leads fs (flags_in (tag_numbers (suc n) fs))
unfolding tag_numbers
pages_lead n fs few (inl lt) later = one_page fs (tag_numbers n (drop page_cells fs)) (omega (arith, lt))
pages_lead n fs few (inr le) later = more_pages fs (tag_numbers n (drop page_cells fs)) le (later (omega (arith, few, length-drop 32 fs, le)))

pub flags_made : (n : ℕ) (fs : List Bool) → length fs ≤ 32 * n → Leads fs (flags_in (tag_numbers n fs))
unfolding tag_numbers
flags_made zero [] few = ([], refl)
flags_made zero (f ∷ fs) few = absurd (omega (arith, few))
flags_made (suc n) fs few = pages_lead n fs few (cases_lt (length fs) 32) (λ rest. flags_made n (drop page_cells fs) rest)

-- of cells they say which are pointers
flags_of : (cs : List Cell) → take (length cs) (flags_in (space_tags cs)) ≡ map is_tagged cs
flags_of cs =
    let long = length-map cs is_tagged in
    let enough : length (map is_tagged cs) ≤ 32 * needed (16 * length cs) = omega (arith, long) in
    let made = flags_made (needed (16 * length cs)) (map is_tagged cs) enough in
    ap (take (length cs)) made.1 ∙ ap (λ (n : ℕ). take n (map is_tagged cs ++ made.0)) (sym long) ∙ take-append_seam (map is_tagged cs) made.0

-- ---- the cells

cell_fits : (c : Cell) → IsCell c → (cell (is_tagged c)).fits c ≡ true
cell_fits (cells.Tagged p) is = pointer_fits p is
cell_fits (cells.Bytes xs) is = eq-eqb (length xs) 16 is

cells_fit : (cs : List Cell) → All IsCell cs → (cells_by (map is_tagged cs)).fits cs ≡ true
unfolding fits_each
cells_fit [] all = refl
cells_fit (c ∷ cs) all = and_true ((cell (is_tagged c)).fits c) _ (cell_fits c (All-head IsCell c cs all)) (cells_fit cs (All-tail IsCell c cs all))

pub space_fits : (cs : List Cell) → IsStorage cs → FitsSpace (space_tags cs) cs
space_fits cs is = record {
  some = and_true (nat_le 1 (length cs)) (nat_le (length cs) 1048576) (at_most 1 (length cs) is.some) (at_most (length cs) 1048576 is.most);
  cells = subst (λ (fs : List Bool). (cells_by fs).fits cs ≡ true) (sym (flags_of cs)) (cells_fit cs is.whole);
}
