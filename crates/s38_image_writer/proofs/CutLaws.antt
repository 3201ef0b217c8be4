-- Streams are cut page by page.
use Rattle.std.proofs.Common.{◌≡◌, ℕ, zero, suc, ◌+◌, ◌-◌, ◌*◌, ◌<◌, ◌≤◌, List, [], ◌∷◌, ◌++◌, length, map, take, drop, refl, sym, ap, ◌∙◌, arith, append_assoc, inl, inr}
use Rattle.std.specs.Prelude.{All, replicate}
use Rattle.std.proofs.lemmas.Bool.{cases_lt}
use Rattle.std.proofs.lemmas.List.{append-nil, drop-append-le, drop_all, length-append, length-drop, length-take-le, take-append-le, take_all, take-map, drop-map}
use Rattle.std.proofs.lemmas.List.Elements.{All-head, All-tail}
use Rattle.std.proofs.Math.Seq.{drop-append-add, take-append-add}
use Rattle.s38_base.specs.Limits.{page_bytes}
use Rattle.s38_base.specs.declared.page.Change.{Change}
use Rattle.s38_codec.specs.Codec.{copies}
use Rattle.s38_image.proofs.HeaderLaws.{drop_zeros}
use Rattle.s38_image.specs.Pages.{needed, numbered_pieces, page_pieces, page_put_at, stream_parts, zero_filled}
use Rattle.s38_image.specs.Spaces.{is_tagged, space_tags, tag_number, tag_numbers}
use Rattle.s38_image.proofs.SpaceLaws.{length_pointer}
use Rattle.s38_memory.specs.Cell.{IsCell, bytes_of_cell}
use Rattle.s38_memory.specs.Tagged.{bytes_in}
use Rattle.s38_memory.specs.declared.cell.Cell.{Cell}
use Rattle.s38_memory.specs.declared.cell.Cell.TheVariants as cells

pub same_zeros : (a b : ℕ) → a ≡ b → copies {A = ℕ} a 0 ≡ copies b 0
same_zeros a b e = ap (λ (k : ℕ). copies {A = ℕ} k 0) e

take_zeros : (k m : ℕ) → k ≤ m → take {A = ℕ} k (copies m 0) ≡ copies k 0
unfolding copies
take_zeros zero m le = refl
take_zeros (suc k) zero le = absurd (omega arith)
take_zeros (suc k) (suc m) le = ap (λ (t : List ℕ). 0 ∷ t) (take_zeros k m (omega arith))

skip_zeros : (k m : ℕ) → drop {A = ℕ} k (copies m 0) ≡ copies (m - k) 0
unfolding copies
skip_zeros zero m = same_zeros m (m - 0) (omega arith)
skip_zeros (suc k) zero = same_zeros 0 (0 - suc k) (omega arith)
skip_zeros (suc k) (suc m) = skip_zeros k m ∙ same_zeros (m - k) (suc m - suc k) (omega arith)

-- the first page of a stream
pub first_page : (n : ℕ) (bytes : List ℕ) → take page_bytes (zero_filled (page_bytes * suc n) bytes) ≡ zero_filled page_bytes (take page_bytes bytes)
unfolding copies
first_page n bytes =
    elim (cases_lt page_bytes (length bytes)) [
      | inl lt ↦
          let size = length-take-le page_bytes bytes (omega arith) in
          take-append-le page_bytes bytes (copies (page_bytes * suc n - length bytes) 0) (omega arith)
          ∙ sym (append-nil (take page_bytes bytes))
          ∙ ap (λ (t : List ℕ). take page_bytes bytes ++ t) (same_zeros 0 (page_bytes - length (take page_bytes bytes)) (omega (arith, size)))
      | inr le ↦
          let all : take page_bytes bytes ≡ bytes = take_all page_bytes bytes le in
          let split : page_bytes ≡ length bytes + (page_bytes - length bytes) = omega arith in
          ap (λ (k : ℕ). take k (zero_filled (page_bytes * suc n) bytes)) split
          ∙ take-append-add bytes (copies (page_bytes * suc n - length bytes) 0) (page_bytes - length bytes)
          ∙ ap (λ (t : List ℕ). bytes ++ t) (take_zeros (page_bytes - length bytes) (page_bytes * suc n - length bytes) (omega arith))
          ∙ ap (λ (t : List ℕ). zero_filled page_bytes t) (sym all)
    ]

-- the pages after it
pub other_pages : (n : ℕ) (bytes : List ℕ) → drop page_bytes (zero_filled (page_bytes * suc n) bytes) ≡ zero_filled (page_bytes * n) (drop page_bytes bytes)
other_pages n bytes =
    elim (cases_lt page_bytes (length bytes)) [
      | inl lt ↦
          drop-append-le page_bytes bytes (copies (page_bytes * suc n - length bytes) 0) (omega arith)
          ∙ ap (λ (t : List ℕ). drop page_bytes bytes ++ t) (same_zeros (page_bytes * suc n - length bytes) (page_bytes * n - length (drop page_bytes bytes)) (omega (arith, length-drop page_bytes bytes)))
      | inr le ↦
          let none : drop page_bytes bytes ≡ [] = drop_all page_bytes bytes le in
          let split : page_bytes ≡ length bytes + (page_bytes - length bytes) = omega arith in
          ap (λ (k : ℕ). drop k (zero_filled (page_bytes * suc n) bytes)) split
          ∙ drop-append-add bytes (copies (page_bytes * suc n - length bytes) 0) (page_bytes - length bytes)
          ∙ skip_zeros (page_bytes - length bytes) (page_bytes * suc n - length bytes)
          ∙ same_zeros (page_bytes * suc n - length bytes - (page_bytes - length bytes)) (page_bytes * n - 0) (omega arith)
          ∙ ap (λ (t : List ℕ). zero_filled (page_bytes * n) t) (sym none)
    ]

-- the parts of a stream of cells
abbrev pub cut_pages : ℕ → ℕ → ℕ → List ℕ → List Cell → List Change
cut_pages number first n bytes cells = numbered_pieces number first (page_pieces n (zero_filled (page_bytes * n) bytes)) (tag_numbers n (map is_tagged cells))

pub cut_step : (number first n : ℕ) (bytes : List ℕ) (cells : List Cell) → cut_pages number first (suc n) bytes cells
    ≡ page_put_at number first (zero_filled page_bytes (take page_bytes bytes)) (tag_number (map is_tagged (take 32 cells))) ∷ cut_pages number (first + 1) n (drop page_bytes bytes) (drop 32 cells)
unfolding page_pieces numbered_pieces tag_numbers
cut_step number first n bytes cells =
    rw (first_page n bytes, other_pages n bytes, take-map is_tagged 32 cells, drop-map is_tagged 32 cells) refl

-- one more page comes before the others
pub pages_go_on : (number first count k : ℕ) (before : List Change) (bytes : List ℕ) (cells : List Cell) (total : List Change) → k < count
    → before ++ cut_pages number (first + k) (count - k) bytes cells ≡ total
    → (before ++ page_put_at number (first + k) (zero_filled page_bytes (take page_bytes bytes)) (tag_number (map is_tagged (take 32 cells))) ∷ []) ++ cut_pages number (first + (k + 1)) (count - (k + 1)) (drop page_bytes bytes) (drop 32 cells) ≡ total
pages_go_on number first count k before bytes cells total lt so_far =
    let left : count - k ≡ suc (count - (k + 1)) = omega arith in
    let next : first + k + 1 ≡ first + (k + 1) = omega arith in
    let page = page_put_at number (first + k) (zero_filled page_bytes (take page_bytes bytes)) (tag_number (map is_tagged (take 32 cells))) in
    append_assoc before (page ∷ []) (cut_pages number (first + (k + 1)) (count - (k + 1)) (drop page_bytes bytes) (drop 32 cells))
    ∙ ap (λ (m : ℕ). before ++ page ∷ cut_pages number m (count - (k + 1)) (drop page_bytes bytes) (drop 32 cells)) (sym next)
    ∙ ap (λ (q : List Change). before ++ q) (sym (cut_step number (first + k) (count - (k + 1)) bytes cells))
    ∙ ap (λ (m : ℕ). before ++ cut_pages number (first + k) m bytes cells) (sym left)
    ∙ so_far

pub pages_done : (number first count k : ℕ) (before : List Change) (bytes : List ℕ) (cells : List Cell) (total : List Change) → count ≤ k → before ++ cut_pages number (first + k) (count - k) bytes cells ≡ total → before ≡ total
unfolding page_pieces numbered_pieces
pages_done number first count k before bytes cells total le so_far =
    let none : count - k ≡ 0 = omega arith in
    sym (append-nil before) ∙ ap (λ (m : ℕ). before ++ cut_pages number (first + k) m bytes cells) (sym none) ∙ so_far

-- a page is filled with zeros
pub page_filled : (bytes : List ℕ) → bytes ++ drop (length bytes) (replicate 512 0) ≡ zero_filled page_bytes bytes
page_filled bytes = ap (λ (t : List ℕ). bytes ++ t) (drop_zeros (length bytes) 512)

-- the same, by what the steps of the loop gave
pushed_page : (number first count k : ℕ) (old new : List Change) (bytes : List ℕ) (cells : List Cell) (page more : List ℕ) (held after : List Cell) (tags : ℕ) (part : Change) (total : List Change) → k < count
    → page ≡ take 512 bytes → more ≡ drop 512 bytes → held ≡ take 32 cells → after ≡ drop 32 cells → tags ≡ tag_number (map is_tagged held) → part ≡ page_put_at number (first + k) (zero_filled 512 page) tags → new ≡ old ++ part ∷ []
    → old ++ cut_pages number (first + k) (count - k) bytes cells ≡ total → new ++ cut_pages number (first + (k + 1)) (count - (k + 1)) more after ≡ total
pushed_page number first count k old new bytes cells page more held after tags part total lt p m h a t q n so_far =
    let tags_are : tags ≡ tag_number (map is_tagged (take 32 cells)) = t ∙ ap (λ (cs : List Cell). tag_number (map is_tagged cs)) h in
    let part_is : part ≡ page_put_at number (first + k) (zero_filled 512 (take 512 bytes)) (tag_number (map is_tagged (take 32 cells))) =
    q ∙ ap (λ (bs : List ℕ). page_put_at number (first + k) (zero_filled 512 bs) tags) p ∙ ap (λ (v : ℕ). page_put_at number (first + k) (zero_filled 512 (take 512 bytes)) v) tags_are in
    let new_is : new ≡ old ++ page_put_at number (first + k) (zero_filled 512 (take 512 bytes)) (tag_number (map is_tagged (take 32 cells))) ∷ [] = n ∙ ap (λ (c : Change). old ++ c ∷ []) part_is in
    ap (λ (q : List Change). q ++ cut_pages number (first + (k + 1)) (count - (k + 1)) more after) new_is
    ∙ ap (λ (bs : List ℕ). (old ++ page_put_at number (first + k) (zero_filled 512 (take 512 bytes)) (tag_number (map is_tagged (take 32 cells))) ∷ []) ++ cut_pages number (first + (k + 1)) (count - (k + 1)) bs after) m
    ∙ ap (λ (cs : List Cell). (old ++ page_put_at number (first + k) (zero_filled 512 (take 512 bytes)) (tag_number (map is_tagged (take 32 cells))) ∷ []) ++ cut_pages number (first + (k + 1)) (count - (k + 1)) (drop 512 bytes) cs) a
    ∙ pages_go_on number first count k old bytes cells total lt so_far

-- ---- cells

none_taken : (n : ℕ) → take {A = ℕ} n [] ≡ []
none_taken n = take_all n [] (omega arith)

none_left : (n : ℕ) → drop {A = ℕ} n [] ≡ []
none_left n = drop_all n [] (omega arith)

cell_long : (c : Cell) → IsCell c → length (bytes_of_cell c) ≡ 16
cell_long (cells.Bytes bytes) is = is
cell_long (cells.Tagged pointer) is = length_pointer pointer

pub cells_long : (cs : List Cell) → All IsCell cs → length (bytes_in cs) ≡ 16 * length cs
cells_long [] all = refl
cells_long (c ∷ cs) all =
    omega (arith, cell_long c (All-head IsCell c cs all), cells_long cs (All-tail IsCell c cs all), length-append (bytes_of_cell c) (bytes_in cs))

-- the bytes of the first cells, and those of the others
pub cells_front : (n : ℕ) (cs : List Cell) → All IsCell cs → take (16 * n) (bytes_in cs) ≡ bytes_in (take n cs)
cells_front zero cs all = refl
cells_front (suc n) [] all = none_taken (16 * suc n)
cells_front (suc n) (c ∷ cs) all =
    let long : 16 * suc n ≡ length (bytes_of_cell c) + 16 * n = omega (arith, cell_long c (All-head IsCell c cs all)) in
    ap (λ (k : ℕ). take k (bytes_of_cell c ++ bytes_in cs)) long
    ∙ take-append-add (bytes_of_cell c) (bytes_in cs) (16 * n)
    ∙ ap (λ (t : List ℕ). bytes_of_cell c ++ t) (cells_front n cs (All-tail IsCell c cs all))

pub cells_back : (n : ℕ) (cs : List Cell) → All IsCell cs → drop (16 * n) (bytes_in cs) ≡ bytes_in (drop n cs)
cells_back zero cs all = refl
cells_back (suc n) [] all = none_left (16 * suc n)
cells_back (suc n) (c ∷ cs) all =
    let long : 16 * suc n ≡ length (bytes_of_cell c) + 16 * n = omega (arith, cell_long c (All-head IsCell c cs all)) in
    ap (λ (k : ℕ). drop k (bytes_of_cell c ++ bytes_in cs)) long
    ∙ drop-append-add (bytes_of_cell c) (bytes_in cs) (16 * n)
    ∙ cells_back n cs (All-tail IsCell c cs all)

pub pushed_cells : (number first count k : ℕ) (old new : List Change) (cs page more : List Cell) (part : Change) (total : List Change) → k < count → All IsCell cs
    → page ≡ take 32 cs → more ≡ drop 32 cs → part ≡ page_put_at number (first + k) (zero_filled 512 (bytes_in page)) (tag_number (map is_tagged page)) → new ≡ old ++ part ∷ []
    → old ++ cut_pages number (first + k) (count - k) (bytes_in cs) cs ≡ total → new ++ cut_pages number (first + (k + 1)) (count - (k + 1)) (bytes_in more) more ≡ total
pushed_cells number first count k old new cs page more part total lt all p m q n so_far =
    let front : bytes_in page ≡ take 512 (bytes_in cs) = ap bytes_in p ∙ sym (cells_front 32 cs all) in
    let back : bytes_in more ≡ drop 512 (bytes_in cs) = ap bytes_in m ∙ sym (cells_back 32 cs all) in
    pushed_page number first count k old new (bytes_in cs) cs (bytes_in page) (bytes_in more) page more (tag_number (map is_tagged page)) part total lt front back p m refl q n so_far

-- the parts of cells
pub cells_parts : (number first : ℕ) (cs : List Cell) → All IsCell cs → cut_pages number first (needed (16 * length cs)) (bytes_in cs) cs ≡ stream_parts number first (bytes_in cs) (space_tags cs)
cells_parts number first cs all =
    ap (λ (k : ℕ). numbered_pieces number first (page_pieces (needed k) (zero_filled (page_bytes * needed k) (bytes_in cs))) (tag_numbers (needed (16 * length cs)) (map is_tagged cs))) (sym (cells_long cs all))
