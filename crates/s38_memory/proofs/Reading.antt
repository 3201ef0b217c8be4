-- What one cell gives to a read of many.
use Rattle.std.proofs.Common.{◌≡◌, ℕ, ◌+◌, ◌*◌, zero, suc, ◌<◌, ◌≤◌, ◌-◌, ◌/◌, ◌%◌, List, [], ◌∷◌, ◌++◌, length, get_or, take, drop, All, sym, ap, ◌∙◌, refl, arith, length-append, append_assoc}
use Rattle.std.proofs.lemmas.List.{take_at, take-append-le, drop-append-le, drop-drop, length-take-le, length-drop}
use Rattle.std.proofs.lemmas.List.Elements.{All-head, All-tail}
use Rattle.std.proofs.Math.Seq.{drop-append-add}
use lib.Seq.{take-add}
use Rattle.s38_memory.specs.declared.cell.Cell.{Cell}
use Rattle.s38_memory.specs.Cell.{IsCell, bytes_of_cell}
use Rattle.s38_memory.specs.Tagged.{bytes_in}
use Rattle.s38_memory.proofs.Cells.{length-bytes_of}

within-first : (xs ys : List ℕ) (m o n : ℕ) → m ≡ o → o + n ≤ length xs → take n (drop m (xs ++ ys)) ≡ take n (drop o xs)
within-first xs ys m o n same fits =
    let room : n ≤ length (drop o xs) = omega (arith, length-drop o xs) in
    ap (λ k. take n (drop k (xs ++ ys))) same ∙ ap (take n) (drop-append-le o xs ys (omega arith)) ∙ take-append-le n (drop o xs) ys room

past-first : (xs ys : List ℕ) (m k n : ℕ) → m ≡ length xs + k → take n (drop m (xs ++ ys)) ≡ take n (drop k ys)
past-first xs ys m k n same = ap (λ i. take n (drop i (xs ++ ys))) same ∙ ap (take n) (drop-append-add xs ys k)

-- bytes within the cell at a place
pub bytes_in-cell : (cells : List Cell) (k o n m : ℕ) (d : Cell) → All IsCell cells → k < length cells → o + n ≤ 16 → m ≡ 16 * k + o
    → take n (drop m (bytes_in cells)) ≡ take n (drop o (bytes_of_cell (get_or cells k d)))
bytes_in-cell [] k o n m d all in' fits same = absurd (omega arith)
bytes_in-cell (c ∷ cs) zero o n m d all in' fits same =
    let size = length-bytes_of c (All-head IsCell c cs all) in
    within-first (bytes_of_cell c) (bytes_in cs) m o n (omega arith) (omega (arith, size))
bytes_in-cell (c ∷ cs) (suc k) o n m d all in' fits same =
    let size = length-bytes_of c (All-head IsCell c cs all) in
    past-first (bytes_of_cell c) (bytes_in cs) m (16 * k + o) n (omega (arith, size))
    ∙ bytes_in-cell cs k o n (16 * k + o) d (All-tail IsCell c cs all) (omega arith) fits refl

-- what was read so far, and the part of one cell more
pub read-more : (all into front rest post : List ℕ) (at done n m : ℕ) → done ≤ length into → length front ≡ n
    → take done into ≡ take done (drop at all) → front ≡ take n (drop m all) → m ≡ at + done
    → take (done + n) (take done into ++ ((front ++ rest) ++ post)) ≡ take (done + n) (drop at all)
read-more all into front rest post at done n m within size so_far next place =
    let start = take done into in
    let joined : start ++ ((front ++ rest) ++ post) ≡ (start ++ front) ++ (rest ++ post) = simp append_assoc in
    let len : length (start ++ front) ≡ done + n = omega (arith, length-append start front, length-take-le done into within, size) in
    let behind : take n (drop m all) ≡ take n (drop done (drop at all)) = ap (λ i. take n (drop i all)) place ∙ sym (ap (take n) (drop-drop done at all)) in
    ap (take (done + n)) joined ∙ take_at (start ++ front) (rest ++ post) (done + n) len ∙ ap (λ l. l ++ front) so_far
    ∙ ap (λ l. take done (drop at all) ++ l) (next ∙ behind) ∙ sym (take-add done n (drop at all))

-- the next cell's part, where the read goes over its front
pub read-step : (cells : List Cell) (into sub rest post : List ℕ) (at done n : ℕ) (d : Cell) → All IsCell cells → done ≤ length into
    → at + done < 16 * length cells → n ≤ 16 - (at + done) % 16
    → sub ≡ take n (drop ((at + done) % 16) (bytes_of_cell (get_or cells ((at + done) / 16) d))) ++ rest
    → take done into ≡ take done (drop at (bytes_in cells))
    → take (done + n) (take done into ++ (sub ++ post)) ≡ take (done + n) (drop at (bytes_in cells))
read-step cells into sub rest post at done n d all within room fits filled so_far =
    let k = (at + done) / 16 in
    let o = (at + done) % 16 in
    let below : k < length cells = omega arith in
    let cell = get_or cells k d in
    let whole = length-bytes_of cell (all k d below) in
    let front = take n (drop o (bytes_of_cell cell)) in
    let size : length front ≡ n = length-take-le n (drop o (bytes_of_cell cell)) (omega (arith, length-drop o (bytes_of_cell cell), whole)) in
    let place : at + done ≡ 16 * k + o = omega arith in
    let next : front ≡ take n (drop (at + done) (bytes_in cells)) = sym (bytes_in-cell cells k o n (at + done) d all below (omega arith) place) in
    ap (λ l. take (done + n) (take done into ++ (l ++ post))) filled ∙ read-more (bytes_in cells) into front rest post at done n (at + done) within size so_far next refl

pub read-within : (into sub post : List ℕ) (done n : ℕ) → done ≤ length into → n ≤ length sub → done + n ≤ length (take done into ++ (sub ++ post))
read-within into sub post done n within fits =
    omega (arith, length-append (take done into) (sub ++ post), length-append sub post, length-take-le done into within)
