-- How a write goes on after the first cell that it touches.
use Rattle.std.proofs.Common.{◌≡◌, ℕ, zero, suc, ◌+◌, ◌-◌, ◌*◌, ◌<◌, min, List, [], ◌∷◌, length, get_or, set, take, drop, sym, ap, ◌∙◌, refl, arith}
use Rattle.std.proofs.lemmas.List.{take_all, drop_all, take_min, drop_min, length-take}
use Rattle.s38_memory.specs.declared.cell.Cell.{Cell}
use Rattle.s38_memory.specs.declared.cell.Cell.TheVariants.{Bytes}
use Rattle.s38_memory.specs.Cell.{bytes_of_cell}
use Rattle.s38_memory.specs.Tagged.{cell_with_piece, cells_written, overlaid}

-- an empty piece changes nothing
pub written-nil : (at : ℕ) (cells : List Cell) → cells_written at [] cells ≡ cells
written-nil at [] = refl
written-nil at (c ∷ cs) =
    ap (λ p. cell_with_piece at p c ∷ cells_written (at - 16) (drop (16 - at) []) cs) (take_all (16 - at) [] (omega arith))
    ∙ ap (λ p. c ∷ cells_written (at - 16) p cs) (drop_all (16 - at) [] (omega arith)) ∙ ap (λ l. c ∷ l) (written-nil (at - 16) cs)

with_piece-some : (at : ℕ) (piece : List ℕ) (c : Cell) → 0 < length piece → cell_with_piece at piece c ≡ Bytes (overlaid at piece (bytes_of_cell c))
with_piece-some at [] c some = absurd (omega arith)
with_piece-some at (b ∷ bs) c some = refl

-- a cell before the piece stays
written-past : (m k : ℕ) (piece : List ℕ) (c : Cell) (cs : List Cell) → m ≡ 16 + k → cells_written m piece (c ∷ cs) ≡ c ∷ cells_written k piece cs
written-past m k piece c cs same =
    let none : 16 - m ≡ 0 = omega arith in
    let rest : m - 16 ≡ k = omega arith in
    ap (λ z. cell_with_piece m (take z piece) c ∷ cells_written (m - 16) (drop z piece) cs) none ∙ ap (λ z. c ∷ cells_written z piece cs) rest

-- the first cell takes its part
written-first : (o n : ℕ) (piece : List ℕ) (c : Cell) (cs : List Cell) → o < 16 → 0 < length piece → n ≡ min (16 - o) (length piece)
    → cells_written o piece (c ∷ cs) ≡ Bytes (overlaid o (take n piece) (bytes_of_cell c)) ∷ cells_written 0 (drop n piece) cs
written-first o n piece c cs low some count =
    let part : take (16 - o) piece ≡ take n piece = sym (take_min (16 - o) piece) ∙ ap (λ k. take k piece) (sym count) in
    let rest : drop (16 - o) piece ≡ drop n piece = sym (drop_min (16 - o) piece) ∙ ap (λ k. drop k piece) (sym count) in
    let next : o - 16 ≡ 0 = omega arith in
    let fills : 0 < length (take n piece) = omega (arith, length-take n piece) in
    ap (λ p. cell_with_piece o p c ∷ cells_written (o - 16) (drop (16 - o) piece) cs) part
    ∙ ap (λ p. cell_with_piece o (take n piece) c ∷ cells_written (o - 16) p cs) rest
    ∙ ap (λ k. cell_with_piece o (take n piece) c ∷ cells_written k (drop n piece) cs) next
    ∙ ap (λ x. x ∷ cells_written 0 (drop n piece) cs) (with_piece-some o (take n piece) c fills)

-- the cell at a place takes its part, and the piece goes on at the next
pub written-step : (cells : List Cell) (k o n m next : ℕ) (piece : List ℕ) (d : Cell) → m ≡ 16 * k + o → next ≡ 16 * k + 16 → o < 16 → k < length cells → 0 < length piece
    → n ≡ min (16 - o) (length piece)
    → cells_written next (drop n piece) (set cells k (Bytes (overlaid o (take n piece) (bytes_of_cell (get_or cells k d))))) ≡ cells_written m piece cells
written-step [] k o n m next piece d at after low in' some count = absurd (omega arith)
written-step (c ∷ cs) zero o n m next piece d at after low in' some count =
    let here : m ≡ o = omega arith in
    let behind : next ≡ 16 + 0 = omega arith in
    written-past next 0 (drop n piece) (Bytes (overlaid o (take n piece) (bytes_of_cell c))) cs behind
    ∙ sym (ap (λ k. cells_written k piece (c ∷ cs)) here ∙ written-first o n piece c cs low some count)
written-step (c ∷ cs) (suc k) o n m next piece d at after low in' some count =
    let here : m ≡ 16 + (16 * k + o) = omega arith in
    let behind : next ≡ 16 + (16 * k + 16) = omega arith in
    written-past next (16 * k + 16) (drop n piece) c (set cs k (Bytes (overlaid o (take n piece) (bytes_of_cell (get_or cs k d))))) behind
    ∙ ap (λ l. c ∷ l) (written-step cs k o n (16 * k + o) (16 * k + 16) piece d refl refl low (omega arith) some count)
    ∙ sym (written-past m (16 * k + o) piece c cs here)

-- one turn of the write
pub written-more : (cells : List Cell) (k o n : ℕ) (rest front behind : List ℕ) (cell d : Cell) → o < 16 → k < length cells → 0 < length rest
    → n ≡ min (length rest) (16 - o) → front ≡ take n rest → behind ≡ drop n rest → cell ≡ Bytes (overlaid o front (bytes_of_cell (get_or cells k d)))
    → cells_written (16 * (k + 1) + 0) behind (set cells k cell) ≡ cells_written (16 * k + o) rest cells
written-more cells k o n rest front behind cell d low in' some count front_is behind_is cell_is =
    let next = 16 * (k + 1) + 0 in
    let held : cell ≡ Bytes (overlaid o (take n rest) (bytes_of_cell (get_or cells k d))) = cell_is ∙ ap (λ p. Bytes (overlaid o p (bytes_of_cell (get_or cells k d)))) front_is in
    ap (λ p. cells_written next p (set cells k cell)) behind_is ∙ ap (λ x. cells_written next (drop n rest) (set cells k x)) held
    ∙ written-step cells k o n (16 * k + o) next rest d refl (omega arith) low in' some (omega arith)
