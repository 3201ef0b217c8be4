-- A write of bytes, cell by cell, is one over all the bytes.
use Rattle.std.proofs.Common.{◌≡◌, ℕ, zero, suc, ◌+◌, ◌-◌, ◌*◌, ◌<◌, ◌≤◌, inl, inr, List, [], ◌∷◌, ◌++◌, length, get_or, take, drop, All, sym, ap, ◌∙◌, subst, refl, arith, length-append, append_assoc, append-nil, add-zero}
use Rattle.std.proofs.lemmas.Bool.{cases_lt}
use Rattle.std.proofs.lemmas.List.{take_all, drop_all, take-append-drop, take-append-le, drop-append-le, length-take, length-drop}
use Rattle.std.proofs.lemmas.List.Elements.{All-head, All-tail}
use Rattle.std.proofs.Math.Seq.{take-append-add, drop-append-add}
use Rattle.s38_memory.specs.declared.cell.Cell.{Cell}
use Rattle.s38_memory.specs.Cell.{IsCell, bytes_of_cell}
use Rattle.s38_memory.specs.Tagged.{IsBytes, IsWritten, Touches, bytes_in, cell_with_piece, cells_written, overlaid}
use Rattle.s38_memory.proofs.Cells.{length-bytes_of}

-- after the first list
overlaid-behind : (k : ℕ) (p b r : List ℕ) → b ++ overlaid k p r ≡ overlaid (length b + k) p (b ++ r)
overlaid-behind k p b r =
    let front : take (length b + k) (b ++ r) ≡ b ++ take k r = take-append-add b r k in
    let place : length b + k + length p ≡ length b + (k + length p) = omega arith in
    let back : drop (length b + k + length p) (b ++ r) ≡ drop (k + length p) r = ap (λ n. drop n (b ++ r)) place ∙ drop-append-add b r (k + length p) in
    sym (append_assoc b (take k r) (p ++ drop (k + length p) r)) ∙ sym (ap (λ l. l ++ (p ++ drop (k + length p) r)) front)
    ∙ sym (ap (λ l. take (length b + k) (b ++ r) ++ (p ++ l)) back)

-- within the first list
overlaid-within : (at : ℕ) (p b r : List ℕ) → at + length p ≤ length b → overlaid at p b ++ r ≡ overlaid at p (b ++ r)
overlaid-within at p b r fits =
    let front : take at (b ++ r) ≡ take at b = take-append-le at b r (omega arith) in
    let back : drop (at + length p) (b ++ r) ≡ drop (at + length p) b ++ r = drop-append-le (at + length p) b r fits in
    append_assoc (take at b) (p ++ drop (at + length p) b) r ∙ ap (λ l. take at b ++ l) (append_assoc p (drop (at + length p) b) r)
    ∙ sym (ap (λ l. l ++ (p ++ (drop (at + length p) b ++ r))) front) ∙ sym (ap (λ l. take at (b ++ r) ++ (p ++ l)) back)

-- over the end of the first list
overlaid-across : (at : ℕ) (p q b r : List ℕ) → at + length p ≡ length b → overlaid at p b ++ overlaid 0 q r ≡ overlaid at (p ++ q) (b ++ r)
overlaid-across at p q b r meets =
    let front : take at (b ++ r) ≡ take at b = take-append-le at b r (omega arith) in
    let none : drop (at + length p) b ≡ [] = drop_all (at + length p) b (omega arith) in
    let place : at + length (p ++ q) ≡ length b + (0 + length q) = omega (arith, length-append p q) in
    let back : drop (at + length (p ++ q)) (b ++ r) ≡ drop (0 + length q) r = ap (λ n. drop n (b ++ r)) place ∙ drop-append-add b r (0 + length q) in
    ap (λ l. (take at b ++ (p ++ l)) ++ (q ++ drop (0 + length q) r)) none
    ∙ ap (λ l. (take at b ++ l) ++ (q ++ drop (0 + length q) r)) (append-nil p)
    ∙ append_assoc (take at b) p (q ++ drop (0 + length q) r)
    ∙ ap (λ l. take at b ++ l) (sym (append_assoc p q (drop (0 + length q) r)))
    ∙ sym (ap (λ l. l ++ ((p ++ q) ++ drop (0 + length q) r)) front) ∙ sym (ap (λ l. take at (b ++ r) ++ ((p ++ q) ++ l)) back)

overlaid-nil : (at : ℕ) (b : List ℕ) → overlaid at [] b ≡ b
overlaid-nil at b = ap (λ n. take at b ++ drop n b) (add-zero at) ∙ take-append-drop at b

-- a piece over two lists: what falls into the first, and the rest
abbrev Splits : ℕ → List ℕ → List ℕ → List ℕ → List ℕ → Type 0
Splits at front rest b r = overlaid at front b ++ overlaid (at - 16) rest r ≡ overlaid at (front ++ rest) (b ++ r)

split-behind : (at : ℕ) (p b r : List ℕ) → length b ≡ 16 → 16 ≤ at → Splits at [] p b r
split-behind at p b r whole far =
    let place : length b + (at - 16) ≡ at = omega arith in
    ap (λ l. l ++ overlaid (at - 16) p r) (overlaid-nil at b) ∙ overlaid-behind (at - 16) p b r ∙ ap (λ n. overlaid n p (b ++ r)) place

split-within : (at : ℕ) (p b r : List ℕ) → length b ≡ 16 → at < 16 → at + length p ≤ 16 → Splits at p [] b r
split-within at p b r whole near fits =
    ap (λ l. overlaid at p b ++ l) (overlaid-nil (at - 16) r) ∙ overlaid-within at p b r (omega arith) ∙ sym (ap (λ l. overlaid at l (b ++ r)) (append-nil p))

split-across : (at : ℕ) (p q b r : List ℕ) → length b ≡ 16 → at < 16 → at + length p ≡ 16 → Splits at p q b r
split-across at p q b r whole near meets =
    let next : at - 16 ≡ 0 = omega arith in
    ap (λ n. overlaid at p b ++ overlaid n q r) next ∙ overlaid-across at p q b r (omega arith)

-- the same with the parts as a write takes them
Splits-write : (at : ℕ) (p b r : List ℕ) → length b ≡ 16 → Splits at (take (16 - at) p) (drop (16 - at) p) b r
Splits-write at p b r whole =
    elim (cases_lt at 16) [
      | inl near ↦
          (elim (cases_lt 16 (at + length p)) [
            | inl over ↦ split-across at (take (16 - at) p) (drop (16 - at) p) b r whole near (omega (arith, length-take (16 - at) p))
            | inr fits ↦
                (let all : take (16 - at) p ≡ p = take_all (16 - at) p (omega arith) in
                let none : drop (16 - at) p ≡ [] = drop_all (16 - at) p (omega arith) in
                subst (λ (l : List ℕ). Splits at l (drop (16 - at) p) b r) (sym all) (subst (λ (l : List ℕ). Splits at p l b r) (sym none) (split-within at p b r whole near fits)))
          ])
      | inr far ↦
          (let none : 16 - at ≡ 0 = omega arith in
          subst (λ (n : ℕ). Splits at (take n p) (drop n p) b r) (sym none) (split-behind at p b r whole far))
    ]

bytes_of-with_piece : (at : ℕ) (piece : List ℕ) (c : Cell) → bytes_of_cell (cell_with_piece at piece c) ≡ overlaid at piece (bytes_of_cell c)
bytes_of-with_piece at [] c = sym (overlaid-nil at (bytes_of_cell c))
bytes_of-with_piece at (b ∷ bs) c = refl

pub bytes_in-written : (at : ℕ) (piece : List ℕ) (cells : List Cell) → All IsCell cells → at + length piece ≤ 16 * length cells
    → bytes_in (cells_written at piece cells) ≡ overlaid at piece (bytes_in cells)
bytes_in-written at [] [] all room = sym (overlaid-nil at [])
bytes_in-written at (b ∷ bs) [] all room = absurd (omega arith)
bytes_in-written at piece (c ∷ cs) all room =
    let front = take (16 - at) piece in
    let rest = drop (16 - at) piece in
    let whole = length-bytes_of c (All-head IsCell c cs all) in
    let behind : bytes_in (cells_written (at - 16) rest cs) ≡ overlaid (at - 16) rest (bytes_in cs) =
    bytes_in-written (at - 16) rest cs (All-tail IsCell c cs all) (omega (arith, length-drop (16 - at) piece)) in
    ap (λ l. l ++ bytes_in (cells_written (at - 16) rest cs)) (bytes_of-with_piece at front c) ∙ ap (λ l. overlaid at front (bytes_of_cell c) ++ l) behind
    ∙ Splits-write at piece (bytes_of_cell c) (bytes_in cs) whole
    ∙ ap (λ l. overlaid at l (bytes_of_cell c ++ bytes_in cs)) (take-append-drop (16 - at) piece)

IsBytes-with_piece : (at : ℕ) (piece : List ℕ) (c : Cell) → 0 < length piece → IsBytes (cell_with_piece at piece c)
IsBytes-with_piece at [] c some = absurd (omega arith)
IsBytes-with_piece at (b ∷ bs) c some = tt

with_piece-none : (at : ℕ) (piece : List ℕ) (c : Cell) → length piece ≤ 0 → cell_with_piece at piece c ≡ c
with_piece-none at [] c none = refl
with_piece-none at (b ∷ bs) c none = absurd (omega arith)

pub written-touched : (at : ℕ) (piece : List ℕ) (cells : List Cell) (k : ℕ) (d : Cell) → k < length cells → Touches at (length piece) k
    → IsBytes (get_or (cells_written at piece cells) k d)
written-touched at piece [] k d below t = absurd (omega arith)
written-touched at piece (c ∷ cs) zero d below t =
    IsBytes-with_piece at (take (16 - at) piece) c (omega (arith, length-take (16 - at) piece, t.0, t.1, t.2))
written-touched at piece (c ∷ cs) (suc k) d below t =
    let size = length-drop (16 - at) piece in
    written-touched (at - 16) (drop (16 - at) piece) cs k d (omega arith) (omega (arith, size, t.0), omega (arith, size, t.1), omega (arith, size, t.1))

pub written-others : (at : ℕ) (piece : List ℕ) (cells : List Cell) (k : ℕ) (d : Cell) → ¬ Touches at (length piece) k
    → get_or (cells_written at piece cells) k d ≡ get_or cells k d
written-others at piece [] k d far = refl
written-others at piece (c ∷ cs) zero d far =
    let size = length-take (16 - at) piece in
    elim (cases_lt 0 (length (take (16 - at) piece))) [
      | inl some ↦ absurd (far (omega (arith, size), omega (arith, size), omega (arith, size)))
      | inr none ↦ with_piece-none at (take (16 - at) piece) c none
    ]
written-others at piece (c ∷ cs) (suc k) d far =
    let size = length-drop (16 - at) piece in
    written-others (at - 16) (drop (16 - at) piece) cs k d (λ t. far (omega (arith, size, t.0), omega (arith, size, t.1), omega (arith, size, t.2)))

-- the meaning of a write
pub IsWritten-written : (at : ℕ) (piece : List ℕ) (cells new : List Cell) → All IsCell cells → at + length piece ≤ 16 * length cells → new ≡ cells_written at piece cells
    → IsWritten at piece cells new
IsWritten-written at piece cells new all room same =
    subst (λ (l : List Cell). IsWritten at piece cells l) (sym same)
    (record { bytes = bytes_in-written at piece cells all room; touched = written-touched at piece cells; others = written-others at piece cells })
