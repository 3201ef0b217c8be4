-- Numbers that are written into the bytes of a block.
use Rattle.std.proofs.Common.{◌≡◌, ◌⊎◌, ℕ, ◌+◌, ◌*◌, ◌^◌, ◌<◌, ◌≤◌, List, [], ◌∷◌, get_or, slice_set, length, sym, ◌∙◌, ap, arith, inl, ⊎_elim}
use Rattle.std.proofs.lemmas.Bool.{cases_lt}
use Rattle.std.proofs.lemmas.List.{get_or-set_same, get_or-set_other}
use Rattle.std.proofs.lemmas.Nat.{from_be_bytes-to_be_bytes_4}
use Rattle.std.specs.Int.{w32, from_be_bytes, to_be_bytes}
use Rattle.std.proofs.Math.ListN.{length-set}
use Rattle.s38_redo_log.specs.Coding.{number_in_bytes}

other : (bs : List ℕ) (at i x : ℕ) → (i ≡ at → ⊥) → get_or (slice_set bs at x) i 0 ≡ get_or bs i 0
other bs at i x e = get_or-set_other bs at i x 0 e

here : (bs : List ℕ) (at x : ℕ) → at < length bs → get_or (slice_set bs at x) at 0 ≡ x
here bs at x le = get_or-set_same bs at x 0 le

pub word_set : (bs : List ℕ) (at a b c d : ℕ) → at + 4 ≤ length bs
    → number_in_bytes (slice_set (slice_set (slice_set (slice_set bs at a) (at + 1) b) (at + 2) c) (at + 3) d) at ≡ from_be_bytes w32 (a ∷ b ∷ c ∷ d ∷ [])
unfolding number_in_bytes
word_set bs at a b c d le =
    let one = slice_set bs at a in
    let two = slice_set one (at + 1) b in
    let three = slice_set two (at + 2) c in
    let l1 = length-set bs at a in
    let l2 = length-set one (at + 1) b in
    let l3 = length-set two (at + 2) c in
    let first = other three (at + 3) at d (λ e. omega arith) ∙ other two (at + 2) at c (λ e. omega arith) ∙ other one (at + 1) at b (λ e. omega arith) ∙ here bs at a (omega arith) in
    let second = other three (at + 3) (at + 1) d (λ e. omega arith) ∙ other two (at + 2) (at + 1) c (λ e. omega arith) ∙ here one (at + 1) b (omega arith) in
    let third = other three (at + 3) (at + 2) d (λ e. omega arith) ∙ here two (at + 2) c (omega arith) in
    let fourth = here three (at + 3) d (omega arith) in
    λ i. from_be_bytes w32 (first i ∷ second i ∷ third i ∷ fourth i ∷ [])

-- a number depends on its own four bytes
pub word_same : (bs cs : List ℕ) (at : ℕ) → ((i : ℕ) → at ≤ i → i < at + 4 → get_or cs i 0 ≡ get_or bs i 0) → number_in_bytes cs at ≡ number_in_bytes bs at
unfolding number_in_bytes
word_same bs cs at same =
    let first = same at (omega arith) (omega arith) in
    let second = same (at + 1) (omega arith) (omega arith) in
    let third = same (at + 2) (omega arith) (omega arith) in
    let fourth = same (at + 3) (omega arith) (omega arith) in
    λ i. from_be_bytes w32 (first i ∷ second i ∷ third i ∷ fourth i ∷ [])

-- the four bytes of a number are that number
pub word_bytes : (bytes : List ℕ) (n : ℕ) → n < 2 ^ 32 → bytes ≡ to_be_bytes w32 n → from_be_bytes w32 (get_or bytes 0 0 ∷ get_or bytes 1 0 ∷ get_or bytes 2 0 ∷ get_or bytes 3 0 ∷ []) ≡ n
word_bytes bytes n le is = ap (λ (bs : List ℕ). from_be_bytes w32 (get_or bs 0 0 ∷ get_or bs 1 0 ∷ get_or bs 2 0 ∷ get_or bs 3 0 ∷ [])) is ∙ from_be_bytes-to_be_bytes_4 n le

-- one more number of a block
pub words_more : (bs cs : List ℕ) (j : ℕ) (number : ℕ → ℕ) → ((k : ℕ) → k < j → number_in_bytes bs (4 * k) ≡ number k) → number_in_bytes cs (4 * j) ≡ number j
    → ((i : ℕ) → (i < 4 * j) ⊎ (4 * j + 4 ≤ i) → get_or cs i 0 ≡ get_or bs i 0) → (k : ℕ) → k < j + 1 → number_in_bytes cs (4 * k) ≡ number k
words_more bs cs j number old new rest k le = ⊎_elim before here_now (cases_lt k j)
  where
    before : k < j → number_in_bytes cs (4 * k) ≡ number k
    before lt = word_same bs cs (4 * k) (λ i low high. rest i (inl (omega arith))) ∙ old k lt

    here_now : j ≤ k → number_in_bytes cs (4 * k) ≡ number k
    here_now ge = let e : k ≡ j = omega arith in ap (λ n. number_in_bytes cs (4 * n)) e ∙ new ∙ ap number (sym e)
