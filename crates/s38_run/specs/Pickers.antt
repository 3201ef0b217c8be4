-- Pickers: what one answers, and how it goes on.
use Rattle.std.specs.Prelude.{ℕ, zero, suc, ◌+◌, ◌*◌, ◌/◌, ◌%◌, ◌^◌, List, [], ◌∷◌}

-- the first n answers from a state
abbrev pub picks_of : {S : Type 0} → (S → ℕ) → (S → S) → ℕ → S → List ℕ
picks_of answer after zero x = []
picks_of answer after (suc n) x = answer x ∷ picks_of answer after n (after x)

-- the state after n answers
abbrev pub after_picks : {S : Type 0} → (S → S) → ℕ → S → S
after_picks after zero x = x
after_picks after (suc n) x = after_picks after n (after x)

-- ---- by a number

abbrev pub number_after : ℕ → ℕ
number_after x = (x * 6364136223846793005 + 1442695040888963407) % 2 ^ 64

-- the upper 31 bits of the next state
abbrev pub number_answer : ℕ → ℕ
number_answer x = number_after x / 2 ^ 33

-- ---- by a list, and 0 after its end

abbrev pub list_answer : List ℕ → ℕ
list_answer [] = 0
list_answer (x ∷ xs) = x

abbrev pub list_after : List ℕ → List ℕ
list_after [] = []
list_after (x ∷ xs) = xs
