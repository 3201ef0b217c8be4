-- The last mark of a history, and the last entry.
use Rattle.std.proofs.Common.{◌≡◌, ◌∙◌, ℕ, suc, ◌+◌, ◌-◌, ◌≤◌, List, [], ◌∷◌, ◌++◌, length, take, refl, sym, ap, subst, arith}
use Rattle.std.proofs.lemmas.List.{length-append, take-append-le, take_all}
use Rattle.std.specs.Prelude.{slice_set}
use Rattle.s38_machine.specs.Log.{with_last}
use Rattle.s38_machine.specs.Stored.{stamped}
use Rattle.s38_rules.specs.step.Legal.{AreMoments, IsSound, Run}
use Rattle.s38_durable_machine.specs.Seen.{without_last}

count_more : {A : Type 0} (xs : List A) (x : A) → length (xs ++ x ∷ []) ≡ length xs + 1
count_more xs x = length-append xs (x ∷ [])

set_at_end : (marks : List ℕ) (old new : ℕ) → slice_set (marks ++ old ∷ []) (length marks) new ≡ marks ++ new ∷ []
set_at_end [] old new = refl
set_at_end (m ∷ marks) old new = ap (λ (ms : List ℕ). m ∷ ms) (set_at_end marks old new)

pub last_set : (marks : List ℕ) (old new : ℕ) → with_last new (marks ++ old ∷ []) ≡ marks ++ new ∷ []
last_set marks old new =
    let count = count_more marks old in
    let at : length (marks ++ old ∷ []) - 1 ≡ length marks = omega (arith, count) in
    ap (λ (k : ℕ). slice_set (marks ++ old ∷ []) k new) at ∙ set_at_end marks old new

pub last_left : {A : Type 0} (xs : List A) (x : A) → without_last (xs ++ x ∷ []) ≡ xs
last_left xs x =
    let count = count_more xs x in
    let at : length (xs ++ x ∷ []) - 1 ≡ length xs = omega (arith, count) in
    ap (λ (k : ℕ). take k (xs ++ x ∷ [])) at ∙ take-append-le (length xs) xs (x ∷ []) (omega arith) ∙ take_all (length xs) xs (omega arith)

-- ---- the moment of a store goes on

less_one : (n : ℕ) → suc n - 1 ≡ n
less_one n = omega arith

-- the last mark is another one
set_end : List ℕ → ℕ → List ℕ
set_end [] new = []
set_end (m ∷ []) new = new ∷ []
set_end (m ∷ k ∷ marks) new = m ∷ set_end (k ∷ marks) new

same_count : (marks : List ℕ) (new : ℕ) → length (set_end marks new) ≡ length marks
unfolding set_end
same_count [] new = refl
same_count (m ∷ []) new = refl
same_count (m ∷ k ∷ marks) new = ap suc (same_count (k ∷ marks) new)
