-- What the numbers up to one have, in order.
use Rattle.std.proofs.Common.{◌≡◌, ℕ, zero, suc, ◌+◌, ◌-◌, ◌<◌, ◌≤◌, List, [], ◌++◌, refl, sym, ◌∙◌, ap, arith, append-nil}
use Rattle.s38_base.specs.declared.page.Change.{Change}
use Rattle.s38_page_diff.specs.reconcile.Replacing.{each_to}

pub each_next : (f : ℕ → List Change) (n : ℕ) → each_to f (suc n) ≡ each_to f n ++ f (suc n)
unfolding each_to
each_next f n = refl

pub each_none : (f : ℕ → List Change) → each_to f 0 ≡ []
unfolding each_to
each_none f = refl

-- a number that has nothing
pub each_empty : (f : ℕ → List Change) (n : ℕ) → f (suc n) ≡ [] → each_to f (suc n) ≡ each_to f n
each_empty f n none = each_next f n ∙ ap (λ (cs : List Change). each_to f n ++ cs) none ∙ append-nil (each_to f n)

skip_by : (f : ℕ → List Change) (done gap : ℕ) → ((n : ℕ) → done < n → n ≤ gap + done → f n ≡ []) → each_to f (gap + done) ≡ each_to f done
skip_by f done zero none =
    let same : zero + done ≡ done = omega arith in
    ap (each_to f) same
skip_by f done (suc gap) none =
    let next : suc gap + done ≡ suc (gap + done) = omega arith in
    ap (each_to f) next ∙ each_empty f (gap + done) (none (suc (gap + done)) (omega arith) (omega arith)) ∙ skip_by f done gap (λ n low high. none n low (omega arith))

-- numbers that have nothing
pub each_skip : (f : ℕ → List Change) (done upto : ℕ) → done ≤ upto → ((n : ℕ) → done < n → n ≤ upto → f n ≡ []) → each_to f upto ≡ each_to f done
each_skip f done upto low none =
    let sum : (upto - done) + done ≡ upto = omega arith in
    ap (each_to f) (sym sum) ∙ skip_by f done (upto - done) (λ n above below. none n above (omega arith))

-- a number after such
pub each_at : (f : ℕ → List Change) (done n : ℕ) → done < n → ((k : ℕ) → done < k → k < n → f k ≡ []) → each_to f n ≡ each_to f done ++ f n
each_at f done zero low none = absurd (omega arith)
each_at f done (suc n) low none =
    each_next f n ∙ ap (λ (cs : List Change). cs ++ f (suc n)) (each_skip f done n (omega arith) (λ k above below. none k above (omega arith)))
