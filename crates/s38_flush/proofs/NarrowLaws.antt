-- What differs of an object whose body stays.
use Rattle.std.proofs.Common.{◌≡◌, ◌-◌, ◌<◌, ◌≤◌, ◌∙◌, ◌++◌, [], List, ap, arith, append-nil, refl, subst, sym, ℕ}
use Rattle.std.specs.Prelude.{Option}
use Rattle.s38_base.specs.declared.page.Change.{Change}
use Rattle.s38_base.specs.declared.page.Key.{Key}
use Rattle.s38_base.specs.declared.page.Page.{Page}
use Rattle.s38_page_diff.proofs.DifferenceLaws.{same_differences, split}
use Rattle.s38_page_diff.proofs.LookLaws.{nothing_differs}
use Rattle.s38_page_diff.proofs.WalkLaws.{key_at}
use Rattle.s38_page_diff.proofs.WantedLaws.{inside}
use Rattle.s38_page_diff.specs.Differences.{differences, differences_from, wanted_at}
use Rattle.s38_page_diff.specs.declared.range.PartRange.{PartRange}

abbrev range_to : ℕ → ℕ → PartRange
range_to n end = record { object = n; first = 0; end = end }

-- where the parts from one on are there as they are wanted, only those before it differ
pub narrowed : (pages : Key → Option Page) (n middle end : ℕ) (wanted front : List Change) → middle ≤ end
    → ((p : ℕ) → p < middle → wanted_at wanted (key_at n p) ≡ wanted_at front (key_at n p))
    → ((p : ℕ) → middle ≤ p → p < end → pages (key_at n p) ≡ wanted_at wanted (key_at n p))
    → differences pages (range_to n end) wanted ≡ differences pages (range_to n middle) front
narrowed pages n middle end wanted front low alike stands =
    let whole : end - 0 ≡ end = omega arith in
    let first : middle ≡ middle - 0 = omega arith in
    let rest : PartRange = record { object = n; first = middle; end = end } in
    let pieces : differences_from pages wanted n 0 (end - 0) ≡ differences_from pages wanted n 0 middle ++ differences_from pages wanted n middle (end - middle) =
    split pages wanted n middle (end - middle) 0 (end - 0) middle (omega (arith, low)) (omega arith) in
    let none : differences_from pages wanted n middle (end - middle) ≡ [] =
    nothing_differs pages rest wanted (λ key within.
    let here = inside rest key within in
    let same : key_at n key.part ≡ key = ap (λ (k : ℕ). key_at k key.part) (sym here.object) in
    subst (λ (k : Key). pages k ≡ wanted_at wanted k) same (stands key.part here.from here.before)) in
    pieces ∙ ap (λ (cs : List Change). differences_from pages wanted n 0 middle ++ cs) none
    ∙ append-nil (differences_from pages wanted n 0 middle)
    ∙ same_differences pages pages wanted front n middle 0 (λ p from high. refl) (λ p from high. alike p (omega (arith, high)))
    ∙ ap (λ (k : ℕ). differences_from pages front n 0 k) first
