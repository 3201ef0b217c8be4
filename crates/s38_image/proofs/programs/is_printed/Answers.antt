use Rattle.std.proofs.Common.{◌≡◌, ℕ, List, [], ◌∷◌, Bool, eqb, refl, ap, ◌∙◌}
use Rattle.std.specs.Prelude.{◌&&◌}
use Rattle.std.specs.Cmp.Lexicographic.{pointwise}
use Rattle.s38_image.specs.Pages.{same_list}
use Rattle.s38_image.proofs.programs.is_printed.Goals as goal

same_pointwise : (xs ys : List ℕ) → pointwise eqb xs ys ≡ same_list xs ys
unfolding same_list
same_pointwise [] [] = refl
same_pointwise [] (y ∷ ys) = refl
same_pointwise (x ∷ xs) [] = refl
same_pointwise (x ∷ xs) (y ∷ ys) = ap (λ (b : Bool). eqb x y && b) (same_pointwise xs ys)

pub returns-clause-ok : goal.returns-clause-ok
returns-clause-ok c =
    c.eq.ensures ∙ same_pointwise c.as_slice.result.now c.args.text.now ∙ ap (λ (p : List ℕ). same_list p c.args.text.now) (c.as_slice.ensures.value ∙ c.in_ok-printed.ensures)
