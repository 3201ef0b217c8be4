-- A set that knows a list knows it with one more name.
use Rattle.std.proofs.Common.{◌≡◌, ℕ, Bool, true, false, cond, ◌||◌, List, [], ◌∷◌, ◌++◌, sym, ap, ◌∙◌, refl}
use Rattle.std.proofs.lemmas.List.Folds.{list_any-append}
use Rattle.std.specs.BTreeMap.{is_at}
use Rattle.std.specs.BTreeSet.{BTreeSet, Updates}
use Rattle.std.specs.Cmp.Lexicographic.{slice_cmp, texts_ties}
use Rattle.std.specs.Ordering.{nat_cmp}
use Rattle.std.specs.Str.{bytes_eq}
use Rattle.s38_template.specs.Grammar.{has}
use Rattle.s38_template.specs.Known.{IsKnown}

or_swaps : (a b : Bool) → cond a true b ≡ (b || (a || false))
or_swaps true true = refl
or_swaps true false = refl
or_swaps false true = refl
or_swaps false false = refl

pub known_more : (old new : BTreeSet (List ℕ)) (names : List (List ℕ)) (name : List ℕ) → IsKnown old names → Updates (slice_cmp nat_cmp) old new name true → IsKnown new (names ++ name ∷ [])
known_more old new names name k u = record {
  same = λ q.
      u.0 q
      ∙ ap (λ b. cond (is_at (slice_cmp nat_cmp name) q) true b) (k.same q)
      ∙ ap (λ b. cond b true (has names q)) (sym (texts_ties name q))
      ∙ or_swaps (bytes_eq name q) (has names q)
      ∙ sym (list_any-append (λ n. bytes_eq n q) names (name ∷ []));
}
