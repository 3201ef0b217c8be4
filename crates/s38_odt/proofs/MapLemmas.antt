-- Maps from names: what a new name changes.
use Rattle.std.proofs.Common.{◌≡◌, ℕ, Bool, true, false, cond, List, Option, Some, None, refl, sym, ◌∙◌, ap}
use Rattle.std.proofs.lemmas.Slice.Eq.{bytes_eq-Decides}
use Rattle.std.specs.Ordering.{nat_cmp}
use Rattle.std.specs.Str.{bytes_eq}
use Rattle.std.specs.Cmp.Lexicographic.{slice_cmp}
use Rattle.std.specs.BTreeMap.{BTreeMap, get, Updates}
use Rattle.std.proofs.lemmas.Map.Text.{is_eq-slice_cmp}
use Rattle.s38_odt.specs.Labels.{EntersNew, with_label}

entered-new : (o : Option ℕ) (b : Bool) (n : ℕ) → (b ≡ true → o ≡ None) → cond b (Some n) o ≡ with_label o b n
entered-new None true n h = refl
entered-new None false n h = refl
entered-new (Some k) true n h = let e : Some k ≡ None = h refl in cc
entered-new (Some k) false n h = refl

-- a name that was not there goes in
pub EntersNew-insert : (m n : BTreeMap (List ℕ) ℕ) (name : List ℕ) (k : ℕ) →
    get (slice_cmp nat_cmp) m name ≡ None → Updates (slice_cmp nat_cmp) m n name (Some k) → EntersNew m n name k
EntersNew-insert m n name k absent updates = record {
  each = λ q.
      let at_new : bytes_eq name q ≡ true → get (slice_cmp nat_cmp) m q ≡ None =
      λ e. ap (λ x. get (slice_cmp nat_cmp) m x) (sym ((bytes_eq-Decides name q).0 e)) ∙ absent in
      updates.0 q
      ∙ (ap (λ b. cond b (Some k) (get (slice_cmp nat_cmp) m q)) (is_eq-slice_cmp name q)
      ∙ entered-new (get (slice_cmp nat_cmp) m q) (bytes_eq name q) k at_new);
}
