-- One call after another: what a crash leaves of both, and what both changed.
use Rattle.std.proofs.Common.{◌≡◌, ◌↔◌, ℕ, ◌<◌, ◌≤◌, Bool, true, false, List, ◌++◌, refl, sym, ◌∙◌, ap, subst, arith}
use Rattle.std.proofs.lemmas.Bool.Decides.{nat_tests}
use Rattle.std.specs.Prelude.{nat_le}
use Rattle.s38_base.specs.declared.page.Change.{Change}
use Rattle.s38_page_diff.specs.Puts.{IsAfterPuts}
use Rattle.s38_page_diff.specs.reconcile.Walking.{Stays}
use Rattle.s38_page_diff.proofs.reconcile.PlacedLaws.{changed-append}
use Rattle.s38_vault.specs.Content.{Content, changed}
use Rattle.s38_vault.specs.Vaults.{VaultView}

at_most : (a b : ℕ) → nat_le a b ≡ true → a ≤ b
at_most a b e = grind (arith, nat_tests)

beyond : (a b : ℕ) → nat_le a b ≡ false → b < a
beyond a b e = grind (arith, nat_tests)

module _ {V : Type 0} (leaves : V → ℕ → Content → Type 0) (P : Content → Type 0) (mid new : V) (begun between ended : ℕ) where
  pub during_both : ((t : ℕ) (x : Content) → begun < t → t ≤ between → leaves mid t x → P x) → ((t : ℕ) (x : Content) → t ≤ between → leaves mid t x ↔ leaves new t x)
      → ((t : ℕ) (x : Content) → between < t → t ≤ ended → leaves new t x → P x) → (t : ℕ) (x : Content) → begun < t → t ≤ ended → leaves new t x → P x
  during_both first past last t x low high left = by (nat_le t between) refl
    where
      by : (b : Bool) → nat_le t between ≡ b → P x
      by true e = first t x low (at_most t between e) ((past t x (at_most t between e)).1 left)
      by false e = last t x (beyond t between e) high left

-- two calls made changes, one after the other
pub made_both : (n x between : Content) (made own all put : List Change) → all ≡ made ++ own → put ≡ own → between ≡ changed n made → x ≡ changed between put → x ≡ changed n all
made_both n x between made own all put parted is first last =
    last ∙ (λ i. changed (first i) (is i)) ∙ sym (changed-append n made own) ∙ ap (changed n) (sym parted)

-- ---- a call that only reads, and then puts

module _ {V : Type 0} (view : V → VaultView) (holds : V → Content → Type 0) (leaves : V → ℕ → Content → Type 0) (begun read mid : V) (stays : Stays view holds leaves begun read) (P : Content → Type 0) (most : ℕ) (n : Content)
    (front taken : List Change) (is : taken ≡ front) (same : (view begun).shape.most ≡ most) (of_front : (x : Content) → IsAfterPuts most n front x → P x)
    (during : (t : ℕ) (x : Content) → (view read).moment < t → t ≤ (view mid).moment → leaves mid t x → IsAfterPuts (view read).shape.most n taken x) where
  pub front_left : (t : ℕ) (x : Content) → (view begun).moment < t → t ≤ (view mid).moment → leaves mid t x → P x
  front_left t x low high left =
      of_front x (subst (λ (cs : List Change). IsAfterPuts most n cs x) is (subst (λ (k : ℕ). IsAfterPuts k n taken x) (ap (λ (v : VaultView). v.shape.most) stays.same ∙ same)
      (during t x (subst (λ (v : VaultView). v.moment < t) (sym stays.same) low) high left)))

  -- since an earlier moment
  pub front_left_since : (since : ℕ) → ((t : ℕ) (x : Content) → since < t → t ≤ (view begun).moment → leaves begun t x → P x) → ((t : ℕ) (x : Content) → t ≤ (view read).moment → leaves read t x ↔ leaves mid t x)
      → (t : ℕ) (x : Content) → since < t → t ≤ (view mid).moment → leaves mid t x → P x
  front_left_since since before past = during_both leaves P begun mid since (view begun).moment (view mid).moment before past_both front_left
    where
      past_both : (t : ℕ) (x : Content) → t ≤ (view begun).moment → leaves begun t x ↔ leaves mid t x
      past_both t x low =
          let one = stays.past t x low in
          let two = past t x (subst (λ (v : VaultView). t ≤ v.moment) (sym stays.same) low) in
          ((λ left. two.0 (one.0 left)), (λ left. one.1 (two.1 left)))

-- ---- puts of the other changes

pub others_left : {V : Type 0} (view : V → VaultView) (leaves : V → ℕ → Content → Type 0) (mid new : V) (P : Content → Type 0) (most since : ℕ) (between : Content) (own put : List Change)
    → ((t : ℕ) (x : Content) → since < t → t ≤ (view mid).moment → leaves mid t x → P x) → put ≡ own → (view mid).shape.most ≡ most → ((x : Content) → IsAfterPuts most between own x → P x)
    → ((t : ℕ) (x : Content) → t ≤ (view mid).moment → leaves mid t x ↔ leaves new t x)
    → ((t : ℕ) (x : Content) → (view mid).moment < t → t ≤ (view new).moment → leaves new t x → IsAfterPuts (view mid).shape.most between put x)
    → (t : ℕ) (x : Content) → since < t → t ≤ (view new).moment → leaves new t x → P x
others_left view leaves mid new P most since between own put first is same of_own past during =
    during_both leaves P mid new since (view mid).moment (view new).moment first past
    (λ t x low high left. of_own x (subst (λ (k : ℕ). IsAfterPuts k between own x) same (subst (λ (cs : List Change). IsAfterPuts (view mid).shape.most between cs x) is (during t x low high left))))
