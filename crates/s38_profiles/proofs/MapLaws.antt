-- What is found in the maps after one key was set.
use Rattle.std.proofs.Common.{◌≡◌, ℕ, ◌==◌, Bool, true, false, cond, refl, ◌∙◌, ap, arith}
use Rattle.std.proofs.lemmas.Bool.Decides.{nat_tests}
use Rattle.std.specs.declared.cmp.Ordering.{Ordering}
use Rattle.std.specs.declared.cmp.Ordering.TheVariants.{Less, Equal, Greater}
use Rattle.std.specs.Prelude.{◌&&◌, Option, Some, None}
use Rattle.std.specs.Ordering.{is_eq, nat_cmp, ordering_then}
use Rattle.std.specs.BTreeMap.{BTreeMap, get, is_at}
use Rattle.s38_base.specs.declared.rights.Rights.{Rights}
use Rattle.s38_profiles.specs.declared.profile.Profile.{Profile}
use Rattle.s38_profiles.specs.declared.profile.RowKey.{RowKey}
use Rattle.s38_profiles.specs.Rows.{SetsRow, row_cmp, row_key, row_with}
use Rattle.s38_profiles.specs.Users.{SetsUser}

nat_ties : (a b : ℕ) → is_eq (nat_cmp a b) ≡ (a == b)
nat_ties a b = grind (arith, nat_tests)

both_equal : (a b : Ordering) → is_eq (ordering_then a b) ≡ (is_eq a && is_eq b)
both_equal Less b = refl
both_equal Equal b = refl
both_equal Greater b = refl

key_same : (key : RowKey) (user object : ℕ) → is_at (row_cmp key) (row_key user object) ≡ ((key.user == user) && (key.object == object))
key_same key user object = rw (both_equal, nat_ties key.user user, nat_ties key.object object) refl

pub user_set : (old new : BTreeMap ℕ Profile) (user : ℕ) (written profile : Option Profile) → ((other : ℕ) → get nat_cmp new other ≡ cond (is_at (nat_cmp user) other) written (get nat_cmp old other)) → written ≡ profile → SetsUser old.entries user profile new.entries
user_set old new user written profile h e other =
    h other ∙ ap (λ (b : Bool). cond b written (get nat_cmp old other)) (nat_ties user other)
    ∙ ap (λ (w : Option Profile). cond (user == other) w (get nat_cmp old other)) e

pub row_set : (old new : BTreeMap RowKey Rights) (key : RowKey) (written row : Option Rights) → ((other : RowKey) → get row_cmp new other ≡ cond (is_at (row_cmp key) other) written (get row_cmp old other)) → written ≡ row → SetsRow old.entries key row new.entries
row_set old new key written row h e user object =
    let other = row_key user object in
    h other ∙ ap (λ (b : Bool). cond b written (get row_cmp old other)) (key_same key user object)
    ∙ ap (λ (w : Option Rights). cond ((key.user == user) && (key.object == object)) w (get row_cmp old other)) e

no_number : (n : ℕ) → (n == 0) ≡ true → n ≡ 0
no_number n e = grind (arith, nat_tests)

pub row_made : (rights : Rights) → (rights.0 ≡ 0 → ⊥) → Some rights ≡ row_with rights
row_made rights some = elim (rights.0 == 0) as (λ b. (rights.0 == 0) ≡ b → Some rights ≡ cond b None (Some rights)) [
  | true ↦ λ e. absurd (some (no_number rights.0 e))
  | false ↦ λ e. refl
] refl
