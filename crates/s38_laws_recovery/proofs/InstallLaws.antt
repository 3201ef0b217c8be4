-- A store that was just installed can restart.
use Rattle.std.proofs.Common.{◌≡◌, ◌∙◌, ◌⊎◌, ◌==◌, ℕ, Bool, true, false, cond, inl, inr, [], ◌∷◌, Some, None, map, refl, sym, ap, subst, arith}
use Rattle.std.proofs.lemmas.Map.Keys.{IsStrictlyIncreasing-from_sorted}
use Rattle.std.specs.List.Sorted.{IsStrictlyIncreasing, IsStrictlySortedBy}
use Rattle.std.specs.Ordering.{nat_cmp}
use Rattle.s38_base.specs.Ids.{same_id}
use Rattle.s38_base.specs.Limits.{body_limit}
use Rattle.s38_checkpoint.specs.Closing.{closing}
use Rattle.s38_codec.specs.Codec.{copies, fits_each}
use Rattle.s38_durable_state.specs.Durable.{Durable, kept, whole_stored}
use Rattle.s38_image.specs.Fitting.{IsImage}
use Rattle.s38_image.specs.declared.stored.Stored.{Stored}
use Rattle.s38_restart.specs.Restarted.{number_in_stored}
use Rattle.s38_rules.specs.state.Opening as openings
use Rattle.s38_rules.specs.state.Opening.{held_installed, installed}
use Rattle.s38_laws_recovery.specs.Restarting.{AreNamedAlike, CanRestart, FitsAmong}
use Rattle.s38_laws_recovery.proofs.NumberLaws.{number_same}

abbrev d : Durable
d = closing [] held_installed

abbrev context : Stored
context = whole_stored [] held_installed openings.machine_context_object

abbrev user : Stored
user = whole_stored [] held_installed openings.officer_object

-- the two objects that it has
either : (n : ℕ) (x : Stored) → kept d.objects n ≡ Some x → ((n ≡ 1) × (x ≡ context)) ⊎ ((n ≡ 2) × (x ≡ user))
unfolding installed
either n x at = by (1 == n) refl (2 == n) refl at
  where
    by : (a : Bool) → (1 == n) ≡ a → (b : Bool) → (2 == n) ≡ b → cond a (Some context) (cond b (Some user) None) ≡ Some x → ((n ≡ 1) × (x ≡ context)) ⊎ ((n ≡ 2) × (x ≡ user))
    by true is b other e = inl (sym (number_same 1 n is), cc)
    by false is true other e = inr (sym (number_same 2 n other), cc)
    by false is false other e = absurd (let g : None ≡ Some x = e in cc)

context_image : IsImage body_limit context
unfolding copies fits_each
context_image = record { on_disk = refl; header = refl; within = refl; rows = refl; body = tt }

user_image : IsImage body_limit user
unfolding copies fits_each
user_image = record { on_disk = refl; header = refl; within = refl; rows = refl; body = refl }

-- they have different names
differ : same_id user.object.id context.object.id ≡ true → ⊥
unfolding same_id
differ is = let e : false ≡ true = is in cc

differ_back : same_id context.object.id user.object.id ≡ true → ⊥
unfolding same_id
differ_back is = let e : false ≡ true = is in cc

context_fits : FitsAmong d 1 context
unfolding installed
context_fits = record {
  first = omega arith;
  given = omega arith;
  owner = refl;
  home = λ at. refl;
  placed = omega arith;
  context = refl;
  apart = λ k y at alike. by k y (either k y at) alike;
  port = λ b own. cc;
  journal = λ p own. cc;
  counted = λ b j own to. cc;
}
  where
    by : (k : ℕ) (y : Stored) → ((k ≡ 1) × (y ≡ context)) ⊎ ((k ≡ 2) × (y ≡ user)) → AreNamedAlike d context y → k ≡ 1
    by k y (inl both) alike = both.0
    by k y (inr both) alike = absurd (differ (sym (ap (λ (z : Stored). same_id z.object.id context.object.id) both.1) ∙ alike.id))

user_fits : FitsAmong d 2 user
unfolding installed
user_fits = record {
  first = omega arith;
  given = omega arith;
  owner = refl;
  home = λ at. refl;
  placed = omega arith;
  context = refl;
  apart = λ k y at alike. by k y (either k y at) alike;
  port = λ b own. cc;
  journal = λ p own. cc;
  counted = λ b j own to. cc;
}
  where
    by : (k : ℕ) (y : Stored) → ((k ≡ 1) × (y ≡ context)) ⊎ ((k ≡ 2) × (y ≡ user)) → AreNamedAlike d user y → k ≡ 2
    by k y (inl both) alike = absurd (differ_back (sym (ap (λ (z : Stored). same_id z.object.id user.object.id) both.1) ∙ alike.id))
    by k y (inr both) alike = both.0

sorted : IsStrictlySortedBy nat_cmp (1 ∷ 2 ∷ [])
unfolding IsStrictlySortedBy
sorted = ((refl, tt), (tt, tt))

numbers_rise : IsStrictlyIncreasing (map number_in_stored d.objects)
unfolding installed
numbers_rise = IsStrictlyIncreasing-from_sorted (1 ∷ 2 ∷ []) sorted

pub installed_can : CanRestart d
unfolding installed
installed_can = record {
  images = λ n x at. image n x (either n x at);
  rising = numbers_rise;
  ceiling = omega arith;
  machine = refl;
  first_user = refl;
  each = λ n x at. fits n x (either n x at);
}
  where
    image : (n : ℕ) (x : Stored) → ((n ≡ 1) × (x ≡ context)) ⊎ ((n ≡ 2) × (x ≡ user)) → IsImage body_limit x
    image n x (inl both) = subst (IsImage body_limit) (sym both.1) context_image
    image n x (inr both) = subst (IsImage body_limit) (sym both.1) user_image

    fits : (n : ℕ) (x : Stored) → ((n ≡ 1) × (x ≡ context)) ⊎ ((n ≡ 2) × (x ≡ user)) → FitsAmong d n x
    fits n x (inl both) = subst (λ (k : ℕ). FitsAmong d k x) (sym both.0) (subst (FitsAmong d 1) (sym both.1) context_fits)
    fits n x (inr both) = subst (λ (k : ℕ). FitsAmong d k x) (sym both.0) (subst (FitsAmong d 2) (sym both.1) user_fits)
