-- Once the first objects were ensured at the end of a run, what is durable can restart, and so can a content that
-- represents it.
use Rattle.std.proofs.Common.{◌≡◌, ◌∙◌, ◌≤◌, ℕ, Bool, true, false, cond, List, [], ◌∷◌, ◌++◌, Option, Some, None, map, refl, sym, ap, subst, arith}
use Rattle.std.proofs.lemmas.Map.Keys.{sorted_from_strictly_increasing}
use Rattle.std.specs.List.{AllByRecursion}
use Rattle.std.specs.List.Sorted.{IsStrictlyIncreasing}
use Rattle.std.specs.Option.{option_map}
use Rattle.std.specs.Prelude.{filter_map, is_some}
use Rattle.s38_base.specs.Limits.{body_limit}
use Rattle.s38_laws_checkpoint.proofs.prefix.CloseLaws.{ensured_by}
use Rattle.s38_laws_checkpoint.proofs.prefix.EnsureLaws.{AreEnsured, FollowingLaw}
use Rattle.s38_laws_checkpoint.proofs.prefix.MarkLaws.{marked, marked_numbers}
use Rattle.s38_checkpoint.specs.Closing.{closing}
use Rattle.s38_checkpoint.specs.Ensuring.{is_ensured}
use Rattle.s38_checkpoint.specs.Passing.{last_object_number}
use Rattle.s38_durable_state.specs.Durable.{Durable, closed, kept, whole_stored}
use Rattle.s38_durable_state.specs.Following.{NumbersRise, header_kept, image_header_in, object_number}
use Rattle.s38_durable_state.specs.Represents.{Represents}
use Rattle.s38_image.specs.Fitting.{IsImage}
use Rattle.s38_image.specs.declared.stored.Stored.{Stored}
use Rattle.s38_laws_flush.specs.durable.Kept.{AreImages, HasParts, IsKeptOf}
use Rattle.s38_laws_flush.specs.puts.Trails.{IsTrailOf}
use Rattle.s38_restart.specs.Restarted.{number_in_stored}
use Rattle.s38_rules.proofs.ChargeLaws.{found_number}
use Rattle.s38_rules.specs.state.Held.{Held, object}
use Rattle.s38_rules.specs.state.State.{State}
use Rattle.s38_rules.specs.declared.object.Object.{Object}
use Rattle.s38_laws_state.specs.Order.{AreInOrder}
use Rattle.s38_vault.specs.Content.{Content}
use Rattle.s38_laws_recovery.specs.Ending.{IsWithJournals, mixed}
use Rattle.s38_laws_recovery.specs.Restartable.{IsRestartable}
use Rattle.s38_laws_recovery.specs.Restarting.{CanRestart}
use Rattle.s38_laws_recovery.specs.Restarts.{RestartsTo, next_restarted}
use Rattle.s38_laws_recovery.proofs.KeptAfterLaws.{rising_after}
use Rattle.s38_laws_recovery.proofs.EndLaws.{closing_found, with_journals}
use Rattle.s38_laws_recovery.proofs.MixLaws.{found, mixed_at, mixed_can, mixed_rises}
use Rattle.s38_laws_recovery.proofs.NumberLaws.{IsKeptIn, each_kept, kept_has, same_numbers}
use Rattle.s38_laws_recovery.proofs.RestartLaws.{all_pages, restarts_there}

-- ---- what is kept in the order of its numbers

from_numbers : (xs ys : List Stored) → AllByRecursion (IsKeptIn xs) ys → filter_map (kept xs) (map number_in_stored ys) ≡ ys
from_numbers xs [] each = refl
from_numbers xs (y ∷ ys) each = rw each.0 (ap (λ (zs : List Stored). y ∷ zs) (from_numbers xs ys each.1))

-- what is kept in order of number is the same where the same is kept under each
same_kept : (xs ys : List Stored) → IsStrictlyIncreasing (map number_in_stored xs) → IsStrictlyIncreasing (map number_in_stored ys) → ((n : ℕ) → kept xs n ≡ kept ys n) → xs ≡ ys
same_kept xs ys ox oy same =
    let sx = sorted_from_strictly_increasing (map number_in_stored xs) ox in
    let sy = sorted_from_strictly_increasing (map number_in_stored ys) oy in
    let numbers : map number_in_stored xs ≡ map number_in_stored ys = same_numbers (map number_in_stored xs) (map number_in_stored ys) sx sy (λ n. kept_has n xs ∙ ap is_some (same n) ∙ sym (kept_has n ys)) in
    sym (from_numbers xs xs (each_kept xs sx))
    ∙ ap (filter_map (kept xs)) numbers
    ∙ (λ i. filter_map (λ n. same n i) (map number_in_stored ys))
    ∙ from_numbers ys ys (each_kept ys sy)

-- ---- what is durable once the first objects were ensured

module _ (s : State) (d : Durable) (is : IsKeptOf s d) (trail : IsTrailOf s d) (order : AreInOrder s) (ready : IsRestartable s d) (gone rest : List Object) (all : s.held.objects ≡ gone ++ rest) where
  abbrev h : Held
  h = s.held

  abbrev new : Durable
  new = mixed (is_ensured h gone) s.units h d

  with_them : IsWithJournals (is_ensured h gone) h
  with_them = with_journals h ready.ready (record { none = is.numbered.none; next = is.numbered.first }) gone rest all

  at_new : (k : ℕ) → kept new.objects k ≡ mixed_at (is_ensured h gone) s.units h d.objects (object h k)
  at_new k = found s d is trail ready (is_ensured h gone) with_them k

  -- nothing is kept where nothing is
  none_kept : (k : ℕ) → object h k ≡ None → kept d.objects k ≡ None
  none_kept k at = by (kept d.objects k) (is.follows.headers k ∙ ap image_header_in at)
    where
      by : (r : Option Stored) → option_map header_kept r ≡ None → r ≡ None
      by None e = refl
      by (Some x) e = absurd (let g : Some (header_kept x) ≡ None = e in cc)

  -- of what is ensured the current state is kept, and the rest as it was
  new_kept : (k : ℕ) → kept new.objects k ≡ cond (is_ensured h gone k) (kept (closing s.units h).objects k) (kept d.objects k)
  new_kept k = at_new k ∙ by (object h k) refl ∙ sym (ap (λ r. cond (is_ensured h gone k) r (kept d.objects k)) (closing_found s.units h k))
    where
      none_either : (b : Bool) → ◌≡◌ {A = Option Stored} None (cond b None None)
      none_either true = refl
      none_either false = refl

      by : (r : Option Object) → object h k ≡ r → mixed_at (is_ensured h gone) s.units h d.objects r ≡ cond (is_ensured h gone k) (option_map (whole_stored s.units h) (object h k)) (kept d.objects k)
      by None at =
          none_either (is_ensured h gone k) ∙ sym (ap (λ (r : Option Stored). cond (is_ensured h gone k) None r) (none_kept k at))
          ∙ sym (ap (λ r. cond (is_ensured h gone k) (option_map (whole_stored s.units h) r) (kept d.objects k)) at)
      by (Some o) at =
          ap (λ (i : ℕ). cond (is_ensured h gone i) (Some (whole_stored s.units h o)) (kept d.objects i)) (found_number k o h.objects at)
          ∙ sym (ap (λ r. cond (is_ensured h gone k) (option_map (whole_stored s.units h) r) (kept d.objects k)) at)

  -- each image that is kept is one of those
  new_images : AreImages d → AreImages (closing s.units h) → AreImages new
  new_images old whole k x at = by (is_ensured h gone k) (sym (new_kept k) ∙ at)
    where
      by : (e : Bool) → cond e (kept (closing s.units h).objects k) (kept d.objects k) ≡ Some x → IsImage body_limit x
      by true e = whole k x e
      by false e = old k x e

  new_can : AreImages d → AreImages (closing s.units h) → CanRestart new
  new_can old whole = mixed_can s d is trail ready (is_ensured h gone) with_them order (new_images old whole)

  module _ (law : FollowingLaw) where
    abbrev e : Durable
    e = closed d s gone

    ends : (u : State) × AreEnsured s d gone u e
    ends = ensured_by law s d is gone rest all

    rising_at : (u : State) → u.held.objects ≡ map (marked (last_object_number gone)) h.objects → NumbersRise u.held
    rising_at u same = subst (λ (ns : List ℕ). IsStrictlyIncreasing ns) (sym (ap (map object_number) same ∙ marked_numbers (last_object_number gone) h.objects)) is.numbered.rising

    closed_rises : IsStrictlyIncreasing (map number_in_stored e.objects)
    closed_rises = by gone refl
      where
        by : (os : List Object) → gone ≡ os → IsStrictlyIncreasing (map number_in_stored (closed d s os).objects)
        by [] none = ready.rising
        by (o ∷ os) some =
            let c : (u : State) × AreEnsured s d (o ∷ os) u (closed d s (o ∷ os)) = subst (λ (xs : List Object). (u : State) × AreEnsured s d xs u (closed d s xs)) some ends in
            let u = c.0 in
            let made = c.1.made in
            let rises : NumbersRise u.held = rising_at u (c.1.objects ∙ ap (λ (xs : List Object). map (marked (last_object_number xs)) h.objects) (sym some)) in
            subst (λ (xs : List Stored). IsStrictlyIncreasing (map number_in_stored xs)) (sym made.1.1) (rising_after made.0 (record { ceiling = 0; objects = made.1.0 }) u rises)

    closed_is : new ≡ e
    closed_is =
        let c = ends.1 in
        let can_rise : IsStrictlyIncreasing (map number_in_stored new.objects) = mixed_rises s d is trail ready (is_ensured h gone) with_them in
        let objects = same_kept new.objects e.objects can_rise closed_rises (λ n. new_kept n ∙ sym (c.each n)) in
        λ i. record { ceiling = sym c.ceiling i; objects = objects i }

    -- it can restart
    pub closed_can : AreImages d → AreImages (closing s.units h) → CanRestart e
    closed_can old whole = subst CanRestart closed_is (new_can old whole)

    pub closed_restarts : AreImages d → AreImages (closing s.units h) → (m : Content) → HasParts m → Represents m e → RestartsTo m e
    closed_restarts old whole m parts stands = restarts_there m e parts (all_pages m e stands) (closed_can old whole)

-- no number that was given is given again
pub closed_numbers : FollowingLaw → (s : State) (d : Durable) (gone rest : List Object) (m : Content) → IsKeptOf s d → s.held.objects ≡ gone ++ rest → RestartsTo m (closed d s gone) → s.held.next ≤ next_restarted m
closed_numbers law s d gone rest m is all restarts =
    let c = (ensured_by law s d is gone rest all).1 in
    let own = c.ceiling in
    let within = is.numbered.within in
    let next = restarts.ceiling in
    omega (arith, own, within, next)
