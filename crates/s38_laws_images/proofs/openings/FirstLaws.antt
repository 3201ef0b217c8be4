-- The objects with which a machine begins that was not stored before are openings.
use Rattle.std.proofs.Common.{◌≡◌, ℕ, zero, suc, ◌+◌, ◌<◌, true, false, List, [], ◌∷◌, refl, subst, sym, arith}
use Rattle.std.specs.Prelude.{Some}
use Rattle.std.proofs.lemmas.List.Elements.{All-from_recursion, All-nil}
use Rattle.std.specs.List.Sorted.{IsStrictlyIncreasing}
use Rattle.s38_base.specs.Ids.{same_id}
use Rattle.s38_base.specs.Limits.{body_limit}
use Rattle.s38_laws_objects.proofs.EventLaws.{first_well, installed_well}
use Rattle.s38_objects.specs.Lawful.{number_of}
use Rattle.s38_laws_images.specs.openings.Bodies.{HoldsBody, IsMessageOf}
use Rattle.s38_laws_images.specs.openings.Fitting.{IsPlaced, IsUser, is_context_or_gone}
use Rattle.s38_laws_images.specs.openings.Opening.{HoldsTable, IsNumbered, IsOpening}
use Rattle.s38_laws_processes.specs.owners.Beginnings.{HoldsChecked}
use Rattle.s38_rules.specs.families.Contexts.{is_at_home}
use Rattle.s38_rules.specs.declared.object.Object.{Object}
use Rattle.s38_rules.specs.state.Held.{object}
use Rattle.s38_rules.specs.state.Opening.{general_context, held_first, held_installed, installed, locked_queue, machine_context_object, officer_object, opening, plain_user}

-- a number below the first of numbers that rise
rise_first : (x y : ℕ) (ys : List ℕ) → x < y → IsStrictlyIncreasing (y ∷ ys) → IsStrictlyIncreasing (x ∷ y ∷ ys)
rise_first x y ys low rest zero h = low
rise_first x y ys low rest (suc k) h = let next : suc k + 1 ≡ suc (k + 1) = omega arith in rw next (rest k (omega (arith, h)))

one_rises : (x : ℕ) → IsStrictlyIncreasing (x ∷ [])
one_rises x k h = absurd (omega (arith, h))

-- the objects of the security officer in the machine context, and in that for everybody
first_placed : (o : Object) → o.owner.0 ≡ 2 → o.context.0 ≡ 1 → IsPlaced held_first o
unfolding opening
first_placed o owner context = record {
  owner = subst (λ (n : ℕ). IsUser held_first n) (sym owner) refl;
  context = subst (λ (n : ℕ). is_context_or_gone (object held_first n) ≡ true) (sym context) refl;
  given = subst (λ (n : ℕ). n < 6) (sym context) (omega arith);
  home = λ at. context;
}

general_placed : (o : Object) → o.owner.0 ≡ 2 → o.context.0 ≡ 3 → is_at_home (Some o) ≡ false → IsPlaced held_first o
unfolding opening
general_placed o owner context away = record {
  owner = subst (λ (n : ℕ). IsUser held_first n) (sym owner) refl;
  context = subst (λ (n : ℕ). is_context_or_gone (object held_first n) ≡ true) (sym context) refl;
  given = subst (λ (n : ℕ). n < 6) (sym context) (omega arith);
  home = λ at. absurd (true_false at away);
}
  where
    true_false : is_at_home (Some o) ≡ true → is_at_home (Some o) ≡ false → ⊥
    true_false h g = cc

installed_placed : (o : Object) → o.owner.0 ≡ 2 → o.context.0 ≡ 1 → IsPlaced held_installed o
unfolding installed
installed_placed o owner context = record {
  owner = subst (λ (n : ℕ). IsUser held_installed n) (sym owner) refl;
  context = subst (λ (n : ℕ). is_context_or_gone (object held_installed n) ≡ true) (sym context) refl;
  given = subst (λ (n : ℕ). n < 3) (sym context) (omega arith);
  home = λ at. context;
}

pub first_opening : IsOpening held_first
unfolding opening same_id
first_opening = record {
  well = (first_well [] []).objects;
  tables = All-from_recursion HoldsTable opening (tt, (tt, (tt, (tt, (tt, tt)))));
  programs = All-from_recursion HoldsChecked opening (λ p h. cc, (λ p h. cc, (λ p h. cc, (λ p h. cc, (λ p h. cc, tt)))));
  bodies = All-from_recursion (HoldsBody body_limit) opening (tt, (tt, (tt, (tt, (record { key = omega arith; some = omega arith; most = omega arith; messages = All-nil (IsMessageOf 0 8); image = omega arith }, tt)))));
  lawful = record {
    rising = rise_first 1 2 (3 ∷ 4 ∷ 5 ∷ []) (omega arith) (rise_first 2 3 (4 ∷ 5 ∷ []) (omega arith) (rise_first 3 4 (5 ∷ []) (omega arith) (rise_first 4 5 [] (omega arith) (one_rises 5))));
    given = All-from_recursion (λ o. number_of o < 6) opening (omega arith, (omega arith, (omega arith, (omega arith, (omega arith, tt)))));
    apart = (λ h. refl, (λ h. refl, (λ h. refl, (λ h. refl, (λ h. refl, tt)))));
  };
  numbered = All-from_recursion IsNumbered opening (omega arith, (omega arith, (omega arith, (omega arith, (omega arith, tt)))));
  next = omega arith;
  owned = All-from_recursion (λ o. o.owner.0 < 6) opening (omega arith, (omega arith, (omega arith, (omega arith, (omega arith, tt)))));
  placed = All-from_recursion (λ o. o.context.0 < 6) opening (omega arith, (omega arith, (omega arith, (omega arith, (omega arith, tt)))));
  fit = record {
    placed = All-from_recursion (IsPlaced held_first) opening (first_placed machine_context_object refl refl, (first_placed officer_object refl refl, (first_placed general_context refl refl, (first_placed plain_user refl refl, (general_placed locked_queue refl refl refl, tt)))));
    machine = refl;
    below = omega arith;
  };
  ceiling = omega arith;
  within = omega arith;
}

pub installed_opening : IsOpening held_installed
unfolding installed same_id
installed_opening = record {
  well = (installed_well [] []).objects;
  tables = All-from_recursion HoldsTable installed (tt, (tt, tt));
  programs = All-from_recursion HoldsChecked installed (λ p h. cc, (λ p h. cc, tt));
  bodies = All-from_recursion (HoldsBody body_limit) installed (tt, (tt, tt));
  lawful = record {
    rising = rise_first 1 2 [] (omega arith) (one_rises 2);
    given = All-from_recursion (λ o. number_of o < 3) installed (omega arith, (omega arith, tt));
    apart = (λ h. refl, (λ h. refl, tt));
  };
  numbered = All-from_recursion IsNumbered installed (omega arith, (omega arith, tt));
  next = omega arith;
  owned = All-from_recursion (λ o. o.owner.0 < 3) installed (omega arith, (omega arith, tt));
  placed = All-from_recursion (λ o. o.context.0 < 3) installed (omega arith, (omega arith, tt));
  fit = record { placed = All-from_recursion (IsPlaced held_installed) installed (installed_placed machine_context_object refl refl, (installed_placed officer_object refl refl, tt)); machine = refl; below = omega arith };
  ceiling = omega arith;
  within = omega arith;
}
