-- A world begins with places that are right, and checks leave all but a place and the visits.
use Rattle.std.proofs.Common.{◌≡◌, ◌≢◌, ◌<◌, ◌≤◌, ℕ, zero, suc, ◌+◌, ◌-◌, Bool, true, false, List, [], ◌∷◌, ◌++◌, length, refl, sym, ap, ◌∙◌, subst, replicate, add_assoc, add-zero, zero-add, arith}
use Rattle.std.proofs.lemmas.Bool.{true≢false}
use Rattle.std.proofs.lemmas.List.{length-replicate, length-set}
use Rattle.std.specs.Prelude.{Option, Some, None, slice_get, slice_set}
use Rattle.s38_base.specs.declared.id.ObjNum.{ObjNum}
use Rattle.s38_rules.specs.state.Held.{is_there}
use Rattle.s38_rules.specs.state.State.{State}
use Rattle.s38_rights_cache.specs.declared.found.Verified.{Verified}
use Rattle.s38_rights_cache.specs.declared.found.Visits.{Visits}
use Rattle.s38_rights_cache.specs.Numbers.{frames_in, last_count, no_numbers}
use Rattle.s38_rights_cache.specs.Places.{AreChecked, AreGiven, AreOwned, AreVisited, IsChecked, IsSteady, NobodyLives, RisesBy, all_found, found_now, is_live, rows_of, rows_of_all, with_found}
use Rattle.s38_rights_cache.specs.Worlds.{WorldState, begun_world, place_in, place_of}
use Rattle.s38_rights_cache.proofs.ListLaws.{get_set_other, get_set_same}
use Rattle.s38_rights_cache.proofs.PlaceLaws.{live_place}

-- ---- the beginning

fresh_last : (n k : ℕ) → (frames_in (slice_get (replicate n no_numbers) k)).last ≤ last_count
fresh_last zero k = omega arith
fresh_last (suc n) zero = omega arith
fresh_last (suc n) (suc k) = fresh_last n k

none_found : (n k : ℕ) (v : Verified) → place_in (slice_get (replicate n None) k) ≡ Some v → ⊥
none_found zero k v e = cc
none_found (suc n) zero v e = cc
none_found (suc n) (suc k) v e = none_found n k v e

pub begun_steady : (s : State) → AreOwned s.held → NobodyLives s → IsSteady (begun_world s)
begun_steady s owned nobody = record {
  right = record {
    places = length-replicate (length s.processes) None;
    frames = length-replicate (length s.processes) no_numbers;
    numbers = λ p live. absurd (true≢false (sym live ∙ nobody p));
    rights = λ p live. absurd (true≢false (sym live ∙ nobody p));
  };
  given = record {
    authority = omega arith;
    frames = λ p. fresh_last (length s.processes) (p - 1);
    objects = owned;
    users = λ p live. absurd (true≢false (sym live ∙ nobody p));
    programs = λ p live. absurd (true≢false (sym live ∙ nobody p));
    found = λ p v e. absurd (none_found (length s.processes) (p - 1) v e);
  };
}

-- ---- visits

unspent : (b c : Bool) → (b ≡ true → c ≡ true) → c ≡ false → b ≡ false
unspent false c stays e = refl
unspent true c stays e = absurd (true≢false (sym (stays refl) ∙ e))

-- rows are visited, and then others
rises_then : (a b c : Visits) (n m : ℕ) → RisesBy a n b → RisesBy b m c → RisesBy a (n + m) c
rises_then a b c zero m first then = subst (λ (k : ℕ). RisesBy a k c) (sym (zero-add m)) (subst (λ (v : Visits). RisesBy v m c) first then)
rises_then a b c (suc n) zero first then = subst (λ (k : ℕ). RisesBy a k c) (sym (add-zero (suc n))) (subst (λ (v : Visits). AreVisited a (suc n) v) (sym then) first)
rises_then a b c (suc n) (suc m) first then =
    let both : suc n + suc m ≡ suc (n + suc m) = omega arith in
    let visits : AreVisited a (suc (n + suc m)) c = record {
      count = λ e. omega (arith, then.count e, first.count (unspent b.spent c.spent then.spent e));
      spent = λ e. then.spent (first.spent e);
    } in
    subst (λ (k : ℕ). RisesBy a k c) (sym both) visits

-- ---- checks of objects, one after another

found_then : (w : WorldState) (p d : ℕ) (xs ys : List ObjNum) → all_found w p d (xs ++ ys) ≡ all_found (all_found w p d xs) p d ys
found_then w p d [] ys = refl
found_then w p d (x ∷ xs) ys = found_then (with_found w p d x) p d xs ys

rows_then : (w : WorldState) (p d : ℕ) (xs ys : List ObjNum) → rows_of_all w p d (xs ++ ys) ≡ rows_of_all w p d xs + rows_of_all (all_found w p d xs) p d ys
rows_then w p d [] ys = sym (zero-add (rows_of_all w p d ys))
rows_then w p d (x ∷ xs) ys =
    let v = with_found w p d x in
    ap (λ (k : ℕ). rows_of w p d x.0 + k) (rows_then v p d xs ys) ∙ sym (add_assoc (rows_of w p d x.0) (rows_of_all v p d xs) (rows_of_all (all_found v p d xs) p d ys))

-- they do not depend on how many rows were visited before
found_beside : (w : WorldState) (visits : Visits) (p d : ℕ) (xs : List ObjNum) → all_found (record w { visits = visits }) p d xs ≡ record (all_found w p d xs) { visits = visits }
found_beside w visits p d [] = refl
found_beside w visits p d (x ∷ xs) = found_beside (with_found w p d x) visits p d xs

rows_beside : (w : WorldState) (visits : Visits) (p d : ℕ) (xs : List ObjNum) → rows_of_all (record w { visits = visits }) p d xs ≡ rows_of_all w p d xs
rows_beside w visits p d [] = refl
rows_beside w visits p d (x ∷ xs) = ap (λ (k : ℕ). rows_of w p d x.0 + k) (rows_beside (with_found w p d x) visits p d xs)

-- they leave the state
pub found_state : (w : WorldState) (p d : ℕ) (xs : List ObjNum) → (all_found w p d xs).state ≡ w.state
found_state w p d [] = refl
found_state w p d (x ∷ xs) = found_state (with_found w p d x) p d xs

pub checked_state : (w t : WorldState) (p d : ℕ) (xs : List ObjNum) → AreChecked w p d xs t → t.state ≡ w.state
checked_state w t p d xs checked = ap (λ (z : WorldState). z.state) checked.places ∙ found_state w p d xs

-- nothing was checked
pub checked_none : (w : WorldState) (p d : ℕ) → IsSteady w → AreChecked w p d [] w
checked_none w p d steady = record { places = refl; visits = refl; steady = steady }

-- some are checked after others
pub checked_then : (w x t : WorldState) (p d : ℕ) (xs ys : List ObjNum) → AreChecked w p d xs x → AreChecked x p d ys t → AreChecked w p d (xs ++ ys) t
checked_then w x t p d xs ys a b =
    let v : WorldState = all_found w p d xs in
    let rows : rows_of_all x p d ys ≡ rows_of_all v p d ys = ap (λ (z : WorldState). rows_of_all z p d ys) a.places ∙ rows_beside v x.visits p d ys in
    record {
      places = b.places
          ∙ ap (λ (z : WorldState). record (all_found z p d ys) { visits = t.visits }) a.places
          ∙ ap (λ (z : WorldState). record z { visits = t.visits }) (found_beside v x.visits p d ys)
          ∙ ap (λ (z : WorldState). record z { visits = t.visits }) (sym (found_then w p d xs ys));
      visits = subst (λ (k : ℕ). RisesBy w.visits k t.visits) (ap (λ (k : ℕ). rows_of_all w p d xs + k) rows ∙ sym (rows_then w p d xs ys))
          (rises_then w.visits x.visits t.visits (rows_of_all w p d xs) (rows_of_all x p d ys) a.visits b.visits);
      steady = b.steady;
    }

-- the object of each place was given its number
found_below : (places : List (Option Verified)) (k j next : ℕ) (x : Verified) → x.object.0 < next → ((v : Verified) → place_in (slice_get places j) ≡ Some v → v.object.0 < next)
    → (v : Verified) → place_in (slice_get (slice_set places k (Some x)) j) ≡ Some v → v.object.0 < next
found_below [] k j next x low old v e = old v e
found_below (y ∷ ys) zero zero next x low old v e = subst (λ (z : Option Verified). IsBelowIn next z) e low
  where
    IsBelowIn : ℕ → Option Verified → Type 0
    IsBelowIn next None = Unit {0}
    IsBelowIn next (Some z) = z.object.0 < next
found_below (y ∷ ys) zero (suc j) next x low old v e = old v e
found_below (y ∷ ys) (suc k) zero next x low old v e = old v e
found_below (y ∷ ys) (suc k) (suc j) next x low old v e = found_below ys k j next x low old v e

-- one is checked
pub checked_one : (w t : WorldState) (p d : ℕ) (o : ObjNum) → IsSteady w → is_there w.state.held o.0 ≡ true → IsChecked w p d o t → AreChecked w p d (o ∷ []) t
checked_one w t p d o steady there checked = record {
  places = checked.place;
  visits = subst (λ (k : ℕ). RisesBy w.visits k t.visits) (sym (add-zero (rows_of w p d o.0))) checked.visits;
  steady = record {
    right = checked.right;
    given = subst AreGiven (sym checked.place) (record {
      authority = steady.given.authority;
      frames = steady.given.frames;
      objects = steady.given.objects;
      users = steady.given.users;
      programs = steady.given.programs;
      found = λ q. found_below w.places (p - 1) (q - 1) w.state.held.next (found_now w p d o) (steady.given.objects.numbers o.0 there) (steady.given.found q);
    });
  };
}

-- ---- places after checks

-- the place of the process has what was found last
pub found_last : (w : WorldState) (p d : ℕ) (xs : List ObjNum) (o : ObjNum) → is_live w.state p ≡ true → length w.places ≡ length w.state.processes
    → place_of (all_found w p d (xs ++ o ∷ [])) p ≡ Some (found_now w p d o)
found_last w p d [] o live places = ap place_in (get_set_same w.places (p - 1) (Some (found_now w p d o)) (live_place w p live places))
found_last w p d (x ∷ xs) o live places = found_last (with_found w p d x) p d xs o live (length-set w.places (p - 1) (Some (found_now w p d x)) ∙ places)

-- those of other processes stay
pub found_others : (w : WorldState) (p d q : ℕ) (xs : List ObjNum) → q - 1 ≢ p - 1 → place_of (all_found w p d xs) q ≡ place_of w q
found_others w p d q [] other = refl
found_others w p d q (x ∷ xs) other = found_others (with_found w p d x) p d q xs other ∙ ap place_in (get_set_other w.places (p - 1) (q - 1) (Some (found_now w p d x)) other)
