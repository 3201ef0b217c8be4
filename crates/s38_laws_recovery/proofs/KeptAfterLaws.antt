-- What is kept after a step: numbers rise, and of each object the current state is kept, or its image stays.
use Rattle.std.proofs.Common.{◌≡◌, ◌∙◌, ◌⊎◌, ℕ, Bool, true, false, cond, inl, inr, List, [], ◌∷◌, ◌++◌, Option, Some, None, map, refl, sym, ap, subst}
use Rattle.std.proofs.lemmas.Map.Keys.{IsStrictlyIncreasing-from_sorted, sorted_from_strictly_increasing, sorted_head, sorted_tail}
use Rattle.std.specs.List.{flat_map, list_any}
use Rattle.std.specs.List.Sorted.{IsStrictlyIncreasing, IsStrictlySortedBy}
use Rattle.std.specs.Option.{option_map}
use Rattle.std.specs.Ordering.{nat_cmp}
use Rattle.std.specs.declared.cmp.Ordering.TheVariants.{Less}
use Rattle.s38_durable_state.specs.Durable.{Durable, durable_after, followed_or_whole, kept, kept_after, kept_by_force, whole_object, with_header_and_rows}
use Rattle.s38_durable_state.specs.Following.{Follows, Header, NumbersRise, header_kept, image_header_in, image_header_of, object_number}
use Rattle.s38_image.specs.declared.stored.Stored.{Stored}
use Rattle.s38_laws_flush.proofs.durable.FoundLaws.{found_all, kept_after_step, kept_one}
use Rattle.s38_laws_flush.proofs.durable.GoesThenLaws.{Goes}
use Rattle.s38_laws_flush.specs.durable.Kept.{IsKeptOf}
use Rattle.s38_laws_objects.specs.Well.{IsWell}
use Rattle.s38_restart.specs.Restarted.{number_in_stored}
use Rattle.s38_rules.proofs.ChargeLaws.{found_number}
use Rattle.s38_rules.specs.store.Forcing.{Forced, is_whole}
use Rattle.s38_rules.specs.state.Held.{Held, disk_in, is_on_disk, kind_of, object}
use Rattle.s38_rules.specs.state.State.{State}
use Rattle.s38_rules.specs.declared.object.Object.{Object}
use Rattle.s38_laws_recovery.proofs.NumberLaws.{Above}

-- ---- numbers rise

number_after : (all : List Forced) (t : State) (old : Option Stored) (o : Object) → number_in_stored (kept_after all t old o) ≡ object_number o
number_after all t old o = by (list_any (is_whole o.number.0) all) old
  where
    by : (b : Bool) (x : Option Stored) → number_in_stored (cond b (whole_object t o) (followed_or_whole t o x)) ≡ object_number o
    by true x = refl
    by false None = refl
    by false (Some x) = refl

module _ (all : List Forced) (t : State) (old : List Stored) where
  abbrev after : List Object → List Stored
  after os = flat_map (kept_by_force all t old) os

  above_after : (n : ℕ) (os : List Object) → Above n (map object_number os) → Above n (map number_in_stored (after os))
  above_after n [] above = tt
  above_after n (o ∷ os) above = by o.on_disk (above_after n os above.1)
    where
      less : nat_cmp n (number_in_stored (kept_after all t (kept old o.number.0) o)) ≡ Less
      less = ap (nat_cmp n) (number_after all t (kept old o.number.0) o) ∙ above.0

      by : (b : Bool) → Above n (map number_in_stored (after os)) → Above n (map number_in_stored (cond b (kept_after all t (kept old o.number.0) o ∷ []) [] ++ after os))
      by true rest = (less, rest)
      by false rest = rest

  sorted_after : (os : List Object) → IsStrictlySortedBy nat_cmp (map object_number os) → IsStrictlySortedBy nat_cmp (map number_in_stored (after os))
  unfolding IsStrictlySortedBy
  sorted_after [] order = tt
  sorted_after (o ∷ os) order =
      by o.on_disk (above_after o.number.0 os (sorted_head nat_cmp o.number.0 (map object_number os) order)) (sorted_after os (sorted_tail nat_cmp o.number.0 (map object_number os) order))
    where
      by : (b : Bool) → Above o.number.0 (map number_in_stored (after os)) → IsStrictlySortedBy nat_cmp (map number_in_stored (after os))
          → IsStrictlySortedBy nat_cmp (map number_in_stored (cond b (kept_after all t (kept old o.number.0) o ∷ []) [] ++ after os))
      by true above rest = (subst (λ (n : ℕ). Above n (map number_in_stored (after os))) (sym (number_after all t (kept old o.number.0) o)) above, rest)
      by false above rest = rest

pub rising_after : (all : List Forced) (d : Durable) (t : State) → NumbersRise t.held → IsStrictlyIncreasing (map number_in_stored (durable_after all d t).objects)
rising_after all d t rising =
    IsStrictlyIncreasing-from_sorted (map number_in_stored (durable_after all d t).objects)
    (sorted_after all t d.objects t.held.objects (sorted_from_strictly_increasing (map object_number t.held.objects) rising))

-- ---- what is kept is there

pub record IsInPlace (h : Held) (n : ℕ) (x : Stored) : Type 0 where
  pub one : Object
  pub at : object h n ≡ Some one
  pub on : is_on_disk h n ≡ true
  pub header : header_kept x ≡ image_header_of one

pub in_place : (h : Held) (d : Durable) (n : ℕ) (x : Stored) → Follows h d → kept d.objects n ≡ Some x → IsInPlace h n x
in_place h d n x follows is = by (object h n) refl (sym (ap (option_map header_kept) is) ∙ follows.headers n)
  where
    same : (a b : Header) → Some a ≡ Some b → a ≡ b
    same a b e = cc

    disk : (o : Object) → object h n ≡ Some o → (b : Bool) → o.on_disk ≡ b → Some (header_kept x) ≡ cond b (Some (image_header_of o)) None → IsInPlace h n x
    disk o found true on e = record { one = o; at = found; on = ap disk_in found ∙ on; header = same (header_kept x) (image_header_of o) e }
    disk o found false off e = absurd (let g : Some (header_kept x) ≡ None = e in cc)

    by : (r : Option Object) → object h n ≡ r → Some (header_kept x) ≡ image_header_in r → IsInPlace h n x
    by None found e = absurd (let g : Some (header_kept x) ≡ None = e in cc)
    by (Some o) found e = disk o found o.on_disk refl e

-- what is on disk is kept
pub on_kept : (h : Held) (d : Durable) (n : ℕ) → Follows h d → is_on_disk h n ≡ true → (x : Stored) × (kept d.objects n ≡ Some x)
on_kept h d n follows on = by (kept d.objects n) refl (follows.headers n)
  where
    there : (r : Option Object) → disk_in r ≡ true → image_header_in r ≡ None → ⊥
    there None on e = let g : false ≡ true = on in cc
    there (Some o) on e = let g : Some (image_header_of o) ≡ None = sym (ap (λ b. cond b (Some (image_header_of o)) None) on) ∙ e in cc

    by : (r : Option Stored) → kept d.objects n ≡ r → option_map header_kept r ≡ image_header_in (object h n) → (x : Stored) × (kept d.objects n ≡ Some x)
    by None is e = absurd (there (object h n) on (sym e))
    by (Some x) is e = (x, is)

-- of its kind
pub kept_kind : (s : State) (d : Durable) (n : ℕ) (x : Stored) (o : Object) → IsKeptOf s d → kept d.objects n ≡ Some x → object s.held n ≡ Some o → kind_of x.object.body ≡ kind_of o.body
kept_kind s d n x o is at found =
    let place = in_place s.held d n x is.follows at in
    let one : place.one ≡ o = same place.one o (sym place.at ∙ found) in
    let well = found_all IsWell s.held.objects n o is.well.objects found in
    is.bodies n x at ∙ ap (λ (h : Header). h.id.kind) place.header ∙ ap (λ (y : Object). y.id.kind) one ∙ sym well.storable.kind
  where
    same : (a b : Object) → Some a ≡ Some b → a ≡ b
    same a b e = cc

-- ---- written whole, or as it was

pub record IsAnew (all : List Forced) (t : State) (n : ℕ) (x : Stored) : Type 0 where
  pub forced : list_any (is_whole n) all ≡ true
  pub one : Object
  pub at : object t.held n ≡ Some one
  pub same : x ≡ whole_object t one

pub record IsAsItWas (all : List Forced) (t : State) (d : Durable) (n : ℕ) (x : Stored) : Type 0 where
  pub unforced : list_any (is_whole n) all ≡ false
  pub one : Object
  pub at : object t.held n ≡ Some one
  pub old : Stored
  pub was : kept d.objects n ≡ Some old
  pub same : x ≡ with_header_and_rows one old

module _ (s t : State) (d : Durable) (all : List Forced) (is : IsKeptOf s d) (rising : NumbersRise t.held) (goes : Goes all s.held t.held) where
  pub kept_either : (n : ℕ) (x : Stored) → kept (durable_after all d t).objects n ≡ Some x → IsAnew all t n x ⊎ IsAsItWas all t d n x
  kept_either n x at = by (object t.held n) refl (sym (kept_after_step all d t n rising) ∙ at)
    where
      one : (a b : Stored) → Some a ≡ Some b → a ≡ b
      one a b e = cc

      old : (o : Object) → object t.held n ≡ Some o → list_any (is_whole n) all ≡ false → o.on_disk ≡ true → (r : Option Stored) → kept d.objects n ≡ r → followed_or_whole t o r ≡ x → IsAnew all t n x ⊎ IsAsItWas all t d n x
      old o found not on None was e =
          let before = on_kept s.held d n is.follows (goes.disk n not (ap disk_in found ∙ on)) in
          absurd (let g : None ≡ Some before.0 = sym was ∙ before.1 in cc)
      old o found not on (Some y) was e = inr (record { unforced = not; one = o; at = found; old = y; was = was; same = sym e })

      anew : (o : Object) → object t.held n ≡ Some o → o.on_disk ≡ true → (b : Bool) → list_any (is_whole n) all ≡ b → cond b (whole_object t o) (followed_or_whole t o (kept d.objects n)) ≡ x → IsAnew all t n x ⊎ IsAsItWas all t d n x
      anew o found on true forced e = inl (record { forced = forced; one = o; at = found; same = sym e })
      anew o found on false not e = old o found not on (kept d.objects n) refl e

      disk : (o : Object) → object t.held n ≡ Some o → (b : Bool) → o.on_disk ≡ b → cond b (Some (kept_after all t (kept d.objects o.number.0) o)) None ≡ Some x → IsAnew all t n x ⊎ IsAsItWas all t d n x
      disk o found false off e = absurd (let g : None ≡ Some x = e in cc)
      disk o found true on e =
          anew o found on (list_any (is_whole n) all) refl
          (subst (λ (k : ℕ). cond (list_any (is_whole k) all) (whole_object t o) (followed_or_whole t o (kept d.objects k)) ≡ x) (found_number n o t.held.objects found) (one (kept_after all t (kept d.objects o.number.0) o) x e))

      by : (r : Option Object) → object t.held n ≡ r → kept_one all t d.objects r ≡ Some x → IsAnew all t n x ⊎ IsAsItWas all t d n x
      by None found e = absurd (let g : None ≡ Some x = e in cc)
      by (Some o) found e = disk o found o.on_disk refl e
