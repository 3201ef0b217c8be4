-- Objects with the numbers, identifications and contexts of lawful ones are lawful.
use Rattle.std.proofs.Common.{◌≡◌, ℕ, ◌<◌, ◌==◌, Bool, true, false, cond, List, [], ◌∷◌, map, refl, sym, ap, subst, ◌∙◌}
use Rattle.std.proofs.lemmas.List.Elements.{All-from_recursion, recursion_from_All}
use Rattle.std.specs.Prelude.{◌&&◌, not, Option, Some, None, is_some}
use Rattle.std.specs.List.{AllByRecursion}
use Rattle.std.specs.List.Sorted.{IsStrictlyIncreasing}
use Rattle.s38_base.specs.Ids.{same_id}
use Rattle.s38_base.specs.declared.id.Id.{Id}
use Rattle.s38_base.specs.declared.id.ObjNum.{ObjNum}
use Rattle.s38_objects.specs.Lawful.{AreApart, IsObjectMap, number_of}
use Rattle.s38_rules.specs.state.Held.{found_in, is_named, object_in}
use Rattle.s38_rules.specs.declared.object.Object.{Object}

-- an object has the number, the identification and the context of another one
pub record SameHead (o p : Object) : Type 0 where
  pub number : o.number ≡ p.number
  pub id : o.id ≡ p.id
  pub context : o.context ≡ p.context

there_by : (o p : Object) (x y : Option Object) (b : Bool) → is_some x ≡ is_some y → is_some (cond b (Some o) x) ≡ is_some (cond b (Some p) y)
there_by o p x y true rest = refl
there_by o p x y false rest = rest

none_by : (o p : Object) (x y : Option Object) (b : Bool) → (y ≡ None → x ≡ None) → cond b (Some p) y ≡ None → cond b (Some o) x ≡ None
none_by o p x y true rest none = absurd cc
none_by o p x y false rest none = rest none

module _ {A : Type 0} (f g : A → Object) (same : (x : A) → SameHead (f x) (g x)) where
  numbers_same : (xs : List A) → map number_of (map f xs) ≡ map number_of (map g xs)
  numbers_same [] = refl
  numbers_same (x ∷ xs) = rw ((same x).number, numbers_same xs) refl

  given_same : (next : ℕ) (xs : List A) → AllByRecursion (λ o. number_of o < next) (map g xs) → AllByRecursion (λ o. number_of o < next) (map f xs)
  given_same next [] all = tt
  given_same next (x ∷ xs) all = (subst (λ (n : ObjNum). n.0 < next) (sym (same x).number) all.0, given_same next xs all.1)

  there_same : (n : ℕ) (xs : List A) → is_some (object_in (map f xs) n) ≡ is_some (object_in (map g xs) n)
  there_same n [] = refl
  there_same n (x ∷ xs) =
      ap (λ (m : ObjNum). is_some (cond (m.0 == n) (Some (f x)) (object_in (map f xs) n))) (same x).number
      ∙ there_by (f x) (g x) (object_in (map f xs) n) (object_in (map g xs) n) ((g x).number.0 == n) (there_same n xs)

  named_same : (context : ℕ) (id : Id) (x : A) → is_named context id (f x) ≡ is_named context id (g x)
  named_same context id x =
      ap (λ (c : ObjNum). (not (context == 0) && (c.0 == context)) && same_id (f x).id id) (same x).context
      ∙ ap (λ (i : Id). (not (context == 0) && ((g x).context.0 == context)) && same_id i id) (same x).id

  unnamed_same : (context : ℕ) (id : Id) (xs : List A) → found_in (map g xs) context id ≡ None → found_in (map f xs) context id ≡ None
  unnamed_same context id [] none = refl
  unnamed_same context id (x ∷ xs) none = rw (named_same context id x)
      (none_by (f x) (g x) (found_in (map f xs) context id) (found_in (map g xs) context id) (is_named context id (g x)) (unnamed_same context id xs) none)

  apart_same : (old new : ℕ → Bool) → ((n : ℕ) → new n ≡ old n) → (xs : List A) → AreApart old (map g xs) → AreApart new (map f xs)
  apart_same old new there [] apart = tt
  apart_same old new there (x ∷ xs) apart = (
    λ h. rw ((same x).context, (same x).id) (unnamed_same (g x).context.0 (g x).id xs (apart.0 (sym (there (g x).context.0) ∙ sym (ap (λ (c : ObjNum). new c.0) (same x).context) ∙ h))),
    apart_same old new there xs apart.1,
  )

  pub lawful_same : (next ceiling : ℕ) (xs : List A) → IsObjectMap (record { objects = map g xs; next = next; ceiling = ceiling }) → IsObjectMap (record { objects = map f xs; next = next; ceiling = ceiling })
  lawful_same next ceiling xs is = record {
    rising = subst IsStrictlyIncreasing (sym (numbers_same xs)) is.rising;
    given = All-from_recursion (λ o. number_of o < next) (map f xs) (given_same next xs (recursion_from_All (λ o. number_of o < next) (map g xs) is.given));
    apart = apart_same (λ n. is_some (object_in (map g xs) n)) (λ n. is_some (object_in (map f xs) n)) (λ n. there_same n xs) xs is.apart;
  }
