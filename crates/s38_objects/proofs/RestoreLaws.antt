-- A whole map that is made of its objects, the last first.
use Rattle.std.proofs.Common.{◌≡◌, ℕ, ◌<◌, Bool, true, false, cond, List, [], ◌∷◌, ◌++◌, All, append-nil, append_assoc, length, map, refl, sym, ◌∙◌, ap, subst, arith}
use Rattle.std.proofs.lemmas.Bool.Decides.{nat_tests}
use Rattle.std.proofs.lemmas.List.{map-append}
use Rattle.std.proofs.lemmas.List.Elements.{All-head, All-tail}
use Rattle.std.proofs.lemmas.Map.Keys.{sorted_from_strictly_increasing, sorted_head, sorted_tail}
use Rattle.std.specs.declared.cmp.Ordering.TheVariants.{Less}
use Rattle.std.specs.Prelude.{Option, Some, ◌||◌, is_some, nat_le}
use Rattle.std.specs.List.{AllByRecursion}
use Rattle.std.specs.List.Sorted.{IsStrictlyIncreasing, IsStrictlySortedBy}
use Rattle.std.specs.Option.{option_map}
use Rattle.std.specs.Ordering.{nat_cmp}
use Rattle.std.specs.Map.{keys_of}
use Rattle.std.specs.BTreeMap.{BTreeMap, IsOrdered, get, insert_entry, values}
use Rattle.s38_base.specs.declared.id.Id.{Id}
use Rattle.s38_rules.specs.declared.object.Object.{Object}
use Rattle.s38_rules.specs.state.Held.{found_in, is_named, object_in}
use Rattle.s38_objects.specs.declared.name_key.NameKey.{NameKey}
use Rattle.s38_objects.specs.Lawful.{AreApart, IsObjectMap, number_of}
use Rattle.s38_objects.specs.Indexed.{AreNumbered, IsIndexed, is_open}
use Rattle.s38_objects.specs.NameOrder.{key, name_cmp}
use Rattle.s38_objects.proofs.IndexLaws.{numbers_are_keys}

-- the two maps are of the objects of a list from some place on
pub record AreLast (next : ℕ) (by_number : BTreeMap ℕ Object) (names : BTreeMap NameKey ℕ) (before all : List Object) : Type 0 where
  pub parted : before ++ values by_number ≡ all
  pub ordered : IsOrdered nat_cmp by_number
  pub numbered : AreNumbered next by_number.entries
  pub lead : (context : ℕ) (id : Id) → get name_cmp names (key context id) ≡ option_map number_of (found_in (values by_number) context id)

pub last_none : (next : ℕ) (m : BTreeMap ℕ Object) (names : BTreeMap NameKey ℕ) (all : List Object) → m.entries ≡ [] → names.entries ≡ [] → IsOrdered nat_cmp m → AreLast next m names all all
last_none next m names all e f sorted = record {
  parted = rw e (append-nil all);
  ordered = sorted;
  numbered = rw e tt;
  lead = λ context id. rw (e, f) refl;
}

-- ---- one more object

sorted_behind : (front back : List ℕ) → IsStrictlySortedBy nat_cmp (front ++ back) → IsStrictlySortedBy nat_cmp back
sorted_behind [] back h = h
sorted_behind (k ∷ front) back h = sorted_behind front back (sorted_tail nat_cmp k (front ++ back) h)

all_behind : (P : Object → Type 0) (front back : List Object) → All P (front ++ back) → All P back
all_behind P [] back h = h
all_behind P (o ∷ front) back h = all_behind P front back (All-tail P o (front ++ back) h)

insert_first : (n : ℕ) (o : Object) (es : List (ℕ × Object)) → AllByRecursion (λ k. nat_cmp n k ≡ Less) (keys_of es) → insert_entry nat_cmp es n o ≡ (n, o) ∷ es
insert_first n o [] h = refl
insert_first n o (e ∷ es) h = rw h.0 refl

-- what follows an object in a list whose numbers rise
behind : (before : List Object) (o : Object) (after all : List Object) → IsStrictlyIncreasing (map number_of all) → (before ++ o ∷ []) ++ after ≡ all → IsStrictlySortedBy nat_cmp (number_of o ∷ map number_of after)
behind before o after all rising e =
    let sorted : IsStrictlySortedBy nat_cmp (map number_of all) = sorted_from_strictly_increasing (map number_of all) rising in
    let parted : map number_of all ≡ map number_of before ++ (number_of o ∷ map number_of after) = ap (map number_of) (sym e ∙ append_assoc before (o ∷ []) after) ∙ map-append number_of before (o ∷ after) in
    sorted_behind (map number_of before) (number_of o ∷ map number_of after) (subst (λ (ks : List ℕ). IsStrictlySortedBy nat_cmp ks) parted sorted)

held_by : (P : Object → Type 0) (before : List Object) (o : Object) (after all : List Object) → All P all → (before ++ o ∷ []) ++ after ≡ all → P o
held_by P before o after all h e =
    All-head P o after (all_behind P before (o ∷ after) (subst (λ (os : List Object). All P os) (sym e ∙ append_assoc before (o ∷ []) after) h))

pub last_more : (next : ℕ) (m n : BTreeMap ℕ Object) (names more : BTreeMap NameKey ℕ) (before : List Object) (o : Object) (all : List Object) → IsStrictlyIncreasing (map number_of all) → All (λ x. number_of x < next) all →
    All (λ x. x.context.0 < next) all → AreLast next m names (before ++ o ∷ []) all → n.entries ≡ insert_entry nat_cmp m.entries (number_of o) o → IsOrdered nat_cmp n →
    ((context : ℕ) (id : Id) → get name_cmp more (key context id) ≡ cond (is_named context id o) (Some (number_of o)) (get name_cmp names (key context id))) →
    AreLast next n more before all
last_more next m n names more before o all rising given placed h e sorted enter =
    let above : AllByRecursion (λ k. nat_cmp (number_of o) k ≡ Less) (keys_of m.entries) = subst (λ (ks : List ℕ). AllByRecursion (λ k. nat_cmp (number_of o) k ≡ Less) ks) (numbers_are_keys next m.entries h.numbered)
    (sorted_head nat_cmp (number_of o) (map number_of (values m)) (behind before o (values m) all rising h.parted)) in
    let first : n.entries ≡ (number_of o, o) ∷ m.entries = e ∙ insert_first (number_of o) o m.entries above in
    record {
      parted = rw first (sym (append_assoc before (o ∷ []) (values m)) ∙ h.parted);
      ordered = sorted;
      numbered = rw first (refl, held_by (λ x. number_of x < next) before o (values m) all given h.parted, held_by (λ x. x.context.0 < next) before o (values m) all placed h.parted, h.numbered);
      lead = rw first (λ context id. enter context id ∙ ap (λ (r : Option ℕ). cond (is_named context id o) (Some (number_of o)) r) (h.lead context id) ∙ first_found context id);
    }
  where
    first_found : (context : ℕ) (id : Id) → cond (is_named context id o) (Some (number_of o)) (option_map number_of (found_in (values m) context id)) ≡ option_map number_of (cond (is_named context id o) (Some o) (found_in (values m) context id))
    first_found context id = elim (is_named context id o) as (λ b. cond b (Some (number_of o)) (option_map number_of (found_in (values m) context id)) ≡ option_map number_of (cond b (Some o) (found_in (values m) context id))) [
      | true ↦ refl
      | false ↦ refl
    ]

-- ---- all objects

-- where no object says a context that may still be given, the open contexts of objects are those that are there
apart_open : (next : ℕ) (there os : List Object) → All (λ x. x.context.0 < next) os → AreApart (λ k. is_some (object_in there k)) os → AreApart (is_open next there) os
apart_open next there [] placed h = tt
apart_open next there (o ∷ os) placed h =
    let low : o.context.0 < next = All-head (λ x. x.context.0 < next) o os placed in (
      (λ opened. h.0 (late low opened)),
      apart_open next there os (All-tail (λ x. x.context.0 < next) o os placed) h.1,
    )
  where
    late : o.context.0 < next → is_open next there o.context.0 ≡ true → is_some (object_in there o.context.0) ≡ true
    late low opened = let off : nat_le next o.context.0 ≡ false = grind (arith, nat_tests) in subst (λ (b : Bool). (b || is_some (object_in there o.context.0)) ≡ true) off opened

pub indexed_whole : (next ceiling : ℕ) (m : BTreeMap ℕ Object) (names : BTreeMap NameKey ℕ) (all : List Object) → IsObjectMap (record { objects = all; next = next; ceiling = ceiling }) →
    All (λ x. x.context.0 < next) all → AreLast next m names [] all → IsIndexed m names next
indexed_whole next ceiling m names all lawful placed h = record {
  ordered = h.ordered;
  numbered = h.numbered;
  apart = subst (λ (os : List Object). AreApart (is_open next os) os) (sym h.parted) (apart_open next all all placed lawful.apart);
  named = record { lead = λ context id there. h.lead context id };
}

pub none_left : (os : List Object) → length os ≡ 0 → os ≡ []
none_left [] h = refl
none_left (o ∷ os) h = absurd (omega arith)
