-- Numbers, kinds, the ceiling and what is on disk go on where an object is made or destroyed.
use Rattle.std.proofs.Common.{◌≡◌, ◌∙◌, ◌⊎◌, ℕ, ◌+◌, ◌<◌, ◌≤◌, ◌==◌, Bool, true, false, cond, not, inl, inr, List, [], ◌∷◌, ◌++◌, map, refl, sym, ap, subst, arith}
use Rattle.std.proofs.lemmas.Bool.Decides.{nat_tests}
use Rattle.std.proofs.lemmas.List.Elements.{All-filter, All-head, All-push, All-tail, All-weaker}
use Rattle.std.proofs.lemmas.List.Kept.{IsStrictlyIncreasing-filter}
use Rattle.std.proofs.lemmas.Map.Keys.{IsStrictlyIncreasing-from_sorted, sorted_from_strictly_increasing}
use Rattle.std.specs.List.{AllByRecursion, list_any}
use Rattle.std.specs.List.Sorted.{IsStrictlyIncreasing, IsStrictlySortedBy}
use Rattle.std.specs.Ordering.{nat_cmp}
use Rattle.std.specs.Prelude.{◌||◌, All, None, Option, Some, filter, nat_lt}
use Rattle.std.specs.declared.cmp.Ordering.TheVariants.{Less}
use Rattle.s38_base.specs.Limits.{ceiling_step, last_number}
use Rattle.s38_base.specs.declared.id.Id.{Id}
use Rattle.s38_base.specs.declared.id.Kind.{Kind}
use Rattle.s38_commits.proofs.MapLaws.{nat_itself, nat_same}
use Rattle.s38_durable_state.specs.Following.{object_number}
use Rattle.s38_laws_objects.specs.Outline.{is_forced, speaks_of}
use Rattle.s38_rules.proofs.ChargeLaws.{object_last, object_without}
use Rattle.s38_rules.specs.families.Changes.{made_by}
use Rattle.s38_rules.specs.families.Creation.{created, creation_changes, destroyed, is_of_kind, new_object}
use Rattle.s38_rules.specs.store.Forcing.{Ceiling, Forced, Whole, creation_forces, forced_removal, is_whole}
use Rattle.s38_rules.specs.state.Held.{Held, disk_in, is_on_disk, object, object_in, with_object, without, without_in}
use Rattle.s38_rules.specs.declared.creating.Creating.{Creating}
use Rattle.s38_rules.specs.declared.object.Body.{Body}
use Rattle.s38_rules.specs.declared.object.Object.{Object}
use Rattle.s38_flush.specs.Stepping.{is_forced_ceiling}
use Rattle.s38_laws_flush.specs.durable.Kept.{AreNumbered}
use Rattle.s38_laws_flush.proofs.durable.SameLaws.{kind_at, kind_in, same_itself}
use Rattle.s38_laws_flush.proofs.durable.GoesThenLaws.{Left, Goes, same_goes, any_none, any_either, none_next}
use Rattle.s38_laws_flush.proofs.durable.GoesEnsuredLaws.{one_forced, removed_given}

below_last : (n next : ℕ) (ns : List ℕ) → AllByRecursion (λ q. nat_cmp n q ≡ Less) ns → n < next → AllByRecursion (λ q. nat_cmp n q ≡ Less) (ns ++ next ∷ [])
below_last n next [] below less = (lesser, tt)
  where
    lesser : nat_cmp n next ≡ Less
    lesser = grind (arith, nat_tests, less)
below_last n next (m ∷ ns) below less = (below.0, below_last n next ns below.1 less)

sorted_last : (ns : List ℕ) (next : ℕ) → IsStrictlySortedBy nat_cmp ns → All (λ m. m < next) ns → IsStrictlySortedBy nat_cmp (ns ++ next ∷ [])
unfolding IsStrictlySortedBy
sorted_last [] next sorted given = (tt, tt)
sorted_last (n ∷ ns) next sorted given = (below_last n next ns sorted.0 (All-head (λ m. m < next) n ns given), sorted_last ns next sorted.1 (All-tail (λ m. m < next) n ns given))

rising_last : (ns : List ℕ) (next : ℕ) → IsStrictlyIncreasing ns → All (λ m. m < next) ns → IsStrictlyIncreasing (ns ++ next ∷ [])
rising_last ns next rising given = IsStrictlyIncreasing-from_sorted (ns ++ next ∷ []) (sorted_last ns next (sorted_from_strictly_increasing ns rising) given)

numbers_last : (os : List Object) (x : Object) → map object_number (os ++ x ∷ []) ≡ map object_number os ++ x.number.0 ∷ []
numbers_last [] x = refl
numbers_last (o ∷ os) x = ap (λ (ns : List ℕ). o.number.0 ∷ ns) (numbers_last os x)

within_for : (ceiling next : ℕ) → next ≤ ceiling + 1 → next + 1 ≤ cond (nat_lt ceiling next) (ceiling + 64) ceiling + 1
within_for ceiling next within = by (nat_lt ceiling next) refl
  where
    by : (b : Bool) → nat_lt ceiling next ≡ b → next + 1 ≤ cond b (ceiling + 64) ceiling + 1
    by true less = grind (arith, nat_tests, within)
    by false more = grind (arith, nat_tests)

low_for : (most step ceiling next : ℕ) → ceiling ≤ most + step → next ≤ most → cond (nat_lt ceiling next) (ceiling + step) ceiling ≤ most + step
low_for most step ceiling next low given = by (nat_lt ceiling next) refl
  where
    by : (b : Bool) → nat_lt ceiling next ≡ b → cond b (ceiling + step) ceiling ≤ most + step
    by true less = grind (arith, nat_tests)
    by false more = low

-- a ceiling that rose is forced
stayed_for : (ceiling next step : ℕ) → list_any is_forced_ceiling (cond (nat_lt ceiling (cond (nat_lt ceiling next) (ceiling + (step + 1)) ceiling)) (Ceiling ∷ []) []) ≡ false → cond (nat_lt ceiling next) (ceiling + (step + 1)) ceiling ≡ ceiling
stayed_for ceiling next step not = by (nat_lt ceiling next) not
  where
    more : nat_lt ceiling (ceiling + (step + 1)) ≡ true
    more = grind (arith, nat_tests)

    by : (b : Bool) → list_any is_forced_ceiling (cond (nat_lt ceiling (cond b (ceiling + (step + 1)) ceiling)) (Ceiling ∷ []) []) ≡ false → cond b (ceiling + (step + 1)) ceiling ≡ ceiling
    by true not = absurd (let e : true ≡ false = sym (ap (λ b. list_any is_forced_ceiling (cond b (Ceiling ∷ []) [])) more) ∙ not in cc)
    by false not = refl

-- of the ceiling no number is spoken
pub ceiling_silent : (n : ℕ) (b : Bool) → is_forced n (cond b (Ceiling ∷ []) []) ≡ true → false ≡ true
ceiling_silent n true is = is
ceiling_silent n false is = is

module _ (h : Held) (x : Object) (are : AreNumbered h) (number : x.number.0 ≡ h.next) (left : h.next ≤ last_number) where
  abbrev pub more : Held
  more = with_object h x

  made_object : (m : ℕ) → object more m ≡ cond (h.next == m) (Some x) (object h m)
  made_object m =
      object_last m x h.objects (subst (λ (n : ℕ). object_in h.objects n ≡ None) (sym number) (none_next h are))
      ∙ ap (λ (n : ℕ). cond (n == m) (Some x) (object h m)) number

  away : (m : ℕ) → m < h.next → (h.next == m) ≡ false
  away m less = grind (arith, nat_tests, less)

  pub numbers : map object_number (h.objects ++ x ∷ []) ≡ map object_number h.objects ++ h.next ∷ []
  numbers = numbers_last h.objects x ∙ ap (λ (n : ℕ). map object_number h.objects ++ n ∷ []) number

  made_are : AreNumbered more
  made_are = record {
    rising = subst (λ (ns : List ℕ). IsStrictlyIncreasing ns) (sym numbers) (rising_last (map object_number h.objects) h.next are.rising are.given);
    given = subst (λ (ns : List ℕ). All (λ n. n < h.next + 1) ns) (sym numbers)
        (All-push (λ n. n < h.next + 1) (map object_number h.objects) h.next (All-weaker (λ n. n < h.next) (λ n. n < h.next + 1) (λ n less. omega (arith, less)) (map object_number h.objects) are.given) (omega arith));
    none = made_object 0 ∙ ap (λ b. cond b (Some x) (object h 0)) (away 0 (let one = are.first in omega (arith, one))) ∙ are.none;
    first = omega arith;
    within = within_for h.ceiling h.next are.within;
    low = low_for last_number ceiling_step h.ceiling h.next are.low left;
  }

  abbrev forces : List Forced
  forces = creation_forces h more

  abbrev raises : List Forced
  raises = cond (nat_lt h.ceiling more.ceiling) (Ceiling ∷ []) []

  abbrev wholes : List Forced
  wholes = cond (is_on_disk more h.next) (Whole h.next ∷ []) []

  made_disk : (n : ℕ) → list_any (is_whole n) forces ≡ false → is_on_disk more n ≡ true → is_on_disk h n ≡ true
  made_disk n not on = by (h.next == n) refl
    where
      itself : (b : Bool) → ((n == n) || b) ≡ false → ⊥
      itself b e = let is : (n == n) ≡ true = nat_itself n in absurd (let f : true ≡ false = sym (ap (λ c. c || b) is) ∙ e in cc)

      unless : (b : Bool) → b ≡ true → list_any (is_whole n) (cond b (Whole n ∷ []) []) ≡ false → is_on_disk h n ≡ true
      unless true on e = absurd (itself false e)
      unless false on e = absurd (let f : false ≡ true = on in cc)

      by : (b : Bool) → (h.next == n) ≡ b → is_on_disk h n ≡ true
      by true is = unless (is_on_disk more n) on (subst (λ (m : ℕ). list_any (is_whole n) (cond (is_on_disk more m) (Whole m ∷ []) []) ≡ false) (nat_same h.next n is) (any_none (is_whole n) raises wholes not).1)
      by false off = sym (ap disk_in (made_object n ∙ ap (λ b. cond b (Some x) (object h n)) off)) ∙ on

  made_forced : (n : ℕ) → is_forced n forces ≡ true → n < h.next + 1
  made_forced n is = by (any_either (speaks_of n) raises wholes is)
    where
      whole : (b : Bool) → is_forced n (cond b (Whole h.next ∷ []) []) ≡ true → n < h.next + 1
      whole true e = one_forced n h.next (h.next + 1) e (omega arith)
      whole false e = cc

      by : (is_forced n raises ≡ true) ⊎ (is_forced n wholes ≡ true) → n < h.next + 1
      by (inl e) = absurd (let f : false ≡ true = ceiling_silent n (nat_lt h.ceiling more.ceiling) e in cc)
      by (inr e) = whole (is_on_disk more h.next) e

  made_goes : Goes forces h more
  made_goes = record {
    numbered = made_are;
    next = omega arith;
    kinds = λ n less. inr (ap kind_in (made_object n ∙ ap (λ b. cond b (Some x) (object h n)) (away n less)));
    disk = made_disk;
    ceiling = λ not. stayed_for h.ceiling h.next 63 (any_none is_forced_ceiling raises wholes not).0;
    forced = made_forced;
  }

none_made : (h : Held) → AreNumbered h → Goes (creation_forces h h) h h
none_made h are = same_goes (creation_forces h h) h h are (same_itself h) forced
  where
    at : (n : ℕ) (b : Bool) → is_on_disk h h.next ≡ b → is_forced n (cond b (Whole h.next ∷ []) []) ≡ true → n < h.next
    at n true on is = absurd (let none = ap disk_in (none_next h are) in let e : false ≡ true = sym none ∙ on in cc)
    at n false off is = cc

    by : (n : ℕ) → (is_forced n (cond (nat_lt h.ceiling h.ceiling) (Ceiling ∷ []) []) ≡ true) ⊎ (is_forced n (cond (is_on_disk h h.next) (Whole h.next ∷ []) []) ≡ true) → n < h.next
    by n (inl e) = absurd (let f : false ≡ true = ceiling_silent n (nat_lt h.ceiling h.ceiling) e in cc)
    by n (inr e) = at n (is_on_disk h h.next) refl e

    forced : (n : ℕ) → is_forced n (creation_forces h h) ≡ true → n < h.next
    forced n is = by n (any_either (speaks_of n) (cond (nat_lt h.ceiling h.ceiling) (Ceiling ∷ []) []) (cond (is_on_disk h h.next) (Whole h.next ∷ []) []) is)

pub made_by_goes : (h : Held) (owner : ℕ) (made : Creating) (body : Option Body) → AreNumbered h → h.next ≤ last_number → Goes (creation_forces h (made_by h owner made body)) h (made_by h owner made body)
unfolding creation_changes
made_by_goes h owner made None are left = none_made h are
made_by_goes h owner made (Some body) are left = by made.id
  where
    by : (id : Option Id) → Goes (creation_forces h (created h owner made body id)) h (created h owner made body id)
    by None = none_made h are
    by (Some id) = made_goes h (new_object h owner made id body) are refl left

numbers_without : (os : List Object) (n : ℕ) → map object_number (without_in os n) ≡ filter (λ m. not (m == n)) (map object_number os)
numbers_without [] n = refl
numbers_without (o ∷ os) n = by (o.number.0 == n) (numbers_without os n)
  where
    by : (b : Bool) → map object_number (without_in os n) ≡ filter (λ m. not (m == n)) (map object_number os)
        → map object_number (cond (not b) (o ∷ without_in os n) (without_in os n)) ≡ cond (not b) (o.number.0 ∷ filter (λ m. not (m == n)) (map object_number os)) (filter (λ m. not (m == n)) (map object_number os))
    by true rest = rest
    by false rest = ap (λ (ns : List ℕ). o.number.0 ∷ ns) rest

without_left : (h : Held) (m n : ℕ) → Left (kind_at h n) (kind_at (without h m) n)
without_left h m n = by (m == n) (object_without m n h.objects)
  where
    by : (b : Bool) → object (without h m) n ≡ cond b None (object h n) → Left (kind_at h n) (kind_at (without h m) n)
    by true is = inl (ap kind_in is)
    by false is = inr (ap kind_in is)

without_disk : (h : Held) (m n : ℕ) → is_on_disk (without h m) n ≡ true → is_on_disk h n ≡ true
without_disk h m n on = by (m == n) (object_without m n h.objects)
  where
    by : (b : Bool) → object (without h m) n ≡ cond b None (object h n) → is_on_disk h n ≡ true
    by true is = absurd (let e : false ≡ true = sym (ap disk_in is) ∙ on in cc)
    by false is = sym (ap disk_in is) ∙ on

without_are : (h : Held) (m : ℕ) → AreNumbered h → AreNumbered (without h m)
without_are h m are = record {
  rising = subst (λ (ns : List ℕ). IsStrictlyIncreasing ns) (sym (numbers_without h.objects m)) (IsStrictlyIncreasing-filter (λ k. not (k == m)) (map object_number h.objects) are.rising);
  given = subst (λ (ns : List ℕ). All (λ k. k < h.next) ns) (sym (numbers_without h.objects m)) (All-filter (λ k. not (k == m)) (λ k. k < h.next) (map object_number h.objects) are.given);
  none = object_without m 0 h.objects ∙ ap (λ (x : Option Object). cond (m == 0) None x) are.none ∙ nothing (m == 0);
  first = are.first;
  within = are.within;
  low = are.low;
}
  where
    nothing : (b : Bool) → ◌≡◌ {A = Option Object} (cond b None None) None
    nothing true = refl
    nothing false = refl

pub gone_goes : (h : Held) (kind : Kind) (m : ℕ) → AreNumbered h → Goes (forced_removal h kind m) h (destroyed h kind m)
gone_goes h kind m are = by (is_of_kind kind (object h m)) refl
  where
    by : (b : Bool) → is_of_kind kind (object h m) ≡ b → Goes (forced_removal h kind m) h (cond b (without h m) h)
    by true of = record {
      numbered = without_are h m are;
      next = omega arith;
      kinds = λ n less. without_left h m n;
      disk = λ n not on. without_disk h m n on;
      ceiling = λ not. refl;
      forced = λ n is. removed_given h kind m n are is;
    }
    by false of = same_goes (forced_removal h kind m) h h are (same_itself h) (λ n is. removed_given h kind m n are is)
