-- The two maps belong together after each change.
use Rattle.std.proofs.Common.{◌≡◌, ℕ, ◌+◌, ◌<◌, ◌≤◌, ◌==◌, Bool, true, false, cond, List, [], ◌∷◌, ◌++◌, map, refl, sym, ◌∙◌, ap, subst, arith}
use Rattle.std.specs.Prelude.{Option, Some, None, All, ◌||◌, is_some}
use Rattle.std.specs.Option.{option_map}
use Rattle.std.specs.Ordering.{nat_cmp}
use Rattle.std.proofs.lemmas.Map.Keys.{IsStrictlyIncreasing-from_sorted}
use Rattle.std.proofs.lemmas.List.Elements.{All-cons, All-nil}
use Rattle.std.specs.Map.{keys_of, values_of, lookup, remove_entry}
use Rattle.std.specs.BTreeMap.{BTreeMap, IsOrdered, get, insert_entry, is_at, values}
use Rattle.s38_base.specs.declared.id.Id.{Id}
use Rattle.s38_base.specs.declared.id.ObjNum.{ObjNum}
use Rattle.s38_rules.specs.declared.object.Object.{Object}
use Rattle.s38_rules.specs.state.Held.{change_in, found, found_in, is_named, number_found, number_in, object_in}
use Rattle.s38_objects.specs.declared.name_key.NameKey.{NameKey}
use Rattle.s38_objects.specs.Changes.{KeepsName, changed_at}
use Rattle.s38_objects.specs.Lawful.{IsObjectMap, is_place_of, number_of}
use Rattle.s38_objects.specs.Indexed.{AreNames, AreNumbered, IsIndexed, is_open}
use Rattle.s38_objects.specs.NameOrder.{key, name_cmp}
use Rattle.s38_objects.proofs.NumberLaws.{found_by_number, given_there, insert_last, keys_changed, none_ahead, numbered_changed, numbered_last, numbered_raised, numbered_without, nat_same, open_changed, open_last, open_raised, open_there, open_without, values_changed, values_last, values_without}
use Rattle.s38_objects.proofs.NameLaws.{apart_changed, apart_fewer, apart_last, apart_without, found_like, names_changed, names_last, names_without}

pub indexed_none : (m : BTreeMap ℕ Object) (names : BTreeMap NameKey ℕ) (next : ℕ) → m.entries ≡ [] → names.entries ≡ [] → IsOrdered nat_cmp m → IsIndexed m names next
indexed_none m names next e f sorted = record {
  ordered = sorted;
  numbered = rw e tt;
  apart = rw e tt;
  named = record { lead = λ context id there. rw (e, f) refl };
}

pub indexed_raised : (m : BTreeMap ℕ Object) (names : BTreeMap NameKey ℕ) (next more : ℕ) → IsIndexed m names next → next ≤ more → IsIndexed m names more
indexed_raised m names next more h high =
    let less : (k : ℕ) → is_open more (values m) k ≡ true → is_open next (values m) k ≡ true = λ k there. open_raised next more k (values m) high there in
    record {
      ordered = h.ordered;
      numbered = numbered_raised next more m.entries h.numbered high;
      apart = apart_fewer (is_open next (values m)) (is_open more (values m)) (values m) less h.apart;
      named = record { lead = λ context id there. h.named.lead context id (less context there) };
    }

-- what is found by name is found by its number
pub found_object : (m : BTreeMap ℕ Object) (names : BTreeMap NameKey ℕ) (next ceiling context : ℕ) (id : Id) (n : ObjNum) → IsIndexed m names next →
    Some n ≡ number_found (record { objects = values m; next = next; ceiling = ceiling }) context id → lookup (is_at (nat_cmp n.0)) m.entries ≡ found (record { objects = values m; next = next; ceiling = ceiling }) context id
found_object m names next ceiling context id n h found = by_context (is_some (object_in (values m) context)) found
  where
    by_name : (r : Option Object) → found_in (values m) context id ≡ r → Some n ≡ number_in r → lookup (is_at (nat_cmp n.0)) m.entries ≡ r
    by_name None q e = absurd (cc)
    by_name (Some o) q e = let same : o.number ≡ n = cc in
        subst (λ (k : ObjNum). lookup (is_at (nat_cmp k.0)) m.entries ≡ Some o) same (found_by_number next (is_named context id) o m.entries h.numbered h.ordered q)

    by_context : (b : Bool) → Some n ≡ number_in (cond b (found_in (values m) context id) None) → lookup (is_at (nat_cmp n.0)) m.entries ≡ cond b (found_in (values m) context id) None
    by_context true e = by_name (found_in (values m) context id) refl e
    by_context false e = absurd (cc)

-- ---- one more object

pub values_added : (m n : BTreeMap ℕ Object) (names : BTreeMap NameKey ℕ) (next : ℕ) (o : Object) → IsIndexed m names next → next ≤ number_of o →
    n.entries ≡ insert_entry nat_cmp m.entries (number_of o) o → values n ≡ values m ++ o ∷ []
values_added m n names next o h high e = rw (e, insert_last next (number_of o) o m.entries h.numbered high) (values_last (number_of o) o m.entries)

-- the context of a new object was given, or is the object
pub near : (m : BTreeMap ℕ Object) (names : BTreeMap NameKey ℕ) (next ceiling : ℕ) (o : Object) → IsIndexed m names next → next ≤ number_of o →
    is_place_of (record { objects = values m; next = next; ceiling = ceiling }) o ≡ true → o.context.0 ≤ number_of o
near m names next ceiling o h high placed =
    by_cases (o.context.0 == 0) (is_some (object_in (values m) o.context.0)) (o.context.0 == number_of o) refl refl refl placed
  where
    by_cases : (a b c : Bool) → (o.context.0 == 0) ≡ a → is_some (object_in (values m) o.context.0) ≡ b → (o.context.0 == number_of o) ≡ c → ((a || b) || c) ≡ true → o.context.0 ≤ number_of o
    by_cases true b c p q r all = omega (arith, nat_same o.context.0 0 p)
    by_cases false true c p q r all = omega (arith, given_there next o.context.0 m.entries h.numbered q)
    by_cases false false true p q r all = omega (arith, nat_same o.context.0 (number_of o) r)
    by_cases false false false p q r all = absurd (cc)

nowhere : (id : Id) (os : List Object) → found_in os 0 id ≡ None
nowhere id [] = refl
nowhere id (x ∷ os) = nowhere id os

-- no object says the context and has the identification of a new one
pub fresh : (m : BTreeMap ℕ Object) (names : BTreeMap NameKey ℕ) (next ceiling : ℕ) (o : Object) → IsIndexed m names next → next ≤ number_of o →
    is_place_of (record { objects = values m; next = next; ceiling = ceiling }) o ≡ true → found (record { objects = values m; next = next; ceiling = ceiling }) o.context.0 o.id ≡ None →
    found_in (values m) o.context.0 o.id ≡ None
fresh m names next ceiling o h high placed unnamed =
    by_cases (o.context.0 == 0) (is_some (object_in (values m) o.context.0)) (o.context.0 == number_of o) refl refl refl placed unnamed
  where
    by_cases : (a b c : Bool) → (o.context.0 == 0) ≡ a → is_some (object_in (values m) o.context.0) ≡ b → (o.context.0 == number_of o) ≡ c → ((a || b) || c) ≡ true → cond b (found_in (values m) o.context.0 o.id) None ≡ None →
        found_in (values m) o.context.0 o.id ≡ None
    by_cases true b c p q r all none = subst (λ (k : ℕ). found_in (values m) k o.id ≡ None) (sym (nat_same o.context.0 0 p)) (nowhere o.id (values m))
    by_cases false true c p q r all none = none
    by_cases false false true p q r all none = none_ahead next o.context.0 o.id m.entries h.numbered (omega (arith, nat_same o.context.0 (number_of o) r, high))
    by_cases false false false p q r all none = absurd (cc)

pub indexed_added : (m n : BTreeMap ℕ Object) (names more : BTreeMap NameKey ℕ) (next : ℕ) (o : Object) → IsIndexed m names next → next ≤ number_of o → o.context.0 ≤ number_of o →
    found_in (values m) o.context.0 o.id ≡ None → n.entries ≡ insert_entry nat_cmp m.entries (number_of o) o → IsOrdered nat_cmp n →
    ((context : ℕ) (id : Id) → get name_cmp more (key context id) ≡ cond (is_named context id o) (Some (number_of o)) (get name_cmp names (key context id))) →
    IsIndexed n more (number_of o + 1)
indexed_added m n names more next o h high by none e sorted enter =
    let vs : values n ≡ values m ++ o ∷ [] = values_added m n names next o h high e in
    let less : (k : ℕ) → is_open (number_of o + 1) (values m ++ o ∷ []) k ≡ true → is_open next (values m) k ≡ true = λ k there. open_last next k o (values m) high there in
    record {
      ordered = sorted;
      numbered = rw (e, insert_last next (number_of o) o m.entries h.numbered high) (numbered_last next (number_of o) o m.entries h.numbered high refl by);
      apart = rw vs (apart_fewer (is_open next (values m)) (is_open (number_of o + 1) (values m ++ o ∷ [])) (values m ++ o ∷ []) less (apart_last (is_open next (values m)) o (values m) h.apart none));
      named = subst (λ (os : List Object). AreNames (is_open (number_of o + 1) os) more os) (sym vs) (record {
        lead = λ context id there.
            enter context id ∙ ap (λ (r : Option ℕ). cond (is_named context id o) (Some (number_of o)) r) (h.named.lead context id (less context there)) ∙ sym (names_last o (values m) context id none);
      });
    }

-- where a name was entered for an object that was not added, and taken back, all is as before
names_taken_back : (contexts : ℕ → Bool) (os : List Object) (names more back : BTreeMap NameKey ℕ) (o : Object) → AreNames contexts names os → found_in os o.context.0 o.id ≡ None →
    ((context : ℕ) (id : Id) → get name_cmp more (key context id) ≡ cond (is_named context id o) (Some (number_of o)) (get name_cmp names (key context id))) →
    ((context : ℕ) (id : Id) → get name_cmp back (key context id) ≡ cond (is_named context id o) None (get name_cmp more (key context id))) →
    AreNames contexts back os
names_taken_back contexts os names more back o h none enter leave = record {
  lead = λ context id there.
      leave context id
      ∙ elim (is_named context id o) as (λ b. is_named context id o ≡ b → cond b None (get name_cmp more (key context id)) ≡ option_map number_of (found_in os context id)) [
        | true ↦ λ q. sym (ap (option_map number_of) (found_like o context id os q ∙ none))
        | false ↦ λ q. enter context id ∙ rw q (h.lead context id there)
      ] refl;
}

-- an object that was not added
pub indexed_refused : (m n : BTreeMap ℕ Object) (names more back : BTreeMap NameKey ℕ) (next : ℕ) (o x : Object) → IsIndexed m names next →
    found_in (values m) o.context.0 o.id ≡ None → n.entries ≡ m.entries → x ≡ o →
    ((context : ℕ) (id : Id) → get name_cmp more (key context id) ≡ cond (is_named context id o) (Some (number_of o)) (get name_cmp names (key context id))) →
    ((context : ℕ) (id : Id) → get name_cmp back (key context id) ≡ cond (is_named context id x) None (get name_cmp more (key context id))) →
    IsIndexed n back next
indexed_refused m n names more back next o x h none e same enter leave =
    let left = subst (λ (y : Object). (context : ℕ) (id : Id) → get name_cmp back (key context id) ≡ cond (is_named context id y) None (get name_cmp more (key context id))) same leave in
    let all = names_taken_back (is_open next (values m)) (values m) names more back o h.named none enter left in
    record {
      ordered = rw e h.ordered;
      numbered = rw e h.numbered;
      apart = rw e h.apart;
      named = rw e all;
    }

-- ---- one object less

pub indexed_removed : (m n : BTreeMap ℕ Object) (names more : BTreeMap NameKey ℕ) (next number : ℕ) (o : Object) → IsIndexed m names next →
    lookup (is_at (nat_cmp number)) m.entries ≡ Some o → n.entries ≡ remove_entry (is_at (nat_cmp number)) m.entries → IsOrdered nat_cmp n →
    ((context : ℕ) (id : Id) → get name_cmp more (key context id) ≡ cond (is_named context id o) None (get name_cmp names (key context id))) →
    IsIndexed n more next
indexed_removed m n names more next number o h at e sorted leave =
    let test = is_at (nat_cmp number) in
    let contexts = is_open next (values m) in
    let rest = values_of (remove_entry test m.entries) in
    let less : (k : ℕ) → is_open next rest k ≡ true → is_open next (values m) k ≡ true =
    λ k there. open_without next number k (values m) (subst (λ (os : List Object). is_open next os k ≡ true) (values_without next number m.entries h.numbered h.ordered) there) in
    record {
      ordered = sorted;
      numbered = rw e (numbered_without next test m.entries h.numbered);
      apart = rw e (apart_fewer contexts (is_open next rest) rest less (apart_without contexts test m.entries h.apart));
      named = subst (λ (es : List (ℕ × Object)). AreNames (is_open next (values_of es)) more (values_of es)) (sym e) (record {
        lead = λ context id there.
            leave context id ∙ ap (λ (r : Option ℕ). cond (is_named context id o) None r) (h.named.lead context id (less context there))
            ∙ sym (names_without contexts test o context id m.entries h.apart (less context there) at);
      });
    }

-- ---- another object of the same name

pub values_changed_to : (m n : BTreeMap ℕ Object) (names : BTreeMap NameKey ℕ) (next number : ℕ) (f : Object → Object) → IsIndexed m names next →
    n.entries ≡ changed_at m.entries number f → values n ≡ change_in (values m) number f
values_changed_to m n names next number f h e = rw e (values_changed next number f m.entries h.numbered)

same_number : (f : Object → Object) → KeepsName f → (o : Object) → number_of (f o) ≡ number_of o
same_number f keeps o = rw (keeps.number o) refl

pub indexed_changed : (m n : BTreeMap ℕ Object) (names : BTreeMap NameKey ℕ) (next number : ℕ) (f : Object → Object) → KeepsName f → IsIndexed m names next →
    n.entries ≡ changed_at m.entries number f → IsIndexed n names next
indexed_changed m n names next number f keeps h e =
    let contexts = is_open next (values m) in
    let new = change_in (values m) number f in
    let vs : values n ≡ new = values_changed_to m n names next number f h e in
    let less : (k : ℕ) → is_open next new k ≡ true → contexts k ≡ true = λ k there. open_changed next number k f (values m) (same_number f keeps) there in
    record {
      ordered = rw (e, keys_changed number f m.entries) h.ordered;
      numbered = rw e (numbered_changed next number f m.entries (same_number f keeps) (λ o low. rw (keeps.context o) low) h.numbered);
      apart = rw vs (apart_fewer contexts (is_open next new) new less (apart_changed contexts number f (values m) keeps h.apart));
      named = subst (λ (os : List Object). AreNames (is_open next os) names os) (sym vs) (record {
        lead = λ context id there. h.named.lead context id (less context there) ∙ sym (names_changed number f context id (values m) keeps);
      });
    }

pub indexed_same : (m n : BTreeMap ℕ Object) (names : BTreeMap NameKey ℕ) (next : ℕ) → IsIndexed m names next → n.entries ≡ m.entries → IsIndexed n names next
indexed_same m n names next h e = record {
  ordered = rw e h.ordered;
  numbered = rw e h.numbered;
  apart = rw e h.apart;
  named = rw e h.named;
}

-- ---- what callers see

pub numbers_are_keys : (next : ℕ) (es : List (ℕ × Object)) → AreNumbered next es → map number_of (values_of es) ≡ keys_of es
numbers_are_keys next [] h = refl
numbers_are_keys next (e ∷ es) h = rw (h.0, numbers_are_keys next es h.3) refl

all_given : (next : ℕ) (es : List (ℕ × Object)) → AreNumbered next es → All (λ o. number_of o < next) (values_of es)
all_given next [] h = All-nil (λ o. number_of o < next)
all_given next (e ∷ es) h = All-cons (λ o. number_of o < next) e.1 (values_of es) (rw h.0 h.1) (all_given next es h.3)

pub lawful : (m : BTreeMap ℕ Object) (names : BTreeMap NameKey ℕ) (next ceiling : ℕ) → IsIndexed m names next → IsObjectMap (record { objects = values m; next = next; ceiling = ceiling })
lawful m names next ceiling h = record {
  rising = rw (numbers_are_keys next m.entries h.numbered) (IsStrictlyIncreasing-from_sorted (keys_of m.entries) h.ordered);
  given = all_given next m.entries h.numbered;
  apart = apart_fewer (is_open next (values m)) (λ k. is_some (object_in (values m) k)) (values m) (λ k there. open_there next (values m) k there) h.apart;
}
