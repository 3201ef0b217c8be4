-- The map from numbers to objects, and the list of its objects.
use Rattle.std.proofs.Common.{◌≡◌, ℕ, ◌+◌, ◌<◌, ◌≤◌, ◌==◌, Bool, true, false, cond, List, [], ◌∷◌, ◌++◌, refl, sym, ◌∙◌, ap, subst, not, arith}
use Rattle.std.proofs.lemmas.Bool.Decides.{nat_tests}
use Rattle.std.proofs.lemmas.List.{map-append}
use Rattle.std.proofs.lemmas.Map.Keys.{sorted_head, sorted_tail}
use Rattle.std.proofs.lemmas.Map.Steps.{set_value_same}
use Rattle.std.specs.declared.cmp.Ordering.TheVariants.{Less, Greater}
use Rattle.std.specs.Prelude.{Option, Some, None, ◌||◌, find, is_some, nat_le}
use Rattle.std.specs.Ordering.{nat_cmp}
use Rattle.std.specs.List.{AllByRecursion}
use Rattle.std.specs.List.Sorted.{IsStrictlySortedBy}
use Rattle.std.specs.Map.{keys_of, values_of, lookup, remove_entry, set_value}
use Rattle.std.specs.BTreeMap.{insert_entry, is_at}
use Rattle.s38_base.specs.declared.id.Id.{Id}
use Rattle.s38_rules.specs.declared.object.Object.{Object}
use Rattle.s38_rules.specs.state.Held.{change_in, found_in, has_number, is_named, object_in, without_in}
use Rattle.s38_objects.specs.Changes.{changed_at}
use Rattle.s38_objects.specs.Lawful.{number_of}
use Rattle.s38_objects.specs.Indexed.{AreNumbered, is_open}

-- ---- the object of a number

pub nat_same : (a b : ℕ) → (a == b) ≡ true → a ≡ b
nat_same a b h = grind (arith, nat_tests)

some_same : (x y : Object) → Some x ≡ Some y → y ≡ x
some_same x y h = cc

pub some_none : {A : Type 0} (x : A) → Some x ≡ None → ⊥
some_none x h = cc

at_key : (n k : ℕ) → is_at (nat_cmp n) k ≡ (k == n)
at_key n k = grind (arith, nat_tests)

-- an entry is sought where its object has the number
at_object : (n : ℕ) (e : ℕ × Object) → number_of e.1 ≡ e.0 → is_at (nat_cmp n) e.0 ≡ has_number n e.1
at_object n e h = at_key n e.0 ∙ ap (λ k. k == n) (sym h)

pub lookup_object : (next n : ℕ) (es : List (ℕ × Object)) → AreNumbered next es → lookup (is_at (nat_cmp n)) es ≡ object_in (values_of es) n
lookup_object next n [] h = refl
lookup_object next n (e ∷ es) h = rw (at_object n e h.0, lookup_object next n es h.3) refl

-- ---- one more at the end

above_keys : (next n : ℕ) (k : ℕ) → k < next → next ≤ n → nat_cmp n k ≡ Greater
above_keys next n k low high = grind (arith, nat_tests)

pub insert_last : (next n : ℕ) (o : Object) (es : List (ℕ × Object)) → AreNumbered next es → next ≤ n → insert_entry nat_cmp es n o ≡ es ++ (n, o) ∷ []
insert_last next n o [] h high = refl
insert_last next n o (e ∷ es) h high =
    rw (above_keys next n e.0 h.1 high) (ap (λ (fs : List (ℕ × Object)). e ∷ fs) (insert_last next n o es h.3 high))

pub values_last : (n : ℕ) (o : Object) (es : List (ℕ × Object)) → values_of (es ++ (n, o) ∷ []) ≡ values_of es ++ o ∷ []
values_last n o es = map-append (λ (e : ℕ × Object). e.1) es ((n, o) ∷ [])

pub numbered_last : (next n : ℕ) (o : Object) (es : List (ℕ × Object)) → AreNumbered next es → next ≤ n → number_of o ≡ n → o.context.0 ≤ n → AreNumbered (n + 1) (es ++ (n, o) ∷ [])
numbered_last next n o [] h high e near = (e, omega arith, omega (arith, near), tt)
numbered_last next n o (x ∷ es) h high e near = (h.0, omega (arith, h.1), omega (arith, h.2), numbered_last next n o es h.3 high e near)

pub numbered_raised : (next more : ℕ) (es : List (ℕ × Object)) → AreNumbered next es → next ≤ more → AreNumbered more es
numbered_raised next more [] h high = tt
numbered_raised next more (e ∷ es) h high = (h.0, omega (arith, h.1), omega (arith, h.2), numbered_raised next more es h.3 high)

-- ---- one less

-- no object after one with a lesser number has that number
without_above : (next n : ℕ) (es : List (ℕ × Object)) → AreNumbered next es → AllByRecursion (λ k. nat_cmp n k ≡ Less) (keys_of es) → without_in (values_of es) n ≡ values_of es
without_above next n [] h above = refl
without_above next n (e ∷ es) h above =
    let off : has_number n e.1 ≡ false = sym (at_object n e h.0) ∙ rw above.0 refl in
    rw off (ap (λ (os : List Object). e.1 ∷ os) (without_above next n es h.3 above.1))

key_same : (n : ℕ) (e : ℕ × Object) → number_of e.1 ≡ e.0 → has_number n e.1 ≡ true → e.0 ≡ n
key_same n e h same = sym h ∙ nat_same (number_of e.1) n same

without_first : (next n : ℕ) (e : ℕ × Object) (es : List (ℕ × Object)) → AreNumbered next es → e.0 ≡ n → IsStrictlySortedBy nat_cmp (keys_of (e ∷ es)) → without_in (values_of es) n ≡ values_of es
without_first next n e es h same sorted =
    without_above next n es h (subst (λ (m : ℕ). AllByRecursion (λ k. nat_cmp m k ≡ Less) (keys_of es)) same (sorted_head nat_cmp e.0 (keys_of es) sorted))

-- where the numbers rise, no other object has the number of the one that is taken out
pub values_without : (next n : ℕ) (es : List (ℕ × Object)) → AreNumbered next es → IsStrictlySortedBy nat_cmp (keys_of es) → values_of (remove_entry (is_at (nat_cmp n)) es) ≡ without_in (values_of es) n
values_without next n [] h sorted = refl
values_without next n (e ∷ es) h sorted =
    let rest = values_without next n es h.3 (sorted_tail nat_cmp e.0 (keys_of es) sorted) in
    rw (at_object n e h.0)
    (elim (has_number n e.1) as (λ b. has_number n e.1 ≡ b → values_of (cond b es (e ∷ remove_entry (is_at (nat_cmp n)) es)) ≡ cond (not b) (e.1 ∷ without_in (values_of es) n) (without_in (values_of es) n)) [
      | true ↦ λ same. sym (without_first next n e es h.3 (key_same n e h.0 same) sorted)
      | false ↦ λ other. ap (λ (os : List Object). e.1 ∷ os) rest
    ] refl)

pub numbered_without : (next : ℕ) (test : ℕ → Bool) (es : List (ℕ × Object)) → AreNumbered next es → AreNumbered next (remove_entry test es)
numbered_without next test [] h = tt
numbered_without next test (e ∷ es) h =
    let rest = numbered_without next test es h.3 in
    elim (test e.0) as (λ b. AreNumbered next (cond b es (e ∷ remove_entry test es))) [
      | true ↦ h.3
      | false ↦ (h.0, h.1, h.2, rest)
    ]

-- ---- another object at a number

pub keys_changed : (n : ℕ) (f : Object → Object) (es : List (ℕ × Object)) → keys_of (changed_at es n f) ≡ keys_of es
keys_changed n f [] = refl
keys_changed n f (e ∷ es) =
    let rest = keys_changed n f es in
    elim (e.0 == n) as (λ b. keys_of (cond b ((e.0, f e.1) ∷ es) (e ∷ changed_at es n f)) ≡ e.0 ∷ keys_of es) [
      | true ↦ refl
      | false ↦ ap (λ (ks : List ℕ). e.0 ∷ ks) rest
    ]

pub values_changed : (next n : ℕ) (f : Object → Object) (es : List (ℕ × Object)) → AreNumbered next es → values_of (changed_at es n f) ≡ change_in (values_of es) n f
values_changed next n f [] h = refl
values_changed next n f (e ∷ es) h =
    let rest = values_changed next n f es h.3 in
    rw (ap (λ k. k == n) (sym h.0))
    (elim (has_number n e.1) as (λ b. values_of (cond b ((e.0, f e.1) ∷ es) (e ∷ changed_at es n f)) ≡ cond b (f e.1 ∷ values_of es) (e.1 ∷ change_in (values_of es) n f)) [
      | true ↦ refl
      | false ↦ ap (λ (os : List Object). e.1 ∷ os) rest
    ])

pub numbered_changed : (next n : ℕ) (f : Object → Object) (es : List (ℕ × Object)) → ((o : Object) → number_of (f o) ≡ number_of o) → ((o : Object) → o.context.0 < next → (f o).context.0 < next) → AreNumbered next es → AreNumbered next (changed_at es n f)
numbered_changed next n f [] same given h = tt
numbered_changed next n f (e ∷ es) same given h =
    let rest = numbered_changed next n f es same given h.3 in
    elim (e.0 == n) as (λ b. AreNumbered next (cond b ((e.0, f e.1) ∷ es) (e ∷ changed_at es n f))) [
      | true ↦ (same e.1 ∙ h.0, h.1, given e.1 h.2, h.3)
      | false ↦ (h.0, h.1, h.2, rest)
    ]

-- what is found at the number and written back as another object
pub object_found : (n : ℕ) (f : Object → Object) (o : Object) (es : List (ℕ × Object)) → lookup (is_at (nat_cmp n)) es ≡ Some o → set_value (is_at (nat_cmp n)) es (f o) ≡ changed_at es n f
object_found n f o [] h = cc
object_found n f o (e ∷ es) h =
    let rest = object_found n f o es in
    let at : is_at (nat_cmp n) e.0 ≡ (e.0 == n) = at_key n e.0 in
    let found : cond (e.0 == n) (Some e.1) (lookup (is_at (nat_cmp n)) es) ≡ Some o = rw at at h in
    rw at
    (elim (e.0 == n) as (λ b. cond b (Some e.1) (lookup (is_at (nat_cmp n)) es) ≡ Some o → cond b ((e.0, f o) ∷ es) (e ∷ set_value (is_at (nat_cmp n)) es (f o)) ≡ cond b ((e.0, f e.1) ∷ es) (e ∷ changed_at es n f)) [
      | true ↦ λ (q : Some e.1 ≡ Some o). let same : e.1 ≡ o = cc in ap (λ (x : Object). (e.0, f x) ∷ es) (sym same)
      | false ↦ λ q. ap (λ (fs : List (ℕ × Object)). e ∷ fs) (rest q)
    ] found)

pub object_absent : (n : ℕ) (f : Object → Object) (es : List (ℕ × Object)) → lookup (is_at (nat_cmp n)) es ≡ None → changed_at es n f ≡ es
object_absent n f [] h = refl
object_absent n f (e ∷ es) h =
    let rest = object_absent n f es in
    let at : is_at (nat_cmp n) e.0 ≡ (e.0 == n) = at_key n e.0 in
    let found : cond (e.0 == n) (Some e.1) (lookup (is_at (nat_cmp n)) es) ≡ None = rw at at h in
    elim (e.0 == n) as (λ b. cond b (Some e.1) (lookup (is_at (nat_cmp n)) es) ≡ None → cond b ((e.0, f e.1) ∷ es) (e ∷ changed_at es n f) ≡ e ∷ es) [
      | true ↦ λ q. absurd (some_none e.1 q)
      | false ↦ λ q. ap (λ (fs : List (ℕ × Object)). e ∷ fs) (rest q)
    ] found

-- an object that is written back after it was changed
pub object_written : (n : ℕ) (f : Object → Object) (o x : Object) (es new : List (ℕ × Object)) → Some o ≡ lookup (is_at (nat_cmp n)) es → new ≡ set_value (is_at (nat_cmp n)) es x → x ≡ f o → new ≡ changed_at es n f
object_written n f o x es new found written same =
    written ∙ ap (λ (y : Object). set_value (is_at (nat_cmp n)) es y) same ∙ object_found n f o es (sym found)

-- an object that is written back as it was
pub object_unchanged : (n : ℕ) (o x : Object) (es new : List (ℕ × Object)) → Some o ≡ lookup (is_at (nat_cmp n)) es → new ≡ set_value (is_at (nat_cmp n)) es x → x ≡ o → new ≡ es
object_unchanged n o x es new found written same =
    written ∙ ap (λ (y : Object). set_value (is_at (nat_cmp n)) es y) same ∙ set_value_same (is_at (nat_cmp n)) es o (sym found)

-- there is none that could be changed
pub object_missing : (n : ℕ) (f : Object → Object) (es new : List (ℕ × Object)) → None ≡ lookup (is_at (nat_cmp n)) es → new ≡ es → new ≡ changed_at es n f
object_missing n f es new none same = same ∙ sym (object_absent n f es (sym none))

-- ---- which contexts are there

-- a context that is there is open
pub open_there : (next : ℕ) (os : List Object) (k : ℕ) → is_some (object_in os k) ≡ true → is_open next os k ≡ true
open_there next os k there = or_true (nat_le next k) (is_some (object_in os k)) there
  where
    or_true : (a b : Bool) → b ≡ true → (a || b) ≡ true
    or_true true b h = refl
    or_true false b h = h

some_changed : (n k : ℕ) (f : Object → Object) (os : List Object) → ((o : Object) → number_of (f o) ≡ number_of o) → is_some (object_in (change_in os n f) k) ≡ is_some (object_in os k)
some_changed n k f [] same = refl
some_changed n k f (o ∷ os) same =
    let rest = some_changed n k f os same in
    let here : has_number k (f o) ≡ has_number k o = ap (λ m. m == k) (same o) in
    elim (has_number n o) as (λ b. is_some (object_in (cond b (f o ∷ os) (o ∷ change_in os n f)) k) ≡ is_some (cond (has_number k o) (Some o) (object_in os k))) [
      | true ↦ rw here (elim (has_number k o) as (λ b. is_some (cond b (Some (f o)) (object_in os k)) ≡ is_some (cond b (Some o) (object_in os k))) [ true ↦ refl | false ↦ refl ])
      | false ↦ elim (has_number k o) as (λ b. is_some (cond b (Some o) (object_in (change_in os n f) k)) ≡ is_some (cond b (Some o) (object_in os k))) [ true ↦ refl | false ↦ rest ]
    ]

pub open_changed : (next n k : ℕ) (f : Object → Object) (os : List Object) → ((o : Object) → number_of (f o) ≡ number_of o) → is_open next (change_in os n f) k ≡ true → is_open next os k ≡ true
open_changed next n k f os same h = ap (λ b. nat_le next k || b) (sym (some_changed n k f os same)) ∙ h

or_right : (a b c : Bool) → (b ≡ true → c ≡ true) → (a || b) ≡ true → (a || c) ≡ true
or_right true b c f h = refl
or_right false b c f h = f h

some_without : (n k : ℕ) (os : List Object) → is_some (object_in (without_in os n) k) ≡ true → is_some (object_in os k) ≡ true
some_without n k [] h = h
some_without n k (o ∷ os) h =
    let rest = some_without n k os in
    elim (has_number n o) as (λ b. is_some (object_in (cond (not b) (o ∷ without_in os n) (without_in os n)) k) ≡ true → is_some (cond (has_number k o) (Some o) (object_in os k)) ≡ true) [
      | true ↦ λ q. elim (has_number k o) as (λ b. is_some (cond b (Some o) (object_in os k)) ≡ true) [ true ↦ refl | false ↦ rest q ]
      | false ↦ elim (has_number k o) as (λ b. is_some (cond b (Some o) (object_in (without_in os n) k)) ≡ true → is_some (cond b (Some o) (object_in os k)) ≡ true) [ true ↦ λ q. refl | false ↦ rest ]
    ] h

pub open_without : (next n k : ℕ) (os : List Object) → is_open next (without_in os n) k ≡ true → is_open next os k ≡ true
open_without next n k os h = or_right (nat_le next k) (is_some (object_in (without_in os n) k)) (is_some (object_in os k)) (some_without n k os) h

pub open_raised : (next more k : ℕ) (os : List Object) → next ≤ more → is_open more os k ≡ true → is_open next os k ≡ true
open_raised next more k os high h =
    elim (nat_le more k) as (λ b. nat_le more k ≡ b → (b || is_some (object_in os k)) ≡ true → is_open next os k ≡ true) [
      | true ↦ λ q r. let early : nat_le next k ≡ true = below q in rw early refl
      | false ↦ λ q r. or_right_side (nat_le next k) _ r
    ] refl h
  where
    below : nat_le more k ≡ true → nat_le next k ≡ true
    below q = grind (arith, nat_tests)

    or_right_side : (a b : Bool) → b ≡ true → (a || b) ≡ true
    or_right_side true b q = refl
    or_right_side false b q = q

last_other : (k : ℕ) (o : Object) (os : List Object) → has_number k o ≡ false → object_in (os ++ o ∷ []) k ≡ object_in os k
last_other k o [] other = rw other refl
last_other k o (x ∷ os) other = ap (λ (r : Option Object). cond (has_number k x) (Some x) r) (last_other k o os other)

-- a context that is opened with one more object was not given before
pub open_last : (next k : ℕ) (o : Object) (os : List Object) → next ≤ number_of o → is_open (number_of o + 1) (os ++ o ∷ []) k ≡ true → is_open next os k ≡ true
open_last next k o os high h =
    elim (nat_le next k) as (λ b. nat_le next k ≡ b → (b || is_some (object_in os k)) ≡ true) [
      | true ↦ λ q. refl
      | false ↦ λ q. let late : nat_le (number_of o + 1) k ≡ false = after q in
          let other : has_number k o ≡ false = apart q in
          let found : is_some (object_in (os ++ o ∷ []) k) ≡ true = subst (λ (b : Bool). (b || is_some (object_in (os ++ o ∷ []) k)) ≡ true) late h in
          ap is_some (sym (last_other k o os other)) ∙ found
    ] refl
  where
    after : nat_le next k ≡ false → nat_le (number_of o + 1) k ≡ false
    after q = grind (arith, nat_tests)

    apart : nat_le next k ≡ false → has_number k o ≡ false
    apart q = grind (arith, nat_tests)

-- ---- an object that is found otherwise

pub found_above : (next low : ℕ) (p : Object → Bool) (o : Object) (es : List (ℕ × Object)) → AreNumbered next es → AllByRecursion (λ k. nat_cmp low k ≡ Less) (keys_of es) → find p (values_of es) ≡ Some o → nat_cmp low (number_of o) ≡ Less
found_above next low p o [] h above found = cc
found_above next low p o (e ∷ es) h above found =
    let rest = found_above next low p o es h.3 above.1 in
    elim (p e.1) as (λ b. cond b (Some e.1) (find p (values_of es)) ≡ Some o → nat_cmp low (number_of o) ≡ Less) [
      | true ↦ λ (q : Some e.1 ≡ Some o). let same : e.1 ≡ o = cc in
          let here : nat_cmp low (number_of e.1) ≡ Less = rw h.0 above.0 in subst (λ (x : Object). nat_cmp low (number_of x) ≡ Less) same here
      | false ↦ rest
    ] found

less_apart : (low n : ℕ) → nat_cmp low n ≡ Less → (low == n) ≡ false
less_apart low n h = grind (arith, nat_tests)

at_itself : (n : ℕ) → (n == n) ≡ true
at_itself n = grind (arith, nat_tests)

-- an object that is found is found by its number
pub found_by_number : (next : ℕ) (p : Object → Bool) (o : Object) (es : List (ℕ × Object)) → AreNumbered next es → IsStrictlySortedBy nat_cmp (keys_of es) → find p (values_of es) ≡ Some o → lookup (is_at (nat_cmp (number_of o))) es ≡ Some o
found_by_number next p o [] h sorted found = cc
found_by_number next p o (e ∷ es) h sorted found =
    elim (p e.1) as (λ b. cond b (Some e.1) (find p (values_of es)) ≡ Some o → cond (is_at (nat_cmp (number_of o)) e.0) (Some e.1) (lookup (is_at (nat_cmp (number_of o))) es) ≡ Some o) [
      | true ↦ λ (q : Some e.1 ≡ Some o). let same : number_of o ≡ e.0 = ap (λ (x : Object). number_of x) (some_same e.1 o q) ∙ h.0 in
          let here : is_at (nat_cmp (number_of o)) e.0 ≡ true = at_key (number_of o) e.0 ∙ rw same (at_itself e.0) in rw here q
      | false ↦ λ q.
          let above = found_above next e.0 p o es h.3 (sorted_head nat_cmp e.0 (keys_of es) sorted) q in
          let other : is_at (nat_cmp (number_of o)) e.0 ≡ false = at_key (number_of o) e.0 ∙ less_apart e.0 (number_of o) above in
          rw other (found_by_number next p o es h.3 (sorted_tail nat_cmp e.0 (keys_of es) sorted) q)
    ] found

-- no object says a context whose number was not given
pub none_ahead : (next context : ℕ) (id : Id) (es : List (ℕ × Object)) → AreNumbered next es → next ≤ context → found_in (values_of es) context id ≡ None
none_ahead next context id [] h high = refl
none_ahead next context id (e ∷ es) h high =
    let other : is_named context id e.1 ≡ false = elsewhere context id e.1 (omega (arith, h.2)) in
    rw other (none_ahead next context id es h.3 high)
  where
    elsewhere : (context : ℕ) (id : Id) (o : Object) → o.context.0 < context → is_named context id o ≡ false
    elsewhere context id o low = grind (arith, nat_tests)

-- an object that is there was given its number
pub given_there : (next n : ℕ) (es : List (ℕ × Object)) → AreNumbered next es → is_some (object_in (values_of es) n) ≡ true → n < next
given_there next n [] h there = absurd (cc)
given_there next n (e ∷ es) h there =
    elim (has_number n e.1) as (λ b. has_number n e.1 ≡ b → is_some (cond b (Some e.1) (object_in (values_of es) n)) ≡ true → n < next) [
      | true ↦ λ q r. let same : e.0 ≡ n = key_same n e h.0 q in omega (arith, h.1, same)
      | false ↦ λ q r. given_there next n es h.3 r
    ] refl there
