-- An object that gets another name: what the names lead to then.
use Rattle.std.proofs.Common.{◌≡◌, ℕ, ◌<◌, Bool, true, false, cond, not, List, [], ◌∷◌, refl, sym, ◌∙◌, ap, subst, arith}
use Rattle.std.proofs.lemmas.Bool.Decides.{nat_tests}
use Rattle.std.proofs.lemmas.Map.Keys.{sorted_head, sorted_tail}
use Rattle.std.specs.Prelude.{Option, Some, None, ◌||◌, is_some, nat_le}
use Rattle.std.specs.declared.cmp.Ordering.TheVariants.{Less}
use Rattle.std.specs.List.Sorted.{IsStrictlySortedBy}
use Rattle.std.specs.Option.{option_map}
use Rattle.std.specs.Ordering.{nat_cmp}
use Rattle.std.specs.Map.{keys_of, values_of, lookup}
use Rattle.std.specs.BTreeMap.{BTreeMap, get, is_at, values}
use Rattle.s38_base.specs.declared.id.Id.{Id}
use Rattle.s38_base.specs.declared.id.ObjNum.{ObjNum}
use Rattle.s38_rules.specs.declared.object.Object.{Object}
use Rattle.s38_rules.specs.families.Creation.{is_another}
use Rattle.s38_rules.specs.state.Held.{change_in, found_in, has_number, is_named, object_in}
use Rattle.s38_objects.specs.declared.name_key.NameKey.{NameKey}
use Rattle.s38_objects.specs.Changes.{changed_at, placed}
use Rattle.s38_objects.specs.Lawful.{AreApart, number_of}
use Rattle.s38_objects.specs.Indexed.{AreNames, AreNumbered, IsIndexed, is_open}
use Rattle.s38_objects.specs.NameOrder.{is_found_by, key, name_cmp}
use Rattle.s38_objects.proofs.NameLaws.{apart_fewer, found_like, in_that_context, named_like, named_other_way, no_number, none_first, none_rest}
use Rattle.s38_objects.proofs.NumberLaws.{found_above, keys_changed, lookup_object, nat_same, numbered_changed, open_changed, values_changed}

-- ---- the map from names to numbers

-- the name before is another one, and leads to the object no more
pub renamed_left : (o : Object) (c : ObjNum) (id : Id) (w : Option ℕ) (before between after : BTreeMap NameKey ℕ) → is_named c.0 id o ≡ false →
    ((there : ℕ) (b : Id) → get name_cmp between (key there b) ≡ cond (is_found_by c.0 id there b) w (get name_cmp before (key there b))) →
    ((there : ℕ) (b : Id) → get name_cmp after (key there b) ≡ cond (is_named there b o) None (get name_cmp between (key there b))) →
    (there : ℕ) (b : Id) → get name_cmp after (key there b) ≡ cond (is_found_by c.0 id there b) w (cond (is_named there b o) None (get name_cmp before (key there b)))
renamed_left o c id w before between after off enter leave there b =
    elim (is_found_by c.0 id there b) as (λ t. is_found_by c.0 id there b ≡ t → get name_cmp after (key there b) ≡ cond t w (cond (is_named there b o) None (get name_cmp before (key there b)))) [
      | true ↦ λ q. let other : is_named there b o ≡ false = named_like (placed c id o) o there b q ∙ off in
          leave there b ∙ rw other (enter there b ∙ rw q refl)
      | false ↦ λ q. leave there b ∙ ap (λ (r : Option ℕ). cond (is_named there b o) None r) (enter there b ∙ rw q refl)
    ] refl

-- the name before is the same
pub renamed_same : (o : Object) (c : ObjNum) (id : Id) (w : Option ℕ) (before after : BTreeMap NameKey ℕ) → is_named c.0 id o ≡ true →
    ((there : ℕ) (b : Id) → get name_cmp after (key there b) ≡ cond (is_found_by c.0 id there b) w (get name_cmp before (key there b))) →
    (there : ℕ) (b : Id) → get name_cmp after (key there b) ≡ cond (is_found_by c.0 id there b) w (cond (is_named there b o) None (get name_cmp before (key there b)))
renamed_same o c id w before after on enter there b =
    elim (is_named there b o) as (λ t. is_named there b o ≡ t → get name_cmp after (key there b) ≡ cond (is_found_by c.0 id there b) w (cond t None (get name_cmp before (key there b)))) [
      | true ↦ λ q. let same : is_found_by c.0 id there b ≡ true = named_like o (placed c id o) there b q ∙ named_other_way o (placed c id o) on in
          enter there b ∙ rw same refl
      | false ↦ λ q. enter there b
    ] refl

-- ---- the objects

not_named_in : (n context : ℕ) (id : Id) (o : Object) (os : List Object) → object_in os n ≡ Some o → found_in os context id ≡ None → is_named context id o ≡ false
not_named_in n context id o [] h none = absurd (cc)
not_named_in n context id o (x ∷ os) h none =
    let first = none_first (is_named context id x) x (found_in os context id) none in
    let rest = none_rest (is_named context id x) x (found_in os context id) none in
    elim (has_number n x) as (λ b. cond b (Some x) (object_in os n) ≡ Some o → is_named context id o ≡ false) [
      | true ↦ λ (q : Some x ≡ Some o). let same : x ≡ o = cc in subst (λ (y : Object). is_named context id y ≡ false) same first
      | false ↦ λ q. not_named_in n context id o os q rest
    ] h

-- an object of another number has no name that is free for one of this number
not_free : (n : ℕ) (x : Object) (b : Bool) (r : Option Object) → has_number n x ≡ false → is_another n (cond b (Some x) r) ≡ false → b ≡ false
not_free n x true r other free = cc
not_free n x false r other free = refl

free_rest : (n : ℕ) (x : Object) (b : Bool) (r : Option Object) → has_number n x ≡ false → is_another n (cond b (Some x) r) ≡ false → is_another n r ≡ false
free_rest n x true r other free = absurd (cc)
free_rest n x false r other free = free

never_both : (b : Bool) → b ≡ true → b ≡ false → ⊥
never_both b h g = cc

-- an object of another number is found by no name that is given to that of this number
not_given : (contexts : ℕ → Bool) (n : ℕ) (c : ObjNum) (id : Id) (x : Object) (context : ℕ) (b : Id) (r : Option Object) → contexts context ≡ true → (contexts c.0 ≡ true → is_another n (cond (is_named c.0 id x) (Some x) r) ≡ false) →
    has_number n x ≡ false → is_named context b x ≡ true → is_found_by c.0 id context b ≡ false
not_given contexts n c id x context b r there free other named =
    elim (is_found_by c.0 id context b) as (λ t. is_found_by c.0 id context b ≡ t → t ≡ false) [
      | true ↦ λ q. let open_there : contexts c.0 ≡ true = rw (in_that_context (placed c id x) context b q) there in
          let on : is_named c.0 id x ≡ true = sym (named_like (placed c id x) x context b q) ∙ named in
          absurd (never_both (is_named c.0 id x) on (not_free n x (is_named c.0 id x) r other (free open_there)))
      | false ↦ λ q. refl
    ] refl

same_some : (n : ℕ) (x : Object) → has_number n x ≡ true → Some (number_of x) ≡ Some n
same_some n x h = ap (λ (k : ℕ). Some k) (nat_same (number_of x) n h)

here_placed : (contexts : ℕ → Bool) (n : ℕ) (c : ObjNum) (id : Id) (x : Object) (os : List Object) (context : ℕ) (b : Id) → AreApart contexts (x ∷ os) → contexts context ≡ true → has_number n x ≡ true →
    option_map number_of (cond (is_found_by c.0 id context b) (Some (placed c id x)) (found_in os context b))
    ≡ cond (is_found_by c.0 id context b) (Some n) (cond (is_named context b x) None (option_map number_of (cond (is_named context b x) (Some x) (found_in os context b))))
here_placed contexts n c id x os context b apart there at =
    elim (is_found_by c.0 id context b) as (λ t. option_map number_of (cond t (Some (placed c id x)) (found_in os context b)) ≡ cond t (Some n) (cond (is_named context b x) None (option_map number_of (cond (is_named context b x) (Some x) (found_in os context b))))) [
      | true ↦ same_some n x at
      | false ↦ elim (is_named context b x) as (λ t. is_named context b x ≡ t → option_map number_of (found_in os context b) ≡ cond t None (option_map number_of (cond t (Some x) (found_in os context b)))) [
        | true ↦ λ q. ap (option_map number_of) (found_like x context b os q ∙ apart.0 (rw (in_that_context x context b q) there))
        | false ↦ λ q. refl
      ] refl
    ]

-- what is found by name where the object of a number has another name
pub names_placed : (contexts : ℕ → Bool) (n : ℕ) (c : ObjNum) (id : Id) (o : Object) (os : List Object) (context : ℕ) (b : Id) → AreApart contexts os → contexts context ≡ true →
    (contexts c.0 ≡ true → is_another n (found_in os c.0 id) ≡ false) → object_in os n ≡ Some o →
    option_map number_of (found_in (change_in os n (placed c id)) context b) ≡ cond (is_found_by c.0 id context b) (Some n) (cond (is_named context b o) None (option_map number_of (found_in os context b)))
names_placed contexts n c id o [] context b apart there free found = absurd (cc)
names_placed contexts n c id o (x ∷ os) context b apart there free found =
    elim (has_number n x) as (λ t. has_number n x ≡ t → cond t (Some x) (object_in os n) ≡ Some o →
    option_map number_of (found_in (cond t (placed c id x ∷ os) (x ∷ change_in os n (placed c id))) context b)
    ≡ cond (is_found_by c.0 id context b) (Some n) (cond (is_named context b o) None (option_map number_of (cond (is_named context b x) (Some x) (found_in os context b))))) [
      | true ↦ λ q (e : Some x ≡ Some o). let same : x ≡ o = cc in
          subst (λ (y : Object). option_map number_of (cond (is_found_by c.0 id context b) (Some (placed c id x)) (found_in os context b))
          ≡ cond (is_found_by c.0 id context b) (Some n) (cond (is_named context b y) None (option_map number_of (cond (is_named context b x) (Some x) (found_in os context b))))) same
          (here_placed contexts n c id x os context b apart there q)
      | false ↦ λ q e. elim (is_named context b x) as (λ t. is_named context b x ≡ t →
          option_map number_of (cond t (Some x) (found_in (change_in os n (placed c id)) context b))
          ≡ cond (is_found_by c.0 id context b) (Some n) (cond (is_named context b o) None (option_map number_of (cond t (Some x) (found_in os context b))))) [
            | true ↦ λ named. let off : is_found_by c.0 id context b ≡ false = not_given contexts n c id x context b (found_in os c.0 id) there free q named in
                let beside : is_named context b o ≡ false = named_like x o context b named ∙ not_named_in n x.context.0 x.id o os e (apart.0 (rw (in_that_context x context b named) there)) in
                rw (off, beside) refl
            | false ↦ λ named. names_placed contexts n c id o os context b apart.1 there (λ t. free_rest n x (is_named c.0 id x) (found_in os c.0 id) q (free t)) e
          ] refl
    ] refl found

none_left : (b : Bool) (r : Option ℕ) → r ≡ None → cond b None r ≡ None
none_left true r h = refl
none_left false r h = h

apart_number : (low n : ℕ) → low ≡ n → (y : Object) → nat_cmp low (number_of y) ≡ Less → has_number n y ≡ false
apart_number low n same y h = grind (arith, nat_tests)

only_this : (n : ℕ) (r : Option Object) → ((y : Object) → r ≡ Some y → has_number n y ≡ false) → is_another n r ≡ false → r ≡ None
only_this n None other free = refl
only_this n (Some y) other free = absurd (never_both (has_number n y) (flipped (has_number n y) free) (other y refl))
  where
    flipped : (b : Bool) → not b ≡ false → b ≡ true
    flipped true h = refl
    flipped false h = absurd (cc)

-- objects are told apart by name after the object of a number got a name that no other has
pub apart_placed : (contexts : ℕ → Bool) (next n : ℕ) (c : ObjNum) (id : Id) (o : Object) (es : List (ℕ × Object)) → AreNumbered next es → IsStrictlySortedBy nat_cmp (keys_of es) → AreApart contexts (values_of es) →
    (contexts c.0 ≡ true → is_another n (found_in (values_of es) c.0 id) ≡ false) → object_in (values_of es) n ≡ Some o → AreApart contexts (change_in (values_of es) n (placed c id))
apart_placed contexts next n c id o [] h sorted apart free found = tt
apart_placed contexts next n c id o (e ∷ es) h sorted apart free found =
    let os = values_of es in
    let x = e.1 in
    elim (has_number n x) as (λ t. has_number n x ≡ t → cond t (Some x) (object_in os n) ≡ Some o → AreApart contexts (cond t (placed c id x ∷ os) (x ∷ change_in os n (placed c id)))) [
      | true ↦ λ q r. ((λ there. alone q there), apart.1)
      | false ↦ λ q r. (
        (λ there. no_number _ (names_placed contexts n c id o os x.context.0 x.id apart.1 there (λ t. free_rest n x (is_named c.0 id x) (found_in os c.0 id) q (free t)) r ∙ nothing_else q there)),
        apart_placed contexts next n c id o es h.3 (sorted_tail nat_cmp e.0 (keys_of es) sorted) apart.1 (λ t. free_rest n x (is_named c.0 id x) (found_in os c.0 id) q (free t)) r,
      )
    ] refl found
  where
    alone : has_number n e.1 ≡ true → contexts c.0 ≡ true → found_in (values_of es) c.0 id ≡ None
    alone q there =
        elim (is_named c.0 id e.1) as (λ t. is_named c.0 id e.1 ≡ t → is_another n (cond t (Some e.1) (found_in (values_of es) c.0 id)) ≡ false → found_in (values_of es) c.0 id ≡ None) [
          | true ↦ λ named r. found_like e.1 c.0 id (values_of es) named ∙ apart.0 (rw (in_that_context e.1 c.0 id named) there)
          | false ↦ λ named r. only_this n (found_in (values_of es) c.0 id)
              (λ y f. apart_number e.0 n (sym h.0 ∙ nat_same (number_of e.1) n q) y (found_above next e.0 (is_named c.0 id) y es h.3 (sorted_head nat_cmp e.0 (keys_of es) sorted) f)) r
        ] refl (free there)

    named_self : is_found_by c.0 id e.1.context.0 e.1.id ≡ true → is_named c.0 id e.1 ≡ true
    named_self q = named_other_way (placed c id e.1) e.1 q

    unnamed : (b : Bool) → is_found_by c.0 id e.1.context.0 e.1.id ≡ b → has_number n e.1 ≡ false → contexts e.1.context.0 ≡ true → b ≡ false
    unnamed true f q there =
        let open_there : contexts c.0 ≡ true = rw (in_that_context (placed c id e.1) e.1.context.0 e.1.id f) there in
        absurd (never_both (is_named c.0 id e.1) (named_self f) (not_free n e.1 (is_named c.0 id e.1) (found_in (values_of es) c.0 id) q (free open_there)))
    unnamed false f q there = refl

    nothing_else : has_number n e.1 ≡ false → contexts e.1.context.0 ≡ true →
        cond (is_found_by c.0 id e.1.context.0 e.1.id) (Some n) (cond (is_named e.1.context.0 e.1.id o) None (option_map number_of (found_in (values_of es) e.1.context.0 e.1.id))) ≡ None
    nothing_else q there = rw (unnamed _ refl q there) (none_left (is_named e.1.context.0 e.1.id o) (option_map number_of (found_in (values_of es) e.1.context.0 e.1.id)) (ap (option_map number_of) (apart.0 there)))

-- ---- the map

number_there : (n : ℕ) (o : Object) (os : List Object) → object_in os n ≡ Some o → number_of o ≡ n
number_there n o [] h = absurd (cc)
number_there n o (x ∷ os) h =
    elim (has_number n x) as (λ b. has_number n x ≡ b → cond b (Some x) (object_in os n) ≡ Some o → number_of o ≡ n) [
      | true ↦ λ q (r : Some x ≡ Some o). let same : x ≡ o = cc in subst (λ (y : Object). number_of y ≡ n) same (nat_same (number_of x) n q)
      | false ↦ λ q r. number_there n o os r
    ] refl h

-- a context whose number was given is there where it is open
open_given : (next context : ℕ) (b : Bool) → context < next → (nat_le next context || b) ≡ true → b ≡ true
open_given next context b low h = let late : nat_le next context ≡ false = grind (arith, nat_tests) in subst (λ (t : Bool). (t || b) ≡ true) late h

-- the name is free in the context where that is open
pub is_free : (m : BTreeMap ℕ Object) (next n : ℕ) (c : ObjNum) (id : Id) → c.0 < next → is_another n (cond (is_some (object_in (values m) c.0)) (found_in (values m) c.0 id) None) ≡ false →
    is_open next (values m) c.0 ≡ true → is_another n (found_in (values m) c.0 id) ≡ false
is_free m next n c id low free there =
    let on : is_some (object_in (values m) c.0) ≡ true = open_given next c.0 (is_some (object_in (values m) c.0)) low there in
    subst (λ (t : Bool). is_another n (cond t (found_in (values m) c.0 id) None) ≡ false) on free

pub indexed_placed : (m new : BTreeMap ℕ Object) (names more : BTreeMap NameKey ℕ) (next n : ℕ) (c : ObjNum) (id : Id) (o : Object) → IsIndexed m names next → lookup (is_at (nat_cmp n)) m.entries ≡ Some o → c.0 < next →
    is_another n (cond (is_some (object_in (values m) c.0)) (found_in (values m) c.0 id) None) ≡ false → new.entries ≡ changed_at m.entries n (placed c id) →
    ((there : ℕ) (b : Id) → get name_cmp more (key there b) ≡ cond (is_found_by c.0 id there b) (Some (number_of o)) (cond (is_named there b o) None (get name_cmp names (key there b)))) →
    IsIndexed new more next
indexed_placed m new names more next n c id o h at low unnamed e change =
    let contexts = is_open next (values m) in
    let os = change_in (values m) n (placed c id) in
    let vs : values new ≡ os = rw e (values_changed next n (placed c id) m.entries h.numbered) in
    let less : (k : ℕ) → is_open next os k ≡ true → contexts k ≡ true = λ k there. open_changed next n k (placed c id) (values m) (λ x. refl) there in
    let free = is_free m next n c id low unnamed in
    let found : object_in (values m) n ≡ Some o = sym (lookup_object next n m.entries h.numbered) ∙ at in
    record {
      ordered = rw (e, keys_changed n (placed c id) m.entries) h.ordered;
      numbered = rw e (numbered_changed next n (placed c id) m.entries (λ x. refl) (λ x was. low) h.numbered);
      apart = rw vs (apart_fewer contexts (is_open next os) os less (apart_placed contexts next n c id o m.entries h.numbered h.ordered h.apart free found));
      named = subst (λ (xs : List Object). AreNames (is_open next xs) more xs) (sym vs) (record {
        lead = λ context b there.
            change context b
            ∙ ap (λ (k : ℕ). cond (is_found_by c.0 id context b) (Some k) (cond (is_named context b o) None (get name_cmp names (key context b)))) (number_there n o (values m) found)
            ∙ ap (λ (r : Option ℕ). cond (is_found_by c.0 id context b) (Some n) (cond (is_named context b o) None r)) (h.named.lead context b (less context there))
            ∙ sym (names_placed contexts n c id o (values m) context b h.apart (less context there) free found);
      });
    }
