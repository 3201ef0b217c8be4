-- The map from names to numbers, and the objects that are found by name.
use Rattle.std.proofs.Common.{◌≡◌, ℕ, ◌==◌, Bool, true, false, cond, not, List, [], ◌∷◌, ◌++◌, refl, sym, ◌∙◌, ap, subst, arith}
use Rattle.std.proofs.lemmas.Bool.Decides.{nat_tests}
use Rattle.std.specs.Prelude.{Option, Some, None, ◌&&◌, nat_eq}
use Rattle.std.specs.Cmp.Lexicographic.{pointwise, texts_ties}
use Rattle.std.specs.declared.cmp.Ordering.{Ordering}
use Rattle.std.specs.declared.cmp.Ordering.TheVariants.{Less, Equal, Greater}
use Rattle.std.specs.Option.{option_map, option_or}
use Rattle.std.proofs.lemmas.List.Folds.{find-append}
use Rattle.std.specs.Ordering.{is_eq, nat_cmp, ordering_then}
use Rattle.std.specs.Map.{values_of, lookup, remove_entry}
use Rattle.std.specs.BTreeMap.{BTreeMap, get, is_at}
use Rattle.s38_base.specs.declared.id.Id.{Id}
use Rattle.s38_base.specs.declared.id.ObjNum.{ObjNum}
use Rattle.s38_base.specs.Ids.{kind_code, same_id}
use Rattle.s38_rules.specs.declared.object.Object.{Object}
use Rattle.s38_rules.specs.state.Held.{change_in, found_in, has_number, is_in_context, is_named}
use Rattle.s38_objects.specs.Changes.{KeepsName}
use Rattle.s38_objects.specs.declared.name_key.NameKey.{NameKey}
use Rattle.s38_objects.specs.Lawful.{AreApart, number_of}
use Rattle.s38_objects.specs.NameOrder.{is_found_by, key, name_cmp}
use Rattle.s38_objects.proofs.NumberLaws.{nat_same}

-- ---- keys and names

nat_ties : (a b : ℕ) → is_eq (nat_cmp a b) ≡ (a == b)
nat_ties a b = grind (arith, nat_tests)

both_equal : (a b : Ordering) → is_eq (ordering_then a b) ≡ (is_eq a && is_eq b)
both_equal Less b = refl
both_equal Equal b = refl
both_equal Greater b = refl

-- two keys are one where the contexts and the identifications are
pub key_same : (here there : ℕ) (a b : Id) → is_at (name_cmp (key here a)) (key there b) ≡ ((here == there) && same_id a b)
unfolding same_id
key_same here there a b =
    rw (both_equal, nat_ties, both_equal, nat_ties, both_equal, nat_ties, sym (texts_ties a.name b.name)) refl

in_some_context : (here there : ℕ) (r : Bool) → (here == 0) ≡ false → (not (there == 0) && (here == there)) && r ≡ ((here == there) && r)
in_some_context here there r h = grind (arith, nat_tests)

-- what is in a context is found where its key is the key that is sought
pub key_found : (here : ℕ) (a : Id) (there : ℕ) (b : Id) → (here == 0) ≡ false → is_at (name_cmp (key here a)) (key there b) ≡ is_found_by here a there b
key_found here a there b h = key_same here there a b ∙ sym (in_some_context here there (same_id a b) h)

-- ---- objects that are named alike

and_left : (a b : Bool) → (a && b) ≡ true → a ≡ true
and_left true b h = refl
and_left false b h = h

and_right : (a b : Bool) → (a && b) ≡ true → b ≡ true
and_right true b h = h
and_right false b h = absurd (cc)

texts_same : (xs ys : List ℕ) → pointwise nat_eq xs ys ≡ true → xs ≡ ys
texts_same [] [] h = refl
texts_same [] (y ∷ ys) h = absurd (cc)
texts_same (x ∷ xs) [] h = absurd (cc)
texts_same (x ∷ xs) (y ∷ ys) h =
    let here : x ≡ y = nat_same x y (and_left (x == y) (pointwise nat_eq xs ys) h) in
    let rest : xs ≡ ys = texts_same xs ys (and_right (x == y) (pointwise nat_eq xs ys) h) in
    cc

-- what is the same identification as another one is sought alike
id_like : (a b c : Id) → same_id a b ≡ true → same_id c b ≡ same_id c a
unfolding same_id
id_like a b c h =
    let kinds : kind_code a.kind ≡ kind_code b.kind = nat_same _ _ (and_left _ _ h) in
    let more = and_right (kind_code a.kind == kind_code b.kind) ((a.sub == b.sub) && pointwise nat_eq a.name b.name) h in
    let subs : a.sub ≡ b.sub = nat_same _ _ (and_left _ _ more) in
    let names : a.name ≡ b.name = texts_same _ _ (and_right (a.sub == b.sub) (pointwise nat_eq a.name b.name) more) in
    rw (kinds, subs, names) refl

-- an object that is named is named by its own context and identification, as all others are that are named so
pub named_like : (o x : Object) (context : ℕ) (id : Id) → is_named context id o ≡ true → is_named context id x ≡ is_named o.context.0 o.id x
named_like o x context id h =
    let inside = and_left (is_in_context context o) (same_id o.id id) h in
    let contexts : o.context.0 ≡ context = nat_same _ _ (and_right (not (context == 0)) (o.context.0 == context) inside) in
    let ids : same_id x.id id ≡ same_id x.id o.id = id_like o.id id x.id (and_right (is_in_context context o) (same_id o.id id) h) in
    rw (contexts, ids) refl

pub found_like : (o : Object) (context : ℕ) (id : Id) (os : List Object) → is_named context id o ≡ true → found_in os context id ≡ found_in os o.context.0 o.id
found_like o context id [] h = refl
found_like o context id (x ∷ os) h = rw (named_like o x context id h, found_like o context id os h) refl

in_a_context : (n : ℕ) → (n ≡ 0 → ⊥) → (n == 0) ≡ false
in_a_context n h = grind (arith, nat_tests)

-- where a key gets another number, or none, what is found by it does
pub names_updated : (here : ℕ) (a : Id) (k : NameKey) (w : Option ℕ) (old new : BTreeMap NameKey ℕ) → k ≡ key here a → (here ≡ 0 → ⊥) →
    ((q : NameKey) → get name_cmp new q ≡ cond (is_at (name_cmp k) q) w (get name_cmp old q)) →
    (there : ℕ) (b : Id) → get name_cmp new (key there b) ≡ cond (is_found_by here a there b) w (get name_cmp old (key there b))
names_updated here a k w old new e inside h there b =
    let at : is_at (name_cmp k) (key there b) ≡ is_found_by here a there b = ap (λ (x : NameKey). is_at (name_cmp x) (key there b)) e ∙ key_found here a there b (in_a_context here inside) in
    h (key there b) ∙ ap (λ (t : Bool). cond t w (get name_cmp old (key there b))) at

-- ---- one more object

pub none_first : (b : Bool) (x : Object) (r : Option Object) → cond b (Some x) r ≡ None → b ≡ false
none_first true x r h = absurd (cc)
none_first false x r h = refl

pub none_rest : (b : Bool) (x : Object) (r : Option Object) → cond b (Some x) r ≡ None → r ≡ None
none_rest true x r h = absurd (cc)
none_rest false x r h = h

number_or : (found : Option Object) (b : Bool) (o : Object) → (b ≡ true → found ≡ None) → option_map number_of (option_or found (cond b (Some o) None)) ≡ cond b (Some (number_of o)) (option_map number_of found)
number_or None true o h = refl
number_or None false o h = refl
number_or (Some x) true o h = let wrong : Some x ≡ None = h refl in absurd (cc)
number_or (Some x) false o h = refl

pub names_last : (o : Object) (os : List Object) (context : ℕ) (id : Id) → found_in os o.context.0 o.id ≡ None →
    option_map number_of (found_in (os ++ o ∷ []) context id) ≡ cond (is_named context id o) (Some (number_of o)) (option_map number_of (found_in os context id))
names_last o os context id h =
    rw (find-append (is_named context id) os (o ∷ []))
    (number_or (found_in os context id) (is_named context id o) o (λ named. found_like o context id os named ∙ h))

text_itself : (xs : List ℕ) → pointwise nat_eq xs xs ≡ true
text_itself [] = refl
text_itself (x ∷ xs) = rw (text_itself xs) (grind (arith, nat_tests))

id_itself : (a : Id) → same_id a a ≡ true
unfolding same_id
id_itself a = rw (text_itself a.name) (grind (arith, nat_tests))

pub named_other_way : (o x : Object) → is_named x.context.0 x.id o ≡ true → is_named o.context.0 o.id x ≡ true
named_other_way o x h =
    let inside = and_left (is_in_context x.context.0 o) (same_id o.id x.id) h in
    let some : not (x.context.0 == 0) ≡ true = and_left (not (x.context.0 == 0)) (o.context.0 == x.context.0) inside in
    let self : (x.context.0 == x.context.0) ≡ true = grind (arith, nat_tests) in
    let named : is_named x.context.0 x.id x ≡ true = rw (some, self, id_itself x.id) refl in
    sym (named_like o x x.context.0 x.id h) ∙ named

not_named_other_way : (o x : Object) (b : Bool) → is_named x.context.0 x.id o ≡ b → is_named o.context.0 o.id x ≡ false → b ≡ false
not_named_other_way o x true e h = let wrong : is_named o.context.0 o.id x ≡ true = named_other_way o x e in absurd (cc)
not_named_other_way o x false e h = refl

pub apart_last : (contexts : ℕ → Bool) (o : Object) (os : List Object) → AreApart contexts os → found_in os o.context.0 o.id ≡ None → AreApart contexts (os ++ o ∷ [])
apart_last contexts o [] apart h = ((λ _. refl), tt)
apart_last contexts o (x ∷ os) apart h =
    let other : is_named x.context.0 x.id o ≡ false = not_named_other_way o x _ refl (none_first (is_named o.context.0 o.id x) x _ h) in (
      (λ there. find-append (is_named x.context.0 x.id) os (o ∷ []) ∙ rw (apart.0 there, other) refl),
      apart_last contexts o os apart.1 (none_rest (is_named o.context.0 o.id x) x _ h),
    )

-- ---- fewer contexts

pub apart_fewer : (contexts fewer : ℕ → Bool) (os : List Object) → ((k : ℕ) → fewer k ≡ true → contexts k ≡ true) → AreApart contexts os → AreApart fewer os
apart_fewer contexts fewer [] less h = tt
apart_fewer contexts fewer (o ∷ os) less h = ((λ there. h.0 (less o.context.0 there)), apart_fewer contexts fewer os less h.1)

-- ---- one object less

none_without : (test : ℕ → Bool) (context : ℕ) (id : Id) (es : List (ℕ × Object)) → found_in (values_of es) context id ≡ None → found_in (values_of (remove_entry test es)) context id ≡ None
none_without test context id [] h = refl
none_without test context id (e ∷ es) h =
    let rest = none_rest (is_named context id e.1) e.1 (found_in (values_of es) context id) h in
    let first = none_first (is_named context id e.1) e.1 (found_in (values_of es) context id) h in
    let more = none_without test context id es rest in
    elim (test e.0) as (λ b. found_in (values_of (cond b es (e ∷ remove_entry test es))) context id ≡ None) [
      | true ↦ rest
      | false ↦ rw first more
    ]

pub apart_without : (contexts : ℕ → Bool) (test : ℕ → Bool) (es : List (ℕ × Object)) → AreApart contexts (values_of es) → AreApart contexts (values_of (remove_entry test es))
apart_without contexts test [] h = tt
apart_without contexts test (e ∷ es) h =
    let rest = apart_without contexts test es h.1 in
    elim (test e.0) as (λ b. AreApart contexts (values_of (cond b es (e ∷ remove_entry test es)))) [
      | true ↦ h.1
      | false ↦ ((λ there. none_without test e.1.context.0 e.1.id es (h.0 there)), rest)
    ]

-- the object of a number is not named where no object is
not_named_at : (test : ℕ → Bool) (o : Object) (context : ℕ) (id : Id) (es : List (ℕ × Object)) → lookup test es ≡ Some o → found_in (values_of es) context id ≡ None → is_named context id o ≡ false
not_named_at test o context id [] h none = absurd (cc)
not_named_at test o context id (e ∷ es) h none =
    let first = none_first (is_named context id e.1) e.1 (found_in (values_of es) context id) none in
    let rest = none_rest (is_named context id e.1) e.1 (found_in (values_of es) context id) none in
    elim (test e.0) as (λ b. cond b (Some e.1) (lookup test es) ≡ Some o → is_named context id o ≡ false) [
      | true ↦ λ (q : Some e.1 ≡ Some o). let same : e.1 ≡ o = cc in subst (λ (x : Object). is_named context id x ≡ false) same first
      | false ↦ λ q. not_named_at test o context id es q rest
    ] h

not_both : (e o : Object) (context : ℕ) (id : Id) (b : Bool) → is_named context id e ≡ b → is_named context id o ≡ true → is_named e.context.0 e.id o ≡ false → b ≡ false
not_both e o context id true q named h = let wrong : is_named e.context.0 e.id o ≡ true = sym (named_like e o context id q) ∙ named in absurd (cc)
not_both e o context id false q named h = refl

-- what is named in a context says it
pub in_that_context : (o : Object) (context : ℕ) (id : Id) → is_named context id o ≡ true → o.context.0 ≡ context
in_that_context o context id h =
    nat_same _ _ (and_right (not (context == 0)) (o.context.0 == context) (and_left (is_in_context context o) (same_id o.id id) h))

named_gone : (contexts : ℕ → Bool) (test : ℕ → Bool) (o : Object) (context : ℕ) (id : Id) (es : List (ℕ × Object)) → AreApart contexts (values_of es) → contexts context ≡ true → lookup test es ≡ Some o → is_named context id o ≡ true →
    found_in (values_of (remove_entry test es)) context id ≡ None
named_gone contexts test o context id [] apart there h named = refl
named_gone contexts test o context id (e ∷ es) apart there h named =
    elim (test e.0) as (λ b. cond b (Some e.1) (lookup test es) ≡ Some o → found_in (values_of (cond b es (e ∷ remove_entry test es))) context id ≡ None) [
      | true ↦ λ (q : Some e.1 ≡ Some o). let same : o ≡ e.1 = cc in
          let here : is_named context id e.1 ≡ true = subst (λ (x : Object). is_named context id x ≡ true) same named in
          found_like e.1 context id (values_of es) here ∙ apart.0 (rw (in_that_context e.1 context id here) there)
      | false ↦ λ q. let other : is_named context id e.1 ≡ false = none_beside e.1 (is_named context id e.1) refl (λ at. not_named_at test o e.1.context.0 e.1.id es q (apart.0 at)) in
          rw other (named_gone contexts test o context id es apart.1 there q named)
    ] h
  where
    none_beside : (x : Object) (b : Bool) → is_named context id x ≡ b → (contexts x.context.0 ≡ true → is_named x.context.0 x.id o ≡ false) → b ≡ false
    none_beside x true q f = not_both x o context id true q named (f (rw (in_that_context x context id q) there))
    none_beside x false q f = refl

named_kept : (test : ℕ → Bool) (o : Object) (context : ℕ) (id : Id) (es : List (ℕ × Object)) → lookup test es ≡ Some o → is_named context id o ≡ false →
    found_in (values_of (remove_entry test es)) context id ≡ found_in (values_of es) context id
named_kept test o context id [] h named = refl
named_kept test o context id (e ∷ es) h named =
    elim (test e.0) as (λ b. cond b (Some e.1) (lookup test es) ≡ Some o → found_in (values_of (cond b es (e ∷ remove_entry test es))) context id ≡ cond (is_named context id e.1) (Some e.1) (found_in (values_of es) context id)) [
      | true ↦ λ (q : Some e.1 ≡ Some o). let same : o ≡ e.1 = cc in
          let here : is_named context id e.1 ≡ false = subst (λ (x : Object). is_named context id x ≡ false) same named in rw here refl
      | false ↦ λ q. ap (λ (r : Option Object). cond (is_named context id e.1) (Some e.1) r) (named_kept test o context id es q named)
    ] h

pub names_without : (contexts : ℕ → Bool) (test : ℕ → Bool) (o : Object) (context : ℕ) (id : Id) (es : List (ℕ × Object)) → AreApart contexts (values_of es) → contexts context ≡ true → lookup test es ≡ Some o →
    option_map number_of (found_in (values_of (remove_entry test es)) context id) ≡ cond (is_named context id o) None (option_map number_of (found_in (values_of es) context id))
names_without contexts test o context id es apart there h =
    elim (is_named context id o) as (λ b. is_named context id o ≡ b → option_map number_of (found_in (values_of (remove_entry test es)) context id) ≡ cond b None (option_map number_of (found_in (values_of es) context id))) [
      | true ↦ λ q. ap (option_map number_of) (named_gone contexts test o context id es apart there h q)
      | false ↦ λ q. ap (option_map number_of) (named_kept test o context id es h q)
    ] refl

-- ---- another object of the same name

still_named : (f : Object → Object) (context : ℕ) (id : Id) (o : Object) → KeepsName f → is_named context id (f o) ≡ is_named context id o
still_named f context id o keeps = rw (keeps.context o, keeps.id o) refl

pub names_changed : (n : ℕ) (f : Object → Object) (context : ℕ) (id : Id) (os : List Object) → KeepsName f → option_map number_of (found_in (change_in os n f) context id) ≡ option_map number_of (found_in os context id)
names_changed n f context id [] keeps = refl
names_changed n f context id (o ∷ os) keeps =
    let rest = names_changed n f context id os keeps in
    elim (has_number n o) as (λ b. option_map number_of (found_in (cond b (f o ∷ os) (o ∷ change_in os n f)) context id) ≡ option_map number_of (cond (is_named context id o) (Some o) (found_in os context id))) [
      | true ↦ rw (still_named f context id o keeps) (elim (is_named context id o) as (λ b. option_map number_of (cond b (Some (f o)) (found_in os context id)) ≡ option_map number_of (cond b (Some o) (found_in os context id))) [ true ↦ ap (λ (k : ObjNum). Some k.0) (keeps.number o) | false ↦ refl ])
      | false ↦ elim (is_named context id o) as (λ b. option_map number_of (cond b (Some o) (found_in (change_in os n f) context id)) ≡ option_map number_of (cond b (Some o) (found_in os context id))) [ true ↦ refl | false ↦ rest ]
    ]

pub no_number : (r : Option Object) → option_map number_of r ≡ None → r ≡ None
no_number None h = refl
no_number (Some x) h = absurd (cc)

pub apart_changed : (contexts : ℕ → Bool) (n : ℕ) (f : Object → Object) (os : List Object) → KeepsName f → AreApart contexts os → AreApart contexts (change_in os n f)
apart_changed contexts n f [] keeps h = tt
apart_changed contexts n f (o ∷ os) keeps h =
    let rest = apart_changed contexts n f os keeps h.1 in
    elim (has_number n o) as (λ b. AreApart contexts (cond b (f o ∷ os) (o ∷ change_in os n f))) [
      | true ↦ ((λ there. rw (keeps.context o, keeps.id o) (h.0 (subst (λ (k : ObjNum). contexts k.0 ≡ true) (keeps.context o) there))), h.1)
      | false ↦ ((λ there. no_number _ (names_changed n f o.context.0 o.id os keeps ∙ ap (option_map number_of) (h.0 there))), rest)
    ]
