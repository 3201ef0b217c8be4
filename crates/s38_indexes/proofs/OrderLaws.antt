-- What the order of the entries tells: which entries fit, and that they still rise after a change.
use Rattle.std.proofs.Common.{◌≡◌, ℕ, ◌+◌, ◌≤◌, ◌<◌, Bool, true, false, cond, not, List, [], ◌∷◌, ◌++◌, length, zero, suc, refl, sym, ◌∙◌, ap, arith, length-append, subst}
use Rattle.std.proofs.lemmas.Cmp.{nat_list_cmp_total}
use Rattle.std.proofs.lemmas.List.Folds.{find_at}
use Rattle.std.specs.Prelude.{Option, Some, None, IfOk, OnOk, OnErr, insert, is_some, remove, slice_get}
use Rattle.std.specs.List.{AllByRecursion, position_or_len}
use Rattle.std.specs.Ordering.{ordering_reverse}
use Rattle.std.specs.declared.cmp.Ordering.{Ordering}
use Rattle.std.specs.declared.cmp.Ordering.TheVariants.{Less, Equal, Greater}
use Rattle.std.specs.declared.result.Result.{Result}
use Rattle.std.specs.declared.result.Result.TheVariants.{Ok, Err}
use Rattle.s38_base.specs.Relations.{holds, is_equal, is_less, is_greater}
use Rattle.s38_base.specs.declared.words.Relation.{Relation}
use Rattle.s38_base.specs.declared.words.Relation.TheVariants.{Eq, Ne, Lo, Hi, Nl, Nh, Any, First, Last}
use Rattle.s38_indexes.specs.Leaves.{IsLeaf, is_equal_to, least_past, misses, most}
use Rattle.s38_indexes.proofs.CutLaws.{IsCut, none_found, none_passes}
use Rattle.s38_indexes.specs.Entries.{IndexEntry, IsBelow, IsRising, asks_for_greatest, has_entry, index_with_entry, is_in_relation, least, order, place_of_key, without_entry}

-- ---- the order of two entries

pub is_less-Less : (o : Ordering) → is_less o ≡ true → o ≡ Less
is_less-Less Less e = refl
is_less-Less Equal e = absurd (cc)
is_less-Less Greater e = absurd (cc)

pub is_greater-Greater : (o : Ordering) → is_greater o ≡ true → o ≡ Greater
is_greater-Greater Less e = absurd (cc)
is_greater-Greater Equal e = absurd (cc)
is_greater-Greater Greater e = refl

true_false : {b : Bool} → b ≡ true → b ≡ false → ⊥
true_false t f = cc

turned : (a b : IndexEntry) (o : Ordering) → order a b ≡ o → order b a ≡ ordering_reverse o
turned a b o e = nat_list_cmp_total.antisymm b a ∙ ap ordering_reverse e

pub chained : (a b c : IndexEntry) → order a b ≡ Less → order b c ≡ Less → order a c ≡ Less
chained a b c e f = nat_list_cmp_total.trans a b c e f

-- ---- of rising entries a front is in relation LO, NH or LAST to a key

relation_down : (relation : Relation) → asks_for_greatest relation ≡ true → (o p : Ordering) → (p ≡ Less → o ≡ Less) → (p ≡ Equal → o ≡ Less) → holds relation p ≡ true → holds relation o ≡ true
relation_down Eq e o p less equal h = absurd (cc)
relation_down Ne e o p less equal h = absurd (cc)
relation_down Lo e o Less less equal h = ap is_less (less refl)
relation_down Lo e o Equal less equal h = absurd (cc)
relation_down Lo e o Greater less equal h = absurd (cc)
relation_down Hi e o p less equal h = absurd (cc)
relation_down Nl e o p less equal h = absurd (cc)
relation_down Nh e o Less less equal h = ap (λ q. not (is_greater q)) (less refl)
relation_down Nh e o Equal less equal h = ap (λ q. not (is_greater q)) (equal refl)
relation_down Nh e o Greater less equal h = absurd (cc)
relation_down Any e o p less equal h = absurd (cc)
relation_down First e o p less equal h = absurd (cc)
relation_down Last e o p less equal h = refl

before_equal : (x y key : IndexEntry) → order x y ≡ Less → order y key ≡ Equal → order x key ≡ Less
before_equal x y key less equal = turned key x Greater (sym (nat_list_cmp_total.congr y key x equal) ∙ turned x y Less less)

fits_down : (relation : Relation) (key x y : IndexEntry) → asks_for_greatest relation ≡ true → order x y ≡ Less → is_in_relation relation key y ≡ true → is_in_relation relation key x ≡ true
fits_down relation key x y down less h =
    relation_down relation down (order x key) (order y key) (λ e. chained x y key less e) (λ e. before_equal x y key less e) h

none_behind : (relation : Relation) (key x : IndexEntry) (ys : List IndexEntry) → asks_for_greatest relation ≡ true → IsBelow x ys → is_in_relation relation key x ≡ false → AllByRecursion (λ y. is_in_relation relation key y ≡ false) ys
none_behind relation key x [] down h e = tt
none_behind relation key x (y ∷ ys) down h e =
    let rest = none_behind relation key x ys down h.1 e in
    let lower = fits_down relation key x y down h.0 in
    elim (is_in_relation relation key y) as (λ b. is_in_relation relation key y ≡ b → AllByRecursion (λ z. is_in_relation relation key z ≡ false) (y ∷ ys)) [
      | true ↦ λ is. absurd (true_false (lower is) e)
      | false ↦ λ is. (is, rest)
    ] refl

pub rising_cut : (relation : Relation) (key : IndexEntry) (xs : List IndexEntry) → asks_for_greatest relation ≡ true → IsRising xs → IsCut (is_in_relation relation key) xs
rising_cut relation key [] down h = tt
rising_cut relation key (x ∷ xs) down h = (λ e. none_behind relation key x xs down h.0 e, rising_cut relation key xs down h.1)

-- ---- places

no_room : (n : ℕ) → suc n ≤ 0 → ⊥
no_room n h = omega arith

one_more : (n : ℕ) → 1 + n ≡ suc n
one_more n = omega arith

pub inserted : (key : IndexEntry) (xs : List IndexEntry) → insert xs (place_of_key key xs) key ≡ index_with_entry key xs
inserted key [] = refl
inserted key (x ∷ xs) =
    let rest = inserted key xs in
    let n = place_of_key key xs in
    elim (is_in_relation Lo key x) as (λ b. insert (x ∷ xs) (cond (not (not b)) (1 + n) 0) key ≡ cond b (x ∷ index_with_entry key xs) (key ∷ x ∷ xs)) [
      | true ↦ rw (one_more n) (ap (λ (ys : List IndexEntry). x ∷ ys) rest)
      | false ↦ refl
    ]

pub inserted_at : (key : IndexEntry) (xs ys : List IndexEntry) (i : ℕ) → i ≡ place_of_key key ys → ys ≡ xs → insert xs i key ≡ index_with_entry key xs
inserted_at key xs ys i e same = ap (λ (n : ℕ). insert xs n key) (e ∙ ap (λ zs. place_of_key key zs) same) ∙ inserted key xs

pub none_before_len : {X : Type 0} (p : X → Bool) (xs : List X) → length xs ≤ position_or_len p xs → AllByRecursion (λ x. p x ≡ false) xs
none_before_len p [] h = tt
none_before_len p (x ∷ xs) h =
    let rest = none_before_len p xs in
    let n = position_or_len p xs in
    elim (p x) as (λ b. p x ≡ b → suc (length xs) ≤ cond (not b) (1 + n) 0 → AllByRecursion (λ y. p y ≡ false) (x ∷ xs)) [
      | true ↦ λ is q. absurd (no_room (length xs) q)
      | false ↦ λ is q. (is, rest (omega (arith, one_more n)))
    ] refl h

untouched : (key : IndexEntry) (xs : List IndexEntry) → AllByRecursion (λ x. is_in_relation Eq key x ≡ false) xs → xs ≡ without_entry key xs
untouched key [] h = refl
untouched key (x ∷ xs) h = rw h.0 (ap (λ (ys : List IndexEntry). x ∷ ys) (untouched key xs h.1))

not_held : (key : IndexEntry) (xs : List IndexEntry) → has_entry key xs ≡ false → AllByRecursion (λ x. is_in_relation Eq key x ≡ false) xs
not_held key xs e = none_passes (is_in_relation Eq key) xs e

pub without_none : (key : IndexEntry) (xs : List IndexEntry) → has_entry key xs ≡ false → xs ≡ without_entry key xs
without_none key xs e = untouched key xs (not_held key xs e)

pub equal_inside : (key : IndexEntry) (xs : List IndexEntry) (n : ℕ) → is_equal_to key (slice_get xs n) ≡ true → n < length xs
equal_inside key [] n e = absurd (cc)
equal_inside key (x ∷ xs) zero e = omega arith
equal_inside key (x ∷ xs) (suc n) e = let rest = equal_inside key xs n e in omega arith

unequal : (o : Ordering) → o ≡ Greater → is_equal o ≡ true → ⊥
unequal o is e = cc (ap is_equal is)

removed_at : (key : IndexEntry) (xs : List IndexEntry) → is_equal_to key (slice_get xs (place_of_key key xs)) ≡ true → remove xs (place_of_key key xs) ≡ without_entry key xs
removed_at key [] e = refl
removed_at key (x ∷ xs) e =
    let rest = removed_at key xs in
    let n = place_of_key key xs in
    elim (order x key) as (λ o. order x key ≡ o → is_equal_to key (slice_get (x ∷ xs) (cond (not (not (is_less o))) (1 + n) 0)) ≡ true → remove (x ∷ xs) (cond (not (not (is_less o))) (1 + n) 0) ≡ cond (is_equal o) xs (x ∷ without_entry key xs)) [
      | Less ↦ λ is q. rw (one_more n) (ap (λ (ys : List IndexEntry). x ∷ ys) (rest (rw (one_more n) at q)))
      | Equal ↦ λ is q. refl
      | Greater ↦ λ is q. absurd (unequal (order x key) is q)
    ] refl e

-- ---- what equals a key is the first entry that does not come before it

abbrev equal_of : IndexEntry → Option IndexEntry → Option IndexEntry
equal_of key None = None
equal_of key (Some entry) = cond (is_in_relation Eq key entry) (Some entry) None

none_equal : (key x : IndexEntry) (ys : List IndexEntry) → order x key ≡ Greater → IsBelow x ys → AllByRecursion (λ y. is_in_relation Eq key y ≡ false) ys
none_equal key x [] greater h = tt
none_equal key x (y ∷ ys) greater h =
    let behind = turned key y Less (chained key x y (turned x key Greater greater) h.0) in
    (ap is_equal behind, none_equal key x ys greater h.1)

equal_behind : (key : IndexEntry) (xs : List IndexEntry) → IsRising xs → least Eq key xs ≡ equal_of key (least_past Lo key xs)
equal_behind key [] h = refl
equal_behind key (x ∷ xs) h =
    let rest = equal_behind key xs h.1 in
    elim (order x key) as (λ o. order x key ≡ o → cond (is_equal o) (Some x) (least Eq key xs) ≡ equal_of key (cond (not (is_less o)) (Some x) (least_past Lo key xs))) [
      | Less ↦ λ is. rest
      | Equal ↦ λ is. sym (ap (λ o. cond (is_equal o) (Some x) None) is)
      | Greater ↦ λ is. none_found (is_in_relation Eq key) xs (none_equal key x xs is h.0) ∙ sym (ap (λ o. cond (is_equal o) (Some x) None) is)
    ] refl

pub equal_some : (key e : IndexEntry) (xs : List IndexEntry) → IsRising xs → Some e ≡ least_past Lo key xs → is_in_relation Eq key e ≡ true → Some e ≡ least Eq key xs
equal_some key e xs h is same = sym (equal_behind key xs h ∙ ap (equal_of key) (sym is) ∙ ap (λ b. cond b (Some e) None) same)

pub equal_other : (key e : IndexEntry) (xs : List IndexEntry) → IsRising xs → Some e ≡ least_past Lo key xs → is_in_relation Eq key e ≡ false → None ≡ least Eq key xs
equal_other key e xs h is other = sym (equal_behind key xs h ∙ ap (equal_of key) (sym is) ∙ ap (λ b. cond b (Some e) None) other)

pub equal_none : (key : IndexEntry) (xs : List IndexEntry) → IsRising xs → None ≡ least_past Lo key xs → None ≡ least Eq key xs
equal_none key xs h is = sym (equal_behind key xs h ∙ ap (equal_of key) (sym is))

either : (b : Bool) (e : IndexEntry) → is_some (cond b (Some e) None) ≡ b
either true e = refl
either false e = refl

is_some-equal_of : (key : IndexEntry) (o : Option IndexEntry) → is_some (equal_of key o) ≡ is_equal_to key o
is_some-equal_of key None = refl
is_some-equal_of key (Some e) = either (is_in_relation Eq key e) e

pub held_is : (key : IndexEntry) (xs : List IndexEntry) → IsRising xs → has_entry key xs ≡ is_equal_to key (least_past Lo key xs)
held_is key xs h = ap is_some (equal_behind key xs h) ∙ is_some-equal_of key (least_past Lo key xs)

pub held_at : (key : IndexEntry) (xs : List IndexEntry) → IsRising xs → has_entry key xs ≡ is_equal_to key (slice_get xs (place_of_key key xs))
held_at key xs h = held_is key xs h ∙ ap (is_equal_to key) (find_at (misses Lo key) xs)

-- what is sought at its place
pub held_where : (key : IndexEntry) (xs : List IndexEntry) (n : ℕ) (b : Bool) → IsRising xs → n ≡ place_of_key key xs → b ≡ is_equal_to key (slice_get xs n) → has_entry key xs ≡ b
held_where key xs n b h e test = held_at key xs h ∙ ap (λ k. is_equal_to key (slice_get xs k)) (sym e) ∙ sym test

pub removed_where : (key : IndexEntry) (xs : List IndexEntry) (n : ℕ) (b : Bool) → n ≡ place_of_key key xs → b ≡ is_equal_to key (slice_get xs n) → b ≡ true → remove xs n ≡ without_entry key xs
removed_where key xs n b e test there =
    ap (λ k. remove xs k) e ∙ removed_at key xs (ap (λ k. is_equal_to key (slice_get xs k)) (sym e) ∙ sym test ∙ there)

-- ---- entries that rise

all_with : (P : IndexEntry → Type 0) (key : IndexEntry) (xs : List IndexEntry) → P key → AllByRecursion P xs → AllByRecursion P (index_with_entry key xs)
all_with P key [] p h = (p, tt)
all_with P key (x ∷ xs) p h =
    let rest = all_with P key xs p h.1 in
    elim (is_in_relation Lo key x) as (λ b. AllByRecursion P (cond b (x ∷ index_with_entry key xs) (key ∷ x ∷ xs))) [
      | true ↦ (h.0, rest)
      | false ↦ (p, h)
    ]

all_without : (P : IndexEntry → Type 0) (key : IndexEntry) (xs : List IndexEntry) → AllByRecursion P xs → AllByRecursion P (without_entry key xs)
all_without P key [] h = tt
all_without P key (x ∷ xs) h =
    let rest = all_without P key xs h.1 in
    elim (is_in_relation Eq key x) as (λ b. AllByRecursion P (cond b xs (x ∷ without_entry key xs))) [
      | true ↦ h.1
      | false ↦ (h.0, rest)
    ]

neither : (o : Ordering) → is_less o ≡ false → is_equal o ≡ false → o ≡ Greater
neither Less a b = absurd (cc)
neither Equal a b = absurd (cc)
neither Greater a b = refl

below_more : (key x : IndexEntry) (xs : List IndexEntry) → order key x ≡ Less → IsBelow x xs → IsBelow key xs
below_more key x [] less h = tt
below_more key x (y ∷ ys) less h = (chained key x y less h.0, below_more key x ys less h.1)

rising_among : (key : IndexEntry) (xs : List IndexEntry) → AllByRecursion (λ x. is_in_relation Eq key x ≡ false) xs → IsRising xs → IsRising (index_with_entry key xs)
rising_among key [] new h = (tt, tt)
rising_among key (x ∷ xs) new h =
    let rest = rising_among key xs new.1 h.1 in
    elim (is_in_relation Lo key x) as (λ b. is_in_relation Lo key x ≡ b → IsRising (cond b (x ∷ index_with_entry key xs) (key ∷ x ∷ xs))) [
      | true ↦ λ is. (all_with (λ other. order x other ≡ Less) key xs (is_less-Less (order x key) is) h.0, rest)
      | false ↦ λ is.
          let less = turned x key Greater (neither (order x key) is new.0) in
          ((less, below_more key x xs less h.0), h)
    ] refl

pub rising_with : (key : IndexEntry) (xs : List IndexEntry) → has_entry key xs ≡ false → IsRising xs → IsRising (index_with_entry key xs)
rising_with key xs new h = rising_among key xs (not_held key xs new) h

pub rising_without : (key : IndexEntry) (xs : List IndexEntry) → IsRising xs → IsRising (without_entry key xs)
rising_without key [] h = tt
rising_without key (x ∷ xs) h =
    let rest = rising_without key xs h.1 in
    let others = all_without (λ other. order x other ≡ Less) key xs h.0 in
    elim (is_in_relation Eq key x) as (λ b. IsRising (cond b xs (x ∷ without_entry key xs))) [
      | true ↦ h.1
      | false ↦ (others, rest)
    ]

pub all_first : {X : Type 0} (P : X → Type 0) (xs ys : List X) → AllByRecursion P (xs ++ ys) → AllByRecursion P xs
all_first P [] ys h = tt
all_first P (x ∷ xs) ys h = (h.0, all_first P xs ys h.1)

pub rising_first : (xs ys : List IndexEntry) → IsRising (xs ++ ys) → IsRising xs
rising_first [] ys h = tt
rising_first (x ∷ xs) ys h = (all_first (λ other. order x other ≡ Less) xs ys h.0, rising_first xs ys h.1)

pub rising_later : (xs ys : List IndexEntry) → IsRising (xs ++ ys) → IsRising ys
rising_later [] ys h = h
rising_later (x ∷ xs) ys h = rising_later xs ys h.1

-- ---- leaves

pub length-with : (key : IndexEntry) (xs : List IndexEntry) → length (index_with_entry key xs) ≡ length xs + 1
length-with key [] = refl
length-with key (x ∷ xs) =
    let rest = length-with key xs in
    elim (is_in_relation Lo key x) as (λ b. length (cond b (x ∷ index_with_entry key xs) (key ∷ x ∷ xs)) ≡ length (x ∷ xs) + 1) [
      | true ↦ omega arith
      | false ↦ omega arith
    ]

pub length-without : (key : IndexEntry) (xs : List IndexEntry) → length (without_entry key xs) ≤ length xs
length-without key [] = omega arith
length-without key (x ∷ xs) =
    let rest = length-without key xs in
    elim (is_in_relation Eq key x) as (λ b. length (cond b xs (x ∷ without_entry key xs)) ≤ length (x ∷ xs)) [
      | true ↦ omega arith
      | false ↦ omega arith
    ]

-- an entry was added, or there was no memory for it
pub leaf_added : {A E : Type 0} (r : Result A E) (key : IndexEntry) (xs ys : List IndexEntry) → OnOk r (ys ≡ index_with_entry key xs) → OnErr r (ys ≡ xs) → has_entry key xs ≡ false → length xs < most → IsLeaf xs → IsLeaf ys
leaf_added (Ok a) key xs ys ok err new room h =
    let longer = length-with key xs in
    subst IsLeaf (sym ok) (record { rising = rising_with key xs new h.rising; few = omega arith })
leaf_added (Err e) key xs ys ok err new room h = subst IsLeaf (sym err) h

pub leaf_without : (key : IndexEntry) (xs : List IndexEntry) → IsLeaf xs → IsLeaf (without_entry key xs)
leaf_without key xs h =
    let shorter = length-without key xs in
    let few = h.few in
    record { rising = rising_without key xs h.rising; few = omega arith }

-- the lower part was kept, or nothing was given away
pub leaf_lower : {A E : Type 0} (f : A → List IndexEntry) (r : Result A E) (xs ys : List IndexEntry) → IfOk r (λ upper. xs ++ f upper ≡ ys) → OnErr r (xs ≡ ys) → IsLeaf ys → IsLeaf xs
leaf_lower f (Ok a) xs ys ok err h =
    let few = h.few in
    let both = length-append xs (f a) in
    let whole = ap length ok in
    record { rising = rising_first xs (f a) (subst (λ zs. IsRising zs) (sym ok) h.rising); few = omega arith }
leaf_lower f (Err e) xs ys ok err h = subst IsLeaf (sym err) h

pub leaf_upper : (xs upper ys : List IndexEntry) → xs ++ upper ≡ ys → IsLeaf ys → IsLeaf upper
leaf_upper xs upper ys ok h =
    let few = h.few in
    let both = length-append xs upper in
    let whole = ap length ok in
    record { rising = rising_later xs upper (subst (λ zs. IsRising zs) (sym ok) h.rising); few = omega arith }
