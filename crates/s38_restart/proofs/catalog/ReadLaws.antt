-- What each group holds, one after another.
use Rattle.std.proofs.Common.{◌≡◌, ℕ, ◌+◌, ◌<◌, Bool, true, false, cond, List, [], ◌∷◌, ◌++◌, length, get_or, take, drop, map, refl, sym, ap, subst, ◌∙◌, arith}
use Rattle.std.proofs.lemmas.Bool.Decides.{nat_tests}
use Rattle.std.proofs.lemmas.List.{drop_more, take_more, take-append-drop, map-append}
use Rattle.std.proofs.lemmas.List.Folds.{list_any-append}
use Rattle.std.proofs.lemmas.Map.Keys.{sorted_from_strictly_increasing, sorted_head, sorted_tail}
use Rattle.std.specs.Prelude.{◌||◌, Option, Some, None, Result, Ok, Err, nat_lt}
use Rattle.std.specs.BTreeMap.{is_at}
use Rattle.std.specs.BTreeSet.{BTreeSet, Updates, contains}
use Rattle.std.specs.List.{AllByRecursion, list_any}
use Rattle.std.specs.List.Sorted.{IsStrictlyIncreasing, IsStrictlySortedBy}
use Rattle.std.specs.Ordering.{nat_cmp}
use Rattle.std.specs.Result.{result_ok}
use Rattle.std.specs.declared.cmp.Ordering.TheVariants.{Less}
use Rattle.s38_image.specs.Faults.{Group, fault_after, fault_by, fault_of, has_same, header_at, is_bad_header, is_same_in, sound, sound_by}
use Rattle.s38_image.specs.Images.{object_of_parts}
use Rattle.s38_image.specs.declared.header.Header.{Header}
use Rattle.s38_image.specs.declared.stored.Stored.{Stored}
use Rattle.s38_objects.specs.declared.name_key.NameKey.{NameKey}
use Rattle.s38_objects.specs.NameOrder.{key, name_cmp}
use Rattle.s38_objects.proofs.NameLaws.{key_same}
use Rattle.s38_restart.specs.catalog.Readings.{is_entered, is_repeated, outcome, outcome_by, repeats_in}
use Rattle.s38_restart.specs.catalog.Runs.{number_of}

-- ---- identifications that lower groups have

less_number : (a b : ℕ) → nat_cmp a b ≡ Less → a < b
less_number a b h = grind (arith, nat_tests)

is_less : (a b : ℕ) → nat_cmp a b ≡ Less → nat_lt a b ≡ true
is_less a b h = grind (arith, nat_tests)

is_no_less : (a b : ℕ) → nat_cmp a b ≡ Less → nat_lt b a ≡ false
is_no_less a b h = grind (arith, nat_tests)

no_less : (a : ℕ) → nat_lt a a ≡ false
no_less a = grind (arith, nat_tests)

abbrev pub has_head : Header → Group → Bool
has_head h g = has_same h (header_at g)

at_number : (P : ℕ → Type 0) (front : List Group) (g : Group) (back : List Group) → AllByRecursion P (map number_of (front ++ g ∷ back)) → P g.number
at_number P [] g back h = h.0
at_number P (x ∷ front) g back h = at_number P front g back h.1

none_later : (n : ℕ) (h : Header) (gs : List Group) → AllByRecursion (λ k. nat_cmp n k ≡ Less) (map number_of gs) → list_any (is_same_in n h) gs ≡ false
none_later n h [] above = refl
none_later n h (g ∷ gs) above =
    let no : nat_lt g.number n ≡ false = is_no_less n g.number above.0 in
    rw (no, none_later n h gs above.1) refl

-- of groups that rise, those with the identification of a header that are below one of them come before it
lower_before : (h : Header) (front : List Group) (g : Group) (back : List Group) → IsStrictlySortedBy nat_cmp (map number_of (front ++ g ∷ back)) →
    list_any (is_same_in g.number h) (front ++ g ∷ back) ≡ list_any (has_head h) front
lower_before h [] g back sorted =
    let no : nat_lt g.number g.number ≡ false = no_less g.number in
    rw (no, none_later g.number h back (sorted_head nat_cmp g.number (map number_of back) sorted)) refl
lower_before h (x ∷ front) g back sorted =
    let less : nat_lt x.number g.number ≡ true = is_less x.number g.number (at_number (λ k. nat_cmp x.number k ≡ Less) front g back (sorted_head nat_cmp x.number (map number_of (front ++ g ∷ back)) sorted)) in
    rw (less, lower_before h front g back (sorted_tail nat_cmp x.number (map number_of (front ++ g ∷ back)) sorted)) refl

parted_at : (gs : List Group) (i : ℕ) (d : Group) → i < length gs → gs ≡ take i gs ++ get_or gs i d ∷ drop (i + 1) gs
parted_at gs i d lt = sym (take-append-drop i gs) ∙ ap (λ (l : List Group). take i gs ++ l) (drop_more gs i d lt)

pub lower_at : (h : Header) (gs : List Group) (i : ℕ) (d : Group) → i < length gs → IsStrictlyIncreasing (map number_of gs) → list_any (is_same_in (get_or gs i d).number h) gs ≡ list_any (has_head h) (take i gs)
lower_at h gs i d lt rising =
    let g = get_or gs i d in
    let parted = parted_at gs i d lt in
    ap (list_any (is_same_in g.number h)) parted
    ∙ lower_before h (take i gs) g (drop (i + 1) gs) (subst (λ (l : List Group). IsStrictlySortedBy nat_cmp (map number_of l)) parted (sorted_from_strictly_increasing (map number_of gs) rising))

or_swap : (a b : Bool) → (a || (b || false)) ≡ (b || a)
or_swap true true = refl
or_swap true false = refl
or_swap false true = refl
or_swap false false = refl

pub heads_more : (h : Header) (gs : List Group) (i : ℕ) (d : Group) → i < length gs → list_any (has_head h) (take (i + 1) gs) ≡ (has_same h (header_at (get_or gs i d)) || list_any (has_head h) (take i gs))
heads_more h gs i d lt =
    ap (list_any (has_head h)) (take_more gs i d lt) ∙ list_any-append (has_head h) (take i gs) (get_or gs i d ∷ [])
    ∙ or_swap (list_any (has_head h) (take i gs)) (has_same h (header_at (get_or gs i d)))

or_cond : (b r : Bool) → cond b true r ≡ (b || r)
or_cond true r = refl
or_cond false r = refl

-- one identification more is entered
pub entered_more : (names new : BTreeSet NameKey) (k : NameKey) (header h : Header) → k ≡ key header.context.0 header.id → Updates name_cmp names new k true →
    contains name_cmp new (key h.context.0 h.id) ≡ (has_same h (Some header) || contains name_cmp names (key h.context.0 h.id))
entered_more names new k header h e u =
    let at : is_at (name_cmp k) (key h.context.0 h.id) ≡ has_same h (Some header) = ap (λ (x : NameKey). is_at (name_cmp x) (key h.context.0 h.id)) e ∙ key_same header.context.0 h.context.0 header.id h.id in
    u.0 (key h.context.0 h.id) ∙ ap (λ (b : Bool). cond b true (contains name_cmp names (key h.context.0 h.id))) at
    ∙ or_cond (has_same h (Some header)) (contains name_cmp names (key h.context.0 h.id))

-- the identification of a group was entered exactly where a lower group has it
pub repeat_is : (gs : List Group) (i : ℕ) (g : Group) (names : BTreeSet NameKey) (header : Option Header) (b : Bool) → i < length gs → IsStrictlyIncreasing (map number_of gs) → g ≡ get_or gs i g →
    ((h : Header) → contains name_cmp names (key h.context.0 h.id) ≡ list_any (has_head h) (take i gs)) → header ≡ header_at g → b ≡ is_entered names header → b ≡ is_repeated gs g
repeat_is gs i g names header b lt rising at entered is there = there ∙ ap (is_entered names) is ∙ by (header_at g)
  where
    by : (o : Option Header) → is_entered names o ≡ repeats_in gs g.number o
    by None = refl
    by (Some h) = entered h ∙ sym (lower_at h gs i g lt rising) ∙ ap (λ (x : Group). list_any (is_same_in x.number h) gs) (sym at)

-- ---- one after another

pub map_more : {A B : Type 0} (f : A → B) (xs : List A) (i : ℕ) (d : A) → i < length xs → map f (take i xs) ++ f (get_or xs i d) ∷ [] ≡ map f (take (i + 1) xs)
map_more f xs i d lt = sym (ap (map f) (take_more xs i d lt) ∙ map-append f (take i xs) (get_or xs i d ∷ []))

-- ---- what groups hold

abbrev bad : ℕ → Result Stored ℕ
bad part = Err part

abbrev good : Stored → Result Stored ℕ
good s = Ok s

pub ok_outcome : (gs : List Group) (limit ceiling : ℕ) (g : Group) → result_ok (outcome gs limit ceiling g) ≡ sound gs limit ceiling g
ok_outcome gs limit ceiling g = by (header_at g) (object_of_parts limit g.number g.parts)
  where
    by : (h : Option Header) (read : Result Stored ℕ) → result_ok (outcome_by gs ceiling g.number h read) ≡ sound_by gs limit ceiling g h read
    by None (Err part) = refl
    by None (Ok s) = refl
    by (Some h) (Err part) = elim (is_bad_header gs ceiling g.number h) as (λ b. result_ok (cond b (bad 0) (bad part)) ≡ None) [ true ↦ refl | false ↦ refl ]
    by (Some h) (Ok s) = elim (is_bad_header gs ceiling g.number h) as (λ b. result_ok (cond b (bad 0) (good s)) ≡ cond b None (Some s)) [ true ↦ refl | false ↦ refl ]

pub fault_outcome : (gs : List Group) (limit ceiling : ℕ) (g : Group) → fault_of gs limit ceiling g ≡ fault_after gs limit ceiling (outcome gs limit ceiling g)
fault_outcome gs limit ceiling g = by (header_at g)
  where
    by : (h : Option Header) → fault_by gs limit ceiling g h ≡ fault_after gs limit ceiling (outcome_by gs ceiling g.number h (object_of_parts limit g.number g.parts))
    by None = refl
    by (Some h) = elim (is_bad_header gs ceiling g.number h) as (λ b. cond b (Some 0) (fault_after gs limit ceiling (object_of_parts limit g.number g.parts)) ≡ fault_after gs limit ceiling (cond b (bad 0) (object_of_parts limit g.number g.parts))) [ true ↦ refl | false ↦ refl ]
