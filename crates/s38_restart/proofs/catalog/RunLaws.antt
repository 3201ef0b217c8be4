-- The parts of a number, in a list that is in order.
use Rattle.std.proofs.Common.{◌≡◌, ℕ, ◌+◌, ◌<◌, ◌≤◌, ◌==◌, ◌⊎◌, inl, inr, Bool, true, false, cond, not, List, [], ◌∷◌, ◌++◌, length, get_or, take, drop, map, filter, refl, sym, ap, subst, ◌∙◌, append_assoc, arith}
use Rattle.std.proofs.lemmas.Bool.Decides.{nat_tests}
use Rattle.std.proofs.lemmas.List.{append-nil, drop_all, drop_more, map-append, take_all, take_more, take-append-drop}
use Rattle.std.proofs.lemmas.List.Elements.{filter-append, filter_more}
use Rattle.std.proofs.lemmas.Map.Keys.{IsStrictlyIncreasing-from_sorted, sorted_head, sorted_tail}
use Rattle.std.specs.Prelude.{◌&&◌}
use Rattle.std.specs.List.{AllByRecursion}
use Rattle.std.specs.List.Sorted.{IsStrictlyIncreasing, IsStrictlySortedBy}
use Rattle.std.specs.Ordering.{nat_cmp, ordering_then}
use Rattle.std.specs.declared.cmp.Ordering.TheVariants.{Less, Equal, Greater}
use Rattle.s38_base.specs.declared.page.Change.{Change}
use Rattle.s38_base.specs.declared.page.Key.{Key}
use Rattle.s38_image.specs.Faults.{Group}
use Rattle.s38_image.specs.PartPlaces.{ceiling_key}
use Rattle.s38_vault.specs.Content.{AreRising}
use Rattle.s38_vault.specs.Keys.{key_cmp, key_cmp_total}
use Rattle.s38_restart.specs.catalog.Groups.{group_of, groups, is_header, is_part_of, parts_of_number}
use Rattle.s38_restart.specs.catalog.Runs.{number_of, run}

-- ---- parts in the order of their keys

abbrev pub key_of : Change → Key
key_of c = c.key

-- each part comes after those of lesser keys
abbrev pub AreInOrder : List Change → Type 0
AreInOrder parts = IsStrictlySortedBy key_cmp (map key_of parts)

behind_both : (k q : Key) (xs : List Change) → key_cmp k q ≡ Less → AllByRecursion (λ r. key_cmp q r ≡ Less) (map key_of xs) → AllByRecursion (λ r. key_cmp k r ≡ Less) (map key_of xs)
behind_both k q [] less h = tt
behind_both k q (x ∷ xs) less h = (key_cmp_total.trans k q x.key less h.0, behind_both k q xs less h.1)

-- parts that rise one after another are in order
pub in_order : (xs : List Change) → AreRising xs → AreInOrder xs
unfolding IsStrictlySortedBy
in_order [] h = tt
in_order (x ∷ []) h = (tt, tt)
in_order (x ∷ y ∷ xs) h =
    let rest = in_order (y ∷ xs) h.1 in
    ((h.0, behind_both x.key y.key xs h.0 (sorted_head key_cmp y.key (map key_of xs) rest)), rest)

-- ---- the parts of a number that lead a list

leads : (n : ℕ) (p : Change) (ps : List Change) → is_part_of n p ≡ true → run n (p ∷ ps) ≡ p ∷ run n ps
leads n p ps h = rw h refl

stops : (n : ℕ) (p : Change) (ps : List Change) → is_part_of n p ≡ false → run n (p ∷ ps) ≡ []
stops n p ps h = rw h refl

pub run_all : (n : ℕ) (ps : List Change) (i : ℕ) → length ps ≤ i → run n ps ≡ take i ps ++ run n (drop i ps) → ps ≡ run n ps
run_all n ps i le so_far =
    sym (so_far ∙ ap (λ (q : List Change). take i ps ++ run n q) (drop_all i ps le) ∙ append-nil (take i ps) ∙ take_all i ps le)

-- ---- keys in order

less_number : (a b : ℕ) → nat_cmp a b ≡ Less → a < b
less_number a b h = grind (arith, nat_tests)

same_number : (a b : ℕ) → nat_cmp a b ≡ Equal → a ≡ b
same_number a b h = grind (arith, nat_tests)

number_less : (a b : ℕ) → a < b → nat_cmp a b ≡ Less
number_less a b h = grind (arith, nat_tests)

pub key_less : (a b : Key) → key_cmp a b ≡ Less → (a.object < b.object) ⊎ ((a.object ≡ b.object) × (a.part < b.part))
key_less a b h =
    elim (nat_cmp a.object b.object) as (λ o. nat_cmp a.object b.object ≡ o → ordering_then o (nat_cmp a.part b.part) ≡ Less → (a.object < b.object) ⊎ ((a.object ≡ b.object) × (a.part < b.part))) [
      | Less ↦ λ q r. inl (less_number a.object b.object q)
      | Equal ↦ λ q r. inr (same_number a.object b.object q, less_number a.part b.part r)
      | Greater ↦ λ q r. absurd (cc)
    ] refl h

not_above : (a b : Key) → key_cmp a b ≡ Less → a.object ≤ b.object
not_above a b h = by (key_less a b h)
  where
    by : (a.object < b.object) ⊎ ((a.object ≡ b.object) × (a.part < b.part)) → a.object ≤ b.object
    by (inl lt) = omega arith
    by (inr e) = omega (arith, e.0)

-- a key before that of a header page is of a lesser number
before_header : (a b : Key) → key_cmp a b ≡ Less → b.part ≡ 0 → a.object < b.object
before_header a b h first = by (key_less a b h)
  where
    by : (a.object < b.object) ⊎ ((a.object ≡ b.object) × (a.part < b.part)) → a.object < b.object
    by (inl lt) = lt
    by (inr e) = absurd (omega (arith, e.1, first))

same_object : (a b : ℕ) → (a == b) ≡ true → a ≡ b
same_object a b h = grind (arith, nat_tests)

unequal : (a b : ℕ) → a < b → (a == b) ≡ false
unequal a b h = grind (arith, nat_tests)

unequal_above : (a b : ℕ) → b < a → (a == b) ≡ false
unequal_above a b h = grind (arith, nat_tests)

above : (a b : ℕ) → (a == b) ≡ false → b ≤ a → b < a
above a b h le = grind (arith, nat_tests)

-- ---- the parts of a number

at_key : (P : Key → Type 0) (xs : List Change) (c : Change) (back : List Change) → AllByRecursion P (map key_of (xs ++ c ∷ back)) → P c.key
at_key P [] c back h = h.0
at_key P (x ∷ xs) c back h = at_key P xs c back h.1

-- what comes before a header page is of other numbers
none_before : (front back : List Change) (c : Change) → c.key.part ≡ 0 → AreInOrder (front ++ c ∷ back) → parts_of_number c.key.object front ≡ []
none_before [] back c first h = refl
none_before (x ∷ xs) back c first h =
    let less : key_cmp x.key c.key ≡ Less = at_key (λ k. key_cmp x.key k ≡ Less) xs c back (sorted_head key_cmp x.key (map key_of (xs ++ c ∷ back)) h) in
    let other : is_part_of c.key.object x ≡ false = unequal x.key.object c.key.object (before_header x.key c.key less first) in
    rw other (none_before xs back c first (sorted_tail key_cmp x.key (map key_of (xs ++ c ∷ back)) h))

none_above : (n : ℕ) (k : Key) (xs : List Change) → AllByRecursion (λ q. key_cmp k q ≡ Less) (map key_of xs) → n < k.object → parts_of_number n xs ≡ []
none_above n k [] h lt = refl
none_above n k (x ∷ xs) h lt =
    let other : is_part_of n x ≡ false = unequal_above x.key.object n (omega (arith, not_above k x.key h.0)) in
    rw other (none_above n k xs h.1 lt)

lower : (n : ℕ) (k : Key) (xs : List Change) → n ≤ k.object → AllByRecursion (λ q. key_cmp k q ≡ Less) (map key_of xs) → AllByRecursion (λ (q : Key). n ≤ q.object) (map key_of xs)
lower n k [] le h = tt
lower n k (x ∷ xs) le h = (omega (arith, not_above k x.key h.0), lower n k xs le h.1)

-- where no number is lesser, all parts of one lead the list
run_whole : (n : ℕ) (xs : List Change) → AreInOrder xs → AllByRecursion (λ (k : Key). n ≤ k.object) (map key_of xs) → parts_of_number n xs ≡ run n xs
run_whole n [] h low = refl
run_whole n (x ∷ xs) h low =
    let rest = run_whole n xs (sorted_tail key_cmp x.key (map key_of xs) h) low.1 in
    elim (is_part_of n x) as (λ b. is_part_of n x ≡ b → cond b (x ∷ parts_of_number n xs) (parts_of_number n xs) ≡ cond b (x ∷ run n xs) []) [
      | true ↦ λ q. ap (λ (l : List Change). x ∷ l) rest
      | false ↦ λ q. none_above n x.key xs (sorted_head key_cmp x.key (map key_of xs) h) (above x.key.object n q low.0)
    ] refl

in_order_behind : (front back : List Change) → AreInOrder (front ++ back) → AreInOrder back
in_order_behind [] back h = h
in_order_behind (x ∷ xs) back h = in_order_behind xs back (sorted_tail key_cmp x.key (map key_of (xs ++ back)) h)

parts_here : (front back : List Change) (c : Change) → c.key.part ≡ 0 → AreInOrder (front ++ c ∷ back) → parts_of_number c.key.object (front ++ c ∷ back) ≡ run c.key.object (c ∷ back)
parts_here front back c first h =
    let order = in_order_behind front (c ∷ back) h in
    let low : AllByRecursion (λ (k : Key). c.key.object ≤ k.object) (map key_of (c ∷ back)) = (omega arith, lower c.key.object c.key back (omega arith) (sorted_head key_cmp c.key (map key_of back) order)) in
    filter-append (is_part_of c.key.object) front (c ∷ back)
    ∙ ap (λ (l : List Change). l ++ parts_of_number c.key.object (c ∷ back)) (none_before front back c first h)
    ∙ run_whole c.key.object (c ∷ back) order low

pub run_of_header : (ps : List Change) (i : ℕ) (d : Change) → i < length ps → AreInOrder ps → (get_or ps i d).key.part ≡ 0 → run (get_or ps i d).key.object (drop i ps) ≡ parts_of_number (get_or ps i d).key.object ps
run_of_header ps i d lt h first =
    let c = get_or ps i d in
    let parted : ps ≡ take i ps ++ c ∷ drop (i + 1) ps = sym (take-append-drop i ps) ∙ ap (λ (l : List Change). take i ps ++ l) (drop_more ps i d lt) in
    ap (run c.key.object) (drop_more ps i d lt)
    ∙ sym (ap (parts_of_number c.key.object) parted ∙ parts_here (take i ps) (drop (i + 1) ps) c first (subst (λ (l : List Change). AreInOrder l) parted h))

-- the parts of a number from its first part on, where none comes before
pub run_from : (n : ℕ) (ps : List Change) (i : ℕ) (d : Change) → i < length ps → AreInOrder ps → is_part_of n (get_or ps i d) ≡ true → parts_of_number n (take i ps) ≡ [] → run n (drop i ps) ≡ parts_of_number n ps
run_from n ps i d lt h first none =
    let c = get_or ps i d in
    let back = drop (i + 1) ps in
    let order : AreInOrder (drop i ps) = in_order_behind (take i ps) (drop i ps) (subst (λ (l : List Change). AreInOrder l) (sym (take-append-drop i ps)) h) in
    let order_here : AreInOrder (c ∷ back) = subst (λ (l : List Change). AreInOrder l) (drop_more ps i d lt) order in
    let low : AllByRecursion (λ (k : Key). n ≤ k.object) (map key_of (c ∷ back)) = (omega (arith, same_object c.key.object n first), lower n c.key back (omega (arith, same_object c.key.object n first)) (sorted_head key_cmp c.key (map key_of back) order_here)) in
    ap (run n) (drop_more ps i d lt) ∙ sym (run_whole n (c ∷ back) order_here low) ∙ sym (ap (parts_of_number n) (drop_more ps i d lt))
    ∙ sym (ap (λ (l : List Change). l ++ parts_of_number n (drop i ps)) none)
    ∙ sym (filter-append (is_part_of n) (take i ps) (drop i ps)) ∙ ap (parts_of_number n) (take-append-drop i ps)

-- ---- the numbers with a header page rise

and_left : (a b : Bool) → (a && b) ≡ true → a ≡ true
and_left true b h = refl
and_left false b h = h

is_zero_number : (n : ℕ) → (n == 0) ≡ true → n ≡ 0
is_zero_number n h = grind (arith, nat_tests)

pub first_part : (c : Change) → is_header c ≡ true → c.key.part ≡ 0
first_part c h = is_zero_number c.key.part (and_left (c.key.part == 0) (not (c.key.object == ceiling_key)) h)

abbrev object_of : Change → ℕ
object_of c = c.key.object

headers_above : (x : Change) (xs : List Change) → AllByRecursion (λ k. key_cmp x.key k ≡ Less) (map key_of xs) → AllByRecursion (λ n. nat_cmp x.key.object n ≡ Less) (map object_of (filter is_header xs))
headers_above x [] h = tt
headers_above x (c ∷ xs) h =
    let rest = headers_above x xs h.1 in
    elim (is_header c) as (λ b. is_header c ≡ b → AllByRecursion (λ n. nat_cmp x.key.object n ≡ Less) (map object_of (cond b (c ∷ filter is_header xs) (filter is_header xs)))) [
      | true ↦ λ q. (number_less x.key.object c.key.object (before_header x.key c.key h.0 (first_part c q)), rest)
      | false ↦ λ q. rest
    ] refl

headers_sorted : (xs : List Change) → AreInOrder xs → IsStrictlySortedBy nat_cmp (map object_of (filter is_header xs))
unfolding IsStrictlySortedBy
headers_sorted [] h = tt
headers_sorted (x ∷ xs) h =
    let rest = headers_sorted xs (sorted_tail key_cmp x.key (map key_of xs) h) in
    let later = headers_above x xs (sorted_head key_cmp x.key (map key_of xs) h) in
    elim (is_header x) as (λ b. IsStrictlySortedBy nat_cmp (map object_of (cond b (x ∷ filter is_header xs) (filter is_header xs)))) [
      | true ↦ (later, rest)
      | false ↦ rest
    ]

numbers_of : (parts hs : List Change) → map number_of (map (group_of parts) hs) ≡ map object_of hs
numbers_of parts [] = refl
numbers_of parts (c ∷ hs) = ap (λ (l : List ℕ). c.key.object ∷ l) (numbers_of parts hs)

-- the numbers of the groups rise
pub groups_rise : (parts : List Change) → AreInOrder parts → IsStrictlyIncreasing (map number_of (groups parts))
groups_rise parts h =
    subst (λ (l : List ℕ). IsStrictlyIncreasing l) (sym (numbers_of parts (filter is_header parts)))
    (IsStrictlyIncreasing-from_sorted (map object_of (filter is_header parts)) (headers_sorted parts h))

-- ---- one part after another

headers_more : (ps : List Change) (i : ℕ) (d : Change) (b : Bool) → i < length ps → is_header (get_or ps i d) ≡ b → map (group_of ps) (filter is_header (take (i + 1) ps)) ≡ map (group_of ps) (filter is_header (take i ps)) ++ cond b (group_of ps (get_or ps i d) ∷ []) []
headers_more ps i d b lt is =
    ap (map (group_of ps)) (filter_more is_header ps i d lt ∙ ap (λ (t : Bool). filter is_header (take i ps) ++ cond t (get_or ps i d ∷ []) []) is)
    ∙ map-append (group_of ps) (filter is_header (take i ps)) (cond b (get_or ps i d ∷ []) [])
    ∙ ap (λ (l : List Group). map (group_of ps) (filter is_header (take i ps)) ++ l) (by b)
  where
    by : (t : Bool) → map (group_of ps) (cond t (get_or ps i d ∷ []) []) ≡ cond t (group_of ps (get_or ps i d) ∷ []) []
    by true = refl
    by false = refl

pub groups_more : (ps : List Change) (i : ℕ) (d : Change) (gs new : List Group) (g : Group) → i < length ps → AreInOrder ps → gs ≡ map (group_of ps) (filter is_header (take i ps)) → is_header (get_or ps i d) ≡ true →
    g ≡ record { number = (get_or ps i d).key.object; parts = run (get_or ps i d).key.object (drop i ps) } → new ≡ gs ++ g ∷ [] → new ≡ map (group_of ps) (filter is_header (take (i + 1) ps))
groups_more ps i d gs new g lt h so_far is one more =
    let c = get_or ps i d in
    let whole : g ≡ group_of ps c = one ∙ ap (λ (l : List Change). record { number = c.key.object; parts = l }) (run_of_header ps i d lt h (first_part c is)) in
    more ∙ ap (λ (l : List Group). l ++ g ∷ []) so_far ∙ ap (λ (x : Group). map (group_of ps) (filter is_header (take i ps)) ++ x ∷ []) whole ∙ sym (headers_more ps i d true lt is)

pub groups_pass : (ps : List Change) (i : ℕ) (d : Change) (gs : List Group) → i < length ps → gs ≡ map (group_of ps) (filter is_header (take i ps)) → is_header (get_or ps i d) ≡ false → gs ≡ map (group_of ps) (filter is_header (take (i + 1) ps))
groups_pass ps i d gs lt so_far is = so_far ∙ sym (append-nil (map (group_of ps) (filter is_header (take i ps)))) ∙ sym (headers_more ps i d false lt is)

pub groups_all : (ps : List Change) (i : ℕ) (gs : List Group) → length ps ≤ i → gs ≡ map (group_of ps) (filter is_header (take i ps)) → gs ≡ groups ps
groups_all ps i gs le so_far = so_far ∙ ap (λ (l : List Change). map (group_of ps) (filter is_header l)) (take_all i ps le)

pub numbers_more : (ns new : List ℕ) (gs more : List Group) (g : Group) → ns ≡ map number_of gs → more ≡ gs ++ g ∷ [] → new ≡ ns ++ g.number ∷ [] → new ≡ map number_of more
numbers_more ns new gs more g so_far one is =
    is ∙ ap (λ (l : List ℕ). l ++ g.number ∷ []) so_far ∙ sym (ap (map number_of) one ∙ map-append number_of gs (g ∷ []))
