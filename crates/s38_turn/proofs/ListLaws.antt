-- Beginnings of a history, and the lists of a seat.
use Rattle.std.proofs.Common.{◌≡◌, ◌≢◌, ◌⊎◌, ℕ, zero, suc, ◌<◌, ◌≤◌, ◌==◌, Bool, true, false, cond, not, nat_lt, List, [], ◌∷◌, ◌++◌, length, append-nil, append_assoc, refl, sym, ap, ◌∙◌, subst, inl, inr, arith, if◌then◌else◌, eq-eqb, ne_eqb, true≢false}
use Rattle.std.proofs.lemmas.List.Elements.{filter-append}
use Rattle.std.proofs.lemmas.Bool.Decides.{nat_tests}
use Rattle.s38_turn.specs.declared.item.Item.{Item}
use Rattle.s38_turn.specs.declared.item.Item.TheVariants.{Entered, Stopped}
use Rattle.s38_turn.specs.declared.view.ProcessList.{ProcessList}
use Rattle.s38_turn.specs.Items.{Begins, items_by, is_by}
use Rattle.s38_turn.specs.Lists.{HasAll, empty_lists, has, lengthened, list_of, list_with, lists_in, longer, only, without}
use Rattle.s38_turn.specs.Calls.{Grew}

-- ---- beginnings

pub begins_all : (xs : List Item) → Begins xs xs
begins_all xs = ([], sym (append-nil xs))

pub begins_on : (xs ys more : List Item) → Begins xs ys → Begins xs (ys ++ more)
begins_on xs ys more b = (b.0 ++ more, ap (λ (z : List Item). z ++ more) b.1 ∙ append_assoc xs b.0 more)

one_begins : (xs ys all : List Item) (b : Bool) → Begins xs all → Begins ys all → Begins (if b then ys else xs) all
one_begins xs ys all true x y = y
one_begins xs ys all false x y = x

pub longer_begins : (xs ys all : List Item) → Begins xs all → Begins ys all → Begins (longer xs ys) all
longer_begins xs ys all x y = one_begins xs ys all (nat_lt (length xs) (length ys)) x y

pub grew_begins : (p : ℕ) (old new seen : List Item) → Grew p old new → Begins seen old → Begins seen new
grew_begins p old new seen (inl e) b = subst (Begins seen) (sym e) b
grew_begins p old new seen (inr g) b = subst (Begins seen) (sym g.1) (begins_on seen old (g.0 ∷ []) b)

-- ---- the items of one process

-- an item of a process is one of q where q is that process
by_one : (p q : ℕ) (x : Item) → is_by p x ≡ true → is_by q x ≡ (q == p)
by_one p q (Entered e) is = grind (arith, nat_tests)
by_one p q (Stopped r event) is = grind (arith, nat_tests)

added_if : (x : Item) (b : Bool) → cond b (x ∷ []) [] ≡ (if b then x ∷ [] else [])
added_if x true = refl
added_if x false = refl

pub items_more : (p q : ℕ) (xs : List Item) (x : Item) → is_by p x ≡ true → items_by q (xs ++ x ∷ []) ≡ items_by q xs ++ (if q == p then x ∷ [] else [])
items_more p q xs x is = filter-append (is_by q) xs (x ∷ []) ∙ ap (λ b. items_by q xs ++ cond b (x ∷ []) []) (by_one p q x is) ∙ ap (λ (z : List Item). items_by q xs ++ z) (added_if x (q == p))

-- an item of another process adds nothing
pub items_same : (p q : ℕ) (xs : List Item) (x : Item) → q ≢ p → is_by p x ≡ true → items_by q (xs ++ x ∷ []) ≡ items_by q xs
items_same p q xs x ne is = items_more p q xs x is ∙ (ap (λ b. items_by q xs ++ (if b then x ∷ [] else [])) (ne_eqb q p ne) ∙ append-nil (items_by q xs))

pub grew_same : (p q : ℕ) (old new : List Item) → q ≢ p → Grew p old new → items_by q new ≡ items_by q old
grew_same p q old new ne (inl e) = ap (items_by q) e
grew_same p q old new ne (inr g) = ap (items_by q) g.1 ∙ items_same p q old g.0 ne g.2

-- ---- whether there is a list

if_both : (b x y : Bool) → x ≡ y → (if b then true else x) ≡ (if b then true else y)
if_both b x y e = ap (λ z. if b then true else z) e

pub in_has : (p : ℕ) (all : List Item) (ls : List ProcessList) → has p (lists_in all ls) ≡ has p ls
in_has p all [] = refl
in_has p all (l ∷ ls) = if_both (l.process == p) (has p (lists_in all ls)) (has p ls) (in_has p all ls)

or_if : (b x y : Bool) → (if b then true else (if x then true else y)) ≡ (if (if b then true else x) then true else y)
or_if true x y = refl
or_if false x y = refl

pub has_append : (p : ℕ) (ks ls : List ProcessList) → has p (ks ++ ls) ≡ (if has p ks then true else has p ls)
has_append p [] ls = refl
has_append p (k ∷ ks) ls = if_both (k.process == p) (has p (ks ++ ls)) (if has p ks then true else has p ls) (has_append p ks ls) ∙ or_if (k.process == p) (has p ks) (has p ls)

either_if : (b c : Bool) → (if b then true else c) ≡ true → (b ≡ true) ⊎ (c ≡ true)
either_if true c h = inl refl
either_if false c h = inr h

pub has_either : (p : ℕ) (ks ls : List ProcessList) → has p (ks ++ ls) ≡ true → (has p ks ≡ true) ⊎ (has p ls ≡ true)
has_either p ks ls h = either_if (has p ks) (has p ls) (sym (has_append p ks ls) ∙ h)

second_if : (b c : Bool) → c ≡ true → (if b then true else c) ≡ true
second_if true c h = refl
second_if false c h = h

pub has_first : (p : ℕ) (ks ls : List ProcessList) → has p ks ≡ true → has p (ks ++ ls) ≡ true
has_first p ks ls h = has_append p ks ls ∙ ap (λ b. if b then true else has p ls) h

pub has_second : (p : ℕ) (ks ls : List ProcessList) → has p ls ≡ true → has p (ks ++ ls) ≡ true
has_second p ks ls h = has_append p ks ls ∙ second_if (has p ks) (has p ls) h

pub only_has : (p q : ℕ) (ls : List ProcessList) → has p (only q ls) ≡ true → p ≡ q
only_has p q ls h = grind (arith, nat_tests)

pub only_one : (p : ℕ) (ls : List ProcessList) → has p (only p ls) ≡ true
only_one p ls = ap (λ b. if b then true else false) (eq-eqb p p refl)

-- of what is left without a process
left_if : (p q r : ℕ) (more : Bool) (ls : List ProcessList) → (has p (without q ls) ≡ true → (p ≢ q) × (more ≡ true)) → (r == q) ≡ false → (b : Bool) → (r == p) ≡ b → (if b then true else has p (without q ls)) ≡ true → (p ≢ q) × ((if b then true else more) ≡ true)
left_if p q r more ls k other true same h = ((λ e. true≢false (sym (eq-eqb r q (grind (arith, nat_tests))) ∙ other)), refl)
left_if p q r more ls k other false same h = k h

left_by : (p q : ℕ) (l : ProcessList) (ls : List ProcessList) → (has p (without q ls) ≡ true → (p ≢ q) × (has p ls ≡ true)) → (b : Bool) → (l.process == q) ≡ b → has p (cond (not b) (l ∷ without q ls) (without q ls)) ≡ true → (p ≢ q) × (has p (l ∷ ls) ≡ true)
left_by p q l ls k true is h = let t = k h in (t.0, second_if (l.process == p) (has p ls) t.1)
left_by p q l ls k false is h = left_if p q l.process (has p ls) ls k is (l.process == p) refl h

pub has_left : (p q : ℕ) (ls : List ProcessList) → has p (without q ls) ≡ true → (p ≢ q) × (has p ls ≡ true)
has_left p q [] h = absurd (true≢false (sym h))
has_left p q (l ∷ ls) h = left_by p q l ls (has_left p q ls) (l.process == q) refl h

still_by : (p q : ℕ) (l : ProcessList) (ls : List ProcessList) → p ≢ q → (has p ls ≡ true → has p (without q ls) ≡ true) → (b : Bool) → (l.process == q) ≡ b → (c : Bool) → (l.process == p) ≡ c → (if c then true else has p ls) ≡ true → has p (cond (not b) (l ∷ without q ls) (without q ls)) ≡ true
still_by p q l ls ne k true is true same h = absurd (ne (grind (arith, nat_tests)))
still_by p q l ls ne k true is false same h = k h
still_by p q l ls ne k false is true same h = ap (λ b. if b then true else has p (without q ls)) same
still_by p q l ls ne k false is false same h = second_if (l.process == p) (has p (without q ls)) (k h)

pub has_still : (p q : ℕ) (ls : List ProcessList) → p ≢ q → has p ls ≡ true → has p (without q ls) ≡ true
has_still p q [] ne h = absurd (true≢false (sym h))
has_still p q (l ∷ ls) ne h = still_by p q l ls ne (has_still p q ls ne) (l.process == q) refl (l.process == p) refl h

-- ---- the lists of a history

pub in_append : (all : List Item) (ks ls : List ProcessList) → lists_in all (ks ++ ls) ≡ lists_in all ks ++ lists_in all ls
in_append all [] ls = refl
in_append all (k ∷ ks) ls = ap (λ (z : List ProcessList). list_with k.process (items_by k.process all) ∷ z) (in_append all ks ls)

-- the lists of a history are those that it gives again
pub own_again : (all : List Item) (ls : List ProcessList) → lists_in all (lists_in all ls) ≡ lists_in all ls
own_again all [] = refl
own_again all (l ∷ ls) = ap (λ (z : List ProcessList). list_with l.process (items_by l.process all) ∷ z) (own_again all ls)

kept_if : (all : List Item) (q : ℕ) (l : ProcessList) (ls : List ProcessList) (b : Bool) → lists_in all (cond b (l ∷ without q ls) (without q ls)) ≡ cond b (list_with l.process (items_by l.process all) ∷ lists_in all (without q ls)) (lists_in all (without q ls))
kept_if all q l ls true = refl
kept_if all q l ls false = refl

pub in_without : (all : List Item) (q : ℕ) (ls : List ProcessList) → lists_in all (without q ls) ≡ without q (lists_in all ls)
in_without all q [] = refl
in_without all q (l ∷ ls) = kept_if all q l ls (not (l.process == q)) ∙ ap (λ (z : List ProcessList). cond (not (l.process == q)) (list_with l.process (items_by l.process all) ∷ z) z) (in_without all q ls)

list_if : (p q : ℕ) (all : List Item) (ls : List ProcessList) → (has p ls ≡ true → list_of p (lists_in all ls) ≡ items_by p all) → (b : Bool) → (q == p) ≡ b → (if b then true else has p ls) ≡ true → (if b then items_by q all else list_of p (lists_in all ls)) ≡ items_by p all
list_if p q all ls k true is h = let e : q ≡ p = grind (arith, nat_tests) in ap (λ (z : ℕ). items_by z all) e
list_if p q all ls k false is h = k h

pub in_list_of : (p : ℕ) (all : List Item) (ls : List ProcessList) → has p ls ≡ true → list_of p (lists_in all ls) ≡ items_by p all
in_list_of p all [] h = absurd (true≢false (sym h))
in_list_of p all (l ∷ ls) h = list_if p l.process all ls (in_list_of p all ls) (l.process == p) refl h

-- the items of a process are those of its list
pub own_list : (p : ℕ) (all : List Item) (ls : List ProcessList) → lists_in all ls ≡ ls → has p ls ≡ true → items_by p all ≡ list_of p ls
own_list p all ls own h = sym (in_list_of p all ls h) ∙ ap (list_of p) own

none_if : (xs ys : List Item) (more b : Bool) → (more ≡ false → xs ≡ []) → (if b then true else more) ≡ false → (if b then ys else xs) ≡ []
none_if xs ys more true k h = absurd (true≢false h)
none_if xs ys more false k h = k h

pub no_list : (p : ℕ) (ls : List ProcessList) → has p ls ≡ false → list_of p ls ≡ []
no_list p [] h = refl
no_list p (l ∷ ls) h = none_if (list_of p ls) l.items (has p ls) (l.process == p) (no_list p ls) h

not_here : (p q : ℕ) (more b : Bool) → (q == p) ≡ b → (if b then true else more) ≡ false → (q ≢ p) × (more ≡ false)
not_here p q more true is h = absurd (true≢false h)
not_here p q more false is h = ((λ e. true≢false (sym (eq-eqb q p e) ∙ is)), h)

-- an item of a process that has no list changes none
pub in_same : (p : ℕ) (old new : List Item) (ls : List ProcessList) → Grew p old new → has p ls ≡ false → lists_in new ls ≡ lists_in old ls
in_same p old new [] grew h = refl
in_same p old new (l ∷ ls) grew h =
    let t = not_here p l.process (has p ls) (l.process == p) refl h in
    λ k. list_with l.process (grew_same p l.process old new t.0 grew k) ∷ in_same p old new ls grew t.1 k

-- the lists grow by what is added
pub in_more : (p : ℕ) (old : List Item) (x : Item) (ls : List ProcessList) → is_by p x ≡ true → lists_in (old ++ x ∷ []) ls ≡ lengthened p (x ∷ []) (lists_in old ls)
in_more p old x [] is = refl
in_more p old x (l ∷ ls) is = λ k. list_with l.process (items_more p l.process old x is k) ∷ in_more p old x ls is k

nothing_if : (xs : List Item) (b : Bool) → xs ++ (if b then [] else []) ≡ xs
nothing_if xs true = append-nil xs
nothing_if xs false = append-nil xs

pub in_none : (p : ℕ) (ls : List ProcessList) → lengthened p [] ls ≡ ls
in_none p [] = refl
in_none p (l ∷ ls) = λ k. list_with l.process (nothing_if l.items (l.process == p) k) ∷ in_none p ls k

-- they stay those of the same processes
pub long_has : (p q : ℕ) (added : List Item) (ls : List ProcessList) → has q (lengthened p added ls) ≡ has q ls
long_has p q added [] = refl
long_has p q added (l ∷ ls) = if_both (l.process == q) (has q (lengthened p added ls)) (has q ls) (long_has p q added ls)

long_if : (p q r : ℕ) (old added xs ys : List Item) (more b : Bool) → (r == q) ≡ b → (more ≡ true → xs ≡ ys ++ (if q == p then added else [])) → (if b then true else more) ≡ true
    → (if b then old ++ (if r == p then added else []) else xs) ≡ (if b then old else ys) ++ (if q == p then added else [])
long_if p q r old added xs ys more true is k h = let e : r ≡ q = grind (arith, nat_tests) in ap (λ (z : ℕ). old ++ (if z == p then added else [])) e
long_if p q r old added xs ys more false is k h = k h

-- the list of a process grows by what is added, where it is of that process
pub long_list : (p q : ℕ) (added : List Item) (ls : List ProcessList) → has q ls ≡ true → list_of q (lengthened p added ls) ≡ list_of q ls ++ (if q == p then added else [])
long_list p q added [] h = absurd (true≢false (sym h))
long_list p q added (l ∷ ls) h = long_if p q l.process l.items added (list_of q (lengthened p added ls)) (list_of q ls) (has q ls) (l.process == q) refl (long_list p q added ls) h

-- ---- lists without an item

empty_if : (n p : ℕ) → (has p (empty_lists n) ≡ true → (0 < p) × (p ≤ n)) → (b : Bool) → (suc n == p) ≡ b → (if b then true else has p (empty_lists n)) ≡ true → (0 < p) × (p ≤ suc n)
empty_if n p k true is h = let e : suc n ≡ p = grind (arith, nat_tests) in (omega (arith, e), omega (arith, e))
empty_if n p k false is h = let t = k h in let le = t.1 in (t.0, omega arith)

pub empty_has : (n p : ℕ) → has p (empty_lists n) ≡ true → (0 < p) × (p ≤ n)
empty_has zero p h = absurd (true≢false (sym h))
empty_has (suc n) p h = empty_if n p (empty_has n p) (suc n == p) refl h

all_if : (n p : ℕ) (r b : Bool) → (suc n == p) ≡ b → ((p ≢ suc n) → r ≡ true) → (if b then true else r) ≡ true
all_if n p r true is h = refl
all_if n p r false is h = h (λ e. true≢false (sym (eq-eqb (suc n) p (sym e)) ∙ is))

pub empty_all : (n : ℕ) → HasAll n (empty_lists n)
empty_all zero p pos le = absurd (omega (arith, pos, le))
empty_all (suc n) p pos le = all_if n p (has p (empty_lists n)) (suc n == p) refl (λ ne. empty_all n p pos (omega (arith, le, ne)))

pub empty_own : (n : ℕ) → lists_in [] (empty_lists n) ≡ empty_lists n
empty_own zero = refl
empty_own (suc n) = ap (λ (z : List ProcessList). list_with (suc n) [] ∷ z) (empty_own n)
