-- How many keys a content has at most, and which keys some parts bring.
use Rattle.std.proofs.Common.{◌≡◌, ◌+◌, ◌==◌, ◌∙◌, ◌∷◌, ◌++◌, ◌≤◌, [], Bool, List, Some, ap, arith, cond, false, length, refl, sym, true, ℕ}
use Rattle.std.proofs.lemmas.Cmp.{eq_by_cmp_equiv}
use Rattle.std.proofs.lemmas.Map.Keys.{IsDistinct-from_sorted}
use Rattle.std.proofs.lemmas.Map.Made.{length-le_from_is_member}
use Rattle.std.proofs.lemmas.Bool.Decides.{nat_tests}
use Rattle.std.proofs.lemmas.List.{length-append, length-map}
use Rattle.std.proofs.lemmas.List.Sums.{sum_by-cons}
use Rattle.std.specs.FinMap.{contains_key, contains_key-keys, entries, keys, len, len-entries}
use Rattle.std.specs.List.Sorted.{IsStrictlySortedBy}
use Rattle.std.specs.List.{list_any}
use Rattle.std.specs.Ordering.{eq_by_cmp}
use Rattle.std.specs.Prelude.{◌||◌, is_some, map, sum_by}
use Rattle.s38_commits.proofs.MapLaws.{nat_same}
use Rattle.s38_durable_state.specs.Durable.{kept}
use Rattle.s38_durable_state.specs.Represents.{is_among}
use Rattle.s38_page_diff.specs.Differences.{wanted_at}
use Rattle.s38_image.specs.Images.{image_parts}
use Rattle.s38_image.specs.declared.stored.Stored.{Stored}
use Rattle.s38_base.specs.declared.page.Change.{Change}
use Rattle.s38_base.specs.declared.page.Key.{Key}
use Rattle.s38_vault.specs.Directory.{Keys}
use Rattle.s38_vault.specs.Keys.{key_cmp, key_cmp_total}

abbrev pub key_in : Change → Key
key_in c = c.key

-- a key is one of these changes
abbrev pub is_key_of : Key → List Change → Bool
is_key_of q cs = list_any (λ c. eq_by_cmp key_cmp q c.key) cs

any_key : (q : Key) (cs : List Change) → list_any (eq_by_cmp key_cmp q) (map key_in cs) ≡ is_key_of q cs
any_key q [] = refl
any_key q (c ∷ cs) = ap (λ b. eq_by_cmp key_cmp q c.key || b) (any_key q cs)

-- where each key that is there is that of one of some changes, there are at most as many
pub keys_few : (ks : Keys) (cs : List Change) → IsStrictlySortedBy key_cmp (keys ks) → ((q : Key) → contains_key ks q ≡ true → is_key_of q cs ≡ true) → len ks ≤ length cs
keys_few ks cs sorted each =
    let most : length (keys ks) ≤ length (map key_in cs) =
    length-le_from_is_member (eq_by_cmp_equiv key_cmp_total) (keys ks) (map key_in cs) (IsDistinct-from_sorted key_cmp (keys ks) sorted) (λ q is. any_key q cs ∙ each q (contains_key-keys ks q ∙ is)) in
    let all : length (map key_in cs) ≡ length cs = length-map cs key_in in
    let entries_long : length (keys ks) ≡ length (entries ks) = length-map (entries ks) (λ e. e.0) in
    let long = len-entries ks in
    omega (arith, most, all, entries_long, long)

-- what has a page is one of them
pub key_wanted : (q : Key) (cs : List Change) → is_some (wanted_at cs q) ≡ true → is_key_of q cs ≡ true
key_wanted q [] some = cc
key_wanted q (c ∷ cs) some = by (eq_by_cmp key_cmp q c.key) some (key_wanted q cs)
  where
    by : (b : Bool) → is_some (cond b c.page (wanted_at cs q)) ≡ true → (is_some (wanted_at cs q) ≡ true → is_key_of q cs ≡ true) → (b || is_key_of q cs) ≡ true
    by true some rest = refl
    by false some rest = rest some

pub key_either : (q : Key) (cs ds : List Change) → is_key_of q (cs ++ ds) ≡ (is_key_of q cs || is_key_of q ds)
key_either q [] ds = refl
key_either q (c ∷ cs) ds = ap (λ b. eq_by_cmp key_cmp q c.key || b) (key_either q cs ds) ∙ sym (or_assoc (eq_by_cmp key_cmp q c.key) (is_key_of q cs) (is_key_of q ds))
  where
    or_assoc : (a b c : Bool) → ((a || b) || c) ≡ (a || (b || c))
    or_assoc true b c = refl
    or_assoc false b c = refl

-- ---- the parts of what is kept

-- of each number the parts of what is found first
unfoldable pub firsts : List ℕ → List Stored → List Change
firsts seen [] = []
firsts seen (x ∷ xs) = cond (is_among x.object.number.0 seen) (firsts seen xs) (image_parts x ++ firsts (x.object.number.0 ∷ seen) xs)

-- what is found of numbers that were not seen has this
abbrev pub HaveFirst : (Stored → Type 0) → List ℕ → List Stored → Type 0
HaveFirst P seen xs = (n : ℕ) (x : Stored) → is_among n seen ≡ false → kept xs n ≡ Some x → P x

first_seen : (P : Stored → Type 0) (seen : List ℕ) (x : Stored) (xs : List Stored) → is_among x.object.number.0 seen ≡ true → HaveFirst P seen (x ∷ xs) → HaveFirst P seen xs
first_seen P seen x xs was have n y unseen is = have n y unseen (ap (λ b. cond b (Some x) (kept xs n)) (other (x.object.number.0 == n) refl) ∙ is)
  where
    other : (b : Bool) → (x.object.number.0 == n) ≡ b → b ≡ false
    other true same = absurd (let e : true ≡ false = sym was ∙ ap (λ (k : ℕ). is_among k seen) (nat_same x.object.number.0 n same) ∙ unseen in cc)
    other false same = refl

either_false : (a b : Bool) → (a || b) ≡ false → (a ≡ false) × (b ≡ false)
either_false true b e = cc
either_false false b e = (refl, e)

turned : (a b : ℕ) → (a == b) ≡ false → (b == a) ≡ false
turned a b off = by (b == a) refl
  where
    by : (c : Bool) → (b == a) ≡ c → c ≡ false
    by true same = absurd (let one : b ≡ a = nat_same b a same in let e : ⊥ = grind (arith, nat_tests) in e)
    by false same = refl

first_new : (P : Stored → Type 0) (seen : List ℕ) (x : Stored) (xs : List Stored) → HaveFirst P seen (x ∷ xs) → HaveFirst P (x.object.number.0 ∷ seen) xs
first_new P seen x xs have n y unseen is =
    let two = either_false (n == x.object.number.0) (is_among n seen) unseen in
    have n y two.1 (ap (λ b. cond b (Some x) (kept xs n)) (turned n x.object.number.0 two.0) ∙ is)

pub firsts_long : (size : Stored → ℕ) (seen : List ℕ) (xs : List Stored) → HaveFirst (λ x. length (image_parts x) ≤ size x) seen xs → length (firsts seen xs) ≤ sum_by size xs
unfolding firsts
firsts_long size seen [] have = omega arith
firsts_long size seen (x ∷ xs) have =
    by (is_among x.object.number.0 seen) refl (λ was. firsts_long size seen xs (first_seen _ seen x xs was have)) (firsts_long size (x.object.number.0 ∷ seen) xs (first_new _ seen x xs have))
  where
    self : (x.object.number.0 == x.object.number.0) ≡ true
    self = grind (arith, nat_tests)

    sum : sum_by size (x ∷ xs) ≡ size x + sum_by size xs
    sum = sum_by-cons size x xs

    by : (b : Bool) → is_among x.object.number.0 seen ≡ b → (is_among x.object.number.0 seen ≡ true → length (firsts seen xs) ≤ sum_by size xs) → length (firsts (x.object.number.0 ∷ seen) xs) ≤ sum_by size xs
        → length (cond b (firsts seen xs) (image_parts x ++ firsts (x.object.number.0 ∷ seen) xs)) ≤ sum_by size (x ∷ xs)
    by true was rest other = let few = rest was in omega (arith, few, sum)
    by false was rest other =
        let here : length (image_parts x) ≤ size x = have x.object.number.0 x was (ap (λ b. cond b (Some x) (kept xs x.object.number.0)) self) in
        omega (arith, here, other, sum, length-append (image_parts x) (firsts (x.object.number.0 ∷ seen) xs))

pub firsts_cover : (q : Key) (x : Stored) (seen : List ℕ) (xs : List Stored) → is_among q.object seen ≡ false → kept xs q.object ≡ Some x → is_some (wanted_at (image_parts x) q) ≡ true → is_key_of q (firsts seen xs) ≡ true
unfolding firsts
firsts_cover q x seen [] unseen is some = cc
firsts_cover q x seen (y ∷ xs) unseen is some =
    by (y.object.number.0 == q.object) refl is (is_among y.object.number.0 seen) refl (λ there. firsts_cover q x seen xs unseen there some) (λ more there. firsts_cover q x (y.object.number.0 ∷ seen) xs more there some)
  where
    same : Some y ≡ Some x → y ≡ x
    same e = cc

    later : (a b : Bool) → b ≡ true → (a || b) ≡ true
    later true b e = refl
    later false b e = e

    either : (a b : Bool) → a ≡ false → b ≡ false → (a || b) ≡ false
    either true b e f = e
    either false b e f = f

    by : (a : Bool) → (y.object.number.0 == q.object) ≡ a → cond a (Some y) (kept xs q.object) ≡ Some x → (b : Bool) → is_among y.object.number.0 seen ≡ b
        → (kept xs q.object ≡ Some x → is_key_of q (firsts seen xs) ≡ true) → (is_among q.object (y.object.number.0 ∷ seen) ≡ false → kept xs q.object ≡ Some x → is_key_of q (firsts (y.object.number.0 ∷ seen) xs) ≡ true)
        → is_key_of q (cond b (firsts seen xs) (image_parts y ++ firsts (y.object.number.0 ∷ seen) xs)) ≡ true
    by true at there true was rest other = absurd (let e : true ≡ false = sym was ∙ ap (λ (k : ℕ). is_among k seen) (nat_same y.object.number.0 q.object at) ∙ unseen in cc)
    by true at there false was rest other =
        key_either q (image_parts y) (firsts (y.object.number.0 ∷ seen) xs)
        ∙ ap (λ b. b || is_key_of q (firsts (y.object.number.0 ∷ seen) xs)) (key_wanted q (image_parts y) (ap (λ (z : Stored). is_some (wanted_at (image_parts z) q)) (same there) ∙ some))
    by false at there true was rest other = rest there
    by false at there false was rest other =
        key_either q (image_parts y) (firsts (y.object.number.0 ∷ seen) xs)
        ∙ later (is_key_of q (image_parts y)) (is_key_of q (firsts (y.object.number.0 ∷ seen) xs)) (other (either (q.object == y.object.number.0) (is_among q.object seen) (turned y.object.number.0 q.object at) unseen) there)
