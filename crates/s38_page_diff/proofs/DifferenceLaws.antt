-- The changes of a range, one after another.
use Rattle.std.proofs.Common.{◌≡◌, ℕ, zero, suc, ◌+◌, ◌-◌, ◌<◌, ◌≤◌, true, false, List, [], ◌∷◌, ◌++◌, refl, sym, ◌∙◌, ap, arith, append_assoc, length, length-append}
use Rattle.std.proofs.lemmas.List.{append-nil}
use Rattle.std.specs.Prelude.{Option, Some, None, is_some}
use Rattle.std.specs.FinMap.{contains_key}
use Rattle.s38_base.specs.declared.page.Change.{Change}
use Rattle.s38_base.specs.declared.page.Key.{Key}
use Rattle.s38_base.specs.declared.page.Page.{Page}
use Rattle.s38_page_diff.specs.Differences.{HavePages, change_between, difference_at, differences, differences_from, wanted_at}
use Rattle.s38_page_diff.specs.declared.range.PartRange.{PartRange}
use Rattle.s38_vault.specs.Directory.{Keys}
use Rattle.s38_page_diff.proofs.WalkLaws.{key_at}

-- ---- pieces

-- some parts, and those after them
pub split : (pages : Key → Option Page) (wanted : List Change) (object n k part total next : ℕ) → total ≡ n + k → next ≡ part + n
    → differences_from pages wanted object part total ≡ differences_from pages wanted object part n ++ differences_from pages wanted object next k
unfolding differences_from
split pages wanted object zero k part total next sum after =
    let same : total ≡ k = omega arith in
    let here : part ≡ next = omega arith in
    λ i. differences_from pages wanted object (here i) (same i)
split pages wanted object (suc n) k part total next sum after =
    let more : total ≡ suc (n + k) = omega arith in
    let rest = split pages wanted object n k (part + 1) (n + k) next refl (omega arith) in
    let this = difference_at pages wanted (key_at object part) in
    ap (differences_from pages wanted object part) more ∙ ap (λ (cs : List Change). this ++ cs) rest
    ∙ sym (append_assoc this (differences_from pages wanted object (part + 1) n) (differences_from pages wanted object next k))

-- the same pages and the same wanted ones
pub same_differences : (pages others : Key → Option Page) (wanted wishes : List Change) (object n part : ℕ)
    → ((p : ℕ) → part ≤ p → p < part + n → pages (key_at object p) ≡ others (key_at object p))
    → ((p : ℕ) → part ≤ p → p < part + n → wanted_at wanted (key_at object p) ≡ wanted_at wishes (key_at object p))
    → differences_from pages wanted object part n ≡ differences_from others wishes object part n
unfolding differences_from
same_differences pages others wanted wishes object zero part same alike = refl
same_differences pages others wanted wishes object (suc n) part same alike =
    let rest =
    same_differences pages others wanted wishes object n (part + 1) (λ p low high. same p (omega arith) (omega arith))
    (λ p low high. alike p (omega arith) (omega arith)) in
    let here = same part (omega arith) (omega arith) in
    let wish = alike part (omega arith) (omega arith) in
    λ i. change_between (key_at object part) (here i) (wish i) ++ rest i

-- no page, and none is wanted
no_differences : (pages : Key → Option Page) (wanted : List Change) (object n part : ℕ)
    → ((p : ℕ) → part ≤ p → p < part + n → pages (key_at object p) ≡ None)
    → ((p : ℕ) → part ≤ p → p < part + n → wanted_at wanted (key_at object p) ≡ None)
    → differences_from pages wanted object part n ≡ []
unfolding differences_from
no_differences pages wanted object zero part none unwanted = refl
no_differences pages wanted object (suc n) part none unwanted =
    let rest =
    no_differences pages wanted object n (part + 1) (λ p low high. none p (omega arith) (omega arith))
    (λ p low high. unwanted p (omega arith) (omega arith)) in
    let here = none part (omega arith) (omega arith) in
    let wish = unwanted part (omega arith) (omega arith) in
    λ i. change_between (key_at object part) (here i) (wish i) ++ rest i

-- ---- removals

none_of : (page : Option Page) → is_some page ≡ false → page ≡ None
none_of None e = refl
none_of (Some page) e = absurd (cc)

removed : (key : Key) (page : Option Page) → is_some page ≡ true → change_between key page None ≡ record { key = key; page = None } ∷ []
removed key None there = absurd (cc)
removed key (Some page) there = refl

-- no page is left
pub none_left : (ks : Keys) (pages : Key → Option Page) (left : PartRange) → HavePages ks pages
    → ((p : ℕ) → left.first ≤ p → p < left.end → contains_key ks (key_at left.object p) ≡ false) → differences pages left [] ≡ []
none_left ks pages left have none =
    no_differences pages [] left.object (left.end - left.first) left.first
    (λ p low high. none_of (pages (key_at left.object p)) (have (key_at left.object p) ∙ none p low (omega arith)))
    (λ p low high. refl)

-- the first page that is left is removed, and those after it
pub one_removed : (ks : Keys) (pages : Key → Option Page) (left : PartRange) (part : ℕ) → HavePages ks pages → left.first ≤ part → part < left.end
    → contains_key ks (key_at left.object part) ≡ true → ((p : ℕ) → left.first ≤ p → p < part → contains_key ks (key_at left.object p) ≡ false)
    → differences pages left [] ≡ record { key = key_at left.object part; page = None } ∷ differences pages (record left { first = part + 1 }) []
unfolding differences_from
one_removed ks pages left part have low high there none =
    let object = left.object in
    let rest = left.end - (part + 1) in
    let before : differences_from pages [] object left.first (part - left.first) ≡ [] =
    none_left ks pages (record left { end = part }) have none in
    let after = split pages [] object (part - left.first) (suc rest) left.first (left.end - left.first) part (omega arith) (omega arith) in
    let here = removed (key_at object part) (pages (key_at object part)) (have (key_at object part) ∙ there) in
    after ∙ ap (λ (cs : List Change). cs ++ differences_from pages [] object part (suc rest)) before
    ∙ ap (λ (cs : List Change). cs ++ differences_from pages [] object (part + 1) rest) here

-- one change more is added
pub one_added : (items new behind rest total : List Change) (change : Change) → new ≡ items ++ change ∷ [] → behind ≡ change ∷ rest → items ++ behind ≡ total → new ++ rest ≡ total
one_added items new behind rest total change more is all =
    ap (λ (cs : List Change). cs ++ rest) more ∙ append_assoc items (change ∷ []) rest ∙ ap (λ (cs : List Change). items ++ cs) (sym is) ∙ all

-- nothing is left to be added
pub all_added : (items rest total : List Change) → rest ≡ [] → items ++ rest ≡ total → items ≡ total
all_added items rest total none all = sym (append-nil items) ∙ ap (λ (cs : List Change). items ++ cs) (sym none) ∙ all

-- where one more change is left, the room for all of them is not used up
pub room_left : (items behind rest before all : List Change) (change : Change) → behind ≡ change ∷ rest → items ++ behind ≡ before ++ all → suc (length items) ≤ length before + length all
room_left items behind rest before all change one is = omega (arith, ap length is, ap length one, length-append items behind, length-append before all)
