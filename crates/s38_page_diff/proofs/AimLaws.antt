-- What the differences of several aims make of a content, one aim after another.
use Rattle.std.proofs.Common.{◌≡◌, ℕ, ◌+◌, ◌-◌, ◌<◌, ◌≤◌, Bool, true, false, cond, List, [], ◌∷◌, ◌++◌, refl, sym, ◌∙◌, ap, arith, append_assoc, append-nil}
use Rattle.std.proofs.lemmas.Bool.Decides.{nat_tests}
use Rattle.std.proofs.lemmas.List.Sums.{sum_by-cons}
use Rattle.std.specs.Prelude.{Option, is_some, nat_lt}
use Rattle.std.specs.FinMap.{contains_key, get}
use Rattle.std.specs.List.{AllByRecursion}
use Rattle.s38_base.specs.declared.page.Change.{Change}
use Rattle.s38_base.specs.declared.page.Key.{Key}
use Rattle.s38_base.specs.declared.page.Page.{Page}
use Rattle.s38_page_diff.specs.Aims.{Aim, RiseByObject, aimed_at, all_differences, wanted_new}
use Rattle.s38_page_diff.specs.Differences.{HavePages, IsWanted, differences, is_part_in_range, wanted_at}
use Rattle.s38_vault.specs.Content.{AreRising, Content, HaveObjects, changed}
use Rattle.s38_vault.specs.Directory.{Keys, new_keys}
use Rattle.s38_page_diff.proofs.WalkLaws.{key_at, not_below, object_below}
use Rattle.s38_page_diff.proofs.DifferenceLaws.{same_differences}
use Rattle.s38_page_diff.proofs.WantedLaws.{inside}
use Rattle.s38_page_diff.proofs.LookLaws.{changed_at, get-changed, changed_at-append, changed_at-others, all_of, parts_of, rising_on, differences_rising, differences_objects, differences_at, new-append, differences_new}

later_aims : (a : Aim) (aims : List Aim) → RiseByObject (a ∷ aims) → AllByRecursion (λ b. a.range.object < b.range.object) aims
later_aims a [] h = tt
later_aims a (b ∷ aims) h = (h.0, farther aims (later_aims b aims h.1))
  where
    farther : (cs : List Aim) → AllByRecursion (λ c. b.range.object < c.range.object) cs → AllByRecursion (λ c. a.range.object < c.range.object) cs
    farther [] g = tt
    farther (c ∷ cs) g = (omega (arith, h.0, g.0), farther cs g.1)

aims_rest : (a : Aim) (aims : List Aim) → RiseByObject (a ∷ aims) → RiseByObject aims
aims_rest a [] h = tt
aims_rest a (b ∷ aims) h = h.1

pub all_on : (P : Change → Type 0) (cs ds : List Change) → AllByRecursion P cs → AllByRecursion P ds → AllByRecursion P (cs ++ ds)
all_on P [] ds g h = h
all_on P (c ∷ cs) ds g h = (g.0, all_on P cs ds g.1 h)

-- the changes of later aims are of later objects
pub later_changes : (pages : Key → Option Page) (number : ℕ) (aims : List Aim) → AllByRecursion (λ b. number < b.range.object) aims → AllByRecursion (λ c. number < c.key.object) (all_differences pages aims)
later_changes pages number [] h = tt
later_changes pages number (a ∷ aims) h =
    all_on (λ c. number < c.key.object) (differences pages a.range a.wanted) (all_differences pages aims)
    (all_of _ _ (differences pages a.range a.wanted) (λ c g. let of_it = g.object in omega (arith, h.0)) (parts_of pages a.range a.wanted)) (later_changes pages number aims h.1)

rising_both : (number : ℕ) (cs ds : List Change) → AllByRecursion (λ c. c.key.object ≡ number) cs → AllByRecursion (λ d. number < d.key.object) ds → AreRising cs → AreRising ds → AreRising (cs ++ ds)
rising_both number [] ds g h first last = last
rising_both number (c ∷ []) ds g h first last = rising_on c ds (all_of _ _ ds (λ d low. object_below c.key d.key (omega (arith, g.0))) h) last
rising_both number (c ∷ d ∷ cs) ds g h first last = (first.0, rising_both number (d ∷ cs) ds g.1 h first.1 last)

pub aims_rising : (pages : Key → Option Page) (aims : List Aim) → RiseByObject aims → AreRising (all_differences pages aims)
aims_rising pages [] order = tt
aims_rising pages (a ∷ aims) order =
    rising_both a.range.object (differences pages a.range a.wanted) (all_differences pages aims)
    (all_of _ _ (differences pages a.range a.wanted) (λ c h. h.object) (parts_of pages a.range a.wanted))
    (later_changes pages a.range.object aims (later_aims a aims order)) (differences_rising pages a.range a.wanted) (aims_rising pages aims (aims_rest a aims order))

pub aims_objects : (pages : Key → Option Page) (aims : List Aim) → AllByRecursion (λ a. 1 ≤ a.range.object) aims → HaveObjects (all_differences pages aims)
aims_objects pages [] h = tt
aims_objects pages (a ∷ aims) h = all_on (λ c. 1 ≤ c.key.object) (differences pages a.range a.wanted) (all_differences pages aims) (differences_objects pages a.range a.wanted h.0) (aims_objects pages aims h.1)

aims_at : (pages : Key → Option Page) (aims : List Aim) (q : Key) → RiseByObject aims → changed_at (all_differences pages aims) q (pages q) ≡ aimed_at pages aims q
unfolding changed_at
aims_at pages [] q order = refl
aims_at pages (a ∷ aims) q order =
    changed_at-append (differences pages a.range a.wanted) (all_differences pages aims) q (pages q)
    ∙ ap (changed_at (all_differences pages aims) q) (differences_at pages a.range a.wanted q) ∙ by (is_part_in_range a.range q) refl (aims_at pages aims q (aims_rest a aims order))
  where
    by : (b : Bool) → is_part_in_range a.range q ≡ b → changed_at (all_differences pages aims) q (pages q) ≡ aimed_at pages aims q
        → changed_at (all_differences pages aims) q (cond b (wanted_at a.wanted q) (pages q)) ≡ cond b (wanted_at a.wanted q) (aimed_at pages aims q)
    by true within rest =
        let here = inside a.range q within in
        changed_at-others (all_differences pages aims) q (wanted_at a.wanted q)
        (all_of _ _ (all_differences pages aims) (λ c low. not_below q c.key (object_below q c.key (let of_it = here.object in omega arith))) (later_changes pages a.range.object aims (later_aims a aims order)))
    by false out rest = rest

pub aims_made : (m : Content) (aims : List Aim) (q : Key) → RiseByObject aims → get (changed m (all_differences (get m) aims)) q ≡ aimed_at (get m) aims q
aims_made m aims q order = get-changed m (all_differences (get m) aims) q ∙ aims_at (get m) aims q order

pub aims_new : (keys : Keys) (pages : Key → Option Page) (aims : List Aim) → HavePages keys pages → AllByRecursion (λ a. IsWanted a.range a.wanted) aims → new_keys keys (all_differences pages aims) ≡ wanted_new keys aims
aims_new keys pages [] have are = refl
aims_new keys pages (a ∷ aims) have are =
    new-append keys (differences pages a.range a.wanted) (all_differences pages aims)
    ∙ (λ i. differences_new keys pages a.range a.wanted have are.0 i + aims_new keys pages aims have are.1 i)
    ∙ sym (sum_by-cons (λ aim. new_keys keys aim.wanted) a aims)

all_differences-append : (pages : Key → Option Page) (aims more : List Aim) → all_differences pages (aims ++ more) ≡ all_differences pages aims ++ all_differences pages more
all_differences-append pages [] more = refl
all_differences-append pages (a ∷ aims) more =
    ap (λ (cs : List Change). differences pages a.range a.wanted ++ cs) (all_differences-append pages aims more)
    ∙ sym (append_assoc (differences pages a.range a.wanted) (all_differences pages aims) (all_differences pages more))

-- each is of a lower object than the last one
below_last : (aims : List Aim) (last : Aim) → RiseByObject (aims ++ last ∷ []) → AllByRecursion (λ a. a.range.object < last.range.object) aims
below_last [] last order = tt
below_last (a ∷ aims) last order = (at_end aims (later_aims a (aims ++ last ∷ []) order), below_last aims last (aims_rest a (aims ++ last ∷ []) order))
  where
    at_end : (bs : List Aim) → AllByRecursion (λ b. a.range.object < b.range.object) (bs ++ last ∷ []) → a.range.object < last.range.object
    at_end [] h = h.0
    at_end (b ∷ bs) h = at_end bs h.1

same_all : (pages others : Key → Option Page) (number : ℕ) (aims : List Aim) → AllByRecursion (λ a. a.range.object < number) aims → ((k : Key) → k.object < number → pages k ≡ others k) → all_differences pages aims ≡ all_differences others aims
same_all pages others number [] low same = refl
same_all pages others number (a ∷ aims) low same =
    let here : differences pages a.range a.wanted ≡ differences others a.range a.wanted =
    same_differences pages others a.wanted a.wanted a.range.object (a.range.end - a.range.first) a.range.first (λ p from high. same (key_at a.range.object p) low.0) (λ p from high. refl) in
    λ i. here i ++ same_all pages others number aims low.1 same i

pub one_reading : (keys : Keys) (before next : Key → Option Page) (aims : List Aim) (aim : Aim) → HavePages keys before → HavePages keys next → RiseByObject (aims ++ aim ∷ [])
    → (pages : Key → Option Page) × (HavePages keys pages × (all_differences pages (aims ++ aim ∷ []) ≡ all_differences before aims ++ differences next aim.range aim.wanted))
one_reading keys before next aims aim have also order = (pages, (have_both, all_differences-append pages aims (aim ∷ []) ∙ (λ i. first i ++ last i)))
  where
    pages : Key → Option Page
    pages key = cond (nat_lt key.object aim.range.object) (before key) (next key)

    have_both : HavePages keys pages
    have_both key = elim (nat_lt key.object aim.range.object) as (λ b. is_some (cond b (before key) (next key)) ≡ contains_key keys key) [ true ↦ have key | false ↦ also key ]

    first : all_differences pages aims ≡ all_differences before aims
    first = same_all pages before aim.range.object aims (below_last aims aim order) (λ k low. grind (arith, nat_tests))

    last : differences pages aim.range aim.wanted ++ [] ≡ differences next aim.range aim.wanted
    last =
        append-nil (differences pages aim.range aim.wanted)
        ∙ same_differences pages next aim.wanted aim.wanted aim.range.object (aim.range.end - aim.range.first) aim.range.first (λ p from high. grind (arith, nat_tests)) (λ p from high. refl)
