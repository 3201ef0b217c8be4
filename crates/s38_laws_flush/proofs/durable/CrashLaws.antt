-- What a crash leaves of a run is kept so where one more entry is made, and where a call is stopped.
use Rattle.std.proofs.Common.{◌≡◌, ◌∙◌, ◌⊎◌, inl, inr, ℕ, suc, ◌+◌, ◌<◌, ◌≤◌, Bool, true, false, cond, List, [], ◌∷◌, ◌++◌, length, filter, take, refl, sym, ap, subst, arith}
use Rattle.std.proofs.lemmas.Bool.Decides.{nat_tests}
use Rattle.std.proofs.lemmas.Bool.{cases_lt}
use Rattle.std.proofs.lemmas.List.Elements.{filter-append}
use Rattle.std.proofs.lemmas.List.{length-append, take-append-le, take_all}
use Rattle.std.specs.Prelude.{nat_le}
use Rattle.s38_code.specs.declared.entry.Entry.{Entry}
use Rattle.s38_durable_state.specs.Durable.{Durable, durable}
use Rattle.s38_durable_state.specs.Represents.{Represents}
use Rattle.s38_rules.specs.step.Legal.{AreMoments}
use Rattle.s38_rules.specs.state.State.{State}
use Rattle.s38_flush.proofs.LeftLaws.{represents_all}
use Rattle.s38_flush.specs.Leftovers.{RepresentsUpToOrphans}
use Rattle.s38_vault.specs.Content.{Content}
use Rattle.s38_laws_flush.specs.durable.Crashes.{IsKeptPrefix, RepresentsBetween, RepresentsPrefix, answered}
use Rattle.s38_rules.specs.step.Histories.{state_after}

-- ---- marks

-- no more entries are answered than there are marks
answered_few : (t : ℕ) (marks : List ℕ) → answered t marks ≤ length marks
answered_few t [] = omega arith
answered_few t (mark ∷ marks) = by (nat_le mark t) (answered_few t marks)
  where
    by : (b : Bool) → answered t marks ≤ length marks → length (cond b (mark ∷ filter (λ k. nat_le k t) marks) (filter (λ k. nat_le k t) marks)) ≤ suc (length marks)
    by true few = omega (arith, few)
    by false few = omega (arith, few)

from_first : (first : ℕ) (marks : List ℕ) (moment : ℕ) → AreMoments first marks moment → first ≤ moment
from_first first [] moment are = are
from_first first (mark ∷ marks) moment are = let rest = from_first mark marks moment are.1 in let low = are.0 in omega (arith, rest, low)

-- at a moment that is no earlier than all marks all entries were answered
answered_all : (first t : ℕ) (marks : List ℕ) (moment : ℕ) → AreMoments first marks moment → moment ≤ t → answered t marks ≡ length marks
answered_all first t [] moment are late = refl
answered_all first t (mark ∷ marks) moment are late =
    let low = from_first mark marks moment are.1 in
    let here : nat_le mark t ≡ true = grind (arith, nat_tests, low, late) in
    ap (λ b. length (cond b (mark ∷ filter (λ k. nat_le k t) marks) (filter (λ k. nat_le k t) marks))) here ∙ ap suc (answered_all mark t marks moment are.1 late)

answered_both : (t : ℕ) (marks : List ℕ) (mark : ℕ) → answered t (marks ++ mark ∷ []) ≡ answered t marks + length (filter (λ k. nat_le k t) (mark ∷ []))
answered_both t marks mark = ap length (filter-append (λ k. nat_le k t) marks (mark ∷ [])) ∙ length-append (filter (λ k. nat_le k t) marks) (filter (λ k. nat_le k t) (mark ∷ []))

answered_before : (t : ℕ) (marks : List ℕ) (mark : ℕ) → t < mark → answered t (marks ++ mark ∷ []) ≡ answered t marks
answered_before t marks mark early =
    let off : nat_le mark t ≡ false = grind (arith, nat_tests, early) in
    let none : length (filter (λ k. nat_le k t) (mark ∷ [])) ≡ 0 = ap (λ b. length (cond b (mark ∷ []) [])) off in
    answered_both t marks mark ∙ omega (arith, none)

answered_behind : (t : ℕ) (marks : List ℕ) (mark : ℕ) → mark ≤ t → answered t (marks ++ mark ∷ []) ≡ answered t marks + 1
answered_behind t marks mark late =
    let on : nat_le mark t ≡ true = grind (arith, nat_tests, late) in
    let one : length (filter (λ k. nat_le k t) (mark ∷ [])) ≡ 1 = ap (λ b. length (cond b (mark ∷ []) [])) on in
    answered_both t marks mark ∙ omega (arith, one)

-- ---- after the first entries

module _ (d : Durable) (s : State) (history : List Entry) (m : Content) where
  -- of the whole history only what is durable is left
  all_left : (durable d s history).ceiling ≡ (state_after s history).held.ceiling → RepresentsBetween m (durable d s history) (state_after s history) (durable d s history) → RepresentsUpToOrphans m (durable d s history)
  all_left ceiling (inl x) = x
  all_left ceiling (inr (inl x)) = subst (λ (c : ℕ). RepresentsUpToOrphans m (record (durable d s history) { ceiling = c })) (sym ceiling) x
  all_left ceiling (inr (inr x)) = x

  module _ (e : Entry) where
    abbrev more : List Entry
    more = history ++ e ∷ []

    count_more : length more ≡ length history + 1
    count_more = length-append history (e ∷ [])

    whole : (n : ℕ) → length history + 1 ≤ n → take n more ≡ more
    whole n le = let count = count_more in take_all n more (omega (arith, count, le))

    front : (n : ℕ) → n ≤ length history → take n more ≡ take n history
    front n le = take-append-le n history (e ∷ []) le

    front_whole : take (length history) more ≡ history
    front_whole = front (length history) (omega arith) ∙ take_all (length history) history (omega arith)

    -- of entries before the last
    left_before : (k : ℕ) → k + 1 ≤ length history → RepresentsPrefix d s history k m → RepresentsPrefix d s more k m
    left_before k le left =
        let one = front k (omega (arith, le)) in
        let two = front (k + 1) le in
        subst (λ (es : List Entry). RepresentsBetween m (durable d s es) (state_after s (take (k + 1) more)) (durable d s (take (k + 1) more))) (sym one)
        (subst (λ (es : List Entry). RepresentsBetween m (durable d s (take k history)) (state_after s es) (durable d s es)) (sym two) left)

    -- of all entries, while one more is made
    pub left_last : (k : ℕ) → k ≡ length history → RepresentsBetween m (durable d s history) (state_after s more) (durable d s more) → RepresentsPrefix d s more k m
    left_last k at between =
        let one : take k more ≡ history = ap (λ (n : ℕ). take n more) at ∙ front_whole in
        let two : take (k + 1) more ≡ more = whole (k + 1) (omega (arith, at)) in
        subst (λ (es : List Entry). RepresentsBetween m (durable d s es) (state_after s (take (k + 1) more)) (durable d s (take (k + 1) more))) (sym one)
        (subst (λ (es : List Entry). RepresentsBetween m (durable d s history) (state_after s es) (durable d s es)) (sym two) between)

    -- of all entries and one more
    pub left_behind : (k : ℕ) → k ≡ length history + 1 → RepresentsUpToOrphans m (durable d s more) → RepresentsPrefix d s more k m
    left_behind k at stands = inl (subst (λ (es : List Entry). RepresentsUpToOrphans m (durable d s es)) (sym (whole k (omega (arith, at)))) stands)

    -- what was left before is left
    pub left_more : (k : ℕ) → k ≤ length history → (durable d s history).ceiling ≡ (state_after s history).held.ceiling → RepresentsPrefix d s history k m → RepresentsPrefix d s more k m
    left_more k few ceiling left = by (cases_lt k (length history))
      where
        last : k ≡ length history → RepresentsPrefix d s more k m
        last at =
            let one : take k history ≡ history = take_all k history (omega (arith, at)) in
            let two : take (k + 1) history ≡ history = take_all (k + 1) history (omega (arith, at)) in
            left_last k at (inl (all_left ceiling
            (subst (λ (es : List Entry). RepresentsBetween m (durable d s es) (state_after s history) (durable d s history)) one
            (subst (λ (es : List Entry). RepresentsBetween m (durable d s (take k history)) (state_after s es) (durable d s es)) two left))))

        by : (k < length history) ⊎ (length history ≤ k) → RepresentsPrefix d s more k m
        by (inl less) = left_before k (omega (arith, less)) left
        by (inr high) = last (omega (arith, few, high))

-- ---- a crash

pub begins_left : (d : Durable) (s : State) (t : ℕ) (m : Content) → Represents m d → IsKeptPrefix d s [] [] t m
begins_left d s t m stands = inl (represents_all m d stands)

pub earlier_left : (d : Durable) (s : State) (history : List Entry) (marks : List ℕ) (e : Entry) (now t : ℕ) (m : Content) → length marks ≡ length history → (durable d s history).ceiling ≡ (state_after s history).held.ceiling → t < now
    → IsKeptPrefix d s history marks t m → IsKeptPrefix d s (history ++ e ∷ []) (marks ++ now ∷ []) t m
earlier_left d s history marks e now t m marked ceiling early left =
    let few = answered_few t marks in
    subst (λ (k : ℕ). RepresentsPrefix d s (history ++ e ∷ []) k m) (sym (answered_before t marks now early)) (left_more d s history m e (answered t marks) (omega (arith, few, marked)) ceiling left)

pub during_left : (d : Durable) (s : State) (history : List Entry) (marks : List ℕ) (e : Entry) (first before now t : ℕ) (m : Content) → length marks ≡ length history → AreMoments first marks before → before ≤ t → t < now
    → RepresentsBetween m (durable d s history) (state_after s (history ++ e ∷ [])) (durable d s (history ++ e ∷ [])) → IsKeptPrefix d s (history ++ e ∷ []) (marks ++ now ∷ []) t m
during_left d s history marks e first before now t m marked are late early between =
    left_last d s history m e (answered t (marks ++ now ∷ [])) (answered_before t marks now early ∙ answered_all first t marks before are late ∙ marked) between

pub answered_left : (d : Durable) (s : State) (history : List Entry) (marks : List ℕ) (e : Entry) (first before now t : ℕ) (m : Content) → length marks ≡ length history → AreMoments first marks before → before ≤ now → now ≤ t
    → Represents m (durable d s (history ++ e ∷ [])) → IsKeptPrefix d s (history ++ e ∷ []) (marks ++ now ∷ []) t m
answered_left d s history marks e first before now t m marked are late behind stands =
    let all = answered_all first t marks before are (omega (arith, late, behind)) in
    left_behind d s history m e (answered t (marks ++ now ∷ [])) (answered_behind t marks now behind ∙ omega (arith, all, marked)) (represents_all m (durable d s (history ++ e ∷ [])) stands)

pub earlier_stopped : (d : Durable) (s : State) (history : List Entry) (marks : List ℕ) (e : Entry) (t : ℕ) (m : Content) → length marks ≡ length history → (durable d s history).ceiling ≡ (state_after s history).held.ceiling
    → IsKeptPrefix d s history marks t m → IsKeptPrefix d s (history ++ e ∷ []) marks t m
earlier_stopped d s history marks e t m marked ceiling left =
    let few = answered_few t marks in
    left_more d s history m e (answered t marks) (omega (arith, few, marked)) ceiling left

pub during_stopped : (d : Durable) (s : State) (history : List Entry) (marks : List ℕ) (e : Entry) (first before t : ℕ) (m : Content) → length marks ≡ length history → AreMoments first marks before → before ≤ t
    → RepresentsBetween m (durable d s history) (state_after s (history ++ e ∷ [])) (durable d s (history ++ e ∷ [])) → IsKeptPrefix d s (history ++ e ∷ []) marks t m
during_stopped d s history marks e first before t m marked are late between =
    left_last d s history m e (answered t marks) (answered_all first t marks before are late ∙ marked) between
