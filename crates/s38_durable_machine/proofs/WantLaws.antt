-- A machine over a vault whose last entry counts as that of a call that failed is sound.
use Rattle.std.proofs.Common.{◌≡◌, ◌∙◌, ◌⊎◌, inl, inr, ℕ, suc, ◌+◌, ◌-◌, ◌<◌, ◌≤◌, true, false, cond, List, [], ◌∷◌, ◌++◌, length, filter, take, refl, sym, ap, subst, arith, length-append}
use Rattle.std.proofs.lemmas.Bool.Decides.{nat_tests}
use Rattle.std.proofs.lemmas.Bool.{cases_lt}
use Rattle.std.proofs.lemmas.List.Elements.{filter-append}
use Rattle.std.proofs.lemmas.List.{take_all}
use Rattle.std.specs.Prelude.{nat_le}
use Rattle.s38_code.specs.declared.entry.Entry.{Entry}
use Rattle.s38_durable_state.specs.Durable.{Durable, durable}
use Rattle.s38_flush.specs.Leftovers.{RepresentsUpToOrphans}
use Rattle.s38_laws_flush.proofs.durable.CrashLaws.{left_last}
use Rattle.s38_laws_flush.proofs.durable.KeepLaws as kept_laws
use Rattle.s38_laws_flush.proofs.durable.KeepLaws.{history_kept, led_to}
use Rattle.s38_laws_flush.specs.durable.Crashes.{IsKeptPrefix, RepresentsBetween, RepresentsPrefix, answered}
use Rattle.s38_rules.specs.step.Legal.{AreMoments, Run}
use Rattle.s38_rules.specs.state.State.{State}
use Rattle.s38_vault.specs.Content.{Content}
use Rattle.s38_vault.specs.Vaults.{VaultView, most_changes}
use Rattle.s38_durable_machine.specs.Seen.{StoredView, answered_by, broken_off, without_last}
use Rattle.s38_durable_machine.specs.Sound.{IsKeptFrom, IsSoundOver}
use Rattle.s38_durable_machine.specs.declared.ending.Ending.{Ending}
use Rattle.s38_durable_machine.specs.declared.ending.Ending.TheVariants.{Going}
use Rattle.s38_durable_machine.proofs.RestartLaws.{kept_from}
use Rattle.s38_rules.specs.step.Histories.{state_after}

-- ---- the last of a list

less_one : (n : ℕ) → suc n - 1 ≡ n
less_one n = omega arith

without_more : {A : Type 0} (x z : A) (zs : List A) → without_last (x ∷ z ∷ zs) ≡ x ∷ without_last (z ∷ zs)
without_more {A} x z zs =
    ap (λ (j : ℕ). take j (x ∷ z ∷ zs)) (less_one (suc (length zs))) ∙ ap (λ (j : ℕ). x ∷ take j (z ∷ zs)) (sym (less_one (length zs)))

pub split_last : {A : Type 0} (x : A) (xs : List A) → (y : A) × (x ∷ xs ≡ without_last (x ∷ xs) ++ y ∷ [])
split_last x [] = (x, refl)
split_last {A} x (z ∷ zs) =
    let rest = split_last z zs in
    (rest.0, ap (λ (ys : List A). x ∷ ys) rest.1 ∙ ap (λ (ys : List A). ys ++ rest.0 ∷ []) (sym (without_more x z zs)))

-- ---- marks

answered_one : (t : ℕ) (marks : List ℕ) (mark : ℕ) → answered t (marks ++ mark ∷ []) ≡ answered t marks + length (filter (λ k. nat_le k t) (mark ∷ []))
answered_one t marks mark = ap length (filter-append (λ k. nat_le k t) marks (mark ∷ [])) ∙ length-append (filter (λ k. nat_le k t) marks) (filter (λ k. nat_le k t) (mark ∷ []))

one_early : (t mark : ℕ) → t < mark → length (filter (λ k. nat_le k t) (mark ∷ [])) ≡ 0
one_early t mark early = let off : nat_le mark t ≡ false = grind (arith, nat_tests, early) in ap (λ b. length (cond b (mark ∷ []) [])) off

one_late : (t mark : ℕ) → mark ≤ t → length (filter (λ k. nat_le k t) (mark ∷ [])) ≡ 1
one_late t mark late = let on : nat_le mark t ≡ true = grind (arith, nat_tests, late) in ap (λ b. length (cond b (mark ∷ []) [])) on

all_answered : (first t : ℕ) (marks : List ℕ) (mark last : ℕ) → AreMoments first (marks ++ mark ∷ []) last → mark ≤ t → answered t marks ≡ length marks
all_answered first t [] mark last are late = refl
all_answered first t (m ∷ marks) mark last are late =
    let low = below m marks mark last are.1 in
    let here : nat_le m t ≡ true = grind (arith, nat_tests, low, late) in
    ap (λ b. length (cond b (m ∷ filter (λ k. nat_le k t) marks) (filter (λ k. nat_le k t) marks))) here ∙ ap suc (all_answered m t marks mark last are.1 late)
  where
    below : (first : ℕ) (marks : List ℕ) (mark last : ℕ) → AreMoments first (marks ++ mark ∷ []) last → first ≤ mark
    below first [] mark last are = are.0
    below first (m ∷ marks) mark last are = let rest = below m marks mark last are.1 in let low = are.0 in omega (arith, low, rest)

-- ---- with one entry less that was answered

module _ (d : Durable) (s : State) (history : List Entry) (e : Entry) (marks : List ℕ) (mark first last : ℕ) (t : ℕ) (n : Content)
    (marked : length (marks ++ mark ∷ []) ≡ length (history ++ e ∷ [])) (are : AreMoments first (marks ++ mark ∷ []) last)
    (ceiling : (durable d s (history ++ e ∷ [])).ceiling ≡ (state_after s (history ++ e ∷ [])).held.ceiling) where
  abbrev more : List Entry
  more = history ++ e ∷ []

  count : length marks ≡ length history
  count = let one = length-append marks (mark ∷ []) in let two = length-append history (e ∷ []) in omega (arith, one, two, marked)

  all_left : RepresentsBetween n (durable d s more) (state_after s more) (durable d s more) → RepresentsUpToOrphans n (durable d s more)
  all_left (inl x) = x
  all_left (inr (inl x)) = subst (λ (c : ℕ). RepresentsUpToOrphans n (record (durable d s more) { ceiling = c })) (sym ceiling) x
  all_left (inr (inr x)) = x

  whole : (k : ℕ) → length history + 1 ≤ k → take k more ≡ more
  whole k le = let two = length-append history (e ∷ []) in take_all k more (omega (arith, two, le))

  stands_whole : (k : ℕ) → k ≡ length history + 1 → RepresentsPrefix d s more k n → RepresentsUpToOrphans n (durable d s more)
  stands_whole k at left =
      let one = whole k (omega (arith, at)) in
      let two = whole (k + 1) (omega (arith, at)) in
      all_left
      (subst (λ (es : List Entry). RepresentsBetween n (durable d s es) (state_after s more) (durable d s more)) one
      (subst (λ (es : List Entry). RepresentsBetween n (durable d s (take k more)) (state_after s es) (durable d s es)) two left))

  pub fewer_left : IsKeptPrefix d s more (marks ++ mark ∷ []) t n → IsKeptPrefix d s more marks t n
  fewer_left left = by (cases_lt t mark)
    where
      by : (t < mark) ⊎ (mark ≤ t) → IsKeptPrefix d s more marks t n
      by (inl early) =
          let none = one_early t mark early in
          let same : answered t (marks ++ mark ∷ []) ≡ answered t marks = answered_one t marks mark ∙ omega (arith, none) in
          subst (λ (k : ℕ). RepresentsPrefix d s more k n) same left
      by (inr late) =
          let one = one_late t mark late in
          let all : answered t marks ≡ length marks = all_answered first t marks mark last are late in
          let added = answered_one t marks mark in
          let count = count in
          let at : answered t (marks ++ mark ∷ []) ≡ length history + 1 = omega (arith, added, one, all, count) in
          left_last d s history n e (answered t marks) (all ∙ count) (inr (inr (stands_whole (answered t (marks ++ mark ∷ [])) at left)))

-- ---- the machine

module _ {V : Type 0} (view : V → VaultView) (holds : V → Content → Type 0) (leaves : V → ℕ → Content → Type 0) (laws : kept_laws.DurableLaws) (x : StoredView V)
    (is : IsSoundOver view holds leaves x) (going : x.ending ≡ Going) where
  abbrev m : Run
  m = x.machine

  crash_by : (es : List Entry) (ms : List ℕ) → m.history ≡ es → m.marks ≡ ms → 1 ≤ length es → (d : Durable) → IsKeptFrom view holds leaves x d → (durable d m.origin m.history).ceiling ≡ (state_after m.origin m.history).held.ceiling
      → (view x.first).shape.most ≡ most_changes → (t : ℕ) (n : Content) → (view x.first).moment ≤ t → t ≤ (view x.vault).moment → leaves x.vault t n
      → IsKeptPrefix d m.origin m.history (without_last m.marks) t n
  crash_by [] ms at_es at_ms some d kept ceiling most t n low high left = absurd (omega (arith, some))
  crash_by (e ∷ es) [] at_es at_ms some d kept ceiling most t n low high left =
      absurd (let marked = is.sound.stored.marked in let one = ap length at_es in let two = ap length at_ms in omega (arith, marked, one, two))
  crash_by (e ∷ es) (k ∷ ks) at_es at_ms some d kept ceiling most t n low high left =
      let last = split_last e es in
      let mark = split_last k ks in
      let hist : m.history ≡ without_last (e ∷ es) ++ last.0 ∷ [] = at_es ∙ last.1 in
      let marks : m.marks ≡ without_last (k ∷ ks) ++ mark.0 ∷ [] = at_ms ∙ mark.1 in
      let old = subst (λ (ending : Ending). (view x.first).shape.most ≡ most_changes → (j : ℕ) (c : Content) → (view x.first).moment ≤ j → j ≤ (view x.vault).moment → leaves x.vault j c
      → IsKeptPrefix d m.origin m.history (answered_by ending m).marks j c) going kept.crash most t n low high left in
      subst (λ (ys : List ℕ). IsKeptPrefix d m.origin m.history ys t n) (sym (ap (λ (ys : List ℕ). without_last ys) at_ms))
      (subst (λ (hs : List Entry). IsKeptPrefix d m.origin hs (without_last (k ∷ ks)) t n) (sym hist)
      (fewer_left d m.origin (without_last (e ∷ es)) last.0 (without_last (k ∷ ks)) mark.0 m.first m.moment t n
      (ap length (sym marks) ∙ is.sound.stored.marked ∙ ap length hist)
      (subst (λ (ys : List ℕ). AreMoments m.first ys m.moment) marks is.sound.stored.stamped)
      (subst (λ (hs : List Entry). (durable d m.origin hs).ceiling ≡ (state_after m.origin hs).held.ceiling) hist ceiling)
      (subst (λ (hs : List Entry). IsKeptPrefix d m.origin hs (without_last (k ∷ ks) ++ mark.0 ∷ []) t n) hist (subst (λ (ys : List ℕ). IsKeptPrefix d m.origin m.history ys t n) marks old))))

  pub broken_sound : 1 ≤ length m.history → IsSoundOver view holds leaves (broken_off x)
  broken_sound some = record {
    sound = is.sound;
    origin = is.origin;
    state = is.state;
    first = is.first;
    moment = is.moment;
    ending = tt;
    shape = is.shape;
    present = is.present;
    past = is.past;
    kept = λ c d held of. let kept = is.kept c d held of in
        let led_is = led_to m.origin [] m.history m.state is.sound.legal in
        let ceiling = (history_kept laws m.origin d [] m.history m.state of.kept is.sound.legal).ceiling ∙ ap (λ (u : State). u.held.ceiling) (sym led_is) in
        kept_from view holds leaves laws (broken_off x) c d is.sound is.origin of tt kept.short kept.images
        (λ most t n low high left. crash_by m.history m.marks refl refl some d kept ceiling most t n low high left);
  }
