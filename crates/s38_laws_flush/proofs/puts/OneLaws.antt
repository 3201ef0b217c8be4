-- What a step puts first is no more parts than one put takes.
use Rattle.std.proofs.Common.{◌≡◌, ◌∙◌, ◌⊎◌, ℕ, ◌+◌, ◌-◌, ◌/◌, ◌<◌, ◌≤◌, ◌==◌, Bool, true, false, cond, inl, inr, List, [], ◌∷◌, length, refl, sym, ap, subst, arith, length-append}
use Rattle.std.proofs.lemmas.Bool.Decides.{nat_tests}
use Rattle.std.proofs.lemmas.List.Elements.{filter-append}
use Rattle.std.specs.FinMap.{get}
use Rattle.std.specs.List.{AllByRecursion, list_any}
use Rattle.std.specs.Prelude.{◌||◌, None, Option, Some, filter, is_some, nat_le}
use Rattle.s38_base.specs.Limits.{body_limit}
use Rattle.s38_base.specs.declared.page.Change.{Change}
use Rattle.s38_commits.proofs.MapLaws.{nat_itself, nat_same}
use Rattle.s38_durable_state.specs.Durable.{Durable, kept, kept_after, whole_object, with_header_and_rows}
use Rattle.s38_durable_state.specs.Represents.{Represents, aim_of, aims_of, is_among, parts_end, parts_in}
use Rattle.s38_page_diff.proofs.DifferenceLaws.{same_differences}
use Rattle.s38_page_diff.proofs.WalkLaws.{key_at}
use Rattle.s38_page_diff.specs.Aims.{all_differences}
use Rattle.s38_page_diff.specs.Differences.{differences, wanted_at}
use Rattle.s38_image.specs.PartPlaces.{ceiling_key}
use Rattle.s38_image.specs.Journals.{journal}
use Rattle.s38_image.specs.declared.stored.Stored.{Stored}
use Rattle.s38_journals.specs.Journals.{JournalList}
use Rattle.s38_laws_objects.specs.Outline.{is_forced, speaks_of}
use Rattle.s38_rules.specs.store.Forcing.{Forced, Whole, is_whole}
use Rattle.s38_rules.specs.state.Held.{Held, disk_in, is_on_disk, kind_of, object}
use Rattle.s38_rules.specs.state.Parts.{journal_of, journal_part, part_at}
use Rattle.s38_rules.specs.store.Room.{image_len}
use Rattle.s38_rules.specs.state.State.{State}
use Rattle.s38_rules.specs.declared.object.Object.{Object}
use Rattle.s38_flush.proofs.AfterLaws.{kept_after_step, kept_one, parts_below}
use Rattle.s38_flush.proofs.NumberLaws.{AreAbove, Rise, numbers_are, numbers_rise}
use Rattle.s38_flush.specs.Numbers.{is_numbered, numbered, numbers, with_all_numbers, with_number}
use Rattle.s38_flush.specs.Stepping.{object_changes}
use Rattle.s38_vault.specs.Content.{Content}
use Rattle.s38_vault.specs.Vaults.{most_changes}
use Rattle.s38_flush.specs.Leftovers.{belongs_in, first_changes}
use Rattle.s38_laws_flush.proofs.puts.DifferLaws.{none_differ}
use Rattle.s38_laws_flush.proofs.puts.DueLaws.{due_fewer, header_due}
use Rattle.s38_laws_flush.proofs.puts.ObjectLaws.{page_in}
use Rattle.s38_laws_flush.proofs.puts.ShapeLaws.{ForcesBoth, ForcesFew, ForcesOne, longest_entry, rows_at, true_le, unforced_in}
use Rattle.s38_laws_flush.proofs.puts.JournalPartsLaws.{IsLed, Small, behind_kind, cost, followed_few, grown_few, kept_by, new, not_journal, others_few, page_limit, rowed_few, settled_kind, trailing_few}

-- ---- one number

module _ (all : List Forced) (d : Durable) (s t : State) (k : Held) where
  module _ (led : IsLed all d s t k) where
    -- what is kept after the step is of the same kind
    same_kind : (n : ℕ) (x y : Stored) → kept d.objects n ≡ Some x → kept (new all d s t k).objects n ≡ Some y → kind_of y.object.body ≡ kind_of x.object.body
    same_kind n x y was is =
        let step = kept_by all d s t k led n x y was is in
        let kinds_are = led.kinds n step.object_of x step.found was in
        ap (λ (z : Stored). kind_of z.object.body) step.kept_as ∙ by step.object_of kinds_are (list_any (is_whole n) all) ∙ sym kinds_are
      where
        by : (o : Object) → kind_of x.object.body ≡ kind_of o.body → (b : Bool) → kind_of (cond b (whole_object t o) (with_header_and_rows o x)).object.body ≡ kind_of o.body
        by o same true = settled_kind t.units o.number.0 o.body
        by o same false = behind_kind o.body x.object.body same

    abbrev Grows : ℕ → Type 0
    Grows n = n < s.held.next → list_any (is_whole n) all ≡ true → unforced_in (part_at journal_part k n) ≤ unforced_in (part_at journal_part s.held n) + longest_entry

    one_few : (n : ℕ) (y : Stored) → Grows n → kept (new all d s t k).objects n ≡ Some y → cost all d s t k led n ≤ 2176
    one_few n y grows is = subst (λ (q : Option Stored). Small all d s t k led n (kept d.objects n) q 2176) (sym is) (by (kept d.objects n) refl)
      where
        kept_kind : (x : Stored) → kept d.objects n ≡ Some x → (r : Option JournalList) → journal_of x.object.body ≡ r → (b : Bool) → list_any (is_whole n) all ≡ b → Small all d s t k led n (Some x) (Some y) 2176
        kept_kind x was None body b anew =
            others_few all d s t k led n (Some x) (Some y) was is (page_limit all d s t k led (image_len x.object.body) (led.short n x was body))
            (page_limit all d s t k led (image_len y.object.body) (led.then_short n y is (not_journal x.object.body y.object.body (same_kind n x y was is) body)))
        kept_kind x was (Some i) body true anew = grown_few all d s t k led n x y i was is body anew (grows (led.given n x was) anew)
        kept_kind x was (Some i) body false not = followed_few all d s t k led n x y i was is body not

        first : kept d.objects n ≡ None → (r : Option JournalList) → journal_of y.object.body ≡ r → image_len y.object.body ≤ body_limit
        first was None body = led.then_short n y is body
        first was (Some j) body = led.first n y j was is body

        by : (r : Option Stored) → kept d.objects n ≡ r → Small all d s t k led n r (Some y) 2176
        by None was = others_few all d s t k led n None (Some y) was is (omega arith) (page_limit all d s t k led (image_len y.object.body) (first was (journal_of y.object.body) refl))
        by (Some x) was = kept_kind x was (journal_of x.object.body) refl (list_any (is_whole n) all) refl

    -- ---- a data space and its journal space

    off_kept : (n : ℕ) → is_on_disk t.held n ≡ false → kept (new all d s t k).objects n ≡ None
    off_kept n off = kept_after_step all d t n led.rising ∙ by (object t.held n) off
      where
        by : (z : Option Object) → disk_in z ≡ false → kept_one all t d.objects z ≡ None
        by None off = refl
        by (Some o) off = ap (λ b. cond b (Some (kept_after all t (kept d.objects o.number.0) o)) None) off

    on_kept : (n : ℕ) → is_on_disk t.held n ≡ true → kept (new all d s t k).objects n ≡ None → ⊥
    on_kept n on none = by (object t.held n) on (sym (kept_after_step all d t n led.rising) ∙ none)
      where
        by : (z : Option Object) → disk_in z ≡ true → kept_one all t d.objects z ≡ None → ⊥
        by None on e = let f : false ≡ true = on in cc
        by (Some o) on e = let f : Some (kept_after all t (kept d.objects o.number.0) o) ≡ None = sym (ap (λ b. cond b (Some (kept_after all t (kept d.objects o.number.0) o)) None) on) ∙ e in cc

    module _ (both : ForcesBoth s.held k all) where
      both_grow : (n : ℕ) → Grows n
      both_grow n less anew = let same = ap unforced_in (both.journals n) in omega (arith, same)

      paired_few : (both.space == both.journal) ≡ false → cost all d s t k led both.journal ≤ 107
      paired_few apart = by (kept d.objects n) refl (kept (new all d s t k).objects n) refl
        where
          n : ℕ
          n = both.journal

          still : is_on_disk t.held n ≡ is_on_disk s.held n
          still = led.disk n ∙ both.disk n apart

          anew : list_any (is_whole n) all ≡ true
          anew = ap (λ (fs : List Forced). list_any (is_whole n) fs) both.is ∙ ap (λ b. b || ((n == n) || false)) apart ∙ ap (λ b. b || false) (nat_itself n)

          nothing : Small all d s t k led n None None 107
          nothing = let none = none_differ (page_in None) (parts_in None) n 0 parts_end (λ p from before. refl) in omega (arith, none)

          journal_there : (r : Option JournalList) → is_some r ≡ true → (i : JournalList) × (r ≡ Some i)
          journal_there None some = absurd (let e : false ≡ true = some in cc)
          journal_there (Some i) some = (i, refl)

          by : (r : Option Stored) → kept d.objects n ≡ r → (q : Option Stored) → kept (new all d s t k).objects n ≡ q → Small all d s t k led n r q 107
          by None was None is = nothing
          by None was (Some y) is = absurd (let e : None ≡ Some y = sym (off_kept n (still ∙ led.off_disk n was)) ∙ is in cc)
          by (Some x) was None is = absurd (on_kept n (still ∙ led.on_disk n x was) is)
          by (Some x) was (Some y) is =
              let own = journal_there (journal_of x.object.body) (led.old_kinds n x was both.there) in
              let same = ap unforced_in (both.journals n) in
              rowed_few all d s t k led n x y own.0 was is own.1 anew (omega (arith, same)) (led.rows n ∙ both.rows n)

    -- ---- all numbers

    -- the changes of a number are the parts that differ
    module _ (m : Content) (stands : Represents m d) where
      abbrev of_number : ℕ → List Change
      of_number n = differences (get m) (aim_of (new all d s t k) n).range (aim_of (new all d s t k) n).wanted

      -- how many of them are no orphan pages
      abbrev due : ℕ → ℕ
      due n = length (filter (belongs_in (new all d s t k)) (of_number n))

      real_cost : (n : ℕ) → n < ceiling_key → length (of_number n) ≡ cost all d s t k led n
      real_cost n low =
          ap (λ (cs : List Change). length (differences (get m) (aim_of (new all d s t k) n).range cs)) (parts_below (new all d s t k) n low)
          ∙ ap (λ (cs : List Change). length cs) (same_differences (get m) (page_in (kept d.objects n)) (parts_in (kept (new all d s t k).objects n)) (parts_in (kept (new all d s t k).objects n)) n (parts_end - 0) 0
          (λ p from before. stands.each (key_at n p) (omega (arith, before)) ∙ ap (λ (cs : List Change). wanted_at cs (key_at n p)) (parts_below d n low)) (λ p from before. refl))

      -- where a journal space alone is forced, whole, its header differs, and the pages from the last that was kept on
      module _ (n : ℕ) (only : all ≡ Whole n ∷ []) (low : n < ceiling_key) (there : is_some (part_at journal_part s.held n) ≡ true) (rows : rows_at t.held n ≡ rows_at s.held n) (still : is_on_disk t.held n ≡ is_on_disk s.held n) where
        abbrev Most : ℕ
        Most = unforced_in (part_at journal_part k n) / 512 + 3

        own_cost : cost all d s t k led n ≤ Most
        own_cost = by (kept d.objects n) refl (kept (new all d s t k).objects n) refl
          where
            anew : list_any (is_whole n) all ≡ true
            anew = ap (λ (fs : List Forced). list_any (is_whole n) fs) only ∙ ap (λ b. b || false) (nat_itself n)

            nothing : Small all d s t k led n None None Most
            nothing = let none = none_differ (page_in None) (parts_in None) n 0 parts_end (λ p from before. refl) in omega (arith, none)

            journal_there : (r : Option JournalList) → is_some r ≡ true → (i : JournalList) × (r ≡ Some i)
            journal_there None some = absurd (let e : false ≡ true = some in cc)
            journal_there (Some i) some = (i, refl)

            by : (r : Option Stored) → kept d.objects n ≡ r → (q : Option Stored) → kept (new all d s t k).objects n ≡ q → Small all d s t k led n r q Most
            by None was None is = nothing
            by None was (Some y) is = absurd (let e : None ≡ Some y = sym (off_kept n (still ∙ led.off_disk n was)) ∙ is in cc)
            by (Some x) was None is = absurd (on_kept n (still ∙ led.on_disk n x was) is)
            by (Some x) was (Some y) is = let own = journal_there (journal_of x.object.body) (led.old_kinds n x was there) in trailing_few all d s t k led n x y own.0 was is own.1 anew rows

        pub alone_put : length (object_changes (numbered all) (get m) (new all d s t k)) ≤ Most
        unfolding with_all_numbers with_number
        alone_put = subst (λ (fs : List Forced). length (object_changes (numbered fs) (get m) (new all d s t k)) ≤ Most) (sym only) (by (is_numbered (Whole n)))
          where
            by : (b : Bool) → length (object_changes (cond b (Whole n ∷ []) []) (get m) (new all d s t k)) ≤ Most
            by true =
                let count = length-append (of_number n) [] in
                let same = real_cost n low in
                let few = own_cost in
                omega (arith, count, same, few)
            by false = omega arith

      due_cost : (n most : ℕ) → n < ceiling_key → cost all d s t k led n ≤ most → due n ≤ most
      due_cost n most low few =
          let fewer = due_fewer (new all d s t k) (of_number n) in
          let same = real_cost n low in
          omega (arith, fewer, same, few)

      due_few : (n : ℕ) → n < ceiling_key → Grows n → due n ≤ 2176
      due_few n low grows = by (kept (new all d s t k).objects n) refl
        where
          by : (q : Option Stored) → kept (new all d s t k).objects n ≡ q → due n ≤ 2176
          by None is = let one : due n ≤ 1 = header_due (new all d s t k) n low is (get m) (aim_of (new all d s t k) n).wanted in omega (arith, one)
          by (Some y) is = due_cost n 2176 low (one_few n y grows is)

      first_due : (n : ℕ) (ns : List ℕ) → length (filter (belongs_in (new all d s t k)) (all_differences (get m) (aims_of (new all d s t k) (n ∷ ns)))) ≡ due n + length (filter (belongs_in (new all d s t k)) (all_differences (get m) (aims_of (new all d s t k) ns)))
      first_due n ns =
          ap (λ (cs : List Change). length cs) (filter-append (belongs_in (new all d s t k)) (of_number n) (all_differences (get m) (aims_of (new all d s t k) ns)))
          ∙ length-append (filter (belongs_in (new all d s t k)) (of_number n)) (filter (belongs_in (new all d s t k)) (all_differences (get m) (aims_of (new all d s t k) ns)))

      abbrev Puts : List ℕ → ℕ → Type 0
      Puts ns most = length (filter (belongs_in (new all d s t k)) (all_differences (get m) (aims_of (new all d s t k) ns))) ≤ most

      -- of one object
      one_put : (ns : List ℕ) → ForcesOne s.held k all → Rise ns → AllByRecursion (λ n. (is_forced n all ≡ true) × (n < ceiling_key)) ns → Puts ns most_changes
      unfolding Rise AreAbove
      one_put [] one rise each = omega arith
      one_put (n ∷ []) one rise each =
          let few = due_few n each.0.1 (one.grows n) in
          let first = first_due n [] in
          omega (arith, few, first)
      one_put (n ∷ i ∷ ns) one rise each =
          absurd (let same = one.one n i each.0.0 each.1.0.0 in let less = rise.0.0 in omega (arith, same, less))

      -- of a data space and of its journal space
      module _ (both : ForcesBoth s.held k all) where
        abbrev Either : ℕ → Type 0
        Either n = (n ≡ both.space) ⊎ (n ≡ both.journal)

        either : (n : ℕ) → is_forced n all ≡ true → Either n
        either n is = by (both.space == n) (both.journal == n) refl refl (sym (ap (is_forced n) both.is) ∙ is)
          where
            by : (a b : Bool) → (both.space == n) ≡ a → (both.journal == n) ≡ b → (a || (b || false)) ≡ true → Either n
            by true b one two e = inl (sym (nat_same both.space n one))
            by false true one two e = inr (sym (nat_same both.journal n two))
            by false false one two e = cc

        apart : (a b : ℕ) → (a < b) ⊎ (b < a) → (a == b) ≡ false
        apart a b (inl less) = grind (arith, nat_tests)
        apart a b (inr less) = grind (arith, nat_tests)

        pair_few : (n i : ℕ) → n < i → n < ceiling_key → i < ceiling_key → Either n → Either i → due n + due i ≤ 2283
        pair_few n i less low lower (inl a) (inl b) = absurd (omega (arith, less, a, b))
        pair_few n i less low lower (inr a) (inr b) = absurd (omega (arith, less, a, b))
        pair_few n i less low lower (inl a) (inr b) =
            let first = due_few n low (both_grow both n) in
            let second = due_cost i 107 lower (subst (λ (j : ℕ). cost all d s t k led j ≤ 107) (sym b) (paired_few both (apart both.space both.journal (inl (omega (arith, less, a, b)))))) in
            omega (arith, first, second)
        pair_few n i less low lower (inr a) (inl b) =
            let first = due_cost n 107 low (subst (λ (j : ℕ). cost all d s t k led j ≤ 107) (sym a) (paired_few both (apart both.space both.journal (inr (omega (arith, less, a, b)))))) in
            let second = due_few i lower (both_grow both i) in
            omega (arith, first, second)

        no_third : (n i j : ℕ) → n < i → i < j → Either n → Either i → Either j → ⊥
        no_third n i j less more (inl a) (inl b) c = omega (arith, less, a, b)
        no_third n i j less more (inr a) (inr b) c = omega (arith, less, a, b)
        no_third n i j less more (inl a) (inr b) (inl c) = omega (arith, less, more, a, c)
        no_third n i j less more (inl a) (inr b) (inr c) = omega (arith, more, b, c)
        no_third n i j less more (inr a) (inl b) (inl c) = omega (arith, more, b, c)
        no_third n i j less more (inr a) (inl b) (inr c) = omega (arith, less, more, a, c)

        both_put : (ns : List ℕ) → Rise ns → AllByRecursion (λ n. (is_forced n all ≡ true) × (n < ceiling_key)) ns → Puts ns most_changes
        unfolding Rise AreAbove
        both_put [] rise each = omega arith
        both_put (n ∷ []) rise each =
            let few = due_few n each.0.1 (both_grow both n) in
            let first = first_due n [] in
            omega (arith, few, first)
        both_put (n ∷ i ∷ []) rise each =
            let few = pair_few n i rise.0.0 each.0.1 each.1.0.1 (either n each.0.0) (either i each.1.0.0) in
            let first = first_due n (i ∷ []) in
            let second = first_due i [] in
            omega (arith, few, first, second)
        both_put (n ∷ i ∷ j ∷ ns) rise each = absurd (no_third n i j rise.0.0 rise.1.0.0 (either n each.0.0) (either i each.1.0.0) (either j each.1.1.0.0))

      few_put : (ns : List ℕ) → Rise ns → AllByRecursion (λ n. (is_forced n all ≡ true) × (n < ceiling_key)) ns → Puts ns most_changes
      few_put ns rise each = by led.few
        where
          by : ForcesFew s.held k all → Puts ns most_changes
          by (inl one) = one_put ns one rise each
          by (inr both) = both_put both ns rise each

      -- what is forced without the number of no object is forced
      still_forced : (n : ℕ) (some : List Forced) → is_forced n (numbered some) ≡ true → is_forced n some ≡ true
      still_forced n [] is = is
      still_forced n (one ∷ more) is = by (is_numbered one) is (still_forced n more)
        where
          either_true : (a b c : Bool) → (b ≡ true → c ≡ true) → (a || b) ≡ true → (a || c) ≡ true
          either_true true b c rest e = refl
          either_true false b c rest e = rest e

          later : (b c : Bool) → c ≡ true → (b || c) ≡ true
          later true c e = refl
          later false c e = e

          by : (b : Bool) → list_any (speaks_of n) (cond b (one ∷ numbered more) (numbered more)) ≡ true → (is_forced n (numbered more) ≡ true → is_forced n more ≡ true) → (speaks_of n one || is_forced n more) ≡ true
          by true is rest = either_true (speaks_of n one) (is_forced n (numbered more)) (is_forced n more) rest is
          by false is rest = later (speaks_of n one) (is_forced n more) (rest is)

      -- what belongs to something fits in one put
      step_due : ((n : ℕ) → is_forced n all ≡ true → n < ceiling_key) → length (filter (belongs_in (new all d s t k)) (object_changes (numbered all) (get m) (new all d s t k))) ≤ most_changes
      step_due low = few_put (numbers (numbered all)) (numbers_rise (numbered all)) (each_of (numbers (numbered all)) (λ n among. sym (numbers_are n (numbered all)) ∙ among))
        where
          each_of : (ns : List ℕ) → ((n : ℕ) → is_among n ns ≡ true → is_forced n (numbered all) ≡ true) → AllByRecursion (λ n. (is_forced n all ≡ true) × (n < ceiling_key)) ns
          each_of [] among = tt
          each_of (n ∷ ns) among =
              let here = still_forced n all (among n (ap (λ b. b || is_among n ns) (nat_itself n))) in
              ((here, low n here), each_of ns (λ i is. among i (later (i == n) (is_among i ns) is)))
            where
              later : (b c : Bool) → c ≡ true → (b || c) ≡ true
              later true c e = refl
              later false c e = e

      -- what is put first does
      pub step_put : ((n : ℕ) → is_forced n all ≡ true → n < ceiling_key) → length (first_changes most_changes (new all d s t k) (object_changes (numbered all) (get m) (new all d s t k))) ≤ most_changes
      step_put low = by (nat_le (length (object_changes (numbered all) (get m) (new all d s t k))) most_changes) refl
        where
          by : (b : Bool) → nat_le (length (object_changes (numbered all) (get m) (new all d s t k))) most_changes ≡ b
              → length (cond b (object_changes (numbered all) (get m) (new all d s t k)) (filter (belongs_in (new all d s t k)) (object_changes (numbered all) (get m) (new all d s t k)))) ≤ most_changes
          by true fits = true_le (length (object_changes (numbered all) (get m) (new all d s t k))) most_changes fits
          by false more = step_due low
