-- What one more object needs at a close is no more parts than one put takes, and so a crash leaves what the machine makes
-- durable where it ensures the first objects.
use Rattle.std.proofs.Common.{◌≡◌, ◌∙◌, inl, inr, ℕ, zero, suc, ◌<◌, ◌≤◌, ◌^◌, Bool, true, false, cond, List, [], ◌∷◌, ◌++◌, length, refl, sym, ap, subst, arith, append-nil, length-append}
use Rattle.std.proofs.lemmas.Bool.Decides.{nat_tests}
use Rattle.std.specs.FinMap.{get}
use Rattle.std.specs.Option.{option_map}
use Rattle.std.specs.Prelude.{◌&&◌, ◌||◌, None, Option, Some, is_some, nat_le, nat_lt}
use Rattle.s38_base.specs.declared.page.Change.{Change}
use Rattle.s38_base.specs.declared.page.Key.{Key}
use Rattle.s38_base.specs.declared.page.Page.{Page}
use Rattle.s38_laws_checkpoint.proofs.prefix.CloseLaws.{all_closed, page_after, represents_after}
use Rattle.s38_laws_checkpoint.proofs.prefix.EnsureLaws.{FollowingLaw}
use Rattle.s38_laws_checkpoint.proofs.prefix.FollowLaws.{nothing_off}
use Rattle.s38_laws_checkpoint.proofs.prefix.MarkLaws.{found_after, whole_found}
use Rattle.s38_laws_checkpoint.proofs.prefix.WholeLaws.{content_represents}
use Rattle.s38_checkpoint.proofs.PassLaws.{AreSorted, below_next, none_between, sorted_by, sorted_front}
use Rattle.s38_checkpoint.specs.Closing.{closing, closing_changes}
use Rattle.s38_checkpoint.specs.Ensuring.{IsAfter, IsLeft, changes_of_number, is_ensured, journal_above, journal_ahead, next_changes}
use Rattle.s38_checkpoint.specs.Passing.{last_object_number}
use Rattle.s38_durable_state.specs.Durable.{Durable, kept, whole_object}
use Rattle.s38_durable_state.specs.Following.{image_header_in}
use Rattle.s38_durable_state.specs.Represents.{Represents, page_of, parts_at, parts_end, parts_in}
use Rattle.s38_page_diff.proofs.DifferenceLaws.{same_differences}
use Rattle.s38_page_diff.proofs.LookLaws.{nothing_differs}
use Rattle.s38_page_diff.proofs.WalkLaws.{key_at}
use Rattle.s38_page_diff.proofs.WantedLaws.{inside}
use Rattle.s38_page_diff.specs.Differences.{differences, is_part_in_range, wanted_at}
use Rattle.s38_image.specs.PartPlaces.{ceiling_key}
use Rattle.s38_journals.specs.Journals.{JournalList}
use Rattle.s38_page_diff.proofs.reconcile.PieceLaws.{each_at, each_none}
use Rattle.s38_page_diff.proofs.reconcile.PlacedLaws.{nothing_left}
use Rattle.s38_page_diff.specs.reconcile.Replacing.{changes_at, changes_to, range_of}
use Rattle.s38_laws_flush.proofs.durable.GoesThenLaws.{object_given}
use Rattle.s38_laws_flush.proofs.puts.ObjectLaws.{page_in}
use Rattle.s38_rules.specs.state.Held.{Held, disk_in, is_on_disk, object, object_in}
use Rattle.std.specs.List.{list_any}
use Rattle.s38_rules.specs.state.Journaling.{data_port, is_journal, is_that_number, journal_for, journal_named}
use Rattle.s38_rules.specs.state.Parts.{journal_of, journal_part, part_at, part_in, port_part}
use Rattle.s38_rules.specs.state.State.{State}
use Rattle.s38_rules.specs.declared.object.Object.{Object}
use Rattle.s38_rules.specs.declared.port.Port.{Port}
use Rattle.s38_flush.proofs.AfterLaws.{parts_below}
use Rattle.s38_vault.specs.Content.{Content}
use Rattle.s38_vault.specs.Directory.{NameObjects, keys_of}
use Rattle.s38_vault.specs.Vaults.{most_changes}
use Rattle.s38_laws_checkpoint.specs.puts.Ending.{IsClosedTo, IsEnding}
use Rattle.s38_laws_checkpoint.proofs.puts.CostLaws.{cost, object_cost, space_cost}

-- ---- the journal space of a data space

is_there : (h : Held) (port : Option Port) (j : ℕ) → journal_named h port ≡ Some j → is_journal h j ≡ true
is_there h None j e = absurd (cc)
is_there h (Some port) j e = by (is_journal h port.journal.0) refl e
  where
    same : (a b : ℕ) → Some a ≡ Some b → a ≡ b
    same a b e = cc

    by : (b : Bool) → is_journal h port.journal.0 ≡ b → cond b (Some port.journal.0) None ≡ Some j → is_journal h j ≡ true
    by true is e = ap (is_journal h) (sym (same port.journal.0 j e)) ∙ is
    by false is e = absurd (cc)

-- one that is kept with a data space
pub record IsSpaceAhead (h : Held) (j : ℕ) : Type 0 where
  pub object_of : Object
  pub found : object h j ≡ Some object_of
  pub journal : JournalList
  pub body : journal_of object_of.body ≡ Some journal
  pub disk : object_of.on_disk ≡ true

space_ahead : (h : Held) (n j : ℕ) → journal_ahead h n ≡ Some j → IsSpaceAhead h j
space_ahead h n j ahead = by (journal_for h n) refl ahead
  where
    same : (a b : ℕ) → Some a ≡ Some b → a ≡ b
    same a b e = cc

    body : (o : Object) → object h j ≡ Some o → is_on_disk h j ≡ true → (r : Option JournalList) → journal_of o.body ≡ r → is_some r ≡ true → IsSpaceAhead h j
    body o found on None none some = absurd (cc)
    body o found on (Some i) is some = record { object_of = o; found = found; journal = i; body = is; disk = sym (ap disk_in found) ∙ on }

    at : (x : Option Object) → object h j ≡ x → is_on_disk h j ≡ true → is_some (part_in journal_part x) ≡ true → IsSpaceAhead h j
    at None none on some = absurd (cc)
    at (Some o) found on some = body o found on (journal_of o.body) refl some

    there : (k : ℕ) → journal_for h n ≡ Some k → (a b : Bool) → is_on_disk h k ≡ b → cond (a && b) (Some k) None ≡ Some j → IsSpaceAhead h j
    there k for true true on e =
        let own = same k j e in
        at (object h j) refl (ap (is_on_disk h) (sym own) ∙ on) (is_there h (part_at port_part h (data_port h n)) j (for ∙ e))
    there k for true false on e = absurd (cc)
    there k for false b on e = absurd (cc)

    by : (r : Option ℕ) → journal_for h n ≡ r → journal_above h n r ≡ Some j → IsSpaceAhead h j
    by None for e = absurd (cc)
    by (Some k) for e = there k for (nat_lt n k) (is_on_disk h k) refl e

no_object : (s : State) (x : Option Object) → option_map (whole_object s) x ≡ None → x ≡ None
no_object s None e = refl
no_object s (Some o) e = absurd (cc)

beyond : (a b : ℕ) → nat_le a b ≡ false → b < a
beyond a b e = grind (arith, nat_tests)

-- ---- a content after the first objects

module _ (law : FollowingLaw) (s : State) (d : Durable) (ends : IsEnding s d) (m n : Content) (stands : Represents m d) where
  abbrev new : Durable
  new = closing s.units s.held

  low_number : (k : ℕ) (o : Object) → object s.held k ≡ Some o → k < ceiling_key
  low_number k o found =
      let given = object_given s.held k o ends.kept.numbered found in
      let within = ends.kept.numbered.within in
      let low = ends.kept.numbered.low in
      omega (arith, given, within, low)

  module _ (gone rest : List Object) (all : s.held.objects ≡ gone ++ rest) (behind : IsAfter m new s.held gone n) where
    -- no more parts of a number differ than from what was durable
    at_number : (k : ℕ) → 1 ≤ k → k < ceiling_key → length (changes_at (get n) (parts_at new) k) ≤ cost s d ends k
    at_number k from low = by (is_ensured s.held gone k) refl
      where
        by : (b : Bool) → is_ensured s.held gone k ≡ b → length (changes_at (get n) (parts_at new) k) ≤ cost s d ends k
        by true is =
            let none : changes_at (get n) (parts_at new) k ≡ [] = nothing_differs (get n) (range_of k) (parts_at new k) at in
            omega (arith, ap (λ (cs : List Change). length cs) none)
          where
            at : (key : Key) → is_part_in_range (range_of k) key ≡ true → get n key ≡ wanted_at (parts_at new k) key
            at key within =
                let here = inside (range_of k) key within in
                behind.each key (omega (arith, here.object, from)) here.before
                ∙ ap (λ b. cond b (page_of new key) (get m key)) (ap (is_ensured s.held gone) here.object ∙ is)
                ∙ ap (λ (i : ℕ). wanted_at (parts_at new i) key) here.object
        by false is =
            let same : changes_at (get n) (parts_at new) k ≡ differences (page_in (kept d.objects k)) (range_of k) (parts_in (kept new.objects k)) =
            same_differences (get n) (page_in (kept d.objects k)) (parts_at new k) (parts_in (kept new.objects k)) k (2 ^ 32) 0
            (λ p above under.
            behind.each (key_at k p) from under
            ∙ ap (λ b. cond b (page_of new (key_at k p)) (get m (key_at k p))) is
            ∙ stands.each (key_at k p) under
            ∙ ap (λ (cs : List Change). wanted_at cs (key_at k p)) (parts_below d k low))
            (λ p above under. ap (λ (cs : List Change). wanted_at cs (key_at k p)) (parts_below new k low)) in
            omega (arith, ap (λ (cs : List Change). length cs) same)

  module _ (gone rest : List Object) (o : Object) (all : s.held.objects ≡ gone ++ o ∷ rest) (behind : IsAfter m new s.held gone n) where
    abbrev k : ℕ
    k = o.number.0

    sorted : AreSorted (gone ++ o ∷ rest)
    sorted = subst AreSorted all (sorted_by s.held.objects ends.kept.numbered.rising)

    found : object s.held k ≡ Some o
    found = ap (λ (os : List Object). object_in os k) all ∙ found_after gone rest o (below_next gone rest o sorted)

    low : k < ceiling_key
    low = low_number k o found

    from : 1 ≤ k
    from = by k refl
      where
        nothing : object s.held 0 ≡ Some o → ⊥
        nothing e = let h : None ≡ Some o = sym ends.kept.numbered.none ∙ e in cc

        by : (j : ℕ) → k ≡ j → 1 ≤ j
        by zero e = absurd (nothing (subst (λ (j : ℕ). object s.held j ≡ Some o) e found))
        by (suc j) e = omega arith

    -- between the last one and the next one nothing is there
    none_there : (j : ℕ) → last_object_number gone < j → j < k → object s.held j ≡ None
    none_there j above below =
        no_object s (object s.held j)
        (ap (option_map (whole_object s)) (ap (λ (os : List Object). object_in os j) all) ∙ sym (whole_found s.units s.held (gone ++ o ∷ rest) j)
        ∙ none_between s.units s.held gone rest o j sorted (sorted_front gone (o ∷ rest) sorted) above below)

    page_below : (key : Key) → 1 ≤ key.object → key.object < k → key.part < parts_end → get n key ≡ page_of new key
    page_below key above below near = behind.each key above near ∙ by (nat_le key.object (last_object_number gone)) refl
      where
        ahead : Bool
        ahead = list_any (λ x. is_that_number key.object (journal_ahead s.held x.number.0)) gone

        either : (b : Bool) (x y : Option Page) → y ≡ x → cond b x y ≡ x
        either true x y e = refl
        either false x y e = e

        by : (b : Bool) → nat_le key.object (last_object_number gone) ≡ b → cond (b || ahead) (page_of new key) (get m key) ≡ page_of new key
        by true le = refl
        by false not =
            let none = none_there key.object (beyond key.object (last_object_number gone) not) below in
            let under : key.object < ceiling_key = omega (arith, below, low) in
            either ahead (page_of new key) (get m key)
            (stands.each key near
            ∙ ap (λ (cs : List Change). wanted_at cs key)
            (parts_below d key.object under ∙ ap parts_in (nothing_off s.held d key.object ends.kept.follows (ap image_header_in none))
            ∙ sym (parts_below new key.object under ∙ ap parts_in (whole_found s.units s.held s.held.objects key.object ∙ ap (option_map (whole_object s)) none))))

    own_changes : changes_to (get n) (parts_at new) k ≡ changes_at (get n) (parts_at new) k
    own_changes =
        each_at (changes_at (get n) (parts_at new)) 0 k from
        (λ j above below.
        nothing_differs (get n) (range_of j) (parts_at new j)
        (λ key within.
        let here = inside (range_of j) key within in
        page_below key (omega (arith, here.object, above)) (omega (arith, here.object, below)) here.before ∙ ap (λ (i : ℕ). wanted_at (parts_at new i) key) here.object))
        ∙ ap (λ (cs : List Change). cs ++ changes_at (get n) (parts_at new) k) (each_none (changes_at (get n) (parts_at new)))

    own_few : length (changes_to (get n) (parts_at new) k) ≤ 2176
    own_few =
        let few = at_number gone (o ∷ rest) all behind k from low in
        let most = object_cost s d ends k o found in
        omega (arith, ap (λ (cs : List Change). length cs) own_changes, few, most)

    ahead_few : (r : Option ℕ) → journal_ahead s.held k ≡ r → length (changes_of_number (get n) new r) ≤ 107
    ahead_few None is = omega arith
    ahead_few (Some j) is =
        let space = space_ahead s.held k j is in
        let few = at_number gone (o ∷ rest) all behind j (number_from j space.object_of space.found) (low_number j space.object_of space.found) in
        let most = space_cost s d ends j space.object_of space.journal space.found space.body space.disk in
        omega (arith, few, most)
      where
        number_from : (j : ℕ) (x : Object) → object s.held j ≡ Some x → 1 ≤ j
        number_from zero x at = absurd (let h : None ≡ Some x = sym ends.kept.numbered.none ∙ at in cc)
        number_from (suc j) x at = omega arith

    more_few : length (next_changes s.held new (get n) (o ∷ rest)) ≤ most_changes
    more_few =
        let both = length-append (changes_to (get n) (parts_at new) k) (changes_of_number (get n) new (journal_ahead s.held k)) in
        let own = own_few in
        let ahead = ahead_few (journal_ahead s.held k) refl in
        omega (arith, both, own, ahead)

  -- after all objects nothing is left to write
  all_left : IsAfter m new s.held s.held.objects n → closing_changes (get n) new ≡ []
  all_left behind =
      nothing_left n (parts_at new) ceiling_key
      (λ key from upto near.
      page_after law s d ends.kept m n s.held.objects [] stands (sym (append-nil s.held.objects)) behind key from near
      ∙ ap (λ (e : Durable). page_of e key) (all_closed law s d ends.kept))

  pub next_few : (gone rest : List Object) → s.held.objects ≡ gone ++ rest → IsAfter m new s.held gone n → length (next_changes s.held new (get n) rest) ≤ most_changes
  next_few gone [] all behind =
      let none = all_left (subst (λ (os : List Object). IsAfter m new s.held os n) (sym (all ∙ append-nil gone)) behind) in
      omega (arith, ap (λ (cs : List Change). length cs) none)
  next_few gone (o ∷ rest) all behind = more_few gone rest o all behind

-- ---- what a crash leaves

pub left_closed : FollowingLaw → (s : State) (d : Durable) → IsEnding s d → (m n : Content) → Represents m d → NameObjects (keys_of n) → IsLeft most_changes m (closing s.units s.held) s.held n → IsClosedTo s d n
left_closed law s d ends m n stands named (inl reached) =
    record { gone = reached.gone; rest = reached.rest; all = reached.all; stands = represents_after law s d ends.kept m n reached.gone reached.rest stands named reached.all reached.behind }
left_closed law s d ends m n stands named (inr (inl whole_content)) =
    record {
      gone = s.held.objects;
      rest = [];
      all = sym (append-nil s.held.objects);
      stands =
          subst (λ (e : Durable). Represents n e) (sym (all_closed law s d ends.kept))
          (subst (λ (x : Content). Represents x (closing s.units s.held)) (sym whole_content) (content_represents s d ends.kept ends.then_headers));
    }
left_closed law s d ends m n stands named (inr (inr within)) =
    absurd (let few = next_few law s d ends m within.before stands within.gone within.rest within.all within.behind in let many = within.many in omega (arith, few, many))
