-- What changes that wait make of a content, with those of one more object.
use Rattle.std.proofs.Common.{◌≡◌, ◌⊎◌, ℕ, ◌+◌, ◌<◌, ◌≤◌, ◌^◌, ◌==◌, Bool, true, false, cond, List, [], ◌∷◌, ◌++◌, inl, inr, length, refl, sym, ◌∙◌, ap, subst, arith, append-nil, append_assoc}
use Rattle.std.proofs.lemmas.Bool.Decides.{nat_tests}
use Rattle.std.proofs.lemmas.List.{append_cancel_left}
use Rattle.std.proofs.lemmas.List.Folds.{list_any-append}
use Rattle.std.specs.Prelude.{◌||◌, Option, Some, None, nat_le}
use Rattle.std.specs.FinMap.{get, len}
use Rattle.std.specs.List.{AllByRecursion, list_any}
use Rattle.s38_base.specs.declared.page.Change.{Change}
use Rattle.s38_base.specs.declared.page.Key.{Key}
use Rattle.s38_base.specs.declared.page.Page.{Page}
use Rattle.s38_checkpoint.specs.Ensuring.{FirstFit, IsAfter, IsFullAt, IsLeft, IsReached, changes_of_number, journal_ahead, next_changes, page_after, parts_of_number}
use Rattle.s38_checkpoint.specs.Passing.{last_object_number}
use Rattle.s38_checkpoint.specs.Waiting.{AddsNumber, IsNext, Waits}
use Rattle.s38_checkpoint.proofs.FitLaws.{all_parts, others_stay, same_front}
use Rattle.s38_checkpoint.proofs.PassLaws.{last_more}
use Rattle.s38_durable_state.specs.Durable.{Durable}
use Rattle.s38_durable_state.specs.Represents.{page_of, parts_at}
use Rattle.s38_page_diff.specs.Differences.{IsWanted, differences, wanted_at}
use Rattle.s38_page_diff.specs.Puts.{IsAfterPuts}
use Rattle.s38_page_diff.proofs.LookLaws.{differences_new, differences_objects, differences_rising, one_put}
use Rattle.s38_page_diff.proofs.WantedLaws.{in_range, pages_held}
use Rattle.s38_page_diff.specs.reconcile.Replacing.{changes_at, changes_to, range_of}
use Rattle.s38_page_diff.specs.reconcile.Walking.{IsKeyInRange}
use Rattle.s38_page_diff.proofs.reconcile.ContentLaws.{changed_at, differences_at, get-changed, other_number}
use Rattle.s38_page_diff.proofs.reconcile.PlacedLaws.{HasWanted, changed-append, changes_fine, made_in, made_out, new_last, none_at, number_fine, rest_left, same_at}
use Rattle.s38_page_diff.proofs.reconcile.SoFarLaws.{all_of, all_on, new-append, of_number, rising_join}
use Rattle.s38_rules.specs.state.Held.{Held}
use Rattle.s38_rules.specs.state.Journaling.{is_that_number}
use Rattle.s38_rules.specs.declared.object.Object.{Object}
use Rattle.s38_vault.specs.Content.{AreRising, Content, HaveObjects, changed}
use Rattle.s38_vault.specs.Directory.{Keys, keys_of, new_keys}

-- ---- tests

no_yes : {b : Bool} → b ≡ true → b ≡ false → ⊥
no_yes t f = cc

same_by : (a b : ℕ) → (a == b) ≡ true → a ≡ b
same_by a b e = grind (arith, nat_tests)

other_by : (a b : ℕ) → (a == b) ≡ false → a ≡ b → ⊥
other_by a b e = grind (arith, nat_tests)

at_most : (a b : ℕ) → nat_le a b ≡ true → a ≤ b
at_most a b e = grind (arith, nat_tests)

beyond : (a b : ℕ) → nat_le a b ≡ false → b < a
beyond a b e = grind (arith, nat_tests)

within : (a b : ℕ) → a ≤ b → nat_le a b ≡ true
within a b e = grind (arith, nat_tests)

not_within : (a b : ℕ) → b < a → nat_le a b ≡ false
not_within a b e = grind (arith, nat_tests)

pick : (a b c : Bool) (page old now : Option Page) → (a ≡ false → now ≡ cond c page old) → cond (a || b) page now ≡ cond (a || (c || b)) page old
pick true b c page old now h = refl
pick false true true page old now h = refl
pick false true false page old now h = refl
pick false false true page old now h = h refl
pick false false false page old now h = h refl

-- ---- the changes of one more

-- the number is above another one
abbrev pub IsAbove : ℕ → Option ℕ → Type 0
IsAbove n None = Unit {0}
IsAbove n (Some j) = n < j

-- the parts of the number are wanted ones
abbrev pub AreWantedAt : Durable → Option ℕ → Type 0
AreWantedAt d None = Unit {0}
AreWantedAt d (Some j) = IsWanted (range_of j) (parts_at d j)

module _ (d : Durable) (keys : Keys) (holds : Content → Type 0) (n : ℕ) (between new : List Change) where
  pub above_by : (journal : Option ℕ) → AddsNumber keys holds (parts_at d) journal n between new → IsAbove n journal
  above_by None adds = tt
  above_by (Some j) adds = adds.0

  pub wanted_by : (journal : Option ℕ) → AddsNumber keys holds (parts_at d) journal n between new → AreWantedAt d journal
  wanted_by None adds = tt
  wanted_by (Some j) adds = adds.1.0

  pub told_by : (journal : Option ℕ) → AddsNumber keys holds (parts_at d) journal n between new → (m : Content) → holds m → new ≡ between ++ changes_of_number (get m) d journal
  told_by None adds m h = adds ∙ sym (append-nil between)
  told_by (Some j) adds m h = adds.1.1.told m h

  -- the changes can be put together
  pub rising_by : (journal : Option ℕ) → AddsNumber keys holds (parts_at d) journal n between new → AreRising between → AllByRecursion (λ c. c.key.object ≤ n) between → AreRising new
  rising_by None adds rising upto = subst AreRising (sym adds) rising
  rising_by (Some j) adds rising upto =
      let at = adds.1.1 in
      let found = differences at.pages (range_of j) (parts_at d j) in
      subst AreRising (sym at.read)
      (rising_join n between found upto (all_of _ _ found (λ c here. omega (arith, here, adds.0)) (of_number at.pages j (parts_at d j))) rising (differences_rising at.pages (range_of j) (parts_at d j)))

  pub objects_by : (journal : Option ℕ) → AddsNumber keys holds (parts_at d) journal n between new → HaveObjects between → HaveObjects new
  objects_by None adds objects = subst HaveObjects (sym adds) objects
  objects_by (Some j) adds objects =
      let at = adds.1.1 in
      let found = differences at.pages (range_of j) (parts_at d j) in
      subst HaveObjects (sym at.read) (all_on (λ c. 1 ≤ c.key.object) between found objects (differences_objects at.pages (range_of j) (parts_at d j) (omega (arith, adds.0))))

module _ (d : Durable) where
  -- each page after them
  pub page_at : (m : Content) (n : ℕ) (journal : Option ℕ) → IsAbove n journal → (key : Key) → 1 ≤ key.object → key.part < 2 ^ 32
      → get (changed (changed m (changes_to (get m) (parts_at d) n)) (changes_of_number (get m) d journal)) key ≡ cond (nat_le key.object n || is_that_number key.object journal) (page_of d key) (get m key)
  page_at m n None above key from part = by (nat_le key.object n) refl
    where
      by : (b : Bool) → nat_le key.object n ≡ b → get (changed m (changes_to (get m) (parts_at d) n)) key ≡ cond (b || false) (page_of d key) (get m key)
      by true e = made_in m (parts_at d) n key from (at_most key.object n e) part
      by false e = made_out m (parts_at d) n key (beyond key.object n e)
  page_at m n (Some j) above key from part =
      get-changed B (differences (get m) (range_of j) (parts_at d j)) key ∙ by (nat_le key.object n) refl (key.object == j) refl
    where
      B : Content
      B = changed m (changes_to (get m) (parts_at d) n)

      js : List Change
      js = differences (get m) (range_of j) (parts_at d j)

      by : (b : Bool) → nat_le key.object n ≡ b → (c : Bool) → (key.object == j) ≡ c → changed_at js key (get B key) ≡ cond (b || c) (page_of d key) (get m key)
      by true e true f = absurd (omega (arith, at_most key.object n e, same_by key.object j f, above))
      by true e false f =
          other_number js j key (get B key) (of_number (get m) j (parts_at d j)) (other_by key.object j f)
          ∙ made_in m (parts_at d) n key from (at_most key.object n e) part
      by false e true f =
          let is = same_by key.object j f in
          ap (changed_at js key) (made_out m (parts_at d) n key (beyond key.object n e)) ∙ differences_at m (range_of j) (parts_at d j) key
          ∙ ap (λ b. cond b (wanted_at (parts_at d j) key) (get m key)) (in_range (range_of j) key is (omega arith) part)
          ∙ ap (λ (k : ℕ). wanted_at (parts_at d k) key) (sym is)
      by false e false f =
          other_number js j key (get B key) (of_number (get m) j (parts_at d j)) (other_by key.object j f)
          ∙ made_out m (parts_at d) n key (beyond key.object n e)

  -- up to the number all is as wanted
  pub has_next : (m : Content) (n : ℕ) (journal : Option ℕ) (between new : List Change) → IsAbove n journal → between ≡ changes_to (get m) (parts_at d) n → new ≡ between ++ changes_of_number (get m) d journal
      → HasWanted (changed m new) (parts_at d) n
  has_next m n journal between new above first last key from upto part =
      let whole = last ∙ ap (λ (cs : List Change). cs ++ changes_of_number (get m) d journal) first in
      ap (λ (cs : List Change). get (changed m cs) key) whole
      ∙ ap (λ (x : Content). get x key) (changed-append m (changes_to (get m) (parts_at d) n) (changes_of_number (get m) d journal))
      ∙ page_at m n journal above key from part ∙ ap (λ b. cond (b || is_that_number key.object journal) (page_of d key) (get m key)) (within key.object n upto)

  -- where the first changes were made, the changes of one more are these
  pub rest_next : (m : Content) (done n : ℕ) (journal : Option ℕ) (front rest between new : List Change) → done ≤ n → IsAbove n journal → front ≡ changes_to (get m) (parts_at d) done → between ≡ changes_to (get m) (parts_at d) n
      → new ≡ between ++ changes_of_number (get m) d journal → new ≡ front ++ rest → rest ≡ changes_to (get (changed m front)) (parts_at d) n ++ changes_of_number (get (changed m front)) d journal
  rest_next m done n journal front rest between new low above first mid last parted =
      append_cancel_left front rest (changes_to (get (changed m front)) (parts_at d) n ++ changes_of_number (get (changed m front)) d journal)
      (sym parted ∙ last ∙ (λ i. left i ++ same_number journal above i) ∙ append_assoc front (changes_to (get (changed m front)) (parts_at d) n) (changes_of_number (get (changed m front)) d journal))
    where
      out : (key : Key) → done < key.object → get (changed m front) key ≡ get m key
      out key beyond = ap (λ (cs : List Change). get (changed m cs) key) first ∙ made_out m (parts_at d) done key beyond

      in_ : HasWanted (changed m front) (parts_at d) done
      in_ = subst (λ (cs : List Change). HasWanted (changed m cs) (parts_at d) done) (sym first) (made_in m (parts_at d) done)

      left : between ≡ front ++ changes_to (get (changed m front)) (parts_at d) n
      left =
          mid ∙ rest_left m (changed m front) (parts_at d) done n low in_ (λ key beyond part. out key beyond)
          ∙ ap (λ (cs : List Change). cs ++ changes_to (get (changed m front)) (parts_at d) n) (sym first)

      same_number : (journal : Option ℕ) → IsAbove n journal → changes_of_number (get m) d journal ≡ changes_of_number (get (changed m front)) d journal
      same_number None above = refl
      same_number (Some j) above = same_at m (changed m front) (parts_at d) j (λ key is part. out key (omega (arith, is, above, low)))

  -- their keys are fine
  pub fine_next_changes : (pages : Key → Option Page) (n : ℕ) (journal : Option ℕ) → IsAbove n journal → AllByRecursion (λ c. IsKeyInRange c.key) (changes_to pages (parts_at d) n ++ changes_of_number pages d journal)
  fine_next_changes pages n None above = all_on (λ c. IsKeyInRange c.key) (changes_to pages (parts_at d) n) [] (changes_fine pages (parts_at d) n) tt
  fine_next_changes pages n (Some j) above =
      all_on (λ c. IsKeyInRange c.key) (changes_to pages (parts_at d) n) (differences pages (range_of j) (parts_at d j)) (changes_fine pages (parts_at d) n) (number_fine pages j (parts_at d j) (omega (arith, above)))

  -- they bring as many keys as the wanted parts
  pub new_next : (m : Content) (done n : ℕ) (journal : Option ℕ) → 1 ≤ n → AreWantedAt d journal → IsWanted (range_of n) (parts_at d n) → HasWanted m (parts_at d) done
      → ((k : ℕ) → done < k → k < n → parts_at d k ≡ []) → new_keys (keys_of m) (changes_to (get m) (parts_at d) n ++ changes_of_number (get m) d journal) ≡ new_keys (keys_of m) (parts_at d n ++ parts_of_number d journal)
  new_next m done n journal from wanted is has gap =
      new-append (keys_of m) (changes_to (get m) (parts_at d) n) (changes_of_number (get m) d journal)
      ∙ (λ i. first i + second journal wanted i) ∙ sym (new-append (keys_of m) (parts_at d n) (parts_of_number d journal))
    where
      none : (k : ℕ) → 1 ≤ k → k < n → (changes_at (get m) (parts_at d) k ≡ []) ⊎ (parts_at d k ≡ [])
      none k low high = by (nat_le k done) refl
        where
          by : (b : Bool) → nat_le k done ≡ b → (changes_at (get m) (parts_at d) k ≡ []) ⊎ (parts_at d k ≡ [])
          by true e = inl (none_at m (parts_at d) done k has low (at_most k done e))
          by false e = inr (gap k (beyond k done e) high)

      first : new_keys (keys_of m) (changes_to (get m) (parts_at d) n) ≡ new_keys (keys_of m) (parts_at d n)
      first = new_last (keys_of m) (get m) (parts_at d) n from (pages_held (keys_of m) m refl) is none

      second : (journal : Option ℕ) → AreWantedAt d journal → new_keys (keys_of m) (changes_of_number (get m) d journal) ≡ new_keys (keys_of m) (parts_of_number d journal)
      second None wanted = refl
      second (Some j) wanted = differences_new (keys_of m) (get m) (range_of j) (parts_at d j) (pages_held (keys_of m) m refl) wanted

-- ---- what waits

module _ (most : ℕ) (m : Content) (d : Durable) (h : Held) where
  -- what waits is put
  pub waits_put : (gone rest : List Object) (n : Content) (changes : List Change) → h.objects ≡ gone ++ rest → Waits most m d h gone n changes → Waits most m d h gone (changed n changes) []
  waits_put gone rest n changes all w = record { held = reached; next = w.next; left = left }
    where
      reached : IsReached m d h (changed n changes)
      reached = record { gone = gone; rest = rest; all = all; behind = w.next }

      left : (x : Content) → IsAfterPuts most (changed n changes) [] x → IsLeft most m d h x
      left x after = elim (one_put most (changed n changes) [] x (omega arith) after) [
        | inl is ↦ inl (subst (IsReached m d h) (sym is) reached)
        | inr is ↦ inl (subst (IsReached m d h) (sym is) reached)
      ]

  -- nothing waits at first
  pub waits_begun : (changes : List Change) → changes ≡ [] → Waits most m d h [] m changes
  waits_begun changes none = subst (λ (cs : List Change). Waits most m d h [] m cs) (sym none) (record { held = reached; next = behind; left = left })
    where
      behind : IsAfter m d h [] m
      behind = record { each = λ key from part. sym (ap (λ b. cond (b || false) (page_of d key) (get m key)) (not_within key.object 0 (omega (arith, from)))); others = λ key not. refl }

      reached : IsReached m d h m
      reached = record { gone = []; rest = h.objects; all = refl; behind = behind }

      left : (x : Content) → IsAfterPuts most m [] x → IsLeft most m d h x
      left x after = elim (one_put most m [] x (omega arith) after) [
        | inl is ↦ inl (subst (IsReached m d h) (sym is) reached)
        | inr is ↦ inl (subst (IsReached m d h) (sym is) reached)
      ]

  -- one put takes all that waits
  pub waits_few : (gone rest : List Object) (n : Content) (changes : List Change) → h.objects ≡ gone ++ rest → IsReached m d h n → IsAfter m d h gone (changed n changes) → length changes ≤ most → Waits most m d h gone n changes
  waits_few gone rest n changes all held next few = record { held = held; next = next; left = left }
    where
      left : (x : Content) → IsAfterPuts most n changes x → IsLeft most m d h x
      left x after = elim (one_put most n changes x few after) [
        | inl is ↦ inl (subst (IsReached m d h) (sym is) held)
        | inr is ↦ inl (record { gone = gone; rest = rest; all = all; behind = subst (IsAfter m d h gone) (sym is) next })
      ]

  -- those of the next object wait alone
  pub waits_alone : (gone rest : List Object) (o : Object) (n : Content) (changes : List Change) → h.objects ≡ gone ++ o ∷ rest → h.objects ≡ (gone ++ o ∷ []) ++ rest → IsAfter m d h gone n → IsAfter m d h (gone ++ o ∷ []) (changed n changes)
      → changes ≡ next_changes h d (get n) (o ∷ rest) → Waits most m d h (gone ++ o ∷ []) n changes
  waits_alone gone rest o n changes all more behind next is = by (nat_le (length changes) most) refl
    where
      held : IsReached m d h n
      held = record { gone = gone; rest = o ∷ rest; all = all; behind = behind }

      by : (b : Bool) → nat_le (length changes) most ≡ b → Waits most m d h (gone ++ o ∷ []) n changes
      by true e = waits_few (gone ++ o ∷ []) rest n changes more held next (at_most (length changes) most e)
      by false e = record {
        held = held;
        next = next;
        left = λ x after.
            inr (inr (record {
              gone = gone;
              rest = o ∷ rest;
              all = all;
              before = n;
              behind = behind;
              many = subst (λ (cs : List Change). most < length cs) is (beyond (length changes) most e);
              puts = subst (λ (cs : List Change). IsAfterPuts most n cs x) is after;
            }));
      }

-- one more object is after
module _ (most : ℕ) (m : Content) (d : Durable) (h : Held) (gone rest : List Object) (o : Object) (done : ℕ) (next : IsNext h gone rest o done) (low : done < o.number.0) (n : Content) (front between new : List Change)
    (w : Waits most m d h gone n front) (first : front ≡ changes_to (get n) (parts_at d) done) (mid : between ≡ changes_to (get n) (parts_at d) o.number.0)
    (above : IsAbove o.number.0 (journal_ahead h o.number.0)) (last : new ≡ between ++ changes_of_number (get n) d (journal_ahead h o.number.0)) where
  abbrev is_one : Object → ℕ → Bool
  is_one x k = is_that_number k (journal_ahead h x.number.0)

  any_more : (k : ℕ) → list_any (λ x. is_one x k) (gone ++ o ∷ []) ≡ list_any (λ x. is_one x k) gone || is_one o k
  any_more k = list_any-append (λ x. is_one x k) gone (o ∷ []) ∙ ap (λ b. list_any (λ x. is_one x k) gone || b) (or_none (is_one o k))
    where
      or_none : (b : Bool) → b || false ≡ b
      or_none true = refl
      or_none false = refl

  held_at : (key : Key) → 1 ≤ key.object → key.part < 2 ^ 32 → nat_le key.object o.number.0 ≡ false → get n key ≡ cond (list_any (λ x. is_one x key.object) gone) (page_of d key) (get m key)
  held_at key from part e =
      let far : done < key.object = omega (arith, beyond key.object o.number.0 e, low) in
      sym (made_out n (parts_at d) done key far) ∙ ap (λ (cs : List Change). get (changed n cs) key) (sym first) ∙ w.next.each key from part
      ∙ ap (λ b. cond (b || list_any (λ x. is_one x key.object) gone) (page_of d key) (get m key)) (not_within key.object (last_object_number gone) (omega (arith, far, next.last)))

  whole_new : new ≡ changes_to (get n) (parts_at d) o.number.0 ++ changes_of_number (get n) d (journal_ahead h o.number.0)
  whole_new = last ∙ ap (λ (cs : List Change). cs ++ changes_of_number (get n) d (journal_ahead h o.number.0)) mid

  other_at : (key : Key) → (IsKeyInRange key → ⊥) → get (changed n new) key ≡ get m key
  other_at key not =
      others_stay n new key (subst (λ (cs : List Change). AllByRecursion (λ c. IsKeyInRange c.key) cs) (sym whole_new) (fine_next_changes d (get n) o.number.0 (journal_ahead h o.number.0) above)) not
      ∙ sym (others_stay n front key (subst (λ (cs : List Change). AllByRecursion (λ c. IsKeyInRange c.key) cs) (sym first) (changes_fine (get n) (parts_at d) done)) not)
      ∙ w.next.others key not

  pub after_next : IsAfter m d h (gone ++ o ∷ []) (changed n new)
  after_next = record { each = each; others = other_at }
    where
      each : (key : Key) → 1 ≤ key.object → key.part < 2 ^ 32 → get (changed n new) key ≡ page_after m d h (gone ++ o ∷ []) key
      each key from part =
          let others = list_any (λ x. is_one x key.object) gone in
          ap (λ (cs : List Change). get (changed n cs) key) whole_new
          ∙ ap (λ (x : Content). get x key) (changed-append n (changes_to (get n) (parts_at d) o.number.0) (changes_of_number (get n) d (journal_ahead h o.number.0)))
          ∙ page_at d n o.number.0 (journal_ahead h o.number.0) above key from part
          ∙ pick (nat_le key.object o.number.0) (is_one o key.object) others (page_of d key) (get m key) (get n key) (held_at key from part)
          ∙ (λ i. cond (nat_le key.object (sym (last_more gone o) i) || sym (any_more key.object) i) (page_of d key) (get m key))

  more_gone : h.objects ≡ (gone ++ o ∷ []) ++ rest
  more_gone = next.all ∙ sym (append_assoc gone (o ∷ []) rest)

  -- the changes of the next object wait too, or those before it were put
  pub waits_next : (made own all : List Change) → new ≡ made ++ own → new ≡ front ++ all → ((made ≡ []) × (length own ≤ most)) ⊎ (length made ≡ length front) → Waits most m d h (gone ++ o ∷ []) (changed n made) own
  waits_next made own all parted kept (inl few) =
      let none : changed n made ≡ n = ap (changed n) few.0 in
      let same : new ≡ own = parted ∙ ap (λ (cs : List Change). cs ++ own) few.0 in
      subst (λ (x : Content). Waits most m d h (gone ++ o ∷ []) x own) (sym none)
      (waits_few most m d h (gone ++ o ∷ []) rest n own more_gone w.held (subst (λ (cs : List Change). IsAfter m d h (gone ++ o ∷ []) (changed n cs)) same after_next) few.1)
  waits_next made own all parted kept (inr long) =
      let same : made ≡ front = same_front made front own all (sym parted ∙ kept) long in
      let split : new ≡ front ++ own = parted ∙ ap (λ (cs : List Change). cs ++ own) same in
      subst (λ (cs : List Change). Waits most m d h (gone ++ o ∷ []) (changed n cs) own) (sym same)
      (waits_alone most m d h gone rest o (changed n front) own next.all more_gone w.next
      (subst (IsAfter m d h (gone ++ o ∷ [])) (ap (changed n) split ∙ changed-append n front own) after_next)
      (rest_next d n done o.number.0 (journal_ahead h o.number.0) front own between new (omega (arith, low)) above first mid last split))

-- ---- why not all is kept

-- a vault that was full where those before the next object were put
pub full_next : (parts : ℕ) (m : Content) (d : Durable) (h : Held) (gone rest : List Object) (o : Object) (done : ℕ) → IsNext h gone rest o done → FirstFit parts m d h (length gone)
    → (n : Content) (journal : Option ℕ) (own : List Change) (keys : Keys) (room needed free : ℕ)
    → IsAfter m d h gone n → journal ≡ journal_ahead h o.number.0 → own ≡ changes_to (get n) (parts_at d) o.number.0 ++ changes_of_number (get n) d journal
    → new_keys (keys_of n) (changes_to (get n) (parts_at d) o.number.0 ++ changes_of_number (get n) d journal) ≡ new_keys (keys_of n) (parts_at d o.number.0 ++ parts_of_number d journal)
    → keys ≡ keys_of n → room + len keys ≡ parts → (needed ≡ new_keys keys own) × ((free ≡ room) × (free < needed)) → IsFullAt parts m d h n needed free
full_next parts m d h gone rest o done next fit n journal own keys room needed free behind is which counted same sum right = record {
  gone = gone;
  rest = o ∷ rest;
  all = next.all;
  fit = fit;
  behind = behind;
  wanted = right.0 ∙ (λ i. new_keys (same i) (which i)) ∙ counted ∙ ap (λ (j : Option ℕ). new_keys (keys_of n) (parts_at d o.number.0 ++ parts_of_number d j)) is;
  there = all_parts n keys room free parts same sum right.1.0;
  short = right.1.1;
}
