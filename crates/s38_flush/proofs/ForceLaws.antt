-- What the puts of a step make of a content that represents what was durable before it.
use Rattle.std.proofs.Common.{◌==◌, ◌+◌, ◌≡◌, ◌⊎◌, ◌<◌, ◌≤◌, ◌-◌, ◌*◌, ◌∙◌, ◌∷◌, ◌++◌, [], Bool, List, None, Option, ap, append-nil, arith, cond, false, inl, inr, length, lit≤, map, refl, subst, sym, take, true, ℕ}
use Rattle.std.proofs.lemmas.Bool.Decides.{nat_tests}
use Rattle.std.specs.FinMap.{get}
use Rattle.std.specs.List.{AllByRecursion, list_any}
use Rattle.std.specs.Prelude.{◌&&◌, ◌||◌, nat_le, nat_lt}
use Rattle.s38_base.specs.declared.page.Change.{Change}
use Rattle.s38_base.specs.declared.page.Key.{Key}
use Rattle.s38_base.specs.declared.page.Page.{Page}
use Rattle.s38_commits.proofs.MapLaws.{nat_same}
use Rattle.s38_durable_state.specs.Durable.{Durable, durable_after, kept}
use Rattle.s38_durable_state.specs.Represents.{Represents, aim_of, aims_of, ceiling_parts, is_among, page_of, pages_put_at, parts_at, parts_end, parts_in}
use Rattle.s38_page_diff.proofs.DifferenceLaws.{same_differences}
use Rattle.s38_page_diff.proofs.LookLaws.{differences_few, one_put}
use Rattle.s38_page_diff.proofs.AimLaws.{aims_made}
use Rattle.s38_page_diff.proofs.WalkLaws.{key_at}
use Rattle.s38_page_diff.specs.Aims.{RiseByObject, aimed_at, all_differences}
use Rattle.s38_page_diff.specs.Differences.{differences, wanted_at}
use Rattle.s38_codec.proofs.FormatLaws.{length_copies}
use Rattle.s38_codec.specs.Codec.{copies}
use Rattle.s38_page_diff.specs.declared.range.PartRange.{PartRange}
use Rattle.s38_image.specs.Faults.{ceiling_page}
use Rattle.s38_image.specs.PartPlaces.{ceiling_key}
use Rattle.s38_image.specs.Pages.{needed, no_tags}
use Rattle.s38_image.specs.declared.stored.Stored.{Stored}
use Rattle.s38_page_diff.specs.reconcile.Replacing.{range_of}
use Rattle.s38_laws_objects.specs.Outline.{is_forced}
use Rattle.s38_rules.specs.store.Forcing.{Forced}
use Rattle.s38_rules.specs.state.State.{State}
use Rattle.s38_commits.specs.Units.{UnitMap}
use Rattle.s38_rules.specs.state.Held.{Held}
use Rattle.s38_vault.specs.Content.{Content, changed}
use Rattle.s38_vault.specs.Directory.{Keys, new_keys}
use Rattle.s38_vault.specs.Vaults.{VaultView}
use Rattle.s38_page_diff.specs.FlushFaults.{IsFullFor}
use Rattle.s38_page_diff.specs.declared.fault.FlushFault.{FlushFault}
use Rattle.s38_flush.proofs.EachLaws.{each_is}
use Rattle.s38_flush.proofs.FrontLaws.{stream_from, wanted_after}
use Rattle.s38_flush.proofs.NarrowLaws.{narrowed}
use Rattle.s38_flush.proofs.AfterLaws.{apart_below}
use Rattle.s38_flush.proofs.LeftLaws.{later_left, represents_first, represents_later}
use Rattle.s38_flush.proofs.TurnLaws.{all_taken}
use Rattle.s38_flush.specs.Leftovers.{RepresentsUpToOrphans, belongs_in, first_changes, later_changes}
use Rattle.s38_flush.proofs.NumberLaws.{AreAbove, Rise, numbers_are, numbers_rise}
use Rattle.s38_flush.specs.Numbers.{numbers}
use Rattle.s38_flush.specs.Putting.{IsBetweenPuts}
use Rattle.s38_flush.specs.Stepping.{AreNumbers, HasHeader, HasHeaderIn, HaveHeaders, IsDue, IsNumber, Precedes, ceiling_changes, is_forced_ceiling, object_changes, put_ceiling, put_forced, raised}

-- ---- where the others have what they had, the pages represent what is durable then

-- a key is in the range of a number exactly where it is of that number
in_range : (object n part : ℕ) → part < parts_end → ((object == n) && (nat_le 0 part && nat_lt part parts_end)) ≡ (object == n)
in_range object n part low = by (object == n)
  where
    inside : (nat_le 0 part && nat_lt part parts_end) ≡ true
    inside = grind (arith, nat_tests, low)

    by : (b : Bool) → (b && (nat_le 0 part && nat_lt part parts_end)) ≡ b
    by true = inside
    by false = refl

-- the page that a key is to have: what is durable, at these numbers, and else the one that is there
aimed : (d : Durable) (pages : Key → Option Page) (key : Key) → key.part < parts_end → (ns : List ℕ) → aimed_at pages (map (aim_of d) ns) key ≡ cond (is_among key.object ns) (page_of d key) (pages key)
aimed d pages key low [] = refl
aimed d pages key low (n ∷ ns) = rw (in_range key.object n key.part low) (by (aimed d pages key low ns) (key.object == n) refl)
  where
    by : aimed_at pages (map (aim_of d) ns) key ≡ cond (is_among key.object ns) (page_of d key) (pages key) → (b : Bool) → (key.object == n) ≡ b
        → cond b (wanted_at (parts_at d n) key) (aimed_at pages (map (aim_of d) ns) key) ≡ cond (b || is_among key.object ns) (page_of d key) (pages key)
    by rest true is = ap (λ (k : ℕ). wanted_at (parts_at d k) key) (sym (nat_same key.object n is))
    by rest false is = rest

put_stands : (m : Content) (d new : Durable) (ns : List ℕ) → Represents m d → RiseByObject (aims_of new ns) → ((n : ℕ) → is_among n ns ≡ false → parts_at new n ≡ parts_at d n) → Represents (pages_put_at ns m new) new
put_stands m d new ns stands order others = record {
  each = λ key low. aims_made m (aims_of new ns) key order ∙ aimed new (get m) key low ns ∙ by key low (is_among key.object ns) refl;
}
  where
    by : (key : Key) → key.part < parts_end → (b : Bool) → is_among key.object ns ≡ b → cond b (page_of new key) (get m key) ≡ page_of new key
    by key low true is = refl
    by key low false is = stands.each key low ∙ ap (λ (parts : List Change). wanted_at parts key) (sym (others key.object is))

in_order : (d : Durable) (ns : List ℕ) → Rise ns → RiseByObject (aims_of d ns)
unfolding AreAbove Rise
in_order d [] rise = tt
in_order d (n ∷ []) rise = tt
in_order d (n ∷ k ∷ ns) rise = (rise.0.0, in_order d (k ∷ ns) rise.1)

-- ---- the ceiling is put

-- keys of objects have what they had
ceiling_stays : (all : List Forced) (m : Content) (d : Durable) (key : Key) → key.object < ceiling_key → get (put_ceiling all m d) key ≡ get m key
ceiling_stays all m d key low = by (list_any is_forced_ceiling all)
  where
    by : (b : Bool) → get (pages_put_at (cond b (ceiling_key ∷ []) []) m d) key ≡ get m key
    by true =
        aims_made m (aims_of d (ceiling_key ∷ [])) key tt
        ∙ ap (λ b. cond (b && (nat_le 0 key.part && nat_lt key.part parts_end)) (wanted_at (parts_at d ceiling_key) key) (get m key)) (apart_below key.object low)
    by false = refl

ceiling_stands : (all : List Forced) (m : Content) (d : Durable) (s : State) → Represents m d → IsDue all d s → Represents (put_ceiling all m (durable_after all d s)) (raised d s)
ceiling_stands all m d s stands due = by (list_any is_forced_ceiling all) refl
  where
    others : (n : ℕ) → is_among n (ceiling_key ∷ []) ≡ false → parts_at (raised d s) n ≡ parts_at d n
    others n apart = at (n == ceiling_key) refl
      where
        at : (b : Bool) → (n == ceiling_key) ≡ b → cond b (ceiling_parts s.held.ceiling) (parts_in (kept d.objects n)) ≡ cond b (ceiling_parts d.ceiling) (parts_in (kept d.objects n))
        at true is = absurd (cc (ap (λ b. b || false) is, apart))
        at false is = refl

    same : s.held.ceiling ≡ d.ceiling → (n : ℕ) → parts_at (raised d s) n ≡ parts_at d n
    same is n = ap (λ (ceiling : ℕ). cond (n == ceiling_key) (ceiling_parts ceiling) (parts_in (kept d.objects n))) is

    by : (b : Bool) → list_any is_forced_ceiling all ≡ b → Represents (pages_put_at (cond b (ceiling_key ∷ []) []) m (durable_after all d s)) (raised d s)
    by true is = put_stands m d (raised d s) (ceiling_key ∷ []) stands tt others
    by false is = put_stands m d (raised d s) [] stands tt (λ n none. same (due.ceiling is) n)

-- ---- all is put

pub forced_represents : (all : List Forced) (m : Content) (d : Durable) (s : State) → Represents m d → IsDue all d s → Represents (put_forced all m (durable_after all d s)) (durable_after all d s)
forced_represents all m d s stands due =
    put_stands (put_ceiling all m new) (raised d s) new (numbers all) (ceiling_stands all m d s stands due) (in_order new (numbers all) (numbers_rise all))
    (λ n apart. ap (λ (x : Option Stored). cond (n == ceiling_key) (ceiling_parts s.held.ceiling) (parts_in x)) (due.objects n (sym (numbers_are n all) ∙ apart)))
  where
    new : Durable
    new = durable_after all d s

-- what differs of objects does not hang on the ceiling
same_objects : (pages others : Key → Option Page) (d : Durable) (ns : List ℕ) → AllByRecursion IsNumber ns → ((key : Key) → key.object < ceiling_key → pages key ≡ others key) → all_differences pages (aims_of d ns) ≡ all_differences others (aims_of d ns)
same_objects pages others d [] are same = refl
same_objects pages others d (n ∷ ns) are same =
    let here : differences pages (range_of n) (parts_at d n) ≡ differences others (range_of n) (parts_at d n) =
    same_differences pages others (parts_at d n) (parts_at d n) n (parts_end - 0) 0 (λ p from high. same (key_at n p) are.0.1) (λ p from high. refl) in
    λ i. here i ++ same_objects pages others d ns are.1 same i

-- the puts make the content
pub both_put : (all : List Forced) (m : Content) (d : Durable) (ceiling others : List Change) → AreNumbers all → ceiling ≡ ceiling_changes all (get m) d → others ≡ object_changes all (get m) d
    → changed (changed m ceiling) others ≡ put_forced all m d
both_put all m d ceiling others are one two =
    let each : AllByRecursion IsNumber (numbers all) = each_is all (numbers all) are (λ n among. sym (numbers_are n all) ∙ among) in
    (λ i. changed (changed m (one i)) (two i))
    ∙ ap (changed (put_ceiling all m d)) (same_objects (get m) (get (put_ceiling all m d)) d (numbers all) each (λ key low. sym (ceiling_stays all m d key low)))

-- ---- the ceiling is one part

abbrev first_range : PartRange
first_range = record { object = ceiling_key; first = 0; end = 1 }

pub none_after : (ceiling p : ℕ) → 1 ≤ p → wanted_at (ceiling_parts ceiling) (key_at ceiling_key p) ≡ None
none_after ceiling p far =
    let bytes = ceiling_page.print ceiling in
    let zeros : length {A = ℕ} (copies 496 0) ≡ 496 = length_copies {A = ℕ} 496 0 in
    let long : length bytes ≡ 512 = omega (arith, zeros) in
    let end : 0 + needed (length bytes) ≤ p = omega (arith, ap needed long, far) in
    ap (λ (cs : List Change). wanted_at cs (key_at ceiling_key p)) (sym (append-nil (ceiling_parts ceiling)))
    ∙ wanted_after ceiling_key 0 (0 + needed (length bytes)) p (ceiling_parts ceiling) [] (stream_from ceiling_key 0 bytes (no_tags ceiling_page ceiling)) end

pub one_ceiling : (all : List Forced) (m : Content) (d : Durable) (s : State) → Represents m d → length (ceiling_changes all (get m) (durable_after all d s)) ≤ 1
one_ceiling all m d s stands = by (list_any is_forced_ceiling all)
  where
    parts : List Change
    parts = ceiling_parts s.held.ceiling

    same : differences (get m) (range_of ceiling_key) parts ≡ differences (get m) first_range parts
    same =
        narrowed (get m) ceiling_key 1 parts_end parts parts (lit≤ tt) (λ p near. refl)
        (λ p far near. stands.each (key_at ceiling_key p) near ∙ none_after d.ceiling p far ∙ sym (none_after s.held.ceiling p far))

    by : (b : Bool) → length (all_differences (get m) (aims_of (durable_after all d s) (cond b (ceiling_key ∷ []) []))) ≤ 1
    by true =
        let few : length (differences (get m) first_range parts) ≤ 1 - 0 = differences_few (get m) first_range parts in
        subst (λ (cs : List Change). length cs ≤ 1) (sym (append-nil (differences (get m) (range_of ceiling_key) parts) ∙ same)) (omega (arith, few))
    by false = omega arith

-- ---- what a crash leaves, where one put takes the first of the others

module _ (all : List Forced) (m n : Content) (d : Durable) (s : State) (most : ℕ) (ceiling others first later : List Change) (are : AreNumbers all) (one : ceiling ≡ ceiling_changes all (get m) (durable_after all d s))
    (two : others ≡ object_changes all (get m) (durable_after all d s)) (stands : Represents m d) (due : IsDue all d s) where
  abbrev new : Durable
  new = durable_after all d s

  with_ceiling : Represents (changed m ceiling) (raised d s)
  with_ceiling = subst (λ (c : Content). Represents c (raised d s)) (sym (ap (changed m) one)) (ceiling_stands all m d s stands due)

  with_all : Represents (changed (changed m ceiling) others) new
  with_all = subst (λ (c : Content). Represents c new) (sym (both_put all m new ceiling others are one two)) (forced_represents all m d s stands due)

  with_first : first ≡ first_changes most new others → RepresentsUpToOrphans (changed (changed m ceiling) first) new
  with_first is = subst (λ (cs : List Change). RepresentsUpToOrphans (changed (changed m ceiling) cs) new) (sym is) (represents_first most (changed m ceiling) new others with_all)

  pub once_put : first ≡ first_changes most new others → later ≡ later_changes most new others → length ceiling ≤ most → length first ≤ most → IsBetweenPuts most m ceiling first later n
      → Represents n d ⊎ (Represents n (raised d s) ⊎ RepresentsUpToOrphans n new)
  once_put front back few small (inl begun) =
      elim (one_put most m ceiling n few begun) [
        | inl none ↦ inl (subst (λ (c : Content). Represents c d) (sym none) stands)
        | inr made ↦ inr (inl (subst (λ (c : Content). Represents c (raised d s)) (sym made) with_ceiling))
      ]
  once_put front back few small (inr (inl going)) =
      elim (one_put most (changed m ceiling) first n small going) [
        | inl none ↦ inr (inl (subst (λ (c : Content). Represents c (raised d s)) (sym none) with_ceiling))
        | inr made ↦ inr (inr (subst (λ (c : Content). RepresentsUpToOrphans c new) (sym made) (with_first front)))
      ]
  once_put front back few small (inr (inr ending)) =
      let left = subst (λ (cs : List Change). AllByRecursion (λ c. belongs_in new c ≡ false) cs) (sym back) (later_left most new others) in
      inr (inr (subst (λ (c : Content). RepresentsUpToOrphans c new) (sym ending.1)
      (represents_later (changed (changed m ceiling) first) new (take (ending.0 * most) later) (all_taken _ (ending.0 * most) later left) (with_first front))))

-- ---- headers

pub headers_after : (all : List Forced) (d : Durable) (s : State) → HaveHeaders d → IsDue all d s → ((n : ℕ) → is_forced n all ≡ true → HasHeaderIn (kept (durable_after all d s).objects n)) → HaveHeaders (durable_after all d s)
headers_after all d s have due anew n x there = by (is_forced n all) refl
  where
    by : (b : Bool) → is_forced n all ≡ b → HasHeader x
    by true speaks = subst HasHeaderIn there (anew n speaks)
    by false silent = have n x (sym (due.objects n silent) ∙ there)

-- ---- all changes are known

-- they are those of each content that is held, and of what is durable before the step
pub record AreForced (holds : Content → Type 0) (all : List Forced) (h : Held) (us : UnitMap) (ceiling others : List Change) : Type 0 where
  pub first : (m : Content) (d : Durable) (s : State) → holds m → Precedes h us m d s → ceiling ≡ ceiling_changes all (get m) (durable_after all d s)
  pub last : (m : Content) (d : Durable) (s : State) → holds m → Precedes h us m d s → others ≡ object_changes all (get m) (durable_after all d s)

module _ {holds : Content → Type 0} {all : List Forced} {h : Held} {us : UnitMap} {ceiling others : List Change} (are : AreNumbers all) (known : AreForced holds all h us ceiling others) where
  pub put_known : (m : Content) (d : Durable) (s : State) → holds m → Precedes h us m d s → changed (changed m ceiling) others ≡ put_forced all m (durable_after all d s)
  put_known m d s held p = both_put all m (durable_after all d s) ceiling others are (known.first m d s held p) (known.last m d s held p)

  pub represents_known : (m n : Content) (d : Durable) (s : State) → holds m → Precedes h us m d s → IsDue all d s → n ≡ changed (changed m ceiling) others → Represents n (durable_after all d s)
  represents_known m n d s held p due is =
      subst (λ (c : Content). Represents c (durable_after all d s)) (sym (is ∙ put_known m d s held p)) (forced_represents all m d s p.stands due)

  pub during_known : (most : ℕ) (m n : Content) (d : Durable) (s : State) (first later : List Change) → holds m → Precedes h us m d s → first ≡ first_changes most (durable_after all d s) others → later ≡ later_changes most (durable_after all d s) others
      → IsBetweenPuts most m ceiling first later n
      → IsBetweenPuts most m (ceiling_changes all (get m) (durable_after all d s)) (first_changes most (durable_after all d s) (object_changes all (get m) (durable_after all d s))) (later_changes most (durable_after all d s) (object_changes all (get m) (durable_after all d s))) n
  during_known most m n d s first later held p front back between =
      let new = durable_after all d s in
      let two = known.last m d s held p in
      subst (λ (cs : List Change). IsBetweenPuts most m cs (first_changes most new (object_changes all (get m) new)) (later_changes most new (object_changes all (get m) new)) n) (known.first m d s held p)
      (subst (λ (cs : List Change). IsBetweenPuts most m ceiling (first_changes most new cs) (later_changes most new cs) n) two
      (subst (λ (cs : List Change). IsBetweenPuts most m ceiling cs (later_changes most new others) n) front (subst (λ (cs : List Change). IsBetweenPuts most m ceiling first cs n) back between)))

  pub once_known : (most : ℕ) (m n : Content) (d : Durable) (s : State) (first later : List Change) → holds m → Precedes h us m d s → IsDue all d s
      → first ≡ first_changes most (durable_after all d s) others → later ≡ later_changes most (durable_after all d s) others
      → 1 ≤ most → length (first_changes most (durable_after all d s) (object_changes all (get m) (durable_after all d s))) ≤ most
      → IsBetweenPuts most m ceiling first later n → Represents n d ⊎ (Represents n (raised d s) ⊎ RepresentsUpToOrphans n (durable_after all d s))
  once_known most m n d s first later held p due front back few small between =
      let new = durable_after all d s in
      let one = known.first m d s held p in
      let two = known.last m d s held p in
      let single = one_ceiling all m d s p.stands in
      once_put all m n d s most ceiling others first later are one two p.stands due front back
      (subst (λ (cs : List Change). length cs ≤ most) (sym one) (omega (arith, single, few)))
      (subst (λ (cs : List Change). length cs ≤ most) (sym (front ∙ ap (first_changes most new) two)) small) between

  pub full_known : (old now : VaultView) (fault : FlushFault) (first later : List Change) (m : Content) (d : Durable) (s : State) → holds m → Precedes h us m d s → now ≡ record old { faults = now.faults }
      → ((keys : Keys) → new_keys keys first + new_keys keys later ≡ new_keys keys others)
      → IsFullFor (new_keys now.keys ceiling + new_keys now.keys first + new_keys now.keys later) now.free fault
      → IsFullFor (new_keys old.keys (ceiling_changes all (get m) (durable_after all d s)) + new_keys old.keys (object_changes all (get m) (durable_after all d s))) old.free fault
  full_known old now fault first later m d s held p same sum full =
      let rest = sum old.keys in
      let whole : new_keys old.keys ceiling + new_keys old.keys first + new_keys old.keys later ≡ new_keys old.keys ceiling + new_keys old.keys others = omega (arith, rest) in
      let of_old : IsFullFor (new_keys old.keys ceiling + new_keys old.keys others) old.free fault =
      subst (λ (k : ℕ). IsFullFor k old.free fault) whole
      (subst (λ (v : VaultView). IsFullFor (new_keys v.keys ceiling + new_keys v.keys first + new_keys v.keys later) v.free fault) same full) in
      subst (λ (cs : List Change). IsFullFor (new_keys old.keys (ceiling_changes all (get m) (durable_after all d s)) + new_keys old.keys cs) old.free fault) (known.last m d s held p)
      (subst (λ (cs : List Change). IsFullFor (new_keys old.keys cs + new_keys old.keys others) old.free fault) (known.first m d s held p) of_old)
