-- Some of the orphan pages are taken away: each object keeps its parts, and so does the ceiling.
use Rattle.std.proofs.Common.{◌≡◌, ℕ, ◌+◌, ◌==◌, Bool, true, false, cond, not, List, [], ◌∷◌, length, map, filter, take, Option, None, refl, sym, ap, ◌∙◌, arith}
use lib.Dec.{T}
use Rattle.std.proofs.lemmas.Bool.Decides.{nat_tests}
use Rattle.std.specs.Prelude.{◌&&◌, ◌||◌, nat_lt}
use Rattle.std.specs.FinMap.{entries, entries_sorted, is_sorted}
use Rattle.std.specs.FinMap.Entries.{below_all}
use Rattle.std.specs.List.{AllByRecursion, list_any}
use Rattle.std.specs.Option.{unwrap_or}
use Rattle.std.specs.Ordering.{eq_by_cmp, is_eq, is_lt, nat_cmp, ordering_then}
use Rattle.std.specs.declared.cmp.Ordering.{Ordering}
use Rattle.std.specs.declared.cmp.Ordering.TheVariants.{Less, Equal, Greater}
use Rattle.s38_base.specs.declared.page.Change.{Change}
use Rattle.s38_base.specs.declared.page.Key.{Key}
use Rattle.s38_base.specs.declared.page.Page.{Page}
use Rattle.s38_base.specs.Limits.{body_limit}
use Rattle.s38_restart.specs.catalog.Groups.{group_of, groups, is_header, is_part_of, is_stray, part_taken, parts_of_number, removals}
use Rattle.s38_restart.specs.catalog.Readings.{all_sound}
use Rattle.s38_restart.specs.catalog.Stores.{ceiling_of, first_fault, objects_stored_in}
use Rattle.s38_image.specs.Faults.{Group, ceiling_in, ceiling_page, first_fault_by, group_is_on_disk, store_fault}
use Rattle.s38_image.specs.PartPlaces.{ceiling_key, rows_part}
use Rattle.s38_image.specs.Images.{leading}
use Rattle.s38_image.specs.Pages.{no_tags, read_parts}
use Rattle.s38_restart.specs.Parts.{all_parts, part_of}
use Rattle.s38_restart.specs.Restarted.{all_followed, restarted}
use Rattle.s38_rules.specs.state.Held.{Held}
use Rattle.s38_store_file.specs.Stores.{AreOf}
use Rattle.s38_vault.proofs.KeyedLaws.{key_cmp-IsAntisymmetric}
use Rattle.s38_vault.proofs.PlaceLaws.{both_first, both_second}
use Rattle.s38_vault.specs.Content.{Content, changed}
use Rattle.s38_vault.specs.Keys.{key_cmp}
use Rattle.s38_store_file.proofs.RemovedParts.{stays, parts_kept, taken_away}
use Rattle.s38_store_file.proofs.FilteredLists.{each_of, each, each_first, each_passed, passed_kept, mapped_alike}

-- ---- lists

is_true : (b : Bool) → T b → b ≡ true
is_true true h = refl
is_true false h = absurd h

below_first : (r : Ordering) → is_lt r ≡ true → r ≡ Less
below_first Less e = refl
below_first Equal e = absurd (cc)
below_first Greater e = absurd (cc)

equal_keys : (r : Ordering) → is_eq r ≡ true → r ≡ Equal
equal_keys Less e = absurd (cc)
equal_keys Equal e = refl
equal_keys Greater e = absurd (cc)

same_number : (a b : ℕ) → (a == b) ≡ true → a ≡ b
same_number a b h = grind (arith, nat_tests)

itself : (a : ℕ) → (a == a) ≡ true
itself a = grind (arith, nat_tests)

-- ---- parts in order

abbrev Rise : List Change → Type 0
Rise [] = Unit {0}
Rise (c ∷ cs) = AllByRecursion (λ d. key_cmp c.key d.key ≡ Less) cs × Rise cs

parts_below : (k : Key) (es : List (Key × Page)) → below_all key_cmp k es ≡ true → AllByRecursion (λ d. key_cmp k d.key ≡ Less) (map part_of es)
parts_below k [] h = tt
parts_below k (e ∷ es) h = (below_first (key_cmp k e.0) (both_first _ _ h), parts_below k es (both_second _ _ h))

parts_rise : (es : List (Key × Page)) → is_sorted key_cmp es ≡ true → Rise (map part_of es)
parts_rise [] h = tt
parts_rise (e ∷ es) h = (parts_below e.0 es (both_first _ _ h), parts_rise es (both_second _ _ h))

later_part : (a b : Key) → key_cmp a b ≡ Less → a.object ≡ b.object → nat_lt a.part 1 ≡ false → nat_lt b.part 1 ≡ false
later_part a b h same first =
    elim (nat_cmp a.object b.object) as (λ o. nat_cmp a.object b.object ≡ o → ordering_then o (nat_cmp a.part b.part) ≡ Less → nat_lt b.part 1 ≡ false) [
      | Less ↦ λ q r. absurd (apart a.object b.object q same)
      | Equal ↦ λ q r. beyond a.part b.part r first
      | Greater ↦ λ q r. absurd (cc)
    ] refl h
  where
    apart : (x y : ℕ) → nat_cmp x y ≡ Less → x ≡ y → ⊥
    apart x y q e = grind (arith, nat_tests)

    beyond : (x y : ℕ) → nat_cmp x y ≡ Less → nat_lt x 1 ≡ false → nat_lt y 1 ≡ false
    beyond x y q e = grind (arith, nat_tests)

-- ---- parts that go are orphan pages

module _ (parts : List Change) (keep : Change → Bool) (strays : (c : Change) → keep c ≡ false → is_stray (groups parts) c ≡ true) where
  kept_unless : (c : Change) → (is_stray (groups parts) c ≡ true → ⊥) → keep c ≡ true
  kept_unless c never = elim (keep c) as (λ b. keep c ≡ b → b ≡ true) [ true ↦ λ e. refl | false ↦ λ e. absurd (never (strays c e)) ] refl

  -- headers
  more_on_disk : (c : Change) (xs : List Change) (n : ℕ) → group_is_on_disk (map (group_of parts) (filter is_header xs)) n ≡ true → group_is_on_disk (map (group_of parts) (filter is_header (c ∷ xs))) n ≡ true
  more_on_disk c xs n h =
      elim (is_header c) as (λ b. group_is_on_disk (map (group_of parts) (cond b (c ∷ filter is_header xs) (filter is_header xs))) n ≡ true) [
        | true ↦ or_second (c.key.object == n) _ h
        | false ↦ h
      ]
    where
      or_second : (a b : Bool) → b ≡ true → (a || b) ≡ true
      or_second true b e = refl
      or_second false b e = e

  here_on_disk : (c : Change) (xs : List Change) → is_header c ≡ true → group_is_on_disk (map (group_of parts) (filter is_header (c ∷ xs))) c.key.object ≡ true
  here_on_disk c xs h =
      ap (λ (b : Bool). group_is_on_disk (map (group_of parts) (cond b (c ∷ filter is_header xs) (filter is_header xs))) c.key.object) h
      ∙ ap (λ (b : Bool). b || group_is_on_disk (map (group_of parts) (filter is_header xs)) c.key.object) (itself c.key.object)

  headers_on_disk : (xs : List Change) → AllByRecursion (λ c. is_header c ≡ true → group_is_on_disk (map (group_of parts) (filter is_header xs)) c.key.object ≡ true) xs
  headers_on_disk [] = tt
  headers_on_disk (c ∷ xs) =
      (here_on_disk c xs, each_of _ _ xs (λ d f h. more_on_disk c xs d.key.object (f h)) (headers_on_disk xs))

  no_stray : (part ceiling disk : Bool) → ceiling ≡ false → disk ≡ true → cond ceiling (not part) (not disk) ≡ true → ⊥
  no_stray part true disk a b h = absurd (cc)
  no_stray part false true a b h = absurd (cc)
  no_stray part false false a b h = absurd (cc)

  no_ceiling : (part ceiling : Bool) → (part && not ceiling) ≡ true → ceiling ≡ false
  no_ceiling true true h = absurd (cc)
  no_ceiling true false h = refl
  no_ceiling false ceiling h = absurd (cc)

  header_kept : (c : Change) → is_header c ≡ true → group_is_on_disk (groups parts) c.key.object ≡ true → keep c ≡ true
  header_kept c h on = kept_unless c (no_stray (c.key.part == 0) (c.key.object == ceiling_key) _ (no_ceiling (c.key.part == 0) (c.key.object == ceiling_key) h) on)

  headers_kept : filter is_header (filter keep parts) ≡ filter is_header parts
  headers_kept = passed_kept is_header keep parts (each_of _ _ parts (λ c on h. header_kept c h (on h)) (headers_on_disk parts))

  -- the parts of an object
  part_kept : (n : ℕ) → (n == ceiling_key) ≡ false → group_is_on_disk (groups parts) n ≡ true → (c : Change) → is_part_of n c ≡ true → keep c ≡ true
  part_kept n other on c mine =
      let same = same_number c.key.object n mine in
      kept_unless c (no_stray (c.key.part == 0) (c.key.object == ceiling_key) _ (ap (λ (k : ℕ). k == ceiling_key) same ∙ other) (ap (group_is_on_disk (groups parts)) same ∙ on))

  parts_kept_of : (n : ℕ) → (n == ceiling_key) ≡ false → group_is_on_disk (groups parts) n ≡ true → parts_of_number n (filter keep parts) ≡ parts_of_number n parts
  parts_kept_of n other on = passed_kept (is_part_of n) keep parts (each _ parts (part_kept n other on))

  group_kept : (c : Change) → is_header c ≡ true → group_is_on_disk (groups parts) c.key.object ≡ true → group_of (filter keep parts) c ≡ group_of parts c
  group_kept c h on = ap (λ (l : List Change). record { number = c.key.object; parts = l }) (parts_kept_of c.key.object (no_ceiling (c.key.part == 0) (c.key.object == ceiling_key) h) on)

  pub groups_kept : groups (filter keep parts) ≡ groups parts
  groups_kept =
      ap (map (group_of (filter keep parts))) headers_kept
      ∙ mapped_alike (group_of (filter keep parts)) (group_of parts) (filter is_header parts)
      (each_passed _ is_header parts (each_of _ _ parts (λ c on h. group_kept c h (on h)) (headers_on_disk parts)))

  -- the ceiling
  behind_first : (c : Change) → is_part_of ceiling_key c ≡ true → keep c ≡ false → nat_lt c.key.part 1 ≡ false
  behind_first c mine away = not_first c.key.part (by (c.key.object == ceiling_key) mine (strays c away))
    where
      by : (b : Bool) → b ≡ true → cond b (not (c.key.part == 0)) (not (group_is_on_disk (groups parts) c.key.object)) ≡ true → not (c.key.part == 0) ≡ true
      by true e h = h
      by false e h = absurd (cc)

      not_zero : (b : Bool) → not b ≡ true → b ≡ false
      not_zero true e = absurd (cc)
      not_zero false e = refl

      above : (n : ℕ) → (n == 0) ≡ false → nat_lt n 1 ≡ false
      above n h = grind (arith, nat_tests)

      not_first : (n : ℕ) → not (n == 0) ≡ true → nat_lt n 1 ≡ false
      not_first n h = above n (not_zero (n == 0) h)

  none_leads : (ys : List Change) → AllByRecursion (λ d. is_part_of ceiling_key d ≡ true → nat_lt d.key.part 1 ≡ false) ys → leading 1 (parts_of_number ceiling_key ys) ≡ []
  none_leads [] h = refl
  none_leads (d ∷ ys) h =
      elim (is_part_of ceiling_key d) as (λ b. is_part_of ceiling_key d ≡ b → leading 1 (cond b (d ∷ parts_of_number ceiling_key ys) (parts_of_number ceiling_key ys)) ≡ []) [
        | true ↦ λ e. ap (λ (b : Bool). cond b (d ∷ leading 1 (parts_of_number ceiling_key ys)) []) (h.0 e)
        | false ↦ λ e. none_leads ys h.1
      ] refl

  none_later : (c : Change) (xs : List Change) → is_part_of ceiling_key c ≡ true → nat_lt c.key.part 1 ≡ false → AllByRecursion (λ d. key_cmp c.key d.key ≡ Less) xs → leading 1 (parts_of_number ceiling_key (filter keep xs)) ≡ []
  none_later c xs mine first below =
      none_leads (filter keep xs) (each_passed _ keep xs (each_of _ _ xs (λ d less k is.
      later_part c.key d.key less (same_number c.key.object ceiling_key mine ∙ sym (same_number d.key.object ceiling_key is)) first) below))

  first_kept : (xs : List Change) → Rise xs → leading 1 (parts_of_number ceiling_key (filter keep xs)) ≡ leading 1 (parts_of_number ceiling_key xs)
  first_kept [] h = refl
  first_kept (c ∷ xs) h =
      let rest = first_kept xs h.1 in
      elim (keep c) as (λ k. keep c ≡ k → leading 1 (parts_of_number ceiling_key (cond k (c ∷ filter keep xs) (filter keep xs))) ≡ leading 1 (cond (is_part_of ceiling_key c) (c ∷ parts_of_number ceiling_key xs) (parts_of_number ceiling_key xs))) [
        | true ↦ λ k. elim (is_part_of ceiling_key c) as (λ b. leading 1 (cond b (c ∷ parts_of_number ceiling_key (filter keep xs)) (parts_of_number ceiling_key (filter keep xs))) ≡ leading 1 (cond b (c ∷ parts_of_number ceiling_key xs) (parts_of_number ceiling_key xs))) [
          | true ↦ ap (λ (l : List Change). cond (nat_lt c.key.part 1) (c ∷ l) []) rest
          | false ↦ rest
        ]
        | false ↦ λ k. elim (is_part_of ceiling_key c) as (λ b. is_part_of ceiling_key c ≡ b → leading 1 (parts_of_number ceiling_key (filter keep xs)) ≡ leading 1 (cond b (c ∷ parts_of_number ceiling_key xs) (parts_of_number ceiling_key xs))) [
          | true ↦ λ mine.
              let behind = behind_first c mine k in
              none_later c xs mine behind h.0 ∙ sym (ap (λ (b : Bool). cond b (c ∷ leading 1 (parts_of_number ceiling_key xs)) []) behind)
          | false ↦ λ mine. rest
        ] refl
      ] refl

-- ---- the first of the orphan pages

are_strays : (gs : List Group) (xs : List Change) → AllByRecursion (λ d. is_stray gs d ≡ true) (map part_taken (filter (is_stray gs) xs))
are_strays gs [] = tt
are_strays gs (x ∷ xs) =
    elim (is_stray gs x) as (λ b. is_stray gs x ≡ b → AllByRecursion (λ d. is_stray gs d ≡ true) (map part_taken (cond b (x ∷ filter (is_stray gs) xs) (filter (is_stray gs) xs)))) [
      | true ↦ λ e. (e, are_strays gs xs)
      | false ↦ λ e. are_strays gs xs
    ] refl

gone_stray : (gs : List Group) (cs : List Change) → AllByRecursion (λ d. is_stray gs d ≡ true) cs → (c : Change) → stays cs c.key ≡ false → is_stray gs c ≡ true
gone_stray gs cs all c gone = found cs all (not_not _ gone)
  where
    not_not : (b : Bool) → not b ≡ false → b ≡ true
    not_not true e = refl
    not_not false e = absurd (cc)

    found : (cs : List Change) → AllByRecursion (λ d. is_stray gs d ≡ true) cs → list_any (λ d. eq_by_cmp key_cmp c.key d.key) cs ≡ true → is_stray gs c ≡ true
    found [] all e = absurd (cc)
    found (d ∷ cs) all e =
        elim (eq_by_cmp key_cmp c.key d.key) as (λ b. eq_by_cmp key_cmp c.key d.key ≡ b → (b || list_any (λ d. eq_by_cmp key_cmp c.key d.key) cs) ≡ true → is_stray gs c ≡ true) [
          | true ↦ λ t _. ap (λ (k : Key). is_stray gs (record { key = k; page = None })) (key_cmp-IsAntisymmetric c.key d.key (equal_keys _ t)) ∙ all.0
          | false ↦ λ t rest. found cs all.1 rest
        ] refl e

module _ (m : Content) (count : ℕ) where
  abbrev gone : List Change
  gone = take count (removals (all_parts m))

  abbrev stay : Change → Bool
  stay c = stays gone c.key

  rest_of : all_parts (changed m gone) ≡ filter stay (all_parts m)
  rest_of = parts_kept m gone (each_first _ count (removals (all_parts m)) (taken_away (is_stray (groups (all_parts m))) (all_parts m)))

  only_strays : (c : Change) → stay c ≡ false → is_stray (groups (all_parts m)) c ≡ true
  only_strays c e = gone_stray (groups (all_parts m)) gone (each_first _ count (removals (all_parts m)) (are_strays (groups (all_parts m)) (all_parts m))) c e

  -- each object has the parts that it had
  pub same_groups : groups (all_parts (changed m gone)) ≡ groups (all_parts m)
  same_groups = ap groups rest_of ∙ groups_kept (all_parts m) stay only_strays

  -- so has the ceiling, as far as it is read
  pub same_ceiling : leading rows_part (parts_of_number ceiling_key (all_parts (changed m gone))) ≡ leading rows_part (parts_of_number ceiling_key (all_parts m))
  same_ceiling =
      ap (λ (l : List Change). leading rows_part (parts_of_number ceiling_key l)) rest_of
      ∙ first_kept (all_parts m) stay only_strays (all_parts m) (parts_rise (entries m) (is_true _ (entries_sorted m)))

  ceiling_kept : ceiling_in (parts_of_number ceiling_key (all_parts (changed m gone))) ≡ ceiling_in (parts_of_number ceiling_key (all_parts m))
  ceiling_kept = ap (λ (l : List Change). read_parts ceiling_key 0 ceiling_page (no_tags ceiling_page) 512 l) same_ceiling

  fault_kept : (limit : ℕ) → first_fault limit (all_parts (changed m gone)) ≡ first_fault limit (all_parts m)
  unfolding store_fault
  fault_kept limit = λ i. first_fault_by (same_groups i) limit (ceiling_kept i)

  pub read_ceiling_kept : ceiling_of (all_parts (changed m gone)) ≡ ceiling_of (all_parts m)
  read_ceiling_kept = ap (λ (o : Option ℕ). unwrap_or o 0) ceiling_kept

  pub read_kept : (limit : ℕ) → objects_stored_in limit (all_parts (changed m gone)) ≡ objects_stored_in limit (all_parts m)
  read_kept limit = λ i. all_sound (same_groups i) limit (read_ceiling_kept i)

  restarted_kept : (limit : ℕ) → restarted limit (all_parts (changed m gone)) ≡ restarted limit (all_parts m)
  restarted_kept limit = λ i.
      record {
        objects = all_followed (all_sound (same_groups i) limit (unwrap_or (ceiling_kept i) 0));
        next = unwrap_or (ceiling_kept i) 0 + 1;
        ceiling = unwrap_or (ceiling_kept i) 0;
      }

-- Whatever orphan pages are taken away first, the content is restarted to the same objects.
pub objects_kept : (m : Content) (count : ℕ) (h : Held) → AreOf h m → AreOf h (changed m (take count (removals (all_parts m))))
objects_kept m count h r = record {
  sound = fault_kept m count body_limit ∙ r.sound;
  is = r.is ∙ sym (restarted_kept m count body_limit);
}

-- ---- all of them

take_all : {A : Type 0} (xs : List A) → take (length xs) xs ≡ xs
take_all [] = refl
take_all {A} (x ∷ xs) = ap (λ (l : List A). x ∷ l) (take_all xs)

module _ (m : Content) where
  abbrev strays : List Change
  strays = removals (all_parts m)

  all_gone : changed m (take (length strays) strays) ≡ changed m strays
  all_gone = ap (λ (l : List Change). changed m l) (take_all strays)

  pub cleaned_kept : (limit : ℕ) → objects_stored_in limit (all_parts (changed m strays)) ≡ objects_stored_in limit (all_parts m)
  cleaned_kept limit = ap (λ (k : Content). objects_stored_in limit (all_parts k)) (sym all_gone) ∙ read_kept m (length strays) limit

  pub cleaned_ceiling : ceiling_of (all_parts (changed m strays)) ≡ ceiling_of (all_parts m)
  cleaned_ceiling = ap (λ (k : Content). ceiling_of (all_parts k)) (sym all_gone) ∙ read_ceiling_kept m (length strays)
