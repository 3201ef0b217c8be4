-- The marks of a store without a page, and the content of an index.
use Rattle.std.proofs.Common.{◌≡◌, ◌&&◌, ℕ, zero, suc, ◌+◌, ◌-◌, ◌<◌, ◌≤◌, nat_le, nat_lt, Bool, true, false, cond, replicate, slice_set, List, [], ◌∷◌, ◌++◌, length, map, Some, refl, sym, ◌∙◌, ap, subst, arith, length-append, ⊎_elim}
use Rattle.std.specs.Prelude.{is_some}
use Rattle.std.proofs.Math.ListN.{length-set}
use Rattle.std.proofs.lemmas.Bool.{true≢false, cases_eq, cases_lt, both_ways, and_parts, and_from, ltb-true, leb-true, le-leb, lt-ltb}
use Rattle.std.proofs.lemmas.List.{get_or-append_right, get_or_append_left, get_or-replicate}
use lib.Dec.{T}
use Rattle.std.specs.FinMap as map_of
use Rattle.std.specs.FinMap.{empty, entries, entries_sorted, from_sorted, get, get-empty, get-entries, get-from_sorted, is_sorted, len, len-empty}
use Rattle.std.specs.FinMap.Entries.{below_all}
use Rattle.std.specs.Ordering.{eq_by_cmp, is_lt}
use Rattle.s38_disk.specs.declared.block.Block.{Block}
use Rattle.s38_base.specs.declared.page.Key.{Key}
use Rattle.s38_base.specs.declared.page.Page.{Page}
use Rattle.s38_vault.specs.Content.{Content}
use Rattle.s38_vault.specs.Keys.{key_cmp}
use Rattle.s38_vault.proofs.DirectoryLaws.{contains-keys_of}
use Rattle.s38_redo_log.specs.declared.layout.Layout.{Layout}
use Rattle.s38_redo_log.specs.Coding.{page_in}
use Rattle.s38_redo_log.specs.Store.{is_home}
use Rattle.s38_redo_log.proofs.CommitLemmas.{home_below}
use Rattle.s38_pages.specs.Formats.{no_homes}
use Rattle.s38_pages.specs.Index.{Homes, Indexed, first_marks, marked, page_at, unmarked}
use Rattle.s38_pages.specs.Scan.{IsScannedTo, Scanned}
use Rattle.s38_pages.proofs.Contents.{none_some}
use Rattle.s38_pages.proofs.Marking.{set_other, set_there, unmarked_set}
use Rattle.s38_pages.proofs.Scanning.{hole_is, home_is}

-- ---- marks

unmarked-append : (xs ys : List Bool) → unmarked (xs ++ ys) ≡ unmarked xs + unmarked ys
unfolding unmarked
unmarked-append [] ys = omega arith
unmarked-append (true ∷ xs) ys = unmarked-append xs ys
unmarked-append (false ∷ xs) ys = let rest = unmarked-append xs ys in omega (arith, rest)

unmarked-true : (n : ℕ) → unmarked (replicate n true) ≡ 0
unfolding unmarked
unmarked-true zero = refl
unmarked-true (suc n) = unmarked-true n

unmarked-false : (n : ℕ) → unmarked (replicate n false) ≡ n
unfolding unmarked
unmarked-false zero = refl
unmarked-false (suc n) = let rest = unmarked-false n in omega (arith, rest)

length-copies : (n : ℕ) (b : Bool) → length (replicate n b) ≡ n
length-copies zero b = refl
length-copies (suc n) b = let rest = length-copies n b in omega (arith, rest)

all_false : (n i : ℕ) → marked (replicate n false) i ≡ false
all_false zero i = refl
all_false (suc n) zero = refl
all_false (suc n) (suc i) = all_false n i

module _ (lay : Layout) (order : lay.first ≤ lay.size) where
  abbrev homes_free : List Bool
  homes_free = replicate lay.first true ++ replicate (lay.size - lay.first) false

  base_low : (i : ℕ) → i < lay.first → marked homes_free i ≡ true
  base_low i lt = let n = length-copies lay.first true in get_or_append_left (replicate lay.first true) (replicate (lay.size - lay.first) false) false i (omega (arith, lt, n)) ∙ get_or-replicate lay.first i true false lt

  base_high : (i : ℕ) → lay.first ≤ i → marked homes_free i ≡ false
  base_high i le = get_or-append_right (replicate lay.first true) (replicate (lay.size - lay.first) false) lay.first i false (length-copies lay.first true) le ∙ all_false (lay.size - lay.first) (i - lay.first)

  base_length : length homes_free ≡ lay.size
  base_length = let a = length-append (replicate lay.first true) (replicate (lay.size - lay.first) false) in let b = length-copies lay.first true in let c = length-copies (lay.size - lay.first) false in omega (arith, a, b, c, order)

  base_count : unmarked homes_free ≡ lay.size - lay.first
  base_count = let a = unmarked-append (replicate lay.first true) (replicate (lay.size - lay.first) false) in let b = unmarked-true lay.first in let c = unmarked-false (lay.size - lay.first) in omega (arith, a, b, c)

  is_first : (i : ℕ) → marked homes_free i ≡ false → lay.first ≤ i
  is_first i free = ⊎_elim (λ lt. absurd (both_ways _ free (base_low i lt))) (λ le. le) (cases_lt i lay.first)

  -- the hole is one of the blocks from the first home on
  abbrev inside : Bool
  inside = nat_le lay.first lay.hole && nat_lt lay.hole lay.size

  keeps_by : (b : Bool) → inside ≡ b → IsScannedTo lay empty (cond b (slice_set homes_free lay.hole true) homes_free) lay.first
  keeps_by b is = record {
    index = record {
      home = λ k h at. absurd (nothing k h at);
      used_there = λ k h at. absurd (nothing k h at);
      apart = λ k q h at_k at_q. absurd (nothing k h at_k);
    };
    below = λ k h at. absurd (nothing k h at);
    free = free b is;
    above = above b is;
    size = size b;
    objects = λ k there. absurd (true≢false (sym there ∙ contains-keys_of empty k ∙ ap is_some (get-empty key_cmp k)));
    parts = parts b is;
  }
    where
      nothing : (k : Key) (h : ℕ) → get no_homes k ≡ Some h → ⊥
      nothing k h at = none_some h (sym (get-empty key_cmp k) ∙ at)

      size : (b : Bool) → length (cond b (slice_set homes_free lay.hole true) homes_free) ≡ lay.size
      size true = length-set homes_free lay.hole true ∙ base_length
      size false = base_length

      within : inside ≡ true → lay.hole < length homes_free
      within is = let lt = ltb-true lay.hole lay.size (and_parts (nat_le lay.first lay.hole) (nat_lt lay.hole lay.size) is).1 in omega (arith, lt, base_length)

      free : (b : Bool) → inside ≡ b → (h : ℕ) → h < length (cond b (slice_set homes_free lay.hole true) homes_free) → marked (cond b (slice_set homes_free lay.hole true) homes_free) h ≡ false → is_home lay h ≡ true
      free true is h lt not_marked = ⊎_elim
          (λ e. absurd (both_ways _ not_marked (ap (marked (slice_set homes_free lay.hole true)) e ∙ set_there homes_free lay.hole true (within is))))
          (λ other. home_is lay h (is_first h (sym (set_other homes_free lay.hole h true other) ∙ not_marked)) (omega (arith, lt, size true)) other)
          (cases_eq h lay.hole)
      free false is h lt not_marked =
          let le = is_first h not_marked in
          let below : h < lay.size = omega (arith, lt, base_length) in
          home_is lay h le below (λ e. both_ways _ is (ap (λ n. nat_le lay.first n && nat_lt n lay.size) (sym e) ∙ and_from _ _ (le-leb lay.first h le) (lt-ltb h lay.size below)))

      above : (b : Bool) → inside ≡ b → (i : ℕ) → lay.first ≤ i → is_home lay i ≡ true → marked (cond b (slice_set homes_free lay.hole true) homes_free) i ≡ false
      above true is i le home = set_other homes_free lay.hole i true (λ e. hole_is lay i e home) ∙ base_high i le
      above false is i le home = base_high i le

      parts : (b : Bool) → inside ≡ b → unmarked (cond b (slice_set homes_free lay.hole true) homes_free) + len no_homes ≡ lay.size - lay.first - cond inside 1 0
      parts true is =
          let one = unmarked_set homes_free lay.hole (within is) (base_high lay.hole (leb-true lay.first lay.hole (and_parts (nat_le lay.first lay.hole) (nat_lt lay.hole lay.size) is).0)) in
          let none = len-empty key_cmp ℕ in
          let hole : ◌≡◌ {A = ℕ} (cond inside 1 0) 1 = ap (λ v. cond {A = ℕ} v 1 0) is in
          omega (arith, one, none, hole, base_count)
      parts false is =
          let none = len-empty key_cmp ℕ in
          let hole : ◌≡◌ {A = ℕ} (cond inside 1 0) 0 = ap (λ v. cond {A = ℕ} v 1 0) is in
          omega (arith, none, hole, base_count)

  pub keeps_first : IsScannedTo lay empty (first_marks lay) lay.first
  keeps_first = keeps_by inside refl

-- ---- contents

module _ (f : ℕ → Block) where
  abbrev paged : List (Key × ℕ) → List (Key × Page)
  paged es = map (λ e. (e.0, page_in (f e.1))) es

  below_paged : (k : Key) (es : List (Key × ℕ)) → below_all key_cmp k (paged es) ≡ below_all key_cmp k es
  below_paged k [] = refl
  below_paged k (e ∷ es) = ap (λ b. is_lt (key_cmp k e.0) && b) (below_paged k es)

  sorted_paged : (es : List (Key × ℕ)) → is_sorted key_cmp (paged es) ≡ is_sorted key_cmp es
  sorted_paged [] = refl
  sorted_paged (e ∷ es) = λ i. below_paged e.0 es i && sorted_paged es i

  found_paged : (q : Key) (es : List (Key × ℕ)) → map_of.find key_cmp q (paged es) ≡ page_at f (map_of.find key_cmp q es)
  found_paged q [] = refl
  found_paged q (e ∷ es) =
      let rest = found_paged q es in
      elim (eq_by_cmp key_cmp q e.0) as (λ b. cond b (Some (page_in (f e.1))) (map_of.find key_cmp q (paged es)) ≡ page_at f (cond b (Some e.1) (map_of.find key_cmp q es))) [
        | true ↦ refl
        | false ↦ rest
      ]

  -- what the homes of an index hold
  abbrev pub content_of : Homes → Content
  content_of homes = from_sorted (paged (entries homes))

  pub get-content_of : (homes : Homes) (q : Key) → get (content_of homes) q ≡ page_at f (get homes q)
  get-content_of homes q =
      get-from_sorted key_cmp (paged (entries homes)) q (subst T (sym (sorted_paged (entries homes))) (entries_sorted homes)) ∙ found_paged q (entries homes)
      ∙ ap (page_at f) (sym (get-entries homes q))

  -- the index of all homes is that of its content
  pub scanned_indexed : (lay : Layout) (homes : Homes) → Scanned lay f (get homes) lay.size → Indexed lay f (get homes) (content_of homes)
  scanned_indexed lay homes d = record {
    sound = λ k h at. let s = d.sound k h at in (s.1, s.2, s.3);
    whole = λ h home used. d.whole h (home_below lay h home) home used;
    pages = get-content_of homes;
  }
