-- A content that represents what is durable, up to orphan pages, represents it once the orphan pages are removed.
use Rattle.std.proofs.Common.{◌≡◌, ◌∙◌, ℕ, zero, suc, ◌*◌, ◌<◌, ◌≤◌, ◌==◌, Bool, true, false, cond, not, List, [], ◌∷◌, ◌++◌, map, filter, length, lit≤, Option, Some, None, refl, sym, ap, arith}
use Rattle.std.proofs.lemmas.Bool.Decides.{nat_tests}
use Rattle.std.specs.FinMap.{entries, find, get, get-entries}
use Rattle.std.specs.List.{list_any}
use Rattle.std.specs.Ordering.{eq_by_cmp}
use Rattle.std.specs.Prelude.{◌&&◌, ◌||◌, is_some}
use Rattle.s38_base.specs.declared.page.Change.{Change}
use Rattle.s38_base.specs.declared.page.Key.{Key}
use Rattle.s38_base.specs.declared.page.Page.{Page}
use Rattle.s38_durable_state.specs.Durable.{Durable, kept}
use Rattle.s38_durable_state.specs.Represents.{Represents, ceiling_parts, page_of, parts_end, parts_in}
use Rattle.s38_page_diff.proofs.WalkLaws.{key_at, key_itself, one_key}
use Rattle.s38_page_diff.specs.Differences.{wanted_at}
use Rattle.s38_restart.specs.catalog.Groups.{group_of, groups, is_header, is_stray}
use Rattle.s38_image.specs.Faults.{Group, group_has_number, group_is_on_disk}
use Rattle.s38_image.specs.PartPlaces.{ceiling_key}
use Rattle.s38_image.specs.Headers.{header}
use Rattle.s38_image.specs.Images as images
use Rattle.s38_image.specs.Pages.{needed, numbered_pieces, page_pieces, stream_parts, zero_filled}
use Rattle.s38_image.specs.declared.stored.Stored.{Stored}
use Rattle.s38_restart.specs.Parts.{all_parts, part_of}
use Rattle.s38_flush.proofs.ForceLaws.{none_after}
use Rattle.s38_flush.proofs.KeptLaws.{kept_number}
use Rattle.s38_flush.specs.Leftovers.{RepresentsUpToOrphans}
use Rattle.s38_vault.specs.Content.{Content}
use Rattle.s38_vault.specs.Keys.{key_cmp}
use Rattle.s38_laws_flush.proofs.durable.CleanedPageLaws.{at_key, cleaned_page, number_same}
use Rattle.s38_laws_flush.specs.durable.Beginning.{cleaned}

-- ---- which numbers have a header page

same_header : (n : ℕ) (k : Key) → eq_by_cmp key_cmp (key_at n 0) k ≡ ((k.part == 0) && (k.object == n))
same_header n k = by (k.part == 0) refl (k.object == n) refl
  where
    test : Key → Bool
    test q = (q.part == 0) && (q.object == n)

    itself : test (key_at n 0) ≡ true
    itself = grind (arith, nat_tests)

    other : test k ≡ false → (b : Bool) → eq_by_cmp key_cmp (key_at n 0) k ≡ b → b ≡ false
    other off true is = absurd (let e : true ≡ false = sym itself ∙ ap test (one_key (key_at n 0) k is) ∙ off in cc)
    other off false is = refl

    by : (a : Bool) → (k.part == 0) ≡ a → (b : Bool) → (k.object == n) ≡ b → eq_by_cmp key_cmp (key_at n 0) k ≡ (a && b)
    by true first true own =
        let same : k ≡ key_at n 0 = λ i. record { object = number_same k.object n own i; part = number_same k.part 0 first i } in
        ap (λ (q : Key). eq_by_cmp key_cmp (key_at n 0) q) same ∙ key_itself (key_at n 0)
    by true first false own = other (λ i. first i && own i) (eq_by_cmp key_cmp (key_at n 0) k) refl
    by false first b own = other (λ i. first i && own i) (eq_by_cmp key_cmp (key_at n 0) k) refl

module _ (n : ℕ) (off : (n == ceiling_key) ≡ false) (parts : List Change) where
  -- among some parts there is a header page of the number
  has_page : (es : List (Key × Page)) → list_any (group_has_number n) (map (group_of parts) (filter is_header (map part_of es))) ≡ is_some (find key_cmp (key_at n 0) es)
  has_page [] = refl
  has_page (e ∷ es) = by (e.0.part == 0) refl (e.0.object == n) refl (has_page es)
    where
      left : List Change
      left = filter is_header (map part_of es)

      any : Bool → Bool
      any b = list_any (group_has_number n) (map (group_of parts) (cond b (part_of e ∷ left) left))

      found : Bool → Bool
      found b = is_some (cond b (Some e.1) (find key_cmp (key_at n 0) es))

      apart : e.0.object ≡ n → (e.0.object == ceiling_key) ≡ false
      apart own = ap (λ (k : ℕ). k == ceiling_key) own ∙ off

      others : (e.0.object == n) ≡ false → (b : Bool) → any b ≡ any false
      others other true = ap (λ b. b || any false) other
      others other false = refl

      by : (a : Bool) → (e.0.part == 0) ≡ a → (b : Bool) → (e.0.object == n) ≡ b → any false ≡ found false → any ((e.0.part == 0) && not (e.0.object == ceiling_key)) ≡ found (eq_by_cmp key_cmp (key_at n 0) e.0)
      by true first true own rest =
          ap any (λ i. first i && not (apart (number_same e.0.object n own) i)) ∙ ap (λ b. b || any false) own
          ∙ sym (ap found (same_header n e.0 ∙ (λ i. first i && own i)))
      by true first false own rest =
          others own ((e.0.part == 0) && not (e.0.object == ceiling_key)) ∙ rest
          ∙ sym (ap found (same_header n e.0 ∙ (λ i. first i && own i)))
      by false first b own rest =
          ap any (λ i. first i && not (e.0.object == ceiling_key)) ∙ rest
          ∙ sym (ap found (same_header n e.0 ∙ (λ i. first i && own i)))

on_disk_in : (m : Content) (n : ℕ) → (n == ceiling_key) ≡ false → group_is_on_disk (groups (all_parts m)) n ≡ is_some (get m (key_at n 0))
on_disk_in m n off = has_page n off (all_parts m) (entries m) ∙ sym (ap is_some (get-entries m (key_at n 0)))

-- ---- what is kept has a page for its header

some_page : (b : Bool) (p : Page) (rest : Option Page) → b ≡ true → is_some (cond b (Some p) rest) ≡ true
some_page b p rest is = ap (λ c. is_some (cond c (Some p) rest)) is

first_numbered : (n k : ℕ) (xs tags : List ℕ) (rest : List Change) → is_some (wanted_at (numbered_pieces n 0 (page_pieces (suc k) xs) tags ++ rest) (key_at n 0)) ≡ true
unfolding page_pieces numbered_pieces
first_numbered n k xs [] rest = some_page (eq_by_cmp key_cmp (key_at n 0) (key_at n 0)) _ _ (key_itself (key_at n 0))
first_numbered n k xs (t ∷ tags) rest = some_page (eq_by_cmp key_cmp (key_at n 0) (key_at n 0)) _ _ (key_itself (key_at n 0))

first_streamed : (n : ℕ) (bytes tags : List ℕ) (rest : List Change) → 1 ≤ length bytes → is_some (wanted_at (stream_parts n 0 bytes tags ++ rest) (key_at n 0)) ≡ true
first_streamed n bytes tags rest some = by (needed (length bytes)) refl
  where
    by : (k : ℕ) → needed (length bytes) ≡ k → is_some (wanted_at (numbered_pieces n 0 (page_pieces k (zero_filled (512 * needed (length bytes)) bytes)) tags ++ rest) (key_at n 0)) ≡ true
    by zero none = absurd (omega (arith, none, some))
    by (suc k) is = first_numbered n k (zero_filled (512 * needed (length bytes)) bytes) tags rest

has_header : (x : Stored) → is_some (wanted_at (images.image_parts x) (key_at x.object.number.0 0)) ≡ true
has_header x = first_streamed x.object.number.0 (header.print (images.stored_header x)) _ _ (omega arith)

-- ---- the pages of a content that was cleaned

module _ (m : Content) (d : Durable) (but : RepresentsUpToOrphans m d) where
  abbrev gs : List Group
  gs = groups (all_parts m)

  either : (b c : Bool) → (c ≡ true) → (b || c) ≡ true
  either true c is = refl
  either false c is = is

  -- after the part of the ceiling there is none
  ceiling_there : (q : Key) → q.part < parts_end → (q.object == ceiling_key) ≡ true → cond (is_stray gs (at_key q)) None (get m q) ≡ page_of d q
  ceiling_there q low is =
      ap (λ b. cond (cond b (not (q.part == 0)) (not (group_is_on_disk gs q.object))) None (get m q)) is
      ∙ by (q.part == 0) refl
    where
      page : get m q ≡ page_of d q
      page = but.each q low (either (q.part == 0) _ (ap (λ b. b || is_some (kept d.objects q.object)) is))

      by : (b : Bool) → (q.part == 0) ≡ b → cond (not b) None (get m q) ≡ page_of d q
      by true first = page
      by false behind =
          let far : 1 ≤ q.part = grind (arith, nat_tests) in
          sym (ap (λ b. wanted_at (cond b (ceiling_parts d.ceiling) (parts_in (kept d.objects q.object))) q) is
          ∙ ap (λ (k : ℕ). wanted_at (ceiling_parts d.ceiling) (key_at k q.part)) (number_same q.object ceiling_key is)
          ∙ none_after d.ceiling q.part far)

  object_there : (q : Key) → q.part < parts_end → (q.object == ceiling_key) ≡ false → cond (is_stray gs (at_key q)) None (get m q) ≡ page_of d q
  object_there q low off =
      ap (λ b. cond (cond b (not (q.part == 0)) (not (group_is_on_disk gs q.object))) None (get m q)) off
      ∙ ap (λ b. cond (not b) None (get m q)) (on_disk_in m q.object off ∙ ap is_some (but.each (key_at q.object 0) (lit≤ tt) refl))
      ∙ by (kept d.objects q.object) refl
    where
      page : (x : Option Stored) → kept d.objects q.object ≡ x → (p : ℕ) → page_of d (key_at q.object p) ≡ wanted_at (parts_in x) (key_at q.object p)
      page x is p = ap (λ b. wanted_at (cond b (ceiling_parts d.ceiling) (parts_in (kept d.objects q.object))) (key_at q.object p)) off ∙ ap (λ (y : Option Stored). wanted_at (parts_in y) (key_at q.object p)) is

      by : (x : Option Stored) → kept d.objects q.object ≡ x → cond (not (is_some (page_of d (key_at q.object 0)))) None (get m q) ≡ page_of d q
      by None is = ap (λ (o : Option Page). cond (not (is_some o)) None (get m q)) (page None is 0) ∙ sym (page None is q.part)
      by (Some x) is =
          ap (λ b. cond (not b) None (get m q))
          (ap is_some (page (Some x) is 0) ∙ ap (λ (k : ℕ). is_some (wanted_at (images.image_parts x) (key_at k 0))) (sym (kept_number q.object d.objects x is)) ∙ has_header x)
          ∙ but.each q low (either (q.part == 0) _ (either (q.object == ceiling_key) _ (ap is_some is)))

  pub cleaned_represents_left : Represents (cleaned m) d
  cleaned_represents_left = record { each = λ q low. cleaned_page m q ∙ by q low (q.object == ceiling_key) refl }
    where
      by : (q : Key) → q.part < parts_end → (b : Bool) → (q.object == ceiling_key) ≡ b → cond (is_stray gs (at_key q)) None (get m q) ≡ page_of d q
      by q low true is = ceiling_there q low is
      by q low false off = object_there q low off
