-- The parts of a number in a content are those that are wanted of it, where each has its page.
use Rattle.std.proofs.Common.{◌≡◌, ◌∙◌, ◌<◌, ◌==◌, ℕ, ◌+◌, ◌*◌, Bool, true, false, cond, List, [], ◌∷◌, ◌++◌, Option, length, map, refl, sym, ap, arith}
use lib.Dec.{T}
use Rattle.std.proofs.lemmas.Bool.Decides.{nat_tests}
use Rattle.std.specs.FinMap.{entries, entries_sorted, get, is_sorted}
use Rattle.std.specs.List.{AllByRecursion}
use Rattle.std.specs.Ordering.{eq_by_cmp, is_lt}
use Rattle.std.specs.Prelude.{◌&&◌, is_some}
use Rattle.std.specs.declared.cmp.Ordering.TheVariants.{Equal, Greater, Less}
use Rattle.std.specs.declared.cmp.Ordering.{Ordering}
use Rattle.s38_base.specs.declared.page.Change.{Change}
use Rattle.s38_base.specs.declared.page.Key.{Key}
use Rattle.s38_base.specs.declared.page.Page.{Page}
use Rattle.s38_durable_state.specs.Represents.{parts_end}
use Rattle.s38_page_diff.proofs.WalkLaws.{key_itself, one_key}
use Rattle.s38_page_diff.proofs.WantedLaws.{in_range, inside, pages_held}
use Rattle.s38_page_diff.specs.Differences.{IsWanted, is_part_in_range, wanted_at}
use Rattle.s38_page_diff.specs.declared.range.PartRange.{PartRange}
use Rattle.s38_restart.proofs.catalog.RunLaws.{in_order}
use Rattle.s38_restart.specs.catalog.Groups.{is_part_of, parts_of_number}
use Rattle.s38_image.specs.Images as images
use Rattle.s38_image.specs.Bodies.{body, body_tags}
use Rattle.s38_image.specs.Headers.{header, rows}
use Rattle.s38_image.specs.Pages.{needed, no_tags, numbered_pieces, page_pieces, stream_parts, zero_filled}
use Rattle.s38_image.specs.declared.stored.Stored.{Stored}
use Rattle.s38_page_diff.proofs.reconcile.SoFarLaws.{all_of, all_on}
use Rattle.s38_page_diff.specs.reconcile.Replacing.{range_of}
use Rattle.s38_laws_flush.proofs.durable.CleanedPageLaws.{pages_of}
use Rattle.s38_laws_flush.specs.durable.Kept.{HasParts}
use Rattle.s38_restart.specs.Parts.{all_parts, part_of}
use Rattle.s38_vault.specs.Content.{AreRising, Content}
use Rattle.s38_vault.specs.Directory.{keys_of}
use Rattle.s38_vault.specs.Keys.{key_cmp}
use Rattle.s38_laws_recovery.proofs.WantedLaws.{IsPageIn, each_passing, filter_in_order, same_pages}

abbrev pub HasPage : Change → Type 0
HasPage c = is_some c.page ≡ true

-- ---- pages that are printed

numbered_pages : (object first : ℕ) (pages : List (List ℕ)) (tags : List ℕ) → AllByRecursion HasPage (numbered_pieces object first pages tags)
unfolding numbered_pieces
numbered_pages object first [] tags = tt
numbered_pages object first (xs ∷ pages) [] = (refl, numbered_pages object (first + 1) pages [])
numbered_pages object first (xs ∷ pages) (t ∷ tags) = (refl, numbered_pages object (first + 1) pages tags)

pub stream_pages : (object first : ℕ) (bytes tags : List ℕ) → AllByRecursion HasPage (stream_parts object first bytes tags)
stream_pages object first bytes tags = numbered_pages object first (page_pieces (needed (length bytes)) (zero_filled (512 * needed (length bytes)) bytes)) tags

pub object_pages : (x : Stored) → AllByRecursion HasPage (images.image_parts x)
object_pages x =
    let n = x.object.number.0 in
    let count = length x.object.rows in
    let kind = x.object.id.kind in
    all_on HasPage (images.header_parts x) (images.rows_parts x ++ images.body_parts x) (stream_pages n 0 (header.print (images.stored_header x)) (no_tags header (images.stored_header x)))
    (all_on HasPage (images.rows_parts x) (images.body_parts x) (stream_pages n 1 ((rows count).print x.object.rows) (no_tags (rows count) x.object.rows)) (stream_pages n 128 ((body kind []).print (images.image_of x)) (body_tags kind (images.image_of x))))

-- ---- the parts of a content

listed_pages : (es : List (Key × Page)) → AllByRecursion HasPage (map part_of es)
listed_pages [] = tt
listed_pages (e ∷ es) = (refl, listed_pages es)

pub parts_pages : (m : Content) → AllByRecursion HasPage (all_parts m)
parts_pages m = listed_pages (entries m)

-- they rise
both_true : (a b : Bool) → (a && b) ≡ true → (a ≡ true) × (b ≡ true)
both_true true b h = (refl, h)
both_true false b h = absurd (let e : false ≡ true = h in cc)

is_less : (r : Ordering) → is_lt r ≡ true → r ≡ Less
is_less Less h = refl
is_less Equal h = absurd (let e : false ≡ true = h in cc)
is_less Greater h = absurd (let e : false ≡ true = h in cc)

is_true : (b : Bool) → T b → b ≡ true
is_true true h = refl
is_true false h = absurd h

listed_rise : (es : List (Key × Page)) → is_sorted key_cmp es ≡ true → AreRising (map part_of es)
listed_rise [] h = tt
listed_rise (e ∷ []) h = tt
listed_rise (e ∷ f ∷ es) h = (is_less (key_cmp e.0 f.0) (both_true _ _ (both_true _ _ h).0).0, listed_rise (f ∷ es) (both_true _ _ h).1)

pub parts_rise : (m : Content) → AreRising (all_parts m)
parts_rise m = listed_rise (entries m) (is_true _ (entries_sorted m))

-- each of some parts is found among them
each_found : (cs : List Change) → AllByRecursion HasPage cs → AllByRecursion (λ c. is_some (wanted_at cs c.key) ≡ true) cs
each_found [] pages = tt
each_found (x ∷ xs) pages = (
  ap (λ b. is_some (cond b x.page (wanted_at xs x.key))) (key_itself x.key) ∙ pages.0,
  all_of (λ c. is_some (wanted_at xs c.key) ≡ true) (λ c. is_some (wanted_at (x ∷ xs) c.key) ≡ true) xs (λ c found. later (eq_by_cmp key_cmp c.key x.key) (wanted_at xs c.key) found) (each_found xs pages.1),
)
  where
    later : (b : Bool) (page : Option Page) → is_some page ≡ true → is_some (cond b x.page page) ≡ true
    later true page some = pages.0
    later false page some = some

-- a part is looked for among those of its number
own_parts : (n : ℕ) (key : Key) (cs : List Change) → key.object ≡ n → wanted_at (parts_of_number n cs) key ≡ wanted_at cs key
own_parts n key [] own = refl
own_parts n key (c ∷ cs) own = by (is_part_of n c) refl (own_parts n key cs own)
  where
    other : is_part_of n c ≡ false → (b : Bool) → eq_by_cmp key_cmp key c.key ≡ b → b ≡ false
    other off true is = absurd (
        let same : c.key.object ≡ n = sym (ap (λ (k : Key). k.object) (one_key key c.key is)) ∙ own in
        let e : (c.key.object == n) ≡ true = grind (arith, nat_tests) in
        cc)
    other off false is = refl

    by : (b : Bool) → is_part_of n c ≡ b → wanted_at (parts_of_number n cs) key ≡ wanted_at cs key → wanted_at (cond b (c ∷ parts_of_number n cs) (parts_of_number n cs)) key ≡ wanted_at (c ∷ cs) key
    by true is rest = ap (λ (x : Option Page). cond (eq_by_cmp key_cmp key c.key) c.page x) rest
    by false is rest = rest ∙ sym (ap (λ b. cond b c.page (wanted_at cs key)) (other is (eq_by_cmp key_cmp key c.key) refl))

both_each : (range : PartRange) (cs : List Change) → AllByRecursion (λ c. is_part_in_range range c.key ≡ true) cs → AllByRecursion HasPage cs → AllByRecursion (IsPageIn range) cs
both_each range [] in_it pages = tt
both_each range (c ∷ cs) in_it pages = (record { in_range = in_it.0; there = pages.0 }, both_each range cs in_it.1 pages.1)

-- a part of 32 bits, with a page
record IsLow (c : Change) : Type 0 where
  pub part : c.key.part < parts_end
  pub page : is_some c.page ≡ true

low_pages : (cs : List Change) → AllByRecursion (λ c. c.key.part < parts_end) cs → AllByRecursion HasPage cs → AllByRecursion IsLow cs
low_pages [] low pages = tt
low_pages (c ∷ cs) low pages = (record { part = low.0; page = pages.0 }, low_pages cs low.1 pages.1)

module _ (m : Content) (low : HasParts m) where
  each_low : AllByRecursion IsLow (all_parts m)
  each_low =
      low_pages (all_parts m)
      (all_of (λ c. is_some (wanted_at (all_parts m) c.key) ≡ true) (λ c. c.key.part < parts_end) (all_parts m)
      (λ c found. low c.key (sym (pages_held (keys_of m) m refl c.key) ∙ ap is_some (sym (pages_of m c.key)) ∙ found)) (each_found (all_parts m) (parts_pages m)))
      (parts_pages m)

  own_pages : (n : ℕ) → AllByRecursion (IsPageIn (range_of n)) (parts_of_number n (all_parts m))
  own_pages n = each_passing IsLow (IsPageIn (range_of n)) (is_part_of n) (all_parts m) (λ c own here. one c own here) each_low
    where
      one : (c : Change) → is_part_of n c ≡ true → IsLow c → IsPageIn (range_of n) c
      one c own here =
          let same : c.key.object ≡ n = grind (arith, nat_tests) in
          record { in_range = in_range (range_of n) c.key same (omega arith) here.part; there = here.page }

  -- the parts of a number are those that have the pages of all its keys
  pub parts_same : (n : ℕ) (cs : List Change) → IsWanted (range_of n) cs → AllByRecursion HasPage cs → ((q : Key) → q.object ≡ n → q.part < parts_end → get m q ≡ wanted_at cs q) → parts_of_number n (all_parts m) ≡ cs
  parts_same n cs wanted pages same =
      same_pages (range_of n) (parts_of_number n (all_parts m)) cs (filter_in_order (is_part_of n) (all_parts m) (in_order (all_parts m) (parts_rise m))) (in_order cs wanted.rising)
      (own_pages n) (both_each (range_of n) cs wanted.in_range pages)
      (λ q own.
      let here = inside (range_of n) q own in
      own_parts n q (all_parts m) here.object ∙ pages_of m q ∙ same q here.object here.before)
