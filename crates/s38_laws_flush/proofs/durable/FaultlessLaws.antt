-- A content without a fault represents what a restart reads of it, once its orphan pages are removed.
use Rattle.std.proofs.Common.{◌≡◌, ◌∙◌, ℕ, ◌+◌, ◌*◌, ◌<◌, ◌==◌, ◌-◌, Bool, true, false, cond, not, List, [], ◌∷◌, ◌++◌, map, filter, length, inl, inr, get_or, Option, Some, None, refl, sym, ap, subst, arith}
use Rattle.std.proofs.lemmas.Bool.{cases_lt, cond_both}
use Rattle.std.proofs.lemmas.List.{get_or-append-add, get_or_append_left}
use Rattle.std.specs.Cmp.{tied_itself}
use Rattle.std.specs.FinMap.{get}
use Rattle.std.specs.List.{AllByRecursion}
use Rattle.std.specs.Option.{unwrap_or}
use Rattle.std.specs.Ordering.{eq_by_cmp, is_eq}
use Rattle.std.specs.Prelude.{Err, Ok, Result, filter_map, is_some, nat_lt}
use Rattle.s38_base.specs.Limits.{body_limit, page_bytes}
use Rattle.s38_base.specs.declared.page.Change.{Change}
use Rattle.s38_base.specs.declared.page.Key.{Key}
use Rattle.s38_base.specs.declared.page.Page.{Page}
use Rattle.s38_codec.proofs.CodecLaws.{AreBytes-after, AreBytes-front, unless_some}
use Rattle.s38_codec.specs.Codec.{AreBytes}
use Rattle.s38_durable_state.specs.Durable.{kept}
use Rattle.s38_durable_state.specs.Represents.{Represents, ceiling_parts, page_of, parts_in}
use Rattle.s38_page_diff.specs.Differences.{wanted_at}
use Rattle.s38_restart.proofs.catalog.CeilingLaws.{ceiling_codec, ceiling_is}
use Rattle.s38_restart.proofs.catalog.LawfulLaws.{IsWhole, all_whole}
use Rattle.s38_restart.proofs.catalog.LookupLaws.{some_group}
use Rattle.s38_restart.specs.catalog.Groups.{group_of, groups, is_header, is_part_of, is_stray, parts_of_number}
use Rattle.s38_restart.specs.catalog.Stores.{ceiling_of, first_fault, objects_stored_in}
use Rattle.s38_image.proofs.ImageLaws.{object_exact}
use Rattle.s38_image.proofs.PageLaws.{Reads, parts_exact}
use Rattle.s38_image.specs.Faults.{Group, ceiling_in, ceiling_page, first_fault_by, first_fault_of, first_under, group, group_has_number, group_is_on_disk, has_first_user, header_at, is_bad_header, sound, sound_by, store_fault}
use Rattle.s38_image.specs.PartPlaces.{ceiling_key, rows_part}
use Rattle.s38_image.specs.Fitting.{AreFine, AreWhole, IsImage}
use Rattle.s38_image.specs.Images.{leading, object_of_parts}
use Rattle.s38_image.specs.Pages.{bytes_of_page, needed, no_tags, numbered_pieces, page_pieces, stream, zero_filled}
use Rattle.s38_image.specs.Images as images
use Rattle.s38_image.specs.declared.header.Header.{Header}
use Rattle.s38_image.specs.declared.stored.Stored.{Stored}
use Rattle.s38_restart.specs.Parts.{AreParts, all_parts}
use Rattle.s38_vault.specs.Content.{Content}
use Rattle.s38_vault.specs.Keys.{key_cmp, key_cmp_total}
use Rattle.s38_laws_flush.specs.durable.Beginning.{cleaned, durable_in}
use Rattle.s38_laws_flush.proofs.durable.CleanedPageLaws.{same_key, number_same, own_parts, pages_of, at_key, cleaned_page}

-- ---- parts of one number are fine where all are

both_bytes : (xs ys : List ℕ) → AreBytes xs → AreBytes ys → AreBytes (xs ++ ys)
both_bytes xs ys hx hy i = elim (cases_lt i (length xs)) [
  | inl lt ↦ rw (get_or_append_left xs ys 0 i lt) (hx i)
  | inr le ↦ behind (i - length xs) (omega arith)
]
  where
    behind : (k : ℕ) → i ≡ length xs + k → get_or (xs ++ ys) i 0 < 256
    behind k at = rw (at, get_or-append-add xs ys k 0) (hy k)

fine_rest : (c : Change) (cs : List Change) → AreFine (c ∷ cs) → AreFine cs
unfolding AreWhole
fine_rest c cs fine = record { whole = fine.whole.1; bytes = AreBytes-after (bytes_of_page c.page) (stream cs) (stream (c ∷ cs)) refl fine.bytes }

fine_again : (c : Change) (cs ds : List Change) → AreFine (c ∷ cs) → AreFine ds → AreFine (c ∷ ds)
unfolding AreWhole
fine_again c cs ds fine rest = record {
  whole = (fine.whole.0, rest.whole);
  bytes = both_bytes (bytes_of_page c.page) (stream ds) (AreBytes-front (bytes_of_page c.page) (stream cs) (stream (c ∷ cs)) refl fine.bytes) rest.bytes;
}

fine_none : AreFine []
unfolding AreWhole
fine_none = record { whole = tt; bytes = λ i. omega arith }

fine_parts : (n : ℕ) (cs : List Change) → AreFine cs → AreFine (parts_of_number n cs)
fine_parts n [] fine = fine_none
fine_parts n (c ∷ cs) fine =
    let rest = fine_parts n cs (fine_rest c cs fine) in
    cond_both (is_part_of n c) (c ∷ parts_of_number n cs) (parts_of_number n cs) AreFine (λ own. fine_again c cs (parts_of_number n cs) fine rest) (λ other. rest)

fine_leading : (limit : ℕ) (cs : List Change) → AreFine cs → AreFine (leading limit cs)
fine_leading limit [] fine = fine_none
fine_leading limit (c ∷ cs) fine =
    cond_both (nat_lt c.key.part limit) (c ∷ leading limit cs) [] AreFine (λ low. fine_again c cs (leading limit cs) fine (fine_leading limit cs (fine_rest c cs fine))) (λ high. fine_none)

-- ---- what is read of a number

-- the group of a number has all its parts
group_parts : (parts : List Change) (hs : List Change) (n : ℕ) (g : Group) → group (map (group_of parts) hs) n ≡ Some g → (g.number ≡ n) × (g.parts ≡ parts_of_number n parts)
group_parts parts [] n g h = cc
group_parts parts (c ∷ hs) n g h = by (group_parts parts hs n g) (c.key.object == n) refl h
  where
    same : (a b : Group) → Some a ≡ Some b → a ≡ b
    same a b e = cc

    by : (group (map (group_of parts) hs) n ≡ Some g → (g.number ≡ n) × (g.parts ≡ parts_of_number n parts)) → (b : Bool) → (c.key.object == n) ≡ b
        → cond b (Some (group_of parts c)) (group (map (group_of parts) hs) n) ≡ Some g → (g.number ≡ n) × (g.parts ≡ parts_of_number n parts)
    by rest true is e =
        let at = number_same c.key.object n is in
        subst (λ (x : Group). (x.number ≡ n) × (x.parts ≡ parts_of_number n parts)) (same (group_of parts c) g e) (at, ap (λ (k : ℕ). parts_of_number k parts) at)
    by rest false is e = rest e

abbrev ok_stored : Stored → Result Stored ℕ
ok_stored s = Ok s

module _ (all : List Group) (limit ceiling : ℕ) where
  read_by : (g : Group) (o : Option Header) (r : Result Stored ℕ) (s : Stored) → sound_by all limit ceiling g o r ≡ Some s → r ≡ Ok s
  read_by g None r s e = absurd cc
  read_by g (Some h) (Err part) s e = absurd cc
  read_by g (Some h) (Ok t) s e = ap (λ (x : Stored). ok_stored x) (unless_some (is_bad_header all ceiling g.number h) t s e).1

  -- what is kept of a number is the object of its group
  abbrev IsRead : Option Group → Option Stored → Type 0
  IsRead None r = r ≡ None
  IsRead (Some g) r = (x : Stored) × ((r ≡ Some x) × (object_of_parts limit g.number g.parts ≡ Ok x))

  read_at : (gs : List Group) → AllByRecursion (IsWhole all limit ceiling) gs → (n : ℕ) → IsRead (group gs n) (kept (filter_map (sound all limit ceiling) gs) n)
  read_at [] ws n = refl
  read_at (g ∷ gs) ws n =
      let w = ws.0 in
      let first : kept (filter_map (sound all limit ceiling) (g ∷ gs)) n ≡ cond (w.stored.object.number.0 == n) (Some w.stored) (kept (filter_map (sound all limit ceiling) gs) n) = rw w.sound_is refl in
      subst (IsRead (cond (group_has_number n g) (Some g) (group gs n))) (sym (first ∙ ap (λ (k : ℕ). cond (k == n) (Some w.stored) (kept (filter_map (sound all limit ceiling) gs) n)) w.object.number))
      (by w (group_has_number n g) (read_at gs ws.1 n))
    where
      by : (w : IsWhole all limit ceiling g) (b : Bool) → IsRead (group gs n) (kept (filter_map (sound all limit ceiling) gs) n) → IsRead (cond b (Some g) (group gs n)) (cond b (Some w.stored) (kept (filter_map (sound all limit ceiling) gs) n))
      by w true rest = (w.stored, (refl, read_by g (header_at g) (object_of_parts limit g.number g.parts) w.stored w.sound_is))
      by w false rest = rest

-- ---- no fault

record HasNone (limit : ℕ) (gs : List Group) (ceiling : Option ℕ) : Type 0 where
  pub at : ℕ
  pub is : ceiling ≡ Some at
  pub none : first_fault_of gs limit at gs ≡ None

none_under : (gs : List Group) (limit ceiling : ℕ) → first_under gs limit ceiling ≡ None → first_fault_of gs limit ceiling gs ≡ None
none_under gs limit ceiling h = by (group_is_on_disk gs 1) (has_first_user gs) h
  where
    by : (a b : Bool) → cond (not a) (Some (1, 0)) (cond (not b) (Some (2, 0)) (first_fault_of gs limit ceiling gs)) ≡ None → first_fault_of gs limit ceiling gs ≡ None
    by true true h = h
    by true false h = absurd cc
    by false b h = absurd cc

none_by : (gs : List Group) (limit : ℕ) (ceiling : Option ℕ) → first_fault_by gs limit ceiling ≡ None → HasNone limit gs ceiling
none_by gs limit None h = absurd cc
none_by gs limit (Some n) h = record { at = n; is = refl; none = none_under gs limit n h }

none_of : (limit : ℕ) (parts : List Change) → first_fault limit parts ≡ None → HasNone limit (groups parts) (ceiling_in (parts_of_number ceiling_key parts))
unfolding store_fault
none_of limit parts none = none_by (groups parts) limit (ceiling_in (parts_of_number ceiling_key parts)) none

-- ---- the part of the ceiling

-- the ceiling is one part
record IsOne (cs : List Change) : Type 0 where
  pub page : Option Page
  pub is : cs ≡ record { key = record { object = ceiling_key; part = 0 }; page = page } ∷ []

one_piece : (bytes tags : List ℕ) → length bytes ≡ 512 → IsOne (numbered_pieces ceiling_key 0 (page_pieces (needed (length bytes)) (zero_filled (page_bytes * needed (length bytes)) bytes)) tags)
unfolding numbered_pieces page_pieces
one_piece bytes tags long = subst (λ (n : ℕ). IsOne (numbered_pieces ceiling_key 0 (page_pieces n (zero_filled (page_bytes * n) bytes)) tags)) (sym count) (by tags)
  where
    count : needed (length bytes) ≡ 1
    count = ap needed long

    by : (tags : List ℕ) → IsOne (numbered_pieces ceiling_key 0 (page_pieces 1 (zero_filled (page_bytes * 1) bytes)) tags)
    by [] = record { page = _; is = refl }
    by (t ∷ tags) = record { page = _; is = refl }

-- the first of some parts leads them
led : (xs : List Change) (c : Change) → leading 1 xs ≡ c ∷ [] → (rest : List Change) × (xs ≡ c ∷ rest)
led [] c h = cc
led (x ∷ xs) c h = by (nat_lt x.key.part 1) h
  where
    head : (a b : Change) (cs ds : List Change) → a ∷ cs ≡ b ∷ ds → a ≡ b
    head a b cs ds e = cc

    by : (b : Bool) → cond b (x ∷ leading 1 xs) [] ≡ c ∷ [] → (rest : List Change) × (x ∷ xs ≡ c ∷ rest)
    by true e = (xs, ap (λ (d : Change). d ∷ xs) (head x c (leading 1 xs) [] e))
    by false e = cc

module _ (m : Content) (are : AreParts (all_parts m)) (fault : first_fault body_limit (all_parts m) ≡ None) where
  abbrev parts : List Change
  parts = all_parts m

  abbrev gs : List Group
  gs = groups parts

  none : HasNone body_limit gs (ceiling_in (parts_of_number ceiling_key parts))
  none = none_of body_limit parts fault

  at : ceiling_of parts ≡ none.at
  at = ap (λ (o : Option ℕ). unwrap_or o 0) none.is

  whole : AllByRecursion (IsWhole gs body_limit (ceiling_of parts)) gs
  whole = all_whole gs body_limit (ceiling_of parts) gs (subst (λ (n : ℕ). first_fault_of gs body_limit n gs ≡ None) (sym at) none.none)

  -- ---- the ceiling

  ceiling_read : Reads ℕ ceiling_key 0 ceiling_page (no_tags ceiling_page) (λ n. ceiling_codec.fits n ≡ true) 512 (leading rows_part (parts_of_number ceiling_key parts)) none.at
  ceiling_read =
      let front = fine_leading rows_part (parts_of_number ceiling_key parts) (fine_parts ceiling_key parts are.fine) in
      parts_exact ceiling_key 0 ceiling_page (no_tags ceiling_page) (λ n. ceiling_codec.fits n ≡ true) ceiling_is 512 (leading rows_part (parts_of_number ceiling_key parts)) none.at front.whole front.bytes none.is

  ceiling_one : IsOne (ceiling_parts none.at)
  ceiling_one = one_piece (ceiling_page.print none.at) (no_tags ceiling_page none.at) ceiling_read.long

  abbrev first_key : Key
  first_key = record { object = ceiling_key; part = 0 }

  abbrev first_part : Change
  first_part = record { key = first_key; page = ceiling_one.page }

  ceiling_led : (rest : List Change) × (parts_of_number ceiling_key parts ≡ first_part ∷ rest)
  ceiling_led = led (parts_of_number ceiling_key parts) first_part (ceiling_read.printed ∙ ceiling_one.is)

  -- the page of the first part
  ceiling_here : (q : Key) → q.object ≡ ceiling_key → q.part ≡ 0 → wanted_at (ceiling_parts none.at) q ≡ get m q
  ceiling_here q own first =
      ap (λ (cs : List Change). wanted_at cs q) ceiling_one.is
      ∙ ap (λ b. cond b ceiling_one.page None) here
      ∙ sym (ap (λ b. cond b ceiling_one.page (wanted_at ceiling_led.0 q)) here)
      ∙ sym (ap (λ (cs : List Change). wanted_at cs q) ceiling_led.1)
      ∙ own_parts ceiling_key q parts own ∙ pages_of m q
    where
      same : q ≡ first_key
      same = λ i. record { object = own i; part = first i }

      itself : (k : Key) → eq_by_cmp key_cmp k k ≡ true
      itself k = ap is_eq (tied_itself key_cmp_total k)

      here : eq_by_cmp key_cmp q first_key ≡ true
      here = ap (λ (k : Key). eq_by_cmp key_cmp k first_key) same ∙ itself first_key

  -- there is no other
  ceiling_other : (q : Key) → (q.part == 0) ≡ false → wanted_at (ceiling_parts none.at) q ≡ None
  ceiling_other q off = ap (λ (cs : List Change). wanted_at cs q) ceiling_one.is ∙ ap (λ b. cond b ceiling_one.page None) (by (eq_by_cmp key_cmp q first_key) refl)
    where
      by : (b : Bool) → eq_by_cmp key_cmp q first_key ≡ b → b ≡ false
      by true is = absurd (let e : true ≡ false = sym (ap (λ (k : Key). k.part == 0) (same_key q first_key is)) ∙ off in cc)
      by false is = refl

  ceiling_page_of : (q : Key) → (q.object == ceiling_key) ≡ true → cond (is_stray gs (at_key q)) None (get m q) ≡ wanted_at (ceiling_parts (ceiling_of parts)) q
  ceiling_page_of q is =
      ap (λ b. cond (cond b (not (q.part == 0)) (not (group_is_on_disk gs q.object))) None (get m q)) is
      ∙ by (q.part == 0) refl ∙ ap (λ (n : ℕ). wanted_at (ceiling_parts n) q) (sym at)
    where
      by : (b : Bool) → (q.part == 0) ≡ b → cond (not b) None (get m q) ≡ wanted_at (ceiling_parts none.at) q
      by true first = sym (ceiling_here q (number_same q.object ceiling_key is) (number_same q.part 0 first))
      by false off = sym (ceiling_other q off)

  -- ---- objects

  -- what is read of a number has all its parts, and is an image
  record IsKeptPart (n : ℕ) (x : Stored) : Type 0 where
    pub parts : images.image_parts x ≡ parts_of_number n parts
    pub image : IsImage body_limit x

  read_part : (n : ℕ) (g : Group) (x : Stored) → group gs n ≡ Some g → object_of_parts body_limit g.number g.parts ≡ Ok x → IsKeptPart n x
  read_part n g x found read =
      let own = group_parts parts (filter is_header parts) n g found in
      let fine = subst AreFine (sym own.1) (fine_parts n parts are.fine) in
      let exact = object_exact body_limit g.number g.parts x fine read in
      record { parts = sym exact.0 ∙ own.1; image = exact.2 }

  object_page_of : (q : Key) → (q.object == ceiling_key) ≡ false → cond (is_stray gs (at_key q)) None (get m q) ≡ wanted_at (parts_in (kept (objects_stored_in body_limit parts) q.object)) q
  object_page_of q off =
      ap (λ b. cond (cond b (not (q.part == 0)) (not (group_is_on_disk gs q.object))) None (get m q)) off
      ∙ ap (λ b. cond (not b) None (get m q)) (sym (some_group q.object gs))
      ∙ by (group gs q.object) refl (read_at gs body_limit (ceiling_of parts) gs whole q.object)
    where
      by : (r : Option Group) → group gs q.object ≡ r → IsRead gs body_limit (ceiling_of parts) r (kept (objects_stored_in body_limit parts) q.object)
          → cond (not (is_some r)) None (get m q) ≡ wanted_at (parts_in (kept (objects_stored_in body_limit parts) q.object)) q
      by None there read = sym (ap (λ (r : Option Stored). wanted_at (parts_in r) q) read)
      by (Some g) there read =
          sym (ap (λ (r : Option Stored). wanted_at (parts_in r) q) read.1.0 ∙ ap (λ (cs : List Change). wanted_at cs q) (read_part q.object g read.0 there read.1.1).parts
          ∙ own_parts q.object q parts refl ∙ pages_of m q)

  -- ---- the whole content

  pub page_cleaned : (q : Key) → get (cleaned m) q ≡ page_of (durable_in m) q
  page_cleaned q = cleaned_page m q ∙ by (q.object == ceiling_key) refl
    where
      by : (b : Bool) → (q.object == ceiling_key) ≡ b → cond (is_stray gs (at_key q)) None (get m q) ≡ wanted_at (cond b (ceiling_parts (ceiling_of parts)) (parts_in (kept (objects_stored_in body_limit parts) q.object))) q
      by true is = ceiling_page_of q is
      by false off = object_page_of q off

  pub cleaned_represents : Represents (cleaned m) (durable_in m)
  cleaned_represents = record { each = λ q low. page_cleaned q }

  -- each image can be read again
  pub read_images : (n : ℕ) (x : Stored) → kept (durable_in m).objects n ≡ Some x → IsImage body_limit x
  read_images n x found = by (group gs n) refl (read_at gs body_limit (ceiling_of parts) gs whole n)
    where
      same : (a b : Stored) → Some a ≡ Some b → a ≡ b
      same a b e = cc

      by : (r : Option Group) → group gs n ≡ r → IsRead gs body_limit (ceiling_of parts) r (kept (objects_stored_in body_limit parts) n) → IsImage body_limit x
      by None there read = absurd (let e : None ≡ Some x = sym read ∙ found in cc)
      by (Some g) there read = subst (IsImage body_limit) (same read.0 x (sym read.1.0 ∙ found)) (read_part n g read.0 there read.1.1).image
