-- What is true of each object that a store without a fault holds.
use Rattle.std.proofs.Common.{◌≡◌, ℕ, ◌+◌, ◌<◌, ◌≤◌, Bool, true, false, cond, not, List, [], ◌∷◌, ◌++◌, map, refl, sym, ap, subst, ◌∙◌, arith, inl, inr, length, get_or}
use Rattle.std.proofs.lemmas.Bool.{cases_lt, cond_both, eqb-true}
use Rattle.std.proofs.lemmas.Bool.Decides.{nat_tests}
use Rattle.std.proofs.lemmas.List.{get_or-append-add, get_or_append_left}
use Rattle.std.specs.Prelude.{◌||◌, ◌-◌, Option, Some, None, Result, Ok, Err, filter, filter_map, nat_lt}
use Rattle.std.specs.List.{AllByRecursion}
use Rattle.std.specs.Option.{option_and_then, unwrap_or}
use Rattle.s38_base.specs.declared.id.Kind.TheVariants as kinds
use Rattle.s38_base.specs.declared.page.Change.{Change}
use Rattle.s38_codec.proofs.CodecLaws.{AreBytes-after, AreBytes-front, unless_some}
use Rattle.s38_codec.specs.Codec.{AreBytes}
use Rattle.s38_restart.proofs.catalog.LawfulLaws.{IsWhole, all_whole}
use Rattle.s38_restart.specs.catalog.Groups.{group_of, groups, is_header, is_part_of, parts_of_number}
use Rattle.s38_restart.specs.catalog.Stores.{ceiling_of, first_fault, objects_stored_in}
use Rattle.s38_image.proofs.ImageLaws.{fault_ok, object_exact, then_ok}
use Rattle.s38_image.specs.Bodies.{BodyImage}
use Rattle.s38_image.specs.Faults.{Group, ceiling_in, first_fault_by, first_fault_of, first_under, group, group_has_number, group_is_on_disk, has_first_user, header_at, header_is_of_kind, header_of_group, is_bad_header, sound, sound_by, store_fault}
use Rattle.s38_image.specs.PartPlaces.{body_part, ceiling_key, rows_part}
use Rattle.s38_image.specs.Fitting.{AreFine, AreWhole, IsImage}
use Rattle.s38_image.specs.Headers.{header_is_within}
use Rattle.s38_image.specs.Images.{after_leading, body_in, first_missing, header_in_parts, leading, limited, made, object_of_parts, or_fault, rows_in_parts, wanted_parts, with_all_pages, with_body, with_row_parts, ◌>>>◌}
use Rattle.s38_image.specs.Pages.{bytes_of_page, stream}
use Rattle.s38_image.specs.declared.header.Header.{Header}
use Rattle.s38_image.specs.declared.stored.Stored.{Stored}
use Rattle.s38_restart.specs.Parts.{AreParts}
use Rattle.s38_rules.specs.declared.rows.PrivateRow.{PrivateRow}
use Rattle.s38_base.specs.declared.id.ObjNum.{ObjNum}
use Rattle.s38_vault.specs.Content.{HaveObjects}

-- ---- the parts of a number are fine where all parts are

both_bytes : (xs ys : List ℕ) → AreBytes xs → AreBytes ys → AreBytes (xs ++ ys)
both_bytes xs ys hx hy i = elim (cases_lt i (length xs)) [
  | inl lt ↦ rw (get_or_append_left xs ys 0 i lt) (hx i)
  | inr le ↦ behind (i - length xs) (omega arith)
]
  where
    behind : (k : ℕ) → i ≡ length xs + k → get_or (xs ++ ys) i 0 < 256
    behind k at = rw (at, get_or-append-add xs ys k 0) (hy k)

fine_rest : (c : Change) (cs : List Change) → AreFine (c ∷ cs) → AreFine cs
unfolding AreWhole
fine_rest c cs fine = record { whole = fine.whole.1; bytes = AreBytes-after (bytes_of_page c.page) (stream cs) (stream (c ∷ cs)) refl fine.bytes }

fine_again : (c : Change) (cs ds : List Change) → AreFine (c ∷ cs) → AreFine ds → AreFine (c ∷ ds)
unfolding AreWhole
fine_again c cs ds fine rest = record {
  whole = (fine.whole.0, rest.whole);
  bytes = both_bytes (bytes_of_page c.page) (stream ds) (AreBytes-front (bytes_of_page c.page) (stream cs) (stream (c ∷ cs)) refl fine.bytes) rest.bytes;
}

fine_none : AreFine []
unfolding AreWhole
fine_none = record { whole = tt; bytes = λ i. omega arith }

pub fine_parts : (n : ℕ) (cs : List Change) → AreFine cs → AreFine (parts_of_number n cs)
fine_parts n [] fine = fine_none
fine_parts n (c ∷ cs) fine =
    let rest = fine_parts n cs (fine_rest c cs fine) in
    cond_both (is_part_of n c) (c ∷ parts_of_number n cs) (parts_of_number n cs) AreFine (λ own. fine_again c cs (parts_of_number n cs) fine rest) (λ other. rest)

pub fine_leading : (limit : ℕ) (cs : List Change) → AreFine cs → AreFine (leading limit cs)
fine_leading limit [] fine = fine_none
fine_leading limit (c ∷ cs) fine =
    cond_both (nat_lt c.key.part limit) (c ∷ leading limit cs) [] AreFine (λ low. fine_again c cs (leading limit cs) fine (fine_leading limit cs (fine_rest c cs fine))) (λ high. fine_none)

-- ---- groups of such parts

-- a group's parts are fine, and its number is one that an object may have
pub record IsGiven (g : Group) : Type 0 where
  pub fine : AreFine g.parts
  pub number : 1 ≤ g.number

given_groups : (parts : List Change) → AreFine parts → (cs : List Change) → HaveObjects cs → AllByRecursion IsGiven (map (group_of parts) (filter is_header cs))
given_groups parts fine [] have = tt
given_groups parts fine (c ∷ cs) have =
    let rest = given_groups parts fine cs have.1 in
    cond_both (is_header c) (c ∷ filter is_header cs) (filter is_header cs) (λ hs. AllByRecursion IsGiven (map (group_of parts) hs))
    (λ own. (record { fine = fine_parts c.key.object parts fine; number = have.0 }, rest))
    (λ other. rest)

pub groups_given : (parts : List Change) → AreFine parts → HaveObjects parts → AllByRecursion IsGiven (groups parts)
groups_given parts fine have = given_groups parts fine parts have

-- ---- an object is made of its header

-- an object is what a header, rows and a body make
pub record IsMade (n : ℕ) (h : Header) (s : Stored) : Type 0 where
  pub rows : List PrivateRow
  pub image : BodyImage
  pub is : s ≡ made n h rows image

abbrev ok_header : Header → Result Header ℕ
ok_header h = Ok h

abbrev ok_stored : Stored → Result Stored ℕ
ok_stored s = Ok s

same_stored : (s t : Stored) → ok_stored s ≡ ok_stored t → s ≡ t
same_stored s t e = cc

same_header : (g h : Header) → Some g ≡ Some h → g ≡ h
same_header g h e = cc

limited_by : (b : Bool) (g h : Header) → cond b (ok_header g) (Err 0) ≡ ok_header h → g ≡ h
limited_by true g h e = cc
limited_by false g h e = absurd cc

pub object_made : (limit n : ℕ) (parts : List Change) (k : Header) (s : Stored) → header_in_parts n (leading rows_part parts) ≡ Some k → object_of_parts limit n parts ≡ Ok s → IsMade n k s
unfolding object_of_parts
object_made limit n parts k s head read =
    let later = after_leading rows_part parts in
    let a = then_ok (or_fault 0 (header_in_parts n (leading rows_part parts)) >>> limited limit) (λ x. with_all_pages n parts x later) s read in
    let b = then_ok (or_fault 0 (header_in_parts n (leading rows_part parts))) (limited limit) a.0 a.1 in
    let same : a.0 ≡ k = sym (limited_by (header_is_within limit b.0) b.0 a.0 b.2) ∙ same_header b.0 k (sym (fault_ok 0 (header_in_parts n (leading rows_part parts)) b.0 b.1) ∙ head) in
    let d = then_ok (first_missing n parts (wanted_parts a.0)) (λ _. with_row_parts n a.0 (leading body_part later) (after_leading body_part later)) s a.2 in
    let e = then_ok (or_fault rows_part (rows_in_parts n a.0.rows (leading body_part later))) (λ rs. with_body n a.0 rs (after_leading body_part later)) s d.2 in
    let f = then_ok (or_fault body_part (body_in n a.0.id.kind a.0.body (after_leading body_part later))) (λ i. Ok (made n a.0 e.0 i)) s e.2 in
    record { rows = e.0; image = f.0; is = subst (λ (x : Header). s ≡ made n x e.0 f.0) same (sym (same_stored (made n a.0 e.0 f.0) s f.2)) }

-- ---- the objects of a store

pub or_left : (a b : Bool) → (a || b) ≡ false → a ≡ false
or_left true b h = absurd (cc)
or_left false b h = refl

pub or_right : (a b : Bool) → (a || b) ≡ false → b ≡ false
or_right true b h = absurd (cc)
or_right false b h = h

true_of : (b : Bool) → not b ≡ false → b ≡ true
true_of true h = refl
true_of false h = absurd (cc)

pub at_most : (a b : ℕ) → nat_lt a b ≡ false → b < a + 1
at_most a b h = grind (arith, nat_tests)

-- an object of a store with this ceiling of numbers
pub record IsKept (limit ceiling : ℕ) (s : Stored) : Type 0 where
  pub image : IsImage limit s
  pub number : 1 ≤ s.object.number.0
  pub owner : s.object.owner.0 < ceiling + 1

module _ (all : List Group) (limit ceiling : ℕ) where
  low_number : (n : ℕ) (h : Header) → is_bad_header all ceiling n h ≡ false → n < ceiling + 1
  low_number n h good = at_most ceiling n (or_left (nat_lt ceiling n) _ (or_left (nat_lt ceiling n || not (header_is_of_kind kinds.Profile (header_of_group all h.owner.0))) _ good))

  pub owner_there : (n : ℕ) (h : Header) → is_bad_header all ceiling n h ≡ false → header_is_of_kind kinds.Profile (header_of_group all h.owner.0) ≡ true
  owner_there n h good = true_of _ (or_right (nat_lt ceiling n) _ (or_left (nat_lt ceiling n || not (header_is_of_kind kinds.Profile (header_of_group all h.owner.0))) _ good))

  -- a number with a header is at most the ceiling
  low_header : (n : ℕ) (gs : List Group) → AllByRecursion (IsWhole all limit ceiling) gs → header_is_of_kind kinds.Profile (header_of_group gs n) ≡ true → n < ceiling + 1
  low_header n [] ws there = absurd cc
  low_header n (g ∷ gs) ws there =
      let w = ws.0 in
      let rest = low_header n gs ws.1 in
      elim (group_has_number n g) as (λ b. group_has_number n g ≡ b → header_is_of_kind kinds.Profile (option_and_then header_at (cond b (Some g) (group gs n))) ≡ true → n < ceiling + 1) [
        | true ↦ λ own q. subst (λ (m : ℕ). m < ceiling + 1) (eqb-true g.number n own) (low_number g.number w.head w.good)
        | false ↦ λ own q. rest q
      ] refl there

  pub read_by : (n : ℕ) (g : Group) (o : Option Header) (r : Result Stored ℕ) (s : Stored) → sound_by all limit ceiling g o r ≡ Some s → r ≡ Ok s
  read_by n g None r s e = absurd cc
  read_by n g (Some h) (Err part) s e = absurd cc
  read_by n g (Some h) (Ok t) s e = ap ok_stored (unless_some (is_bad_header all ceiling g.number h) t s e).1

  pub one_kept : AllByRecursion (IsWhole all limit ceiling) all → (g : Group) (w : IsWhole all limit ceiling g) → IsGiven g → IsKept limit ceiling w.stored
  one_kept ws g w given =
      let read : object_of_parts limit g.number g.parts ≡ Ok w.stored = read_by g.number g (header_at g) (object_of_parts limit g.number g.parts) w.stored w.sound_is in
      let exact = object_exact limit g.number g.parts w.stored given.fine read in
      let made_is = object_made limit g.number g.parts w.head w.stored w.header_is read in
      let owner : w.stored.object.owner ≡ w.head.owner = ap (λ (t : Stored). t.object.owner) made_is.is in
      record {
        image = exact.2;
        number = subst (λ (m : ℕ). 1 ≤ m) (sym exact.1) given.number;
        owner = subst (λ (u : ObjNum). u.0 < ceiling + 1) (sym owner) (low_header w.head.owner.0 all ws (owner_there g.number w.head w.good));
      }

  kept_in : AllByRecursion (IsWhole all limit ceiling) all → (gs : List Group) → AllByRecursion (IsWhole all limit ceiling) gs → AllByRecursion IsGiven gs → AllByRecursion (IsKept limit ceiling) (filter_map (sound all limit ceiling) gs)
  kept_in every [] ws given = tt
  kept_in every (g ∷ gs) ws given =
      let w = ws.0 in
      rw w.sound_is (one_kept every g w given.0, kept_in every gs ws.1 given.1)

-- all objects of groups without a fault
pub all_kept : (all : List Group) (limit ceiling : ℕ) → AllByRecursion (IsWhole all limit ceiling) all → AllByRecursion IsGiven all → AllByRecursion (IsKept limit ceiling) (filter_map (sound all limit ceiling) all)
all_kept all limit ceiling ws given = kept_in all limit ceiling ws all ws given

-- ---- parts without a fault

pub record HasNone (limit : ℕ) (gs : List Group) (ceiling : Option ℕ) : Type 0 where
  pub at : ℕ
  pub is : ceiling ≡ Some at
  pub none : first_fault_of gs limit at gs ≡ None

none_under : (gs : List Group) (limit ceiling : ℕ) → first_under gs limit ceiling ≡ None → first_fault_of gs limit ceiling gs ≡ None
none_under gs limit ceiling h = by (group_is_on_disk gs 1) (has_first_user gs) h
  where
    by : (a b : Bool) → cond (not a) (Some (1, 0)) (cond (not b) (Some (2, 0)) (first_fault_of gs limit ceiling gs)) ≡ None → first_fault_of gs limit ceiling gs ≡ None
    by true true h = h
    by true false h = absurd cc
    by false b h = absurd cc

none_by : (gs : List Group) (limit : ℕ) (ceiling : Option ℕ) → first_fault_by gs limit ceiling ≡ None → HasNone limit gs ceiling
none_by gs limit None h = absurd cc
none_by gs limit (Some n) h = record { at = n; is = refl; none = none_under gs limit n h }

pub none_of : (limit : ℕ) (parts : List Change) → first_fault limit parts ≡ None → HasNone limit (groups parts) (ceiling_in (parts_of_number ceiling_key parts))
unfolding store_fault
none_of limit parts none = none_by (groups parts) limit (ceiling_in (parts_of_number ceiling_key parts)) none

-- the objects that they hold
pub stored_kept : (limit : ℕ) (parts : List Change) → AreParts parts → first_fault limit parts ≡ None → AllByRecursion (IsKept limit (ceiling_of parts)) (objects_stored_in limit parts)
stored_kept limit parts are fault =
    let gs = groups parts in
    let ceiling = ceiling_of parts in
    let found = none_of limit parts fault in
    let at : ceiling ≡ found.at = ap (λ (o : Option ℕ). unwrap_or o 0) found.is in
    let none : first_fault_of gs limit ceiling gs ≡ None = subst (λ (n : ℕ). first_fault_of gs limit n gs ≡ None) (sym at) found.none in
    all_kept gs limit ceiling (all_whole gs limit ceiling gs none) (groups_given parts are.fine are.objects)
