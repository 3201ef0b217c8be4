-- Where no group has a fault, the objects that the groups hold are lawful.
use Rattle.std.proofs.Common.{◌≡◌, ℕ, ◌+◌, ◌<◌, ◌==◌, All, Bool, true, false, cond, not, List, [], ◌∷◌, ◌++◌, map, refl, sym, ap, subst, ◌∙◌, append_assoc, arith}
use Rattle.std.proofs.lemmas.Bool.Decides.{nat_tests}
use Rattle.std.proofs.lemmas.List.Elements.{All-cons, All-nil}
use Rattle.std.proofs.lemmas.Map.Keys.{sorted_from_strictly_increasing, sorted_head, sorted_tail}
use Rattle.std.specs.Prelude.{◌&&◌, ◌||◌, Option, Some, None, Result, Ok, Err, filter_map, is_some, nat_lt}
use Rattle.std.specs.List.{AllByRecursion, list_any}
use Rattle.std.specs.List.Sorted.{IsStrictlyIncreasing, IsStrictlySortedBy}
use Rattle.std.specs.Ordering.{nat_cmp}
use Rattle.std.specs.declared.cmp.Ordering.TheVariants.{Less}
use Rattle.s38_base.specs.declared.id.Id.{Id}
use Rattle.s38_base.specs.declared.id.ObjNum.{ObjNum}
use Rattle.s38_base.specs.Ids.{same_id}
use Rattle.s38_base.specs.declared.id.Kind.TheVariants as kinds
use Rattle.s38_base.specs.declared.page.Change.{Change}
use Rattle.s38_image.specs.Faults.{Group, fault_after, fault_by, fault_of, first_fault_of, group_is_on_disk, has_same, header_at, header_is_of_kind, header_of_group, is_bad_header, is_no_context, is_outside, is_same_in, is_twice, or_next, sound, sound_by}
use Rattle.s38_image.specs.Bodies.{BodyImage}
use Rattle.s38_image.specs.Headers.{header_is_within}
use Rattle.s38_image.specs.Images.{after_leading, body_in, first_missing, header_in_parts, leading, limited, made, object_of_parts, or_fault, rows_in_parts, wanted_parts, with_all_pages, with_body, with_row_parts, ◌>>>◌}
use Rattle.s38_image.specs.PartPlaces.{body_part, rows_part}
use Rattle.s38_image.specs.declared.header.Header.{Header}
use Rattle.s38_image.specs.declared.stored.Stored.{Stored}
use Rattle.s38_image.proofs.ImageLaws.{fault_ok, then_ok}
use Rattle.s38_objects.specs.Lawful.{AreApart, IsObjectMap, number_of as object_number}
use Rattle.s38_objects.proofs.NameLaws.{named_other_way}
use Rattle.s38_rules.specs.declared.object.Object.{Object}
use Rattle.s38_rules.specs.declared.rows.PrivateRow.{PrivateRow}
use Rattle.s38_rules.specs.state.Held.{found_in, has_number, is_in_context, is_named, object_in}
use Rattle.s38_restart.specs.catalog.Runs.{number_of}
use Rattle.s38_restart.specs.catalog.Stores.{FormObjectMap}
use Rattle.s38_restart.specs.catalog.Readings.{all_sound, object_in_stored}

-- ---- tests

or_left : (a b : Bool) → (a || b) ≡ false → a ≡ false
or_left true b h = absurd (cc)
or_left false b h = refl

or_right : (a b : Bool) → (a || b) ≡ false → b ≡ false
or_right true b h = absurd (cc)
or_right false b h = h

and_left : (a b : Bool) → (a && b) ≡ true → a ≡ true
and_left true b h = refl
and_left false b h = h

and_right : (a b : Bool) → (a && b) ≡ true → b ≡ true
and_right true b h = h
and_right false b h = absurd (cc)

both : (a b : Bool) → a ≡ true → b ≡ true → (a && b) ≡ true
both a b h k = rw (h, k) refl

never_both : (b : Bool) → b ≡ true → b ≡ false → ⊥
never_both b h g = cc

at_most : (a b : ℕ) → nat_lt a b ≡ false → b < a + 1
at_most a b h = grind (arith, nat_tests)

is_less : (a b : ℕ) → nat_cmp a b ≡ Less → nat_lt a b ≡ true
is_less a b h = grind (arith, nat_tests)

same_number : (a b : ℕ) → (a == b) ≡ true → a ≡ b
same_number a b h = grind (arith, nat_tests)

-- ---- one group

-- an object says what its header says, and is on disk
pub record IsHeaded (n : ℕ) (h : Header) (o : Object) : Type 0 where
  pub number : o.number.0 ≡ n
  pub context : o.context ≡ h.context
  pub id : o.id ≡ h.id
  pub on_disk : o.on_disk ≡ true

-- a group without fault
pub record IsWhole (all : List Group) (limit ceiling : ℕ) (g : Group) : Type 0 where
  pub head : Header
  pub stored : Stored
  pub header_is : header_at g ≡ Some head
  pub good : is_bad_header all ceiling g.number head ≡ false
  pub sound_is : sound all limit ceiling g ≡ Some stored
  pub object : IsHeaded g.number head stored.object

abbrev ok_header : Header → Result Header ℕ
ok_header h = Ok h

abbrev ok_stored : Stored → Result Stored ℕ
ok_stored s = Ok s

same_stored : (s t : Stored) → ok_stored s ≡ ok_stored t → s ≡ t
same_stored s t e = cc

limited_by : (b : Bool) (g h : Header) → cond b (ok_header g) (Err 0) ≡ ok_header h → g ≡ h
limited_by true g h e = cc
limited_by false g h e = absurd cc

same_some : (g h : Header) → Some g ≡ Some h → g ≡ h
same_some g h e = cc

made_headed : (n : ℕ) (h k : Header) (rs : List PrivateRow) (i : BodyImage) (s : Stored) → h ≡ k → ok_stored (made n h rs i) ≡ ok_stored s → IsHeaded n k s.object
made_headed n h k rs i s same is =
    let own : IsHeaded n h (made n h rs i).object = record { number = refl; context = refl; id = refl; on_disk = refl } in
    subst (λ (x : Stored). IsHeaded n k x.object) (same_stored (made n h rs i) s is) (subst (λ (x : Header). IsHeaded n x (made n h rs i).object) same own)

pub object_headed : (limit n : ℕ) (parts : List Change) (k : Header) (s : Stored) → header_in_parts n (leading rows_part parts) ≡ Some k → object_of_parts limit n parts ≡ Ok s → IsHeaded n k s.object
unfolding object_of_parts
object_headed limit n parts k s head read =
    let later = after_leading rows_part parts in
    let a = then_ok (or_fault 0 (header_in_parts n (leading rows_part parts)) >>> limited limit) (λ x. with_all_pages n parts x later) s read in
    let b = then_ok (or_fault 0 (header_in_parts n (leading rows_part parts))) (limited limit) a.0 a.1 in
    let same : a.0 ≡ k = sym (limited_by (header_is_within limit b.0) b.0 a.0 b.2) ∙ same_some b.0 k (sym (fault_ok 0 (header_in_parts n (leading rows_part parts)) b.0 b.1) ∙ head) in
    let d = then_ok (first_missing n parts (wanted_parts a.0)) (λ _. with_row_parts n a.0 (leading body_part later) (after_leading body_part later)) s a.2 in
    let e = then_ok (or_fault rows_part (rows_in_parts n a.0.rows (leading body_part later))) (λ rs. with_body n a.0 rs (after_leading body_part later)) s d.2 in
    let f = then_ok (or_fault body_part (body_in n a.0.id.kind a.0.body (after_leading body_part later))) (λ i. Ok (made n a.0 e.0 i)) s e.2 in
    made_headed n a.0 k e.0 f.0 s same f.2

module _ (all : List Group) (limit ceiling : ℕ) where
  by_read : (g : Group) (h : Header) (r : Result Stored ℕ) → header_at g ≡ Some h → is_bad_header all ceiling g.number h ≡ false → object_of_parts limit g.number g.parts ≡ r → fault_after all limit ceiling r ≡ None → IsWhole all limit ceiling g
  by_read g h (Err part) e q is none = absurd (cc)
  by_read g h (Ok s) e q is none = record {
    head = h;
    stored = s;
    header_is = e;
    good = q;
    sound_is = ap (λ (o : Option Header). sound_by all limit ceiling g o (object_of_parts limit g.number g.parts)) e ∙ ap (λ (r : Result Stored ℕ). sound_by all limit ceiling g (Some h) r) is ∙ ap (λ (b : Bool). cond b None (Some s)) q;
    object = object_headed limit g.number g.parts h s e is;
  }

  by_test : (g : Group) (h : Header) (b : Bool) → header_at g ≡ Some h → is_bad_header all ceiling g.number h ≡ b → cond b (Some 0) (fault_after all limit ceiling (object_of_parts limit g.number g.parts)) ≡ None → IsWhole all limit ceiling g
  by_test g h true e q none = absurd (cc)
  by_test g h false e q none = by_read g h (object_of_parts limit g.number g.parts) e q refl none

  by_header : (g : Group) (h : Option Header) → header_at g ≡ h → fault_by all limit ceiling g h ≡ None → IsWhole all limit ceiling g
  by_header g None e none = absurd (cc)
  by_header g (Some h) e none = by_test g h (is_bad_header all ceiling g.number h) e refl none

  whole : (g : Group) → fault_of all limit ceiling g ≡ None → IsWhole all limit ceiling g
  whole g none = by_header g (header_at g) refl none

  first_none : (n : ℕ) (o : Option ℕ) (next : Option (ℕ × ℕ)) → or_next n o next ≡ None → o ≡ None
  first_none n None next h = refl
  first_none n (Some part) next h = absurd (cc)

  rest_none : (n : ℕ) (o : Option ℕ) (next : Option (ℕ × ℕ)) → or_next n o next ≡ None → next ≡ None
  rest_none n None next h = h
  rest_none n (Some part) next h = absurd (cc)

  pub all_whole : (gs : List Group) → first_fault_of all limit ceiling gs ≡ None → AllByRecursion (IsWhole all limit ceiling) gs
  all_whole [] none = tt
  all_whole (g ∷ gs) none = (
    whole g (first_none g.number (fault_of all limit ceiling g) (first_fault_of all limit ceiling gs) none),
    all_whole gs (rest_none g.number (fault_of all limit ceiling g) (first_fault_of all limit ceiling gs) none),
  )

  -- ---- all objects

  abbrev objects_in : List Group → List Object
  objects_in gs = map object_in_stored (filter_map (sound all limit ceiling) gs)

  objects_more : (g : Group) (gs : List Group) (w : IsWhole all limit ceiling g) → objects_in (g ∷ gs) ≡ w.stored.object ∷ objects_in gs
  objects_more g gs w = rw w.sound_is refl

  numbers_in : (gs : List Group) → AllByRecursion (IsWhole all limit ceiling) gs → map object_number (objects_in gs) ≡ map number_of gs
  numbers_in [] ws = refl
  numbers_in (g ∷ gs) ws = rw (objects_more g gs ws.0, ws.0.object.number, numbers_in gs ws.1) refl

  low_number : (n : ℕ) (h : Header) → is_bad_header all ceiling n h ≡ false → n < ceiling + 1
  low_number n h good = at_most ceiling n (or_left (nat_lt ceiling n) _ (or_left (nat_lt ceiling n || not (header_is_of_kind kinds.Profile (header_of_group all h.owner.0))) _ good))

  beside : (n : ℕ) (h : Header) → is_bad_header all ceiling n h ≡ false → (is_twice all n h || (is_outside h || is_no_context all ceiling h)) ≡ false
  beside n h good = or_right (nat_lt ceiling n || not (header_is_of_kind kinds.Profile (header_of_group all h.owner.0))) _ good

  not_twice : (n : ℕ) (h : Header) → is_bad_header all ceiling n h ≡ false → is_twice all n h ≡ false
  not_twice n h good = or_left (is_twice all n h) _ (beside n h good)

  low_context : (n : ℕ) (h : Header) → is_bad_header all ceiling n h ≡ false → h.context.0 < ceiling + 1
  low_context n h good =
      at_most ceiling h.context.0 (or_left (nat_lt ceiling h.context.0) _ (or_right (is_outside h) _ (or_right (is_twice all n h) _ (beside n h good))))

  given_in : (gs : List Group) → AllByRecursion (IsWhole all limit ceiling) gs → All (λ o. object_number o < ceiling + 1) (objects_in gs)
  given_in [] ws = All-nil (λ o. object_number o < ceiling + 1)
  given_in (g ∷ gs) ws =
      let w = ws.0 in
      let low : object_number w.stored.object < ceiling + 1 = omega (arith, low_number g.number w.head w.good, w.object.number) in
      rw (objects_more g gs w) (All-cons (λ o. object_number o < ceiling + 1) w.stored.object (objects_in gs) low (given_in gs ws.1))

  pub placed_in : (gs : List Group) → AllByRecursion (IsWhole all limit ceiling) gs → All (λ o. o.context.0 < ceiling + 1) (objects_in gs)
  placed_in [] ws = All-nil (λ o. o.context.0 < ceiling + 1)
  placed_in (g ∷ gs) ws =
      let w = ws.0 in
      let low : w.stored.object.context.0 < ceiling + 1 = subst (λ (c : ObjNum). c.0 < ceiling + 1) (sym w.object.context) (low_context g.number w.head w.good) in
      rw (objects_more g gs w) (All-cons (λ o. o.context.0 < ceiling + 1) w.stored.object (objects_in gs) low (placed_in gs ws.1))

  pub on_disk_in : (gs : List Group) → AllByRecursion (IsWhole all limit ceiling) gs → All (λ o. o.on_disk ≡ true) (objects_in gs)
  on_disk_in [] ws = All-nil (λ o. o.on_disk ≡ true)
  on_disk_in (g ∷ gs) ws =
      let w = ws.0 in
      rw (objects_more g gs w) (All-cons (λ o. o.on_disk ≡ true) w.stored.object (objects_in gs) w.object.on_disk (on_disk_in gs ws.1))

  there_in : (k : ℕ) (gs : List Group) → AllByRecursion (IsWhole all limit ceiling) gs → is_some (object_in (objects_in gs) k) ≡ group_is_on_disk gs k
  there_in k [] ws = refl
  there_in k (g ∷ gs) ws =
      let w = ws.0 in
      let rest = there_in k gs ws.1 in
      let here : is_some (object_in (w.stored.object ∷ objects_in gs) k) ≡ (has_number k w.stored.object || group_is_on_disk gs k) = by w.stored.object (has_number k w.stored.object) (object_in (objects_in gs) k) (group_is_on_disk gs k) rest in
      ap (λ (os : List Object). is_some (object_in os k)) (objects_more g gs w) ∙ here ∙ ap (λ (n : ℕ). (n == k) || group_is_on_disk gs k) w.object.number
    where
      by : (o : Object) (b : Bool) (r : Option Object) (t : Bool) → is_some r ≡ t → is_some (cond b (Some o) r) ≡ (b || t)
      by o true r t e = refl
      by o false r t e = e

  -- ---- names

  -- a group with the identification of a later one in one context, which is on disk, is its fault
  twice : (g x : Group) (h k : Header) (o p : Object) → ((q : Group → Bool) → q g ≡ true → list_any q all ≡ true) → header_at g ≡ Some h → IsHeaded g.number h o → IsHeaded x.number k p → nat_cmp g.number x.number ≡ Less →
      group_is_on_disk all o.context.0 ≡ true → is_named o.context.0 o.id p ≡ true → is_twice all x.number k ≡ true
  twice g x h k o p member head own other less there named =
      let back : is_named p.context.0 p.id o ≡ true = named_other_way p o named in
      let inside : (o.context.0 == p.context.0) ≡ true = and_right (not (p.context.0 == 0)) (o.context.0 == p.context.0) (and_left (is_in_context p.context.0 o) (same_id o.id p.id) back) in
      let alike : same_id o.id p.id ≡ true = and_right (is_in_context p.context.0 o) (same_id o.id p.id) back in
      let contexts : (h.context.0 == k.context.0) ≡ true = subst (λ (c : ObjNum). (c.0 == k.context.0) ≡ true) own.context (subst (λ (c : ObjNum). (o.context.0 == c.0) ≡ true) other.context inside) in
      let ids : same_id h.id k.id ≡ true = subst (λ (i : Id). same_id i k.id ≡ true) own.id (subst (λ (i : Id). same_id o.id i ≡ true) other.id alike) in
      let same : has_same k (header_at g) ≡ true = ap (has_same k) head ∙ both (h.context.0 == k.context.0) (same_id h.id k.id) contexts ids in
      let any : list_any (is_same_in x.number k) all ≡ true = member (is_same_in x.number k) (both (nat_lt g.number x.number) (has_same k (header_at g)) (is_less g.number x.number less) same) in
      let where_is : o.context.0 ≡ k.context.0 = same_number o.context.0 p.context.0 inside ∙ ap (λ (c : ObjNum). c.0) other.context in
      let disk : group_is_on_disk all k.context.0 ≡ true = subst (λ (c : ℕ). group_is_on_disk all c ≡ true) where_is there in
      both (group_is_on_disk all k.context.0) (list_any (is_same_in x.number k) all) disk any

  none_named : (g : Group) (w : IsWhole all limit ceiling g) (gs : List Group) → ((q : Group → Bool) → q g ≡ true → list_any q all ≡ true) → group_is_on_disk all w.stored.object.context.0 ≡ true →
      AllByRecursion (λ k. nat_cmp g.number k ≡ Less) (map number_of gs) → AllByRecursion (IsWhole all limit ceiling) gs → found_in (objects_in gs) w.stored.object.context.0 w.stored.object.id ≡ None
  none_named g w [] member there above ws = refl
  none_named g w (x ∷ gs) member there above ws =
      let v = ws.0 in
      let o = w.stored.object in
      let rest = none_named g w gs member there above.1 ws.1 in
      rw (objects_more x gs v)
      (elim (is_named o.context.0 o.id v.stored.object) as (λ b. is_named o.context.0 o.id v.stored.object ≡ b → cond b (Some v.stored.object) (found_in (objects_in gs) o.context.0 o.id) ≡ None) [
        | true ↦ λ q. absurd (never_both (is_twice all x.number v.head) (twice g x w.head v.head o v.stored.object member w.header_is w.object v.object above.0 there q) (not_twice x.number v.head v.good))
        | false ↦ λ q. rest
      ] refl)

  member_of : (front back : List Group) (g : Group) (q : Group → Bool) → q g ≡ true → list_any q (front ++ g ∷ back) ≡ true
  member_of [] back g q h = rw h refl
  member_of (x ∷ front) back g q h = rw (member_of front back g q h) (or_true (q x))
    where
      or_true : (b : Bool) → (b || true) ≡ true
      or_true true = refl
      or_true false = refl

  apart_in : (contexts : ℕ → Bool) (front gs : List Group) → all ≡ front ++ gs → ((k : ℕ) → contexts k ≡ true → group_is_on_disk all k ≡ true) → IsStrictlySortedBy nat_cmp (map number_of gs) → AllByRecursion (IsWhole all limit ceiling) gs → AreApart contexts (objects_in gs)
  apart_in contexts front [] is there sorted ws = tt
  apart_in contexts front (g ∷ gs) is there sorted ws =
      let w = ws.0 in
      let rest = apart_in contexts (front ++ g ∷ []) gs (is ∙ sym (append_assoc front (g ∷ []) gs)) there (sorted_tail nat_cmp g.number (map number_of gs) sorted) ws.1 in
      let member : (q : Group → Bool) → q g ≡ true → list_any q all ≡ true = λ q h. ap (list_any q) is ∙ member_of front gs g q h in
      rw (objects_more g gs w) ((λ h. none_named g w gs member (there w.stored.object.context.0 h) (sorted_head nat_cmp g.number (map number_of gs) sorted) ws.1), rest)

  pub lawful : first_fault_of all limit ceiling all ≡ None → IsStrictlyIncreasing (map number_of all) → IsObjectMap (record { objects = objects_in all; next = ceiling + 1; ceiling = ceiling })
  lawful none rising =
      let ws = all_whole all none in
      record {
        rising = rw (numbers_in all ws) rising;
        given = given_in all ws;
        apart = apart_in (λ k. is_some (object_in (objects_in all) k)) [] all refl (λ k h. sym (there_in k all ws) ∙ h) (sorted_from_strictly_increasing (map number_of all) rising) ws;
      }

-- the objects of groups without fault
pub are_lawful : (all : List Group) (limit ceiling : ℕ) → first_fault_of all limit ceiling all ≡ None → IsStrictlyIncreasing (map number_of all) → FormObjectMap ceiling (all_sound all limit ceiling)
are_lawful all limit ceiling none rising = record {
  lawful = lawful all limit ceiling none rising;
  placed = placed_in all limit ceiling all (all_whole all limit ceiling all none);
  on_disk = on_disk_in all limit ceiling all (all_whole all limit ceiling all none);
}
