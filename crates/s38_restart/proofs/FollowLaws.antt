-- Data spaces that are followed one after another, each by the journal space that it had before.
use Rattle.std.proofs.Common.{◌≡◌, ℕ, zero, suc, Bor, ◌+◌, ◌<◌, ◌≤◌, ◌==◌, true, false, cond, List, [], ◌∷◌, get_or, length, map, set, refl, sym, ap, ◌∙◌, arith}
use Rattle.std.specs.Prelude.{Option, Some, None, find, is_some, slice_get}
use Rattle.std.proofs.lemmas.List.{get_or-set_same}
use Rattle.std.proofs.lemmas.List.Folds.{find_at}
use Rattle.std.proofs.lemmas.Option.{get_or_from_slice_get}
use Rattle.std.specs.List.{position_or_len}
use Rattle.std.specs.Option.{option_copied, option_map, unwrap_or}
use Rattle.std.specs.Slice.{IsItemAt}
use Rattle.s38_journals.specs.Journals.{JournalList}
use Rattle.s38_image.specs.declared.stored.Stored.{Stored}
use Rattle.s38_rules.specs.declared.data_body.DataBody.{DataBody}
use Rattle.s38_rules.specs.declared.object.Body.{Body}
use Rattle.s38_rules.specs.declared.object.Body.TheVariants as bodies
use Rattle.s38_rules.specs.declared.port.Port.{Port}
use Rattle.s38_rules.specs.state.Held.{Held, object, object_in}
use Rattle.s38_rules.specs.state.Journaling.{journal_named, journal_of_port}
use Rattle.s38_rules.specs.state.Parts.{data_of, data_part, journal_of, journal_part, over, over_body, part_at, part_in, port_of, port_part}
use Rattle.s38_rules.specs.state.PartsAt.{journal_at, no_journal, over_table}
use Rattle.s38_rules.specs.state.LawfulParts.{data_lawful}
use Rattle.s38_restart.specs.catalog.Readings.{object_in_stored}
use Rattle.s38_restart.proofs.catalog.LookupLaws.{item_get, place_of_one}
use Rattle.s38_restart.specs.Restarted.{data_followed, imaged, number_in_stored, table_followed, with_followed}

-- ---- the first so many of a list, changed

abbrev pub mixed : {A : Type 0} → (A → A) → ℕ → List A → List A
mixed f zero xs = xs
mixed f (suc n) [] = []
mixed f (suc n) (x ∷ xs) = f x ∷ mixed f n xs

some_same : {A : Type 0} (x y : A) → Some x ≡ Some y → x ≡ y
some_same x y e = ap (λ o. unwrap_or o x) e

module _ {A : Type 0} where
  mixed_get : (f : A → A) (n : ℕ) (xs : List A) → slice_get (mixed f n xs) n ≡ slice_get xs n
  mixed_get f zero xs = refl
  mixed_get f (suc n) [] = refl
  mixed_get f (suc n) (x ∷ xs) = mixed_get f n xs

  mixed_on : (f : A → A) (n : ℕ) (xs : List A) (x : A) → slice_get xs n ≡ Some x → set (mixed f n xs) n (f x) ≡ mixed f (suc n) xs
  mixed_on f zero [] x e = absurd cc
  mixed_on f zero (y ∷ ys) x e = ap (λ (z : A). f z ∷ ys) (sym (some_same y x e))
  mixed_on f (suc n) [] x e = absurd cc
  mixed_on f (suc n) (y ∷ ys) x e = ap (λ (l : List A). f y ∷ l) (mixed_on f n ys x e)

  pub mixed_all : (f : A → A) (n : ℕ) (xs : List A) → length xs ≤ n → mixed f n xs ≡ map f xs
  mixed_all f zero [] le = refl
  mixed_all f zero (x ∷ xs) le = absurd (omega (arith, le))
  mixed_all f (suc n) [] le = refl
  mixed_all f (suc n) (x ∷ xs) le = let less : length xs ≤ n = omega (arith, le) in ap (λ (l : List A). f x ∷ l) (mixed_all f n xs less)

  pub mixed_map : {B : Type 0} (g : A → B) (f : A → A) → ((x : A) → g (f x) ≡ g x) → (n : ℕ) (xs : List A) → map g (mixed f n xs) ≡ map g xs
  mixed_map g f same zero xs = refl
  mixed_map g f same (suc n) [] = refl
  mixed_map g f same (suc n) (x ∷ xs) = rw (same x, mixed_map g f same n xs) refl

  some_at : (xs : List A) (n : ℕ) → n < length xs → (x : A) × (slice_get xs n ≡ Some x)
  some_at [] n lt = absurd (omega (arith, lt))
  some_at (x ∷ xs) zero lt = (x, refl)
  some_at (x ∷ xs) (suc n) lt = let less : n < length xs = omega (arith, lt) in some_at xs n less

  pub set_map : {B : Type 0} (g : A → B) (xs : List A) (n : ℕ) (x y : A) → slice_get xs n ≡ Some x → g y ≡ g x → map g (set xs n y) ≡ map g xs
  set_map g [] n x y e same = refl
  set_map g (z ∷ zs) zero x y e same = let here : g y ≡ g z = same ∙ ap g (sym (some_same z x e)) in ap (λ (b : _). b ∷ map g zs) here
  set_map g (z ∷ zs) (suc n) x y e same = ap (λ (l : List _). g z ∷ l) (set_map g zs n x y e same)

  pub set_twice : (xs : List A) (n : ℕ) (x y : A) → set (set xs n x) n y ≡ set xs n y
  set_twice [] n x y = refl
  set_twice (z ∷ zs) zero x y = refl
  set_twice (z ∷ zs) (suc n) x y = ap (λ (l : List A). z ∷ l) (set_twice zs n x y)

  pub set_there : (xs : List A) (n : ℕ) (x : A) → n < length xs → slice_get (set xs n x) n ≡ Some x
  set_there [] n x lt = absurd (omega (arith, lt))
  set_there (z ∷ zs) zero x lt = refl
  set_there (z ∷ zs) (suc n) x lt = let less : n < length zs = omega (arith, lt) in set_there zs n x less

-- ---- the object of a number

found_object : (n : ℕ) (ss : List Stored) → option_map object_in_stored (find (λ s. number_in_stored s == n) ss) ≡ object_in (map object_in_stored ss) n
found_object n [] = refl
found_object n (s ∷ ss) =
    let rest = found_object n ss in
    elim (s.object.number.0 == n) as (λ b. option_map object_in_stored (cond b (Some s) (find (λ s. number_in_stored s == n) ss)) ≡ cond b (Some s.object) (object_in (map object_in_stored ss) n)) [
      | true ↦ refl
      | false ↦ rest
    ]

-- it is where its number is
pub object_found : (numbers : List ℕ) (ss : List Stored) (n at : ℕ) (r : Option (Bor Stored)) → at ≡ position_or_len (λ k. k == n) numbers → numbers ≡ map number_in_stored ss → IsItemAt ss at r →
    option_map object_in_stored (option_copied r) ≡ object (imaged ss) n
object_found numbers ss n at r place are item =
    let there : at ≡ position_or_len (λ s. number_in_stored s == n) ss = place ∙ ap (position_or_len (λ k. k == n)) are ∙ place_of_one number_in_stored n ss in
    ap (option_map object_in_stored) (item_get ss at r item ∙ ap (slice_get ss) there ∙ sym (find_at (λ s. number_in_stored s == n) ss)) ∙ found_object n ss

-- ---- what a data space sees of the other objects

-- the number of an object, and the port or the journal space that it is
abbrev pub seen : Stored → ℕ × (Option Port × Option JournalList)
seen s = (s.object.number.0, (port_of s.object.body, journal_of s.object.body))

abbrev port_seen : List (ℕ × (Option Port × Option JournalList)) → ℕ → Option Port
port_seen [] n = None
port_seen (x ∷ xs) n = cond (x.0 == n) x.1.0 (port_seen xs n)

abbrev journal_seen : List (ℕ × (Option Port × Option JournalList)) → ℕ → Option JournalList
journal_seen [] n = None
journal_seen (x ∷ xs) n = cond (x.0 == n) x.1.1 (journal_seen xs n)

port_is : (ss : List Stored) (n : ℕ) → part_at port_part (imaged ss) n ≡ port_seen (map seen ss) n
port_is [] n = refl
port_is (s ∷ ss) n =
    let rest = port_is ss n in
    elim (s.object.number.0 == n) as (λ b. part_in port_part (cond b (Some s.object) (object_in (map object_in_stored ss) n)) ≡ cond b (port_of s.object.body) (port_seen (map seen ss) n)) [
      | true ↦ refl
      | false ↦ rest
    ]

journal_is : (ss : List Stored) (n : ℕ) → part_at journal_part (imaged ss) n ≡ journal_seen (map seen ss) n
journal_is [] n = refl
journal_is (s ∷ ss) n =
    let rest = journal_is ss n in
    elim (s.object.number.0 == n) as (λ b. part_in journal_part (cond b (Some s.object) (object_in (map object_in_stored ss) n)) ≡ cond b (journal_of s.object.body) (journal_seen (map seen ss) n)) [
      | true ↦ refl
      | false ↦ rest
    ]

-- the journal space that a port names, which was found
abbrev pub journal_in_port : Held → Option Port → Option JournalList
journal_in_port h None = None
journal_in_port h (Some p) = part_at journal_part h p.journal.0

by_journal : (h : Held) (n : ℕ) (o : Option JournalList) → part_at journal_part h n ≡ o → option_map (journal_at h) (cond (is_some o) (Some n) None) ≡ o
by_journal h n None e = refl
by_journal h n (Some x) e = ap (λ (o : Option JournalList). Some (unwrap_or o no_journal)) e

by_port : (h : Held) (o : Option Port) → option_map (journal_at h) (journal_named h o) ≡ journal_in_port h o
by_port h None = refl
by_port h (Some p) = by_journal h p.journal.0 (part_at journal_part h p.journal.0) refl

pub journal_found : (h : Held) (port : ℕ) → option_map (journal_at h) (journal_of_port h port) ≡ journal_in_port h (part_at port_part h port)
journal_found h port = by_port h (part_at port_part h port)

abbrev journal_seen_in : List (ℕ × (Option Port × Option JournalList)) → Option Port → Option JournalList
journal_seen_in xs None = None
journal_seen_in xs (Some p) = journal_seen xs p.journal.0

found_is : (ss : List Stored) (o : Option Port) → journal_in_port (imaged ss) o ≡ journal_seen_in (map seen ss) o
found_is ss None = refl
found_is ss (Some p) = journal_is ss p.journal.0

behind_seen : (ss : List Stored) (port : ℕ) → option_map (journal_at (imaged ss)) (journal_of_port (imaged ss) port) ≡ journal_seen_in (map seen ss) (port_seen (map seen ss) port)
behind_seen ss port = journal_found (imaged ss) port ∙ found_is ss (part_at port_part (imaged ss) port) ∙ ap (journal_seen_in (map seen ss)) (port_is ss port)

same_journal : (xs ys : List Stored) (port : ℕ) → map seen xs ≡ map seen ys → option_map (journal_at (imaged xs)) (journal_of_port (imaged xs) port) ≡ option_map (journal_at (imaged ys)) (journal_of_port (imaged ys) port)
same_journal xs ys port same =
    behind_seen xs port ∙ ap (λ (l : List (ℕ × (Option Port × Option JournalList))). journal_seen_in l (port_seen l port)) same ∙ sym (behind_seen ys port)

-- ---- one object among others

same_data : (xs ys : List Stored) (number image : ℕ) (d : DataBody) → map seen xs ≡ map seen ys → data_followed (imaged xs) number image d ≡ data_followed (imaged ys) number image d
same_data xs ys number image d same = ap (λ (o : Option JournalList). over_table (table_followed number image o) d) (same_journal xs ys d.port.0 same)

same_over : (f g : DataBody → DataBody) (b : Body) (o : Option DataBody) → ((d : DataBody) → f d ≡ g d) → over data_part f b o ≡ over data_part g b o
same_over f g b None same = refl
same_over f g b (Some d) same = ap (λ (x : DataBody). bodies.DataSpace x) (same d)

same_followed : (xs ys : List Stored) (s : Stored) → map seen xs ≡ map seen ys → with_followed (imaged xs) s ≡ with_followed (imaged ys) s
same_followed xs ys s same =
    let f = data_followed (imaged xs) s.object.number.0 s.sequence in
    let g = data_followed (imaged ys) s.object.number.0 s.sequence in
    let body : over_body data_part f s.object.body ≡ over_body data_part g s.object.body =
    same_over f g s.object.body (data_of s.object.body) (λ d. same_data xs ys s.object.number.0 s.sequence d same) in
    ap (λ (b : Body). record s { object = record s.object { body = b } }) body

port_stays : (f : DataBody → DataBody) (b : Body) → port_of (over_body data_part f b) ≡ port_of b
port_stays f (bodies.DataSpace d) = refl
port_stays f _ = refl

journal_stays : (f : DataBody → DataBody) (b : Body) → journal_of (over_body data_part f b) ≡ journal_of b
journal_stays f (bodies.DataSpace d) = refl
journal_stays f _ = refl

pub seen_stays : (h : Held) (s : Stored) → seen (with_followed h s) ≡ seen s
seen_stays h s =
    let f = data_followed h s.object.number.0 s.sequence in
    let p = port_stays f s.object.body in
    let j = journal_stays f s.object.body in
    λ i. (s.object.number.0, (p i, j i))

-- ---- one after another

pub followed_on : (xs ys zs : List Stored) (at : ℕ) → ys ≡ mixed (with_followed (imaged xs)) at xs → at < length xs →
    ((s : Stored) → slice_get ys at ≡ Some s → zs ≡ set ys at (with_followed (imaged ys) s)) → zs ≡ mixed (with_followed (imaged xs)) (at + 1) xs
followed_on xs ys zs at is within step =
    let f = with_followed (imaged xs) in
    let found = some_at xs at within in
    let s = found.0 in
    let there : slice_get ys at ≡ Some s = ap (λ (l : List Stored). slice_get l at) is ∙ mixed_get f at xs ∙ found.1 in
    let alike : map seen ys ≡ map seen xs = ap (map seen) is ∙ mixed_map seen f (seen_stays (imaged xs)) at xs in
    let next : suc at ≡ at + 1 = omega arith in
    step s there ∙ ap (λ (x : Stored). set ys at x) (same_followed ys xs s alike) ∙ ap (λ (l : List Stored). set l at (f s)) is ∙ mixed_on f at xs s found.1
    ∙ ap (λ (n : ℕ). mixed f n xs) next

-- ---- one object, whose body is taken out meanwhile

abbrev pub emptied : Stored → Stored
emptied s = record s { object = record s.object { body = bodies.Context } }

taken_by : (xs : List Stored) (at : ℕ) (s : Stored) (number image : ℕ) (o : Option DataBody) → slice_get xs at ≡ Some s → data_of s.object.body ≡ o →
    over data_part (data_followed (imaged (set xs at (emptied s))) number image) s.object.body o ≡ over data_part (data_followed (imaged xs) number image) s.object.body o
taken_by xs at s number image None there e = refl
taken_by xs at s number image (Some d) there e =
    let back : s.object.body ≡ bodies.DataSpace d = data_lawful.back s.object.body d e in
    let alike : seen (emptied s) ≡ seen s = sym (ap (λ (b : Body). (s.object.number.0, (port_of b, journal_of b))) back) in
    ap (λ (x : DataBody). bodies.DataSpace x) (same_data (set xs at (emptied s)) xs number image d (set_map seen xs at s (emptied s) there alike))

pub taken_followed : (xs : List Stored) (at : ℕ) (s : Stored) (number image : ℕ) → slice_get xs at ≡ Some s →
    over_body data_part (data_followed (imaged (set xs at (emptied s))) number image) s.object.body ≡ over_body data_part (data_followed (imaged xs) number image) s.object.body
taken_followed xs at s number image there = taken_by xs at s number image (data_of s.object.body) there refl

-- with another body
abbrev pub rebodied : Body → Stored → Stored
rebodied b s = record s { object = record s.object { body = b } }

-- the body was taken out, followed, and put back
pub followed_at : (xs : List Stored) (at : ℕ) (s i j k l : Stored) (left old new : Body) → at < length xs → slice_get xs at ≡ Some s →
    left ≡ bodies.Context → old ≡ (get_or xs at k).object.body →
    new ≡ over_body data_part (data_followed (imaged (set xs at (rebodied left (get_or xs at k)))) (get_or xs at i).object.number.0 (get_or xs at j).sequence) old →
    set (set xs at (rebodied left (get_or xs at k))) at (rebodied new (get_or (set xs at (rebodied left (get_or xs at k))) at l)) ≡ set xs at (with_followed (imaged xs) s)
followed_at xs at s i j k l left old new within there left_is old_is new_is =
    let result : List Stored → Stored → Stored → Body → Body = λ ys x y b. over_body data_part (data_followed (imaged ys) x.object.number.0 y.sequence) b in
    let one : get_or xs at k ≡ s = get_or_from_slice_get xs at s k there in
    let first : get_or xs at i ≡ s = get_or_from_slice_get xs at s i there in
    let second : get_or xs at j ≡ s = get_or_from_slice_get xs at s j there in
    let taken = rebodied left (get_or xs at k) in
    let empty : taken ≡ emptied s = ap (λ (b : Body). rebodied b (get_or xs at k)) left_is ∙ ap (λ (x : Stored). emptied x) one in
    let ys = set xs at taken in
    let zs = set xs at (emptied s) in
    let same : ys ≡ zs = ap (λ (x : Stored). set xs at x) empty in
    let body : new ≡ result xs s s s.object.body =
    new_is ∙ ap (λ (us : List Stored). result us (get_or xs at i) (get_or xs at j) old) same ∙ ap (λ (x : Stored). result zs x (get_or xs at j) old) first
    ∙ ap (λ (x : Stored). result zs s x old) second
    ∙ ap (λ (b : Body). result zs s s b) (old_is ∙ ap (λ (x : Stored). x.object.body) one) ∙ taken_followed xs at s s.object.number.0 s.sequence there in
    let made : rebodied new (get_or ys at l) ≡ with_followed (imaged xs) s =
    ap (λ (x : Stored). rebodied new x) (get_or-set_same xs at taken l within ∙ empty) ∙ ap (λ (b : Body). rebodied b s) body in
    set_twice xs at taken (rebodied new (get_or ys at l)) ∙ ap (λ (x : Stored). set xs at x) made
