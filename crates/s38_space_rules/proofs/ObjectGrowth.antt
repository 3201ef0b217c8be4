-- How many new parts one object needs: where its header follows, where all of it must persist, and where it is ensured.
use Rattle.std.proofs.Common.{◌≡◌, ℕ, ◌+◌, ◌-◌, ◌==◌, Bool, true, false, cond, List, [], ◌∷◌, refl, sym, ◌∙◌, ap, subst, arith}
use Rattle.std.proofs.lemmas.Bool.Decides.{nat_tests}
use Rattle.std.specs.List.{list_any}
use Rattle.std.specs.Option.{option_map}
use Rattle.std.specs.Prelude.{◌||◌, Option, Some, None}
use Rattle.s38_base.specs.declared.id.ObjNum.{ObjNum}
use Rattle.s38_rules.proofs.ChargeLaws.{KeepsNumber, found_number, object_changed}
use Rattle.s38_rules.specs.declared.object.Body.{Body}
use Rattle.s38_rules.specs.declared.object.Body.TheVariants as bodies
use Rattle.s38_rules.specs.declared.object.Object.{Object}
use Rattle.s38_rules.specs.families.Changes.{through_port}
use Rattle.s38_rules.specs.store.Forcing.{Forced, Header, Whole, extent_after, extent_with_rows, followed, is_whole, new_parts_of, whole_if}
use Rattle.s38_rules.specs.state.Held.{Held, change, kept_on_disk, object, object_in}
use Rattle.s38_rules.specs.state.Parts.{data_part, over_body, over_object}
use Rattle.s38_rules.specs.state.PartsAt.{on_data}
use Rattle.s38_rules.specs.store.Room.{Extent, Room, extent_at, extent_of, image_len, more_parts, pages_begun, rows_pages}
use Rattle.s38_space_map.proofs.ExtentLaws.{number_same}
use Rattle.s38_space_rules.proofs.SumLaws.{at_object, counted}
use Rattle.s38_space_rules.specs.Following.{Fits, rows_in, rows_kept}
use Rattle.s38_space_rules.specs.Growing.{ensured_growth, whole_growth}

pub itself : (n : ℕ) → (n == n) ≡ true
itself n = grind (arith, nat_tests)

pub object_itself : (h : Held) (n : ℕ) (f : Object → Object) → KeepsNumber f → object (change h n f) n ≡ option_map f (object h n)
object_itself h n f keeps = object_changed n n f h.objects keeps ∙ rw (itself n) refl

-- what has the same rows and the same length has the same extent
extent_same : (a b : Object) → a.number ≡ b.number → a.rows ≡ b.rows → image_len a.body ≡ image_len b.body → extent_of a ≡ extent_of b
extent_same a b number rows body = rw (number, rows, body) refl

behind_same : (a b : Object) → a.number ≡ b.number → a.rows ≡ b.rows → image_len a.body ≡ image_len b.body → (e : Option Extent) → extent_with_rows a e ≡ extent_with_rows b e
behind_same a b number rows body None = extent_same a b number rows body
behind_same a b number rows body (Some x) = rw (number, rows) refl

after_same : (all : List Forced) (e : Option Extent) (a b : Object) → a.number ≡ b.number → a.rows ≡ b.rows → image_len a.body ≡ image_len b.body → extent_after all e a ≡ extent_after all e b
after_same all e a b number rows body =
    ap (λ (n : ObjNum). cond (list_any (is_whole n.0) all) (extent_of a) (extent_with_rows a e)) number
    ∙ ap (λ (x : Extent). cond (list_any (is_whole b.number.0) all) x (extent_with_rows a e)) (extent_same a b number rows body)
    ∙ ap (λ (x : Extent). cond (list_any (is_whole b.number.0) all) (extent_of b) x) (behind_same a b number rows body e)

-- and the same new parts
pub new_same : (room : Room) (all : List Forced) (a b : Object) → a.number ≡ b.number → a.on_disk ≡ b.on_disk → a.rows ≡ b.rows → image_len a.body ≡ image_len b.body → new_parts_of room all a ≡ new_parts_of room all b
new_same room all a b number disk rows body =
    ap (λ (d : Bool). cond d (more_parts (extent_at room.extents a.number.0) (extent_after all (extent_at room.extents a.number.0) a)) 0) disk
    ∙ ap (λ (x : Extent). cond b.on_disk (more_parts (extent_at room.extents a.number.0) x) 0) (after_same all (extent_at room.extents a.number.0) a b number rows body)
    ∙ ap (λ (n : ObjNum). cond b.on_disk (more_parts (extent_at room.extents n.0) (extent_after all (extent_at room.extents n.0) b)) 0) number

abbrev pub header_growth : Option Object → (Object → Object) → ℕ
header_growth None f = 0
header_growth (Some o) f = cond o.on_disk (rows_pages (f o) - rows_pages o) 0

number_is : (a b : ℕ) → Some a ≡ Some b → a ≡ b
number_is a b h = cc

header_more : (n : ℕ) (e : Option Extent) (o : Object) (rows : ℕ) → option_map rows_in e ≡ Some rows → more_parts e (extent_after (Header n ∷ []) e o) ≡ rows_pages o - rows
header_more n None o rows h = cc
header_more n (Some x) o rows h = let same = number_is x.rows rows h in omega (arith, same)

pub header_counted : (room : Room) (h : Held) (n : ℕ) (f : Object → Object) → KeepsNumber f → ((o : Object) → (f o).on_disk ≡ o.on_disk) → Fits room.extents h
    → counted (new_parts_of room (followed h n)) (change h n f).objects (followed h n) ≡ header_growth (object h n) f
header_counted room h n f keeps disk fits = by (object h n) refl
  where
    new : (o : Object) → object h n ≡ Some o → o.on_disk ≡ true → new_parts_of room (Header n ∷ []) (f o) ≡ rows_pages (f o) - rows_pages o
    new o found on =
        let rows : option_map rows_in (extent_at room.extents n) ≡ Some (rows_pages o) = fits.rows n ∙ ap rows_kept found ∙ rw on refl in
        let number : (f o).number.0 ≡ n = ap (λ (k : ObjNum). k.0) (keeps o) ∙ found_number n o h.objects found in
        let there : (f o).on_disk ≡ true = disk o ∙ on in
        rw there (subst (λ (k : ℕ). more_parts (extent_at room.extents k) (extent_after (Header n ∷ []) (extent_at room.extents k) (f o)) ≡ rows_pages (f o) - rows_pages o) (sym number)
        (header_more n (extent_at room.extents n) (f o) (rows_pages o) rows))

    on_disk : (o : Object) → object h n ≡ Some o → (b : Bool) → o.on_disk ≡ b
        → counted (new_parts_of room (cond b (Header n ∷ []) [])) (change h n f).objects (cond b (Header n ∷ []) []) ≡ cond b (rows_pages (f o) - rows_pages o) 0
    on_disk o found false off = refl
    on_disk o found true on = rw (object_itself h n f keeps, found) (omega (arith, new o found on))

    by : (y : Option Object) → object h n ≡ y → counted (new_parts_of room (followed h n)) (change h n f).objects (followed h n) ≡ header_growth (object h n) f
    by None found = rw found refl
    by (Some o) found = rw found (on_disk o found o.on_disk refl)

pub same_rows : (x : Option Object) (f : Object → Object) → ((o : Object) → (f o).rows ≡ o.rows) → header_growth x f ≡ 0
same_rows None f same = refl
same_rows (Some o) f same = by o.on_disk
  where
    by : (b : Bool) → cond b (rows_pages (f o) - rows_pages o) 0 ≡ 0
    by true = rw (same o) (omega arith)
    by false = refl

zero_more : (n : ℕ) → pages_begun n ≡ pages_begun (n + 0)
zero_more n = ap pages_begun (omega arith)

pub whole_new : (room : Room) (all : List Forced) (o : Object) → list_any (is_whole o.number.0) all ≡ true → new_parts_of room all o ≡ whole_growth room.extents 0 (Some o)
whole_new room all o whole =
    rw whole (ap (λ (body : ℕ). cond o.on_disk (more_parts (extent_at room.extents o.number.0) (record { number = o.number.0; rows = rows_pages o; body = body })) 0) (zero_more (image_len o.body)))

whole_at : (room : Room) (all : List Forced) (n : ℕ) (y : Option Object) → ((o : Object) → y ≡ Some o → o.number.0 ≡ n) → list_any (is_whole n) all ≡ true → at_object (new_parts_of room all) y ≡ whole_growth room.extents 0 y
whole_at room all n None number whole = refl
whole_at room all n (Some o) number whole = whole_new room all o (subst (λ (k : ℕ). list_any (is_whole k) all ≡ true) (sym (number o refl)) whole)

whole_found : (room : Room) (all : List Forced) (n : ℕ) (os : List Object) → list_any (is_whole n) all ≡ true → at_object (new_parts_of room all) (object_in os n) ≡ whole_growth room.extents 0 (object_in os n)
whole_found room all n os whole = whole_at room all n (object_in os n) (λ o found. found_number n o os found) whole

pub first_whole : (n : ℕ) (more : List Forced) → list_any (is_whole n) (Whole n ∷ more) ≡ true
first_whole n more = rw (itself n) refl

second_whole : (n m : ℕ) → list_any (is_whole m) (Whole n ∷ Whole m ∷ []) ≡ true
second_whole n m = by (n == m)
  where
    by : (b : Bool) → (b || ((m == m) || false)) ≡ true
    by true = refl
    by false = rw (itself m) refl

kept_numbers : KeepsNumber kept_on_disk
kept_numbers o = refl

pub ensured_counted : (room : Room) (h : Held) (n : ℕ) (j : Option ℕ)
    → counted (new_parts_of room (Whole n ∷ whole_if j)) (change h n kept_on_disk).objects (Whole n ∷ whole_if j) ≡ ensured_growth room.extents h n j
ensured_counted room h n None =
    let here = whole_found room (Whole n ∷ []) n (change h n kept_on_disk).objects (first_whole n []) ∙ ap (whole_growth room.extents 0) (object_itself h n kept_on_disk kept_numbers) in
    omega (arith, here)
ensured_counted room h n (Some j) = by (j == n) refl
  where
    all : List Forced
    all = Whole n ∷ Whole j ∷ []

    here : at_object (new_parts_of room all) (object (change h n kept_on_disk) n) ≡ whole_growth room.extents 0 (option_map kept_on_disk (object h n))
    here = whole_found room all n (change h n kept_on_disk).objects (first_whole n (Whole j ∷ [])) ∙ ap (whole_growth room.extents 0) (object_itself h n kept_on_disk kept_numbers)

    there : at_object (new_parts_of room all) (object (change h n kept_on_disk) j) ≡ whole_growth room.extents 0 (object (change h n kept_on_disk) j)
    there = whole_found room all j (change h n kept_on_disk).objects (second_whole n j)

    other : (j == n) ≡ false → (n == j) ≡ false
    other is = grind (arith, nat_tests)

    by : (b : Bool) → (j == n) ≡ b → cond (b || false) 0 (at_object (new_parts_of room all) (object (change h n kept_on_disk) n)) + (at_object (new_parts_of room all) (object (change h n kept_on_disk) j) + 0)
        ≡ whole_growth room.extents 0 (option_map kept_on_disk (object h n)) + cond b 0 (whole_growth room.extents 0 (object h j))
    by true is =
        let same : at_object (new_parts_of room all) (object (change h n kept_on_disk) j) ≡ whole_growth room.extents 0 (option_map kept_on_disk (object h n)) =
        ap (λ (k : ℕ). at_object (new_parts_of room all) (object (change h n kept_on_disk) k)) (number_same j n is) ∙ here in
        omega (arith, same)
    by false is =
        let apart : object (change h n kept_on_disk) j ≡ object h j = object_changed n j kept_on_disk h.objects kept_numbers ∙ rw (other is) refl in
        let stays = there ∙ ap (whole_growth room.extents 0) apart in
        omega (arith, here, stays)

-- a data space whose changes go through a port is as long as before
port_len : (port : ℕ) (b : Body) → image_len (over_body data_part (through_port port) b) ≡ image_len b
port_len port (bodies.DataSpace d) = refl
port_len port _ = refl

port_whole : (xs : List Extent) (port : ℕ) (x : Option Object) → whole_growth xs 0 (option_map (over_object data_part (through_port port)) x) ≡ whole_growth xs 0 x
port_whole xs port None = refl
port_whole xs port (Some o) = rw (port_len port o.body) refl

port_kept : (xs : List Extent) (port : ℕ) (x : Option Object) → whole_growth xs 0 (option_map kept_on_disk (option_map (over_object data_part (through_port port)) x)) ≡ whole_growth xs 0 (option_map kept_on_disk x)
port_kept xs port None = refl
port_kept xs port (Some o) = rw (port_len port o.body) refl

port_at : (xs : List Extent) (h : Held) (n m port : ℕ) → whole_growth xs 0 (object (on_data h n (through_port port)) m) ≡ whole_growth xs 0 (object h m)
port_at xs h n m port = ap (whole_growth xs 0) (object_changed n m (over_object data_part (through_port port)) h.objects (λ o. refl)) ∙ by (n == m)
  where
    by : (b : Bool) → whole_growth xs 0 (cond b (option_map (over_object data_part (through_port port)) (object h m)) (object h m)) ≡ whole_growth xs 0 (object h m)
    by true = port_whole xs port (object h m)
    by false = refl

port_itself : (xs : List Extent) (h : Held) (n port : ℕ) → whole_growth xs 0 (option_map kept_on_disk (object (on_data h n (through_port port)) n)) ≡ whole_growth xs 0 (option_map kept_on_disk (object h n))
port_itself xs h n port = ap (λ (x : Option Object). whole_growth xs 0 (option_map kept_on_disk x)) (object_itself h n (over_object data_part (through_port port)) (λ o. refl)) ∙ port_kept xs port (object h n)

pub journaled_same : (xs : List Extent) (h : Held) (n port : ℕ) (j : Option ℕ) → ensured_growth xs (on_data h n (through_port port)) n j ≡ ensured_growth xs h n j
journaled_same xs h n port None = port_itself xs h n port
journaled_same xs h n port (Some j) = rw (port_itself xs h n port, port_at xs h n j port) refl
