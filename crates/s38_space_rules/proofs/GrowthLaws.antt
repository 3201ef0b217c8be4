-- The new parts that a step needs are its growth: one case for each word of change.
use Rattle.std.proofs.Common.{◌≡◌, ℕ, ◌+◌, ◌-◌, ◌*◌, Bool, true, false, cond, List, [], ◌∷◌, ◌++◌, length, refl, sym, ◌∙◌, ap, arith}
use Rattle.std.proofs.lemmas.List.{append-nil}
use Rattle.std.proofs.lemmas.List.Sums.{sum_by-cons}
use Rattle.std.specs.List.{list_any}
use Rattle.std.specs.Option.{option_map}
use Rattle.std.specs.Prelude.{◌&&◌, Option, Some, None, is_some, nat_lt, sum_by}
use Rattle.s38_base.specs.declared.id.Id.{Id}
use Rattle.s38_base.specs.declared.id.Kind.{Kind}
use Rattle.s38_commits.specs.Unit.{CommitUnit}
use Rattle.s38_commits.specs.Units.{unit_of}
use Rattle.s38_laws_objects.proofs.OutlineLaws.{done_outline}
use Rattle.s38_laws_objects.specs.Outline.{Outline, kept_outline, outline_at, outline_of}
use Rattle.s38_rules.proofs.ChargeLaws.{object_without}
use Rattle.s38_rules.specs.declared.creating.Creating.{Creating}
use Rattle.s38_rules.specs.declared.cursor.Cursor.{Cursor}
use Rattle.s38_rules.specs.declared.object.Body.{Body}
use Rattle.s38_rules.specs.declared.object.Body.TheVariants as bodies
use Rattle.s38_rules.specs.declared.object.Object.{Object}
use Rattle.s38_rules.specs.ask.Authority.{is_profile}
use Rattle.s38_rules.specs.families.Changes.{Changes, Committed, Ensured, Entered, Gone, Journaled, Made, Moved, Named, OnAccess, OnCursor, Profiled, Then, done, made_by, renamed_by}
use Rattle.s38_rules.specs.families.Creation.{created, creation_changes, is_of_kind, new_object}
use Rattle.s38_rules.specs.store.Forcing.{Ceiling, Forced, Removed, Whole, commit_forces, creation_forces, followed, forced_by, is_whole, new_parts, new_parts_of}
use Rattle.s38_rules.specs.state.Held.{Held, change, change_in, has_number, is_on_disk, object, with_object, without}
use Rattle.s38_rules.specs.state.Journaling.{journal_for, journal_for_block}
use Rattle.s38_rules.specs.state.Parts.{cursor_part, over_body, over_object, profile_part}
use Rattle.s38_rules.specs.state.PartsAt.{on_cursor}
use Rattle.s38_rules.specs.store.Room.{Extent, Room, extent_at, image_len, pages_begun, row_len, rows_pages}
use Rattle.s38_rules.specs.state.Access.{Access, access_of, with_access}
use Rattle.s38_rules.specs.state.State.{State}
use Rattle.s38_rules.specs.families.Units.{committed}
use Rattle.s38_space_rules.proofs.CreationLaws.{made_forced, new_found}
use Rattle.s38_space_rules.proofs.NumberLaws.{AreNumbered, done_numbered}
use Rattle.s38_space_rules.proofs.SumLaws.{at_object, counted, parts_counted}
use Rattle.s38_space_rules.specs.Creating.{is_user_in, made_forces}
use Rattle.s38_space_rules.specs.Following.{Fits, FitsBut, rows_in, rows_kept}
use Rattle.s38_space_rules.specs.Growing.{commit_growth, growth, rows_growth}
use Rattle.s38_space_rules.proofs.ObjectGrowth.{itself, new_same, header_growth, header_counted, same_rows, whole_new, first_whole, ensured_counted}
use Rattle.s38_space_rules.proofs.JournalGrowth.{committed_counted, entered_counted}

-- ---- the room fits the objects but for what must persist

abbrev rows_out : Outline → ℕ
rows_out out = pages_begun (row_len * length out.standing.rows)

rows_by : (x : Option Object) → rows_kept x ≡ option_map rows_out (kept_outline x)
rows_by None = refl
rows_by (Some o) = by o.on_disk
  where
    by : (b : Bool) → cond b (Some (rows_pages o)) None ≡ option_map rows_out (cond b (Some (outline_of o)) None)
    by true = refl
    by false = refl

-- what has the same outline has the same pages of rows
pub fits_by : (h k : Held) (m : ℕ) → outline_at k m ≡ outline_at h m → rows_kept (object h m) ≡ rows_kept (object k m)
fits_by h k m same = rows_by (object h m) ∙ ap (option_map rows_out) (sym same) ∙ sym (rows_by (object k m))

pub fits_done : (x : Changes) (s : State) (p : ℕ) (xs : List Extent) → Fits xs s.held → FitsBut (forced_by s p x) xs (done s p x).held
fits_done x s p xs fits = record {
  rows = λ m unforced. fits.rows m ∙ fits_by s.held (done s p x).held m (done_outline x s p m unforced);
}

-- the new parts are those that are counted
done_counted : (x : Changes) (room : Room) (s : State) (p : ℕ) → AreNumbered s.held → Fits room.extents s.held
    → new_parts room (forced_by s p x) (done s p x).held.objects ≡ counted (new_parts_of room (forced_by s p x)) (done s p x).held.objects (forced_by s p x)
done_counted x room s p numbered fits = parts_counted room (forced_by s p x) (done s p x).held (done_numbered x s p numbered) (fits_done x s p room.extents fits)

-- ---- an object is made

user_len : (body : Body) → is_profile body ≡ true → image_len body ≡ 5
user_len (bodies.Profile special limit) is = refl
user_len _ is = cc

no_extent : (x : Option Extent) → option_map rows_in x ≡ None → x ≡ None
no_extent None h = refl
no_extent (Some x) h = cc

nothing_counted : (g : Object → ℕ) (os : List Object) (all : List Forced) → all ≡ [] → counted g os all ≡ 0
nothing_counted g os all none = rw none refl

user_counted : (room : Room) (h : Held) (owner : ℕ) (made : Creating) (id : Id) (body : Body) → object h h.next ≡ None → Fits room.extents h → is_profile body ≡ true → (a : Bool)
    → counted (new_parts_of room (cond a (Ceiling ∷ []) [] ++ Whole h.next ∷ [])) (with_object h (new_object h owner made id body)).objects (cond a (Ceiling ∷ []) [] ++ Whole h.next ∷ []) ≡ 3
user_counted room h owner made id body free fits user a = by a
  where
    x : Object
    x = new_object h owner made id body

    none : extent_at room.extents h.next ≡ None
    none = no_extent (extent_at room.extents h.next) (fits.rows h.next ∙ ap rows_kept free)

    found : object (with_object h x) h.next ≡ Some x
    found = new_found h x free refl

    new : (all : List Forced) → list_any (is_whole h.next) all ≡ true → at_object (new_parts_of room all) (object (with_object h x) h.next) ≡ 3
    new all whole = rw found (whole_new room all x whole ∙ rw (user, none, user_len body user) refl)

    by : (b : Bool) → counted (new_parts_of room (cond b (Ceiling ∷ []) [] ++ Whole h.next ∷ [])) (with_object h x).objects (cond b (Ceiling ∷ []) [] ++ Whole h.next ∷ []) ≡ 3
    by true = let one = new (Ceiling ∷ Whole h.next ∷ []) (first_whole h.next []) in omega (arith, one)
    by false = let one = new (Whole h.next ∷ []) (first_whole h.next []) in omega (arith, one)

other_counted : (g : List Forced → Object → ℕ) (os : List Object) (a : Bool) → counted (g (cond a (Ceiling ∷ []) [] ++ [])) os (cond a (Ceiling ∷ []) [] ++ []) ≡ 0
other_counted g os true = refl
other_counted g os false = refl

made_counted : (room : Room) (h : Held) (owner : ℕ) (made : Creating) (body : Option Body) → object h h.next ≡ None → Fits room.extents h
    → counted (new_parts_of room (creation_forces h (made_by h owner made body))) (made_by h owner made body).objects (creation_forces h (made_by h owner made body)) ≡ cond (is_user_in body && is_some made.id) 3 0
unfolding creation_changes
made_counted room h owner made None free fits =
    nothing_counted (new_parts_of room (creation_forces h h)) h.objects (creation_forces h h) (made_forced h owner made None free ∙ none (is_some made.id))
  where
    none : (b : Bool) → made_forces h (b && false) false ≡ []
    none true = refl
    none false = refl
made_counted room h owner made (Some body) free fits =
    ap (λ (all : List Forced). counted (new_parts_of room all) (made_by h owner made (Some body)).objects all) (made_forced h owner made (Some body) free) ∙ by made.id
  where
    user : (id : Id) (b : Bool) → is_profile body ≡ b → counted (new_parts_of room (made_forces h true b)) (with_object h (new_object h owner made id body)).objects (made_forces h true b) ≡ cond (b && true) 3 0
    user id true is = user_counted room h owner made id body free fits is (nat_lt h.ceiling h.next)
    user id false is = other_counted (new_parts_of room) (with_object h (new_object h owner made id body)).objects (nat_lt h.ceiling h.next)

    no_one : (b : Bool) → ◌≡◌ {A = ℕ} 0 (cond (b && false) 3 0)
    no_one true = refl
    no_one false = refl

    by : (id : Option Id) → counted (new_parts_of room (made_forces h (is_some id && true) (is_profile body))) (created h owner made body id).objects (made_forces h (is_some id && true) (is_profile body)) ≡ cond (is_profile body && is_some id) 3 0
    by None = no_one (is_profile body)
    by (Some id) = user id (is_profile body) refl

-- ---- an object is destroyed

gone_counted : (room : Room) (h : Held) (kind : Kind) (n : ℕ) (of disk : Bool)
    → counted (new_parts_of room (cond (of && disk) (Removed n ∷ []) [])) (cond of (without h n) h).objects (cond (of && disk) (Removed n ∷ []) []) ≡ 0
gone_counted room h kind n false disk = refl
gone_counted room h kind n true false = refl
gone_counted room h kind n true true =
    let none : object (without h n) n ≡ None = object_without n n h.objects ∙ rw (itself n) refl in
    rw none refl

-- ---- each word of change

-- objects of which no new part is another one
pub parts_left : (room : Room) (all : List Forced) (h : Held) (n : ℕ) (f : Object → Object) → ((o : Object) → new_parts_of room all (f o) ≡ new_parts_of room all o) → new_parts room all (change h n f).objects ≡ new_parts room all h.objects
parts_left room all h n f same = by h.objects
  where
    g : Object → ℕ
    g = new_parts_of room all

    by : (os : List Object) → sum_by g (change_in os n f) ≡ sum_by g os
    by [] = refl
    by (o ∷ os) = first (by os) (has_number n o)
      where
        first : sum_by g (change_in os n f) ≡ sum_by g os → (b : Bool) → sum_by g (cond b (f o ∷ os) (o ∷ change_in os n f)) ≡ sum_by g (o ∷ os)
        first rest true = omega (arith, sum_by-cons g (f o) os, sum_by-cons g o os, same o)
        first rest false = omega (arith, sum_by-cons g o (change_in os n f), sum_by-cons g o os, rest)

cursor_len : (f : Cursor → Cursor) (b : Body) → image_len (over_body cursor_part f b) ≡ image_len b
cursor_len f (bodies.Cursor cursor) = refl
cursor_len f _ = refl

standing_header : (x : Option Object) (f : Access → Access) → header_growth x (λ o. with_access (f (access_of o)) o) ≡ rows_growth x f
standing_header None f = refl
standing_header (Some o) f = refl

named_counted : (room : Room) (h : Held) (n : ℕ) (id : Option Id) → Fits room.extents h → counted (new_parts_of room (followed h n)) (renamed_by h n id).objects (followed h n) ≡ 0
named_counted room h n (Some id) fits = header_counted room h n (λ o. record o { id = id }) (λ o. refl) (λ o. refl) fits ∙ same_rows (object h n) (λ o. record o { id = id }) (λ o. refl)
named_counted room h n None fits = ap (λ (os : List Object). counted (new_parts_of room (followed h n)) os (followed h n)) (sym (left h.objects)) ∙ header_counted room h n (λ o. o) (λ o. refl) (λ o. refl) fits ∙ same_rows (object h n) (λ o. o) (λ o. refl)
  where
    left : (os : List Object) → change_in os n (λ o. o) ≡ os
    left [] = refl
    left (o ∷ os) = by (left os) (has_number n o)
      where
        by : change_in os n (λ o. o) ≡ os → (b : Bool) → cond b (o ∷ os) (o ∷ change_in os n (λ x. x)) ≡ o ∷ os
        by rest true = refl
        by rest false = ap (λ (l : List Object). o ∷ l) rest

unit_counted : (room : Room) (s : State) (p block : ℕ) (unit : Option CommitUnit)
    → counted (new_parts_of room (commit_forces s.held block unit)) (committed s p block unit).held.objects (commit_forces s.held block unit) ≡ commit_growth room.extents s block unit
unit_counted room s p block None = refl
unit_counted room s p block (Some unit) = committed_counted room s p block unit (journal_for_block s.held block) refl

-- what must persist of a change after which the cursor moves
cursor_parts : (room : Room) (first : Changes) (n : ℕ) (f : Cursor → Cursor) (s : State) (p : ℕ)
    → new_parts room (forced_by s p first ++ []) (on_cursor (done s p first).held n f).objects ≡ new_parts room (forced_by s p first) (done s p first).held.objects
cursor_parts room first n f s p =
    ap (λ (all : List Forced). new_parts room all (on_cursor (done s p first).held n f).objects) (append-nil (forced_by s p first))
    ∙ parts_left room (forced_by s p first) (done s p first).held n (over_object cursor_part f)
    (λ o. new_same room (forced_by s p first) (over_object cursor_part f o) o refl refl refl (cursor_len f o.body))

fits_still : (s : State) (p n port : ℕ) (xs : List Extent) → Fits xs s.held → Fits xs (done s p (Journaled n port)).held
fits_still s p n port xs fits = record { rows = λ m. (fits_done (Journaled n port) s p xs fits).rows m refl }

pub growth_is : (x : Changes) (room : Room) (s : State) (p : ℕ) → AreNumbered s.held → object s.held s.held.next ≡ None → Fits room.extents s.held
    → new_parts room (forced_by s p x) (done s p x).held.objects ≡ growth room s p x
growth_is (OnAccess n f) room s p numbered free fits =
    done_counted (OnAccess n f) room s p numbered fits ∙ header_counted room s.held n (λ o. with_access (f (access_of o)) o) (λ o. refl) (λ o. refl) fits ∙ standing_header (object s.held n) f
growth_is (Profiled n special limit) room s p numbered free fits =
    done_counted (Profiled n special limit) room s p numbered fits ∙ header_counted room s.held n (over_object profile_part (λ _. (special, limit))) (λ o. refl) (λ o. refl) fits
    ∙ same_rows (object s.held n) (over_object profile_part (λ _. (special, limit))) (λ o. refl)
growth_is (Named n id) room s p numbered free fits = done_counted (Named n id) room s p numbered fits ∙ named_counted room s.held n id fits
growth_is (Moved n context) room s p numbered free fits =
    done_counted (Moved n context) room s p numbered fits ∙ header_counted room s.held n (λ o. record o { context = context }) (λ o. refl) (λ o. refl) fits
    ∙ same_rows (object s.held n) (λ o. record o { context = context }) (λ o. refl)
growth_is (Ensured n) room s p numbered free fits = done_counted (Ensured n) room s p numbered fits ∙ ensured_counted room s.held n (journal_for s.held n)
growth_is (Made owner made body) room s p numbered free fits = done_counted (Made owner made body) room s p numbered fits ∙ made_counted room s.held owner made body free fits
growth_is (Gone kind n) room s p numbered free fits =
    done_counted (Gone kind n) room s p numbered fits ∙ gone_counted room s.held kind n (is_of_kind kind (object s.held n)) (is_on_disk s.held n)
growth_is (Committed block) room s p numbered free fits = done_counted (Committed block) room s p numbered fits ∙ unit_counted room s p block (unit_of s.units block)
growth_is (Entered block change f) room s p numbered free fits =
    done_counted (Entered block change f) room s p numbered fits ∙ entered_counted room s p block change f (journal_for s.held change.space.0) refl
growth_is (Then (Journaled n port) (Ensured m)) room s p numbered free fits =
    done_counted (Ensured m) room (done s p (Journaled n port)) p (done_numbered (Journaled n port) s p numbered) (fits_still s p n port room.extents fits)
    ∙ ensured_counted room (done s p (Journaled n port)).held m (journal_for (done s p (Journaled n port)).held m)
growth_is (Then first (OnCursor n f)) room s p numbered free fits = cursor_parts room first n f s p ∙ growth_is first room s p numbered free fits
growth_is (Then first second) room s p numbered free fits = refl
growth_is x room s p numbered free fits = done_counted x room s p numbered fits
