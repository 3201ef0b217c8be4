-- What is kept of each object after a step.
use Rattle.std.proofs.Common.{◌==◌, ◌∙◌, ◌∷◌, ◌≡◌, ◌++◌, Bool, List, [], ap, arith, cond, false, refl, subst, sym, true, ℕ}
use Rattle.std.proofs.lemmas.Bool.Decides.{nat_tests}
use Rattle.std.proofs.lemmas.Map.Keys.{sorted_from_strictly_increasing, sorted_head, sorted_tail}
use Rattle.std.specs.List.{AllByRecursion, flat_map, list_any}
use Rattle.std.specs.List.Sorted.{IsStrictlySortedBy}
use Rattle.std.specs.Option.{option_map}
use Rattle.std.specs.Ordering.{nat_cmp}
use Rattle.std.specs.Prelude.{◌||◌, None, Option, Some, map}
use Rattle.std.specs.declared.cmp.Ordering.TheVariants.{Less}
use Rattle.s38_base.specs.declared.id.ObjNum.{ObjNum}
use Rattle.s38_base.specs.declared.rights.Special.{Special}
use Rattle.s38_code.specs.declared.event.Event.{Event}
use Rattle.s38_commits.specs.Units.{UnitMap}
use Rattle.s38_image.specs.Settled.{settled_body}
use Rattle.s38_image.specs.declared.stored.Stored.{Stored}
use Rattle.s38_laws_objects.proofs.EventLaws.{step_outline}
use Rattle.s38_laws_objects.specs.Outline as outlines
use Rattle.s38_laws_objects.specs.Outline.{Outline, is_forced, outline_at, outline_of}
use Rattle.s38_rules.proofs.ChargeLaws.{found_number}
use Rattle.s38_rules.specs.store.Forcing.{Ceiling, Forced, Header as HeaderOf, Removed, Whole, is_whole, must_persist}
use Rattle.s38_rules.specs.state.Held.{has_number, object, object_in}
use Rattle.s38_rules.specs.state.Parts.{profile_of}
use Rattle.s38_rules.specs.state.State.{State}
use Rattle.s38_rules.specs.step.Step.{step}
use Rattle.s38_rules.specs.declared.object.Body.TheVariants as bodies
use Rattle.s38_rules.specs.declared.object.Body.{Body}
use Rattle.s38_rules.specs.declared.object.Object.{Object}
use Rattle.s38_durable_state.specs.Durable.{Durable, body_after, durable_after, followed_or_whole, is_of_number, kept, kept_after, kept_by_force, whole_object, with_header_and_rows}
use Rattle.s38_durable_state.specs.Following.{Follows, Header, NumbersRise, header_kept, image_header_in, image_header_of, object_number, user_said_in}

-- ---- one object

-- what is kept of an object has its number
number_kept : (all : List Forced) (s : State) (old : Option Stored) (o : Object) → (kept_after all s old o).object.number ≡ o.number
number_kept all s old o = by (list_any (is_whole o.number.0) all) old
  where
    by : (b : Bool) (x : Option Stored) → (cond b (whole_object s o) (followed_or_whole s o x)).object.number ≡ o.number
    by true x = refl
    by false None = refl
    by false (Some x) = refl

-- it has its header
header_after : (all : List Forced) (s : State) (old : Option Stored) (o : Object) → header_kept (kept_after all s old o) ≡ image_header_of o
header_after all s old o = by (list_any (is_whole o.number.0) all) old
  where
    by : (b : Bool) (x : Option Stored) → header_kept (cond b (whole_object s o) (followed_or_whole s o x)) ≡ image_header_of o
    by true x = refl
    by false None = refl
    by false (Some x) = refl

-- and says that it is on disk
disk_after : (all : List Forced) (s : State) (old : Option Stored) (o : Object) → (kept_after all s old o).object.on_disk ≡ true
disk_after all s old o = by (list_any (is_whole o.number.0) all) old
  where
    by : (b : Bool) (x : Option Stored) → (cond b (whole_object s o) (followed_or_whole s o x)).object.on_disk ≡ true
    by true x = refl
    by false None = refl
    by false (Some x) = refl

settled_user : (units : UnitMap) (n : ℕ) (b : Body) → profile_of (settled_body units n b) ≡ profile_of b
settled_user units n (bodies.DataSpace d) = refl
settled_user units n (bodies.Journal j) = refl
settled_user units n _ = refl

user_behind : (b old : Body) (u : Special × ℕ) → profile_of b ≡ Some u → profile_of (body_after b old) ≡ Some u
user_behind (bodies.Profile special limit) old u is = is
user_behind _ old u is = cc

user_after : (all : List Forced) (s : State) (old : Option Stored) (o : Object) (u : Special × ℕ) → profile_of o.body ≡ Some u → profile_of (kept_after all s old o).object.body ≡ Some u
user_after all s old o u is = by (list_any (is_whole o.number.0) all) old
  where
    by : (b : Bool) (x : Option Stored) → profile_of (cond b (whole_object s o) (followed_or_whole s o x)).object.body ≡ Some u
    by true x = settled_user s.units o.number.0 o.body ∙ is
    by false None = settled_user s.units o.number.0 o.body ∙ is
    by false (Some x) = user_behind o.body x.object.body u is

-- ---- the objects of a list

-- what is kept of the object that a number leads to
abbrev pub kept_one : List Forced → State → List Stored → Option Object → Option Stored
kept_one all s old None = None
kept_one all s old (Some o) = cond o.on_disk (Some (kept_after all s (kept old o.number.0) o)) None

-- a number below all is that of none
none_below : (n : ℕ) (os : List Object) → AllByRecursion (λ k. nat_cmp n k ≡ Less) (map object_number os) → object_in os n ≡ None
none_below n [] above = refl
none_below n (o ∷ os) above =
    let here : nat_cmp n o.number.0 ≡ Less = above.0 in
    let off : (o.number.0 == n) ≡ false = grind (arith, nat_tests) in
    rw off (none_below n os above.1)

first_kept : (all : List Forced) (s : State) (old : List Stored) (o : Object) (os : List Object) (n : ℕ) → (has_number n o ≡ true → object_in os n ≡ None)
    → kept (flat_map (kept_by_force all s old) os) n ≡ kept_one all s old (object_in os n) → kept (kept_by_force all s old o ++ flat_map (kept_by_force all s old) os) n ≡ kept_one all s old (object_in (o ∷ os) n)
first_kept all s old o os n none rest = by o.on_disk refl (has_number n o) refl
  where
    x : Stored
    x = kept_after all s (kept old o.number.0) o

    same : is_of_number n x ≡ has_number n o
    same = ap (λ (k : ObjNum). k.0 == n) (number_kept all s (kept old o.number.0) o)

    by : (disk : Bool) → o.on_disk ≡ disk → (b : Bool) → has_number n o ≡ b → kept (cond disk (x ∷ []) [] ++ flat_map (kept_by_force all s old) os) n ≡ kept_one all s old (cond b (Some o) (object_in os n))
    by true on true is = rw (same, is, on) refl
    by true on false is = rw (same, is) rest
    by false off true is = rest ∙ ap (kept_one all s old) (none is) ∙ rw off refl
    by false off false is = rest

pub all_kept : (all : List Forced) (s : State) (old : List Stored) (os : List Object) (n : ℕ) → IsStrictlySortedBy nat_cmp (map object_number os)
    → kept (flat_map (kept_by_force all s old) os) n ≡ kept_one all s old (object_in os n)
all_kept all s old [] n rising = refl
all_kept all s old (o ∷ os) n rising =
    let above = sorted_head nat_cmp o.number.0 (map object_number os) rising in
    let rest = all_kept all s old os n (sorted_tail nat_cmp o.number.0 (map object_number os) rising) in
    first_kept all s old o os n (λ is. let here : o.number.0 ≡ n = grind (arith, nat_tests) in subst (λ (k : ℕ). object_in os k ≡ None) here (none_below o.number.0 os above)) rest

-- what is kept under a number after a step
pub kept_after_step : (all : List Forced) (d : Durable) (s : State) (n : ℕ) → NumbersRise s.held → kept (durable_after all d s).objects n ≡ kept_one all s d.objects (object s.held n)
kept_after_step all d s n rising = all_kept all s d.objects s.held.objects n (sorted_from_strictly_increasing (map object_number s.held.objects) rising)

-- ---- it follows the objects

headers_follow : (all : List Forced) (s : State) (old : List Stored) (x : Option Object) → option_map header_kept (kept_one all s old x) ≡ image_header_in x
headers_follow all s old None = refl
headers_follow all s old (Some o) = by o.on_disk
  where
    by : (b : Bool) → option_map header_kept (cond b (Some (kept_after all s (kept old o.number.0) o)) None) ≡ cond b (Some (image_header_of o)) None
    by true = ap (λ (h : Header). Some h) (header_after all s (kept old o.number.0) o)
    by false = refl

users_follow : (all : List Forced) (s : State) (old : List Stored) (y : Option Object) (u : Special × ℕ) (x : Stored) → user_said_in y ≡ Some u → kept_one all s old y ≡ Some x → profile_of x.object.body ≡ Some u
users_follow all s old None u x is there = cc
users_follow all s old (Some o) u x is there = by o.on_disk is there
  where
    same : (a b : Stored) → Some a ≡ Some b → a ≡ b
    same a b h = cc

    by : (b : Bool) → cond b (profile_of o.body) None ≡ Some u → cond b (Some (kept_after all s (kept old o.number.0) o)) None ≡ Some x → profile_of x.object.body ≡ Some u
    by true is there = subst (λ (y : Stored). profile_of y.object.body ≡ Some u) (same (kept_after all s (kept old o.number.0) o) x there) (user_after all s (kept old o.number.0) o u is)
    by false is there = cc

disks_follow : (all : List Forced) (s : State) (old : List Stored) (y : Option Object) (x : Stored) → kept_one all s old y ≡ Some x → x.object.on_disk ≡ true
disks_follow all s old None x there = cc
disks_follow all s old (Some o) x there = by o.on_disk there
  where
    same : (a b : Stored) → Some a ≡ Some b → a ≡ b
    same a b h = cc

    by : (b : Bool) → cond b (Some (kept_after all s (kept old o.number.0) o)) None ≡ Some x → x.object.on_disk ≡ true
    by true there = subst (λ (y : Stored). y.object.on_disk ≡ true) (same (kept_after all s (kept old o.number.0) o) x there) (disk_after all s (kept old o.number.0) o)
    by false there = cc

pub durable_follows : (all : List Forced) (d : Durable) (s : State) → NumbersRise s.held → Follows s.held (durable_after all d s)
durable_follows all d s rising = record {
  headers = λ n. ap (option_map header_kept) (kept_after_step all d s n rising) ∙ headers_follow all s d.objects (object s.held n);
  users = λ n u x is there. users_follow all s d.objects (object s.held n) u x is (sym (kept_after_step all d s n rising) ∙ there);
  disk = λ n x there. disks_follow all s d.objects (object s.held n) x (sym (kept_after_step all d s n rising) ∙ there);
}

-- ---- what is not forced stays

unforced_whole : (n : ℕ) (all : List Forced) → is_forced n all ≡ false → list_any (is_whole n) all ≡ false
unforced_whole n [] unforced = refl
unforced_whole n (Ceiling ∷ all) unforced = unforced_whole n all unforced
unforced_whole n (HeaderOf m ∷ all) unforced = unforced_whole n all (later (m == n) unforced)
  where
    later : (b : Bool) → (b || is_forced n all) ≡ false → is_forced n all ≡ false
    later true h = cc
    later false h = h
unforced_whole n (Whole m ∷ all) unforced = by (unforced_whole n all) (m == n) unforced
  where
    by : (is_forced n all ≡ false → list_any (is_whole n) all ≡ false) → (b : Bool) → (b || is_forced n all) ≡ false → (b || list_any (is_whole n) all) ≡ false
    by rest true h = cc
    by rest false h = rest h
unforced_whole n (Removed m ∷ all) unforced = unforced_whole n all (later (m == n) unforced)
  where
    later : (b : Bool) → (b || is_forced n all) ≡ false → is_forced n all ≡ false
    later true h = cc
    later false h = h

profile_is : (b : Body) (u : Special × ℕ) → profile_of b ≡ Some u → b ≡ bodies.Profile u.0 u.1
profile_is (bodies.Profile special limit) u h = cc
profile_is _ u h = cc

-- a body that is kept stays, where a user's is kept as it is
body_stays : (b old : Body) → ((u : Special × ℕ) → profile_of b ≡ Some u → profile_of old ≡ Some u) → body_after b old ≡ old
body_stays (bodies.Profile special limit) old user = sym (profile_is old (special, limit) (user (special, limit) refl))
body_stays _ old user = refl

-- what is kept of an object whose header it has stays as it is
followed_same : (o : Object) (x : Stored) → x.object.number ≡ o.number → header_kept x ≡ image_header_of o → x.object.on_disk ≡ true
    → ((u : Special × ℕ) → profile_of o.body ≡ Some u → profile_of x.object.body ≡ Some u) → with_header_and_rows o x ≡ x
followed_same o x number header disk user = λ i. record {
  object = record {
    number = sym number i;
    id = sym (ap (λ (h : Header). h.id) header) i;
    context = sym (ap (λ (h : Header). h.context) header) i;
    owner = sym (ap (λ (h : Header). h.standing.owner) header) i;
    public = sym (ap (λ (h : Header). h.standing.public) header) i;
    rows = sym (ap (λ (h : Header). h.standing.rows) header) i;
    on_disk = sym disk i;
    body = body_stays o.body x.object.body user i;
  };
  sequence = x.sequence;
}

kept_number : (n : ℕ) (xs : List Stored) (x : Stored) → kept xs n ≡ Some x → x.object.number.0 ≡ n
kept_number n [] x h = cc
kept_number n (y ∷ xs) x h = by (kept_number n xs x) (y.object.number.0 == n) refl h
  where
    same : Some y ≡ Some x → y ≡ x
    same e = cc

    by : (kept xs n ≡ Some x → x.object.number.0 ≡ n) → (b : Bool) → (y.object.number.0 == n) ≡ b → cond b (Some y) (kept xs n) ≡ Some x → x.object.number.0 ≡ n
    by rest true is h = let here : y.object.number.0 ≡ n = grind (arith, nat_tests) in subst (λ (z : Stored). z.object.number.0 ≡ n) (same h) here
    by rest false is h = rest h

-- ---- outlines

abbrev header_out : Outline → Header
header_out out = record { id = out.id; context = out.context; standing = out.standing }

abbrev user_out : Option Outline → Option (Special × ℕ)
user_out None = None
user_out (Some out) = out.user

header_by : (x : Option Object) → image_header_in x ≡ option_map header_out (outlines.kept_outline x)
header_by None = refl
header_by (Some o) = by o.on_disk
  where
    by : (b : Bool) → cond b (Some (image_header_of o)) None ≡ option_map header_out (cond b (Some (outline_of o)) None)
    by true = refl
    by false = refl

user_by : (x : Option Object) → user_said_in x ≡ user_out (outlines.kept_outline x)
user_by None = refl
user_by (Some o) = by o.on_disk
  where
    by : (b : Bool) → cond b (profile_of o.body) None ≡ user_out (cond b (Some (outline_of o)) None)
    by true = refl
    by false = refl

nothing_mapped : (x : Option Stored) → option_map header_kept x ≡ None → x ≡ None
nothing_mapped None h = refl
nothing_mapped (Some x) h = cc

-- what has one outline before a step and after it, and is not forced whole, is kept as it was
same_kept : (all : List Forced) (s t : State) (d : Durable) (n : ℕ) → Follows s.held d → is_forced n all ≡ false → outline_at t.held n ≡ outline_at s.held n
    → kept_one all t d.objects (object t.held n) ≡ kept d.objects n
same_kept all s t d n follows unforced stays = by (object t.held n) refl
  where
    header : option_map header_kept (kept d.objects n) ≡ option_map header_out (outline_at t.held n)
    header = follows.headers n ∙ header_by (object s.held n) ∙ ap (option_map header_out) (sym stays)

    user : user_said_in (object s.held n) ≡ user_out (outline_at t.held n)
    user = user_by (object s.held n) ∙ ap user_out (sym stays)

    one : (a b : Header) → Some a ≡ Some b → a ≡ b
    one a b h = cc

    absent : outline_at t.held n ≡ None → None ≡ kept d.objects n
    absent none = sym (nothing_mapped (kept d.objects n) (header ∙ ap (option_map header_out) none))

    there : (o : Object) → object t.held n ≡ Some o → outline_at t.held n ≡ Some (outline_of o) → (x : Option Stored) → kept d.objects n ≡ x
        → Some (cond (list_any (is_whole n) all) (whole_object t o) (followed_or_whole t o x)) ≡ x
    there o found out None k = absurd (apart (sym (ap (option_map header_kept) k) ∙ header ∙ ap (option_map header_out) out))
      where
        apart : None ≡ Some (image_header_of o) → ⊥
        apart h = cc
    there o found out (Some x) k = rw (unforced_whole n all unforced) (ap (λ (y : Stored). Some y)
        (followed_same o x
        (λ i. record { 0 = (kept_number n d.objects x k ∙ sym (found_number n o t.held.objects found)) i })
        (one (header_kept x) (image_header_of o) (sym (ap (option_map header_kept) k) ∙ header ∙ ap (option_map header_out) out))
        (follows.disk n x k)
        (λ u is. follows.users n u x (user ∙ ap user_out out ∙ is) k)))

    disk : (o : Object) → object t.held n ≡ Some o → (b : Bool) → o.on_disk ≡ b → cond b (Some (kept_after all t (kept d.objects o.number.0) o)) None ≡ kept d.objects n
    disk o found false off = absent (ap outlines.kept_outline found ∙ rw off refl)
    disk o found true on = subst (λ (k : ℕ). Some (cond (list_any (is_whole k) all) (whole_object t o) (followed_or_whole t o (kept d.objects k))) ≡ kept d.objects n) (sym (found_number n o t.held.objects found))
        (there o found (ap outlines.kept_outline found ∙ rw on refl) (kept d.objects n) refl)

    by : (y : Option Object) → object t.held n ≡ y → kept_one all t d.objects y ≡ kept d.objects n
    by None none = absent (ap outlines.kept_outline none)
    by (Some o) found = disk o found o.on_disk refl

pub unforced_stays : (s : State) (p : ℕ) (e : Event) (d : Durable) (n : ℕ) → NumbersRise (step s p e).state.held → Follows s.held d → is_forced n (must_persist s p e) ≡ false
    → kept (durable_after (must_persist s p e) d (step s p e).state).objects n ≡ kept d.objects n
unforced_stays s p e d n rising follows unforced =
    kept_after_step (must_persist s p e) d (step s p e).state n rising ∙ same_kept (must_persist s p e) s (step s p e).state d n follows unforced (step_outline s p e n unforced)
