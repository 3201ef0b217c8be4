-- What is durable in a state of a run can restart.
use Rattle.std.proofs.Common.{◌≡◌, ◌∙◌, ◌<◌, ◌≤◌, ◌==◌, ◌+◌, ℕ, zero, suc, Bool, true, false, not, Option, Some, None, map, refl, sym, ap, subst, arith}
use Rattle.std.proofs.lemmas.Bool.Decides.{nat_tests}
use Rattle.std.specs.List.Sorted.{IsStrictlyIncreasing}
use Rattle.std.specs.Prelude.{◌&&◌, ◌||◌, ◌≢◌, All, is_some}
use Rattle.s38_base.specs.Ids.{kind_code, same_id, same_kind}
use Rattle.s38_base.specs.Limits.{ceiling_step, last_number, machine_context}
use Rattle.s38_base.specs.declared.id.Id.{Id}
use Rattle.s38_base.specs.declared.id.Kind.TheVariants as kinds
use Rattle.s38_base.specs.declared.id.Kind.{Kind}
use Rattle.s38_base.specs.declared.id.ObjNum.{ObjNum}
use Rattle.s38_durable_state.specs.Durable.{Durable, kept}
use Rattle.s38_durable_state.specs.Following.{Header, header_kept, image_header_of}
use Rattle.s38_image.specs.declared.stored.Stored.{Stored}
use Rattle.s38_laws_flush.proofs.durable.GoesThenLaws.{object_given}
use Rattle.s38_laws_flush.specs.durable.Kept.{AreImages, AreNumbered, IsKeptOf}
use Rattle.s38_objects.specs.Lawful.{IsObjectMap}
use Rattle.s38_laws_images.specs.openings.Fitting.{FitTogether, IsPlaced, is_context_or_gone}
use Rattle.s38_laws_images.specs.openings.Opening.{IsNumbered}
use Rattle.s38_restart.specs.Restarted.{number_in_stored}
use Rattle.s38_rules.specs.families.Contexts.{is_at_home}
use Rattle.s38_rules.specs.families.Creation.{is_of_kind}
use Rattle.s38_rules.specs.state.Held.{Held, is_named, is_there, kind_of, object}
use Rattle.s38_rules.specs.families.Profiles.{officer}
use Rattle.s38_rules.specs.state.State.{State}
use Rattle.s38_rules.specs.declared.object.Object.{Object}
use Rattle.s38_laws_state.proofs.FitTogetherLaws.{Fits}
use Rattle.s38_laws_state.proofs.SeenLaws.{seen}
use Rattle.s38_flush.specs.Stepping.{raised}
use Rattle.s38_laws_recovery.specs.Restartable.{AreCounted, AreKeptLinks, AreReady, IsRestartable}
use Rattle.s38_laws_recovery.specs.Restarting.{AreNamedAlike, CanRestart, FitsAmong, is_home_kind, is_kind_kept, is_kind_or_none}
use Rattle.s38_laws_recovery.proofs.KeptAfterLaws.{in_place, kept_kind, on_kept}

same_back : (a b : Kind) → same_kind a b ≡ same_kind b a
same_back a b = by (kind_code a) (kind_code b)
  where
    by : (m n : ℕ) → (m == n) ≡ (n == m)
    by m n = grind (arith, nat_tests)

number_same : (a b : ℕ) → a ≡ b → (a == b) ≡ true
number_same a b h = grind (arith, nat_tests)

differ : (a b : ℕ) → (a == b) ≡ false → a ≢ b
differ a b off same = absurd (grind (arith, nat_tests))

-- what is kept has the header of an object that is there
pub record IsFoundAs (h : Held) (n : ℕ) (x : Stored) : Type 0 where
  pub one : Object
  pub at : object h n ≡ Some one
  pub header : header_kept x ≡ image_header_of one

-- What is durable goes with some objects: what is kept is of one of them, and is of its kind; the users and the machine context
-- are kept; links are those of the objects, and no image counts in too many entries.
pub record Mirrors (h : Held) (d : Durable) : Type 0 where
  pub place : (n : ℕ) (x : Stored) → kept d.objects n ≡ Some x → IsFoundAs h n x
  pub kind : (n : ℕ) (x : Stored) (o : Object) → kept d.objects n ≡ Some x → object h n ≡ Some o → x.object.id.kind ≡ kind_of o.body
  pub users : (n : ℕ) → is_of_kind kinds.Profile (object h n) ≡ true → is_some (kept d.objects n) ≡ true
  pub machine : is_some (kept d.objects machine_context) ≡ true
  pub links : AreKeptLinks h d
  pub counted : AreCounted d
  pub rising : IsStrictlyIncreasing (map number_in_stored d.objects)
  pub ceiling : d.ceiling ≡ h.ceiling

module _ (h : Held) (d : Durable) (given : AreNumbered h) (lawful : IsObjectMap h) (numbered : All IsNumbered h.objects) (fit : FitTogether h) (ready : AreReady h) (images : AreImages d) (mirrors : Mirrors h d) where
  fits : Fits (λ u. ⊥) h
  fits = seen (λ u. ⊥) h lawful numbered fit (λ u none. absurd none)

  -- what was given is at most the ceiling
  low : (n : ℕ) → n < h.next → n ≤ d.ceiling
  low n less = let same = mirrors.ceiling in let within = given.within in omega (arith, less, same, within)

  -- a user who is there is kept as one
  user_kept : (n : ℕ) → is_of_kind kinds.Profile (object h n) ≡ true → is_kind_kept kinds.Profile (kept d.objects n) ≡ true
  user_kept n user = by (kept d.objects n) refl (mirrors.users n user)
    where
      by : (r : Option Stored) → kept d.objects n ≡ r → is_some r ≡ true → is_kind_kept kinds.Profile (kept d.objects n) ≡ true
      by None at some = absurd (let e : false ≡ true = some in cc)
      by (Some y) at some =
          let place = mirrors.place n y at in
          let kind : same_kind kinds.Profile (kind_of place.one.body) ≡ true = sym (ap (is_of_kind kinds.Profile) place.at) ∙ user in
          ap (is_kind_kept kinds.Profile) at ∙ ap (λ (k : Kind). same_kind k kinds.Profile) (mirrors.kind n y place.one at place.at) ∙ same_back (kind_of place.one.body) kinds.Profile ∙ kind

  module _ (n : ℕ) (x : Stored) (at : kept d.objects n ≡ Some x) where
    place : IsFoundAs h n x
    place = mirrors.place n x at

    abbrev o : Object
    o = place.one

    placed : IsPlaced h o
    placed = fits.each n o place.at

    same_context : x.object.context ≡ o.context
    same_context = ap (λ (v : Header). v.context) place.header

    same_owner : x.object.owner ≡ o.owner
    same_owner = ap (λ (v : Header). v.standing.owner) place.header

    same_name : x.object.id ≡ o.id
    same_name = ap (λ (v : Header). v.id) place.header

    some_number : (m : ℕ) → n ≡ m → 1 ≤ m
    some_number zero same = absurd (let e : Some o ≡ None = sym place.at ∙ ap (object h) same ∙ given.none in cc)
    some_number (suc m) same = omega arith

    at_home : is_home_kind x ≡ true → x.object.context.0 ≡ machine_context
    at_home home =
        let kind = mirrors.kind n x o at place.at in
        let there : is_at_home (Some o) ≡ true =
        ap (λ b. b || same_kind kinds.Profile (kind_of o.body)) (same_back kinds.Context (kind_of o.body)) ∙ ap (λ b. same_kind (kind_of o.body) kinds.Context || b) (same_back kinds.Profile (kind_of o.body))
        ∙ sym (ap (λ (k : Kind). same_kind k kinds.Context || same_kind k kinds.Profile) kind) ∙ home in
        ap (λ (c : ObjNum). c.0) same_context ∙ placed.home there

    in_context : is_kind_or_none kinds.Context (kept d.objects x.object.context.0) ≡ true
    in_context = by (kept d.objects x.object.context.0) refl
      where
        by : (r : Option Stored) → kept d.objects x.object.context.0 ≡ r → is_kind_or_none kinds.Context r ≡ true
        by None found = refl
        by (Some y) found =
            let there = mirrors.place x.object.context.0 y found in
            let context : is_context_or_gone (object h x.object.context.0) ≡ true = ap (λ (c : ObjNum). is_context_or_gone (object h c.0)) same_context ∙ placed.context in
            let kind : same_kind kinds.Context (kind_of there.one.body) ≡ true = sym (ap is_context_or_gone there.at) ∙ context in
            ap (λ (k : Kind). same_kind k kinds.Context) (mirrors.kind x.object.context.0 y there.one found there.at) ∙ same_back (kind_of there.one.body) kinds.Context ∙ kind

    -- ---- no other object has its name

    apart : (k : ℕ) (y : Stored) → kept d.objects k ≡ Some y → AreNamedAlike d x y → k ≡ n
    apart k y found alike = by (n == k) refl
      where
        other : IsFoundAs h k y
        other = mirrors.place k y found

        -- the context is there, so its number is not 0
        context_there : is_there h o.context.0 ≡ true
        context_there = ap (λ (c : ObjNum). is_there h c.0) (sym same_context) ∙ there (kept d.objects x.object.context.0) refl alike.kept
          where
            there : (r : Option Stored) → kept d.objects x.object.context.0 ≡ r → is_some r ≡ true → is_there h x.object.context.0 ≡ true
            there None none some = absurd (let e : false ≡ true = some in cc)
            there (Some v) is_kept some = ap is_some (mirrors.place x.object.context.0 v is_kept).at

        some_context : (c : ℕ) → is_there h c ≡ true → not (c == 0) ≡ true
        some_context zero there = absurd (let e : false ≡ true = sym (ap is_some given.none) ∙ there in cc)
        some_context (suc c) there = let off : (suc c == 0) ≡ false = grind (arith, nat_tests) in ap not off

        inside : (other.one.context.0 == o.context.0) ≡ true
        inside = number_same other.one.context.0 o.context.0 (sym (ap (λ (v : Header). v.context.0) other.header) ∙ alike.context ∙ ap (λ (c : ObjNum). c.0) same_context)

        ids : same_id other.one.id o.id ≡ true
        ids = ap (λ (i : Id). same_id i o.id) (sym (ap (λ (v : Header). v.id) other.header)) ∙ ap (same_id y.object.id) (sym same_name) ∙ alike.id

        both : (a b c : Bool) → a ≡ true → b ≡ true → c ≡ true → ((a && b) && c) ≡ true
        both a b c p q r = rw (p, q, r) refl

        named : is_named o.context.0 o.id other.one ≡ true
        named = both (not (o.context.0 == 0)) (other.one.context.0 == o.context.0) (same_id other.one.id o.id) (some_context o.context.0 context_there) inside ids

        by : (b : Bool) → (n == k) ≡ b → k ≡ n
        by true same = grind (arith, nat_tests)
        by false off = absurd (let e : true ≡ false = sym named ∙ fits.told n k o other.one place.at other.at (differ n k off) context_there in cc)

    pub one_fits : FitsAmong d n x
    one_fits = record {
      first = some_number n refl;
      given = low n (object_given h n o given place.at);
      owner = ap (λ (u : ObjNum). is_kind_kept kinds.Profile (kept d.objects u.0)) same_owner ∙ user_kept o.owner.0 placed.owner;
      home = at_home;
      placed = let less = placed.given in low x.object.context.0 (subst (λ (c : ObjNum). c.0 < h.next) (sym same_context) less);
      context = in_context;
      apart = apart;
      port = λ b own. let less = ready.linked.port n in let same = mirrors.links.space n x b at own in low b.port.0 (omega (arith, less, same));
      journal = λ p own. low p.journal.0 (ready.ports n p (mirrors.links.port n x p at own));
      counted = λ b j own to. mirrors.counted n x b j at own to;
    }

  pub can_by : CanRestart d
  can_by = record {
    images = images;
    rising = mirrors.rising;
    ceiling = let same = mirrors.ceiling in let most = given.low in omega (arith, same, most);
    machine = mirrors.machine;
    first_user = user_kept officer ready.first_user;
    each = λ n x at. one_fits n x at;
  }

-- ---- what is durable in a state of a run

kept_mirrors : (s : State) (d : Durable) → IsKeptOf s d → IsRestartable s d → Mirrors s.held d
kept_mirrors s d is ready = record {
  place = λ n x at. let place = in_place s.held d n x is.follows at in record { one = place.one; at = place.at; header = place.header };
  kind = λ n x o at found. sym (is.bodies n x at) ∙ kept_kind s d n x o is at found;
  users = λ n user. ap is_some (on_kept s.held d n is.follows (ready.ready.users n user)).1;
  machine = ap is_some (on_kept s.held d machine_context is.follows ready.ready.machine_disk).1;
  links = ready.links;
  counted = ready.counted;
  rising = ready.rising;
  ceiling = is.ceiling;
}

pub can_restart : (s : State) (d : Durable) → IsKeptOf s d → IsObjectMap s.held → All IsNumbered s.held.objects → FitTogether s.held → AreImages d → IsRestartable s d → CanRestart d
can_restart s d is lawful numbered fit images ready = can_by s.held d is.numbered lawful numbered fit ready.ready images (kept_mirrors s d is ready)

-- with a higher ceiling, which a store can keep, it can as well
pub can_raised : (d : Durable) (s : State) → d.ceiling ≤ s.held.ceiling → s.held.ceiling ≤ last_number + ceiling_step → CanRestart d → CanRestart (raised d s)
can_raised d s more most can = record {
  images = can.images;
  rising = can.rising;
  ceiling = most;
  machine = can.machine;
  first_user = can.first_user;
  each = λ n x at. let fits = can.each n x at in record {
    first = fits.first;
    given = let low = fits.given in omega (arith, low, more);
    owner = fits.owner;
    home = fits.home;
    placed = let low = fits.placed in omega (arith, low, more);
    context = fits.context;
    apart = λ k y found alike. fits.apart k y found (record { kept = alike.kept; context = alike.context; id = alike.id });
    port = λ b own. let low = fits.port b own in omega (arith, low, more);
    journal = λ p own. let low = fits.journal p own in omega (arith, low, more);
    counted = fits.counted;
  };
}
