-- The changes of one number after another.
use Rattle.std.proofs.Common.{◌≡◌, ◌+◌, ◌==◌, ◌<◌, ◌≤◌, ◌∙◌, ◌∷◌, ◌++◌, [], Bool, List, None, Option, Some, ap, append-nil, arith, cond, drop, drop-cons, false, get_or, length, refl, subst, suc, sym, take, true, ℕ}
use Rattle.std.proofs.Math.Seq.{take-suc}
use Rattle.std.proofs.lemmas.Bool.Decides.{nat_tests}
use Rattle.std.proofs.lemmas.Grind.{flat_map-append}
use Rattle.std.proofs.lemmas.List.{map-append, take_all}
use Rattle.std.specs.FinMap.{get}
use Rattle.std.specs.List.{AllByRecursion, list_any}
use Rattle.std.specs.Prelude.{◌||◌, All}
use Rattle.s38_base.specs.declared.page.Change.{Change}
use Rattle.s38_base.specs.declared.page.Key.{Key}
use Rattle.s38_base.specs.declared.page.Page.{Page}
use Rattle.s38_commits.specs.Units.{UnitMap}
use Rattle.s38_durable_state.specs.Durable.{Durable, durable_after, followed_or_whole, kept, kept_after, whole_object, whole_stored}
use Rattle.s38_durable_state.specs.Following.{NumbersRise}
use Rattle.s38_durable_state.specs.Represents.{aim_of, aims_of, ceiling_parts, is_among, parts_at, parts_in}
use Rattle.s38_page_diff.proofs.WalkLaws.{object_below}
use Rattle.s38_page_diff.specs.Aims.{Aim, all_differences}
use Rattle.s38_page_diff.specs.Differences.{differences}
use Rattle.s38_image.specs.PartPlaces.{ceiling_key}
use Rattle.s38_image.specs.Images.{image_parts}
use Rattle.s38_image.specs.declared.stored.Stored.{Stored}
use Rattle.s38_image_writer.proofs.DataLaws.{found_fits}
use Rattle.s38_checkpoint.proofs.PartLaws.{rising_on}
use Rattle.s38_page_diff.proofs.reconcile.SoFarLaws.{all_of, all_on, stays_on}
use Rattle.s38_page_diff.specs.reconcile.Replacing.{range_of}
use Rattle.s38_page_diff.specs.reconcile.Walking.{Stays}
use Rattle.s38_laws_objects.specs.Outline.{is_forced}
use Rattle.s38_rules.proofs.ChargeLaws.{found_number}
use Rattle.s38_rules.specs.store.Forcing.{Forced, is_whole}
use Rattle.s38_rules.specs.state.Held.{Held, has_number, object, object_in}
use Rattle.s38_rules.specs.state.State.{State}
use Rattle.s38_rules.specs.declared.object.Object.{Object}
use Rattle.s38_vault.specs.Content.{AreRising, Content}
use Rattle.s38_vault.specs.Vaults.{VaultView}
use Rattle.s38_flush.proofs.AfterLaws.{kept_after_step, kept_one, parts_after_step}
use Rattle.s38_flush.proofs.FollowedLaws.{whole_same}
use Rattle.s38_flush.proofs.NumberLaws.{AreAbove, Rise, numbers_are, numbers_rise}
use Rattle.s38_flush.specs.Fronts.{AddsAt}
use Rattle.s38_flush.specs.Numbers.{numbers}
use Rattle.s38_flush.specs.Stepping.{AreNumbers, HasHeader, HasHeaderIn, IsNumber, Precedes, ceiling_changes, is_forced_ceiling, kept_there, object_changes}

-- ---- an object that is there

-- one that must persist whole
pub there_whole : (all : List Forced) (h : Held) (us : UnitMap) (m : Content) (d : Durable) (s : State) (o : Object) → Precedes h us m d s → o.on_disk ≡ true → list_any (is_whole o.number.0) all ≡ true
    → parts_in (kept_there all s d.objects o) ≡ image_parts (whole_stored us h o)
there_whole all h us m d s o p on forced =
    ap (λ b. parts_in (cond b (Some (kept_after all s (kept d.objects o.number.0) o)) None)) on
    ∙ ap (λ b. image_parts (cond b (whole_object s o) (followed_or_whole s o (kept d.objects o.number.0)))) forced
    ∙ ap (λ (x : Stored). image_parts x) (whole_same h us m d s p o)

-- one that is not
pub there_followed : (all : List Forced) (s : State) (old : List Stored) (o : Object) → o.on_disk ≡ true → list_any (is_whole o.number.0) all ≡ false
    → parts_in (kept_there all s old o) ≡ image_parts (followed_or_whole s o (kept old o.number.0))
there_followed all s old o on not =
    ap (λ b. parts_in (cond b (Some (kept_after all s (kept old o.number.0) o)) None)) on
    ∙ ap (λ b. image_parts (cond b (whole_object s o) (followed_or_whole s o (kept old o.number.0)))) not

-- ---- its header

pub header_off : (all : List Forced) (s : State) (old : List Stored) (o : Object) → o.on_disk ≡ false → HasHeaderIn (kept_there all s old o)
header_off all s old o off = subst (λ b. HasHeaderIn (cond b (Some (kept_after all s (kept old o.number.0) o)) None)) (sym off) tt

pub header_whole : (all : List Forced) (h : Held) (us : UnitMap) (m : Content) (d : Durable) (s : State) (o : Object) → Precedes h us m d s → o.on_disk ≡ true → list_any (is_whole o.number.0) all ≡ true
    → HasHeader (whole_stored us h o) → HasHeaderIn (kept_there all s d.objects o)
header_whole all h us m d s o p on forced has =
    subst (λ b. HasHeaderIn (cond b (Some (kept_after all s (kept d.objects o.number.0) o)) None)) (sym on)
    (subst (λ b. HasHeader (cond b (whole_object s o) (followed_or_whole s o (kept d.objects o.number.0)))) (sym forced) (subst HasHeader (sym (whole_same h us m d s p o)) has))

pub header_followed : (all : List Forced) (s : State) (old : List Stored) (o : Object) → o.on_disk ≡ true → list_any (is_whole o.number.0) all ≡ false → HasHeader (followed_or_whole s o (kept old o.number.0)) → HasHeaderIn (kept_there all s old o)
header_followed all s old o on not has =
    subst (λ b. HasHeaderIn (cond b (Some (kept_after all s (kept old o.number.0) o)) None)) (sym on)
    (subst (λ b. HasHeader (cond b (whole_object s o) (followed_or_whole s o (kept old o.number.0)))) (sym not) has)

-- ---- the object of a number

-- what holds of all objects holds of that one
pub found_is : (P : Object → Type 0) (h : Held) (n : ℕ) (o : Object) → All P h.objects → object h n ≡ Some o → P o
found_is P h n o all there = (found_fits P (has_number n) h.objects o all there).0

pub found_at : (h : Held) (n : ℕ) (o : Object) → object h n ≡ Some o → o.number.0 ≡ n
found_at h n o there = found_number n o h.objects there

pub found_own : (h : Held) (n : ℕ) (o : Object) → object h n ≡ Some o → object_in h.objects o.number.0 ≡ Some o
found_own h n o there = ap (object_in h.objects) (found_at h n o there) ∙ there

module _ (all : List Forced) (h : Held) (us : UnitMap) (m : Content) (d : Durable) (s : State) (p : Precedes h us m d s) (n : ℕ) (low : n < ceiling_key) (rising : NumbersRise h) where
  sorted : NumbersRise s.held
  sorted = subst NumbersRise (sym p.held) rising

  -- the parts that the number of an object that is there is to have
  pub number_there : (o : Object) → object h n ≡ Some o → parts_at (durable_after all d s) n ≡ parts_in (kept_there all s d.objects o)
  number_there o there =
      parts_after_step all d s n sorted low
      ∙ ap (λ (x : Option Object). parts_in (kept_one all s d.objects x)) (ap (λ (g : Held). object g n) p.held ∙ there)

  -- and what is kept under it
  pub kept_number_there : (o : Object) → object h n ≡ Some o → kept (durable_after all d s).objects n ≡ kept_there all s d.objects o
  kept_number_there o there = kept_after_step all d s n sorted ∙ ap (λ (x : Option Object). kept_one all s d.objects x) (ap (λ (g : Held). object g n) p.held ∙ there)

  pub kept_number_none : object h n ≡ None → kept (durable_after all d s).objects n ≡ None
  kept_number_none none = kept_after_step all d s n sorted ∙ ap (λ (x : Option Object). kept_one all s d.objects x) (ap (λ (g : Held). object g n) p.held ∙ none)

  -- nothing is, where none is there
  pub number_none : object h n ≡ None → parts_at (durable_after all d s) n ≡ []
  number_none none =
      parts_after_step all d s n sorted low
      ∙ ap (λ (x : Option Object). parts_in (kept_one all s d.objects x)) (ap (λ (g : Held). object g n) p.held ∙ none)

-- ---- changes after changes of lower numbers

rising_more : (n : ℕ) (cs ds : List Change) → AllByRecursion (λ c. c.key.object < n) cs → AllByRecursion (λ d. d.key.object ≡ n) ds → AreRising cs → AreRising ds → AreRising (cs ++ ds)
rising_more n [] ds low own first last = last
rising_more n (c ∷ []) ds low own first last = rising_on c ds (all_of _ _ ds (λ d is. object_below c.key d.key (omega (arith, is, low.0))) own) last
rising_more n (c ∷ d ∷ cs) ds low own first last = (first.0, rising_more n (d ∷ cs) ds low.1 own first.1 last)

-- all changes are of lower numbers than each of these
abbrev pub AreBelow : List Change → List ℕ → Type 0
AreBelow cs ns = AllByRecursion (λ n. AllByRecursion (λ c. c.key.object < n) cs) ns

below_more : (n : ℕ) (cs ds : List Change) (ns : List ℕ) → AreAbove n ns → AllByRecursion (λ d. d.key.object ≡ n) ds → AreBelow cs ns → AreBelow (cs ++ ds) ns
unfolding AreAbove
below_more n cs ds [] above own below = tt
below_more n cs ds (k ∷ ns) above own below =
    (all_on _ cs ds below.0 (all_of _ _ ds (λ d is. omega (arith, is, above.0)) own), below_more n cs ds ns above.1 own below.1)

none_below : (ns : List ℕ) → AreBelow [] ns
none_below [] = tt
none_below (n ∷ ns) = (tt, none_below ns)

-- ---- numbers

-- what holds of all holds of one that is among them
among_all : (P : ℕ → Type 0) (ns : List ℕ) → AllByRecursion P ns → (n : ℕ) → is_among n ns ≡ true → P n
among_all P [] each n is = absurd cc
among_all P (k ∷ ns) each n is = by (n == k) refl is (among_all P ns each.1 n)
  where
    by : (b : Bool) → (n == k) ≡ b → (b || is_among n ns) ≡ true → (is_among n ns ≡ true → P n) → P n
    by true same among rest = let one : n ≡ k = grind (arith, nat_tests) in subst P (sym one) each.0
    by false same among rest = rest among

all_with : (P : ℕ → Type 0) (ns : List ℕ) (n : ℕ) → AllByRecursion P ns → P n → AllByRecursion P (ns ++ n ∷ [])
all_with P [] n each here = (here, tt)
all_with P (k ∷ ns) n each here = (each.0, all_with P ns n each.1 here)

-- of what is kept under a number after a step the header can be read
abbrev pub HasHeaderAt : List Forced → Durable → State → ℕ → Type 0
HasHeaderAt all d s n = HasHeaderIn (kept (durable_after all d s).objects n)

-- ---- so far

-- the changes of the numbers before a place, which are of objects; those from it on rise, and are above
pub record AreSoFar {V : Type 0} (view : V → VaultView) (holds : V → Content → Type 0) (leaves : V → ℕ → Content → Type 0) (all : List Forced) (h : Held) (us : UnitMap) (old now : V) (ns : List ℕ) (at : ℕ) (into : List Change) : Type 0 where
  pub told : (m : Content) (d : Durable) (s : State) → holds old m → Precedes h us m d s → into ≡ all_differences (get m) (aims_of (durable_after all d s) (take at ns))
  pub headers : (m : Content) (d : Durable) (s : State) → holds old m → Precedes h us m d s → AllByRecursion (HasHeaderAt all d s) (take at ns)
  pub rising : AreRising into
  pub objects : AllByRecursion (λ c. IsNumber c.key.object) into
  pub below : AreBelow into (drop at ns)
  pub rise : Rise (drop at ns)
  pub each : AllByRecursion IsNumber (drop at ns)
  pub stays : Stays view holds leaves old now
  pub count : (view now).faults ≡ (view old).faults

first_above : (n : ℕ) (ks : List ℕ) → Rise (n ∷ ks) → AreAbove n ks
unfolding Rise
first_above n ks h = h.0

later_rise : (n : ℕ) (ks : List ℕ) → Rise (n ∷ ks) → Rise ks
unfolding Rise
later_rise n ks h = h.1

one_aim : (pages : Key → Option Page) (d : Durable) (ks : List ℕ) (n : ℕ) → all_differences pages (aims_of d (ks ++ n ∷ [])) ≡ all_differences pages (aims_of d ks) ++ differences pages (range_of n) (parts_at d n)
one_aim pages d ks n =
    ap (all_differences pages) (map-append (aim_of d) ks (n ∷ []))
    ∙ flat_map-append (λ (aim : Aim). differences pages aim.range aim.wanted) (aims_of d ks) (aim_of d n ∷ [])
    ∙ ap (λ (cs : List Change). all_differences pages (aims_of d ks) ++ cs) (append-nil (differences pages (range_of n) (parts_at d n)))

pub each_is : (all : List Forced) (ns : List ℕ) → AreNumbers all → ((n : ℕ) → is_among n ns ≡ true → is_forced n all ≡ true) → AllByRecursion IsNumber ns
each_is all [] are among = tt
each_is all (n ∷ ns) are among =
    let here : (n == n) ≡ true = grind (arith, nat_tests) in
    (are n (among n (ap (λ b. b || is_among n ns) here)), each_is all ns are (λ k is. among k (ap (λ b. (k == n) || b) is ∙ last (k == n))))
  where
    last : (b : Bool) → (b || true) ≡ true
    last true = refl
    last false = refl

module _ {V : Type 0} {view : V → VaultView} {holds : V → Content → Type 0} {leaves : V → ℕ → Content → Type 0} (all : List Forced) (h : Held) (us : UnitMap) where
  pub each_begun : (old : V) (ns : List ℕ) (into : List Change) → AreNumbers all → ns ≡ numbers all → into ≡ [] → Stays view holds leaves old old → AreSoFar view holds leaves all h us old old ns 0 into
  each_begun old ns into are is none stays = record {
    told = λ m d s held p. none;
    headers = λ m d s held p. tt;
    rising = subst AreRising (sym none) tt;
    objects = subst (λ (cs : List Change). AllByRecursion (λ c. IsNumber c.key.object) cs) (sym none) tt;
    below = subst (λ (cs : List Change). AreBelow cs ns) (sym none) (none_below ns);
    rise = subst Rise (sym is) (numbers_rise all);
    each = each_is all ns are (λ n among. sym (numbers_are n all) ∙ ap (is_among n) (sym is) ∙ among);
    stays = stays;
    count = refl;
  }

  pub each_on : (old now new : V) (ns : List ℕ) (at n : ℕ) (into items : List Change) → AreSoFar view holds leaves all h us old now ns at into → at < length ns → drop at ns ≡ n ∷ drop (at + 1) ns → take (at + 1) ns ≡ take at ns ++ n ∷ []
      → ((m : Content) (d : Durable) (s : State) → holds now m → Precedes h us m d s → items ≡ into ++ differences (get m) (range_of n) (parts_at (durable_after all d s) n))
      → ((m : Content) (d : Durable) (s : State) → holds now m → Precedes h us m d s → HasHeaderAt all d s n)
      → AddsAt n into items → Stays view holds leaves now new → (view new).faults ≡ (view now).faults → AreSoFar view holds leaves all h us old new ns (at + 1) items
  each_on old now new ns at n into items was within here more told header adds stays count =
      let rest = drop (at + 1) ns in
      let below : AreBelow into (n ∷ rest) = subst (AreBelow into) here was.below in
      let rise : Rise (n ∷ rest) = subst Rise here was.rise in
      let each : AllByRecursion IsNumber (n ∷ rest) = subst (AllByRecursion IsNumber) here was.each in
      let own = adds.own in
      record {
        told = λ m d s held p.
            told m d s ((was.stays.held m).0 held) p
            ∙ ap (λ (cs : List Change). cs ++ differences (get m) (range_of n) (parts_at (durable_after all d s) n)) (was.told m d s held p)
            ∙ sym (one_aim (get m) (durable_after all d s) (take at ns) n)
            ∙ ap (λ (ks : List ℕ). all_differences (get m) (aims_of (durable_after all d s) ks)) (sym more);
        headers = λ m d s held p.
            subst (AllByRecursion (HasHeaderAt all d s)) (sym more) (all_with (HasHeaderAt all d s) (take at ns) n (was.headers m d s held p) (header m d s ((was.stays.held m).0 held) p));
        rising = subst AreRising (sym adds.added) (rising_more n into adds.more below.0 own was.rising adds.rising);
        objects = subst (λ (cs : List Change). AllByRecursion (λ c. IsNumber c.key.object) cs) (sym adds.added)
            (all_on _ into adds.more was.objects (all_of _ _ adds.more (λ c is. subst IsNumber (sym is) each.0) own));
        below = subst (λ (cs : List Change). AreBelow cs rest) (sym adds.added) (below_more n into adds.more rest (first_above n rest rise) own below.1);
        rise = later_rise n rest rise;
        each = each.1;
        stays = stays_on old now new was.stays stays;
        count = count ∙ was.count;
      }

  pub each_done : (old now : V) (ns : List ℕ) (at : ℕ) (into : List Change) → AreSoFar view holds leaves all h us old now ns at into → length ns ≤ at → ns ≡ numbers all
      → (m : Content) (d : Durable) (s : State) → holds old m → Precedes h us m d s → into ≡ object_changes all (get m) (durable_after all d s)
  each_done old now ns at into was end is m d s held p =
      was.told m d s held p ∙ ap (λ (ks : List ℕ). all_differences (get m) (aims_of (durable_after all d s) ks)) (take_all at ns end ∙ is)

  pub each_headed : (old now : V) (ns : List ℕ) (at : ℕ) (into : List Change) → AreSoFar view holds leaves all h us old now ns at into → length ns ≤ at → ns ≡ numbers all
      → (m : Content) (d : Durable) (s : State) → holds old m → Precedes h us m d s → (n : ℕ) → is_forced n all ≡ true → HasHeaderAt all d s n
  each_headed old now ns at into was end is m d s held p n speaks =
      among_all (HasHeaderAt all d s) (numbers all) (subst (AllByRecursion (HasHeaderAt all d s)) (take_all at ns end ∙ is) (was.headers m d s held p)) n (numbers_are n all ∙ speaks)

-- a place of a list
pub at_place : (at d : ℕ) (ns : List ℕ) → at < length ns → drop at ns ≡ get_or ns at d ∷ drop (at + 1) ns
at_place at d ns within =
    let next : suc at ≡ at + 1 = omega arith in
    drop-cons ns at d within ∙ ap (λ (k : ℕ). get_or ns at d ∷ drop k ns) next

pub to_place : (at d : ℕ) (ns : List ℕ) → at < length ns → take (at + 1) ns ≡ take at ns ++ get_or ns at d ∷ []
to_place at d ns within =
    let next : at + 1 ≡ suc at = omega arith in
    ap (λ (k : ℕ). take k ns) next ∙ take-suc ns at d within

-- ---- the ceiling

pub ceiling_told : (all : List Forced) (pages : Key → Option Page) (d : Durable) (s : State) (h : Held) (old new : List Change) → list_any is_forced_ceiling all ≡ true → s.held ≡ h → old ≡ []
    → new ≡ old ++ differences pages (range_of ceiling_key) (ceiling_parts h.ceiling) → new ≡ ceiling_changes all pages (durable_after all d s)
ceiling_told all pages d s h old new forced held none is =
    is ∙ ap (λ (cs : List Change). cs ++ differences pages (range_of ceiling_key) (ceiling_parts h.ceiling)) none
    ∙ ap (λ (g : Held). differences pages (range_of ceiling_key) (ceiling_parts g.ceiling)) (sym held)
    ∙ sym (append-nil (differences pages (range_of ceiling_key) (ceiling_parts s.held.ceiling)))
    ∙ ap (λ b. all_differences pages (aims_of (durable_after all d s) (cond b (ceiling_key ∷ []) []))) (sym forced)

pub ceiling_none : (all : List Forced) (pages : Key → Option Page) (d : Durable) (s : State) (old : List Change) → list_any is_forced_ceiling all ≡ false → old ≡ [] → old ≡ ceiling_changes all pages (durable_after all d s)
ceiling_none all pages d s old not none =
    none ∙ ap (λ b. all_differences pages (aims_of (durable_after all d s) (cond b (ceiling_key ∷ []) []))) (sym not)

-- where nothing was before
pub added_rising : (n : ℕ) (old new : List Change) → old ≡ [] → AddsAt n old new → AreRising new
added_rising n old new none adds = subst AreRising (sym (adds.added ∙ ap (λ (cs : List Change). cs ++ adds.more) none)) adds.rising

pub added_own : (n : ℕ) (old new : List Change) → old ≡ [] → AddsAt n old new → AllByRecursion (λ c. c.key.object ≡ n) new
added_own n old new none adds =
    subst (λ (cs : List Change). AllByRecursion (λ c. c.key.object ≡ n) cs) (sym (adds.added ∙ ap (λ (cs : List Change). cs ++ adds.more) none)) adds.own
