-- A step that is permitted finds room for what it forces.
use Rattle.std.proofs.Common.{◌≡◌, ◌+◌, ◌-◌, ◌<◌, ◌==◌, ◌≤◌, ◌∙◌, ◌∷◌, ◌++◌, [], Bool, List, None, Option, Some, ap, arith, cond, false, length, lit≤, refl, subst, sym, true, ℕ}
use Rattle.std.proofs.lemmas.Bool.Decides.{nat_tests}
use Rattle.std.proofs.lemmas.List.Sums.{sum_by-cons}
use Rattle.std.proofs.lemmas.List.{append-nil, length-append}
use Rattle.std.specs.FinMap.{contains_key, get, keys, len}
use Rattle.std.specs.List.Sorted.{IsStrictlySortedBy}
use Rattle.std.specs.List.{AllByRecursion, list_any}
use Rattle.std.specs.Option.{option_map}
use Rattle.std.specs.Prelude.{◌||◌, All, is_some, map, sum_by}
use Rattle.s38_base.specs.declared.page.Change.{Change}
use Rattle.s38_base.specs.declared.page.Key.{Key}
use Rattle.s38_base.specs.declared.page.Page.{Page}
use Rattle.s38_checkpoint.proofs.PartLaws.{both_parts, ceiling_wanted}
use Rattle.s38_codec.proofs.FormatLaws.{length_copies}
use Rattle.s38_codec.specs.Codec.{copies}
use Rattle.s38_commits.proofs.MapLaws.{nat_same}
use Rattle.s38_durable_state.specs.Durable.{Durable, durable_after, kept, kept_after}
use Rattle.s38_durable_state.specs.Following.{NumbersRise, StaysUserIn, StaysUserOf, extent_in}
use Rattle.s38_durable_state.specs.Represents.{Represents, aim_of, aims_of, ceiling_parts, is_among, page_of, parts_at, parts_end, parts_in}
use Rattle.s38_page_diff.proofs.AimLaws.{aims_new}
use Rattle.s38_page_diff.proofs.WalkLaws.{key_at}
use Rattle.s38_page_diff.proofs.WantedLaws.{in_range}
use Rattle.s38_page_diff.specs.Aims.{Aim, all_differences, wanted_new}
use Rattle.s38_page_diff.specs.Differences.{HavePages, IsWanted, wanted_at}
use Rattle.s38_image.proofs.AgainLaws.{header_long}
use Rattle.s38_image.specs.Bodies.{body_bytes, body_tags}
use Rattle.s38_image.specs.Faults.{ceiling_page}
use Rattle.s38_image.specs.PartPlaces.{ceiling_key}
use Rattle.s38_image.specs.Images.{body_parts, image_of, image_parts, stored_header}
use Rattle.s38_image.specs.Pages.{needed, no_tags}
use Rattle.s38_image.specs.declared.stored.Stored.{Stored}
use Rattle.s38_image_writer.proofs.DataLaws.{found_fits}
use Rattle.s38_image_writer.proofs.PartLaws.{stream_long}
use Rattle.s38_page_diff.proofs.reconcile.SoFarLaws.{all_of, wanted_whole}
use Rattle.s38_page_diff.specs.reconcile.Replacing.{range_of}
use Rattle.s38_rules.proofs.ChargeLaws.{found_number}
use Rattle.s38_rules.specs.store.Forcing.{Forced, extent_after, new_parts, new_parts_of}
use Rattle.s38_rules.specs.state.Held.{has_number, object, object_in}
use Rattle.s38_rules.specs.store.Room.{Extent, Room, extent_at, image_len, more_parts, pages_begun, rows_pages}
use Rattle.s38_rules.specs.store.Room as rooms
use Rattle.s38_rules.specs.state.State.{State}
use Rattle.s38_rules.specs.declared.object.Object.{Object}
use Rattle.s38_vault.specs.Content.{Content}
use Rattle.s38_vault.specs.Directory.{Keys, new_keys}
use Rattle.s38_vault.specs.Keys.{key_cmp}
use Rattle.s38_flush.proofs.AfterLaws.{kept_after_step, kept_one, parts_after_step, parts_below}
use Rattle.s38_laws_flush.proofs.durable.CountLaws.{firsts, firsts_cover, firsts_long, is_key_of, key_either, key_wanted, keys_few}
use Rattle.s38_laws_flush.proofs.durable.ExtentLaws.{extent_found, extent_same}
use Rattle.s38_flush.proofs.FrontLaws.{front_are, parts_split, stream_from}
use Rattle.s38_flush.proofs.KeptLaws.{kept_number}
use Rattle.s38_flush.proofs.NumberLaws.{Rise, numbers_rise}
use Rattle.s38_laws_flush.proofs.durable.SizeLaws.{body_low, body_there, header_there, parts_long, parts_new, rows_low, rows_there}
use Rattle.s38_laws_flush.proofs.durable.StreamLaws.{HaveParts, stream_new, stream_there}
use Rattle.s38_laws_flush.proofs.durable.SumLaws.{found_few, found_sum, in_case, sum_most}
use Rattle.s38_flush.specs.Numbers.{numbers}
use Rattle.s38_flush.specs.Stepping.{HasHeader, HaveHeaders, IsNumber}

none_there : (ks : Keys) (n first : ℕ) → HaveParts ks n first 0
none_there ks n first p low high = absurd (omega (arith, low, high))

-- ---- what is wanted of an object

pub wanted_object : (y : Stored) (n : ℕ) → y.object.number.0 ≡ n → HasHeader y → IsWanted (range_of n) (image_parts y)
wanted_object y n own has =
    let k = y.object.number.0 in
    let bytes = body_bytes y.object.id.kind (image_of y) in
    let front = front_are y.object (stored_header y).body (header_long (stored_header y) has.fits) has.rows in
    let body = stream_from k 128 bytes (body_tags y.object.id.kind (image_of y)) in
    let end : 128 + needed (length bytes) ≤ parts_end = let low = body_low y has in omega (arith, low, ap needed has.long) in
    let all = both_parts k 0 128 (128 + needed (length bytes)) _ _ (lit≤ tt) (omega arith) front body in
    subst (λ (cs : List Change). IsWanted (range_of n) cs) (sym (parts_split y))
    (record {
      rising = all.rising;
      in_range = all_of _ _ _ (λ c h. in_range (range_of n) c.key (h.of_it ∙ own) (omega arith) (omega (arith, h.before, end))) all.each;
    })

module _ (ks : Keys) (m : Content) (d : Durable) (have : HavePages ks (get m)) (stands : Represents m d) (headers : HaveHeaders d) where
  -- ---- an object

  there : (n p : ℕ) (x : Stored) → n < ceiling_key → p < parts_end → kept d.objects n ≡ Some x → is_some (wanted_at (image_parts x) (key_at n p)) ≡ true → contains_key ks (key_at n p) ≡ true
  there n p x low near is some =
      sym (have (key_at n p)) ∙ ap is_some (stands.each (key_at n p) near)
      ∙ ap (λ (cs : List Change). is_some (wanted_at cs (key_at n p))) (parts_below d n low ∙ ap parts_in is) ∙ some

  object_new : (n : ℕ) (y : Stored) → n < ceiling_key → y.object.number.0 ≡ n → HasHeader y → new_keys ks (image_parts y) ≤ more_parts (option_map extent_in (kept d.objects n)) (extent_in y)
  object_new n y low own has = by (kept d.objects n) refl
    where
      by : (o : Option Stored) → kept d.objects n ≡ o → new_keys ks (image_parts y) ≤ more_parts (option_map extent_in o) (extent_in y)
      by None is =
          let few = parts_new y has ks 0 0 0 (none_there ks y.object.number.0 0) (none_there ks y.object.number.0 1) (none_there ks y.object.number.0 128) in
          omega (arith, few)
      by (Some x) is =
          let hx : HasHeader x = headers n x is in
          let nx : x.object.number.0 ≡ n = kept_number n d.objects x is in
          let rx = rows_low x hx in
          let bx = body_low x hx in
          let at : (p : ℕ) → p < parts_end → is_some (wanted_at (image_parts x) (key_at x.object.number.0 p)) ≡ true → contains_key ks (key_at y.object.number.0 p) ≡ true =
          λ p near some. ap (λ (k : ℕ). contains_key ks (key_at k p)) own ∙ there n p x low near is (ap (λ (k : ℕ). is_some (wanted_at (image_parts x) (key_at k p))) (sym nx) ∙ some) in
          let one : HaveParts ks y.object.number.0 0 1 = λ p from before. at p (omega (arith, before)) (let zero_is : p ≡ 0 = omega (arith, before) in ap (λ (q : ℕ). is_some (wanted_at (image_parts x) (key_at x.object.number.0 q))) zero_is ∙ header_there x hx) in
          let two : HaveParts ks y.object.number.0 1 (rows_pages x.object) = λ p from before. at p (omega (arith, before, rx)) (rows_there x hx p from before) in
          let three : HaveParts ks y.object.number.0 128 (pages_begun (image_len x.object.body)) = λ p from before. at p (omega (arith, before, bx)) (body_there x hx p from before) in
          let few = parts_new y has ks 1 (rows_pages x.object) (pages_begun (image_len x.object.body)) one two three in
          omega (arith, few)

  -- ---- the ceiling

  ceiling_bytes : (c : ℕ) → length (ceiling_page.print c) ≡ 512
  ceiling_bytes c = let zeros : length {A = ℕ} (copies 496 0) ≡ 496 = length_copies {A = ℕ} 496 0 in omega (arith, zeros)

  ceiling_there : contains_key ks (key_at ceiling_key 0) ≡ true
  ceiling_there =
      sym (have (key_at ceiling_key 0)) ∙ ap is_some (stands.each (key_at ceiling_key 0) (lit≤ tt))
      ∙ stream_there ceiling_key 0 (ceiling_page.print d.ceiling) (no_tags ceiling_page d.ceiling) 0 (omega arith) (omega (arith, ap needed (ceiling_bytes d.ceiling)))

  ceiling_none : (c : ℕ) → new_keys ks (ceiling_parts c) ≡ 0
  ceiling_none c =
      let one : HaveParts ks ceiling_key 0 1 = λ p from before. let zero_is : p ≡ 0 = omega (arith, before) in ap (λ (q : ℕ). contains_key ks (key_at ceiling_key q)) zero_is ∙ ceiling_there in
      let few = stream_new ks ceiling_key 0 (ceiling_page.print c) (no_tags ceiling_page c) 1 one in
      omega (arith, few, ap needed (ceiling_bytes c))

  -- ---- how many keys there are

  abbrev size : Stored → ℕ
  size x = rooms.parts_of (extent_in x)

  pub keys_most : ((key : Key) → contains_key ks key ≡ true → key.part < parts_end) → IsStrictlySortedBy key_cmp (keys ks) → len ks ≤ 1 + sum_by size d.objects
  keys_most low sorted =
      let most = keys_few ks (ceiling_parts d.ceiling ++ firsts [] d.objects) sorted cover in
      let one = stream_long ceiling_key 0 (ceiling_page.print d.ceiling) (no_tags ceiling_page d.ceiling) in
      let each = firsts_long size [] d.objects (λ n x unseen is. parts_long x (headers n x is)) in
      omega (arith, most, one, ap needed (ceiling_bytes d.ceiling), each, length-append (ceiling_parts d.ceiling) (firsts [] d.objects))
    where
      later : (a b : Bool) → b ≡ true → (a || b) ≡ true
      later true b e = refl
      later false b e = e

      cover : (q : Key) → contains_key ks q ≡ true → is_key_of q (ceiling_parts d.ceiling ++ firsts [] d.objects) ≡ true
      cover q is = by (q.object == ceiling_key) refl (ap is_some (sym (stands.each q (low q is))) ∙ have q ∙ is)
        where
          found : (r : Option Stored) → kept d.objects q.object ≡ r → is_some (wanted_at (parts_in r) q) ≡ true → is_key_of q (firsts [] d.objects) ≡ true
          found None none some = cc
          found (Some x) at some = firsts_cover q x [] d.objects refl at some

          by : (b : Bool) → (q.object == ceiling_key) ≡ b → is_some (wanted_at (cond b (ceiling_parts d.ceiling) (parts_in (kept d.objects q.object))) q) ≡ true → is_key_of q (ceiling_parts d.ceiling ++ firsts [] d.objects) ≡ true
          by true at some = key_either q (ceiling_parts d.ceiling) (firsts [] d.objects) ∙ ap (λ b. b || is_key_of q (firsts [] d.objects)) (key_wanted q (ceiling_parts d.ceiling) some)
          by false at some = key_either q (ceiling_parts d.ceiling) (firsts [] d.objects) ∙ later (is_key_of q (ceiling_parts d.ceiling)) (is_key_of q (firsts [] d.objects)) (found (kept d.objects q.object) refl some)

  -- ---- all that is forced

  module _ (all : List Forced) (t : State) (rising : NumbersRise t.held) (users : All (StaysUserIn d) t.held.objects) (room : Room) (counts : room.extents ≡ map extent_in d.objects)
      (new_headers : HaveHeaders (durable_after all d t)) where
    abbrev new : Durable
    new = durable_after all d t

    -- what an object that is there needs
    object_few : (n : ℕ) → n < ceiling_key → (o : Object) → object_in t.held.objects n ≡ Some o → (b : Bool) → o.on_disk ≡ b → new_keys ks (parts_in (kept_one all t d.objects (Some o))) ≤ new_parts_of room all o
    object_few n low o found false off =
        let none : parts_in (kept_one all t d.objects (Some o)) ≡ [] = ap (λ b. parts_in (cond b (Some (kept_after all t (kept d.objects o.number.0) o)) None)) off in
        let zero_is : new_keys ks (parts_in (kept_one all t d.objects (Some o))) ≡ 0 = ap (new_keys ks) none in
        omega (arith, zero_is)
    object_few n low o found true on =
        let y = kept_after all t (kept d.objects o.number.0) o in
        let own : o.number.0 ≡ n = found_number n o t.held.objects found in
        let one : kept_one all t d.objects (Some o) ≡ Some y = ap (λ b. cond b (Some y) None) on in
        let at : kept new.objects n ≡ Some y = kept_after_step all d t n rising ∙ ap (kept_one all t d.objects) found ∙ one in
        let few = object_new n y low (kept_number n new.objects y at) (new_headers n y at) in
        let user : StaysUserOf o.body (kept d.objects o.number.0) = (found_fits (StaysUserIn d) (has_number n) t.held.objects o users found).0 in
        let extents : new_parts_of room all o ≡ more_parts (option_map extent_in (kept d.objects n)) (extent_in y) =
        ap (λ b. cond b (more_parts (extent_at room.extents o.number.0) (extent_after all (extent_at room.extents o.number.0) o)) 0) on
        ∙ ap (λ (x : Option Extent). more_parts x (extent_after all x o)) (ap (λ (xs : List Extent). extent_at xs o.number.0) counts ∙ extent_found d.objects o.number.0)
        ∙ ap (more_parts (option_map extent_in (kept d.objects o.number.0))) (extent_same all t o (kept d.objects o.number.0) user)
        ∙ ap (λ (k : ℕ). more_parts (option_map extent_in (kept d.objects k)) (extent_in y)) own in
        let parts : new_keys ks (parts_in (kept_one all t d.objects (Some o))) ≡ new_keys ks (image_parts y) = ap (λ (x : Option Stored). new_keys ks (parts_in x)) one in
        omega (arith, few, extents, parts)

    number_few : (n : ℕ) → IsNumber n → new_keys ks (parts_at new n) ≤ in_case (new_parts_of room all) (object_in t.held.objects n)
    number_few n number =
        let is : new_keys ks (parts_at new n) ≡ new_keys ks (parts_in (kept_one all t d.objects (object_in t.held.objects n))) = ap (new_keys ks) (parts_after_step all d t n rising number.1) in
        let most = by (object_in t.held.objects n) refl in
        omega (arith, is, most)
      where
        by : (r : Option Object) → object_in t.held.objects n ≡ r → new_keys ks (parts_in (kept_one all t d.objects r)) ≤ in_case (new_parts_of room all) r
        by None none = omega arith
        by (Some o) found = object_few n number.1 o found o.on_disk refl

    number_wanted : (n : ℕ) → IsNumber n → IsWanted (range_of n) (parts_at new n)
    number_wanted n number = subst (IsWanted (range_of n)) (sym (parts_below new n number.1)) (by (kept new.objects n) refl)
      where
        by : (r : Option Stored) → kept new.objects n ≡ r → IsWanted (range_of n) (parts_in r)
        by None none = record { rising = tt; in_range = tt }
        by (Some y) at = wanted_object y n (kept_number n new.objects y at) (new_headers n y at)

    all_wanted : (ns : List ℕ) → AllByRecursion IsNumber ns → AllByRecursion (λ a. IsWanted a.range a.wanted) (aims_of new ns)
    all_wanted [] are = tt
    all_wanted (n ∷ ns) are = (number_wanted n are.0, all_wanted ns are.1)

    wanted_sum : (ns : List ℕ) → wanted_new ks (aims_of new ns) ≡ sum_by (λ n. new_keys ks (parts_at new n)) ns
    wanted_sum [] = refl
    wanted_sum (n ∷ ns) =
        let one = sum_by-cons (λ (a : Aim). new_keys ks a.wanted) (aim_of new n) (aims_of new ns) in
        let two = sum_by-cons (λ (k : ℕ). new_keys ks (parts_at new k)) n ns in
        let rest = wanted_sum ns in
        omega (arith, one, two, rest)

    -- no more parts are new than the rule of rooms counts
    pub objects_few : (ns : List ℕ) → AllByRecursion IsNumber ns → Rise ns → new_keys ks (all_differences (get m) (aims_of new ns)) ≤ new_parts room all t.held.objects
    objects_few ns are rise =
        let one = aims_new ks (get m) (aims_of new ns) have (all_wanted ns are) in
        let two = wanted_sum ns in
        let three = sum_most (λ n. new_keys ks (parts_at new n)) (λ n. in_case (new_parts_of room all) (object_in t.held.objects n)) ns IsNumber number_few are in
        let four = found_few (new_parts_of room all) t.held.objects ns rise in
        omega (arith, one, two, three, four)

    ceiling_wanted_all : IsWanted (range_of ceiling_key) (parts_at new ceiling_key)
    ceiling_wanted_all = wanted_whole ceiling_key (ceiling_parts t.held.ceiling) (ceiling_wanted t.held.ceiling)

    -- and the ceiling brings none
    pub ceiling_few : (b : Bool) → new_keys ks (all_differences (get m) (aims_of new (cond b (ceiling_key ∷ []) []))) ≡ 0
    ceiling_few true =
        let one = aims_new ks (get m) (aims_of new (ceiling_key ∷ [])) have (ceiling_wanted_all, tt) in
        let two = sum_by-cons (λ (a : Aim). new_keys ks a.wanted) (aim_of new ceiling_key) [] in
        let three = ceiling_none t.held.ceiling in
        omega (arith, one, two, three)
    ceiling_few false = refl
