use Rattle.std.proofs.Common.{◌≡◌, ◌∙◌, ◌<◌, ◌≤◌, ◌++◌, ◌∷◌, ◌-◌, List, ap, arith, map, refl, rules, subst, sym}
use Rattle.std.specs.List.{flat_map}
use Rattle.std.specs.Map.Iter.{deref}
use Rattle.s38_base.specs.declared.page.Change.{Change}
use Rattle.s38_checkpoint.specs.Closing.{closing}
use Rattle.s38_checkpoint.specs.Passing.{last_object_number}
use Rattle.s38_durable_state.specs.Durable.{whole_stored}
use Rattle.s38_durable_state.specs.Represents.{parts_at}
use Rattle.s38_page_diff.specs.Differences.{IsWanted}
use Rattle.s38_image.specs.PartPlaces.{ceiling_key}
use Rattle.s38_image.specs.Images.{image_parts}
use Rattle.s38_page_diff.proofs.reconcile.KeyLaws.{fine_begun, fine_moved, fine_next}
use Rattle.s38_page_diff.proofs.reconcile.PieceLaws.{each_none}
use Rattle.s38_page_diff.proofs.reconcile.SoFarLaws.{passed, so_far_begun, stays_begun, stays_keys, stays_on}
use Rattle.s38_page_diff.specs.reconcile.Replacing.{each_to, range_of}
use Rattle.s38_page_diff.specs.reconcile.Walking.{AreAt}
use Rattle.s38_objects.proofs.KeptLaws.{all_gone, at_hand, one_more}
use Rattle.s38_image_writer.specs.Parts.{CanSettle}
use Rattle.s38_objects.specs.Lawful.{number_of}
use Rattle.s38_rules.specs.store.Storable.{IsStorable}
use Rattle.s38_rules.specs.declared.object.Object.{Object}
use Rattle.s38_checkpoint.proofs.PassLaws.{AreSorted, at_place, below_next, last_below, last_more, none_after, nothing_between, pieces_more, sorted_by, whole_at}
use Rattle.s38_checkpoint.proofs.differences.add_objects.Goals as goal

pub loop-object-init : goal.loop-object-init
loop-object-init g c =
    let V = g.V.Vault in
    let vault = c.args.vault.now in
    let wants = parts_at (closing c.args.units.now c.args.objects.now) in
    record {
      so_far = so_far_begun (V.view vault).keys (V.holds vault) wants c.args.into.now.items c.requires.none c.free-free.ensures.keys;
      whole = each_none wants;
      fine = fine_begun (V.view vault).keys;
      last = refl;
      low = omega arith;
      stays = stays_begun vault;
      count = refl;
    }

pub overflow_sub-object : goal.overflow_sub-object
overflow_sub-object g c =
    let os = c.args.objects.now.objects in
    let gone = map deref c.loop-object.yielded in
    let rest = c.next.new.self in
    let o = c.in-Some.object.now in
    let all : os ≡ gone ++ o ∷ rest =
    at_hand c.args.objects.now.objects c.loop-object.yielded c.into_iter-object-iterator.result c.loop-object.object-iterator c.next.new.self c.next.result c.in-Some.object (search rules) c.loop-object.yielded_by c.in-Some.is c.next.ensures.steps in
    at_place (λ x. 1 ≤ x.number.0) os gone rest o c.requires.numbers all

pub add_strangers-requires : goal.add_strangers-requires
add_strangers-requires g c =
    let os = c.args.objects.now.objects in
    let gone = map deref c.loop-object.yielded in
    let rest = c.next.new.self in
    let o = c.in-Some.object.now in
    let all : os ≡ gone ++ o ∷ rest =
    at_hand c.args.objects.now.objects c.loop-object.yielded c.into_iter-object-iterator.result c.loop-object.object-iterator c.next.new.self c.next.result c.in-Some.object (search rules) c.loop-object.yielded_by c.in-Some.is c.next.ensures.steps in
    let from = at_place (λ x. 1 ≤ x.number.0) os gone rest o c.requires.numbers all in
    let sorted = subst AreSorted all (sorted_by os c.all-object-items.ensures.lawful.rising) in
    omega (arith, c.loop-object.invariant.last, last_below gone o.number.0 from (below_next gone rest o sorted))

pub add_object-requires-clause-object : goal.add_object-requires-clause-object
add_object-requires-clause-object g c =
    let os = c.args.objects.now.objects in
    let gone = map deref c.loop-object.yielded in
    let rest = c.next.new.self in
    let o = c.in-Some.object.now in
    let all : os ≡ gone ++ o ∷ rest =
    at_hand c.args.objects.now.objects c.loop-object.yielded c.into_iter-object-iterator.result c.loop-object.object-iterator c.next.new.self c.next.result c.in-Some.object (search rules) c.loop-object.yielded_by c.in-Some.is c.next.ensures.steps in
    at_place IsStorable os gone rest o c.requires.storable all

pub add_object-requires-clause-units : goal.add_object-requires-clause-units
add_object-requires-clause-units g c =
    let os = c.args.objects.now.objects in
    let gone = map deref c.loop-object.yielded in
    let rest = c.next.new.self in
    let o = c.in-Some.object.now in
    let all : os ≡ gone ++ o ∷ rest =
    at_hand c.args.objects.now.objects c.loop-object.yielded c.into_iter-object-iterator.result c.loop-object.object-iterator c.next.new.self c.next.result c.in-Some.object (search rules) c.loop-object.yielded_by c.in-Some.is c.next.ensures.steps in
    at_place (λ x. CanSettle c.args.units.now x.number.0 x.body) os gone rest o c.requires.settles all

pub add_object-requires-clause-number : goal.add_object-requires-clause-number
add_object-requires-clause-number g c =
    let os = c.args.objects.now.objects in
    let gone = map deref c.loop-object.yielded in
    let rest = c.next.new.self in
    let o = c.in-Some.object.now in
    let all : os ≡ gone ++ o ∷ rest =
    at_hand c.args.objects.now.objects c.loop-object.yielded c.into_iter-object-iterator.result c.loop-object.object-iterator c.next.new.self c.next.result c.in-Some.object (search rules) c.loop-object.yielded_by c.in-Some.is c.next.ensures.steps in
    at_place (λ x. 1 ≤ x.number.0) os gone rest o c.requires.numbers all

pub loop-object-preserved : goal.loop-object-preserved
loop-object-preserved g c =
    let V = g.V.Vault in
    let held = c.args.objects.now in
    let units = c.args.units.now in
    let wants = parts_at (closing units held) in
    let was = c.loop-object.invariant in
    let old = c.args.vault.now in
    let now = c.loop-object.vault in
    let done = c.loop-object.done in
    let os = c.args.objects.now.objects in
    let gone = map deref c.loop-object.yielded in
    let rest = c.next.new.self in
    let o = c.in-Some.object.now in
    let all : os ≡ gone ++ o ∷ rest =
    at_hand c.args.objects.now.objects c.loop-object.yielded c.into_iter-object-iterator.result c.loop-object.object-iterator c.next.new.self c.next.result c.in-Some.object (search rules) c.loop-object.yielded_by c.in-Some.is c.next.ensures.steps in
    let n = o.number.0 in
    let sorted = subst AreSorted all (sorted_by os c.all-object-items.ensures.lawful.rising) in
    let from = at_place (λ x. 1 ≤ x.number.0) os gone rest o c.requires.numbers all in
    let given = at_place (λ x. number_of x < held.next) os gone rest o c.all-object-items.ensures.lawful.given all in
    let low : n < ceiling_key = omega (arith, given, c.next_number-next.ensures) in
    let same = stays_keys old now was.stays in
    let here = whole_at units held gone rest o all sorted low in
    let mid = c.add_strangers.new.into.items in
    record {
      so_far =
          passed (V.view old).keys (V.view now).keys (V.holds old) (V.holds now) wants done (n - 1) n c.loop-object.into.items mid c.add_object.new.into.items same
          (λ m. (was.stays.held m).0) (λ m. (was.stays.held m).1) (omega (arith, from))
          (c.in_ok-add_strangers.ensures.so_far wants (λ k above below. nothing_between units held gone rest o done k all sorted was.last low above (omega (arith, below, from))))
          (subst (λ (ws : List Change). IsWanted (range_of n) ws) (sym here) c.in_ok-add_object.ensures.wanted)
          (subst (λ (ws : List Change). AreAt (V.view now).keys (V.holds now) n ws mid c.add_object.new.into.items) (sym here) c.in_ok-add_object.ensures.at) was.so_far;
      whole =
          subst (λ (l : List Object). each_to wants n ≡ flat_map image_parts (map (whole_stored units held) l)) (sym (one_more c.loop-object.yielded c.in-Some.object))
          (pieces_more units held gone rest o done all sorted was.last from low was.whole);
      fine =
          fine_moved (V.view now).keys (V.view old).keys n (sym same)
          (fine_next (V.view now).keys (n - 1) n from (omega arith) (c.in_ok-add_strangers.ensures.fine (fine_moved (V.view old).keys (V.view now).keys done same was.fine)));
      last = sym (ap last_object_number (one_more c.loop-object.yielded c.in-Some.object) ∙ last_more gone o);
      low = low;
      stays = stays_on old now c.add_object.new.vault was.stays c.add_object.ensures.stays;
      count = c.in_ok-add_object.ensures.count ∙ was.count;
    }

pub returns-clause-whole : goal.returns-clause-whole
returns-clause-whole g c =
    let all = all_gone c.args.objects.now.objects c.loop-object.yielded c.into_iter-object-iterator.result c.loop-object.object-iterator c.next.new.self c.next.result (search rules) c.loop-object.yielded_by c.in-None.is c.next.ensures.steps in
    subst (λ (l : List Object). each_to (parts_at (closing c.args.units.now c.args.objects.now)) c.loop-object.done ≡ flat_map image_parts (map (whole_stored c.args.units.now c.args.objects.now) l)) all c.loop-object.invariant.whole

pub returns-clause-last : goal.returns-clause-last
returns-clause-last g c = λ n low.
    let os = c.args.objects.now.objects in
    let all = all_gone c.args.objects.now.objects c.loop-object.yielded c.into_iter-object-iterator.result c.loop-object.object-iterator c.next.new.self c.next.result (search rules) c.loop-object.yielded_by c.in-None.is c.next.ensures.steps in
    none_after c.args.units.now c.args.objects.now os n (sorted_by os c.all-object-items.ensures.lawful.rising) (omega (arith, low, c.loop-object.invariant.last, ap last_object_number all))
