use Rattle.std.proofs.Common.{◌≡◌, ◌∙◌, ◌≤◌, ◌++◌, ◌∷◌, List, [], ap, arith, length, map, refl, rules, subst, sym}
use Rattle.std.specs.Map.Iter.{deref}
use Rattle.std.specs.List.{flat_map}
use Rattle.s38_durable_state.specs.Durable.{whole_stored}
use Rattle.s38_page_diff.proofs.FaultLaws.{handed}
use Rattle.s38_image.specs.Images.{image_parts}
use Rattle.s38_page_diff.proofs.reconcile.PieceLaws.{each_none}
use Rattle.s38_page_diff.specs.reconcile.Replacing.{each_to}
use Rattle.s38_checkpoint.specs.Closing.{closing}
use Rattle.s38_checkpoint.specs.Ensuring.{FirstFit, Fits, IsLeft}
use Rattle.s38_checkpoint.specs.Passing.{last_object_number}
use Rattle.s38_checkpoint.specs.Waiting.{IsNext, IsStoppedBy, Waits}
use Rattle.s38_checkpoint.proofs.FitLaws.{first_more}
use Rattle.s38_checkpoint.proofs.CallLaws.{during_both}
use Rattle.s38_checkpoint.proofs.NextLaws.{among_from, among_low, next_among}
use Rattle.s38_checkpoint.proofs.PassLaws.{AreSorted, last_more, none_after, pieces_more, sorted_by}
use Rattle.s38_checkpoint.proofs.WaitLaws.{waits_begun}
use Rattle.s38_durable_state.specs.Represents.{parts_at}
use Rattle.s38_image.specs.PartPlaces.{ceiling_key}
use Rattle.s38_page_diff.proofs.reconcile.KeyLaws.{fine_begun}
use Rattle.s38_page_diff.proofs.reconcile.SoFarLaws.{so_far_begun}
use Rattle.s38_objects.proofs.KeptLaws.{all_gone, at_hand, one_more}
use Rattle.s38_rules.specs.declared.object.Object.{Object}
use Rattle.s38_vault.specs.Directory.{new_keys}
use Rattle.s38_vault.specs.Vaults.{VaultShape}
use Rattle.s38_checkpoint.proofs.closing.keep_objects.Goals as goal

pub loop-object-init : goal.loop-object-init
loop-object-init g c =
    let V = g.V.Vault in
    let vault = c.args.vault.now in
    let h = c.args.objects.now in
    let d = closing c.args.units.now h in
    record {
      so_far = so_far_begun (V.view vault).keys (V.holds vault) (parts_at d) c.args.changes.now.items c.requires.none c.free-free.ensures.keys;
      room = omega (arith, ap (new_keys (V.view vault).keys) c.requires.none);
      fine = λ n held. fine_begun (V.view vault).keys;
      last = refl;
      low = omega arith;
      whole = each_none (parts_at d);
      waits = λ m held. (m, (held, waits_begun (V.view vault).shape.most m d h c.args.changes.now.items c.requires.none));
      fits = λ m held gone rest all low. absurd (omega (arith, low));
      past = λ t m low. ((λ left. left), (λ left. left));
      during = λ m held t x low high left. absurd (omega (arith, low, high));
      later = omega arith;
      shape = refl;
      count = refl;
    }

pub keep_next-requires-clause-there : goal.keep_next-requires-clause-there
keep_next-requires-clause-there g c =
    let gone = map deref c.loop-object.yielded in
    let rest = c.next.new.self in
    let o = c.in-Some.object.now in
    let all : c.args.objects.now.objects ≡ gone ++ o ∷ rest =
    at_hand c.args.objects.now.objects c.loop-object.yielded c.into_iter-object-iterator.result c.loop-object.object-iterator c.next.new.self c.next.result c.in-Some.object (search rules) c.loop-object.yielded_by c.in-Some.is c.next.ensures.steps in
    (gone, (rest, record { all = all; last = c.loop-object.invariant.last }))

pub returns-in_err-keep_next-clause-stopped : goal.returns-in_err-keep_next-clause-stopped
returns-in_err-keep_next-clause-stopped g c =
    let V = g.V.Vault in
    let gone = map deref c.loop-object.yielded in
    let rest = c.next.new.self in
    let o = c.in-Some.object.now in
    let was = c.loop-object.invariant in
    let h = c.args.objects.now in
    let d = closing c.args.units.now h in
    let all : c.args.objects.now.objects ≡ gone ++ o ∷ rest =
    at_hand c.args.objects.now.objects c.loop-object.yielded c.into_iter-object-iterator.result c.loop-object.object-iterator c.next.new.self c.next.result c.in-Some.object (search rules) c.loop-object.yielded_by c.in-Some.is c.next.ensures.steps in
    let next : IsNext h gone rest o c.loop-object.done = record { all = all; last = was.last } in
    let fault = c.in_err-keep_next.field-0.0 in
    handed _ c.from_residual.result fault c.from_residual.ensures.1 (λ m held.
    let waiting = was.waits m held in
    subst (λ (k : VaultShape). IsStoppedBy (V.holds c.keep_next.new.vault) k.parts m d h fault) was.shape
    (c.in_err-keep_next.ensures.stopped m waiting.0 gone rest next waiting.1.0 (subst (λ (k : VaultShape). Waits k.most m d h gone waiting.0 c.loop-object.changes.items) (sym was.shape) waiting.1.1)
    (subst (λ (k : VaultShape). FirstFit k.parts m d h (length gone)) (sym was.shape) (was.fits m held))))

pub returns-in_err-keep_next-clause-during : goal.returns-in_err-keep_next-clause-during
returns-in_err-keep_next-clause-during g c m held =
    let V = g.V.Vault in
    let old = c.args.vault.now in
    let mid = c.loop-object.vault in
    let new = c.keep_next.new.vault in
    let gone = map deref c.loop-object.yielded in
    let rest = c.next.new.self in
    let o = c.in-Some.object.now in
    let was = c.loop-object.invariant in
    let h = c.args.objects.now in
    let d = closing c.args.units.now h in
    let all : c.args.objects.now.objects ≡ gone ++ o ∷ rest =
    at_hand c.args.objects.now.objects c.loop-object.yielded c.into_iter-object-iterator.result c.loop-object.object-iterator c.next.new.self c.next.result c.in-Some.object (search rules) c.loop-object.yielded_by c.in-Some.is c.next.ensures.steps in
    let next : IsNext h gone rest o c.loop-object.done = record { all = all; last = was.last } in
    let waiting = was.waits m held in
    let waits = subst (λ (k : VaultShape). Waits k.most m d h gone waiting.0 c.loop-object.changes.items) (sym was.shape) waiting.1.1 in
    during_both V.leaves (IsLeft (V.view old).shape.most m d h) mid new (V.view old).moment (V.view mid).moment (V.view new).moment (was.during m held) c.keep_next.ensures.past
    (λ t x low high left. subst (λ (k : VaultShape). IsLeft k.most m d h x) was.shape (c.keep_next.ensures.during m waiting.0 gone rest next waiting.1.0 waits t x low high left))

pub loop-object-preserved : goal.loop-object-preserved
loop-object-preserved g c =
    let V = g.V.Vault in
    let old = c.args.vault.now in
    let mid = c.loop-object.vault in
    let new = c.keep_next.new.vault in
    let gone = map deref c.loop-object.yielded in
    let rest = c.next.new.self in
    let o = c.in-Some.object.now in
    let was = c.loop-object.invariant in
    let h = c.args.objects.now in
    let units = c.args.units.now in
    let d = closing units h in
    let all : c.args.objects.now.objects ≡ gone ++ o ∷ rest =
    at_hand c.args.objects.now.objects c.loop-object.yielded c.into_iter-object-iterator.result c.loop-object.object-iterator c.next.new.self c.next.result c.in-Some.object (search rules) c.loop-object.yielded_by c.in-Some.is c.next.ensures.steps in
    let next : IsNext h gone rest o c.loop-object.done = record { all = all; last = was.last } in
    let small : h.next ≤ ceiling_key = omega (arith, c.next_number-next.ensures) in
    let lawful = c.all-object-items.ensures.lawful in
    let done = c.in_ok-keep_next.ensures in
    let among = next_among units h lawful small c.requires.numbers next in
    let more : gone ++ o ∷ [] ≡ map deref (c.loop-object.yielded ++ c.in-Some.object ∷ []) = sym (one_more c.loop-object.yielded c.in-Some.object) in
    record {
      so_far = done.so_far;
      room = done.room;
      fine = done.fine was.fine;
      last = sym (ap last_object_number (one_more c.loop-object.yielded c.in-Some.object) ∙ last_more gone o);
      low = among_low units h lawful small c.requires.numbers o among;
      whole =
          subst (λ (l : List Object). each_to (parts_at d) o.number.0 ≡ flat_map image_parts (map (whole_stored units h) l)) more
          (pieces_more units h gone rest o c.loop-object.done all (subst AreSorted all (sorted_by h.objects lawful.rising)) was.last (among_from units h lawful small c.requires.numbers o among) (among_low units h lawful small c.requires.numbers o among) was.whole);
      waits = λ m held.
          let waiting = was.waits m held in
          let waits = subst (λ (k : VaultShape). Waits k.most m d h gone waiting.0 c.loop-object.changes.items) (sym was.shape) waiting.1.1 in
          let found = done.waits m waiting.0 gone rest next waiting.1.0 waits in (
            found.0,
            (
              found.1.0,
              subst (λ (l : List Object). Waits (V.view old).shape.most m d h l found.0 c.keep_next.new.changes.items) more
                  (subst (λ (k : VaultShape). Waits k.most m d h (gone ++ o ∷ []) found.0 c.keep_next.new.changes.items) (c.keep_next.ensures.shape ∙ was.shape) found.1.1),
            ),
          );
      fits = λ m held.
          let waiting = was.waits m held in
          let waits = subst (λ (k : VaultShape). Waits k.most m d h gone waiting.0 c.loop-object.changes.items) (sym was.shape) waiting.1.1 in
          subst (λ (l : List Object). FirstFit (V.view old).shape.parts m d h (length l)) more
          (first_more (V.view old).shape.parts m d h gone rest o all (was.fits m held)
          (subst (λ (k : VaultShape). Fits k.parts m d h gone (o ∷ rest)) was.shape (done.fits m waiting.0 gone rest next waiting.1.0 waits)));
      past = λ t x low.
          let first = was.past t x low in
          let last = c.keep_next.ensures.past t x (omega (arith, low, was.later)) in
          ((λ left. last.0 (first.0 left)), (λ left. first.1 (last.1 left)));
      during = λ m held.
          let waiting = was.waits m held in
          let waits = subst (λ (k : VaultShape). Waits k.most m d h gone waiting.0 c.loop-object.changes.items) (sym was.shape) waiting.1.1 in
          during_both V.leaves (IsLeft (V.view old).shape.most m d h) mid new (V.view old).moment (V.view mid).moment (V.view new).moment (was.during m held) c.keep_next.ensures.past
          (λ t x low high left. subst (λ (k : VaultShape). IsLeft k.most m d h x) was.shape (c.keep_next.ensures.during m waiting.0 gone rest next waiting.1.0 waits t x low high left));
      later = omega (arith, was.later, c.keep_next.ensures.later);
      shape = c.keep_next.ensures.shape ∙ was.shape;
      count = done.count ∙ was.count;
    }

pub returns-clause-last : goal.returns-clause-last
returns-clause-last g c =
    let all = all_gone c.args.objects.now.objects c.loop-object.yielded c.into_iter-object-iterator.result c.loop-object.object-iterator c.next.new.self c.next.result (search rules) c.loop-object.yielded_by c.in-None.is c.next.ensures.steps in
    (c.loop-object.invariant.last ∙ ap last_object_number all, c.loop-object.invariant.low)

pub returns-clause-whole : goal.returns-clause-whole
returns-clause-whole g c =
    let all = all_gone c.args.objects.now.objects c.loop-object.yielded c.into_iter-object-iterator.result c.loop-object.object-iterator c.next.new.self c.next.result (search rules) c.loop-object.yielded_by c.in-None.is c.next.ensures.steps in
    subst (λ (l : List Object). each_to (parts_at (closing c.args.units.now c.args.objects.now)) c.loop-object.done ≡ flat_map image_parts (map (whole_stored c.args.units.now c.args.objects.now) l)) all c.loop-object.invariant.whole

pub returns-clause-behind : goal.returns-clause-behind
returns-clause-behind g c = λ n low.
    let os = c.args.objects.now.objects in
    let all = all_gone c.args.objects.now.objects c.loop-object.yielded c.into_iter-object-iterator.result c.loop-object.object-iterator c.next.new.self c.next.result (search rules) c.loop-object.yielded_by c.in-None.is c.next.ensures.steps in
    none_after c.args.units.now c.args.objects.now os n (sorted_by os c.all-object-items.ensures.lawful.rising) (omega (arith, low, c.loop-object.invariant.last, ap last_object_number all))

pub returns-clause-waits : goal.returns-clause-waits
returns-clause-waits g c = λ m held.
    let V = g.V.Vault in
    let h = c.args.objects.now in
    let all = all_gone c.args.objects.now.objects c.loop-object.yielded c.into_iter-object-iterator.result c.loop-object.object-iterator c.next.new.self c.next.result (search rules) c.loop-object.yielded_by c.in-None.is c.next.ensures.steps in
    let found = c.loop-object.invariant.waits m held in
    (found.0, (found.1.0, subst (λ (l : List Object). Waits (V.view c.args.vault.now).shape.most m (closing c.args.units.now h) h l found.0 c.loop-object.changes.items) all found.1.1))

pub returns-clause-fits : goal.returns-clause-fits
returns-clause-fits g c = λ m held.
    let V = g.V.Vault in
    let h = c.args.objects.now in
    let all = all_gone c.args.objects.now.objects c.loop-object.yielded c.into_iter-object-iterator.result c.loop-object.object-iterator c.next.new.self c.next.result (search rules) c.loop-object.yielded_by c.in-None.is c.next.ensures.steps in
    subst (λ (l : List Object). FirstFit (V.view c.args.vault.now).shape.parts m (closing c.args.units.now h) h (length l)) all (c.loop-object.invariant.fits m held)
