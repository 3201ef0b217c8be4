use Rattle.std.proofs.Common.{◌≡◌, ◌∙◌, ◌<◌, ◌≤◌, ◌↔◌, ℕ, List, [], ap, arith, inl, inr, length, subst, sym, take}
use Rattle.std.specs.Prelude.{Err}
use Rattle.s38_base.specs.declared.page.Change.{Change}
use Rattle.s38_checkpoint.specs.Closing.{closing, content_of, parts_of_all}
use Rattle.s38_checkpoint.specs.Ensuring.{IsLeft}
use Rattle.s38_checkpoint.proofs.CallLaws.{front_left_since, made_both, others_left}
use Rattle.s38_checkpoint.proofs.FitLaws.{each_fits}
use Rattle.s38_checkpoint.proofs.KeepLaws.{mark_front, mark_rest, place_moved, stopped_put, stopped_unread}
use Rattle.s38_checkpoint.proofs.PassLaws.{no_parts, pieces_all}
use Rattle.s38_checkpoint.proofs.RestLaws.{all_made, rest_fits, rest_full, rest_left, rest_reached}
use Rattle.s38_durable_state.specs.Represents.{parts_at}
use Rattle.s38_page_diff.proofs.FaultLaws.{handed, unread_bad}
use Rattle.s38_page_diff.specs.FlushFaults.{IfBad, IsFullFor}
use Rattle.s38_image.specs.PartPlaces.{ceiling_key}
use Rattle.s38_page_diff.proofs.reconcile.PlacedLaws.{all_after, changed-append, rising_after}
use Rattle.s38_page_diff.specs.reconcile.Replacing.{each_to}
use Rattle.s38_vault.specs.Content.{AreRising, Content, HaveObjects, changed}
use Rattle.s38_vault.specs.Directory.{new_keys}
use Rattle.s38_vault.specs.Vaults.{VaultShape, VaultView}
use Rattle.s38_checkpoint.proofs.closing.close.Goals as goal

pub returns-in_err-add_rest-clause-stopped : goal.returns-in_err-add_rest-clause-stopped
returns-in_err-add_rest-clause-stopped g c =
    let V = g.V.Vault in
    let fault = c.in_err-add_rest.field-0.0 in
    let h = c.args.objects.now in
    let d = closing c.args.units.now h in
    handed _ c.from_residual-in_err-add_rest.result fault c.from_residual-in_err-add_rest.ensures.1 (λ m held.
    let found = c.in_ok-done.ensures.waits m held in
    stopped_unread (V.holds c.add_rest.new.vault) (V.view c.args.vault.now).shape.parts m d h found.0 fault c.in_err-add_rest.ensures.bad ((c.add_rest.ensures.stays.held found.0).0 found.1.0) found.1.1.held)

pub returns-in_err-add_rest-clause-bad : goal.returns-in_err-add_rest-clause-bad
returns-in_err-add_rest-clause-bad g c = handed (IfBad ⊥) c.from_residual-in_err-add_rest.result c.in_err-add_rest.field-0.0 c.from_residual-in_err-add_rest.ensures.1 (unread_bad ⊥ ⊥ (λ bad. bad) c.in_err-add_rest.field-0.0 c.in_err-add_rest.ensures.bad)

pub make_place-requires-clause-rising : goal.make_place-requires-clause-rising
make_place-requires-clause-rising g c = (c.in_ok-add_rest.ensures.so_far c.args.units.now c.in_ok-done.ensures.behind c.in_ok-done.ensures.so_far).rising

pub make_place-requires-clause-objects : goal.make_place-requires-clause-objects
make_place-requires-clause-objects g c = (c.in_ok-add_rest.ensures.so_far c.args.units.now c.in_ok-done.ensures.behind c.in_ok-done.ensures.so_far).objects

pub returns-in_err-make_place-clause-stopped : goal.returns-in_err-make_place-clause-stopped
returns-in_err-make_place-clause-stopped g c =
    let V = g.V.Vault in
    let old = c.args.vault.now in
    let begun = c.keep_objects.new.vault in
    let h = c.args.objects.now in
    let d = closing c.args.units.now h in
    let front = c.keep_objects.new.changes.items in
    let all = c.add_rest.new.into.items in
    let done = c.in_ok-done.done in
    let was = c.in_ok-done.ensures.so_far in
    let so_far = c.in_ok-add_rest.ensures.so_far c.args.units.now c.in_ok-done.ensures.behind was in
    let low = c.in_ok-done.ensures.last.1 in
    let gap : (k : ℕ) → done < k → k < ceiling_key → parts_at d k ≡ [] = λ k above below. no_parts c.args.units.now h k below (c.in_ok-done.ensures.behind k above) in
    let kept = c.in_ok-add_rest.ensures.kept in
    let stays = c.add_rest.ensures.stays in
    let mark : c.len-mark.result ≡ length front = omega (arith, c.len-mark.ensures, c.keep_objects.new.changes.ok.0) in
    let whole : each_to (parts_at d) ceiling_key ≡ parts_of_all d = pieces_all c.args.units.now h done low c.in_ok-done.ensures.behind c.in_ok-done.ensures.whole in
    let content : (n : Content) → V.holds begun n → changed n all ≡ content_of d = λ n held. all_made d (V.view begun).keys (V.holds begun) all so_far whole (c.in_ok-add_rest.ensures.known (c.in_ok-done.ensures.fine n held)) n held in
    let mid = c.make_place.new.vault in
    let front_is = mark_front front all kept.0 c.len-mark.result kept.1 mark in
    let rest_is = mark_rest front all kept.0 c.len-mark.result kept.1 mark in
    let fault = c.in_err-make_place.field-0.0 in
    let made = c.in_err-make_place.ensures in
    let shape : (V.view begun).shape ≡ (V.view old).shape = c.keep_objects.ensures.shape in
    let parts : (V.view mid).shape.parts ≡ (V.view old).shape.parts = ap (λ (s : VaultShape). s.parts) c.make_place.ensures.shape ∙ ap (λ (v : VaultView). v.shape.parts) stays.same ∙ ap (λ (s : VaultShape). s.parts) shape in
    handed _ c.from_residual-in_err-make_place.result fault c.from_residual-in_err-make_place.ensures.1 (λ m held.
    let found = c.in_ok-done.ensures.waits m held in
    let n = found.0 in
    let read_held = (stays.held n).0 found.1.0 in
    let there : V.holds mid (changed n (take c.len-mark.result all)) → V.holds mid (changed n front) = subst (λ (cs : List Change). V.holds mid (changed n cs)) front_is in
    rest_full d h done (V.view begun).keys (V.holds begun) front all was so_far low gap (V.view old).shape.most m n found.1.0 found.1.1 (content n found.1.0) (V.view old).shape.parts (c.in_ok-done.ensures.fits m held) kept.0 kept.1
    (V.holds mid) (V.view mid).keys (V.view mid).free fault (subst (λ (cs : List Change). IsFullFor (new_keys (V.view mid).keys cs) (V.view mid).free fault) rest_is made.full) made.bad
    (λ needed free is. there (c.make_place.ensures.front needed free (c.in_err-make_place.was ∙ ap Err is) n read_held))
    (λ needed free is. (c.make_place.ensures.full_counted needed free (c.in_err-make_place.was ∙ ap Err is)).keys)
    (λ needed free is. (c.make_place.ensures.full_counted needed free (c.in_err-make_place.was ∙ ap Err is)).sum ∙ parts)
    (λ not. elim (made.stopped not n read_held) [ inl before ↦ inl before | inr after ↦ inr (there after) ]))

pub returns-in_err-make_place-clause-during : goal.returns-in_err-make_place-clause-during
returns-in_err-make_place-clause-during g c m held =
    let V = g.V.Vault in
    let old = c.args.vault.now in
    let begun = c.keep_objects.new.vault in
    let read = c.add_rest.new.vault in
    let h = c.args.objects.now in
    let d = closing c.args.units.now h in
    let front = c.keep_objects.new.changes.items in
    let all = c.add_rest.new.into.items in
    let kept = c.in_ok-add_rest.ensures.kept in
    let stays = c.add_rest.ensures.stays in
    let mark : c.len-mark.result ≡ length front = omega (arith, c.len-mark.ensures, c.keep_objects.new.changes.ok.0) in
    let found = c.in_ok-done.ensures.waits m held in
    let n = found.0 in
    let w = found.1.1 in
    front_left_since V.view V.holds V.leaves begun read c.make_place.new.vault stays (IsLeft (V.view old).shape.most m d h) (V.view old).shape.most n front (take c.len-mark.result all) (mark_front front all kept.0 c.len-mark.result kept.1 mark)
    (ap (λ (s : VaultShape). s.most) c.keep_objects.ensures.shape) w.left (c.make_place.ensures.during n ((stays.held n).0 found.1.0)) (V.view old).moment (c.keep_objects.ensures.during m held) c.make_place.ensures.past

pub put_changes-requires-clause-rising : goal.put_changes-requires-clause-rising
put_changes-requires-clause-rising g c =
    let at = c.in_ok-make_place.ensures.placed in
    subst AreRising (sym c.deref.ensures.value) (rising_after at.front c.make_place.new.changes.items (subst AreRising at.parted
    (c.in_ok-add_rest.ensures.so_far c.args.units.now c.in_ok-done.ensures.behind c.in_ok-done.ensures.so_far).rising))

pub put_changes-requires-clause-objects : goal.put_changes-requires-clause-objects
put_changes-requires-clause-objects g c =
    let at = c.in_ok-make_place.ensures.placed in
    subst HaveObjects (sym c.deref.ensures.value) (all_after (λ x. 1 ≤ x.key.object) at.front c.make_place.new.changes.items (subst HaveObjects at.parted
    (c.in_ok-add_rest.ensures.so_far c.args.units.now c.in_ok-done.ensures.behind c.in_ok-done.ensures.so_far).objects))

pub returns-in_err-put_changes-clause-stopped : goal.returns-in_err-put_changes-clause-stopped
returns-in_err-put_changes-clause-stopped g c =
    let V = g.V.Vault in
    let old = c.args.vault.now in
    let begun = c.keep_objects.new.vault in
    let read = c.add_rest.new.vault in
    let h = c.args.objects.now in
    let d = closing c.args.units.now h in
    let front = c.keep_objects.new.changes.items in
    let all = c.add_rest.new.into.items in
    let done = c.in_ok-done.done in
    let was = c.in_ok-done.ensures.so_far in
    let so_far = c.in_ok-add_rest.ensures.so_far c.args.units.now c.in_ok-done.ensures.behind was in
    let low = c.in_ok-done.ensures.last.1 in
    let gap : (k : ℕ) → done < k → k < ceiling_key → parts_at d k ≡ [] = λ k above below. no_parts c.args.units.now h k below (c.in_ok-done.ensures.behind k above) in
    let kept = c.in_ok-add_rest.ensures.kept in
    let stays = c.add_rest.ensures.stays in
    let mark : c.len-mark.result ≡ length front = omega (arith, c.len-mark.ensures, c.keep_objects.new.changes.ok.0) in
    let whole : each_to (parts_at d) ceiling_key ≡ parts_of_all d = pieces_all c.args.units.now h done low c.in_ok-done.ensures.behind c.in_ok-done.ensures.whole in
    let content : (n : Content) → V.holds begun n → changed n all ≡ content_of d = λ n held. all_made d (V.view begun).keys (V.holds begun) all so_far whole (c.in_ok-add_rest.ensures.known (c.in_ok-done.ensures.fine n held)) n held in
    let mid = c.make_place.new.vault in
    let own = c.make_place.new.changes.items in
    let at = c.in_ok-make_place.ensures.placed in
    let most : (V.view read).shape.most ≡ (V.view old).shape.most = ap (λ (v : VaultView). v.shape.most) stays.same ∙ ap (λ (s : VaultShape). s.most) c.keep_objects.ensures.shape in
    let place = place_moved at.front own front (V.view read).shape.most (V.view old).shape.most c.len-mark.result most mark at.place in
    let new = c.put_changes.new.vault in
    let fault = c.in_err-put_changes.field-0.0 in
    handed _ c.from_residual-in_err-put_changes.result fault c.from_residual-in_err-put_changes.ensures.1 (λ m held.
    let found = c.in_ok-done.ensures.waits m held in
    let n = found.0 in
    stopped_put (V.holds new) (V.view old).shape.parts m d h (changed n at.front) (new_keys (V.view mid).keys own) (V.view mid).free c.in_ok-make_place.ensures.room fault
    (subst (λ (cs : List Change). IsFullFor (new_keys (V.view mid).keys cs) (V.view mid).free fault) c.deref.ensures.value c.in_err-put_changes.ensures.full) c.in_err-put_changes.ensures.bad
    (λ not. (c.in_err-put_changes.ensures.refused_holds not (changed n at.front)).0 (at.made n ((stays.held n).0 found.1.0)))
    (rest_reached d h done (V.view begun).keys (V.holds begun) front all was so_far low gap (V.view old).shape.most m n found.1.0 found.1.1 (content n found.1.0) at.front own kept.0 at.parted kept.1 place))

pub returns-in_err-put_changes-clause-during : goal.returns-in_err-put_changes-clause-during
returns-in_err-put_changes-clause-during g c m held =
    let V = g.V.Vault in
    let old = c.args.vault.now in
    let begun = c.keep_objects.new.vault in
    let read = c.add_rest.new.vault in
    let h = c.args.objects.now in
    let d = closing c.args.units.now h in
    let front = c.keep_objects.new.changes.items in
    let all = c.add_rest.new.into.items in
    let done = c.in_ok-done.done in
    let was = c.in_ok-done.ensures.so_far in
    let so_far = c.in_ok-add_rest.ensures.so_far c.args.units.now c.in_ok-done.ensures.behind was in
    let low = c.in_ok-done.ensures.last.1 in
    let gap : (k : ℕ) → done < k → k < ceiling_key → parts_at d k ≡ [] = λ k above below. no_parts c.args.units.now h k below (c.in_ok-done.ensures.behind k above) in
    let kept = c.in_ok-add_rest.ensures.kept in
    let stays = c.add_rest.ensures.stays in
    let mark : c.len-mark.result ≡ length front = omega (arith, c.len-mark.ensures, c.keep_objects.new.changes.ok.0) in
    let whole : each_to (parts_at d) ceiling_key ≡ parts_of_all d = pieces_all c.args.units.now h done low c.in_ok-done.ensures.behind c.in_ok-done.ensures.whole in
    let content : (n : Content) → V.holds begun n → changed n all ≡ content_of d = λ n held. all_made d (V.view begun).keys (V.holds begun) all so_far whole (c.in_ok-add_rest.ensures.known (c.in_ok-done.ensures.fine n held)) n held in
    let mid = c.make_place.new.vault in
    let own = c.make_place.new.changes.items in
    let at = c.in_ok-make_place.ensures.placed in
    let most : (V.view read).shape.most ≡ (V.view old).shape.most = ap (λ (v : VaultView). v.shape.most) stays.same ∙ ap (λ (s : VaultShape). s.most) c.keep_objects.ensures.shape in
    let place = place_moved at.front own front (V.view read).shape.most (V.view old).shape.most c.len-mark.result most mark at.place in
    let found = c.in_ok-done.ensures.waits m held in
    let n = found.0 in
    let w = found.1.1 in
    let first =
    front_left_since V.view V.holds V.leaves begun read c.make_place.new.vault stays (IsLeft (V.view old).shape.most m d h) (V.view old).shape.most n front (take c.len-mark.result all) (mark_front front all kept.0 c.len-mark.result kept.1 mark)
    (ap (λ (s : VaultShape). s.most) c.keep_objects.ensures.shape) w.left (c.make_place.ensures.during n ((stays.held n).0 found.1.0)) (V.view old).moment (c.keep_objects.ensures.during m held) c.make_place.ensures.past in
    others_left V.view V.leaves mid c.put_changes.new.vault (IsLeft (V.view old).shape.most m d h) (V.view old).shape.most (V.view old).moment (changed n at.front) own c.deref.result.now first c.deref.ensures.value
    (ap (λ (s : VaultShape). s.most) c.make_place.ensures.shape ∙ most)
    (rest_left d h done (V.view begun).keys (V.holds begun) front all was so_far low gap (V.view old).shape.most m n found.1.0 w (content n found.1.0) at.front own kept.0 at.parted kept.1 place)
    c.put_changes.ensures.past (c.put_changes.ensures.during (changed n at.front) (at.made n ((stays.held n).0 found.1.0)))

pub returns-clause-holds : goal.returns-clause-holds
returns-clause-holds g c m held =
    let V = g.V.Vault in
    let begun = c.keep_objects.new.vault in
    let h = c.args.objects.now in
    let d = closing c.args.units.now h in
    let all = c.add_rest.new.into.items in
    let done = c.in_ok-done.done in
    let was = c.in_ok-done.ensures.so_far in
    let so_far = c.in_ok-add_rest.ensures.so_far c.args.units.now c.in_ok-done.ensures.behind was in
    let low = c.in_ok-done.ensures.last.1 in
    let stays = c.add_rest.ensures.stays in
    let whole : each_to (parts_at d) ceiling_key ≡ parts_of_all d = pieces_all c.args.units.now h done low c.in_ok-done.ensures.behind c.in_ok-done.ensures.whole in
    let content : (n : Content) → V.holds begun n → changed n all ≡ content_of d = λ n held. all_made d (V.view begun).keys (V.holds begun) all so_far whole (c.in_ok-add_rest.ensures.known (c.in_ok-done.ensures.fine n held)) n held in
    let own = c.make_place.new.changes.items in
    let at = c.in_ok-make_place.ensures.placed in
    let found = c.in_ok-done.ensures.waits m held in
    let n = found.0 in
    let put = c.in_ok-put_changes.ensures.holds (changed n at.front) (at.made n ((stays.held n).0 found.1.0)) in
    subst (λ (x : Content). V.holds c.put_changes.new.vault x)
    (ap (changed (changed n at.front)) c.deref.ensures.value ∙ sym (changed-append n at.front own) ∙ ap (changed n) (sym at.parted) ∙ content n found.1.0) put

pub returns-clause-told : goal.returns-clause-told
returns-clause-told g c x held =
    let V = g.V.Vault in
    let begun = c.keep_objects.new.vault in
    let h = c.args.objects.now in
    let d = closing c.args.units.now h in
    let all = c.add_rest.new.into.items in
    let done = c.in_ok-done.done in
    let was = c.in_ok-done.ensures.so_far in
    let so_far = c.in_ok-add_rest.ensures.so_far c.args.units.now c.in_ok-done.ensures.behind was in
    let low = c.in_ok-done.ensures.last.1 in
    let stays = c.add_rest.ensures.stays in
    let whole : each_to (parts_at d) ceiling_key ≡ parts_of_all d = pieces_all c.args.units.now h done low c.in_ok-done.ensures.behind c.in_ok-done.ensures.whole in
    let content : (n : Content) → V.holds begun n → changed n all ≡ content_of d = λ n held. all_made d (V.view begun).keys (V.holds begun) all so_far whole (c.in_ok-add_rest.ensures.known (c.in_ok-done.ensures.fine n held)) n held in
    let own = c.make_place.new.changes.items in
    let at = c.in_ok-make_place.ensures.placed in
    let last = c.in_ok-put_changes.ensures.told x held in
    let first = at.told last.0 last.1.0 in
    let n = first.0 in
    made_both n x last.0 at.front own all c.deref.result.now at.parted c.deref.ensures.value first.1.1 last.1.1 ∙ content n ((stays.held n).1 first.1.0)

pub returns-clause-fits : goal.returns-clause-fits
returns-clause-fits g c m held =
    let V = g.V.Vault in
    let old = c.args.vault.now in
    let begun = c.keep_objects.new.vault in
    let read = c.add_rest.new.vault in
    let h = c.args.objects.now in
    let d = closing c.args.units.now h in
    let front = c.keep_objects.new.changes.items in
    let all = c.add_rest.new.into.items in
    let done = c.in_ok-done.done in
    let was = c.in_ok-done.ensures.so_far in
    let so_far = c.in_ok-add_rest.ensures.so_far c.args.units.now c.in_ok-done.ensures.behind was in
    let low = c.in_ok-done.ensures.last.1 in
    let gap : (k : ℕ) → done < k → k < ceiling_key → parts_at d k ≡ [] = λ k above below. no_parts c.args.units.now h k below (c.in_ok-done.ensures.behind k above) in
    let kept = c.in_ok-add_rest.ensures.kept in
    let stays = c.add_rest.ensures.stays in
    let mark : c.len-mark.result ≡ length front = omega (arith, c.len-mark.ensures, c.keep_objects.new.changes.ok.0) in
    let whole : each_to (parts_at d) ceiling_key ≡ parts_of_all d = pieces_all c.args.units.now h done low c.in_ok-done.ensures.behind c.in_ok-done.ensures.whole in
    let content : (n : Content) → V.holds begun n → changed n all ≡ content_of d = λ n held. all_made d (V.view begun).keys (V.holds begun) all so_far whole (c.in_ok-add_rest.ensures.known (c.in_ok-done.ensures.fine n held)) n held in
    let mid = c.make_place.new.vault in
    let own = c.make_place.new.changes.items in
    let at = c.in_ok-make_place.ensures.placed in
    let most : (V.view read).shape.most ≡ (V.view old).shape.most = ap (λ (v : VaultView). v.shape.most) stays.same ∙ ap (λ (s : VaultShape). s.most) c.keep_objects.ensures.shape in
    let place = place_moved at.front own front (V.view read).shape.most (V.view old).shape.most c.len-mark.result most mark at.place in
    let found = c.in_ok-done.ensures.waits m held in
    let n = found.0 in
    let shape : (V.view begun).shape ≡ (V.view old).shape = c.keep_objects.ensures.shape in
    let parts : (V.view mid).shape.parts ≡ (V.view old).shape.parts = ap (λ (s : VaultShape). s.parts) c.make_place.ensures.shape ∙ ap (λ (v : VaultView). v.shape.parts) stays.same ∙ ap (λ (s : VaultShape). s.parts) shape in
    let there = at.made n ((stays.held n).0 found.1.0) in
    each_fits (V.view old).shape.parts m d h (c.in_ok-done.ensures.fits m held)
    (rest_fits d h done (V.view begun).keys (V.holds begun) front all was so_far low gap (V.view old).shape.most m n found.1.0 found.1.1 (content n found.1.0) kept.0 kept.1 at.front own (V.view old).shape.most at.parted place
    (V.view mid).keys (V.view mid).free (V.view old).shape.parts (c.in_ok-make_place.ensures.counted.keys (changed n at.front) there) (c.in_ok-make_place.ensures.counted.sum ∙ parts) c.in_ok-make_place.ensures.room)

pub returns-clause-during : goal.returns-clause-during
returns-clause-during g c m held =
    let V = g.V.Vault in
    let old = c.args.vault.now in
    let begun = c.keep_objects.new.vault in
    let read = c.add_rest.new.vault in
    let h = c.args.objects.now in
    let d = closing c.args.units.now h in
    let front = c.keep_objects.new.changes.items in
    let all = c.add_rest.new.into.items in
    let done = c.in_ok-done.done in
    let was = c.in_ok-done.ensures.so_far in
    let so_far = c.in_ok-add_rest.ensures.so_far c.args.units.now c.in_ok-done.ensures.behind was in
    let low = c.in_ok-done.ensures.last.1 in
    let gap : (k : ℕ) → done < k → k < ceiling_key → parts_at d k ≡ [] = λ k above below. no_parts c.args.units.now h k below (c.in_ok-done.ensures.behind k above) in
    let kept = c.in_ok-add_rest.ensures.kept in
    let stays = c.add_rest.ensures.stays in
    let mark : c.len-mark.result ≡ length front = omega (arith, c.len-mark.ensures, c.keep_objects.new.changes.ok.0) in
    let whole : each_to (parts_at d) ceiling_key ≡ parts_of_all d = pieces_all c.args.units.now h done low c.in_ok-done.ensures.behind c.in_ok-done.ensures.whole in
    let content : (n : Content) → V.holds begun n → changed n all ≡ content_of d = λ n held. all_made d (V.view begun).keys (V.holds begun) all so_far whole (c.in_ok-add_rest.ensures.known (c.in_ok-done.ensures.fine n held)) n held in
    let mid = c.make_place.new.vault in
    let own = c.make_place.new.changes.items in
    let at = c.in_ok-make_place.ensures.placed in
    let most : (V.view read).shape.most ≡ (V.view old).shape.most = ap (λ (v : VaultView). v.shape.most) stays.same ∙ ap (λ (s : VaultShape). s.most) c.keep_objects.ensures.shape in
    let place = place_moved at.front own front (V.view read).shape.most (V.view old).shape.most c.len-mark.result most mark at.place in
    let found = c.in_ok-done.ensures.waits m held in
    let n = found.0 in
    let w = found.1.1 in
    let first =
    front_left_since V.view V.holds V.leaves begun read c.make_place.new.vault stays (IsLeft (V.view old).shape.most m d h) (V.view old).shape.most n front (take c.len-mark.result all) (mark_front front all kept.0 c.len-mark.result kept.1 mark)
    (ap (λ (s : VaultShape). s.most) c.keep_objects.ensures.shape) w.left (c.make_place.ensures.during n ((stays.held n).0 found.1.0)) (V.view old).moment (c.keep_objects.ensures.during m held) c.make_place.ensures.past in
    others_left V.view V.leaves mid c.put_changes.new.vault (IsLeft (V.view old).shape.most m d h) (V.view old).shape.most (V.view old).moment (changed n at.front) own c.deref.result.now first c.deref.ensures.value
    (ap (λ (s : VaultShape). s.most) c.make_place.ensures.shape ∙ most)
    (rest_left d h done (V.view begun).keys (V.holds begun) front all was so_far low gap (V.view old).shape.most m n found.1.0 w (content n found.1.0) at.front own kept.0 at.parted kept.1 place)
    c.put_changes.ensures.past (c.put_changes.ensures.during (changed n at.front) (at.made n ((stays.held n).0 found.1.0)))

pub returns-clause-after : goal.returns-clause-after
returns-clause-after g c m x held left =
    let V = g.V.Vault in
    let begun = c.keep_objects.new.vault in
    let h = c.args.objects.now in
    let d = closing c.args.units.now h in
    let all = c.add_rest.new.into.items in
    let done = c.in_ok-done.done in
    let was = c.in_ok-done.ensures.so_far in
    let so_far = c.in_ok-add_rest.ensures.so_far c.args.units.now c.in_ok-done.ensures.behind was in
    let low = c.in_ok-done.ensures.last.1 in
    let stays = c.add_rest.ensures.stays in
    let whole : each_to (parts_at d) ceiling_key ≡ parts_of_all d = pieces_all c.args.units.now h done low c.in_ok-done.ensures.behind c.in_ok-done.ensures.whole in
    let content : (n : Content) → V.holds begun n → changed n all ≡ content_of d = λ n held. all_made d (V.view begun).keys (V.holds begun) all so_far whole (c.in_ok-add_rest.ensures.known (c.in_ok-done.ensures.fine n held)) n held in
    let own = c.make_place.new.changes.items in
    let at = c.in_ok-make_place.ensures.placed in
    let found = c.in_ok-done.ensures.waits m held in
    let n = found.0 in
    c.in_ok-put_changes.ensures.after (changed n at.front) x (at.made n ((stays.held n).0 found.1.0)) left
    ∙ ap (changed (changed n at.front)) c.deref.ensures.value ∙ sym (changed-append n at.front own) ∙ ap (changed n) (sym at.parted) ∙ content n found.1.0
