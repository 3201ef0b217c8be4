use Rattle.std.proofs.Common.{◌≡◌, ◌∙◌, ◌++◌, List, None, Some, ap, false, subst, sym, true}
use Rattle.std.specs.FinMap.{get}
use Rattle.std.specs.Prelude.{is_some}
use Rattle.s38_base.specs.declared.page.Change.{Change}
use Rattle.s38_durable_state.specs.Durable.{Durable}
use Rattle.s38_page_diff.proofs.FaultLaws.{bad_on, handed}
use Rattle.s38_page_diff.specs.Differences.{differences}
use Rattle.s38_image.specs.Images.{image_parts}
use Rattle.s38_image.specs.declared.stored.Stored.{Stored}
use Rattle.s38_page_diff.specs.reconcile.Replacing.{range_of}
use Rattle.s38_rules.specs.state.Parts.{profile_of}
use Rattle.s38_rules.specs.state.State.{State}
use Rattle.s38_vault.specs.Content.{Content}
use Rattle.s38_flush.proofs.FollowedLaws.{always, never_read_badly, none_follows, on_ok, some_follows, some_header, user_follows}
use Rattle.s38_flush.proofs.KeptLaws.{key_of, lens, some_len}
use Rattle.s38_page_diff.specs.FlushFaults.{IsUnread}
use Rattle.s38_flush.specs.Stepping.{HasHeader, Precedes}
use Rattle.s38_page_diff.specs.declared.fault.FlushFault.{FlushFault}
use Rattle.s38_flush.proofs.differing.add_followed.Goals as goal

pub returns-then-is_user-clause-told : goal.returns-then-is_user-clause-told
returns-then-is_user-clause-told g c =
    let V = g.V.Vault in
    let o = c.args.object.now in
    let h = c.args.objects.now in
    let us = c.args.units.now in
    let user : is_some (profile_of o.body) ≡ true = sym c.is_user.ensures ∙ c.if-is_user.true in
    on_ok c.add_whole.result _ _
    (λ told m d s held p. told m held ∙ ap (λ (x : Stored). c.args.into.now.items ++ differences (get m) (range_of o.number.0) (image_parts x)) (sym (user_follows h us m d s p o c.requires.there user c.requires.object.kind)))
    c.add_whole.ensures.told

pub returns-then-is_user-clause-header : goal.returns-then-is_user-clause-header
returns-then-is_user-clause-header g c =
    let V = g.V.Vault in
    let o = c.args.object.now in
    let h = c.args.objects.now in
    let us = c.args.units.now in
    let user : is_some (profile_of o.body) ≡ true = sym c.is_user.ensures ∙ c.if-is_user.true in
    always c.add_whole.result _ (λ m d s held p. subst HasHeader (sym (user_follows h us m d s p o c.requires.there user c.requires.object.kind)) c.add_whole.ensures.header)

pub returns-in_err-len-clause-bad : goal.returns-in_err-len-clause-bad
returns-in_err-len-clause-bad g c =
    let V = g.V.Vault in
    let o = c.args.object.now in
    let h = c.args.objects.now in
    let us = c.args.units.now in
    let fault = c.in_err-len.field-0.0 in
    handed (λ (e : FlushFault). IsUnread ((m : Content) (d : Durable) (s : State) → V.holds c.args.vault.now m → Precedes h us m d s → ⊥) e) c.from_residual.result fault c.from_residual.ensures.1
    (bad_on _ _ (λ bad m d s held p. never_read_badly h us m d s p o c.requires.number.1 (bad m held)) fault c.in_err-len.ensures.bad)

pub returns-in-Some-clause-told : goal.returns-in-Some-clause-told
returns-in-Some-clause-told g c =
    let V = g.V.Vault in
    let o = c.args.object.now in
    let h = c.args.objects.now in
    let us = c.args.units.now in
    let len = c.in-Some.len in
    let user : is_some (profile_of o.body) ≡ false = sym c.is_user.ensures ∙ c.if-is_user.false in
    on_ok c.add_front.result _ _
    (λ told m d s held p.
    let read : lens (get m (key_of o.number.0)) ≡ some_len (Some len) = c.in_ok-len.ensures.told m held ∙ ap some_len c.in-Some.is in
    told m ((c.kept_len.ensures.stays.held m).0 held)
    ∙ ap (λ (cs : List Change). c.args.into.now.items ++ cs)
    (sym (some_follows h us m d s p o len c.requires.number.1 c.requires.there read user c.requires.object.rows c.as_bytes-name.ensures.name)))
    c.add_front.ensures.told

pub returns-in-Some-clause-header : goal.returns-in-Some-clause-header
returns-in-Some-clause-header g c =
    let V = g.V.Vault in
    let o = c.args.object.now in
    let h = c.args.objects.now in
    let us = c.args.units.now in
    let len = c.in-Some.len in
    let user : is_some (profile_of o.body) ≡ false = sym c.is_user.ensures ∙ c.if-is_user.false in
    on_ok c.add_front.result _ _
    (λ fits m d s held p.
    let read : lens (get m (key_of o.number.0)) ≡ some_len (Some len) = c.in_ok-len.ensures.told m held ∙ ap some_len c.in-Some.is in
    some_header h us m d s p o len c.requires.number.1 c.requires.there read user c.requires.object.rows fits)
    c.add_front.ensures.header

pub returns-in-None-clause-told : goal.returns-in-None-clause-told
returns-in-None-clause-told g c =
    let V = g.V.Vault in
    let o = c.args.object.now in
    let h = c.args.objects.now in
    let us = c.args.units.now in
    on_ok c.add_whole-in-None.result _ _
    (λ told m d s held p.
    let read : lens (get m (key_of o.number.0)) ≡ some_len None = c.in_ok-len.ensures.told m held ∙ ap some_len c.in-None.is in
    told m ((c.kept_len.ensures.stays.held m).0 held)
    ∙ ap (λ (x : Stored). c.args.into.now.items ++ differences (get m) (range_of o.number.0) (image_parts x))
    (sym (none_follows h us m d s p o c.requires.number.1 read)))
    c.add_whole-in-None.ensures.told

pub returns-in-None-clause-header : goal.returns-in-None-clause-header
returns-in-None-clause-header g c =
    let V = g.V.Vault in
    let o = c.args.object.now in
    let h = c.args.objects.now in
    let us = c.args.units.now in
    always c.add_whole-in-None.result _
    (λ m d s held p.
    let read : lens (get m (key_of o.number.0)) ≡ some_len None = c.in_ok-len.ensures.told m held ∙ ap some_len c.in-None.is in
    subst HasHeader (sym (none_follows h us m d s p o c.requires.number.1 read)) c.add_whole-in-None.ensures.header)
