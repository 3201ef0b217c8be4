use Rattle.std.proofs.Common.{◌≡◌, ◌∙◌, ◌++◌, ◌*◌, ◌/◌, ◌≤◌, List, Some, ap, arith, sym, ℕ}
use Rattle.std.specs.FinMap.{get}
use Rattle.s38_base.specs.declared.page.Change.{Change}
use Rattle.s38_durable_state.specs.Durable.{Durable}
use Rattle.s38_page_diff.proofs.FaultLaws.{bad_on, handed}
use Rattle.s38_journals.specs.Journals.{entries_len}
use Rattle.s38_rules.specs.state.State.{State}
use Rattle.s38_vault.specs.Content.{Content}
use Rattle.s38_flush.proofs.FollowedLaws.{grown_follows, never_read_badly, on_ok}
use Rattle.s38_flush.proofs.KeptLaws.{key_of, lens, some_len}
use Rattle.s38_page_diff.specs.FlushFaults.{IsUnread}
use Rattle.s38_flush.specs.Stepping.{Precedes}
use Rattle.s38_page_diff.specs.declared.fault.FlushFault.{FlushFault}
use Rattle.s38_flush.proofs.grown.add_forced.Goals as goal

pub returns-in_err-len-clause-bad : goal.returns-in_err-len-clause-bad
returns-in_err-len-clause-bad g c =
    let V = g.V.Vault in
    let o = c.args.object.now in
    let h = c.args.objects.now in
    let us = c.args.units.now in
    let fault = c.in_err-len.field-0.0 in
    handed (λ (e : FlushFault). IsUnread ((m : Content) (d : Durable) (s : State) → V.holds c.args.vault.now m → Precedes h us m d s → ⊥) e) c.from_residual.result fault c.from_residual.ensures.1
    (bad_on _ _ (λ bad m d s held p. never_read_badly h us m d s p o c.requires.number.1 (bad m held)) fault c.in_err-len.ensures.bad)

pub returns-in-Some-clause-told : goal.returns-in-Some-clause-told
returns-in-Some-clause-told g c =
    let V = g.V.Vault in
    let o = c.args.object.now in
    let h = c.args.objects.now in
    let us = c.args.units.now in
    let j = c.in-Journal.journal in
    let len = c.in-Some.len in
    let first = c.min-first.result / 512 in
    let short : entries_len j.entries ≤ 16777216 = omega (arith, c.len.ensures.len, c.len.ensures.room) in
    let least : c.min-first.result ≤ len = omega (arith, c.min-first.ensures) in
    let within : 512 * first ≤ len = omega (arith, least) in
    on_ok c.add_grown.result _ _
    (λ told m d s held p.
    let read : lens (get m (key_of o.number.0)) ≡ some_len (Some len) = c.in_ok-len.ensures.told m held ∙ ap some_len c.in-Some.is in
    told m ((c.kept_len.ensures.stays.held m).0 held)
    ∙ ap (λ (cs : List Change). c.args.into.now.items ++ cs)
    (sym (grown_follows h us m d s p o j len first c.requires.object c.requires.number.1 c.requires.there read c.in-Journal.is short c.as_bytes-name.ensures.name within)))
    c.add_grown.ensures.told
