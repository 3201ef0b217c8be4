use Rattle.std.proofs.Common.{◌∙◌, ap}
use Rattle.std.specs.Prelude.{slice_get}
use Rattle.s38_vault.specs.Keyed.{is_of, place}
use Rattle.s38_vault.proofs.KeyedLaws.{kept_at, removed_at}
use Rattle.s38_vault.proofs.keyed.take_out.Goals as goal

pub returns-then-is_at-clause-entries : goal.returns-then-is_at-clause-entries
returns-then-is_at-clause-entries g c =
    let key = c.args.key in
    let n = c.place-at.result in
    c.remove.ensures.items
    ∙ removed_at c.args.entries.now.items key n c.is_at.result c.requires
    (c.place-at.ensures.value ∙ ap (place key) c.deref.ensures.value)
    (c.is_at.ensures ∙ ap (λ es. is_of key (slice_get es n)) c.deref-2.ensures.value)
    c.if-is_at.true

pub returns-else-is_at-clause-entries : goal.returns-else-is_at-clause-entries
returns-else-is_at-clause-entries g c =
    let key = c.args.key in
    let n = c.place-at.result in
    kept_at c.args.entries.now.items key n c.is_at.result c.requires
    (c.place-at.ensures.value ∙ ap (place key) c.deref.ensures.value)
    (c.is_at.ensures ∙ ap (λ es. is_of key (slice_get es n)) c.deref-2.ensures.value)
    c.if-is_at.false
