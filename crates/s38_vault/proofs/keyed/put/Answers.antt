use Rattle.std.proofs.Common.{◌∙◌, ap}
use Rattle.std.specs.Prelude.{slice_get}
use Rattle.s38_vault.specs.Keyed.{is_of, place}
use Rattle.s38_vault.proofs.KeyedLaws.{inserted_at, replaced_at}
use Rattle.s38_vault.proofs.keyed.put.Goals as goal

pub returns-then-is_at-clause-entries : goal.returns-then-is_at-clause-entries
returns-then-is_at-clause-entries g c =
    let key = c.args.key in
    let n = c.place-at.result in
    replaced_at c.args.entries.now.items key c.args.value n c.is_at.result
    (c.place-at.ensures.value ∙ ap (place key) c.deref.ensures.value)
    (c.is_at.ensures ∙ ap (λ es. is_of key (slice_get es n)) c.deref-2.ensures.value)
    c.if-is_at.true

pub returns-else-is_at-clause-entries : goal.returns-else-is_at-clause-entries
returns-else-is_at-clause-entries g c =
    let key = c.args.key in
    let n = c.place-at.result in
    c.insert_at.ensures.entries
    ∙ inserted_at c.args.entries.now.items key c.args.value n c.is_at.result
    (c.place-at.ensures.value ∙ ap (place key) c.deref.ensures.value)
    (c.is_at.ensures ∙ ap (λ es. is_of key (slice_get es n)) c.deref-2.ensures.value)
    c.if-is_at.false
