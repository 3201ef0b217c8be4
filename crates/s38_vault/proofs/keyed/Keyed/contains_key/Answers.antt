use Rattle.std.proofs.Common.{◌∙◌, ap}
use Rattle.std.specs.FinMap as map
use Rattle.std.specs.Prelude.{slice_get}
use Rattle.s38_vault.specs.Keyed.{is_of, place}
use Rattle.s38_vault.proofs.KeyedLaws.{contained_at}
use Rattle.s38_vault.proofs.keyed.Keyed.contains_key.Goals as goal

pub returns : goal.returns
returns g c =
    let key = c.args.key in
    let n = c.place.result in
    c.is_at.ensures
    ∙ ap (λ es. is_of key (slice_get es n)) c.deref.ensures.value
    ∙ contained_at c.self.inside.entries.items key n c.self.invariant (c.place.ensures.value ∙ ap (place key) c.deref-2.ensures.value)
    ∙ ap (λ k. map.contains_key k.values key) c.self.view_is
