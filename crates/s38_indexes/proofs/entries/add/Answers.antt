use Rattle.std.proofs.Common.{◌≡◌, ◌∙◌, ap}
use Rattle.std.proofs.lemmas.Result.{on_ok_weaker}
use Rattle.std.specs.Prelude.{insert}
use Rattle.s38_indexes.specs.Entries.{place_of_key}
use Rattle.s38_indexes.proofs.OrderLaws.{inserted_at}
use Rattle.s38_indexes.proofs.entries.add.Goals as goal

pub returns-clause-ok : goal.returns-clause-ok
returns-clause-ok c =
    let xs = c.args.entries.now.items in
    let at = c.place-at.ensures.value ∙ ap (λ key. place_of_key key c.deref.result.now) c.as_slice.ensures in
    let is = inserted_at c.args.entry xs c.deref.result.now c.place-at.result at c.deref.ensures.value in
    on_ok_weaker _ (λ (e : c.insert_at.new.entries.items ≡ insert xs c.place-at.result c.args.entry). e ∙ is) c.insert_at.ensures.ok
