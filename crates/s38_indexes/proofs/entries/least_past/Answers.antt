use Rattle.std.proofs.Common.{ap, sym, ◌∙◌}
use Rattle.std.proofs.lemmas.List.Folds.{find_at}
use Rattle.std.specs.Prelude.{slice_get}
use Rattle.s38_indexes.specs.Leaves.{misses}
use Rattle.s38_indexes.proofs.entries.least_past.Goals as goal

pub returns : goal.returns
returns c =
    let xs = c.args.entries.now in
    c.entry_at.ensures ∙ ap (λ n. slice_get xs n) c.front.ensures.value ∙ sym (find_at (misses c.args.relation c.args.key.now) xs)
