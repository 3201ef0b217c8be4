use Rattle.std.proofs.Common.{ap, sym, ◌∙◌}
use Rattle.std.specs.Prelude.{slice_get}
use Rattle.s38_indexes.specs.Leaves.{is_equal_to}
use Rattle.s38_indexes.proofs.OrderLaws.{held_at}
use Rattle.s38_indexes.proofs.entries.holds.Goals as goal

pub returns : goal.returns
returns c =
    let key = c.args.key.now in
    let xs = c.args.entries.now in
    c.equals_at.ensures ∙ ap (λ n. is_equal_to key (slice_get xs n)) c.place.ensures.value ∙ sym (held_at key xs c.requires)
