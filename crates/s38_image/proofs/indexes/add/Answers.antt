use Rattle.std.proofs.Common.{List, ap, ◌∙◌}
use Rattle.s38_image.proofs.IndexReading.{placed_last}
use Rattle.s38_indexes.specs.Entries.{EntryIndex, IndexEntry}
use Rattle.s38_image.proofs.indexes.add.Goals as goal

pub returns-in-Ok-clause-ok : goal.returns-in-Ok-clause-ok
returns-in-Ok-clause-ok c =
    let old : EntryIndex = c.args.index.now in
    let longest = old.longest in
    let with_entries : List IndexEntry → EntryIndex = λ es. record { longest = longest; entries = es } in
    c.in-Ok.ensures.ok ∙ ap with_entries (placed_last old.entries c.args.entry.now c.requires)
