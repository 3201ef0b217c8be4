use Rattle.std.proofs.Common.{sym, subst, Option}
use Rattle.s38_codec.specs.Reading.{Gives}
use Rattle.s38_image.proofs.IndexReading.{gives_index, index_whole}
use Rattle.s38_indexes.specs.Entries.{EntryIndex}
use Rattle.s38_image.proofs.indexes.index_in.Goals as goal

pub returns : goal.returns
returns c =
    let is = index_whole c.args.bytes.now c.in_ok-longest.rest.now c.in_ok-count.rest.now c.in_ok-longest.longest c.in_ok-count.count c.in_ok-longest.ensures c.in_ok-count.ensures in
    subst (λ (o : Option EntryIndex). Gives (λ i. i) c.entries_in.result o) (sym is) (gives_index c.entries_in.result _ c.in_ok-longest.longest c.entries_in.ensures.read c.entries_in.ensures.longest)
