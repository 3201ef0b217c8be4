use Rattle.std.proofs.Common.{◌≡◌, get_or, set, []}
use Rattle.std.proofs.lemmas.Result.{on_ok_weaker}
use Rattle.s38_indexes.specs.Entries.{index_with_entry}
use Rattle.s38_indexes.proofs.LeafLaws.{added_at, added_long, new_at}
use Rattle.s38_indexes.proofs.leaves.add_with_room.Goals as goal

pub add_at-requires-clause-new : goal.add_at-requires-clause-new
add_at-requires-clause-new c = new_at c.args.entry c.args.leaves.now.items c.args.at c.requires.place.inside c.requires.new

pub returns-clause-ok : goal.returns-clause-ok
returns-clause-ok c =
    let old = c.args.leaves.now.items in
    let new = c.add_at.new.leaves.items in
    let at = c.args.at in
    on_ok_weaker _ (λ (e : new ≡ set old at (index_with_entry c.args.entry (get_or old at []))). added_at c.args.entry old new at c.requires.place e) c.add_at.ensures.ok

pub returns-clause-none_empty : goal.returns-clause-none_empty
returns-clause-none_empty c =
    added_long c.add_at.result c.args.entry c.args.leaves.now.items c.add_at.new.leaves.items c.args.at c.add_at.ensures.ok c.add_at.ensures.err c.requires.none_empty
