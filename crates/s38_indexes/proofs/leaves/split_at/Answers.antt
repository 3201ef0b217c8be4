use Rattle.std.proofs.Common.{◌∙◌, ap, get_or, set, [], List}
use Rattle.s38_indexes.specs.Entries.{IndexEntry}
use Rattle.s38_indexes.proofs.SplitLaws.{split_leaves}
use Rattle.s38_indexes.proofs.leaves.split_at.Goals as goal

pub returns-in-Ok-clause-ok : goal.returns-in-Ok-clause-ok
returns-in-Ok-clause-ok c =
    let old = c.args.leaves.now.items in
    let at = c.args.at in
    let lower = get_or c.halve.new.leaves.items at [] in
    let same = c.reserve.ensures.items in
    record {
      lower = lower;
      upper = c.in-Ok.upper;
      whole = c.in-Ok.ensures.whole ∙ ap (λ (ls : List (List IndexEntry)). get_or ls at []) same;
      leaves = split_leaves old c.halve.new.leaves.items c.put_after.new.leaves.items at lower c.in-Ok.upper c.requires.inside (c.in-Ok.ensures.lower ∙ ap (λ (ls : List (List IndexEntry)). set ls at lower) same) c.put_after.ensures;
      lower_room = c.in-Ok.ensures.lower_room;
      upper_room = c.in-Ok.ensures.upper_room;
    }
