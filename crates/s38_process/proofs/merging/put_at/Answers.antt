use Rattle.s38_process.proofs.PlaceLaws.{merged_back}
use Rattle.s38_process.proofs.merging.put_at.Goals as goal

pub returns : goal.returns
returns c =
    merged_back c.args.op c.args.values.now c.args.at c.replace-old.new.dest c.index-values-at.result c.merge.result c.replace-old.result c.args.value c.requires c.index-values-at.is c.replace-old.ensures.value c.merge.ensures
