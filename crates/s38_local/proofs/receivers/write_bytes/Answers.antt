use Rattle.s38_local.specs.Received.{value_with_bytes}
use Rattle.s38_local.proofs.PlaceLaws.{changed_back, taken}
use Rattle.s38_local.proofs.receivers.write_bytes.Goals as goal

pub returns : goal.returns
returns c =
    changed_back c.args.values.now c.args.at c.replace-value.new.dest c.with_bytes.result c.replace-value.result (value_with_bytes c.args.bytes)
    (taken c.args.values.now c.args.at c.index-values-at.result c.replace-value.result c.requires c.index-values-at.is c.replace-value.ensures.value)
    c.with_bytes.ensures
