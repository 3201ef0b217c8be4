use Rattle.std.proofs.Common.{◌∙◌}
use Rattle.s38_local.proofs.PlaceLaws.{first_past, second_past, string_end, string_values, taken, third_past}
use Rattle.s38_local.proofs.overlap.write_at.Goals as goal

pub returns-clause-end : goal.returns-clause-end
returns-clause-end c =
    let xs = c.args.values.now in
    let out = c.replace-taken.new.dest in
    string_end c.args.homes.now xs c.args.at c.replace-taken.result c.args.op c.args.args.now _ _ _ c.written-value.result.1
    (taken xs c.args.at c.index-values-at.result c.replace-taken.result c.requires.within c.index-values-at.is c.replace-taken.ensures.value)
    c.requires.place
    (c.bytes_past-a.ensures ∙ first_past c.args.homes.now xs c.args.at c.args.args.now c.args.own.now out c.requires.own)
    (c.bytes_past-b.ensures ∙ second_past c.args.homes.now xs c.args.at c.args.args.now c.args.own.now out c.requires.own)
    (c.bytes_past-c.ensures ∙ third_past c.args.homes.now xs c.args.at c.args.args.now c.args.own.now out c.requires.own)
    c.written-value.ensures.end

pub returns-clause-values : goal.returns-clause-values
returns-clause-values c =
    let xs = c.args.values.now in
    let out = c.replace-taken.new.dest in
    string_values c.args.homes.now xs c.args.at out c.written-value.result.0 c.replace-taken.result c.args.op c.args.args.now _ _ _
    (taken xs c.args.at c.index-values-at.result c.replace-taken.result c.requires.within c.index-values-at.is c.replace-taken.ensures.value)
    c.requires.place
    (c.bytes_past-a.ensures ∙ first_past c.args.homes.now xs c.args.at c.args.args.now c.args.own.now out c.requires.own)
    (c.bytes_past-b.ensures ∙ second_past c.args.homes.now xs c.args.at c.args.args.now c.args.own.now out c.requires.own)
    (c.bytes_past-c.ensures ∙ third_past c.args.homes.now xs c.args.at c.args.args.now c.args.own.now out c.requires.own)
    c.written-value.ensures.value
