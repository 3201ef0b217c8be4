use Rattle.std.proofs.Common.{◌-◌, length, rules}
use Rattle.std.proofs.lemmas.List.FromFn.{fill_by_all}
use Rattle.s38_decimal.specs.Images.{packed_with}
use Rattle.s38_decimal.proofs.write.write_long.Goals as goal

pub returns : goal.returns
returns c = fill_by_all (packed_with (length c.args.into.now - 1) c.args.number c.args.sign) c.loop-k.into _ 0 (search rules) (search rules)
