use Rattle.std.proofs.Common.{rules}
use Rattle.std.proofs.lemmas.List.FromFn.{fill_by_all}
use Rattle.s38_strings.specs.Hex.{spelled_byte}
use Rattle.s38_strings.proofs.hex.read.Goals as goal

pub returns : goal.returns
returns c = fill_by_all (spelled_byte c.args.from.now) c.loop-k.into _ 0 (search rules) (search rules)
