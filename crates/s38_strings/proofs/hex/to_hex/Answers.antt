use Rattle.std.proofs.Common.{rules}
use Rattle.std.proofs.lemmas.List.FromFn.{fill_by_all}
use Rattle.s38_strings.specs.Hex.{character_at}
use Rattle.s38_strings.proofs.hex.to_hex.Goals as goal

pub returns : goal.returns
returns c = fill_by_all (character_at c.args.from.now) c.loop-k.into _ 0 (search rules) (search rules)
