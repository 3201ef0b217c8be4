use Rattle.std.proofs.Common.{get_or, rules}
use Rattle.std.proofs.lemmas.List.FromFn.{fill_by_all}
use Rattle.s38_strings.specs.Bits.{byte_of}
use Rattle.s38_strings.proofs.bitwise.bits.Goals as goal

pub returns : goal.returns
returns c = fill_by_all (λ k. byte_of c.args.op (get_or c.args.a.now k 0) (get_or c.args.b.now k 0)) c.loop-k.into _ 0 (search rules) (search rules)
