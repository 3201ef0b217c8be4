use Rattle.std.proofs.Common.{rules, arith}
use Rattle.std.proofs.lemmas.List.{places, same_lists}
use Rattle.s38_strings.proofs.copies.cat.Goals as goal

pub returns : goal.returns
returns c = same_lists _ _ (search (rules, places)) (λ k d h. grind (arith, places))
