use Rattle.std.proofs.Common.{◌≡◌, None, arith, rules}
use Rattle.std.proofs.lemmas.Grind.{common_steps}
use Rattle.std.specs.Ordering.{nat_cmp}
use Rattle.std.specs.Cmp.Lexicographic.{slice_cmp}
use Rattle.std.specs.BTreeMap.{get}
use Rattle.s38_odt.proofs.MapLemmas.{EntersNew-insert}
use Rattle.s38_odt.proofs.labels.enter.Goals as goal

pub returns-in_ok-insert : goal.returns-in_ok-insert
returns-in_ok-insert c =
    let absent : get (slice_cmp nat_cmp) c.args.labels.now c.args.name ≡ None = grind (arith, common_steps) in
    EntersNew-insert c.args.labels.now c.insert.new.self c.args.name c.args.at absent (search rules)
