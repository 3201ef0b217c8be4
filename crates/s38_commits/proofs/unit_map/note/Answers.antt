use Rattle.std.proofs.Common.{ap}
use Rattle.std.proofs.lemmas.Result.{on_err_weaker, on_ok_weaker}
use Rattle.s38_commits.specs.Unit.{noted}
use Rattle.s38_commits.proofs.MapLaws.{unit_missing, unit_unchanged, unit_written}
use Rattle.s38_commits.proofs.unit_map.note.Goals as goal

pub returns-in-Some-clause-ok : goal.returns-in-Some-clause-ok
returns-in-Some-clause-ok c =
    let u = c.in-Some.unit.now in
    let x = c.note.new.self in
    on_ok_weaker _ (λ same. unit_written c.args.block (noted c.args.change) u x c.args.units.now.entries _ c.in-Some.ensures.value (c.get_mut.follows.holds x).0 same) c.note.ensures.ok

pub returns-in-Some-clause-err : goal.returns-in-Some-clause-err
returns-in-Some-clause-err c =
    let u = c.in-Some.unit.now in
    let x = c.note.new.self in
    on_err_weaker _ (λ same. unit_unchanged c.args.block u x c.args.units.now.entries _ c.in-Some.ensures.value (c.get_mut.follows.holds x).0 same) c.note.ensures.err

pub returns-in-None-clause-ok : goal.returns-in-None-clause-ok
returns-in-None-clause-ok c =
    unit_missing c.args.block (noted c.args.change) c.args.units.now.entries _ c.in-None.ensures.value (ap (λ m. m.entries) c.get_mut.follows.holds-at-none)
