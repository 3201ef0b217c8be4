use Rattle.std.proofs.Common.{ap}
use Rattle.std.proofs.lemmas.Result.{on_err_weaker, on_ok_weaker}
use Rattle.s38_rules.specs.state.Access.{granted}
use Rattle.s38_rules.specs.declared.rows.PrivateRow.{PrivateRow}
use Rattle.std.proofs.Common.{List}
use Rattle.s38_objects.specs.Changes.{with_changed_standing}
use Rattle.s38_objects.proofs.NumberLaws.{object_missing, object_unchanged, object_written}
use Rattle.s38_objects.proofs.numbered.set_row.Goals as goal

pub returns-in-Some-clause-ok : goal.returns-in-Some-clause-ok
returns-in-Some-clause-ok c =
    let o = c.in-Some.object.now in
    let x = record o { rows = c.set.new.self } in
    on_ok_weaker _ (λ same. object_written c.args.number (with_changed_standing (granted c.args.user c.args.rights)) o x c.args.objects.now.entries _ c.in-Some.ensures.value (c.get_mut.follows.holds x).0 (ap (λ (l : List PrivateRow). record o { rows = l }) same)) c.set.ensures.ok

pub returns-in-Some-clause-err : goal.returns-in-Some-clause-err
returns-in-Some-clause-err c =
    let o = c.in-Some.object.now in
    let x = record o { rows = c.set.new.self } in
    on_err_weaker _ (λ same. object_unchanged c.args.number o x c.args.objects.now.entries _ c.in-Some.ensures.value (c.get_mut.follows.holds x).0 (ap (λ (l : List PrivateRow). record o { rows = l }) same)) c.set.ensures.err

pub returns-in-None-clause-ok : goal.returns-in-None-clause-ok
returns-in-None-clause-ok c =
    object_missing c.args.number (with_changed_standing (granted c.args.user c.args.rights)) c.args.objects.now.entries _ c.in-None.ensures.value (ap (λ m. m.entries) c.get_mut.follows.holds-at-none)
