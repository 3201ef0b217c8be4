use Rattle.s38_top.specs.Outside.{outside}
use Rattle.s38_top.proofs.TopLaws.{answered_of, ends_of, safe_told}
use Rattle.s38_top.proofs.report.reported.Goals as goal

pub returns-clause-answered : goal.returns-clause-answered
returns-clause-answered g c = λ asked left left' taken taken' old new decided safe.
    let before = outside left taken (g.O.Sink.written c.args.out.now) (g.O.Sink.faults c.args.out.now) old in
    let behind = outside left' taken' (g.O.Sink.written c.tell-told.new.out) (g.O.Sink.faults c.tell-told.new.out) new in
    answered_of asked before behind c.report_of.result.status c.report_of.result.history.items c.report_of.result.marks.items
    (ends_of asked before behind c.args.decided.outcome c.tell-told.result.outcome c.tell-told.result.written c.report_of.result.status c.report_of.result.history.items c.report_of.result.marks.items
    (decided _ _ _ _) c.tell-told.ensures.outcome c.tell-told.ensures.told c.report_of.ensures.status c.report_of.ensures.history c.report_of.ensures.marks)
    (safe_told asked old new c.tell-told.result.written c.args.decided.outcome c.tell-told.result.outcome c.report_of.result.status c.report_of.result.history.items c.report_of.result.marks.items
    c.tell-told.ensures.outcome c.report_of.ensures.status c.report_of.ensures.history c.report_of.ensures.marks safe)
