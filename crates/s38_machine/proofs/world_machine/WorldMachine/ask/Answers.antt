use Rattle.std.proofs.Common.{ap, sym, ◌∙◌}
use Rattle.std.specs.Prelude.{Some}
use Rattle.s38_machine.proofs.AnsweredLaws.{answered_anew, answered_last, answered_run, answered_world, checked_run, judged_anew, judged_last, judged_verdict, waits_anew, waits_reply, waits_run}
use Rattle.s38_machine.specs.Answered.{run_of}
use Rattle.s38_machine.proofs.world_machine.WorldMachine.ask.Goals as goal

pub returns-then-waits-clause-ok : goal.returns-then-waits-clause-ok
returns-then-waits-clause-ok c =
    waits_run c.args.self.now c.args.process c.args.event (sym c.waits.ensures ∙ c.if-waits.true)

pub returns-then-waits-clause-reply : goal.returns-then-waits-clause-reply
returns-then-waits-clause-reply c =
    ap Some (sym (waits_reply c.args.self.now.world.state c.args.process c.args.event (sym c.waits.ensures ∙ c.if-waits.true)))

pub returns-then-waits-clause-anew : goal.returns-then-waits-clause-anew
returns-then-waits-clause-anew c =
    c.none.ensures ∙ sym (waits_anew c.args.self.now.world.state c.args.process c.args.event (sym c.waits.ensures ∙ c.if-waits.true))

pub answer-requires-clause-last : goal.answer-requires-clause-last
answer-requires-clause-last c =
    judged_last c.args.self.now c.judge-judged.new.self c.args.process c.args.event c.judge-judged.result.verdict
    (record { checked = c.judge-judged.ensures.checked; same = c.judge-judged.ensures.same; verdict = c.judge-judged.ensures.verdict }) c.requires.last

pub answer-requires-clause-verdict : goal.answer-requires-clause-verdict
answer-requires-clause-verdict c =
    judged_verdict c.args.self.now c.judge-judged.new.self c.args.process c.args.event c.judge-judged.result.verdict
    (record { checked = c.judge-judged.ensures.checked; same = c.judge-judged.ensures.same; verdict = c.judge-judged.ensures.verdict })

pub answer-requires-clause-anew : goal.answer-requires-clause-anew
answer-requires-clause-anew c =
    judged_anew c.args.self.now c.judge-judged.new.self c.args.process c.args.event c.judge-judged.result.verdict c.judge-judged.result.anew
    (record { checked = c.judge-judged.ensures.checked; same = c.judge-judged.ensures.same; verdict = c.judge-judged.ensures.verdict }) c.judge-judged.ensures.anew

pub returns-in-Ok-clause-ok : goal.returns-in-Ok-clause-ok
returns-in-Ok-clause-ok c =
    answered_run c.args.self.now c.judge-judged.new.self c.answer.new.self c.args.process c.args.event c.judge-judged.result.verdict
    (sym c.waits.ensures ∙ c.if-waits.false)
    (record { checked = c.judge-judged.ensures.checked; same = c.judge-judged.ensures.same; verdict = c.judge-judged.ensures.verdict }) c.in-Ok.ensures.ok

pub returns-in-Ok-clause-reply : goal.returns-in-Ok-clause-reply
returns-in-Ok-clause-reply c =
    answered_last c.args.self.now c.judge-judged.new.self c.answer.new.self c.args.process c.args.event c.judge-judged.result.verdict
    (sym c.waits.ensures ∙ c.if-waits.false)
    (record { checked = c.judge-judged.ensures.checked; same = c.judge-judged.ensures.same; verdict = c.judge-judged.ensures.verdict }) c.in-Ok.ensures.ok

pub returns-in-Ok-clause-anew : goal.returns-in-Ok-clause-anew
returns-in-Ok-clause-anew c =
    c.judge-judged.ensures.anew
    ∙ answered_anew c.args.self.now.world.state c.args.process c.args.event c.judge-judged.result.verdict (sym c.waits.ensures ∙ c.if-waits.false) c.judge-judged.ensures.verdict

pub returns-in-Ok-clause-world : goal.returns-in-Ok-clause-world
returns-in-Ok-clause-world c =
    answered_world c.args.self.now c.judge-judged.new.self c.answer.new.self c.args.process c.args.event c.judge-judged.result.verdict
    (sym c.waits.ensures ∙ c.if-waits.false)
    (record { checked = c.judge-judged.ensures.checked; same = c.judge-judged.ensures.same; verdict = c.judge-judged.ensures.verdict }) c.in-Ok.ensures.ok

pub returns-in-Err-clause-err : goal.returns-in-Err-clause-err
returns-in-Err-clause-err c =
    ap run_of c.in-Err.ensures.err ∙ checked_run c.args.self.now c.judge-judged.new.self c.args.process c.args.event c.judge-judged.result.verdict
    (record { checked = c.judge-judged.ensures.checked; same = c.judge-judged.ensures.same; verdict = c.judge-judged.ensures.verdict })
