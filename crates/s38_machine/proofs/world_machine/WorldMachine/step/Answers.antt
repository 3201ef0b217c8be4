use Rattle.std.proofs.Common.{◌≡◌, ap, sym, ◌∙◌}
use Rattle.s38_code.specs.declared.event.Event.{Event}
use Rattle.s38_machine.proofs.AnsweredLaws.{IsJudged, answered_reply, answered_run, answered_world, checked_run, handed_on, judged_anew, judged_last, judged_verdict, waits_reply, waits_run}
use Rattle.s38_machine.specs.Answered.{WorldRun, entered, run_of}
use Rattle.s38_machine.specs.Stored.{must_persist_by}
use Rattle.s38_rules.specs.step.Step.{awake_verdict, by_verdict}
use Rattle.s38_machine.proofs.world_machine.WorldMachine.step.Goals as goal

pub returns-then-waits-clause-ok : goal.returns-then-waits-clause-ok
returns-then-waits-clause-ok c =
    let still = sym c.waits.ensures ∙ c.if-waits.true in
    (sym (waits_reply c.args.self.now.world.state c.args.process c.args.event.now still), waits_run c.args.self.now c.args.process c.args.event.now still)

pub returns-in_err-own-clause-err : goal.returns-in_err-own-clause-err
returns-in_err-own-clause-err c =
    handed_on c.from_residual.result (run_of c.judge-judged.new.self ≡ run_of c.args.self.now)
    (checked_run c.args.self.now c.judge-judged.new.self c.args.process c.args.event.now c.judge-judged.result.verdict
    (record { checked = c.judge-judged.ensures.checked; same = c.judge-judged.ensures.same; verdict = c.judge-judged.ensures.verdict }))

pub answer_copied-requires-clause-last : goal.answer_copied-requires-clause-last
answer_copied-requires-clause-last c =
    judged_last c.args.self.now c.judge-judged.new.self c.args.process c.args.event.now c.judge-judged.result.verdict
    (record { checked = c.judge-judged.ensures.checked; same = c.judge-judged.ensures.same; verdict = c.judge-judged.ensures.verdict }) c.requires.last

pub answer_copied-requires-clause-verdict : goal.answer_copied-requires-clause-verdict
answer_copied-requires-clause-verdict c =
    ap (λ (e : Event). awake_verdict c.judge-judged.new.self.world.state c.args.process e) c.in_ok-own.ensures
    ∙ judged_verdict c.args.self.now c.judge-judged.new.self c.args.process c.args.event.now c.judge-judged.result.verdict
    (record { checked = c.judge-judged.ensures.checked; same = c.judge-judged.ensures.same; verdict = c.judge-judged.ensures.verdict })

pub answer_copied-requires-clause-anew : goal.answer_copied-requires-clause-anew
answer_copied-requires-clause-anew c =
    judged_anew c.args.self.now c.judge-judged.new.self c.args.process c.args.event.now c.judge-judged.result.verdict c.judge-judged.result.anew
    (record { checked = c.judge-judged.ensures.checked; same = c.judge-judged.ensures.same; verdict = c.judge-judged.ensures.verdict }) c.judge-judged.ensures.anew
    ∙ ap (λ (e : Event). must_persist_by c.judge-judged.new.self.world.state c.args.process e c.judge-judged.result.verdict) (sym c.in_ok-own.ensures)

pub returns-in-Ok-clause-ok : goal.returns-in-Ok-clause-ok
returns-in-Ok-clause-ok c =
    let judged : IsJudged c.args.self.now c.judge-judged.new.self c.args.process c.args.event.now c.judge-judged.result.verdict =
    record { checked = c.judge-judged.ensures.checked; same = c.judge-judged.ensures.same; verdict = c.judge-judged.ensures.verdict } in
    let awake = sym c.waits.ensures ∙ c.if-waits.false in
    let x : WorldRun = c.judge-judged.new.self in (
      c.in-Ok.ensures.ok.0
          ∙ ap (λ (e : Event). (by_verdict x.world.state c.args.process e c.judge-judged.result.verdict).reply) c.in_ok-own.ensures
          ∙ answered_reply c.args.self.now x c.args.process c.args.event.now c.judge-judged.result.verdict awake judged,
      answered_run c.args.self.now x c.answer_copied.new.self c.args.process c.args.event.now c.judge-judged.result.verdict awake judged
          (c.in-Ok.ensures.ok.1 ∙ ap (λ (e : Event). entered x c.args.process e c.judge-judged.result.verdict (by_verdict x.world.state c.args.process e c.judge-judged.result.verdict)) c.in_ok-own.ensures),
    )

pub returns-in-Ok-clause-world : goal.returns-in-Ok-clause-world
returns-in-Ok-clause-world c =
    let x : WorldRun = c.judge-judged.new.self in
    answered_world c.args.self.now x c.answer_copied.new.self c.args.process c.args.event.now c.judge-judged.result.verdict (sym c.waits.ensures ∙ c.if-waits.false)
    (record { checked = c.judge-judged.ensures.checked; same = c.judge-judged.ensures.same; verdict = c.judge-judged.ensures.verdict })
    (c.in-Ok.ensures.ok.1 ∙ ap (λ (e : Event). entered x c.args.process e c.judge-judged.result.verdict (by_verdict x.world.state c.args.process e c.judge-judged.result.verdict)) c.in_ok-own.ensures)

pub returns-in-Err-clause-err : goal.returns-in-Err-clause-err
returns-in-Err-clause-err c =
    ap run_of c.in-Err.ensures.err ∙ checked_run c.args.self.now c.judge-judged.new.self c.args.process c.args.event.now c.judge-judged.result.verdict
    (record { checked = c.judge-judged.ensures.checked; same = c.judge-judged.ensures.same; verdict = c.judge-judged.ensures.verdict })
