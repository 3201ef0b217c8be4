use Rattle.std.proofs.Common.{◌≡◌, ◌≤◌, ℕ, arith, ap, subst, sym, ◌∙◌}
use Rattle.std.specs.Prelude.{Result, Ok, Err, IfOk, OnErr}
use Rattle.s38_code.specs.declared.event.Event.{Event}
use Rattle.s38_code.specs.declared.reply.Reply.{Reply}
use Rattle.s38_code.specs.declared.step.StepFault.{StepFault}
use Rattle.s38_code.specs.History.{IsAnswered}
use Rattle.s38_rules.specs.step.Step.{step}
use Rattle.s38_rules.specs.step.Legal.{Run, after}
use Rattle.s38_rules.proofs.Laws.{answered_after, origin_after}
use Rattle.s38_machine.specs.Still.{IsStillStep}
use Rattle.s38_machine.proofs.AskingLaws.{same_moment}
use Rattle.s38_machine.proofs.machine.MachineStepper.step.Goals as goal

abbrev Stepped : Result Reply StepFault → Run → Run → ℕ → Event → Type 0
Stepped r m n p e = IfOk r (λ x. (x ≡ (step m.state p e).reply) × (n ≡ after m m.moment p e))

origin_kept : (r : Result Reply StepFault) (m n : Run) (p : ℕ) (e : Event) → Stepped r m n p e → OnErr r (n ≡ m) → n.origin ≡ m.origin
origin_kept (Ok x) m n p e ok err = ap (λ (k : Run). k.origin) ok.1 ∙ origin_after m m.moment p e
origin_kept (Err x) m n p e ok err = ap (λ (k : Run). k.origin) err

answered : (r : Result Reply StepFault) (m n : Run) (p : ℕ) (e : Event) → Stepped r m n p e → IfOk r (λ x. IsAnswered p e x m.history n.history)
answered (Ok x) m n p e ok =
    let F : Reply → Run → Type 0 = λ y k. IsAnswered p e y m.history k.history in
    subst (λ (y : Reply). F y n) (sym ok.0)
    (subst (λ (k : Run). F (step m.state p e).reply k) (sym ok.1) (answered_after m m.moment p e))
answered (Err x) m n p e ok = tt

pub returns-clause-origin : goal.returns-clause-origin
returns-clause-origin c = origin_kept c.step.result c.args.self.now c.step.new.self c.args.process c.args.event.now c.step.ensures.ok c.step.ensures.err

pub returns-clause-answered : goal.returns-clause-answered
returns-clause-answered c = answered c.step.result c.args.self.now c.step.new.self c.args.process c.args.event.now c.step.ensures.ok

at_moment : (m n : Run) (p : ℕ) (e : Event) → n ≡ after m m.moment p e → n ≡ after m n.moment p e
at_moment m n p e is = subst (λ k. n ≡ after m k p e) (sym (same_moment m n p e is)) is

no_earlier : (m n : Run) (p : ℕ) (e : Event) → n ≡ after m m.moment p e → m.moment ≤ n.moment
no_earlier m n p e is = let same = same_moment m n p e is in omega (arith, same)

stepped : (r : Result Reply StepFault) (m n : Run) (p : ℕ) (e : Event) → Stepped r m n p e → OnErr r (n ≡ m) → IsStillStep m p e r n
stepped (Ok x) m n p e ok err =
    (record { reply = sym ok.0; moved = at_moment m n p e ok.1; later = no_earlier m n p e ok.1; kept = tt }, same_moment m n p e ok.1)
stepped (Err x) m n p e ok err =
    (record { reply = tt; moved = tt; later = subst (λ (k : Run). m.moment ≤ k.moment) (sym err) (omega arith); kept = err }, ap (λ (k : Run). k.moment) err)

pub returns-clause-steps : goal.returns-clause-steps
returns-clause-steps c = stepped c.step.result c.args.self.now c.step.new.self c.args.process c.args.event.now c.step.ensures.ok c.step.ensures.err
