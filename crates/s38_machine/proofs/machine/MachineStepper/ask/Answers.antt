use Rattle.std.proofs.Common.{◌≡◌, ◌≤◌, ℕ, arith, true, ap, refl, subst, sym, ◌∙◌}
use Rattle.std.specs.Prelude.{Option, Some, Result, Ok, Err, IfOk, IfSome, OnErr, OnOk, is_some}
use Rattle.std.specs.Option.{option_map}
use Rattle.s38_code.specs.declared.asked.Asked.{Asked}
use Rattle.s38_code.specs.declared.event.Event.{Event}
use Rattle.s38_code.specs.declared.reply.Reply.{Reply}
use Rattle.s38_code.specs.declared.step.StepFault.{StepFault}
use Rattle.s38_code.specs.Asking.{answer_by, reply_by}
use Rattle.s38_code.specs.History.{IsAnswered}
use Rattle.s38_rules.specs.step.Step.{step}
use Rattle.s38_rules.specs.step.Legal.{Run, after}
use Rattle.s38_rules.proofs.Laws.{answered_after, origin_after}
use Rattle.s38_machine.specs.Still.{IsStillStep}
use Rattle.s38_machine.proofs.AskingLaws.{same_moment}
use Rattle.s38_machine.proofs.machine.MachineStepper.ask.Goals as goal

-- the reply to what was asked is that of the step
abbrev Replied : Result Asked StepFault → Run → Run → ℕ → Event → Type 0
Replied r m n p e = IfOk r (λ x. reply_by x n.history ≡ Some (step m.state p e).reply)

origin_kept : (r : Result Asked StepFault) (m n : Run) (p : ℕ) (e : Event) → OnOk r (n ≡ after m m.moment p e) → OnErr r (n ≡ m) → n.origin ≡ m.origin
origin_kept (Ok x) m n p e ok err = ap (λ (k : Run). k.origin) ok ∙ origin_after m m.moment p e
origin_kept (Err x) m n p e ok err = ap (λ (k : Run). k.origin) err

pub returns-clause-origin : goal.returns-clause-origin
returns-clause-origin c = origin_kept c.ask.result c.args.self.now c.ask.new.self c.args.process c.args.event c.ask.ensures.ok c.ask.ensures.err

replied : (r : Result Asked StepFault) (m n : Run) (p : ℕ) (e : Event) → Replied r m n p e → IfOk r (λ x. is_some (reply_by x n.history) ≡ true)
replied (Ok x) m n p e is = ap is_some is
replied (Err x) m n p e is = tt

pub returns-clause-replied : goal.returns-clause-replied
returns-clause-replied c = replied c.ask.result c.args.self.now c.ask.new.self c.args.process c.args.event c.ask.ensures.reply

at_moment : (m n : Run) (p : ℕ) (e : Event) → n ≡ after m m.moment p e → n ≡ after m n.moment p e
at_moment m n p e is = subst (λ k. n ≡ after m k p e) (sym (same_moment m n p e is)) is

no_earlier : (m n : Run) (p : ℕ) (e : Event) → n ≡ after m m.moment p e → m.moment ≤ n.moment
no_earlier m n p e is = let same = same_moment m n p e is in omega (arith, same)

stepped : (r : Result Asked StepFault) (m n : Run) (p : ℕ) (e : Event) → Replied r m n p e → OnOk r (n ≡ after m m.moment p e) → OnErr r (n ≡ m)
    → IfSome (answer_by r n.history) (λ answer. IsStillStep m p e answer n)
stepped (Ok x) m n p e is ok err =
    subst (λ (o : Option Reply). IfSome (option_map (λ (y : Reply). Ok y) o) (λ answer. IsStillStep m p e answer n)) (sym is) (record { reply = refl; moved = at_moment m n p e ok; later = no_earlier m n p e ok; kept = tt }, same_moment m n p e ok)
stepped (Err x) m n p e is ok err =
    (record { reply = tt; moved = tt; later = subst (λ (k : Run). m.moment ≤ k.moment) (sym err) (omega arith); kept = err }, ap (λ (k : Run). k.moment) err)

pub returns-clause-steps : goal.returns-clause-steps
returns-clause-steps c = stepped c.ask.result c.args.self.now c.ask.new.self c.args.process c.args.event c.ask.ensures.reply c.ask.ensures.ok c.ask.ensures.err

answered : (r : Result Asked StepFault) (m n : Run) (p : ℕ) (e : Event) → Replied r m n p e → OnOk r (n ≡ after m m.moment p e)
    → IfOk r (λ x. IfSome (reply_by x n.history) (λ y. IsAnswered p e y m.history n.history))
answered (Ok x) m n p e is ok =
    subst (λ (o : Option Reply). IfSome o (λ y. IsAnswered p e y m.history n.history)) (sym is)
    (subst (λ (k : Run). IsAnswered p e (step m.state p e).reply m.history k.history) (sym ok) (answered_after m m.moment p e))
answered (Err x) m n p e is ok = tt

pub returns-clause-answered : goal.returns-clause-answered
returns-clause-answered c = answered c.ask.result c.args.self.now c.ask.new.self c.args.process c.args.event c.ask.ensures.reply c.ask.ensures.ok
