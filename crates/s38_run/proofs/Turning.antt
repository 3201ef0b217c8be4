-- One event that is asked of a machine: how it is answered, or broken off.
use Rattle.std.proofs.Common.{◌≡◌, ℕ, ◌≤◌, Bool, true, refl, ◌∙◌, ap, inl, inr}
use Rattle.std.specs.Prelude.{Option, Some, None, is_some}
use Rattle.s38_code.specs.declared.asked.Asked.{Asked}
use Rattle.s38_code.specs.declared.event.Event.{Event}
use Rattle.s38_code.specs.declared.reply.Reply.{Reply}
use Rattle.s38_code.specs.Asking.{reply_by}
use Rattle.s38_process.specs.Process.{ProcessState, event_of}
use Rattle.s38_process.specs.AfterReply.{absorbed, is_finish}
use Rattle.s38_rules.specs.step.Legal.{Run, after}
use Rattle.s38_rules.specs.step.Step.{step}
use Rattle.s38_run.specs.Turns.{BrokeOff, IsAsBefore, Turned, WasStopped, outcome_of}
use Rattle.s38_run.specs.declared.outcome.Outcome.{Outcome}

pub is_there : (o : Option Reply) (y : Reply) → o ≡ Some y → is_some o ≡ true
is_there None y h = cc
is_there (Some x) y h = refl

-- a process went on by the reply to what it asked
pub was_turned : (n : ℕ) (m m' : Run) (d now d' : ProcessState) (e : Event) (ends : Bool) (x : Asked) (o : Outcome) → event_of d ≡ Some e → ends ≡ is_finish e → now ≡ d → m' ≡ after m m'.moment n e → m.moment ≤ m'.moment
    → reply_by x m'.history ≡ Some (step m.state n e).reply
    → ((y : Reply) → reply_by x m'.history ≡ Some y → (d' ≡ absorbed now y) × ((z : Event) → ends ≡ is_finish z → o ≡ outcome_of z y)) → Turned n m d o m' d'
was_turned n m m' d now d' e ends x o asks finish stood moved later reply on = record {
  event = e;
  asks = asks;
  machine = moved;
  later = later;
  process = (on (step m.state n e).reply reply).0 ∙ ap (λ (k : ProcessState). absorbed k (step m.state n e).reply) stood;
  outcome = (on (step m.state n e).reply reply).1 e finish;
}

-- nothing was asked
pub broke_before : (n : ℕ) (m : Run) (d : ProcessState) → BrokeOff n m d m
broke_before n m d = inl (record { origin = refl; history = refl })

-- it was asked, and not answered
pub not_answered : (m m' : Run) → m'.origin ≡ m.origin → m'.history ≡ m.history → IsAsBefore m m'
not_answered m m' origin history = record { origin = origin; history = history }

-- it was answered
pub broke_after : (n : ℕ) (m m' : Run) (d : ProcessState) (e : Event) → event_of d ≡ Some e → m' ≡ after m m'.moment n e → m.moment ≤ m'.moment → BrokeOff n m d m'
broke_after n m m' d e asks moved later = inr (record { event = e; asks = asks; machine = moved; later = later })

-- the machine stopped
pub was_stopped : (n : ℕ) (m m' : Run) (d : ProcessState) (e : Event) (call : Option (ℕ × Event)) → event_of d ≡ Some e → call ≡ Some (n, e) → IsAsBefore m m' → WasStopped n m d m' call
was_stopped n m m' d e call asks is same = record { event = e; asks = asks; is = is; same = same }
