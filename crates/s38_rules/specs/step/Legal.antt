-- Which histories are the machine's: each entry is a step from the state to which those before it lead.
use Rattle.std.specs.Prelude.{◌≡◌, ◌<◌, ◌≤◌, ℕ, IfOk, IsTrue, OnErr, List, [], ◌∷◌, ◌++◌, length, Result, if◌then◌else◌}
use Rattle.s38_code.specs.declared.entry.Entry.{Entry}
use Rattle.s38_code.specs.declared.event.Event.{Event}
use Rattle.s38_code.specs.declared.reply.Reply.{Reply}
use Rattle.s38_code.specs.declared.step.StepFault.{StepFault}
use Rattle.s38_code.specs.History.{entry_after, entry_count}
use Rattle.s38_rules.specs.state.State.{State}
use Rattle.s38_rules.specs.step.Step.{Stepped, step}

-- a process is that of a job, from 1 on
pub record IsProcess (s : State) (process : ℕ) : Type 0 where
  pub first : 0 < process
  pub last : process ≤ length s.processes

-- after the entries before it, from this state, the machine makes this entry, and for a job's process
pub record IsEntry (s : State) (before : List Entry) (e : Entry) : Type 0 where
  pub process : IsProcess s e.process
  pub entered : IsTrue (step s e.process e.event).enters
  pub reply : (step s e.process e.event).reply ≡ e.reply
  pub seq : e.seq ≡ entry_count e.process before

-- from s, after the entries before them, the entries lead to t
abbrev pub Leads : State → List Entry → List Entry → State → Type 0
Leads s before [] t = s ≡ t
Leads s before (e ∷ es) t = IsEntry s before e × Leads (step s e.process e.event).state (before ++ e ∷ []) es t

-- a machine: what it was started with, its state now, and how it came there
pub record Run : Type 0 where
  pub origin : State
  pub state : State
  pub history : List Entry
  -- the store's moment as each entry was answered
  pub marks : List ℕ
  -- the store's moment at the start, and now
  pub first : ℕ
  pub moment : ℕ

-- marks are moments between two others, in their order
abbrev pub AreMoments : ℕ → List ℕ → ℕ → Type 0
AreMoments first [] moment = first ≤ moment
AreMoments first (mark ∷ marks) moment = (first ≤ mark) × AreMoments mark marks moment

-- the moment at which a machine without a store starts; it stays there
abbrev pub no_moment : ℕ
no_moment = 0

-- what the store has of a run: each entry has a mark, and the marks are moments from the start to now
pub record IsStored (m : Run) : Type 0 where
  pub marked : length m.marks ≡ length m.history
  pub stamped : AreMoments m.first m.marks m.moment

-- the history is legal and leads from the origin to the state; the store has what it is to have; the processes are those
-- of the origin's jobs
pub record IsSound (m : Run) : Type 0 where
  pub legal : Leads m.origin [] m.history m.state
  pub stored : IsStored m
  pub kept : length m.state.processes ≡ length m.origin.processes

abbrev pub history_after : List Entry → ℕ → Event → Stepped → List Entry
history_after history process event x = if x.enters then history ++ entry_after history process event x.reply ∷ [] else history

-- an entry is marked by the moment at which it was answered
abbrev pub marks_after : List ℕ → ℕ → Stepped → List ℕ
marks_after marks mark x = if x.enters then marks ++ mark ∷ [] else marks

-- the machine after an outcome of an event, at a moment
abbrev pub after_by : Run → ℕ → ℕ → Event → Stepped → Run
after_by m moment process event x =
    record {
      origin = m.origin;
      state = x.state;
      history = history_after m.history process event x;
      marks = marks_after m.marks moment x;
      first = m.first;
      moment = moment;
    }

-- the machine after one more step, answered at a moment
unfoldable pub after : Run → ℕ → ℕ → Event → Run
after m moment process event = after_by m moment process event (step m.state process event)

-- an answer is that of one step, at no earlier moment, and without an answer nothing is changed
pub record IsStep (old : Run) (process : ℕ) (event : Event) (answer : Result Reply StepFault) (new : Run) : Type 0 where
  pub reply : IfOk answer (λ r. (step old.state process event).reply ≡ r)
  pub moved : IfOk answer (λ _. new ≡ after old new.moment process event)
  pub later : old.moment ≤ new.moment
  pub kept : OnErr answer (new ≡ old)

-- a machine that has just begun, at a moment
abbrev pub begun : ℕ → State → Run
begun moment s = record { origin = s; state = s; history = []; marks = []; first = moment; moment = moment }
