-- Progress: no process is left alone with those that wait, and who waits asks for nothing before an effect, and then for the
-- same again.
use Rattle.std.specs.Prelude.{◌≡◌, ◌==◌, ℕ, Bool, false, true, List, [], ◌∷◌, Some, slice_get}
use Rattle.std.specs.List.{list_any}
use Rattle.s38_code.specs.declared.entry.Entry.{Entry}
use Rattle.s38_code.specs.declared.reply.Reply.{Reply}
use Rattle.s38_code.specs.declared.reply.Reply.TheVariants.{Done, MustWait, Signal}
use Rattle.s38_code.specs.History.{entries_of}
use Rattle.s38_rules.specs.declared.process.ProcessEntry.{ProcessEntry}
use Rattle.s38_rules.specs.state.State.{State, ready_list}
use Rattle.s38_rules.specs.step.Step.{step}

-- ---- one is ready

-- each process has ended
abbrev pub AllEnded : State → Type 0
AllEnded s = (k : ℕ) (x : ProcessEntry) → slice_get s.processes k ≡ Some x → x.ended ≡ true

-- none is ready only where each has ended
abbrev pub IsGoing : State → Type 0
IsGoing s = ready_list s ≡ [] → AllEnded s

-- ---- who waits is silent

-- who waits after an answer to a process: an effect wakes all
abbrev pub waiting_after : Reply → ℕ → List ℕ → List ℕ
waiting_after (Done values) p waiting = []
waiting_after (Signal x) p waiting = waiting
waiting_after MustWait p waiting = p ∷ waiting

abbrev pub is_waiting : ℕ → List ℕ → Bool
is_waiting p waiting = list_any (λ w. w == p) waiting

-- each entry is of a process that does not wait: one that was told to wait has no further entry before the next effect
abbrev pub AreAwake : List ℕ → List Entry → Type 0
AreAwake waiting [] = Unit {0}
AreAwake waiting (e ∷ es) = (is_waiting e.process waiting ≡ false) × AreAwake (waiting_after e.reply e.process waiting) es

-- ---- who waits asks for the same again

-- of the entries of one process: after one that was told to wait the next is of the same event
abbrev pub AsksSameAgain : List Entry → Type 0
AsksSameAgain [] = Unit {0}
AsksSameAgain (e ∷ []) = Unit {0}
AsksSameAgain (e ∷ f ∷ es) = (e.reply ≡ MustWait → f.event ≡ e.event) × AsksSameAgain (f ∷ es)

-- whoever was told to wait asks for the same next, and for nothing else before
abbrev pub AllAskAgain : List Entry → Type 0
AllAskAgain history = (process : ℕ) → AsksSameAgain (entries_of process history)
