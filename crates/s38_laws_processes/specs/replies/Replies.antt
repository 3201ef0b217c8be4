-- What processes keep to over a history: each is lawful, and each reply suits what was asked.
use Rattle.std.specs.Prelude.{◌≡◌, ◌<◌, ℕ, ◌+◌, true, List, [], ◌∷◌, ◌++◌, Some, slice_get}
use Rattle.s38_base.specs.declared.op.Op.TheVariants.{Callx}
use Rattle.s38_code.specs.declared.entry.Entry.{Entry}
use Rattle.s38_code.specs.declared.event.Event.{Event}
use Rattle.s38_code.specs.declared.event.Event.TheVariants.{Start, Act, Finish}
use Rattle.s38_code.specs.declared.program.Program.{Program}
use Rattle.s38_code.specs.declared.reply.Reply.{Reply}
use Rattle.s38_code.specs.declared.reply.Reply.TheVariants.{Done, Signal, MustWait}
use Rattle.s38_code.specs.History.{entries_of}
use Rattle.s38_process.specs.Invocations.{deepest, depth_of}
use Rattle.s38_process.specs.Lawful.{IsLawful, SuitsReply}
use Rattle.s38_process.specs.Process.{ProcessState}
use Rattle.s38_process.specs.AfterReply.{process_after, program_returned}
use Rattle.s38_rules.specs.families.Computing.{is_call}

-- after its entries so far each process is lawful
abbrev pub AreLawful : List ProcessState → List Entry → Type 0
AreLawful processes before = (k : ℕ) (d : ProcessState) → slice_get processes k ≡ Some d → IsLawful (process_after d (entries_of (k + 1) before))

-- a call that took effect brings a program, and one more invocation may be
abbrev pub GoesInto : ProcessState → Event → Reply → Type 0
GoesInto d (Act depth request) (Done vs) = is_call request.op ≡ true → (program : Program) × ((program_returned vs ≡ Some program) × (request.op ≡ Callx → depth_of d.stack < deepest))
GoesInto d (Act depth request) (Signal x) = Unit {0}
GoesInto d (Act depth request) MustWait = Unit {0}
GoesInto d Start reply = Unit {0}
GoesInto d (Finish cause) reply = Unit {0}

-- the reply of an entry suits who asked
pub record IsMet (d : ProcessState) (e : Entry) : Type 0 where
  pub suits : SuitsReply d e.reply
  pub into : GoesInto d e.event e.reply

abbrev pub IsSuitedBy : List ProcessState → List Entry → Entry → Type 0
IsSuitedBy processes before e = (k : ℕ) (d : ProcessState) → slice_get processes k ≡ Some d → e.process ≡ k + 1 → IsMet (process_after d (entries_of (k + 1) before)) e

-- so it is at each moment
abbrev pub AllSuit : List ProcessState → List Entry → List Entry → Type 0
AllSuit processes before [] = AreLawful processes before
AllSuit processes before (e ∷ es) = AreLawful processes before × IsSuitedBy processes before e × AllSuit processes (before ++ e ∷ []) es
