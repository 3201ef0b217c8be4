-- Journal spaces: made and destroyed, and their entries read; objects ensured.
use Rattle.std.specs.Prelude.{ℕ, List, [], Option, Some, None, is_none}
use Rattle.s38_base.specs.declared.exception.Exception.{Exception}
use Rattle.s38_base.specs.declared.id.Kind.TheVariants as kinds
use Rattle.s38_base.specs.declared.op.Op.{Op}
use Rattle.s38_base.specs.declared.op.Op.TheVariants.{Crtjs, Crtjp, Jrnlobj, Retjent, Crtcb, Commit, Decommit, Ensobj, Desjs, Desjp, Descb}
use Rattle.s38_base.specs.declared.words.Category.TheVariants.{Read}
use Rattle.s38_base.specs.Exceptions as exceptions
use Rattle.s38_base.specs.RightNames as rights
use Rattle.s38_base.specs.Signals.{fails, first}
use Rattle.s38_code.specs.declared.operand.Operand.{Operand}
use Rattle.s38_code.specs.declared.reply.Val.{Val}
use Rattle.s38_code.specs.declared.reply.Val.TheVariants as vals
use Rattle.s38_journals.specs.Journals.{entry_bytes_at}
use Rattle.s38_rules.specs.declared.creating.Creating.{Creating}
use Rattle.s38_rules.specs.declared.need.Need.{Need}
use Rattle.s38_rules.specs.declared.need.Sought.TheVariants.{Any, Of}
use Rattle.s38_rules.specs.declared.object.Body.TheVariants as bodies
use Rattle.s38_rules.specs.families.Changes.{Changes, Ensured, Gone, Made}
use Rattle.s38_rules.specs.families.Creation.{creation_fails, creation_gives, creation_needs, destruction_needs, in_context}
use Rattle.s38_rules.specs.families.CursorSeeks.{ordinal_at}
use Rattle.s38_rules.specs.state.Held.{Held}
use Rattle.s38_rules.specs.families.Instruction.{Instruction, inert}
use Rattle.s38_rules.specs.ask.Needs.{on_object}
use Rattle.s38_rules.specs.ask.Operands.{number_at, room_at, target}
use Rattle.s38_rules.specs.ask.Receivers.{fitted}
use Rattle.s38_rules.specs.state.PartsAt.{journal_at, no_journal}
use Rattle.s38_rules.specs.state.State.{State}
use Rattle.s38_rules.specs.ask.Users.{user_of}
use Rattle.s38_rules.specs.families.Ports.{crtjp, desjp, is_attached, jrnlobj}
use Rattle.s38_rules.specs.families.CommitBlocks.{crtcb, descb, commit, decommit}

-- ---- CRTJS

abbrev pub created_journal : Held → List Operand → Creating
created_journal h ops = in_context kinds.Journal 1 h ops

unfoldable pub crtjs_fails : State → ℕ → List Operand → Option Exception
crtjs_fails s p ops = creation_fails s.held (user_of s p) (created_journal s.held ops) None

-- a journal space without an entry
abbrev pub crtjs_changes : State → ℕ → List Operand → Changes
crtjs_changes s p ops = Made (user_of s p) (created_journal s.held ops) (Some (bodies.Journal no_journal))

abbrev pub crtjs : Instruction
crtjs = record inert {
  needs = λ s p d r. creation_needs r.operands;
  fails = λ s p d r. crtjs_fails s p r.operands;
  gives = λ s p d r. Some (creation_gives s.held (created_journal s.held r.operands));
  changes = λ s p d r. crtjs_changes s p r.operands;
}

-- ---- DESJS

-- no port leads to it
unfoldable pub desjs_fails : Held → List Operand → Option Exception
desjs_fails h ops = fails (is_attached h (target h ops 1)) exceptions.object_in_use 1

abbrev pub desjs : Instruction
desjs = record inert {
  needs = λ s p d r. destruction_needs kinds.Journal;
  fails = λ s p d r. desjs_fails s.held r.operands;
  changes = λ s p d r. Gone kinds.Journal (target s.held r.operands 1);
}

-- ---- RETJENT

-- RETRIEVE on the journal space
unfoldable pub retjent_needs : List Need
retjent_needs = on_object 2 (Of kinds.Journal) rights.retrieve (Some Read)

-- the bytes of the entry whose sequence a number is; a fraction is dropped
abbrev pub entry_bytes : Held → List Operand → Option (List ℕ)
entry_bytes h ops = entry_bytes_at (journal_at h (target h ops 2)).entries (ordinal_at h ops 3)

-- the number has a value, and there is such an entry
unfoldable pub retjent_fails : Held → List Operand → Option Exception
retjent_fails h ops =
    first (fails (is_none (number_at h ops 3)) exceptions.decimal_data 3) (fails (is_none (entry_bytes h ops)) exceptions.no_entry 3)

abbrev pub bytes_or_empty : Option (List ℕ) → List ℕ
bytes_or_empty None = []
bytes_or_empty (Some bytes) = bytes

-- the entry, cut or filled with zeros
unfoldable pub retjent_bytes : Held → List Operand → List ℕ
retjent_bytes h ops = fitted (room_at ops 1) 0 (bytes_or_empty (entry_bytes h ops))

abbrev pub retjent_gives : Held → List Operand → Val
retjent_gives h ops = vals.Bytes (retjent_bytes h ops)

abbrev pub retjent : Instruction
retjent = record inert {
  needs = λ s p d r. retjent_needs;
  fails = λ s p d r. retjent_fails s.held r.operands;
  gives = λ s p d r. Some (retjent_gives s.held r.operands);
}

-- ---- ENSOBJ

-- RETRIEVE on an object of any kind
unfoldable pub ensobj_needs : List Need
ensobj_needs = on_object 1 Any rights.retrieve (Some Read)

-- its number is one of those on disk
abbrev pub ensobj_changes : Held → List Operand → Changes
ensobj_changes h ops = Ensured (target h ops 1)

abbrev pub ensobj : Instruction
ensobj = record inert {
  needs = λ s p d r. ensobj_needs;
  changes = λ s p d r. ensobj_changes s.held r.operands;
}

-- ---- the family

unfoldable pub journals_row : Op → Instruction
journals_row Crtjs = crtjs
journals_row Desjs = desjs
journals_row Crtjp = crtjp
journals_row Desjp = desjp
journals_row Jrnlobj = jrnlobj
journals_row Retjent = retjent
journals_row Crtcb = crtcb
journals_row Descb = descb
journals_row Commit = commit
journals_row Decommit = decommit
journals_row Ensobj = ensobj
journals_row _ = inert
