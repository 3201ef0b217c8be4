-- Independent indexes: made and destroyed; entries put in, found and taken out.
use Rattle.std.specs.Prelude.{ℕ, ◌+◌, not, List, [], length, max, min, Option, Some, None, is_some, nat_lt}
use Rattle.s38_base.specs.declared.exception.Exception.{Exception}
use Rattle.s38_base.specs.declared.id.Kind.TheVariants as kinds
use Rattle.s38_base.specs.declared.op.Op.{Op}
use Rattle.s38_base.specs.declared.op.Op.TheVariants.{Crtinx, Desinx, Fndinxen, Insinxen, Rmvinxen}
use Rattle.s38_base.specs.declared.words.Category.TheVariants.{Change, Read}
use Rattle.s38_base.specs.Exceptions as exceptions
use Rattle.s38_base.specs.RightNames as rights
use Rattle.s38_base.specs.Signals.{fails, first}
use Rattle.s38_indexes.specs.Entries.{EntryIndex, IndexEntry, entry_found, entry_size, has_entry, index_image_size, index_with_entry, without_entry}
use Rattle.s38_code.specs.declared.operand.Operand.{Operand}
use Rattle.s38_code.specs.declared.reply.Val.{Val}
use Rattle.s38_code.specs.declared.reply.Val.TheVariants as vals
use Rattle.s38_rules.specs.declared.creating.Creating.{Creating}
use Rattle.s38_rules.specs.declared.need.Need.{Need}
use Rattle.s38_rules.specs.declared.need.Sought.TheVariants.{Of}
use Rattle.s38_rules.specs.declared.object.Body.TheVariants as bodies
use Rattle.s38_rules.specs.families.Changes.{Changes, Gone, Made, OnIndex}
use Rattle.s38_rules.specs.families.Creation.{creation_fails, creation_gives, creation_needs, destruction_needs, in_context}
use Rattle.s38_rules.specs.state.Held.{Held}
use Rattle.s38_rules.specs.families.Instruction.{Instruction, inert}
use Rattle.s38_rules.specs.ask.Needs.{on_object}
use Rattle.s38_rules.specs.ask.Operands.{bytes_at, room_at, target, whole_at}
use Rattle.s38_rules.specs.ask.Receivers.{fitted}
use Rattle.s38_rules.specs.state.PartsAt.{index_at}
use Rattle.s38_rules.specs.families.Queues.{relation_at}
use Rattle.s38_rules.specs.state.State.{State}
use Rattle.s38_rules.specs.ask.Users.{user_of}

-- ---- CRTINX

abbrev pub created_index : Held → List Operand → Creating
created_index h ops = in_context kinds.Index 1 h ops

unfoldable pub crtinx_fails : State → ℕ → List Operand → Option Exception
crtinx_fails s p ops = creation_fails s.held (user_of s p) (created_index s.held ops) None

-- the longest entry of an index
abbrev pub longest_entry : ℕ
longest_entry = 120

-- entries of at most 1 to 120 bytes; another number, which a checked program does not have, is brought there
abbrev pub entry_len_at : List Operand → ℕ
entry_len_at ops = max 1 (min longest_entry (whole_at ops 5))

abbrev pub new_index : List Operand → EntryIndex
new_index ops = record { longest = entry_len_at ops; entries = [] }

abbrev pub crtinx_changes : State → ℕ → List Operand → Changes
crtinx_changes s p ops = Made (user_of s p) (created_index s.held ops) (Some (bodies.Index (new_index ops)))

abbrev pub crtinx : Instruction
crtinx = record inert {
  needs = λ s p d r. creation_needs r.operands;
  fails = λ s p d r. crtinx_fails s p r.operands;
  gives = λ s p d r. Some (creation_gives s.held (created_index s.held r.operands));
  changes = λ s p d r. crtinx_changes s p r.operands;
}

-- ---- DESINX

abbrev pub desinx : Instruction
desinx = record inert {
  needs = λ s p d r. destruction_needs kinds.Index;
  changes = λ s p d r. Gone kinds.Index (target s.held r.operands 1);
}

-- ---- INSINXEN

-- INSERT on the index
unfoldable pub insinxen_needs : List Need
insinxen_needs = on_object 1 (Of kinds.Index) rights.insert (Some Change)

-- the entry is not too long and not there yet, and the index's image stays within the limit of a body
abbrev pub insert_fails : ℕ → EntryIndex → IndexEntry → Option Exception
insert_fails limit index entry =
    first (fails (nat_lt index.longest (length entry)) exceptions.length_invalid 2)
    (first (fails (has_entry entry index.entries) exceptions.duplicate_entry 2)
    (fails (nat_lt limit (index_image_size index.entries + entry_size entry)) exceptions.limit_exceeded 1))

unfoldable pub insinxen_fails : State → List Operand → Option Exception
insinxen_fails s ops = insert_fails s.limit (index_at s.held (target s.held ops 1)) (bytes_at s.held ops 2)

abbrev pub entered : IndexEntry → EntryIndex → EntryIndex
entered entry index = record index { entries = index_with_entry entry index.entries }

-- the entry is in its place
abbrev pub insinxen_changes : Held → List Operand → Changes
insinxen_changes h ops = OnIndex (target h ops 1) (entered (bytes_at h ops 2))

abbrev pub insinxen : Instruction
insinxen = record inert {
  needs = λ s p d r. insinxen_needs;
  fails = λ s p d r. insinxen_fails s r.operands;
  changes = λ s p d r. insinxen_changes s.held r.operands;
}

-- ---- FNDINXEN

-- RETRIEVE on the index
unfoldable pub fndinxen_needs : List Need
fndinxen_needs = on_object 2 (Of kinds.Index) rights.retrieve (Some Read)

-- the entry that is found
abbrev pub sought_entry : Held → List Operand → Option IndexEntry
sought_entry h ops = entry_found (relation_at ops 3) (bytes_at h ops 4) (index_at h (target h ops 2)).entries

-- an entry fits
unfoldable pub fndinxen_fails : Held → List Operand → Option Exception
fndinxen_fails h ops = fails (not (is_some (sought_entry h ops))) exceptions.no_index_entry 2

abbrev pub entry_or_none : Option IndexEntry → IndexEntry
entry_or_none None = []
entry_or_none (Some entry) = entry

-- the entry, cut or filled with zeros
unfoldable pub fndinxen_bytes : Held → List Operand → List ℕ
fndinxen_bytes h ops = fitted (room_at ops 1) 0 (entry_or_none (sought_entry h ops))

abbrev pub fndinxen_gives : Held → List Operand → Val
fndinxen_gives h ops = vals.Bytes (fndinxen_bytes h ops)

abbrev pub fndinxen : Instruction
fndinxen = record inert {
  needs = λ s p d r. fndinxen_needs;
  fails = λ s p d r. fndinxen_fails s.held r.operands;
  gives = λ s p d r. Some (fndinxen_gives s.held r.operands);
}

-- ---- RMVINXEN

-- DELETE on the index
unfoldable pub rmvinxen_needs : List Need
rmvinxen_needs = on_object 1 (Of kinds.Index) rights.delete (Some Change)

-- the entry is there
unfoldable pub rmvinxen_fails : Held → List Operand → Option Exception
rmvinxen_fails h ops =
    fails (not (has_entry (bytes_at h ops 2) (index_at h (target h ops 1)).entries)) exceptions.no_index_entry 2

abbrev pub removed : IndexEntry → EntryIndex → EntryIndex
removed entry index = record index { entries = without_entry entry index.entries }

-- the entry is there no more
abbrev pub rmvinxen_changes : Held → List Operand → Changes
rmvinxen_changes h ops = OnIndex (target h ops 1) (removed (bytes_at h ops 2))

abbrev pub rmvinxen : Instruction
rmvinxen = record inert {
  needs = λ s p d r. rmvinxen_needs;
  fails = λ s p d r. rmvinxen_fails s.held r.operands;
  changes = λ s p d r. rmvinxen_changes s.held r.operands;
}

-- ---- the family

unfoldable pub indexes_row : Op → Instruction
indexes_row Crtinx = crtinx
indexes_row Desinx = desinx
indexes_row Insinxen = insinxen
indexes_row Fndinxen = fndinxen
indexes_row Rmvinxen = rmvinxen
indexes_row _ = inert
