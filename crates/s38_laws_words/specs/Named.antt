-- What the words of decks name. Creation makes a number of a word of a fixed list; who carries the instruction out takes
-- that number for a lock state, an order or the like.
use Rattle.std.specs.Prelude.{ℕ, ◌-◌, ◌==◌, ◌≡◌, Bool, true, false, List, [], ◌∷◌, codes, Option, Some, None, slice_get}
use Rattle.std.specs.Option.{option_map, option_and_then}
use Rattle.s38_base.specs.Relations.{relation_of}
use Rattle.s38_base.specs.declared.op.Op.{Op}
use Rattle.s38_base.specs.declared.pointer.Pointer.{Pointer}
use Rattle.s38_base.specs.declared.pointer.Pointer.TheVariants as pointers
use Rattle.s38_base.specs.declared.words.LockState.{LockState}
use Rattle.s38_base.specs.declared.words.Relation.{Relation}
use Rattle.s38_base.specs.declared.words.Relation.TheVariants as relations
use Rattle.s38_base.specs.declared.words.Seek.{Seek}
use Rattle.s38_base.specs.declared.words.Seek.TheVariants as seeks
use Rattle.s38_code.specs.Operations.{classes}
use Rattle.s38_code.specs.declared.operand.Operand.TheVariants as operands
use Rattle.s38_code.specs.declared.program.Arg.TheVariants as args
use Rattle.s38_code.specs.declared.program.Row.{Row}
use Rattle.s38_compute.specs.Compute.{pointer_kind_number}
use Rattle.s38_create.specs.Parsed.{parsed_operand}
use Rattle.s38_create.specs.declared.parsed.ParsedOperand.{ParsedOperand}
use Rattle.s38_create.specs.declared.parsed.ParsedOperand.TheVariants as parsed_as
use Rattle.s38_joblog.specs.Words.{state_word}
use Rattle.s38_local.specs.Frames.{switch_on}
use Rattle.s38_queues.specs.declared.message.Order.{Order}
use Rattle.s38_queues.specs.declared.message.Order.TheVariants as orders
use Rattle.s38_rules.specs.families.CursorSeeks.{seek_of}
use Rattle.s38_rules.specs.families.Locking.{lock_state_of}
use Rattle.s38_rules.specs.families.Queues.{order_of}
use Rattle.s38_rules.specs.step.Verdict.{says_wait}

-- ---- what a word becomes

abbrev pub number_in : Option ParsedOperand → Option ℕ
number_in (Some (parsed_as.Given (args.Word number))) = Some number
number_in _ = None

-- the number that a word becomes at an operand of an instruction, where a word of a fixed list is asked for
abbrev pub number_of : List Row → List (List ℕ) → Op → ℕ → List ℕ → Option ℕ
number_of rows code op k word = option_and_then (λ class. number_in (parsed_operand rows code class word)) (slice_get (classes op) (k - 1))

-- ---- the words

abbrev pub order_word : Order → List ℕ
order_word orders.Fifo = codes "FIFO"
order_word orders.Lifo = codes "LIFO"
order_word orders.Keyed = codes "KEYED"

abbrev pub seek_word : Seek → List ℕ
seek_word seeks.First = codes "FIRST"
seek_word seeks.Last = codes "LAST"
seek_word seeks.Next = codes "NEXT"
seek_word seeks.Prev = codes "PREV"
seek_word seeks.At = codes "AT"

abbrev pub relation_word : Relation → List ℕ
relation_word relations.Eq = codes "EQ"
relation_word relations.Ne = codes "NE"
relation_word relations.Lo = codes "LO"
relation_word relations.Hi = codes "HI"
relation_word relations.Nl = codes "NL"
relation_word relations.Nh = codes "NH"
relation_word relations.Any = codes "ANY"
relation_word relations.First = codes "FIRST"
relation_word relations.Last = codes "LAST"

abbrev pub wait_word : Bool → List ℕ
wait_word true = codes "WAIT"
wait_word false = codes "NOWAIT"

abbrev pub switch_word : Bool → List ℕ
switch_word true = codes "ON"
switch_word false = codes "OFF"

abbrev pub pointer_word : Option Pointer → List ℕ
pointer_word (Some (pointers.System object rights)) = codes "SYS"
pointer_word (Some (pointers.Space object offset)) = codes "SPC"
pointer_word (Some (pointers.Item object offset attr)) = codes "DTA"
pointer_word None = codes "NONE"

-- ---- what is so at an operand of an instruction

-- the word that a log prints for a lock state names it
abbrev pub NamesLockStates : Op → ℕ → Type 0
NamesLockStates op k = (rows : List Row) (code : List (List ℕ)) (state : LockState)
    → option_map (λ n. lock_state_of n) (number_of rows code op k (state_word state)) ≡ Some state

-- WAIT lets an instruction wait, and NOWAIT does not
abbrev pub NamesWaits : Op → ℕ → Type 0
NamesWaits op k = (rows : List Row) (code : List (List ℕ)) (waits : Bool)
    → option_map (λ n. says_wait (operands.Word n ∷ []) 1) (number_of rows code op k (wait_word waits)) ≡ Some waits

abbrev pub NamesOrders : Op → ℕ → Type 0
NamesOrders op k = (rows : List Row) (code : List (List ℕ)) (order : Order)
    → option_map (λ n. order_of n) (number_of rows code op k (order_word order)) ≡ Some order

abbrev pub NamesSeeks : Op → ℕ → Type 0
NamesSeeks op k = (rows : List Row) (code : List (List ℕ)) (seek : Seek)
    → option_map (λ n. seek_of n) (number_of rows code op k (seek_word seek)) ≡ Some seek

abbrev pub NamesRelations : Op → ℕ → Type 0
NamesRelations op k = (rows : List Row) (code : List (List ℕ)) (relation : Relation)
    → option_and_then (λ n. relation_of n) (number_of rows code op k (relation_word relation)) ≡ Some relation

-- the word of what a pointer leads to has the number with which that is compared
abbrev pub NamesPointerKinds : Op → ℕ → Type 0
NamesPointerKinds op k = (rows : List Row) (code : List (List ℕ)) (pointer : Option Pointer)
    → number_of rows code op k (pointer_word pointer) ≡ Some (pointer_kind_number pointer)

-- ON switches a description on, and OFF does not
abbrev pub NamesSwitches : Op → ℕ → Type 0
NamesSwitches op k = (rows : List Row) (code : List (List ℕ)) (on : Bool)
    → option_map (λ n. n == switch_on) (number_of rows code op k (switch_word on)) ≡ Some on
