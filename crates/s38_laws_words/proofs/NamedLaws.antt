-- Each word of a fixed list, by the class of the operand that it is.
use Rattle.std.proofs.Common.{◌≡◌, ℕ, ◌==◌, Bool, true, false, List, [], ◌∷◌, Option, Some, None, refl}
use Rattle.std.specs.Option.{option_map, option_and_then}
use Rattle.s38_base.specs.Relations.{relation_of}
use Rattle.s38_base.specs.declared.pointer.Pointer.{Pointer}
use Rattle.s38_base.specs.declared.pointer.Pointer.TheVariants as pointers
use Rattle.s38_base.specs.declared.words.LockState.{LockState}
use Rattle.s38_base.specs.declared.words.LockState.TheVariants.{Lsrd, Lsro, Lsup, Lear, Lenr}
use Rattle.s38_base.specs.declared.words.Relation.{Relation}
use Rattle.s38_base.specs.declared.words.Relation.TheVariants as relations
use Rattle.s38_base.specs.declared.words.Seek.{Seek}
use Rattle.s38_base.specs.declared.words.Seek.TheVariants as seeks
use Rattle.s38_code.specs.declared.class.Class.TheVariants.{Keyword}
use Rattle.s38_code.specs.declared.class.Keyword.TheVariants as keywords
use Rattle.s38_code.specs.declared.operand.Operand.TheVariants as operands
use Rattle.s38_code.specs.declared.program.Row.{Row}
use Rattle.s38_compute.specs.Compute.{pointer_kind_number}
use Rattle.s38_create.specs.Parsed.{parsed_keyword, parsed_operand}
use Rattle.s38_joblog.specs.Words.{state_word}
use Rattle.s38_local.specs.Frames.{switch_on}
use Rattle.s38_queues.specs.declared.message.Order.{Order}
use Rattle.s38_queues.specs.declared.message.Order.TheVariants as orders
use Rattle.s38_rules.specs.families.CursorSeeks.{seek_of}
use Rattle.s38_rules.specs.families.Locking.{lock_state_of}
use Rattle.s38_rules.specs.families.Queues.{order_of}
use Rattle.s38_rules.specs.step.Verdict.{says_wait}
use Rattle.s38_laws_words.specs.Named.{number_in, order_word, pointer_word, relation_word, seek_word, switch_word, wait_word}
use Rattle.s38_words.specs.Row.{relation_spelled as number_of_relation}

pub a_state : (rows : List Row) (code : List (List ℕ)) (state : LockState)
    → option_map (λ n. lock_state_of n) (number_in (parsed_operand rows code (Keyword keywords.LockState) (state_word state))) ≡ Some state
unfolding parsed_operand parsed_keyword
a_state rows code Lsrd = refl
a_state rows code Lsro = refl
a_state rows code Lsup = refl
a_state rows code Lear = refl
a_state rows code Lenr = refl

pub a_wait : (rows : List Row) (code : List (List ℕ)) (waits : Bool)
    → option_map (λ n. says_wait (operands.Word n ∷ []) 1) (number_in (parsed_operand rows code (Keyword keywords.Wait) (wait_word waits))) ≡ Some waits
unfolding parsed_operand parsed_keyword
a_wait rows code true = refl
a_wait rows code false = refl

pub an_order : (rows : List Row) (code : List (List ℕ)) (order : Order)
    → option_map (λ n. order_of n) (number_in (parsed_operand rows code (Keyword keywords.Order) (order_word order))) ≡ Some order
unfolding parsed_operand parsed_keyword
an_order rows code orders.Fifo = refl
an_order rows code orders.Lifo = refl
an_order rows code orders.Keyed = refl

pub a_seek : (rows : List Row) (code : List (List ℕ)) (seek : Seek)
    → option_map (λ n. seek_of n) (number_in (parsed_operand rows code (Keyword keywords.Seek) (seek_word seek))) ≡ Some seek
unfolding parsed_operand parsed_keyword
a_seek rows code seeks.First = refl
a_seek rows code seeks.Last = refl
a_seek rows code seeks.Next = refl
a_seek rows code seeks.Prev = refl
a_seek rows code seeks.At = refl

pub a_relation : (rows : List Row) (code : List (List ℕ)) (relation : Relation)
    → option_and_then (λ n. relation_of n) (number_in (parsed_operand rows code (Keyword keywords.Relation) (relation_word relation))) ≡ Some relation
unfolding parsed_operand parsed_keyword number_of_relation
a_relation rows code relations.Eq = refl
a_relation rows code relations.Ne = refl
a_relation rows code relations.Lo = refl
a_relation rows code relations.Hi = refl
a_relation rows code relations.Nl = refl
a_relation rows code relations.Nh = refl
a_relation rows code relations.Any = refl
a_relation rows code relations.First = refl
a_relation rows code relations.Last = refl

pub a_comparison : (rows : List Row) (code : List (List ℕ)) (relation : Relation)
    → option_and_then (λ n. relation_of n) (number_in (parsed_operand rows code (Keyword keywords.Comparison) (relation_word relation))) ≡ Some relation
unfolding parsed_operand parsed_keyword
a_comparison rows code relation = a_relation rows code relation

pub a_kind : (rows : List Row) (code : List (List ℕ)) (pointer : Option Pointer)
    → number_in (parsed_operand rows code (Keyword keywords.PointerKind) (pointer_word pointer)) ≡ Some (pointer_kind_number pointer)
unfolding parsed_operand parsed_keyword
a_kind rows code None = refl
a_kind rows code (Some (pointers.System object rights)) = refl
a_kind rows code (Some (pointers.Space object offset)) = refl
a_kind rows code (Some (pointers.Item object offset attr)) = refl

pub a_switch : (rows : List Row) (code : List (List ℕ)) (on : Bool)
    → option_map (λ n. n == switch_on) (number_in (parsed_operand rows code (Keyword keywords.Switch) (switch_word on))) ≡ Some on
unfolding parsed_operand parsed_keyword
a_switch rows code true = refl
a_switch rows code false = refl
