-- Queues and indexes keep to their limits.
use Rattle.s38_base.specs.Exceptions as exceptions
use Rattle.s38_base.specs.Limits.{longest_message}
use Rattle.s38_base.specs.declared.op.Op.TheVariants.{Crtinx, Crtq, Deq, Enq, Insinxen, Rmvinxen}
use Rattle.s38_base.specs.declared.op.Op.{Op}
use Rattle.s38_base.specs.declared.words.Relation.TheVariants.{Eq}
use Rattle.s38_code.specs.declared.operand.Operand.{Operand}
use Rattle.s38_dataspaces.specs.Table.{data_space_image_size}
use Rattle.s38_indexes.proofs.IndexLaws.{short_with, short_without, size-with}
use Rattle.s38_indexes.proofs.OrderLaws.{rising_with, rising_without}
use Rattle.s38_indexes.specs.Entries as indexes
use Rattle.s38_indexes.specs.Entries.{EntryIndex, index_with_entry, without_entry}
use Rattle.s38_laws_images.specs.openings.Bodies.{IsIndex, IsMessageOf, IsQueue}
use Rattle.s38_queues.specs.MessageQueue as queues
use Rattle.s38_queues.specs.MessageQueue.{MessageQueue, is_keyed, longest_key, message, with_message, without_place}
use Rattle.s38_queues.specs.declared.message.Message.{Message}
use Rattle.s38_rules.proofs.RuleLaws.{fails_none, first_none, not_false}
use Rattle.s38_rules.proofs.VerdictLaws.{rule_met}
use Rattle.s38_rules.specs.families.Indexes.{indexes_row, insert_fails, insinxen, insinxen_fails, longest_entry, new_index}
use Rattle.s38_rules.specs.ask.Operands.{bytes_at, whole_at}
use Rattle.s38_rules.specs.state.PartsAt.{no_index, no_queue}
use Rattle.s38_rules.specs.families.Queues.{enq, enq_fails, new_queue, put_fails, queues_row}
use Rattle.std.proofs.Common.{Bool, List, [], arith, cond, drop, false, length, refl, subst, suc, take, true, zero, ℕ, ◌+◌, ◌-◌, ◌==◌, ◌∷◌, ◌≡◌, ◌≤◌}
use Rattle.std.proofs.lemmas.Bool.Decides.{nat_tests}
use Rattle.std.proofs.lemmas.Bool.{cond_both}
use Rattle.std.proofs.lemmas.List.Elements.{All-append, All-cons, All-drop, All-nil, All-take}
use Rattle.std.proofs.lemmas.List.Sums.{sum_by-append, sum_by-cons, sum_by-take-drop, sum_by_push}
use Rattle.std.specs.List.{remove}
use Rattle.std.specs.Option.{unwrap_or}
use Rattle.std.specs.Prelude.{All, None, Option, Some, max, min, sum_by}
use Rattle.s38_laws_state.proofs.BodyLimitLaws.{IsLimit, MayRow, under}

new_queue_so : (limit : ℕ) (ops : List Operand) → IsLimit limit → IsQueue limit (new_queue ops)
new_queue_so limit ops is = record {
  key = low (is_keyed (new_queue ops).order) (whole_at ops 6);
  some = some longest_message (whole_at ops 7);
  most = most longest_message (whole_at ops 7) (omega arith);
  messages = All-nil (IsMessageOf (new_queue ops).key_len (new_queue ops).longest);
  image = omega (arith, is);
}
  where
    some : (a b : ℕ) → 1 ≤ max 1 (min a b)
    some a b = grind (arith, nat_tests)

    most : (a b : ℕ) → 1 ≤ a → max 1 (min a b) ≤ a
    most a b one = grind (arith, nat_tests, one)

    low : (keyed : Bool) (n : ℕ) → cond keyed (max 1 (min longest_key n)) 0 ≤ longest_key
    low true n = grind (arith, nat_tests)
    low false n = omega arith

new_index_so : (limit : ℕ) (ops : List Operand) → IsLimit limit → IsIndex limit (new_index ops)
new_index_so limit ops is = record { some = some longest_entry (whole_at ops 5); most = most longest_entry (whole_at ops 5) (omega arith); short = tt; rising = tt; image = omega (arith, is) }
  where
    some : (a b : ℕ) → 1 ≤ max 1 (min a b)
    some a b = grind (arith, nat_tests)

    most : (a b : ℕ) → 1 ≤ a → max 1 (min a b) ≤ a
    most a b one = grind (arith, nat_tests, one)

put_so : (limit : ℕ) (q : MessageQueue) (key text : List ℕ) → put_fails limit q (length key) (length text) ≡ None → IsQueue limit q → IsQueue limit (with_message q (message key text))
put_so limit q key text met is =
    let one = first_none _ _ met in
    let two = first_none _ _ one.1 in
    let short = under limit (queues.queue_image_size q.messages + (length key + length text + 2)) (fails_none _ exceptions.limit_exceeded 1 two.1) in
    record {
      key = is.key;
      some = is.some;
      most = is.most;
      messages = All-append (IsMessageOf q.key_len q.longest) q.messages (message key text ∷ []) is.messages
          (All-cons (IsMessageOf q.key_len q.longest) (message key text) []
          (record { key = same (length key) q.key_len (not_false _ (fails_none _ exceptions.length_invalid 2 one.0)); text = under q.longest (length text) (fails_none _ exceptions.length_invalid 3 two.0) })
          (All-nil (IsMessageOf q.key_len q.longest)));
      image = omega (arith, sum_by_push queues.message_size q.messages (message key text), short);
    }
  where
    same : (a b : ℕ) → (a == b) ≡ true → a ≡ b
    same a b h = grind (arith, nat_tests)

removed_all : (P : Message → Type 0) (xs : List Message) (k : ℕ) → All P xs → All P (remove xs k)
removed_all P xs k all = All-append P (take k xs) (drop (suc k) xs) (All-take P k xs all) (All-drop P (suc k) xs all)

left_less : (size : Message → ℕ) (xs : List Message) (k : ℕ) → sum_by size (remove xs k) ≤ sum_by size xs
left_less size xs k = omega (arith, sum_by-append size (take k xs) (drop (suc k) xs), sum_by-take-drop size xs k, behind xs k)
  where
    behind : (xs : List Message) (k : ℕ) → sum_by size (drop (suc k) xs) ≤ sum_by size (drop k xs)
    behind [] zero = omega arith
    behind [] (suc k) = omega arith
    behind (x ∷ xs) zero = omega (arith, sum_by-cons size x xs)
    behind (x ∷ xs) (suc k) = behind xs k

left_so : (limit : ℕ) (q : MessageQueue) (at : Option ℕ) → IsQueue limit q → IsQueue limit (without_place q at)
left_so limit q None is = is
left_so limit q (Some at) is = record { key = is.key; some = is.some; most = is.most; messages = removed_all (IsMessageOf q.key_len q.longest) q.messages at is.messages; image = omega (arith, is.image, left_less queues.message_size q.messages at) }

enq_may : MayRow enq
unfolding enq_fails
enq_may s p d t small e q at is =
    put_so s.limit q (bytes_at s.held t.operands 2) (bytes_at s.held t.operands 3)
    (subst (λ (r : Option MessageQueue). put_fails s.limit (unwrap_or r no_queue) (length (bytes_at s.held t.operands 2)) (length (bytes_at s.held t.operands 3)) ≡ None) at (rule_met enq s p d t e)) is

pub queues_may : (op : Op) → MayRow (queues_row op)
unfolding queues_row
queues_may Crtq = λ s p d t small e. new_queue_so s.limit t.operands small
queues_may Enq = enq_may
queues_may Deq = λ s p d t small e q at is. left_so s.limit q _ is
queues_may _ = λ s p d t small e. tt

insert_so : (limit : ℕ) (i : EntryIndex) (entry : List ℕ) → insert_fails limit i entry ≡ None → IsIndex limit i → IsIndex limit (record i { entries = index_with_entry entry i.entries })
insert_so limit i entry met is =
    let one = first_none _ _ met in
    let two = first_none _ _ one.1 in
    let short = under limit (indexes.index_image_size i.entries + indexes.entry_size entry) (fails_none _ exceptions.limit_exceeded 1 two.1) in
    record {
      some = is.some;
      most = is.most;
      short = short_with i.longest entry i.entries (index_with_entry entry i.entries) is.short (under i.longest (length entry) (fails_none _ exceptions.length_invalid 2 one.0)) refl;
      rising = rising_with entry i.entries (fails_none _ exceptions.duplicate_entry 2 two.0) is.rising;
      image = omega (arith, size-with entry i.entries, short);
    }

insinxen_may : MayRow insinxen
unfolding insinxen_fails
insinxen_may s p d t small e i at is =
    insert_so s.limit i (bytes_at s.held t.operands 2)
    (subst (λ (r : Option EntryIndex). insert_fails s.limit (unwrap_or r no_index) (bytes_at s.held t.operands 2) ≡ None) at (rule_met insinxen s p d t e)) is

without_less : (entry : List ℕ) (xs : List (List ℕ)) → indexes.index_image_size (without_entry entry xs) ≤ indexes.index_image_size xs
without_less entry [] = omega arith
without_less entry (x ∷ xs) =
    cond_both (indexes.is_in_relation Eq entry x) xs (x ∷ without_entry entry xs) (λ (l : List (List ℕ)). indexes.index_image_size l ≤ indexes.index_image_size (x ∷ xs))
    (λ own. omega (arith, sum_by-cons indexes.entry_size x xs))
    (λ other. omega (arith, sum_by-cons indexes.entry_size x xs, sum_by-cons indexes.entry_size x (without_entry entry xs), without_less entry xs))

removed_so : (limit : ℕ) (i : EntryIndex) (entry : List ℕ) → IsIndex limit i → IsIndex limit (record i { entries = without_entry entry i.entries })
removed_so limit i entry is = record {
  some = is.some;
  most = is.most;
  short = short_without i.longest entry i.entries (without_entry entry i.entries) is.short refl;
  rising = rising_without entry i.entries is.rising;
  image = omega (arith, is.image, without_less entry i.entries);
}

pub indexes_may : (op : Op) → MayRow (indexes_row op)
unfolding indexes_row
indexes_may Crtinx = λ s p d t small e. new_index_so s.limit t.operands small
indexes_may Insinxen = insinxen_may
indexes_may Rmvinxen = λ s p d t small e i at is. removed_so s.limit i (bytes_at s.held t.operands 2) is
indexes_may _ = λ s p d t small e. tt
