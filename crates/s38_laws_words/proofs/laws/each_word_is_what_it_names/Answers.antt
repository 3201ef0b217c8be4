use Rattle.s38_code.specs.Operations.{classes}
use Rattle.s38_laws_words.proofs.NamedLaws.{a_comparison, a_kind, a_relation, a_seek, a_state, a_switch, a_wait, an_order}
use Rattle.s38_laws_words.proofs.laws.each_word_is_what_it_names.Goals as goal

-- src/laws.rt:11:1
pub returns-clause-lock : goal.returns-clause-lock
unfolding classes
returns-clause-lock c = a_state

-- src/laws.rt:11:1
pub returns-clause-unlock : goal.returns-clause-unlock
unfolding classes
returns-clause-unlock c = a_state

-- src/laws.rt:11:1
pub returns-clause-transfer : goal.returns-clause-transfer
unfolding classes
returns-clause-transfer c = a_state

-- src/laws.rt:11:1
pub returns-clause-lock_waits : goal.returns-clause-lock_waits
unfolding classes
returns-clause-lock_waits c = a_wait

-- src/laws.rt:11:1
pub returns-clause-dequeue_waits : goal.returns-clause-dequeue_waits
unfolding classes
returns-clause-dequeue_waits c = a_wait

-- src/laws.rt:11:1
pub returns-clause-orders : goal.returns-clause-orders
unfolding classes
returns-clause-orders c = an_order

-- src/laws.rt:11:1
pub returns-clause-seeks : goal.returns-clause-seeks
unfolding classes
returns-clause-seeks c = a_seek

-- src/laws.rt:11:1
pub returns-clause-pointer_kinds : goal.returns-clause-pointer_kinds
unfolding classes
returns-clause-pointer_kinds c = a_kind

-- src/laws.rt:11:1
pub returns-clause-switches : goal.returns-clause-switches
unfolding classes
returns-clause-switches c = a_switch

-- src/laws.rt:11:1
pub returns-clause-messages : goal.returns-clause-messages
unfolding classes
returns-clause-messages c = a_relation

-- src/laws.rt:11:1
pub returns-clause-entries : goal.returns-clause-entries
unfolding classes
returns-clause-entries c = a_relation

-- src/laws.rt:11:1
pub returns-clause-numbers : goal.returns-clause-numbers
unfolding classes
returns-clause-numbers c = a_comparison

-- src/laws.rt:11:1
pub returns-clause-strings : goal.returns-clause-strings
unfolding classes
returns-clause-strings c = a_comparison
