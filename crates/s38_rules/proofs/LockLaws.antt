-- Where nothing is locked, no lock is in the way.
use Rattle.std.proofs.Common.{◌≡◌, ◌==◌, ◌+◌, ℕ, true, List, [], ◌∷◌, length, min, filter, Option, Some, None, refl, sym, arith}
use Rattle.std.proofs.lemmas.Bool.{eqb-true}
use Rattle.s38_base.specs.declared.exception.Exception.{Exception}
use Rattle.s38_base.specs.declared.op.Op.{Op}
use Rattle.s38_base.specs.declared.words.Category.{Category}
use Rattle.s38_base.specs.Limits.{last_operand}
use Rattle.s38_base.specs.Signals.{first}
use Rattle.s38_code.specs.declared.event.Request.{Request}
use Rattle.s38_code.specs.declared.operand.Operand.{Operand}
use Rattle.s38_code.specs.declared.operand.Operand.TheVariants as operands
use Rattle.s38_locks.specs.Table.{Table}
use Rattle.s38_rules.specs.declared.need.Need.{Need}
use Rattle.s38_rules.specs.ask.Blocking.{item_lock, use_rule}
use Rattle.s38_rules.specs.ask.Needs.{first_of}
use Rattle.s38_rules.specs.state.State.{State}
use Rattle.s38_rules.specs.step.Verdict.{category_rule, lock_rule, lock_rules}
use Rattle.s38_rules.specs.ask.RightsRules.{subject}
use Rattle.s38_rules.specs.ask.AddressRules.{by_operand, is_of_operand, needs_rule}

free_use : (locks : Table) → (length locks == 0) ≡ true → (p operand n : ℕ) (category : Category) → use_rule locks p operand n category ≡ None
unfolding use_rule
free_use [] h p operand n category = refl
free_use (entry ∷ locks) h p operand n category = absurd (let e : length (entry ∷ locks) ≡ 0 = eqb-true _ _ h in omega (arith, e))

free_category : (locks : Table) → (length locks == 0) ≡ true → (p operand n : ℕ) (category : Option Category) → category_rule locks p operand n category ≡ None
free_category locks h p operand n None = refl
free_category locks h p operand n (Some category) = free_use locks h p operand n category

free_item : (locks : Table) → (length locks == 0) ≡ true → (p : ℕ) (op : Op) (k : ℕ) (operand : Operand) → item_lock locks p op k operand ≡ None
unfolding item_lock
free_item locks h p op k (operands.InSpace base offset attr) = free_use locks h p k _ _
free_item locks h p op k (operands.Value attr bytes) = refl
free_item locks h p op k (operands.Receiver attr) = refl
free_item locks h p op k (operands.Ptr pointer) = refl
free_item locks h p op k (operands.Whole number) = refl
free_item locks h p op k (operands.Word word) = refl
free_item locks h p op k (operands.Ident id) = refl
free_item locks h p op k (operands.Text name) = refl
free_item locks h p op k (operands.Attrs attrs) = refl
free_item locks h p op k operands.Nothing = refl
free_item locks h p op k operands.MachineContext = refl
free_item locks h p op k operands.ContextList = refl

-- ---- rules of which none fails

neither : (a b : Option Exception) → a ≡ None → b ≡ None → first a b ≡ None
neither None b h k = k
neither (Some x) b h k = cc

none_of : (rule : Need → Option Exception) (wanted : List Need) → ((need : Need) → rule need ≡ None) → first_of rule wanted ≡ None
none_of rule [] h = refl
none_of rule (need ∷ more) h = neither (rule need) (first_of rule more) (h need) (none_of rule more h)

none_by_operand : (itself : ℕ → Operand → Option Exception) (rule : Need → Option Exception) (wanted : List Need) (k : ℕ) (ops : List Operand) → ((k : ℕ) (operand : Operand) → itself k operand ≡ None) → ((need : Need) → rule need ≡ None) → by_operand itself rule wanted k ops ≡ None
none_by_operand itself rule wanted k [] item h = none_of rule (filter (is_of_operand 0) wanted) h
none_by_operand itself rule wanted k (operand ∷ more) item h =
    let at = min k last_operand in
    neither (itself at operand) (first (needs_rule rule wanted at) (by_operand itself rule wanted (k + 1) more)) (item at operand)
    (neither (needs_rule rule wanted at) (by_operand itself rule wanted (k + 1) more) (none_of rule (filter (is_of_operand at) wanted) h)
    (none_by_operand itself rule wanted (k + 1) more item h))

-- no lock is in the way of an instruction
pub unlocked : (s : State) (p : ℕ) (r : Request) (wanted : List Need) → (length s.locks == 0) ≡ true → None ≡ lock_rules s p r wanted
unfolding lock_rules lock_rule
unlocked s p r wanted h =
    sym (none_by_operand (item_lock s.locks p r.op) (lock_rule s p r.operands) wanted 1 r.operands
    (λ k operand. free_item s.locks h p r.op k operand)
    (λ need. free_category s.locks h p need.place (subject s.held r.operands need.place need.named) need.category))
