-- What represents what is durable, but for orphan pages.
use Rattle.std.proofs.Common.{◌≡◌, ◌∙◌, [], Bool, List, cond, false, filter, length, sym, true, ℕ}
use Rattle.std.specs.FinMap.{get}
use Rattle.std.specs.List.{AllByRecursion}
use Rattle.std.specs.Prelude.{nat_le}
use Rattle.s38_base.specs.declared.page.Change.{Change}
use Rattle.s38_durable_state.specs.Durable.{Durable}
use Rattle.s38_durable_state.specs.Represents.{Represents}
use Rattle.s38_page_diff.proofs.reconcile.ContentLaws.{get-changed}
use Rattle.s38_vault.specs.Content.{Content, changed}
use Rattle.s38_flush.proofs.TurnLaws.{beside, others_fail, passing}
use Rattle.s38_flush.specs.Leftovers.{RepresentsUpToOrphans, belongs, belongs_in, first_changes, is_left_in, later_changes}

pub represents_all : (m : Content) (d : Durable) → Represents m d → RepresentsUpToOrphans m d
represents_all m d stands = record { each = λ key low own. stands.each key low }

-- of changes that make what represents it those suffice that are not of orphan pages
pub represents_first : (most : ℕ) (m : Content) (d : Durable) (cs : List Change) → Represents (changed m cs) d → RepresentsUpToOrphans (changed m (first_changes most d cs)) d
represents_first most m d cs stands = by (nat_le (length cs) most)
  where
    by : (b : Bool) → RepresentsUpToOrphans (changed m (cond b cs (filter (belongs_in d) cs))) d
    by true = represents_all (changed m cs) d stands
    by false = record {
      each = λ key low own.
          get-changed m (filter (belongs_in d) cs) key ∙ passing (belongs d) cs key (get m key) own ∙ sym (get-changed m cs key) ∙ stands.each key low;
    }

-- what is put after them are orphan pages
pub later_left : (most : ℕ) (d : Durable) (cs : List Change) → AllByRecursion (λ c. belongs_in d c ≡ false) (later_changes most d cs)
later_left most d cs = by (nat_le (length cs) most)
  where
    by : (b : Bool) → AllByRecursion (λ c. belongs_in d c ≡ false) (cond b [] (filter (is_left_in d) cs))
    by true = tt
    by false = others_fail (belongs d) cs

-- and makes no difference
pub represents_later : (m : Content) (d : Durable) (cs : List Change) → AllByRecursion (λ c. belongs_in d c ≡ false) cs → RepresentsUpToOrphans m d → RepresentsUpToOrphans (changed m cs) d
represents_later m d cs left stands = record {
  each = λ key low own. get-changed m cs key ∙ beside (belongs d) true cs key (get m key) own left ∙ stands.each key low own;
}
