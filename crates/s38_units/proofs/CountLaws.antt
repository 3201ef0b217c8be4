-- The commit blocks whose units go to one journal space, counted one after another.
use Rattle.std.proofs.Common.{◌≡◌, ℕ, ◌+◌, suc, Bool, true, false, cond, List, ◌∷◌, subst, ◌∙◌, ap, arith, length}
use Rattle.std.specs.Prelude.{filter}
use Rattle.s38_rules.specs.state.Held.{Held}
use Rattle.s38_rules.specs.state.Journaling.{block_port, is_that_number, journal_of_port}
use Rattle.s38_units.specs.Blocks.{leads_to}

-- a block goes where its port goes
pub port_leads : (h : Held) (journal block port : ℕ) (leads : Bool) → port ≡ block_port h block → leads ≡ is_that_number journal (journal_of_port h port) → leads ≡ leads_to h journal block
unfolding leads_to
port_leads h journal block port leads at is = is ∙ ap (λ (p : ℕ). is_that_number journal (journal_of_port h p)) at

module _ (h : Held) (journal block count total : ℕ) (rest left : List ℕ) (first : rest ≡ block ∷ left) (all : count + length (filter (leads_to h journal) rest) ≡ total) where
  with_first : count + length (cond (leads_to h journal block) (block ∷ filter (leads_to h journal) left) (filter (leads_to h journal) left)) ≡ total
  with_first = subst (λ (blocks : List ℕ). count + length (filter (leads_to h journal) blocks) ≡ total) first all

  with_answer : (b : Bool) → leads_to h journal block ≡ b → count + length (cond b (block ∷ filter (leads_to h journal) left) (filter (leads_to h journal) left)) ≡ total
  with_answer b is = subst (λ (t : Bool). count + length (cond t (block ∷ filter (leads_to h journal) left) (filter (leads_to h journal) left)) ≡ total) is with_first

  -- the next block is counted
  pub counted_yes : leads_to h journal block ≡ true → count + 1 + length (filter (leads_to h journal) left) ≡ total
  counted_yes is =
      let more : count + suc (length (filter (leads_to h journal) left)) ≡ total = with_answer true is in
      omega (arith, more)

  -- the next block is not counted
  pub counted_no : leads_to h journal block ≡ false → count + length (filter (leads_to h journal) left) ≡ total
  counted_no is = with_answer false is
