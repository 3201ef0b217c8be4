-- One row of the set of instructions that the machine does: what it needs, when it fails beside, what it gives, and
-- what it changes. The process, the depth that it has come to and its request are handed to each.
use Rattle.std.specs.Prelude.{◌≡◌, ◌≢◌, ℕ, ◌-◌, List, [], map, slice_index_or, Option, None}
use Rattle.s38_base.specs.declared.exception.Exception.{Exception}
use Rattle.s38_base.specs.RightNames as rights
use Rattle.s38_code.specs.declared.event.Request.{Request}
use Rattle.s38_code.specs.declared.reply.Val.{Val}
use Rattle.s38_rules.specs.declared.need.Need.{Need}
use Rattle.s38_rules.specs.declared.process.ProcessEntry.{ProcessEntry}
use Rattle.s38_rules.specs.families.Changes.{Changes, Stays}
use Rattle.s38_rules.specs.state.Invocations.{with_stack}
use Rattle.s38_rules.specs.state.State.{State}

pub record Instruction : Type 0 where
  -- of its operands, in their order, and of objects that it implies
  pub needs : State → ℕ → ℕ → Request → List Need
  -- the special authority that an acting user must have
  pub special : State → ℕ → ℕ → Request → ℕ
  -- its conditions and limits, the first that fails
  pub fails : State → ℕ → ℕ → Request → Option Exception
  -- the value for its receiver
  pub gives : State → ℕ → ℕ → Request → Option Val
  -- what it changes, in the words of changes
  pub changes : State → ℕ → ℕ → Request → Changes

-- what an instruction leaves of each process: all but its frames
abbrev pub unstacked : ProcessEntry → ProcessEntry
unstacked x = with_stack (λ frames. []) x

-- each process is as it was, but that the one of a number may have other frames
pub record AreKept (p : ℕ) (xs ys : List ProcessEntry) : Type 0 where
  pub stays : map unstacked ys ≡ map unstacked xs
  pub others : (k : ℕ) (d : ProcessEntry) → k ≢ p - 1 → slice_index_or ys k d ≡ slice_index_or xs k d

-- an instruction that needs nothing and does nothing
abbrev pub inert : Instruction
inert = record { needs = λ s p d r. []; special = λ s p d r. rights.no_rights; fails = λ s p d r. None; gives = λ s p d r. None; changes = λ s p d r. Stays }
