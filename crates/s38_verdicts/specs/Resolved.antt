-- A need of an instruction with the pointer and the object that it speaks of.
use Rattle.std.specs.Prelude.{◌≡◌, ℕ, List, [], ◌∷◌, map, Option, None}
use Rattle.std.specs.Option.{option_map}
use Rattle.s38_base.specs.declared.pointer.Pointer.{Pointer}
use Rattle.s38_code.specs.declared.operand.Operand.{Operand}
use Rattle.s38_verdicts.specs.declared.resolved.Facts.{Facts}
use Rattle.s38_verdicts.specs.declared.resolved.Resolved.{Resolved}
use Rattle.s38_rules.specs.declared.need.Named.{Named}
use Rattle.s38_rules.specs.declared.need.Named.TheVariants.{Written, Implied}
use Rattle.s38_rules.specs.declared.need.Need.{Need}
use Rattle.s38_rules.specs.declared.object.Object.{Object}
use Rattle.s38_rules.specs.state.Held.{Held, kind_of, object}
use Rattle.s38_rules.specs.ask.Operands.{pointer_at}
use Rattle.s38_rules.specs.ask.RightsRules.{subject}

-- what the rules ask of an object
abbrev pub facts_of : Object → Facts
facts_of o = record { number = o.number; kind = kind_of o.body; public = o.public }

-- the pointer at the operand; none where no operand names the object
abbrev pub pointer_for : Held → List Operand → ℕ → Named → Option Pointer
pointer_for h ops k Written = pointer_at h ops k
pointer_for h ops k (Implied n) = None

abbrev pub resolved : Held → List Operand → Need → Resolved
resolved h ops need = record {
  need = need;
  pointer = pointer_for h ops need.place need.named;
  object = record { 0 = subject h ops need.place need.named };
  found = option_map facts_of (object h (subject h ops need.place need.named));
}

-- it is its need, resolved among these objects and for these operands
abbrev pub IsResolved : Held → List Operand → Resolved → Type 0
IsResolved h ops r = r ≡ resolved h ops r.need

abbrev pub Each : (Resolved → Type 0) → List Resolved → Type 0
Each holds [] = Unit {0}
Each holds (r ∷ rs) = holds r × Each holds rs

abbrev pub needs_of : List Resolved → List Need
needs_of rs = map (λ r. r.need) rs
