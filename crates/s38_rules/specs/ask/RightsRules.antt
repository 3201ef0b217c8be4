-- Rules of rights: what a need claims of an object, and of whom.
use Rattle.std.specs.Prelude.{ℕ, ◌+◌, ◌==◌, Bool, true, false, not, List, Option, None, bit_and, bit_or}
use Rattle.s38_base.specs.declared.exception.Exception.{Exception}
use Rattle.s38_base.specs.Exceptions as exceptions
use Rattle.s38_base.specs.Pointers.{carried_in}
use Rattle.s38_base.specs.RightNames as rights
use Rattle.s38_base.specs.Signals.{fails, first}
use Rattle.s38_code.specs.declared.operand.Operand.{Operand}
use Rattle.s38_rules.specs.declared.need.Claim.{Claim}
use Rattle.s38_rules.specs.declared.need.Claim.TheVariants.{Available, Granting, Ownership}
use Rattle.s38_rules.specs.declared.need.Need.{Need}
use Rattle.s38_rules.specs.declared.need.Named.{Named}
use Rattle.s38_rules.specs.declared.need.Named.TheVariants.{Written, Implied}
use Rattle.s38_rules.specs.ask.Authority.{available, is_governed, missing}
use Rattle.s38_rules.specs.state.Held.{Held}
use Rattle.s38_rules.specs.ask.Needs.{first_of}
use Rattle.s38_rules.specs.ask.Operands.{pointer_at, target}
use Rattle.s38_rules.specs.state.State.{State}
use Rattle.s38_rules.specs.ask.Users.{acting}

-- the object that a need speaks of
abbrev pub subject : Held → List Operand → ℕ → Named → ℕ
subject h ops k Written = target h ops k
subject h ops k (Implied n) = n.0

-- the rights that the used pointer carries; none where no operand names the object
abbrev pub carried_for : Held → List Operand → ℕ → Named → ℕ
carried_for h ops k Written = carried_in (pointer_at h ops k)
carried_for h ops k (Implied n) = rights.no_rights

-- the rights that an owner alone gives and takes
abbrev pub owners_own : ℕ
owners_own = rights.objctl + rights.objmgt

abbrev pub names_owners : ℕ → Bool
names_owners r = not (bit_and r owners_own == 0)

-- who neither owns the object nor has all-object authority needs object management and what it gives or takes, and
-- leaves the owner's own rights alone
abbrev pub granting_rule : Bool → ℕ → ℕ → ℕ → Option Exception
granting_rule true k r there = None
granting_rule false k r there =
    first (missing k (bit_or rights.objmgt r) there) (fails (names_owners r) exceptions.ownership_required k)

abbrev pub claim_rule : Claim → Held → List ℕ → ℕ → ℕ → ℕ → ℕ → Option Exception
claim_rule Available h users n carried k r = missing k r (available h users n carried)
claim_rule Granting h users n carried k r = granting_rule (is_governed h n users) k r (available h users n carried)
claim_rule Ownership h users n carried k r = fails (not (is_governed h n users)) exceptions.ownership_required k

unfoldable pub rights_rule : Held → List ℕ → List Operand → Need → Option Exception
rights_rule h users ops need =
    claim_rule need.claim h users (subject h ops need.place need.named) (carried_for h ops need.place need.named) need.place need.rights.0

unfoldable pub rights_rules : State → ℕ → ℕ → List Operand → List Need → Option Exception
rights_rules s p d ops wanted = first_of (rights_rule s.held (acting s p d) ops) wanted
