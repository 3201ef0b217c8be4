use Rattle.std.proofs.Common.{sym, subst, List, ℕ}
use Rattle.s38_template.specs.Known.{IsKnown}
use Rattle.s38_template.proofs.Sets.{known_more}
use Rattle.s38_template.proofs.seen.Seen.with.Goals as goal

pub invariant_of-result : goal.invariant_of-result
invariant_of-result c =
    let k = known_more c.self.inside.set c.insert.new.self c.self.inside.names c.args.name c.self.invariant c.in-Ok.ensures.updates in
    let P : List (List ℕ) → Type 0 = IsKnown c.insert.new.self in
    subst P (sym c.in_ok-push.ensures.ok) k
