use Rattle.std.proofs.Common.{◌≡◌, ◌∙◌, List, ap, subst, sym}
use Rattle.std.specs.Prelude.{IfSome, Option}
use Rattle.s38_locks.specs.Locks.{IsLeast, IsOrderly, Lock, blocker, is_blocker}
use Rattle.s38_locks.specs.Table.{Table, locks_of}
use Rattle.s38_locks.proofs.OrderLaws.{least_if}
use Rattle.s38_locks.proofs.SearchLaws.{in_order}
use Rattle.s38_locks.proofs.table.LockTable.blocked_by.Goals as goal

pub returns-clause-least : goal.returns-clause-least
returns-clause-least c =
    let object = c.args.object.0 in
    let test = is_blocker c.args.process c.args.category in
    let locks = locks_of c.args.self.now object in
    let same : c.locks_of-locks.result.now ≡ locks_of c.args.self.now object = c.locks_of-locks.ensures.locks ∙ ap (λ (t : Table). locks_of t object) c.self.view_is in
    let is : c.copied.result ≡ blocker c.args.process c.args.category (locks_of c.args.self.now object) = c.copied.ensures ∙ c.blocker.ensures ∙ ap (λ (xs : List Lock). blocker c.args.process c.args.category xs) same in
    subst (λ (r : Option Lock). IfSome r (λ lock. IsLeast test lock locks)) (sym is) (least_if test locks (subst (λ (xs : List Lock). IsOrderly xs) same c.locks_of-locks.ensures.orderly))

pub blocker-requires : goal.blocker-requires
blocker-requires c = in_order _ c.locks_of-locks.ensures.orderly
