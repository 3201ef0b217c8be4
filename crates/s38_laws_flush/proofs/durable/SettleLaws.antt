-- Where units are right, each change that is not committed can be taken back of the object that it changed.
use Rattle.std.proofs.Common.{◌≡◌, ◌∙◌, ℕ, true, refl, subst, ap, arith}
use Rattle.std.proofs.lemmas.Bool.Decides.{nat_tests}
use Rattle.std.proofs.lemmas.List.Elements.{All-weaker}
use Rattle.std.specs.Prelude.{All, IsTrue, Option, Some, length, nat_le}
use Rattle.s38_laws_units.specs.Right.{IsChange, IsChangeOf, IsLogged, IsRight, IsUnit}
use Rattle.s38_commits.specs.Units.{UnitMap}
use Rattle.s38_commits.specs.declared.change.UnitChange.{UnitChange}
use Rattle.s38_dataspaces.specs.Table.{DataTable, may_restore}
use Rattle.s38_durable_state.specs.Following.{NumbersRise}
use Rattle.s38_image_writer.specs.Parts.{CanSettle}
use Rattle.s38_image_writer.specs.Restoring.{AreRestorable, IsRestorable}
use Rattle.s38_rules.specs.state.Held.{Held, object}
use Rattle.s38_rules.specs.state.Journaling.{block_port}
use Rattle.s38_rules.specs.state.Parts.{data_of, data_part, part_at, part_in}
use Rattle.s38_rules.specs.state.State.{State}
use Rattle.s38_rules.specs.declared.data_body.DataBody.{DataBody}
use Rattle.s38_rules.specs.declared.object.Body.TheVariants as bodies
use Rattle.s38_rules.specs.declared.object.Body.{Body}
use Rattle.s38_rules.specs.declared.object.Object.{Object}
use Rattle.s38_laws_flush.proofs.durable.FoundLaws.{all_found}

may_be_restored : (change : UnitChange) (t : DataTable) → IsChange change t → IsTrue (may_restore t change.at change.before)
may_be_restored change t is =
    let least = is.first in
    let most = is.last in
    let low : nat_le 1 change.at ≡ true = grind (arith, nat_tests) in
    let high : nat_le change.at (length t.entries) ≡ true = grind (arith, nat_tests) in
    rw (low, high, is.before) refl

restorable : (h : Held) (port : ℕ) (o : Object) (d : DataBody) → object h o.number.0 ≡ Some o → data_of o.body ≡ Some d → (change : UnitChange) → IsLogged h port change → IsRestorable o.number.0 d.space change
restorable h port o d found holds change logged at =
    let there : part_at data_part h change.space.0 ≡ Some d = ap (part_at data_part h) at ∙ ap (part_in data_part) found ∙ holds in
    may_be_restored change d.space (subst (λ (x : Option DataBody). IsChangeOf change x) there logged.entry)

data_settles : (h : Held) (units : UnitMap) (o : Object) (d : DataBody) → All (IsUnit h) units → object h o.number.0 ≡ Some o → data_of o.body ≡ Some d → AreRestorable units o.number.0 d.space
data_settles h units o d each found holds =
    All-weaker (IsUnit h) (λ e. All (IsRestorable o.number.0 d.space) e.1.changes)
    (λ e is. All-weaker (IsLogged h (block_port h e.0)) (IsRestorable o.number.0 d.space) (restorable h (block_port h e.0) o d found holds) e.1.changes is.changes)
    units each

settles_by : (h : Held) (units : UnitMap) (o : Object) (b : Body) → All (IsUnit h) units → object h o.number.0 ≡ Some o → o.body ≡ b → CanSettle units o.number.0 b
settles_by h units o (bodies.DataSpace d) each found is = data_settles h units o d each found (ap data_of is)
settles_by h units o _ each found is = tt

pub all_settle : (s : State) → NumbersRise s.held → IsRight s → All (λ o. CanSettle s.units o.number.0 o.body) s.held.objects
all_settle s rising right = all_found (λ o. CanSettle s.units o.number.0 o.body) s.held rising (λ o found. settles_by s.held s.units o o.body right.each found refl)
