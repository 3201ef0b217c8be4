use Rattle.std.proofs.Common.{◌≡◌, ◌∙◌, ℕ, ◌==◌, List, cond, ap, refl, subst}
use Rattle.std.specs.Prelude.{Option, ◌≢◌, ◌&&◌, is_some}
use Rattle.std.specs.Option.{option_map}
use Rattle.std.specs.BTreeMap.{values}
use Rattle.std.proofs.lemmas.Result.{on_err_weaker, on_ok_weaker}
use Rattle.s38_rules.specs.declared.object.Object.{Object}
use Rattle.s38_rules.specs.state.Headers.{rights_in_row}
use Rattle.s38_rules.specs.state.Held.{Held, object_in}
use Rattle.s38_rules.specs.state.Access.{granted}
use Rattle.s38_objects.specs.Changes.{with_changed_standing}
use Rattle.s38_objects.proofs.IndexLaws.{indexed_changed, indexed_same, values_changed_to}
use Rattle.s38_objects.proofs.NumberLaws.{lookup_object}
use Rattle.s38_objects.proofs.ObjectLaws.{either, on_ok_both, rows_changed}
use Rattle.s38_objects.proofs.objects.Objects.set_row.Goals as goal

pub invariant_of-self : goal.invariant_of-self
invariant_of-self c =
    let m = c.self.inside in
    let f = with_changed_standing (granted c.args.user c.args.rights) in
    either c.set_row.result c.set_row.ensures.ok c.set_row.ensures.err
    (λ e. indexed_changed m.by_number c.set_row.new.objects m.by_name m.next c.args.number.0 f (record { number = λ o. refl; context = λ o. refl; id = λ o. refl }) c.self.invariant e)
    (λ e. indexed_same m.by_number c.set_row.new.objects m.by_name m.next c.self.invariant e)

pub returns-clause-ok : goal.returns-clause-ok
returns-clause-ok c =
    let m = c.self.inside in
    let shown : List Object → Held = λ os. record { objects = os; next = m.next; ceiling = m.ceiling } in
    rw (← c.self.view_is) (on_ok_weaker _ (λ e. ap shown (values_changed_to m.by_number c.set_row.new.objects m.by_name m.next c.args.number.0 (with_changed_standing (granted c.args.user c.args.rights)) c.self.invariant e)) c.set_row.ensures.ok)

pub returns-clause-others : goal.returns-clause-others
returns-clause-others c =
    let m = c.self.inside in
    let number = c.args.number.0 in
    let user = c.args.user.0 in
    let r = c.args.rights.0 in
    let f = with_changed_standing (granted c.args.user c.args.rights) in
    let os = values m.by_number in
    rw (← c.self.view_is) (on_ok_both c.set_row.result c.set_row.ensures.ok c.set_row.ensures.rows (λ e rows n u.
    ap (λ (xs : List Object). rights_in_row (object_in xs n) u) (values_changed_to m.by_number c.set_row.new.objects m.by_name m.next number f c.self.invariant e)
    ∙ rows_changed number n user u r f os (λ o. refl)
    (subst (λ (x : Option Object). (v : ℕ) → rights_in_row (option_map f x) v ≡ cond (is_some x && (user == v)) r (rights_in_row x v)) (lookup_object m.next number m.by_number.entries c.self.invariant.numbered) rows)))

pub returns-clause-added : goal.returns-clause-added
returns-clause-added c =
    let m = c.self.inside in
    let number = c.args.number.0 in
    rw (← c.self.view_is) (on_err_weaker _ (λ e. subst (λ (x : Option Object). (rights_in_row x c.args.user.0 ≡ 0) × (c.args.rights.0 ≢ 0)) (lookup_object m.next number m.by_number.entries c.self.invariant.numbered) e) c.set_row.ensures.added)
