use Rattle.std.proofs.Common.{◌≡◌, ℕ, List, [], ◌∷◌, ◌++◌, None, ap, drop, get_or, map, subst, sym, ◌∙◌}
use Rattle.std.proofs.lemmas.List.{take_rest}
use Rattle.std.specs.List.Sorted.{IsStrictlyIncreasing}
use Rattle.s38_base.specs.declared.page.Change.{Change}
use Rattle.s38_image.specs.Faults.{Group}
use Rattle.s38_restart.specs.catalog.Runs.{number_of, run}
use Rattle.s38_restart.proofs.catalog.RunLaws.{groups_all, groups_more, groups_pass, groups_rise, in_order, numbers_more}
use Rattle.s38_restart.proofs.catalog.groups.Groups.of.Goals as goal
use Rattle.s38_restart.proofs.catalog.groups.Groups.of.Goals.{then-is_header+in_ok-group+in_ok-push+in_ok-push-2, else-is_header}

pub loop-at-preserved : goal.loop-at-preserved
loop-at-preserved c =
    let ps = c.args.parts.now in
    let i = c.loop-at.at in
    let d : Change = record { key = record { object = 0; part = 0 }; page = None } in
    let n = (get_or ps i d).key.object in
    let gs = c.loop-at.groups.items in
    elim c.if-is_header.branch [
      | then-is_header+in_ok-group+in_ok-push+in_ok-push-2 w ↦
          let g = w.in_ok-group.group in
          let parts : w.run_of.result.now ≡ run n (drop i ps) = w.run_of.ensures ∙ ap (run n) (take_rest ps i) in
          let one : g ≡ record { number = n; parts = run n (drop i ps) } = w.in_ok-group.ensures ∙ ap (λ (l : List Change). record { number = n; parts = l }) parts in
          record {
            groups = ap (λ v. v.items) w.groups-is ∙ groups_more ps i d gs w.push.new.self.items g c.loop-at-test.true (in_order ps c.requires) c.loop-at.invariant.groups (sym w.if-is_header.ensures) one w.in_ok-push.ensures.items;
            numbers =
                ap (λ v. v.items) w.numbers-is
                ∙ numbers_more c.loop-at.numbers.items w.push-then-is_header.new.self.items gs w.push.new.self.items g c.loop-at.invariant.numbers w.in_ok-push.ensures.items
                (w.in_ok-push-2.ensures.items ∙ ap (λ (k : ℕ). c.loop-at.numbers.items ++ k ∷ []) (sym (ap (λ (x : Group). x.number) w.in_ok-group.ensures)))
                ∙ ap (map number_of) (sym (ap (λ v. v.items) w.groups-is));
          }
      | else-is_header w ↦ record {
        groups = ap (λ v. v.items) w.groups-is ∙ groups_pass ps i d gs c.loop-at-test.true c.loop-at.invariant.groups (sym w.if-is_header.ensures);
        numbers = ap (λ v. v.items) w.numbers-is ∙ c.loop-at.invariant.numbers ∙ ap (map number_of) (sym (ap (λ v. v.items) w.groups-is));
      }
    ]

pub invariant_of-result : goal.invariant_of-result
invariant_of-result c =
    let ps = c.args.parts.now in
    let all = groups_all ps c.loop-at.at c.loop-at.groups.items c.loop-at-test.false c.loop-at.invariant.groups in
    record {
      numbers = c.loop-at.invariant.numbers;
      rising = subst (λ (l : List ℕ). IsStrictlyIncreasing l) (sym (c.loop-at.invariant.numbers ∙ ap (map number_of) all)) (groups_rise ps (in_order ps c.requires));
    }
