use Rattle.std.proofs.Common.{◌≡◌, ℕ, ◌<◌, List, [], ◌∷◌, ◌++◌, length, get_or, take, ap, subst, sym, ◌∙◌, arith}
use Rattle.std.proofs.lemmas.List.{append-nil, length-map}
use Rattle.std.specs.Prelude.{Result, filter_map}
use Rattle.std.specs.List.{cons_option}
use Rattle.std.specs.Result.{result_ok}
use Rattle.s38_image.specs.Faults.{Group, sound}
use Rattle.s38_image.specs.declared.stored.Stored.{Stored}
use Rattle.s38_restart.specs.catalog.Readings.{fault_alone, fault_in, is_repeated, outcome}
use Rattle.s38_restart.proofs.catalog.SoundLaws.{faults_more, stored_more}
use Rattle.s38_restart.proofs.catalog.outcomes.outcomes.Goals as goal
use Rattle.s38_restart.proofs.catalog.outcomes.outcomes.Goals.{in-Ok+in_ok-push-in-Ok, in-Err+in_ok-push-in-Err}

pub loop-at-preserved : goal.loop-at-preserved
loop-at-preserved c =
    let gs = c.args.groups.now in
    let limit = c.args.limit in
    let ceiling = c.args.ceiling in
    let i = c.loop-at.at in
    let g = c.index-groups_read-at.result in
    let r = c.in_ok-object.field-0 in
    let at : g ≡ get_or gs i g = subst (λ (l : List Group). g ≡ get_or l i g) c.as_slice-groups_read.ensures.groups c.index-groups_read-at.is in
    let same : length c.in_ok-repeats.repeats.items ≡ length gs = ap length c.in_ok-repeats.ensures ∙ length-map gs (is_repeated gs) in
    let lt : i < length gs = omega arith in
    let is : r ≡ outcome gs limit ceiling g = c.in_ok-object.ensures in
    let stored = stored_more gs limit ceiling gs i g r lt at is in
    let faults = faults_more gs limit ceiling gs i g r lt at is in
    let objects_by = λ (x : Result Stored ℕ). filter_map (sound gs limit ceiling) (take i gs) ++ cons_option (result_ok x) [] in
    let faults_by = λ (x : Result Stored ℕ). filter_map (fault_alone gs limit ceiling) (take i gs) ++ cons_option (fault_in g.number x) [] in
    elim c.match-branch-3.branch [
      | in-Ok+in_ok-push-in-Ok w ↦ record {
        stored =
            ap (λ v. v.items) w.stored-is ∙ w.in_ok-push-in-Ok.ensures.items ∙ ap (λ (l : List Stored). l ++ w.in-Ok.object ∷ []) c.loop-at.invariant.stored
            ∙ ap objects_by (sym w.in-Ok.is) ∙ sym stored;
        faults =
            ap (λ v. v.items) w.faults-is ∙ c.loop-at.invariant.faults ∙ sym (append-nil (filter_map (fault_alone gs limit ceiling) (take i gs)))
            ∙ ap faults_by (sym w.in-Ok.is) ∙ sym faults;
      }
      | in-Err+in_ok-push-in-Err w ↦ record {
        stored =
            ap (λ v. v.items) w.stored-is ∙ c.loop-at.invariant.stored ∙ sym (append-nil (filter_map (sound gs limit ceiling) (take i gs)))
            ∙ ap objects_by (sym w.in-Err.is) ∙ sym stored;
        faults =
            ap (λ v. v.items) w.faults-is ∙ w.in_ok-push-in-Err.ensures.items ∙ ap (λ (l : List (ℕ × ℕ)). l ++ (w.number.result, w.in-Err.part) ∷ []) c.loop-at.invariant.faults
            ∙ ap (λ (k : ℕ). filter_map (fault_alone gs limit ceiling) (take i gs) ++ (k, w.in-Err.part) ∷ []) w.number.ensures
            ∙ ap faults_by (sym w.in-Err.is) ∙ sym faults;
      }
    ]
