use Rattle.std.proofs.Common.{◌≡◌, ◌+◌, ◌*◌, ◌/◌, List, [], ◌∷◌, ◌∙◌, ap, subst, sym, refl, arith, length}
use Rattle.std.proofs.lemmas.Bool.{eqb-true}
use Rattle.s38_disk.specs.Blocks.{DiskState}
use Rattle.s38_disk.specs.Disk.{DiskView}
use Rattle.s38_disk.specs.Moves.{Moves}
use Rattle.s38_disk.proofs.CostLaws.{costs_sync, costs_within}
use Rattle.s38_disk.proofs.Runs.{sync_near, weaker, step_at, at_one}
use Rattle.s38_redo_log.specs.declared.layout.Slot.{Slot}
use Rattle.s38_redo_log.specs.declared.layout.Layout.{Layout}
use Rattle.s38_redo_log.specs.Store.{IsLayout}
use Rattle.s38_redo_log.specs.Phases.{IsAllOrNone, IsPut}
use Rattle.s38_redo_log.proofs.CommitLemmas.{moment_rises, none, sync_all_or_none, sync_ends}
use Rattle.s38_pages.proofs.writing.write_all.Goals as goal

is_nil : (xs : List Slot) → length xs ≡ 0 → [] ≡ xs
is_nil [] e = refl
is_nil (x ∷ xs) e = absurd (omega arith)

empty_moves : {v w : DiskView} (lay : Layout) (xs : List Slot) → IsLayout lay → length xs ≡ 0 → Moves v w 1 (IsAllOrNone lay []) → Moves v w (2 * length xs + length xs / 132 + 7) (IsAllOrNone lay xs)
empty_moves {v} {w} lay xs is e m = weaker (2 * length xs + length xs / 132 + 7) (IsAllOrNone lay xs) (subst (λ ys. Moves v w 1 (IsAllOrNone lay ys)) (is_nil xs e) m) (omega arith) (λ s u at r. r)

pub returns-in_err-sync-clause-moves : goal.returns-in_err-sync-clause-moves
returns-in_err-sync-clause-moves g c =
    let e : length c.args.slots.now ≡ 0 = eqb-true _ _ (sym c.is_empty.ensures ∙ c.if-is_empty.true) in
    empty_moves c.args.layout.now c.args.slots.now c.requires.layout e (sync_all_or_none c.args.layout.now c.requires.layout (sync_near none c.sync.ensures.notes c.sync.ensures.cause.later))

pub returns-then-is_empty-clause-moves : goal.returns-then-is_empty-clause-moves
returns-then-is_empty-clause-moves g c =
    let e : length c.args.slots.now ≡ 0 = eqb-true _ _ (sym c.is_empty.ensures ∙ c.if-is_empty.true) in
    empty_moves c.args.layout.now c.args.slots.now c.requires.layout e (sync_all_or_none c.args.layout.now c.requires.layout (sync_near none c.sync.ensures.notes c.sync.ensures.cause.later))

pub returns-in_err-sync-clause-cost : goal.returns-in_err-sync-clause-cost
returns-in_err-sync-clause-cost g c = costs_within (2 * length c.args.slots.now + length c.args.slots.now / 132 + 3) 4 (costs_sync c.sync.ensures.notes) (omega arith) (omega arith)

pub returns-then-is_empty-clause-cost : goal.returns-then-is_empty-clause-cost
returns-then-is_empty-clause-cost g c = costs_within (2 * length c.args.slots.now + length c.args.slots.now / 132 + 3) 4 (costs_sync c.sync.ensures.notes) (omega arith) (omega arith)

pub returns-then-is_empty-clause-done : goal.returns-then-is_empty-clause-done
returns-then-is_empty-clause-done g c s t is at =
    let e : length c.args.slots.now ≡ 0 = eqb-true _ _ (sym c.is_empty.ensures ∙ c.if-is_empty.true) in
    let run = sync_near none c.sync.ensures.notes c.sync.ensures.cause.later in
    subst (λ ys. IsPut c.args.layout.now ys s t) (is_nil c.args.slots.now e)
    (sync_ends c.args.layout.now c.requires.layout run (λ a b at_a at_b i. ap (λ (u : DiskState). u.pending i) (at_one _ b _ at_b (step_at c.in_ok-sync.ensures.notes a at_a))) s t is at)

pub returns-then-is_empty-clause-rises : goal.returns-then-is_empty-clause-rises
returns-then-is_empty-clause-rises g c = moment_rises c.in_ok-sync.ensures.notes
