use Rattle.std.proofs.Common.{ap, refl, arith, ◌∙◌}
use Rattle.s38_disk.specs.Blocks.{DiskState}
use Rattle.s38_disk.specs.Moves.{Near}
use Rattle.s38_disk.proofs.Runs.{write_near, sync_near, near_end, near_then, weaker, step_at, at_one}
use Rattle.s38_redo_log.specs.Coding.{is_store_label}
use Rattle.s38_redo_log.proofs.LogLemmas.{put_here}
use Rattle.s38_pages.specs.Formats.{label_place}
use Rattle.s38_pages.proofs.formatting.write_label.Goals as goal

pub returns-in_err-write-clause-moves : goal.returns-in_err-write-clause-moves
returns-in_err-write-clause-moves g c = weaker 2 (Near label_place) (write_near label_place c.write.ensures.notes c.write.ensures.cause.later refl) (omega arith) (λ s u is near. near)

pub returns-in_err-sync-clause-moves : goal.returns-in_err-sync-clause-moves
returns-in_err-sync-clause-moves g c = near_then label_place (write_near label_place c.write.ensures.notes c.write.ensures.cause.later refl) (sync_near label_place c.sync.ensures.notes c.sync.ensures.cause.later)

pub returns-clause-moves : goal.returns-clause-moves
returns-clause-moves g c = near_then label_place (write_near label_place c.write.ensures.notes c.write.ensures.cause.later refl) (sync_near label_place c.sync.ensures.notes c.sync.ensures.cause.later)

pub returns-clause-done : goal.returns-clause-done
returns-clause-done g c s t is at =
    let mid = step_at c.in_ok-write.ensures.notes s is in
    let last = at_one _ t _ at (step_at c.in_ok-sync.ensures.notes _ mid) in
    let run = near_then label_place (write_near label_place c.write.ensures.notes c.write.ensures.cause.later refl) (sync_near label_place c.sync.ensures.notes c.sync.ensures.cause.later) in (
      λ i. ap (λ (u : DiskState). u.pending i) last,
      ap (λ (u : DiskState). is_store_label (u.now 0)) last ∙ ap is_store_label (put_here 0 c.label_block.result s.now 0 refl) ∙ c.label_block.ensures,
      (near_end label_place run s t is at).now,
    )
