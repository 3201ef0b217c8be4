use Rattle.std.proofs.Common.{◌+◌, ◌/◌, ◌≤◌, ℕ, ◌∙◌, ap, arith, length}
use Rattle.s38_disk.specs.Blocks.{DiskState}
use Rattle.s38_disk.specs.Disk.{DiskView}
use Rattle.s38_disk.specs.Moves.{Moves, Near}
use Rattle.s38_disk.proofs.CostLaws.{costs_sync, costs_then, costs_within}
use Rattle.s38_disk.proofs.Runs.{sync_near, near_then, near_end, weaker, moves_wider, step_at, at_one, now_at}
use Rattle.s38_redo_log.specs.Store.{log_count, log_of}
use Rattle.s38_redo_log.specs.Phases.{block_between}
use Rattle.s38_redo_log.proofs.LogLemmas.{between_below, between_sub, log_read, numbers_same}
use Rattle.s38_redo_log.proofs.log.write_log.Goals as goal

numbers_wide : {a b : DiskView} (n most : ℕ) → n / 132 + 1 ≤ most → Moves a b (n / 132 + 1) (Near (block_between 2 (3 + n / 132))) → Moves a b most (Near (block_between 2 (3 + n / 132 + n)))
numbers_wide n most le m = moves_wider most (block_between 2 (3 + n / 132 + n)) m le (between_sub 2 (3 + n / 132 + n) 2 (3 + n / 132) (omega arith) (omega arith))

data_wide : {a b : DiskView} (n : ℕ) → Moves a b n (Near (block_between (3 + n / 132) (3 + n / 132 + n))) → Moves a b n (Near (block_between 2 (3 + n / 132 + n)))
data_wide n m = moves_wider n (block_between 2 (3 + n / 132 + n)) m (omega arith) (between_sub 2 (3 + n / 132 + n) (3 + n / 132) (3 + n / 132 + n) (omega arith) (omega arith))

pub returns-in_err-write_numbers-clause-moves : goal.returns-in_err-write_numbers-clause-moves
returns-in_err-write_numbers-clause-moves g c = let n = length c.args.slots.now in numbers_wide n (n / 132 + n + 2) (omega arith) c.write_numbers.ensures.moves

pub returns-in_err-write_data-clause-moves : goal.returns-in_err-write_data-clause-moves
returns-in_err-write_data-clause-moves g c = let n = length c.args.slots.now in
    let A = block_between 2 (3 + n / 132 + n) in
    weaker (n / 132 + n + 2) (Near A) (near_then A (numbers_wide n (n / 132 + 1) (omega arith) c.write_numbers.ensures.moves) (data_wide n c.write_data.ensures.moves)) (omega arith) (λ s u is near. near)

pub returns-in_err-sync-clause-moves : goal.returns-in_err-sync-clause-moves
returns-in_err-sync-clause-moves g c = let n = length c.args.slots.now in
    let A = block_between 2 (3 + n / 132 + n) in
    weaker (n / 132 + n + 2) (Near A) (near_then A (near_then A (numbers_wide n (n / 132 + 1) (omega arith) c.write_numbers.ensures.moves) (data_wide n c.write_data.ensures.moves)) (sync_near A c.sync.ensures.notes c.sync.ensures.cause.later)) (omega arith) (λ s u is near. near)

pub returns-clause-moves : goal.returns-clause-moves
returns-clause-moves g c = let n = length c.args.slots.now in
    let A = block_between 2 (3 + n / 132 + n) in
    weaker (n / 132 + n + 2) (Near A) (near_then A (near_then A (numbers_wide n (n / 132 + 1) (omega arith) c.write_numbers.ensures.moves) (data_wide n c.write_data.ensures.moves)) (sync_near A c.sync.ensures.notes c.sync.ensures.cause.later)) (omega arith) (λ s u is near. near)

pub returns-in_err-write_numbers-clause-cost : goal.returns-in_err-write_numbers-clause-cost
returns-in_err-write_numbers-clause-cost g c = let n = length c.args.slots.now in costs_within (n / 132 + n + 1) 1 c.write_numbers.ensures.cost (omega arith) (omega arith)

pub returns-in_err-write_data-clause-cost : goal.returns-in_err-write_data-clause-cost
returns-in_err-write_data-clause-cost g c =
    let n = length c.args.slots.now in
    costs_within (n / 132 + n + 1) 1 (costs_then c.write_numbers.ensures.cost c.write_data.ensures.cost) (omega arith) (omega arith)

pub returns-in_err-sync-clause-cost : goal.returns-in_err-sync-clause-cost
returns-in_err-sync-clause-cost g c =
    let n = length c.args.slots.now in
    costs_within (n / 132 + n + 1) 1 (costs_then (costs_then c.write_numbers.ensures.cost c.write_data.ensures.cost) (costs_sync c.sync.ensures.notes)) (omega arith) (omega arith)

pub returns-clause-cost : goal.returns-clause-cost
returns-clause-cost g c =
    let n = length c.args.slots.now in
    costs_within (n / 132 + n + 1) 1 (costs_then (costs_then c.write_numbers.ensures.cost c.write_data.ensures.cost) (costs_sync c.sync.ensures.notes)) (omega arith) (omega arith)

pub returns-clause-done : goal.returns-clause-done
returns-clause-done g c s t is at =
    let n = length c.args.slots.now in
    let B = block_between (3 + n / 132) (3 + n / 132 + n) in
    let one = now_at c.write_numbers.ensures.moves s is in
    let two = now_at c.write_data.ensures.moves _ one in
    let last = at_one _ t _ at (step_at c.in_ok-sync.ensures.notes _ two) in
    let numbers = c.in_ok-write_numbers.ensures.done s _ is one in
    let near = near_end B c.write_data.ensures.moves _ _ one two in
    let kept = numbers_same c.args.slots.now _ _ numbers (λ i le. near.now i (between_below (3 + n / 132) (3 + n / 132 + n) i le)) in
    let datas = c.in_ok-write_data.ensures.done _ _ one two in
    let read = log_read c.args.slots.now _ kept datas in
    (λ i. ap (λ (u : DiskState). u.pending i) last, ap (λ (u : DiskState). log_count u.now) last ∙ read.0, ap (λ (u : DiskState). log_of u.now) last ∙ read.1)
