use Rattle.std.proofs.Common.{◌+◌, ◌∙◌, ap, length, subst, sym, arith}
use Rattle.s38_disk.specs.Disk.{IsAt}
use Rattle.s38_disk.proofs.Runs.{weaker}
use Rattle.s38_redo_log.specs.Store.{IsLog}
use Rattle.s38_pages.specs.Mounts.{IsMounted}
use Rattle.s38_pages.proofs.Finishing.{finished_redone, mounted_redone, moves_from, only_read}
use Rattle.s38_pages.proofs.mounting.finish.Goals as goal

pub returns-in_err-gate_is_up-clause-moves : goal.returns-in_err-gate_is_up-clause-moves
returns-in_err-gate_is_up-clause-moves g c = only_read (c.args.layout.now.most + 3) (IsMounted c.args.layout.now) c.gate_is_up.ensures.size c.gate_is_up.ensures.cause.later c.gate_is_up.ensures.past

pub returns-else-branch-clause-moves : goal.returns-else-branch-clause-moves
returns-else-branch-clause-moves g c = only_read (c.args.layout.now.most + 3) (IsMounted c.args.layout.now) c.gate_is_up.ensures.size c.gate_is_up.ensures.cause.later c.gate_is_up.ensures.past

pub returns-in_err-slots-clause-moves : goal.returns-in_err-slots-clause-moves
returns-in_err-slots-clause-moves g c =
    only_read (c.args.layout.now.most + 3) (IsMounted c.args.layout.now) (c.read_log.ensures.size ∙ c.gate_is_up.ensures.size) (omega (arith, c.read_log.ensures.cause.later, c.gate_is_up.ensures.cause.later))
    (c.read_log.ensures.past ∙ c.gate_is_up.ensures.past)

pub returns-in_err-redo-clause-moves : goal.returns-in_err-redo-clause-moves
returns-in_err-redo-clause-moves g c =
    let lay = c.args.layout.now in
    let es = c.deref.result.now in
    let value = c.deref.ensures.value in
    let good : IsLog lay es = subst (IsLog lay) (sym value) c.in_ok-slots.ensures.log in
    let past = c.read_log.ensures.past ∙ c.gate_is_up.ensures.past in
    let moves = moves_from (c.read_log.ensures.size ∙ c.gate_is_up.ensures.size) (omega (arith, c.read_log.ensures.cause.later, c.gate_is_up.ensures.cause.later)) past c.redo.ensures.moves in
    weaker (lay.most + 3) (IsMounted lay) moves (omega (arith, good.most)) (λ s u is r.
    let up = sym (c.in_ok-gate_is_up.ensures.gives s is) ∙ c.if-branch.true in
    let read = c.in_ok-slots.ensures.gives s (subst (λ p. IsAt p s) (sym c.gate_is_up.ensures.past) is) in
    mounted_redone lay c.requires.layout es good s u up (read.0 ∙ ap length (sym value)) (read.1 ∙ sym value) r)

pub returns-in_ok-redo-clause-moves : goal.returns-in_ok-redo-clause-moves
returns-in_ok-redo-clause-moves g c =
    let lay = c.args.layout.now in
    let es = c.deref.result.now in
    let value = c.deref.ensures.value in
    let good : IsLog lay es = subst (IsLog lay) (sym value) c.in_ok-slots.ensures.log in
    let past = c.read_log.ensures.past ∙ c.gate_is_up.ensures.past in
    let moves = moves_from (c.read_log.ensures.size ∙ c.gate_is_up.ensures.size) (omega (arith, c.read_log.ensures.cause.later, c.gate_is_up.ensures.cause.later)) past c.redo.ensures.moves in
    weaker (lay.most + 3) (IsMounted lay) moves (omega (arith, good.most)) (λ s u is r.
    let up = sym (c.in_ok-gate_is_up.ensures.gives s is) ∙ c.if-branch.true in
    let read = c.in_ok-slots.ensures.gives s (subst (λ p. IsAt p s) (sym c.gate_is_up.ensures.past) is) in
    mounted_redone lay c.requires.layout es good s u up (read.0 ∙ ap length (sym value)) (read.1 ∙ sym value) r)

pub returns-in_ok-redo-clause-done : goal.returns-in_ok-redo-clause-done
returns-in_ok-redo-clause-done g c s t is at =
    let lay = c.args.layout.now in
    let es = c.deref.result.now in
    let value = c.deref.ensures.value in
    let good : IsLog lay es = subst (IsLog lay) (sym value) c.in_ok-slots.ensures.log in
    let past = c.read_log.ensures.past ∙ c.gate_is_up.ensures.past in
    let up = sym (c.in_ok-gate_is_up.ensures.gives s is) ∙ c.if-branch.true in
    let read = c.in_ok-slots.ensures.gives s (subst (λ p. IsAt p s) (sym c.gate_is_up.ensures.past) is) in
    finished_redone lay c.requires.layout es good s t up (read.0 ∙ ap length (sym value)) (read.1 ∙ sym value) (c.in_ok-redo.ensures.done s t (subst (λ p. IsAt p s) (sym past) is) at)
