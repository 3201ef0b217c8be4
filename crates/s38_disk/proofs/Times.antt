-- The states at the moments of a run.
use Rattle.std.proofs.Common.{◌≡◌, ◌↔◌, ℕ, zero, suc, ◌+◌, ◌-◌, ◌<◌, ◌≤◌, List, [], ◌∷◌, ◌++◌, length, take, sym, ◌∙◌, ap, subst, arith, length-append, refl}
use Rattle.std.proofs.lemmas.List.{take-append-le, take_all}
use Rattle.std.proofs.Math.Seq.{take-append-add}
use Rattle.s38_disk.specs.declared.block.Block.{Block}
use Rattle.s38_disk.specs.declared.block.Call.{Call}
use Rattle.s38_disk.specs.Blocks.{DiskState, after_calls, blocks_of_list, stepped, synced_state}
use Rattle.s38_disk.specs.Disk.{DiskView, IsAt, IsCrashImageAt, Past, WasAt, adding, moment_of}
use Rattle.s38_disk.specs.Disk.Past.{Told, Untold}
use Rattle.s38_disk.specs.Moves.{Along, Moves}
use Rattle.s38_disk.proofs.States.{after-append}

along_take : (Q : DiskState → Type 0) (s : DiskState) (cs : List Call) (i : ℕ) → 1 ≤ i → i ≤ length cs → Along Q s cs → Q (after_calls s (take i cs))
along_take Q s [] i a b all = absurd (omega arith)
along_take Q s (c ∷ cs) zero a b all = absurd (omega arith)
along_take Q s (c ∷ cs) (suc zero) a b all = all.0
along_take Q s (c ∷ cs) (suc (suc i)) a b all = along_take Q (stepped s c) cs (suc i) (omega arith) (omega arith) all.1

state_between : (p : Past) (cs : List Call) (Q : DiskState → Type 0) (s : DiskState) → IsAt p s → Along Q s cs → (t : ℕ) (u : DiskState) → moment_of p < t → t ≤ moment_of (adding cs p) → WasAt (adding cs p) t u → Q u
state_between (Told base calls) cs Q s is all t u low high was =
    let i = t - length calls in
    let at : t ≡ length calls + i = omega arith in
    let there : u ≡ after_calls s (take i cs) = was ∙ ap (λ k. after_calls (synced_state (blocks_of_list base)) (take k (calls ++ cs))) at ∙ ap (after_calls (synced_state (blocks_of_list base))) (take-append-add calls cs i)
    ∙ after-append (synced_state (blocks_of_list base)) calls (take i cs) ∙ ap (λ v. after_calls v (take i cs)) (sym is) in
    subst Q (sym there) (along_take Q s cs i (omega arith) (omega (arith, length-append calls cs)) all)
state_between (Untold n) cs Q s none all t u low high was = absurd none

state_before : (p : Past) (cs : List Call) (t : ℕ) (u : DiskState) → t ≤ moment_of p → WasAt (adding cs p) t u → WasAt p t u
state_before (Told base calls) cs t u le was = was ∙ ap (after_calls (synced_state (blocks_of_list base))) (take-append-le t calls cs le)
state_before (Untold n) cs t u le none = none

-- each moment of a run, but the first
pub moments_of : {v w : DiskView} {most : ℕ} {R : DiskState → DiskState → Type 0} → Moves v w most R → (s : DiskState) → IsAt v.past s → (t : ℕ) (u : DiskState) → moment_of v.past < t → t ≤ moment_of w.past → WasAt w.past t u → R s u
moments_of {v} {w} {R = R} m s is t u low high was =
    state_between v.past m.calls (R s) s is (m.each s is) t u low (subst (λ p. t ≤ moment_of p) m.past high) (subst (λ p. WasAt p t u) m.past was)

-- no run changes an earlier moment
pub moments_before : {v w : DiskView} {most : ℕ} {R : DiskState → DiskState → Type 0} → Moves v w most R → (t : ℕ) (u : DiskState) → t ≤ moment_of v.past → WasAt w.past t u → WasAt v.past t u
moments_before {v} m t u le was = state_before v.past m.calls t u le (subst (λ p. WasAt p t u) m.past was)

state_still : (p : Past) (cs : List Call) (t : ℕ) (u : DiskState) → t ≤ moment_of p → WasAt p t u → WasAt (adding cs p) t u
state_still (Told base calls) cs t u le was = was ∙ ap (after_calls (synced_state (blocks_of_list base))) (sym (take-append-le t calls cs le))
state_still (Untold n) cs t u le none = none

-- what was told of an earlier moment is still told
pub moments_still : {v w : DiskView} {most : ℕ} {R : DiskState → DiskState → Type 0} → Moves v w most R → (t : ℕ) (u : DiskState) → t ≤ moment_of v.past → WasAt v.past t u → WasAt w.past t u
moments_still {v} m t u le was = subst (λ p. WasAt p t u) (sym m.past) (state_still v.past m.calls t u le was)

-- a run leaves the images of each earlier moment as they were
pub images_same : {v w : DiskView} {most : ℕ} {R : DiskState → DiskState → Type 0} → Moves v w most R → (t : ℕ) (image : ℕ → Block) → t ≤ moment_of v.past → IsCrashImageAt v.past t image ↔ IsCrashImageAt w.past t image
images_same m t image le = (λ old. (old.0, (moments_still m t old.0 le old.1.0, old.1.1)), λ new. (new.0, (moments_before m t new.0 le new.1.0, new.1.1)))

-- at the present moment a disk was in the state in which it is
pub was_now : (p : Past) (s : DiskState) → IsAt p s → WasAt p (moment_of p) s
was_now (Told base calls) s is = is ∙ ap (after_calls (synced_state (blocks_of_list base))) (sym (take_all (length calls) calls (omega arith)))
was_now (Untold n) s none = none
