-- Writing the slots of a log one by one.
use Rattle.std.proofs.Common.{◌≡◌, ◌==◌, ◌||◌, ℕ, zero, suc, ◌+◌, ◌<◌, Bool, true, false, cond, List, [], ◌∷◌, ◌++◌, length, get_or, take, refl, sym, ◌∙◌, ap, arith}
use Rattle.std.proofs.lemmas.Bool.{eq-eqb}
use Rattle.std.proofs.lemmas.List.{take_more}
use Rattle.s38_disk.specs.declared.block.Block.{Block}
use Rattle.s38_disk.specs.Blocks.{put}
use Rattle.s38_redo_log.specs.declared.layout.Slot.{Slot}
use Rattle.s38_redo_log.specs.Store.{entries_written, targets}

pub done-push : (es : List Slot) (e : Slot) (f : ℕ → Block) → entries_written (es ++ e ∷ []) f ≡ put e.home e.block (entries_written es f)
done-push [] e f = refl
done-push (x ∷ es) e f = done-push es e (put x.home x.block f)

pub done_more : (es : List Slot) (k : ℕ) (d e : Slot) (f : ℕ → Block) → k < length es → e ≡ get_or es k d → entries_written (take (k + 1) es) f ≡ put e.home e.block (entries_written (take k es) f)
done_more es k d e f le is = ap (λ xs. entries_written xs f) (take_more es k d le) ∙ done-push (take k es) (get_or es k d) f ∙ ap (λ (x : Slot). put x.home x.block (entries_written (take k es) f)) (sym is)

or_true : (x y : Bool) → y ≡ true → (x || y) ≡ true
or_true true y e = refl
or_true false y e = e

pub targets_at : (es : List Slot) (k : ℕ) (d : Slot) → k < length es → targets es (get_or es k d).home ≡ true
targets_at [] k d le = absurd (omega arith)
targets_at (e ∷ es) zero d le = ap (λ v. v || targets es e.home) (eq-eqb e.home e.home refl)
targets_at (e ∷ es) (suc k) d le = or_true ((get_or es k d).home == e.home) _ (targets_at es k d (omega arith))

-- one slot more is written
pub step_more : (es : List Slot) (k : ℕ) (d : Slot) (m f : ℕ → Block) (i : ℕ) → k < length es → m i ≡ entries_written (take k es) f i → put (get_or es k d).home (get_or es k d).block m i ≡ entries_written (take (k + 1) es) f i
step_more es k d m f i le here = ap (λ b. cond (i == (get_or es k d).home) (get_or es k d).block b) here ∙ ap (λ (h : ℕ → Block). h i) (sym (done_more es k d (get_or es k d) f le refl))
