-- A disk in memory keeps its invariant.
use Rattle.std.proofs.Common.{⊎_elim, ◌≤◌, ◌≡◌, ◌==◌, ℕ, zero, suc, ◌+◌, ◌<◌, take, Bool, true, false, cond, List, [], ◌∷◌, ◌++◌, length, get_or, slice_set, refl, sym, ◌∙◌, ap, subst, arith, if◌then◌else◌}
use Rattle.std.proofs.lemmas.List.{get_or-set_same, get_or-set_other, take_more}
use Rattle.std.proofs.lemmas.Bool.{cases_lt, eqb-true, eqb-false, true≢false}
use Rattle.std.proofs.Math.ListN.{length-set}
use Rattle.s38_disk.specs.declared.block.Block.{Block}
use Rattle.s38_disk.specs.declared.block.Call.{Call}
use Rattle.s38_disk.specs.declared.block.Call.TheVariants.{Wrote, Synced}
use Rattle.s38_disk.specs.Blocks.{DiskState, IsCrashImage, after_calls, blocks_of_list, full_of, put, stepped, synced_state, wrote}
use Rattle.s38_disk.specs.Memory.{IsDisk, IsDurable, AreWithin, IsWithin, image_by, is_good_sync}
use Rattle.s38_disk.proofs.States.{after-push}

within-push : (size : ℕ) (cs : List Call) (c : Call) → AreWithin size cs → IsWithin size c → AreWithin size (cs ++ c ∷ [])
within-push size [] c all one = (one, tt)
within-push size (x ∷ cs) c all one = (all.0, within-push size cs c all.1 one)

pub listed-set : (bs : List Block) (at : ℕ) (b : Block) → at < length bs → (i : ℕ) → blocks_of_list (slice_set bs at b) i ≡ put at b (blocks_of_list bs) i
listed-set bs at b le i =
    elim (i == at) as (λ v. i == at ≡ v → blocks_of_list (slice_set bs at b) i ≡ cond v b (blocks_of_list bs i)) [
      | true ↦ λ e. ap (λ k. blocks_of_list (slice_set bs at b) k) (eqb-true i at e) ∙ get_or-set_same bs at b (full_of 0) le
      | false ↦ λ e. get_or-set_other bs at i b (full_of 0) (eqb-false i at e)
    ] refl

pub kept_write : (size : ℕ) (base blocks : List Block) (calls later : List Call) (at : ℕ) (b : Block) → IsDisk size base blocks calls → at < size → later ≡ calls ++ Wrote at b ∷ [] → IsDisk size base (slice_set blocks at b) later
kept_write size base blocks calls later at b d le e = subst (IsDisk size base (slice_set blocks at b)) (sym e) (record {
  first_size = d.first_size;
  now_size = length-set blocks at b ∙ d.now_size;
  within = within-push size calls (Wrote at b) d.within le;
  now = λ i. listed-set blocks at b (omega (arith, d.now_size)) i ∙ ap (λ x. cond (i == at) b x) (d.now i) ∙ ap (λ (s : DiskState). s.now i) (sym (after-push (synced_state (blocks_of_list base)) calls (Wrote at b)));
})

sync_now : (s : DiskState) (ok : Bool) (i : ℕ) → (stepped s (Synced ok)).now i ≡ s.now i
sync_now s true i = refl
sync_now s false i = refl

pub kept_sync : (size : ℕ) (base blocks : List Block) (calls later : List Call) (ok : Bool) → IsDisk size base blocks calls → later ≡ calls ++ Synced ok ∷ [] → IsDisk size base blocks later
kept_sync size base blocks calls later ok d e = subst (IsDisk size base blocks) (sym e) (record {
  first_size = d.first_size;
  now_size = d.now_size;
  within = within-push size calls (Synced ok) d.within tt;
  now = λ i. d.now i ∙ sym (sync_now (after_calls (synced_state (blocks_of_list base)) calls) ok i) ∙ ap (λ (s : DiskState). s.now i) (sym (after-push (synced_state (blocks_of_list base)) calls (Synced ok)));
})

pub within_at : (size : ℕ) (cs : List Call) (k : ℕ) (d : Call) → AreWithin size cs → k < length cs → IsWithin size (get_or cs k d)
within_at size [] k d all le = absurd (omega arith)
within_at size (c ∷ cs) zero d all le = all.0
within_at size (c ∷ cs) (suc k) d all le = within_at size cs k d all.1 (omega arith)

pub within_take : (size : ℕ) (cs : List Call) (k : ℕ) → AreWithin size cs → AreWithin size (take k cs)
within_take size cs zero all = tt
within_take size [] (suc k) all = tt
within_take size (c ∷ cs) (suc k) all = (all.0, within_take size cs k all.1)

pub after_more : (s : DiskState) (cs : List Call) (k : ℕ) (d : Call) → k < length cs → after_calls s (take (k + 1) cs) ≡ stepped (after_calls s (take k cs)) (get_or cs k d)
after_more s cs k d le = ap (after_calls s) (take_more cs k d le) ∙ after-push s (take k cs) (get_or cs k d)

good_settles : (s : DiskState) (call : Call) → is_good_sync call ≡ true → IsDurable (stepped s call)
good_settles s (Wrote at block) good = absurd (true≢false (sym good))
good_settles s (Synced true) good = λ i. (refl, refl)
good_settles s (Synced false) good = absurd (true≢false (sym good))

-- after a good sync all is durable
pub durable_at : (calls : List Call) (k : ℕ) (d : Call) → k < length calls → is_good_sync (get_or calls k d) ≡ true → (blocks : ℕ → Block) → IsDurable (after_calls (synced_state blocks) (take (k + 1) calls))
durable_at calls k d le good blocks = subst IsDurable (sym (after_more (synced_state blocks) calls k d le)) (good_settles (after_calls (synced_state blocks) (take k calls)) (get_or calls k d) good)

-- where a block is durable, its image is what is read
pub image_same : (fill : ℕ) (s : DiskState) (i : ℕ) → s.pending i ≡ false → s.durable i ≡ s.now i → image_by fill s i ≡ s.now i
image_same fill s i none durable =
    elim (fill == 0) as (λ v. (if v then s.durable i else (if fill == 1 then s.now i else cond (s.pending i) (full_of fill) (s.now i))) ≡ s.now i) [
      | true ↦ durable
      | false ↦ elim (fill == 1) as (λ v. (if v then s.now i else cond (s.pending i) (full_of fill) (s.now i)) ≡ s.now i) [
        | true ↦ refl
        | false ↦ ap (λ v. cond v (full_of fill) (s.now i)) none
      ]
    ]

-- what is not pending is durable
pub same_durable : (s : DiskState) (calls : List Call) → ((i : ℕ) → s.pending i ≡ false → s.durable i ≡ s.now i) → (i : ℕ) → (after_calls s calls).pending i ≡ false → (after_calls s calls).durable i ≡ (after_calls s calls).now i
same_durable s [] all i none = all i none
same_durable s (Wrote at block ∷ calls) all i none = same_durable (wrote s at block) calls (λ j free. same_write s at block j (all j) free) i none
  where
    same_write : (s : DiskState) (at : ℕ) (block : Block) (j : ℕ) → (s.pending j ≡ false → s.durable j ≡ s.now j) → (wrote s at block).pending j ≡ false → s.durable j ≡ (wrote s at block).now j
    same_write s at block j was = elim (j == at) as (λ v. cond v true (s.pending j) ≡ false → s.durable j ≡ cond v block (s.now j)) [
      | true ↦ λ free. absurd (true≢false free)
      | false ↦ λ free. was free
    ]
same_durable s (Synced true ∷ calls) all i none = same_durable (synced_state s.now) calls (λ j free. refl) i none
same_durable s (Synced false ∷ calls) all i none = same_durable s calls all i none

-- each fill gives an image
pub image_of_fill : (fill : ℕ) (blocks : ℕ → Block) (calls : List Call) → IsCrashImage (after_calls (synced_state blocks) calls) (image_by fill (after_calls (synced_state blocks) calls))
image_of_fill fill blocks calls = record { same = λ i none. image_same fill (after_calls (synced_state blocks) calls) i none (same_durable (synced_state blocks) calls (λ j free. refl) i none) }

-- of a list's items before its end it does not matter what lies past the end
same_item : (calls : List Call) (k : ℕ) (a b : Call) → k < length calls → get_or calls k a ≡ get_or calls k b
same_item [] k a b le = absurd (omega arith)
same_item (c ∷ calls) zero a b le = refl
same_item (c ∷ calls) (suc k) a b le = same_item calls k a b (omega arith)

-- one more call without a good sync
pub none_until : (calls : List Call) (kept k : ℕ) (c : Call) → k < length calls → ((j : ℕ) (d : Call) → kept ≤ j → j < k → is_good_sync (get_or calls j d) ≡ false) → is_good_sync (get_or calls k c) ≡ false
    → (j : ℕ) (d : Call) → kept ≤ j → j < k + 1 → is_good_sync (get_or calls j d) ≡ false
none_until calls kept k c le before here j d low high = ⊎_elim (λ lt. before j d low lt) (λ ge. subst (λ n. is_good_sync (get_or calls n d) ≡ false) (omega (arith, ge, high)) (ap is_good_sync (same_item calls k d c le) ∙ here)) (cases_lt j k)
