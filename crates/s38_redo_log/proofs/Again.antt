-- A log that is replayed: what the result depends on, and that replaying it twice is replaying it once.
use Rattle.std.proofs.Common.{◌≡◌, ◌==◌, ◌||◌, ℕ, zero, suc, ◌+◌, ◌/◌, ◌%◌, ◌<◌, ◌≤◌, Bool, true, false, cond, List, [], ◌∷◌, refl, sym, ◌∙◌, ap, arith}
use Rattle.std.proofs.lemmas.Bool.{eqb-true, and_parts, true≢false, leb-true}
use Rattle.s38_disk.specs.declared.block.Block.{Block}
use Rattle.s38_disk.specs.Blocks.{put}
use Rattle.s38_redo_log.specs.declared.layout.Layout.{Layout}
use Rattle.s38_redo_log.specs.declared.layout.Slot.{Slot}
use Rattle.s38_redo_log.specs.Coding.{word_in}
use Rattle.s38_redo_log.specs.Store.{AreHomes, IsLayout, entries_from, entries_written, is_home, log_count, log_data, log_of, log_word, targets}

-- ---- done

pub put_cases : (at : ℕ) (b : Block) (f g : ℕ → Block) (i : ℕ) → ((i == at) ≡ false → f i ≡ g i) → put at b f i ≡ put at b g i
put_cases at b f g i same = by (i == at) same
  where
    by : (v : Bool) → (v ≡ false → f i ≡ g i) → cond v b (f i) ≡ cond v b (g i)
    by true e = refl
    by false e = e refl

or_false : (x y : Bool) → x ≡ false → y ≡ false → (x || y) ≡ false
or_false x y a b = ap (λ v. v || y) a ∙ b

-- where a block is no target it need not be the same before
pub done_same : (es : List Slot) (f g : ℕ → Block) (i : ℕ) → (targets es i ≡ false → f i ≡ g i) → entries_written es f i ≡ entries_written es g i
done_same [] f g i same = same refl
done_same (e ∷ es) f g i same = done_same es (put e.home e.block f) (put e.home e.block g) i (λ none. put_cases e.home e.block f g i (λ other. same (or_false (i == e.home) (targets es i) other none)))

pub done_other : (es : List Slot) (f : ℕ → Block) (i : ℕ) → targets es i ≡ false → entries_written es f i ≡ f i
done_other [] f i none = refl
done_other (e ∷ es) f i none = done_other es (put e.home e.block f) i (second (i == e.home) none) ∙ ap (λ v. cond v e.block (f i)) (first (i == e.home) none)
  where
    first : (x : Bool) → (x || targets es i) ≡ false → x ≡ false
    first true n = n
    first false n = refl

    second : (x : Bool) → (x || targets es i) ≡ false → targets es i ≡ false
    second true n = absurd (true≢false n)
    second false n = n

pub done_twice : (es : List Slot) (f : ℕ → Block) (i : ℕ) → entries_written es (entries_written es f) i ≡ entries_written es f i
done_twice es f i = done_same es (entries_written es f) f i (done_other es f i)

-- ---- what the log reads

pub entries_same : (f g : ℕ → Block) (at j n : ℕ) → ((k : ℕ) → j ≤ k → k < j + n → f (at + k) ≡ g (at + k)) → ((k : ℕ) → j < k → k ≤ j + n → log_word f k ≡ log_word g k) → entries_from f at j n ≡ entries_from g at j n
entries_same f g at j zero datas words = refl
entries_same f g at j (suc n) datas words =
    let word : log_word f (suc j) ≡ log_word g (suc j) = words (suc j) (omega arith) (omega arith) in
    let here : f (at + j) ≡ g (at + j) = datas j (omega arith) (omega arith) in
    let rest : entries_from f at (suc j) n ≡ entries_from g at (suc j) n = entries_same f g at (suc j) n (λ k a b. datas k (omega arith) (omega arith)) (λ k a b. words k (omega arith) (omega arith)) in
    λ i. record { home = word i; block = here i } ∷ rest i

-- the log of blocks that are the same from 2 on below the homes
pub log_same : (lay : Layout) (f g : ℕ → Block) → IsLayout lay → log_count f ≤ lay.most → ((i : ℕ) → 2 ≤ i → i < lay.first → g i ≡ f i) → (log_count g ≡ log_count f) × (log_of g ≡ log_of f)
unfolding log_of
log_same lay f g is few same =
    let words : (k : ℕ) → k ≤ lay.most → log_word g k ≡ log_word f k = λ k le. ap (λ b. word_in b (k % 132)) (same (2 + k / 132) (omega arith) (room k le)) in
    let count : log_count g ≡ log_count f = words 0 (omega arith) in
    (count, ap (λ n. entries_from g (log_data n) 0 n) count ∙ entries_same g f (log_data (log_count f)) 0 (log_count f) (λ k a b. same (log_data (log_count f) + k) (omega arith) (data_room k b)) (λ k a b. words k (omega arith)))
  where
    room : (k : ℕ) → k ≤ lay.most → 2 + k / 132 < lay.first
    room k le = omega (arith, is.room)

    data_room : (k : ℕ) → k < 0 + log_count f → 3 + log_count f / 132 + k < lay.first
    data_room k le = omega (arith, is.room)

-- ---- homes

pub home_above : (lay : Layout) (i : ℕ) → is_home lay i ≡ true → lay.first ≤ i
home_above lay i h = leb-true lay.first i (and_parts _ _ h).0

pub targets_home : (lay : Layout) (es : List Slot) (i : ℕ) → AreHomes lay es → targets es i ≡ true → is_home lay i ≡ true
targets_home lay [] i all hit = absurd (true≢false (sym hit))
targets_home lay (e ∷ es) i all hit = by (targets_home lay es i all.2) (i == e.home) refl
  where
    by : (targets es i ≡ true → is_home lay i ≡ true) → (v : Bool) → (i == e.home) ≡ v → is_home lay i ≡ true
    by rest true is = ap (λ k. is_home lay k) (eqb-true i e.home is) ∙ all.0
    by rest false is = rest (sym (ap (λ v. v || targets es i) is) ∙ hit)

-- a block below the homes is no target
pub below_homes : (lay : Layout) (es : List Slot) (i : ℕ) → AreHomes lay es → i < lay.first → targets es i ≡ false
below_homes lay es i all le = by (targets es i) refl
  where
    by : (v : Bool) → targets es i ≡ v → targets es i ≡ false
    by true hit = let h = home_above lay i (targets_home lay es i all hit) in absurd (omega arith)
    by false none = none
