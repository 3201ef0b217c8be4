-- What was written to the log is what is read of it.
use Rattle.std.proofs.Common.{◌≡◌, ℕ, zero, suc, ◌+◌, ◌-◌, ◌*◌, ◌/◌, ◌%◌, ◌<◌, ◌≤◌, nat_le, nat_lt, true, false, cond, List, ◌∷◌, length, drop, sym, ◌∙◌, ap, arith, ⊎_elim}
use Rattle.std.proofs.lemmas.Bool.{eq-eqb, ne_eqb, cases_lt, cases_eq, le-leb, lt-ltb, le-ltb, lt-leb, and_from, and_left, and_right, true≢false}
use Rattle.std.proofs.lemmas.List.{drop_more, drop_all}
use Rattle.s38_disk.specs.declared.block.Block.{Block}
use Rattle.s38_disk.specs.Blocks.{put}
use Rattle.s38_redo_log.specs.declared.layout.Slot.{Slot}
use Rattle.s38_redo_log.specs.Coding.{word_in}
use Rattle.s38_redo_log.specs.Store.{entries_from, log_count, log_data, log_of, log_word}
use Rattle.s38_redo_log.specs.Phases.{HasData, HasNumbers, block_between, log_number_at, slot_at}

pub between_in : (low high i : ℕ) → low ≤ i → i < high → block_between low high i ≡ true
between_in low high i a b = and_from (nat_le low i) (nat_lt i high) (le-leb low i a) (lt-ltb i high b)

pub between_below : (low high i : ℕ) → i < low → block_between low high i ≡ false
between_below low high i a = and_left (nat_le low i) (nat_lt i high) (lt-leb low i a)

pub between_above : (low high i : ℕ) → high ≤ i → block_between low high i ≡ false
between_above low high i a = and_right (nat_le low i) (nat_lt i high) (le-ltb i high a)

pub put_here : (at : ℕ) (b : Block) (f : ℕ → Block) (i : ℕ) → i ≡ at → put at b f i ≡ b
put_here at b f i e = ap (λ v. cond v b (f i)) (eq-eqb i at e)

pub put_apart : (at : ℕ) (b : Block) (f : ℕ → Block) (i : ℕ) → (i ≡ at → ⊥) → put at b f i ≡ f i
put_apart at b f i e = ap (λ v. cond v b (f i)) (ne_eqb i at e)

-- one more block of numbers is written
pub numbers_more : (slots : List Slot) (f : ℕ → Block) (b : Block) (j : ℕ) → ((k : ℕ) → k < 132 * j → log_word f k ≡ log_number_at slots k)
    → ((i : ℕ) → i < 132 → word_in b i ≡ log_number_at slots (132 * j + i)) → (k : ℕ) → k < 132 * (j + 1) → log_word (put (2 + j) b f) k ≡ log_number_at slots k
numbers_more slots f b j old new k le = ⊎_elim before here (cases_lt k (132 * j))
  where
    before : k < 132 * j → log_word (put (2 + j) b f) k ≡ log_number_at slots k
    before lt = ap (λ x. word_in x (k % 132)) (put_apart (2 + j) b f (2 + k / 132) (λ e. let p : ⊥ = omega arith in p)) ∙ old k lt

    here : 132 * j ≤ k → log_word (put (2 + j) b f) k ≡ log_number_at slots k
    here ge = let at : 2 + k / 132 ≡ 2 + j = omega arith in let same : 132 * j + k % 132 ≡ k = omega arith in
        ap (λ x. word_in x (k % 132)) (put_here (2 + j) b f (2 + k / 132) at) ∙ new (k % 132) (omega arith) ∙ ap (log_number_at slots) same

-- one more block of the log is written
pub data_more : (slots : List Slot) (from k : ℕ) (f : ℕ → Block) (b : Block) → ((i : ℕ) → i < k → f (from + i) ≡ (slot_at slots i).block) → b ≡ (slot_at slots k).block
    → (i : ℕ) → i < k + 1 → put (from + k) b f (from + i) ≡ (slot_at slots i).block
data_more slots from k f b old new i le = ⊎_elim here before (cases_eq i k)
  where
    here : i ≡ k → put (from + k) b f (from + i) ≡ (slot_at slots i).block
    here e = put_here (from + k) b f (from + i) (omega arith) ∙ new ∙ ap (λ n. (slot_at slots n).block) (sym e)

    before : (i ≡ k → ⊥) → put (from + k) b f (from + i) ≡ (slot_at slots i).block
    before e = put_apart (from + k) b f (from + i) (λ x. e (omega arith)) ∙ old i (omega arith)

-- the home numbers stay as they are while the blocks after them are written
pub numbers_same : (slots : List Slot) (f g : ℕ → Block) → HasNumbers slots f → ((i : ℕ) → i < 3 + length slots / 132 → g i ≡ f i) → HasNumbers slots g
numbers_same slots f g has same k le = ap (λ b. word_in b (k % 132)) (same (2 + k / 132) (omega arith)) ∙ has k le

number_after : (slots : List Slot) (j : ℕ) → j < length slots → log_number_at slots (suc j) ≡ (slot_at slots j).home
number_after slots j le = let e : suc j - 1 ≡ j = omega arith in ap (λ v. cond v (length slots) (cond (nat_le (suc j) (length slots)) (slot_at slots (suc j - 1)).home 0)) (ne_eqb (suc j) 0 (λ e. let p : ⊥ = omega arith in p)) ∙ ap (λ v. cond v (slot_at slots (suc j - 1)).home 0) (le-leb (suc j) (length slots) (omega arith)) ∙ ap (λ n. (slot_at slots n).home) e

entries_are : (slots : List Slot) (f : ℕ → Block) (j n : ℕ) → j + n ≡ length slots → HasNumbers slots f → HasData slots f → entries_from f (log_data (length slots)) j n ≡ drop j slots
entries_are slots f j zero e numbers datas = sym (drop_all j slots (omega arith))
entries_are slots f j (suc n) e numbers datas =
    let word : log_word f (suc j) ≡ (slot_at slots j).home = numbers (suc j) (omega arith) ∙ number_after slots j (omega arith) in
    let here : f (log_data (length slots) + j) ≡ (slot_at slots j).block = datas j (omega arith) in
    let rest : entries_from f (log_data (length slots)) (suc j) n ≡ drop (suc j) slots = entries_are slots f (suc j) n (omega arith) numbers datas in
    let more : slot_at slots j ∷ drop (suc j) slots ≡ drop j slots = sym (drop_step j (omega arith)) in
    (λ i. record { home = word i; block = here i } ∷ rest i) ∙ more
  where
    drop_step : (k : ℕ) → k < length slots → drop k slots ≡ slot_at slots k ∷ drop (suc k) slots
    drop_step k le = let e : k + 1 ≡ suc k = omega arith in drop_more slots k _ le ∙ ap (λ n. slot_at slots k ∷ drop n slots) e

-- the log that was written is the log that is read
pub log_read : (slots : List Slot) (f : ℕ → Block) → HasNumbers slots f → HasData slots f → (log_count f ≡ length slots) × (log_of f ≡ slots)
unfolding log_of
log_read slots f numbers datas =
    let count : log_count f ≡ length slots = numbers 0 (omega arith) in
    (count, ap (λ n. entries_from f (log_data n) 0 n) count ∙ entries_are slots f 0 (length slots) (omega arith) numbers datas)

pub between_sub : (low high l h : ℕ) → low ≤ l → h ≤ high → (i : ℕ) → block_between low high i ≡ false → block_between l h i ≡ false
between_sub low high l h a b i out = ⊎_elim (λ lt. between_below l h i lt) (λ ge. ⊎_elim (λ lt. absurd (true≢false (sym (between_in low high i (omega arith) (omega arith)) ∙ out))) (λ above. between_above l h i above) (cases_lt i h)) (cases_lt i l)
