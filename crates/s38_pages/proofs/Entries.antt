-- Entries of a log that are read one by one.
use Rattle.std.proofs.Common.{◌≡◌, ◌==◌, ◌||◌, ℕ, zero, suc, ◌+◌, ◌<◌, Bool, true, false, slice_set, List, [], ◌∷◌, ◌++◌, length, get_or, take, refl, sym, ◌∙◌, ap, arith, ⊎_elim}
use Rattle.std.proofs.lemmas.Bool.{cases_eq, both_ways, eq-eqb, ne_eqb}
use Rattle.std.proofs.lemmas.List.{take_more}
use Rattle.s38_disk.specs.declared.block.Block.{Block}
use Rattle.s38_redo_log.specs.declared.layout.Layout.{Layout}
use Rattle.s38_redo_log.specs.declared.layout.Slot.{Slot}
use Rattle.s38_redo_log.specs.Store.{AreHomes, entries_from, is_home, log_count, log_data, log_of, log_word, targets}
use Rattle.s38_pages.specs.Index.{marked}
use Rattle.s38_pages.specs.Mounts.{log_entry_at}
use Rattle.s38_pages.proofs.Marking.{set_other, set_there}

entries_length : (f : ℕ → Block) (at j n : ℕ) → length (entries_from f at j n) ≡ n
entries_length f at j zero = refl
entries_length f at j (suc n) = let rest = entries_length f at (suc j) n in omega (arith, rest)

pub log_length : (f : ℕ → Block) → length (log_of f) ≡ log_count f
unfolding log_of
log_length f = entries_length f (log_data (log_count f)) 0 (log_count f)

entries_at : (f : ℕ → Block) (at j n k : ℕ) (d : Slot) → k < n → get_or (entries_from f at j n) k d ≡ record { home = log_word f (j + k + 1); block = f (at + (j + k)) }
entries_at f at j zero k d le = absurd (omega arith)
entries_at f at j (suc n) zero d le =
    let one : suc j ≡ j + 0 + 1 = omega arith in
    let none : j ≡ j + 0 = omega arith in
    λ i. record { home = log_word f (one i); block = f (at + none i) }
entries_at f at j (suc n) (suc k) d le =
    let one : suc j + k + 1 ≡ j + suc k + 1 = omega arith in
    let two : suc j + k ≡ j + suc k = omega arith in
    entries_at f at (suc j) n k d (omega arith) ∙ (λ i. record { home = log_word f (one i); block = f (at + two i) })

pub log_at : (f : ℕ → Block) (k : ℕ) (d : Slot) → k < log_count f → get_or (log_of f) k d ≡ log_entry_at f k
unfolding log_of
log_at f k d le =
    let one : 0 + k + 1 ≡ k + 1 = omega arith in
    let two : 0 + k ≡ k = omega arith in
    entries_at f (log_data (log_count f)) 0 (log_count f) k d le ∙ (λ i. record { home = log_word f (one i); block = f (log_data (log_count f) + two i) })

-- one entry more
pub log_more : (f : ℕ → Block) (k : ℕ) (slots : List Slot) (slot : Slot) → k < log_count f → slots ≡ take k (log_of f) → slot ≡ log_entry_at f k → take (k + 1) (log_of f) ≡ slots ++ slot ∷ []
log_more f k slots slot le so_far one =
    let d : Slot = slot in
    let size = log_length f in
    take_more (log_of f) k d (omega (arith, le, size)) ∙ (λ i. so_far_back i ++ (log_at f k d le ∙ sym one) i ∷ [])
  where
    so_far_back : take k (log_of f) ≡ slots
    so_far_back = sym so_far

-- the last of entries with homes of their own
pub homes-last : (lay : Layout) (es : List Slot) (e : Slot) → AreHomes lay (es ++ e ∷ []) → (is_home lay e.home ≡ true) × (targets es e.home ≡ false)
homes-last lay [] e all = (all.0, refl)
homes-last lay (x ∷ es) e all =
    let rest = homes-last lay es e all.2 in
    (rest.0, ap (λ b. b || targets es e.home) (ne_eqb e.home x.home (λ same. both_ways _ all.1 (there es e x.home (sym same)))) ∙ rest.1)
  where
    or_second : (a b : Bool) → b ≡ true → (a || b) ≡ true
    or_second true b e = refl
    or_second false b e = e

    there : (es : List Slot) (e : Slot) (i : ℕ) → i ≡ e.home → targets (es ++ e ∷ []) i ≡ true
    there [] e i same = ap (λ b. b || false) (eq-eqb i e.home same)
    there (y ∷ es) e i same = or_second (i == y.home) _ (there es e i same)

targets-last : (es : List Slot) (e : Slot) (i : ℕ) → targets (es ++ e ∷ []) i ≡ (targets es i || (i == e.home))
targets-last [] e i = swap (i == e.home)
  where
    swap : (b : Bool) → (b || false) ≡ (false || b)
    swap true = refl
    swap false = refl
targets-last (x ∷ es) e i = ap (λ b. (i == x.home) || b) (targets-last es e i) ∙ nested (i == x.home) (targets es i) (i == e.home)
  where
    nested : (a b c : Bool) → (a || (b || c)) ≡ ((a || b) || c)
    nested true b c = refl
    nested false b c = refl

-- what was seen are the homes of the entries so far
pub seen_more : (seen : List Bool) (es : List Slot) (e : Slot) → e.home < length seen → ((h : ℕ) → marked seen h ≡ targets es h) → (h : ℕ) → marked (slice_set seen e.home true) h ≡ targets (es ++ e ∷ []) h
seen_more seen es e within so_far h = ⊎_elim
    (λ same. ap (marked (slice_set seen e.home true)) same ∙ set_there seen e.home true within ∙ sym (targets-last es e h ∙ ap (λ b. targets es h || b) (eq-eqb h e.home same) ∙ or_true (targets es h)))
    (λ other. set_other seen e.home h true other ∙ so_far h ∙ sym (targets-last es e h ∙ ap (λ b. targets es h || b) (ne_eqb h e.home other) ∙ or_false (targets es h)))
    (cases_eq h e.home)
  where
    or_true : (b : Bool) → (b || true) ≡ true
    or_true true = refl
    or_true false = refl

    or_false : (b : Bool) → (b || false) ≡ b
    or_false true = refl
    or_false false = refl
