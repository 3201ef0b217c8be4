-- Runs of calls: one call, one run after another, and what they keep.
use Rattle.std.proofs.Common.{◌≡◌, ◌⊎◌, ◌==◌, ℕ, ◌+◌, ◌≤◌, Bool, true, false, cond, List, [], ◌∷◌, ◌++◌, IsFalse, refl, sym, ◌∙◌, ap, subst, arith, inl, inr, length-append, append_assoc}
use Rattle.std.proofs.lemmas.List.{append-nil}
use Rattle.std.proofs.lemmas.Bool.{eqb-true, true≢false}
use Rattle.s38_disk.specs.declared.block.Block.{Block}
use Rattle.s38_disk.specs.declared.block.Call.{Call}
use Rattle.s38_disk.specs.declared.block.Call.TheVariants.{Wrote, Synced}
use Rattle.s38_disk.specs.Blocks.{DiskState, after_calls, blocks_of_list, stepped, synced_state, wrote}
use Rattle.s38_disk.specs.Disk.{DiskView, IsAt, Notes, Past, adding}
use Rattle.s38_disk.specs.Disk.Past.{Told, Untold}
use Rattle.s38_disk.specs.Moves.{Along, Moves, MovesBy, Near}
use Rattle.s38_disk.proofs.States.{after-append}

pub adding-nil : (p : Past) → p ≡ adding [] p
adding-nil (Told base calls) = ap (λ cs. Told base cs) (sym (append-nil calls))
adding-nil (Untold n) = ap (λ k. Untold k) (omega arith)

pub adding-append : (p : Past) (xs ys : List Call) → adding ys (adding xs p) ≡ adding (xs ++ ys) p
adding-append (Told base calls) xs ys = ap (λ cs. Told base cs) (append_assoc calls xs ys)
adding-append (Untold n) xs ys = ap (λ k. Untold k) (omega (arith, length-append xs ys))

pub along-append : (Q : DiskState → Type 0) (s : DiskState) (xs ys : List Call) → Along Q s xs → Along Q (after_calls s xs) ys → Along Q s (xs ++ ys)
along-append Q s [] ys all more = more
along-append Q s (x ∷ xs) ys all more = (all.0, along-append Q (stepped s x) xs ys all.1 more)

pub along_weaker : (P Q : DiskState → Type 0) (s : DiskState) (cs : List Call) → ((u : DiskState) → P u → Q u) → Along P s cs → Along Q s cs
along_weaker P Q s [] f all = tt
along_weaker P Q s (c ∷ cs) f all = (f (stepped s c) all.0, along_weaker P Q (stepped s c) cs f all.1)

-- ---- the state that a disk is in

at_added : (p : Past) (s : DiskState) (cs : List Call) → IsAt p s → IsAt (adding cs p) (after_calls s cs)
at_added (Told base calls) s cs is = ap (λ t. after_calls t cs) is ∙ sym (after-append (synced_state (blocks_of_list base)) calls cs)
at_added (Untold n) s cs none = none

pub at_one : (p : Past) (s t : DiskState) → IsAt p s → IsAt p t → s ≡ t
at_one (Told base calls) s t a b = a ∙ sym b
at_one (Untold n) s t a b = absurd a

was_told : (p : Past) (t : DiskState) (cs : List Call) → IsAt (adding cs p) t → (s : DiskState) × IsAt p s
was_told (Told base calls) t cs is = (after_calls (synced_state (blocks_of_list base)) calls, refl)
was_told (Untold n) t cs none = absurd none

-- ---- one call

pub stays : (v : DiskView) (R : DiskState → DiskState → Type 0) → Moves v v 0 R
stays v R = record { size = refl; later = omega arith; calls = []; past = adding-nil v.past; few = omega arith; each = λ s is. tt }

pub one_call : (old new : DiskView) (ok : Bool) (call : Call) (R : DiskState → DiskState → Type 0) → Notes old new ok call → old.faults ≤ new.faults → ((s : DiskState) → IsAt old.past s → R s (stepped s call)) → Moves old new 1 R
one_call old new ok call R n later here = by n.past
  where
    by : (new.past ≡ adding (call ∷ []) old.past) ⊎ ((new.past ≡ old.past) × IsFalse ok) → Moves old new 1 R
    by (inl made) = record { size = n.size; later = later; calls = call ∷ []; past = made; few = omega arith; each = λ s is. (here s is, tt) }
    by (inr none) = record { size = n.size; later = later; calls = []; past = none.0 ∙ adding-nil old.past; few = omega arith; each = λ s is. tt }

pub same_past : (old new : DiskView) (R : DiskState → DiskState → Type 0) → new.size ≡ old.size → old.faults ≤ new.faults → new.past ≡ old.past → Moves old new 0 R
same_past old new R size later same = record { size = size; later = later; calls = []; past = same ∙ adding-nil old.past; few = omega arith; each = λ s is. tt }

-- ---- one run after another

pub now_at : {old new : DiskView} {most : ℕ} {R : DiskState → DiskState → Type 0} (m : Moves old new most R) (s : DiskState) → IsAt old.past s → IsAt new.past (after_calls s m.calls)
now_at {old} {new} m s is = subst (λ p. IsAt p (after_calls s m.calls)) (sym m.past) (at_added old.past s m.calls is)

pub then_at : {old new : DiskView} {most : ℕ} {R : DiskState → DiskState → Type 0} (m : Moves old new most R) (s t : DiskState) → IsAt old.past s → IsAt new.past t → t ≡ after_calls s m.calls
then_at {old} {new} m s t is at = at_one new.past t (after_calls s m.calls) at (now_at m s is)

-- where the disk tells its past now, it told it before
pub told_before : {old new : DiskView} {most : ℕ} {R : DiskState → DiskState → Type 0} (m : Moves old new most R) (t : DiskState) → IsAt new.past t → (s : DiskState) × IsAt old.past s
told_before {old} {new} m t at = was_told old.past t m.calls (subst (λ p. IsAt p t) m.past at)

pub joins : {a b c : DiskView} {m n : ℕ} {R S : DiskState → DiskState → Type 0} (T : DiskState → DiskState → Type 0) → Moves a b m R → Moves b c n S
    → ((s u : DiskState) → IsAt a.past s → R s u → T s u) → ((s t u : DiskState) → IsAt a.past s → IsAt b.past t → S t u → T s u) → Moves a c (m + n) T
joins {a} {b} {c} {m} {n} {R} {S} T x y first second = record {
  size = y.size ∙ x.size;
  later = omega (arith, x.later, y.later);
  calls = x.calls ++ y.calls;
  past = y.past ∙ ap (λ p. adding y.calls p) x.past ∙ adding-append a.past x.calls y.calls;
  few = omega (arith, x.few, y.few, length-append x.calls y.calls);
  each = λ s is. let there = now_at x s is in along-append (T s) s x.calls y.calls
      (along_weaker (R s) (T s) s x.calls (λ u r. first s u is r) (x.each s is))
      (along_weaker (S (after_calls s x.calls)) (T s) (after_calls s x.calls) y.calls (λ u r. second s (after_calls s x.calls) u is there r) (y.each (after_calls s x.calls) there));
}

pub weaker : {a b : DiskView} {m : ℕ} {R : DiskState → DiskState → Type 0} (n : ℕ) (T : DiskState → DiskState → Type 0) → Moves a b m R → m ≤ n → ((s u : DiskState) → IsAt a.past s → R s u → T s u) → Moves a b n T
weaker {a} {b} {m} {R} n T x le f = record {
  size = x.size;
  later = x.later;
  calls = x.calls;
  past = x.past;
  few = omega (arith, x.few, le);
  each = λ s is. along_weaker (R s) (T s) s x.calls (λ u r. f s u is r) (x.each s is);
}

-- ---- Near

pub near_itself : (A : ℕ → Bool) (s : DiskState) → Near A s s
near_itself A s = record { now = λ i out. refl; pending = λ i out none. none }

pub near_joins : (A : ℕ → Bool) (s t u : DiskState) → Near A s t → Near A t u → Near A s u
near_joins A s t u x y = record {
  now = λ i out. y.now i out ∙ x.now i out;
  pending = λ i out none. y.pending i out (x.pending i out none);
}

other : (A : ℕ → Bool) (at i : ℕ) → A at ≡ true → A i ≡ false → (i == at) ≡ false
other A at i hit miss = by (i == at) refl
  where
    by : (v : Bool) → (i == at) ≡ v → v ≡ false
    by true e = absurd (true≢false (sym hit ∙ ap A (sym (eqb-true i at e)) ∙ miss))
    by false e = refl

pub near_write : (A : ℕ → Bool) (s : DiskState) (at : ℕ) (b : Block) → A at ≡ true → Near A s (wrote s at b)
near_write A s at b hit = record {
  now = λ i out. ap (λ v. cond v b (s.now i)) (other A at i hit out);
  pending = λ i out none. ap (λ v. cond v true (s.pending i)) (other A at i hit out) ∙ none;
}

pub near_sync : (A : ℕ → Bool) (s : DiskState) (ok : Bool) → Near A s (stepped s (Synced ok))
near_sync A s true = record { now = λ i out. refl; pending = λ i out none. refl }
near_sync A s false = near_itself A s

-- ---- the calls of a disk, from their clauses

pub write_near : {old new : DiskView} {ok : Bool} {at : ℕ} {b : Block} (A : ℕ → Bool) → Notes old new ok (Wrote at b) → old.faults ≤ new.faults → A at ≡ true → Moves old new 1 (Near A)
write_near {old} {new} {ok} {at} {b} A n later hit = one_call old new ok (Wrote at b) (Near A) n later (λ s is. near_write A s at b hit)

pub sync_near : {old new : DiskView} {ok done : Bool} (A : ℕ → Bool) → Notes old new ok (Synced done) → old.faults ≤ new.faults → Moves old new 1 (Near A)
sync_near {old} {new} {ok} {done} A n later = one_call old new ok (Synced done) (Near A) n later (λ s is. near_sync A s done)

pub near_run : {a b c : DiskView} {m n : ℕ} (A : ℕ → Bool) → Moves a b m (Near A) → Moves b c n (Near A) → ((s t : DiskState) → IsAt a.past s → IsAt b.past t → Near A s t) → Moves a c (m + n) (Near A)
near_run A x y mid = joins (Near A) x y (λ s u is near. near) (λ s t u is at near. near_joins A s t u (mid s t is at) near)

along_last : (A : ℕ → Bool) (s : DiskState) (cs : List Call) → Along (Near A s) s cs → Near A s (after_calls s cs)
along_last A s cs all = last s s cs (near_itself A s) all
  where
    last : (o s : DiskState) (cs : List Call) → Near A o s → Along (Near A o) s cs → Near A o (after_calls s cs)
    last o s [] here all = here
    last o s (c ∷ cs) here all = last o (stepped s c) cs all.0 all.1

-- a run near A ends near A
pub near_end : {old new : DiskView} {most : ℕ} (A : ℕ → Bool) → Moves old new most (Near A) → MovesBy old new (Near A)
near_end A m s t is at = subst (Near A s) (sym (then_at m s t is at)) (along_last A s m.calls (m.each s is))

pub near_then : {a b c : DiskView} {m n : ℕ} (A : ℕ → Bool) → Moves a b m (Near A) → Moves b c n (Near A) → Moves a c (m + n) (Near A)
near_then A x y = near_run A x y (near_end A x)

-- a call that went well leads to the next state
pub step_at : {old new : DiskView} {call : Call} → Notes old new true call → (s : DiskState) → IsAt old.past s → IsAt new.past (stepped s call)
step_at {old} {new} {call} n s is = by n.past
  where
    by : (new.past ≡ adding (call ∷ []) old.past) ⊎ ((new.past ≡ old.past) × IsFalse true) → IsAt new.past (stepped s call)
    by (inl made) = subst (λ p. IsAt p (stepped s call)) (sym made) (at_added old.past s (call ∷ []) is)
    by (inr none) = absurd (true≢false none.1)

pub near_wider : (A B : ℕ → Bool) (s u : DiskState) → ((i : ℕ) → B i ≡ false → A i ≡ false) → Near A s u → Near B s u
near_wider A B s u sub near = record { now = λ i out. near.now i (sub i out); pending = λ i out none. near.pending i (sub i out) none }

pub moves_wider : {a b : DiskView} {m : ℕ} {A : ℕ → Bool} (n : ℕ) (B : ℕ → Bool) → Moves a b m (Near A) → m ≤ n → ((i : ℕ) → B i ≡ false → A i ≡ false) → Moves a b n (Near B)
moves_wider {a} {b} {m} {A} n B x le sub = weaker n (Near B) x le (λ s u is near. near_wider A B s u sub near)
