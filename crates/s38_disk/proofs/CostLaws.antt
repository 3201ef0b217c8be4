-- What runs of calls cost: one call, and one run after another.
use Rattle.std.proofs.Common.{◌≡◌, ◌⊎◌, ℕ, ◌+◌, ◌≤◌, Bool, List, [], ◌∷◌, ◌++◌, IsFalse, ◌∙◌, ap, arith, inl, inr}
use Rattle.s38_disk.specs.declared.block.Block.{Block}
use Rattle.s38_disk.specs.declared.block.Call.{Call}
use Rattle.s38_disk.specs.declared.block.Call.TheVariants.{Wrote, Synced}
use Rattle.s38_disk.specs.Disk.{DiskView, Notes, adding}
use Rattle.s38_disk.specs.Costs.{Costs, count_syncs, count_writes}
use Rattle.s38_disk.proofs.Runs.{adding-append, adding-nil}

writes-append : (xs ys : List Call) → count_writes (xs ++ ys) ≡ count_writes xs + count_writes ys
writes-append [] ys = omega arith
writes-append (Wrote at block ∷ xs) ys = let rest = writes-append xs ys in omega (arith, rest)
writes-append (Synced good ∷ xs) ys = writes-append xs ys

syncs-append : (xs ys : List Call) → count_syncs (xs ++ ys) ≡ count_syncs xs + count_syncs ys
syncs-append [] ys = omega arith
syncs-append (Wrote at block ∷ xs) ys = syncs-append xs ys
syncs-append (Synced good ∷ xs) ys = let rest = syncs-append xs ys in omega (arith, rest)

-- no call
pub costs_nothing : {old new : DiskView} (writes syncs : ℕ) → new.past ≡ old.past → Costs old new writes syncs
costs_nothing {old} writes syncs same = record { calls = []; past = same ∙ adding-nil old.past; few_writes = omega arith; few_syncs = omega arith }

-- a call that writes
pub costs_write : {old new : DiskView} {ok : Bool} {at : ℕ} {block : Block} → Notes old new ok (Wrote at block) → Costs old new 1 0
costs_write {old} {new} {ok} {at} {block} n = by n.past
  where
    by : (new.past ≡ adding (Wrote at block ∷ []) old.past) ⊎ ((new.past ≡ old.past) × IsFalse ok) → Costs old new 1 0
    by (inl made) = record { calls = Wrote at block ∷ []; past = made; few_writes = omega arith; few_syncs = omega arith }
    by (inr none) = costs_nothing 1 0 none.0

-- a call that syncs
pub costs_sync : {old new : DiskView} {ok good : Bool} → Notes old new ok (Synced good) → Costs old new 0 1
costs_sync {old} {new} {ok} {good} n = by n.past
  where
    by : (new.past ≡ adding (Synced good ∷ []) old.past) ⊎ ((new.past ≡ old.past) × IsFalse ok) → Costs old new 0 1
    by (inl made) = record { calls = Synced good ∷ []; past = made; few_writes = omega arith; few_syncs = omega arith }
    by (inr none) = costs_nothing 0 1 none.0

-- one run after another
pub costs_then : {a b c : DiskView} {w s v t : ℕ} → Costs a b w s → Costs b c v t → Costs a c (w + v) (s + t)
costs_then {a} x y = record {
  calls = x.calls ++ y.calls;
  past = y.past ∙ ap (λ p. adding y.calls p) x.past ∙ adding-append a.past x.calls y.calls;
  few_writes = let sum = writes-append x.calls y.calls in omega (arith, sum, x.few_writes, y.few_writes);
  few_syncs = let sum = syncs-append x.calls y.calls in omega (arith, sum, x.few_syncs, y.few_syncs);
}

pub costs_within : {a b : DiskView} {w s : ℕ} (writes syncs : ℕ) → Costs a b w s → w ≤ writes → s ≤ syncs → Costs a b writes syncs
costs_within writes syncs x v t = record { calls = x.calls; past = x.past; few_writes = omega (arith, x.few_writes, v); few_syncs = omega (arith, x.few_syncs, t) }
