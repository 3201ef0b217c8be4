-- Nothing is wrong with a store that restarts.
use Rattle.std.proofs.Common.{◌≡◌, ◌⊎◌, ◌||◌, ◌==◌, ℕ, zero, suc, ◌<◌, Bool, true, false, List, [], ◌∷◌, inl, inr, take, None, Some, ◌+◌, refl, sym, ◌∙◌, ap, arith}
use Rattle.std.proofs.lemmas.Bool.{true≢false}
use Rattle.s38_base.specs.Limits.{body_limit}
use Rattle.s38_redo_log.specs.Store.{AreHomes, IsLog, log_count, log_of, targets}
use Rattle.s38_redo_log.specs.declared.layout.Layout.{Layout}
use Rattle.s38_redo_log.specs.declared.layout.Slot.{Slot}
use Rattle.s38_disk.specs.declared.block.Block.{Block}
use Rattle.s38_restart.specs.catalog.Stores.{first_fault}
use Rattle.s38_pages.proofs.Entries.{log_length}
use Rattle.s38_pages.proofs.VaultLemmas.{recovers_to_one}
use Rattle.s38_pages.specs.Mounts.{IsDamaged, layout_of}
use Rattle.s38_restart.specs.Parts.{all_parts}
use Rattle.s38_rules.specs.state.Held.{Held}
use Rattle.s38_store_file.specs.Refusals.{IsBad, IsRefusal}
use Rattle.s38_store_file.specs.Stores.{Restarts}
use Rattle.s38_store_file.specs.declared.fault.BadStore.{BadStore}
use Rattle.s38_store_file.specs.declared.fault.BadStore.TheVariants as bad
use Rattle.s38_store_file.specs.declared.fault.StoreRefusal.{StoreRefusal}
use Rattle.s38_store_file.specs.declared.fault.StoreRefusal.TheVariants as refusals
use Rattle.s38_vault.specs.Content.{Content}

neither : (a b : Bool) → (a || b) ≡ false → b ≡ false
neither true b e = absurd (cc)
neither false b e = e

first_false : (a b : Bool) → (a || b) ≡ false → a ≡ false
first_false true b e = absurd (cc)
first_false false b e = refl

-- the first entries of a log are as all of them
no_target : (n : ℕ) (es : List Slot) (i : ℕ) → targets es i ≡ false → targets (take n es) i ≡ false
no_target zero es i h = refl
no_target (suc n) [] i h = refl
no_target (suc n) (e ∷ es) i h =
    ap (λ (b : Bool). b || targets (take n es) i) (first_false (i == e.home) (targets es i) h) ∙ no_target n es i (neither (i == e.home) (targets es i) h)

homes_first : (lay : Layout) (n : ℕ) (es : List Slot) → AreHomes lay es → AreHomes lay (take n es)
homes_first lay zero es h = tt
homes_first lay (suc n) [] h = tt
homes_first lay (suc n) (e ∷ es) h = (h.0, no_target n es e.home h.1, homes_first lay n es h.2)

-- a log that is whole has no damage
not_damaged : (lay : Layout) (f : ℕ → Block) (block : ℕ) → IsLog lay (log_of f) → IsDamaged lay f block → ⊥
not_damaged lay f block log (inl count) = by count.0
  where
    by : (log_count f ≡ 0) ⊎ (lay.most < log_count f) → ⊥
    by (inl none) = omega (arith, log.some, log_length f, none)
    by (inr more) = omega (arith, log.most, log_length f, more)
not_damaged lay f block log (inr d) = d.2.3 (homes_first lay (d.2.0 + 1) (log_of f) log.homes)

not_bad : (size : ℕ) (f : ℕ → Block) (h : Held) → Restarts size f h → (b : BadStore) → IsBad size f b → ⊥
not_bad size f h r (bad.TooSmall blocks) x = omega (arith, r.large, x.1)
not_bad size f h r bad.NotInstalled x = true≢false (sym r.stands.label ∙ x.1)
not_bad size f h r bad.AlreadyInstalled x = x
not_bad size f h r (bad.LogDamaged block) x = not_damaged (layout_of size) f block (r.stands.log x.2).1 x.3
not_bad size f h r (bad.TwoBlocks first second) x =
    let twins = x.3 in
    let same = r.stands.holds.once first second twins.first_home twins.second_home twins.first_used twins.second_used twins.one_key in
    omega (arith, twins.order, same)
not_bad size f h r (bad.BadImage object part) x =
    let one = recovers_to_one (layout_of size) f r.content x.content r.stands x.stands in
    none (object, part) (sym r.objects.sound ∙ ap (λ (m : Content). first_fault body_limit (all_parts m)) one ∙ x.first)
  where
    none : (p : ℕ × ℕ) → None ≡ Some p → ⊥
    none p e = cc

pub opened_unless : (size : ℕ) (f : ℕ → Block) (h : Held) → Restarts size f h → (refusal : StoreRefusal) → IsRefusal size f refusal → (refusal ≡ refusals.Failed) ⊎ (refusal ≡ refusals.NoMemory)
opened_unless size f h r (refusals.Bad b) x = absurd (not_bad size f h r b x)
opened_unless size f h r refusals.Failed x = inl refl
opened_unless size f h r refusals.NoMemory x = inr refl
