-- A store that was opened, or refused.
use Rattle.std.proofs.Common.{◌≡◌, ◌<◌, ◌^◌, ℕ, List, Option, Some, None, true, is_some, refl, subst, sym, arith}
use Rattle.std.specs.Prelude.{All, IfSome}
use Rattle.s38_base.specs.Limits.{body_limit}
use Rattle.s38_base.specs.declared.page.Change.{Change}
use Rattle.s38_redo_log.specs.Store.{RecoversTo}
use Rattle.s38_disk.specs.declared.block.Block.{Block}
use Rattle.s38_laws_images.proofs.form.RestartLaws.{restarted_hold}
use Rattle.s38_restart.specs.catalog.Stores.{first_fault}
use Rattle.s38_laws_images.specs.openings.Charges.{total_charge}
use Rattle.s38_laws_images.specs.openings.Opening.{IsOpening}
use Rattle.s38_laws_images.proofs.openings.ChargeLaws.{can_be_kept}
use Rattle.s38_laws_images.proofs.openings.RestartLaws.{restarts}
use Rattle.s38_pages.specs.Mounts.{layout_of}
use Rattle.s38_laws_images.specs.readable.Forms.{HoldsForm}
use Rattle.s38_restart.specs.Faults.{NamesFirst}
use Rattle.s38_restart.specs.Parts.{AreParts, all_parts}
use Rattle.s38_restart.specs.Restarted.{extents_kept, restarted}
use Rattle.s38_restart.specs.declared.fault.RestartFault.{RestartFault}
use Rattle.s38_restart.specs.declared.fault.RestartFault.TheVariants as faults
use Rattle.s38_rules.specs.state.Held.{Held}
use Rattle.s38_rules.specs.state.Kept.{CanBeKept}
use Rattle.s38_rules.specs.store.Room.{Extent}
use Rattle.s38_store_file.specs.Refusals.{IsFaultOf, IsRefusal, of_restart}
use Rattle.s38_store_file.specs.declared.fault.BadStore.TheVariants as bad
use Rattle.s38_store_file.specs.declared.fault.StoreRefusal.{StoreRefusal}
use Rattle.s38_store_file.specs.declared.fault.StoreRefusal.TheVariants as refusals
use Rattle.s38_vault.specs.Content.{Content}

-- where all that users pay for was counted
pub kept_where_counted : (h : Held) → IsOpening h → (r : Option ℕ) → IfSome r (λ t. (t ≡ total_charge h) × (t < 2 ^ 64)) → is_some r ≡ true → CanBeKept h
kept_where_counted h opening None counted is = cc
kept_where_counted h opening (Some t) counted is = can_be_kept h opening (subst (λ n. n < 2 ^ 64) counted.0 counted.1)

-- what was read of a vault, whatever it tells: objects and extents are those of parts without a fault
abbrev pub IsReadOf : Held → List Extent → List Change → Type 0
IsReadOf h xs parts = AreParts parts × ((first_fault body_limit parts ≡ None) × ((h ≡ restarted body_limit parts) × (xs ≡ extents_kept body_limit parts)))

-- what was restarted is an opening
pub opening_of : (h : Held) (xs : List Extent) → (parts : List Change) × IsReadOf h xs parts → IsOpening h
opening_of h xs r = subst IsOpening (sym r.1.1.1.0) (restarts body_limit r.0 (omega arith) r.1.0 r.1.1.0)

-- and its bodies have their form
pub forms_of : (h : Held) (xs : List Extent) → (parts : List Change) × IsReadOf h xs parts → All HoldsForm h.objects
forms_of h xs r = subst (λ (k : Held). All HoldsForm k.objects) (sym r.1.1.1.0) (restarted_hold body_limit r.0 (omega arith) r.1.0 r.1.1.0)

-- the first fault is told
pub fault_of : (m : Content) (fault : RestartFault) (r : StoreRefusal) → r ≡ of_restart fault → NamesFirst (first_fault body_limit (all_parts m)) fault → IsFaultOf m r
fault_of m fault r is names = subst (IsFaultOf m) (sym is) (by_fault fault names)
  where
    by_fault : (f : RestartFault) → NamesFirst (first_fault body_limit (all_parts m)) f → IsFaultOf m (of_restart f)
    by_fault (faults.BadImage object part) n = n
    by_fault faults.Failed n = tt
    by_fault faults.NoMemory n = tt

pub refusal_of : (size : ℕ) (f : ℕ → Block) (m : Content) (r : StoreRefusal) → RecoversTo (layout_of size) f m → IsFaultOf m r → IsRefusal size f r
refusal_of size f m (refusals.Bad (bad.TooSmall blocks)) stands is = absurd is
refusal_of size f m (refusals.Bad bad.NotInstalled) stands is = absurd is
refusal_of size f m (refusals.Bad bad.AlreadyInstalled) stands is = absurd is
refusal_of size f m (refusals.Bad (bad.LogDamaged block)) stands is = absurd is
refusal_of size f m (refusals.Bad (bad.TwoBlocks first second)) stands is = absurd is
refusal_of size f m (refusals.Bad (bad.BadImage object part)) stands is = record { content = m; stands = stands; first = is }
refusal_of size f m refusals.Failed stands is = tt
refusal_of size f m refusals.NoMemory stands is = tt

pub was_failed : (fault : RestartFault) → of_restart fault ≡ refusals.Failed → fault ≡ faults.Failed
was_failed (faults.BadImage object part) e = absurd (cc)
was_failed faults.Failed e = refl
was_failed faults.NoMemory e = absurd (cc)
