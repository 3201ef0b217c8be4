-- A machine that has begun over a vault is sound.
use Rattle.std.proofs.Common.{◌≡◌, ℕ, refl, sym, subst, arith}
use Rattle.s38_durable_state.specs.Represents.{Represents}
use Rattle.s38_laws_flush.proofs.durable.CrashLaws.{begins_left}
use Rattle.s38_laws_flush.proofs.durable.KeepLaws.{DurableLaws}
use Rattle.s38_rules.proofs.Laws.{sound_begun}
use Rattle.s38_rules.specs.step.Legal.{Run, begun}
use Rattle.s38_rules.specs.state.State.{State}
use Rattle.s38_vault.specs.Content.{Content}
use Rattle.s38_vault.specs.Vaults.{VaultView}
use Rattle.s38_durable_machine.specs.Sound.{CanBeStored, IsSoundOver}
use Rattle.s38_durable_machine.specs.Seen.{StoredView}
use Rattle.s38_durable_machine.specs.declared.ending.Ending.TheVariants.{Going}
use Rattle.s38_durable_machine.proofs.RestartLaws.{kept_from}

pub begun_sound : {V : Type 0} (view : V → VaultView) (holds : V → Content → Type 0) (leaves : V → ℕ → Content → Type 0) → DurableLaws → (v : V) (s : State) (m : Run) → m ≡ begun (view v).moment s → CanBeStored s
    → ((c n : Content) → holds v c → leaves v (view v).moment n → n ≡ c) → IsSoundOver view holds leaves (record { machine = m; vault = v; first = v; ending = Going })
begun_sound {V} view holds leaves laws v s m is can present =
    let x : StoredView V = record { machine = begun (view v).moment s; vault = v; first = v; ending = Going } in
    subst (λ (r : Run). IsSoundOver view holds leaves (record { machine = r; vault = v; first = v; ending = Going })) (sym is) (record {
      sound = sound_begun (view v).moment s;
      origin = can;
      state = can;
      first = refl;
      moment = omega arith;
      ending = (refl, refl);
      shape = refl;
      present = present;
      past = λ t c low. (λ h. h, λ h. h);
      kept = λ c d held of.
          kept_from view holds leaves laws x c d (sound_begun (view v).moment s) can of (record { content = c; held = held; stands = of.stands; headers = of.headers }) of.short of.images
          (λ most t n low high left.
          let at : t ≡ (view v).moment = omega (arith, low, high) in
          let same : n ≡ c = present c n held (subst (λ (k : ℕ). leaves v k n) at left) in
          begins_left d s t n (subst (λ (k : Content). Represents k d) (sym same) of.stands));
    })
