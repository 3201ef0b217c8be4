-- What is durable at each moment of a run can be read again, so that what a crash leaves restarts.
use Rattle.std.proofs.Common.{List, [], ℕ, ◌++◌, ◌∷◌, ◌≡◌, ◌≤◌}
use Rattle.s38_code.specs.declared.entry.Entry.{Entry}
use Rattle.s38_durable_state.specs.Durable.{Durable, after_reply, durable}
use Rattle.s38_laws_flush.proofs.durable.KeepLaws.{DurableLaws}
use Rattle.s38_laws_flush.specs.durable.Crashes.{IsKeptPrefix, answered}
use Rattle.s38_laws_flush.specs.durable.Kept.{AreImages}
use Rattle.s38_laws_flush.specs.puts.OnePut.{BodiesAreShort}
use Rattle.s38_laws_recovery.proofs.CrashLaws.{leads_answered, left_prefix}
use Rattle.s38_laws_recovery.specs.Restartable.{AllImages}
use Rattle.s38_rules.specs.step.Legal.{IsSound}
use Rattle.s38_rules.specs.state.State.{State}
use Rattle.s38_rules.specs.step.Step.{step}
use Rattle.s38_vault.specs.Content.{Content}
use Rattle.s38_vault.specs.Vaults.{VaultView, most_changes}
use Rattle.s38_durable_machine.specs.Seen.{StoredView, run_of}
use Rattle.s38_durable_machine.specs.Sound.{CanBeStored, HoldsWhile, IsKeptFrom, IsOf}
use Rattle.s38_durable_machine.proofs.StateLaws.{stored_order}

-- after the last entry
pub last_images : (d : Durable) (s : State) (entries : List Entry) → AllImages d s entries → AreImages (durable d s entries)
last_images d s [] all = all
last_images d s (e ∷ es) all = last_images (after_reply d s e e.reply) (step s e.process e.event).state es all.1

-- and after one entry more
pub more_images : (d : Durable) (s : State) (entries : List Entry) (e : Entry) → AllImages d s entries → AreImages (durable d s (entries ++ e ∷ [])) → AllImages d s (entries ++ e ∷ [])
more_images d s [] e all last = (all, last)
more_images d s (x ∷ xs) e all last = (all.0, more_images (after_reply d s x x.reply) (step s x.process x.event).state xs e all.1 last)

-- ---- what is said of a run that began as this was durable

module _ {V : Type 0} (view : V → VaultView) (holds : V → Content → Type 0) (leaves : V → ℕ → Content → Type 0) (laws : DurableLaws) (x : StoredView V) (c : Content) (d : Durable) where
  abbrev s : State
  s = x.machine.origin

  abbrev Leaves : Type 0
  Leaves = (view x.first).shape.most ≡ most_changes → (t : ℕ) (n : Content) → (view x.first).moment ≤ t → t ≤ (view x.vault).moment → leaves x.vault t n → IsKeptPrefix d s x.machine.history (run_of x).marks t n

  -- what a crash leaves restarts
  pub kept_from : IsSound x.machine → CanBeStored s → IsOf c d s → HoldsWhile holds x.ending x.vault (durable d s x.machine.history) → BodiesAreShort (durable d s x.machine.history) → AllImages d s x.machine.history
      → Leaves → IsKeptFrom view holds leaves x d
  kept_from sound can of now short images crash = record {
    now = now;
    short = short;
    images = images;
    crash = crash;
    restarts = λ most t n low high left parts.
        left_prefix laws n d s x.machine.history (answered t (run_of x).marks) of.kept of.trail of.restartable (leads_answered s [] x.machine.history x.machine.state sound.legal)
        (stored_order s x.machine.history can) images parts (crash most t n low high left);
  }
