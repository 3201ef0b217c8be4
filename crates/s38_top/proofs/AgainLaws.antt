-- What a crash leaves of a run over a store restarts.
use Rattle.std.proofs.Common.{◌≡◌, ◌≤◌, ◌+◌, ℕ, inl, inr, List, [], refl, take}
use Rattle.std.proofs.lemmas.List.Elements.{All-weaker}
use Rattle.std.specs.Prelude.{All, None}
use Rattle.s38_base.specs.Limits.{body_limit}
use Rattle.s38_redo_log.specs.Store.{RecoversTo}
use Rattle.s38_laws_checkpoint.specs.puts.Ending.{IsClosedTo}
use Rattle.s38_code.specs.declared.entry.Entry.{Entry}
use Rattle.s38_disk.specs.declared.block.Block.{Block}
use Rattle.s38_durable_state.specs.Durable.{Durable, closed, durable}
use Rattle.s38_restart.specs.catalog.Stores.{first_fault}
use Rattle.s38_image_writer.specs.Parts.{CanSettle}
use Rattle.s38_laws_flush.specs.durable.Crashes.{answered}
use Rattle.s38_laws_flush.specs.durable.Kept.{AreImages, HasParts, IsKeptOf}
use Rattle.s38_laws_images.specs.openings.Bodies.{HoldsBody}
use Rattle.s38_pages.specs.Mounts.{fewest, layout_of}
use Rattle.s38_laws_flush.specs.puts.Trails.{IsTrailOf}
use Rattle.s38_laws_images.specs.readable.Readable.{IsAgain, IsFit, IsReadable}
use Rattle.s38_restart.specs.Parts.{all_parts}
use Rattle.s38_restart.specs.Restarted.{restarted}
use Rattle.s38_laws_recovery.specs.Restartable.{IsRestartable}
use Rattle.s38_laws_recovery.specs.Restarts.{IsRestartedPrefix, RestartsBetween, RestartsTo, next_number_after}
use Rattle.s38_rules.specs.step.Legal.{Leads}
use Rattle.s38_rules.specs.state.State.{State}
use Rattle.s38_laws_state.specs.Order.{AreInOrder}
use Rattle.s38_store_file.specs.Stores.{Restarts}
use Rattle.s38_vault.specs.Content.{Content}
use Rattle.s38_top.specs.Closing.{RestartLaws}
use Rattle.s38_top.specs.Crash.{RestartsAgain}
use Rattle.s38_top.specs.Runs.{all_durable_of}
use Rattle.s38_rules.specs.step.Histories.{state_after}

-- what is kept of a state can be read again, where each object is
pub kept_images : (e : State) → ((s : State) → All (HoldsBody body_limit) s.held.objects → All (λ o. CanSettle s.units o.number.0 o.body) s.held.objects → All IsReadable s.held.objects → AreImages (all_durable_of s))
    → All IsFit e.held.objects → All (λ o. CanSettle e.units o.number.0 o.body) e.held.objects → All IsAgain e.held.objects → AreImages (all_durable_of e)
kept_images e law fit settles again = law e (All-weaker IsFit (HoldsBody body_limit) (λ o is. is.limits) e.held.objects fit) settles (All-weaker IsAgain IsReadable (λ o is. is.0) e.held.objects again)

-- whichever it restarts to, it has no fault
faultless_between : (m : Content) (old : Durable) (s : State) (new : Durable) → RestartsBetween m old s new → first_fault body_limit (all_parts m) ≡ None
faultless_between m old s new (inl is) = is.faultless
faultless_between m old s new (inr (inl is)) = is.faultless
faultless_between m old s new (inr (inr is)) = is.faultless

faultless_prefix : (d : Durable) (s : State) (entries : List Entry) (marks : List ℕ) (t : ℕ) (n : Content) → IsRestartedPrefix d s entries marks t n → first_fault body_limit (all_parts n) ≡ None
faultless_prefix d s entries marks t n is =
    faultless_between n (durable d s (take (answered t marks) entries)) (state_after s (take (answered t marks + 1) entries)) (durable d s (take (answered t marks + 1) entries)) is

restarts_over : (size : ℕ) (g : ℕ → Block) (n : Content) → fewest ≤ size → RecoversTo (layout_of size) g n → first_fault body_limit (all_parts n) ≡ None → Restarts size g (restarted body_limit (all_parts n))
restarts_over size g n large stands sound = record { large = large; content = n; stands = stands; objects = record { sound = sound; is = refl } }

module _ (laws : RestartLaws) (size : ℕ) (g : ℕ → Block) (n : Content) (large : fewest ≤ size) (stands : RecoversTo (layout_of size) g n) where
  -- while the run is made
  pub left_again : (d : Durable) (s : State) (history : List Entry) (end : State) (marks : List ℕ) (t : ℕ) → Leads s [] history end → IsKeptOf s d → IsTrailOf s d → IsRestartable s d → IsRestartedPrefix d s history marks t n
      → RestartsAgain size g n (IsRestartedPrefix d s history marks t n) (next_number_after s history (answered t marks))
  left_again d s history end marks t leads is trail ready to = record {
    store = restarts_over size g n large stands (faultless_prefix d s history marks t n to);
    to = to;
    numbers = laws.numbers n d s history (answered t marks) is trail ready (laws.replies s [] history end leads) to;
  }

  -- during the checkpoint
  pub closed_again : (e : State) (d : Durable) (to : IsClosedTo e d n) → IsKeptOf e d → IsTrailOf e d → AreInOrder e → IsRestartable e d → AreImages d → AreImages (all_durable_of e) → HasParts n
      → RestartsAgain size g n (RestartsTo n (closed d e to.gone)) e.held.next
  closed_again e d to is trail order ready images whole parts =
      let again = laws.closed_to e d to.gone to.rest n is trail order ready images whole to.all parts to.stands in
      record {
        store = restarts_over size g n large stands again.faultless;
        to = again;
        numbers = laws.closed_numbers e d to.gone to.rest n is to.all again;
      }
