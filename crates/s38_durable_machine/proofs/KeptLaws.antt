-- What is said of a vault after a step that was kept, or not.
use Rattle.std.proofs.Common.{◌≡◌, ◌∙◌, ◌⊎◌, inl, inr, ℕ, ◌<◌, ◌≤◌, true, List, length, refl, sym, arith}
use Rattle.std.specs.FinMap.{get}
use Rattle.std.specs.Prelude.{◌↔◌, Result, Ok, Err, OnOk, Some}
use Rattle.s38_base.specs.Faults.{HasCauseOf, Rose}
use Rattle.s38_commits.specs.Units.{UnitMap}
use Rattle.s38_durable_state.specs.Durable.{Durable, durable_after}
use Rattle.s38_durable_state.specs.Represents.{Represents}
use Rattle.s38_laws_flush.specs.durable.Crashes.{RepresentsBetween}
use Rattle.s38_laws_objects.specs.Outline.{is_forced}
use Rattle.s38_laws_images.specs.readable.Readable.{IsAgain}
use Rattle.s38_rules.specs.store.Forcing.{Forced}
use Rattle.s38_rules.specs.state.Held.{Held, object}
use Rattle.s38_rules.specs.state.State.{State}
use Rattle.s38_rules.specs.declared.object.Object.{Object}
use Rattle.s38_flush.specs.Leftovers.{RepresentsUpToOrphans, first_changes}
use Rattle.s38_flush.specs.Stepping.{HaveHeaders, IsDue, Precedes, object_changes, put_forced, raised}
use Rattle.s38_page_diff.specs.declared.fault.FlushFault.{FlushFault}
use Rattle.s38_page_diff.specs.declared.fault.FlushFault.TheVariants as fails
use Rattle.s38_vault.specs.Content.{Content}
use Rattle.s38_vault.specs.Vaults.{VaultView}
use Rattle.s38_durable_machine.specs.Keeping.{KeepsStep, ending_of}
use Rattle.s38_durable_machine.specs.declared.ending.Ending.{Ending}
use Rattle.s38_durable_machine.specs.declared.ending.Ending.TheVariants.{Going, Stopped, Wanting}

Going_Stopped : Stopped ≡ Going → ⊥
Going_Stopped h = cc

Wanting_Going : Wanting ≡ Going → ⊥
Wanting_Going h = cc

Wanting_Stopped : Wanting ≡ Stopped → ⊥
Wanting_Stopped h = cc

Going_is_not : Going ≡ Stopped → ⊥
Going_is_not h = cc

-- the machine goes on where all was kept, and stopped where the vault failed
went_on : {P : Type 0} (r : Result (Unit {0}) FlushFault) → OnOk r P → ending_of r ≡ Going → P
went_on (Ok done) is h = is
went_on (Err fails.Failed) is h = absurd (Going_Stopped h)
went_on (Err (fails.Full needed free)) is h = absurd (Wanting_Going h)
went_on (Err (fails.BadHeader object)) is h = absurd (Wanting_Going h)
went_on (Err fails.NoMemory) is h = absurd (Wanting_Going h)

failed_by : (before now : ℕ) (r : Result (Unit {0}) FlushFault) → HasCauseOf before now r fails.Failed → ending_of r ≡ Stopped → Rose before now
failed_by before now (Ok done) cause h = absurd (Going_is_not h)
failed_by before now (Err fails.Failed) cause h = cause.failed refl
failed_by before now (Err (fails.Full needed free)) cause h = absurd (Wanting_Stopped h)
failed_by before now (Err (fails.BadHeader object)) cause h = absurd (Wanting_Stopped h)
failed_by before now (Err fails.NoMemory) cause h = absurd (Wanting_Stopped h)

between_but : (n : Content) (d : Durable) (s : State) (new : Durable) → Represents n d ⊎ (Represents n (raised d s) ⊎ RepresentsUpToOrphans n new) → RepresentsBetween n d s new
between_but n d s new (inl x) = inl (record { each = λ key part belongs. x.each key part })
between_but n d s new (inr (inl x)) = inr (inl (record { each = λ key part belongs. x.each key part }))
between_but n d s new (inr (inr x)) = inr (inr x)

pub keeps_step : {V : Type 0} (view : V → VaultView) (holds : V → Content → Type 0) (leaves : V → ℕ → Content → Type 0) (old new : V) (h : Held) (us : UnitMap) (all : List Forced) (r : Result (Unit {0}) FlushFault) (ending : Ending) → ending ≡ ending_of r
    → ((n : ℕ) (o : Object) → is_forced n all ≡ true → object h n ≡ Some o → IsAgain o)
    → OnOk r ((m n : Content) (d : Durable) (s : State) → holds old m → holds new n → Precedes h us m d s → IsDue all d s → Represents n (durable_after all d s))
    → OnOk r ((m : Content) (d : Durable) (s : State) → holds old m → Precedes h us m d s → holds new (put_forced all m (durable_after all d s)))
    → OnOk r ((m : Content) (d : Durable) (s : State) → holds old m → Precedes h us m d s → IsDue all d s → HaveHeaders (durable_after all d s))
    → ((m : Content) (d : Durable) (s : State) → holds old m → Precedes h us m d s → IsDue all d s → length (first_changes (view old).shape.most (durable_after all d s) (object_changes all (get m) (durable_after all d s))) ≤ (view old).shape.most
    → (t : ℕ) (n : Content) → (view old).moment < t → t ≤ (view new).moment → leaves new t n → Represents n d ⊎ (Represents n (raised d s) ⊎ RepresentsUpToOrphans n (durable_after all d s)))
    → ((m : Content) (d : Durable) (s : State) → holds old m → Precedes h us m d s → IsDue all d s → (view old).moment < (view new).moment → HaveHeaders (durable_after all d s))
    → ((m n : Content) → holds old m → holds old n → m ≡ n) → ((m n : Content) → holds new m → leaves new (view new).moment n → n ≡ m)
    → ((t : ℕ) (m : Content) → t ≤ (view old).moment → leaves old t m ↔ leaves new t m) → (view old).moment ≤ (view new).moment → (view new).shape ≡ (view old).shape
    → HasCauseOf (view old).faults (view new).faults r fails.Failed → OnOk r ((view new).faults ≡ (view old).faults) → KeepsStep view holds leaves old new h us all ending
keeps_step view holds leaves old new h us all r ending is again stands held headers once moved one present past later shape cause count = record {
  again = again;
  kept = λ goes m d s holds_old precedes due.
      let ok = is_ok goes in
      let put = went_on r held ok m d s holds_old precedes in
      record { content = put_forced all m (durable_after all d s); held = put; stands = went_on r stands ok m (put_forced all m (durable_after all d s)) d s holds_old put precedes due; headers = went_on r headers ok m d s holds_old precedes due };
  put = λ goes m d s holds_old precedes. went_on r held (is_ok goes) m d s holds_old precedes;
  one = one;
  during = λ m d s holds_old precedes due fits t n low high left.
      between_but n d s (durable_after all d s) (once m d s holds_old precedes due (fits (moved m d s holds_old precedes due (omega (arith, low, high)))) t n low high left);
  present = present;
  past = past;
  later = later;
  shape = shape;
  failed = λ stopped. failed_by (view old).faults (view new).faults r cause (sym is ∙ stopped);
  count = λ goes. went_on r count (is_ok goes);
}
  where
    is_ok : ending ≡ Going → ending_of r ≡ Going
    is_ok goes = sym is ∙ goes
