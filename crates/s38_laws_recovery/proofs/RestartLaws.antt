-- A content that has the pages of what can restart is restarted to it, without a fault.
use Rattle.std.proofs.Common.{◌≡◌, ◌∙◌, ℕ, Bool, true, false, cond, not, List, Option, Some, None, map, refl, ap}
use Rattle.std.proofs.lemmas.Map.Keys.{sorted_from_strictly_increasing}
use Rattle.std.specs.List.{AllByRecursion}
use Rattle.std.specs.Option.{unwrap_or}
use Rattle.std.specs.Prelude.{◌&&◌, is_some}
use Rattle.s38_base.specs.Limits.{body_limit}
use Rattle.s38_base.specs.declared.id.Kind.TheVariants as kinds
use Rattle.s38_laws_commits.proofs.BeginLaws.{restarts_to}
use Rattle.s38_durable_state.specs.Durable.{Durable, kept}
use Rattle.s38_durable_state.specs.Represents.{Represents}
use Rattle.s38_restart.specs.catalog.Groups.{parts_of_number}
use Rattle.s38_restart.specs.catalog.Readings.{all_sound}
use Rattle.s38_restart.specs.catalog.Stores.{ceiling_of, first_fault, objects_stored_in}
use Rattle.s38_image.specs.Faults.{Group, ceiling_in, first_fault_by, first_fault_of, first_under, group_is_on_disk, has_first_user, header_is_of_other_kind, header_of_group, store_fault}
use Rattle.s38_image.specs.PartPlaces.{ceiling_key}
use Rattle.s38_image.specs.declared.stored.Stored.{Stored}
use Rattle.s38_laws_flush.specs.durable.Kept.{HasParts}
use Rattle.s38_restart.specs.Parts.{all_parts}
use Rattle.s38_restart.specs.Restarted.{number_in_stored}
use Rattle.s38_rules.specs.families.Profiles.{officer}
use Rattle.s38_vault.specs.Content.{Content}
use Rattle.s38_flush.specs.Leftovers.{RepresentsUpToOrphans}
use Rattle.s38_laws_recovery.specs.Restarts.{RestartsTo}
use Rattle.s38_laws_recovery.specs.Restarting.{CanRestart, is_kind_kept, is_kind_or_none}
use Rattle.s38_laws_recovery.proofs.CeilingLaws.{ceiling_again}
use Rattle.s38_laws_recovery.proofs.FaultLaws.{all_read, disk_found, none_first, other_found}
use Rattle.s38_laws_recovery.proofs.GroupLaws.{ceiling_kept, groups_kept, groups_same}
use Rattle.s38_laws_recovery.proofs.NumberLaws.{IsKeptIn, each_kept}

-- a content that represents all that is durable has the pages of it
pub all_pages : (m : Content) (d : Durable) → Represents m d → RepresentsUpToOrphans m d
all_pages m d stands = record { each = λ key low own. stands.each key low }

none_under : (gs : List Group) (limit ceiling : ℕ) → group_is_on_disk gs 1 ≡ true → has_first_user gs ≡ true → first_fault_of gs limit ceiling gs ≡ None → first_under gs limit ceiling ≡ None
none_under gs limit ceiling one two none =
    ap (λ b. cond (not b) (Some (1, 0)) (cond (not (has_first_user gs)) (Some (2, 0)) (first_fault_of gs limit ceiling gs))) one
    ∙ ap (λ b. cond (not b) (Some (2, 0)) (first_fault_of gs limit ceiling gs)) two
    ∙ none

some_kept : (r : Option Stored) → is_kind_kept kinds.Profile r ≡ true → is_some r ≡ true
some_kept None is = is
some_kept (Some x) is = refl

no_other : (r : Option Stored) → is_kind_kept kinds.Profile r ≡ true → is_kind_or_none kinds.Profile r ≡ true
no_other None is = refl
no_other (Some x) is = is

both_true : (a b : Bool) → a ≡ true → b ≡ true → (a && b) ≡ true
both_true true true a b = refl
both_true true false a b = b
both_true false b h k = h

module _ (m : Content) (d : Durable) (low : HasParts m) (pages : RepresentsUpToOrphans m d) (can : CanRestart d) where
  each : AllByRecursion (IsKeptIn d.objects) d.objects
  each = each_kept d.objects (sorted_from_strictly_increasing (map number_in_stored d.objects) can.rising)

  read_ceiling : ceiling_in (parts_of_number ceiling_key (all_parts m)) ≡ Some d.ceiling
  read_ceiling = ap ceiling_in (ceiling_kept m d low pages can) ∙ ceiling_again d.ceiling can.ceiling

  pub ceiling_same : ceiling_of (all_parts m) ≡ d.ceiling
  ceiling_same = ap (λ (r : Option ℕ). unwrap_or r 0) read_ceiling

  user_found : has_first_user (groups_kept d) ≡ true
  user_found =
      both_true (group_is_on_disk (groups_kept d) 2) (not (header_is_of_other_kind kinds.Profile (header_of_group (groups_kept d) 2)))
      (disk_found 2 d.objects ∙ some_kept (kept d.objects 2) can.first_user)
      (ap not (other_found d can kinds.Profile 2 (no_other (kept d.objects 2) can.first_user)))

  pub none_at_fault : first_fault body_limit (all_parts m) ≡ None
  unfolding store_fault
  none_at_fault =
      ap (λ (gs : List Group). first_fault_by gs body_limit (ceiling_in (parts_of_number ceiling_key (all_parts m)))) (groups_same m d low pages can)
      ∙ ap (first_fault_by (groups_kept d) body_limit) read_ceiling
      ∙ none_under (groups_kept d) body_limit d.ceiling (disk_found 1 d.objects ∙ can.machine) user_found (none_first d can each d.objects each)

  pub objects_same : objects_stored_in body_limit (all_parts m) ≡ d.objects
  objects_same =
      ap (λ (gs : List Group). all_sound gs body_limit (ceiling_of (all_parts m))) (groups_same m d low pages can)
      ∙ ap (all_sound (groups_kept d) body_limit) ceiling_same ∙ all_read d can each d.objects each

  -- the security officer is read as a user
  pub user_read : is_kind_kept kinds.Profile (kept (objects_stored_in body_limit (all_parts m)) officer) ≡ true
  user_read = ap (λ (xs : List Stored). is_kind_kept kinds.Profile (kept xs officer)) objects_same ∙ can.first_user

  -- it restarts to that
  pub restarts_there : RestartsTo m d
  restarts_there = record {
    stands = pages;
    faultless = none_at_fault;
    objects = objects_same;
    ceiling = ceiling_same;
    restarted = restarts_to body_limit (all_parts m) d objects_same ceiling_same;
  }
