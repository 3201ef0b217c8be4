-- The first fault of a store, by its ceiling and its first objects.
use Rattle.std.proofs.Common.{◌≡◌, ℕ, Bool, true, false, cond, not, List, refl, sym, ap}
use Rattle.std.specs.Prelude.{Option, Some, None}
use Rattle.s38_base.specs.declared.page.Change.{Change}
use Rattle.s38_image.specs.Faults.{Group, ceiling_in, first_fault_by, first_fault_of, first_under, group_is_on_disk, has_first_user, store_fault}
use Rattle.s38_image.specs.PartPlaces.{ceiling_key}
use Rattle.s38_restart.specs.catalog.Groups.{groups, parts_of_number}
use Rattle.s38_restart.specs.catalog.Stores.{first_fault, missing_object}

abbrev missing_by : Bool → Bool → Option ℕ
missing_by a b = cond (not a) (Some 1) (cond (not b) (Some 2) None)

abbrev under_by : Bool → Bool → Option (ℕ × ℕ) → Option (ℕ × ℕ)
under_by a b rest = cond (not a) (Some (1, 0)) (cond (not b) (Some (2, 0)) rest)

none_missing : (a b : Bool) (rest : Option (ℕ × ℕ)) → missing_by a b ≡ None → under_by a b rest ≡ rest
none_missing true true rest h = refl
none_missing true false rest h = absurd cc
none_missing false b rest h = absurd cc

pub under_all : (gs : List Group) (limit ceiling : ℕ) → missing_object gs ≡ None → first_under gs limit ceiling ≡ first_fault_of gs limit ceiling gs
under_all gs limit ceiling h = none_missing (group_is_on_disk gs 1) (has_first_user gs) (first_fault_of gs limit ceiling gs) h

pub fault_by_ceiling : (limit : ℕ) (parts : List Change) (ceiling : Option ℕ) → ceiling ≡ ceiling_in (parts_of_number ceiling_key parts) → first_fault limit parts ≡ first_fault_by (groups parts) limit ceiling
unfolding store_fault
fault_by_ceiling limit parts ceiling is = ap (first_fault_by (groups parts) limit) (sym is)
