-- What making an index has met, and what an entry that is not there leaves.
use Rattle.std.proofs.Common.{◌≡◌, ℕ, true, false, cond, List, [], ◌∷◌, refl, sym, ap, subst}
use Rattle.std.specs.Prelude.{Option, Some, None, Result, Ok, Err, OnOk, OnErr, is_some, if◌then◌else◌}
use Rattle.s38_base.specs.declared.exception.Exception.{Exception}
use Rattle.s38_base.specs.declared.fault.NoMemory.{NoMemory}
use Rattle.s38_base.specs.declared.words.Relation.TheVariants.{Eq}
use Rattle.s38_code.specs.declared.operand.Operand.{Operand}
use Rattle.s38_indexes.specs.Entries.{EntryIndex, IndexEntry, has_entry, is_in_relation, least, without_entry}
use Rattle.s38_indexes.specs.Refusals.{remove_refusal}
use Rattle.s38_indexes.specs.declared.fault.IndexFault.{IndexFault}
use Rattle.s38_indexes.specs.declared.fault.IndexFault.TheVariants.{Absent}
use Rattle.s38_profiles.specs.ProfileMaps.{ProfileMaps}
use Rattle.s38_changes.proofs.KeptLaws.{index_kept}
use Rattle.s38_rules.specs.families.Creation.{creation_fails}
use Rattle.s38_rules.specs.state.Held.{Held}
use Rattle.s38_rules.specs.families.Indexes.{created_index, crtinx_fails, removed}
use Rattle.s38_rules.specs.state.Kept.{Mirrors}
use Rattle.s38_rules.specs.state.PartsAt.{on_index}
use Rattle.s38_rules.specs.state.State.{State}
use Rattle.s38_rules.specs.ask.Users.{user_of}

-- an index that may be made meets the rules of creation
pub crtinx_created : (s : State) (p : ℕ) (ops : List Operand) → crtinx_fails s p ops ≡ None
    → (own : Option Exception) × (creation_fails s.held (user_of s p) (created_index s.held ops) own ≡ None)
unfolding crtinx_fails
crtinx_created s p ops h = (None, h)

none_taken : (key : IndexEntry) (xs : List IndexEntry) → has_entry key xs ≡ false → without_entry key xs ≡ xs
none_taken key [] e = refl
none_taken key (x ∷ xs) e =
    elim (is_in_relation Eq key x) as (λ b. is_some (cond b (Some x) (least Eq key xs)) ≡ false → cond b xs (x ∷ without_entry key xs) ≡ x ∷ xs) [
      | true ↦ λ q. absurd (cc)
      | false ↦ λ q. ap (λ (l : List IndexEntry). x ∷ l) (none_taken key xs q)
    ] e

-- an index that does not give an entry up, since it has none such, is as it would be without it
pub absent_stays : (entry : IndexEntry) (index : EntryIndex) (fault : IndexFault) → remove_refusal entry index ≡ Some fault → index ≡ removed entry index
absent_stays entry index fault e =
    elim (has_entry entry index.entries) as (λ b. has_entry entry index.entries ≡ b → (if b then None else Some Absent) ≡ Some fault → index ≡ removed entry index) [
      | true ↦ λ is q. absurd (cc)
      | false ↦ λ is q. ap (λ (l : List IndexEntry). record index { entries = l }) (sym (none_taken entry index.entries is))
    ] refl e

-- an index that changes, or stays where memory is refused, changes nothing that is kept of users
pub index_left : (maps : ProfileMaps) (h new : Held) (n : ℕ) (f : EntryIndex → EntryIndex) (r : Result (Unit {0}) NoMemory) → OnOk r (new ≡ on_index h n f) → OnErr r (new ≡ h) → Mirrors maps h → Mirrors maps new
index_left maps h new n f (Ok x) ok err m = subst (λ (k : Held). Mirrors maps k) (sym ok) (index_kept maps h n f m)
index_left maps h new n f (Err e) ok err m = subst (λ (k : Held). Mirrors maps k) (sym err) m
