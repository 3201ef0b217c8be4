-- Where the units of one journal space need not be counted: they are no more than all that are open.
use Rattle.std.proofs.Common.{◌≡◌, ℕ, ◌+◌, ◌*◌, ◌<◌, ◌≤◌, true, false, Bool, refl, sym, subst, ◌∙◌, arith, length}
use Rattle.std.proofs.lemmas.Bool.Decides.{nat_tests}
use Rattle.std.proofs.lemmas.List.Sums.{count_by-le-length, length-filter}
use Rattle.std.specs.Prelude.{None, Some, ◌&&◌, if◌then◌else◌, is_some, nat_le, nat_lt}
use Rattle.s38_commits.specs.Units.{UnitMap}
use Rattle.s38_journals.specs.Journals.{JournalList, bytes_wanted, entries_len, room_refusal}
use Rattle.s38_journals.specs.declared.fault.JournalFault.TheVariants.{Full}
use Rattle.s38_rules.specs.families.Changing.{are_units_full, is_journal_full, most_units}
use Rattle.s38_rules.specs.state.Held.{Held}
use Rattle.s38_rules.specs.state.Journaling.{begins_unit, open_after, open_units, unit_goes_to}
use Rattle.s38_rules.specs.state.PartsAt.{journal_at}

-- those of one journal space are no more than all
pub few_units : (h : Held) (units : UnitMap) (journal : ℕ) → open_units h units journal ≤ length units
few_units h units journal =
    subst (λ (n : ℕ). n ≤ length units) (sym (length-filter (unit_goes_to h journal) units)) (count_by-le-length (unit_goes_to h journal) units)

-- a change begins one at most
pub few_behind : (h : Held) (units : UnitMap) (journal block : ℕ) → open_after h units journal block ≤ length units + 1
few_behind h units journal block =
    let few : open_units h units journal ≤ length units = few_units h units journal in
    elim (begins_unit units block) as (λ b. open_units h units journal + (if b then 1 else 0) ≤ length units + 1) [
      | true ↦ omega (arith, few)
      | false ↦ omega (arith, few)
    ]

fewer_fit : (limit taken bytes units most : ℕ) → units ≤ most → nat_lt limit (taken + (bytes + 41 * most)) ≡ false → nat_lt limit (taken + (bytes + 41 * units)) ≡ false
fewer_fit limit taken bytes units most few fits = grind (arith, nat_tests)

refused : (b : Bool) → is_some (if b then Some Full else None) ≡ b
refused true = refl
refused false = refl

-- where the ends of more units have room, those of fewer have it
pub room_for_fewer : (journal : JournalList) (bytes units most : ℕ) → units ≤ most → is_some (room_refusal journal bytes most) ≡ false → is_some (room_refusal journal bytes units) ≡ false
room_for_fewer journal bytes units most few fits =
    let taken = entries_len journal.entries in
    refused (nat_lt 16777216 (taken + bytes_wanted bytes units))
    ∙ fewer_fit 16777216 taken bytes units most few (sym (refused (nat_lt 16777216 (taken + bytes_wanted bytes most))) ∙ fits)

-- a journal space that has room for the ends of all units, and of one more, is not full
pub room_for_all : (h : Held) (units : UnitMap) (journal block bytes : ℕ) → is_some (room_refusal (journal_at h journal) bytes (length units + 1)) ≡ false → is_journal_full h units journal block bytes ≡ false
room_for_all h units journal block bytes fits =
    room_for_fewer (journal_at h journal) bytes (open_after h units journal block) (length units + 1) (few_behind h units journal block) fits

not_reached : (limit all some : ℕ) → some ≤ all → all < limit → nat_le limit some ≡ false
not_reached limit all some few less = grind (arith, nat_tests)

-- where fewer than that are open in all journal spaces together, another unit may begin
pub few_for_all : (h : Held) (units : UnitMap) (journal block : ℕ) → length units < most_units → are_units_full h units journal block ≡ false
few_for_all h units journal block less =
    let no = not_reached most_units (length units) (open_units h units journal) (few_units h units journal) less in
    elim (begins_unit units block) as (λ b. (b && nat_le most_units (open_units h units journal)) ≡ false) [
      | true ↦ no
      | false ↦ refl
    ]
