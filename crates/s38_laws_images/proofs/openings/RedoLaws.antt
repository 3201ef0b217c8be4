-- A data space that is followed by a journal space has a table of its fields, as before, and its image is no longer than the
-- limit of a body.
use Rattle.std.proofs.Common.{◌≡◌, ◌≤◌, ℕ, true, zero, suc, ◌+◌, ◌-◌, List, [], ◌∷◌, length, length-append, length-set, refl, subst, sym, arith}
use Rattle.std.proofs.lemmas.Bool.Decides.{nat_tests}
use Rattle.std.proofs.lemmas.Bool.{cond_both}
use Rattle.std.proofs.lemmas.List.Elements.{All-push, All-set}
use Rattle.std.specs.Prelude.{Some, None, max, nat_le}
use Rattle.s38_codec.proofs.CodecLaws.{both_true}
use Rattle.s38_laws_units.specs.Right.{IsEntryOf, IsTable}
use Rattle.s38_dataspaces.specs.Entries as spaces
use Rattle.s38_dataspaces.specs.Table.{DataTable, data_space_image_size, inserted_deleted, is_entry_of, may_restore, restored, with_entry_changed}
use Rattle.s38_journals.specs.Entries.{JournalRecord}
use Rattle.s38_journals.specs.declared.entry.EntryKind.{EntryKind}
use Rattle.s38_journals.specs.declared.entry.EntryKind.TheVariants.{Insert, Update, Delete, Commit, Decommit}
use Rattle.s38_dataspaces.specs.Entries.{entry_at}
use Rattle.std.specs.Prelude.{is_some}
use Rattle.s38_base.specs.Limits.{body_limit}
use Rattle.s38_base.specs.declared.attr.Attr.{Attr}
use Rattle.s38_laws_images.specs.openings.Bodies.{IsShortTable}
use Rattle.s38_restart.specs.Redo.{change_redone, delete_redone, entry_redone, insert_redone, is_redone, journal_replayed, may_hold_at, redone_from, update_redone, with_deleted}

deleted_table : (n : ℕ) (t : DataTable) → IsTable t → IsTable (with_deleted t n)
unfolding with_deleted
deleted_table zero t is = is
deleted_table (suc n) t is = deleted_table n (inserted_deleted t) (record { fields = is.fields; entries = All-push (IsEntryOf t.fields) t.entries None is.entries refl })

restored_table : (t : DataTable) (at : ℕ) (entry : spaces.DataEntry) → IsTable t → IsTable (restored t at entry)
restored_table t at entry is =
    cond_both (may_restore t at entry) (with_entry_changed t at entry) t IsTable
    (λ may. record { fields = is.fields; entries = All-set (IsEntryOf t.fields) t.entries (at - 1) entry (both_true _ _ may).1 is.entries })
    (λ not. is)

inserted_table : (t : DataTable) (at : ℕ) (after : List ℕ) → IsTable t → IsTable (insert_redone t at after)
inserted_table t at after is =
    let longer = with_deleted t (at - length t.entries) in
    cond_both (may_hold_at t at after) (restored longer at (Some after)) t IsTable (λ may. restored_table longer at (Some after) (deleted_table (at - length t.entries) t is)) (λ not. is)

updated_table : (t : DataTable) (at : ℕ) (after : List ℕ) → IsTable t → IsTable (update_redone t at after)
updated_table t at after is = cond_both (is_some (entry_at t.entries at)) (restored t at (Some after)) t IsTable (λ there. restored_table t at (Some after) is) (λ gone. is)

cleared_table : (t : DataTable) (at : ℕ) → IsTable t → IsTable (delete_redone t at)
cleared_table t at is = cond_both (is_some (entry_at t.entries at)) (restored t at None) t IsTable (λ there. restored_table t at None is) (λ gone. is)

change_table : (k : EntryKind) (t : DataTable) (at : ℕ) (after : List ℕ) → IsTable t → IsTable (change_redone k t at after)
change_table Insert t at after is = inserted_table t at after is
change_table Update t at after is = updated_table t at after is
change_table Delete t at after is = cleared_table t at is
change_table Commit t at after is = is
change_table Decommit t at after is = is

entry_table : (number image sequence : ℕ) (all : List JournalRecord) (e : JournalRecord) (t : DataTable) → IsTable t → IsTable (entry_redone number image all sequence e t)
entry_table number image sequence all e t is =
    cond_both (is_redone number image all sequence e) (change_redone e.kind t e.ordinal e.after) t IsTable (λ own. change_table e.kind t e.ordinal e.after is) (λ other. is)

from_table : (number image sequence : ℕ) (all es : List JournalRecord) (t : DataTable) → IsTable t → IsTable (redone_from number image all sequence es t)
unfolding redone_from
from_table number image sequence all [] t is = is
from_table number image sequence all (e ∷ es) t is = from_table number image (sequence + 1) all es (entry_redone number image all sequence e t) (entry_table number image sequence all e t is)

pub redone_table : (number image : ℕ) (all : List JournalRecord) (t : DataTable) → IsTable t → IsTable (journal_replayed number image all t)
redone_table number image all t is = from_table number image 1 all all t is

-- ---- how long its image is

-- another table of the same fields, with so many ordinals
record HasOrdinals (fs : List Attr) (n : ℕ) (t : DataTable) : Type 0 where
  pub fields : t.fields ≡ fs
  pub ordinals : length t.entries ≡ n

short_by : (fields : List Attr) (n : ℕ) (t : DataTable) → HasOrdinals fields n t → data_space_image_size fields n ≤ body_limit → IsShortTable body_limit t
short_by fields n t has short = subst (λ (k : ℕ). data_space_image_size t.fields k ≤ body_limit) (sym has.ordinals) (subst (λ (fs : List Attr). data_space_image_size fs n ≤ body_limit) (sym has.fields) short)

deleted_has : (n : ℕ) (t : DataTable) → HasOrdinals t.fields (length t.entries + n) (with_deleted t n)
unfolding with_deleted
deleted_has zero t = record { fields = refl; ordinals = omega arith }
deleted_has (suc n) t =
    let rest = deleted_has n (inserted_deleted t) in
    record { fields = rest.fields; ordinals = omega (arith, rest.ordinals, length-append t.entries (None ∷ [])) }

restored_has : (t : DataTable) (at : ℕ) (entry : spaces.DataEntry) → HasOrdinals t.fields (length t.entries) (restored t at entry)
restored_has t at entry =
    cond_both (may_restore t at entry) (with_entry_changed t at entry) t (HasOrdinals t.fields (length t.entries))
    (λ may. record { fields = refl; ordinals = length-set t.entries (at - 1) entry })
    (λ not. record { fields = refl; ordinals = refl })

restored_short : (t : DataTable) (at : ℕ) (entry : spaces.DataEntry) → IsShortTable body_limit t → IsShortTable body_limit (restored t at entry)
restored_short t at entry is = short_by t.fields (length t.entries) (restored t at entry) (restored_has t at entry) is

inserted_short : (t : DataTable) (at : ℕ) (after : List ℕ) → IsShortTable body_limit t → IsShortTable body_limit (insert_redone t at after)
inserted_short t at after is =
    let n = at - length t.entries in
    let longer = with_deleted t n in
    cond_both (may_hold_at t at after) (restored longer at (Some after)) t (IsShortTable body_limit)
    (λ may. restored_short longer at (Some after) (short_by t.fields (length t.entries + n) longer (deleted_has n t)
    (subst (λ (k : ℕ). data_space_image_size t.fields k ≤ body_limit) (most at (length t.entries)) (within (both_true (is_entry_of t.fields (Some after)) _ may).1))))
    (λ not. is)
  where
    most : (a b : ℕ) → max a b ≡ b + (a - b)
    most a b = grind (arith, nat_tests)

    within : {a b : ℕ} → nat_le a b ≡ true → a ≤ b
    within h = grind (arith, nat_tests)

updated_short : (t : DataTable) (at : ℕ) (after : List ℕ) → IsShortTable body_limit t → IsShortTable body_limit (update_redone t at after)
updated_short t at after is = cond_both (is_some (entry_at t.entries at)) (restored t at (Some after)) t (IsShortTable body_limit) (λ there. restored_short t at (Some after) is) (λ gone. is)

cleared_short : (t : DataTable) (at : ℕ) → IsShortTable body_limit t → IsShortTable body_limit (delete_redone t at)
cleared_short t at is = cond_both (is_some (entry_at t.entries at)) (restored t at None) t (IsShortTable body_limit) (λ there. restored_short t at None is) (λ gone. is)

change_short : (k : EntryKind) (t : DataTable) (at : ℕ) (after : List ℕ) → IsShortTable body_limit t → IsShortTable body_limit (change_redone k t at after)
change_short Insert t at after is = inserted_short t at after is
change_short Update t at after is = updated_short t at after is
change_short Delete t at after is = cleared_short t at is
change_short Commit t at after is = is
change_short Decommit t at after is = is

from_short : (number image sequence : ℕ) (all es : List JournalRecord) (t : DataTable) → IsShortTable body_limit t → IsShortTable body_limit (redone_from number image all sequence es t)
unfolding redone_from
from_short number image sequence all [] t is = is
from_short number image sequence all (e ∷ es) t is =
    from_short number image (sequence + 1) all es (entry_redone number image all sequence e t)
    (cond_both (is_redone number image all sequence e) (change_redone e.kind t e.ordinal e.after) t (IsShortTable body_limit) (λ own. change_short e.kind t e.ordinal e.after is) (λ other. is))

pub redone_short : (number image : ℕ) (all : List JournalRecord) (t : DataTable) → IsShortTable body_limit t → IsShortTable body_limit (journal_replayed number image all t)
redone_short number image all t is = from_short number image 1 all all t is
