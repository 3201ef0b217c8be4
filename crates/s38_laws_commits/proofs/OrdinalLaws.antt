-- A data space that is followed by a journal space, seen under one ordinal.
use Rattle.std.proofs.Common.{◌≡◌, ◌∙◌, ℕ, zero, suc, ◌+◌, ◌-◌, ◌<◌, ◌≤◌, ◌==◌, Bool, true, false, cond, List, [], ◌∷◌, length, max, refl, sym, ap, subst, arith}
use Rattle.std.proofs.lemmas.Bool.Decides.{nat_tests}
use Rattle.std.specs.Option.{option_flatten}
use Rattle.std.specs.Prelude.{◌&&◌, Some, None, is_some, nat_le, slice_get}
use Rattle.s38_base.specs.Limits.{body_limit}
use Rattle.s38_base.specs.declared.attr.Attr.{Attr}
use Rattle.s38_dataspaces.specs.Entries as spaces
use Rattle.s38_dataspaces.specs.Entries.{entry_at}
use Rattle.s38_dataspaces.specs.Table.{DataTable, data_space_image_size, is_entry_of, may_restore, restored}
use Rattle.s38_journals.specs.Entries.{JournalRecord}
use Rattle.s38_journals.specs.declared.entry.EntryKind.TheVariants.{Insert, Update, Delete, Commit, Decommit}
use Rattle.s38_journals.specs.declared.entry.EntryKind.{EntryKind}
use Rattle.s38_restart.specs.Redo.{change_redone, counts, delete_redone, entry_redone, insert_redone, is_redone, journal_replayed, may_hold_at, redone_from, update_redone, with_deleted}
use Rattle.s38_laws_commits.specs.Told.{IsSmall}
use Rattle.s38_laws_commits.specs.Ordinals.{change_redone_at, entry_redone_at, inserted_at, redone_at, redone_at_from, updated_at}
use Rattle.s38_laws_commits.proofs.OrdinalRestoreLaws.{all_deleted_at, deleted_fields, deleted_length, restored_same, restored_other, restored_fields, restored_length, size_same}

-- ---- one entry

-- the place is an ordinal that is there, where it is not 0
reaches : (t : DataTable) (at : ℕ) → at ≤ length (with_deleted t (at - length t.entries)).entries
reaches t at = omega (arith, deleted_length t (at - length t.entries))

insert_here : (t : DataTable) (at : ℕ) (after : List ℕ) → IsSmall t → entry_at (insert_redone t at after).entries at ≡ inserted_at t.fields at after (entry_at t.entries at)
insert_here t at after small = by (is_entry_of t.fields (Some after)) refl (nat_le (data_space_image_size t.fields (max at (length t.entries))) body_limit) (nat_le 1 at) refl
  where
    u : DataTable
    u = with_deleted t (at - length t.entries)

    s : Bool
    s = nat_le (data_space_image_size t.fields at) body_limit

    fills : nat_le at (length u.entries) ≡ true
    fills = let le = reaches t at in grind (arith, nat_tests, le)

    may : (e o : Bool) → is_entry_of t.fields (Some after) ≡ e → nat_le 1 at ≡ o → may_restore u at (Some after) ≡ (o && e)
    may e o entry one =
        ap (λ (f : List Attr). (nat_le 1 at && nat_le at (length u.entries)) && is_entry_of f (Some after)) (deleted_fields t (at - length t.entries))
        ∙ ap (λ (b : Bool). (nat_le 1 at && b) && is_entry_of t.fields (Some after)) fills
        ∙ ap (λ (b : Bool). (b && true) && is_entry_of t.fields (Some after)) one
        ∙ ap (λ (b : Bool). (o && true) && b) entry ∙ simple o e
      where
        simple : (o e : Bool) → ((o && true) && e) ≡ (o && e)
        simple true e = refl
        simple false e = refl

    put : (e o : Bool) → is_entry_of t.fields (Some after) ≡ e → nat_le 1 at ≡ o → entry_at (restored u at (Some after)).entries at ≡ cond (o && e) (Some after) (entry_at t.entries at)
    put e o entry one =
        restored_same u at (Some after) ∙ ap (λ (b : Bool). cond b (Some after) (entry_at u.entries at)) (may e o entry one)
        ∙ ap (λ (x : spaces.DataEntry). cond (o && e) (Some after) x) (all_deleted_at t (at - length t.entries) at)

    end : (e b o : Bool) → is_entry_of t.fields (Some after) ≡ e → s ≡ b → nat_le 1 at ≡ o → entry_at (cond (e && b) (restored u at (Some after)) t).entries at ≡ cond ((o && b) && e) (Some after) (entry_at t.entries at)
    end true true true entry size one = put true true entry one
    end true true false entry size one = put true false entry one
    end true false true entry size one = refl
    end true false false entry size one = refl
    end false true true entry size one = refl
    end false true false entry size one = refl
    end false false true entry size one = refl
    end false false false entry size one = refl

    by : (e : Bool) → is_entry_of t.fields (Some after) ≡ e → (b o : Bool) → nat_le (data_space_image_size t.fields (max at (length t.entries))) body_limit ≡ b
        → entry_at (insert_redone t at after).entries at ≡ inserted_at t.fields at after (entry_at t.entries at)
    by e entry b o is =
        ap (λ (c : Bool). entry_at (cond (c && nat_le (data_space_image_size t.fields (max at (length t.entries))) body_limit) (restored u at (Some after)) t).entries at) entry
        ∙ ap (λ (c : Bool). entry_at (cond (e && c) (restored u at (Some after)) t).entries at) (size_same t at small)
        ∙ end e s (nat_le 1 at) entry refl refl
        ∙ ap (λ (c : Bool). cond ((nat_le 1 at && s) && c) (Some after) (entry_at t.entries at)) (sym entry)

stands_first : (xs : List spaces.DataEntry) (at : ℕ) (x : List ℕ) → entry_at xs at ≡ Some x → (nat_le 1 at && nat_le at (length xs)) ≡ true
stands_first xs zero x is = cc
stands_first xs (suc k) x is =
    let within : k < length xs = below xs k is in
    let one : nat_le 1 (suc k) ≡ true = grind (arith, nat_tests) in
    let most : nat_le (suc k) (length xs) ≡ true = grind (arith, nat_tests, within) in
    rw (one, most) refl
  where
    below : (ys : List spaces.DataEntry) (i : ℕ) → option_flatten (slice_get ys i) ≡ Some x → i < length ys
    below [] i e = absurd cc
    below (y ∷ ys) zero e = omega arith
    below (y ∷ ys) (suc i) e = let less = below ys i e in omega (arith, less)

update_here : (t : DataTable) (at : ℕ) (after : List ℕ) → entry_at (update_redone t at after).entries at ≡ updated_at t.fields after (entry_at t.entries at)
update_here t at after = by (entry_at t.entries at) refl
  where
    by : (x : spaces.DataEntry) → entry_at t.entries at ≡ x → entry_at (cond (is_some x) (restored t at (Some after)) t).entries at ≡ updated_at t.fields after x
    by None is = is
    by (Some bytes) is =
        restored_same t at (Some after) ∙ ap (λ (b : Bool). cond (b && is_entry_of t.fields (Some after)) (Some after) (entry_at t.entries at)) (stands_first t.entries at bytes is)
        ∙ ap (λ (y : spaces.DataEntry). cond (is_entry_of t.fields (Some after)) (Some after) y) is

delete_here : (t : DataTable) (at : ℕ) → entry_at (delete_redone t at).entries at ≡ None
delete_here t at = by (entry_at t.entries at) refl
  where
    by : (x : spaces.DataEntry) → entry_at t.entries at ≡ x → entry_at (cond (is_some x) (restored t at None) t).entries at ≡ None
    by None is = is
    by (Some bytes) is = restored_same t at None ∙ ap (λ (b : Bool). cond (b && true) None (entry_at t.entries at)) (stands_first t.entries at bytes is)

change_here : (kind : EntryKind) (t : DataTable) (at : ℕ) (after : List ℕ) → IsSmall t → entry_at (change_redone kind t at after).entries at ≡ change_redone_at kind t.fields at after (entry_at t.entries at)
change_here Insert t at after small = insert_here t at after small
change_here Update t at after small = update_here t at after
change_here Delete t at after small = delete_here t at
change_here Commit t at after small = refl
change_here Decommit t at after small = refl

insert_other : (t : DataTable) (at k : ℕ) (after : List ℕ) → (at == k) ≡ false → entry_at (insert_redone t at after).entries k ≡ entry_at t.entries k
insert_other t at k after off = by (may_hold_at t at after)
  where
    u : DataTable
    u = with_deleted t (at - length t.entries)

    by : (b : Bool) → entry_at (cond b (restored u at (Some after)) t).entries k ≡ entry_at t.entries k
    by true = restored_other u at k (Some after) off ∙ all_deleted_at t (at - length t.entries) k
    by false = refl

change_other : (kind : EntryKind) (t : DataTable) (at k : ℕ) (after : List ℕ) → (at == k) ≡ false → entry_at (change_redone kind t at after).entries k ≡ entry_at t.entries k
change_other Insert t at k after off = insert_other t at k after off
change_other Update t at k after off = by (is_some (entry_at t.entries at))
  where
    by : (b : Bool) → entry_at (cond b (restored t at (Some after)) t).entries k ≡ entry_at t.entries k
    by true = restored_other t at k (Some after) off
    by false = refl
change_other Delete t at k after off = by (is_some (entry_at t.entries at))
  where
    by : (b : Bool) → entry_at (cond b (restored t at None) t).entries k ≡ entry_at t.entries k
    by true = restored_other t at k None off
    by false = refl
change_other Commit t at k after off = refl
change_other Decommit t at k after off = refl

insert_fields : (t : DataTable) (at : ℕ) (after : List ℕ) → (insert_redone t at after).fields ≡ t.fields
insert_fields t at after = by (may_hold_at t at after)
  where
    u : DataTable
    u = with_deleted t (at - length t.entries)

    by : (b : Bool) → (cond b (restored u at (Some after)) t).fields ≡ t.fields
    by true = restored_fields u at (Some after) ∙ deleted_fields t (at - length t.entries)
    by false = refl

change_fields : (kind : EntryKind) (t : DataTable) (at : ℕ) (after : List ℕ) → (change_redone kind t at after).fields ≡ t.fields
change_fields Insert t at after = insert_fields t at after
change_fields Update t at after = by (is_some (entry_at t.entries at))
  where
    by : (b : Bool) → (cond b (restored t at (Some after)) t).fields ≡ t.fields
    by true = restored_fields t at (Some after)
    by false = refl
change_fields Delete t at after = by (is_some (entry_at t.entries at))
  where
    by : (b : Bool) → (cond b (restored t at None) t).fields ≡ t.fields
    by true = restored_fields t at None
    by false = refl
change_fields Commit t at after = refl
change_fields Decommit t at after = refl

insert_small : (t : DataTable) (at : ℕ) (after : List ℕ) → IsSmall t → IsSmall (insert_redone t at after)
insert_small t at after small = by (may_hold_at t at after) refl
  where
    u : DataTable
    u = with_deleted t (at - length t.entries)

    size : (a b : Bool) → (a && b) ≡ true → b ≡ true
    size true b is = is
    size false b is = cc

    by : (b : Bool) → may_hold_at t at after ≡ b → IsSmall (cond b (restored u at (Some after)) t)
    by true may =
        let within : data_space_image_size t.fields (max at (length t.entries)) ≤ body_limit = grind (arith, nat_tests, size (is_entry_of t.fields (Some after)) _ may) in
        let count : length (restored u at (Some after)).entries ≡ max at (length t.entries) = omega (arith, restored_length u at (Some after), deleted_length t (at - length t.entries)) in
        subst (λ (f : List Attr). data_space_image_size f (length (restored u at (Some after)).entries) ≤ body_limit) (sym (restored_fields u at (Some after) ∙ deleted_fields t (at - length t.entries)))
        (subst (λ (n : ℕ). data_space_image_size t.fields n ≤ body_limit) (sym count) within)
    by false may = small

restored_small : (t : DataTable) (at : ℕ) (x : spaces.DataEntry) (b : Bool) → IsSmall t → IsSmall (cond b (restored t at x) t)
restored_small t at x true small =
    subst (λ (f : List Attr). data_space_image_size f (length (restored t at x).entries) ≤ body_limit) (sym (restored_fields t at x))
    (subst (λ (n : ℕ). data_space_image_size t.fields n ≤ body_limit) (sym (restored_length t at x)) small)
restored_small t at x false small = small

change_small : (kind : EntryKind) (t : DataTable) (at : ℕ) (after : List ℕ) → IsSmall t → IsSmall (change_redone kind t at after)
change_small Insert t at after small = insert_small t at after small
change_small Update t at after small = restored_small t at (Some after) (is_some (entry_at t.entries at)) small
change_small Delete t at after small = restored_small t at None (is_some (entry_at t.entries at)) small
change_small Commit t at after small = small
change_small Decommit t at after small = small

-- ---- one entry of a journal

module _ (number image : ℕ) (all : List JournalRecord) (sequence : ℕ) (e : JournalRecord) (t : DataTable) where
  abbrev then_table : DataTable
  then_table = entry_redone number image all sequence e t

  one_fields : then_table.fields ≡ t.fields
  one_fields = by (is_redone number image all sequence e)
    where
      by : (b : Bool) → (cond b (change_redone e.kind t e.ordinal e.after) t).fields ≡ t.fields
      by true = change_fields e.kind t e.ordinal e.after
      by false = refl

  one_small : IsSmall t → IsSmall then_table
  one_small small = by (is_redone number image all sequence e)
    where
      by : (b : Bool) → IsSmall (cond b (change_redone e.kind t e.ordinal e.after) t)
      by true = change_small e.kind t e.ordinal e.after small
      by false = small

  one_at : (at : ℕ) → IsSmall t → entry_at then_table.entries at ≡ entry_redone_at (counts image all) t.fields number at sequence e (entry_at t.entries at)
  one_at at small = by (e.object.0 == number) (e.ordinal == at) refl (counts image all sequence e.unit)
    where
      x : spaces.DataEntry
      x = entry_at t.entries at

      on : (e.ordinal == at) ≡ true → entry_at (change_redone e.kind t e.ordinal e.after).entries at ≡ change_redone_at e.kind t.fields at e.after x
      on is =
          let same : e.ordinal ≡ at = grind (arith, nat_tests, is) in
          ap (λ (k : ℕ). entry_at (change_redone e.kind t k e.after).entries at) same ∙ change_here e.kind t at e.after small

      by : (a b : Bool) → (e.ordinal == at) ≡ b → (c : Bool)
          → entry_at (cond (a && c) (change_redone e.kind t e.ordinal e.after) t).entries at ≡ cond ((a && b) && c) (change_redone_at e.kind t.fields at e.after x) x
      by true true is true = on is
      by true true is false = refl
      by true false is true = change_other e.kind t e.ordinal at e.after is
      by true false is false = refl
      by false true is true = refl
      by false true is false = refl
      by false false is true = refl
      by false false is false = refl

-- ---- all entries

from_at : (number image : ℕ) (all : List JournalRecord) (at sequence : ℕ) (es : List JournalRecord) (t : DataTable) → IsSmall t
    → entry_at (redone_from number image all sequence es t).entries at ≡ redone_at_from (counts image all) t.fields number at sequence es (entry_at t.entries at)
unfolding redone_from redone_at_from
from_at number image all at sequence [] t small = refl
from_at number image all at sequence (e ∷ es) t small =
    let u = entry_redone number image all sequence e t in
    from_at number image all at (sequence + 1) es u (one_small number image all sequence e t small)
    ∙ ap (λ (f : List Attr). redone_at_from (counts image all) f number at (sequence + 1) es (entry_at u.entries at)) (one_fields number image all sequence e t)
    ∙ ap (redone_at_from (counts image all) t.fields number at (sequence + 1) es) (one_at number image all sequence e t at small)

from_fields : (number image : ℕ) (all : List JournalRecord) (sequence : ℕ) (es : List JournalRecord) (t : DataTable) → (redone_from number image all sequence es t).fields ≡ t.fields
unfolding redone_from
from_fields number image all sequence [] t = refl
from_fields number image all sequence (e ∷ es) t = from_fields number image all (sequence + 1) es (entry_redone number image all sequence e t) ∙ one_fields number image all sequence e t

pub restart_at : (number image at : ℕ) (es : List JournalRecord) (t : DataTable) → IsSmall t → entry_at (journal_replayed number image es t).entries at ≡ redone_at t.fields number image es at (entry_at t.entries at)
restart_at number image at es t small = from_at number image es at 1 es t small

pub restart_fields : (number image : ℕ) (es : List JournalRecord) (t : DataTable) → (journal_replayed number image es t).fields ≡ t.fields
restart_fields number image es t = from_fields number image es 1 es t

from_small : (number image : ℕ) (all : List JournalRecord) (sequence : ℕ) (es : List JournalRecord) (t : DataTable) → IsSmall t → IsSmall (redone_from number image all sequence es t)
unfolding redone_from
from_small number image all sequence [] t small = small
from_small number image all sequence (e ∷ es) t small = from_small number image all (sequence + 1) es (entry_redone number image all sequence e t) (one_small number image all sequence e t small)

pub restart_small : (number image : ℕ) (es : List JournalRecord) (t : DataTable) → IsSmall t → IsSmall (journal_replayed number image es t)
restart_small number image es t small = from_small number image es 1 es t small
