-- Every entry that is present is one of the fields: where one is put, and where one is read.
use Rattle.std.proofs.Common.{◌≡◌, ℕ, zero, suc, ◌+◌, ◌-◌, ◌*◌, ◌≤◌, Bool, true, false, ◌&&◌, Bor, List, [], ◌∷◌, ◌++◌, arith, length, set, refl, sym, ◌∙◌, ap, subst}
use Rattle.std.proofs.lemmas.Bool.Decides.{nat_tests}
use Rattle.std.proofs.lemmas.List.{length-append, length-set}
use Rattle.std.proofs.Math.Nat.{add-mul}
use Rattle.std.specs.List.{list_all}
use Rattle.std.specs.Option.{option_copied, option_flatten}
use Rattle.std.specs.Prelude.{IfSome, IsTrue, Option, Some, None, ◌==◌, if◌then◌else◌, slice_get}
use Rattle.s38_base.specs.declared.attr.Attr.{Attr}
use Rattle.s38_dataspaces.specs.Entries.{DataEntry, KeptEntries, entry_at, has_width, put_at, with_new_entry}
use Rattle.s38_dataspaces.specs.declared.fault.EntryFault.TheVariants.{BadLength}
use Rattle.s38_dataspaces.specs.Refusals.{delete_refusal, update_refusal}
use Rattle.s38_dataspaces.specs.Table.{DataTable, IsDataSpace, data_space_image_size, entry_len, is_entry_of}
use Rattle.s38_dataspaces.specs.Values.{have_values, is_proper}

both : (a b : Bool) → a ≡ true → b ≡ true → (a && b) ≡ true
both true true p q = refl
both true false p q = q
both false b p q = p

first_of : (a b : Bool) → (a && b) ≡ true → a ≡ true
first_of true b p = refl
first_of false b p = p

second_of : (a b : Bool) → (a && b) ≡ true → b ≡ true
second_of true b p = p
second_of false b p = absurd (cc)

proper_set : (fields : List Attr) (entries : List DataEntry) (i : ℕ) (entry : DataEntry) → list_all (is_proper fields) entries ≡ true → is_proper fields entry ≡ true → list_all (is_proper fields) (set entries i entry) ≡ true
proper_set fields [] i entry all one = refl
proper_set fields (e ∷ es) zero entry all one =
    both (is_proper fields entry) _ one (second_of (is_proper fields e) _ all)
proper_set fields (e ∷ es) (suc i) entry all one =
    both (is_proper fields e) _ (first_of (is_proper fields e) _ all) (proper_set fields es i entry (second_of (is_proper fields e) _ all) one)

proper_put : (fields : List Attr) (entries : List DataEntry) (at : ℕ) (entry : DataEntry) → IsTrue (list_all (is_proper fields) entries) → IsTrue (is_proper fields entry) → IsTrue (list_all (is_proper fields) (put_at entries at entry))
proper_put fields entries at entry all one = proper_set fields entries (at - 1) entry all one

proper_slot : (fields : List Attr) (entries : List DataEntry) (k : ℕ) → list_all (is_proper fields) entries ≡ true → is_proper fields (option_flatten (slice_get entries k)) ≡ true
proper_slot fields [] k all = refl
proper_slot fields (e ∷ es) zero all = first_of (is_proper fields e) _ all
proper_slot fields (e ∷ es) (suc k) all = proper_slot fields es k (second_of (is_proper fields e) _ all)

proper_at : (fields : List Attr) (entries : List DataEntry) (at : ℕ) → list_all (is_proper fields) entries ≡ true → is_proper fields (entry_at entries at) ≡ true
proper_at fields entries zero all = refl
proper_at fields entries (suc k) all = proper_slot fields entries k all

pub proper_read : (fields : List Attr) (entries : List DataEntry) (at : ℕ) (r : Option (Bor (List ℕ))) → IsTrue (list_all (is_proper fields) entries) → option_copied r ≡ entry_at entries at → IfSome r (λ entry. IsTrue (have_values fields entry.now))
proper_read fields entries at None all is = tt
proper_read fields entries at (Some e) all is =
    ap (λ (o : DataEntry). is_proper fields o) is ∙ proper_at fields entries at all

-- what is kept after another entry was put, or none
pub still_kept : (fields : List Attr) (size : ℕ) (old new : KeptEntries) (at : ℕ) (entry : DataEntry) → new ≡ record old { entries = put_at old.entries at entry } → IsTrue (is_proper fields entry) → IsDataSpace fields old.width size old.entries → IsDataSpace fields new.width size new.entries
still_kept fields size old new at entry is one held =
    subst (λ (kept : KeptEntries). IsDataSpace fields kept.width size kept.entries) (sym is) (record {
      fields_fit = held.fields_fit;
      width_is = held.width_is;
      size_is = rw (length-set old.entries (at - 1) entry) held.size_is;
      small = held.small;
      proper = proper_put fields old.entries at entry held.proper one;
    })

pub right_length : (table : DataTable) (at : ℕ) (entry : List ℕ) → update_refusal table at entry ≡ None → length entry ≡ entry_len table.fields
right_length table at entry none = elim (length entry == entry_len table.fields) as (λ b. (length entry == entry_len table.fields) ≡ b → (if b then delete_refusal table at else Some BadLength) ≡ None → length entry ≡ entry_len table.fields) [
  | true ↦ λ same q. grind (arith, nat_tests)
  | false ↦ λ same q. absurd (cc)
] refl none

set_last : (entries : List DataEntry) (one other : DataEntry) → set (entries ++ one ∷ []) (length entries) other ≡ entries ++ other ∷ []
set_last [] one other = refl
set_last (e ∷ es) one other = ap (λ (xs : List DataEntry). e ∷ xs) (set_last es one other)

-- the last entry is deleted
pub last_cleared : (entries : List DataEntry) (entry : List ℕ) → put_at (with_new_entry entries entry) (length (with_new_entry entries entry)) None ≡ entries ++ None ∷ []
last_cleared entries entry =
    let len : length (with_new_entry entries entry) - 1 ≡ length entries = omega (arith, length-append entries (Some entry ∷ [])) in
    ap (λ (k : ℕ). set (with_new_entry entries entry) k None) len ∙ set_last entries (Some entry) None

pub proper_deleted : (fields : List Attr) (entries : List DataEntry) → IsTrue (list_all (is_proper fields) entries) → IsTrue (list_all (is_proper fields) (entries ++ None ∷ []))
proper_deleted fields [] all = refl
proper_deleted fields (e ∷ es) all = both (is_proper fields e) _ (first_of (is_proper fields e) _ all) (proper_deleted fields es (second_of (is_proper fields e) _ all))

-- one more ordinal, whose entry is deleted
pub deleted_is : (fields : List Attr) (width size : ℕ) (entries : List DataEntry) → IsDataSpace fields width size entries → size + (1 + width) ≤ 16777216 → IsDataSpace fields width (size + (1 + width)) (entries ++ None ∷ [])
deleted_is fields width size entries is small =
    let len : length (entries ++ None ∷ []) ≡ length entries + 1 = length-append entries (None ∷ []) in
    let split : (length entries + 1) * (1 + entry_len fields) ≡ length entries * (1 + entry_len fields) + 1 * (1 + entry_len fields) = add-mul (length entries) 1 (1 + entry_len fields) in
    let w = is.width_is in
    let s = is.size_is in
    let sized : size + (1 + width) ≡ data_space_image_size fields (length entries + 1) = omega (arith, split, w, s) in
    record {
      fields_fit = is.fields_fit;
      width_is = is.width_is;
      size_is = sized ∙ ap (λ (n : ℕ). data_space_image_size fields n) (sym len);
      small = small;
      proper = proper_deleted fields entries is.proper;
    }

pub deleted_kept : (fields : List Attr) (size len : ℕ) (old new : KeptEntries) → new ≡ record old { spare = 0; entries = old.entries ++ None ∷ [] } → IsDataSpace fields old.width size old.entries → len ≡ old.width → size + (1 + len) ≤ 16777216 → IsDataSpace fields new.width (size + (1 + len)) new.entries
deleted_kept fields size len old new is kept same small =
    subst (λ (k : KeptEntries). IsDataSpace fields k.width (size + (1 + len)) k.entries) (sym is)
    (subst (λ (n : ℕ). IsDataSpace fields old.width (size + (1 + n)) (old.entries ++ None ∷ [])) (sym same)
    (deleted_is fields old.width size old.entries kept (omega (arith, same, small))))

-- an entry of the width of the fields, whose numbers have values, is one of the fields
is_entry : (fields : List Attr) (entry : DataEntry) → has_width (entry_len fields) entry ≡ true → is_proper fields entry ≡ true → is_entry_of fields entry ≡ true
is_entry fields None width proper = refl
is_entry fields (Some bytes) width proper = both (length bytes == entry_len fields) (have_values fields bytes) width proper

pub are_entries : (fields : List Attr) (entries : List DataEntry) → list_all (has_width (entry_len fields)) entries ≡ true → list_all (is_proper fields) entries ≡ true → list_all (is_entry_of fields) entries ≡ true
are_entries fields [] widths proper = refl
are_entries fields (e ∷ es) widths proper =
    both (is_entry_of fields e) _ (is_entry fields e (first_of (has_width (entry_len fields) e) _ widths) (first_of (is_proper fields e) _ proper))
    (are_entries fields es (second_of (has_width (entry_len fields) e) _ widths) (second_of (is_proper fields e) _ proper))
