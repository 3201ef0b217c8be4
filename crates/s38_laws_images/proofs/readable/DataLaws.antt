-- Which data spaces are read again as they were printed, with every uncommitted change taken back.
use Rattle.std.proofs.Common.{◌≡◌, ℕ, ◌+◌, ◌<◌, ◌≤◌, ◌^◌, ◌==◌, Bool, true, false, cond, List, [], ◌∷◌, length, refl, arith}
use Rattle.std.proofs.lemmas.Bool.Decides.{nat_tests}
use Rattle.std.proofs.lemmas.Bool.{eq-eqb, lt-ltb}
use Rattle.std.specs.List.{list_all}
use Rattle.std.specs.Prelude.{None, Some, nat_le, not, ◌&&◌, ◌||◌}
use Rattle.s38_base.specs.Attributes.{are_digit_counts}
use Rattle.s38_base.specs.declared.attr.Attr.{Attr}
use Rattle.s38_base.specs.declared.attr.Attr.TheVariants as attrs
use Rattle.s38_codec.proofs.CodecLaws.{and_true, both_true}
use Rattle.s38_codec.proofs.FormatLaws.{copies_zero, length_copies}
use Rattle.s38_codec.specs.Codec.{byte_is_zero, copies, fits_each}
use Rattle.s38_commits.specs.Units.{UnitMap}
use Rattle.s38_dataspaces.specs.Entries.{DataEntry}
use Rattle.s38_dataspaces.specs.Table.{DataTable, are_fields, data_space_image_size, entry_len, is_entry_of, is_field}
use Rattle.s38_dataspaces.specs.Values.{have_values}
use Rattle.s38_image.proofs.HeaderLaws.{at_most}
use Rattle.s38_image.specs.DataSpaces.{data_space, is_sequence, slot}
use Rattle.s38_image.specs.Scalars.{attr}
use Rattle.s38_image.specs.Settled.{before_change, first_change, settled_entries, settled_entry}
use Rattle.s38_image_writer.proofs.DataLaws.{first_restorable, settled_length}
use Rattle.s38_image_writer.specs.Restoring.{AreRestorable, settled_data}
use Rattle.s38_memory.specs.Image.{HasAttrImage}
use Rattle.s38_laws_images.proofs.readable.ListLaws.{length_product, list_fits}
use Rattle.s38_laws_images.proofs.readable.ScalarLaws.{attr_fits}
use Rattle.s38_rules.specs.declared.data_body.DataBody.{DataBody}

-- ---- the fields

digits_small : (digits fraction : ℕ) → are_digit_counts digits fraction ≡ true → (digits < 2 ^ 8) × (fraction < 2 ^ 8)
digits_small digits fraction are =
    let some = both_true (nat_le 1 digits) (nat_le digits 31 && nat_le fraction digits) are in
    let most = both_true (nat_le digits 31) (nat_le fraction digits) some.1 in
    let few = at_most digits 31 most.0 in
    let fewer = at_most fraction digits most.1 in
    (omega (arith, few), omega (arith, few, fewer))

small_size : (size : ℕ) → ((size == 2) || (size == 4)) ≡ true → size < 2 ^ 8
small_size size is = grind (arith, nat_tests)

field_shown : (a : Attr) → is_field a ≡ true → HasAttrImage a
field_shown (attrs.Packed digits fraction) is = digits_small digits fraction (both_true (are_digit_counts digits fraction) true is).0
field_shown (attrs.Zoned digits fraction) is = digits_small digits fraction (both_true (are_digit_counts digits fraction) true is).0
field_shown (attrs.Binary size) is = small_size size (both_true ((size == 2) || (size == 4)) true is).0
field_shown (attrs.Chars len) is =
    let bounds = both_true (nat_le 1 len && nat_le len 4096) true is in
    let most = at_most len 4096 (both_true (nat_le 1 len) (nat_le len 4096) bounds.0).1 in
    omega (arith, most)
field_shown attrs.Pointer is = absurd cc

fields_fit : (fields : List Attr) → list_all is_field fields ≡ true → fits_each (copies (length fields) attr) fields ≡ true
unfolding fits_each copies
fields_fit [] all = refl
fields_fit (a ∷ fields) all =
    let both = both_true (is_field a) (list_all is_field fields) all in
    and_true (attr.fits a) _ (attr_fits a (field_shown a both.0)) (fields_fit fields both.1)

-- ---- the entries

slot_fits : (fields : List Attr) (e : DataEntry) → is_entry_of fields e ≡ true → (slot fields).fits e ≡ true
slot_fits fields None is =
    and_true (list_all byte_is_zero (copies (entry_len fields) 0)) _ (copies_zero (entry_len fields)) (eq-eqb (length {A = ℕ} (copies (entry_len fields) 0)) (entry_len fields) (length_copies {A = ℕ} (entry_len fields) 0))
slot_fits fields (Some entry) is =
    let both = both_true (length entry == entry_len fields) (have_values fields entry) is in
    and_true (have_values fields entry) _ both.1 both.0

settled_fits : (units : UnitMap) (space at : ℕ) (t : DataTable) (entry : DataEntry) → AreRestorable units space t → is_entry_of t.fields entry ≡ true → is_entry_of t.fields (settled_entry units space at entry) ≡ true
settled_fits units space at t entry all fits =
    elim (first_change units space at) as (λ o. first_change units space at ≡ o → is_entry_of t.fields (before_change entry o) ≡ true) [
      | None ↦ λ is. fits
      | Some change ↦ λ is. first_restorable units space at t change all is
    ] refl

slots_fit : (units : UnitMap) (space at : ℕ) (t : DataTable) (entries : List DataEntry) → AreRestorable units space t → list_all (is_entry_of t.fields) entries ≡ true
    → fits_each (copies (length (settled_entries units space at entries)) (slot t.fields)) (settled_entries units space at entries) ≡ true
unfolding fits_each copies
slots_fit units space at t [] all fit = refl
slots_fit units space at t (e ∷ entries) all fit =
    let both = both_true (is_entry_of t.fields e) (list_all (is_entry_of t.fields) entries) fit in
    and_true ((slot t.fields).fits (settled_entry units space at e)) _ (slot_fits t.fields (settled_entry units space at e) (settled_fits units space at t e all both.0)) (slots_fit units space (at + 1) t entries all both.1)

-- ---- a data space

-- what is known of it by its type
pub record IsTyped (d : DataBody) : Type 0 where
  pub port : d.port.0 < 2 ^ 64
  pub fields : are_fields d.space.fields ≡ true
  pub entries : list_all (is_entry_of d.space.fields) d.space.entries ≡ true

sequence_fits : (b : Bool) (last : ℕ) → last < 2 ^ 64 → cond b 0 last < 2 ^ 64
sequence_fits true last small = omega arith
sequence_fits false last small = small

sequence_said : (none : Bool) (last : ℕ) → (not none || (cond none 0 last == 0)) ≡ true
sequence_said true last = refl
sequence_said false last = refl

pub data_fits : (limit : ℕ) (units : UnitMap) (number last : ℕ) (d : DataBody) → limit ≤ 16777216 → data_space_image_size d.space.fields (length d.space.entries) ≤ limit → IsTyped d → last < 2 ^ 64
    → AreRestorable units number d.space → data_space.fits (settled_data units number last d) ≡ true
data_fits limit units number last d small short is early all =
    let fields = d.space.fields in
    let entries = settled_entries units number 1 d.space.entries in
    let sequence = cond (d.port.0 == 0) 0 last in
    let good = both_true (list_all is_field fields) _ is.fields in
    let count = both_true (nat_le 1 (length fields)) _ good.1 in
    let most = both_true (nat_le (length fields) 256) (nat_le (entry_len fields) 4096) count.1 in
    let few : length fields < 2 ^ 16 = omega (arith, at_most (length fields) 256 most.0) in
    let ordinals : length entries < 2 ^ 32 = omega (arith, settled_length units number 1 d.space.entries, length_product (length d.space.entries) (entry_len fields), short, small) in
    and_true _ _ (lt-ltb d.port.0 (2 ^ 64) is.port)
    (and_true _ _ (and_true (is_sequence d.port.0 sequence) _ (sequence_said (d.port.0 == 0) last) (lt-ltb sequence (2 ^ 64) (sequence_fits (d.port.0 == 0) last early)))
    (and_true _ _ (and_true (are_fields fields) _ is.fields (and_true _ _ (lt-ltb (length fields) (2 ^ 16) few) (fields_fit fields good.0)))
    (list_fits (slot fields) entries ordinals (slots_fit units number 1 d.space d.space.entries all is.entries))))
