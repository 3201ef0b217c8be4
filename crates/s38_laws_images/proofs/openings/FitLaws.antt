-- What fits its format is well: private rows are in order, and a data space has a table of its fields.
use Rattle.std.proofs.Common.{◌≡◌, ◌≢◌, ℕ, zero, suc, ◌==◌, Bool, true, false, cond, List, [], ◌∷◌, length, refl, sym, subst}
use Rattle.std.specs.Prelude.{◌&&◌, nat_lt, not, Some, None}
use Rattle.std.specs.List.{AllByRecursion}
use Rattle.std.proofs.lemmas.Bool.{ltb-true}
use Rattle.std.proofs.lemmas.List.Elements.{All-from_recursion}
use Rattle.s38_base.specs.declared.attr.Attr.{Attr}
use Rattle.s38_base.specs.declared.id.Kind.{Kind}
use Rattle.s38_codec.proofs.CodecLaws.{both_true}
use Rattle.s38_codec.specs.Codec.{byte, bytes, copies, fits_each, only}
use Rattle.s38_codec.specs.Formats.{FitsCase, list_of, short_list, u32, u64}
use Rattle.s38_laws_units.specs.Right.{IsData, IsEntryOf, IsTable}
use Rattle.s38_dataspaces.specs.Entries.{DataEntry}
use Rattle.s38_dataspaces.specs.Table.{are_fields, entry_len}
use Rattle.s38_dataspaces.specs.Values.{have_values}
use Rattle.s38_image.specs.Bodies.{data_in, program_part, unsequenced}
use Rattle.s38_image.specs.DataSpaces.{DataParts, data_space, is_sequence, slot}
use Rattle.s38_image.specs.Fitting.{FitsBody, rows_codec}
use Rattle.s38_image.specs.Headers.{object_number_form, rights, row_form, row_has_rights, users_rise}
use Rattle.s38_code.specs.declared.program.Program.{Program}
use Rattle.s38_image.specs.Programs.{IsCreated}
use Rattle.s38_image.specs.Scalars.{attr}
use Rattle.s38_odt.specs.Suited.{AreSuited}
use Rattle.s38_laws_processes.proofs.owners.CreateLaws.{program_checked}
use Rattle.s38_rules.specs.state.Held.{kind_of}
use Rattle.s38_rules.specs.state.Parts.{data_of}
use Rattle.s38_rules.specs.state.PrivateRows.{AreRows, IsAbove}
use Rattle.s38_rules.specs.families.Calls.{code_of}
use Rattle.s38_rules.specs.declared.data_body.DataBody.{DataBody}
use Rattle.s38_rules.specs.declared.object.Body.{Body}
use Rattle.s38_rules.specs.declared.object.Body.TheVariants as bodies
use Rattle.s38_rules.specs.declared.rows.PrivateRow.{PrivateRow}

-- ---- rows

not_zero : (n : ℕ) → not (n == 0) ≡ true → n ≢ 0
not_zero zero h = absurd cc
not_zero (suc n) h = λ e. absurd cc

some_rights : (r : PrivateRow) → row_form.fits r ≡ true → r.rights.0 ≢ 0
some_rights r h = not_zero r.rights.0 (both_true (row_has_rights r.rights) (rights.fits r.rights) (both_true (object_number_form.fits r.user) (row_has_rights r.rights && rights.fits r.rights) h).1).0

above : (r : PrivateRow) (rs : List PrivateRow) → users_rise (r ∷ rs) ≡ true → IsAbove r.user.0 rs × (users_rise rs ≡ true)
above r [] h = (tt, refl)
above r (q ∷ rs) h =
    let f = both_true (nat_lt r.user.0 q.user.0) (users_rise (q ∷ rs)) h in
    (ltb-true r.user.0 q.user.0 f.0, f.1)

rows_rise : (n : ℕ) (rs : List PrivateRow) → fits_each (copies n row_form) rs ≡ true → users_rise rs ≡ true → AreRows rs
unfolding fits_each copies
rows_rise zero [] h up = tt
rows_rise zero (r ∷ rs) h up = absurd cc
rows_rise (suc n) [] h up = absurd cc
rows_rise (suc n) (r ∷ rs) h up =
    let f = both_true (row_form.fits r) (fits_each (copies n row_form) rs) h in
    let a = above r rs up in
    (some_rights r f.0, a.0, rows_rise n rs f.1 a.1)

pub rows_fit : (n : ℕ) (rs : List PrivateRow) → (rows_codec n).fits rs ≡ true → AreRows rs
rows_fit n rs h = let f = both_true (users_rise rs) (fits_each (copies n row_form) rs) h in rows_rise n rs f.1 f.0

-- ---- data spaces

entry_fits : (fields : List Attr) (entry : DataEntry) → (slot fields).fits entry ≡ true → IsEntryOf fields entry
entry_fits fields None h = refl
entry_fits fields (Some e) h =
    let f = both_true (have_values fields e) (byte.fits 1 && (bytes (entry_len fields)).fits e) h in
    let g = both_true (byte.fits 1) ((bytes (entry_len fields)).fits e) f.1 in
    rw (g.1, f.0) refl

entries_fit : (fields : List Attr) (n : ℕ) (entries : List DataEntry) → fits_each (copies n (slot fields)) entries ≡ true → AllByRecursion (IsEntryOf fields) entries
unfolding fits_each copies
entries_fit fields zero [] h = tt
entries_fit fields zero (e ∷ es) h = absurd cc
entries_fit fields (suc n) [] h = absurd cc
entries_fit fields (suc n) (e ∷ es) h =
    let f = both_true ((slot fields).fits e) (fits_each (copies n (slot fields)) es) h in
    (entry_fits fields e f.0, entries_fit fields n es f.1)

abbrev parts_of : DataBody → ℕ → DataParts
parts_of d sequence = (d.port.0, (sequence, (d.space.fields, d.space.entries)))

parts_fit : (d : DataBody) (sequence : ℕ) → data_space.fits (parts_of d sequence) ≡ true → IsTable d.space
parts_fit d sequence h =
    let fields = d.space.fields in
    let entries = d.space.entries in
    let a = both_true (u64.fits d.port.0) _ h in
    let b = both_true ((only (is_sequence d.port.0) u64).fits sequence) _ a.1 in
    let c = both_true ((only are_fields (short_list attr)).fits fields) ((list_of (slot fields)).fits entries) b.1 in
    let e = both_true (are_fields fields) ((short_list attr).fits fields) c.0 in
    let g = both_true (u32.fits (length entries)) (fits_each (copies (length entries) (slot fields)) entries) c.1 in
    record { fields = e.0; entries = All-from_recursion (IsEntryOf fields) entries (entries_fit fields (length entries) entries g.1) }

data_fits : (d : DataBody) (sequence : ℕ) → FitsCase (λ x. data_space.fits x ≡ true) (data_in sequence (bodies.DataSpace d)) → IsTable d.space
data_fits d sequence h = by (d.space.spare == 0) h
  where
    by : (b : Bool) → FitsCase (λ x. data_space.fits x ≡ true) (cond b (Some (parts_of d sequence)) None) → IsTable d.space
    by true fits = parts_fit d sequence fits
    by false fits = absurd fits

pub table_fits : (k : Kind) (tags : List ℕ) (b : Body) (sequence : ℕ) → kind_of b ≡ k → FitsBody k tags (record { body = b; sequence = sequence }) → IsData (data_of b)
table_fits k tags (bodies.DataSpace d) sequence kind h = data_fits d sequence (subst (λ (v : Kind). FitsBody v tags (record { body = bodies.DataSpace d; sequence = sequence })) (sym kind) h)
table_fits k tags _ sequence kind h = tt

-- a program that is kept was created of its template
program_fits : (p : Program) (sequence : ℕ) → FitsCase IsCreated (unsequenced program_part sequence (bodies.Program p)) → IsCreated p
program_fits p zero fits = fits
program_fits p (suc n) fits = absurd fits

pub programs_fit : (k : Kind) (tags : List ℕ) (b : Body) (sequence : ℕ) → kind_of b ≡ k → FitsBody k tags (record { body = b; sequence = sequence })
    → (program : Program) → code_of b ≡ Some program → AreSuited program.rows program.code
programs_fit k tags (bodies.Program p) sequence kind h program is =
    let made = program_fits p sequence (subst (λ (v : Kind). FitsBody v tags (record { body = bodies.Program p; sequence = sequence })) (sym kind) h) in
    let same : p ≡ program = cc in
    subst (λ (x : Program). AreSuited x.rows x.code) same (program_checked p.template p made.created)
programs_fit k tags _ sequence kind h program is = cc
