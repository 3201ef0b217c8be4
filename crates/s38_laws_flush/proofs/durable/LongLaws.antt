-- What was read has a body of as many bytes as its image says.
use Rattle.std.proofs.Common.{◌≡◌, ◌∙◌, ◌∷◌, ◌==◌, ◌+◌, [], Bool, List, None, Some, ap, cond, false, length, refl, suc, sym, take, true, zero, ℕ}
use Rattle.std.proofs.lemmas.Bool.{eqb-true}
use Rattle.std.specs.List.{list_all}
use Rattle.std.specs.Prelude.{◌&&◌}
use Rattle.s38_base.specs.declared.attr.Attr.{Attr}
use Rattle.s38_base.specs.declared.id.Kind.TheVariants as kinds
use Rattle.s38_base.specs.declared.id.Kind.{Kind}
use Rattle.s38_codec.proofs.CodecLaws.{and_true, both_true}
use Rattle.s38_codec.specs.Codec.{byte, copies, fits_each, only}
use Rattle.s38_codec.specs.Formats.{FitsCase, all_by, fits_from, print_by, short_list, u32, u64}
use Rattle.s38_dataspaces.specs.Entries.{DataEntry}
use Rattle.s38_dataspaces.specs.Table.{are_fields, entry_len, is_entry_of}
use Rattle.s38_dataspaces.specs.Values.{have_values}
use Rattle.s38_image.proofs.SpaceLaws.{length_cells}
use Rattle.s38_image.specs.Bodies.{BodyImage, body_bytes}
use Rattle.s38_image.specs.DataSpaces.{data_space, is_sequence, slot}
use Rattle.s38_image.specs.Fitting.{FitsBody}
use Rattle.s38_image.specs.Journals.{entry, journal}
use Rattle.s38_image.specs.Scalars.{attr}
use Rattle.s38_image.specs.Settled.{settled_entries}
use Rattle.s38_image.specs.Spaces.{flags_in}
use Rattle.s38_image_writer.proofs.LengthLaws.{data_long, index_long, journal_long, queue_long, text_long}
use Rattle.s38_image_writer.proofs.PartLaws.{nothing_to_settle}
use Rattle.s38_journals.specs.Journals.{JournalList, entries_len}
use Rattle.s38_rules.specs.store.Room.{image_len}
use Rattle.s38_rules.specs.declared.data_body.DataBody.{DataBody}
use Rattle.s38_rules.specs.declared.object.Body.TheVariants as bodies
use Rattle.s38_rules.specs.declared.object.Body.{Body}

abbrev held : Body → ℕ → BodyImage
held b sequence = record { body = b; sequence = sequence }

-- ---- a data space

last_true : (a b : Bool) → (a && b) ≡ true → b ≡ true
last_true true b e = e
last_true false b e = absurd cc

slot_entry : (fields : List Attr) (entry : DataEntry) → (slot fields).fits entry ≡ true → is_entry_of fields entry ≡ true
slot_entry fields None fits = refl
slot_entry fields (Some entry) fits =
    let two = both_true (have_values fields entry) (byte.fits 1 && (length entry == entry_len fields)) fits in
    and_true (length entry == entry_len fields) (have_values fields entry) (last_true (byte.fits 1) (length entry == entry_len fields) two.1) two.0

slots_entries : (fields : List Attr) (entries : List DataEntry) → fits_each (copies (length entries) (slot fields)) entries ≡ true → list_all (is_entry_of fields) entries ≡ true
unfolding copies fits_each
slots_entries fields [] fits = refl
slots_entries fields (e ∷ entries) fits =
    let two = both_true ((slot fields).fits e) _ fits in
    and_true _ _ (slot_entry fields e two.0) (slots_entries fields entries two.1)

-- nothing is to be taken back
unsettled : (space at : ℕ) (entries : List DataEntry) → settled_entries [] space at entries ≡ entries
unsettled space at [] = refl
unsettled space at (e ∷ entries) = ap (λ (es : List DataEntry). e ∷ es) (unsettled space (at + 1) entries)

data_fits : (port sequence : ℕ) (fields : List Attr) (entries : List DataEntry) → data_space.fits (port, (sequence, (fields, entries))) ≡ true → list_all (is_entry_of fields) entries ≡ true
data_fits port sequence fields entries fits =
    let a = last_true (u64.fits port) _ fits in
    let b = last_true ((only (is_sequence port) u64).fits sequence) _ a in
    let c = last_true ((only are_fields (short_list attr)).fits fields) _ b in
    let d = last_true (u32.fits (length entries)) _ c in
    slots_entries fields entries d

data_bytes_long : (b : DataBody) (number sequence : ℕ) → b.space.spare ≡ 0 → data_space.fits (b.port.0, (sequence, (b.space.fields, b.space.entries))) ≡ true
    → length (data_space.print (b.port.0, (sequence, (b.space.fields, b.space.entries)))) ≡ image_len (bodies.DataSpace b)
data_bytes_long b number sequence none fits =
    let long = data_long [] number sequence b (nothing_to_settle [] number (bodies.DataSpace b) refl) (data_fits b.port.0 sequence b.space.fields b.space.entries fits) in
    let other : length (data_space.print (b.port.0, (sequence, (b.space.fields, b.space.entries)))) ≡ length (data_space.print (b.port.0, (cond (b.port.0 == 0) 0 sequence, (b.space.fields, b.space.entries)))) = refl in
    other ∙ ap (λ (es : List DataEntry). length (data_space.print (b.port.0, (cond (b.port.0 == 0) 0 sequence, (b.space.fields, es))))) (sym (unsettled number 1 b.space.entries)) ∙ long

data_held : (tags : List ℕ) (b : DataBody) (sequence : ℕ) → FitsBody kinds.DataSpace tags (held (bodies.DataSpace b) sequence) → length (body_bytes kinds.DataSpace (held (bodies.DataSpace b) sequence)) ≡ image_len (bodies.DataSpace b)
data_held tags b sequence fits = by (b.space.spare == 0) refl fits
  where
    by : (c : Bool) → (b.space.spare == 0) ≡ c → FitsCase (λ x. data_space.fits x ≡ true) (cond c (Some (b.port.0, (sequence, (b.space.fields, b.space.entries)))) None)
        → length (print_by (all_by data_space) (cond c (Some (b.port.0, (sequence, (b.space.fields, b.space.entries)))) None)) ≡ image_len (bodies.DataSpace b)
    by true is fits = data_bytes_long b 0 sequence (eqb-true b.space.spare 0 is) fits
    by false is fits = absurd fits

journal_held : (tags : List ℕ) (j : JournalList) → FitsBody kinds.Journal tags (held (bodies.Journal j) 0) → length (body_bytes kinds.Journal (held (bodies.Journal j) 0)) ≡ image_len (bodies.Journal j)
journal_held tags j fits = by ((j.spare == 0) && (j.unforced == 0)) fits
  where
    by : (c : Bool) → FitsCase (λ x. fits_from entry 1 x ≡ true) (cond c (Some j.entries) None) → length (print_by journal (cond c (Some j.entries) None)) ≡ entries_len j.entries
    by true fits = journal_long j.entries
    by false fits = absurd fits

-- ---- all kinds

pub read_long : (k : Kind) (tags : List ℕ) (b : Body) (sequence : ℕ) → FitsBody k tags (held b sequence) → length (body_bytes k (held b sequence)) ≡ image_len b
read_long kinds.Context tags bodies.Context zero h = refl
read_long kinds.Context tags _ zero h = absurd h
read_long kinds.Context tags _ (suc n) h = absurd h
read_long kinds.Program tags (bodies.Program p) zero h = text_long p.template
read_long kinds.Program tags _ zero h = absurd h
read_long kinds.Program tags _ (suc n) h = absurd h
read_long kinds.Profile tags (bodies.Profile s limit) zero h = refl
read_long kinds.Profile tags _ zero h = absurd h
read_long kinds.Profile tags _ (suc n) h = absurd h
read_long kinds.Space tags (bodies.Space cs) zero h = length_cells (take (length cs) (flags_in tags)) cs h.cells
read_long kinds.Space tags _ zero h = absurd h
read_long kinds.Space tags _ (suc n) h = absurd h
read_long kinds.Queue tags (bodies.Queue q) zero h = queue_long q
read_long kinds.Queue tags _ zero h = absurd h
read_long kinds.Queue tags _ (suc n) h = absurd h
read_long kinds.Index tags (bodies.Index i) zero h = index_long i
read_long kinds.Index tags _ zero h = absurd h
read_long kinds.Index tags _ (suc n) h = absurd h
read_long kinds.DataSpace tags (bodies.DataSpace d) n h = data_held tags d n h
read_long kinds.DataSpace tags _ n h = absurd h
read_long kinds.Cursor tags (bodies.Cursor c) zero h = refl
read_long kinds.Cursor tags _ zero h = absurd h
read_long kinds.Cursor tags _ (suc n) h = absurd h
read_long kinds.Port tags (bodies.Port p) zero h = refl
read_long kinds.Port tags _ zero h = absurd h
read_long kinds.Port tags _ (suc n) h = absurd h
read_long kinds.Journal tags (bodies.Journal j) zero h = journal_held tags j h
read_long kinds.Journal tags _ zero h = absurd h
read_long kinds.Journal tags _ (suc n) h = absurd h
read_long kinds.Block tags (bodies.Block b) zero h = refl
read_long kinds.Block tags _ zero h = absurd h
read_long kinds.Block tags _ (suc n) h = absurd h
