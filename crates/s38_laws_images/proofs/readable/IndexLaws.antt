-- Which indexes are read again as they were printed.
use Rattle.std.proofs.Common.{◌≡◌, ℕ, ◌<◌, ◌≤◌, ◌^◌, true, List, [], ◌∷◌, ap, length, refl, arith}
use Rattle.std.proofs.lemmas.Bool.{eq-eqb, lt-ltb}
use Rattle.std.specs.Prelude.{nat_le}
use Rattle.std.specs.declared.cmp.Ordering.{Ordering}
use Rattle.s38_base.specs.Relations.{holds}
use Rattle.s38_base.specs.declared.words.Relation.TheVariants.{Lo}
use Rattle.s38_codec.proofs.CodecLaws.{and_true}
use Rattle.s38_codec.specs.Codec.{byte, bytes, copies, fits_each, only}
use Rattle.s38_codec.specs.Formats.{list_of, short_text}
use Rattle.s38_image.specs.Indexes.{entries_rise, index, is_index}
use Rattle.s38_indexes.specs.Entries.{AreShort, EntryIndex, IndexEntry, IsRising, entry_size, is_in_relation}
use Rattle.s38_laws_images.proofs.readable.ListLaws.{at_most, length_sum, list_fits}
use Rattle.s38_laws_images.specs.openings.Bodies.{IsIndex}

entry_fits : (longest : ℕ) (e : IndexEntry) → longest ≤ 120 → length e ≤ longest → (short_text longest).fits e ≡ true
entry_fits longest e most short =
    let small : length e < 256 = omega (arith, most, short) in
    and_true ((only (λ k. nat_le k longest) byte).fits (length e)) ((bytes (length e)).fits e)
    (and_true (nat_le (length e) longest) (byte.fits (length e)) (at_most (length e) longest short) (lt-ltb (length e) 256 small))
    (eq-eqb (length e) (length e) refl)

entries_fit : (longest : ℕ) (es : List IndexEntry) → longest ≤ 120 → AreShort longest es → fits_each (copies (length es) (short_text longest)) es ≡ true
unfolding fits_each copies
entries_fit longest [] most short = refl
entries_fit longest (e ∷ es) most short = and_true ((short_text longest).fits e) _ (entry_fits longest e most short.0) (entries_fit longest es most short.1)

rise : (es : List IndexEntry) → IsRising es → entries_rise es ≡ true
rise [] rising = refl
rise (e ∷ []) rising = refl
rise (e ∷ f ∷ es) rising = and_true (is_in_relation Lo f e) (entries_rise (f ∷ es)) (ap (λ (o : Ordering). holds Lo o) rising.0.0) (rise (f ∷ es) rising.1)

some_bytes : (e : IndexEntry) → 1 ≤ entry_size e
some_bytes e = omega arith

pub index_fits : (limit : ℕ) (i : EntryIndex) → limit ≤ 16777216 → IsIndex limit i → index.fits i ≡ true
index_fits limit i small is =
    let longest : i.longest < 256 = omega (arith, is.most) in
    let few : length i.entries < 2 ^ 32 = omega (arith, length_sum entry_size some_bytes i.entries, is.image, small) in
    and_true ((only is_index byte).fits i.longest) _
    (and_true (is_index i.longest) (byte.fits i.longest) (and_true (nat_le 1 i.longest) (nat_le i.longest 120) (at_most 1 i.longest is.some) (at_most i.longest 120 is.most)) (lt-ltb i.longest 256 longest))
    (and_true (entries_rise i.entries) ((list_of (short_text i.longest)).fits i.entries) (rise i.entries is.rising)
    (list_fits (short_text i.longest) i.entries few (entries_fit i.longest i.entries is.most is.short)))
