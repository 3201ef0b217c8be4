-- Lines and entries, one after another.
use Rattle.std.proofs.Common.{◌≡◌, ℕ, ◌+◌, ◌≤◌, List, [], ◌∷◌, ◌++◌, length, refl, sym, ap, ◌∙◌, arith, append_assoc}
use Rattle.std.proofs.lemmas.List.{length-append}
use Rattle.std.proofs.lemmas.List.Sums.{sum_by-cons}
use Rattle.std.specs.Prelude.{sum_by}
use Rattle.std.specs.List.{flat_map}
use Rattle.s38_image_writer.proofs.PrintLaws.{times_print}
use Rattle.s38_image.specs.Indexes.{index}
use Rattle.s38_codec.specs.Formats.{short_text, u32}
use Rattle.s38_image_writer.specs.Printing.{index_entry_bytes}
use Rattle.s38_indexes.specs.Entries.{AreShort, EntryIndex, IndexEntry, entry_size}
use Rattle.s38_template.specs.Grammar.{with_feed}
use Rattle.s38_template.specs.Printing.{printed_lines}

pub text_left : (lines more : List (List ℕ)) (line : List ℕ) → lines ≡ line ∷ more → length (printed_lines lines) ≡ 1 + (length line + length (printed_lines more))
text_left lines more line is =
    ap (λ (q : List (List ℕ)). length (printed_lines q)) is
    ∙ length-append (with_feed line) (printed_lines more)
    ∙ omega (arith, length-append line (10 ∷ []))

pub text_put : (old put new : List ℕ) (lines more : List (List ℕ)) (line : List ℕ) → lines ≡ line ∷ more → put ≡ old ++ line → new ≡ put ++ 10 ∷ [] → new ++ printed_lines more ≡ old ++ printed_lines lines
text_put old put new lines more line is one two =
    ap (λ (q : List ℕ). q ++ printed_lines more) (two ∙ ap (λ (q : List ℕ). q ++ 10 ∷ []) one ∙ append_assoc old line (10 ∷ []))
    ∙ append_assoc old (with_feed line) (printed_lines more)
    ∙ ap (λ (q : List (List ℕ)). old ++ printed_lines q) (sym is)

pub sizes_left : (entries more : List IndexEntry) (entry : IndexEntry) → entries ≡ entry ∷ more → sum_by entry_size entries ≡ 1 + length entry + sum_by entry_size more
sizes_left entries more entry is = ap (λ (q : List IndexEntry). sum_by entry_size q) is ∙ sum_by-cons entry_size entry more

pub entry_put : (old new : List ℕ) (entries more : List IndexEntry) (entry : IndexEntry) → entries ≡ entry ∷ more → new ≡ old ++ index_entry_bytes entry → new ++ flat_map index_entry_bytes more ≡ old ++ flat_map index_entry_bytes entries
entry_put old new entries more entry is one =
    ap (λ (q : List ℕ). q ++ flat_map index_entry_bytes more) one
    ∙ append_assoc old (index_entry_bytes entry) (flat_map index_entry_bytes more)
    ∙ ap (λ (q : List IndexEntry). old ++ flat_map index_entry_bytes q) (sym is)

pub short_up_to : (longest most : ℕ) (entries : List IndexEntry) → longest ≤ most → AreShort longest entries → AreShort most entries
short_up_to longest most [] le all = tt
short_up_to longest most (e ∷ entries) le all = let here = all.0 in (omega (arith, here, le), short_up_to longest most entries le all.1)

entries_printed : (longest : ℕ) (entries : List IndexEntry) → flat_map (short_text longest).print entries ≡ flat_map index_entry_bytes entries
entries_printed longest [] = refl
entries_printed longest (e ∷ entries) = ap (λ (q : List ℕ). index_entry_bytes e ++ q) (entries_printed longest entries)

-- an index in its pieces
pub index_bytes : (i : EntryIndex) → index.print i ≡ i.longest ∷ (u32.print (length i.entries) ++ flat_map index_entry_bytes i.entries)
index_bytes i = ap (λ (q : List ℕ). i.longest ∷ (u32.print (length i.entries) ++ q)) (times_print (short_text i.longest) i.entries ∙ entries_printed i.longest i.entries)
