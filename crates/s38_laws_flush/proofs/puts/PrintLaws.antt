-- The bytes of the entries of a journal space, one after another.
use Rattle.std.proofs.Common.{◌≡◌, ◌∙◌, ℕ, ◌+◌, List, [], ◌∷◌, ◌++◌, refl, sym, ap}
use Rattle.std.proofs.lemmas.List.{append_assoc}
use Rattle.s38_codec.specs.Formats.{print_from}
use Rattle.s38_image.specs.Journals.{entry, journal}
use Rattle.s38_journals.specs.Entries.{JournalRecord}

-- those of more entries follow
printed_from : (es fs : List JournalRecord) (k : ℕ) → (more : List ℕ) × (print_from entry k (es ++ fs) ≡ print_from entry k es ++ more)
unfolding print_from
printed_from [] fs k = (print_from entry k fs, refl)
printed_from (e ∷ es) fs k =
    let rest = printed_from es fs (k + 1) in
    (rest.0, ap (λ (bs : List ℕ). (entry k).print e ++ bs) rest.1 ∙ sym (append_assoc ((entry k).print e) (print_from entry (k + 1) es) rest.0))

pub printed_more : (es fs : List JournalRecord) → (more : List ℕ) × (journal.print (es ++ fs) ≡ journal.print es ++ more)
printed_more es fs = printed_from es fs 1

-- no entry has no byte
pub printed_none : journal.print [] ≡ []
unfolding print_from
printed_none = refl
