use Rattle.std.proofs.Common.{◌≡◌, ◌∙◌, ℕ, ◌+◌, ◌≤◌, [], ◌∷◌, ◌++◌, ap, arith, length, map, refl, sym}
use Rattle.std.specs.Prelude.{sum_by}
use Rattle.s38_journals.specs.Entries.{entry_image, logged_entry}
use Rattle.s38_journals.specs.Journals.{JournalList}
use Rattle.s38_journals.specs.Stored.{KeptPieces, entry_of}
use Rattle.s38_journals.proofs.EntryLaws.{image_length}
use Rattle.s38_journals.proofs.JournalLaws.{entries_pushed, journal_pushed}
use Rattle.s38_journals.proofs.journal.Journal.append.Goals as goal

pub overflow_add-self : goal.overflow_add-self
overflow_add-self c =
    let e = logged_entry c.args.entry.now in
    let pieces = c.self.inside.pieces.pieces in
    let n = c.last-sequence.result + 1 in
    let last : n ≡ length (map entry_of pieces) + 1 = ap (λ (k : ℕ). k + 1) (c.last-sequence.ensures.last ∙ sym (ap (λ (j : JournalList). length j.entries) c.self.view_is)) in
    let unit : e.unit ≤ n = let at = c.last-sequence.ensures.last in let may = c.requires.unit in omega arith in
    let kept = journal_pushed c.self.inside.unforced pieces n e c.push_entry.ensures.fits c.requires.before c.requires.after last unit c.requires.end c.self.invariant in
    let same : c.push_entry.new.pieces.pieces ≡ pieces ++ entry_image n e ∷ [] = ap (λ (k : KeptPieces). k.pieces) c.push_entry.ensures.pushed in
    let small : sum_by length (pieces ++ entry_image n e ∷ []) ≤ 16777216 = rw same at c.push_entry.ensures.small in
    let within = kept.within in
    let len = c.push_entry.ensures.len in
    omega arith

pub invariant_of-self : goal.invariant_of-self
invariant_of-self c =
    let e = logged_entry c.args.entry.now in
    let pieces = c.self.inside.pieces.pieces in
    let n = c.last-sequence.result + 1 in
    let last : n ≡ length (map entry_of pieces) + 1 = ap (λ (k : ℕ). k + 1) (c.last-sequence.ensures.last ∙ sym (ap (λ (j : JournalList). length j.entries) c.self.view_is)) in
    let unit : e.unit ≤ n = let at = c.last-sequence.ensures.last in let may = c.requires.unit in omega arith in
    let same : c.push_entry.new.pieces.pieces ≡ pieces ++ entry_image n e ∷ [] = ap (λ (k : KeptPieces). k.pieces) c.push_entry.ensures.pushed in
    rw (same, c.push_entry.ensures.len) (journal_pushed c.self.inside.unforced pieces n e c.push_entry.ensures.fits c.requires.before c.requires.after last unit c.requires.end c.self.invariant)

pub returns-clause-appended : goal.returns-clause-appended
returns-clause-appended c =
    let e = logged_entry c.args.entry.now in
    let pieces = c.self.inside.pieces.pieces in
    let n = c.last-sequence.result + 1 in
    let more = entries_pushed pieces n e c.push_entry.ensures.fits c.requires.before in
    rw (sym c.self.view_is, c.push_entry.ensures.pushed, c.push_entry.ensures.len, more, image_length n e) refl
