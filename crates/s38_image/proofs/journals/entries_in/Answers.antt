use Rattle.std.proofs.Common.{◌≡◌, ◌-◌, ◌+◌, ◌∷◌, ◌++◌, [], true, length, ℕ, List, ap, sym, ◌∙◌, arith}
use Rattle.std.proofs.lemmas.Result.{err_from_is_err_and}
use Rattle.s38_codec.specs.Formats.{read_from}
use Rattle.s38_image.proofs.JournalReading.{fails, goes_on, is_end, is_past, one_longer, some_left, with_before}
use Rattle.s38_image.specs.Journals.{entry}
use Rattle.s38_journals.specs.Entries.{JournalRecord, logged_entry, may_be_at}
use Rattle.s38_image.proofs.journals.entries_in.Goals as goal

pub returns-then-is_empty-clause-read : goal.returns-then-is_empty-clause-read
returns-then-is_empty-clause-read c =
    is_end c.loop-place.journal.entries _ _ c.loop-place.rest.now _ (sym c.is_empty.ensures ∙ c.if-is_empty.true) c.loop-place.invariant.read

pub returns-in_err-entry-clause-read : goal.returns-in_err-entry-clause-read
returns-in_err-entry-clause-read c =
    let p = err_from_is_err_and c.from_residual.result c.from_residual.ensures.1 in
    let some = some_left (length c.loop-place.rest.now) (sym c.is_empty.ensures ∙ c.if-is_empty.false) in
    rw (p.1, p.2) (fails c.loop-place.journal.entries (length c.args.from.now) c.loop-place.place c.loop-place.rest.now c.in_err-entry.field-0.0 _ (omega (arith, c.loop-place-test.true)) some c.in_err-entry.ensures.read c.loop-place.invariant.read)

pub add-requires-clause-stands : goal.add-requires-clause-stands
add-requires-clause-stands c = ap (λ (n : ℕ). may_be_at (n + 1) (logged_entry c.in_ok-entry.entry)) c.loop-place.invariant.count ∙ c.in_ok-entry.ensures.stands

pub loop-place-preserved : goal.loop-place-preserved
loop-place-preserved c =
    let some = some_left (length c.loop-place.rest.now) (sym c.is_empty.ensures ∙ c.if-is_empty.false) in
    let n = length c.args.from.now in
    let place = c.loop-place.place in
    let after = c.in_ok-entry.after.now in
    let entries = c.in_ok-add.ensures.entries in
    record {
      read = ap (λ (es : List JournalRecord). with_before es (read_from entry (n - (place + 1)) (place + 1 + 1) after)) entries
          ∙ goes_on c.loop-place.journal.entries n place c.loop-place.rest.now (logged_entry c.in_ok-entry.entry) after _ (omega (arith, c.loop-place-test.true)) some c.in_ok-entry.ensures.read c.loop-place.invariant.read;
      count = ap (λ (es : List JournalRecord). length es) entries ∙ one_longer c.loop-place.journal.entries (logged_entry c.in_ok-entry.entry) place c.loop-place.invariant.count;
      spare = c.in_ok-add.ensures.spare;
    }

pub returns-then-not-is_empty-clause-read : goal.returns-then-not-is_empty-clause-read
returns-then-not-is_empty-clause-read c =
    is_past c.loop-place.journal.entries (length c.args.from.now) c.loop-place.place _ c.loop-place.rest.now _ (omega (arith, c.loop-place-test.false)) (some_left (length c.loop-place.rest.now) (sym c.is_empty-2.ensures ∙ c.if-not-is_empty.true)) c.loop-place.invariant.read

pub returns-clause-read : goal.returns-clause-read
returns-clause-read c =
    is_end c.loop-place.journal.entries _ _ c.loop-place.rest.now _ (sym c.is_empty-2.ensures ∙ c.if-not-is_empty.false) c.loop-place.invariant.read
