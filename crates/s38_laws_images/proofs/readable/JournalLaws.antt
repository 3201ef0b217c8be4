-- Which journal spaces are read again as they were printed.
use Rattle.std.proofs.Common.{◌≡◌, ℕ, suc, ◌+◌, ◌<◌, ◌≤◌, ◌^◌, true, List, [], ◌∷◌, length, refl, subst, arith}
use Rattle.std.proofs.lemmas.Bool.{eq-eqb, lt-ltb}
use Rattle.std.specs.Prelude.{nat_le, nat_lt, ◌&&◌}
use Rattle.s38_codec.proofs.CodecLaws.{and_true, both_true}
use Rattle.s38_codec.specs.Formats.{fits_from}
use Rattle.s38_image.proofs.HeaderLaws.{at_most}
use Rattle.s38_image.specs.Journals.{entry, entry_fields, entry_format, entry_kind, is_entry}
use Rattle.s38_journals.specs.Entries.{JournalRecord, fits_head, journal_entry_len, may_be_at}
use Rattle.s38_journals.specs.Journals.{may_all_be_from}
use Rattle.s38_journals.specs.declared.entry.EntryKind.TheVariants as kinds
use Rattle.s38_journals.specs.declared.entry.EntryKind.{EntryKind}

kind_fits : (k : EntryKind) → entry_kind.fits k ≡ true
kind_fits kinds.Insert = refl
kind_fits kinds.Update = refl
kind_fits kinds.Delete = refl
kind_fits kinds.Commit = refl
kind_fits kinds.Decommit = refl

numbers_fit : (sequence : ℕ) (e : JournalRecord) → sequence < 2 ^ 64 → length e.before ≤ 65535 → length e.after ≤ 65535 → fits_head e ≡ true → entry_format.fits (entry_fields sequence e) ≡ true
numbers_fit sequence e early before after fit =
    let parts = both_true (nat_lt e.unit (2 ^ 64) && nat_lt e.process (2 ^ 32)) (nat_lt e.object.0 (2 ^ 64) && nat_lt e.ordinal (2 ^ 32)) fit in
    let first = both_true (nat_lt e.unit (2 ^ 64)) (nat_lt e.process (2 ^ 32)) parts.0 in
    let second = both_true (nat_lt e.object.0 (2 ^ 64)) (nat_lt e.ordinal (2 ^ 32)) parts.1 in
    let len : journal_entry_len e < 2 ^ 32 = omega (arith, before, after) in
    let short_before : length e.before < 2 ^ 16 = omega (arith, before) in
    let short_after : length e.after < 2 ^ 16 = omega (arith, after) in
    and_true _ _ (lt-ltb (journal_entry_len e) (2 ^ 32) len) (and_true _ _ (lt-ltb sequence (2 ^ 64) early) (and_true _ _ first.0 (and_true _ _ first.1
    (and_true _ _ (kind_fits e.kind) (and_true _ _ second.0 (and_true _ _ second.1
    (and_true _ _ (lt-ltb (length e.before) (2 ^ 16) short_before) (and_true _ _ (lt-ltb (length e.after) (2 ^ 16) short_after)
    (and_true _ _ (eq-eqb (length e.before) (length e.before) refl) (eq-eqb (length e.after) (length e.after) refl))))))))))

entry_fits : (sequence : ℕ) (e : JournalRecord) → sequence < 2 ^ 64 → may_be_at sequence e ≡ true → fits_head e ≡ true → (entry sequence).fits e ≡ true
entry_fits sequence e early stands fit =
    let short = both_true (nat_le (length e.before) 65535) (nat_le (length e.after) 65535) (both_true _ _ stands).1 in
    and_true (is_entry sequence (entry_fields sequence e)) (entry_format.fits (entry_fields sequence e))
    (and_true _ _ (and_true _ _ (eq-eqb (journal_entry_len e) (journal_entry_len e) refl) (eq-eqb sequence sequence refl)) stands)
    (numbers_fit sequence e early (at_most (length e.before) 65535 short.0) (at_most (length e.after) 65535 short.1) fit)

pub entries_fit : (sequence : ℕ) (es : List JournalRecord) → sequence + length es < 2 ^ 64 → may_all_be_from sequence es ≡ true → fits_from entry sequence es ≡ true
unfolding fits_from
entries_fit sequence [] early stand = refl
entries_fit sequence (e ∷ es) early stand =
    let both = both_true (may_be_at sequence e && fits_head e) (may_all_be_from (suc sequence) es) stand in
    let here = both_true (may_be_at sequence e) (fits_head e) both.0 in
    let next : suc sequence ≡ sequence + 1 = omega arith in
    and_true ((entry sequence).fits e) _ (entry_fits sequence e (omega (arith, early)) here.0 here.1)
    (entries_fit (sequence + 1) es (omega (arith, early)) (subst (λ (n : ℕ). may_all_be_from n es ≡ true) next both.1))
