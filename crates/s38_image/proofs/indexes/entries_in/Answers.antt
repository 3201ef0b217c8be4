use Rattle.std.proofs.Common.{◌≡◌, ◌-◌, ◌+◌, ◌∷◌, ◌++◌, [], true, Bool, cond, eqb, length, List, Option, Some, None, ap, sym, ◌∙◌}
use Rattle.std.specs.Option.{option_copied}
use Rattle.std.proofs.lemmas.Result.{err_from_is_err_and}
use Rattle.s38_codec.specs.Codec.{times}
use Rattle.s38_codec.specs.Formats.{short_text}
use Rattle.s38_codec.specs.declared.fault.ReadFault.TheVariants as faults
use Rattle.s38_codec.proofs.Loop.{goes_on, whole_done, whole_ends, with_front}
use Rattle.s38_image.proofs.IndexReading.{last_added, not_rising, rising_added}
use Rattle.s38_image.proofs.ReadLaws.{breaks, whole_fails, whole_kept}
use Rattle.s38_image.specs.Indexes.{entries_rise}
use Rattle.s38_image.specs.Steps.{is_after, last_of}
use Rattle.s38_indexes.specs.Entries.{EntryIndex, IndexEntry}
use Rattle.s38_image.proofs.indexes.entries_in.Goals as goal

pub returns-in_err-entry-clause-read : goal.returns-in_err-entry-clause-read
returns-in_err-entry-clause-read c =
    let p = err_from_is_err_and c.from_residual.result c.from_residual.ensures.1 in
    let text = short_text c.args.longest in
    rw (p.1, p.2) (whole_fails entries_rise (times c.args.count text) c.args.from.now c.in_err-entry.field-0.0
    (whole_ends text c.in_err-entry.field-0.0 c.loop.index.entries c.args.count c.loop.counter c.loop.rest.now c.args.from.now c.loop-test.true c.in_err-entry.ensures.read c.loop.invariant.read))

pub returns-then-not-is_after-clause-read : goal.returns-then-not-is_after-clause-read
returns-then-not-is_after-clause-read c =
    let front = c.loop.index.entries in
    let entry = c.in_ok-entry.entry.now in
    let falls = rising_added front entry c.loop.invariant.rising ∙ ap (λ (p : Option IndexEntry). is_after p entry) c.loop.invariant.last ∙ sym c.is_after.ensures ∙ c.if-not-is_after.true in
    breaks entries_rise (short_text c.args.longest) front c.args.count c.loop.counter c.loop.rest.now c.args.from.now entry c.in_ok-entry.after.now c.loop-test.true c.in_ok-entry.ensures.read
    (λ more. not_rising (front ++ entry ∷ []) more falls) c.loop.invariant.read

pub add-requires : goal.add-requires
add-requires c =
    let front = c.loop.index.entries in
    let entry = c.in_ok-entry.entry.now in
    rising_added front entry c.loop.invariant.rising ∙ ap (λ (p : Option IndexEntry). is_after p entry) c.loop.invariant.last ∙ sym c.is_after.ensures ∙ c.if-not-is_after.false

pub loop-preserved : goal.loop-preserved
loop-preserved c =
    let front = c.loop.index.entries in
    let entry = c.in_ok-entry.entry.now in
    let after = c.in_ok-entry.after.now in
    let same = c.in_ok-add.ensures.ok in
    let entries = ap (λ (i : EntryIndex). i.entries) same in
    let rises = rising_added front entry c.loop.invariant.rising ∙ ap (λ (p : Option IndexEntry). is_after p entry) c.loop.invariant.last ∙ sym c.is_after.ensures ∙ c.if-not-is_after.false in
    record {
      read = ap (λ (es : List IndexEntry). with_front es ((times (c.args.count - (c.loop.counter + 1)) (short_text c.args.longest)).read after)) entries
          ∙ goes_on (short_text c.args.longest) front c.args.count c.loop.counter c.loop.rest.now entry after _ c.loop-test.true c.in_ok-entry.ensures.read c.loop.invariant.read;
      longest = ap (λ (i : EntryIndex). i.longest) same ∙ c.loop.invariant.longest;
      rising = ap entries_rise entries ∙ rises;
      last = ap last_of entries ∙ last_added front entry;
    }

pub returns-then-not-is_empty-clause-read : goal.returns-then-not-is_empty-clause-read
returns-then-not-is_empty-clause-read c =
    let text = short_text c.args.longest in
    let none = whole_done text c.loop.index.entries c.args.count c.loop.counter c.loop.rest.now c.args.from.now c.loop-test.false c.loop.invariant.read
    ∙ ap (λ (b : Bool). cond b (Some c.loop.index.entries) None) (sym c.is_empty.ensures ∙ c.if-not-is_empty.true) in
    whole_fails entries_rise (times c.args.count text) c.args.from.now faults.BadForm none

pub returns-clause-read : goal.returns-clause-read
returns-clause-read c =
    let text = short_text c.args.longest in
    let all = whole_done text c.loop.index.entries c.args.count c.loop.counter c.loop.rest.now c.args.from.now c.loop-test.false c.loop.invariant.read
    ∙ ap (λ (b : Bool). cond b (Some c.loop.index.entries) None) (sym c.is_empty.ensures ∙ c.if-not-is_empty.false) in
    whole_kept entries_rise (times c.args.count text) c.args.from.now c.loop.index.entries all c.loop.invariant.rising
