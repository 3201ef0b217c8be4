use Rattle.std.proofs.Common.{◌≡◌, ◌+◌, sym, ap, ◌∙◌, arith, length}
use Rattle.std.proofs.lemmas.Bool.{leb-true}
use Rattle.std.specs.List.{slice_split}
use Rattle.s38_template.specs.Reading.{after_line, bad_or, is_feed, read_of, read_on, rest_at}
use Rattle.s38_template.specs.Views.{state_of}
use Rattle.s38_template.proofs.Ends.{loop_first, loop_last, loop_more, loop_rest, turned}
use Rattle.s38_template.proofs.Texts.{rest_falls}
use Rattle.s38_template.proofs.read.read.Goals as goal

pub loop-line-init : goal.loop-line-init
loop-line-init c = (ap (λ s. read_on s 0 1 (slice_split is_feed c.args.text.now)) c.start-reader.ensures ∙ loop_first c.args.text.now, (omega arith, omega arith))

pub returns-in-Ok-Some : goal.returns-in-Ok-Some
returns-in-Ok-Some c =
    let s = state_of c.loop-line.reader in
    let line = c.in-Some.field-0.line.now in
    let more = read_on (after_line s line) (c.loop-line.size + length line + 1) (c.loop-line.number + 1) (slice_split is_feed c.in-Some.field-0.more.now) in
    sym c.loop-line.invariant.0
    ∙ loop_more s c.loop-line.size c.loop-line.number c.loop-line.rest.now (line, c.in-Some.field-0.more.now) (sym c.in-Some.ensures.parts)
    ∙ ap (λ o. bad_or c.loop-line.number o more) (sym c.in-Ok-Some.ensures.code ∙ c.in-Ok-Some.field-0-is)

pub loop-line-smaller : goal.loop-line-smaller
loop-line-smaller c = rest_falls 10 c.loop-line.rest.now (c.in-Some.field-0.line.now, c.in-Some.field-0.more.now) (sym c.in-Some.ensures.parts)

pub loop-line-preserved : goal.loop-line-preserved
loop-line-preserved c =
    let s = state_of c.loop-line.reader in
    let line = c.in-Some.field-0.line.now in
    let size = c.loop-line.size + length line + 1 in
    let parts = slice_split is_feed c.in-Some.field-0.more.now in
    let more = read_on (after_line s line) size (c.loop-line.number + 1) parts in
    let t = turned s size line (sym c.in-Ok-None.ensures.code ∙ c.in-Ok-None.field-0-is) in
    let same : read_on (state_of c.turn.new.reader) size (c.loop-line.number + 1) parts ≡ read_of c.args.text.now =
    ap (λ u. read_on u size (c.loop-line.number + 1) parts) (c.in-Ok-None.ensures.after c.in-Ok-None.field-0-is)
    ∙ sym (ap (λ o. bad_or c.loop-line.number o more) (sym c.in-Ok-None.ensures.code ∙ c.in-Ok-None.field-0-is))
    ∙ sym (loop_more s c.loop-line.size c.loop-line.number c.loop-line.rest.now (line, c.in-Some.field-0.more.now) (sym c.in-Some.ensures.parts))
    ∙ c.loop-line.invariant.0
    in
    (same, (leb-true size 4194304 t.small, omega (arith, c.loop-line.invariant.1.1)))

pub returns : goal.returns
returns c =
    let s = state_of c.loop-line.reader in
    loop_last c.rest_at.result (rest_at s c.loop-line.number c.loop-line.rest.now) (read_of c.args.text.now) c.rest_at.ensures
    (sym (loop_rest s c.loop-line.size c.loop-line.number c.loop-line.rest.now (sym c.in_default.ensures.parts)) ∙ c.loop-line.invariant.0)
