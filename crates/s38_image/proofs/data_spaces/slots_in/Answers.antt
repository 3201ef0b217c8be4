use Rattle.std.proofs.Common.{◌≡◌, ◌-◌, ◌+◌, Bool, cond, List, Some, None, ap, subst, sym, ◌∙◌}
use Rattle.std.proofs.lemmas.Result.{err_from_is_err_and}
use Rattle.s38_base.specs.declared.attr.Attr.{Attr}
use Rattle.s38_codec.specs.Codec.{times}
use Rattle.s38_codec.specs.Reading.{Fails}
use Rattle.s38_codec.proofs.Loop.{goes_on, whole_done, whole_ends, with_front}
use Rattle.s38_dataspaces.specs.Entries.{DataEntry}
use Rattle.s38_dataspaces.specs.Table.{DataTable}
use Rattle.s38_image.specs.DataSpaces.{slot}
use Rattle.s38_image.specs.Steps.{slot_value}
use Rattle.s38_image.proofs.data_spaces.slots_in.Goals as goal

pub returns-in_err-stands-clause-read : goal.returns-in_err-stands-clause-read
returns-in_err-stands-clause-read c =
    let p = err_from_is_err_and c.from_residual.result c.from_residual.ensures.1 in
    let fails = subst (λ (fs : List Attr). Fails c.in_err-stands.field-0.0 ((slot fs).read c.loop.rest.now)) c.loop.invariant.fields c.in_err-stands.ensures.read in
    rw (p.1, p.2) (whole_ends (slot c.args.fields) c.in_err-stands.field-0.0 c.loop.space.entries c.args.count c.loop.counter c.loop.rest.now c.args.from.now c.loop-test.true fails c.loop.invariant.read)

pub loop-preserved : goal.loop-preserved
loop-preserved c =
    let same = c.in_ok-add.ensures.ok in
    let value = slot_value c.in_ok-stands.stands c.in_ok-stands.entry.now in
    let after = c.in_ok-stands.after.now in
    let read = subst (λ (fs : List Attr). (slot fs).read c.loop.rest.now ≡ Some (value, after)) c.loop.invariant.fields c.in_ok-stands.ensures.read in
    record {
      read = ap (λ (es : List DataEntry). with_front es ((times (c.args.count - (c.loop.counter + 1)) (slot c.args.fields)).read after)) (ap (λ (t : DataTable). t.entries) same)
          ∙ goes_on (slot c.args.fields) c.loop.space.entries c.args.count c.loop.counter c.loop.rest.now value after _ c.loop-test.true read c.loop.invariant.read;
      fields = ap (λ (t : DataTable). t.fields) same ∙ c.loop.invariant.fields;
      spare = ap (λ (t : DataTable). t.spare) same;
    }

pub returns-then-not-is_empty-clause-read : goal.returns-then-not-is_empty-clause-read
returns-then-not-is_empty-clause-read c =
    whole_done (slot c.args.fields) c.loop.space.entries c.args.count c.loop.counter c.loop.rest.now c.args.from.now c.loop-test.false c.loop.invariant.read
    ∙ ap (λ (b : Bool). cond b (Some c.loop.space.entries) None) (sym c.is_empty.ensures ∙ c.if-not-is_empty.true)

pub returns-clause-read : goal.returns-clause-read
returns-clause-read c =
    whole_done (slot c.args.fields) c.loop.space.entries c.args.count c.loop.counter c.loop.rest.now c.args.from.now c.loop-test.false c.loop.invariant.read
    ∙ ap (λ (b : Bool). cond b (Some c.loop.space.entries) None) (sym c.is_empty.ensures ∙ c.if-not-is_empty.false)
