use Rattle.std.proofs.Common.{◌∙◌, ap, sym}
use Rattle.std.specs.Option.{option_copied, option_map}
use Rattle.s38_base.specs.declared.id.ObjNum.{ObjNum}
use Rattle.s38_checkpoint.proofs.FoundLaws.{ahead_below, ahead_off, ahead_some, ahead_there}
use Rattle.s38_checkpoint.proofs.next.journal_ahead.Goals.{else-space-journal-via-then-space-journal+else-journal, else-space-journal-via-else-space-journal}
use Rattle.s38_checkpoint.proofs.next.journal_ahead.Goals as goal

pub returns-then-journal-clause-number : goal.returns-then-journal-clause-number
returns-then-journal-clause-number c =
    ahead_some c.args.objects.now c.args.space.0 c.in_ok-journal_of.field-0.0 c.in_ok-journal.journal.now
    (sym c.journal_of.ensures ∙ ap (option_map (λ (n : ObjNum). n.0)) c.in_ok-journal_of.was) (sym c.get.ensures ∙ ap option_copied c.in_ok-journal.was)
    c.if-space-journal.true c.if-journal.true

pub returns-then-journal-clause-there : goal.returns-then-journal-clause-there
returns-then-journal-clause-there c =
    ahead_there c.args.objects.now c.args.space.0 c.in_ok-journal_of.field-0.0 c.in_ok-journal.journal.now
    (sym c.journal_of.ensures ∙ ap (option_map (λ (n : ObjNum). n.0)) c.in_ok-journal_of.was) (sym c.get.ensures ∙ ap option_copied c.in_ok-journal.was)

pub returns-else-space-journal-clause-number : goal.returns-else-space-journal-clause-number
returns-else-space-journal-clause-number c =
    let h = c.args.objects.now in
    let n = c.args.space.0 in
    let j = c.in_ok-journal_of.field-0.0 in
    let o = c.in_ok-journal.journal.now in
    let for = sym c.journal_of.ensures ∙ ap (option_map (λ (n : ObjNum). n.0)) c.in_ok-journal_of.was in
    let is = sym c.get.ensures ∙ ap option_copied c.in_ok-journal.was in
    elim c.else-space-journal.branch [
      | else-space-journal-via-then-space-journal+else-journal w ↦ ahead_off h n j o for is w.if-journal.false
      | else-space-journal-via-else-space-journal w ↦ ahead_below h n j o for is w.if-space-journal.false
    ]
