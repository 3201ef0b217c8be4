use Rattle.std.proofs.Common.{◌≡◌, ℕ, ◌∙◌, List, length, ap, subst, sym, arith}
use Rattle.s38_code.specs.declared.program.Program.{Program}
use Rattle.s38_image_writer.proofs.LengthLaws.{text_long}
use Rattle.s38_rules.specs.store.Storable.{HasShortText}
use Rattle.s38_template.specs.Printing.{printed_lines}
use Rattle.s38_tests_store.proofs.image.parts.short_text.Goals as goal

pub returns : goal.returns
returns c =
    let p = c.in-Program.code in
    let lines : c.template.result.now ≡ p.template = c.template.ensures ∙ ap (λ (q : Program). q.template) c.program.ensures in
    let text = ap (λ (bytes : List ℕ). length bytes) (c.in_ok-print_template.ensures ∙ ap (λ (q : List (List ℕ)). printed_lines q) lines) in
    subst HasShortText (sym c.in-Program.is) (omega (arith, text, text_long p.template, c.in_ok-print_template.field-0.ok.0, c.len.ensures, c.if-len-gt16777216.false))
