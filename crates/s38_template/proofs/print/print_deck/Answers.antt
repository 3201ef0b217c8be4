use Rattle.std.proofs.Common.{◌++◌, ap, ◌∙◌, map}
use Rattle.std.specs.List.{flat_map}
use Rattle.s38_template.specs.Grammar.{stage_lines}
use Rattle.s38_template.specs.Printing.{job_line, printed_jobs, printed_lines}
use Rattle.s38_template.proofs.Printed.{printed_parts}
use Rattle.s38_template.proofs.print.print_deck.Goals as goal

pub returns : goal.returns
returns c =
    let deck = c.args.deck.now in
    let jobs = printed_jobs 0 c.as_slice-2.result.now in
    c.in_ok-add_jobs.ensures
    ∙ ap (λ t. t ++ jobs) (c.in_ok-add_templates.ensures ∙ ap (λ t. t ++ flat_map printed_lines c.as_slice.result.now) c.new-text.ensures.items)
    ∙ ap (λ ts. flat_map printed_lines ts ++ jobs) c.as_slice.ensures.items
    ∙ ap (λ js. flat_map printed_lines deck.templates ++ printed_jobs 0 js) c.as_slice-2.ensures.items
    ∙ printed_parts deck.templates (stage_lines 0 (map job_line deck.jobs) deck.jobs)
