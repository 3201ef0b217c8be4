use Rattle.std.proofs.Common.{sym, ◌∙◌}
use Rattle.s38_base.specs.declared.attr.Attr.TheVariants.{Packed}
use Rattle.s38_operands.proofs.EntryLaws.{fields_left}
use Rattle.s38_operands.proofs.entries.+have_values_there.Goals as goal

pub returns-then-is_valued_there : goal.returns-then-is_valued_there
returns-then-is_valued_there t c =
    fields_left c.args.fields.now c.args.space.now c.args.at c.from.result (Packed 0 0) c.have_values_there.result
    c.in-len1-up.len_at_least c.requires.within (c.from.ensures ∙ c.length.ensures)
    (sym c.if-is_valued_there.true ∙ c.is_valued_there.ensures) c.have_values_there.ensures
