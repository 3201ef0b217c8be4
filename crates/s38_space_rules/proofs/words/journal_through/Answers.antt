use Rattle.std.proofs.Common.{◌∙◌, sym}
use Rattle.s38_space_rules.proofs.CreationLaws.{journaled_through, unjournaled}
use Rattle.s38_space_rules.proofs.words.journal_through.Goals as goal

pub returns-then-is_data_space : goal.returns-then-is_data_space
returns-then-is_data_space c =
    c.journal_of_port.ensures ∙ sym (journaled_through c.args.objects.now c.args.space.0 c.args.port.0 (sym c.is_data_space.ensures ∙ c.if-is_data_space.true))

pub returns-else-is_data_space : goal.returns-else-is_data_space
returns-else-is_data_space c =
    c.journal_for.ensures ∙ sym (unjournaled c.args.objects.now c.args.space.0 c.args.port.0 (sym c.is_data_space.ensures ∙ c.if-is_data_space.false))
