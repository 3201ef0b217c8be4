use Rattle.std.proofs.Common.{◌∙◌, sym}
use Rattle.s38_store_file.proofs.OpenLaws.{kept_where_counted}
use Rattle.s38_store_file.proofs.opening.can_be_kept.Goals as goal

pub returns : goal.returns
returns c is = kept_where_counted c.args.objects.now c.requires c.total_charge.result c.total_charge.ensures (sym c.is_some.ensures ∙ is)
