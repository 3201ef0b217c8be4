use Rattle.s38_store_file.proofs.StrayLaws.{cleaned_ceiling, cleaned_kept, read_ceiling_kept, read_kept}
use Rattle.s38_store_file.proofs.laws.what_is_kept_stays.Goals as goal

pub returns-clause-objects : goal.returns-clause-objects
returns-clause-objects c = read_kept

pub returns-clause-ceiling : goal.returns-clause-ceiling
returns-clause-ceiling c = read_ceiling_kept

pub returns-clause-cleaned : goal.returns-clause-cleaned
returns-clause-cleaned c = cleaned_kept

pub returns-clause-cleaned_ceiling : goal.returns-clause-cleaned_ceiling
returns-clause-cleaned_ceiling c = cleaned_ceiling
