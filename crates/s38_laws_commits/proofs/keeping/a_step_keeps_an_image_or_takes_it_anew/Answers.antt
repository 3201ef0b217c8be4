use Rattle.s38_laws_commits.proofs.RenewLaws.{gone_kept, new_kept, old_kept}
use Rattle.s38_laws_commits.proofs.keeping.a_step_keeps_an_image_or_takes_it_anew.Goals as goal

pub returns-clause-anew : goal.returns-clause-anew
returns-clause-anew c = λ all d s n o rising found on new. new_kept all d s rising n o found on new

pub returns-clause-stays : goal.returns-clause-stays
returns-clause-stays c = λ all d s n o x rising found on old is. old_kept all d s rising n o x found on old is

pub returns-clause-gone : goal.returns-clause-gone
returns-clause-gone c = λ all d s n rising found. gone_kept all d s rising n found
