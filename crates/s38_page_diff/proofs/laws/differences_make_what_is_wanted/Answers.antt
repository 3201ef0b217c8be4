use Rattle.s38_page_diff.proofs.LookLaws.{differences_made}
use Rattle.s38_page_diff.proofs.laws.differences_make_what_is_wanted.Goals as goal

pub returns : goal.returns
returns c = λ m range wanted key. differences_made m range wanted key
