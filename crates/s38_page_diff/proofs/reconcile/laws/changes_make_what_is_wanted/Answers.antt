use Rattle.s38_page_diff.proofs.reconcile.ContentLaws.{wanted_content}
use Rattle.s38_page_diff.proofs.reconcile.laws.changes_make_what_is_wanted.Goals as goal

pub returns : goal.returns
returns c = wanted_content
