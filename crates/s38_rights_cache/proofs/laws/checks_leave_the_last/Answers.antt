use Rattle.s38_rights_cache.proofs.AskLaws.{found_last, found_others}
use Rattle.s38_rights_cache.proofs.laws.checks_leave_the_last.Goals as goal

pub returns : goal.returns
returns c = record {
  last = λ w p d objects o steady live. found_last w p d objects o live steady.right.places;
  others = λ w p d q objects other. found_others w p d q objects other;
}
