use Rattle.s38_top.proofs.closing.closing_laws.Goals as goal

pub returns : goal.returns
returns c = record {
  kept = c.what_is_durable_is_kept.ensures.histories;
  trail = c.what_is_kept_of_journal_spaces_is_their_beginning.ensures.histories;
  left = c.each_object_is_closed_by_one_put.ensures.left;
  short = c.each_object_is_closed_by_one_put.ensures.short;
}
