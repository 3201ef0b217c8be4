use Rattle.std.proofs.Common.{◌≡◌, ◌<◌, ◌^◌, ◌∙◌, ap, arith, length}
use Rattle.s38_redo_log.specs.Coding.{key_in, page_in}
use Rattle.s38_redo_log.proofs.HomeLaws.{home_key, home_page}
use Rattle.s38_redo_log.proofs.coding.block_of.Goals as goal

pub returns-clause-key : goal.returns-clause-key
returns-clause-key c = ap key_in c.encoded.ensures.block ∙ home_key c.args.key c.args.page.now (omega arith) (omega arith)

pub returns-clause-page : goal.returns-clause-page
returns-clause-page c = ap page_in c.encoded.ensures.block ∙ home_page c.args.key c.args.page.now c.encoded.ensures.size c.encoded.ensures.tags
