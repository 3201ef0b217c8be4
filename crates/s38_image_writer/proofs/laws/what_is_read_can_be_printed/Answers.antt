use Rattle.s38_image_writer.proofs.KindLaws.{read_printable}
use Rattle.s38_image_writer.proofs.laws.what_is_read_can_be_printed.Goals as goal

pub returns : goal.returns
returns c = read_printable
