use Rattle.s38_image_writer.proofs.DataLaws.{front_zeros}
use Rattle.s38_image_writer.proofs.data_spaces.zeros.Goals as goal

pub returns : goal.returns
returns c = front_zeros c.args.len 4096 c.requires
