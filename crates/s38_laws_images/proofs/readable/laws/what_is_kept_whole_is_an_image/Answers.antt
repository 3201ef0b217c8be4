use Rattle.s38_laws_images.proofs.readable.LastLaws.{whole_again}
use Rattle.s38_laws_images.proofs.readable.laws.what_is_kept_whole_is_an_image.Goals as goal

pub returns : goal.returns
returns c = λ s o all settles again. whole_again s o all settles again
