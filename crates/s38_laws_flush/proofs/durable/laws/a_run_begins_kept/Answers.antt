use Rattle.s38_laws_flush.proofs.durable.BeginLaws.{begins_kept}
use Rattle.s38_laws_flush.specs.durable.Beginning.{cleaned, durable_in}
use Rattle.s38_laws_flush.proofs.durable.HoldLaws.{begun_low}
use Rattle.s38_laws_flush.proofs.durable.ImageLaws.{image_header}
use Rattle.s38_laws_flush.proofs.durable.FaultlessLaws.{cleaned_represents, page_cleaned, read_images}
use Rattle.s38_laws_flush.proofs.durable.laws.a_run_begins_kept.Goals as goal

pub returns-clause-stands : goal.returns-clause-stands
returns-clause-stands c = λ m are fault. cleaned_represents m are fault

pub returns-clause-images : goal.returns-clause-images
returns-clause-images c = λ m are fault. read_images m are fault

pub returns-clause-headers : goal.returns-clause-headers
returns-clause-headers c = λ m are fault n x there. image_header x (read_images m are fault n x there)

pub returns-clause-parts : goal.returns-clause-parts
returns-clause-parts c = λ m are fault. begun_low (cleaned m) (durable_in m) (λ n x there. image_header x (read_images m are fault n x there)) (page_cleaned m are fault)

pub returns-clause-begins : goal.returns-clause-begins
returns-clause-begins c = λ m h templates jobs room are fault of is counts. begins_kept m h are fault of is templates jobs room counts
