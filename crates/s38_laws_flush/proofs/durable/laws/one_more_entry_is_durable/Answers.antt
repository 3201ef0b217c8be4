use Rattle.s38_laws_flush.proofs.durable.KeepLaws.{durable_more, led_by, led_to}
use Rattle.s38_laws_flush.proofs.durable.laws.one_more_entry_is_durable.Goals as goal

pub returns-clause-durable : goal.returns-clause-durable
returns-clause-durable c = λ s before history t e d leads. durable_more d s before history t e leads

pub returns-clause-led : goal.returns-clause-led
returns-clause-led c = led_to

pub returns-clause-led_more : goal.returns-clause-led_more
returns-clause-led_more c = led_by
