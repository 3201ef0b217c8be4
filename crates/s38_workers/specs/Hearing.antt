-- How a process goes on by what it hears.
use Rattle.std.specs.Prelude.{◌≡◌, OnOk}
use Rattle.s38_code.specs.declared.reply.Reply.{Reply}
use Rattle.s38_code.specs.declared.reply.Reply.TheVariants.{MustWait}
use Rattle.s38_process.specs.AfterReply.{absorbed}
use Rattle.s38_workers.specs.declared.hearer.Hearer.{Hearer}

-- unless memory is refused, it goes on by the reply; MustWait leaves it as it was
pub record Hears (old : Hearer) (reply : Reply) (new : Hearer) : Type 0 where
  pub goes_on : OnOk new.heard (new.process ≡ absorbed old.process reply)
  pub waits : reply ≡ MustWait → new.process ≡ old.process
