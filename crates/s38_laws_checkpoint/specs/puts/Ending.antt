-- What is known of a state and of what is durable of it as a run ends, and what a crash leaves during the checkpoint.
use Rattle.std.specs.Prelude.{◌≡◌, ◌≤◌, ◌++◌, List, None}
use Rattle.s38_base.specs.Limits.{body_limit}
use Rattle.s38_checkpoint.specs.Closing.{closing}
use Rattle.s38_durable_state.specs.Durable.{Durable, closed}
use Rattle.s38_durable_state.specs.Represents.{Represents}
use Rattle.s38_laws_flush.specs.durable.Kept.{IsKeptOf}
use Rattle.s38_laws_flush.specs.puts.OnePut.{BodiesAreShort}
use Rattle.s38_laws_flush.specs.puts.Trails.{IsTrailOf}
use Rattle.s38_rules.specs.state.Parts.{journal_of}
use Rattle.s38_rules.specs.store.Room.{image_len}
use Rattle.s38_rules.specs.state.State.{State}
use Rattle.s38_rules.specs.declared.object.Object.{Object}
use Rattle.s38_flush.specs.Stepping.{HaveHeaders}
use Rattle.s38_vault.specs.Content.{Content}

-- the body of an object has no more bytes than a body may have, unless it is a journal space
abbrev pub IsShort : Object → Type 0
IsShort o = journal_of o.body ≡ None → image_len o.body ≤ body_limit

-- what is durable goes with the state, and of each journal space it has a beginning, with few bytes after it; and the
-- headers of what is durable, and of what a checkpoint keeps, can be read again, and no body of them is too long
pub record IsEnding (s : State) (d : Durable) : Type 0 where
  pub kept : IsKeptOf s d
  pub trail : IsTrailOf s d
  pub headers : HaveHeaders d
  pub then_headers : HaveHeaders (closing s.units s.held)
  pub short : BodiesAreShort d
  pub then_short : BodiesAreShort (closing s.units s.held)

-- a content represents what is durable once the machine has ensured the first objects, one after another
pub record IsClosedTo (s : State) (d : Durable) (n : Content) : Type 0 where
  pub gone : List Object
  pub rest : List Object
  pub all : s.held.objects ≡ gone ++ rest
  pub stands : Represents n (closed d s gone)
