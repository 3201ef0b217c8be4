-- What a restart asks of what is durable, said of what is durable itself and not of pages.
use Rattle.std.specs.Prelude.{◌≡◌, ◌≤◌, ◌+◌, ◌||◌, ℕ, Bool, false, true, Option, Some, None, is_some, length, map}
use Rattle.std.specs.List.Sorted.{IsStrictlyIncreasing}
use Rattle.std.specs.Option.{option_and_then}
use Rattle.s38_base.specs.Ids.{same_id, same_kind}
use Rattle.s38_base.specs.Limits.{ceiling_step, last_number, machine_context}
use Rattle.s38_base.specs.declared.id.Kind.{Kind}
use Rattle.s38_base.specs.declared.id.Kind.TheVariants as kinds
use Rattle.s38_durable_state.specs.Durable.{Durable, kept}
use Rattle.s38_image.specs.declared.stored.Stored.{Stored}
use Rattle.s38_journals.specs.Journals.{JournalList}
use Rattle.s38_laws_flush.specs.durable.Kept.{AreImages}
use Rattle.s38_restart.specs.Restarted.{number_in_stored}
use Rattle.s38_rules.specs.state.Parts.{data_of, journal_of, port_of}
use Rattle.s38_rules.specs.families.Profiles.{officer}
use Rattle.s38_rules.specs.declared.data_body.DataBody.{DataBody}
use Rattle.s38_rules.specs.declared.port.Port.{Port}

-- ---- what is kept under a number

-- an object of this kind
abbrev pub is_kind_kept : Kind → Option Stored → Bool
is_kind_kept kind None = false
is_kind_kept kind (Some x) = same_kind x.object.id.kind kind

-- an object of this kind, or nothing
abbrev pub is_kind_or_none : Kind → Option Stored → Bool
is_kind_or_none kind None = true
is_kind_or_none kind (Some x) = same_kind x.object.id.kind kind

-- a context or a profile, which are in the machine context
abbrev pub is_home_kind : Stored → Bool
is_home_kind x = same_kind x.object.id.kind kinds.Context || same_kind x.object.id.kind kinds.Profile

-- the port of a number, and the journal space of a number
abbrev pub port_kept : Durable → ℕ → Option Port
port_kept d n = option_and_then (λ x. port_of x.object.body) (kept d.objects n)

abbrev pub journal_kept : Durable → ℕ → Option JournalList
journal_kept d n = option_and_then (λ x. journal_of x.object.body) (kept d.objects n)

-- the journal space that the port of a number names, where both are kept
abbrev pub port_journal_kept : Durable → ℕ → Option JournalList
port_journal_kept d port = option_and_then (λ p. journal_kept d p.journal.0) (port_kept d port)

-- ---- one object that is kept under a number

-- two objects that are kept have one context, which is kept, and one identification there
pub record AreNamedAlike (d : Durable) (x y : Stored) : Type 0 where
  pub kept : is_some (kept d.objects x.object.context.0) ≡ true
  pub context : y.object.context.0 ≡ x.object.context.0
  pub id : same_id y.object.id x.object.id ≡ true

pub record FitsAmong (d : Durable) (n : ℕ) (x : Stored) : Type 0 where
  -- its number was given
  pub first : 1 ≤ n
  pub given : n ≤ d.ceiling
  -- its owner is a user whose profile is kept
  pub owner : is_kind_kept kinds.Profile (kept d.objects x.object.owner.0) ≡ true
  -- a context or a profile is in the machine context
  pub home : is_home_kind x ≡ true → x.object.context.0 ≡ machine_context
  -- the number that it says to be its context was given, or is 0, and is that of no other object that is kept
  pub placed : x.object.context.0 ≤ d.ceiling
  pub context : is_kind_or_none kinds.Context (kept d.objects x.object.context.0) ≡ true
  -- no other object that is kept has its identification in its context, if that is kept
  pub apart : (k : ℕ) (y : Stored) → kept d.objects k ≡ Some y → AreNamedAlike d x y → k ≡ n
  -- so was the number of the port that a data space names, and of the journal space that a port names
  pub port : (held : DataBody) → data_of x.object.body ≡ Some held → held.port.0 ≤ d.ceiling
  pub journal : (p : Port) → port_of x.object.body ≡ Some p → p.journal.0 ≤ d.ceiling
  -- the image of a data space counts in no more entries than are kept of the journal space of its port
  pub counted : (held : DataBody) (journal : JournalList) → data_of x.object.body ≡ Some held → port_journal_kept d held.port.0 ≡ Some journal → x.sequence ≤ length journal.entries

-- ---- all that is durable

pub record CanRestart (d : Durable) : Type 0 where
  -- each object can be read again
  pub images : AreImages d
  -- numbers rise, and a store can keep the ceiling
  pub rising : IsStrictlyIncreasing (map number_in_stored d.objects)
  pub ceiling : d.ceiling ≤ last_number + ceiling_step
  -- the machine context is kept, and the security officer, who is a user
  pub machine : is_some (kept d.objects machine_context) ≡ true
  pub first_user : is_kind_kept kinds.Profile (kept d.objects officer) ≡ true
  -- the objects fit one another
  pub each : (n : ℕ) (x : Stored) → kept d.objects n ≡ Some x → FitsAmong d n x
