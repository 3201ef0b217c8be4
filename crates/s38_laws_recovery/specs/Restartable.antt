-- What holds after each step of a run, so that what is durable can be restarted at each moment.
use Rattle.std.specs.Prelude.{◌≡◌, ◌≤◌, ◌<◌, ◌+◌, ℕ, true, List, [], ◌∷◌, Some, length, map, take}
use Rattle.std.specs.List.Sorted.{IsStrictlyIncreasing}
use Rattle.s38_base.specs.Limits.{body_limit, machine_context}
use Rattle.s38_base.specs.declared.id.Kind.TheVariants as kinds
use Rattle.s38_code.specs.declared.entry.Entry.{Entry}
use Rattle.s38_laws_commits.specs.Linked.{AreLinked}
use Rattle.s38_durable_state.specs.Durable.{Durable, after_reply, durable, kept}
use Rattle.s38_image.specs.declared.stored.Stored.{Stored}
use Rattle.s38_journals.specs.Journals.{JournalList}
use Rattle.s38_laws_flush.specs.durable.Kept.{AreImages}
use Rattle.s38_restart.specs.Restarted.{number_in_stored}
use Rattle.s38_rules.specs.families.Creation.{is_of_kind}
use Rattle.s38_rules.specs.state.Held.{Held, is_on_disk, object}
use Rattle.s38_rules.specs.state.Journaling.{data_port}
use Rattle.s38_rules.specs.state.Parts.{data_of, part_at, port_of, port_part}
use Rattle.s38_rules.specs.families.Profiles.{officer}
use Rattle.s38_rules.specs.state.State.{State}
use Rattle.s38_rules.specs.step.Step.{step}
use Rattle.s38_rules.specs.declared.data_body.DataBody.{DataBody}
use Rattle.s38_rules.specs.declared.port.Port.{Port}
use Rattle.s38_flush.specs.Stepping.{raised}
use Rattle.s38_laws_recovery.specs.Restarting.{CanRestart, port_journal_kept}
use Rattle.s38_rules.specs.step.Histories.{state_after}

-- ---- the objects of a state

pub record AreReady (h : Held) : Type 0 where
  -- each user is on disk
  pub users : (n : ℕ) → is_of_kind kinds.Profile (object h n) ≡ true → is_on_disk h n ≡ true
  -- the machine context is there and on disk, and the security officer is a user
  pub machine : is_of_kind kinds.Context (object h machine_context) ≡ true
  pub machine_disk : is_on_disk h machine_context ≡ true
  pub first_user : is_of_kind kinds.Profile (object h officer) ≡ true
  -- data spaces, ports and journal spaces are linked by numbers that were given, and what is journaled is on disk
  pub linked : AreLinked h
  pub ports : (n : ℕ) (p : Port) → part_at port_part h n ≡ Some p → p.journal.0 < h.next

-- ---- what is durable, beside them

-- what is kept of a port is the port, and what is kept of a data space names the port that the data space names
pub record AreKeptLinks (h : Held) (d : Durable) : Type 0 where
  pub port : (n : ℕ) (x : Stored) (p : Port) → kept d.objects n ≡ Some x → port_of x.object.body ≡ Some p → part_at port_part h n ≡ Some p
  pub space : (n : ℕ) (x : Stored) (b : DataBody) → kept d.objects n ≡ Some x → data_of x.object.body ≡ Some b → data_port h n ≡ b.port.0

-- the image of a data space counts in no more entries than are kept of the journal space of its port
abbrev pub AreCounted : Durable → Type 0
AreCounted d = (n : ℕ) (x : Stored) (b : DataBody) (j : JournalList) → kept d.objects n ≡ Some x → data_of x.object.body ≡ Some b
    → port_journal_kept d b.port.0 ≡ Some j → x.sequence ≤ length j.entries

pub record IsRestartable (s : State) (d : Durable) : Type 0 where
  pub limit : s.limit ≤ body_limit
  pub ready : AreReady s.held
  pub rising : IsStrictlyIncreasing (map number_in_stored d.objects)
  pub links : AreKeptLinks s.held d
  pub counted : AreCounted d

-- ---- the entries of a run

-- the replies are those of the machine
abbrev pub AreAnswered : State → List Entry → Type 0
AreAnswered s [] = Unit {0}
AreAnswered s (e ∷ es) = ((step s e.process e.event).reply ≡ e.reply) × AreAnswered (step s e.process e.event).state es

-- what is durable before the entries, and after each, can be read again
abbrev pub AllImages : Durable → State → List Entry → Type 0
AllImages d s [] = AreImages d
AllImages d s (e ∷ es) = AreImages d × AllImages (after_reply d s e e.reply) (step s e.process e.event).state es

-- what is durable after the first so many entries can restart, with the ceiling after one entry more too, and so can
-- what is durable after one entry more
pub record CanRestartBetween (d : Durable) (s : State) (entries : List Entry) (count : ℕ) : Type 0 where
  pub before : CanRestart (durable d s (take count entries))
  pub raised : CanRestart (raised (durable d s (take count entries)) (state_after s (take (count + 1) entries)))
  pub behind : CanRestart (durable d s (take (count + 1) entries))
