-- What hangs on the bodies of objects alone is the same where all bodies are.
use Rattle.std.proofs.Common.{◌≡◌, ◌∙◌, ℕ, cond, refl, sym, ap}
use Rattle.std.specs.Option.{unwrap_or}
use Rattle.std.specs.Prelude.{None, Option, Some, is_some, length}
use Rattle.s38_durable_state.specs.Durable.{last_sequence_in}
use Rattle.s38_rules.specs.state.Held.{Held, object}
use Rattle.s38_rules.specs.state.Journaling.{data_port, data_port_in, journal_for, journal_named, journal_of_port}
use Rattle.s38_rules.specs.state.Parts.{Part, data_part, journal_part, part_at, part_in, port_part}
use Rattle.s38_rules.specs.state.PartsAt.{no_journal}
use Rattle.s38_rules.specs.declared.object.Body.{Body}
use Rattle.s38_rules.specs.declared.object.Object.{Object}
use Rattle.s38_rules.specs.declared.port.Port.{Port}
use Rattle.s38_journals.specs.Journals.{JournalList}

abbrev pub body_in : Option Object → Option Body
body_in None = None
body_in (Some o) = Some o.body

-- each number has the body that it had
abbrev pub SameBodies : Held → Held → Type 0
SameBodies h k = (n : ℕ) → body_in (object k n) ≡ body_in (object h n)

abbrev part_from : {T : Type 0} → Part T → Option Body → Option T
part_from p None = None
part_from p (Some b) = p.of b

part_body : {T : Type 0} (p : Part T) (x : Option Object) → part_in p x ≡ part_from p (body_in x)
part_body p None = refl
part_body p (Some o) = refl

module _ (h k : Held) (same : SameBodies h k) where
  pub same_part : {T : Type 0} (p : Part T) (n : ℕ) → part_at p k n ≡ part_at p h n
  same_part p n = part_body p (object k n) ∙ ap (part_from p) (same n) ∙ sym (part_body p (object h n))

  same_named : (x : Option Port) → journal_named k x ≡ journal_named h x
  same_named None = refl
  same_named (Some port) = ap (λ (r : Option JournalList). cond (is_some r) (Some port.journal.0) None) (same_part journal_part port.journal.0)

  pub same_journal : (n : ℕ) → journal_for k n ≡ journal_for h n
  same_journal n =
      ap (journal_of_port k) (ap data_port_in (same_part data_part n))
      ∙ ap (journal_named k) (same_part port_part (data_port h n))
      ∙ same_named (part_at port_part h (data_port h n))

  pub same_last : (r : Option ℕ) → last_sequence_in k r ≡ last_sequence_in h r
  same_last None = refl
  same_last (Some journal) = ap (λ (r : Option JournalList). length (unwrap_or r no_journal).entries) (same_part journal_part journal)
