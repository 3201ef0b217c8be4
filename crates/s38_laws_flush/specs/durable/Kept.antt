-- How what is durable goes with a state at every moment of a run.
use Rattle.std.specs.Prelude.{◌≡◌, ◌+◌, ◌<◌, ◌≤◌, ℕ, All, true, List, [], ◌∷◌, None, Some, is_some, length, map}
use Rattle.std.specs.FinMap.{contains_key}
use Rattle.std.specs.List.{list_any}
use Rattle.s38_base.specs.Limits.{body_limit, ceiling_step, last_number}
use Rattle.s38_base.specs.declared.page.Key.{Key}
use Rattle.s38_code.specs.declared.entry.Entry.{Entry}
use Rattle.s38_code.specs.declared.event.Event.TheVariants.{Act, Finish, Start}
use Rattle.s38_code.specs.declared.event.Event.{Event}
use Rattle.s38_code.specs.declared.reply.Reply.{Reply}
use Rattle.s38_code.specs.declared.reply.Reply.TheVariants.{Done, MustWait, Signal}
use Rattle.s38_laws_units.specs.Right.{IsRight}
use Rattle.s38_durable_state.specs.Durable.{Durable, kept, whole_object}
use Rattle.s38_durable_state.specs.Following.{Counts, Follows, NumbersRise, object_number}
use Rattle.s38_durable_state.specs.Represents.{parts_end}
use Rattle.s38_image.specs.Fitting.{IsImage}
use Rattle.s38_image.specs.declared.stored.Stored.{Stored}
use Rattle.s38_laws_objects.specs.Outline.{is_forced}
use Rattle.s38_laws_objects.specs.Well.{AreWell}
use Rattle.s38_laws_images.specs.readable.Readable.{IsFront}
use Rattle.s38_rules.specs.store.Forcing.{Forced, is_whole, must_persist}
use Rattle.s38_rules.specs.state.Held.{Held, kind_of, object}
use Rattle.s38_rules.specs.state.Parts.{profile_of}
use Rattle.s38_rules.specs.state.State.{State}
use Rattle.s38_rules.specs.step.Step.{step}
use Rattle.s38_rules.specs.declared.object.Object.{Object}
use Rattle.s38_vault.specs.Content.{Content}
use Rattle.s38_vault.specs.Directory.{keys_of}

-- ---- numbers

-- numbers rise and were given, 0 is that of no object, and each number that was given is at most the ceiling, which a store
-- can keep
pub record AreNumbered (h : Held) : Type 0 where
  pub rising : NumbersRise h
  pub given : All (λ n. n < h.next) (map object_number h.objects)
  pub none : object h 0 ≡ None
  pub first : 1 ≤ h.next
  pub within : h.next ≤ h.ceiling + 1
  pub low : h.ceiling ≤ last_number + ceiling_step

-- ---- what is durable goes with a state

-- what is durable is the header, the rows and the users of the objects on disk, and of nothing else, and each body is of the
-- kind that is said; the room of the store counts it; the ceiling is that of the machine; and the machine's objects are in
-- order
pub record IsKeptOf (s : State) (d : Durable) : Type 0 where
  pub follows : Follows s.held d
  pub bodies : (n : ℕ) (x : Stored) → kept d.objects n ≡ Some x → kind_of x.object.body ≡ x.object.id.kind
  pub counts : Counts s.room d
  pub ceiling : d.ceiling ≡ s.held.ceiling
  pub well : AreWell s
  pub right : IsRight s
  pub numbered : AreNumbered s.held

-- ---- how much is held

-- each part that a store holds is one of 32 bits
abbrev pub HasParts : Content → Type 0
HasParts m = (key : Key) → contains_key (keys_of m) key ≡ true → key.part < parts_end

-- ---- what can be read again

-- all that is kept can be
abbrev pub AreImages : Durable → Type 0
AreImages d = (n : ℕ) (x : Stored) → kept d.objects n ≡ Some x → IsImage body_limit x

-- what a step must persist can be: of the objects on disk those that are kept whole, users, and what is kept of the others
-- beside their bodies
pub record AreReadable (all : List Forced) (s : State) : Type 0 where
  pub as_whole : (n : ℕ) (o : Object) → list_any (is_whole n) all ≡ true → object s.held n ≡ Some o → o.on_disk ≡ true → IsImage body_limit (whole_object s o)
  pub user : (n : ℕ) (o : Object) → is_forced n all ≡ true → object s.held n ≡ Some o → o.on_disk ≡ true → is_some (profile_of o.body) ≡ true → IsImage body_limit (whole_object s o)
  pub front : (n : ℕ) (o : Object) → is_forced n all ≡ true → object s.held n ≡ Some o → o.on_disk ≡ true → IsFront o

-- of what takes effect
abbrev pub IsReadableAfter : State → Entry → Reply → Type 0
IsReadableAfter s e (Done values) = AreReadable (must_persist s e.process e.event) (step s e.process e.event).state
IsReadableAfter s e (Signal x) = Unit {0}
IsReadableAfter s e MustWait = Unit {0}

-- after each entry of a history
abbrev pub AllReadable : State → List Entry → Type 0
AllReadable s [] = Unit {0}
AllReadable s (e ∷ es) = IsReadableAfter s e e.reply × AllReadable (step s e.process e.event).state es

-- ---- what is forced

-- an instruction has an operand
abbrev pub HasOperand : Event → Type 0
HasOperand Start = Unit {0}
HasOperand (Act depth request) = 1 ≤ length request.operands
HasOperand (Finish cause) = Unit {0}
