-- What a store keeps of a step leaves all else of the state as it is.
use Rattle.std.proofs.Common.{◌≡◌, ℕ, List, [], ◌∷◌, refl}
use Rattle.std.specs.Prelude.{Option, Some, None}
use Rattle.s38_code.specs.declared.event.Event.{Event}
use Rattle.s38_journals.specs.Journals as journals
use Rattle.s38_rules.specs.store.Forcing.{Ceiling, Forced, Header, Removed, Whole, must_persist}
use Rattle.s38_rules.specs.state.Held.{Held}
use Rattle.s38_rules.specs.state.PartsAt.{on_journal}
use Rattle.s38_rules.specs.store.Room.{Room}
use Rattle.s38_rules.specs.state.State.{State}
use Rattle.s38_rules.specs.store.Storing.{all_kept, stored, stored_in}

-- ---- all but the objects and the room

-- two states differ at most in their objects and in what their store has room for
pub record IsBeside (s t : State) : Type 0 where
  pub limit : t.limit ≡ s.limit
  pub templates : t.templates ≡ s.templates
  pub processes : t.processes ≡ s.processes
  pub waiting : t.waiting ≡ s.waiting
  pub locks : t.locks ≡ s.locks
  pub units : t.units ≡ s.units

stands_beside : (o : Option Room) (all : List Forced) (t : State) → IsBeside t (stored_in o all t)
stands_beside None all t = record { limit = refl; templates = refl; processes = refl; waiting = refl; locks = refl; units = refl }
stands_beside (Some room) all t = record { limit = refl; templates = refl; processes = refl; waiting = refl; locks = refl; units = refl }

pub stored_beside : (s : State) (p : ℕ) (e : Event) (t : State) → IsBeside t (stored s p e t)
unfolding stored
stored_beside s p e t = stands_beside s.room (must_persist s p e) t

-- ---- the objects

kept_holds : (P : Held → Type 0) → ((h : Held) (n : ℕ) → P h → P (on_journal h n journals.forced)) → (all : List Forced) (h : Held) → P h → P (all_kept h all)
unfolding all_kept
kept_holds P keeps [] h p = p
kept_holds P keeps (Ceiling ∷ more) h p = kept_holds P keeps more h p
kept_holds P keeps (Header n ∷ more) h p = kept_holds P keeps more h p
kept_holds P keeps (Whole n ∷ more) h p = kept_holds P keeps more (on_journal h n journals.forced) (keeps h n p)
kept_holds P keeps (Removed n ∷ more) h p = kept_holds P keeps more h p

stored_in_holds : (P : Held → Type 0) → ((h : Held) (n : ℕ) → P h → P (on_journal h n journals.forced)) → (o : Option Room) (all : List Forced) (t : State) → P t.held → P (stored_in o all t).held
stored_in_holds P keeps None all t p = p
stored_in_holds P keeps (Some room) all t p = kept_holds P keeps all t.held p

-- what holds wherever all bytes of one more journal space are kept, holds of the objects after a step
pub stored_holds : (P : Held → Type 0) → ((h : Held) (n : ℕ) → P h → P (on_journal h n journals.forced)) → (s : State) (p : ℕ) (e : Event) (t : State) → P t.held → P (stored s p e t).held
unfolding stored
stored_holds P keeps s p e t holds = stored_in_holds P keeps s.room (must_persist s p e) t holds
