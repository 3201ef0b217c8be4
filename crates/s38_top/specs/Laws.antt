-- What every whole run keeps: at each of its entries, and in each state on the way.
use Rattle.std.specs.Prelude.{List, [], Option}
use Rattle.s38_code.specs.declared.deck.Deck.{Deck}
use Rattle.s38_code.specs.declared.entry.Entry.{Entry}
use Rattle.s38_laws_units.specs.Right.{IsRight}
use Rattle.s38_laws_objects.specs.Well.{AreWell}
use Rattle.s38_laws_processes.specs.owners.Owners.{AllOwnersAgree}
use Rattle.s38_laws_processes.specs.replies.Replies.{AllSuit}
use Rattle.s38_rules.specs.state.Held.{Held}
use Rattle.s38_rules.specs.store.Room.{Room}
use Rattle.s38_rules.specs.state.State.{State}
use Rattle.s38_run.specs.Progress.{AllAskAgain, AreAwake, IsGoing}
use Rattle.s38_laws_state.specs.Later.{IsConfinedFromAny}
use Rattle.s38_laws_state.specs.Live.{HasNothingLeft, IsLive}
use Rattle.s38_laws_state.specs.Order.{AreInOrder}
use Rattle.s38_top.specs.Decks.{IsConfined, opened_machine, processes_of}
use Rattle.s38_rules.specs.step.Histories.{Throughout}

pub record KeepsLaws (room : Option Room) (held : Held) (deck : Deck) (history : List Entry) (end : State) : Type 0 where
  -- no way to a right opens, from the beginning on and from any moment on
  pub confined : IsConfined room held deck history end
  pub later : IsConfinedFromAny (processes_of deck) (opened_machine room held deck) history end
  -- the owners act of the programs that a process is in, and no other
  pub owned : AllOwnersAgree (processes_of deck) (opened_machine room held deck) [] history
  -- each reply suits what was asked
  pub suited : AllSuit (processes_of deck) [] history
  -- nothing is left of a process after it, nor at the end
  pub live : Throughout IsLive (opened_machine room held deck) history
  pub left : HasNothingLeft end
  -- a store can keep each object, and objects, users and locks are in order
  pub well : Throughout AreWell (opened_machine room held deck) history
  pub ordered : Throughout AreInOrder (opened_machine room held deck) history
  -- the units of changes are right
  pub right : Throughout IsRight (opened_machine room held deck) history
  -- none is ready only where all have ended, and who waits asks for nothing before an effect, and then for the same again
  pub going : Throughout IsGoing (opened_machine room held deck) history
  pub awake : AreAwake [] history
  pub again : AllAskAgain history
