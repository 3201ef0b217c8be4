use Rattle.std.proofs.Common.{◌≡◌, ◌⊎◌, Result, Ok, Err, IfOk, IfErr, List, ℕ, sym, ◌∙◌, refl, inl, inr}
use Rattle.s38_code.specs.declared.deck.Deck.{Deck}
use Rattle.s38_template.specs.declared.fault.DeckFault.{DeckFault}
use Rattle.s38_template.specs.declared.fault.DeckFault.TheVariants.{Bad, NoMemory}
use Rattle.s38_template.specs.Grammar.{Spells}
use Rattle.s38_template.specs.Reading.{Answers, read_of}
use Rattle.s38_template.proofs.Complete.{complete}
use Rattle.s38_template.proofs.Ends.{ok, same_Ok}
use Rattle.s38_template.proofs.Sound.{sound}
use Rattle.s38_template.proofs.read.read_deck.Goals as goal

found : (text : List ℕ) (r : Result Deck DeckFault) → Answers r (read_of text) → IfOk r (λ deck. Spells text deck)
found text (Ok deck) g = sound text deck g
found text (Err fault) g = tt

only : (text : List ℕ) (r : Result Deck DeckFault) → Answers r (read_of text) → IfOk r (λ deck. (other : Deck) → Spells text other → other ≡ deck)
unfolding ok
only text (Ok deck) g = λ other s. same_Ok other deck (sym (complete text other s) ∙ g)
only text (Err fault) g = tt

bad : (text : List ℕ) (r : Result Deck DeckFault) → Answers r (read_of text) → IfErr r (λ fault. (fault ≡ NoMemory) ⊎ (read_of text ≡ Err fault))
bad text (Ok deck) g = tt
bad text (Err (Bad line code)) g = inr g
bad text (Err NoMemory) g = inl refl

none : (text : List ℕ) (r : Result Deck DeckFault) → Answers r (read_of text) → IfErr r (λ fault. (fault ≡ NoMemory) ⊎ ((deck : Deck) → Spells text deck → ⊥))
none text (Ok deck) g = tt
none text (Err (Bad line code)) g = inr (λ deck s. let h = sym g ∙ complete text deck s in cc)
none text (Err NoMemory) g = inl refl

pub returns-clause-found : goal.returns-clause-found
returns-clause-found c = found c.args.text.now c.read.result c.read.ensures

pub returns-clause-only : goal.returns-clause-only
returns-clause-only c = only c.args.text.now c.read.result c.read.ensures

pub returns-clause-bad : goal.returns-clause-bad
returns-clause-bad c = bad c.args.text.now c.read.result c.read.ensures

pub returns-clause-none : goal.returns-clause-none
returns-clause-none c = none c.args.text.now c.read.result c.read.ensures
