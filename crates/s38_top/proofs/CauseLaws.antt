-- What a text or a store comes to under a command has its cause.
use Rattle.std.proofs.Common.{◌≡◌, ℕ, ◌≤◌, ◌⊎◌, true, List, inl, inr, refl, sym, ◌∙◌, ap, subst}
use Rattle.std.specs.Prelude.{IfErr, IfOk, Err, Ok, Option, Result, Some}
use Rattle.s38_code.specs.declared.deck.Deck.{Deck}
use Rattle.s38_disk.specs.Disk.{DiskView}
use Rattle.s38_io.specs.Source.{ReadsAll}
use Rattle.s38_demo.specs.GeneratedDeck.{deck_of, generated}
use Rattle.s38_demo.proofs.SpelledLaws.{generated_is_spelled}
use Rattle.s38_template.specs.Grammar.{Spells}
use Rattle.s38_template.specs.Reading.{read_of}
use Rattle.s38_template.specs.declared.fault.DeckFault.{DeckFault as BadText}
use Rattle.s38_template.specs.declared.fault.DeckFault.TheVariants as faults
use Rattle.s38_command.specs.declared.command.Command.{Command}
use Rattle.s38_command.specs.declared.command.Command.TheVariants.{Jobs, Check, Demo, Install, List as Listing}
use Rattle.s38_top.specs.declared.outcome.Outcome.{Outcome}
use Rattle.s38_top.specs.declared.outcome.Outcome.TheVariants.{BadWords, BadDeck, DeckFault, NoMemory, Ran, Checked, Demonstrated, Installed, Listed, Refused, DiskFault}
use Rattle.s38_command.specs.Commands.{reads_deck}
use Rattle.s38_top.specs.declared.outcome.CheckedDeck.{CheckedDeck}
use Rattle.s38_top.specs.Ends.{IsReadFrom, ReadsFrom}
use Rattle.s38_top.specs.Causes.{Holds, IsInputOf, OfStore, OfText}
use Rattle.s38_top.specs.Answered.{most}
use Rattle.s38_top.specs.Outside.{Outside, Unread}

-- a place that the reader tells is that of the first bad line, and the text spells no deck
pub bad_deck : (text : List ℕ) (fault : BadText) (line code : ℕ) → fault ≡ faults.Bad line code
    → (fault ≡ faults.NoMemory) ⊎ (read_of text ≡ Err fault) → (fault ≡ faults.NoMemory) ⊎ ((deck : Deck) → Spells text deck → ⊥)
    → (read_of text ≡ Err (faults.Bad line code)) × ((deck : Deck) → Spells text deck → ⊥)
bad_deck text fault line code is first none = (
  elim first as (λ _. read_of text ≡ Err (faults.Bad line code)) [
    | inl e ↦ absurd (differ (sym is ∙ e))
    | inr e ↦ e ∙ ap Err is
  ],
  λ deck spelled. elim none as (λ _. ⊥) [
    | inl e ↦ differ (sym is ∙ e)
    | inr n ↦ n deck spelled
  ],
)
  where
    differ : faults.Bad line code ≡ faults.NoMemory → ⊥
    differ e = cc

takes_read : (command : Command) (old new : Outside) (text : List ℕ) → reads_deck command ≡ true → ReadsAll most old.left new.left text → IsInputOf command old new text
takes_read (Jobs turns) old new text h reads = reads
takes_read Check old new text h reads = reads
takes_read (Demo size) old new text h reads = cc
takes_read Install old new text h reads = cc
takes_read Listing old new text h reads = cc

pub read_taken : (command : Command) (old new : Outside) (text : List ℕ) → reads_deck command ≡ true → IsInputOf command old new text → ReadsAll most old.left new.left text
read_taken (Jobs turns) old new text h takes = takes
read_taken Check old new text h takes = takes
read_taken (Demo size) old new text h takes = cc
read_taken Install old new text h takes = cc
read_taken Listing old new text h takes = cc

-- what the text of a command comes to holds; no text that the program makes is a bad deck
text_holds : (asked : Option Command) (old new : Outside) (command : Command) (text : List ℕ) (o : Outcome) → asked ≡ Some command → IsInputOf command old new text
    → (reads_deck command ≡ true) ⊎ ((deck : Deck) × Spells text deck) → OfText command text old.disk new.disk o → Holds asked old new o
text_holds asked old new command text BadWords is takes either of = absurd of
text_holds asked old new command text (BadDeck line code) is takes either of = elim either as (λ _. Holds asked old new (BadDeck line code)) [
  | inl reads ↦ (record { command = command; is = is; reads = reads }, record { command = command; is = is; text = text; takes = takes; comes = of })
  | inr spelled ↦ absurd (of.1.0 spelled.0 spelled.1)
]
text_holds asked old new command text DeckFault is takes either of = absurd of
text_holds asked old new command text NoMemory is takes either of = tt
text_holds asked old new command text (Ran turns whole end) is takes either of = record { command = command; is = is; text = text; takes = takes; comes = of }
text_holds asked old new command text (Refused bad) is takes either of = inl (record { command = command; is = is; text = text; takes = takes; comes = of })
text_holds asked old new command text DiskFault is takes either of = inl (record { command = command; is = is; text = text; takes = takes; comes = of })
text_holds asked old new command text (Checked checked) is takes either of = record { command = command; is = is; text = text; takes = takes; comes = of }
text_holds asked old new command text (Demonstrated size whole) is takes either of = record { command = command; is = is; text = text; takes = takes; comes = of }
text_holds asked old new command text Installed is takes either of = absurd of
text_holds asked old new command text (Listed objects) is takes either of = absurd of

-- the same of a text that is read
read_holds : (asked : Option Command) (old new : Outside) (command : Command) (o : Outcome) → asked ≡ Some command → reads_deck command ≡ true
    → (text : List ℕ) × (ReadsAll most old.left new.left text × OfText command text old.disk new.disk o) → Holds asked old new o
read_holds asked old new command o is reads from = text_holds asked old new command from.0 o is (takes_read command old new from.0 reads from.1.0) (inl reads) from.1.1

pub source_holds : (asked : Option Command) (old new : Outside) (command : Command) (o : Outcome) → asked ≡ Some command → reads_deck command ≡ true
    → ReadsFrom command old.left new.left old.taken new.taken old.disk new.disk o → Holds asked old new o
source_holds asked old new command BadWords is reads from = read_holds asked old new command BadWords is reads from
source_holds asked old new command (BadDeck line code) is reads from = read_holds asked old new command (BadDeck line code) is reads from
source_holds asked old new command DeckFault is reads from = (record { command = command; is = is; reads = reads }, from)
source_holds asked old new command NoMemory is reads from = tt
source_holds asked old new command (Ran turns whole end) is reads from = read_holds asked old new command (Ran turns whole end) is reads from
source_holds asked old new command (Refused bad) is reads from = read_holds asked old new command (Refused bad) is reads from
source_holds asked old new command DiskFault is reads from = read_holds asked old new command DiskFault is reads from
source_holds asked old new command (Checked checked) is reads from = read_holds asked old new command (Checked checked) is reads from
source_holds asked old new command (Demonstrated size whole) is reads from = read_holds asked old new command (Demonstrated size whole) is reads from
source_holds asked old new command Installed is reads from = read_holds asked old new command Installed is reads from
source_holds asked old new command (Listed objects) is reads from = read_holds asked old new command (Listed objects) is reads from

pub text_comes : (command : Command) (left left' : Option (List ℕ)) (taken taken' : ℕ) (old new : DiskView) (text : List ℕ) (o : Outcome) → ReadsAll most left left' text → OfText command text old new o
    → ReadsFrom command left left' taken taken' old new o
text_comes command left left' taken taken' old new text BadWords reads of = (text, (reads, of))
text_comes command left left' taken taken' old new text (BadDeck line code) reads of = (text, (reads, of))
text_comes command left left' taken taken' old new text DeckFault reads of = absurd of
text_comes command left left' taken taken' old new text NoMemory reads of = tt
text_comes command left left' taken taken' old new text (Ran turns whole end) reads of = (text, (reads, of))
text_comes command left left' taken taken' old new text (Refused bad) reads of = (text, (reads, of))
text_comes command left left' taken taken' old new text DiskFault reads of = (text, (reads, of))
text_comes command left left' taken taken' old new text (Checked checked) reads of = (text, (reads, of))
text_comes command left left' taken taken' old new text (Demonstrated size whole) reads of = (text, (reads, of))
text_comes command left left' taken taken' old new text Installed reads of = (text, (reads, of))
text_comes command left left' taken taken' old new text (Listed objects) reads of = (text, (reads, of))

-- the same of a text that was taken, where it spells a deck and where it does not
pub read_of_text : (left left' : Option (List ℕ)) (text : List ℕ) (r : Result CheckedDeck Outcome) → ReadsAll most left left' text
    → IfOk r (λ checked. Spells text checked.deck) → IfOk r (λ checked. IsReadFrom left left' checked.deck)
read_of_text left left' text (Ok checked) reads h = (text, (reads, h))
read_of_text left left' text (Err o) reads h = tt

pub cause_of_text : (left left' : Option (List ℕ)) (taken taken' : ℕ) (text : List ℕ) (r : Result CheckedDeck Outcome) → ReadsAll most left left' text
    → IfErr r (λ o. (command : Command) (disk : DiskView) → OfText command text disk disk o)
    → IfErr r (λ o. (command : Command) (disk : DiskView) → ReadsFrom command left left' taken taken' disk disk o)
cause_of_text left left' taken taken' text (Ok checked) reads h = tt
cause_of_text left left' taken taken' text (Err o) reads h = λ command disk. text_comes command left left' taken taken' disk disk text o reads (h command disk)

-- where nothing comes of a deck that was read
pub cause_of_deck : {R E : Type 0} (r : Result R E) (new : E → DiskView) (outcome : E → Outcome) (command : Command) (left left' : Option (List ℕ)) (taken taken' : ℕ) (old : DiskView) (deck : Deck)
    → IsReadFrom left left' deck → IfErr r (λ d. (text : List ℕ) → OfText command text old (new d) (outcome d))
    → IfErr r (λ d. ReadsFrom command left left' taken taken' old (new d) (outcome d))
cause_of_deck (Ok x) new outcome command left left' taken taken' old deck reads h = tt
cause_of_deck (Err d) new outcome command left left' taken taken' old deck reads h = text_comes command left left' taken taken' old (new d) reads.0 (outcome d) reads.1.0 (h reads.0)

pub deck_read : {R E : Type 0} (r : Result R E) (of : R → Deck) (left left' : Option (List ℕ)) (deck : Deck) → IsReadFrom left left' deck → IfOk r (λ x. of x ≡ deck) → IfOk r (λ x. IsReadFrom left left' (of x))
deck_read (Ok x) of left left' deck reads h = subst (λ (d : Deck). IsReadFrom left left' d) (sym h) reads
deck_read (Err d) of left left' deck reads h = tt

pub generated_holds : (asked : Option Command) (old new : Outside) (size : ℕ) (o : Outcome) → asked ≡ Some (Demo size) → 1 ≤ size → size ≤ 200 → Unread old new
    → OfText (Demo size) (deck_of size) old.disk new.disk o → Holds asked old new o
generated_holds asked old new size o is first last kept of =
    text_holds asked old new (Demo size) (deck_of size) o is (kept, refl) (inr (generated size, generated_is_spelled size first last)) of

pub store_holds : (asked : Option Command) (old new : Outside) (command : Command) (o : Outcome) → asked ≡ Some command → Unread old new → OfStore command old.disk new.disk o → Holds asked old new o
store_holds asked old new command BadWords is unread of = absurd of
store_holds asked old new command (BadDeck line code) is unread of = absurd of
store_holds asked old new command DeckFault is unread of = absurd of
store_holds asked old new command NoMemory is unread of = tt
store_holds asked old new command (Ran turns whole end) is unread of = absurd of
store_holds asked old new command (Refused bad) is unread of = inr (record { command = command; is = is; unread = unread; comes = of })
store_holds asked old new command DiskFault is unread of = inr (record { command = command; is = is; unread = unread; comes = of })
store_holds asked old new command (Checked checked) is unread of = absurd of
store_holds asked old new command (Demonstrated size whole) is unread of = absurd of
store_holds asked old new command Installed is unread of = record { command = command; is = is; unread = unread; comes = of }
store_holds asked old new command (Listed objects) is unread of = record { command = command; is = is; unread = unread; comes = of }
