-- A call with good words, a good deck and a good store is served.
use Rattle.std.proofs.Common.{◌≡◌, ℕ, true, List, inl, inr, refl, sym, ◌∙◌, ap, subst}
use Rattle.std.specs.Prelude.{IfErr, IfOk, Err, Ok, Option, Result, Some, None, is_some, take}
use Rattle.std.proofs.lemmas.Option.{same_Some}
use Rattle.s38_code.specs.declared.entry.Entry.{Entry}
use Rattle.s38_disk.specs.Disk.{DiskView}
use Rattle.s38_io.specs.Source.{ReadsAll}
use Rattle.s38_store_file.specs.declared.fault.BadStore.{BadStore}
use Rattle.s38_template.specs.Grammar.{Spells}
use Rattle.s38_command.specs.declared.command.Command.{Command}
use Rattle.s38_command.specs.declared.command.Command.TheVariants.{Jobs, Check, Demo, Install, List as Listing}
use Rattle.s38_top.specs.declared.outcome.Outcome.{Outcome}
use Rattle.s38_top.specs.declared.outcome.Outcome.TheVariants.{BadWords, BadDeck, DeckFault, NoMemory, Ran, Checked, Demonstrated, Installed, Listed, Refused, DiskFault}
use Rattle.s38_top.specs.declared.outcome.RunEnd.TheVariants.{Kept, Failed, Full, Stopped}
use Rattle.s38_command.specs.Commands.{reads_deck}
use Rattle.s38_command.specs.declared.turns.Turns.{Turns}
use Rattle.s38_top.specs.Ends.{IsDecided, ReadsFrom}
use Rattle.s38_top.specs.Outcome.{Ends, IsGood, IsGoodDeck, IsGoodFor, IsGoodStore, IsServedBy}
use Rattle.s38_top.specs.Causes.{FromText, HasBadStore, Holds}
use Rattle.s38_top.specs.Answered.{most, status_of}
use Rattle.s38_top.specs.Outside.{Outside, outside}
use Rattle.s38_top.proofs.CauseLaws.{read_taken, source_holds}

read_is : (old : Option (List ℕ)) (new : Option (List ℕ)) (xs text : List ℕ) → old ≡ Some xs → ReadsAll most old new text → text ≡ take most xs
read_is None new xs text e h = cc
read_is (Some ys) new xs text e h = h.front ∙ ap (λ zs. take most zs) (same ys xs e)
  where
    same : (a b : List ℕ) → Some a ≡ Some b → a ≡ b
    same a b g = cc

-- what a command that reads a deck asks of it
good_deck : (command : Command) (old : Outside) → reads_deck command ≡ true → IsGoodFor (Some command) old → IsGoodDeck old.left
good_deck (Jobs turns) old h good = good.0
good_deck Check old h good = good
good_deck (Demo size) old h good = cc
good_deck Install old h good = cc
good_deck Listing old h good = cc

good_for : (asked : Option Command) (old new : Outside) (command : Command) → IsGood asked old new → asked ≡ Some command → IsGoodFor (Some command) old
good_for asked old new command good is = subst (λ (c : Option Command). IsGoodFor c old) is good.good_for

not_bad : (disk : DiskView) (bad : BadStore) → IsGoodStore disk → HasBadStore disk bad → ⊥
not_bad disk bad good has = good.sound bad (has good.blocks good.told)

good_by : (asked : Option Command) (old new : Outside) (o : Outcome) → IsGood asked old new → Holds asked old new o → IsServedBy (status_of o)
good_by asked old new BadWords good holds = absurd (differ (asked) holds.0 good.served)
  where
    differ : (c : Option Command) → c ≡ None → is_some c ≡ true → ⊥
    differ None e h = cc
    differ (Some x) e h = cc
good_by asked old new (BadDeck line code) good holds =
    let came : FromText asked old new (BadDeck line code) = holds.1 in
    let reads : reads_deck came.command ≡ true = subst (λ c. reads_deck c ≡ true) (same_Some holds.0.command came.command (sym holds.0.is ∙ came.is)) holds.0.reads in
    let deck : IsGoodDeck old.left = good_deck came.command old reads (good_for asked old new came.command good came.is) in
    let read : ReadsAll most old.left new.left came.text = read_taken came.command old new came.text reads came.takes in
    absurd (came.comes.1.0 deck.deck (subst (λ (t : List ℕ). Spells t deck.deck) (sym (read_is old.left new.left deck.text came.text deck.told read)) deck.is))
good_by asked old new DeckFault good holds = absurd (good.source holds.1.0)
good_by asked old new NoMemory good holds = inr (inl refl)
good_by asked old new (Refused bad) good holds = elim holds as (λ _. IsServedBy 3) [
  | inl came ↦ absurd (not_bad old.disk bad (good_for asked old new (Jobs came.comes.0) good (came.is ∙ ap Some came.comes.1.0)).1 came.comes.1.1)
  | inr came ↦ elim came.comes as (λ _. IsServedBy 3) [
    | inl taken ↦ absurd (good_for asked old new Install good (came.is ∙ ap Some taken.0) bad taken.1)
    | inr has ↦ absurd (not_bad old.disk bad (good_for asked old new Listing good (came.is ∙ ap Some has.0)) has.1)
  ]
]
good_by asked old new DiskFault good holds = elim holds as (λ _. IsServedBy 4) [
  | inl came ↦ absurd (good.disk came.comes.1.1)
  | inr came ↦ absurd (good.disk came.comes.1)
]
good_by asked old new (Ran turns whole Kept) good holds = inl refl
good_by asked old new (Ran turns whole Failed) good holds = absurd (good.disk holds.comes.1.1.ends)
good_by asked old new (Ran turns whole (Full needed free)) good holds = inr (inr refl)
good_by asked old new (Ran turns whole Stopped) good holds = absurd (good.disk holds.comes.1.1.failed)
good_by asked old new (Checked checked) good holds = inl refl
good_by asked old new (Demonstrated size whole) good holds = inl refl
good_by asked old new Installed good holds = inl refl
good_by asked old new (Listed objects) good holds = inl refl

pub good_of : (asked : Option Command) (old new : Outside) (status : ℕ) (history : List Entry) (marks : List ℕ) → Ends asked old new status history marks → IsGood asked old new → IsServedBy status
good_of asked old new status history marks ends good =
    elim ends.tells as (λ _. IsServedBy status) [
      | inl t ↦ subst IsServedBy (sym t.0) (good_by asked old new ends.outcome good ends.holds)
      | inr t ↦ absurd (good.sink t.1.0)
    ]

-- what was decided without a run, of a source or of words
pub source_decided : {R E : Type 0} (r : Result R E) (new : E → DiskView) (outcome : E → Outcome) (asked : Option Command) (command : Command) (left left' : Option (List ℕ)) (taken taken' : ℕ) (old : DiskView)
    → asked ≡ Some command → reads_deck command ≡ true → IfErr r (λ d. ReadsFrom command left left' taken taken' old (new d) (outcome d))
    → IfErr r (λ d. IsDecided asked left left' taken taken' old (new d) (outcome d))
source_decided (Ok x) new outcome asked command left left' taken taken' old is reads h = tt
source_decided (Err d) new outcome asked command left left' taken taken' old is reads h =
    λ written written' put put'. source_holds asked (outside left taken written put old) (outside left' taken' written' put' (new d)) command (outcome d) is reads h

-- where the turns are those of the command
pub asked_by : {R E : Type 0} (r : Result R E) (turns_of : R → Turns) (asked : Option Command) (turns : Turns) → asked ≡ Some (Jobs turns) → IfOk r (λ x. turns_of x ≡ turns) → IfOk r (λ x. asked ≡ Some (Jobs (turns_of x)))
asked_by (Ok x) turns_of asked turns is h = is ∙ ap (λ (t : Turns). Some (Jobs t)) (sym h)
asked_by (Err d) turns_of asked turns is h = tt

pub turns_by_call : {R E : Type 0} (r : Result R E) (turns_of : R → Turns) (P : Turns → Type 0) (turns : Turns) → P turns → IfOk r (λ x. turns_of x ≡ turns) → IfOk r (λ x. P (turns_of x))
turns_by_call (Ok x) turns_of P turns is h = subst P (sym h) is
turns_by_call (Err d) turns_of P turns is h = tt
