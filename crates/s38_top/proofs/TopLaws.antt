-- From whole runs, texts and stores to what the program answers.
use Rattle.std.proofs.Common.{◌≡◌, ◌==◌, ℕ, ◌≤◌, ◌⊎◌, Bool, true, false, List, [], length, inl, inr, refl, sym, ◌∙◌, ap, subst, arith}
use Rattle.std.specs.Prelude.{◌-◌, IfSome, MatchBool, Option, Some, None, drop, min, take, if◌then◌else◌}
use Rattle.std.proofs.lemmas.List.{drop_all, length-take}
use Rattle.s38_code.specs.declared.deck.Deck.{Deck}
use Rattle.s38_code.specs.declared.entry.Entry.{Entry}
use Rattle.s38_code.specs.declared.made.CheckedTemplate.{CheckedTemplate}
use Rattle.s38_rules.specs.state.Opening.{held_installed}
use Rattle.std.specs.Io.KnownBytes.{Appends}
use Rattle.s38_base.specs.Faults.{Rose}
use Rattle.s38_disk.specs.Disk.{DiskView}
use Rattle.s38_io.specs.Source.{ReadsAll}
use Rattle.s38_io.specs.Sink.{AppendsFront}
use Rattle.s38_demo.specs.GeneratedDeck.{deck_of}
use Rattle.s38_laws_images.proofs.openings.FirstLaws.{installed_opening}
use Rattle.s38_template.specs.Grammar.{Spells}
use Rattle.s38_command.specs.declared.command.Command.{Command}
use Rattle.s38_command.specs.declared.command.Command.TheVariants.{Jobs, Check, Demo, Install, List as Listing}
use Rattle.s38_top.specs.declared.outcome.Outcome.{Outcome}
use Rattle.s38_top.specs.declared.outcome.Outcome.TheVariants.{BadWords, BadDeck, DeckFault, NoMemory, Ran, Checked, Demonstrated, Installed, Listed, Refused, DiskFault}
use Rattle.s38_top.specs.declared.outcome.RunEnd.TheVariants.{Kept, Failed, Full, Stopped}
use Rattle.s38_command.specs.declared.turns.Turns.{Turns}
use Rattle.s38_top.specs.Crash.{IsSafe, KeepsRun}
use Rattle.s38_top.proofs.KeepLaws.{run_keeps}
use Rattle.s38_top.specs.Ends.{IsSafeOf}
use Rattle.s38_top.specs.Outcome.{Ends, IsExplained, Tells, faulted}
use Rattle.s38_top.specs.Served.{IsCheckOfDeck, IsComplete, IsDemonstrated, IsInstalled, IsListed, ReadOut, Serves}
use Rattle.s38_top.specs.Causes.{CameToEnd, HasDeck, Holds, IsInputOf, RanGenerated}
use Rattle.s38_top.specs.Answered.{checked_text, history_of, marks_of, most, outcome_text, status_of}
use Rattle.s38_top.specs.Outside.{Outside, Unread}
use Rattle.s38_top.proofs.CompleteLaws.{good_of}

-- ---- the end of the program

told_by : (written : Bool) (o : Outcome) (old new : Outside) → MatchBool written (Appends old.written new.written (outcome_text o)) (Rose old.put new.put × AppendsFront old.written new.written (outcome_text o))
    → Tells old new (if written then status_of o else faulted o) o
told_by true o old new h = inl (refl, h)
told_by false o old new h = inr (refl, h)

held_by : (asked : Option Command) (old new : Outside) (o o' : Outcome) → Holds asked old new o → (o' ≡ o) ⊎ (o' ≡ NoMemory) → Holds asked old new o'
held_by asked old new o o' h e = elim e as (λ _. Holds asked old new o') [
  | inl g ↦ subst (λ (x : Outcome). Holds asked old new x) (sym g) h
  | inr g ↦ subst (λ (x : Outcome). Holds asked old new x) (sym g) tt
]

-- the program came to an outcome that holds, and told it
pub ends_of : (asked : Option Command) (old new : Outside) (o o' : Outcome) (whole : Bool) (status : ℕ) (history : List Entry) (marks : List ℕ)
    → Holds asked old new o → (o' ≡ o) ⊎ (o' ≡ NoMemory)
    → MatchBool whole (Appends old.written new.written (outcome_text o')) (Rose old.put new.put × AppendsFront old.written new.written (outcome_text o'))
    → status ≡ (if whole then status_of o' else faulted o') → history ≡ history_of o' → marks ≡ marks_of o' → Ends asked old new status history marks
ends_of asked old new o o' whole status history marks holds same told s h n = record {
  outcome = o';
  holds = held_by asked old new o o' holds same;
  tells = subst (λ (n : ℕ). Tells old new n o') (sym s) (told_by whole o' old new told);
  kept = h;
  marked = n;
}

-- what was not written whole has another status than 0
faulted_not : (n : ℕ) → ◌≡◌ {A = ℕ} (if n == 7 then 7 else 6) 0 → ⊥
faulted_not n h = by_seven (n == 7) h
  where
    by_seven : (b : Bool) → ◌≡◌ {A = ℕ} (if b then 7 else 6) 0 → ⊥
    by_seven true g = omega (arith, g)
    by_seven false g = omega (arith, g)

-- a text that spells a deck is not cut by the limit of what is taken, so nothing is left after it
nothing_left : (xs text : List ℕ) → text ≡ take most xs → length text ≤ 4194304 → drop (length text) xs ≡ []
nothing_left xs text e small =
    let count : length text ≡ min most (length xs) = ap length e ∙ length-take most xs in
    drop_all (length text) xs (omega (arith, count, small))

finished_of : (old new : Option (List ℕ)) (xs text : List ℕ) → old ≡ Some xs → ReadsAll most old new text → length text ≤ 4194304 → new ≡ Some []
finished_of None new xs text e h small = cc
finished_of (Some ys) new xs text e h small = h.rest ∙ ap Some (nothing_left ys text h.front small)

-- the input was read to its end, where what was taken of it spells a deck
read_out : (old new : Outside) (deck : Deck) → HasDeck old new deck → ReadOut old new
read_out old new deck taken xs e = finished_of old.left new.left xs taken.text e taken.read taken.is.small

serves_by : (asked : Option Command) (old new : Outside) (o : Outcome) (history : List Entry) → Holds asked old new o → Appends old.written new.written (outcome_text o) → status_of o ≡ 0 → history ≡ history_of o
    → Serves (asked) old new history
serves_by asked old new BadWords history holds told s h = absurd (omega arith)
serves_by asked old new (BadDeck line code) history holds told s h = absurd (omega arith)
serves_by asked old new DeckFault history holds told s h = absurd (omega arith)
serves_by asked old new NoMemory history holds told s h = absurd (omega arith)
serves_by asked old new (Refused bad) history holds told s h = absurd (omega arith)
serves_by asked old new DiskFault history holds told s h = absurd (omega arith)
serves_by asked old new (Ran turns whole Failed) history holds told s h = absurd (omega arith)
serves_by asked old new (Ran turns whole (Full needed free)) history holds told s h = absurd (omega arith)
serves_by asked old new (Ran turns whole Stopped) history holds told s h = absurd (omega arith)
serves_by asked old new (Ran turns whole Kept) history holds told s h =
    let read : ReadsAll most old.left new.left holds.text = subst (λ (c : Command). IsInputOf c old new holds.text) holds.comes.0 holds.takes in
    let taken_is : HasDeck old new whole.deck = record { text = holds.text; read = read; is = holds.comes.1.0 } in
    let came : CameToEnd turns old.disk new.disk whole Kept = holds.comes.1.1 in
    let complete : IsComplete turns old new history =
    subst (λ (es : List Entry). IsComplete turns old new es) (sym h) (record {
      deck = whole.deck;
      taken = taken_is;
      ran = came.ran;
      laws = run_keeps (Some came.ran.room) came.ran.held _ whole.deck whole.history.items came.ran.begins.opening came.ran.run;
      kept = λ s t at is. (came.ends s t at is).kept.keeps;
      told = told;
      finished = read_out old new whole.deck taken_is;
    }) in
    subst (λ (c : Option Command). Serves c old new history) (sym (holds.is ∙ ap Some holds.comes.0)) complete
serves_by asked old new (Checked checked) history holds told s h =
    let read : ReadsAll most old.left new.left holds.text = subst (λ (c : Command). IsInputOf c old new holds.text) holds.comes.0 holds.takes in
    let taken_is : HasDeck old new checked.deck = record { text = holds.text; read = read; is = holds.comes.1.0 } in
    let checked_is : IsCheckOfDeck old new history = record {
      deck = checked.deck;
      taken = taken_is;
      told = subst (λ (ts : List CheckedTemplate). Appends old.written new.written (checked_text ts)) holds.comes.1.1.0 told;
      finished = read_out old new checked.deck taken_is;
      still = h;
      untouched = holds.comes.1.1.1;
    } in
    subst (λ (c : Option Command). Serves c old new history) (sym (holds.is ∙ ap Some holds.comes.0)) checked_is
serves_by asked old new (Demonstrated size whole) history holds told s h =
    let made : Unread old new × (holds.text ≡ deck_of size) = subst (λ (c : Command). IsInputOf c old new holds.text) holds.comes.0 holds.takes in
    let ran : RanGenerated size whole.deck whole.history.items = record { is = subst (λ (xs : List ℕ). Spells xs whole.deck) made.1 holds.comes.1.0; run = holds.comes.1.1.0 } in
    let demonstrated : IsDemonstrated size old new history =
    subst (λ (es : List Entry). IsDemonstrated size old new es) (sym h) (record {
      deck = whole.deck;
      ran = ran;
      laws = run_keeps None held_installed _ whole.deck whole.history.items installed_opening ran.run;
      told = told;
      unread = made.0;
      untouched = holds.comes.1.1.1.1;
    }) in
    subst (λ (c : Option Command). Serves c old new history) (sym (holds.is ∙ ap Some holds.comes.0)) demonstrated
serves_by asked old new Installed history holds told s h =
    let installed_is : IsInstalled old new history = record { made = holds.comes.1; told = told; unread = holds.unread; still = h } in
    subst (λ (c : Option Command). Serves c old new history) (sym (holds.is ∙ ap Some holds.comes.0)) installed_is
serves_by asked old new (Listed objects) history holds told s h =
    let listed_is : IsListed old new history = record { objects = objects; listing = holds.comes.1; told = told; unread = holds.unread; still = h } in
    subst (λ (c : Option Command). Serves c old new history) (sym (holds.is ∙ ap Some holds.comes.0)) listed_is

pub serves_of : (asked : Option Command) (old new : Outside) (status : ℕ) (history : List Entry) (marks : List ℕ) → Ends asked old new status history marks → status ≡ 0 → Serves (asked) old new history
serves_of asked old new status history marks ends zero_is =
    elim ends.tells as (λ _. Serves (asked) old new history) [
      | inl t ↦ serves_by asked old new ends.outcome history ends.holds t.1 (sym t.0 ∙ zero_is) ends.kept
      | inr t ↦ absurd (faulted_not (status_of ends.outcome) (sym t.0 ∙ zero_is))
    ]

-- ---- whenever a crash comes

-- want of memory has one status
wanted : (whole : Bool) (o : Outcome) (status : ℕ) → o ≡ NoMemory → status ≡ (if whole then status_of o else faulted o) → status ≡ 7
wanted true o status is s = s ∙ ap status_of is
wanted false o status is s = s ∙ ap faulted is

run_told : (turns : Turns) (old new : DiskView) (whole : Bool) (o o' : Outcome) (status : ℕ) (history : List Entry) (marks : List ℕ) → (o' ≡ o) ⊎ (o' ≡ NoMemory)
    → status ≡ (if whole then status_of o' else faulted o') → history ≡ history_of o' → marks ≡ marks_of o'
    → KeepsRun turns old new (o ≡ NoMemory) (history_of o) (marks_of o) → KeepsRun turns old new (status ≡ 7) history marks
run_told turns old new whole o o' status history marks (inl same) s h n run = record {
  entries = run.entries;
  marks_made = run.marks_made;
  made = run.made;
  reported = λ not. let told = run.reported (λ is. not (wanted whole o' status (same ∙ is) s)) in (h ∙ ap history_of same ∙ told.0, n ∙ ap marks_of same ∙ told.1);
  next = λ not. run.next (λ is. not (wanted whole o' status (same ∙ is) s));
}
run_told turns old new whole o o' status history marks (inr none) s h n run = record {
  entries = run.entries;
  marks_made = run.marks_made;
  made = run.made;
  reported = λ not. absurd (not (wanted whole o' status none s));
  next = λ not. absurd (not (wanted whole o' status none s));
}

pub safe_told : (asked : Option Command) (old new : DiskView) (whole : Bool) (o o' : Outcome) (status : ℕ) (history : List Entry) (marks : List ℕ) → (o' ≡ o) ⊎ (o' ≡ NoMemory)
    → status ≡ (if whole then status_of o' else faulted o') → history ≡ history_of o' → marks ≡ marks_of o' → IsSafeOf asked old new o → IsSafe asked old new (status ≡ 7) history marks
safe_told None old new whole o o' status history marks same s h n safe = safe
safe_told (Some (Jobs turns)) old new whole o o' status history marks same s h n (inl keeps) = inl keeps
safe_told (Some (Jobs turns)) old new whole o o' status history marks same s h n (inr run) = inr (run_told turns old new whole o o' status history marks same s h n run)
safe_told (Some Check) old new whole o o' status history marks same s h n safe = safe
safe_told (Some (Demo size)) old new whole o o' status history marks same s h n safe = safe
safe_told (Some Install) old new whole o o' status history marks same s h n safe = safe
safe_told (Some Listing) old new whole o o' status history marks same s h n safe = safe

-- all that is said of a call
pub answered_of : (asked : Option Command) (old new : Outside) (status : ℕ) (history : List Entry) (marks : List ℕ) → Ends asked old new status history marks → IsSafe asked old.disk new.disk (status ≡ 7) history marks
    → IsExplained asked old new status history marks
answered_of asked old new status history marks ends safe = record {
  ends = ends;
  serves = serves_of asked old new status history marks ends;
  good = good_of asked old new status history marks ends;
  safe = safe;
}

-- what is there is told of
pub some_is : {D : Type 0} (P : D → Type 0) (o : Option D) (d : D) → o ≡ Some d → P d → IfSome o P
some_is P o d is p = subst (λ x. IfSome x P) (sym is) p
