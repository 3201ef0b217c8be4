-- What a whole run came to, from the machine that was begun and ran the jobs of a deck.
use Rattle.std.proofs.Common.{◌≡◌, ℕ, zero, suc, ◌<◌, All, List, [], ◌∷◌, length, refl, sym, ◌∙◌, ap, subst, arith}
use Rattle.std.specs.Prelude.{◌-◌, ◌^◌, IfOk, Result, Some, None, slice_get}
use Rattle.std.proofs.lemmas.Option.{slice_get_within}
use Rattle.s38_code.specs.declared.deck.Deck.{Deck}
use Rattle.s38_code.specs.declared.deck.Job.{Job}
use Rattle.s38_code.specs.declared.entry.Entry.{Entry}
use Rattle.s38_code.specs.declared.made.CheckedTemplate.{CheckedTemplate}
use Rattle.s38_code.specs.declared.made.CreateResult.{CreateResult}
use Rattle.s38_rules.specs.state.State.{State}
use Rattle.s38_rules.specs.step.Legal.{IsSound, Leads, Run, begun, no_moment}
use Rattle.s38_rules.proofs.Laws.{marked_still}
use Rattle.s38_rules.specs.state.Held.{Held}
use Rattle.s38_rules.specs.state.Opening.{held_installed, state_of}
use Rattle.s38_run.specs.Whole.{AllRan}
use Rattle.s38_base.specs.declared.fault.NoMemory.{NoMemory as Fault}
use Rattle.s38_disk.specs.Disk.{DiskView}
use Rattle.s38_template.specs.Grammar.{Spells}
use Rattle.s38_command.specs.declared.command.Command.TheVariants.{Demo}
use Rattle.s38_top.specs.declared.outcome.Outcome.TheVariants.{Demonstrated}
use Rattle.s38_objects.specs.Lawful.{IsObjectMap}
use Rattle.s38_top.specs.declared.outcome.Whole.{Whole}
use Rattle.s38_top.specs.declared.start.Started.{Started}
use Rattle.s38_command.specs.declared.turns.Turns.TheVariants.{Serial}
use Rattle.s38_top.specs.Begun.{IsStarted, IsWholeOf, held_of}
use Rattle.s38_top.specs.Decks.{AreMarks, IsRunOf, IsUnstored, checked_of, made_for, made_in_order, opened_machine}
use Rattle.s38_top.specs.Causes.{OfText}

pub there_is : {A : Type 0} (xs : List A) (k : ℕ) → k < length xs → (x : A) × (slice_get xs k ≡ Some x)
there_is [] k h = absurd (omega arith)
there_is (x ∷ xs) zero h = (x, refl)
there_is (x ∷ xs) (suc k) h = there_is xs k (omega arith)

-- a sound machine that was begun with the deck's checked templates, and ran each job by what is made of its
-- template, has the history of the deck
pub run_of : (held : Held) (Order : State → List Entry → Type 0) (deck : Deck) (made : List CreateResult) (ts : List CheckedTemplate) (begun_by m : Run) → length made ≡ length deck.jobs
    → ((k : ℕ) (job : Job) (one : CreateResult) → slice_get deck.jobs k ≡ Some job → slice_get made k ≡ Some one → made_for deck job ≡ Some one)
    → ts ≡ checked_of deck → begun_by ≡ begun no_moment (state_of held ts deck.jobs)
    → IsSound m → m.origin ≡ state_of begun_by.state.held begun_by.state.templates deck.jobs → Order m.origin m.history → AllRan made deck.jobs m.history
    → (run : IsRunOf None held Order deck m.history) × (run.state ≡ m.state)
run_of held Order deck made ts begun_by m count each checked begins sound origin order ran =
    let first : m.origin ≡ state_of held ts deck.jobs = origin ∙ ap (λ (r : Run). state_of r.state.held r.state.templates deck.jobs) begins in (
      record {
        state = m.state;
        legal = subst (λ (s : State). Leads s [] m.history m.state) (first ∙ ap (λ xs. state_of held xs deck.jobs) checked) sound.legal;
        order = subst (λ (s : State). Order s m.history) (first ∙ ap (λ xs. state_of held xs deck.jobs) checked) order;
        each = λ k job at.
            let one = there_is made k (omega (arith, count, slice_get_within deck.jobs k job at)) in
            record { made = one.0; is = each k job one.0 at one.1; ran = ran.each k job one.0 at one.1 };
      },
      refl,
    )

-- the marks of a sound machine
pub marks_of_run : (held : Held) (deck : Deck) (ts : List CheckedTemplate) (begun_by m : Run) (history : List Entry) (marks : List ℕ) → begun_by ≡ begun no_moment (state_of held ts deck.jobs) → IsSound m
    → (m.first ≡ begun_by.first) × (m.moment ≡ begun_by.first) → history ≡ m.history → marks ≡ m.marks → AreMarks marks history
marks_of_run held deck ts begun_by m history marks begins sound still h k =
    let start : begun_by.first ≡ no_moment = ap (λ (r : Run). r.first) begins in
    let here = marked_still m sound.stored (still.1 ∙ sym still.0) in
    record {
      count = ap length k ∙ here.0 ∙ ap length (sym h);
      stamped = subst (λ (xs : List ℕ). All IsUnstored xs) (sym k) (subst (λ (n : ℕ). All (λ mark. mark ≡ n) m.marks) (still.0 ∙ start) here.1);
    }

-- a machine that was just started has begun the jobs
pub started_of : (held : Held) (deck : Deck) (ts : List CheckedTemplate) (m : Run) → m ≡ begun no_moment (state_of held ts deck.jobs) → ts ≡ checked_of deck → m ≡ begun no_moment (opened_machine None m.state.held deck)
started_of held deck ts m e is =
    let here : m.state.held ≡ held = ap (λ (r : Run). r.state.held) e in
    e ∙ (ap (λ (xs : List CheckedTemplate). begun no_moment (state_of held xs deck.jobs)) is ∙ ap (λ (h : Held). begun no_moment (opened_machine None h deck)) (sym here))

templates_of : (started : Started) → IsStarted started → started.machine.state.templates ≡ checked_of started.deck
templates_of started is = ap (λ (r : Run). r.state.templates) is.begins

begun_by_jobs : (started : Started) → IsStarted started → started.machine ≡ begun no_moment (state_of (held_of started) started.machine.state.templates started.deck.jobs)
begun_by_jobs started is = is.begins ∙ ap (λ (xs : List CheckedTemplate). begun no_moment (state_of (held_of started) xs started.deck.jobs)) (sym (templates_of started is))

-- a run may begin with it
pub begins_run : (started : Started) (jobs : List Job) → IsStarted started → jobs ≡ started.deck.jobs
    → started.machine ≡ begun started.machine.first (state_of (held_of started) started.machine.state.templates jobs)
begins_run started jobs is jobs_is =
    let first : started.machine.first ≡ no_moment = ap (λ (r : Run). r.first) is.begins in
    begun_by_jobs started is
    ∙ (ap (λ n. begun n (state_of (held_of started) started.machine.state.templates started.deck.jobs)) (sym first)
    ∙ ap (λ (js : List Job). begun started.machine.first (state_of (held_of started) started.machine.state.templates js)) (sym jobs_is))

pub few_begun : (started : Started) (jobs : List Job) → IsStarted started → jobs ≡ started.deck.jobs → length jobs < 2 ^ 32 - 1
few_begun started jobs is jobs_is = omega (arith, ap length jobs_is, is.few)

pub as_many_made : (started : Started) (jobs : List Job) (made : List CreateResult) → IsStarted started → jobs ≡ started.deck.jobs → made ≡ started.made.items → length made ≡ length jobs
as_many_made started jobs made is jobs_is made_is = ap length made_is ∙ (is.count ∙ sym (ap length jobs_is))

-- what a machine that ran the jobs from there came to
pub whole_of_run : (started : Started) (Order : State → List Entry → Type 0) (m : Run) (whole : Whole) (jobs : List Job) (made : List CreateResult)
    → IsStarted started → jobs ≡ started.deck.jobs → made ≡ started.made.items
    → IsSound m → m.origin ≡ state_of (held_of started) started.machine.state.templates jobs → (m.first ≡ started.machine.first) × (m.moment ≡ started.machine.first)
    → Order m.origin m.history → AllRan made jobs m.history
    → whole.deck ≡ started.deck → whole.history.items ≡ m.history → whole.marks.items ≡ m.marks → whole.state ≡ m.state → IsObjectMap whole.state.held
    → IsWholeOf (held_of started) Order started.deck whole
whole_of_run started Order m whole jobs made is jobs_is made_is sound origin still order ran deck_is history_is marks_is state_is lawful =
    let begins = begun_by_jobs started is in
    let run = run_of (held_of started) Order started.deck started.made.items started.machine.state.templates started.machine m is.count is.each (templates_of started is) begins sound
    (origin ∙ ap (λ (js : List Job). state_of (held_of started) started.machine.state.templates js) jobs_is) order
    (subst (λ (js : List Job). AllRan started.made.items js m.history) jobs_is (subst (λ (xs : List CreateResult). AllRan xs jobs m.history) made_is ran)) in
    let here = subst (λ (es : List Entry). (r : IsRunOf None (held_of started) Order started.deck es) × (r.state ≡ m.state)) (sym history_is) run in
    record {
      deck_is = deck_is;
      run = here.0;
      state_is = here.1 ∙ sym state_is;
      marks = marks_of_run (held_of started) started.deck started.machine.state.templates started.machine m whole.history.items whole.marks.items begins sound still history_is marks_is;
      lawful = lawful;
    }

-- the same of objects and a deck that are told otherwise
pub whole_at : (held held' : Held) (Order : State → List Entry → Type 0) (deck deck' : Deck) (r : Result Whole Fault) → held ≡ held' → deck ≡ deck'
    → IfOk r (λ whole. IsWholeOf held Order deck whole) → IfOk r (λ whole. IsWholeOf held' Order deck' whole)
whole_at held held' Order deck deck' r same same_deck h =
    subst (λ (d : Deck). IfOk r (λ whole. IsWholeOf held' Order d whole)) same_deck (subst (λ (x : Held). IfOk r (λ whole. IsWholeOf x Order deck whole)) same h)

-- what a demonstration that ran comes to
pub demonstrated_of : (size : ℕ) (text : List ℕ) (deck : Deck) (whole : Whole) (disk : DiskView) → Spells text deck → IsWholeOf held_installed (made_in_order (Serial size)) deck whole
    → OfText (Demo size) text disk disk (Demonstrated size whole)
demonstrated_of size text deck whole disk spelled w = (
  refl,
  (
    subst (λ (d : Deck). Spells text d) (sym w.deck_is) spelled,
    (subst (λ (d : Deck). IsRunOf None held_installed (made_in_order (Serial size)) d whole.history.items) (sym w.deck_is) w.run, (w.marks, refl)),
  ),
)
