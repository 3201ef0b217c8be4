-- A deck that is spelled is read.
use Rattle.std.proofs.Common.{◌≡◌, ℕ, ◌+◌, ◌≤◌, List, [], ◌++◌, length, Ok, sym, ap, subst, ◌∙◌, refl, arith, inl}
use Rattle.std.specs.List.{flat_map, slice_split}
use Rattle.s38_code.specs.declared.deck.Deck.{Deck}
use Rattle.s38_template.specs.declared.place.Place.TheVariants.{Between}
use Rattle.s38_template.specs.Grammar.{FitJobs, SayEach, Spells, is_act_line, stage_lines, template_names}
use Rattle.s38_template.specs.Reading.{ReadingState, is_feed, read_of, read_on, start}
use Rattle.s38_template.proofs.Ends.{Ends, reads_on}
use Rattle.s38_template.proofs.Texts.{free_from_plain, lines_split}
use Rattle.s38_template.proofs.JobsRead.{StageMayCome, jobs_end, whole}
use Rattle.s38_template.proofs.TemplatesRead.{templates_end}

-- ---- the text

first_state : ReadingState
first_state = record { place = Between; templates = []; draft = []; labels = []; declared = 0; acts = 0; names = []; jobs = []; job_names = []; stage = 0 }

all_end : (text : List ℕ) (deck : Deck) → Spells text deck → (texts : List (List ℕ)) → SayEach texts deck.jobs → Ends first_state (flat_map (λ lines. lines) deck.templates ++ stage_lines 0 texts deck.jobs) deck
unfolding first_state
all_end text deck s texts says =
    let names : List (List ℕ) = template_names deck.templates in
    templates_end deck.templates first_state (stage_lines 0 texts deck.jobs) deck refl s.templates s.apart (omega (arith, s.few_templates)) (λ t a.
    let stands : StageMayCome t = record { place = inl a.place; first = λ e. a.stage; few = omega (arith, a.stage) } in
    let F : List (List ℕ) → Type 0 = λ n. FitJobs n [] 0 deck.jobs in
    let G : List (List ℕ) → Type 0 = λ n. FitJobs t.names n 0 deck.jobs in
    let H : ℕ → Type 0 = λ n. FitJobs t.names t.job_names n deck.jobs in
    let fit : FitJobs t.names t.job_names t.stage deck.jobs = subst H (sym a.stage) (subst G (sym a.job_names) (subst F (sym a.names) s.jobs)) in
    let few : length t.jobs + length deck.jobs ≤ 256 = omega (arith, s.few_jobs, ap length a.jobs) in
    let whole_is : whole t deck.jobs ≡ deck = ap (λ l. record { templates = l; jobs = t.jobs ++ deck.jobs }) a.templates ∙ ap (λ l. record { templates = deck.templates; jobs = l ++ deck.jobs }) a.jobs in
    let D : Deck → Type 0 = λ d. Ends t (stage_lines t.stage texts deck.jobs) d in
    let N : ℕ → Type 0 = λ n. Ends t (stage_lines n texts deck.jobs) deck in
    subst N a.stage (subst D whole_is (jobs_end deck.jobs texts t stands says fit few)))

pub complete : (text : List ℕ) (deck : Deck) → Spells text deck → read_of text ≡ Ok deck
unfolding read_of start first_state
complete text deck s =
    let E : List (List ℕ) → Type 0 = λ l. Ends first_state l deck in
    ap (λ parts. read_on first_state 0 1 parts) (ap (slice_split is_feed) s.ended ∙ lines_split s.lines (free_from_plain s.lines s.plain))
    ∙ reads_on s.lines first_state 0 1 deck s.plain (omega (arith, s.small, ap length s.ended)) (subst E (sym s.said) (all_end text deck s s.job_lines s.says))
