-- The lines of jobs that are spelled are read.
use Rattle.std.proofs.Common.{◌≡◌, ◌⊎◌, ℕ, ◌+◌, ◌<◌, ◌≤◌, min, true, false, not, ◌&&◌, ◌==◌, nat_lt, nat_le, List, [], ◌∷◌, ◌++◌, map, length, Some, sym, ap, subst, refl, arith, inl, inr}
use Rattle.std.proofs.lemmas.Bool.{and_parts, or_cases, ne_eqb, eqb-true, lt-ltb, ltb-true, not-true, not_from_false}
use Rattle.std.proofs.lemmas.List.{append_assoc, append-nil, length_push}
use Rattle.std.specs.List.{list_all}
use Rattle.s38_code.specs.declared.deck.Deck.{Deck}
use Rattle.s38_code.specs.declared.deck.Job.{Job}
use Rattle.s38_template.specs.declared.place.Place.TheVariants.{Between, Begun, Staged}
use Rattle.s38_template.specs.declared.said.Line.TheVariants.{Stage}
use Rattle.s38_template.specs.Grammar.{FitJobs, SayEach, Says, are_new, are_numbered, budget_part, has, is_job, job_text, name_of_job, stage_lines}
use Rattle.s38_template.specs.Lines.{job, line_of, stage_line}
use Rattle.s38_template.specs.Reading.{ReadingState, job_of, may_come, may_end, taken}
use Rattle.s38_template.proofs.Ends.{Ends, Step}
use Rattle.s38_template.proofs.LineForms.{job_line_read, stage_read}
use Rattle.s38_template.proofs.JobText.{job_read, said_of}
use Rattle.s38_words.specs.Name.{is_declared_name}

abbrev after_job : ReadingState → Job → ReadingState
after_job s j = record s { place = Staged; jobs = s.jobs ++ j ∷ []; job_names = s.job_names ++ j.name ∷ [] }

abbrev after_stage : ReadingState → ReadingState
after_stage s = record s { place = Begun; stage = s.stage + 1 }

-- what a job meets in a state
record Meets (s : ReadingState) (text : List ℕ) (j : Job) : Type 0 where
  pub says : Says text j
  pub fits : is_job j ≡ true
  pub staged : j.stage ≡ s.stage
  pub found : has s.names j.template ≡ true
  pub new : has s.job_names j.name ≡ false
  pub room : length s.jobs < 256

pub said_line : (text : List ℕ) (j : Job) → is_job j ≡ true → Says text j → line_of text ≡ Some (job (said_of j))
said_line text j fits says =
    let P : List ℕ → Type 0 = λ t. line_of t ≡ Some (job (said_of j)) in
    elim says [
      | inl e ↦ subst P (sym e) (job_line_read _ (said_of j) (job_read (job_text (budget_part j.budget) j) j fits (inl refl)))
      | inr e ↦ subst P (sym e.1) (job_line_read _ (said_of j) (job_read (job_text [] j) j fits (inr (e.0, refl))))
    ]

in_range : (j : Job) → is_job j ≡ true → (nat_le 1 j.budget && nat_le j.budget 10000000) ≡ true
in_range j h =
    let p = and_parts (is_declared_name j.name) _ h in
    let q = and_parts _ _ p.1 in
    let r = and_parts (is_declared_name j.template) _ q.1 in
    (and_parts _ (nat_le 1 j.budget && nat_le j.budget 10000000) r.1).1

job_stands : (s : ReadingState) (j : Job) → (s.place ≡ Begun) ⊎ (s.place ≡ Staged) → may_come s.place (job (said_of j)) ≡ true
job_stands s j (inl e) = ap (λ p. may_come p (job (said_of j))) e
job_stands s j (inr e) = ap (λ p. may_come p (job (said_of j))) e

job_step : (s : ReadingState) (text : List ℕ) (j : Job) → (s.place ≡ Begun) ⊎ (s.place ≡ Staged) → Meets s text j → Step s text (job (said_of j))
job_step s text j place m = record {
  says = said_line text j m.fits m.says;
  stands = job_stands s j place;
  new = not_from_false (has s.job_names j.name) m.new;
  range = in_range j m.fits;
  room = lt-ltb (length s.jobs) 256 m.room;
  found = m.found;
}

job_taken : (s : ReadingState) (text : List ℕ) (j : Job) → j.stage ≡ s.stage → taken s text (job (said_of j)) ≡ after_job s j
job_taken s text j e = ap (λ n. record s { place = Staged; jobs = s.jobs ++ job_of n (said_of j) ∷ []; job_names = s.job_names ++ j.name ∷ [] }) (sym e)

stage_stands : (s : ReadingState) → (s.place ≡ Between) ⊎ (s.place ≡ Staged) → may_come s.place Stage ≡ true
stage_stands s (inl e) = ap (λ p. may_come p Stage) e
stage_stands s (inr e) = ap (λ p. may_come p Stage) e

stage_step : (s : ReadingState) → (s.place ≡ Between) ⊎ (s.place ≡ Staged) → Step s stage_line Stage
stage_step s place = record { says = stage_read; stands = stage_stands s place; new = refl; range = refl; room = refl; found = refl }

stage_taken : (s : ReadingState) → s.stage < 65535 → after_stage s ≡ taken s stage_line Stage
stage_taken s h =
    let e : s.stage + 1 ≡ min (s.stage + 1) 65535 = omega arith in
    ap (λ n. record s { place = Begun; stage = n }) e

-- where the lines of stages may come
pub record StageMayCome (s : ReadingState) : Type 0 where
  pub place : (s.place ≡ Between) ⊎ (s.place ≡ Staged)
  pub first : s.place ≡ Between → s.stage ≡ 0
  pub few : s.stage ≤ length s.jobs

abbrev pub whole : ReadingState → List Job → Deck
whole s jobs = record { templates = s.templates; jobs = s.jobs ++ jobs }

ends_here : (s : ReadingState) → (s.place ≡ Between) ⊎ (s.place ≡ Staged) → Ends s [] (whole s [])
ends_here s (inl e) = (ap may_end e, ap (λ l. record { templates = s.templates; jobs = l }) (sym (append-nil s.jobs)))
ends_here s (inr e) = (ap may_end e, ap (λ l. record { templates = s.templates; jobs = l }) (sym (append-nil s.jobs)))

-- after a job
job_end : (text : List ℕ) (texts : List (List ℕ)) (j : Job) (jobs : List Job) (s : ReadingState) → (s.place ≡ Begun) ⊎ (s.place ≡ Staged) → Meets s text j → s.stage ≤ length s.jobs + 1 → FitJobs s.names (s.job_names ++ j.name ∷ []) j.stage jobs → length s.jobs + length (j ∷ jobs) ≤ 256
    → ((t : ReadingState) → StageMayCome t → FitJobs t.names t.job_names t.stage jobs → length t.jobs + length jobs ≤ 256 → Ends t (stage_lines t.stage texts jobs) (whole t jobs))
    → Ends s (text ∷ stage_lines j.stage texts jobs) (whole s (j ∷ jobs))
job_end text texts j jobs s place m few f n next =
    let t : ReadingState = after_job s j in
    let deck : Deck = whole s (j ∷ jobs) in
    let stands : StageMayCome t = record { place = inr refl; first = λ e. absurd cc; few = omega (arith, length_push s.jobs j) } in
    let P : ℕ → Type 0 = λ k. FitJobs s.names (s.job_names ++ j.name ∷ []) k jobs in
    let rest : Ends t (stage_lines s.stage texts jobs) (whole t jobs) = next t stands (subst P m.staged f) (omega (arith, length_push s.jobs j)) in
    let D : Deck → Type 0 = λ d. Ends t (stage_lines s.stage texts jobs) d in
    let Q : ℕ → Type 0 = λ k. Ends t (stage_lines k texts jobs) deck in
    let R : ReadingState → Type 0 = λ u. Ends u (stage_lines j.stage texts jobs) deck in
    let same : whole t jobs ≡ deck = ap (λ l. record { templates = s.templates; jobs = l }) (append_assoc s.jobs (j ∷ []) jobs) in
    (job (said_of j), (job_step s text j place m, subst R (sym (job_taken s text j m.staged)) (subst Q (sym m.staged) (subst D same rest))))

staged_only : (s : ReadingState) → StageMayCome s → 0 < s.stage → s.place ≡ Staged
staged_only s m h = elim m.place [ inl b ↦ (let z : s.stage ≡ 0 = m.first b in absurd (omega arith)) | inr e ↦ e ]

pub jobs_end : (jobs : List Job) (texts : List (List ℕ)) (s : ReadingState) → StageMayCome s → SayEach texts jobs → FitJobs s.names s.job_names s.stage jobs → length s.jobs + length jobs ≤ 256 → Ends s (stage_lines s.stage texts jobs) (whole s jobs)
jobs_end [] [] s m says f n = ends_here s m.place
jobs_end [] (text ∷ texts) s m says f n = absurd says
jobs_end (j ∷ jobs) [] s m says f n = absurd says
jobs_end (j ∷ jobs) (text ∷ texts) s m says f n =
    let each = and_parts (is_job j) (list_all is_job jobs) f.each in
    let numbered = and_parts _ (are_numbered j.stage jobs) f.numbered in
    let apart = and_parts (not (has s.job_names j.name)) (are_new (s.job_names ++ j.name ∷ []) (map name_of_job jobs)) f.apart in
    let found = and_parts (has s.names j.template) (list_all (λ k. has s.names k.template) jobs) f.found in
    let fit : FitJobs s.names (s.job_names ++ j.name ∷ []) j.stage jobs = record { each = each.1; numbered = numbered.1; apart = apart.1; found = found.1 } in
    let few : s.stage ≤ length s.jobs = m.few in
    let next : (t : ReadingState) → StageMayCome t → FitJobs t.names t.job_names t.stage jobs → length t.jobs + length jobs ≤ 256 → Ends t (stage_lines t.stage texts jobs) (whole t jobs) =
    λ t k g l. jobs_end jobs texts t k says.1 g l
    in
    elim (or_cases (nat_lt 0 s.stage && (j.stage == s.stage)) (j.stage == s.stage + 1) numbered.0) [
      | inl a ↦
          let p = and_parts (nat_lt 0 s.stage) (j.stage == s.stage) a in
          let same : j.stage ≡ s.stage = eqb-true j.stage s.stage p.1 in
          let later : 0 < s.stage = ltb-true 0 s.stage p.0 in
          let meets : Meets s text j = record { says = says.0; fits = each.0; staged = same; found = found.0; new = not-true _ apart.0; room = omega arith } in
          rw p.1 (job_end text texts j jobs s (inr (staged_only s m later)) meets (omega arith) fit n next)
      | inr a ↦
          let after : j.stage ≡ s.stage + 1 = eqb-true j.stage (s.stage + 1) a in
          let other : (j.stage == s.stage) ≡ false = ne_eqb j.stage s.stage (λ q. omega arith) in
          let meets : Meets (after_stage s) text j = record { says = says.0; fits = each.0; staged = after; found = found.0; new = not-true _ apart.0; room = omega arith } in
          let R : ReadingState → Type 0 = λ u. Ends u (text ∷ stage_lines j.stage texts jobs) (whole s (j ∷ jobs)) in
          rw other (Stage, (stage_step s m.place, subst R (stage_taken s (omega arith)) (job_end text texts j jobs (after_stage s) (inl refl) meets (omega arith) fit n next)))
    ]
