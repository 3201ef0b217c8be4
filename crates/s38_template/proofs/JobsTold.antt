-- What the lines of jobs and stages say.
use Rattle.std.proofs.Common.{◌≡◌, ℕ, ◌+◌, ◌<◌, ◌≤◌, min, Bool, true, false, not, ◌&&◌, cond, ◌==◌, nat_lt, List, [], ◌∷◌, ◌++◌, map, length, sym, ap, subst, ◌∙◌, refl, arith}
use Rattle.std.proofs.lemmas.Bool.{and_parts, and_from, or_right, or_left, ne_eqb, eq-eqb, lt-ltb}
use Rattle.std.proofs.lemmas.List.{append_assoc, append-nil}
use Rattle.std.specs.List.{list_all}
use Rattle.s38_code.specs.declared.deck.Deck.{Deck}
use Rattle.s38_code.specs.declared.deck.Job.{Job}
use Rattle.s38_template.specs.declared.said.JobSaid.{JobSaid}
use Rattle.s38_template.specs.Grammar.{FitJobs, are_new, are_numbered, has, is_job, name_of_job, stage_lines}
use Rattle.s38_template.specs.Lines.{job, stage_line}
use Rattle.s38_template.specs.Reading.{ReadingState, job_of, taken}
use Rattle.s38_template.proofs.Ends.{Step}
use Rattle.s38_template.proofs.JobText.{SaysJob, job_says}
use Rattle.s38_template.proofs.LineForms.{line_told}
use Rattle.s38_template.proofs.LinesTold.{Core, core_of, ToldJobs, ToldAll, ToldJob}

pub job_told : (s : ReadingState) (text : List ℕ) (said : JobSaid) (lines : List (List ℕ)) (deck : Deck) → 0 < s.stage → Step s text (job said) → ToldJobs (core_of (taken s text (job said))) lines deck → ToldJob (core_of s) (text ∷ lines) deck
job_told s text said lines deck later step t =
    let j : Job = job_of s.stage said in
    let g : SaysJob s.stage text j = job_says s.stage text said (line_told text (job said) step.says) step.range in
    let same : (s.stage == s.stage) ≡ true = eq-eqb s.stage s.stage refl in
    let fit : FitJobs s.names s.job_names s.stage (j ∷ t.told) = record {
      each = and_from (is_job j) (list_all is_job t.told) g.fits t.fit.each;
      numbered = and_from _ (are_numbered s.stage t.told) (or_left (nat_lt 0 s.stage && (s.stage == s.stage)) (s.stage == s.stage + 1) (and_from (nat_lt 0 s.stage) (s.stage == s.stage) (lt-ltb 0 s.stage later) same)) t.fit.numbered;
      apart = and_from (not (has s.job_names said.name)) (are_new (s.job_names ++ said.name ∷ []) (map name_of_job t.told)) step.new t.fit.apart;
      found = and_from (has s.names said.template) (list_all (λ k. has s.names k.template) t.told) step.found t.fit.found;
    } in
    record {
      text = text;
      first = j;
      texts = t.texts;
      told = t.told;
      staged = refl;
      said = ap (λ l. text ∷ l) t.said;
      says = (g.says, t.says);
      jobs_are = t.jobs_are ∙ append_assoc s.jobs (j ∷ []) t.told;
      templates_are = t.templates_are;
      fit = fit;
      few = t.few;
    }

-- the line of a job after its stage's line or after a job of its stage
abbrev jobs_from : Bool → List ℕ → List (List ℕ) → Job → List Job → List (List ℕ)
jobs_from b text texts j jobs = cond b [] (stage_line ∷ []) ++ text ∷ stage_lines j.stage texts jobs

pub one_more_job : (c : Core) (lines : List (List ℕ)) (deck : Deck) → ToldJob c lines deck → ToldJobs c lines deck
one_more_job c lines deck t =
    let same : (t.first.stage == c.stage) ≡ true = eq-eqb t.first.stage c.stage t.staged in
    record {
      texts = t.text ∷ t.texts;
      told = t.first ∷ t.told;
      said = t.said ∙ sym (ap (λ b. jobs_from b t.text t.texts t.first t.told) same);
      says = t.says;
      jobs_are = t.jobs_are;
      templates_are = t.templates_are;
      fit = t.fit;
      few = t.few;
    }

abbrev pub next_stage : Core → Core
next_stage c = record c { stage = min (c.stage + 1) 65535 }

pub stage_told : (c : Core) (text : List ℕ) (lines : List (List ℕ)) (deck : Deck) → text ≡ stage_line → c.stage < 65535 → ToldJob (next_stage c) lines deck → ToldJobs c (text ∷ lines) deck
stage_told c text lines deck e small t =
    let staged : t.first.stage ≡ min (c.stage + 1) 65535 = t.staged in
    let after : t.first.stage ≡ c.stage + 1 = omega arith in
    let next : (t.first.stage == c.stage + 1) ≡ true = eq-eqb t.first.stage (c.stage + 1) after in
    let other : (t.first.stage == c.stage) ≡ false = ne_eqb t.first.stage c.stage (λ q. omega arith) in
    let numbered = and_parts _ (are_numbered t.first.stage t.told) t.fit.numbered in
    let fit : FitJobs c.names c.job_names c.stage (t.first ∷ t.told) = record {
      each = t.fit.each;
      numbered = and_from _ (are_numbered t.first.stage t.told) (or_right (nat_lt 0 c.stage && (t.first.stage == c.stage)) (t.first.stage == c.stage + 1) next) numbered.1;
      apart = t.fit.apart;
      found = t.fit.found;
    } in
    record {
      texts = t.text ∷ t.texts;
      told = t.first ∷ t.told;
      said = ap (λ l. l ∷ lines) e ∙ ap (λ l. stage_line ∷ l) t.said ∙ sym (ap (λ b. jobs_from b t.text t.texts t.first t.told) other);
      says = t.says;
      jobs_are = t.jobs_are;
      templates_are = t.templates_are;
      fit = fit;
      few = t.few;
    }

pub none_told : (c : Core) (deck : Deck) → record { templates = c.templates; jobs = c.jobs } ≡ deck → length c.jobs ≤ 256 → ToldJobs c [] deck
none_told c deck is few =
    let fit : FitJobs c.names c.job_names c.stage [] = record { each = refl; numbered = refl; apart = refl; found = refl } in
    record {
      texts = [];
      told = [];
      said = refl;
      says = tt;
      jobs_are = sym (ap (λ (d : Deck). d.jobs) is) ∙ sym (append-nil c.jobs);
      templates_are = sym (ap (λ (d : Deck). d.templates) is);
      fit = fit;
      few = omega (arith, ap (λ (d : Deck). length d.jobs) is);
    }

-- jobs alone, as a deck with no further template
pub alone : (c : Core) (lines : List (List ℕ)) (deck : Deck) → ToldJobs c lines deck → length c.templates ≤ 1024 → ToldAll c lines deck
alone c lines deck t few =
    let F : List (List ℕ) → Type 0 = λ ns. FitJobs ns c.job_names c.stage t.told in
    record {
      ts = [];
      texts = t.texts;
      told = t.told;
      said = t.said;
      says = t.says;
      jobs_are = t.jobs_are;
      templates_are = t.templates_are ∙ sym (append-nil c.templates);
      each = tt;
      apart = refl;
      fit = subst F (sym (append-nil c.names)) t.fit;
      few = t.few;
      few_templates = omega (arith, ap length t.templates_are);
    }
