-- A template of a deck is read again when it is printed alone.
use Rattle.std.proofs.Common.{Bool, subst, ◌≡◌, ◌∙◌, ℕ, ◌+◌, ◌≤◌, true, List, [], ◌∷◌, ◌++◌, Ok, Err, Result, Some, ap, length, length-append, refl, sym, arith, inl, inr}
use Rattle.std.proofs.lemmas.Bool.{and_parts, cases_Bool}
use Rattle.std.proofs.lemmas.List.Folds.{list_all-append}
use Rattle.std.proofs.lemmas.List.{append-nil}
use Rattle.std.proofs.lemmas.List.Elements.{All-cons, All-nil}
use Rattle.s38_codec.proofs.CodecLaws.{and_true}
use Rattle.std.specs.Prelude.{All}
use Rattle.std.specs.List.{AllByRecursion, filter, flat_map, list_all}
use Rattle.s38_code.specs.declared.deck.Deck.{Deck}
use Rattle.s38_code.specs.declared.program.CreateFault.{CreateFault}
use Rattle.s38_code.specs.declared.program.CreateFault.TheVariants as faults
use Rattle.s38_code.specs.declared.program.Program.{Program}
use Rattle.s38_create.specs.Checked.{made_of, result_of_creation}
use Rattle.s38_create.specs.Created.{program_created}
use Rattle.s38_image.proofs.BodyLaws.{created_template}
use Rattle.s38_image.specs.Programs.{template_spelled_in}
use Rattle.s38_laws_images.specs.readable.Templates.{IsMade}
use Rattle.s38_template.proofs.Complete.{complete}
use Rattle.s38_template.specs.Grammar.{IsTemplate, Spells, is_kept, line_is_plain, stage_lines, with_feed}
use Rattle.s38_template.specs.Printing.{printed_lines}
use Rattle.s38_template.specs.Reading.{read_of}

-- ---- lines

both_all : {X : Type 0} (p : X → Bool) (xs ys : List X) → list_all p (xs ++ ys) ≡ true → (list_all p xs ≡ true) × (list_all p ys ≡ true)
both_all p xs ys h = and_parts (list_all p xs) (list_all p ys) (sym (list_all-append p xs ys) ∙ h)

kept_all : (lines : List (List ℕ)) → list_all is_kept lines ≡ true → filter is_kept lines ≡ lines
kept_all [] h = refl
kept_all (line ∷ lines) h = let both = and_parts (is_kept line) (list_all is_kept lines) h in rw both.0 (ap (λ l. line ∷ l) (kept_all lines both.1))

longer : (one other : List (List ℕ)) → length (printed_lines (one ++ other)) ≡ length (printed_lines one) + length (printed_lines other)
longer [] other = omega arith
longer (line ∷ one) other = omega (arith, longer one other, length-append (with_feed line) (printed_lines (one ++ other)), length-append (with_feed line) (printed_lines one))

-- what of some lines says something
record IsRest (lines rest : List (List ℕ)) : Type 0 where
  plain : list_all line_is_plain rest ≡ true
  kept : list_all is_kept rest ≡ true
  small : length (printed_lines rest) ≤ length (printed_lines lines)

rest_of : (lines : List (List ℕ)) → list_all line_is_plain lines ≡ true → IsRest lines (filter is_kept lines)
rest_of [] plain = record { plain = refl; kept = refl; small = omega arith }
rest_of (line ∷ lines) plain =
    let both = and_parts (line_is_plain line) (list_all line_is_plain lines) plain in
    let rest = rest_of lines both.1 in
    elim (cases_Bool (is_kept line)) [
      | inl k ↦ rw k (record {
        plain = and_true (line_is_plain line) _ both.0 rest.plain;
        kept = and_true (is_kept line) _ k rest.kept;
        small = omega (arith, rest.small, length-append (with_feed line) (printed_lines (filter is_kept lines)), length-append (with_feed line) (printed_lines lines));
      })
      | inr k ↦ rw k (record { plain = rest.plain; kept = rest.kept; small = omega (arith, rest.small, length-append (with_feed line) (printed_lines lines)) })
    ]

-- ---- a template alone

abbrev alone : List (List ℕ) → Deck
alone t = record { templates = t ∷ []; jobs = [] }

spells_alone : (t : List (List ℕ)) → list_all line_is_plain t ≡ true → list_all is_kept t ≡ true → length (printed_lines t) ≤ 4194304 → IsTemplate t → Spells (printed_lines t) (alone t)
spells_alone t plain kept small is = record {
  lines = t;
  job_lines = [];
  ended = refl;
  small = small;
  plain = plain;
  said = kept_all t kept ∙ sym (append-nil t) ∙ sym (append-nil (t ++ []));
  says = tt;
  templates = (is, tt);
  few_templates = omega arith;
  apart = refl;
  jobs = record { each = refl; numbered = refl; apart = refl; found = refl };
  few_jobs = omega arith;
}

abbrev IsAgain : List (List ℕ) → Type 0
IsAgain t = template_spelled_in (read_of (printed_lines t)) ≡ Some t

each_again : (ts : List (List (List ℕ))) → list_all line_is_plain (flat_map (λ l. l) ts) ≡ true → list_all is_kept (flat_map (λ l. l) ts) ≡ true → length (printed_lines (flat_map (λ l. l) ts)) ≤ 4194304
    → AllByRecursion IsTemplate ts → AllByRecursion IsAgain ts
each_again [] plain kept small are = tt
each_again (t ∷ ts) plain kept small are =
    let rest : List (List ℕ) = flat_map (λ l. l) ts in
    let plains = both_all line_is_plain t rest plain in
    let kepts = both_all is_kept t rest kept in
    let spells = spells_alone t plains.0 kepts.0 (omega (arith, small, longer t rest)) are.0 in
    (ap template_spelled_in (complete (printed_lines t) (alone t) spells), each_again ts plains.1 kepts.1 (omega (arith, small, longer t rest)) are.1)

pub templates_again : (text : List ℕ) (deck : Deck) → Spells text deck → AllByRecursion IsAgain deck.templates
templates_again text deck s =
    let flat : List (List ℕ) = flat_map (λ l. l) deck.templates in
    let jobs : List (List ℕ) = stage_lines 0 s.job_lines deck.jobs in
    let rest = rest_of s.lines s.plain in
    let plain : list_all line_is_plain (flat ++ jobs) ≡ true = ap (list_all line_is_plain) (sym s.said) ∙ rest.plain in
    let kept : list_all is_kept (flat ++ jobs) ≡ true = ap (list_all is_kept) (sym s.said) ∙ rest.kept in
    each_again deck.templates (both_all line_is_plain flat jobs plain).0 (both_all is_kept flat jobs kept).0
    (omega (arith, s.small, ap length s.ended, rest.small, ap (λ l. length (printed_lines l)) s.said, longer flat jobs)) s.templates

-- ---- what is created of it

made_again : (t : List (List ℕ)) (r : Result Program CreateFault) → program_created t ≡ r → IsAgain t → IsMade (result_of_creation r)
made_again t (Ok p) is again =
    let own : p.template ≡ t = created_template t p is in
    record { template = subst IsAgain (sym own) again; created = ap program_created own ∙ is }
made_again t (Err (faults.Bad id number)) is again = tt
made_again t (Err faults.NoMemory) is again = tt

each_made : (ts : List (List (List ℕ))) → AllByRecursion IsAgain ts → All (λ t. IsMade (made_of t)) ts
each_made [] again = All-nil (λ t. IsMade (made_of t))
each_made (t ∷ ts) again = All-cons (λ t. IsMade (made_of t)) t ts (made_again t (program_created t) refl again.0) (each_made ts again.1)

pub templates_made : (text : List ℕ) (deck : Deck) → Spells text deck → All (λ t. IsMade (made_of t)) deck.templates
templates_made text deck s = each_made deck.templates (templates_again text deck s)
