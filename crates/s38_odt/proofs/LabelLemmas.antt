-- Labels, line by line.
use Rattle.std.proofs.Common.{◌≡◌, ◌≤◌, ◌+◌, ℕ, Bool, true, false, not, cond, List, [], ◌∷◌, Option, Some, None, refl, sym, ◌∙◌, ap, arith}
use Rattle.std.proofs.lemmas.List.Sums.{sum_by-cons}
use Rattle.std.specs.Map.{lookup}
use Rattle.std.specs.Ordering.{nat_cmp}
use Rattle.std.specs.Option.{is_some, option_map_or}
use Rattle.std.specs.Str.{bytes_eq}
use Rattle.std.specs.Cmp.Lexicographic.{slice_cmp}
use Rattle.std.specs.BTreeMap.{BTreeMap, get, is_at}
use Rattle.s38_odt.specs.Labels.{instruction_count, is_instruction_line, is_label, label_from, label_in}
use Rattle.s38_words.specs.ProgramLine.{label_spelled}

pub get-empty : (m : BTreeMap (List ℕ) ℕ) (q : List ℕ) → m.entries ≡ [] → get (slice_cmp nat_cmp) m q ≡ None
get-empty m q e = ap (λ es. lookup (is_at (slice_cmp nat_cmp q)) es) e

instruction_count-cons : (line : List ℕ) (lines : List (List ℕ)) → instruction_count (line ∷ lines) ≡ cond (not (is_label line)) 1 0 + instruction_count lines
instruction_count-cons line lines = sum_by-cons (λ l. cond (is_instruction_line l) 1 0) line lines

pub instruction_count-label : (line : List ℕ) (lines : List (List ℕ)) → is_label line ≡ true → instruction_count (line ∷ lines) ≡ instruction_count lines
instruction_count-label line lines labelled =
    let counted : instruction_count (line ∷ lines) ≡ 0 + instruction_count lines =
    instruction_count-cons line lines ∙ ap (λ b. cond (not b) 1 0 + instruction_count lines) labelled in
    omega arith

pub instruction_count-more : (line : List ℕ) (lines : List (List ℕ)) → is_label line ≡ false → instruction_count (line ∷ lines) ≡ 1 + instruction_count lines
instruction_count-more line lines plain =
    instruction_count-cons line lines ∙ ap (λ b. cond (not b) 1 0 + instruction_count lines) plain

-- a line that is no label is passed over
label_from-plain : (at : ℕ) (line : List ℕ) (lines : List (List ℕ)) (q : List ℕ) → label_spelled line ≡ None → label_from at (line ∷ lines) q ≡ label_from (at + 1) lines q
label_from-plain at line lines q plain =
    ap (λ o. cond (option_map_or (λ label. bytes_eq label q) o false) (Some at) (label_from (cond (is_some o) at (at + 1)) lines q)) plain

-- a label is found, or those after it
label_from-label : (at : ℕ) (line : List ℕ) (lines : List (List ℕ)) (name q : List ℕ) → label_spelled line ≡ Some name →
    label_from at (line ∷ lines) q ≡ cond (bytes_eq name q) (Some at) (label_from at lines q)
label_from-label at line lines name q found =
    ap (λ o. cond (option_map_or (λ label. bytes_eq label q) o false) (Some at) (label_from (cond (is_some o) at (at + 1)) lines q)) found

label_from-step : (at : ℕ) (line : List ℕ) (lines : List (List ℕ)) (q : List ℕ) (k : ℕ) (o : Option (List ℕ)) → label_spelled line ≡ o →
    ((at : ℕ) → label_from at lines q ≡ Some k → k ≤ at + instruction_count lines) →
    label_from at (line ∷ lines) q ≡ Some k → k ≤ at + instruction_count (line ∷ lines)
label_from-step at line lines q k None is more h =
    let later : k ≤ at + 1 + instruction_count lines = more (at + 1) (sym (label_from-plain at line lines q is) ∙ h) in
    let counted : instruction_count (line ∷ lines) ≡ 1 + instruction_count lines = instruction_count-more line lines (ap is_some is) in
    omega arith
label_from-step at line lines q k (Some name) is more h =
    let counted : instruction_count (line ∷ lines) ≡ instruction_count lines = instruction_count-label line lines (ap is_some is) in
    let by_test : (b : Bool) → cond b (Some at) (label_from at lines q) ≡ Some k → k ≤ at + instruction_count (line ∷ lines) =
    λ b. elim b as (λ b. cond b (Some at) (label_from at lines q) ≡ Some k → k ≤ at + instruction_count (line ∷ lines)) [
      | true ↦ λ e. let same : at ≡ k = cc in omega arith
      | false ↦ λ e. let later : k ≤ at + instruction_count lines = more at e in omega arith
    ] in
    by_test (bytes_eq name q) (sym (label_from-label at line lines name q is) ∙ h)

-- labels are within the code
label_from-bound : (at : ℕ) (lines : List (List ℕ)) (q : List ℕ) (k : ℕ) → label_from at lines q ≡ Some k → k ≤ at + instruction_count lines
label_from-bound at [] q k h = absurd (let e : None ≡ Some k = h in cc)
label_from-bound at (line ∷ lines) q k h =
    label_from-step at line lines q k (label_spelled line) refl (λ at h. label_from-bound at lines q k h) h

pub label_in-bound : (code : List (List ℕ)) (q : List ℕ) (k : ℕ) → label_in code q ≡ Some k → k ≤ instruction_count code
unfolding label_in
label_in-bound code q k h = let bound : k ≤ 0 + instruction_count code = label_from-bound 0 code q k h in omega arith
