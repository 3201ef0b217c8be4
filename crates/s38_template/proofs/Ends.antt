-- The deck that lines end in, where only lines that say something are looked at; and the reading of all lines.
use Rattle.std.proofs.Common.{◌≡◌, ◌⊎◌, ℕ, ◌+◌, ◌<◌, ◌≤◌, Bool, true, false, List, [], ◌∷◌, ◌++◌, length, Option, Some, None, Result, Ok, sym, ap, subst, ◌∙◌, refl, arith, inl, inr}
use Rattle.std.proofs.lemmas.Bool.{cases_Bool, and_parts, and_from, leb-true, le-leb}
use Rattle.std.proofs.lemmas.List.{length-append}
use Rattle.std.proofs.lemmas.List.Splits.{length-slice_split}
use Rattle.std.specs.List.{list_all, filter, flat_map, slice_split}
use Rattle.s38_code.specs.declared.deck.Deck.{Deck}
use Rattle.s38_template.specs.declared.fault.DeckFault.{DeckFault}
use Rattle.s38_template.specs.declared.said.Line.{Line}
use Rattle.s38_template.specs.Cut.{cut}
use Rattle.s38_template.specs.Grammar.{is_kept, line_is_plain, with_feed}
use Rattle.s38_template.specs.Lines.{line_of}
use Rattle.s38_template.specs.Reading.{Answers, ReadingState, after_line, bad_line_code, bad_or, deck_at_end, first_code, has_room, has_template, is_feed, is_small, line_is_in_range, may_come, may_end, name_is_new, read_of, read_on, rest_at, said_code, start, taken, tests}
use Rattle.s38_template.proofs.Texts.{split_at, split_none}

-- a good line that says this
pub record Step (s : ReadingState) (text : List ℕ) (line : Line) : Type 0 where
  pub says : line_of text ≡ Some line
  pub stands : may_come s.place line ≡ true
  pub new : name_is_new s line ≡ true
  pub range : line_is_in_range line ≡ true
  pub room : has_room s line ≡ true
  pub found : has_template s line ≡ true

-- the lines are good, one after the other, and the deck is what was read then
abbrev pub Ends : ReadingState → List (List ℕ) → Deck → Type 0
Ends s [] deck = (may_end s.place ≡ true) × (record { templates = s.templates; jobs = s.jobs } ≡ deck)
Ends s (text ∷ texts) deck = (line : Line) × (Step s text line × Ends (taken s text line) texts deck)

-- ---- codes

code_parts : (b : Bool) (code : ℕ) (more : List (Bool × ℕ)) → first_code ((b, code) ∷ more) ≡ None → (b ≡ true) × (first_code more ≡ None)
code_parts true code more e = (refl, e)
code_parts false code more e = absurd cc

step_told : (s : ReadingState) (size : ℕ) (text : List ℕ) (line : Line) → line_of text ≡ Some line → first_code (tests s size line) ≡ None → Step s text line × (is_small size ≡ true)
step_told s size text line says e =
    let last : List (Bool × ℕ) = (has_template s line, 8) ∷ [] in
    let room : List (Bool × ℕ) = (has_room s line, 7) ∷ last in
    let small : List (Bool × ℕ) = (is_small size, 6) ∷ room in
    let range : List (Bool × ℕ) = (line_is_in_range line, 4) ∷ small in
    let new : List (Bool × ℕ) = (name_is_new s line, 3) ∷ range in
    let a = code_parts (may_come s.place line) 2 new e in
    let b = code_parts (name_is_new s line) 3 range a.1 in
    let c = code_parts (line_is_in_range line) 4 small b.1 in
    let d = code_parts (is_small size) 6 room c.1 in
    let f = code_parts (has_room s line) 7 last d.1 in
    let g = code_parts (has_template s line) 8 [] f.1 in
    (record { says = says; stands = a.0; new = b.0; range = c.0; room = f.0; found = g.0 }, d.0)

no_code : (s : ReadingState) (size : ℕ) (text : List ℕ) (line : Line) → Step s text line → is_small size ≡ true → first_code (tests s size line) ≡ None
no_code s size text line g small = rw g.stands (rw g.new (rw g.range (rw small (rw g.room (rw g.found refl)))))

-- a good line
pub record Turned (s : ReadingState) (size : ℕ) (text : List ℕ) : Type 0 where
  pub plain : line_is_plain text ≡ true
  pub small : is_small size ≡ true
  pub goes : ((is_kept text ≡ false) × (after_line s text ≡ s)) ⊎ ((is_kept text ≡ true) × ((line : Line) × (Step s text line × (after_line s text ≡ taken s text line))))

passed_line : (s : ReadingState) (text : List ℕ) → is_kept text ≡ false → after_line s text ≡ s
unfolding after_line
passed_line s text k = rw k refl

taken_line : (s : ReadingState) (text : List ℕ) (line : Line) → is_kept text ≡ true → line_of text ≡ Some line → after_line s text ≡ taken s text line
unfolding after_line
taken_line s text line k says = rw k (rw says refl)

kept_told : (s : ReadingState) (size : ℕ) (text : List ℕ) (o : Option Line) → line_of text ≡ o → said_code s size o ≡ None → (line : Line) × ((line_of text ≡ Some line) × (first_code (tests s size line) ≡ None))
kept_told s size text None o e = absurd cc
kept_told s size text (Some line) o e = (line, (o, e))

pub turned : (s : ReadingState) (size : ℕ) (text : List ℕ) → bad_line_code s size text ≡ None → Turned s size text
unfolding bad_line_code
turned s size text e =
    elim (cases_Bool (line_is_plain text)) [
      | inr n ↦ absurd (let h = rw n at e in cc)
      | inl p ↦ elim (cases_Bool (is_kept text)) [
        | inl k ↦
            let h = kept_told s size text (line_of text) refl (rw p at (rw k at e)) in
            let g = step_told s size text h.0 h.1.0 h.1.1 in
            record { plain = p; small = g.1; goes = inr (k, (h.0, (g.0, taken_line s text h.0 k h.1.0))) }
        | inr k ↦ elim (cases_Bool (is_small size)) [
          | inl m ↦ record { plain = p; small = m; goes = inl (k, passed_line s text k) }
          | inr m ↦ absurd (let h = rw p at (rw k at (rw m at e)) in cc)
        ]
      ]
    ]

pub passes : (s : ReadingState) (size : ℕ) (text : List ℕ) → line_is_plain text ≡ true → is_small size ≡ true → is_kept text ≡ false → bad_line_code s size text ≡ None
unfolding bad_line_code
passes s size text p m k = rw p (rw k (rw m refl))

pub goes : (s : ReadingState) (size : ℕ) (text : List ℕ) (line : Line) → line_is_plain text ≡ true → is_small size ≡ true → is_kept text ≡ true → Step s text line → bad_line_code s size text ≡ None
unfolding bad_line_code
goes s size text line p m k g = rw p (rw k (rw g.says (no_code s size text line g m)))

-- ---- all lines

pub read_more : (s : ReadingState) (size number : ℕ) (line : List ℕ) (parts : List (List ℕ)) → 0 < length parts → read_on s size number (line ∷ parts) ≡ bad_or number (bad_line_code s (size + length line + 1) line) (read_on (after_line s line) (size + length line + 1) (number + 1) parts)
unfolding read_on
read_more s size number line [] n = absurd (omega arith)
read_more s size number line (next ∷ parts) n = refl

pub read_last : (s : ReadingState) (size number : ℕ) (line : List ℕ) → read_on s size number (line ∷ []) ≡ rest_at s number line
unfolding read_on
read_last s size number line = refl

bad_none : (number : ℕ) (o : Option ℕ) (more : Result Deck DeckFault) (deck : Deck) → bad_or number o more ≡ Ok deck → (o ≡ None) × (more ≡ Ok deck)
bad_none number None more deck e = (refl, e)
bad_none number (Some code) more deck e = absurd cc

unfoldable pub ok : Deck → Result Deck DeckFault
ok deck = Ok deck

pub same_Ok : (one other : Deck) → ok one ≡ ok other → one ≡ other
unfolding ok
same_Ok one other e = cc

ended : (s : ReadingState) (number : ℕ) (deck : Deck) → deck_at_end s number ≡ Ok deck → Ends s [] deck
unfolding deck_at_end ok
ended s number deck e =
    elim (cases_Bool (may_end s.place)) [
      | inl y ↦ (y, same_Ok _ deck (rw y at e))
      | inr n ↦ absurd (let h = rw n at e in cc)
    ]

pub ends_so : (s : ReadingState) (number : ℕ) (deck : Deck) → Ends s [] deck → deck_at_end s number ≡ Ok deck
unfolding deck_at_end
ends_so s number deck e = rw e.0 (ap (λ d. Ok d) e.1)

rest_empty : (s : ReadingState) (number : ℕ) (line : List ℕ) (deck : Deck) → rest_at s number line ≡ Ok deck → (line ≡ []) × (deck_at_end s number ≡ Ok deck)
unfolding rest_at
rest_empty s number [] deck e = (refl, e)
rest_empty s number (c ∷ cs) deck e = absurd cc

pub rest_none : (s : ReadingState) (number : ℕ) → rest_at s number [] ≡ deck_at_end s number
unfolding rest_at
rest_none s number = refl

pub record Read (s : ReadingState) (size : ℕ) (parts : List (List ℕ)) (deck : Deck) : Type 0 where
  pub lines : List (List ℕ)
  pub parts_are : parts ≡ lines ++ [] ∷ []
  pub plain : list_all line_is_plain lines ≡ true
  pub small : size + length (flat_map with_feed lines) ≤ 4194304
  pub ends : Ends s (filter is_kept lines) deck

longer : (size : ℕ) (line : List ℕ) (lines : List (List ℕ)) → size + length line + 1 + length (flat_map with_feed lines) ≡ size + length (flat_map with_feed (line ∷ lines))
longer size line lines = omega (arith, length-append (line ++ 10 ∷ []) (flat_map with_feed lines), length-append line (10 ∷ []))

with_more : (s : ReadingState) (size : ℕ) (line : List ℕ) (parts : List (List ℕ)) (deck : Deck) → Turned s (size + length line + 1) line → Read (after_line s line) (size + length line + 1) parts deck → Read s size (line ∷ parts) deck
with_more s size line parts deck t r =
    let E : ReadingState → Type 0 = λ u. Ends u (filter is_kept r.lines) deck in
    let ends : Ends s (filter is_kept (line ∷ r.lines)) deck = elim t.goes [
      | inl p ↦ rw p.0 (subst E p.1 r.ends)
      | inr k ↦ rw k.0 (k.1.0, (k.1.1.0, subst E k.1.1.1 r.ends))
    ] in
    record {
      lines = line ∷ r.lines;
      parts_are = ap (λ l. line ∷ l) r.parts_are;
      plain = and_from (line_is_plain line) (list_all line_is_plain r.lines) t.plain r.plain;
      small = omega (arith, r.small, longer size line r.lines);
      ends = ends;
    }

pub reads : (parts : List (List ℕ)) (s : ReadingState) (size number : ℕ) (deck : Deck) → size ≤ 4194304 → 0 < length parts → read_on s size number parts ≡ Ok deck → Read s size parts deck
reads [] s size number deck h n e = absurd (omega arith)
reads (line ∷ []) s size number deck h n e =
    let r = rest_empty s number line deck (sym (read_last s size number line) ∙ e) in
    record { lines = []; parts_are = ap (λ l. l ∷ []) r.0; plain = refl; small = omega arith; ends = ended s number deck r.1 }
reads (line ∷ next ∷ parts) s size number deck h n e =
    let more = read_on (after_line s line) (size + length line + 1) (number + 1) (next ∷ parts) in
    let b = bad_none number (bad_line_code s (size + length line + 1) line) more deck (sym (read_more s size number line (next ∷ parts) (omega arith)) ∙ e) in
    let t = turned s (size + length line + 1) line b.0 in
    with_more s size line (next ∷ parts) deck t
    (reads (next ∷ parts) (after_line s line) (size + length line + 1) (number + 1) deck (leb-true (size + length line + 1) 4194304 t.small) (omega arith) b.1)

pub reads_on : (lines : List (List ℕ)) (s : ReadingState) (size number : ℕ) (deck : Deck) → list_all line_is_plain lines ≡ true → size + length (flat_map with_feed lines) ≤ 4194304 → Ends s (filter is_kept lines) deck → read_on s size number (lines ++ [] ∷ []) ≡ Ok deck
reads_on [] s size number deck p m e = read_last s size number [] ∙ rest_none s number ∙ ends_so s number deck e
reads_on (line ∷ lines) s size number deck p m e =
    let both = and_parts (line_is_plain line) (list_all line_is_plain lines) p in
    let total : size + length line + 1 + length (flat_map with_feed lines) ≤ 4194304 = omega (arith, longer size line lines) in
    let small : is_small (size + length line + 1) ≡ true = le-leb (size + length line + 1) 4194304 (omega arith) in
    let more : List (List ℕ) = lines ++ [] ∷ [] in
    let on : (t : ReadingState) → Ends t (filter is_kept lines) deck → read_on t (size + length line + 1) (number + 1) more ≡ Ok deck = λ t h. reads_on lines t (size + length line + 1) (number + 1) deck both.1 total h in
    read_more s size number line more (omega (arith, length-append lines ([] ∷ []))) ∙ elim (cases_Bool (is_kept line)) [
      | inl k ↦
          let h : Ends s (line ∷ filter is_kept lines) deck = rw k at e in
          ap (λ o. bad_or number o (read_on (after_line s line) (size + length line + 1) (number + 1) more)) (goes s (size + length line + 1) line h.0 both.0 small k h.1.0)
          ∙ ap (λ t. read_on t (size + length line + 1) (number + 1) more) (taken_line s line h.0 k h.1.0.says)
          ∙ on (taken s line h.0) h.1.1
      | inr k ↦
          let h : Ends s (filter is_kept lines) deck = rw k at e in
          ap (λ o. bad_or number o (read_on (after_line s line) (size + length line + 1) (number + 1) more)) (passes s (size + length line + 1) line both.0 small k)
          ∙ ap (λ t. read_on t (size + length line + 1) (number + 1) more) (passed_line s line k)
          ∙ on s h
    ]

-- ---- the loop of the reader

pub loop_first : (text : List ℕ) → read_on start 0 1 (slice_split is_feed text) ≡ read_of text
unfolding read_of
loop_first text = refl

pub loop_more : (s : ReadingState) (size number : ℕ) (rest : List ℕ) (p : List ℕ × List ℕ) → cut 10 rest ≡ Some p →
    read_on s size number (slice_split is_feed rest) ≡ bad_or number (bad_line_code s (size + length p.0 + 1) p.0) (read_on (after_line s p.0) (size + length p.0 + 1) (number + 1) (slice_split is_feed p.1))
loop_more s size number rest p e =
    ap (read_on s size number) (split_at 10 rest p e) ∙ read_more s size number p.0 (slice_split is_feed p.1) (omega (arith, length-slice_split is_feed p.1))

pub loop_rest : (s : ReadingState) (size number : ℕ) (rest : List ℕ) → cut 10 rest ≡ None → read_on s size number (slice_split is_feed rest) ≡ rest_at s number rest
loop_rest s size number rest e = ap (read_on s size number) (split_none 10 rest e) ∙ read_last s size number rest

pub loop_last : (r : Result Deck DeckFault) (rest all : Result Deck DeckFault) → Answers r rest → rest ≡ all → Answers r all
loop_last r rest all h e = subst (Answers r) e h
