-- What computing shows of the lines of the generated deck.
use Rattle.std.proofs.Common.{◌≡◌, ℕ, ◌+◌, ◌<◌, ◌≤◌, Bool, true, false, ◌&&◌, ◌==◌, nat_le, List, [], ◌∷◌, ◌++◌, take, drop, length, refl, subst, arith, zero, suc, inl, inr}
use Rattle.std.proofs.lemmas.Bool.{and_parts, cases_Bool, eqb-true, leb-true}
use Rattle.std.proofs.lemmas.Bool.Decides.{nat_tests}
use Rattle.std.proofs.lemmas.Slice.Eq.{bytes_eq-Decides}
use Rattle.std.specs.Prelude.{Option, Some, None, codes}
use Rattle.std.specs.Fmt.{digits}
use Rattle.std.specs.List.{list_all, range_with_len}
use Rattle.std.specs.Str.{bytes_eq}
use Rattle.s38_code.specs.Operations.{mnemonic, may_round}
use Rattle.s38_words.specs.Attribute.{attr_spelled}
use Rattle.s38_words.specs.DeclarationLine.{declaration_of, declares_of}
use Rattle.s38_words.specs.Form.{has_form}
use Rattle.s38_words.specs.Literal.{text_of as literal_text, text_literal, number_literal}
use Rattle.s38_words.specs.Name.{id_spelled, is_declared_name, kind_spelled}
use Rattle.s38_words.specs.Number.{natural_of, number_spelled, whole_spelled}
use Rattle.s38_words.specs.Operation.{operations}
use Rattle.s38_words.specs.ProgramLine.{act_line_of, head_of, label_spelled}
use Rattle.s38_words.specs.Row.{relation_spelled, rights_spelled}
use Rattle.s38_template.specs.Grammar.{is_action, is_declaration, is_kept, line_is_plain, name_of}
use Rattle.s38_template.specs.Lines.{are_operands, is_instruction, line_of, line_said_by}
use Rattle.s38_template.specs.declared.said.Line.{Line}
use Rattle.s38_template.specs.declared.said.Line.TheVariants.{Program}
use Rattle.s38_demo.specs.GeneratedDeck.{after_posts, before_posts, line_with_feed, post, post_back, post_front, post_head, post_job, post_name, post_sum, setup, text_of_lines, total}

-- the line is plain and says something
abbrev pub is_good : List ℕ → Bool
is_good line = line_is_plain line && is_kept line

abbrev pub begins : Option Line → Bool
begins (Some (Program name)) = true
begins _ = false

-- ---- postings

abbrev is_short : ℕ → Bool
is_short j = nat_le (length (text_of_lines (post j))) 1000 && nat_le (length (line_with_feed (post_job j))) 100

-- what is asked of posting j
abbrev is_good_post : ℕ → Bool
is_good_post j =
    is_good (post_head j) && (is_good (post_sum j) && (is_good (post_job j) && (is_declared_name (post_name j)
    && (begins (line_of (post_head j)) && (is_action (post_sum j) && (bytes_eq (name_of (post_head j ∷ [])) (post_name j) && is_short j))))))

good_posts : list_all is_good_post (range_with_len 1 200) ≡ true
unfolding act_line_of are_operands attr_spelled declaration_of declares_of digits has_form head_of id_spelled is_instruction kind_spelled label_spelled line_of literal_text may_round mnemonic natural_of number_literal number_spelled operations relation_spelled rights_spelled line_said_by text_literal whole_spelled post_back post_front
good_posts = refl

all_at : (p : ℕ → Bool) (a k j : ℕ) → list_all p (range_with_len a k) ≡ true → a ≤ j → j < a + k → p j ≡ true
all_at p a zero j h low high = absurd (omega (arith, low, high))
all_at p a (suc k) j h low high =
    let both = and_parts (p a) (list_all p (range_with_len (a + 1) k)) h in
    elim (cases_Bool (nat_le j a)) [
      | inl e ↦ let same : a ≡ j = omega (arith, low, leb-true j a e) in subst (λ x. p x ≡ true) same both.0
      | inr e ↦ let more : a + 1 ≤ j = grind (arith, nat_tests, e) in all_at p (a + 1) k j both.1 more (omega (arith, high))
    ]

pub record PostFacts (j : ℕ) : Type 0 where
  pub head : is_good (post_head j) ≡ true
  pub sum : is_good (post_sum j) ≡ true
  pub job : is_good (post_job j) ≡ true
  pub name : is_declared_name (post_name j) ≡ true
  pub begins : begins (line_of (post_head j)) ≡ true
  pub action : is_action (post_sum j) ≡ true
  pub called : name_of (post_head j ∷ []) ≡ post_name j
  pub text_short : length (text_of_lines (post j)) ≤ 1000
  pub job_short : length (line_with_feed (post_job j)) ≤ 100

pub post_facts : (j : ℕ) → 1 ≤ j → j ≤ 200 → PostFacts j
post_facts j first last =
    let h1 = and_parts (is_good (post_head j)) _ (all_at is_good_post 1 200 j good_posts first (omega (arith, last))) in
    let h2 = and_parts (is_good (post_sum j)) _ h1.1 in
    let h3 = and_parts (is_good (post_job j)) _ h2.1 in
    let h4 = and_parts (is_declared_name (post_name j)) _ h3.1 in
    let h5 = and_parts (begins (line_of (post_head j))) _ h4.1 in
    let h6 = and_parts (is_action (post_sum j)) _ h5.1 in
    let h7 = and_parts (bytes_eq (name_of (post_head j ∷ [])) (post_name j)) (is_short j) h6.1 in
    let h8 = and_parts (nat_le (length (text_of_lines (post j))) 1000) (nat_le (length (line_with_feed (post_job j))) 100) h7.1 in
    record {
      head = h1.0;
      sum = h2.0;
      job = h3.0;
      name = h4.0;
      begins = h5.0;
      action = h6.0;
      called = (bytes_eq-Decides (name_of (post_head j ∷ [])) (post_name j)).0 h7.0;
      text_short = leb-true (length (text_of_lines (post j))) 1000 h8.0;
      job_short = leb-true (length (line_with_feed (post_job j))) 100 h8.1;
    }

pub front_good : list_all is_good post_front ≡ true
unfolding post_front
front_good = refl

pub back_good : list_all is_good post_back ≡ true
unfolding post_back
back_good = refl

pub front_declares : list_all is_declaration (take 6 post_front) ≡ true
unfolding act_line_of are_operands attr_spelled declaration_of declares_of digits has_form head_of id_spelled is_instruction kind_spelled label_spelled line_of literal_text may_round mnemonic natural_of number_literal number_spelled operations relation_spelled rights_spelled line_said_by text_literal whole_spelled post_front
front_declares = refl

pub front_acts : list_all is_action (drop 6 post_front) ≡ true
unfolding act_line_of are_operands attr_spelled declaration_of declares_of digits has_form head_of id_spelled is_instruction kind_spelled label_spelled line_of literal_text may_round mnemonic natural_of number_literal number_spelled operations relation_spelled rights_spelled line_said_by text_literal whole_spelled post_front
front_acts = refl

pub back_acts : list_all is_action (take 4 post_back) ≡ true
unfolding act_line_of are_operands attr_spelled declaration_of declares_of digits has_form head_of id_spelled is_instruction kind_spelled label_spelled line_of literal_text may_round mnemonic natural_of number_literal number_spelled operations relation_spelled rights_spelled line_said_by text_literal whole_spelled post_back
back_acts = refl

-- ---- the other templates and lines

pub setup_good : list_all is_good setup ≡ true
unfolding setup
setup_good = refl

pub setup_begins : begins (line_of (codes "PROGRAM SETUP")) ≡ true
unfolding act_line_of are_operands attr_spelled declaration_of declares_of digits has_form head_of id_spelled is_instruction kind_spelled label_spelled line_of literal_text may_round mnemonic natural_of number_literal number_spelled operations relation_spelled rights_spelled line_said_by text_literal whole_spelled
setup_begins = refl

pub setup_declares : list_all is_declaration (take 6 (drop 1 setup)) ≡ true
unfolding act_line_of are_operands attr_spelled declaration_of declares_of digits has_form head_of id_spelled is_instruction kind_spelled label_spelled line_of literal_text may_round mnemonic natural_of number_literal number_spelled operations relation_spelled rights_spelled line_said_by text_literal whole_spelled setup
setup_declares = refl

pub setup_acts : list_all is_action (take 10 (drop 7 setup)) ≡ true
unfolding act_line_of are_operands attr_spelled declaration_of declares_of digits has_form head_of id_spelled is_instruction kind_spelled label_spelled line_of literal_text may_round mnemonic natural_of number_literal number_spelled operations relation_spelled rights_spelled line_said_by text_literal whole_spelled setup
setup_acts = refl

pub setup_short : length (text_of_lines setup) ≤ 1000
unfolding setup
setup_short = leb-true _ 1000 refl

pub total_good : list_all is_good total ≡ true
unfolding total
total_good = refl

pub total_begins : begins (line_of (codes "PROGRAM TOTAL")) ≡ true
unfolding act_line_of are_operands attr_spelled declaration_of declares_of digits has_form head_of id_spelled is_instruction kind_spelled label_spelled line_of literal_text may_round mnemonic natural_of number_literal number_spelled operations relation_spelled rights_spelled line_said_by text_literal whole_spelled
total_begins = refl

pub total_declares : list_all is_declaration (take 4 (drop 1 total)) ≡ true
unfolding act_line_of are_operands attr_spelled declaration_of declares_of digits has_form head_of id_spelled is_instruction kind_spelled label_spelled line_of literal_text may_round mnemonic natural_of number_literal number_spelled operations relation_spelled rights_spelled line_said_by text_literal whole_spelled total
total_declares = refl

pub total_acts : list_all is_action (take 6 (drop 5 total)) ≡ true
unfolding act_line_of are_operands attr_spelled declaration_of declares_of digits has_form head_of id_spelled is_instruction kind_spelled label_spelled line_of literal_text may_round mnemonic natural_of number_literal number_spelled operations relation_spelled rights_spelled line_said_by text_literal whole_spelled total
total_acts = refl

pub total_short : length (text_of_lines total) ≤ 1000
unfolding total
total_short = leb-true _ 1000 refl

pub before_good : list_all is_good before_posts ≡ true
before_good = refl

pub after_good : list_all is_good after_posts ≡ true
after_good = refl
