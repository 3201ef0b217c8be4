-- The text of lines, and that of postings one after another.
use Rattle.std.proofs.Common.{◌≡◌, ℕ, ◌+◌, ◌-◌, ◌<◌, List, ◌∷◌, ◌++◌, map, refl, sym, ap, ◌∙◌, arith, suc}
use Rattle.std.proofs.lemmas.Grind.{flat_map-append}
use Rattle.std.proofs.lemmas.List.{append_assoc}
use Rattle.std.specs.List.{flat_map, range_with_len}
use Rattle.s38_demo.specs.GeneratedDeck.{after_posts, before_posts, deck_of, line_with_feed, post, post_back, post_front, post_head, post_job, post_jobs, post_sum, posts, setup, text_of_lines, total}

pub text_both : (one other : List (List ℕ)) → text_of_lines (one ++ other) ≡ text_of_lines one ++ text_of_lines other
text_both one other = flat_map-append line_with_feed one other

range_first : (a b : ℕ) → a < b → range_with_len a (b - a) ≡ a ∷ range_with_len (a + 1) (b - (a + 1))
range_first a b h = let more : b - a ≡ suc (b - (a + 1)) = omega (arith, h) in rw more refl

-- a text that goes on with the first of the postings that are left
pub posts_more : (text new all : List ℕ) (a b : ℕ) → a < b → new ≡ text ++ text_of_lines (post a) → text ++ text_of_lines (flat_map post (range_with_len a (b - a))) ≡ all
    → new ++ text_of_lines (flat_map post (range_with_len (a + 1) (b - (a + 1)))) ≡ all
posts_more text new all a b h e before =
    let rest : List (List ℕ) = flat_map post (range_with_len (a + 1) (b - (a + 1))) in
    ap (λ t. t ++ text_of_lines rest) e
    ∙ append_assoc text (text_of_lines (post a)) (text_of_lines rest)
    ∙ ap (λ t. text ++ t) (sym (text_both (post a) rest))
    ∙ ap (λ (numbers : List ℕ). text ++ text_of_lines (flat_map post numbers)) (sym (range_first a b h))
    ∙ before

-- the same of the lines of jobs
pub jobs_more : (text new all : List ℕ) (a b : ℕ) → a < b → new ≡ text ++ line_with_feed (post_job a) → text ++ text_of_lines (map post_job (range_with_len a (b - a))) ≡ all
    → new ++ text_of_lines (map post_job (range_with_len (a + 1) (b - (a + 1)))) ≡ all
jobs_more text new all a b h e before =
    let rest : List (List ℕ) = map post_job (range_with_len (a + 1) (b - (a + 1))) in
    ap (λ t. t ++ text_of_lines rest) e
    ∙ append_assoc text (line_with_feed (post_job a)) (text_of_lines rest)
    ∙ ap (λ (numbers : List ℕ). text ++ text_of_lines (map post_job numbers)) (sym (range_first a b h))
    ∙ before

-- the text of a posting is that of its parts
pub post_parts : (text : List ℕ) (j : ℕ) → (((text ++ line_with_feed (post_head j)) ++ text_of_lines post_front) ++ line_with_feed (post_sum j)) ++ text_of_lines post_back ≡ text ++ text_of_lines (post j)
post_parts text j =
    let head : List ℕ = line_with_feed (post_head j) in
    let front : List ℕ = text_of_lines post_front in
    let sum : List ℕ = line_with_feed (post_sum j) in
    let back : List ℕ = text_of_lines post_back in
    append_assoc ((text ++ head) ++ front) sum back
    ∙ append_assoc (text ++ head) front (sum ++ back)
    ∙ append_assoc text head (front ++ (sum ++ back))
    ∙ ap (λ t. text ++ (head ++ t)) (sym (text_both post_front (post_sum j ∷ post_back)))

-- the text of the deck is that of its parts
pub deck_parts : (n : ℕ) → ((((text_of_lines setup ++ text_of_lines (posts n)) ++ text_of_lines total) ++ text_of_lines before_posts) ++ text_of_lines (post_jobs n)) ++ text_of_lines after_posts ≡ deck_of n
unfolding deck_of
deck_parts n =
    let templates : List ℕ = (text_of_lines setup ++ text_of_lines (posts n)) ++ text_of_lines total in
    let jobs : List (List ℕ) = before_posts ++ (post_jobs n ++ after_posts) in
    append_assoc (templates ++ text_of_lines before_posts) (text_of_lines (post_jobs n)) (text_of_lines after_posts)
    ∙ append_assoc templates (text_of_lines before_posts) (text_of_lines (post_jobs n) ++ text_of_lines after_posts)
    ∙ ap (λ t. templates ++ (text_of_lines before_posts ++ t)) (sym (text_both (post_jobs n) after_posts))
    ∙ ap (λ t. templates ++ t) (sym (text_both before_posts (post_jobs n ++ after_posts)))
    ∙ append_assoc (text_of_lines setup ++ text_of_lines (posts n)) (text_of_lines total) (text_of_lines jobs)
    ∙ ap (λ t. (text_of_lines setup ++ text_of_lines (posts n)) ++ t) (sym (text_both total jobs))
    ∙ append_assoc (text_of_lines setup) (text_of_lines (posts n)) (text_of_lines (total ++ jobs))
    ∙ ap (λ t. text_of_lines setup ++ t) (sym (text_both (posts n) (total ++ jobs)))
    ∙ sym (text_both setup (posts n ++ (total ++ jobs)))
