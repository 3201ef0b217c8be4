-- The generated deck of n: a job that makes a data space and its journal, n jobs that each post an amount to the one
-- entry of that data space, and a job that reads the total.
use Rattle.std.specs.Prelude.{ℕ, ◌+◌, ◌*◌, ◌%◌, List, [], ◌∷◌, ◌++◌, map, codes, decimal}
use Rattle.std.specs.List.{flat_map, range_with_len}
use Rattle.s38_code.specs.declared.deck.Deck.{Deck}
use Rattle.s38_code.specs.declared.deck.Job.{Job}

-- ---- templates

unfoldable pub setup : List (List ℕ)
setup =
    codes "PROGRAM SETUP"
    ∷ codes "DCL C PTR"
    ∷ codes "DCL D PTR"
    ∷ codes "DCL S PTR"
    ∷ codes "DCL P PTR"
    ∷ codes "DCL K PTR"
    ∷ codes "DCL Z PKD:9:0"
    ∷ codes "CRTCTX C,CONTEXT/00/SHOP,ALL"
    ∷ codes "CRTDS D,C,DATASPACE/00/TOTALS,ALL,PKD:9:0"
    ∷ codes "CRTJS S,C,JSPACE/00/JS,ALL"
    ∷ codes "ENSOBJ S"
    ∷ codes "CRTJP P,C,JPORT/00/JP,ALL,S"
    ∷ codes "ENSOBJ P"
    ∷ codes "JRNLOBJ D,P"
    ∷ codes "CRTCR K,C,CURSOR/00/FIRST,ALL,D,*NONE"
    ∷ codes "INSDSEN K,Z"
    ∷ codes "RTX"
    ∷ codes "END"
    ∷ []

-- what posting j adds
abbrev pub amount : ℕ → ℕ
amount j = (7 * j) % 100 + 1

-- the name of template and job j
abbrev pub post_name : ℕ → List ℕ
post_name j = codes "POST" ++ decimal j

abbrev pub post_head : ℕ → List ℕ
post_head j = codes "PROGRAM " ++ post_name j

-- the text before the sum
unfoldable pub post_front : List (List ℕ)
post_front =
    codes "DCL C PTR"
    ∷ codes "DCL D PTR"
    ∷ codes "DCL P PTR"
    ∷ codes "DCL B PTR"
    ∷ codes "DCL K PTR"
    ∷ codes "DCL V PKD:9:0"
    ∷ codes "RSLVSP C,*MACHINE,CONTEXT/00/SHOP,NONE"
    ∷ codes "RSLVSP D,C,DATASPACE/00/TOTALS,NONE"
    ∷ codes "RSLVSP P,C,JPORT/00/JP,NONE"
    ∷ codes "CRTCB B,*NONE,CBLOCK/00/B,NONE,P"
    ∷ codes "CRTCR K,*NONE,CURSOR/00/K,NONE,D,B"
    ∷ codes "LOCK D,LENR,WAIT"
    ∷ codes "SETCR K,FIRST,0"
    ∷ codes "RETDSEN V,K"
    ∷ []

abbrev pub post_sum : ℕ → List ℕ
post_sum j = codes "ADDN V,V," ++ decimal (amount j)

-- the text after it
unfoldable pub post_back : List (List ℕ)
post_back =
    codes "UPDSEN K,V"
    ∷ codes "COMMIT B"
    ∷ codes "UNLOCK D,LENR"
    ∷ codes "RTX"
    ∷ codes "END"
    ∷ []

abbrev pub post : ℕ → List (List ℕ)
post j = post_head j ∷ (post_front ++ (post_sum j ∷ post_back))

unfoldable pub total : List (List ℕ)
total =
    codes "PROGRAM TOTAL"
    ∷ codes "DCL C PTR"
    ∷ codes "DCL D PTR"
    ∷ codes "DCL K PTR"
    ∷ codes "DCL V PKD:9:0"
    ∷ codes "RSLVSP C,*MACHINE,CONTEXT/00/SHOP,NONE"
    ∷ codes "RSLVSP D,C,DATASPACE/00/TOTALS,NONE"
    ∷ codes "CRTCR K,*NONE,CURSOR/00/K,NONE,D,*NONE"
    ∷ codes "SETCR K,FIRST,0"
    ∷ codes "RETDSEN V,K"
    ∷ codes "RTX"
    ∷ codes "END"
    ∷ []

-- ---- jobs

abbrev pub stage : List ℕ
stage = codes "STAGE"

-- a job of the security officer runs the template of its name
abbrev pub generated_job_line : List ℕ → List ℕ
generated_job_line name = codes "JOB " ++ (name ++ (codes " USER QSECOFR RUN " ++ name))

abbrev pub post_job : ℕ → List ℕ
post_job j = generated_job_line (post_name j)

-- ---- the deck

-- 1 to n
abbrev pub up_to : ℕ → List ℕ
up_to n = range_with_len 1 n

abbrev pub posts : ℕ → List (List ℕ)
posts n = flat_map post (up_to n)

abbrev pub post_jobs : ℕ → List (List ℕ)
post_jobs n = map post_job (up_to n)

-- the stage of SETUP, and the next one's line
abbrev pub before_posts : List (List ℕ)
before_posts = stage ∷ generated_job_line (codes "SETUP") ∷ stage ∷ []

-- the stage of TOTAL
abbrev pub after_posts : List (List ℕ)
after_posts = stage ∷ generated_job_line (codes "TOTAL") ∷ []

-- the templates, and then three stages of jobs
abbrev pub generated_lines : ℕ → List (List ℕ)
generated_lines n = setup ++ (posts n ++ (total ++ (before_posts ++ (post_jobs n ++ after_posts))))

-- a line and its line feed
abbrev pub line_with_feed : List ℕ → List ℕ
line_with_feed line = line ++ 10 ∷ []

abbrev pub text_of_lines : List (List ℕ) → List ℕ
text_of_lines lines = flat_map line_with_feed lines

unfoldable pub deck_of : ℕ → List ℕ
deck_of n = text_of_lines (generated_lines n)

-- ---- the deck that this text spells

-- a job with the default budget and an empty list of contexts
abbrev pub generated_job : ℕ → List ℕ → Job
generated_job stage name = record { name = name; user = codes "QSECOFR"; template = name; budget = 1000000; contexts = []; stage = stage }

abbrev pub job_of_post : ℕ → Job
job_of_post j = generated_job 2 (post_name j)

abbrev pub generated : ℕ → Deck
generated n = record {
  templates = setup ∷ (map post (up_to n) ++ total ∷ []);
  jobs = generated_job 1 (codes "SETUP") ∷ (map job_of_post (up_to n) ++ generated_job 3 (codes "TOTAL") ∷ []);
}
