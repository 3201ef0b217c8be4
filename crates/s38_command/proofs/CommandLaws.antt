-- A number that was held at the end of 64 bits is too large for a pick or a count of postings as it is, and the words
-- of a demonstration name a count in its range.
use Rattle.std.proofs.Common.{◌≡◌, ℕ, ◌-◌, ◌^◌, ◌≤◌, ◌&&◌, Bool, true, false, cond, min, nat_le, List, Option, Some, None, codes, refl, subst, ap, ◌∙◌, arith}
use Rattle.std.proofs.lemmas.Bool.{and_parts, leb-true}
use Rattle.std.proofs.lemmas.Option.{cond_some}
use Rattle.std.proofs.lemmas.Bool.Decides.{nat_tests}
use Rattle.std.specs.Option.{option_map}
use Rattle.s38_words.specs.Number.{capped}
use Rattle.s38_words.specs.Number.{natural_of}
use Rattle.std.specs.Str.{bytes_eq}
use Rattle.s38_command.specs.declared.command.Command.{Command}
use Rattle.s38_command.specs.declared.command.Command.TheVariants.{Jobs, Check, Demo, Install, List as Listing}
use Rattle.s38_command.specs.declared.turns.Turns.{Turns}
use Rattle.s38_command.specs.declared.turns.Turns.TheVariants.{Serial, Workers}
use Rattle.s38_command.specs.Said.{WordsSaid, said_of}
use Rattle.s38_command.specs.Commands.{AreTurnsOn, asks_threads, bare_by, command_from, command_in, command_of, command_on, demo_by, demo_of, greatest_pick, most_postings, most_workers, pick_of, run_by, same_side, serial_by, served_by, takes_threads, without_others, workers_of}

pub pick_held : (o : Option ℕ) → pick_of (option_map (capped (2 ^ 64 - 1)) o) ≡ pick_of o
pick_held None = refl
pick_held (Some n) = by_size (nat_le n greatest_pick) refl
  where
    by_size : (b : Bool) → nat_le n greatest_pick ≡ b → pick_of (Some (min n (2 ^ 64 - 1))) ≡ pick_of (Some n)
    by_size true h =
        let same : min n (2 ^ 64 - 1) ≡ n = grind (arith, nat_tests) in
        rw same refl
    by_size false h =
        let large : nat_le (min n (2 ^ 64 - 1)) greatest_pick ≡ false = grind (arith, nat_tests) in
        rw large (rw h refl)

pub size_held : (o : Option ℕ) → demo_of (option_map (capped (2 ^ 64 - 1)) o) ≡ demo_of o
size_held None = refl
size_held (Some n) = by_size (nat_le n most_postings) refl
  where
    by_size : (b : Bool) → nat_le n most_postings ≡ b → demo_of (Some (min n (2 ^ 64 - 1))) ≡ demo_of (Some n)
    by_size true h =
        let same : min n (2 ^ 64 - 1) ≡ n = grind (arith, nat_tests) in
        rw same refl
    by_size false h =
        let large : nat_le (min n (2 ^ 64 - 1)) most_postings ≡ false = grind (arith, nat_tests) in
        rw large (rw h refl)

pub workers_held : (o : Option ℕ) → workers_of (option_map (capped (2 ^ 64 - 1)) o) ≡ workers_of o
workers_held None = refl
workers_held (Some n) = by_size (nat_le n most_workers) refl
  where
    by_size : (b : Bool) → nat_le n most_workers ≡ b → workers_of (Some (min n (2 ^ 64 - 1))) ≡ workers_of (Some n)
    by_size true h =
        let same : min n (2 ^ 64 - 1) ≡ n = grind (arith, nat_tests) in
        rw same refl
    by_size false h =
        let large : nat_le (min n (2 ^ 64 - 1)) most_workers ≡ false = grind (arith, nat_tests) in
        rw large (rw h refl)

-- ---- the range of a count

pick_not : (o : Option ℕ) (n : ℕ) → pick_of o ≡ Some (Demo n) → ⊥
pick_not None n h = cc
pick_not (Some m) n h = differ (cond_some (nat_le m greatest_pick) (Jobs (Serial m)) (Demo n) h).1
  where
    differ : Jobs (Serial m) ≡ Demo n → ⊥
    differ e = cc

workers_not : (o : Option ℕ) (n : ℕ) → workers_of o ≡ Some (Demo n) → ⊥
workers_not None n h = cc
workers_not (Some m) n h = differ (cond_some (nat_le m most_workers && nat_le 1 m) (Jobs (Workers m)) (Demo n) h).1
  where
    differ : Jobs (Workers m) ≡ Demo n → ⊥
    differ e = cc

serial_not : (o : Option (List ℕ)) (n : ℕ) → serial_by o ≡ Some (Demo n) → ⊥
serial_not None n h = cc
serial_not (Some number) n h = pick_not (natural_of number) n h

run_not : (o : Option (List ℕ)) (n : ℕ) → run_by o ≡ Some (Demo n) → ⊥
run_not None n h = cc
run_not (Some number) n h = workers_not (natural_of number) n h

bare_not : (a b c : Bool) (n : ℕ) → cond a (Some Check) (cond b (Some Install) (cond c (Some Listing) None)) ≡ Some (Demo n) → ⊥
bare_not true b c n h = cc
bare_not false true c n h = cc
bare_not false false true n h = cc
bare_not false false false n h = cc

-- a command of a single word is the command
stands : (a b : Option (List ℕ)) (o : Option Command) (c : Command) → without_others a b o ≡ Some c → o ≡ Some c
stands None None o c h = h
stands None (Some word) o c h = cc
stands (Some word) b o c h = cc

size_same : (m n : ℕ) → Demo m ≡ Demo n → m ≡ n
size_same m n h = cc

by_size : (o : Option ℕ) (n : ℕ) → demo_of o ≡ Some (Demo n) → (1 ≤ n) × (n ≤ 200)
by_size None n h = cc
by_size (Some m) n h =
    let k = cond_some (nat_le m most_postings && nat_le 1 m) (Demo m) (Demo n) h in
    let parts = and_parts (nat_le m most_postings) (nat_le 1 m) k.0 in
    let same : m ≡ n = size_same m n k.1 in
    subst (λ x. (1 ≤ x) × (x ≤ 200)) same (leb-true 1 m parts.1, leb-true m most_postings parts.0)

demo_size : (o : Option (List ℕ)) (n : ℕ) → demo_by o ≡ Some (Demo n) → (1 ≤ n) × (n ≤ 200)
demo_size None n h = cc
demo_size (Some number) n h = by_size (natural_of number) n h

word_size : (a b c : Bool) (word : List ℕ) (said : WordsSaid) (n : ℕ)
    → cond a (without_others said.rest said.workers (serial_by said.pick)) (cond b (without_others said.rest said.pick (run_by said.workers))
    (cond c (without_others said.pick said.workers (demo_by said.rest)) (without_others said.rest said.pick (without_others said.workers None (bare_by word))))) ≡ Some (Demo n)
    → (1 ≤ n) × (n ≤ 200)
word_size true b c word said n h = absurd (serial_not said.pick n (stands said.rest said.workers (serial_by said.pick) (Demo n) h))
word_size false true c word said n h = absurd (run_not said.workers n (stands said.rest said.pick (run_by said.workers) (Demo n) h))
word_size false false true word said n h = demo_size said.rest n (stands said.pick said.workers (demo_by said.rest) (Demo n) h)
word_size false false false word said n h =
    absurd (bare_not (bytes_eq word (codes "check")) (bytes_eq word (codes "install")) (bytes_eq word (codes "list")) n
    (stands said.workers None (bare_by word) (Demo n) (stands said.rest said.pick (without_others said.workers None (bare_by word)) (Demo n) h)))

pub demo_in_range : (words : List (List ℕ)) (n : ℕ) → command_of words ≡ Some (Demo n) → (1 ≤ n) × (n ≤ 200)
demo_in_range words n h = by (said_of words) h
  where
    from : (said : WordsSaid) (o : Option (List ℕ)) → command_from said o ≡ Some (Demo n) → (1 ≤ n) × (n ≤ 200)
    from said None e = cc
    from said (Some word) e = word_size (bytes_eq word (codes "serial")) (bytes_eq word (codes "run")) (bytes_eq word (codes "demo")) word said n e

    by : (o : Option WordsSaid) → command_in o ≡ Some (Demo n) → (1 ≤ n) × (n ≤ 200)
    by None e = cc
    by (Some said) e = from said said.command e

-- ---- threads

same : (b : Bool) → same_side b b ≡ true
same true = refl
same false = refl

-- on its side a command is what it is
pub on_its_side : (asked : Option Command) (threads : Bool) → asks_threads asked ≡ threads → served_by threads asked ≡ asked
on_its_side None threads is = refl
on_its_side (Some command) threads is = rw (← is) (rw (same (asks_threads (Some command))) refl)

-- ---- the turns of a call

count_same : (m n : ℕ) → Jobs (Workers m) ≡ Jobs (Workers n) → m ≡ n
count_same m n h = cc

count_at_usual : (n : ℕ) → run_by None ≡ Some (Jobs (Workers n)) → 1 ≤ n
count_at_usual n h = omega (arith, usual_is h)
  where
    usual_is : Some (Jobs (Workers 4)) ≡ Some (Jobs (Workers n)) → 4 ≡ n
    usual_is g = cc

no_demo : (o : Option ℕ) (n : ℕ) → demo_of o ≡ Some (Jobs (Workers n)) → ⊥
no_demo None n h = cc
no_demo (Some m) n h = differ (cond_some (nat_le m most_postings && nat_le 1 m) (Demo m) (Jobs (Workers n)) h).1
  where
    differ : Demo m ≡ Jobs (Workers n) → ⊥
    differ e = cc

no_demo_by : (o : Option (List ℕ)) (n : ℕ) → demo_by o ≡ Some (Jobs (Workers n)) → ⊥
no_demo_by None n h = cc
no_demo_by (Some number) n h = no_demo (natural_of number) n h

some_workers : (o : Option ℕ) (n : ℕ) → workers_of o ≡ Some (Jobs (Workers n)) → 1 ≤ n
some_workers None n h = cc
some_workers (Some m) n h =
    let k = cond_some (nat_le m most_workers && nat_le 1 m) (Jobs (Workers m)) (Jobs (Workers n)) h in
    let parts = and_parts (nat_le m most_workers) (nat_le 1 m) k.0 in
    subst (λ x. 1 ≤ x) (count_same m n k.1) (leb-true 1 m parts.1)

some_run : (o : Option (List ℕ)) (n : ℕ) → run_by o ≡ Some (Jobs (Workers n)) → 1 ≤ n
some_run None n h = count_at_usual n h
some_run (Some number) n h = some_workers (natural_of number) n h

no_pick : (o : Option ℕ) (n : ℕ) → pick_of o ≡ Some (Jobs (Workers n)) → ⊥
no_pick None n h = cc
no_pick (Some m) n h = differ (cond_some (nat_le m greatest_pick) (Jobs (Serial m)) (Jobs (Workers n)) h).1
  where
    differ : Jobs (Serial m) ≡ Jobs (Workers n) → ⊥
    differ e = cc

no_serial : (o : Option (List ℕ)) (n : ℕ) → serial_by o ≡ Some (Jobs (Workers n)) → ⊥
no_serial None n h = cc
no_serial (Some number) n h = no_pick (natural_of number) n h

no_bare : (a b c : Bool) (n : ℕ) → cond a (Some Check) (cond b (Some Install) (cond c (Some Listing) None)) ≡ Some (Jobs (Workers n)) → ⊥
no_bare true b c n h = cc
no_bare false true c n h = cc
no_bare false false true n h = cc
no_bare false false false n h = cc

some_by_word : (a b c : Bool) (word : List ℕ) (said : WordsSaid) (n : ℕ)
    → cond a (without_others said.rest said.workers (serial_by said.pick)) (cond b (without_others said.rest said.pick (run_by said.workers))
    (cond c (without_others said.pick said.workers (demo_by said.rest)) (without_others said.rest said.pick (without_others said.workers None (bare_by word))))) ≡ Some (Jobs (Workers n))
    → 1 ≤ n
some_by_word true b c word said n h = absurd (no_serial said.pick n (stands said.rest said.workers (serial_by said.pick) (Jobs (Workers n)) h))
some_by_word false true c word said n h = some_run said.workers n (stands said.rest said.pick (run_by said.workers) (Jobs (Workers n)) h)
some_by_word false false true word said n h = absurd (no_demo_by said.rest n (stands said.pick said.workers (demo_by said.rest) (Jobs (Workers n)) h))
some_by_word false false false word said n h =
    absurd (no_bare (bytes_eq word (codes "check")) (bytes_eq word (codes "install")) (bytes_eq word (codes "list")) n
    (stands said.workers None (bare_by word) (Jobs (Workers n)) (stands said.rest said.pick (without_others said.workers None (bare_by word)) (Jobs (Workers n)) h)))

some_asked : (words : List (List ℕ)) (n : ℕ) → command_of words ≡ Some (Jobs (Workers n)) → 1 ≤ n
some_asked words n h = by (said_of words) h
  where
    from : (said : WordsSaid) (o : Option (List ℕ)) → command_from said o ≡ Some (Jobs (Workers n)) → 1 ≤ n
    from said None e = cc
    from said (Some word) e = some_by_word (bytes_eq word (codes "serial")) (bytes_eq word (codes "run")) (bytes_eq word (codes "demo")) word said n e

    by : (o : Option WordsSaid) → command_in o ≡ Some (Jobs (Workers n)) → 1 ≤ n
    by None e = cc
    by (Some said) e = from said said.command e

-- a command of jobs that is on the side of a call has its turns
pub turns_on : (threads : Bool) (words : List (List ℕ)) (turns : Turns) → command_on threads words ≡ Some (Jobs turns) → AreTurnsOn threads turns
turns_on threads words turns h = by_asked (command_of words) refl h
  where
    by_turns : (b : Bool) (t : Turns) → command_of words ≡ Some (Jobs t) → same_side b (takes_threads (Jobs t)) ≡ true → AreTurnsOn b t
    by_turns true (Workers n) is side = some_asked words n is
    by_turns true (Serial pick) is side = cc
    by_turns false (Workers n) is side = cc
    by_turns false (Serial pick) is side = tt

    by_asked : (asked : Option Command) → command_of words ≡ asked → served_by threads asked ≡ Some (Jobs turns) → AreTurnsOn threads turns
    by_asked None is e = cc
    by_asked (Some command) is e =
        let k = cond_some (same_side threads (takes_threads command)) command (Jobs turns) e in
        by_turns threads turns (is ∙ ap Some k.1) (subst (λ c. same_side threads (takes_threads c) ≡ true) k.1 k.0)

-- what is asked on one side is asked
pub size_on : (threads : Bool) (asked : Option Command) (n : ℕ) → served_by threads asked ≡ Some (Demo n) → asked ≡ Some (Demo n)
size_on threads None n h = cc
size_on threads (Some command) n h = ap Some (cond_some (same_side threads (takes_threads command)) command (Demo n) h).1
