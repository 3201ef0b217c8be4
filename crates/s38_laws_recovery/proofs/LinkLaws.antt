-- How the links between data spaces, ports and journal spaces go on, and who is on disk: where nothing of it changes, and where
-- one change follows another.
use Rattle.std.proofs.Common.{◌≡◌, ◌∙◌, ◌⊎◌, ◌<◌, ◌≤◌, ◌==◌, ℕ, Bool, true, false, cond, inl, inr, List, [], ◌∷◌, ◌++◌, Option, Some, None, refl, sym, ap, arith}
use Rattle.std.specs.List.{list_any}
use Rattle.std.specs.Prelude.{◌||◌}
use Rattle.s38_base.specs.Limits.{machine_context}
use Rattle.s38_base.specs.declared.id.Kind.TheVariants as kinds
use Rattle.s38_base.specs.declared.id.Kind.{Kind}
use Rattle.s38_laws_commits.proofs.LinkLaws.{Keeps, keeps_port_journal, linked_kept}
use Rattle.s38_laws_flush.proofs.durable.GoesThenLaws.{Goes, any_either, any_none}
use Rattle.s38_laws_flush.proofs.durable.SameLaws.{kind_at}
use Rattle.s38_laws_objects.specs.Outline.{is_forced, speaks_of}
use Rattle.s38_rules.specs.families.Creation.{is_of_kind}
use Rattle.s38_rules.specs.store.Forcing.{Ceiling, Forced, Header, Removed, Whole, is_whole}
use Rattle.s38_rules.specs.state.Held.{Held, object}
use Rattle.s38_rules.specs.state.Journaling.{data_port, data_port_in, is_journal, journal_named, journal_of_port}
use Rattle.s38_rules.specs.state.Parts.{data_part, part_at, port_part}
use Rattle.s38_rules.specs.families.Profiles.{officer}
use Rattle.s38_rules.specs.declared.data_body.DataBody.{DataBody}
use Rattle.s38_rules.specs.declared.port.Port.{Port}
use Rattle.s38_laws_recovery.specs.Restartable.{AreReady}
use Rattle.s38_laws_recovery.proofs.KindLaws.{apart_kinds, data_at_kind, it_of_kind, journal_at_kind, kind_back, kind_data_at, kind_journal_at, kind_of_it}

-- a port stays what it is; a data space that is not kept whole names the port that it named; with one that is, its journal
-- space is kept whole; and the ceiling never falls
pub record Links (all : List Forced) (h k : Held) : Type 0 where
  pub port : (n : ℕ) (p : Port) → n < h.next → part_at port_part k n ≡ Some p → part_at port_part h n ≡ Some p
  pub space : (n : ℕ) (b : DataBody) → n < h.next → list_any (is_whole n) all ≡ false → part_at data_part k n ≡ Some b → data_port h n ≡ b.port.0
  pub whole : (n : ℕ) (b : DataBody) (j : ℕ) → list_any (is_whole n) all ≡ true → part_at data_part k n ≡ Some b → journal_of_port k b.port.0 ≡ Some j → list_any (is_whole j) all ≡ true
  pub ceiling : h.ceiling ≤ k.ceiling
  pub ready : AreReady k

-- ---- nothing of it changes

-- links and kinds stay, and what is on disk stays there
pub record Quiet (h k : Held) : Type 0 where
  pub keeps : Keeps h k
  pub kinds : (n : ℕ) → kind_at k n ≡ kind_at h n
  pub ceiling : k.ceiling ≡ h.ceiling

pub ready_quiet : (h k : Held) → Quiet h k → AreReady h → AreReady k
ready_quiet h k quiet ready = record {
  users = λ n is. quiet.keeps.disk n (ready.users n (back kinds.Profile n is));
  machine = forth kinds.Context machine_context ready.machine;
  machine_disk = quiet.keeps.disk machine_context ready.machine_disk;
  first_user = forth kinds.Profile officer ready.first_user;
  linked = linked_kept h k quiet.keeps ready.linked;
  ports = λ n p is. let less = ready.ports n p (sym (quiet.keeps.port n) ∙ is) in let next = quiet.keeps.next in omega (arith, less, next);
}
  where
    back : (kind : Kind) (n : ℕ) → is_of_kind kind (object k n) ≡ true → is_of_kind kind (object h n) ≡ true
    back kind n is = it_of_kind kind h n (sym (quiet.kinds n) ∙ kind_of_it kind k n is)

    forth : (kind : Kind) (n : ℕ) → is_of_kind kind (object h n) ≡ true → is_of_kind kind (object k n) ≡ true
    forth kind n is = it_of_kind kind k n (quiet.kinds n ∙ kind_of_it kind h n is)

pub named_in : (k : Held) (n : ℕ) (b : DataBody) → part_at data_part k n ≡ Some b → data_port k n ≡ b.port.0
named_in k n b is = ap data_port_in is

-- what is kept whole of it is no data space
pub quiet_links : (all : List Forced) (h k : Held) → Quiet h k → ((n : ℕ) → list_any (is_whole n) all ≡ true → is_journal h n ≡ true) → AreReady h → Links all h k
quiet_links all h k quiet journals ready = record {
  port = λ n p less is. sym (quiet.keeps.port n) ∙ is;
  space = λ n b less not is. sym (quiet.keeps.to n) ∙ named_in k n b is;
  whole = λ n b j whole is to. absurd (apart_kinds h n (sym (quiet.kinds n) ∙ data_at_kind k n b is) (journal_at_kind h n (journals n whole)));
  ceiling = let same = quiet.ceiling in omega (arith, same);
  ready = ready_quiet h k quiet ready;
}

-- ---- what is forced whole is forced

pub whole_forced : (n : ℕ) (all : List Forced) → list_any (is_whole n) all ≡ true → is_forced n all ≡ true
whole_forced n [] is = is
whole_forced n (one ∷ all) is = by one (list_any (is_whole n) all) (whole_forced n all) is
  where
    later : (a b : Bool) → b ≡ true → (a || b) ≡ true
    later true b e = refl
    later false b e = e

    either : (a r : Bool) → (r ≡ true → is_forced n all ≡ true) → (a || r) ≡ true → (a || is_forced n all) ≡ true
    either true r rest is = refl
    either false r rest is = rest is

    by : (one : Forced) (r : Bool) → (r ≡ true → is_forced n all ≡ true) → (is_whole n one || r) ≡ true → (speaks_of n one || is_forced n all) ≡ true
    by Ceiling r rest is = rest is
    by (Header m) r rest is = later (m == n) (is_forced n all) (rest is)
    by (Whole m) r rest is = either (m == n) r rest is
    by (Removed m) r rest is = later (m == n) (is_forced n all) (rest is)

-- ---- one change after another

-- the journal space of a port that was given was its journal space before
pub port_journal_back : (all : List Forced) (h k : Held) → Goes all h k → AreReady h → ((n : ℕ) (p : Port) → n < h.next → part_at port_part k n ≡ Some p → part_at port_part h n ≡ Some p)
    → (q j : ℕ) → q < h.next → journal_of_port k q ≡ Some j → journal_of_port h q ≡ Some j
port_journal_back all h k goes ready same q j less to = by (part_at port_part k q) refl to
  where
    named : (p : Port) → part_at port_part h q ≡ Some p → (b : Bool) → is_journal k p.journal.0 ≡ b → cond b (Some p.journal.0) None ≡ Some j → journal_of_port h q ≡ Some j
    named p old true is e =
        let there : is_journal h p.journal.0 ≡ true = kind_journal_at h p.journal.0 (kind_back all h k p.journal.0 kinds.Journal goes (ready.ports q p old) (journal_at_kind k p.journal.0 is)) in
        ap (journal_named h) old ∙ ap (λ c. cond c (Some p.journal.0) None) there ∙ e
    named p old false is e = absurd (let g : None ≡ Some j = e in cc)

    by : (r : Option Port) → part_at port_part k q ≡ r → journal_named k r ≡ Some j → journal_of_port h q ≡ Some j
    by None is e = absurd (let g : None ≡ Some j = e in cc)
    by (Some p) is e = named p (same q p less is) (is_journal k p.journal.0) refl e

any_first : (xs ys : List Forced) (test : Forced → Bool) → list_any test xs ≡ true → list_any test (xs ++ ys) ≡ true
any_first [] ys test is = absurd (let e : false ≡ true = is in cc)
any_first (x ∷ xs) ys test is = by (test x) is (any_first xs ys test)
  where
    by : (b : Bool) → (b || list_any test xs) ≡ true → (list_any test xs ≡ true → list_any test (xs ++ ys) ≡ true) → (b || list_any test (xs ++ ys)) ≡ true
    by true is rest = refl
    by false is rest = rest is

any_second : (xs ys : List Forced) (test : Forced → Bool) → list_any test ys ≡ true → list_any test (xs ++ ys) ≡ true
any_second [] ys test is = is
any_second (x ∷ xs) ys test is = by (test x) (any_second xs ys test is)
  where
    by : (b : Bool) → list_any test (xs ++ ys) ≡ true → (b || list_any test (xs ++ ys)) ≡ true
    by true rest = refl
    by false rest = rest

module _ (xs ys : List Forced) (h j k : Held) (one : Goes xs h j) (two : Goes ys j k) (a : Links xs h j) (b : Links ys j k) where
  -- a data space in the end was one on the way
  space_between : (n : ℕ) (x : DataBody) → n < j.next → part_at data_part k n ≡ Some x → (y : DataBody) × (part_at data_part j n ≡ Some y)
  space_between n x less is = kind_data_at j n (kind_back ys j k n kinds.DataSpace two less (data_at_kind k n x is))

  below : (n : ℕ) → n < h.next → n < j.next
  below n less = let next = one.next in omega (arith, less, next)

  space_then : (n : ℕ) (x : DataBody) → n < h.next → list_any (is_whole n) (xs ++ ys) ≡ false → part_at data_part k n ≡ Some x → data_port h n ≡ x.port.0
  space_then n x less not is =
      let both = any_none (is_whole n) xs ys not in
      let y = space_between n x (below n less) is in
      a.space n y.0 less both.0 y.1 ∙ sym (named_in j n y.0 y.1) ∙ b.space n x (below n less) both.1 is

  -- what was kept whole first, and not again
  first_whole : (n : ℕ) (x : DataBody) (i : ℕ) → list_any (is_whole n) xs ≡ true → list_any (is_whole n) ys ≡ false → part_at data_part k n ≡ Some x → journal_of_port k x.port.0 ≡ Some i → list_any (is_whole i) xs ≡ true
  first_whole n x i whole not is to =
      let given : n < j.next = one.forced n (whole_forced n xs whole) in
      let named : data_port j n ≡ x.port.0 = b.space n x given not is in
      let low : x.port.0 < j.next = let less = a.ready.linked.port n in omega (arith, less, named) in
      let y = space_between n x given is in
      let same : x.port.0 ≡ y.0.port.0 = sym named ∙ named_in j n y.0 y.1 in
      let behind : journal_of_port j x.port.0 ≡ Some i = port_journal_back ys j k two a.ready b.port x.port.0 i low to in
      a.whole n y.0 i whole y.1 (ap (journal_of_port j) (sym same) ∙ behind)

  whole_then : (n : ℕ) (x : DataBody) (i : ℕ) → list_any (is_whole n) (xs ++ ys) ≡ true → part_at data_part k n ≡ Some x → journal_of_port k x.port.0 ≡ Some i → list_any (is_whole i) (xs ++ ys) ≡ true
  whole_then n x i whole is to = by (any_either (is_whole n) xs ys whole) (list_any (is_whole n) ys) refl
    where
      by : (list_any (is_whole n) xs ≡ true) ⊎ (list_any (is_whole n) ys ≡ true) → (c : Bool) → list_any (is_whole n) ys ≡ c → list_any (is_whole i) (xs ++ ys) ≡ true
      by e true last = any_second xs ys (is_whole i) (b.whole n x i last is to)
      by (inl first) false not = any_first xs ys (is_whole i) (first_whole n x i first not is to)
      by (inr last) false not = absurd (let e : true ≡ false = sym last ∙ not in cc)

  pub links_then : Links (xs ++ ys) h k
  links_then = record {
    port = λ n p less is. a.port n p less (b.port n p (below n less) is);
    space = space_then;
    whole = whole_then;
    ceiling = let first = a.ceiling in let last = b.ceiling in omega (arith, first, last);
    ready = b.ready;
  }

-- where a further change leaves it quiet
pub links_quiet : (all : List Forced) (h j k : Held) → Links all h j → Quiet j k → Links all h k
links_quiet all h j k a quiet = record {
  port = λ n p less is. a.port n p less (sym (quiet.keeps.port n) ∙ is);
  space = λ n b less not is. space n b less not (sym (quiet.keeps.to n) ∙ named_in k n b is) (kind_data_at j n (sym (quiet.kinds n) ∙ data_at_kind k n b is));
  whole = λ n b i whole is to. kept_whole n b i whole to (sym (quiet.keeps.to n) ∙ named_in k n b is) (kind_data_at j n (sym (quiet.kinds n) ∙ data_at_kind k n b is));
  ceiling = let first = a.ceiling in let same = quiet.ceiling in omega (arith, first, same);
  ready = ready_quiet j k quiet a.ready;
}
  where
    space : (n : ℕ) (b : DataBody) → n < h.next → list_any (is_whole n) all ≡ false → data_port j n ≡ b.port.0 → (y : DataBody) × (part_at data_part j n ≡ Some y) → data_port h n ≡ b.port.0
    space n b less not named y = a.space n y.0 less not y.1 ∙ sym (named_in j n y.0 y.1) ∙ named

    behind : (q i : ℕ) → journal_of_port k q ≡ Some i → journal_of_port j q ≡ Some i
    behind q i to = sym (keeps_port_journal j k quiet.keeps q) ∙ to

    kept_whole : (n : ℕ) (b : DataBody) (i : ℕ) → list_any (is_whole n) all ≡ true → journal_of_port k b.port.0 ≡ Some i → data_port j n ≡ b.port.0 → (y : DataBody) × (part_at data_part j n ≡ Some y) → list_any (is_whole i) all ≡ true
    kept_whole n b i whole to named y = a.whole n y.0 i whole y.1 (ap (journal_of_port j) (sym (named_in j n y.0 y.1) ∙ named) ∙ behind b.port.0 i to)
