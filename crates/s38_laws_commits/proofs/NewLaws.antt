-- Which links stay where an object is made or destroyed.
use Rattle.std.proofs.Common.{◌≡◌, ◌∙◌, ◌<◌, ℕ, ◌+◌, ◌==◌, Bool, true, false, cond, not, List, [], ◌∷◌, ◌++◌, map, refl, sym, ap, subst, arith}
use Rattle.std.proofs.lemmas.Bool.Decides.{nat_tests}
use Rattle.std.proofs.lemmas.List.Elements.{All-filter, All-head, All-push, All-tail, All-weaker}
use Rattle.std.proofs.lemmas.List.Kept.{IsStrictlyIncreasing-filter}
use Rattle.std.proofs.lemmas.Map.Keys.{IsStrictlyIncreasing-from_sorted, sorted_from_strictly_increasing}
use Rattle.std.specs.List.{AllByRecursion}
use Rattle.std.specs.List.Sorted.{IsStrictlyIncreasing, IsStrictlySortedBy}
use Rattle.std.specs.Option.{unwrap_or}
use Rattle.std.specs.Ordering.{nat_cmp}
use Rattle.std.specs.Prelude.{None, Option, Some, filter, is_some}
use Rattle.std.specs.declared.cmp.Ordering.TheVariants.{Less}
use Rattle.s38_commits.proofs.MapLaws.{nat_same}
use Rattle.s38_durable_state.specs.Following.{object_number}
use Rattle.s38_journals.specs.Journals.{JournalList}
use Rattle.s38_rules.proofs.ChargeLaws.{object_last, object_without}
use Rattle.s38_rules.specs.state.Held.{Held, disk_in, is_on_disk, object, object_in, with_object, without, without_in}
use Rattle.s38_rules.specs.state.Journaling.{block_port, block_port_in, data_port, data_port_in, journal_for, journal_for_block, journal_named, journal_of_port}
use Rattle.s38_rules.specs.families.Ports.{port_journal, port_journal_in}
use Rattle.s38_rules.specs.state.Parts.{Part, block_part, data_of, data_part, journal_of, journal_part, part_at, part_in, port_part}
use Rattle.s38_rules.specs.state.PartsAt.{no_journal, table_in}
use Rattle.s38_rules.specs.declared.block.Block.{Block}
use Rattle.s38_rules.specs.declared.object.Body.{Body}
use Rattle.s38_rules.specs.declared.object.Object.{Object}
use Rattle.s38_rules.specs.declared.port.Port.{Port}
use Rattle.s38_laws_units.specs.Right.{IsUnused}
use Rattle.s38_laws_units.proofs.HeldLaws.{part_without}
use Rattle.s38_laws_commits.specs.Linked.{AreGiven, AreLinked}
use Rattle.s38_laws_commits.specs.Told.{IsSmall}

-- ---- numbers

-- what is there was given
pub there_given : (os : List Object) (next n : ℕ) (o : Object) → AreGiven next (map object_number os) → object_in os n ≡ Some o → n < next
there_given [] next n o given found = cc
there_given (x ∷ os) next n o given found = by (there_given os next n o (All-tail (λ m. m < next) x.number.0 (map object_number os) given)) (x.number.0 == n) refl found
  where
    by : (object_in os n ≡ Some o → n < next) → (b : Bool) → (x.number.0 == n) ≡ b → cond b (Some x) (object_in os n) ≡ Some o → n < next
    by rest true is found = subst (λ (m : ℕ). m < next) (nat_same x.number.0 n is) (All-head (λ m. m < next) x.number.0 (map object_number os) given)
    by rest false is found = rest found

-- so the next number is that of no object
pub none_next : (os : List Object) (next : ℕ) → AreGiven next (map object_number os) → object_in os next ≡ None
none_next os next given = by (object_in os next) refl
  where
    by : (x : Option Object) → object_in os next ≡ x → x ≡ None
    by None is = refl
    by (Some o) is = absurd (let less = there_given os next next o given is in omega (arith, less))

below_last : (n next : ℕ) (ns : List ℕ) → AllByRecursion (λ q. nat_cmp n q ≡ Less) ns → n < next → AllByRecursion (λ q. nat_cmp n q ≡ Less) (ns ++ next ∷ [])
below_last n next [] below less = (lesser, tt)
  where
    lesser : nat_cmp n next ≡ Less
    lesser = grind (arith, nat_tests, less)
below_last n next (m ∷ ns) below less = (below.0, below_last n next ns below.1 less)

sorted_last : (ns : List ℕ) (next : ℕ) → IsStrictlySortedBy nat_cmp ns → AreGiven next ns → IsStrictlySortedBy nat_cmp (ns ++ next ∷ [])
unfolding IsStrictlySortedBy
sorted_last [] next sorted given = (tt, tt)
sorted_last (n ∷ ns) next sorted given = (below_last n next ns sorted.0 (All-head (λ m. m < next) n ns given), sorted_last ns next sorted.1 (All-tail (λ m. m < next) n ns given))

rising_last : (ns : List ℕ) (next : ℕ) → IsStrictlyIncreasing ns → AreGiven next ns → IsStrictlyIncreasing (ns ++ next ∷ [])
rising_last ns next rising given = IsStrictlyIncreasing-from_sorted (ns ++ next ∷ []) (sorted_last ns next (sorted_from_strictly_increasing ns rising) given)

numbers_last : (os : List Object) (x : Object) → map object_number (os ++ x ∷ []) ≡ map object_number os ++ x.number.0 ∷ []
numbers_last [] x = refl
numbers_last (o ∷ os) x = ap (λ (ns : List ℕ). o.number.0 ∷ ns) (numbers_last os x)

numbers_without : (os : List Object) (n : ℕ) → map object_number (without_in os n) ≡ filter (λ m. not (m == n)) (map object_number os)
numbers_without [] n = refl
numbers_without (o ∷ os) n = by (o.number.0 == n) (numbers_without os n)
  where
    by : (b : Bool) → map object_number (without_in os n) ≡ filter (λ m. not (m == n)) (map object_number os)
        → map object_number (cond (not b) (o ∷ without_in os n) (without_in os n)) ≡ cond (not b) (o.number.0 ∷ filter (λ m. not (m == n)) (map object_number os)) (filter (λ m. not (m == n)) (map object_number os))
    by true rest = rest
    by false rest = ap (λ (ns : List ℕ). o.number.0 ∷ ns) rest

-- ---- an object is made

-- a new data space has no port and no entry, and a new journal space no entry
pub record IsNew (b : Body) : Type 0 where
  pub port : data_port_in (data_of b) ≡ 0
  pub entries : (unwrap_or (journal_of b) no_journal).entries ≡ []
  pub small : IsSmall (table_in (data_of b))

module _ (h : Held) (x : Object) (linked : AreLinked h) (unused : IsUnused h) (number : x.number.0 ≡ h.next) (new : IsNew x.body) where
  abbrev more : Held
  more = with_object h x

  pub made_object : (m : ℕ) → object more m ≡ cond (h.next == m) (Some x) (object h m)
  made_object m =
      object_last m x h.objects (subst (λ (n : ℕ). object_in h.objects n ≡ None) (sym number) (none_next h.objects h.next linked.given))
      ∙ ap (λ (n : ℕ). cond (n == m) (Some x) (object h m)) number

  pub made_part : {T : Type 0} (p : Part T) (m : ℕ) → part_at p more m ≡ cond (h.next == m) (p.of x.body) (part_at p h m)
  made_part p m = ap (part_in p) (made_object m) ∙ by (h.next == m)
    where
      by : (b : Bool) → part_in p (cond b (Some x) (object h m)) ≡ cond b (p.of x.body) (part_in p (object h m))
      by true = refl
      by false = refl

  -- of what was given before
  away : (m : ℕ) → m < h.next → (h.next == m) ≡ false
  away m less = grind (arith, nat_tests, less)

  pub made_old : {T : Type 0} (p : Part T) (m : ℕ) → m < h.next → part_at p more m ≡ part_at p h m
  made_old p m less = made_part p m ∙ ap (λ b. cond b (p.of x.body) (part_at p h m)) (away m less)

  -- a data space names what was given before
  made_port : (m : ℕ) → data_port more m ≡ cond (h.next == m) 0 (data_port h m)
  made_port m = ap data_port_in (made_part data_part m) ∙ by (h.next == m)
    where
      by : (b : Bool) → data_port_in (cond b (data_of x.body) (part_at data_part h m)) ≡ cond b 0 (data_port h m)
      by true = new.port
      by false = refl

  low : (m : ℕ) → data_port more m < h.next
  low m = subst (λ (n : ℕ). n < h.next) (sym (made_port m)) (by (h.next == m))
    where
      by : (b : Bool) → cond b 0 (data_port h m) < h.next
      by true = let one = unused.next in omega (arith, one)
      by false = linked.port m

  no_port : port_journal h 0 ≡ 0
  no_port = ap (λ r. port_journal_in (part_in port_part r)) unused.none

  named : (m : ℕ) → port_journal h (data_port more m) < h.next
  named m = subst (λ (n : ℕ). port_journal h n < h.next) (sym (made_port m)) (by (h.next == m))
    where
      by : (b : Bool) → port_journal h (cond b 0 (data_port h m)) < h.next
      by true = let one = unused.next in omega (arith, one, no_port)
      by false = linked.journal m

  -- the journal space of a port stays, where both numbers were given before
  behind_old : (port : ℕ) → port < h.next → port_journal h port < h.next → journal_of_port more port ≡ journal_of_port h port
  behind_old port less names = ap (journal_named more) (made_old port_part port less) ∙ by (part_at port_part h port) names
    where
      by : (r : Option Port) → port_journal_in r < h.next → journal_named more r ≡ journal_named h r
      by None names = refl
      by (Some p) names = ap (λ (j : Option JournalList). cond (is_some j) (Some p.journal.0) None) (made_old journal_part p.journal.0 names)

  nothing_behind : journal_of_port h 0 ≡ None
  nothing_behind = ap (λ r. journal_named h (part_in port_part r)) unused.none

  -- a data space that is journaled was before
  pub made_for : (m : ℕ) → journal_for more m ≡ cond (h.next == m) None (journal_for h m)
  made_for m = behind_old (data_port more m) (low m) (named m) ∙ ap (journal_of_port h) (made_port m) ∙ by (h.next == m)
    where
      by : (b : Bool) → journal_of_port h (cond b 0 (data_port h m)) ≡ cond b None (journal_for h m)
      by true = nothing_behind
      by false = refl

  pub made_journaled : (m journal : ℕ) → journal_for more m ≡ Some journal → ((h.next == m) ≡ false) × (journal_for h m ≡ Some journal)
  made_journaled m journal to = by (h.next == m) refl (sym (made_for m) ∙ to)
    where
      by : (b : Bool) → (h.next == m) ≡ b → cond b None (journal_for h m) ≡ Some journal → ((h.next == m) ≡ false) × (journal_for h m ≡ Some journal)
      by true is to = cc
      by false is to = (is, to)

  made_disk : (m : ℕ) → is_on_disk h m ≡ true → is_on_disk more m ≡ true
  made_disk m on = ap disk_in (made_object m) ∙ by (object h m) refl on
    where
      by : (r : Option Object) → object h m ≡ r → disk_in r ≡ true → disk_in (cond (h.next == m) (Some x) (object h m)) ≡ true
      by None is on = absurd (let e : false ≡ true = on in cc)
      by (Some o) is on = ap (λ b. disk_in (cond b (Some x) (object h m))) (away m (there_given h.objects h.next m o linked.given is)) ∙ ap disk_in is ∙ on

  pub linked_made : AreLinked more
  linked_made = record {
    rising = subst (λ (ns : List ℕ). IsStrictlyIncreasing ns) (sym numbers) (rising_last (map object_number h.objects) h.next linked.rising linked.given);
    given = subst (λ (ns : List ℕ). AreGiven (h.next + 1) ns) (sym numbers)
        (All-push (λ n. n < h.next + 1) (map object_number h.objects) h.next (All-weaker (λ n. n < h.next) (λ n. n < h.next + 1) (λ n less. omega (arith, less)) (map object_number h.objects) linked.given) (omega arith));
    port = λ m. let less = low m in omega (arith, less);
    journal = λ m. let less = named m in let same = ap port_journal_in (made_old port_part (data_port more m) (low m)) in omega (arith, less, same);
    disk = λ m j to. made_disk m (linked.disk m j (made_journaled m j to).1);
    port_disk = λ m j to. let old = made_journaled m j to in
        subst (λ (n : ℕ). is_on_disk more n ≡ true) (sym (made_port m ∙ ap (λ b. cond b 0 (data_port h m)) old.0)) (made_disk (data_port h m) (linked.port_disk m j old.1));
    journal_disk = λ m j to. made_disk j (linked.journal_disk m j (made_journaled m j to).1);
  }
    where
      numbers : map object_number (h.objects ++ x ∷ []) ≡ map object_number h.objects ++ h.next ∷ []
      numbers = numbers_last h.objects x ∙ ap (λ (n : ℕ). map object_number h.objects ++ n ∷ []) number

  -- the unit of a block that is there goes where it went
  pub made_block : (block journal : ℕ) → is_some (part_at block_part h block) ≡ true → journal_for_block h block ≡ Some journal → journal_for_block more block ≡ Some journal
  made_block block journal there to = ap (λ (r : Option Block). journal_of_port more (block_port_in r)) (old_part block_part block there) ∙ still (block_port h block) to
    where
      -- what is there was given
      old_part : {T : Type 0} (p : Part T) (m : ℕ) → is_some (part_at p h m) ≡ true → part_at p more m ≡ part_at p h m
      old_part p m there = by (object h m) refl there
        where
          by : (r : Option Object) → object h m ≡ r → is_some (part_in p r) ≡ true → part_at p more m ≡ part_at p h m
          by None is there = absurd (let e : false ≡ true = there in cc)
          by (Some o) is there = made_old p m (there_given h.objects h.next m o linked.given is)

      still : (port : ℕ) → journal_of_port h port ≡ Some journal → journal_of_port more port ≡ Some journal
      still port to = by (part_at port_part h port) refl to
        where
          named_old : (p : Port) (j : Option JournalList) → part_at journal_part h p.journal.0 ≡ j → cond (is_some j) (Some p.journal.0) None ≡ Some journal → journal_named more (Some p) ≡ Some journal
          named_old p None is to = cc
          named_old p (Some j) is to = ap (λ (r : Option JournalList). cond (is_some r) (Some p.journal.0) None) (old_part journal_part p.journal.0 (ap is_some is) ∙ is) ∙ to

          by : (r : Option Port) → part_at port_part h port ≡ r → journal_named h r ≡ Some journal → journal_of_port more port ≡ Some journal
          by None is to = cc
          by (Some p) is to = ap (journal_named more) (old_part port_part port (ap is_some is) ∙ is) ∙ named_old p (part_at journal_part h p.journal.0) refl to

-- ---- an object is destroyed

module _ (h : Held) (n : ℕ) where
  abbrev less : Held
  less = without h n

  -- what is still there was there
  pub gone_part : {T : Type 0} (p : Part T) (m : ℕ) (x : T) → part_at p less m ≡ Some x → ((n == m) ≡ false) × (part_at p h m ≡ Some x)
  gone_part p m x is = by (n == m) refl (sym (part_without p h n m) ∙ is)
    where
      by : (b : Bool) → (n == m) ≡ b → cond b None (part_at p h m) ≡ Some x → ((n == m) ≡ false) × (part_at p h m ≡ Some x)
      by true on is = cc
      by false off is = (off, is)

  -- the journal space of a port was its journal space before
  pub gone_port_journal : (port journal : ℕ) → journal_of_port less port ≡ Some journal → ((n == port) ≡ false) × ((n == journal) ≡ false) × (journal_of_port h port ≡ Some journal)
  gone_port_journal port journal to = by (part_at port_part less port) refl to
    where
      named : (p : Port) (j : Option JournalList) → part_at journal_part less p.journal.0 ≡ j → cond (is_some j) (Some p.journal.0) None ≡ Some journal → ((n == journal) ≡ false) × (journal_named h (Some p) ≡ Some journal)
      named p None is to = cc
      named p (Some j) is to =
          let old = gone_part journal_part p.journal.0 j is in
          let same : p.journal.0 ≡ journal = cc in
          (ap (λ (m : ℕ). n == m) (sym same) ∙ old.0, ap (λ (r : Option JournalList). cond (is_some r) (Some p.journal.0) None) old.1 ∙ to)

      by : (r : Option Port) → part_at port_part less port ≡ r → journal_named less r ≡ Some journal → ((n == port) ≡ false) × ((n == journal) ≡ false) × (journal_of_port h port ≡ Some journal)
      by None is to = cc
      by (Some p) is to =
          let old = gone_part port_part port p is in
          let rest = named p (part_at journal_part less p.journal.0) refl to in
          (old.0, rest.0, ap (journal_named h) old.1 ∙ rest.1)

  gone_port : (m : ℕ) → data_port less m ≡ cond (n == m) 0 (data_port h m)
  gone_port m = ap data_port_in (part_without data_part h n m) ∙ by (n == m)
    where
      by : (b : Bool) → data_port_in (cond b None (part_at data_part h m)) ≡ cond b 0 (data_port h m)
      by true = refl
      by false = refl

  gone_named : (port : ℕ) → port_journal less port ≡ cond (n == port) 0 (port_journal h port)
  gone_named port = ap port_journal_in (part_without port_part h n port) ∙ by (n == port)
    where
      by : (b : Bool) → port_journal_in (cond b None (part_at port_part h port)) ≡ cond b 0 (port_journal h port)
      by true = refl
      by false = refl

  -- what is journaled was
  pub gone_for : IsUnused h → (m journal : ℕ) → journal_for less m ≡ Some journal → ((n == m) ≡ false) × ((n == data_port h m) ≡ false) × ((n == journal) ≡ false) × (journal_for h m ≡ Some journal)
  gone_for unused m journal to = by (n == m) refl old.0 old.2
    where
      old : ((n == data_port less m) ≡ false) × ((n == journal) ≡ false) × (journal_of_port h (data_port less m) ≡ Some journal)
      old = gone_port_journal (data_port less m) journal to

      port : (b : Bool) → (n == m) ≡ b → data_port less m ≡ cond b 0 (data_port h m)
      port b is = gone_port m ∙ ap (λ c. cond c 0 (data_port h m)) is

      nothing : journal_of_port h 0 ≡ None
      nothing = ap (λ r. journal_named h (part_in port_part r)) unused.none

      by : (b : Bool) → (n == m) ≡ b → (n == data_port less m) ≡ false → journal_of_port h (data_port less m) ≡ Some journal
          → ((n == m) ≡ false) × ((n == data_port h m) ≡ false) × ((n == journal) ≡ false) × (journal_for h m ≡ Some journal)
      by true is off to = absurd (let e : None ≡ Some journal = sym nothing ∙ sym (ap (journal_of_port h) (port true is)) ∙ to in cc)
      by false is off to = (is, ap (λ (p : ℕ). n == p) (sym (port false is)) ∙ off, old.1, sym (ap (journal_of_port h) (port false is)) ∙ to)

  pub gone_disk : (m : ℕ) → (n == m) ≡ false → is_on_disk h m ≡ true → is_on_disk less m ≡ true
  gone_disk m off on = ap disk_in (object_without n m h.objects) ∙ ap (λ b. disk_in (cond b None (object h m))) off ∙ on

  pub linked_gone : AreLinked h → IsUnused h → AreLinked less
  linked_gone linked unused = record {
    rising = subst (λ (ns : List ℕ). IsStrictlyIncreasing ns) (sym (numbers_without h.objects n)) (IsStrictlyIncreasing-filter (λ m. not (m == n)) (map object_number h.objects) linked.rising);
    given = subst (λ (ns : List ℕ). AreGiven h.next ns) (sym (numbers_without h.objects n)) (All-filter (λ m. not (m == n)) (λ m. m < h.next) (map object_number h.objects) linked.given);
    port = λ m. subst (λ (p : ℕ). p < h.next) (sym (gone_port m)) (zero_or (n == m) (data_port h m) (linked.port m));
    journal = λ m. subst (λ (p : ℕ). p < h.next) (sym (gone_named (data_port less m))) (zero_or (n == data_port less m) (port_journal h (data_port less m)) (named m));
    disk = λ m j to. let old = gone_for unused m j to in gone_disk m old.0 (linked.disk m j old.3);
    port_disk = λ m j to. let old = gone_for unused m j to in
        subst (λ (p : ℕ). is_on_disk less p ≡ true) (sym (gone_port m ∙ ap (λ b. cond b 0 (data_port h m)) old.0)) (gone_disk (data_port h m) old.1 (linked.port_disk m j old.3));
    journal_disk = λ m j to. let old = gone_for unused m j to in gone_disk j old.2 (linked.journal_disk m j old.3);
  }
    where
      zero_or : (b : Bool) (p : ℕ) → p < h.next → cond b 0 p < h.next
      zero_or true p less = let one = unused.next in omega (arith, one)
      zero_or false p less = less

      named : (m : ℕ) → port_journal h (data_port less m) < h.next
      named m = subst (λ (p : ℕ). port_journal h p < h.next) (sym (gone_port m)) (by (n == m))
        where
          by : (b : Bool) → port_journal h (cond b 0 (data_port h m)) < h.next
          by true = let one = unused.next in let none : port_journal h 0 ≡ 0 = ap (λ r. port_journal_in (part_in port_part r)) unused.none in omega (arith, one, none)
          by false = linked.journal m
