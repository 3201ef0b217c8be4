-- Which links stay where an object is another one.
use Rattle.std.proofs.Common.{◌≡◌, ◌∙◌, ◌<◌, ℕ, ◌==◌, Bool, true, false, cond, List, [], ◌∷◌, map, refl, sym, ap, subst, arith}
use Rattle.std.specs.List.Sorted.{IsStrictlyIncreasing}
use Rattle.std.specs.Option.{option_map, unwrap_or}
use Rattle.std.specs.Prelude.{Option, Some, None, is_some}
use Rattle.s38_base.specs.declared.id.ObjNum.{ObjNum}
use Rattle.s38_dataspaces.specs.Table.{DataTable}
use Rattle.s38_durable_state.specs.Following.{object_number}
use Rattle.s38_journals.specs.Journals.{JournalList}
use Rattle.s38_rules.proofs.ChargeLaws.{KeepsNumber, object_changed}
use Rattle.s38_rules.proofs.PartLaws.{over_same, part_apart}
use Rattle.s38_rules.specs.state.Held.{Held, change, change_in, disk_in, has_number, is_on_disk, object}
use Rattle.s38_rules.specs.state.Journaling.{block_port, block_port_in, data_port, data_port_in, is_journal, journal_for, journal_for_block, journal_named, journal_of_port}
use Rattle.s38_rules.specs.families.Ports.{port_journal, port_journal_in}
use Rattle.s38_rules.specs.state.Parts.{Part, block_of, block_part, data_of, data_part, journal_of, journal_part, over_object, over_part, part_at, part_in, port_of, port_part}
use Rattle.s38_rules.specs.state.PartsAt.{no_journal, on_journal, on_table, over_table}
use Rattle.s38_rules.specs.state.LawfulParts.{IsPart, data_lawful, journal_lawful}
use Rattle.s38_rules.specs.declared.block.Block.{Block}
use Rattle.s38_rules.specs.declared.data_body.DataBody.{DataBody}
use Rattle.s38_rules.specs.declared.object.Object.{Object}
use Rattle.s38_rules.specs.declared.port.Port.{Port}
use Rattle.s38_laws_units.proofs.EndLaws.{block_by_data, block_by_journal, data_by_journal, journal_by_data, port_by_data, port_by_journal}
use Rattle.s38_laws_units.proofs.HeldLaws.{IsOther, part_over}
use Rattle.s38_laws_commits.specs.Linked.{AreGiven, AreLinked}
use Rattle.s38_laws_commits.specs.Told.{entries_at}

-- ---- what stays

-- all that links data spaces, blocks, ports and journal spaces
pub record Keeps (h k : Held) : Type 0 where
  pub block : (n : ℕ) → part_at block_part k n ≡ part_at block_part h n
  pub port : (n : ℕ) → part_at port_part k n ≡ part_at port_part h n
  pub journal : (n : ℕ) → is_journal k n ≡ is_journal h n
  pub to : (n : ℕ) → data_port k n ≡ data_port h n
  pub space : (n : ℕ) → is_some (part_at data_part k n) ≡ is_some (part_at data_part h n)
  pub disk : (n : ℕ) → is_on_disk h n ≡ true → is_on_disk k n ≡ true
  pub numbers : map object_number k.objects ≡ map object_number h.objects
  pub next : k.next ≡ h.next

-- and all entries
pub record Quiet (h k : Held) : Type 0 where
  pub keeps : Keeps h k
  pub tables : (n : ℕ) → part_at data_part k n ≡ part_at data_part h n
  pub entries : (n : ℕ) → entries_at k n ≡ entries_at h n

pub keeps_then : (h j k : Held) → Keeps h j → Keeps j k → Keeps h k
keeps_then h j k a b = record {
  block = λ n. b.block n ∙ a.block n;
  port = λ n. b.port n ∙ a.port n;
  journal = λ n. b.journal n ∙ a.journal n;
  to = λ n. b.to n ∙ a.to n;
  space = λ n. b.space n ∙ a.space n;
  disk = λ n on. b.disk n (a.disk n on);
  numbers = b.numbers ∙ a.numbers;
  next = b.next ∙ a.next;
}

pub keeps_same : (h : Held) → Keeps h h
keeps_same h = record { block = λ n. refl; port = λ n. refl; journal = λ n. refl; to = λ n. refl; space = λ n. refl; disk = λ n on. on; numbers = refl; next = refl }

pub quiet_same : (h : Held) → Quiet h h
quiet_same h = record { keeps = keeps_same h; tables = λ n. refl; entries = λ n. refl }

-- ---- an object is changed

-- its number stays, and it stays on disk
pub record KeepsPlace (f : Object → Object) : Type 0 where
  pub number : KeepsNumber f
  pub disk : (x : Object) → x.on_disk ≡ true → (f x).on_disk ≡ true

pub numbers_same : (os : List Object) (n : ℕ) (f : Object → Object) → KeepsNumber f → map object_number (change_in os n f) ≡ map object_number os
numbers_same [] n f keeps = refl
numbers_same (o ∷ os) n f keeps = by (has_number n o) (numbers_same os n f keeps)
  where
    by : (b : Bool) → map object_number (change_in os n f) ≡ map object_number os → map object_number (cond b (f o ∷ os) (o ∷ change_in os n f)) ≡ map object_number (o ∷ os)
    by true rest = ap (λ (m : ObjNum). m.0 ∷ map object_number os) (keeps o)
    by false rest = ap (λ (ms : List ℕ). object_number o ∷ ms) rest

changed_disk : (h : Held) (n m : ℕ) (f : Object → Object) → KeepsPlace f → is_on_disk h m ≡ true → is_on_disk (change h n f) m ≡ true
changed_disk h n m f keeps on = ap disk_in (object_changed n m f h.objects keeps.number) ∙ by (n == m) (object h m) on
  where
    by : (b : Bool) (x : Option Object) → disk_in x ≡ true → disk_in (cond b (option_map f x) x) ≡ true
    by true None on = on
    by true (Some x) on = keeps.disk x on
    by false x on = on

seen : {A : Type 0} (g : Option Object → A) (h : Held) (n m : ℕ) (f : Object → Object) → KeepsNumber f → ((x : Object) → g (Some (f x)) ≡ g (Some x)) → g (object (change h n f) m) ≡ g (object h m)
seen g h n m f keeps same = ap g (object_changed n m f h.objects keeps) ∙ by (n == m) (object h m)
  where
    by : (b : Bool) (x : Option Object) → g (cond b (option_map f x) x) ≡ g x
    by true None = refl
    by true (Some x) = same x
    by false x = refl

-- its body stays
pub quiet_header : (h : Held) (n : ℕ) (f : Object → Object) → KeepsPlace f → ((x : Object) → (f x).body ≡ x.body) → Quiet h (change h n f)
quiet_header h n f keeps body = record {
  keeps = record {
    block = λ m. seen (part_in block_part) h n m f keeps.number (λ x. ap block_of (body x));
    port = λ m. seen (part_in port_part) h n m f keeps.number (λ x. ap port_of (body x));
    journal = λ m. seen (λ r. is_some (part_in journal_part r)) h n m f keeps.number (λ x. ap (λ b. is_some (journal_of b)) (body x));
    to = λ m. seen (λ r. data_port_in (part_in data_part r)) h n m f keeps.number (λ x. ap (λ b. data_port_in (data_of b)) (body x));
    space = λ m. seen (λ r. is_some (part_in data_part r)) h n m f keeps.number (λ x. ap (λ b. is_some (data_of b)) (body x));
    disk = λ m on. changed_disk h n m f keeps on;
    numbers = numbers_same h.objects n f keeps.number;
    next = refl;
  };
  tables = λ m. seen (part_in data_part) h n m f keeps.number (λ x. ap data_of (body x));
  entries = λ m. seen (λ r. (unwrap_or (part_in journal_part r) no_journal).entries) h n m f keeps.number (λ x. ap (λ b. (unwrap_or (journal_of b) no_journal).entries) (body x));
}

pub part_place : {T : Type 0} (p : Part T) (f : T → T) → KeepsPlace (over_object p f)
part_place p f = record { number = λ x. refl; disk = λ x on. on }

-- what an object of another kind holds is something else
pub quiet_other : {T : Type 0} (p : Part T) → IsPart T p → ((x : T) → IsOther (p.make x)) → (h : Held) (n : ℕ) (f : T → T) → Quiet h (over_part p h n f)
quiet_other {T} p lawful other h n f = record {
  keeps = record {
    block = λ m. part_apart block_part p f (λ b. over_same p lawful block_of None (λ x. (other x).block) f b (p.of b) refl) h n m;
    port = λ m. part_apart port_part p f (λ b. over_same p lawful port_of None (λ x. (other x).port) f b (p.of b) refl) h n m;
    journal = λ m. ap is_some (journals m);
    to = λ m. ap data_port_in (spaces m);
    space = λ m. ap is_some (spaces m);
    disk = λ m on. changed_disk h n m (over_object p f) (part_place p f) on;
    numbers = numbers_same h.objects n (over_object p f) (λ x. refl);
    next = refl;
  };
  tables = spaces;
  entries = λ m. ap (λ (r : Option JournalList). (unwrap_or r no_journal).entries) (journals m);
}
  where
    journals : (m : ℕ) → part_at journal_part (over_part p h n f) m ≡ part_at journal_part h m
    journals m = part_apart journal_part p f (λ b. over_same p lawful journal_of None (λ x. (other x).journal) f b (p.of b) refl) h n m

    spaces : (m : ℕ) → part_at data_part (over_part p h n f) m ≡ part_at data_part h m
    spaces m = part_apart data_part p f (λ b. over_same p lawful data_of None (λ x. (other x).space) f b (p.of b) refl) h n m

-- a journal space is another one
pub keeps_journal : (h : Held) (n : ℕ) (f : JournalList → JournalList) → Keeps h (on_journal h n f)
keeps_journal h n f = record {
  block = λ m. block_by_journal h n m f;
  port = λ m. port_by_journal h n m f;
  journal = λ m. ap is_some (part_over journal_part journal_lawful h n m f) ∙ by (n == m) (part_at journal_part h m);
  to = λ m. ap data_port_in (data_by_journal h n m f);
  space = λ m. ap is_some (data_by_journal h n m f);
  disk = λ m on. changed_disk h n m (over_object journal_part f) (part_place journal_part f) on;
  numbers = numbers_same h.objects n (over_object journal_part f) (λ x. refl);
  next = refl;
}
  where
    by : (b : Bool) (x : Option JournalList) → is_some (cond b (option_map f x) x) ≡ is_some x
    by true None = refl
    by true (Some j) = refl
    by false x = refl

pub quiet_journal : (h : Held) (n : ℕ) (f : JournalList → JournalList) → ((j : JournalList) → (f j).entries ≡ j.entries) → Quiet h (on_journal h n f)
quiet_journal h n f same = record {
  keeps = keeps_journal h n f;
  tables = λ m. data_by_journal h n m f;
  entries = λ m. ap (λ (r : Option JournalList). (unwrap_or r no_journal).entries) (part_over journal_part journal_lawful h n m f) ∙ by (n == m) (part_at journal_part h m);
}
  where
    by : (b : Bool) (x : Option JournalList) → (unwrap_or (cond b (option_map f x) x) no_journal).entries ≡ (unwrap_or x no_journal).entries
    by true None = refl
    by true (Some j) = same j
    by false x = refl

-- a data space has other entries
pub keeps_table : (h : Held) (n : ℕ) (t : DataTable → DataTable) → Keeps h (on_table h n t)
keeps_table h n t = record {
  block = λ m. block_by_data h n m (over_table t);
  port = λ m. port_by_data h n m (over_table t);
  journal = λ m. ap is_some (journal_by_data h n m (over_table t));
  to = λ m. ap data_port_in (part_over data_part data_lawful h n m (over_table t)) ∙ by (n == m) (part_at data_part h m);
  space = λ m. ap is_some (part_over data_part data_lawful h n m (over_table t)) ∙ there (n == m) (part_at data_part h m);
  disk = λ m on. changed_disk h n m (over_object data_part (over_table t)) (part_place data_part (over_table t)) on;
  numbers = numbers_same h.objects n (over_object data_part (over_table t)) (λ x. refl);
  next = refl;
}
  where
    by : (b : Bool) (x : Option DataBody) → data_port_in (cond b (option_map (over_table t) x) x) ≡ data_port_in x
    by true None = refl
    by true (Some d) = refl
    by false x = refl

    there : (b : Bool) (x : Option DataBody) → is_some (cond b (option_map (over_table t) x) x) ≡ is_some x
    there true None = refl
    there true (Some d) = refl
    there false x = refl

-- ---- the journal space of a data space, and that of a block

-- the journal space of a port is a journal space
pub port_journal_there : (h : Held) (port journal : ℕ) → journal_of_port h port ≡ Some journal → is_journal h journal ≡ true
port_journal_there h port journal to = by (part_at port_part h port) to
  where
    there : (b : Bool) (n : ℕ) → is_journal h n ≡ b → cond b (Some n) None ≡ Some journal → is_journal h journal ≡ true
    there true n at e = let same : n ≡ journal = cc in subst (λ (m : ℕ). is_journal h m ≡ true) same at
    there false n at e = cc

    by : (x : Option Port) → journal_named h x ≡ Some journal → is_journal h journal ≡ true
    by None to = cc
    by (Some p) to = there (is_journal h p.journal.0) p.journal.0 refl to

module _ (h k : Held) (keeps : Keeps h k) where
  pub keeps_port_journal : (port : ℕ) → journal_of_port k port ≡ journal_of_port h port
  keeps_port_journal port = ap (journal_named k) (keeps.port port) ∙ by (part_at port_part h port)
    where
      by : (x : Option Port) → journal_named k x ≡ journal_named h x
      by None = refl
      by (Some p) = ap (λ b. cond b (Some p.journal.0) None) (keeps.journal p.journal.0)

  pub keeps_for : (n : ℕ) → journal_for k n ≡ journal_for h n
  keeps_for n = ap (journal_of_port k) (keeps.to n) ∙ keeps_port_journal (data_port h n)

  pub keeps_block : (block : ℕ) → journal_for_block k block ≡ journal_for_block h block
  keeps_block block = ap (λ (x : Option Block). journal_of_port k (block_port_in x)) (keeps.block block) ∙ keeps_port_journal (block_port h block)

  pub linked_kept : AreLinked h → AreLinked k
  linked_kept linked = record {
    rising = subst (λ (ns : List ℕ). IsStrictlyIncreasing ns) (sym keeps.numbers) linked.rising;
    given = subst (λ (ns : List ℕ). AreGiven k.next ns) (sym keeps.numbers) (subst (λ (m : ℕ). AreGiven m (map object_number h.objects)) (sym keeps.next) linked.given);
    port = λ n. below (data_port k n) (data_port h n) (keeps.to n) (linked.port n);
    journal = λ n. below (port_journal k (data_port k n)) (port_journal h (data_port h n)) (ap (port_journal k) (keeps.to n) ∙ ap port_journal_in (keeps.port (data_port h n))) (linked.journal n);
    disk = λ n j to. keeps.disk n (linked.disk n j (sym (keeps_for n) ∙ to));
    port_disk = λ n j to. subst (λ (p : ℕ). is_on_disk k p ≡ true) (sym (keeps.to n)) (keeps.disk (data_port h n) (linked.port_disk n j (sym (keeps_for n) ∙ to)));
    journal_disk = λ n j to. keeps.disk j (linked.journal_disk n j (sym (keeps_for n) ∙ to));
  }
    where
      below : (a b : ℕ) → a ≡ b → b < h.next → a < k.next
      below a b same less = omega (arith, same, less, keeps.next)

-- ---- what is on disk stays as it is, too

pub record Still (h k : Held) : Type 0 where
  pub quiet : Quiet h k
  pub disk : (n : ℕ) → is_on_disk k n ≡ is_on_disk h n

pub disk_same : (h : Held) (n m : ℕ) (f : Object → Object) → KeepsNumber f → ((x : Object) → (f x).on_disk ≡ x.on_disk) → is_on_disk (change h n f) m ≡ is_on_disk h m
disk_same h n m f keeps same = seen disk_in h n m f keeps same

pub still_same : (h : Held) → Still h h
still_same h = record { quiet = quiet_same h; disk = λ n. refl }

pub still_other : {T : Type 0} (p : Part T) → IsPart T p → ((x : T) → IsOther (p.make x)) → (h : Held) (n : ℕ) (f : T → T) → Still h (over_part p h n f)
still_other p lawful other h n f = record { quiet = quiet_other p lawful other h n f; disk = λ m. disk_same h n m (over_object p f) (λ x. refl) (λ x. refl) }

pub still_header : (h : Held) (n : ℕ) (f : Object → Object) → KeepsNumber f → ((x : Object) → (f x).body ≡ x.body) → ((x : Object) → (f x).on_disk ≡ x.on_disk) → Still h (change h n f)
still_header h n f number body disk = record { quiet = quiet_header h n f (record { number = number; disk = λ x on. disk x ∙ on }) body; disk = λ m. disk_same h n m f number disk }

pub still_journal : (h : Held) (n : ℕ) (f : JournalList → JournalList) → ((j : JournalList) → (f j).entries ≡ j.entries) → Still h (on_journal h n f)
still_journal h n f same = record { quiet = quiet_journal h n f same; disk = λ m. disk_same h n m (over_object journal_part f) (λ x. refl) (λ x. refl) }

pub table_disk : (h : Held) (n m : ℕ) (t : DataTable → DataTable) → is_on_disk (on_table h n t) m ≡ is_on_disk h m
table_disk h n m t = disk_same h n m (over_object data_part (over_table t)) (λ x. refl) (λ x. refl)

pub journal_disk : (h : Held) (n m : ℕ) (f : JournalList → JournalList) → is_on_disk (on_journal h n f) m ≡ is_on_disk h m
journal_disk h n m f = disk_same h n m (over_object journal_part f) (λ x. refl) (λ x. refl)
