-- Word by word of what an instruction changes, what journal spaces tell and what is kept goes on.
use Rattle.std.proofs.Common.{◌≡◌, ◌∙◌, ◌⊎◌, ◌<◌, ℕ, ◌==◌, Bool, true, false, cond, inl, inr, List, ◌∷◌, map, refl, sym, ap, subst, arith}
use Rattle.std.specs.List.{list_any}
use Rattle.std.specs.List.Sorted.{IsStrictlyIncreasing}
use Rattle.std.specs.Option.{option_map, unwrap_or}
use Rattle.std.specs.Prelude.{◌||◌, None, Option, Some, is_some}
use Rattle.s38_base.specs.Pointers.{start_of, target_of}
use Rattle.s38_base.specs.declared.id.Id.{Id}
use Rattle.s38_code.specs.declared.operand.Operand.TheVariants as operands
use Rattle.s38_code.specs.declared.operand.Operand.{Operand}
use Rattle.s38_commits.proofs.MapLaws.{nat_itself, nat_same}
use Rattle.s38_commits.specs.Units.{UnitMap}
use Rattle.s38_dataspaces.specs.Table.{DataTable}
use Rattle.s38_durable_state.specs.Durable.{Durable}
use Rattle.s38_durable_state.specs.Following.{object_number}
use Rattle.s38_journals.specs.Journals.{JournalList}
use Rattle.s38_memory.specs.declared.cell.Cell.{Cell}
use Rattle.s38_rules.proofs.ChargeLaws.{object_changed}
use Rattle.s38_rules.specs.state.Cells.{with_cells}
use Rattle.s38_rules.specs.families.Changes.{renamed_by, through_port}
use Rattle.s38_rules.specs.store.Forcing.{Forced, Whole, is_whole}
use Rattle.s38_rules.specs.state.Held.{Held, disk_in, ensured, is_on_disk, kept_on_disk, object}
use Rattle.s38_rules.specs.state.Journaling.{block_port, block_port_in, data_port, data_port_in, is_journal, journal_for, journal_for_block, journal_named, journal_of_port}
use Rattle.s38_rules.specs.families.Ports.{port_journal, port_journal_in}
use Rattle.s38_rules.specs.ask.Operands.{cells_put}
use Rattle.s38_rules.specs.state.Parts.{block_part, data_part, over_object, part_at, part_in, port_part, space_part}
use Rattle.s38_rules.specs.state.PartsAt.{no_journal, on_data, on_space, table_at, table_in}
use Rattle.s38_rules.specs.state.LawfulParts.{data_lawful, space_lawful}
use Rattle.s38_rules.specs.declared.block.Block.{Block}
use Rattle.s38_rules.specs.declared.data_body.DataBody.{DataBody}
use Rattle.s38_rules.specs.declared.object.Object.{Object}
use Rattle.s38_rules.specs.declared.port.Port.{Port}
use Rattle.s38_laws_units.specs.Right.{AreRight, IsUnused}
use Rattle.s38_laws_units.proofs.EndLaws.{block_by_data, journal_by_data, port_by_data}
use Rattle.s38_laws_units.proofs.HeldLaws.{part_over, space_other}
use Rattle.s38_laws_commits.proofs.LinkLaws.{Quiet, Still, disk_same, linked_kept, numbers_same, quiet_header, still_header, still_other, still_same}
use Rattle.s38_laws_commits.proofs.MoveLaws.{Fewer, kept_stays, quiet_kept, quiet_told, told_stays}
use Rattle.s38_laws_commits.proofs.NewLaws.{there_given}
use Rattle.s38_laws_commits.specs.Imaged.{AreImaged}
use Rattle.s38_laws_commits.specs.Linked.{AreGiven, AreLinked}
use Rattle.s38_laws_commits.specs.Told.{AreTold, IsSmall, entries_at}

-- what holds on the way
pub record IsGoing (h : Held) (units : UnitMap) (d : Durable) (anew : ℕ → Bool) : Type 0 where
  pub right : AreRight h units
  pub linked : AreLinked h
  pub told : AreTold h units
  pub kept : AreImaged h units d anew

-- what is forced whole must persist
abbrev pub Covers : (ℕ → Bool) → List Forced → Type 0
Covers anew all = (n : ℕ) → list_any (is_whole n) all ≡ true → anew n ≡ true

pub never : {A : Type 0} (b : Bool) → b ≡ true → b ≡ false → A
never true p q = absurd (let e : true ≡ false = q in cc)
never false p q = absurd (let e : false ≡ true = p in cc)

-- ---- nothing is written

pub still_going : (h k : Held) (units : UnitMap) (d : Durable) (anew : ℕ → Bool) → Still h k → AreRight k units → IsGoing h units d anew → IsGoing k units d anew
still_going h k units d anew still right going = record {
  right = right;
  linked = linked_kept h k still.quiet.keeps going.linked;
  told = quiet_told h k units still.quiet going.told;
  kept = quiet_kept h k units d anew still.quiet (λ n old on. sym (still.disk n) ∙ on) going.kept;
}

pub space_still : (h : Held) (n : ℕ) (f : List Cell → List Cell) → Still h (on_space h n f)
space_still h n f = still_other space_part space_lawful space_other h n f

pub cells_still : (h : Held) (operand : Option Operand) (piece : List Cell) → Still h (cells_put h operand piece)
cells_still h (Some (operands.InSpace base offset attr)) piece = space_still h (target_of base) (with_cells (start_of base offset) piece)
cells_still h _ piece = still_same h

pub renamed_still : (h : Held) (n : ℕ) (id : Option Id) → Still h (renamed_by h n id)
renamed_still h n None = still_same h
renamed_still h n (Some id) = still_header h n (λ x. record x { id = id }) (λ x. refl) (λ x. refl) (λ x. refl)

-- ---- an object is ensured

ensured_disk : (h : Held) (n m : ℕ) → (n == m) ≡ false → is_on_disk (ensured h n) m ≡ is_on_disk h m
ensured_disk h n m off = ap disk_in (object_changed n m kept_on_disk h.objects (λ x. refl)) ∙ ap (λ b. disk_in (cond b (option_map kept_on_disk (object h m)) (object h m))) off

pub ensured_quiet : (h : Held) (n : ℕ) → Quiet h (ensured h n)
ensured_quiet h n = quiet_header h n kept_on_disk (record { number = λ x. refl; disk = λ x on. refl }) (λ x. refl)

ensured_fewer : (h : Held) (n : ℕ) (anew : ℕ → Bool) → anew n ≡ true → Fewer anew h (ensured h n)
ensured_fewer h n anew new m old on = by (n == m) refl
  where
    by : (b : Bool) → (n == m) ≡ b → is_on_disk h m ≡ true
    by true is = never (anew m) (ap anew (sym (nat_same n m is)) ∙ new) old
    by false off = sym (ensured_disk h n m off) ∙ on

pub first_whole : (n : ℕ) (more : List Forced) → list_any (is_whole n) (Whole n ∷ more) ≡ true
first_whole n more = ap (λ (b : Bool). b || list_any (is_whole n) more) (nat_itself n)

pub ensured_going : (h : Held) (n : ℕ) (units : UnitMap) (d : Durable) (anew : ℕ → Bool) → anew n ≡ true → AreRight (ensured h n) units → IsGoing h units d anew → IsGoing (ensured h n) units d anew
ensured_going h n units d anew new right going = record {
  right = right;
  linked = linked_kept h (ensured h n) (ensured_quiet h n).keeps going.linked;
  told = quiet_told h (ensured h n) units (ensured_quiet h n) going.told;
  kept = quiet_kept h (ensured h n) units d anew (ensured_quiet h n) (ensured_fewer h n anew new) going.kept;
}

-- ---- a data space is journaled

-- it goes through a port that is on disk, with its journal space
pub record JournalsTo (h : Held) (n port m : ℕ) : Type 0 where
  pub same : n ≡ m
  pub none : is_some (journal_for h n) ≡ false
  pub port_disk : is_on_disk h port ≡ true
  pub journal_disk : is_on_disk h (port_journal h port) ≡ true

module _ (h : Held) (n port : ℕ) (units : UnitMap) (journals : JournalsTo h n port n) where
  abbrev through : Held
  through = on_data h n (through_port port)

  abbrev joined_to : Held
  joined_to = ensured through n

  through_part : (m : ℕ) → part_at data_part through m ≡ cond (n == m) (option_map (through_port port) (part_at data_part h m)) (part_at data_part h m)
  through_part m = part_over data_part data_lawful h n m (through_port port)

  to_part : (m : ℕ) → part_at data_part joined_to m ≡ part_at data_part through m
  to_part m = (ensured_quiet through n).tables m

  to_ports : (m : ℕ) → part_at port_part joined_to m ≡ part_at port_part h m
  to_ports m = (ensured_quiet through n).keeps.port m ∙ port_by_data h n m (through_port port)

  to_journals : (m : ℕ) → is_journal joined_to m ≡ is_journal h m
  to_journals m = (ensured_quiet through n).keeps.journal m ∙ ap is_some (journal_by_data h n m (through_port port))

  to_blocks : (m : ℕ) → part_at block_part joined_to m ≡ part_at block_part h m
  to_blocks m = (ensured_quiet through n).keeps.block m ∙ block_by_data h n m (through_port port)

  to_entries : (m : ℕ) → entries_at joined_to m ≡ entries_at h m
  to_entries m = (ensured_quiet through n).entries m ∙ ap (λ (r : Option JournalList). (unwrap_or r no_journal).entries) (journal_by_data h n m (through_port port))

  to_behind : (p : ℕ) → journal_of_port joined_to p ≡ journal_of_port h p
  to_behind p = ap (journal_named joined_to) (to_ports p) ∙ by (part_at port_part h p)
    where
      by : (x : Option Port) → journal_named joined_to x ≡ journal_named h x
      by None = refl
      by (Some q) = ap (λ b. cond b (Some q.journal.0) None) (to_journals q.journal.0)

  pub to_table : (m : ℕ) → table_at joined_to m ≡ table_at h m
  to_table m = ap table_in (to_part m ∙ through_part m) ∙ by (n == m) (part_at data_part h m)
    where
      by : (b : Bool) (x : Option DataBody) → table_in (cond b (option_map (through_port port) x) x) ≡ table_in x
      by true None = refl
      by true (Some x) = refl
      by false x = refl

  to_port : (m : ℕ) → data_port joined_to m ≡ data_port_in (cond (n == m) (option_map (through_port port) (part_at data_part h m)) (part_at data_part h m))
  to_port m = ap data_port_in (to_part m ∙ through_part m)

  to_off : (m : ℕ) → (n == m) ≡ false → data_port joined_to m ≡ data_port h m
  to_off m off = to_port m ∙ ap (λ b. data_port_in (cond b (option_map (through_port port) (part_at data_part h m)) (part_at data_part h m))) off

  pub for_off : (m : ℕ) → (n == m) ≡ false → journal_for joined_to m ≡ journal_for h m
  for_off m off = to_behind (data_port joined_to m) ∙ ap (journal_of_port h) (to_off m off)

  -- a data space that is on disk or joins those that are
  to_disk : (m : ℕ) → is_on_disk h m ≡ true → is_on_disk joined_to m ≡ true
  to_disk m on = (ensured_quiet through n).keeps.disk m (disk_same h n m (over_object data_part (through_port port)) (λ x. refl) (λ x. refl) ∙ on)

  numbers : map object_number joined_to.objects ≡ map object_number h.objects
  numbers = (ensured_quiet through n).keeps.numbers ∙ numbers_same h.objects n (over_object data_part (through_port port)) (λ x. refl)

  number_below : AreLinked h → (m : ℕ) → is_on_disk h m ≡ true → m < h.next
  number_below linked m on = by (object h m) refl on
    where
      by : (r : Option Object) → object h m ≡ r → disk_in r ≡ true → m < h.next
      by None is on = absurd (let e : false ≡ true = on in cc)
      by (Some o) is on = there_given h.objects h.next m o linked.given is

  zero_or_port : (x : Option DataBody) → (data_port_in (option_map (through_port port) x) ≡ 0) ⊎ (data_port_in (option_map (through_port port) x) ≡ port)
  zero_or_port None = inl refl
  zero_or_port (Some x) = inr refl

  no_port : IsUnused h → port_journal h 0 ≡ 0
  no_port unused = ap (λ r. port_journal_in (part_in port_part r)) unused.none

  -- the port of the data space itself
  own_port : (m : ℕ) → (n == m) ≡ true → (data_port joined_to m ≡ 0) ⊎ (data_port joined_to m ≡ port)
  own_port m is = by (zero_or_port (part_at data_part h m))
    where
      same : data_port joined_to m ≡ data_port_in (option_map (through_port port) (part_at data_part h m))
      same = to_port m ∙ ap (λ b. data_port_in (cond b (option_map (through_port port) (part_at data_part h m)) (part_at data_part h m))) is

      by : (data_port_in (option_map (through_port port) (part_at data_part h m)) ≡ 0) ⊎ (data_port_in (option_map (through_port port) (part_at data_part h m)) ≡ port) → (data_port joined_to m ≡ 0) ⊎ (data_port joined_to m ≡ port)
      by (inl e) = inl (same ∙ e)
      by (inr e) = inr (same ∙ e)

  port_low : AreLinked h → IsUnused h → (m : ℕ) (b : Bool) → (n == m) ≡ b → data_port joined_to m < h.next
  port_low linked unused m true is = by (own_port m is)
    where
      by : (data_port joined_to m ≡ 0) ⊎ (data_port joined_to m ≡ port) → data_port joined_to m < h.next
      by (inl e) = let one = unused.next in omega (arith, e, one)
      by (inr e) = let less = number_below linked port journals.port_disk in omega (arith, e, less)
  port_low linked unused m false off = let less = linked.port m in let same = to_off m off in omega (arith, less, same)

  journal_low : AreLinked h → IsUnused h → (m : ℕ) (b : Bool) → (n == m) ≡ b → port_journal h (data_port joined_to m) < h.next
  journal_low linked unused m true is = by (own_port m is)
    where
      by : (data_port joined_to m ≡ 0) ⊎ (data_port joined_to m ≡ port) → port_journal h (data_port joined_to m) < h.next
      by (inl e) = let one = unused.next in let same = ap (port_journal h) e ∙ no_port unused in omega (arith, same, one)
      by (inr e) = let less = number_below linked (port_journal h port) journals.journal_disk in let same = ap (port_journal h) e in omega (arith, same, less)
  journal_low linked unused m false off = let less = linked.journal m in let same = ap (port_journal h) (to_off m off) in omega (arith, less, same)

  -- what the journal space of a port is
  named_journal : (p journal : ℕ) → journal_of_port h p ≡ Some journal → port_journal h p ≡ journal
  named_journal p journal to = by (part_at port_part h p) to
    where
      at : (b : Bool) (q : ℕ) → cond b (Some q) None ≡ Some journal → q ≡ journal
      at true q is = cc
      at false q is = cc

      by : (x : Option Port) → journal_named h x ≡ Some journal → port_journal_in x ≡ journal
      by None to = cc
      by (Some q) to = at (is_journal h q.journal.0) q.journal.0 to

  own_disk : (m journal : ℕ) → (n == m) ≡ true → IsUnused h → journal_for joined_to m ≡ Some journal → (is_on_disk joined_to m ≡ true) × (is_on_disk joined_to (data_port joined_to m) ≡ true) × (is_on_disk joined_to journal ≡ true)
  own_disk m journal is unused to = by (own_port m is)
    where
      nothing : journal_of_port h 0 ≡ None
      nothing = ap (λ r. journal_named h (part_in port_part r)) unused.none

      leads : journal_of_port h (data_port joined_to m) ≡ Some journal
      leads = sym (to_behind (data_port joined_to m)) ∙ to

      here : (r : Option Object) → object through m ≡ r → data_port_in (part_in data_part r) ≡ data_port joined_to m → data_port joined_to m ≡ port → is_on_disk joined_to m ≡ true
      here None found same e = absurd (none_port port (same ∙ e) journals.port_disk)
        where
          none_port : (p : ℕ) → 0 ≡ p → is_on_disk h p ≡ true → ⊥
          none_port p zero_is on =
              let off : is_on_disk h p ≡ false = subst (λ (q : ℕ). is_on_disk h q ≡ false) zero_is (ap disk_in unused.none) in
              never (is_on_disk h p) on off
      here (Some o) found same e =
          ap disk_in (object_changed n m kept_on_disk through.objects (λ x. refl)) ∙ ap (λ b. disk_in (cond b (option_map kept_on_disk (object through m)) (object through m))) is ∙ ap (λ r. disk_in (option_map kept_on_disk r)) found

      by : (data_port joined_to m ≡ 0) ⊎ (data_port joined_to m ≡ port) → (is_on_disk joined_to m ≡ true) × (is_on_disk joined_to (data_port joined_to m) ≡ true) × (is_on_disk joined_to journal ≡ true)
      by (inl e) = absurd (let x : None ≡ Some journal = sym nothing ∙ ap (journal_of_port h) (sym e) ∙ leads in cc)
      by (inr e) = (
        here (object through m) refl (ap data_port_in (sym (to_part m))) e,
        subst (λ (p : ℕ). is_on_disk joined_to p ≡ true) (sym e) (to_disk port journals.port_disk),
        subst (λ (q : ℕ). is_on_disk joined_to q ≡ true) (named_journal port journal (ap (journal_of_port h) (sym e) ∙ leads)) (to_disk (port_journal h port) journals.journal_disk),
      )

  disk_by : AreLinked h → IsUnused h → (m journal : ℕ) → journal_for joined_to m ≡ Some journal → (b : Bool) → (n == m) ≡ b
      → (is_on_disk joined_to m ≡ true) × (is_on_disk joined_to (data_port joined_to m) ≡ true) × (is_on_disk joined_to journal ≡ true)
  disk_by linked unused m journal to true is = own_disk m journal is unused to
  disk_by linked unused m journal to false off =
      let old : journal_for h m ≡ Some journal = sym (for_off m off) ∙ to in (
        to_disk m (linked.disk m journal old),
        subst (λ (p : ℕ). is_on_disk joined_to p ≡ true) (sym (to_off m off)) (to_disk (data_port h m) (linked.port_disk m journal old)),
        to_disk journal (linked.journal_disk m journal old),
      )

  pub journaled_linked : AreLinked h → IsUnused h → AreLinked joined_to
  journaled_linked linked unused = record {
    rising = subst (λ (ns : List ℕ). IsStrictlyIncreasing ns) (sym numbers) linked.rising;
    given = subst (λ (ns : List ℕ). AreGiven h.next ns) (sym numbers) linked.given;
    port = λ m. port_low linked unused m (n == m) refl;
    journal = λ m. subst (λ (x : Option Port). port_journal_in x < h.next) (sym (to_ports (data_port joined_to m))) (journal_low linked unused m (n == m) refl);
    disk = λ m journal to. (disk_by linked unused m journal to (n == m) refl).0;
    port_disk = λ m journal to. (disk_by linked unused m journal to (n == m) refl).1;
    journal_disk = λ m journal to. (disk_by linked unused m journal to (n == m) refl).2;
  }

  pub journaled_told : AreTold h units → AreTold joined_to units
  journaled_told told = told_stays h joined_to units (record {
    entries = λ journal. inl (to_entries journal);
    leads = λ block journal unit found to. sym (block_same block) ∙ to;
    same = λ block journal unit found to. to_entries journal;
    tables = λ block m at unit found has. to_table m;
    small = λ m small. subst (λ (t : DataTable). IsSmall t) (sym (to_table m)) small;
  }) told
    where
      block_same : (block : ℕ) → journal_for_block joined_to block ≡ journal_for_block h block
      block_same block = to_behind (block_port joined_to block) ∙ ap (λ (x : Option Block). journal_of_port h (block_port_in x)) (to_blocks block)

  to_fewer : (anew : ℕ → Bool) → anew n ≡ true → Fewer anew h joined_to
  to_fewer anew new m old on = sym (disk_same h n m (over_object data_part (through_port port)) (λ x. refl) (λ x. refl)) ∙ ensured_fewer through n anew new m old on

  pub journaled_kept : (d : Durable) (anew : ℕ → Bool) → anew n ≡ true → AreImaged h units d anew → AreImaged joined_to units d anew
  journaled_kept d anew new are = kept_stays h joined_to units d anew (record {
    fewer = to_fewer anew new;
    port = λ m p is on. sym (to_ports m) ∙ is;
    journal = λ m is on. sym (to_journals m) ∙ is;
    entries = λ m is on. to_entries m;
    leads = λ m journal old to. sym (for_off m (off m old)) ∙ to;
    same = λ m journal old to. to_entries journal;
    table = λ m journal old to. to_table m;
    to = λ m journal old to. to_off m (off m old);
  }) are
    where
      off : (m : ℕ) → anew m ≡ false → (n == m) ≡ false
      off m old = by (n == m) refl
        where
          by : (b : Bool) → (n == m) ≡ b → b ≡ false
          by false is = refl
          by true is = never (anew m) (ap anew (sym (nat_same n m is)) ∙ new) old
