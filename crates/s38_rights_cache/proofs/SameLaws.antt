-- What most words of change leave of objects is all on which rights rest: one case for each word.
use Rattle.std.proofs.Common.{◌+◌, ◌==◌, ◌∙◌, ◌∷◌, ◌≡◌, List, [], false, refl, subst, sym, true, ℕ}
use Rattle.std.proofs.lemmas.Bool.{and_parts, cond_both}
use Rattle.std.specs.Option.{option_map}
use Rattle.std.specs.Prelude.{None, Option, Some}
use Rattle.s38_base.specs.Pointers.{start_of, target_of}
use Rattle.s38_base.specs.declared.id.Id.{Id}
use Rattle.s38_code.specs.declared.operand.Operand.TheVariants as operands
use Rattle.s38_code.specs.declared.operand.Operand.{Operand}
use Rattle.s38_code.specs.declared.reply.Val.TheVariants as vals
use Rattle.s38_code.specs.declared.reply.Val.{Val}
use Rattle.s38_commits.specs.Unit.{CommitUnit}
use Rattle.s38_commits.specs.Units.{UnitMap, unit_of}
use Rattle.s38_commits.specs.declared.change.UnitChange.{UnitChange}
use Rattle.s38_journals.specs.Entries.{JournalRecord}
use Rattle.s38_journals.specs.Journals.{JournalList}
use Rattle.s38_journals.specs.declared.entry.EntryKind.TheVariants as entry_kinds
use Rattle.s38_memory.specs.Tagged.{resized}
use Rattle.s38_memory.specs.declared.cell.Cell.{Cell}
use Rattle.s38_rules.proofs.ChargeLaws.{KeepsNumber, object_changed}
use Rattle.s38_rules.proofs.Laws.{decommitted_keeps, logged_keeps}
use Rattle.s38_rules.proofs.PartLaws.{over_same}
use Rattle.s38_rules.specs.ask.Authority.{is_profile}
use Rattle.s38_rules.specs.state.Cells.{with_bytes, with_cells, with_pointer}
use Rattle.s38_rules.specs.families.Changes.{CellsPut, Changes, Committed, Decommitted, Ensured, Entered, Framed, Gone, Journaled, Locked, Made, Moved, Named, OnAccess, OnCursor, OnIndex, OnQueue, Profiled, Resized, Stays, Then, done, renamed_by, through_port}
use Rattle.s38_rules.specs.families.Changing.{logged, logged_in}
use Rattle.s38_rules.specs.state.Headers.{header_of}
use Rattle.s38_rules.specs.state.Held.{Held, change, kept_on_disk, object}
use Rattle.s38_rules.specs.state.Journaling.{journal_for, journal_for_block}
use Rattle.s38_rules.specs.ask.Operands.{cells_put}
use Rattle.s38_rules.specs.ask.Receivers.{deliver, delivered, put_value}
use Rattle.s38_rules.specs.state.Parts.{Part, cursor_part, data_part, index_part, journal_part, over, over_object, over_part, queue_part, space_part}
use Rattle.s38_rules.specs.state.PartsAt.{over_table}
use Rattle.s38_rules.specs.state.LawfulParts.{IsPart, cursor_lawful, data_lawful, index_lawful, journal_lawful, queue_lawful, space_lawful}
use Rattle.s38_rules.specs.state.State.{State}
use Rattle.s38_rules.specs.families.Units.{all_decommitted, all_undone, committed, decommitted, end_entry, end_written, journal_with_entry, put_back}
use Rattle.s38_rules.specs.declared.data_body.DataBody.{DataBody}
use Rattle.s38_rules.specs.declared.object.Body.{Body}
use Rattle.s38_rules.specs.declared.object.Object.{Object}
use Rattle.s38_rights_cache.specs.Following.{is_quiet}
use Rattle.s38_rights_cache.proofs.BearLaws.{Bears, IsSame, bears_then, same_bears}

-- other objects, of which all on which rights rest is as it was
pub record Same (h k : Held) : Type 0 where
  pub next : k.next ≡ h.next
  pub objects : (n : ℕ) → IsSame (object h n) (object k n)

pub same_held : (h : Held) → Same h h
same_held h = record { next = refl; objects = λ n. same_bears (object h n) }

pub same_then : (h j k : Held) → Same h j → Same j k → Same h k
same_then h j k a b = record { next = b.next ∙ a.next; objects = λ n. bears_then (object h n) (object j n) (object k n) (a.objects n) (b.objects n) }

mapped_same : (f : Object → Object) (x : Option Object) → ((y : Object) → Bears y (f y)) → IsSame x (option_map f x)
mapped_same f None bears = tt
mapped_same f (Some x) bears = bears x

change_same : (h : Held) (n : ℕ) (f : Object → Object) → KeepsNumber f → ((x : Object) → Bears x (f x)) → Same h (change h n f)
change_same h n f number bears = record {
  next = refl;
  objects = λ m. subst (IsSame (object h m)) (sym (object_changed n m f h.objects number))
      (cond_both (n == m) (option_map f (object h m)) (object h m) (IsSame (object h m)) (λ e. mapped_same f (object h m) bears) (λ e. same_bears (object h m)));
}

-- what is said of an object does not depend on what its body holds
header_over : {T : Type 0} (p : Part T) → IsPart T p → ((o : Object) (x y : T) → header_of (record o { body = p.make x }) ≡ header_of (record o { body = p.make y }))
    → (f : T → T) (o : Object) (x : Option T) → p.of o.body ≡ x → header_of (record o { body = over p f o.body x }) ≡ header_of o
header_over p lawful plain f o None e = refl
header_over p lawful plain f o (Some x) e =
    plain o (f x) x ∙ sym (subst (λ (b : Body). header_of (record o { body = b }) ≡ header_of (record o { body = p.make x })) (sym (lawful.back o.body x e)) refl)

-- what the object of a number holds is something else, of a kind of which no program and no user is
part_same : {T : Type 0} (p : Part T) → IsPart T p → ((o : Object) (x y : T) → header_of (record o { body = p.make x }) ≡ header_of (record o { body = p.make y }))
    → ((x : T) → is_profile (p.make x) ≡ false) → (h : Held) (n : ℕ) (f : T → T) → Same h (over_part p h n f)
part_same p lawful plain other h n f = change_same h n (over_object p f) (λ x. refl)
    (λ x. record {
      header = header_over p lawful plain f x (p.of x.body) refl;
      rows = refl;
      user = over_same p lawful is_profile false other f x.body (p.of x.body) refl;
    })

cells_same : (h : Held) (n : ℕ) (f : List Cell → List Cell) → Same h (over_part space_part h n f)
cells_same h n f = part_same space_part space_lawful (λ o x y. refl) (λ x. refl) h n f

put_same : (h : Held) (operand : Option Operand) (piece : List Cell) → Same h (cells_put h operand piece)
put_same h (Some (operands.InSpace base offset attr)) piece = cells_same h (target_of base) (with_cells (start_of base offset) piece)
put_same h _ piece = same_held h

data_same : (h : Held) (n : ℕ) (f : DataBody → DataBody) → Same h (over_part data_part h n f)
data_same h n f = part_same data_part data_lawful (λ o x y. refl) (λ x. refl) h n f

pub journal_same : (h : Held) (n : ℕ) (f : JournalList → JournalList) → Same h (over_part journal_part h n f)
journal_same h n f = part_same journal_part journal_lawful (λ o x y. refl) (λ x. refl) h n f

logged_in_same : (s : State) (p block : ℕ) (change : UnitChange) (journal : Option ℕ) → Same s.held (logged_in s p block change journal).held
logged_in_same s p block change None = same_held s.held
logged_in_same s p block change (Some journal) = journal_same s.held journal _

logged_same : (s : State) (p block : ℕ) (change : UnitChange) → Same s.held (logged s p block change).held
unfolding logged
logged_same s p block change = logged_in_same s p block change (journal_for s.held change.space.0)

end_same : (h : Held) (journal : Option ℕ) (entry : JournalRecord) → Same h (end_written h journal entry)
end_same h None entry = same_held h
end_same h (Some journal) entry = journal_same h journal (journal_with_entry entry)

undone_same : (changes : List UnitChange) (h : Held) → Same h (all_undone h changes)
unfolding all_undone
undone_same [] h = same_held h
undone_same (change ∷ newer) h =
    same_then h (all_undone h newer) _ (undone_same newer h) (data_same (all_undone h newer) change.space.0 (over_table (put_back change)))

committed_same : (s : State) (p block : ℕ) (unit : Option CommitUnit) → Same s.held (committed s p block unit).held
committed_same s p block None = same_held s.held
committed_same s p block (Some unit) = end_same s.held (journal_for_block s.held block) (end_entry entry_kinds.Commit p unit)

decommitted_same : (s : State) (p block : ℕ) (unit : Option CommitUnit) → Same s.held (decommitted s p block unit).held
decommitted_same s p block None = same_held s.held
decommitted_same s p block (Some unit) =
    same_then s.held (all_undone s.held unit.changes) _ (undone_same unit.changes s.held)
    (end_same (all_undone s.held unit.changes) (journal_for_block s.held block) (end_entry entry_kinds.Decommit p unit))

-- the units of a process that are taken back
pub all_decommitted_same : (units : UnitMap) (s : State) (p : ℕ) → Same s.held (all_decommitted s p units).held
unfolding all_decommitted
all_decommitted_same [] s p = same_held s.held
all_decommitted_same (e ∷ units) s p =
    let taken = decommitted s p e.0 (Some e.1) in
    cond_both (e.1.process == p) taken s (λ (t : State). Same s.held (all_decommitted t p units).held)
    (λ own. same_then s.held taken.held _ (decommitted_same s p e.0 (Some e.1)) (all_decommitted_same units taken p))
    (λ other. all_decommitted_same units s p)

renamed_same : (h : Held) (n : ℕ) (id : Option Id) → Same h (renamed_by h n id)
renamed_same h n None = same_held h
renamed_same h n (Some id) = change_same h n (λ x. record x { id = id }) (λ x. refl) (λ x. record { header = refl; rows = refl; user = refl })

-- ---- each word of change that is quiet

pub done_same : (x : Changes) (s : State) (p : ℕ) → is_quiet x ≡ true → Same s.held (done s p x).held
done_same Stays s p quiet = same_held s.held
done_same (OnQueue n f) s p quiet = part_same queue_part queue_lawful (λ o x y. refl) (λ x. refl) s.held n f
done_same (OnIndex n f) s p quiet = part_same index_part index_lawful (λ o x y. refl) (λ x. refl) s.held n f
done_same (OnCursor n f) s p quiet = part_same cursor_part cursor_lawful (λ o x y. refl) (λ x. refl) s.held n f
done_same (Resized n bytes) s p quiet = cells_same s.held n (resized bytes)
done_same (CellsPut operand piece) s p quiet = put_same s.held operand piece
done_same (Entered block change f) s p quiet = same_then s.held _ _ (logged_same s p block change) (data_same _ change.space.0 (over_table f))
done_same (Journaled n port) s p quiet = data_same s.held n (through_port port)
done_same (OnAccess n f) s p quiet = cc
done_same (Profiled n special limit) s p quiet = cc
done_same (Named n id) s p quiet = renamed_same s.held n id
done_same (Moved n context) s p quiet = change_same s.held n (λ x. record x { context = context }) (λ x. refl) (λ x. record { header = refl; rows = refl; user = refl })
done_same (Ensured n) s p quiet = change_same s.held n kept_on_disk (λ x. refl) (λ x. record { header = refl; rows = refl; user = refl })
done_same (Made owner made body) s p quiet = cc
done_same (Gone kind n) s p quiet = cc
done_same (Framed f) s p quiet = cc
done_same (Locked n held) s p quiet = same_held s.held
done_same (Committed block) s p quiet = committed_same s p block _
done_same (Decommitted block) s p quiet = decommitted_same s p block _
done_same (Then a b) s p quiet =
    let both = and_parts (is_quiet a) (is_quiet b) quiet in
    same_then s.held (done s p a).held _ (done_same a s p both.0) (done_same b (done s p a) p both.1)

-- ---- what comes back

value_same : (h : Held) (n at : ℕ) (v : Val) → Same h (put_value h n at v)
value_same h n at (vals.Bytes bytes) = cells_same h n (with_bytes at bytes)
value_same h n at (vals.Ptr p) = cells_same h n (with_pointer at p)
value_same h n at _ = same_held h

deliver_same : (s : State) (shift : ℕ) (receiver : Option Operand) (v : Val) → Same s.held (deliver s shift receiver v).state.held
deliver_same s shift (Some (operands.InSpace base offset attr)) v = value_same s.held (target_of base) (start_of base offset + shift) v
deliver_same s shift _ v = same_held s.held

pub delivered_same : (s : State) (shift : ℕ) (receiver : Option Operand) (v : Option Val) → Same s.held (delivered s shift receiver v).state.held
delivered_same s shift receiver None = same_held s.held
delivered_same s shift receiver (Some v) = deliver_same s shift receiver v

deliver_processes : (s : State) (shift : ℕ) (receiver : Option Operand) (v : Val) → (deliver s shift receiver v).state.processes ≡ s.processes
deliver_processes s shift (Some (operands.InSpace base offset attr)) v = refl
deliver_processes s shift _ v = refl

pub delivered_processes : (s : State) (shift : ℕ) (receiver : Option Operand) (v : Option Val) → (delivered s shift receiver v).state.processes ≡ s.processes
delivered_processes s shift receiver None = refl
delivered_processes s shift receiver (Some v) = deliver_processes s shift receiver v

-- what is quiet leaves the processes
committed_processes : (s : State) (p block : ℕ) (unit : Option CommitUnit) → (committed s p block unit).processes ≡ s.processes
committed_processes s p block None = refl
committed_processes s p block (Some unit) = refl

pub quiet_processes : (x : Changes) (s : State) (p : ℕ) → is_quiet x ≡ true → (done s p x).processes ≡ s.processes
quiet_processes (Framed f) s p quiet = cc
quiet_processes (Entered block change f) s p quiet = logged_keeps s p block change
quiet_processes (Committed block) s p quiet = committed_processes s p block (unit_of s.units block)
quiet_processes (Decommitted block) s p quiet = decommitted_keeps s p block (unit_of s.units block)
quiet_processes (Then a b) s p quiet =
    let both = and_parts (is_quiet a) (is_quiet b) quiet in
    quiet_processes b (done s p a) p both.1 ∙ quiet_processes a s p both.0
quiet_processes _ s p quiet = refl
