-- What changes leave of programs: each object that is there was there before as the same program, or is new and has a
-- number that was not given before. One case for each word of change.
use Rattle.std.proofs.Common.{◌++◌, ◌+◌, ◌<◌, ◌==◌, ◌∙◌, ◌∷◌, ◌≡◌, ◌≤◌, ◌⊎◌, Bool, List, [], ap, arith, cond, false, inl, inr, refl, subst, sym, true, ℕ}
use Rattle.std.proofs.lemmas.Bool.Decides.{nat_tests}
use Rattle.std.proofs.lemmas.Bool.{cond_both}
use Rattle.std.specs.Option.{option_map}
use Rattle.std.specs.Prelude.{IfSome, None, Option, Some}
use Rattle.s38_base.specs.Pointers.{start_of, target_of}
use Rattle.s38_base.specs.declared.id.Id.{Id}
use Rattle.s38_base.specs.declared.id.Kind.{Kind}
use Rattle.s38_base.specs.declared.id.ObjNum.{ObjNum}
use Rattle.s38_code.specs.declared.operand.Operand.TheVariants as operands
use Rattle.s38_code.specs.declared.operand.Operand.{Operand}
use Rattle.s38_code.specs.declared.program.Program.{Program}
use Rattle.s38_code.specs.declared.reply.Val.TheVariants as vals
use Rattle.s38_code.specs.declared.reply.Val.{Val}
use Rattle.s38_commits.specs.Unit.{CommitUnit}
use Rattle.s38_commits.specs.Units.{UnitMap, unit_of}
use Rattle.s38_commits.specs.declared.change.UnitChange.{UnitChange}
use Rattle.s38_journals.specs.Entries.{JournalRecord}
use Rattle.s38_journals.specs.Journals.{JournalList}
use Rattle.s38_journals.specs.declared.entry.EntryKind.TheVariants as entry_kinds
use Rattle.s38_memory.specs.Tagged.{resized}
use Rattle.s38_memory.specs.declared.cell.Cell.{Cell}
use Rattle.s38_rules.proofs.ChargeLaws.{object_changed, object_without}
use Rattle.s38_rules.proofs.PartLaws.{over_same}
use Rattle.s38_rules.specs.state.Cells.{with_bytes, with_cells, with_pointer}
use Rattle.s38_rules.specs.families.Changes.{CellsPut, Changes, Committed, Decommitted, Ensured, Entered, Framed, Gone, Journaled, Locked, Made, Moved, Named, OnAccess, OnCursor, OnIndex, OnQueue, Profiled, Resized, Stays, Then, done, made_by, renamed_by, through_port}
use Rattle.s38_rules.specs.families.Changing.{logged, logged_in}
use Rattle.s38_rules.specs.families.Creation.{created, creation_changes, destroyed, is_of_kind, new_object}
use Rattle.s38_rules.specs.state.Held.{Held, change, has_number, kept_on_disk, object, object_in, with_object, without}
use Rattle.s38_rules.specs.state.Invocations.{restack_at}
use Rattle.s38_rules.specs.state.Journaling.{journal_for, journal_for_block}
use Rattle.s38_rules.specs.ask.Operands.{cells_put}
use Rattle.s38_rules.specs.ask.Receivers.{delivered, put_value}
use Rattle.s38_rules.specs.state.Parts.{Part, cursor_part, data_part, index_part, journal_part, over_object, over_part, profile_part, queue_part, space_part}
use Rattle.s38_rules.specs.state.PartsAt.{on_journal, on_space, over_table}
use Rattle.s38_rules.specs.state.LawfulParts.{IsPart, cursor_lawful, data_lawful, index_lawful, journal_lawful, profile_lawful, queue_lawful, space_lawful}
use Rattle.s38_rules.specs.families.Calls.{code_of}
use Rattle.s38_rules.specs.state.Access.{access_of, with_access}
use Rattle.s38_rules.specs.state.State.{State, process_entry}
use Rattle.s38_rules.specs.families.Units.{all_decommitted, all_undone, committed, decommitted, end_entry, end_written, journal_with_entry, put_back}
use Rattle.s38_rules.specs.declared.creating.Creating.{Creating}
use Rattle.s38_rules.specs.declared.object.Body.{Body}
use Rattle.s38_rules.specs.declared.object.Object.{Object}
use Rattle.s38_rules.specs.declared.process.ProcessEntry.{ProcessEntry}

-- ---- programs that stay

-- an object of the number was there, as the same program or as none
pub record WasThere (h : Held) (n : ℕ) (o : Object) : Type 0 where
  pub was : Object
  pub there : object h n ≡ Some was
  pub code : code_of o.body ≡ code_of was.body

-- the number was not given before, and a program is one of these
pub record IsNew (q : Program → Type 0) (h : Held) (next n : ℕ) (o : Object) : Type 0 where
  pub above : h.next ≤ n
  pub below : n < next
  pub code : IfSome (code_of o.body) q

pub record Follows (q : Program → Type 0) (h k : Held) : Type 0 where
  pub next : h.next ≤ k.next
  pub from : (n : ℕ) (o : Object) → object k n ≡ Some o → WasThere h n o ⊎ IsNew q h k.next n o

pub same_follows : (q : Program → Type 0) (h : Held) → Follows q h h
same_follows q h = record { next = omega arith; from = λ n o there. inl (record { was = o; there = there; code = refl }) }

then_there : (q : Program → Type 0) (h j : Held) (next n : ℕ) (o : Object) → Follows q h j → j.next ≤ next → WasThere j n o → WasThere h n o ⊎ IsNew q h next n o
then_there q h j next n o a rises was = elim (a.from n was.was was.there) as (λ _. WasThere h n o ⊎ IsNew q h next n o) [
  | inl before ↦ inl (record { was = before.was; there = before.there; code = was.code ∙ before.code })
  | inr new ↦ inr (record { above = new.above; below = omega (arith, new.below, rises); code = subst (λ (x : Option Program). IfSome x q) (sym was.code) new.code })
]

pub then_follows : (q : Program → Type 0) (h j k : Held) → Follows q h j → Follows q j k → Follows q h k
then_follows q h j k a b = record {
  next = omega (arith, a.next, b.next);
  from = λ n o there. elim (b.from n o there) as (λ _. WasThere h n o ⊎ IsNew q h k.next n o) [
    | inl was ↦ then_there q h j k.next n o a b.next was
    | inr new ↦ inr (record { above = omega (arith, a.next, new.above); below = new.below; code = new.code })
  ];
}

-- ---- one object is another one

was_mapped : (h : Held) (n : ℕ) (f : Object → Object) → ((x : Object) → code_of (f x).body ≡ code_of x.body) → (x : Option Object) (o : Object) → object h n ≡ x → option_map f x ≡ Some o → WasThere h n o
was_mapped h n f codes None o there is = cc
was_mapped h n f codes (Some x) o there is =
    let same : f x ≡ o = cc in record { was = x; there = there; code = ap (λ (y : Object). code_of y.body) (sym same) ∙ codes x }

changed_there : (h : Held) (n m : ℕ) (f : Object → Object) (o : Object) → ((x : Object) → code_of (f x).body ≡ code_of x.body) → (b : Bool) → cond b (option_map f (object h m)) (object h m) ≡ Some o → WasThere h m o
changed_there h n m f o codes true is = was_mapped h m f codes (object h m) o refl is
changed_there h n m f o codes false is = record { was = o; there = is; code = refl }

pub change_follows : (q : Program → Type 0) (h : Held) (n : ℕ) (f : Object → Object) → ((x : Object) → (f x).number ≡ x.number) → ((x : Object) → code_of (f x).body ≡ code_of x.body) → Follows q h (change h n f)
change_follows q h n f numbers codes = record {
  next = omega arith;
  from = λ m o there. inl (changed_there h n m f o codes (n == m) (sym (object_changed n m f h.objects numbers) ∙ there));
}

part_follows : {T : Type 0} (q : Program → Type 0) (p : Part T) → IsPart T p → ((x : T) → code_of (p.make x) ≡ None) → (h : Held) (n : ℕ) (f : T → T) → Follows q h (over_part p h n f)
part_follows q p lawful none h n f = change_follows q h n (over_object p f) (λ x. refl) (λ x. over_same p lawful code_of None none f x.body (p.of x.body) refl)

space_follows : (q : Program → Type 0) (h : Held) (n : ℕ) (f : List Cell → List Cell) → Follows q h (on_space h n f)
space_follows q h n f = part_follows q space_part space_lawful (λ x. refl) h n f

pub journal_follows : (q : Program → Type 0) (h : Held) (n : ℕ) (f : JournalList → JournalList) → Follows q h (on_journal h n f)
journal_follows q h n f = part_follows q journal_part journal_lawful (λ x. refl) h n f

cells_follow : (q : Program → Type 0) (h : Held) (operand : Option Operand) (piece : List Cell) → Follows q h (cells_put h operand piece)
cells_follow q h (Some (operands.InSpace base offset attr)) piece = space_follows q h (target_of base) (with_cells (start_of base offset) piece)
cells_follow q h _ piece = same_follows q h

renamed_follows : (q : Program → Type 0) (h : Held) (n : ℕ) (id : Option Id) → Follows q h (renamed_by h n id)
renamed_follows q h n None = same_follows q h
renamed_follows q h n (Some id) = change_follows q h n (λ x. record x { id = id }) (λ x. refl) (λ x. refl)

-- ---- objects are made and destroyed

gone_there : (h : Held) (m : ℕ) (o : Object) (b : Bool) → cond b None (object h m) ≡ Some o → WasThere h m o
gone_there h m o true is = cc
gone_there h m o false is = record { was = o; there = is; code = refl }

gone_follows : (q : Program → Type 0) (h : Held) (kind : Kind) (n : ℕ) → Follows q h (destroyed h kind n)
gone_follows q h kind n = cond_both (is_of_kind kind (object h n)) (without h n) h (Follows q h)
    (λ of. record { next = omega arith; from = λ m o there. inl (gone_there h m o (n == m) (sym (object_without n m h.objects) ∙ there)) })
    (λ other. same_follows q h)

-- an object that is found among others and one more is found among them, or is that one
found_last : (os : List Object) (n : ℕ) (last o : Object) → object_in (os ++ last ∷ []) n ≡ Some o → (object_in os n ≡ Some o) ⊎ ((last.number.0 ≡ n) × (last ≡ o))
found_last [] n last o is = by (has_number n last) refl is
  where
    by : (b : Bool) → has_number n last ≡ b → cond b (Some last) None ≡ Some o → (object_in [] n ≡ Some o) ⊎ ((last.number.0 ≡ n) × (last ≡ o))
    by true here is = let at : last.number.0 ≡ n = grind (arith, nat_tests) in let same : last ≡ o = cc in inr (at, same)
    by false away is = cc
found_last (x ∷ os) n last o is = by (found_last os n last o) (has_number n x) is
  where
    by : (object_in (os ++ last ∷ []) n ≡ Some o → (object_in os n ≡ Some o) ⊎ ((last.number.0 ≡ n) × (last ≡ o))) → (b : Bool) → cond b (Some x) (object_in (os ++ last ∷ []) n) ≡ Some o
        → (cond b (Some x) (object_in os n) ≡ Some o) ⊎ ((last.number.0 ≡ n) × (last ≡ o))
    by rest true is = inl is
    by rest false is = rest is

added_follows : (q : Program → Type 0) (h : Held) (last : Object) → last.number.0 ≡ h.next → IfSome (code_of last.body) q → Follows q h (with_object h last)
added_follows q h last number code = record {
  next = omega arith;
  from = λ n o there. elim (found_last h.objects n last o there) as (λ _. WasThere h n o ⊎ IsNew q h (h.next + 1) n o) [
    | inl before ↦ inl (record { was = o; there = before; code = refl })
    | inr new ↦ inr (record {
      above = omega (arith, number, new.0);
      below = omega (arith, number, new.0);
      code = subst (λ (x : Object). IfSome (code_of x.body) q) new.1 code;
    })
  ];
}

-- a new body is no program, or one of these
abbrev pub MakesBody : (Program → Type 0) → Option Body → Type 0
MakesBody q None = Unit {0}
MakesBody q (Some body) = IfSome (code_of body) q

made_follows : (q : Program → Type 0) (h : Held) (owner : ℕ) (made : Creating) (body : Option Body) → MakesBody q body → Follows q h (made_by h owner made body)
unfolding creation_changes
made_follows q h owner made None new = same_follows q h
made_follows q h owner made (Some body) new = by made.id
  where
    by : (id : Option Id) → Follows q h (created h owner made body id)
    by None = same_follows q h
    by (Some id) = added_follows q h (new_object h owner made id body) refl new

-- ---- units

logged_in_follows : (q : Program → Type 0) (s : State) (p block : ℕ) (change : UnitChange) (journal : Option ℕ) → Follows q s.held (logged_in s p block change journal).held
logged_in_follows q s p block change None = same_follows q s.held
logged_in_follows q s p block change (Some journal) = journal_follows q s.held journal _

logged_follows : (q : Program → Type 0) (s : State) (p block : ℕ) (change : UnitChange) → Follows q s.held (logged s p block change).held
unfolding logged
logged_follows q s p block change = logged_in_follows q s p block change (journal_for s.held change.space.0)

end_follows : (q : Program → Type 0) (h : Held) (journal : Option ℕ) (entry : JournalRecord) → Follows q h (end_written h journal entry)
end_follows q h None entry = same_follows q h
end_follows q h (Some journal) entry = journal_follows q h journal (journal_with_entry entry)

undone_follows : (q : Program → Type 0) (changes : List UnitChange) (h : Held) → Follows q h (all_undone h changes)
unfolding all_undone
undone_follows q [] h = same_follows q h
undone_follows q (change ∷ newer) h =
    then_follows q h (all_undone h newer) _ (undone_follows q newer h) (part_follows q data_part data_lawful (λ x. refl) (all_undone h newer) change.space.0 (over_table (put_back change)))

committed_follows : (q : Program → Type 0) (s : State) (p block : ℕ) (unit : Option CommitUnit) → Follows q s.held (committed s p block unit).held
committed_follows q s p block None = same_follows q s.held
committed_follows q s p block (Some unit) = end_follows q s.held (journal_for_block s.held block) (end_entry entry_kinds.Commit p unit)

decommitted_follows : (q : Program → Type 0) (s : State) (p block : ℕ) (unit : Option CommitUnit) → Follows q s.held (decommitted s p block unit).held
decommitted_follows q s p block None = same_follows q s.held
decommitted_follows q s p block (Some unit) =
    then_follows q s.held (all_undone s.held unit.changes) _ (undone_follows q unit.changes s.held)
    (end_follows q (all_undone s.held unit.changes) (journal_for_block s.held block) (end_entry entry_kinds.Decommit p unit))

pub all_decommitted_follows : (q : Program → Type 0) (units : UnitMap) (s : State) (p : ℕ) → Follows q s.held (all_decommitted s p units).held
unfolding all_decommitted
all_decommitted_follows q [] s p = same_follows q s.held
all_decommitted_follows q (e ∷ units) s p =
    let taken = decommitted s p e.0 (Some e.1) in
    cond_both (e.1.process == p) taken s (λ (t : State). Follows q s.held (all_decommitted t p units).held)
    (λ own. then_follows q s.held taken.held _ (decommitted_follows q s p e.0 (Some e.1)) (all_decommitted_follows q units taken p))
    (λ other. all_decommitted_follows q units s p)

-- ---- each word of change

restacked_follows : (q : Program → Type 0) (f : List ObjNum → List ObjNum) (s : State) (p : ℕ) (x : Option ProcessEntry) → Follows q s.held (restack_at f s p x).held
restacked_follows q f s p None = same_follows q s.held
restacked_follows q f s p (Some x) = same_follows q s.held

-- programs that a change makes are of these
abbrev pub Makes : (Program → Type 0) → Changes → Type 0
Makes q (Made owner made body) = MakesBody q body
Makes q (Then a b) = Makes q a × Makes q b
Makes q _ = Unit {0}

pub done_follows : (q : Program → Type 0) (x : Changes) (s : State) (p : ℕ) → Makes q x → Follows q s.held (done s p x).held
done_follows q Stays s p makes = same_follows q s.held
done_follows q (OnQueue n f) s p makes = part_follows q queue_part queue_lawful (λ x. refl) s.held n f
done_follows q (OnIndex n f) s p makes = part_follows q index_part index_lawful (λ x. refl) s.held n f
done_follows q (OnCursor n f) s p makes = part_follows q cursor_part cursor_lawful (λ x. refl) s.held n f
done_follows q (Resized n bytes) s p makes = space_follows q s.held n (resized bytes)
done_follows q (CellsPut operand piece) s p makes = cells_follow q s.held operand piece
done_follows q (Entered block change f) s p makes =
    then_follows q s.held (logged s p block change).held _ (logged_follows q s p block change) (part_follows q data_part data_lawful (λ x. refl) (logged s p block change).held change.space.0 (over_table f))
done_follows q (Journaled n port) s p makes = part_follows q data_part data_lawful (λ x. refl) s.held n (through_port port)
done_follows q (OnAccess n f) s p makes = change_follows q s.held n (λ o. with_access (f (access_of o)) o) (λ x. refl) (λ x. refl)
done_follows q (Profiled n special limit) s p makes = part_follows q profile_part profile_lawful (λ x. refl) s.held n (λ _. (special, limit))
done_follows q (Named n id) s p makes = renamed_follows q s.held n id
done_follows q (Moved n context) s p makes = change_follows q s.held n (λ x. record x { context = context }) (λ x. refl) (λ x. refl)
done_follows q (Ensured n) s p makes = change_follows q s.held n kept_on_disk (λ x. refl) (λ x. refl)
done_follows q (Made owner made body) s p makes = made_follows q s.held owner made body makes
done_follows q (Gone kind n) s p makes = gone_follows q s.held kind n
done_follows q (Framed f) s p makes = restacked_follows q f s p (process_entry s p)
done_follows q (Locked n held) s p makes = same_follows q s.held
done_follows q (Committed block) s p makes = committed_follows q s p block (unit_of s.units block)
done_follows q (Decommitted block) s p makes = decommitted_follows q s p block (unit_of s.units block)
done_follows q (Then a b) s p makes = then_follows q s.held (done s p a).held _ (done_follows q a s p makes.0) (done_follows q b (done s p a) p makes.1)

-- ---- what is given

value_follows : (q : Program → Type 0) (h : Held) (n at : ℕ) (v : Val) → Follows q h (put_value h n at v)
value_follows q h n at (vals.Bytes bytes) = space_follows q h n (with_bytes at bytes)
value_follows q h n at (vals.Ptr p) = space_follows q h n (with_pointer at p)
value_follows q h n at _ = same_follows q h

pub delivered_follows : (q : Program → Type 0) (s : State) (shift : ℕ) (receiver : Option Operand) (v : Option Val) → Follows q s.held (delivered s shift receiver v).state.held
delivered_follows q s shift receiver None = same_follows q s.held
delivered_follows q s shift (Some (operands.InSpace base offset attr)) (Some v) = value_follows q s.held (target_of base) _ v
delivered_follows q s shift _ (Some v) = same_follows q s.held
