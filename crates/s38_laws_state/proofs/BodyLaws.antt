-- Step by step bodies keep to their limits: one case for each word of change.
use Rattle.s38_base.specs.Pointers.{start_of, target_of}
use Rattle.s38_base.specs.declared.id.Id.{Id}
use Rattle.s38_base.specs.declared.id.Kind.{Kind}
use Rattle.s38_base.specs.declared.id.ObjNum.{ObjNum}
use Rattle.s38_changes.proofs.CellLaws.{cells_length}
use Rattle.s38_code.specs.declared.operand.Operand.TheVariants as operands
use Rattle.s38_code.specs.declared.operand.Operand.{Operand}
use Rattle.s38_commits.specs.Changes.{journal_bytes}
use Rattle.s38_commits.specs.Unit.{CommitUnit}
use Rattle.s38_commits.specs.Units.{UnitMap, unit_of}
use Rattle.s38_commits.specs.declared.change.UnitChange.{UnitChange}
use Rattle.s38_dataspaces.specs.Table.{DataTable, data_space_image_size, may_restore, with_entry_changed}
use Rattle.s38_journals.specs.Entries.{JournalRecord, journal_entry_len, may_be_at}
use Rattle.s38_journals.specs.Journals as journals
use Rattle.s38_journals.specs.declared.fault.JournalFault.{JournalFault}
use Rattle.s38_journals.specs.Journals.{JournalList, entries_len}
use Rattle.s38_journals.specs.declared.entry.EntryKind.TheVariants as entry_kinds
use Rattle.s38_memory.specs.Tagged.{resized}
use Rattle.s38_memory.specs.declared.cell.Cell.{Cell}
use Rattle.s38_laws_images.specs.openings.Bodies.{HoldsBody, IsBody, IsShortJournal, IsShortTable, IsSpace}
use Rattle.s38_rules.proofs.PartLaws.{part_apart}
use Rattle.s38_rules.specs.state.Cells.{with_cells}
use Rattle.s38_rules.specs.families.Changes.{CellsPut, Changes, Committed, Decommitted, Ensured, Entered, Framed, Gone, Journaled, Locked, Made, Moved, Named, OnAccess, OnCursor, OnIndex, OnQueue, Profiled, Resized, Stays, Then, done, made_by, renamed_by, through_port}
use Rattle.s38_rules.specs.families.Changing.{change_entry, logged, logged_in, next_sequence, number_for, with_change_logged}
use Rattle.s38_rules.specs.families.Creation.{created, creation_changes, destroyed, is_of_kind, new_object}
use Rattle.s38_rules.specs.state.Held.{Held, change, change_in, has_number, kept_on_disk, object, object_in, without}
use Rattle.s38_rules.specs.state.Invocations.{restack_at}
use Rattle.s38_rules.specs.state.Journaling.{journal_for, journal_for_block, open_after}
use Rattle.s38_rules.specs.ask.Operands.{cells_put}
use Rattle.s38_rules.specs.state.Parts.{Part, cursor_part, data_of, data_part, index_part, journal_part, over, over_body, over_object, over_part, part_at, part_in, profile_part, queue_part, space_part}
use Rattle.s38_rules.specs.state.PartsAt.{journal_at, no_journal, over_table}
use Rattle.s38_rules.specs.state.LawfulParts.{IsPart, data_lawful, index_lawful, journal_lawful, queue_lawful, space_lawful}
use Rattle.s38_rules.specs.state.Access.{access_of, with_access}
use Rattle.s38_rules.specs.state.State.{State, process_entry}
use Rattle.s38_rules.specs.families.Units.{all_decommitted, all_undone, committed, decommitted, end_entry, end_written, journal_with_entry as with_last, put_back}
use Rattle.s38_rules.specs.declared.creating.Creating.{Creating}
use Rattle.s38_rules.specs.declared.object.Body.TheVariants as bodies
use Rattle.s38_rules.specs.declared.object.Body.{Body}
use Rattle.s38_rules.specs.declared.object.Object.{Object}
use Rattle.s38_rules.specs.declared.process.ProcessEntry.{ProcessEntry}
use Rattle.std.proofs.Common.{Bool, List, [], ap, arith, cond, false, length, length-set, not, refl, subst, sym, true, ℕ, ◌++◌, ◌+◌, ◌-◌, ◌==◌, ◌∙◌, ◌∷◌, ◌≡◌, ◌≤◌}
use Rattle.std.proofs.lemmas.Bool.Decides.{nat_tests}
use Rattle.std.proofs.lemmas.Bool.{and_parts, cond_both}
use Rattle.std.proofs.lemmas.List.Elements.{All-append, All-cons, All-filter, All-head, All-nil, All-tail}
use Rattle.std.proofs.lemmas.List.Sums.{sum_by_push}
use Rattle.std.specs.Option.{unwrap_or}
use Rattle.std.specs.Prelude.{All, None, Option, Some, max, nat_le, nat_lt}

-- under a limit of bodies
module _ (limit : ℕ) where
  abbrev Holds : Object → Type 0
  Holds o = HoldsBody limit o

  -- the bodies of a map keep to their limits
  abbrev pub Hold : Held → Type 0
  Hold h = All Holds h.objects

  -- ---- an object is another one

  changed_hold : (n : ℕ) (f : Object → Object) (os : List Object) → ((o : Object) → object_in os n ≡ Some o → Holds o → Holds (f o)) → All Holds os → All Holds (change_in os n f)
  changed_hold n f [] next all = all
  changed_hold n f (o ∷ os) next all = by (changed_hold n f os) (has_number n o) refl next
    where
      by : (((x : Object) → object_in os n ≡ Some x → Holds x → Holds (f x)) → All Holds os → All Holds (change_in os n f)) → (b : Bool) → has_number n o ≡ b
          → ((x : Object) → cond b (Some o) (object_in os n) ≡ Some x → Holds x → Holds (f x)) → All Holds (cond b (f o ∷ os) (o ∷ change_in os n f))
      by rest true is then = All-cons Holds (f o) os (then o refl (All-head Holds o os all)) (All-tail Holds o os all)
      by rest false is then = All-cons Holds o (change_in os n f) (All-head Holds o os all) (rest then (All-tail Holds o os all))

  change_hold : (h : Held) (n : ℕ) (f : Object → Object) → ((o : Object) → object h n ≡ Some o → Holds o → Holds (f o)) → Hold h → Hold (change h n f)
  change_hold h n f next all = changed_hold n f h.objects next all

  over_free : {T : Type 0} (p : Part T) → ((x : T) → IsBody limit (p.make x)) → (f : T → T) (b : Body) (r : Option T) → IsBody limit b → IsBody limit (over p f b r)
  over_free p free f b None was = was
  over_free p free f b (Some x) was = free (f x)

  -- a body of another kind than queues and indexes
  free_hold : {T : Type 0} (p : Part T) → ((x : T) → IsBody limit (p.make x)) → (h : Held) (n : ℕ) (f : T → T) → Hold h → Hold (over_part p h n f)
  free_hold p free h n f all = change_hold h n (over_object p f) (λ o at was. over_free p free f o.body (p.of o.body) was) all

  -- what a change of bodies of a kind must meet
  abbrev pub KeepsPart : {T : Type 0} → Part T → Held → ℕ → (T → T) → Type 0
  KeepsPart {T} p h n f = (x : T) → part_at p h n ≡ Some x → IsBody limit (p.make x) → IsBody limit (p.make (f x))

  part_hold : {T : Type 0} (p : Part T) → IsPart T p → (h : Held) (n : ℕ) (f : T → T) → KeepsPart p h n f → Hold h → Hold (over_part p h n f)
  part_hold {T} p lawful h n f next all = change_hold h n (over_object p f) (λ o at was. by o at was (p.of o.body) refl) all
    where
      by : (o : Object) → object h n ≡ Some o → IsBody limit o.body → (r : Option T) → p.of o.body ≡ r → IsBody limit (over p f o.body r)
      by o at was None none = was
      by o at was (Some x) is = next x (ap (part_in p) at ∙ is) (subst (IsBody limit) (lawful.back o.body x is) was)

  -- a space with as many cells
  pub space_hold : (h : Held) (n : ℕ) (f : List Cell → List Cell) → ((cells : List Cell) → length (f cells) ≡ length cells) → Hold h → Hold (over_part space_part h n f)
  space_hold h n f same all = part_hold space_part space_lawful h n f (λ cells at is. as_long cells is) all
    where
      as_long : (cells : List Cell) → IsSpace limit cells → IsSpace limit (f cells)
      as_long cells is = record { some = omega (arith, is.some, same cells); image = omega (arith, is.image, same cells) }

  -- a data space with as many ordinals
  table_hold : (h : Held) (n : ℕ) (f : DataTable → DataTable) → ((t : DataTable) → IsShortTable limit t → IsShortTable limit (f t)) → Hold h → Hold (over_part data_part h n (over_table f))
  table_hold h n f next all = part_hold data_part data_lawful h n (over_table f) (λ d at is. next d.space is) all

  -- a journal space
  journal_hold : (h : Held) (n : ℕ) (f : JournalList → JournalList) → KeepsPart journal_part h n f → Hold h → Hold (over_part journal_part h n f)
  journal_hold h n f next all = part_hold journal_part journal_lawful h n f next all

  written_short : (journal : JournalList) (entry : JournalRecord) → IsShortJournal journal → IsShortJournal (journals.journal_with journal entry)
  written_short journal entry is =
      cond_both (journals.can_write journal entry) (journals.appended journal entry) journal IsShortJournal
      (λ may. by (entries_len journal.entries) (journal_entry_len entry) journal.spare (entries_len (journal.entries ++ entry ∷ [])) (and_parts (may_be_at (length journal.entries + 1) entry) _ may).1 (sum_by_push journal_entry_len journal.entries entry) is)
      (λ not. is)
    where
      by : (old more spare new : ℕ) → nat_le more spare ≡ true → new ≡ old + more → old + spare ≤ 16777216 → new + (spare - more) ≤ 16777216
      by old more spare new less long is = grind (arith, nat_tests, less, long, is)

  pub forced_hold : (h : Held) (n : ℕ) → Hold h → Hold (over_part journal_part h n journals.forced)
  forced_hold h n all = journal_hold h n journals.forced (λ j at is. is) all

  cells_hold : (h : Held) (operand : Option Operand) (piece : List Cell) → Hold h → Hold (cells_put h operand piece)
  cells_hold h (Some (operands.InSpace base offset attr)) piece all = space_hold h (target_of base) (with_cells (start_of base offset) piece) (cells_length (start_of base offset) piece) all
  cells_hold h _ piece all = all

  -- a change that leaves the body
  header_hold : (h : Held) (n : ℕ) (f : Object → Object) → ((o : Object) → (f o).body ≡ o.body) → Hold h → Hold (change h n f)
  header_hold h n f same all = change_hold h n f (λ o at was. subst (IsBody limit) (sym (same o)) was) all

  named_hold : (h : Held) (n : ℕ) (id : Option Id) → Hold h → Hold (renamed_by h n id)
  named_hold h n None all = all
  named_hold h n (Some id) all = header_hold h n (λ o. record o { id = id }) (λ o. refl) all

  -- ---- objects are made and destroyed

  abbrev pub MadeSo : Option Body → Type 0
  MadeSo None = Unit {0}
  MadeSo (Some body) = IsBody limit body

  made_hold : (h : Held) (owner : ℕ) (made : Creating) (body : Option Body) → MadeSo body → Hold h → Hold (made_by h owner made body)
  unfolding creation_changes
  made_hold h owner made None so all = all
  made_hold h owner made (Some body) so all = by made.id
    where
      by : (id : Option Id) → Hold (created h owner made body id)
      by None = all
      by (Some id) = All-append Holds h.objects (new_object h owner made id body ∷ []) all (All-cons Holds (new_object h owner made id body) [] so (All-nil Holds))

  gone_hold : (h : Held) (kind : Kind) (n : ℕ) → Hold h → Hold (destroyed h kind n)
  gone_hold h kind n all = cond_both (is_of_kind kind (object h n)) (without h n) h Hold (λ of. All-filter (λ o. not (has_number n o)) Holds h.objects all) (λ other. all)

  -- ---- units

  -- there is room for a change in the journal space where it goes
  abbrev pub HasRoom : State → ℕ → UnitChange → Option ℕ → Type 0
  HasRoom s block change None = Unit {0}
  HasRoom s block change (Some journal) = journals.room_refusal (journal_at s.held journal) (journal_bytes change) (open_after s.held s.units journal block) ≡ None

  logged_in_hold : (s : State) (p block : ℕ) (change : UnitChange) (journal : Option ℕ) → HasRoom s block change journal → Hold s.held → Hold (logged_in s p block change journal).held
  logged_in_hold s p block change None room all = all
  logged_in_hold s p block change (Some journal) room all =
      let entry = change_entry (number_for s.units block (next_sequence (journal_at s.held journal))) p change in
      journal_hold s.held journal (with_change_logged bytes units entry)
      (λ j at is. written_short (journals.journal_with_room j bytes units) entry (with_room j is (subst (λ (r : Option JournalList). refused (unwrap_or r no_journal) ≡ None) at room))) all
    where
      bytes : ℕ
      bytes = journal_bytes change

      units : ℕ
      units = open_after s.held s.units journal block

      refused : JournalList → Option JournalFault
      refused j = journals.room_refusal j bytes units

      free : {E : Type 0} (b : Bool) (e : E) → cond b (Some e) None ≡ None → b ≡ false
      free true e h = cc
      free false e h = refl

      most : (old spare more : ℕ) → nat_lt 16777216 (old + more) ≡ false → old + spare ≤ 16777216 → old + max spare more ≤ 16777216
      most old spare more less is = grind (arith, nat_tests, less, is)

      with_room : (j : JournalList) → IsShortJournal j → refused j ≡ None → IsShortJournal (journals.journal_with_room j bytes units)
      with_room j is met = most (entries_len j.entries) j.spare (journals.bytes_wanted bytes units) (free _ _ met) is

  logged_hold : (s : State) (p block : ℕ) (change : UnitChange) → HasRoom s block change (journal_for s.held change.space.0) → Hold s.held → Hold (logged s p block change).held
  unfolding logged
  logged_hold s p block change room all = logged_in_hold s p block change (journal_for s.held change.space.0) room all

  logged_in_data : (s : State) (p block : ℕ) (change : UnitChange) (journal : Option ℕ) (n : ℕ) → part_at data_part (logged_in s p block change journal).held n ≡ part_at data_part s.held n
  logged_in_data s p block change None n = refl
  logged_in_data s p block change (Some journal) n = part_apart data_part journal_part _ (λ b. by _ b) s.held journal n
    where
      by : (f : JournalList → JournalList) (b : Body) → data_of (over_body journal_part f b) ≡ data_of b
      by f (bodies.Journal j) = refl
      by f _ = refl

  logged_data : (s : State) (p block : ℕ) (change : UnitChange) (n : ℕ) → part_at data_part (logged s p block change).held n ≡ part_at data_part s.held n
  unfolding logged
  logged_data s p block change n = logged_in_data s p block change (journal_for s.held change.space.0) n

  -- an entry may be another one
  abbrev pub MayEnter : State → ℕ → UnitChange → (DataTable → DataTable) → Type 0
  MayEnter s block change f = HasRoom s block change (journal_for s.held change.space.0) × KeepsPart data_part s.held change.space.0 (over_table f)

  entered_hold : (s : State) (p block : ℕ) (change : UnitChange) (f : DataTable → DataTable) → MayEnter s block change f → Hold s.held → Hold (over_part data_part (logged s p block change).held change.space.0 (over_table f))
  entered_hold s p block change f may all =
      part_hold data_part data_lawful (logged s p block change).held change.space.0 (over_table f) (λ d at is. may.1 d (sym (logged_data s p block change change.space.0) ∙ at) is)
      (logged_hold s p block change may.0 all)

  end_hold : (h : Held) (journal : Option ℕ) (entry : JournalRecord) → Hold h → Hold (end_written h journal entry)
  end_hold h None entry all = all
  end_hold h (Some journal) entry all = journal_hold h journal (with_last entry) (λ j at is. written_short j entry is) all

  restored_short : (change : UnitChange) (t : DataTable) → IsShortTable limit t → IsShortTable limit (put_back change t)
  restored_short change t is =
      cond_both (may_restore t change.at change.before) (with_entry_changed t change.at change.before) t (IsShortTable limit)
      (λ may. subst (λ (n : ℕ). data_space_image_size t.fields n ≤ limit) (sym (length-set t.entries (change.at - 1) change.before)) is) (λ not. is)

  undone_hold : (changes : List UnitChange) (h : Held) → Hold h → Hold (all_undone h changes)
  unfolding all_undone
  undone_hold [] h all = all
  undone_hold (change ∷ newer) h all = table_hold (all_undone h newer) change.space.0 (put_back change) (restored_short change) (undone_hold newer h all)

  committed_hold : (s : State) (p block : ℕ) (unit : Option CommitUnit) → Hold s.held → Hold (committed s p block unit).held
  committed_hold s p block None all = all
  committed_hold s p block (Some unit) all = end_hold s.held (journal_for_block s.held block) (end_entry entry_kinds.Commit p unit) all

  decommitted_hold : (s : State) (p block : ℕ) (unit : Option CommitUnit) → Hold s.held → Hold (decommitted s p block unit).held
  decommitted_hold s p block None all = all
  decommitted_hold s p block (Some unit) all =
      end_hold (all_undone s.held unit.changes) (journal_for_block s.held block) (end_entry entry_kinds.Decommit p unit) (undone_hold unit.changes s.held all)

  pub all_decommitted_hold : (units : UnitMap) (s : State) (p : ℕ) → Hold s.held → Hold (all_decommitted s p units).held
  unfolding all_decommitted
  all_decommitted_hold [] s p all = all
  all_decommitted_hold (e ∷ units) s p all =
      let taken = decommitted s p e.0 (Some e.1) in
      cond_both (e.1.process == p) taken s (λ (t : State). Hold (all_decommitted t p units).held)
      (λ own. all_decommitted_hold units taken p (decommitted_hold s p e.0 (Some e.1) all))
      (λ other. all_decommitted_hold units s p all)

  -- ---- each word of change

  restacked_hold : (f : List ObjNum → List ObjNum) (s : State) (p : ℕ) (x : Option ProcessEntry) → Hold s.held → Hold (restack_at f s p x).held
  restacked_hold f s p None all = all
  restacked_hold f s p (Some x) all = all

  abbrev pub May : State → ℕ → Changes → Type 0
  May s p (OnQueue n f) = KeepsPart queue_part s.held n f
  May s p (OnIndex n f) = KeepsPart index_part s.held n f
  May s p (Resized n bytes) = (cells : List Cell) → IsSpace limit (resized bytes cells)
  May s p (Entered block change f) = MayEnter s block change f
  May s p (Made owner made body) = MadeSo body
  May s p (Then a b) = May s p a × May (done s p a) p b
  May s p _ = Unit {0}

  pub done_hold : (x : Changes) (s : State) (p : ℕ) → May s p x → Hold s.held → Hold (done s p x).held
  done_hold Stays s p may all = all
  done_hold (OnQueue n f) s p may all = part_hold queue_part queue_lawful s.held n f may all
  done_hold (OnIndex n f) s p may all = part_hold index_part index_lawful s.held n f may all
  done_hold (OnCursor n f) s p may all = free_hold cursor_part (λ x. tt) s.held n f all
  done_hold (Resized n bytes) s p may all = part_hold space_part space_lawful s.held n (resized bytes) (λ cells at is. may cells) all
  done_hold (CellsPut operand piece) s p may all = cells_hold s.held operand piece all
  done_hold (Entered block change f) s p may all = entered_hold s p block change f may all
  done_hold (Journaled n port) s p may all = part_hold data_part data_lawful s.held n (through_port port) (λ d at is. is) all
  done_hold (OnAccess n f) s p may all = header_hold s.held n (λ o. with_access (f (access_of o)) o) (λ o. refl) all
  done_hold (Profiled n special limit) s p may all = free_hold profile_part (λ x. tt) s.held n (λ _. (special, limit)) all
  done_hold (Named n id) s p may all = named_hold s.held n id all
  done_hold (Moved n context) s p may all = header_hold s.held n (λ o. record o { context = context }) (λ o. refl) all
  done_hold (Ensured n) s p may all = header_hold s.held n kept_on_disk (λ o. refl) all
  done_hold (Made owner made body) s p may all = made_hold s.held owner made body may all
  done_hold (Gone kind n) s p may all = gone_hold s.held kind n all
  done_hold (Framed f) s p may all = restacked_hold f s p (process_entry s p) all
  done_hold (Locked n held) s p may all = all
  done_hold (Committed block) s p may all = committed_hold s p block (unit_of s.units block) all
  done_hold (Decommitted block) s p may all = decommitted_hold s p block (unit_of s.units block) all
  done_hold (Then a b) s p may all = done_hold b (done s p a) p may.1 (done_hold a s p may.0 all)
