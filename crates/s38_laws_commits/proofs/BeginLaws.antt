-- A machine begins as it goes on, where it is a restart of what is durable in order.
use Rattle.std.proofs.Common.{◌≡◌, ◌∙◌, ◌+◌, ◌<◌, ◌≤◌, ℕ, Bool, true, false, cond, List, [], ◌∷◌, ◌++◌, length, refl, sym, ap, subst, arith}
use Rattle.std.specs.Option.{option_map, unwrap_or}
use Rattle.std.specs.Prelude.{None, Option, Some, is_some}
use Rattle.s38_base.specs.Limits.{body_limit}
use Rattle.s38_base.specs.declared.attr.Attr.{Attr}
use Rattle.s38_base.specs.declared.page.Change.{Change}
use Rattle.s38_commits.specs.Unit.{CommitUnit}
use Rattle.s38_commits.specs.Units.{UnitMap, unit_of}
use Rattle.s38_dataspaces.specs.Entries.{entry_at}
use Rattle.s38_dataspaces.specs.Table.{DataTable}
use Rattle.s38_durable_state.specs.Durable.{Durable, kept}
use Rattle.s38_restart.specs.catalog.Stores.{ceiling_of, objects_stored_in}
use Rattle.s38_image.specs.declared.stored.Stored.{Stored}
use Rattle.s38_journals.specs.Entries.{JournalRecord}
use Rattle.s38_journals.specs.Journals.{JournalList}
use Rattle.s38_laws_objects.specs.Well.{AreWell}
use Rattle.s38_restart.specs.Redo.{journal_replayed}
use Rattle.s38_restart.specs.Restarted.{all_followed, data_followed, data_space_followed, imaged, restarted, table_followed}
use Rattle.s38_rules.specs.state.Held.{Held, object}
use Rattle.s38_rules.specs.state.Journaling.{data_port, data_port_in, is_journal, journal_for, journal_named, journal_of_port}
use Rattle.s38_rules.specs.state.Parts.{data_of, data_part, journal_of, journal_part, over_body, part_at, part_in, port_of, port_part}
use Rattle.s38_rules.specs.state.PartsAt.{journal_at, no_journal, no_table, table_at, table_in}
use Rattle.s38_rules.specs.state.State.{State}
use Rattle.s38_rules.specs.declared.data_body.DataBody.{DataBody}
use Rattle.s38_rules.specs.declared.object.Body.TheVariants as bodies
use Rattle.s38_rules.specs.declared.object.Body.{Body}
use Rattle.s38_rules.specs.declared.port.Port.{Port}
use Rattle.s38_laws_units.specs.Right.{IsRight}
use Rattle.s38_laws_commits.proofs.FoundLaws.{IsChain, followed_object, table_by}
use Rattle.s38_laws_commits.proofs.OrdinalLaws.{restart_at, restart_fields, restart_small}
use Rattle.s38_laws_commits.specs.Begun.{IsInOrder}
use Rattle.s38_laws_commits.specs.Counting.{has_unit}
use Rattle.s38_laws_commits.specs.Found.{AreSound, restart_of}
use Rattle.s38_laws_commits.specs.Imaged.{AreImaged, IsFrontKept, IsImageKept, IsPortKept}
use Rattle.s38_laws_commits.specs.Ordinals.{redone_at}
use Rattle.s38_laws_commits.specs.Linked.{AreLinked}
use Rattle.s38_laws_commits.specs.Told.{AreTold, IsSmall, IsTableImage, entries_at}

port_stays : (f : DataBody → DataBody) (b : Body) → port_of (over_body data_part f b) ≡ port_of b
port_stays f (bodies.DataSpace d) = refl
port_stays f _ = refl

journal_stays : (f : DataBody → DataBody) (b : Body) → journal_of (over_body data_part f b) ≡ journal_of b
journal_stays f (bodies.DataSpace d) = refl
journal_stays f _ = refl

data_stays : (f : DataBody → DataBody) (b : Body) → data_of (over_body data_part f b) ≡ option_map f (data_of b)
data_stays f (bodies.DataSpace d) = refl
data_stays f _ = refl

append_none : (xs : List JournalRecord) → xs ≡ xs ++ []
append_none [] = refl
append_none (x ∷ xs) = ap (λ (l : List JournalRecord). x ∷ l) (append_none xs)

none_small : IsSmall no_table
none_small = omega arith

module _ (d : Durable) where
  abbrev h : Held
  h = restart_of d

  abbrev at_all : Stored → DataBody → DataBody
  at_all x = data_followed (imaged d.objects) x.object.number.0 x.sequence

  -- what is there is kept
  port_kept : (n : ℕ) (p : Port) → part_at port_part h n ≡ Some p → IsPortKept d n p
  port_kept n p is = by (kept d.objects n) refl (sym (ap (part_in port_part) (followed_object (imaged d.objects) d.objects n)) ∙ is)
    where
      by : (r : Option Stored) → kept d.objects n ≡ r → part_in port_part (option_map (data_space_followed (imaged d.objects)) r) ≡ Some p → IsPortKept d n p
      by None found is = absurd (let e : None ≡ Some p = is in cc)
      by (Some x) found is = record { stored = x; found = found; body = sym (port_stays (at_all x) x.object.body) ∙ is }

  journal_seen : (n : ℕ) (x : Stored) → kept d.objects n ≡ Some x → part_at journal_part h n ≡ journal_of x.object.body
  journal_seen n x found = ap (part_in journal_part) (followed_object (imaged d.objects) d.objects n) ∙ ap (λ r. part_in journal_part (option_map (data_space_followed (imaged d.objects)) r)) found ∙ journal_stays (at_all x) x.object.body

  journal_gone : (n : ℕ) → kept d.objects n ≡ None → part_at journal_part h n ≡ None
  journal_gone n found = ap (part_in journal_part) (followed_object (imaged d.objects) d.objects n) ∙ ap (λ r. part_in journal_part (option_map (data_space_followed (imaged d.objects)) r)) found

  front_kept : (n : ℕ) → is_journal h n ≡ true → IsFrontKept d n (entries_at h n)
  front_kept n is = by (kept d.objects n) refl
    where
      own : (x : Stored) → kept d.objects n ≡ Some x → (r : Option JournalList) → journal_of x.object.body ≡ r → is_some r ≡ true → IsFrontKept d n (entries_at h n)
      own x found None body some = absurd (let e : false ≡ true = some in cc)
      own x found (Some j) body some = record {
        stored = x;
        journal = j;
        rest = [];
        found = found;
        body = body;
        all = ap (λ r. (unwrap_or r no_journal).entries) (journal_seen n x found ∙ body) ∙ append_none j.entries;
      }

      by : (r : Option Stored) → kept d.objects n ≡ r → IsFrontKept d n (entries_at h n)
      by None found = absurd (let e : false ≡ true = sym (ap is_some (journal_gone n found)) ∙ is in cc)
      by (Some x) found = own x found (journal_of x.object.body) refl (sym (ap is_some (journal_seen n x found)) ∙ is)

  data_seen : (n : ℕ) (x : Stored) → kept d.objects n ≡ Some x → part_at data_part h n ≡ option_map (at_all x) (data_of x.object.body)
  data_seen n x found = ap (part_in data_part) (followed_object (imaged d.objects) d.objects n) ∙ ap (λ r. part_in data_part (option_map (data_space_followed (imaged d.objects)) r)) found ∙ data_stays (at_all x) x.object.body

  data_gone : (n : ℕ) → kept d.objects n ≡ None → part_at data_part h n ≡ None
  data_gone n found = ap (part_in data_part) (followed_object (imaged d.objects) d.objects n) ∙ ap (λ r. part_in data_part (option_map (data_space_followed (imaged d.objects)) r)) found

  module _ (order : IsInOrder d) (unused : object h 0 ≡ None) where
    -- tables have no more bytes than they may have
    behind_small : (number image : ℕ) (r : Option JournalList) (t : DataTable) → IsSmall t → IsSmall (table_followed number image r t)
    behind_small number image None t small = small
    behind_small number image (Some j) t small = restart_small number image j.entries t small

    small : (n : ℕ) → IsSmall (table_at h n)
    small n = by (kept d.objects n) refl
      where
        own : (x : Stored) → kept d.objects n ≡ Some x → (r : Option DataBody) → data_of x.object.body ≡ r → IsSmall (table_in (option_map (at_all x) r))
        own x found None body = none_small
        own x found (Some held) body = behind_small x.object.number.0 x.sequence (option_map (journal_at (imaged d.objects)) (journal_of_port (imaged d.objects) held.port.0)) held.space (order.small n x held found body)

        by : (r : Option Stored) → kept d.objects n ≡ r → IsSmall (table_at h n)
        by None found = subst (λ r. IsSmall (table_in r)) (sym (data_gone n found)) none_small
        by (Some x) found = subst (λ r. IsSmall (table_in r)) (sym (data_seen n x found)) (own x found (data_of x.object.body) refl)

    fresh : (n u : ℕ) → length (entries_at h n) < u → has_unit u (entries_at h n) ≡ false
    fresh n u = by (kept d.objects n) refl
      where
        Fresh : Option JournalList → Type 0
        Fresh r = length (unwrap_or r no_journal).entries < u → has_unit u (unwrap_or r no_journal).entries ≡ false

        own : (x : Stored) → kept d.objects n ≡ Some x → (r : Option JournalList) → journal_of x.object.body ≡ r → Fresh r
        own x found None body = λ _. refl
        own x found (Some j) body = order.journals n u x j found body

        by : (r : Option Stored) → kept d.objects n ≡ r → Fresh (part_at journal_part h n)
        by None found = subst Fresh (sym (journal_gone n found)) (λ _. refl)
        by (Some x) found = subst Fresh (sym (journal_seen n x found)) (own x found (journal_of x.object.body) refl)

    -- a data space that is journaled is what its journal space makes of its image
    module _ (n journal : ℕ) (to : journal_for h n ≡ Some journal) where
      named : (b : Bool) (m : ℕ) → cond b (Some m) None ≡ Some journal → m ≡ journal
      named true m e = cc
      named false m e = cc

      is_there : (b : Bool) (m : ℕ) → is_journal h m ≡ b → cond b (Some m) None ≡ Some journal → is_journal h m ≡ true
      is_there true m is e = is
      is_there false m is e = cc

      chain : (x : Stored) (held : DataBody) → kept d.objects n ≡ Some x → data_of x.object.body ≡ Some held → (j : JournalList) × ((entries_at h journal ≡ j.entries) × IsChain d n x held j)
      chain x held found body = by (part_at port_part h (data_port h n)) refl to
        where
          port_same : data_port h n ≡ held.port.0
          port_same = ap data_port_in (data_seen n x found ∙ ap (option_map (at_all x)) body)

          by : (r : Option Port) → part_at port_part h (data_port h n) ≡ r → journal_named h r ≡ Some journal → (j : JournalList) × ((entries_at h journal ≡ j.entries) × IsChain d n x held j)
          by None is leads = absurd (let e : None ≡ Some journal = leads in cc)
          by (Some p) is leads =
              let port = port_kept (data_port h n) p is in
              let same = named (is_journal h p.journal.0) p.journal.0 leads in
              let front = front_kept p.journal.0 (is_there (is_journal h p.journal.0) p.journal.0 refl leads) in (
                front.journal,
                (
                  ap (entries_at h) (sym same) ∙ ap (λ r. (unwrap_or r no_journal).entries) (journal_seen p.journal.0 front.stored front.found ∙ front.body),
                  record {
                    port = p;
                    at_port = port.stored;
                    at_journal = front.stored;
                    found = found;
                    body = body;
                    port_found = ap (kept d.objects) (sym port_same) ∙ port.found;
                    port_body = port.body;
                    journal_found = front.found;
                    journal_body = front.body;
                    small = order.small n x held found body;
                  },
                ),
              )

      image : (units : UnitMap) → units ≡ [] → (x : Stored) (held : DataBody) → kept d.objects n ≡ Some x → data_of x.object.body ≡ Some held → IsTableImage units (entries_at h journal) (table_at h n) n x.sequence held.space
      image units none x held found body =
          let c = chain x held found body in
          let table : table_at h n ≡ journal_replayed n x.sequence c.0.entries held.space = table_by d n x held c.0 c.1.1 in
          let fields : held.space.fields ≡ (table_at h n).fields = sym (ap (λ (t : DataTable). t.fields) table ∙ restart_fields n x.sequence c.0.entries held.space) in
          let small = order.small n x held found body in
          record {
            fields = fields;
            small = small;
            within = order.within n journal x found to;
            free = λ at _. ap (λ (es : List JournalRecord). redone_at (table_at h n).fields n x.sequence es at (entry_at held.space.entries at)) c.1.0
                ∙ ap (λ (f : List Attr). redone_at f n x.sequence c.0.entries at (entry_at held.space.entries at)) (sym fields)
                ∙ sym (restart_at n x.sequence at c.0.entries held.space small) ∙ ap (λ (t : DataTable). entry_at t.entries at) (sym table);
            before = λ at block unit change has first. absurd (nothing block unit has);
            now = λ at block unit change has first. absurd (nothing block unit has);
          }
        where
          nothing : (block : ℕ) (unit : CommitUnit) → unit_of units block ≡ Some unit → ⊥
          nothing block unit has = let e : None ≡ Some unit = sym (ap (λ (u : UnitMap). unit_of u block) none) ∙ has in cc

      image_kept : (units : UnitMap) → units ≡ [] → IsImageKept h units d n journal
      image_kept units none = by (kept d.objects n) refl
        where
          there : is_some (part_at data_part h n) ≡ true
          there = some (part_at data_part h n) refl
            where
              nothing : journal_of_port h 0 ≡ None
              nothing = ap (λ r. journal_named h (part_in port_part r)) unused

              some : (r : Option DataBody) → part_at data_part h n ≡ r → is_some r ≡ true
              some (Some y) is = refl
              some None is = absurd (let e : None ≡ Some journal = sym nothing ∙ sym (ap (λ r. journal_of_port h (data_port_in r)) is) ∙ to in cc)

          own : (x : Stored) → kept d.objects n ≡ Some x → (r : Option DataBody) → data_of x.object.body ≡ r → is_some (option_map (at_all x) r) ≡ true → IsImageKept h units d n journal
          own x found None body some = absurd (let e : false ≡ true = some in cc)
          own x found (Some held) body some = record {
            stored = x;
            held = held;
            found = found;
            body = body;
            port = ap data_port_in (sym (data_seen n x found ∙ ap (option_map (at_all x)) body));
            image = image units none x held found body;
          }

          by : (r : Option Stored) → kept d.objects n ≡ r → IsImageKept h units d n journal
          by None found = absurd (let e : false ≡ true = sym (ap is_some (data_gone n found)) ∙ there in cc)
          by (Some x) found = own x found (data_of x.object.body) refl (sym (ap is_some (data_seen n x found)) ∙ there)

-- so it begins
pub begins_sound : (s : State) (d : Durable) → s.held ≡ restart_of d → s.units ≡ [] → s.limit ≤ body_limit → IsRight s → AreWell s → IsInOrder d → AreSound s d
begins_sound s d held none limit right well order = record {
  limit = limit;
  right = right;
  well = well;
  linked = subst AreLinked (sym held) order.linked;
  told = subst (λ (k : Held). AreTold k s.units) (sym held) (record {
    fresh = fresh d order zero;
    each = λ block journal unit has to. absurd (nothing block unit has);
    differ = λ one other journal u v a b p q same. absurd (nothing one u a);
    small = small d order zero;
  });
  kept = subst (λ (k : Held). AreImaged k s.units d (λ n. false)) (sym held) (record {
    port = λ n p _ is on. port_kept d n p is;
    journal = λ n _ is on. front_kept d n is;
    space = λ n journal _ to. image_kept d order zero n journal to s.units none;
  });
}
  where
    zero : object (restart_of d) 0 ≡ None
    zero = subst (λ (k : Held). object k 0 ≡ None) held right.unused.none

    nothing : (block : ℕ) (unit : CommitUnit) → unit_of s.units block ≡ Some unit → ⊥
    nothing block unit has = let e : None ≡ Some unit = sym (ap (λ (u : UnitMap). unit_of u block) none) ∙ has in cc

-- the objects and the ceiling are all that a restart goes by
pub restarts_to : (limit : ℕ) (parts : List Change) (d : Durable) → objects_stored_in limit parts ≡ d.objects → ceiling_of parts ≡ d.ceiling → restarted limit parts ≡ restart_of d
restarts_to limit parts d objects ceiling =
    ap (λ (ss : List Stored). let h : Held = record { objects = all_followed ss; next = ceiling_of parts + 1; ceiling = ceiling_of parts } in h) objects
    ∙ ap (λ (n : ℕ). let h : Held = record { objects = all_followed d.objects; next = n + 1; ceiling = n } in h) ceiling
