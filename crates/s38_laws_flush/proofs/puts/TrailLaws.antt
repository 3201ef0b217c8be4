-- What is kept of a journal space stays the beginning of it.
use Rattle.std.proofs.Common.{◌≡◌, ◌∙◌, ℕ, ◌<◌, ◌==◌, Bool, true, false, cond, List, [], ◌∷◌, ◌++◌, refl, sym, ap, subst, arith}
use Rattle.std.proofs.lemmas.List.{append_assoc}
use Rattle.std.proofs.lemmas.List.Sums.{sum_by-append}
use Rattle.std.specs.List.{list_any}
use Rattle.std.specs.Option.{option_map, unwrap_or}
use Rattle.std.specs.Prelude.{◌||◌, None, Option, Some}
use Rattle.s38_base.specs.declared.id.Kind.TheVariants as kinds
use Rattle.s38_code.specs.declared.event.Event.{Event}
use Rattle.s38_commits.specs.Units.{UnitMap}
use Rattle.s38_durable_state.specs.Durable.{Durable, body_after, durable_after, followed_or_whole, kept, kept_after, whole_object, with_header_and_rows}
use Rattle.s38_durable_state.specs.Following.{NumbersRise}
use Rattle.s38_image.specs.Settled.{settled_body, settled_journal}
use Rattle.s38_image.specs.declared.stored.Stored.{Stored}
use Rattle.s38_journals.specs.Entries.{JournalRecord, journal_entry_len}
use Rattle.s38_journals.specs.Journals as journals
use Rattle.s38_journals.specs.Journals.{JournalList, entries_len}
use Rattle.s38_rules.proofs.ChargeLaws.{found_number}
use Rattle.s38_rules.specs.store.Forcing.{Ceiling, Forced, Header, Removed, Whole, is_whole, must_persist}
use Rattle.s38_rules.specs.state.Held.{Held, kind_of, object}
use Rattle.s38_rules.specs.state.Parts.{journal_of, journal_part, part_at, part_in}
use Rattle.s38_rules.specs.state.PartsAt.{journal_at, no_journal, on_journal}
use Rattle.s38_rules.specs.state.LawfulParts.{journal_lawful}
use Rattle.s38_rules.specs.store.Room.{Room}
use Rattle.s38_rules.specs.state.State.{State}
use Rattle.s38_rules.specs.store.Storing.{all_kept, stored, stored_in}
use Rattle.s38_rules.specs.declared.object.Body.TheVariants as bodies
use Rattle.s38_rules.specs.declared.object.Body.{Body}
use Rattle.s38_rules.specs.declared.object.Object.{Object}
use Rattle.s38_laws_units.proofs.HeldLaws.{part_over}
use Rattle.s38_flush.proofs.AfterLaws.{kept_after_step, kept_one}
use Rattle.s38_laws_flush.specs.puts.Lengthening.{IsLonger, Lengthens}
use Rattle.s38_laws_flush.specs.puts.Trails.{AreTrailing, IsTrailing}
use Rattle.s38_laws_flush.proofs.puts.LongerLaws.{append_none}

-- ---- what the store keeps of a step changes a journal space alone that it keeps whole

both_false : (a b : Bool) → (a || b) ≡ false → (a ≡ false) × (b ≡ false)
both_false false b h = (refl, h)
both_false true b h = cc

other_kept : (h : Held) (m n : ℕ) → (m == n) ≡ false → part_at journal_part (on_journal h m journals.forced) n ≡ part_at journal_part h n
other_kept h m n off = part_over journal_part journal_lawful h m n journals.forced ∙ ap (λ b. cond b (option_map journals.forced (part_at journal_part h n)) (part_at journal_part h n)) off

all_kept_other : (all : List Forced) (h : Held) (n : ℕ) → list_any (is_whole n) all ≡ false → part_at journal_part (all_kept h all) n ≡ part_at journal_part h n
unfolding all_kept
all_kept_other [] h n not = refl
all_kept_other (Ceiling ∷ more) h n not = all_kept_other more h n not
all_kept_other (Header m ∷ more) h n not = all_kept_other more h n not
all_kept_other (Whole m ∷ more) h n not =
    let both = both_false (m == n) (list_any (is_whole n) more) not in
    all_kept_other more (on_journal h m journals.forced) n both.1 ∙ other_kept h m n both.0
all_kept_other (Removed m ∷ more) h n not = all_kept_other more h n not

stored_in_other : (o : Option Room) (all : List Forced) (t : State) (n : ℕ) → list_any (is_whole n) all ≡ false → part_at journal_part (stored_in o all t).held n ≡ part_at journal_part t.held n
stored_in_other None all t n not = refl
stored_in_other (Some room) all t n not = all_kept_other all t.held n not

pub stored_other : (s : State) (p : ℕ) (e : Event) (t : State) (n : ℕ) → list_any (is_whole n) (must_persist s p e) ≡ false → part_at journal_part (stored s p e t).held n ≡ part_at journal_part t.held n
unfolding stored
stored_other s p e t n not = stored_in_other s.room (must_persist s p e) t n not

-- ---- one journal space

-- all of it is kept
all_trail : (j : JournalList) → IsTrailing j.entries j
all_trail j = record { rest = []; entries = append_none j.entries; bytes = omega arith }

-- it became longer
trails_on : (front : List JournalRecord) (x y : JournalList) → IsTrailing front x → IsLonger x y → IsTrailing front y
trails_on front x y is longer = record {
  rest = is.rest ++ longer.rest;
  entries = longer.entries ∙ ap (λ (es : List JournalRecord). es ++ longer.rest) is.entries ∙ append_assoc front is.rest longer.rest;
  bytes =
      let some = is.bytes in
      let more = longer.unforced in
      let all = sum_by-append journal_entry_len is.rest longer.rest in
      omega (arith, some, more, all);
}

pub trails_at : (front : List JournalRecord) (x : Option JournalList) (y : JournalList) → IsTrailing front (unwrap_or x no_journal) → Lengthens x (Some y) → IsTrailing front y
trails_at front None y is longer = absurd longer
trails_at front (Some x) y is longer = trails_on front x y is longer

-- ---- what is kept of it after a step

pub journal_kind : (b c : Body) (i : JournalList) → kind_of c ≡ kind_of b → journal_of c ≡ Some i → (j : JournalList) × (journal_of b ≡ Some j)
journal_kind (bodies.Journal j) c i same is = (j, refl)
journal_kind b (bodies.Journal x) i same is = absurd (let e : kinds.Journal ≡ kind_of b = same in cc)
journal_kind b c i same is = absurd (let e : None ≡ Some i = is in cc)

-- a journal space that is kept whole has all its entries kept
whole_trail : (units : UnitMap) (n : ℕ) (b : Body) (i : JournalList) → journal_of (settled_body units n b) ≡ Some i → IsTrailing i.entries (unwrap_or (journal_of b) no_journal)
whole_trail units n (bodies.Journal j) i is = let same : settled_journal j ≡ i = cc in subst (λ (x : JournalList). IsTrailing x.entries j) same (all_trail j)
whole_trail units n (bodies.DataSpace d) i is = cc
whole_trail units n _ i is = cc

pub followed_journal : (b old : Body) (i : JournalList) → journal_of (body_after b old) ≡ Some i → journal_of old ≡ Some i
followed_journal (bodies.Profile special limit) old i is = cc
followed_journal _ old i is = is

-- ---- after a step

module _ (all : List Forced) (d : Durable) (h : Held) (t : State) where
  abbrev new : Durable
  new = durable_after all d t

  -- the state is one to which the step leads: what is not kept whole became longer, and what is kept is of the kind of
  -- what is there and was given
  pub record LeadsOn : Type 0 where
    pub rising : NumbersRise t.held
    pub longer : (n : ℕ) → n < h.next → list_any (is_whole n) all ≡ false → Lengthens (part_at journal_part h n) (part_at journal_part t.held n)
    pub given : (n : ℕ) (x : Stored) → kept d.objects n ≡ Some x → n < h.next
    pub kinds : (n : ℕ) (o : Object) (x : Stored) → object t.held n ≡ Some o → kept d.objects n ≡ Some x → kind_of x.object.body ≡ kind_of o.body

  module _ (on : LeadsOn) (trails : AreTrailing h d) where
    whole_at : (n : ℕ) (o : Object) (i : JournalList) → object t.held n ≡ Some o → journal_of (whole_object t o).object.body ≡ Some i → IsTrailing i.entries (journal_at t.held n)
    whole_at n o i found is = subst (λ (x : Option Object). IsTrailing i.entries (unwrap_or (part_in journal_part x) no_journal)) (sym found) (whole_trail t.units o.number.0 o.body i is)

    followed_at : (n : ℕ) (o : Object) (x : Stored) (i : JournalList) → list_any (is_whole n) all ≡ false → object t.held n ≡ Some o → kept d.objects n ≡ Some x → journal_of (with_header_and_rows o x).object.body ≡ Some i
        → IsTrailing i.entries (journal_at t.held n)
    followed_at n o x i not found there is =
        let old : journal_of x.object.body ≡ Some i = followed_journal o.body x.object.body i is in
        let own = journal_kind o.body x.object.body i (on.kinds n o x found there) old in
        let at : part_at journal_part t.held n ≡ Some own.0 = ap (part_in journal_part) found ∙ own.1 in
        let longer : Lengthens (part_at journal_part h n) (Some own.0) = subst (Lengthens (part_at journal_part h n)) at (on.longer n (on.given n x there) not) in
        subst (λ (y : Option JournalList). IsTrailing i.entries (unwrap_or y no_journal)) (sym at) (trails_at i.entries (part_at journal_part h n) own.0 (trails n x i there old) longer)

    behind_at : (n : ℕ) (o : Object) (i : JournalList) → object t.held n ≡ Some o → (b : Bool) → list_any (is_whole n) all ≡ b → (r : Option Stored) → kept d.objects n ≡ r
        → journal_of (cond b (whole_object t o) (followed_or_whole t o r)).object.body ≡ Some i → IsTrailing i.entries (journal_at t.held n)
    behind_at n o i found true at r there is = whole_at n o i found is
    behind_at n o i found false at None there is = whole_at n o i found is
    behind_at n o i found false at (Some x) there is = followed_at n o x i at found there is

    pub trails_behind : AreTrailing t.held new
    trails_behind n x i there is = by (object t.held n) refl (sym (kept_after_step all d t n on.rising) ∙ there)
      where
        same : (a b : Stored) → Some a ≡ Some b → a ≡ b
        same a b e = cc

        disk : (o : Object) → object t.held n ≡ Some o → (b : Bool) → o.on_disk ≡ b → cond b (Some (kept_after all t (kept d.objects o.number.0) o)) None ≡ Some x → IsTrailing i.entries (journal_at t.held n)
        disk o found false off e = cc
        disk o found true disk_is e =
            let here : cond (list_any (is_whole n) all) (whole_object t o) (followed_or_whole t o (kept d.objects n)) ≡ x =
            ap (λ (k : ℕ). cond (list_any (is_whole k) all) (whole_object t o) (followed_or_whole t o (kept d.objects k))) (sym (found_number n o t.held.objects found)) ∙ same _ x e in
            behind_at n o i found (list_any (is_whole n) all) refl (kept d.objects n) refl (ap (λ (y : Stored). journal_of y.object.body) here ∙ is)

        by : (y : Option Object) → object t.held n ≡ y → kept_one all t d.objects y ≡ Some x → IsTrailing i.entries (journal_at t.held n)
        by None found e = cc
        by (Some o) found e = disk o found o.on_disk refl e
