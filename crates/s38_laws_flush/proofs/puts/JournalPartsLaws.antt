-- How many parts of a journal space differ after a step that keeps it, whole or by its header alone.
use Rattle.std.proofs.Common.{◌≡◌, ◌∙◌, ℕ, ◌+◌, ◌/◌, ◌<◌, ◌≤◌, Bool, true, false, cond, List, ◌++◌, length, lit≤, refl, sym, ap, subst, arith}
use Rattle.std.specs.List.{list_any}
use Rattle.std.specs.Option.{unwrap_or}
use Rattle.std.specs.Prelude.{None, Option, Some, is_some}
use Rattle.s38_base.specs.Limits.{body_limit}
use Rattle.s38_base.specs.declared.id.Kind.TheVariants as kinds
use Rattle.s38_commits.specs.Units.{UnitMap}
use Rattle.s38_durable_state.specs.Durable.{Durable, body_after, durable_after, followed_or_whole, kept, kept_after, whole_object, with_header_and_rows}
use Rattle.s38_durable_state.specs.Following.{NumbersRise}
use Rattle.s38_durable_state.specs.Represents.{parts_end, parts_in}
use Rattle.s38_image.specs.Journals.{journal}
use Rattle.s38_image.specs.Pages.{needed}
use Rattle.s38_image.specs.Settled.{settled_body, settled_journal}
use Rattle.s38_image.specs.declared.stored.Stored.{Stored}
use Rattle.s38_image_writer.proofs.LengthLaws.{journal_long}
use Rattle.s38_journals.specs.Entries.{JournalRecord}
use Rattle.s38_journals.specs.Journals.{JournalList, entries_len}
use Rattle.s38_rules.proofs.ChargeLaws.{found_number}
use Rattle.s38_rules.specs.store.Forcing.{Forced, is_whole}
use Rattle.s38_rules.specs.state.Held.{Held, is_on_disk, kind_of, object}
use Rattle.s38_rules.specs.state.Parts.{journal_of, journal_part, part_at, part_in}
use Rattle.s38_rules.specs.state.PartsAt.{no_journal}
use Rattle.s38_rules.specs.state.LawfulParts.{journal_lawful}
use Rattle.s38_rules.specs.store.Room.{image_len, pages_begun}
use Rattle.s38_rules.specs.state.State.{State}
use Rattle.s38_rules.specs.declared.object.Body.TheVariants as bodies
use Rattle.s38_rules.specs.declared.object.Body.{Body}
use Rattle.s38_rules.specs.declared.object.Object.{Object}
use Rattle.s38_flush.proofs.AfterLaws.{kept_after_step, kept_one}
use Rattle.s38_flush.proofs.KeptLaws.{kept_number}
use Rattle.s38_flush.specs.Stepping.{HaveHeaders}
use Rattle.s38_laws_flush.specs.puts.Lengthening.{AreLonger, Lengthens}
use Rattle.s38_laws_flush.specs.puts.OnePut.{BodiesAreShort}
use Rattle.s38_laws_flush.specs.puts.Spaces.{IsSpace}
use Rattle.s38_laws_flush.specs.puts.Trails.{AreTrailing, IsTrailing}
use Rattle.s38_laws_flush.specs.puts.Unforced.{AreLow, most_trailing}
use Rattle.s38_laws_flush.proofs.puts.DifferLaws.{differ}
use Rattle.s38_laws_flush.proofs.puts.ObjectLaws.{IsOf, all_few, header_few, page_in, pages_in, same_few, space_few}
use Rattle.s38_laws_flush.proofs.puts.ShapeLaws.{ForcesFew, longest_entry, rows_at, rows_in, unforced_in}
use Rattle.s38_laws_flush.proofs.puts.TrailLaws.{journal_kind, trails_at}

-- a journal space that is kept for the first time has no more bytes than a body may have
abbrev pub FirstShort : Durable → Durable → Type 0
FirstShort d new = (n : ℕ) (x : Stored) (j : JournalList) → kept d.objects n ≡ None → kept new.objects n ≡ Some x → journal_of x.object.body ≡ Some j → image_len x.object.body ≤ body_limit

-- the store keeps the same entries
abbrev pub SameEntries : Option JournalList → Option JournalList → Type 0
SameEntries None None = Unit {0}
SameEntries None (Some y) = ⊥
SameEntries (Some x) None = ⊥
SameEntries (Some x) (Some y) = y.entries ≡ x.entries

-- the entries after those that are kept
pub record HasMore (front : List JournalRecord) (unforced : ℕ) (j : JournalList) : Type 0 where
  pub rest : List JournalRecord
  pub entries : j.entries ≡ front ++ rest
  pub bytes : entries_len rest ≤ unforced

behind_by : (front : List JournalRecord) (x y : Option JournalList) (j : JournalList) → IsTrailing front (unwrap_or x no_journal) → Lengthens x y → SameEntries y (Some j) → HasMore front (unforced_in y) j
behind_by front x None j trails longer same = absurd same
behind_by front x (Some k) j trails longer same =
    let on = trails_at front x k trails longer in
    record { rest = on.rest; entries = same ∙ on.entries; bytes = on.bytes }

pub settled_kind : (units : UnitMap) (n : ℕ) (b : Body) → kind_of (settled_body units n b) ≡ kind_of b
settled_kind units n (bodies.DataSpace d) = refl
settled_kind units n (bodies.Journal j) = refl
settled_kind units n _ = refl

pub behind_kind : (b old : Body) → kind_of old ≡ kind_of b → kind_of (body_after b old) ≡ kind_of b
behind_kind (bodies.Profile special limit) old same = refl
behind_kind _ old same = same

journal_is : (b : Body) (j : JournalList) → journal_of b ≡ Some j → kind_of b ≡ kinds.Journal
journal_is b j is = ap kind_of (journal_lawful.back b j is)

journal_stays : (b old : Body) (i : JournalList) → kind_of old ≡ kind_of b → journal_of old ≡ Some i → journal_of (body_after b old) ≡ Some i
journal_stays (bodies.Profile special limit) old i same of = absurd (let e : kinds.Journal ≡ kinds.Profile = sym (journal_is old i of) ∙ same in cc)
journal_stays _ old i same of = of

pub not_journal : (a b : Body) → kind_of b ≡ kind_of a → journal_of a ≡ None → journal_of b ≡ None
not_journal a b same none = by (journal_of b) refl
  where
    by : (r : Option JournalList) → journal_of b ≡ r → r ≡ None
    by None is = refl
    by (Some j) is = absurd (let own = journal_kind a b j same is in let e : None ≡ Some own.0 = sym none ∙ own.1 in cc)

module _ (all : List Forced) (d : Durable) (s t : State) (k : Held) where
  abbrev pub new : Durable
  new = durable_after all d t

  -- what is known of a step that leads from a state to objects, which the store then keeps
  pub record IsLed : Type 0 where
    pub rising : NumbersRise t.held
    pub own : (n : ℕ) (x : Stored) → kept d.objects n ≡ Some x → kind_of x.object.body ≡ x.object.id.kind
    pub then_own : (n : ℕ) (x : Stored) → kept new.objects n ≡ Some x → kind_of x.object.body ≡ x.object.id.kind
    pub kinds : (n : ℕ) (o : Object) (x : Stored) → object t.held n ≡ Some o → kept d.objects n ≡ Some x → kind_of x.object.body ≡ kind_of o.body
    pub given : (n : ℕ) (x : Stored) → kept d.objects n ≡ Some x → n < s.held.next
    pub on_disk : (n : ℕ) (x : Stored) → kept d.objects n ≡ Some x → is_on_disk s.held n ≡ true
    pub off_disk : (n : ℕ) → kept d.objects n ≡ None → is_on_disk s.held n ≡ false
    pub old_rows : (n : ℕ) (x : Stored) → kept d.objects n ≡ Some x → x.object.rows ≡ rows_at s.held n
    pub old_kinds : (n : ℕ) (x : Stored) → kept d.objects n ≡ Some x → is_some (part_at journal_part s.held n) ≡ true → is_some (journal_of x.object.body) ≡ true
    pub longer : AreLonger s.held k
    pub entries : (n : ℕ) → SameEntries (part_at journal_part k n) (part_at journal_part t.held n)
    pub rows : (n : ℕ) → rows_at t.held n ≡ rows_at k n
    pub disk : (n : ℕ) → is_on_disk t.held n ≡ is_on_disk k n
    pub few : ForcesFew s.held k all
    pub trails : AreTrailing s.held d
    pub low : AreLow s.held s.units
    pub headers : HaveHeaders d
    pub then_headers : HaveHeaders new
    pub ends : (n : ℕ) (x : Stored) → kept new.objects n ≡ Some x → 128 + pages_begun (image_len x.object.body) ≤ parts_end
    pub short : BodiesAreShort d
    pub then_short : BodiesAreShort new
    pub first : FirstShort d new

  module _ (led : IsLed) where
    -- how many parts of a number differ
    abbrev pub cost : ℕ → ℕ
    cost n = differ (page_in (kept d.objects n)) (parts_in (kept new.objects n)) n 0 parts_end

    abbrev pub Small : ℕ → Option Stored → Option Stored → ℕ → Type 0
    Small n old behind most = differ (page_in old) (parts_in behind) n 0 parts_end ≤ most

    old_of : (n : ℕ) (r : Option Stored) → kept d.objects n ≡ r → IsOf n r
    old_of n None is = tt
    old_of n (Some x) is = (kept_number n d.objects x is, led.headers n x is)

    new_of : (n : ℕ) (r : Option Stored) → kept new.objects n ≡ r → IsOf n r
    new_of n None is = tt
    new_of n (Some x) is = (kept_number n new.objects x is, led.then_headers n x is)

    -- a body has no more than these pages
    pub page_limit : (len : ℕ) → len ≤ body_limit → pages_begun len ≤ 2048
    page_limit len few = omega (arith, few)

    -- header, rows and body, whatever they were
    pub others_few : (n : ℕ) (old behind : Option Stored) → kept d.objects n ≡ old → kept new.objects n ≡ behind → pages_in old ≤ 2048 → pages_in behind ≤ 2048 → Small n old behind 2176
    others_few n old behind was is some more =
        let few = all_few n parts_end 2048 old behind (old_of n old was) (new_of n behind is) some more (lit≤ tt) in
        omega (arith, few)

    -- ---- what is kept after the step

    pub record IsKeptBy (n : ℕ) (x y : Stored) : Type 0 where
      pub object_of : Object
      pub found : object t.held n ≡ Some object_of
      pub kept_as : y ≡ cond (list_any (is_whole n) all) (whole_object t object_of) (with_header_and_rows object_of x)

    pub kept_by : (n : ℕ) (x y : Stored) → kept d.objects n ≡ Some x → kept new.objects n ≡ Some y → IsKeptBy n x y
    kept_by n x y was is = by (object t.held n) refl (sym (kept_after_step all d t n led.rising) ∙ is)
      where
        same : (a b : Stored) → Some a ≡ Some b → a ≡ b
        same a b e = cc

        disk : (o : Object) → object t.held n ≡ Some o → (b : Bool) → o.on_disk ≡ b → cond b (Some (kept_after all t (kept d.objects o.number.0) o)) None ≡ Some y → IsKeptBy n x y
        disk o found false off e = cc
        disk o found true on e = record {
          object_of = o;
          found = found;
          kept_as =
              sym (same (kept_after all t (kept d.objects o.number.0) o) y e)
              ∙ ap (λ (i : ℕ). cond (list_any (is_whole i) all) (whole_object t o) (followed_or_whole t o (kept d.objects i))) (found_number n o t.held.objects found)
              ∙ ap (λ (r : Option Stored). cond (list_any (is_whole n) all) (whole_object t o) (followed_or_whole t o r)) was;
        }

        by : (z : Option Object) → object t.held n ≡ z → kept_one all t d.objects z ≡ Some y → IsKeptBy n x y
        by None found e = cc
        by (Some o) found e = disk o found o.on_disk refl e

    -- ---- a journal space

    module _ (n : ℕ) (x y : Stored) (i : JournalList) (was : kept d.objects n ≡ Some x) (is : kept new.objects n ≡ Some y) (body : journal_of x.object.body ≡ Some i) where
      by_step : IsKeptBy n x y
      by_step = kept_by n x y was is

      abbrev o : Object
      o = by_step.object_of

      -- the journal space itself
      now : (j : JournalList) × (journal_of o.body ≡ Some j)
      now = journal_kind o.body x.object.body i (led.kinds n o x by_step.found was) body

      now_at : part_at journal_part t.held n ≡ Some now.0
      now_at = ap (part_in journal_part) by_step.found ∙ now.1

      old_space : IsSpace n x i.entries
      old_space = record {
        number = kept_number n d.objects x was;
        has = led.headers n x was;
        kind = sym (led.own n x was) ∙ journal_is x.object.body i body;
        journal = i;
        body = journal_lawful.back x.object.body i body;
        entries = refl;
      }

      behind : HasMore i.entries (unforced_in (part_at journal_part k n)) now.0
      behind =
          behind_by i.entries (part_at journal_part s.held n) (part_at journal_part k n) now.0 (led.trails n x i was body) (led.longer.each n (led.given n x was))
          (subst (SameEntries (part_at journal_part k n)) now_at (led.entries n))

      -- no more was unforced than may be
      was_low : unforced_in (part_at journal_part s.held n) ≤ most_trailing
      was_low = let low = led.low.bytes n (led.on_disk n x was) in omega (arith, low)

      new_space : (es : List JournalRecord) (j : JournalList) → journal_of y.object.body ≡ Some j → j.entries ≡ es → IsSpace n y es
      new_space es j of same = record {
        number = kept_number n new.objects y is;
        has = led.then_headers n y is;
        kind = sym (led.then_own n y is) ∙ journal_is y.object.body j of;
        journal = j;
        body = journal_lawful.back y.object.body j of;
        entries = same;
      }

      room : (es : List JournalRecord) → IsSpace n y es → 128 + needed (length (journal.print es)) ≤ parts_end
      room es space =
          let size : image_len y.object.body ≡ length (journal.print es) = ap image_len space.body ∙ ap entries_len space.entries ∙ sym (journal_long es) in
          let most = led.ends n y is in
          omega (arith, most, ap needed size)

      -- where it is kept whole
      module _ (anew : list_any (is_whole n) all ≡ true) where
        whole_is : y ≡ whole_object t o
        whole_is = by_step.kept_as ∙ ap (λ b. cond b (whole_object t o) (with_header_and_rows o x)) anew

        whole_body : journal_of y.object.body ≡ Some (settled_journal now.0)
        whole_body =
            ap (λ (z : Stored). journal_of z.object.body) whole_is
            ∙ ap (λ (b : Body). journal_of (settled_body t.units o.number.0 b)) (journal_lawful.back o.body now.0 now.1)

        whole_space : IsSpace n y (i.entries ++ behind.rest)
        whole_space = new_space (i.entries ++ behind.rest) (settled_journal now.0) whole_body behind.entries

        pub grown_few : unforced_in (part_at journal_part k n) ≤ unforced_in (part_at journal_part s.held n) + longest_entry → Small n (Some x) (Some y) 2176
        grown_few grown =
            let few = space_few n parts_end x y i.entries behind.rest old_space whole_space (room (i.entries ++ behind.rest) whole_space) in
            let rest = behind.bytes in
            let low = was_low in
            omega (arith, few, rest, grown, low)

        -- with the same rows, and no entry more
        pub rowed_few : unforced_in (part_at journal_part k n) ≤ unforced_in (part_at journal_part s.held n) → rows_at t.held n ≡ rows_at s.held n → Small n (Some x) (Some y) 107
        rowed_few still rows =
            let same : y.object.rows ≡ x.object.rows = ap (λ (z : Stored). z.object.rows) whole_is ∙ sym (ap rows_in by_step.found) ∙ rows ∙ sym (led.old_rows n x was) in
            let few = same_few n parts_end x y i.entries behind.rest old_space whole_space (room (i.entries ++ behind.rest) whole_space) same in
            let rest = behind.bytes in
            let low = was_low in
            omega (arith, few, rest, still, low)

        -- with the same rows its header, and the pages from the last that was kept on
        pub trailing_few : rows_at t.held n ≡ rows_at s.held n → Small n (Some x) (Some y) (unforced_in (part_at journal_part k n) / 512 + 3)
        trailing_few rows =
            let same : y.object.rows ≡ x.object.rows = ap (λ (z : Stored). z.object.rows) whole_is ∙ sym (ap rows_in by_step.found) ∙ rows ∙ sym (led.old_rows n x was) in
            let few = same_few n parts_end x y i.entries behind.rest old_space whole_space (room (i.entries ++ behind.rest) whole_space) same in
            let rest = behind.bytes in
            omega (arith, few, rest)

      -- where its header follows
      pub followed_few : list_any (is_whole n) all ≡ false → Small n (Some x) (Some y) 2176
      followed_few not =
          let here : y ≡ with_header_and_rows o x = by_step.kept_as ∙ ap (λ b. cond b (whole_object t o) (with_header_and_rows o x)) not in
          let of : journal_of y.object.body ≡ Some i = ap (λ (z : Stored). journal_of z.object.body) here ∙ journal_stays o.body x.object.body i (led.kinds n o x by_step.found was) body in
          let few = header_few n parts_end x y i.entries old_space (new_space i.entries i of refl) (lit≤ tt) in
          omega (arith, few)
