-- What differs of an object that is there, in the words of what is durable.
use Rattle.std.proofs.Common.{◌≡◌, ◌∙◌, ◌*◌, ◌<◌, ◌≤◌, ◌++◌, None, Option, Some, ap, false, length, refl, subst, sym, true, ℕ}
use Rattle.std.specs.FinMap.{get}
use Rattle.std.specs.Prelude.{Err, IsTrue, Ok, OnOk, Result, is_some}
use Rattle.s38_base.specs.NameText.{is_name}
use Rattle.s38_base.specs.declared.id.Kind.TheVariants as kinds
use Rattle.s38_commits.specs.Units.{UnitMap}
use Rattle.s38_durable_state.specs.Durable.{Durable, followed_or_whole, kept, last_sequence_in, whole_stored}
use Rattle.s38_page_diff.specs.Differences.{differences}
use Rattle.s38_image.specs.PartPlaces.{ceiling_key}
use Rattle.s38_image.specs.Fitting.{header_codec}
use Rattle.s38_image.specs.Images.{image_parts, stored_header}
use Rattle.s38_image.specs.Settled.{settled_body, settled_sequence}
use Rattle.s38_image.specs.declared.header.Header.{Header}
use Rattle.s38_image.specs.declared.stored.Stored.{Stored}
use Rattle.s38_image_writer.proofs.LengthLaws.{header_long}
use Rattle.s38_image_writer.specs.Parts.{header_with}
use Rattle.s38_journals.specs.Journals.{JournalList, entries_len}
use Rattle.s38_page_diff.specs.reconcile.Replacing.{range_of}
use Rattle.s38_rules.specs.state.Held.{Held, kind_of, object}
use Rattle.s38_rules.specs.state.Journaling.{journal_for}
use Rattle.s38_rules.specs.store.Room.{image_len}
use Rattle.s38_rules.specs.state.Parts.{profile_of}
use Rattle.s38_rules.specs.state.State.{State}
use Rattle.s38_rules.specs.store.Storable.{IsStorable}
use Rattle.s38_rules.specs.declared.object.Body.{Body}
use Rattle.s38_rules.specs.declared.object.Body.TheVariants as bodies
use Rattle.s38_rules.specs.declared.object.Object.{Object}
use Rattle.s38_vault.specs.Content.{Content}
use Rattle.s38_flush.proofs.KeptLaws.{Fit, IsKeptLen, followed_header, front_differs, key_of, kept_number, lens, never_bad, nothing_kept, some_kept, settled_len, some_len, user_followed, user_kind, user_unsequenced}
use Rattle.s38_flush.proofs.GrownLaws.{journal_differs}
use Rattle.s38_flush.specs.Fronts.{front_parts, front_range}
use Rattle.s38_flush.specs.Growing.{tail_parts, tail_range}
use Rattle.s38_flush.specs.Stepping.{HasHeader, Precedes}

-- ---- outcomes

pub on_ok : {T E : Type 0} (r : Result T E) (P Q : Type 0) → (P → Q) → OnOk r P → OnOk r Q
on_ok (Ok x) P Q f h = f h
on_ok (Err e) P Q f h = tt

pub always : {T E : Type 0} (r : Result T E) (Q : Type 0) → Q → OnOk r Q
always (Ok x) Q h = h
always (Err e) Q h = tt

-- ---- an object that is kept whole

pub whole_has : (us : UnitMap) (h : Held) (o : Object) → IsStorable o → (head : Header) → stored_header (whole_stored us h o) ≡ head → head.body ≡ image_len o.body → header_codec.fits head ≡ true → HasHeader (whole_stored us h o)
whole_has us h o storable head is len fits = record {
  fits = ap (λ (x : Header). header_codec.fits x) is ∙ fits;
  long = ap (λ (x : Header). x.body) is ∙ len ∙ sym (settled_len us o.number.0 o.body);
  rows = storable.rows;
  user = λ user. user_unsequenced (last_sequence_in h (journal_for h o.number.0)) o.body o.id.kind storable.kind user;
}

-- ---- an object that is there

module _ (h : Held) (us : UnitMap) (m : Content) (d : Durable) (s : State) (p : Precedes h us m d s) (o : Object) where
  -- the state has these objects and units
  pub whole_same : whole_stored s.units s.held o ≡ whole_stored us h o
  whole_same = λ i. whole_stored (p.units i) (p.held i) o

  found : object h o.number.0 ≡ Some o → object s.held o.number.0 ≡ Some o
  found there = ap (λ (g : Held). object g o.number.0) p.held ∙ there

  -- each header that is kept can be read
  fit : Fit d
  fit n x is = (p.headers n x is).fits

  -- a user is kept whole
  pub user_follows : object h o.number.0 ≡ Some o → is_some (profile_of o.body) ≡ true → kind_of o.body ≡ o.id.kind → followed_or_whole s o (kept d.objects o.number.0) ≡ whole_stored us h o
  user_follows there user kind = by (kept d.objects o.number.0) refl ∙ whole_same
    where
      by : (x : Option Stored) → kept d.objects o.number.0 ≡ x → followed_or_whole s o x ≡ whole_stored s.units s.held o
      by None is = refl
      by (Some x) is = user_followed s o x user ((p.headers o.number.0 x is).user (p.kinds o.number.0 o x (found there) is ∙ user_kind o.body o.id.kind user kind))

  -- and so is an object of which nothing is kept
  pub none_follows : o.number.0 < ceiling_key → lens (get m (key_of o.number.0)) ≡ some_len None → followed_or_whole s o (kept d.objects o.number.0) ≡ whole_stored us h o
  none_follows low read = ap (λ (x : Option Stored). followed_or_whole s o x) (nothing_kept m d o.number.0 p.stands low fit read) ∙ whole_same

  pub never_read_badly : o.number.0 < ceiling_key → lens (get m (key_of o.number.0)) ≡ Some None → ⊥
  never_read_badly low read = never_bad m d o.number.0 p.stands low fit read

  module _ (len : ℕ) (low : o.number.0 < ceiling_key) (there : object h o.number.0 ≡ Some o) (read : lens (get m (key_of o.number.0)) ≡ some_len (Some len)) (user : is_some (profile_of o.body) ≡ false) (few : length o.rows ≤ 4096) where
    was : IsKeptLen d o.number.0 len
    was = some_kept m d o.number.0 len p.stands low fit read

    -- of another header and rows follow
    pub some_follows : IsTrue (is_name o.id.name) → differences (get m) (range_of o.number.0) (image_parts (followed_or_whole s o (kept d.objects o.number.0))) ≡ differences (get m) (front_range o.number.0) (front_parts o len)
    some_follows named =
        let n = o.number.0 in
        let x = was.stored in
        let has = p.headers n x was.is in
        let own : x.object.number.0 ≡ n = kept_number n d.objects x was.is in
        let number : x.object.number ≡ o.number = λ i. record { 0 = own i } in
        ap (λ (y : Option Stored). differences (get m) (range_of n) (image_parts (followed_or_whole s o y))) was.is
        ∙ front_differs m d o x len p.stands low was.is was.said has.fits has.rows (p.kinds n o x (found there) was.is) user (header_long (header_with o len) named) few number

    pub some_header : header_codec.fits (header_with o len) ≡ true → HasHeader (followed_or_whole s o (kept d.objects o.number.0))
    some_header fits =
        let n = o.number.0 in
        let x = was.stored in
        subst (λ (y : Option Stored). HasHeader (followed_or_whole s o y)) (sym was.is)
        (followed_header o x len user (p.kinds n o x (found there) was.is) was.said few fits (p.headers n x was.is))

  -- what differs of a journal space that must persist whole, of which so many bytes are kept
  pub grown_follows : (journal : JournalList) (len k : ℕ) → IsStorable o → o.number.0 < ceiling_key → object h o.number.0 ≡ Some o → lens (get m (key_of o.number.0)) ≡ some_len (Some len) → o.body ≡ bodies.Journal journal
      → entries_len journal.entries ≤ 16777216 → IsTrue (is_name o.id.name) → 512 * k ≤ len
      → differences (get m) (range_of o.number.0) (image_parts (whole_stored us h o))
      ≡ differences (get m) (front_range o.number.0) (front_parts o (entries_len journal.entries)) ++ differences (get m) (tail_range o.number.0 k (entries_len journal.entries)) (tail_parts o.number.0 k journal.entries)
  grown_follows journal len k storable low there read body short named within =
      let n = o.number.0 in
      let was = some_kept m d n len p.stands low fit read in
      let x = was.stored in
      let has = p.headers n x was.is in
      let own : x.object.number.0 ≡ n = kept_number n d.objects x was.is in
      let number : x.object.number ≡ o.number = λ i. record { 0 = own i } in
      let kind : o.id.kind ≡ kinds.Journal = sym storable.kind ∙ ap kind_of body in
      let last = last_sequence_in h (journal_for h n) in
      journal_differs m d o (whole_stored us h o) x journal len k p.stands low was.is was.said has number (p.kinds n o x (found there) was.is ∙ kind) kind (p.grows n o x journal (found there) was.is body)
      (ap (λ (b : Body). record o { on_disk = true; body = settled_body us n b }) body) (ap (λ (b : Body). settled_sequence last b) body)
      (header_long (header_with o (entries_len journal.entries)) named) storable.rows short within
