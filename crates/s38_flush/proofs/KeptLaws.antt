-- What is kept of an object, as a content says it, and what differs of it after a step.
use Rattle.std.proofs.Common.{◌==◌, ◌+◌, ◌≡◌, ◌<◌, ◌≤◌, ◌∙◌, ◌∷◌, ◌++◌, [], Bool, List, None, Option, Some, ap, arith, cond, false, length, lit≤, refl, subst, sym, true, ℕ}
use Rattle.std.proofs.lemmas.Bool.Decides.{nat_tests}
use Rattle.std.specs.FinMap.{get}
use Rattle.std.specs.List.{AllByRecursion}
use Rattle.std.specs.Option.{option_map}
use Rattle.std.specs.Prelude.{is_some}
use Rattle.s38_base.specs.declared.id.ObjNum.{ObjNum}
use Rattle.s38_base.specs.declared.id.Kind.{Kind}
use Rattle.s38_base.specs.declared.id.Kind.TheVariants as kinds
use Rattle.s38_base.specs.declared.page.Change.{Change}
use Rattle.s38_base.specs.declared.page.Key.{Key}
use Rattle.s38_base.specs.declared.page.Page.{Page}
use Rattle.s38_commits.specs.Units.{UnitMap}
use Rattle.s38_dataspaces.specs.Table.{data_space_image_size}
use Rattle.s38_durable_state.specs.Durable.{Durable, body_after, kept, last_sequence_in, whole_object, with_header_and_rows}
use Rattle.s38_durable_state.specs.Represents.{Represents, parts_end, parts_in}
use Rattle.s38_page_diff.proofs.LookLaws.{differences_rising, each_difference}
use Rattle.s38_page_diff.proofs.WalkLaws.{key_at}
use Rattle.s38_page_diff.proofs.WantedLaws.{inside}
use Rattle.s38_page_diff.specs.Differences.{HavePages, differences, wanted_at}
use Rattle.s38_page_diff.specs.declared.range.PartRange.{PartRange}
use Rattle.s38_image.proofs.AgainLaws.{header_long}
use Rattle.s38_image.proofs.HeaderLaws.{header_is}
use Rattle.s38_image.specs.Bodies.{BodyImage, body_bytes}
use Rattle.s38_image.specs.PartPlaces.{ceiling_key}
use Rattle.s38_image.specs.Fitting.{header_codec}
use Rattle.s38_image.specs.Headers.{header}
use Rattle.s38_image.specs.Images.{body_parts, image_of, image_parts, stored_header}
use Rattle.s38_image.specs.Settled.{settled_body, settled_sequence}
use Rattle.s38_image.specs.Pages.{needed}
use Rattle.s38_image.specs.declared.header.Header.{Header}
use Rattle.s38_image.specs.declared.stored.Stored.{Stored}
use Rattle.s38_image_writer.proofs.DataLaws.{settled_length}
use Rattle.s38_image_writer.specs.Parts.{header_with}
use Rattle.s38_page_diff.specs.reconcile.Replacing.{range_of}
use Rattle.s38_page_diff.specs.reconcile.Walking.{AreAt}
use Rattle.s38_rules.specs.state.Held.{kind_of}
use Rattle.s38_rules.specs.state.Journaling.{journal_for}
use Rattle.s38_rules.specs.store.Room.{image_len}
use Rattle.s38_rules.specs.state.Parts.{profile_of}
use Rattle.s38_rules.specs.state.State.{State}
use Rattle.s38_rules.specs.declared.object.Body.{Body}
use Rattle.s38_rules.specs.declared.object.Body.TheVariants as bodies
use Rattle.s38_rules.specs.declared.object.Object.{Object}
use Rattle.s38_vault.specs.Content.{Content}
use Rattle.s38_vault.specs.Directory.{Keys}
use Rattle.s38_flush.proofs.AfterLaws.{parts_below}
use Rattle.s38_page_diff.proofs.reconcile.SoFarLaws.{all_of}
use Rattle.s38_checkpoint.proofs.PartLaws.{ArePart}
use Rattle.s38_flush.proofs.FrontLaws.{first_part, front_are, page_of_header, parts_split, stream_from, wanted_after, wanted_before}
use Rattle.s38_flush.proofs.NarrowLaws.{narrowed}
use Rattle.s38_flush.specs.Fronts.{AddsAt, front_parts, front_range, len_in}
use Rattle.s38_flush.specs.Stepping.{HasHeader}

-- ---- changes at a number

own_differences : (pages : Key → Option Page) (range : PartRange) (wanted : List Change) → AllByRecursion (λ c. c.key.object ≡ range.object) (differences pages range wanted)
own_differences pages range wanted = all_of _ _ (differences pages range wanted) (λ c h. (inside range c.key h.in_range).object) (each_difference pages range wanted)

-- differences of whatever pages were read are changes of their number
pub adds_read : (keys : Keys) (range : PartRange) (wanted old new : List Change) → (pages : Key → Option Page) × (HavePages keys pages × (new ≡ old ++ differences pages range wanted)) → AddsAt range.object old new
adds_read keys range wanted old new read = record {
  more = differences read.0 range wanted;
  added = read.1.1;
  own = own_differences read.0 range wanted;
  rising = differences_rising read.0 range wanted;
}

pub adds_at : (keys : Keys) (holds : Content → Type 0) (n : ℕ) (wanted old new : List Change) → AreAt keys holds n wanted old new → AddsAt n old new
adds_at keys holds n wanted old new at = adds_read keys (range_of n) wanted old new (at.pages, (at.have, at.read))

-- ---- what a content says

pub kept_number : (n : ℕ) (xs : List Stored) (x : Stored) → kept xs n ≡ Some x → x.object.number.0 ≡ n
kept_number n [] x h = cc
kept_number n (y ∷ xs) x h = by (kept_number n xs x) (y.object.number.0 == n) refl h
  where
    same : Some y ≡ Some x → y ≡ x
    same e = cc

    by : (kept xs n ≡ Some x → x.object.number.0 ≡ n) → (b : Bool) → (y.object.number.0 == n) ≡ b → cond b (Some y) (kept xs n) ≡ Some x → x.object.number.0 ≡ n
    by rest true is h = let here : y.object.number.0 ≡ n = grind (arith, nat_tests) in subst (λ (z : Stored). z.object.number.0 ≡ n) (same h) here
    by rest false is h = rest h

-- a part of a number is that of what is kept under it
pub page_kept : (m : Content) (d : Durable) (n p : ℕ) (x : Option Stored) → Represents m d → n < ceiling_key → p < parts_end → kept d.objects n ≡ x → get m (key_at n p) ≡ wanted_at (parts_in x) (key_at n p)
page_kept m d n p x stands low near is =
    stands.each (key_at n p) near
    ∙ ap (λ (cs : List Change). wanted_at cs (key_at n p)) (parts_below d n low ∙ ap parts_in is)

-- what is kept under a number has its header there
header_kept : (m : Content) (d : Durable) (n : ℕ) (x : Stored) → Represents m d → n < ceiling_key → kept d.objects n ≡ Some x → header_codec.fits (stored_header x) ≡ true → get m (key_at n 0) ≡ Some (page_of_header (stored_header x))
header_kept m d n x stands low is fits =
    page_kept m d n 0 (Some x) stands low (lit≤ tt) is
    ∙ ap (λ (k : ℕ). wanted_at (image_parts x) (key_at k 0)) (sym (kept_number n d.objects x is))
    ∙ first_part x (header_long (stored_header x) fits)

len_kept : (h : Header) → header_codec.fits h ≡ true → len_in (page_of_header h) ≡ Some h.body
len_kept h fits = ap (option_map (λ (g : Header). g.body)) (header_is.again h fits)

abbrev pub key_of : ℕ → Key
key_of n = record { object = n; part = 0 }

-- every header that is kept can be read
abbrev pub Fit : Durable → Type 0
Fit d = (n : ℕ) (x : Stored) → kept d.objects n ≡ Some x → header_codec.fits (stored_header x) ≡ true

abbrev pub lens : Option Page → Option (Option ℕ)
lens page = option_map len_in page

abbrev pub some_len : Option ℕ → Option (Option ℕ)
some_len found = option_map (λ (len : ℕ). Some len) found

-- nothing is kept where there is no header
pub nothing_kept : (m : Content) (d : Durable) (n : ℕ) → Represents m d → n < ceiling_key → Fit d → lens (get m (key_of n)) ≡ some_len None → kept d.objects n ≡ None
nothing_kept m d n stands low fit read = by (kept d.objects n) refl
  where
    by : (x : Option Stored) → kept d.objects n ≡ x → x ≡ None
    by None is = refl
    by (Some x) is =
        let page = header_kept m d n x stands low is (fit n x is) in
        absurd (apart (sym read ∙ ap lens page))
      where
        apart : some_len None ≡ lens (Some (page_of_header (stored_header x))) → ⊥
        apart e = cc

-- what was read of a header is the length of the body that is kept
pub record IsKeptLen (d : Durable) (n len : ℕ) : Type 0 where
  pub stored : Stored
  pub is : kept d.objects n ≡ Some stored
  pub said : (stored_header stored).body ≡ len

same_len : (a b : ℕ) → some_len (Some a) ≡ some_len (Some b) → a ≡ b
same_len a b e = cc

pub some_kept : (m : Content) (d : Durable) (n len : ℕ) → Represents m d → n < ceiling_key → Fit d → lens (get m (key_of n)) ≡ some_len (Some len) → IsKeptLen d n len
some_kept m d n len stands low fit read = by (kept d.objects n) refl
  where
    by : (x : Option Stored) → kept d.objects n ≡ x → IsKeptLen d n len
    by None is =
        let page : get m (key_of n) ≡ None = page_kept m d n 0 None stands low (lit≤ tt) is in
        absurd (apart (sym (ap lens page) ∙ read))
      where
        apart : lens None ≡ some_len (Some len) → ⊥
        apart e = cc
    by (Some x) is =
        let fits = fit n x is in
        let page = header_kept m d n x stands low is fits in
        let one : lens (Some (page_of_header (stored_header x))) ≡ some_len (Some (stored_header x).body) = ap (λ (o : Option ℕ). Some o) (len_kept (stored_header x) fits) in
        record { stored = x; is = is; said = same_len (stored_header x).body len (sym one ∙ sym (ap lens page) ∙ read) }

-- a header that is kept is no bad one
pub never_bad : (m : Content) (d : Durable) (n : ℕ) → Represents m d → n < ceiling_key → Fit d → lens (get m (key_of n)) ≡ Some None → ⊥
never_bad m d n stands low fit read = by (kept d.objects n) refl
  where
    by : (x : Option Stored) → kept d.objects n ≡ x → ⊥
    by None is =
        let page : get m (key_of n) ≡ None = page_kept m d n 0 None stands low (lit≤ tt) is in
        apart (sym (ap lens page) ∙ read)
      where
        apart : lens None ≡ Some None → ⊥
        apart e = cc
    by (Some x) is =
        let fits = fit n x is in
        let page = header_kept m d n x stands low is fits in
        let one : lens (Some (page_of_header (stored_header x))) ≡ some_len (Some (stored_header x).body) = ap (λ (o : Option ℕ). Some o) (len_kept (stored_header x) fits) in
        apart (sym one ∙ sym (ap lens page) ∙ read)
      where
        apart : some_len (Some (stored_header x).body) ≡ Some None → ⊥
        apart e = cc

-- ---- of an object the body stays, and the rest follows

behind_same : (b old : Body) → is_some (profile_of b) ≡ false → body_after b old ≡ old
behind_same (bodies.Profile special limit) old none = absurd cc
behind_same _ old none = refl

-- the parts of a body hang on its number, its kind and its image alone
body_same : (x y : Stored) → x.object.number ≡ y.object.number → x.object.id.kind ≡ y.object.id.kind → image_of x ≡ image_of y → body_parts x ≡ body_parts y
body_same x y number kind image =
    ap (λ k. body_parts (record x { object = record x.object { number = k } })) number
    ∙ ap (λ (k : Kind). body_parts (record x { object = record x.object { number = y.object.number; id = record x.object.id { kind = k } } })) kind
    ∙ ap (λ (i : BodyImage). body_parts (record { object = record x.object { number = y.object.number; id = record x.object.id { kind = y.object.id.kind }; body = i.body }; sequence = i.sequence })) image

-- it is as long as the header says that is kept
image_same : (o : Object) (x : Stored) → is_some (profile_of o.body) ≡ false → image_of (with_header_and_rows o x) ≡ image_of x
image_same o x user = ap (λ (b : Body). record { body = b; sequence = x.sequence }) (behind_same o.body x.object.body user)

followed_len : (o : Object) (x : Stored) (len : ℕ) → is_some (profile_of o.body) ≡ false → x.object.id.kind ≡ o.id.kind → (stored_header x).body ≡ len → length (body_bytes o.id.kind (image_of (with_header_and_rows o x))) ≡ len
followed_len o x len user kind said =
    ap (λ (i : BodyImage). length (body_bytes o.id.kind i)) (image_same o x user) ∙ ap (λ (k : Kind). length (body_bytes k (image_of x))) (sym kind) ∙ said

module _ (m : Content) (d : Durable) (o : Object) (x : Stored) (len : ℕ) where
  pub front_differs : Represents m d → o.number.0 < ceiling_key → kept d.objects o.number.0 ≡ Some x → (stored_header x).body ≡ len → header_codec.fits (stored_header x) ≡ true → length x.object.rows ≤ 4096
      → x.object.id.kind ≡ o.id.kind → is_some (profile_of o.body) ≡ false → length (header.print (header_with o len)) ≡ 512 → length o.rows ≤ 4096 → x.object.number ≡ o.number
      → differences (get m) (range_of o.number.0) (image_parts (with_header_and_rows o x)) ≡ differences (get m) (front_range o.number.0) (front_parts o len)
  front_differs stands low is said fits few kind user long rows number =
      let n = o.number.0 in
      let f = with_header_and_rows o x in
      let bytes : length (body_bytes o.id.kind (image_of f)) ≡ len = followed_len o x len user kind said in
      let body : body_parts f ≡ body_parts x = body_same f x (sym number) (sym kind) (image_same o x user) in
      let whole_object : image_parts f ≡ front_parts o len ++ body_parts x =
      parts_split f ∙ (λ i. front_parts o (bytes i) ++ body i) in
      let front = front_are o len long rows in
      let before : ArePart n 0 128 (front_parts x.object (stored_header x).body) =
      subst (λ (k : ObjNum). ArePart k.0 0 128 (front_parts x.object (stored_header x).body)) number (front_are x.object (stored_header x).body (header_long (stored_header x) fits) few) in
      let until = 128 + needed (length (body_bytes x.object.id.kind (image_of x))) in
      let behind : ArePart n 128 until (body_parts x) =
      subst (λ (k : ObjNum). ArePart k.0 128 until (body_parts x)) number (stream_from x.object.number.0 128 (body_bytes x.object.id.kind (image_of x)) _) in
      narrowed (get m) n 128 parts_end (image_parts f) (front_parts o len) (lit≤ tt)
      (λ p near. ap (λ (cs : List Change). wanted_at cs (key_at n p)) whole_object ∙ wanted_before n 128 until p (front_parts o len) (body_parts x) behind near)
      (λ p far near.
      page_kept m d n p (Some x) stands low near is
      ∙ ap (λ (cs : List Change). wanted_at cs (key_at n p)) (parts_split x)
      ∙ wanted_after n 0 128 p (front_parts x.object (stored_header x).body) (body_parts x) before far
      ∙ sym (ap (λ (cs : List Change). wanted_at cs (key_at n p)) whole_object ∙ wanted_after n 0 128 p (front_parts o len) (body_parts x) front far))

-- the header follows too
pub followed_header : (o : Object) (x : Stored) (len : ℕ) → is_some (profile_of o.body) ≡ false → x.object.id.kind ≡ o.id.kind → (stored_header x).body ≡ len → length o.rows ≤ 4096 → header_codec.fits (header_with o len) ≡ true
    → HasHeader x → HasHeader (with_header_and_rows o x)
followed_header o x len user kind said few fits has = record {
  fits = ap (λ (k : ℕ). header_codec.fits (header_with o k)) (followed_len o x len user kind said) ∙ fits;
  long = followed_len o x len user kind said ∙ sym said ∙ has.long ∙ sym (ap image_len (behind_same o.body x.object.body user));
  rows = few;
  user = λ is. has.user (kind ∙ is);
}

-- ---- a user is kept whole

pub user_kind : (b : Body) (k : Kind) → is_some (profile_of b) ≡ true → kind_of b ≡ k → k ≡ kinds.Profile
user_kind (bodies.Profile special limit) k user kind = sym kind
user_kind _ k user kind = absurd cc

-- an object with this body and this sequence
abbrev with_body : Object → Body → ℕ → Stored
with_body o b sequence = record { object = record o { on_disk = true; body = b }; sequence = sequence }

user_by : (units : UnitMap) (last : ℕ) (o : Object) (b : Body) (x : Stored) → is_some (profile_of b) ≡ true → x.sequence ≡ 0
    → with_body o (body_after b x.object.body) x.sequence ≡ with_body o (settled_body units o.number.0 b) (settled_sequence last b)
user_by units last o (bodies.Profile special limit) x user none = ap (λ (q : ℕ). with_body o (bodies.Profile special limit) q) none
user_by units last o _ x user none = absurd cc

pub user_followed : (s : State) (o : Object) (x : Stored) → is_some (profile_of o.body) ≡ true → x.sequence ≡ 0 → with_header_and_rows o x ≡ whole_object s o
user_followed s o x user none = user_by s.units (last_sequence_in s.held (journal_for s.held o.number.0)) o o.body x user none

-- as long as before, with every uncommitted change taken back
pub settled_len : (units : UnitMap) (n : ℕ) (b : Body) → image_len (settled_body units n b) ≡ image_len b
settled_len units n (bodies.DataSpace held) = ap (data_space_image_size held.space.fields) (settled_length units n 1 held.space.entries)
settled_len units n (bodies.Journal j) = refl
settled_len units n _ = refl

-- no sequence is said of a user that is kept whole
pub user_unsequenced : (last : ℕ) (b : Body) (k : Kind) → kind_of b ≡ k → k ≡ kinds.Profile → settled_sequence last b ≡ 0
user_unsequenced last (bodies.DataSpace held) k kind is = absurd (let e : kinds.DataSpace ≡ kinds.Profile = kind ∙ is in cc)
user_unsequenced last _ k kind is = refl
