-- The ceiling that the parts of a store say is one of its form.
use Rattle.std.proofs.Common.{◌≡◌, ℕ, ◌+◌, ◌≤◌, ◌==◌, Bool, true, List, length, refl, subst, arith}
use Rattle.std.proofs.lemmas.Bool.Decides.{nat_tests}
use Rattle.std.specs.Prelude.{Option, Some, None, nat_le, if◌then◌else◌}
use Rattle.std.specs.List.{list_all}
use Rattle.std.specs.Option.{unwrap_or}
use Rattle.s38_base.specs.Limits.{ceiling_step, last_number}
use Rattle.s38_base.specs.declared.page.Change.{Change}
use Rattle.s38_codec.specs.Codec.{Codec, byte_is_zero, bytes, dependent_pair, only, seen, ◌>>=◌}
use Rattle.s38_codec.specs.Formats.{u32, u64}
use Rattle.s38_codec.proofs.CodecLaws.{bind_some, guard_some, some_is}
use Rattle.s38_restart.specs.catalog.Groups.{parts_of_number}
use Rattle.s38_restart.specs.catalog.Stores.{ceiling_of}
use Rattle.s38_image.specs.Faults.{ceiling_by, ceiling_fields, ceiling_in, ceiling_page, is_ceiling, is_ceiling_mark}
use Rattle.s38_image.specs.PartPlaces.{ceiling_key, rows_part}
use Rattle.s38_image.specs.Images.{leading}
use Rattle.s38_image.specs.Pages.{no_tags, stream_of, tagged_right, tags_in}

-- ---- what is there where a format was read

only_some : {A : Type 0} (t : A → Bool) (c : Codec A) (bs : List ℕ) (x : A) (rest : List ℕ) → (only t c).read bs ≡ Some (x, rest) → t x ≡ true
only_some {A} t c bs x rest e =
    let y = bind_some (c.read bs) (λ (z : A × List ℕ). if t z.0 then Some z else None) (x, rest) e in
    let g = guard_some (t y.0.0) y.0 (x, rest) y.2 in
    subst (λ (z : A × List ℕ). t z.0 ≡ true) g.1 g.0

first_some : {A B : Type 0} (a : Codec A) (b : A → Codec B) (bs : List ℕ) (x : A × B) (rest : List ℕ) → (dependent_pair a b).read bs ≡ Some (x, rest) → (mid : List ℕ) × (a.read bs ≡ Some (x.0, mid))
first_some {A} {B} a b bs x rest e =
    let p = bind_some (a.read bs) (λ (y : A × List ℕ). (b y.0).read y.1 >>= λ z. Some ((y.0, z.0), z.1)) (x, rest) e in
    let q = bind_some ((b p.0.0).read p.0.1) (λ (z : B × List ℕ). Some ((p.0.0, z.0), z.1)) (x, rest) p.2 in
    let same : ((p.0.0, q.0.0), q.0.1) ≡ (x, rest) = some_is _ _ q.2 in
    (p.0.1, subst (λ (z : (A × B) × List ℕ). a.read bs ≡ Some (z.0.0, p.0.1)) same p.1)

second_some : {A B : Type 0} (a : Codec A) (b : A → Codec B) (bs : List ℕ) (x : A × B) (rest : List ℕ) → (dependent_pair a b).read bs ≡ Some (x, rest) → (mid : List ℕ) × ((b x.0).read mid ≡ Some (x.1, rest))
second_some {A} {B} a b bs x rest e =
    let p = bind_some (a.read bs) (λ (y : A × List ℕ). (b y.0).read y.1 >>= λ z. Some ((y.0, z.0), z.1)) (x, rest) e in
    let q = bind_some ((b p.0.0).read p.0.1) (λ (z : B × List ℕ). Some ((p.0.0, z.0), z.1)) (x, rest) p.2 in
    let same : ((p.0.0, q.0.0), q.0.1) ≡ (x, rest) = some_is _ _ q.2 in
    (p.0.1, subst (λ (z : (A × B) × List ℕ). (b z.0.0).read p.0.1 ≡ Some (z.0.1, z.1)) same q.1)

-- ---- the page of the ceiling

abbrev unused : Codec (List ℕ)
unused = only (λ xs. list_all byte_is_zero xs) (bytes 496)

abbrev number_part : Codec (ℕ × List ℕ)
number_part = dependent_pair (only is_ceiling u64) (λ _. unused)

abbrev zero_part : Codec (ℕ × (ℕ × List ℕ))
zero_part = dependent_pair (only byte_is_zero u32) (λ _. number_part)

abbrev ceiling_format : Codec (ℕ × (ℕ × (ℕ × List ℕ)))
ceiling_format = dependent_pair (only is_ceiling_mark u32) (λ _. zero_part)

format_says : (bs : List ℕ) (x : ℕ × (ℕ × (ℕ × List ℕ))) (rest : List ℕ) → ceiling_format.read bs ≡ Some (x, rest) → is_ceiling (ceiling_by x) ≡ true
format_says bs x rest e =
    let a = second_some (only is_ceiling_mark u32) (λ _. zero_part) bs x rest e in
    let b = second_some (only byte_is_zero u32) (λ _. number_part) a.0 x.1 rest a.1 in
    let c = first_some (only is_ceiling u64) (λ _. unused) b.0 x.1.1 rest b.1 in
    only_some is_ceiling u64 b.0 x.1.1.0 c.0 c.1

page_says : (bs : List ℕ) (n : ℕ) → ceiling_page.read bs ≡ Some n → is_ceiling n ≡ true
page_says bs n e =
    let w = bind_some ((seen ceiling_by ceiling_fields ceiling_format).read bs) (λ (x : ℕ × List ℕ). if length x.1 == 0 then Some x.0 else None) n e in
    let whole = guard_some (length w.0.1 == 0) w.0.0 n w.2 in
    let v = bind_some (ceiling_format.read bs) (λ (x : (ℕ × (ℕ × (ℕ × List ℕ))) × List ℕ). Some (ceiling_by x.0, x.1)) w.0 w.1 in
    let same : (ceiling_by v.0.0, v.0.1) ≡ w.0 = some_is _ _ v.2 in
    subst (λ (k : ℕ). is_ceiling k ≡ true) whole.1 (subst (λ (z : ℕ × List ℕ). is_ceiling z.0 ≡ true) same (format_says bs v.0.0 v.0.1 v.1))

parts_say : (parts : List Change) (n : ℕ) → ceiling_in parts ≡ Some n → is_ceiling n ≡ true
parts_say parts n e =
    let front = leading rows_part parts in
    let a = bind_some (stream_of ceiling_key 0 512 front) (λ (bs : List ℕ). ceiling_page.read bs >>= λ x. tagged_right (no_tags ceiling_page) (tags_in front) x) n e in
    let b = bind_some (ceiling_page.read a.0) (λ (x : ℕ). tagged_right (no_tags ceiling_page) (tags_in front) x) n a.2 in
    let same = guard_some _ b.0 n b.2 in
    subst (λ (k : ℕ). is_ceiling k ≡ true) same.1 (page_says a.0 b.0 b.1)

at_most : (a b : ℕ) → nat_le a b ≡ true → a ≤ b
at_most a b h = grind (arith, nat_tests)

-- a ceiling that is missing or at fault is 0
pub ceiling_bound : (parts : List Change) → ceiling_of parts ≤ last_number + ceiling_step
ceiling_bound parts = by (ceiling_in (parts_of_number ceiling_key parts)) refl
  where
    by : (o : Option ℕ) → ceiling_in (parts_of_number ceiling_key parts) ≡ o → unwrap_or (ceiling_in (parts_of_number ceiling_key parts)) 0 ≤ last_number + ceiling_step
    by None e = rw e (omega arith)
    by (Some n) e = rw e (at_most n (last_number + ceiling_step) (parts_say (parts_of_number ceiling_key parts) n e))
