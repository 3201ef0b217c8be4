-- The parts of an object are of its number, rise, and none is the last part that a number may have.
use Rattle.std.proofs.Common.{◌≡◌, ℕ, zero, suc, ◌+◌, ◌*◌, ◌<◌, ◌≤◌, List, [], ◌∷◌, ◌++◌, length, lit≤, refl, sym, ◌∙◌, ap, arith}
use Rattle.std.specs.Prelude.{IsTrue}
use Rattle.std.specs.List.{AllByRecursion}
use Rattle.s38_base.specs.NameText.{is_name}
use Rattle.s38_base.specs.declared.page.Change.{Change}
use Rattle.s38_commits.specs.Units.{UnitMap}
use Rattle.s38_page_diff.proofs.WalkLaws.{part_below}
use Rattle.s38_page_diff.proofs.WantedLaws.{in_range}
use Rattle.s38_page_diff.specs.Differences.{IsWanted}
use Rattle.s38_image.proofs.AgainLaws.{rows_bytes_long}
use Rattle.s38_codec.proofs.FormatLaws.{length_copies}
use Rattle.s38_codec.specs.Codec.{copies}
use Rattle.s38_durable_state.specs.Represents.{ceiling_parts}
use Rattle.s38_image.specs.Bodies.{body_bytes}
use Rattle.s38_image.specs.Faults.{ceiling_page}
use Rattle.s38_image.specs.PartPlaces.{ceiling_key}
use Rattle.s38_image.specs.Headers.{header, rows}
use Rattle.s38_image.specs.Images.{image_of, image_parts, stored_header}
use Rattle.s38_image.specs.Pages.{needed, no_tags, numbered_pieces, page_pieces, page_put_at, stream_parts, zero_filled}
use Rattle.s38_image.specs.Settled.{committed_image}
use Rattle.s38_image_writer.proofs.LengthLaws.{header_long}
use Rattle.s38_page_diff.proofs.reconcile.SoFarLaws.{all_of, all_on}
use Rattle.s38_page_diff.specs.reconcile.Replacing.{last_part, short_range}
use Rattle.s38_rules.specs.declared.object.Object.{Object}
use Rattle.s38_vault.specs.Content.{AreRising}
use Rattle.s38_vault.specs.Keys.{IsBefore}

-- a part of a number, from one on, before another
pub record IsPart (object first until : ℕ) (c : Change) : Type 0 where
  pub of_it : c.key.object ≡ object
  pub from : first ≤ c.key.part
  pub before : c.key.part < until

pub record ArePart (object first until : ℕ) (cs : List Change) : Type 0 where
  pub each : AllByRecursion (IsPart object first until) cs
  pub rising : AreRising cs

pub rising_on : (c : Change) (cs : List Change) → AllByRecursion (λ d. IsBefore c.key d.key) cs → AreRising cs → AreRising (c ∷ cs)
rising_on c [] h rising = tt
rising_on c (d ∷ cs) h rising = (h.0, rising)

wider : (object first until from to : ℕ) (c : Change) → from ≤ first → until ≤ to → IsPart object first until c → IsPart object from to c
wider object first until from to c low high h = record { of_it = h.of_it; from = omega (arith, low, h.from); before = omega (arith, high, h.before) }

-- ---- a stream

one_more : (object first n : ℕ) (c : Change) (cs : List Change) → c.key.object ≡ object → c.key.part ≡ first → ArePart object (first + 1) (first + 1 + n) cs → ArePart object first (first + suc n) (c ∷ cs)
one_more object first n c cs of_it at rest = record {
  each = (record { of_it = of_it; from = omega (arith, at); before = omega (arith, at) }, all_of _ _ cs (λ d h. wider object (first + 1) (first + 1 + n) first (first + suc n) d (omega arith) (omega arith) h) rest.each);
  rising = rising_on c cs (all_of _ _ cs (λ d h. part_below c.key d.key (of_it ∙ sym h.of_it) (omega (arith, at, h.from))) rest.each) rest.rising;
}

numbered_parts : (object first n : ℕ) (xs tags : List ℕ) → ArePart object first (first + n) (numbered_pieces object first (page_pieces n xs) tags)
unfolding page_pieces numbered_pieces
numbered_parts object first zero xs tags = record { each = tt; rising = tt }
numbered_parts object first (suc n) xs [] = one_more object first n _ _ refl refl (numbered_parts object (first + 1) n _ [])
numbered_parts object first (suc n) xs (t ∷ tags) = one_more object first n _ _ refl refl (numbered_parts object (first + 1) n _ tags)

pub stream_part : (object first until : ℕ) (bytes tags : List ℕ) → first + needed (length bytes) ≤ until → ArePart object first until (stream_parts object first bytes tags)
stream_part object first until bytes tags fits =
    let n = needed (length bytes) in
    let all = numbered_parts object first n (zero_filled (512 * n) bytes) tags in
    record { each = all_of _ _ _ (λ c h. wider object first (first + n) first until c (omega arith) fits h) all.each; rising = all.rising }

-- ---- streams one after another

rising_both : (object middle : ℕ) (cs ds : List Change) → AllByRecursion (λ c. (c.key.object ≡ object) × (c.key.part < middle)) cs → AllByRecursion (λ d. (d.key.object ≡ object) × (middle ≤ d.key.part)) ds → AreRising cs → AreRising ds → AreRising (cs ++ ds)
rising_both object middle [] ds low high first last = last
rising_both object middle (c ∷ []) ds low high first last =
    rising_on c ds (all_of _ _ ds (λ d h. part_below c.key d.key (low.0.0 ∙ sym h.0) (omega (arith, low.0.1, h.1))) high) last
rising_both object middle (c ∷ d ∷ cs) ds low high first last = (first.0, rising_both object middle (d ∷ cs) ds low.1 high first.1 last)

pub both_parts : (object first middle until : ℕ) (cs ds : List Change) → first ≤ middle → middle ≤ until → ArePart object first middle cs → ArePart object middle until ds → ArePart object first until (cs ++ ds)
both_parts object first middle until cs ds low high a b = record {
  each =
      all_on (IsPart object first until) cs ds
      (all_of _ _ cs (λ c h. wider object first middle first until c (omega arith) high h) a.each)
      (all_of _ _ ds (λ d h. wider object middle until first until d low (omega arith) h) b.each);
  rising =
      rising_both object middle cs ds (all_of _ _ cs (λ c h. (h.of_it, h.before)) a.each) (all_of _ _ ds (λ d h. (h.of_it, h.from)) b.each) a.rising b.rising;
}

-- ---- an object

pub needed_most : (len most : ℕ) → len ≤ 512 * most → needed len ≤ most
needed_most len most h = omega arith

pub object_wanted : (units : UnitMap) (last : ℕ) (o : Object) (len : ℕ) → IsTrue (is_name o.id.name) → length o.rows ≤ 4096
    → length (body_bytes o.id.kind (image_of (committed_image units last o))) ≡ len → len ≤ 16777216 → IsWanted (short_range o.number.0) (image_parts (committed_image units last o))
object_wanted units last o len named few long short =
    let s = committed_image units last o in
    let n = o.number.0 in
    let front : 0 + needed (length (header.print (stored_header s))) ≤ 1 =
    omega (arith, needed_most (length (header.print (stored_header s))) 1 (omega (arith, header_long (stored_header s) named))) in
    let between : 1 + needed (length ((rows (length o.rows)).print o.rows)) ≤ 128 =
    omega (arith, needed_most (length ((rows (length o.rows)).print o.rows)) 127 (omega (arith, rows_bytes_long o.rows, few))) in
    let behind : 128 + needed (length (body_bytes o.id.kind (image_of s))) ≤ last_part =
    omega (arith, needed_most (length (body_bytes o.id.kind (image_of s))) 32768 (omega (arith, long, short))) in
    let head = stream_part n 0 1 (header.print (stored_header s)) _ front in
    let middle = stream_part n 1 128 ((rows (length o.rows)).print o.rows) _ between in
    let tail = stream_part n 128 last_part (body_bytes o.id.kind (image_of s)) _ behind in
    let all = both_parts n 0 1 last_part _ _ (lit≤ tt) (lit≤ tt) head (both_parts n 1 128 last_part _ _ (lit≤ tt) (lit≤ tt) middle tail) in
    record {
      rising = all.rising;
      in_range = all_of _ _ _ (λ c h. in_range (short_range n) c.key h.of_it (omega arith) h.before) all.each;
    }

-- ---- the ceiling

-- where all tags are 0 none need be said
pub zero_tags : (number first k : ℕ) (pages : List (List ℕ)) → numbered_pieces number first pages (copies k 0) ≡ numbered_pieces number first pages []
unfolding numbered_pieces copies
zero_tags number first k [] = refl
zero_tags number first zero (xs ∷ pages) = refl
zero_tags number first (suc k) (xs ∷ pages) = ap (λ (t : List Change). page_put_at number first xs 0 ∷ t) (zero_tags number (first + 1) k pages)

print_long : (ceiling : ℕ) → length (ceiling_page.print ceiling) ≡ 512
print_long ceiling = let z : length {A = ℕ} (copies 496 0) ≡ 496 = length_copies {A = ℕ} 496 0 in omega (arith, z)

pub ceiling_pieces : (ceiling : ℕ) → stream_parts ceiling_key 0 (ceiling_page.print ceiling) [] ≡ ceiling_parts ceiling
ceiling_pieces ceiling =
    let bytes = ceiling_page.print ceiling in
    let n = needed (length bytes) in
    sym (zero_tags ceiling_key 0 n (page_pieces n (zero_filled (512 * n) bytes)))

pub ceiling_wanted : (ceiling : ℕ) → IsWanted (short_range ceiling_key) (ceiling_parts ceiling)
ceiling_wanted ceiling =
    let all = stream_part ceiling_key 0 last_part (ceiling_page.print ceiling) (no_tags ceiling_page ceiling) (omega (arith, needed_most (length (ceiling_page.print ceiling)) 1 (omega (arith, print_long ceiling)))) in
    record {
      rising = all.rising;
      in_range = all_of _ _ _ (λ c h. in_range (short_range ceiling_key) c.key h.of_it (omega arith) h.before) all.each;
    }
