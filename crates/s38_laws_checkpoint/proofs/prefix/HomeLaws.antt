-- A store has parts of 32 bits alone, if its blocks are of bytes.
use Rattle.std.proofs.Common.{◌≡◌, ◌∙◌, ℕ, zero, suc, ◌+◌, ◌<◌, ◌==◌, ◌^◌, Bool, true, false, cond, List, [], ◌∷◌, drop, take, refl, subst, arith, slice_index}
use Rattle.std.specs.FinMap.{get}
use Rattle.std.specs.Int.{from_be_bytes, w32}
use Rattle.std.specs.List.{AllByRecursion}
use Rattle.std.specs.Prelude.{None, Option, Some, is_some}
use Rattle.s38_base.specs.declared.page.Key.{Key}
use Rattle.s38_base.specs.declared.page.Page.{Page}
use Rattle.s38_redo_log.specs.Coding.{is_up, key_in}
use Rattle.s38_redo_log.specs.Store.{RecoversTo, entries_from, entries_written, log_count, log_data, log_of, log_replayed}
use Rattle.s38_redo_log.specs.declared.layout.Layout.{Layout}
use Rattle.s38_redo_log.specs.declared.layout.Slot.{Slot}
use Rattle.s38_disk.specs.Blocks.{put}
use Rattle.s38_disk.specs.declared.block.Block.{Block}
use Rattle.s38_durable_state.specs.Represents.{parts_end}
use Rattle.s38_page_diff.proofs.WantedLaws.{pages_held}
use Rattle.s38_laws_flush.specs.durable.Kept.{HasParts}
use Rattle.s38_vault.specs.Content.{Content}
use Rattle.s38_vault.specs.Directory.{keys_of}
use Rattle.s38_laws_checkpoint.specs.prefix.Bytes.{AreOfBytes, IsOfBytes}

-- ---- bytes of lists

abbrev AreBytes : List ℕ → Type 0
AreBytes bytes = (k : ℕ) → slice_index bytes k < 256

bytes_none : AreBytes []
bytes_none k = omega arith

bytes_more : (b : ℕ) (bs : List ℕ) → b < 256 → AreBytes bs → AreBytes (b ∷ bs)
bytes_more b bs low are zero = low
bytes_more b bs low are (suc k) = are k

bytes_drop : (n : ℕ) (bs : List ℕ) → AreBytes bs → AreBytes (drop n bs)
bytes_drop zero bs are = are
bytes_drop (suc n) [] are = are
bytes_drop (suc n) (b ∷ bs) are = bytes_drop n bs (λ k. are (suc k))

bytes_take : (n : ℕ) (bs : List ℕ) → AreBytes bs → AreBytes (take n bs)
bytes_take zero bs are = bytes_none
bytes_take (suc n) [] are = are
bytes_take (suc n) (b ∷ bs) are = bytes_more b (take n bs) (are 0) (bytes_take n bs (λ k. are (suc k)))

-- a number of four bytes
four_low : (bs : List ℕ) → AreBytes bs → from_be_bytes w32 bs < 2 ^ 32
four_low bs are =
    let a = are 0 in
    let b = are 1 in
    let c = are 2 in
    let d = are 3 in
    omega (arith, a, b, c, d)

part_low : (b : Block) → IsOfBytes b → (key_in b).part < parts_end
unfolding key_in
part_low b are = four_low (take 4 (drop 8 b.bytes)) (bytes_take 4 (drop 8 b.bytes) (bytes_drop 8 b.bytes are))

-- ---- blocks once a log is done again

entries_bytes : (f : ℕ → Block) (at j left : ℕ) → AreOfBytes f → AllByRecursion (λ (e : Slot). IsOfBytes e.block) (entries_from f at j left)
entries_bytes f at j zero are = tt
entries_bytes f at j (suc left) are = (are (at + j), entries_bytes f at (suc j) left are)

put_bytes : (at : ℕ) (b : Block) (f : ℕ → Block) → IsOfBytes b → AreOfBytes f → AreOfBytes (put at b f)
put_bytes at b f own are = λ i. by i (i == at)
  where
    by : (i : ℕ) (c : Bool) → IsOfBytes (cond c b (f i))
    by i true = own
    by i false = are i

done_bytes : (es : List Slot) (f : ℕ → Block) → AllByRecursion (λ (e : Slot). IsOfBytes e.block) es → AreOfBytes f → AreOfBytes (entries_written es f)
done_bytes [] f each are = are
done_bytes (e ∷ es) f each are = done_bytes es (put e.home e.block f) each.1 (put_bytes e.home e.block f each.0 are)

log_bytes : (f : ℕ → Block) → AreOfBytes f → AllByRecursion (λ (e : Slot). IsOfBytes e.block) (log_of f)
unfolding log_of
log_bytes f are = entries_bytes f (log_data (log_count f)) 0 (log_count f) are

redone_bytes : (f : ℕ → Block) → AreOfBytes f → AreOfBytes (log_replayed f)
redone_bytes f are = by (is_up (f 1))
  where
    by : (b : Bool) → AreOfBytes (cond b (entries_written (log_of f) f) f)
    by true = done_bytes (log_of f) f (log_bytes f are) are
    by false = are

-- ---- a store

pub store_parts : (lay : Layout) (f : ℕ → Block) (m : Content) → RecoversTo lay f m → AreOfBytes f → HasParts m
store_parts lay f m stands are key there = by (get m key) refl (pages_held (keys_of m) m refl key ∙ there)
  where
    by : (page : Option Page) → get m key ≡ page → is_some page ≡ true → key.part < parts_end
    by None is some = absurd (cc)
    by (Some page) is some =
        let home = stands.holds.found key page is in
        subst (λ (k : Key). k.part < parts_end) home.3 (part_low (log_replayed f home.0) (redone_bytes f are home.0))
