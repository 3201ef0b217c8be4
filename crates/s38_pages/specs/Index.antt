-- The index in memory: which home holds each key, and which homes are used.
use Rattle.std.specs.Prelude.{◌≡◌, ◌≤◌, ◌<◌, ◌+◌, ◌-◌, ◌==◌, ◌&&◌, ◌||◌, ◌⊎◌, not, ℕ, suc, nat_le, nat_lt, Bool, true, false, cond, List, [], ◌∷◌, length, get_or, replicate, slice_set, ◌++◌, Option, Some, None}
use Rattle.std.specs.FinMap.{FinMap, get}
use Rattle.std.specs.Ordering.{eq_by_cmp}
use Rattle.s38_disk.specs.declared.block.Block.{Block}
use Rattle.s38_base.specs.declared.page.Key.{Key}
use Rattle.s38_base.specs.declared.page.Page.{Page}
use Rattle.s38_base.specs.declared.page.Change.{Change}
use Rattle.s38_vault.specs.Content.{Content, changed}
use Rattle.s38_vault.specs.Directory.{changed_keys, gone_keys, keys_of, new_keys}
use Rattle.s38_vault.specs.Keys.{key_cmp}
use Rattle.s38_redo_log.specs.declared.layout.Layout.{Layout}
use Rattle.s38_redo_log.specs.declared.layout.Slot.{Slot}
use Rattle.s38_redo_log.specs.Coding.{home_is_used, key_in, page_in}
use Rattle.s38_redo_log.specs.Store.{AreHomes, entries_written, is_home, targets}

-- which home holds each key
abbrev pub Homes : Type 0
Homes = FinMap key_cmp ℕ

abbrev pub Index : Type 0
Index = Key → Option ℕ

abbrev pub with_home : Index → Key → Option ℕ → Index
with_home ix k h q = cond (eq_by_cmp key_cmp q k) h (ix q)

abbrev pub page_at : (ℕ → Block) → Option ℕ → Option Page
page_at f None = None
page_at f (Some h) = Some (page_in (f h))

-- ---- marks: a home that is used, and a block that is no home, is marked

abbrev pub marked : List Bool → ℕ → Bool
marked used i = get_or used i false

-- how many are not marked
unfoldable pub unmarked : List Bool → ℕ
unmarked [] = 0
unmarked (true ∷ used) = unmarked used
unmarked (false ∷ used) = suc (unmarked used)

-- what is not marked is a home
abbrev pub AreFreeHomes : Layout → List Bool → Type 0
AreFreeHomes lay used = (h : ℕ) → h < length used → marked used h ≡ false → is_home lay h ≡ true

-- the marks of a store without a page
abbrev pub first_marks : Layout → List Bool
first_marks lay =
    let homes = replicate lay.first true ++ replicate (lay.size - lay.first) false in
    cond (nat_le lay.first lay.hole && nat_lt lay.hole lay.size) (slice_set homes lay.hole true) homes

-- how many homes there are
abbrev pub home_count : Layout → ℕ
home_count lay = lay.size - lay.first - cond (nat_le lay.first lay.hole && nat_lt lay.hole lay.size) 1 0

-- each key has a home of its own, which is marked as used
pub record IsHomeIndex (lay : Layout) (ix : Index) (used : ℕ → Bool) : Type 0 where
  pub home : (k : Key) (h : ℕ) → ix k ≡ Some h → is_home lay h ≡ true
  pub used_there : (k : Key) (h : ℕ) → ix k ≡ Some h → used h ≡ true
  pub apart : (k q : Key) (h : ℕ) → ix k ≡ Some h → ix q ≡ Some h → k ≡ q

-- the index is that of these blocks, which hold the content
pub record Indexed (lay : Layout) (f : ℕ → Block) (ix : Index) (m : Content) : Type 0 where
  pub sound : (k : Key) (h : ℕ) → ix k ≡ Some h → (is_home lay h ≡ true) × (home_is_used (f h) ≡ true) × (key_in (f h) ≡ k)
  pub whole : (h : ℕ) → is_home lay h ≡ true → home_is_used (f h) ≡ true → ix (key_in (f h)) ≡ Some h
  pub pages : (k : Key) → get m k ≡ page_at f (ix k)

-- ---- the plan of a put

abbrev pub HasKey : List Change → Key → Type 0
HasKey [] q = ⊥
HasKey (c ∷ cs) q = (q ≡ c.key) ⊎ HasKey cs q

-- a slot that frees its home
abbrev pub frees : Slot → Bool
frees slot = not (home_is_used slot.block)

-- a home that the slots free
abbrev pub freed : List Slot → ℕ → Bool
freed [] i = false
freed (e ∷ es) i = ((i == e.home) && frees e) || freed es i

-- how many homes the slots free
abbrev pub count_freed : List Slot → ℕ
count_freed [] = 0
count_freed (e ∷ es) = cond (frees e) 1 0 + count_freed es

-- no two slots have one home
abbrev pub HaveOwnHomes : List Slot → Type 0
HaveOwnHomes [] = Unit {0}
HaveOwnHomes (e ∷ es) = (targets es e.home ≡ false) × HaveOwnHomes es

-- After these changes: their slots, and the index as it then is.
pub record Planned (lay : Layout) (old now : Index) (used : ℕ → Bool) (es : List Slot) (cs : List Change) : Type 0 where
  pub index : IsHomeIndex lay now used
  pub homes : AreHomes lay es
  pub mine : (h : ℕ) → targets es h ≡ true → (used h ≡ true) × ((q : Key) → now q ≡ Some h → HasKey cs q)
  pub live : (q : Key) (h : ℕ) → now q ≡ Some h → freed es h ≡ false
  pub leads : (f : ℕ → Block) (m : Content) → Indexed lay f old m → Indexed lay (entries_written es f) now (changed m cs)
  pub few : length es ≤ length cs

-- the keys, the marks and the freed homes after these changes
pub record Tallied (old now : Homes) (was used : List Bool) (es : List Slot) (cs : List Change) : Type 0 where
  pub keys : keys_of now ≡ changed_keys (keys_of old) cs
  pub marks : unmarked used + new_keys (keys_of old) cs ≡ unmarked was
  pub freed : count_freed es ≡ gone_keys (keys_of old) cs
  pub size : length used ≡ length was
