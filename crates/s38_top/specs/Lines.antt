-- The last lines that tell of a store.
use Rattle.std.specs.Prelude.{ℕ, List, ◌∷◌, [], ◌++◌, codes, decimal}
use Rattle.s38_store_file.specs.declared.fault.BadStore.{BadStore}
use Rattle.s38_store_file.specs.declared.fault.BadStore.TheVariants as bad

abbrev pub line : List ℕ → List ℕ
line text = text ++ 10 ∷ []

-- a word followed by one number, or by two
abbrev pub word_one : List ℕ → ℕ → List ℕ
word_one word a = word ++ (codes " " ++ decimal a)

abbrev pub word_two : List ℕ → ℕ → ℕ → List ℕ
word_two word a b = word_one word a ++ (codes " " ++ decimal b)

-- what is wrong with a store
abbrev pub bad_store_word : BadStore → List ℕ
bad_store_word (bad.TooSmall blocks) = word_one (codes "STORE TOO SMALL") blocks
bad_store_word bad.NotInstalled = codes "NOT INSTALLED"
bad_store_word bad.AlreadyInstalled = codes "ALREADY INSTALLED"
bad_store_word (bad.LogDamaged block) = word_one (codes "LOG DAMAGED") block
bad_store_word (bad.TwoBlocks first second) = word_two (codes "TWO BLOCKS") first second
bad_store_word (bad.BadImage object part) = word_two (codes "BAD IMAGE") object part

unfoldable pub bad_store_line : BadStore → List ℕ
bad_store_line b = line (bad_store_word b)

-- how many parts a store wants, and how many are free
unfoldable pub full_line : ℕ → ℕ → List ℕ
full_line needed free = line (word_two (codes "STORE FULL") needed free)

unfoldable pub disk_fault_line : List ℕ
disk_fault_line = line (codes "DISK FAULT")
