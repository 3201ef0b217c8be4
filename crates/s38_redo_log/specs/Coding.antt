-- What a block holds: the key and the page of a home, numbers of the log, the gate, the label. A number has its highest
-- byte first.
use Rattle.std.specs.Prelude.{◌==◌, ℕ, ◌+◌, ◌*◌, Bool, not, List, [], ◌∷◌, ◌++◌, get_or, drop, take}
use Rattle.std.specs.Int.{w32, w64, from_be_bytes, to_be_bytes}
use Rattle.s38_disk.specs.declared.block.Block.{Block}
use Rattle.s38_base.specs.declared.page.Key.{Key}
use Rattle.s38_base.specs.declared.page.Page.{Page}

-- a home: the object in 8 bytes, the part in 4, the tags in 4, and the bytes of the page
unfoldable pub home_block : Key → Page → Block
home_block key page = record { bytes = to_be_bytes w64 key.object ++ to_be_bytes w32 key.part ++ to_be_bytes w32 page.tags ++ page.bytes }

unfoldable pub key_in : Block → Key
key_in b = record { object = from_be_bytes w64 (take 8 b.bytes); part = from_be_bytes w32 (take 4 (drop 8 b.bytes)) }

unfoldable pub page_in : Block → Page
page_in b = record { bytes = take 512 (drop 16 b.bytes); tags = from_be_bytes w32 (take 4 (drop 12 b.bytes)) }

-- the number in the four bytes from a place on
unfoldable pub number_in_bytes : List ℕ → ℕ → ℕ
number_in_bytes bytes at = from_be_bytes w32 (get_or bytes at 0 ∷ get_or bytes (at + 1) 0 ∷ get_or bytes (at + 2) 0 ∷ get_or bytes (at + 3) 0 ∷ [])

-- a block of the log holds 132 numbers
abbrev pub word_in : Block → ℕ → ℕ
word_in b k = number_in_bytes b.bytes (4 * k)

-- the gate is up exactly where its first byte is the letter O
unfoldable pub is_up : Block → Bool
is_up b = get_or b.bytes 0 0 == 79

-- a label begins with the letters S38STOR1
unfoldable pub is_store_label : Block → Bool
is_store_label b = from_be_bytes w64 (take 8 b.bytes) == 5995197459508187697

-- A home holds a page under a key exactly where its object is not 0.
abbrev pub home_is_used : Block → Bool
home_is_used b = not ((key_in b).object == 0)
