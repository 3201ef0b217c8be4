-- A stream of bytes that is put into pages one piece after another.
use Rattle.std.specs.Prelude.{◌≡◌, ℕ, ◌+◌, ◌-◌, ◌*◌, ◌≤◌, ◌<◌, List, [], ◌++◌, length, drop}
use Rattle.s38_base.specs.Limits.{page_bytes}
use Rattle.s38_base.specs.declared.page.Change.{Change}
use Rattle.s38_image.specs.Pages.{numbered_pieces, page_pieces, stream}

-- the parts before the stream, the object, the stream's first part, and how many parts there is room for
pub record Place : Type 0 where
  pub before : List Change
  pub number : ℕ
  pub first : ℕ
  pub capacity : ℕ

-- what was put, and for how many further bytes there is room
pub record Written : Type 0 where
  pub place : Place
  pub bytes : List ℕ
  pub room : ℕ

-- so many bytes were added, and nothing else changed
pub record Adds (old new : Written) (count : ℕ) (xs : List ℕ) : Type 0 where
  pub bytes : new.bytes ≡ old.bytes ++ xs
  pub room : new.room + count ≡ old.room
  pub place : new.place ≡ old.place

-- full pages of the stream follow the parts before it; what does not fill a page is the tail
pub record IsCut (number first at len from most : ℕ) (parts : List Change) (tail : List ℕ) : Type 0 where
  pub start : from ≤ length parts
  pub part : at + from ≡ first + length parts
  pub short : length tail < page_bytes
  pub within : page_bytes * length parts + (length tail + len) ≤ page_bytes * most
  pub near : page_bytes * at + (length tail + len) ≤ 33554432
  pub full : length (stream (drop from parts)) ≡ page_bytes * (length parts - from)
  pub pages : drop from parts ≡ numbered_pieces number first (page_pieces (length parts - from) (stream (drop from parts))) []
