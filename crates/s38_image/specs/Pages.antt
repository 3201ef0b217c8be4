-- Streams of bytes over pages: the parts that hold a stream, and the stream that some parts hold.
use Rattle.std.specs.Prelude.{ℕ, zero, suc, ◌+◌, ◌-◌, ◌*◌, ◌/◌, Bool, true, false, ◌&&◌, ◌==◌, List, [], ◌∷◌, ◌++◌, length, take, drop, map, Option, Some, None, is_some, if◌then◌else◌}
use Rattle.std.specs.List.{list_all, concat}
use Rattle.s38_base.specs.Limits.{page_bytes}
use Rattle.s38_base.specs.declared.page.Change.{Change}
use Rattle.s38_base.specs.declared.page.Page.{Page}
use Rattle.s38_codec.specs.Codec.{byte_is_zero, copies, ◌>>=◌}
use Rattle.s38_codec.specs.Formats.{Spelling}

-- how many pages so many bytes begin
abbrev pub needed : ℕ → ℕ
needed len = (len + 511) / page_bytes

-- a page that is put as a part of an object
abbrev pub page_put_at : ℕ → ℕ → List ℕ → ℕ → Change
page_put_at object part bytes tags = record { key = record { object = object; part = part }; page = Some (record { bytes = bytes; tags = tags }) }

-- ---- a stream as pages

-- so many pieces of a page's length
unfoldable pub page_pieces : ℕ → List ℕ → List (List ℕ)
page_pieces zero xs = []
page_pieces (suc n) xs = take page_bytes xs ∷ page_pieces n (drop page_bytes xs)

-- filled with zeros to a length
abbrev pub zero_filled : ℕ → List ℕ → List ℕ
zero_filled len xs = xs ++ copies (len - length xs) 0

-- pieces as the parts of an object from a first one on, with these tags; where the tags end they are 0
unfoldable pub numbered_pieces : ℕ → ℕ → List (List ℕ) → List ℕ → List Change
numbered_pieces object first [] tags = []
numbered_pieces object first (xs ∷ pages) [] = page_put_at object first xs 0 ∷ numbered_pieces object (first + 1) pages []
numbered_pieces object first (xs ∷ pages) (t ∷ tags) = page_put_at object first xs t ∷ numbered_pieces object (first + 1) pages tags

-- the parts that hold a stream; the last page is filled with zeros
abbrev pub stream_parts : ℕ → ℕ → List ℕ → List ℕ → List Change
stream_parts object first bytes tags = numbered_pieces object first (page_pieces (needed (length bytes)) (zero_filled (page_bytes * needed (length bytes)) bytes)) tags

-- the parts that hold a value
abbrev pub print_parts : {A : Type 0} → ℕ → ℕ → Spelling A → (A → List ℕ) → A → List Change
print_parts object first s tags_of x = stream_parts object first (s.print x) (tags_of x)

-- ---- the stream of some parts

abbrev pub bytes_of_page : Option Page → List ℕ
bytes_of_page None = []
bytes_of_page (Some page) = page.bytes

abbrev pub tags_of : Option Page → ℕ
tags_of None = 0
tags_of (Some page) = page.tags

abbrev pub page_bytes_in : List Change → List (List ℕ)
page_bytes_in parts = map (λ c. bytes_of_page c.page) parts

abbrev pub stream : List Change → List ℕ
stream parts = concat (page_bytes_in parts)

abbrev pub tags_in : List Change → List ℕ
tags_in parts = map (λ c. tags_of c.page) parts

-- a change puts the page of a part of the object
abbrev pub is_page : ℕ → ℕ → Change → Bool
is_page object part c = (c.key.object == object) && ((c.key.part == part) && is_some c.page)

-- the changes put so many parts of the object, from a first one on, and nothing else
unfoldable pub are_pages : ℕ → ℕ → ℕ → List Change → Bool
are_pages object first zero [] = true
are_pages object first zero (c ∷ parts) = false
are_pages object first (suc n) [] = false
are_pages object first (suc n) (c ∷ parts) = is_page object first c && are_pages object (first + 1) n parts

-- a stream of this length, after which the last page is filled with zeros
abbrev pub unfilled : ℕ → List ℕ → Option (List ℕ)
unfilled len xs = if list_all byte_is_zero (drop len xs) then Some (take len xs) else None

-- the stream of this length that the parts hold from a first one on
abbrev pub stream_of : ℕ → ℕ → ℕ → List Change → Option (List ℕ)
stream_of object first len parts = if are_pages object first (needed len) parts then unfilled len (stream parts) else None

-- the same numbers
unfoldable pub same_list : List ℕ → List ℕ → Bool
same_list [] [] = true
same_list [] (y ∷ ys) = false
same_list (x ∷ xs) [] = false
same_list (x ∷ xs) (y ∷ ys) = (x == y) && same_list xs ys

-- a value whose pages have these tags
abbrev pub tagged_right : {A : Type 0} → (A → List ℕ) → List ℕ → A → Option A
tagged_right tags_of tags x = if same_list (tags_of x) tags then Some x else None

-- the value that the parts hold in so many bytes, from a first one on
abbrev pub read_parts : {A : Type 0} → ℕ → ℕ → Spelling A → (A → List ℕ) → ℕ → List Change → Option A
read_parts object first s tags_of len parts = stream_of object first len parts >>= λ bytes. s.read bytes >>= λ x. tagged_right tags_of (tags_in parts) x

-- ---- streams without tags

abbrev pub no_tags : {A : Type 0} → Spelling A → A → List ℕ
no_tags s x = copies (needed (length (s.print x))) 0
