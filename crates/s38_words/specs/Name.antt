-- Names, identifications, and the numbers of exceptions.
use Rattle.std.specs.Prelude.{ℕ, ◌+◌, ◌*◌, Bool, false, ◌&&◌, ◌==◌, List, [], ◌∷◌, length, slice_index, codes, Option, Some, None, if◌then◌else◌}
use Rattle.std.specs.Option.{option_and_then}
use Rattle.s38_base.specs.NameText.{is_name}
use Rattle.s38_base.specs.declared.id.Id.{Id}
use Rattle.s38_base.specs.declared.id.Kind.{Kind}
use Rattle.s38_base.specs.declared.id.Kind.TheVariants.{Context, Program, Profile, Space, Queue, Index, DataSpace, Cursor, Port, Journal, Block}
use Rattle.s38_words.specs.Text.{after_byte, are_hex_digits, before, hex_byte, is_letter, is_word}

-- the name of an object or a user: 1 to 30 of A to Z and 0 to 9
abbrev pub object_name : List ℕ → Option (List ℕ)
object_name text = if is_name text then Some text else None

abbrev pub begins_with_letter : List ℕ → Bool
begins_with_letter [] = false
begins_with_letter (c ∷ cs) = is_letter c

-- the name of a template, a job, a declaration or a label begins with a letter
abbrev pub is_declared_name : List ℕ → Bool
is_declared_name text = begins_with_letter text && is_name text

abbrev pub declared_name : List ℕ → Option (List ℕ)
declared_name text = if is_declared_name text then Some text else None

unfoldable pub kind_spelled : List ℕ → Option Kind
kind_spelled word =
    if is_word (codes "CONTEXT") word then Some Context
    else (if is_word (codes "PROGRAM") word then Some Program
    else (if is_word (codes "PROFILE") word then Some Profile
    else (if is_word (codes "SPACE") word then Some Space
    else (if is_word (codes "QUEUE") word then Some Queue
    else (if is_word (codes "INDEX") word then Some Index
    else (if is_word (codes "DATASPACE") word then Some DataSpace
    else (if is_word (codes "CURSOR") word then Some Cursor
    else (if is_word (codes "JPORT") word then Some Port
    else (if is_word (codes "JSPACE") word then Some Journal
    else (if is_word (codes "CBLOCK") word then Some Block
    else None))))))))))

-- two hexadecimal digits
abbrev pub subtype_of : List ℕ → Option ℕ
subtype_of word =
    if (length word == 2) && are_hex_digits word then Some (hex_byte (slice_index word 0) (slice_index word 1)) else None

abbrev pub id_from : Option Kind → Option ℕ → Option (List ℕ) → Option Id
id_from (Some kind) (Some sub) (Some name) = Some (record { kind = kind; sub = sub; name = name })
id_from _ _ _ = None

abbrev pub id_of_kind : Option Kind → List ℕ → Option Id
id_of_kind kind text = id_from kind (subtype_of (before 47 text)) (option_and_then object_name (after_byte 47 text))

-- a kind, two hexadecimal digits and a name, parted by /
unfoldable pub id_spelled : List ℕ → Option Id
id_spelled word = option_and_then (id_of_kind (kind_spelled (before 47 word))) (after_byte 47 word)

-- four hexadecimal digits
abbrev pub exception_code_of : List ℕ → Option ℕ
exception_code_of word =
    if (length word == 4) && are_hex_digits word
    then Some (256 * hex_byte (slice_index word 0) (slice_index word 1) + hex_byte (slice_index word 2) (slice_index word 3))
    else None
