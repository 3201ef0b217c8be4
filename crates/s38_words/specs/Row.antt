-- The words of the rows, by their numbers. A number is the word's place in its order, from 0 on; rights and
-- specials are their bits.
use Rattle.std.specs.Prelude.{ℕ, bit_or, ◌==◌, List, [], ◌∷◌, codes, Option, Some, None, if◌then◌else◌}
use Rattle.std.specs.Option.{option_map, option_and_then}
use Rattle.s38_base.specs.Relations.{relation_word}
use Rattle.s38_base.specs.RightNames as rights
use Rattle.s38_base.specs.declared.words.Relation.TheVariants.{Eq, Ne, Lo, Hi, Nl, Nh, Any, First, Last}
use Rattle.s38_words.specs.Text.{after_byte, before, is_word}
use Rattle.s38_words.specs.declared.row_words.StarWord.{StarWord}
use Rattle.s38_words.specs.declared.row_words.StarWord.TheVariants.{NoObject, MachineContext, ContextList, Public}

-- ---- rights

-- the right of each bit
abbrev pub right_name : ℕ → List ℕ
right_name bit =
    if bit == rights.objctl then codes "OBJCTL"
    else (if bit == rights.objmgt then codes "OBJMGT"
    else (if bit == rights.autptr then codes "AUTPTR"
    else (if bit == rights.space then codes "SPACE"
    else (if bit == rights.retrieve then codes "RETRIEVE"
    else (if bit == rights.insert then codes "INSERT"
    else (if bit == rights.delete then codes "DELETE"
    else codes "UPDATE"))))))

-- the bits that a text names: one bit, and where a + follows it, the bits of the rest
abbrev pub with_bit : ℕ → Option (List ℕ) → (List ℕ → Option ℕ) → Option ℕ
with_bit bit None more = Some bit
with_bit bit (Some rest) more = option_map (λ bits. bit_or bit bits) (more rest)

-- rights joined by +, in the order of these bits, each at most once
abbrev pub rights_from : List ℕ → List ℕ → Option ℕ
rights_from [] text = None
rights_from (bit ∷ bits) text =
    if is_word (right_name bit) (before 43 text)
    then with_bit bit (after_byte 43 text) (λ rest. rights_from bits rest)
    else rights_from bits text

abbrev pub right_bits : List ℕ
right_bits =
    rights.objctl ∷ rights.objmgt ∷ rights.autptr ∷ rights.space ∷ rights.retrieve ∷ rights.insert ∷ rights.delete ∷ rights.update ∷ []

-- all eight are written as ALL alone
abbrev pub not_all : ℕ → Option ℕ
not_all bits = if bits == rights.all_rights then None else Some bits

unfoldable pub rights_spelled : List ℕ → Option ℕ
rights_spelled word =
    if is_word (codes "NONE") word then Some rights.no_rights
    else (if is_word (codes "ALL") word then Some rights.all_rights
    else option_and_then not_all (rights_from right_bits word))

abbrev pub specials_of : List ℕ → Option ℕ
specials_of word =
    if is_word (codes "NONE") word then Some rights.no_rights
    else (if is_word (codes "ALLOBJ") word then Some rights.allobj
    else (if is_word (codes "PROFILE") word then Some rights.profile
    else (if is_word (codes "ALLOBJ+PROFILE") word then Some 192 else None)))

-- ---- single words

abbrev pub lock_state_of : List ℕ → Option ℕ
lock_state_of word =
    if is_word (codes "LSRD") word then Some 0
    else (if is_word (codes "LSRO") word then Some 1
    else (if is_word (codes "LSUP") word then Some 2
    else (if is_word (codes "LEAR") word then Some 3
    else (if is_word (codes "LENR") word then Some 4 else None))))

abbrev pub wait_of : List ℕ → Option ℕ
wait_of word =
    if is_word (codes "NOWAIT") word then Some 0 else (if is_word (codes "WAIT") word then Some 1 else None)

unfoldable pub relation_spelled : List ℕ → Option ℕ
relation_spelled word =
    if is_word (codes "EQ") word then Some (relation_word Eq)
    else (if is_word (codes "NE") word then Some (relation_word Ne)
    else (if is_word (codes "LO") word then Some (relation_word Lo)
    else (if is_word (codes "HI") word then Some (relation_word Hi)
    else (if is_word (codes "NL") word then Some (relation_word Nl)
    else (if is_word (codes "NH") word then Some (relation_word Nh)
    else (if is_word (codes "ANY") word then Some (relation_word Any)
    else (if is_word (codes "FIRST") word then Some (relation_word First)
    else (if is_word (codes "LAST") word then Some (relation_word Last) else None))))))))

abbrev pub order_spelled : List ℕ → Option ℕ
order_spelled word =
    if is_word (codes "FIFO") word then Some 0
    else (if is_word (codes "LIFO") word then Some 1
    else (if is_word (codes "KEYED") word then Some 2 else None))

abbrev pub seek_spelled : List ℕ → Option ℕ
seek_spelled word =
    if is_word (codes "FIRST") word then Some 0
    else (if is_word (codes "LAST") word then Some 1
    else (if is_word (codes "NEXT") word then Some 2
    else (if is_word (codes "PREV") word then Some 3
    else (if is_word (codes "AT") word then Some 4 else None))))

abbrev pub pointer_kind_of : List ℕ → Option ℕ
pointer_kind_of word =
    if is_word (codes "SYS") word then Some 0
    else (if is_word (codes "SPC") word then Some 1
    else (if is_word (codes "DTA") word then Some 2
    else (if is_word (codes "NONE") word then Some 3 else None)))

abbrev pub switch_of : List ℕ → Option ℕ
switch_of word =
    if is_word (codes "ON") word then Some 0 else (if is_word (codes "OFF") word then Some 1 else None)

-- ---- words with a star

abbrev pub star_of : List ℕ → Option StarWord
star_of word =
    if is_word (codes "*NONE") word then Some NoObject
    else (if is_word (codes "*MACHINE") word then Some MachineContext
    else (if is_word (codes "*LIST") word then Some ContextList
    else (if is_word (codes "*PUBLIC") word then Some Public else None)))
