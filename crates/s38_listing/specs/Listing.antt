-- What is printed of the objects of a store: a line for each.
use Rattle.std.specs.Prelude.{ℕ, List, ◌∷◌, [], ◌++◌, codes, decimal}
use Rattle.std.specs.List.{flat_map}
use Rattle.s38_base.specs.declared.id.Id.{Id}
use Rattle.s38_base.specs.declared.id.Kind.{Kind}
use Rattle.s38_base.specs.declared.id.Kind.TheVariants as kinds
use Rattle.s38_joblog.specs.Words.{byte_as_hex, rights_word}
use Rattle.s38_rules.specs.declared.object.Object.{Object}

abbrev pub kind_word : Kind → List ℕ
kind_word kinds.Context = codes "CONTEXT"
kind_word kinds.Program = codes "PROGRAM"
kind_word kinds.Profile = codes "PROFILE"
kind_word kinds.Space = codes "SPACE"
kind_word kinds.Queue = codes "QUEUE"
kind_word kinds.Index = codes "INDEX"
kind_word kinds.DataSpace = codes "DATASPACE"
kind_word kinds.Cursor = codes "CURSOR"
kind_word kinds.Port = codes "JPORT"
kind_word kinds.Journal = codes "JSPACE"
kind_word kinds.Block = codes "CBLOCK"

-- kind, subtype and name, parted by /
abbrev pub id_word : Id → List ℕ
id_word id = kind_word id.kind ++ (codes "/" ++ (byte_as_hex id.sub ++ (codes "/" ++ id.name)))

-- a word, and a number after it
abbrev pub number_word : List ℕ → ℕ → List ℕ
number_word word number = word ++ decimal number

-- number and identification
abbrev pub head_word : Object → List ℕ
head_word o = decimal o.number.0 ++ (codes " " ++ id_word o.id)

-- context and owner
abbrev pub place_words : Object → List ℕ
place_words o = number_word (codes " IN ") o.context.0 ++ number_word (codes " OWNER ") o.owner.0

-- number, identification, context, owner and the rights of everybody
abbrev pub list_line : Object → List ℕ
list_line o = head_word o ++ (place_words o ++ (codes " PUBLIC " ++ (rights_word o.public.0 ++ 10 ∷ [])))

abbrev pub list_text : List Object → List ℕ
list_text objects = flat_map list_line objects
