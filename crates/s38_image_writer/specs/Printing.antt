-- The bytes of headers and bodies in pieces.
use Rattle.std.specs.Prelude.{ℕ, List, ◌∷◌, ◌++◌, length}
use Rattle.s38_base.specs.Ids.{kind_code}
use Rattle.s38_base.specs.declared.id.Id.{Id}
use Rattle.s38_codec.specs.Codec.{copies}
use Rattle.s38_codec.specs.Formats.{u16, u32}
use Rattle.s38_dataspaces.specs.Entries.{DataEntry}
use Rattle.s38_image.specs.DataSpaces.{slot_parts}
use Rattle.s38_queues.specs.declared.message.Message.{Message}
use Rattle.s38_image.specs.Headers.{name, object_number_form, rights}
use Rattle.s38_image.specs.declared.header.Header.{Header}

-- a name's length, and its text in thirty bytes
unfoldable pub name_bytes : List ℕ → List ℕ
name_bytes text = name.print text

-- the kind, the subtype, and the name
unfoldable pub id_bytes : Id → List ℕ
id_bytes id = kind_code id.kind ∷ id.sub ∷ name_bytes id.name

-- the lengths of rows and body, and what says nothing
unfoldable pub lengths_of : Header → List ℕ
lengths_of h = u32.print h.rows ++ (u32.print h.body ++ copies 448 0)

-- the context, the owner, the rights of everybody, a zero byte, and what follows
unfoldable pub places_of : Header → List ℕ
places_of h = object_number_form.print h.context ++ (object_number_form.print h.owner ++ (rights.print h.public ++ (0 ∷ lengths_of h)))

-- a message: its key, the length of its text, and its text
unfoldable pub message_bytes : Message → List ℕ
message_bytes m = m.key ++ (u16.print (length m.text) ++ m.text)

-- of a data space 1 and an entry, or 0 and as many zeros where it is deleted
unfoldable pub slot_bytes : ℕ → DataEntry → List ℕ
slot_bytes width entry = (slot_parts width entry).0 ∷ (slot_parts width entry).1

-- an entry of an index, after its length
abbrev pub index_entry_bytes : List ℕ → List ℕ
index_entry_bytes entry = length entry ∷ entry
