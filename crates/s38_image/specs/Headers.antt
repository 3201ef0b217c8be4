-- The first part of an object, and its private rows.
use Rattle.std.specs.Prelude.{ℕ, Bool, true, ◌&&◌, ◌==◌, not, List, [], ◌∷◌, length, take, drop, nat_le, nat_lt, if◌then◌else◌}
use Rattle.std.specs.List.{list_all}
use Rattle.s38_base.specs.Ids.{kind_code}
use Rattle.s38_base.specs.Limits.{most_rows}
use Rattle.s38_base.specs.NameText.{is_name, padded}
use Rattle.s38_base.specs.declared.id.Kind.{Kind}
use Rattle.s38_base.specs.declared.id.Kind.TheVariants as kinds
use Rattle.s38_base.specs.declared.id.ObjNum.{ObjNum}
use Rattle.s38_base.specs.declared.rights.Rights.{Rights}
use Rattle.s38_codec.specs.Codec.{Codec, byte, byte_is_zero, bytes, copies, dependent_pair, only, seen, times}
use Rattle.s38_codec.specs.Formats.{Spelling, all_by, u16, u32, u64}
use Rattle.s38_image.specs.declared.header.Header.{Header}
use Rattle.s38_rules.specs.declared.rows.PrivateRow.{PrivateRow}

-- ---- small values

abbrev pub object_by : ℕ → ObjNum
object_by n = record { 0 = n }

abbrev pub object_number : ObjNum → ℕ
object_number o = o.0

abbrev pub object_number_form : Codec ObjNum
object_number_form = seen object_by object_number u64

abbrev pub rights_by : ℕ → Rights
rights_by n = record { 0 = n }

abbrev pub rights_bits : Rights → ℕ
rights_bits r = r.0

abbrev pub rights : Codec Rights
rights = seen rights_by rights_bits byte

abbrev pub kind_by : ℕ → Kind
kind_by n =
    if n == 1 then kinds.Context
    else (if n == 2 then kinds.Program
    else (if n == 3 then kinds.Profile
    else (if n == 4 then kinds.Space
    else (if n == 5 then kinds.Queue
    else (if n == 6 then kinds.Index
    else (if n == 7 then kinds.DataSpace
    else (if n == 8 then kinds.Cursor
    else (if n == 9 then kinds.Port
    else (if n == 10 then kinds.Journal
    else kinds.Block)))))))))

-- the numbers of kinds are 1 to 11
abbrev pub is_kind : ℕ → Bool
is_kind n = nat_le 1 n && nat_le n 11

abbrev pub kind : Codec Kind
kind = seen kind_by kind_code (only is_kind byte)

abbrev pub name_by : ℕ × List ℕ → List ℕ
name_by x = take x.0 x.1

abbrev pub name_parts : List ℕ → ℕ × List ℕ
name_parts name = (length name, padded name)

-- the first so many of thirty bytes are a name, and the others are zero
abbrev pub is_padded : ℕ × List ℕ → Bool
is_padded x = (nat_le x.0 30 && is_name (take x.0 x.1)) && list_all byte_is_zero (drop x.0 x.1)

-- a name's length, and its text in thirty bytes
abbrev pub name : Codec (List ℕ)
name = seen name_by name_parts (only is_padded (dependent_pair u16 (λ _. bytes 30)))

-- ---- the header

-- the letters S38H
abbrev pub mark : ℕ
mark = 0x53333848

abbrev pub is_mark : ℕ → Bool
is_mark n = n == mark

abbrev pub HeaderFields : Type 0
HeaderFields = ℕ × (Kind × (ℕ × (List ℕ × (ObjNum × (ObjNum × (Rights × (ℕ × (ℕ × (ℕ × List ℕ)))))))))

abbrev pub header_by : HeaderFields → Header
header_by (m, (k, (sub, (n, (context, (owner, (public, (z, (rows, (body, unused)))))))))) = record {
  id = record { kind = k; sub = sub; name = n };
  context = context;
  owner = owner;
  public = public;
  rows = rows;
  body = body;
}

abbrev pub header_fields : Header → HeaderFields
header_fields h = (mark, (h.id.kind, (h.id.sub, (h.id.name, (h.context, (h.owner, (h.public, (0, (h.rows, (h.body, copies 448 0))))))))))

-- the mark, the kind, the subtype, the name, the context, the owner, the rights of everybody, a zero byte, how many
-- rows there are, and the length of the body; the rest of the page is zero
abbrev pub header_format : Codec HeaderFields
header_format =
    dependent_pair (only is_mark u32) (λ _. dependent_pair kind (λ _. dependent_pair byte (λ _. dependent_pair name (λ _. dependent_pair object_number_form (λ _. dependent_pair object_number_form (λ _. dependent_pair rights (λ _.
    dependent_pair (only byte_is_zero byte) (λ _. dependent_pair u32 (λ _. dependent_pair u32 (λ _. only (λ unused. list_all byte_is_zero unused) (bytes 448)))))))))))

abbrev pub header : Spelling Header
header = all_by (seen header_by header_fields header_format)

-- ---- the rows

abbrev pub row_by : ObjNum × Rights → PrivateRow
row_by x = record { user = x.0; rights = x.1 }

abbrev pub row_parts : PrivateRow → ObjNum × Rights
row_parts r = (r.user, r.rights)

abbrev pub row_has_rights : Rights → Bool
row_has_rights r = not (r.0 == 0)

abbrev pub row_form : Codec PrivateRow
row_form = seen row_by row_parts (dependent_pair object_number_form (λ _. only row_has_rights rights))

-- the users strictly rise
abbrev pub users_rise : List PrivateRow → Bool
users_rise [] = true
users_rise (r ∷ []) = true
users_rise (r ∷ q ∷ rows) = nat_lt r.user.0 q.user.0 && users_rise (q ∷ rows)

-- so many rows, 9 bytes each
abbrev pub rows : ℕ → Spelling (List PrivateRow)
rows n = all_by (only users_rise (times n row_form))

-- ---- its limits

-- the longest body of a kind, where that of most kinds is given
abbrev pub longest_body : ℕ → Kind → ℕ
longest_body limit kinds.Journal = 16777216
longest_body limit _ = limit

-- not too many rows, and no body that is too long
abbrev pub header_is_within : ℕ → Header → Bool
header_is_within limit h = nat_le h.rows most_rows && nat_le h.body (longest_body limit h.id.kind)
