-- The numbers of exceptions. The constants of the code are these.
use Rattle.std.specs.Prelude.{ℕ}

abbrev pub space_addressing : ℕ
space_addressing = 0x0601

abbrev pub boundary_alignment : ℕ
boundary_alignment = 0x0602

abbrev pub argument_mismatch : ℕ
argument_mismatch = 0x0802

abbrev pub unauthorized : ℕ
unauthorized = 0x0A01

abbrev pub special_required : ℕ
special_required = 0x0A02

abbrev pub ownership_required : ℕ
ownership_required = 0x0A03

abbrev pub conversion : ℕ
conversion = 0x0C01

abbrev pub decimal_data : ℕ
decimal_data = 0x0C02

abbrev pub size : ℕ
size = 0x0C0A

abbrev pub zero_divide : ℕ
zero_divide = 0x0C0B

abbrev pub duplicate_identification : ℕ
duplicate_identification = 0x0E01

abbrev pub duplicate_entry : ℕ
duplicate_entry = 0x0E02

abbrev pub object_locked : ℕ
object_locked = 0x1A01

abbrev pub lock_not_grantable : ℕ
lock_not_grantable = 0x1A02

abbrev pub lock_not_held : ℕ
lock_not_held = 0x1A03

abbrev pub all_wait : ℕ
all_wait = 0x1A04

abbrev pub entry_held : ℕ
entry_held = 0x1A05

abbrev pub unit_of_another : ℕ
unit_of_another = 0x1A06

abbrev pub limit_exceeded : ℕ
limit_exceeded = 0x1C03

abbrev pub pages_exceeded : ℕ
pages_exceeded = 0x1C04

abbrev pub store_full : ℕ
store_full = 0x1C05

abbrev pub object_not_found : ℕ
object_not_found = 0x2201

abbrev pub object_destroyed : ℕ
object_destroyed = 0x2202

abbrev pub object_in_use : ℕ
object_in_use = 0x2204

abbrev pub object_not_on_disk : ℕ
object_not_on_disk = 0x2205

abbrev pub pointer_missing : ℕ
pointer_missing = 0x2401

abbrev pub pointer_type_invalid : ℕ
pointer_type_invalid = 0x2402

abbrev pub object_type_invalid : ℕ
object_type_invalid = 0x2403

abbrev pub length_invalid : ℕ
length_invalid = 0x2405

abbrev pub no_message : ℕ
no_message = 0x2601

abbrev pub no_index_entry : ℕ
no_index_entry = 0x2602

abbrev pub process_not_found : ℕ
process_not_found = 0x2803

abbrev pub template_missing : ℕ
template_missing = 0x2A01

abbrev pub declaration_invalid : ℕ
declaration_invalid = 0x2A02

abbrev pub name_invalid : ℕ
name_invalid = 0x2A03

abbrev pub operands_invalid : ℕ
operands_invalid = 0x2A04

abbrev pub attributes_invalid : ℕ
attributes_invalid = 0x2A05

abbrev pub digits_exceeded : ℕ
digits_exceeded = 0x2A06

abbrev pub name_missing : ℕ
name_missing = 0x2A07

abbrev pub label_missing : ℕ
label_missing = 0x2A08

abbrev pub no_entry : ℕ
no_entry = 0x5001

abbrev pub position_empty : ℕ
position_empty = 0x5002

abbrev pub not_journaled : ℕ
not_journaled = 0x5003
