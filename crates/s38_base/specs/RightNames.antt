-- The bits of rights and of special authorities. The constants of the code are these.
use Rattle.std.specs.Prelude.{ℕ}

abbrev pub objctl : ℕ
objctl = 0x80

abbrev pub objmgt : ℕ
objmgt = 0x40

abbrev pub autptr : ℕ
autptr = 0x20

abbrev pub space : ℕ
space = 0x10

abbrev pub retrieve : ℕ
retrieve = 0x08

abbrev pub insert : ℕ
insert = 0x04

abbrev pub delete : ℕ
delete = 0x02

abbrev pub update : ℕ
update = 0x01

abbrev pub no_rights : ℕ
no_rights = 0

abbrev pub all_rights : ℕ
all_rights = 0xff

-- special authorities
abbrev pub allobj : ℕ
allobj = 0x80

abbrev pub profile : ℕ
profile = 0x40
