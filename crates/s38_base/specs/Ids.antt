-- The number of a kind, and when two identifications are one.
use Rattle.std.specs.Prelude.{ℕ, Bool, ◌&&◌, ◌==◌, nat_eq}
use Rattle.std.specs.Cmp.Lexicographic.{pointwise}
use Rattle.s38_base.specs.declared.id.Kind.{Kind}
use Rattle.s38_base.specs.declared.id.Kind.TheVariants.{Context, Program, Profile, Space, Queue, Index, DataSpace, Cursor, Port, Journal, Block}
use Rattle.s38_base.specs.declared.id.Id.{Id}

abbrev pub kind_code : Kind → ℕ
kind_code Context = 1
kind_code Program = 2
kind_code Profile = 3
kind_code Space = 4
kind_code Queue = 5
kind_code Index = 6
kind_code DataSpace = 7
kind_code Cursor = 8
kind_code Port = 9
kind_code Journal = 10
kind_code Block = 11

abbrev pub same_kind : Kind → Kind → Bool
same_kind a b = kind_code a == kind_code b

unfoldable pub same_id : Id → Id → Bool
same_id a b = same_kind a.kind b.kind && ((a.sub == b.sub) && pointwise nat_eq a.name b.name)
