-- The keys by which objects are found by name, and their order.
use Rattle.std.specs.Prelude.{ℕ, ◌==◌, Bool, ◌&&◌, not}
use Rattle.std.specs.declared.cmp.Ordering.{Ordering}
use Rattle.s38_base.specs.declared.id.Id.{Id}
use Rattle.s38_base.specs.Ids.{kind_code, same_id}
use Rattle.s38_objects.specs.declared.name_key.NameKey.{NameKey}
use Rattle.s38_objects.specs.contracts.name_key.NameKeyOrd.TheImpl as name_key_ord

-- the key of an identification in a context
abbrev pub key : ℕ → Id → NameKey
key context id = record { context = context; kind = kind_code id.kind; sub = id.sub; name = id.name }

-- the order of keys
abbrev pub name_cmp : NameKey → NameKey → Ordering
name_cmp = (name_key_ord.ghosts).cmp

-- what has the identification a in the context here is found by the identification b in the context there
abbrev pub is_found_by : ℕ → Id → ℕ → Id → Bool
is_found_by here a there b = (not (there == 0) && (here == there)) && same_id a b
