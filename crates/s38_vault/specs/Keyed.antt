-- Values by key, in a list in the order of the keys.
use Rattle.std.specs.Prelude.{ℕ, Bool, false, List, None, Option, Some, not, refl, if◌then◌else◌}
use Rattle.std.specs.Coded.{Coded, code_by, coded×, coded_ℕ}
use Rattle.std.specs.FinMap as map
use Rattle.std.specs.List.{position_or_len}
use Rattle.std.specs.Ordering.{eq_by_cmp, is_lt}
use Rattle.s38_base.specs.declared.page.Key.{Key}
use Rattle.s38_vault.specs.Keys.{key_cmp, key_code}

-- the values, and how many more keys there is memory for
pub record KeyedMap (V : Type 0) : Type 0 where
  pub values : map.FinMap key_cmp V
  pub spare : ℕ

-- it is stored as the pair of its fields
abbrev pub keyed_code : {V : Type 0} → Coded V → Coded (KeyedMap V)
keyed_code {V} code =
    code_by (map.FinMap key_cmp V × ℕ) (coded× (map.code key_code code) coded_ℕ) (λ m. (m.values, m.spare))
    (λ p. record { values = p.0; spare = p.1 }) (λ _. refl)

-- where the first entry is whose key does not come before this one, or how many entries there are
abbrev pub place : {V : Type 0} → Key → List (Key × V) → ℕ
place key entries = position_or_len (λ entry. not (is_lt (key_cmp entry.0 key))) entries

-- an entry has this key
abbrev pub is_of : {V : Type 0} → Key → Option (Key × V) → Bool
is_of key None = false
is_of key (Some entry) = eq_by_cmp key_cmp entry.0 key

-- the value of an entry that has this key
abbrev pub value_of : {V : Type 0} → Key → Option (Key × V) → Option V
value_of key None = None
value_of key (Some entry) = if eq_by_cmp key_cmp entry.0 key then Some entry.1 else None
