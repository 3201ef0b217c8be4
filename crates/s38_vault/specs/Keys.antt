-- The order of keys: by object, and then by part.
use Rattle.std.specs.Prelude.{◌≡◌, ℕ, refl}
use Rattle.std.specs.Cmp.{IsTotalOrder, nat_cmp_total, on_total, then_total}
use Rattle.std.specs.Coded.{Coded, code_by, coded×, coded_ℕ}
use Rattle.std.specs.Ordering.{nat_cmp, ordering_then}
use Rattle.std.specs.declared.cmp.Ordering.{Ordering}
use Rattle.std.specs.declared.cmp.Ordering.TheVariants.{Less}
use Rattle.s38_base.specs.declared.page.Key.{Key}

abbrev pub key_cmp : Key → Key → Ordering
key_cmp a b = ordering_then (nat_cmp a.object b.object) (nat_cmp a.part b.part)

-- one key comes before another
abbrev pub IsBefore : Key → Key → Type 0
IsBefore a b = key_cmp a b ≡ Less

pub key_cmp_total : IsTotalOrder key_cmp
key_cmp_total = then_total (on_total (λ (k : Key). k.object) nat_cmp_total) (on_total (λ (k : Key). k.part) nat_cmp_total)

-- a key is stored as the pair of its fields
abbrev pub key_code : Coded Key
key_code =
    code_by (ℕ × ℕ) (coded× coded_ℕ coded_ℕ) (λ k. (k.object, k.part)) (λ p. record { object = p.0; part = p.1 }) (λ _. refl)
