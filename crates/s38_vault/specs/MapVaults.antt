-- A vault in memory.
use Rattle.std.specs.Prelude.{◌-◌, ℕ, List, refl}
use Rattle.std.specs.Coded.{Coded, code_by, coded×, coded_list, coded_ℕ}
use Rattle.std.specs.FinMap as map
use Rattle.s38_base.specs.Limits.{body_limit}
use Rattle.s38_base.specs.declared.page.Page.{Page}
use Rattle.s38_vault.specs.Content.{Content}
use Rattle.s38_vault.specs.Directory.{keys_of}
use Rattle.s38_vault.specs.Keys.{key_code}
use Rattle.s38_vault.specs.Vaults.{VaultView, most_changes}

-- its pages, how many parts it has, for how many changes memory is reserved, and how many puts were made
pub record MapStore : Type 0 where
  pub pages : Content
  pub parts : ℕ
  pub spare : ℕ
  pub moment : ℕ

-- a page is stored as the pair of its fields
abbrev pub page_code : Coded Page
page_code =
    code_by (List ℕ × ℕ) (coded× (coded_list coded_ℕ) coded_ℕ) (λ p. (p.bytes, p.tags))
    (λ p. record { bytes = p.0; tags = p.1 }) (λ _. refl)

-- it is stored as the tuple of its fields
abbrev pub map_store_code : Coded MapStore
map_store_code =
    code_by (Content × (ℕ × (ℕ × ℕ)))
    (coded× (map.code key_code page_code) (coded× coded_ℕ (coded× coded_ℕ coded_ℕ)))
    (λ s. (s.pages, (s.parts, (s.spare, s.moment))))
    (λ p. record { pages = p.0; parts = p.1.0; spare = p.1.1.0; moment = p.1.1.1 })
    (λ _. refl)

-- as a vault: each part that has no page is free, and it never fails
abbrev pub map_view : MapStore → VaultView
map_view store =
    record {
      keys = keys_of store.pages;
      free = store.parts - map.len store.pages;
      spare = store.spare;
      moment = store.moment;
      faults = 0;
      shape = record { parts = store.parts; most = most_changes; body_limit = body_limit; start = 0 };
    }
