use Rattle.std.proofs.Common.{arith, ap, subst, sym, ◌∙◌}
use Rattle.std.specs.FinMap as map
use Rattle.s38_base.specs.declared.page.Page.{Page}
use Rattle.s38_vault.specs.Directory.{NameObjects, keys_of}
use Rattle.s38_vault.specs.Keyed.{KeyedMap}
use Rattle.s38_vault.specs.Keys.{key_cmp}
use Rattle.s38_vault.proofs.DirectoryLaws.{none_named}
use Rattle.s38_vault.proofs.map_vault.MapVault.new.Goals as goal

pub invariant_of-result : goal.invariant_of-result
invariant_of-result c =
    let none = ap (λ k. map.len k.values) c.new.ensures ∙ map.len-empty key_cmp Page in
    record {
      fits = omega arith;
      objects = subst (λ (k : KeyedMap Page). NameObjects (keys_of k.values)) (sym c.new.ensures) none_named;
    }
