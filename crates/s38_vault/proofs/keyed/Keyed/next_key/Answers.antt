use Rattle.std.proofs.Common.{◌∙◌, ap, map, sym}
use Rattle.std.specs.FinMap as finmap
use Rattle.s38_vault.specs.Directory.{next_among}
use Rattle.s38_vault.proofs.KeyedLaws.{keys_are}
use Rattle.s38_vault.proofs.keyed.Keyed.next_key.Goals as goal

pub returns : goal.returns
returns g c =
    let after = c.args.after in
    c.next_key.ensures
    ∙ ap (λ es. next_among (map (λ e. e.0) es) after) c.deref.ensures.value
    ∙ ap (λ ks. next_among ks after) (sym (keys_are c.self.inside.entries.items c.self.invariant))
    ∙ ap (λ k. next_among (finmap.keys k.values) after) c.self.view_is
