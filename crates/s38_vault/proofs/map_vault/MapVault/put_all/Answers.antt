use Rattle.std.proofs.Common.{◌≡◌, ◌+◌, ◌-◌, ap, subst, sym, ◌∙◌}
use Rattle.std.specs.FinMap as map
use Rattle.s38_vault.specs.Directory.{gone_keys, keys_of, new_keys}
use Rattle.s38_vault.specs.MapVaults.{MapStore}
use Rattle.s38_vault.proofs.DirectoryLaws.{fits_after, free_after, named_by}
use Rattle.s38_vault.proofs.map_vault.MapVault.put_all.Goals as goal

pub invariant_of-self : goal.invariant_of-self
invariant_of-self c =
    let m = c.self.inside.pages.values in
    let new = c.change_all.new.pages.values in
    let free = c.free-free.ensures.free ∙ sym (ap (λ s. s.parts - map.len s.pages) c.self.view_is) in
    record {
      fits = fits_after m new c.args.changes.now c.self.inside.parts _ _ c.requires.rising c.self.invariant.fits free c.count_new-needed.ensures c.if-needed-free.false c.change_all.ensures.values;
      objects = named_by m new c.args.changes.now c.self.invariant.objects c.requires.objects c.change_all.ensures.values;
    }

pub returns-clause-free : goal.returns-clause-free
returns-clause-free c =
    let m = c.self.inside.pages.values in
    let new = c.change_all.new.pages.values in
    let cs = c.args.changes.now in
    let parts = c.self.inside.parts in
    let free = c.free-free.ensures.free ∙ sym (ap (λ s. s.parts - map.len s.pages) c.self.view_is) in
    subst (λ (s : MapStore). (parts - map.len new) + new_keys (keys_of s.pages) cs ≡ (s.parts - map.len s.pages) + gone_keys (keys_of s.pages) cs) c.self.view_is
    (free_after m new cs parts _ _ c.requires.rising c.self.invariant.fits free c.count_new-needed.ensures c.if-needed-free.false c.change_all.ensures.values)
