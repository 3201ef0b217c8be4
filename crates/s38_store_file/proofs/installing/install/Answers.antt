use Rattle.std.proofs.Common.{◌∙◌, ap, refl, subst, sym}
use Rattle.s38_redo_log.specs.Store.{RecoversTo}
use Rattle.s38_pages.specs.Formats.{first_content}
use Rattle.s38_pages.specs.Mounts.{layout_of}
use Rattle.s38_vault.specs.Content.{Content}
use Rattle.s38_store_file.proofs.CrashLaws.{during_none, making}
use Rattle.s38_store_file.proofs.installing.install.Goals as goal

pub returns-in-Ok-format-clause-made : goal.returns-in-Ok-format-clause-made
returns-in-Ok-format-clause-made g c s t at is =
    subst (λ (m : Content). RecoversTo (layout_of (g.D.Disk.view c.release.result).size) t.now m) (ap first_content c.as_slice.ensures.value ∙ c.in-Ok.ensures.content)
    (c.release.ensures.stands (first_content c.as_slice.result.now) (c.in-Ok-format.ensures.content s at) t is)

pub returns-in-Ok-format-clause-during : goal.returns-in-Ok-format-clause-during
returns-in-Ok-format-clause-during g c s is rest =
    making c.in-Ok-format.ensures.moves c.release.ensures.disk c.release.ensures.layout (ap first_content c.as_slice.ensures.value ∙ c.in-Ok.ensures.content) s is rest

pub returns-clause-crash : goal.returns-clause-crash
returns-clause-crash g c s is rest =
    let moves = c.in-Err-format.ensures.crash in
    making moves refl (ap layout_of (sym moves.size)) (ap first_content c.as_slice.ensures.value ∙ c.in-Ok.ensures.content) s is rest

pub returns-in-Err-clause-crash : goal.returns-in-Err-clause-crash
returns-in-Err-clause-crash g c s is rest = during_none _ _
