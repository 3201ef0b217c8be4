use Rattle.std.proofs.Common.{ℕ, ◌*◌, ◌∙◌, ap, subst, sym}
use Rattle.std.specs.List.{list_all}
use Rattle.std.specs.Prelude.{IsTrue}
use Rattle.s38_dataspaces.specs.Entries.{KeptEntries, has_width}
use Rattle.s38_dataspaces.proofs.StoredLaws.{stored_widths}
use Rattle.s38_dataspaces.proofs.records.Records.count.Goals as goal

pub returns-clause-widths : goal.returns-clause-widths
returns-clause-widths c =
    let flags = c.self.inside.presence in
    let bytes = c.self.inside.bytes in
    let width = c.self.inside.width in
    subst (λ (k : KeptEntries). IsTrue (list_all (has_width k.width) k.entries)) c.self.view_is
    (stored_widths flags.items bytes.items width (sym bytes.ok.0 ∙ c.self.invariant.whole ∙ ap (λ (n : ℕ). n * width) flags.ok.0))
