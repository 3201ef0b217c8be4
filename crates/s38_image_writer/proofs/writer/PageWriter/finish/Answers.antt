use Rattle.std.proofs.Common.{◌≡◌, ◌++◌, ◌∷◌, [], List, ℕ, length, ap, sym, ◌∙◌, subst}
use Rattle.std.proofs.lemmas.Bool.{eqb-true}
use Rattle.s38_image_writer.proofs.WriterLaws.{finished_full, finished_short, some_length}
use Rattle.s38_image.specs.Pages.{page_put_at, stream_parts, zero_filled}
use Rattle.s38_image_writer.specs.Writing.{Written}
use Rattle.s38_base.specs.declared.page.Change.{Change}
use Rattle.s38_image_writer.proofs.writer.PageWriter.finish.Goals as goal

pub returns-then-not-is_empty-clause-parts : goal.returns-then-not-is_empty-clause-parts
returns-then-not-is_empty-clause-parts c =
    let w = c.self.inside in
    let tail = w.tail.items in
    let old = w.parts.items in
    let page : c.page_of.result ≡ page_put_at w.number w.part (zero_filled 512 tail) 0 = c.page_of.ensures ∙ ap (λ (q : List ℕ). page_put_at w.number w.part (zero_filled 512 q) 0) c.as_slice.ensures.value in
    let more = c.push_reserved.ensures.items ∙ ap (λ (q : Change). old ++ q ∷ []) page in
    subst (λ (v : Written). c.push_reserved.new.self.items ≡ v.place.before ++ stream_parts v.place.number v.place.first v.bytes []) c.self.view_is
    (finished_short w.number w.first w.part w.room w.start _ old c.push_reserved.new.self.items tail c.self.invariant (some_length tail (sym c.is_empty.ensures ∙ c.if-not-is_empty.true)) more)

pub returns-else-not-is_empty-clause-parts : goal.returns-else-not-is_empty-clause-parts
returns-else-not-is_empty-clause-parts c =
    let w = c.self.inside in
    subst (λ (v : Written). w.parts.items ≡ v.place.before ++ stream_parts v.place.number v.place.first v.bytes []) c.self.view_is
    (finished_full w.number w.first w.part w.room w.start _ w.parts.items w.tail.items c.self.invariant (eqb-true (length w.tail.items) 0 (sym c.is_empty.ensures ∙ c.if-not-is_empty.false)))
