use Rattle.std.proofs.Common.{◌≡◌, ◌+◌, ◌-◌, ◌≤◌, ◌++◌, ◌∷◌, [], List, ℕ, length, ap, sym, ◌∙◌, arith, subst, drop}
use Rattle.s38_base.specs.declared.page.Change.{Change}
use Rattle.s38_image_writer.proofs.WriterLaws.{split_whole, turned_bytes, turned_cut}
use Rattle.s38_image.specs.Pages.{page_put_at, stream, zero_filled}
use Rattle.s38_image_writer.specs.Writing.{IsCut, Written}
use Rattle.s38_image_writer.proofs.writer.PageWriter.put_front.Goals as goal

pub invariant_of-self-2 : goal.invariant_of-self-2
invariant_of-self-2 c =
    let w = c.self.inside in
    let tail = w.tail.items in
    let front = c.split_at.result.0.now in
    let old = w.parts.items in
    let free : length tail + (512 - c.len-free.result) ≡ 512 = omega (arith, c.len-free.ensures.value, c.self.invariant.short) in
    let page : c.page_of-page.result ≡ page_put_at w.number w.part (zero_filled 512 (tail ++ front)) 0 =
    c.page_of-page.ensures ∙ ap (λ (q : List ℕ). page_put_at w.number w.part (zero_filled 512 q) 0) (c.as_slice.ensures.value ∙ c.extend-2.ensures) in
    let more = c.push_reserved.ensures.items ∙ ap (λ (q : Change). old ++ q ∷ []) page in
    let asked : length c.args.bytes.now ≤ w.room = subst (λ (v : Written). length c.args.bytes.now ≤ v.room) (sym c.self.view_is) c.requires in
    let room : 512 - c.len-free.result ≤ w.room = omega (arith, c.if-bytes-free.false, asked) in
    subst (λ (m : ℕ). IsCut w.number w.first (w.part + 1) (w.room - (512 - c.len-free.result)) w.start m c.push_reserved.new.self.items c.clear.new.self.items) (sym c.push_reserved.ensures.capacity)
    (turned_cut w.number w.first w.part w.room w.start _ (512 - c.len-free.result) old c.push_reserved.new.self.items tail front c.clear.new.self.items c.self.invariant c.split_at.ensures.front_len free room more c.clear.ensures)

pub returns-clause-bytes : goal.returns-clause-bytes
returns-clause-bytes c =
    let w = c.self.inside in
    let tail = w.tail.items in
    let front = c.split_at.result.0.now in
    let rest = c.split_at.result.1.now in
    let old = w.parts.items in
    let free : length tail + (512 - c.len-free.result) ≡ 512 = omega (arith, c.len-free.ensures.value, c.self.invariant.short) in
    let page : c.page_of-page.result ≡ page_put_at w.number w.part (zero_filled 512 (tail ++ front)) 0 =
    c.page_of-page.ensures ∙ ap (λ (q : List ℕ). page_put_at w.number w.part (zero_filled 512 q) 0) (c.as_slice.ensures.value ∙ c.extend-2.ensures) in
    let more = c.push_reserved.ensures.items ∙ ap (λ (q : Change). old ++ q ∷ []) page in
    let whole : front ++ rest ≡ c.args.bytes.now = split_whole (512 - c.len-free.result) c.args.bytes.now front rest c.split_at.ensures.front c.split_at.ensures.back in
    turned_bytes w.number w.first w.part w.room w.start _ (512 - c.len-free.result) old c.push_reserved.new.self.items tail front rest c.clear.new.self.items c.self.invariant c.split_at.ensures.front_len free more c.clear.ensures
    ∙ ap (λ (q : List ℕ). (stream (drop w.start old) ++ tail) ++ q) whole
    ∙ ap (λ (v : Written). v.bytes ++ c.args.bytes.now) c.self.view_is
