use Rattle.std.proofs.Common.{◌∙◌, ap, rules, sym}
use Rattle.std.specs.Prelude.{slice_get}
use Rattle.s38_indexes.specs.Entries.{place_of_key}
use Rattle.s38_indexes.specs.Leaves.{is_equal_to}
use Rattle.s38_indexes.proofs.OrderLaws.{equal_inside, held_where, removed_where, without_none}
use Rattle.s38_indexes.proofs.entries.remove.Goals as goal

pub returns-then-not-equals_at-clause-held : goal.returns-then-not-equals_at-clause-held
returns-then-not-equals_at-clause-held c =
    let key = c.args.key.now in
    let xs = c.args.entries.now.items in
    let at = c.place-at.ensures.value ∙ ap (λ ys. place_of_key key ys) c.deref.ensures.value in
    let test = c.equals_at.ensures ∙ ap (λ ys. is_equal_to key (slice_get ys c.place-at.result)) c.deref-2.ensures.value in
    sym (held_where key xs c.place-at.result c.equals_at.result c.requires at test ∙ c.if-not-equals_at.true)

pub returns-then-not-equals_at-clause-rest : goal.returns-then-not-equals_at-clause-rest
returns-then-not-equals_at-clause-rest c =
    let key = c.args.key.now in
    let xs = c.args.entries.now.items in
    let at = c.place-at.ensures.value ∙ ap (λ ys. place_of_key key ys) c.deref.ensures.value in
    let test = c.equals_at.ensures ∙ ap (λ ys. is_equal_to key (slice_get ys c.place-at.result)) c.deref-2.ensures.value in
    without_none key xs (held_where key xs c.place-at.result c.equals_at.result c.requires at test ∙ c.if-not-equals_at.true)

pub remove-requires : goal.remove-requires
remove-requires c =
    let test = c.equals_at.ensures ∙ ap (λ ys. is_equal_to c.args.key.now (slice_get ys c.place-at.result)) c.deref-2.ensures.value in
    let inside = equal_inside c.args.key.now c.args.entries.now.items c.place-at.result (sym test ∙ c.if-not-equals_at.false) in
    search rules

pub returns-clause-held : goal.returns-clause-held
returns-clause-held c =
    let key = c.args.key.now in
    let xs = c.args.entries.now.items in
    let at = c.place-at.ensures.value ∙ ap (λ ys. place_of_key key ys) c.deref.ensures.value in
    let test = c.equals_at.ensures ∙ ap (λ ys. is_equal_to key (slice_get ys c.place-at.result)) c.deref-2.ensures.value in
    sym (held_where key xs c.place-at.result c.equals_at.result c.requires at test ∙ c.if-not-equals_at.false)

pub returns-clause-rest : goal.returns-clause-rest
returns-clause-rest c =
    let key = c.args.key.now in
    let xs = c.args.entries.now.items in
    let at = c.place-at.ensures.value ∙ ap (λ ys. place_of_key key ys) c.deref.ensures.value in
    let test = c.equals_at.ensures ∙ ap (λ ys. is_equal_to key (slice_get ys c.place-at.result)) c.deref-2.ensures.value in
    c.remove.ensures.items ∙ removed_where key xs c.place-at.result c.equals_at.result at test c.if-not-equals_at.false
