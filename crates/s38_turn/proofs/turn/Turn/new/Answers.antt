use Rattle.std.proofs.Common.{◌≡◌, [], ◌∷◌, Some, ◌∙◌, sym, ap, refl, subst, Option, List}
use Rattle.atomic_table.specs.Table.{opening}
use Rattle.s38_turn.specs.Calls.{IsLike}
use Rattle.s38_turn.specs.Items.{items, items_of}
use Rattle.s38_turn.specs.Plays.{first_view}
use Rattle.s38_turn.specs.Rule.{IsKept}
use Rattle.s38_turn.proofs.Ends.{starts}
use Rattle.s38_turn.proofs.turn.Turn.new.Goals as goal

pub new-requires : goal.new-requires
new-requires g c =
    let S = g.M.Stepper in
    let v = c.of.result.value in
    let e : v ≡ c.args.machine = c.of.ensures in
    let people = c.args.processes in
    let all = items_of S.history S.stopped in
    let good = IsLike S.is_sound S.origin v in
    let none_yet : items (S.history v) (S.stopped v) ≡ [] = (λ k. items ((ap S.history e ∙ c.requires.empty) k) ((ap S.stopped e ∙ c.requires.going) k)) in
    let slots : c.in-Ok.slots.items ≡ Some v ∷ [] = c.in-Ok.ensures.ok ∙ ap (λ m. Some m ∷ []) (sym e) in
    subst (λ (xs : List (Option g.row.M.Denot)). IsKept v people good all (opening (0 ∷ 0 ∷ []) xs (first_view v people))) (sym slots)
    (starts g.row.M.Denot v people good all (subst S.is_sound (sym e) c.requires.sound, refl) none_yet)
