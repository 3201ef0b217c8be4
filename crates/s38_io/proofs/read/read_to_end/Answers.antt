use Rattle.std.proofs.Common.{◌≡◌, ℕ, List, ◌++◌, length, drop, Option, rules, ap, sym, subst, ◌∙◌}
use Rattle.std.proofs.lemmas.List.{take-append-drop}
use Rattle.std.proofs.KnownBytes.{Consumes-trans}
use Rattle.std.specs.Io.KnownBytes.{Consumes}
use Rattle.s38_io.specs.Source.{AddsPiece}
use Rattle.s38_io.proofs.read.read_to_end.Goals as goal

-- the bytes that the failing piece lost came after the others
pub returns-in-Err-add_piece-clause-front : goal.returns-in-Err-add_piece-clause-front
returns-in-Err-add_piece-clause-front g c =
    (_, Consumes-trans _ _ _ _ _ c.pieces.invariant.taken c.add_piece.ensures.front.1)

-- a piece that came after the others
with_piece : (a b c : Option (List ℕ)) (before after : List ℕ) (room n : ℕ) → Consumes a b before → AddsPiece b c before after room n → Consumes a c after
with_piece a b c before after room n taken more =
    let all : before ++ drop (length before) after ≡ after =
    ap (λ (xs : List ℕ). xs ++ drop (length before) after) (sym more.same) ∙ take-append-drop (length before) after in
    subst (Consumes a c) all (Consumes-trans a b c _ _ taken more.next)

pub pieces-preserved : goal.pieces-preserved
pieces-preserved g c = record {
  within = search rules;
  room = search rules;
  taken = with_piece _ _ _ _ _ _ _ c.pieces.invariant.taken c.in-Ok-add_piece.ensures.ok;
  steady = c.in-Ok-add_piece.ensures.count ∙ c.pieces.invariant.steady;
}
