use Rattle.std.proofs.Common.{◌≡◌, List, [], ◌∷◌, ◌++◌, sym, subst, rules}
use Rattle.s38_code.specs.declared.program.Row.{Row}
use Rattle.s38_odt.specs.Places.{IsTied}
use Rattle.s38_odt.proofs.PlaceLemmas.{IsTied-push}
use Rattle.s38_odt.proofs.places.add.Goals as goal

pub returns-clause-tied : goal.returns-clause-tied
returns-clause-tied c =
    let longer : c.push.new.self.items ≡ c.args.declared.now.rows.items ++ c.args.row ∷ [] = search rules in
    let P : List Row → Type 0 = λ rows. IsTied c.insert.new.self rows in
    subst P (sym longer) (IsTied-push c.args.declared.now.places c.insert.new.self c.args.declared.now.rows.items c.args.row c.requires.tied c.requires.absent (search rules))
