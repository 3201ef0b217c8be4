use Rattle.std.proofs.Common.{◌≡◌, ◌∙◌, ◌≢◌, ℕ, List, [], ◌∷◌, map, refl, sym, subst, ap, inl, inr}
use Rattle.std.specs.Prelude.{Some, None, true}
use Rattle.clap.specs.Faults.{fault_of, is_simple_and_free}
use Rattle.clap.specs.Kinds.{Kinds, HasKind}
use Rattle.clap.specs.Simple.{App, is_simple, matches_of}
use Rattle.clap.specs.Values.{kind_of}
use Rattle.clap.specs.Matches.{found_of}
use Rattle.clap.specs.Walk.{Row, rows_of}
use Rattle.clap.specs.declared.error.Error.{Error}
use Rattle.clap.specs.declared.error.kind.ErrorKind.TheVariants as kind
use Rattle.clap.proofs.OnLiterals.{clap_on_literals}
use Rattle.s38_command.specs.Said.{WordsSaid, command_line, said_by, said_in, said_of}
use Rattle.s38_command.proofs.said.said_of.Goals as goal

simple : is_simple command_line ≡ true
unfolding clap_on_literals
simple = refl

simple_and_free : is_simple_and_free command_line ≡ true
unfolding clap_on_literals
simple_and_free = refl

-- what is taken is said
taken : (words : List (List ℕ)) (rows : List Row) (said : WordsSaid) → said ≡ said_in rows → fault_of command_line words ≡ [] → rows ≡ matches_of command_line words → Some said ≡ said_of words
unfolding said_of
taken words rows said is none found =
    ap (λ (s : WordsSaid). Some s) (is ∙ ap said_in found) ∙ sym (ap (λ (k : Kinds). said_by k (matches_of command_line words)) none)

-- nothing is said of what is refused
refused : (words : List (List ℕ)) (e : Error) → HasKind (fault_of command_line words) e → kind_of e ≢ kind.OutOfMemory → None ≡ said_of words
unfolding said_of
refused words e has other = by (fault_of command_line words) has
  where
    by : (kinds : Kinds) → HasKind kinds e → None ≡ said_by kinds (matches_of command_line words)
    by [] (inl memory) = absurd (other memory)
    by [] (inr among) = absurd among
    by (k ∷ ks) h = refl

pub returns-in-Ok : goal.returns-in-Ok
returns-in-Ok c =
    let words = map (λ w. w.now) c.args.words.now in
    let app = c.in_ok-command.ensures in
    let rows = rows_of (found_of c.in-Ok.matches) in
    taken words rows c.said_in.result c.said_in.ensures
    (subst (λ (a : App). fault_of a words ≡ []) app (c.in-Ok.ensures.kinds (ap is_simple_and_free app ∙ simple_and_free)))
    (subst (λ (a : App). rows ≡ matches_of a words) app (c.in-Ok.ensures.matches (ap is_simple app ∙ simple)).0)

pub returns : goal.returns
returns c =
    let words = map (λ w. w.now) c.args.words.now in
    let app = c.in_ok-command.ensures in
    refused words c.in-Err.error
    (subst (λ (a : App). HasKind (fault_of a words) c.in-Err.error) app (c.in-Err.ensures.kinds (ap is_simple_and_free app ∙ simple_and_free)))
    (λ is. c.in_default.not-OutOfMemory (c.kind.ensures ∙ is))
