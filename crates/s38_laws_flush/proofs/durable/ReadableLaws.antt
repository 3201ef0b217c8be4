-- What a step must persist can be read again, if each object of which it speaks can.
use Rattle.std.proofs.Common.{Bool, List, [], ap, arith, false, refl, sym, true, ℕ, ◌==◌, ◌∙◌, ◌∷◌, ◌≡◌}
use Rattle.std.proofs.lemmas.Bool.Decides.{nat_tests}
use Rattle.std.specs.List.{list_any}
use Rattle.std.specs.Prelude.{All, None, Some, ◌||◌}
use Rattle.s38_base.specs.Limits.{body_limit}
use Rattle.s38_durable_state.specs.Durable.{whole_object}
use Rattle.s38_image.specs.Fitting.{IsImage}
use Rattle.s38_image_writer.specs.Parts.{CanSettle}
use Rattle.s38_laws_flush.proofs.durable.FoundLaws.{found_all}
use Rattle.s38_laws_flush.proofs.durable.NumberLaws.{other_forced}
use Rattle.s38_laws_flush.specs.durable.Kept.{AreReadable}
use Rattle.s38_laws_objects.specs.Outline.{is_forced, speaks_of}
use Rattle.s38_laws_images.specs.openings.Bodies.{HoldsBody}
use Rattle.s38_laws_images.proofs.readable.LastLaws.{whole_again}
use Rattle.s38_laws_images.specs.readable.Readable.{IsAgain}
use Rattle.s38_rules.specs.store.Forcing.{Ceiling, Forced, Header, Removed, Whole, is_whole}
use Rattle.s38_rules.specs.state.Held.{Held, object}
use Rattle.s38_rules.specs.state.State.{State}
use Rattle.s38_rules.specs.declared.object.Object.{Object}
use Rattle.s38_flush.specs.Numbers.{numbered}

either : (a b c d : Bool) → (a ≡ true → c ≡ true) → (b ≡ true → d ≡ true) → (a || b) ≡ true → (c || d) ≡ true
either a b true d left right h = refl
either true b false d left right h = let none : false ≡ true = left refl in absurd cc
either false b false d left right h = right h

whole_speaks : (n : ℕ) (one : Forced) → is_whole n one ≡ true → speaks_of n one ≡ true
whole_speaks n Ceiling h = h
whole_speaks n (Header m) h = absurd cc
whole_speaks n (Whole m) h = h
whole_speaks n (Removed m) h = absurd cc

whole_forced : (n : ℕ) (all : List Forced) → list_any (is_whole n) all ≡ true → is_forced n all ≡ true
whole_forced n [] h = h
whole_forced n (one ∷ all) h = either (is_whole n one) (list_any (is_whole n) all) (speaks_of n one) (is_forced n all) (whole_speaks n one) (whole_forced n all) h

pub forced_readable : (all : List Forced) (s : State) → All (HoldsBody body_limit) s.held.objects → All (λ o. CanSettle s.units o.number.0 o.body) s.held.objects
    → ((n : ℕ) (o : Object) → is_forced n all ≡ true → object s.held n ≡ Some o → IsAgain o) → AreReadable all s
forced_readable all s bodies settles again = record {
  as_whole = λ n o is found disk. image n o found (again n o (whole_forced n all is) found);
  user = λ n o forced found disk profile. image n o found (again n o forced found);
  front = λ n o forced found disk. (again n o forced found).1;
}
  where
    image : (n : ℕ) (o : Object) → object s.held n ≡ Some o → IsAgain o → IsImage body_limit (whole_object s o)
    image n o found is = whole_again s o bodies (found_all (λ x. CanSettle s.units x.number.0 x.body) s.held.objects n o settles found) is.0

-- so is each of which something speaks beside what speaks of number 0, which is the number of none
pub numbered_again : (all : List Forced) (h : Held) → object h 0 ≡ None → ((n : ℕ) (o : Object) → is_forced n (numbered all) ≡ true → object h n ≡ Some o → IsAgain o)
    → (n : ℕ) (o : Object) → is_forced n all ≡ true → object h n ≡ Some o → IsAgain o
numbered_again all h none again n o speaks found = by (n == 0) refl
  where
    number_is : (a b : ℕ) → (a == b) ≡ true → a ≡ b
    number_is a b same = grind (arith, nat_tests)

    by : (b : Bool) → (n == 0) ≡ b → IsAgain o
    by true same = let gone : Some o ≡ None = sym found ∙ ap (object h) (number_is n 0 same) ∙ none in absurd cc
    by false other = again n o (other_forced n all other ∙ speaks) found
