-- The last entry of a history is the one that was added last.
use Rattle.std.proofs.Common.{◌≡◌, ℕ, ◌-◌, List, [], ◌∷◌, ◌++◌, length, refl, ◌∙◌, ap, arith, length-append}
use Rattle.std.specs.Prelude.{Some, slice_get}
use Rattle.std.specs.Option.{option_map}
use Rattle.s38_code.specs.declared.entry.Entry.{Entry}
use Rattle.s38_code.specs.declared.event.Event.{Event}
use Rattle.s38_code.specs.Asking.{last_reply}
use Rattle.s38_rules.specs.step.Legal.{Run, after}

at_end : {A : Type 0} (xs : List A) (x : A) → slice_get (xs ++ x ∷ []) (length xs) ≡ Some x
at_end [] x = refl
at_end (y ∷ xs) x = at_end xs x

-- its reply is the last one
pub entered_by : (h : List Entry) (e : Entry) → last_reply (h ++ e ∷ []) ≡ Some e.reply
entered_by h e =
    let at : length (h ++ e ∷ []) - 1 ≡ length h = omega (arith, length-append h (e ∷ [])) in
    ap (λ k. option_map (λ (x : Entry). x.reply) (slice_get (h ++ e ∷ []) k)) at ∙ ap (option_map (λ (x : Entry). x.reply)) (at_end h e)

-- a step at the moment that it was leaves that moment
pub same_moment : (m n : Run) (p : ℕ) (e : Event) → n ≡ after m m.moment p e → n.moment ≡ m.moment
unfolding after
same_moment m n p e is = ap (λ (k : Run). k.moment) is
