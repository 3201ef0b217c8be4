-- What a call came to, by its result.
use Rattle.std.proofs.Common.{◌≡◌, subst}
use Rattle.std.specs.Prelude.{Err, IfErr, IfOk, Ok, OnOk, Result}
use Rattle.s38_page_diff.specs.declared.fault.FlushFault.{FlushFault}

pub kept_of : {P Q : Type 0} (r : Result (Unit {0}) FlushFault) → OnOk r P → (P → Q) → OnOk r Q
kept_of (Ok done) p f = f p
kept_of (Err fault) p f = tt

-- what is said of each fault is said of this one
pub of_fault : (P : FlushFault → Type 0) (r : Result (Unit {0}) FlushFault) (fault : FlushFault) → r ≡ Err fault → IfErr r P → P fault
of_fault P r fault is h = subst (λ (x : Result (Unit {0}) FlushFault). IfErr x P) is h

-- what follows of each answer, and of each fault
pub ok_on : {A E : Type 0} (P Q : A → Type 0) (r : Result A E) → IfOk r P → ((x : A) → P x → Q x) → IfOk r Q
ok_on P Q (Ok x) p f = f x p
ok_on P Q (Err e) p f = tt

pub err_on : {A E : Type 0} (P Q : E → Type 0) (r : Result A E) → IfErr r P → ((e : E) → P e → Q e) → IfErr r Q
err_on P Q (Ok x) p f = tt
err_on P Q (Err e) p f = f e p
