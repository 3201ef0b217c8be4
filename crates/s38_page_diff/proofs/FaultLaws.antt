-- What one fault tells of another clause.
use Rattle.std.proofs.Common.{◌≡◌, ℕ, subst, sym}
use Rattle.std.specs.Prelude.{Err, IfErr, IsErrAnd, Ok, Result}
use Rattle.s38_page_diff.specs.FlushFaults.{IfBad, IfFull, IsFullFor, IsUnread}
use Rattle.s38_page_diff.specs.declared.fault.FlushFault.{FlushFault}
use Rattle.s38_page_diff.specs.declared.fault.FlushFault.TheVariants as faults

pub bad_on : (P Q : Type 0) → (P → Q) → (fault : FlushFault) → IsUnread P fault → IsUnread Q fault
bad_on P Q f (faults.BadHeader object) h = f h
bad_on P Q f (faults.Full needed free) h = h
bad_on P Q f faults.Failed h = tt
bad_on P Q f faults.NoMemory h = tt

-- the fault that is handed on is the one that came
pub handed : {T : Type 0} (P : FlushFault → Type 0) (r : Result T FlushFault) (fault : FlushFault) → IsErrAnd r (λ e. e ≡ fault) → P fault → IfErr r P
handed P (Ok done) fault same h = tt
handed P (Err e) fault same h = subst P (sym same) h

-- what was not read is not full
pub unread_full : (P : Type 0) (wanted room : ℕ) (fault : FlushFault) → IsUnread P fault → IsFullFor wanted room fault
unread_full P wanted room (faults.BadHeader object) h = tt
unread_full P wanted room (faults.Full needed free) h = absurd h
unread_full P wanted room faults.Failed h = tt
unread_full P wanted room faults.NoMemory h = tt

pub unread_less : (P Q : Type 0) (fault : FlushFault) → IsUnread P fault → IfFull Q fault
unread_less P Q (faults.BadHeader object) h = tt
unread_less P Q (faults.Full needed free) h = absurd h
unread_less P Q faults.Failed h = tt
unread_less P Q faults.NoMemory h = tt

pub if_full : (Q : Type 0) (fault : FlushFault) → Q → IfFull Q fault
if_full Q (faults.BadHeader object) h = tt
if_full Q (faults.Full needed free) h = h
if_full Q faults.Failed h = tt
if_full Q faults.NoMemory h = tt

pub unread_bad : (P Q : Type 0) → (P → Q) → (fault : FlushFault) → IsUnread P fault → IfBad Q fault
unread_bad P Q f (faults.BadHeader object) h = f h
unread_bad P Q f (faults.Full needed free) h = absurd h
unread_bad P Q f faults.Failed h = tt
unread_bad P Q f faults.NoMemory h = tt

pub never_bad_put : (Q : Type 0) (fault : FlushFault) → IfBad ⊥ fault → IfBad Q fault
never_bad_put Q (faults.BadHeader object) h = absurd h
never_bad_put Q (faults.Full needed free) h = tt
never_bad_put Q faults.Failed h = tt
never_bad_put Q faults.NoMemory h = tt
