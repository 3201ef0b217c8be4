-- A receiver that is taken out of the variables and put back.
use Rattle.std.proofs.Common.{◌≡◌, ◌≢◌, ℕ, zero, suc, ◌<◌, ◌≤◌, Bool, true, false, List, [], ◌∷◌, length, get_or, refl, sym, ◌∙◌, ap, arith}
use Rattle.std.proofs.lemmas.Bool.Decides.{nat_tests}
use Rattle.std.proofs.lemmas.List.{set-set}
use Rattle.std.proofs.lemmas.Option.{slice_get_read}
use Rattle.std.specs.Prelude.{Option, Some, None, Result, Ok, Err, ◌==◌, ◌||◌, slice_get, slice_set, if◌then◌else◌}
use Rattle.s38_base.specs.declared.exception.Exception.{Exception}
use Rattle.s38_base.specs.declared.op.Op.{Op}
use Rattle.s38_base.specs.declared.op.Op.TheVariants.{Cvtch}
use Rattle.s38_code.specs.declared.program.Arg.{Arg}
use Rattle.s38_code.specs.declared.program.Arg.TheVariants as args
use Rattle.s38_code.specs.declared.reply.Val.{Val}
use Rattle.s38_code.specs.declared.reply.Val.TheVariants as vals
use Rattle.s38_compute.specs.Compute.{string_given}
use Rattle.s38_compute.specs.Written.{bytes_after, failed}
use Rattle.s38_local.specs.declared.local_end.LocalEnd.{LocalEnd}
use Rattle.s38_local.specs.declared.local_end.LocalEnd.TheVariants as ends
use Rattle.s38_local.specs.Local.{operand, receiver_of}
use Rattle.s38_local.specs.Overlap.{bytes_past, end_after, end_at, is_place, own_bytes, reads, string_run, value_after}
use Rattle.s38_local.specs.Received.{Ran, bytes_put, bytes_received, changed_at, changed_there, value_with_bytes}
use Rattle.s38_local.specs.Variables.{argument_bytes, held_at, item_place, value_at, value_bytes}

-- what was taken from a place was there
pub taken : (xs : List Val) (i : ℕ) (r v : Val) → i < length xs → r ≡ get_or xs i r → v ≡ get_or xs i r → slice_get xs i ≡ Some v
taken xs i r v within r_is v_is = slice_get_read xs (length xs) i r refl within r_is ∙ ap Some (r_is ∙ sym v_is)

-- a value that was taken out is changed and put back
pub changed_back : (xs : List Val) (i : ℕ) (out w v : Val) (f : Val → Val) → slice_get xs i ≡ Some v → w ≡ f v → slice_set (slice_set xs i out) i w ≡ changed_at xs (Some i) f
changed_back xs i out w v f there is =
    set-set xs i out w ∙ ap (slice_set xs i) is ∙ sym (ap (changed_there xs (Some i) f) there)

-- a value that is put where it is already changes nothing
set_own : (xs : List Val) (i : ℕ) (v : Val) → slice_get xs i ≡ Some v → slice_set xs i v ≡ xs
set_own [] i v h = cc
set_own (x ∷ xs) zero v h = let e : v ≡ x = cc in ap (λ y. y ∷ xs) e
set_own (x ∷ xs) (suc i) v h = ap (λ ys. x ∷ ys) (set_own xs i v h)

set_other : (xs : List Val) (i k : ℕ) (v : Val) → k ≢ i → slice_get (slice_set xs i v) k ≡ slice_get xs k
set_other [] i k v apart = refl
set_other (x ∷ xs) zero zero v apart = absurd (apart refl)
set_other (x ∷ xs) zero (suc k) v apart = refl
set_other (x ∷ xs) (suc i) zero v apart = refl
set_other (x ∷ xs) (suc i) (suc k) v apart = set_other xs i k v (λ e. apart (ap suc e))

item_past : (xs : List Val) (i k : ℕ) (own : List ℕ) (out : Val) (test : Bool) → (k == i) ≡ test → (test ≡ true → own ≡ value_bytes (slice_get xs i)) → (if test then own else value_bytes (slice_get (slice_set xs i out) k)) ≡ value_bytes (slice_get xs k)
item_past xs i k own out true is keeps = let e : k ≡ i = grind (arith, nat_tests) in keeps refl ∙ ap (λ j. value_bytes (slice_get xs j)) (sym e)
item_past xs i k own out false is keeps = let apart : k ≢ i = grind (arith, nat_tests) in ap value_bytes (set_other xs i k out apart)

place_past : (xs : List Val) (i : ℕ) (place : Option ℕ) (own : List ℕ) (out : Val) → (is_place i place ≡ true → own ≡ value_bytes (slice_get xs i)) → (if is_place i place then own else value_bytes (value_at (slice_set xs i out) place)) ≡ value_bytes (value_at xs place)
place_past xs i None own out keeps = refl
place_past xs i (Some k) own out keeps = item_past xs i k own out (k == i) refl keeps

-- a source reads as before, while the receiver is taken out
source_past : (homes : List ℕ) (xs : List Val) (i : ℕ) (own : List ℕ) (out : Val) (arg : Option Arg) → (is_place i (item_place homes arg) ≡ true → own ≡ value_bytes (slice_get xs i)) → bytes_past homes i own (slice_set xs i out) arg ≡ argument_bytes homes xs arg
source_past homes xs i own out None keeps = refl
source_past homes xs i own out (Some (args.Item k)) keeps = place_past xs i (slice_get homes k) own out keeps
source_past homes xs i own out (Some _) keeps = refl

-- the receiver's own bytes are kept where it is read
kept : (homes : List ℕ) (xs : List Val) (i : ℕ) (given : List Arg) (own : List ℕ) → own ≡ own_bytes homes xs i given → reads homes i given ≡ true → own ≡ value_bytes (slice_get xs i)
kept homes xs i given own is read = is ∙ rw read refl

first_or : (p q r : Bool) → p ≡ true → (p || (q || r)) ≡ true
first_or true q r h = refl
first_or false q r h = cc

second_or : (p q r : Bool) → q ≡ true → (p || (q || r)) ≡ true
second_or true q r h = refl
second_or false true r h = refl
second_or false false r h = cc

third_or : (p q r : Bool) → r ≡ true → (p || (q || r)) ≡ true
third_or true q r h = refl
third_or false true r h = refl
third_or false false r h = h

pub first_past : (homes : List ℕ) (xs : List Val) (i : ℕ) (given : List Arg) (own : List ℕ) (out : Val) → own ≡ own_bytes homes xs i given → bytes_past homes i own (slice_set xs i out) (operand given 2) ≡ argument_bytes homes xs (operand given 2)
first_past homes xs i given own out is =
    source_past homes xs i own out (operand given 2)
    (λ h. kept homes xs i given own is (first_or (is_place i (item_place homes (operand given 2))) (is_place i (item_place homes (operand given 3))) (is_place i (item_place homes (operand given 4))) h))

pub second_past : (homes : List ℕ) (xs : List Val) (i : ℕ) (given : List Arg) (own : List ℕ) (out : Val) → own ≡ own_bytes homes xs i given → bytes_past homes i own (slice_set xs i out) (operand given 3) ≡ argument_bytes homes xs (operand given 3)
second_past homes xs i given own out is =
    source_past homes xs i own out (operand given 3)
    (λ h. kept homes xs i given own is (second_or (is_place i (item_place homes (operand given 2))) (is_place i (item_place homes (operand given 3))) (is_place i (item_place homes (operand given 4))) h))

pub third_past : (homes : List ℕ) (xs : List Val) (i : ℕ) (given : List Arg) (own : List ℕ) (out : Val) → own ≡ own_bytes homes xs i given → bytes_past homes i own (slice_set xs i out) (operand given 4) ≡ argument_bytes homes xs (operand given 4)
third_past homes xs i given own out is =
    source_past homes xs i own out (operand given 4)
    (λ h. kept homes xs i given own is (third_or (is_place i (item_place homes (operand given 2))) (is_place i (item_place homes (operand given 3))) (is_place i (item_place homes (operand given 4))) h))

-- where the receiver has no bytes, nothing is signalled
signals_none : (op : Op) (a b c : List ℕ) → failed (string_given op [] a b c) ≡ None
unfolding string_given
signals_none Cvtch [] b c = refl
signals_none Cvtch (x ∷ a) b c = let longer : (length (x ∷ a) == 0) ≡ false = grind (arith, nat_tests) in rw longer refl
signals_none _ a b c = refl

received_end : (xs : List Val) (to : Option ℕ) (r : Result (List ℕ) Exception) → end_after (failed r) ≡ (bytes_received xs to r).end
received_end xs to (Ok bytes) = refl
received_end xs to (Err x) = refl

-- a receiver without bytes gets none
pub none_end : (xs : List Val) (to : Option ℕ) (op : Op) (a b c held : List ℕ) → held ≡ [] → ends.Next ≡ (bytes_received xs to (string_given op held a b c)).end
none_end xs to op a b c held none =
    ap end_after (sym (signals_none op a b c)) ∙ received_end xs to (string_given op [] a b c) ∙ ap (λ h. (bytes_received xs to (string_given op h a b c)).end) (sym none)

-- and stays
pub none_values : (xs : List Val) (to : Option ℕ) (r : Result (List ℕ) Exception) → ((bytes : List ℕ) → bytes_put xs to bytes ≡ xs) → xs ≡ (bytes_received xs to r).values
none_values xs to (Ok bytes) stays = sym (stays bytes)
none_values xs to (Err x) stays = refl

received_values : (xs : List Val) (i : ℕ) (into : List ℕ) (r : Result (List ℕ) Exception) → slice_get xs i ≡ Some (vals.Bytes into) → slice_set xs i (vals.Bytes (bytes_after into r)) ≡ (bytes_received xs (Some i) r).values
received_values xs i into (Ok bytes) there = sym (ap (changed_there xs (Some i) (value_with_bytes bytes)) there)
received_values xs i into (Err x) there = set_own xs i (vals.Bytes into) there

end_by : (xs : List Val) (i : ℕ) (v : Val) (op : Op) (a b c : List ℕ) → end_at op v a b c ≡ (bytes_received xs (Some i) (string_given op (value_bytes (Some v)) a b c)).end
end_by xs i (vals.Bytes into) op a b c = received_end xs (Some i) (string_given op into a b c)
end_by xs i (vals.Ptr p) op a b c = none_end xs (Some i) op a b c [] refl
end_by xs i (vals.Branch t) op a b c = none_end xs (Some i) op a b c [] refl
end_by xs i (vals.Code p) op a b c = none_end xs (Some i) op a b c [] refl

kept_by : (xs : List Val) (i : ℕ) (v : Val) (r : Result (List ℕ) Exception) → slice_get xs i ≡ Some v → ((bytes : List ℕ) → value_with_bytes bytes v ≡ v) → slice_set xs i v ≡ (bytes_received xs (Some i) r).values
kept_by xs i v (Ok bytes) there stays = ap (slice_set xs i) (sym (stays bytes)) ∙ sym (ap (changed_there xs (Some i) (value_with_bytes bytes)) there)
kept_by xs i v (Err x) there stays = set_own xs i v there

values_by : (xs : List Val) (i : ℕ) (v : Val) (op : Op) (a b c : List ℕ) → slice_get xs i ≡ Some v → slice_set xs i (value_after op v a b c) ≡ (bytes_received xs (Some i) (string_given op (value_bytes (Some v)) a b c)).values
values_by xs i (vals.Bytes into) op a b c there = received_values xs i into (string_given op into a b c) there
values_by xs i (vals.Ptr p) op a b c there = kept_by xs i (vals.Ptr p) (string_given op [] a b c) there (λ bytes. refl)
values_by xs i (vals.Branch t) op a b c there = kept_by xs i (vals.Branch t) (string_given op [] a b c) there (λ bytes. refl)
values_by xs i (vals.Code p) op a b c there = kept_by xs i (vals.Code p) (string_given op [] a b c) there (λ bytes. refl)

-- ---- a string instruction by its receiver

run_at : (homes : List ℕ) (xs : List Val) (i : ℕ) (o : Option Val) (op : Op) (given : List Arg) (a b c : List ℕ) → receiver_of homes given ≡ Some i → slice_get xs i ≡ o
    → a ≡ argument_bytes homes xs (operand given 2) → b ≡ argument_bytes homes xs (operand given 3) → c ≡ argument_bytes homes xs (operand given 4)
    → bytes_received xs (Some i) (string_given op (value_bytes o) a b c) ≡ string_run homes xs op given
run_at homes xs i o op given a b c first there p q r =
    ap (λ v. bytes_received xs (Some i) (string_given op (value_bytes v) a b c)) (sym there)
    ∙ ap (λ x. bytes_received xs (Some i) (string_given op (value_bytes (slice_get xs i)) x b c)) p
    ∙ ap (λ x. bytes_received xs (Some i) (string_given op (value_bytes (slice_get xs i)) (argument_bytes homes xs (operand given 2)) x c)) q
    ∙ ap (λ x. bytes_received xs (Some i) (string_given op (value_bytes (slice_get xs i)) (argument_bytes homes xs (operand given 2)) (argument_bytes homes xs (operand given 3)) x)) r
    ∙ ap (λ to. bytes_received xs to (string_given op (held_at xs to) (argument_bytes homes xs (operand given 2)) (argument_bytes homes xs (operand given 3)) (argument_bytes homes xs (operand given 4)))) (sym first)

-- how it ends, by the receiver that was taken out
pub string_end : (homes : List ℕ) (xs : List Val) (i : ℕ) (v : Val) (op : Op) (given : List Arg) (a b c : List ℕ) (e : LocalEnd) → slice_get xs i ≡ Some v → receiver_of homes given ≡ Some i
    → a ≡ argument_bytes homes xs (operand given 2) → b ≡ argument_bytes homes xs (operand given 3) → c ≡ argument_bytes homes xs (operand given 4) → e ≡ end_at op v a b c → e ≡ (string_run homes xs op given).end
string_end homes xs i v op given a b c e there first p q r is =
    is ∙ end_by xs i v op a b c ∙ ap (λ (x : Ran). x.end) (run_at homes xs i (Some v) op given a b c first there p q r)

-- and what it leaves
pub string_values : (homes : List ℕ) (xs : List Val) (i : ℕ) (out w v : Val) (op : Op) (given : List Arg) (a b c : List ℕ) → slice_get xs i ≡ Some v → receiver_of homes given ≡ Some i
    → a ≡ argument_bytes homes xs (operand given 2) → b ≡ argument_bytes homes xs (operand given 3) → c ≡ argument_bytes homes xs (operand given 4) → w ≡ value_after op v a b c
    → slice_set (slice_set xs i out) i w ≡ (string_run homes xs op given).values
string_values homes xs i out w v op given a b c there first p q r is =
    set-set xs i out w ∙ ap (slice_set xs i) is ∙ values_by xs i v op a b c there ∙ ap (λ (x : Ran). x.values) (run_at homes xs i (Some v) op given a b c first there p q r)

absent : (xs : List Val) (i : ℕ) → length xs ≤ i → slice_get xs i ≡ None
absent [] i h = refl
absent (x ∷ xs) zero h = absurd (omega arith)
absent (x ∷ xs) (suc i) h = absent xs i (omega arith)

-- a receiver that is not there gets nothing
pub absent_end : (homes : List ℕ) (xs : List Val) (i : ℕ) (op : Op) (given : List Arg) → receiver_of homes given ≡ Some i → length xs ≤ i → ends.Next ≡ (string_run homes xs op given).end
absent_end homes xs i op given first past =
    none_end xs (receiver_of homes given) op _ _ _ (held_at xs (receiver_of homes given)) (ap (held_at xs) first ∙ ap value_bytes (absent xs i past))

pub absent_values : (homes : List ℕ) (xs : List Val) (i : ℕ) (op : Op) (given : List Arg) → receiver_of homes given ≡ Some i → length xs ≤ i → xs ≡ (string_run homes xs op given).values
absent_values homes xs i op given first past =
    none_values xs (receiver_of homes given) _ (λ bytes. ap (λ to. bytes_put xs to bytes) first ∙ ap (changed_there xs (Some i) (value_with_bytes bytes)) (absent xs i past))

-- nor does an operand that is no item
pub other_end : (homes : List ℕ) (xs : List Val) (op : Op) (given : List Arg) → receiver_of homes given ≡ None → ends.Next ≡ (string_run homes xs op given).end
other_end homes xs op given none = none_end xs (receiver_of homes given) op _ _ _ (held_at xs (receiver_of homes given)) (ap (held_at xs) none)

pub other_values : (homes : List ℕ) (xs : List Val) (op : Op) (given : List Arg) → receiver_of homes given ≡ None → xs ≡ (string_run homes xs op given).values
other_values homes xs op given none = none_values xs (receiver_of homes given) _ (λ bytes. ap (λ to. bytes_put xs to bytes) none)
