-- Control stays within the code.
use Rattle.std.proofs.Common.{◌≡◌, ◌≤◌, ◌<◌, ℕ, zero, suc, ◌+◌, Bool, true, false, List, [], ◌∷◌, length, Option, refl, subst, arith}
use Rattle.std.specs.Prelude.{Some, None, slice_get, nat_le, Result, Ok, Err}
use Rattle.std.specs.List.{All, list_all}
use Rattle.std.proofs.lemmas.Bool.{and_parts, cond_both, leb-true}
use Rattle.std.proofs.lemmas.List.Elements.{All-cons, All-head, All-tail}
use Rattle.s38_base.specs.declared.exception.Exception.{Exception}
use Rattle.s38_base.specs.declared.op.Op.{Op}
use Rattle.s38_base.specs.declared.op.Op.TheVariants.{B, Calli, Modexcpd, Rtx}
use Rattle.s38_base.specs.Exceptions as exceptions
use Rattle.s38_base.specs.Limits.{most_calls}
use Rattle.s38_base.specs.Signals.{plain}
use Rattle.s38_code.specs.declared.program.Arg.{Arg}
use Rattle.s38_code.specs.declared.program.Arg.TheVariants as args
use Rattle.s38_code.specs.declared.program.Instruction.{Instruction}
use Rattle.s38_code.specs.declared.reply.Val.{Val}
use Rattle.s38_compute.specs.declared.given.Given.{Given}
use Rattle.s38_compute.specs.declared.given.Given.TheVariants as givens
use Rattle.s38_local.specs.declared.frame.Frame.{Frame}
use Rattle.s38_local.specs.declared.local_end.LocalEnd.{LocalEnd}
use Rattle.s38_local.specs.declared.local_end.LocalEnd.TheVariants as ends
use Rattle.s38_local.specs.Frames.{Moved, called, called_at, returned, returned_to, switched}
use Rattle.s38_local.specs.Law.{EndsWithin, FrameIsInRange}
use Rattle.s38_local.specs.Local.{argument_word, controlled, label_at, operand, received}
use Rattle.s38_local.specs.Received.{jump_to, jumps}
use Rattle.s38_odt.specs.Suited.{lands_in}

-- an invocation went on within its program, and names lie where they lay
pub record KeepsWithin (count : ℕ) (frame : Frame) (ending : LocalEnd) (after : Frame) : Type 0 where
  pub homes : after.homes ≡ frame.homes
  pub base : after.base ≡ frame.base
  pub within : FrameIsInRange count after
  pub end : EndsWithin count ending

stays_there : (count : ℕ) (frame : Frame) (end : LocalEnd) → FrameIsInRange count frame → EndsWithin count end → KeepsWithin count frame end frame
stays_there count frame end within ends = record { homes = refl; base = refl; within = within; end = ends }

-- ---- jumps

each_at : {X : Type 0} (p : X → Bool) (xs : List X) (k : ℕ) (x : X) → list_all p xs ≡ true → slice_get xs k ≡ Some x → p x ≡ true
each_at p [] k x all there = cc
each_at p (y ∷ xs) zero x all there = let e : y ≡ x = cc in subst (λ z. p z ≡ true) e (and_parts (p y) (list_all p xs) all).0
each_at p (y ∷ xs) (suc k) x all there = each_at p xs k x (and_parts (p y) (list_all p xs) all).1 there

jump_by : (count : ℕ) (arg : Option Arg) → ((a : Arg) → arg ≡ Some a → lands_in count a ≡ true) → EndsWithin count (jump_to arg)
jump_by count None lands = tt
jump_by count (Some (args.Jump at)) lands = leb-true at count (lands (args.Jump at) refl)
jump_by count (Some _) lands = tt

jump_lands : (count : ℕ) (given : List Arg) (k : ℕ) → list_all (lands_in count) given ≡ true → EndsWithin count (jump_to (operand given k))
jump_lands count given k all = jump_by count (operand given k) (λ a there. each_at (lands_in count) given _ a all there)

jumps_land : (count : ℕ) (taken : Bool) (label : Option Arg) → EndsWithin count (jump_to label) → EndsWithin count (jumps taken label)
jumps_land count true label lands = lands
jumps_land count false label lands = tt

-- ---- internal calls

called_stands : (count : ℕ) (frame : Frame) (at : ℕ) → FrameIsInRange count frame → frame.at < count → at ≤ count → KeepsWithin count frame (called_at frame at).end (called_at frame at).frame
called_stands count frame at within before lands =
    cond_both {A = Moved} (nat_le most_calls (length frame.returns))
    (record { end = ends.Signal (plain exceptions.limit_exceeded 0); frame = frame })
    (record { end = ends.Jump at; frame = record frame { returns = (frame.at + 1) ∷ frame.returns } })
    (λ moved. KeepsWithin count frame moved.end moved.frame)
    (λ full. stays_there count frame _ within tt)
    (λ free. record {
      homes = refl;
      base = refl;
      within = record { at = within.at; returns = All-cons (λ k. k ≤ count) (frame.at + 1) frame.returns (omega arith) within.returns };
      end = lands;
    })

call_stands : (count : ℕ) (frame : Frame) (label : Option Arg) → FrameIsInRange count frame → frame.at < count → EndsWithin count (jump_to label) → KeepsWithin count frame (called frame label).end (called frame label).frame
call_stands count frame None within before lands = stays_there count frame _ within tt
call_stands count frame (Some (args.Jump at)) within before lands = called_stands count frame at within before lands
call_stands count frame (Some _) within before lands = stays_there count frame _ within tt

return_by : (count : ℕ) (frame : Frame) (returns : List ℕ) → FrameIsInRange count frame → All (λ at. at ≤ count) returns → KeepsWithin count frame (returned_to frame returns).end (returned_to frame returns).frame
return_by count frame [] within all = stays_there count frame _ within tt
return_by count frame (at ∷ more) within all = record {
  homes = refl;
  base = refl;
  within = record { at = within.at; returns = All-tail (λ k. k ≤ count) at more all };
  end = All-head (λ k. k ≤ count) at more all;
}

pub return_keeps_within : (count : ℕ) (frame : Frame) → FrameIsInRange count frame → KeepsWithin count frame (returned frame).end (returned frame).frame
return_keeps_within count frame within = return_by count frame frame.returns within within.returns

-- ---- descriptions of exceptions

switch_stands : (count : ℕ) (frame : Frame) (arg : Option Arg) (word : ℕ) → FrameIsInRange count frame → KeepsWithin count frame ends.Next (switched frame arg word)
switch_stands count frame None word within = stays_there count frame _ within tt
switch_stands count frame (Some (args.Item i)) word within = record {
  homes = refl;
  base = refl;
  within = record { at = within.at; returns = within.returns };
  end = tt;
}
switch_stands count frame (Some _) word within = stays_there count frame _ within tt

-- ---- by the instruction

pub control_keeps_within : (count : ℕ) (frame : Frame) (values : List Val) (i : Instruction) (op : Op) → FrameIsInRange count frame → frame.at < count → list_all (lands_in count) i.args ≡ true
    → KeepsWithin count frame (controlled frame values i op).end (controlled frame values i op).frame
control_keeps_within count frame values i B within before lands = stays_there count frame _ within (jump_lands count i.args 1 lands)
control_keeps_within count frame values i Calli within before lands = call_stands count frame (operand i.args 1) within before (jump_lands count i.args 1 lands)
control_keeps_within count frame values i Rtx within before lands = return_keeps_within count frame within
control_keeps_within count frame values i Modexcpd within before lands = switch_stands count frame (operand i.args 1) (argument_word (operand i.args 2)) within
control_keeps_within count frame values i _ within before lands = stays_there count frame _ within tt

pub computed_lands : (count : ℕ) (homes : List ℕ) (values : List Val) (i : Instruction) (c : Option (Result Given Exception)) → list_all (lands_in count) i.args ≡ true → EndsWithin count (received homes values i c).end
computed_lands count homes values i None lands = tt
computed_lands count homes values i (Some (Err x)) lands = tt
computed_lands count homes values i (Some (Ok (givens.Number attr z))) lands = tt
computed_lands count homes values i (Some (Ok (givens.Bytes bytes))) lands = tt
computed_lands count homes values i (Some (Ok (givens.Pointer p))) lands = tt
computed_lands count homes values i (Some (Ok (givens.Branch taken))) lands =
    jumps_land count taken (operand i.args (label_at i.op)) (jump_lands count i.args (label_at i.op) lands)
