-- Each local instruction keeps the law of its program, where it suits the declarations.
use Rattle.std.proofs.Common.{◌≡◌, ◌<◌, ℕ, List, refl, ap, sym, ◌∙◌, subst}
use Rattle.std.specs.Prelude.{IfOk, IsTrue, OnOk, Some, None, Result, Ok, Err}
use Rattle.s38_code.specs.declared.program.Arg.{Arg}
use Rattle.s38_local.specs.declared.local_end.LocalEnd.{LocalEnd}
use Rattle.std.proofs.lemmas.Bool.{cond_both}
use Rattle.s38_code.specs.declared.program.Instruction.{Instruction}
use Rattle.s38_code.specs.declared.program.Row.{Row}
use Rattle.s38_code.specs.declared.reply.Val.{Val}
use Rattle.s38_code.specs.Operations.{classes}
use Rattle.s38_compute.specs.Computed.{computed}
use Rattle.s38_local.specs.declared.frame.Frame.{Frame}
use Rattle.s38_local.specs.Frames.{Went, stays}
use Rattle.s38_local.specs.Law.{EndsWithin, FrameIsInRange, HavePlaces, KeepsLaw, shapes_of}
use Rattle.s38_local.specs.Local.{computed_run, controlled, is_control, is_local, of_variables, run}
use Rattle.s38_local.proofs.MetLaws.{all_met}
use Rattle.s38_local.proofs.ShapeLaws.{computed_shapes, control_shapes}
use Rattle.s38_local.proofs.FrameLaws.{KeepsWithin, computed_lands, control_keeps_within, return_keeps_within}
use Rattle.s38_odt.specs.Suited.{IsSuited}

pub control_kept : (rows : List Row) (count : ℕ) (frame : Frame) (values : List Val) (i : Instruction) → IsSuited rows count i → HavePlaces rows frame.homes (shapes_of values) → FrameIsInRange count frame → frame.at < count
    → KeepsLaw rows count frame values i.args (controlled frame values i i.op)
control_kept rows count frame values i suited held within before =
    let stands : KeepsWithin count frame (controlled frame values i i.op).end (controlled frame values i i.op).frame = control_keeps_within count frame values i i.op within before suited.jumps in
    record {
      met = all_met rows frame.homes (shapes_of values) (classes i.op) i.args held suited.classes;
      shapes = control_shapes rows frame values i i.op held suited.ruled;
      homes = stands.homes;
      base = stands.base;
      within = stands.within;
      end = stands.end;
    }

pub computed_kept : (rows : List Row) (count : ℕ) (frame : Frame) (values : List Val) (i : Instruction) → IsSuited rows count i → IsTrue (is_local rows i) → HavePlaces rows frame.homes (shapes_of values) → FrameIsInRange count frame
    → KeepsLaw rows count frame values i.args (stays frame (computed_run rows frame.homes values i))
computed_kept rows count frame values i suited local held within = record {
  met = all_met rows frame.homes (shapes_of values) (classes i.op) i.args held suited.classes;
  shapes = computed_shapes rows frame.homes values i held suited.classes local;
  homes = refl;
  base = refl;
  within = within;
  end = computed_lands count frame.homes values i (computed i.op i.round (of_variables rows frame.homes values i.args)) suited.jumps;
}

pub law_kept : (rows : List Row) (count : ℕ) (frame : Frame) (values : List Val) (i : Instruction) → IsSuited rows count i → IsTrue (is_local rows i) → HavePlaces rows frame.homes (shapes_of values) → FrameIsInRange count frame → frame.at < count
    → KeepsLaw rows count frame values i.args (run rows frame values (Some i))
unfolding run
law_kept rows count frame values i suited local held within before =
    cond_both {A = Went} (is_control i.op) (controlled frame values i i.op) (stays frame (computed_run rows frame.homes values i))
    (λ went. KeepsLaw rows count frame values i.args went)
    (λ control. control_kept rows count frame values i suited held within before)
    (λ other. computed_kept rows count frame values i suited local held within)

-- after its last instruction it returns
pub law_kept_past : (rows : List Row) (count : ℕ) (frame : Frame) (values : List Val) → FrameIsInRange count frame
    → FrameIsInRange count (run rows frame values None).frame × EndsWithin count (run rows frame values None).end × ((run rows frame values None).values ≡ values)
    × ((run rows frame values None).frame.homes ≡ frame.homes) × ((run rows frame values None).frame.base ≡ frame.base)
unfolding run
law_kept_past rows count frame values within =
    let stands = return_keeps_within count frame within in (stands.within, stands.end, refl, stands.homes, stands.base)

-- ---- where memory sufficed

on_ok : {A E : Type 0} (P : Type 0) (r : Result A E) → P → OnOk r P
on_ok P (Ok x) p = p
on_ok P (Err x) p = tt

-- what ended and left what is told keeps the law as that does
pub law_told : {E : Type 0} (rows : List Row) (count : ℕ) (frame : Frame) (values : List Val) (given : List Arg) (went : Went) (r : Result LocalEnd E) (after : Frame) (left : List Val) → KeepsLaw rows count frame values given went
    → IfOk r (λ end. end ≡ went.end) → OnOk r (after ≡ went.frame) → OnOk r (left ≡ went.values) → IfOk r (λ end. KeepsLaw rows count frame values given (record { end = end; frame = after; values = left }))
law_told rows count frame values given went (Ok end) after left law ends frames values_left =
    let same : ◌≡◌ {A = Went} (record { end = end; frame = after; values = left }) went =
    ap (λ (x : LocalEnd). let w : Went = record { end = x; frame = after; values = left } in w) ends
    ∙ ap (λ (x : Frame). let w : Went = record { end = went.end; frame = x; values = left } in w) frames
    ∙ ap (λ (x : List Val). let w : Went = record { end = went.end; frame = went.frame; values = x } in w) values_left
    in subst (λ (w : Went). KeepsLaw rows count frame values given w) (sym same) law
law_told rows count frame values given went (Err x) after left law ends frames values_left = tt

-- the same of a computation, where the frame stays
pub law_computed : {E : Type 0} (rows : List Row) (count : ℕ) (frame : Frame) (values : List Val) (i : Instruction) (homes : List ℕ) (r : Result LocalEnd E) (left : List Val) → homes ≡ frame.homes
    → KeepsLaw rows count frame values i.args (stays frame (computed_run rows frame.homes values i)) → IfOk r (λ end. end ≡ (computed_run rows homes values i).end) → OnOk r (left ≡ (computed_run rows homes values i).values)
    → IfOk r (λ end. KeepsLaw rows count frame values i.args (record { end = end; frame = frame; values = left }))
law_computed rows count frame values i homes r left is law ends values_left =
    law_told rows count frame values i.args (stays frame (computed_run rows homes values i)) r frame left
    (subst (λ lie. KeepsLaw rows count frame values i.args (stays frame (computed_run rows lie values i))) (sym is) law)
    ends (on_ok (frame ≡ frame) r refl) values_left
