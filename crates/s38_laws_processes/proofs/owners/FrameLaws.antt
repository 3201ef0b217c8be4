-- Frames of programs: they stay those of their programs when objects change, when frames after them change, and when one
-- more program comes.
use Rattle.std.proofs.Common.{◌++◌, ◌+◌, ◌<◌, ◌∙◌, ◌∷◌, ◌≡◌, ◌≤◌, Bool, List, [], ap, arith, cond, false, inl, inr, length, refl, subst, suc, sym, take, true, zero, ℕ}
use Rattle.std.proofs.lemmas.List.Elements.{All-head, All-tail}
use Rattle.std.proofs.lemmas.List.{length-map, length-take-le}
use Rattle.std.proofs.lemmas.Option.{slice_get_within}
use Rattle.std.proofs.lemmas.Bool.Decides.{nat_tests}
use Rattle.std.specs.Option.{option_map}
use Rattle.std.specs.Prelude.{All, IfSome, None, Option, Some, slice_get}
use Rattle.s38_base.specs.declared.id.ObjNum.{ObjNum}
use Rattle.s38_code.specs.declared.made.CreateResult.TheVariants.{Created}
use Rattle.s38_code.specs.declared.made.CreateResult.{CreateResult}
use Rattle.s38_code.specs.declared.program.Program.{Program}
use Rattle.s38_odt.specs.Suited.{AreSuited}
use Rattle.s38_process.specs.Invocations.{Stack, depth_of}
use Rattle.s38_process.specs.declared.invocation.Invocation.{Invocation}
use Rattle.s38_rules.specs.state.Held.{Held, has_number, object, object_in}
use Rattle.s38_rules.specs.state.Invocations.{frames_used, in_use}
use Rattle.s38_rules.specs.families.Calls.{code_of}
use Rattle.s38_rules.specs.declared.object.Object.{Object}
use Rattle.s38_laws_processes.proofs.owners.ObjectLaws.{Follows}
use Rattle.s38_laws_processes.specs.owners.Beginnings.{HoldsChecked, IsSoundStart}
use Rattle.s38_laws_processes.specs.owners.Owners.{Agree, AreFramesOf, IsFrameOf, IsProgramAt, WasGivenTo, programs_of}

-- ---- lists

get_left : {A : Type 0} (xs ys : List A) (k : ℕ) → k < length xs → slice_get (xs ++ ys) k ≡ slice_get xs k
get_left [] ys k few = absurd (omega arith)
get_left (x ∷ xs) ys zero few = refl
get_left (x ∷ xs) ys (suc k) few = get_left xs ys k (omega arith)

get_seam : {A : Type 0} (xs : List A) (y : A) (k : ℕ) → length xs ≡ k → slice_get (xs ++ y ∷ []) k ≡ Some y
get_seam [] y zero long = refl
get_seam [] y (suc k) long = absurd (omega arith)
get_seam (x ∷ xs) y zero long = absurd (omega arith)
get_seam (x ∷ xs) y (suc k) long = get_seam xs y k (omega arith)

get_front : {A : Type 0} (n : ℕ) (xs : List A) (k : ℕ) → k < n → slice_get (take n xs) k ≡ slice_get xs k
get_front zero xs k few = absurd (omega arith)
get_front (suc n) [] k few = refl
get_front (suc n) (x ∷ xs) zero few = refl
get_front (suc n) (x ∷ xs) (suc k) few = get_front n xs k (omega arith)

-- ---- objects in order, by number

-- an object that is there has a number that was given, and is a checked program if it is one
pub record IsKnown (h : Held) (n : ℕ) (o : Object) : Type 0 where
  pub some : 1 ≤ n
  pub given : n < h.next
  pub checked : HoldsChecked o

pub record AreKnown (h : Held) : Type 0 where
  pub next : 1 ≤ h.next
  pub each : (n : ℕ) (o : Object) → object h n ≡ Some o → IsKnown h n o

abbrev pub IsCheckedProgram : Program → Type 0
IsCheckedProgram program = AreSuited program.rows program.code

found_in : (P : Object → Type 0) (os : List Object) (n : ℕ) (o : Object) → All P os → object_in os n ≡ Some o → P o × (o.number.0 ≡ n)
found_in P [] n o all is = cc
found_in P (x ∷ os) n o all is = by (found_in P os n o (All-tail P x os all)) (has_number n x) refl is
  where
    by : (object_in os n ≡ Some o → P o × (o.number.0 ≡ n)) → (b : Bool) → has_number n x ≡ b → cond b (Some x) (object_in os n) ≡ Some o → P o × (o.number.0 ≡ n)
    by rest true here is =
        let number : x.number.0 ≡ n = grind (arith, nat_tests) in
        let same : x ≡ o = cc in
        (subst P same (All-head P x os all), ap (λ (y : Object). y.number.0) (sym same) ∙ number)
    by rest false away is = rest is

pub known_of : (h : Held) → IsSoundStart h → AreKnown h
known_of h order = record {
  next = order.next;
  each = λ n o is.
      let given = found_in (λ x. x.number.0 < h.next) h.objects n o order.given is in
      let some = found_in (λ x. 1 ≤ x.number.0) h.objects n o order.numbered is in
      record { some = omega (arith, some.0, some.1); given = omega (arith, given.0, given.1); checked = (found_in HoldsChecked h.objects n o order.programs is).0 };
}

checked_of : (x : Option Program) → IfSome x IsCheckedProgram → (program : Program) → x ≡ Some program → AreSuited program.rows program.code
checked_of None h program is = cc
checked_of (Some y) h program is = let same : y ≡ program = cc in subst IsCheckedProgram same h

pub known_next : (h k : Held) → AreKnown h → Follows IsCheckedProgram h k → AreKnown k
known_next h k known follows = record {
  next = omega (arith, known.next, follows.next);
  each = λ n o is. elim (follows.from n o is) as (λ _. IsKnown k n o) [
    | inl was ↦
        let before = known.each n was.was was.there in
        record { some = before.some; given = omega (arith, before.given, follows.next); checked = λ program code. before.checked program (sym was.code ∙ code) }
    | inr new ↦ record { some = omega (arith, known.next, new.above); given = new.below; checked = λ program code. checked_of (code_of o.body) new.code program code }
  ];
}

-- ---- objects change

given_next : (q : Program → Type 0) (h k : Held) (n : ℕ) (program : CreateResult) → Follows q h k → WasGivenTo h n program → WasGivenTo k n program
given_next q h k n program follows was = record {
  some = was.some;
  given = omega (arith, was.given, follows.next);
  is = λ o there. elim (follows.from n o there) as (λ _. option_map Created (code_of o.body) ≡ Some program) [
    | inl before ↦ ap (option_map Created) before.code ∙ was.is before.was before.there
    | inr new ↦ absurd (omega (arith, was.given, new.above))
  ];
}

frame_next : (q : Program → Type 0) (h k : Held) (own : CreateResult) (frame : ObjNum) (program : CreateResult) → Follows q h k → IsFrameOf h own frame program → IsFrameOf k own frame program
frame_next q h k own frame program follows is = elim is as (λ _. IsFrameOf k own frame program) [ inl first ↦ inl first | inr was ↦ inr (given_next q h k frame.0 program follows was) ]

at_next : (q : Program → Type 0) (h k : Held) (own : CreateResult) (x : Option ObjNum) (program : CreateResult) → Follows q h k → IsProgramAt h own x program → IsProgramAt k own x program
at_next q h k own None program follows is = is
at_next q h k own (Some frame) program follows is = frame_next q h k own frame program follows is

pub frames_next : (q : Program → Type 0) (h k : Held) (own : CreateResult) (frames : List ObjNum) (programs : List CreateResult) → Follows q h k → AreFramesOf h own frames programs → AreFramesOf k own frames programs
frames_next q h k own frames [] follows are = tt
frames_next q h k own frames (program ∷ callers) follows are =
    (at_next q h k own (slice_get frames (length callers)) program follows are.0, frames_next q h k own frames callers follows are.1)

-- ---- other frames after them

pub frames_like : (h : Held) (own : CreateResult) (frames more : List ObjNum) (programs : List CreateResult) → ((k : ℕ) → k < length programs → slice_get more k ≡ slice_get frames k)
    → AreFramesOf h own frames programs → AreFramesOf h own more programs
frames_like h own frames more [] same are = tt
frames_like h own frames more (program ∷ callers) same are = (
  subst (λ x. IsProgramAt h own x program) (sym (same (length callers) (omega arith))) are.0,
  frames_like h own frames more callers (λ k few. same k (omega (arith, few))) are.1,
)

at_within : (h : Held) (own : CreateResult) (frames : List ObjNum) (k : ℕ) (x : Option ObjNum) (program : CreateResult) → slice_get frames k ≡ x → IsProgramAt h own x program → k < length frames
at_within h own frames k None program is at = absurd at
at_within h own frames k (Some frame) program is at = slice_get_within frames k frame is

-- each program has a frame
pub frames_enough : (h : Held) (own : CreateResult) (frames : List ObjNum) (programs : List CreateResult) → AreFramesOf h own frames programs → length programs ≤ length frames
frames_enough h own frames [] are = omega arith
frames_enough h own frames (program ∷ callers) are = omega (arith, at_within h own frames (length callers) (slice_get frames (length callers)) program refl are.0)

-- ---- one more program

pub frames_more : (h : Held) (own : CreateResult) (frames : List ObjNum) (frame : ObjNum) (programs : List CreateResult) (program : CreateResult) (n : ℕ) → n ≡ length programs
    → IsFrameOf h own frame program → AreFramesOf h own frames programs → AreFramesOf h own (take n frames ++ frame ∷ []) (program ∷ programs)
frames_more h own frames frame programs program n count is are =
    let enough = frames_enough h own frames programs are in
    let long : length (take n frames) ≡ length programs = length-take-le n frames (omega (arith, count, enough)) ∙ count in (
      subst (λ x. IsProgramAt h own x program) (sym (get_seam (take n frames) frame (length programs) long)) is,
      frames_like h own frames (take n frames ++ frame ∷ []) programs
          (λ k few. get_left (take n frames) (frame ∷ []) k (omega (arith, few, long)) ∙ get_front n frames k (omega (arith, few, count))) are,
    )

-- ---- frames that are in use

pub depth_is : (s : Stack) → length (programs_of s) ≡ depth_of s
depth_is s = let count : length (programs_of s) ≡ 1 + length s.callers = omega (arith, length-map s.callers (λ (x : Invocation). x.made)) in omega (arith, count)

pub used_is : (frames : List ObjNum) (n : ℕ) → n ≤ length frames → frames_used n frames ≡ n
used_is frames n few = omega (arith, few)

pub agree_of : (h : Held) (own : CreateResult) (frames : List ObjNum) (s : Stack) → AreFramesOf h own frames (programs_of s) → Agree h own (in_use (depth_of s) frames) s
agree_of h own frames s are =
    let n = depth_of s in
    let depth = depth_is s in
    let enough : n ≤ length frames = omega (arith, depth, frames_enough h own frames (programs_of s) are) in
    let used : frames_used n frames ≡ n = used_is frames n enough in
    let front : in_use n frames ≡ take n frames = ap (λ m. take m frames) used in
    record {
      count = ap length front ∙ length-take-le n frames enough;
      each = frames_like h own frames (in_use n frames) (programs_of s) (λ k few. ap (λ fs. slice_get fs k) front ∙ get_front n frames k (omega (arith, few, depth))) are;
    }
