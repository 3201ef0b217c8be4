-- Places stay right where a process gets another last frame, since that has a new number, and where a process starts.
use Rattle.std.proofs.Common.{◌≡◌, ◌≢◌, ◌<◌, ◌≤◌, ℕ, zero, suc, true, List, [], ◌∷◌, ◌++◌, length, refl, sym, ap, ◌∙◌, subst, take, min, arith}
use Rattle.std.specs.Prelude.{Option, Some, None}
use Rattle.s38_base.specs.Faults.{counted}
use Rattle.s38_base.specs.declared.id.ObjNum.{ObjNum}
use Rattle.s38_rules.specs.ask.Authority.{available}
use Rattle.s38_rules.specs.state.Held.{Held, is_there}
use Rattle.s38_rules.specs.state.Invocations.{frames_used, in_use, stack_of}
use Rattle.s38_rules.specs.state.State.{State}
use Rattle.s38_rules.specs.ask.Users.{acting, user_of}
use Rattle.s38_rights_cache.specs.declared.found.Verified.{Verified}
use Rattle.s38_rights_cache.specs.Numbers.{FrameNumbers, last_count, number_at, renumbered}
use Rattle.s38_rights_cache.specs.Places.{AreNumbered, IsRight, IsRightIn, is_current, is_for, rights_anew}
use Rattle.s38_rights_cache.specs.Worlds.{WorldState, frames_of}
use Rattle.s38_rights_cache.proofs.KeepLaws.{current_so}
use Rattle.s38_rights_cache.proofs.ListLaws.{length_new, number_after, number_before, number_new, take_before}
use Rattle.s38_rights_cache.proofs.PlaceLaws.{now_parts}

-- ---- numbers after a new one

-- a number is one of before, or the new one, or none
three : (P : Type 0) (j k : ℕ) → (j ≤ k → P) → (j ≡ suc k → P) → (suc k < j → P) → P
three P zero k low at high = low (omega arith)
three P (suc j) zero low at high = by j refl
  where
    by : (i : ℕ) → j ≡ i → P
    by zero e = at (omega (arith, e))
    by (suc i) e = high (omega (arith, e))
three P (suc j) (suc k) low at high = three P j k (λ le. low (omega (arith, le))) (λ e. at (ap suc e)) (λ lt. high (omega (arith, lt)))

number_given : (ns : List ℕ) (k last j : ℕ) → k ≤ length ns → last ≤ last_count → ((i : ℕ) → number_at i ns ≤ last) → number_at j (take k ns ++ counted last ∷ []) ≤ counted last
number_given ns k last j within low given = three (number_at j (take k ns ++ counted last ∷ []) ≤ counted last) j k
    (λ le. omega (arith, number_before ns k j (counted last) le within, given j, low))
    (λ at. omega (arith, ap (λ i. number_at i (take k ns ++ counted last ∷ [])) at, number_new ns k (counted last) within))
    (λ past. omega (arith, number_after ns k j (counted last) past within))

-- the new number is no other's
new_apart : (ns : List ℕ) (k last j : ℕ) → k ≤ length ns → last ≤ last_count → ((i : ℕ) → number_at i ns ≤ last) → j ≤ k
    → number_at j (take k ns ++ counted last ∷ []) ≡ counted last → counted last ≢ last_count → ⊥
new_apart ns k last j within low given le same other =
    omega (arith, number_before ns k j (counted last) le within, given j, low, same, other)

numbers_apart : (ns : List ℕ) (k last : ℕ) → k ≤ length ns → last ≤ last_count → ((i : ℕ) → number_at i ns ≤ last)
    → ((i j : ℕ) → 0 < i → 0 < j → i ≤ length ns → j ≤ length ns → number_at i ns ≡ number_at j ns → number_at i ns ≢ last_count → i ≡ j)
    → (i j : ℕ) → 0 < i → 0 < j → i ≤ suc k → j ≤ suc k → number_at i (take k ns ++ counted last ∷ []) ≡ number_at j (take k ns ++ counted last ∷ [])
    → number_at i (take k ns ++ counted last ∷ []) ≢ last_count → i ≡ j
numbers_apart ns k last within low given apart i j some more one two same other =
    let c = counted last in
    let new = number_new ns k c within in
    three (i ≡ j) i k
    (λ le. three (i ≡ j) j k
    (λ ge. apart i j some more (omega (arith, le, within)) (omega (arith, ge, within))
    (omega (arith, number_before ns k i c le within, number_before ns k j c ge within, same))
    (λ e. other (omega (arith, number_before ns k i c le within, e))))
    (λ at. absurd (new_apart ns k last i within low given le (omega (arith, same, ap (λ m. number_at m (take k ns ++ c ∷ [])) at, new))
    (λ e. other (omega (arith, same, ap (λ m. number_at m (take k ns ++ c ∷ [])) at, new, e)))))
    (λ past. absurd (omega (arith, past, two))))
    (λ here. three (i ≡ j) j k
    (λ ge. absurd (new_apart ns k last j within low given ge (omega (arith, same, ap (λ m. number_at m (take k ns ++ c ∷ [])) here, new))
    (λ e. other (omega (arith, ap (λ m. number_at m (take k ns ++ c ∷ [])) here, new, e)))))
    (λ at. omega (arith, here, at))
    (λ past. absurd (omega (arith, past, two))))
    (λ past. absurd (omega (arith, past, one)))

-- ---- a process with a new frame

-- a process keeps so many of its frames, and gets one after them; all else on which its rights rest stays
pub record HasNewFrame (w x : WorldState) (p k : ℕ) (program : ObjNum) : Type 0 where
  pub within : k ≤ length (stack_of w.state p)
  pub stack : stack_of x.state p ≡ take k (stack_of w.state p) ++ program ∷ []
  pub frames : frames_of x p ≡ renumbered k (frames_of w p)
  pub user : user_of x.state p ≡ user_of w.state p
  pub held : x.state.held ≡ w.state.held
  pub authority : x.authority ≡ w.authority

pub new_numbered : (w x : WorldState) (p k : ℕ) (program : ObjNum) → HasNewFrame w x p k program → (frames_of w p).last ≤ last_count → AreNumbered w p → AreNumbered x p
new_numbered w x p k program new low old =
    let ns = (frames_of w p).numbers in
    let last = (frames_of w p).last in
    let within : k ≤ length ns = omega (arith, new.within, old.each) in
    let long : length (stack_of x.state p) ≡ suc k = ap length new.stack ∙ length_new (stack_of w.state p) k program new.within in
    record {
      some = omega (arith, long);
      each = rw new.frames (length_new ns k (counted last) within ∙ sym long);
      given = λ j. rw new.frames (number_given ns k last j within low old.given);
      apart = λ i j some more one two. rw new.frames (numbers_apart ns k last within low old.given
          (λ a b sa sb la lb. old.apart a b sa sb (omega (arith, la, old.each)) (omega (arith, lb, old.each))) i j some more (omega (arith, one, long)) (omega (arith, two, long)));
    }

pub acting_framed : (s t : State) (p d : ℕ) → t.held ≡ s.held → user_of t p ≡ user_of s p → in_use d (stack_of t p) ≡ in_use d (stack_of s p) → acting t p d ≡ acting s p d
unfolding acting
acting_framed s t p d held user frames = rw (user, frames, held) refl

-- at a depth at which the new frame is not in use, all is as it was
old_depth : (xs : List ObjNum) (k d : ℕ) (program : ObjNum) → k ≤ length xs → min d (suc k) ≤ k → (min d (suc k) ≡ min d (length xs)) × (d ≤ k)
old_depth xs k d program within le = (omega (arith, within, le), omega (arith, le))

pub new_right : (w x : WorldState) (p k : ℕ) (program : ObjNum) (v : Verified) → HasNewFrame w x p k program → (frames_of w p).last ≤ last_count → AreNumbered w p → IsRight w p v → IsRight x p v
new_right w x p k program v new low old right =
    let xs = stack_of w.state p in
    let ns = (frames_of w p).numbers in
    let last = (frames_of w p).last in
    let within : k ≤ length ns = omega (arith, new.within, old.each) in
    record {
      authority = rw new.authority right.authority;
      frame = rw new.frames (omega (arith, right.frame, low));
      rights = λ d now there.
          let long : length (stack_of x.state p) ≡ suc k = ap length new.stack ∙ length_new xs k program new.within in
          let used : frames_used d (stack_of x.state p) ≡ min d (suc k) = ap (min d) long in
          let parts = now_parts x p d v.object.0 v now in
          let number : v.frame ≡ number_at (min d (suc k)) (take k ns ++ counted last ∷ []) =
          parts.frame ∙ ap (λ j. number_at j (frames_of x p).numbers) used ∙ ap (λ (f : FrameNumbers). number_at (min d (suc k)) f.numbers) new.frames in
          three (v.rights.0 ≡ rights_anew x.state p d v.object.0) (min d (suc k)) k
          (λ le.
          let depth = old_depth xs k d program new.within le in
          let same : number_at (min d (suc k)) (take k ns ++ counted last ∷ []) ≡ number_at (min d (length xs)) ns = number_before ns k (min d (suc k)) (counted last) le within ∙ ap (λ j. number_at j ns) depth.0 in
          let before : is_current w p d v.object.0 v ≡ true =
          subst (λ (a : ℕ). is_for v.object.0 a (min d (length xs)) (number_at (min d (length xs)) ns) v ≡ true) new.authority
          (subst (λ (n : ℕ). is_for v.object.0 x.authority (min d (length xs)) n v ≡ true) same
          (subst (λ (j : ℕ). is_for v.object.0 x.authority j (number_at (min d (suc k)) (take k ns ++ counted last ∷ [])) v ≡ true) depth.0
          (subst (λ (f : FrameNumbers). is_for v.object.0 x.authority (min d (suc k)) (number_at (min d (suc k)) f.numbers) v ≡ true) new.frames
          (subst (λ (j : ℕ). is_for v.object.0 x.authority j (number_at j (frames_of x p).numbers) v ≡ true) used now)))) in
          let frames : in_use d (stack_of x.state p) ≡ in_use d xs =
          ap (λ j. take j (stack_of x.state p)) used ∙ ap (take (min d (suc k))) new.stack ∙ take_before xs k (min d (suc k)) program le new.within ∙ ap (λ j. take j xs) depth.0 in
          let was : is_there w.state.held v.object.0 ≡ true = subst (λ (h : Held). is_there h v.object.0 ≡ true) new.held there in
          right.rights d before was
          ∙ sym (ap (λ (users : List ℕ). available x.state.held users v.object.0 0) (acting_framed w.state x.state p d new.held new.user frames)
          ∙ ap (λ (h : Held). available h (acting w.state p d) v.object.0 0) new.held))
          (λ at. absurd (omega (arith, number, ap (λ j. number_at j (take k ns ++ counted last ∷ [])) at, number_new ns k (counted last) within, right.frame, low, parts.numbers)))
          (λ past. absurd (omega (arith, past)));
    }

-- ---- a process whose frames stay

-- all on which a process's rights rest stays
pub record HasSameFrames (w x : WorldState) (p : ℕ) : Type 0 where
  pub stack : stack_of x.state p ≡ stack_of w.state p
  pub frames : frames_of x p ≡ frames_of w p
  pub user : user_of x.state p ≡ user_of w.state p
  pub held : x.state.held ≡ w.state.held
  pub authority : x.authority ≡ w.authority

pub same_numbered : (w x : WorldState) (p : ℕ) → HasSameFrames w x p → AreNumbered w p → AreNumbered x p
same_numbered w x p same old = record {
  some = rw same.stack old.some;
  each = rw (same.frames, same.stack) old.each;
  given = rw same.frames old.given;
  apart = rw (same.frames, same.stack) old.apart;
}

pub same_right : (w x : WorldState) (p : ℕ) (v : Verified) → HasSameFrames w x p → IsRight w p v → IsRight x p v
same_right w x p v same right = record {
  authority = rw same.authority right.authority;
  frame = rw same.frames right.frame;
  rights = λ d now there.
      let before : is_current w p d v.object.0 v ≡ true = current_so w x p d v.object.0 v same.frames same.authority same.stack now in
      let was : is_there w.state.held v.object.0 ≡ true = subst (λ (h : Held). is_there h v.object.0 ≡ true) same.held there in
      right.rights d before was
      ∙ sym (ap (λ (users : List ℕ). available x.state.held users v.object.0 0) (acting_framed w.state x.state p d same.held same.user (ap (in_use d) same.stack))
      ∙ ap (λ (h : Held). available h (acting w.state p d) v.object.0 0) same.held);
}

pub same_right_in : (w x : WorldState) (p : ℕ) (v : Option Verified) → HasSameFrames w x p → IsRightIn w p v → IsRightIn x p v
same_right_in w x p None same right = tt
same_right_in w x p (Some v) same right = same_right w x p v same right

pub new_right_in : (w x : WorldState) (p k : ℕ) (program : ObjNum) (v : Option Verified) → HasNewFrame w x p k program → (frames_of w p).last ≤ last_count → AreNumbered w p → IsRightIn w p v → IsRightIn x p v
new_right_in w x p k program None new low old right = tt
new_right_in w x p k program (Some v) new low old right = new_right w x p k program v new low old right
