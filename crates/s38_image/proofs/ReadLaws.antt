-- Formats of all bytes that pass a test.
use Rattle.std.proofs.Common.{◌≡◌, ℕ, ◌-◌, ◌+◌, ◌<◌, Bool, true, false, cond, eqb, List, [], ◌∷◌, ◌++◌, length, Option, Some, None, refl, sym, ap, ◌∙◌}
use Rattle.s38_codec.specs.Codec.{Codec, only, times, whole, ◌>>=◌}
use Rattle.s38_codec.specs.Reading.{Fails}
use Rattle.s38_codec.specs.declared.fault.ReadFault.{ReadFault}
use Rattle.s38_codec.specs.declared.fault.ReadFault.TheVariants as faults
use Rattle.s38_codec.proofs.Loop.{goes_on, with_front}

guarded : {A : Type 0} (p : A → Bool) (x : A × List ℕ) (b : Bool) → p x.0 ≡ b → (cond b (Some x) None >>= λ y. cond (eqb (length y.1) 0) (Some y.0) None) ≡ (cond (eqb (length x.1) 0) (Some x.0) None >>= λ y. cond (p y) (Some y) None)
guarded {A} p x true e = guarded_end (eqb (length x.1) 0)
  where
    guarded_end : (d : Bool) → cond d (Some x.0) None ≡ (cond d (Some x.0) None >>= λ y. cond (p y) (Some y) None)
    guarded_end true = rw e refl
    guarded_end false = refl
guarded {A} p x false e = guarded_none (eqb (length x.1) 0)
  where
    guarded_none : (d : Bool) → None ≡ (cond d (Some x.0) None >>= λ y. cond (p y) (Some y) None)
    guarded_none true = rw e refl
    guarded_none false = refl

whole_by : {A : Type 0} (p : A → Bool) (c : Codec A) (o : Option (A × List ℕ)) → ((o >>= λ x. cond (p x.0) (Some x) None) >>= λ x. cond (eqb (length x.1) 0) (Some x.0) None) ≡ ((o >>= λ x. cond (eqb (length x.1) 0) (Some x.0) None) >>= λ x. cond (p x) (Some x) None)
whole_by p c None = refl
whole_by p c (Some x) = guarded p x (p x.0) refl

-- all bytes by a format, and what they hold passes a test
pub whole_only : {A : Type 0} (p : A → Bool) (c : Codec A) (bs : List ℕ) → whole (only p c) bs ≡ (whole c bs >>= λ x. cond (p x) (Some x) None)
whole_only p c bs = whole_by p c (c.read bs)

pub whole_kept : {A : Type 0} (p : A → Bool) (c : Codec A) (bs : List ℕ) (x : A) → whole c bs ≡ Some x → p x ≡ true → whole (only p c) bs ≡ Some x
whole_kept p c bs x e h = whole_only p c bs ∙ rw (e, h) refl

pub whole_fails : {A : Type 0} (p : A → Bool) (c : Codec A) (bs : List ℕ) (e : ReadFault) → Fails e (whole c bs) → Fails e (whole (only p c) bs)
whole_fails p c bs faults.NoMemory h = tt
whole_fails p c bs faults.BadForm h = whole_only p c bs ∙ rw h refl

-- ---- values that fail the test whatever comes after them

broken_by : {A : Type 0} (p : List A → Bool) (front : List A) (o : Option (List A × List ℕ)) → ((more : List A) → p (front ++ more) ≡ false) → ((with_front front o >>= λ x. cond (p x.0) (Some x) None) >>= λ x. cond (eqb (length x.1) 0) (Some x.0) None) ≡ None
broken_by p front None h = refl
broken_by p front (Some x) h = rw (h x.0) refl

pub breaks : {A : Type 0} (p : List A → Bool) (c : Codec A) (front : List A) (count i : ℕ) (rest from : List ℕ) (x : A) (after : List ℕ) → i < count → c.read rest ≡ Some (x, after) → ((more : List A) → p ((front ++ x ∷ []) ++ more) ≡ false)
    → with_front front ((times (count - i) c).read rest) ≡ (times count c).read from → whole (only p (times count c)) from ≡ None
breaks {A} p c front count i rest from x after lt h not so_far =
    let total = goes_on c front count i rest x after ((times count c).read from) lt h so_far in
    ap (λ (o : Option (List A × List ℕ)). (o >>= λ y. cond (p y.0) (Some y) None) >>= λ y. cond (eqb (length y.1) 0) (Some y.0) None) (sym total) ∙ broken_by p (front ++ x ∷ []) _ not
