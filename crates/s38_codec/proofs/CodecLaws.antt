-- The formats are formats: what is printed is read again, and what is read is printed so.
use Rattle.std.proofs.Common.{◌≡◌, ℕ, zero, suc, ◌+◌, ◌^◌, ◌<◌, ◌≤◌, Bool, true, false, cond, ltb, eqb, List, [], ◌∷◌, ◌++◌, length, take, drop, Option, Some, None, refl, sym, ap, subst, ◌∙◌, append_assoc, arith, inl, inr}
use Rattle.std.specs.Prelude.{◌&&◌}
use Rattle.std.specs.Int.{Width, w16, w32, w64, byte_len, from_be_bytes, to_be_bytes}
use Rattle.std.proofs.lemmas.Bool.{cases_lt, ltb-false, ltb-true, le-ltb, lt-ltb, eqb-true, eq-eqb}
use Rattle.std.proofs.lemmas.List.{take_at, drop_at, take-append-drop, length-append, length-take, get_or-drop, get_or-take, get_or_past, nil_from_length, append-nil}
use Rattle.std.proofs.lemmas.Nat.{be_bytes_2, be_bytes_4, be_bytes_8, from_be_bytes-to_be_bytes_2, from_be_bytes-to_be_bytes_4, from_be_bytes-to_be_bytes_8}
use Rattle.s38_codec.specs.Codec.{AreBytes, Case, Codec, IsCase, IsCodec, PrintsFront, byte, byte_at, bytes, copies, dependent_pair, each, fits_each, fits_part, number, only, print_each, print_part, read_each, seen, times, under, whole, ◌>>=◌}

pub AreBytes-drop : (n : ℕ) (xs : List ℕ) → AreBytes xs → AreBytes (drop n xs)
AreBytes-drop n xs h i = rw get_or-drop (h (n + i))

pub AreBytes-take : (n : ℕ) (xs : List ℕ) → AreBytes xs → AreBytes (take n xs)
AreBytes-take n xs h i =
    elim (cases_lt i n) [
      | inl lt ↦ rw (get_or-take n xs i 0 lt) (h i)
      | inr le ↦ rw (get_or_past (take n xs) i 0 (omega (arith, length-take n xs))) (omega arith)
    ]

-- the bytes after a front
pub AreBytes-after : (front rest xs : List ℕ) → xs ≡ front ++ rest → AreBytes xs → AreBytes rest
AreBytes-after front rest xs e h = subst AreBytes (ap (drop (length front)) e ∙ drop_at front rest (length front) refl) (AreBytes-drop (length front) xs h)

-- the bytes of a front
pub AreBytes-front : (front rest xs : List ℕ) → xs ≡ front ++ rest → AreBytes xs → AreBytes front
AreBytes-front front rest xs e h = subst AreBytes (ap (take (length front)) e ∙ take_at front rest (length front) refl) (AreBytes-take (length front) xs h)

pub bind_some : {A B : Type 0} (o : Option A) (f : A → Option B) (y : B) → (o >>= f) ≡ Some y → (x : A) × (o ≡ Some x) × (f x ≡ Some y)
bind_some None f y e = absurd cc
bind_some (Some x) f y e = (x, refl, e)

abbrev some : {A : Type 0} → A → Option A
some x = Some x

pub some_is : {A : Type 0} (x y : A) → some x ≡ some y → x ≡ y
some_is x y e = cc

-- a test that was passed
pub guard_some : {A : Type 0} (b : Bool) (x y : A) → cond b (Some x) None ≡ Some y → (b ≡ true) × (x ≡ y)
guard_some true x y e = (refl, cc)
guard_some false x y e = absurd cc

pub unless_some : {A : Type 0} (b : Bool) (x y : A) → cond b None (Some x) ≡ Some y → (b ≡ false) × (x ≡ y)
unless_some true x y e = absurd cc
unless_some false x y e = (refl, cc)

pub both_true : (a b : Bool) → (a && b) ≡ true → (a ≡ true) × (b ≡ true)
both_true true b e = (refl, e)
both_true false b e = absurd cc

pub and_true : (a b : Bool) → a ≡ true → b ≡ true → (a && b) ≡ true
and_true a b p q = rw (p, q) refl

-- ---- numbers

pub record IsWide (w : Width) (limit : ℕ) : Type 0 where
  pub len : (n : ℕ) → length (to_be_bytes w n) ≡ byte_len w
  pub back : (xs : List ℕ) → length xs ≡ byte_len w → AreBytes xs → to_be_bytes w (from_be_bytes w xs) ≡ xs
  pub again : (n : ℕ) → n < limit → from_be_bytes w (to_be_bytes w n) ≡ n
  pub below : (xs : List ℕ) → AreBytes xs → from_be_bytes w xs < limit

pub wide16 : IsWide w16 (2 ^ 16)
wide16 = record { len = λ n. refl; back = λ xs len fits. be_bytes_2 xs _ len fits refl; again = λ n lt. from_be_bytes-to_be_bytes_2 n lt; below = λ xs fits. omega (arith, fits 0, fits 1) }

pub wide32 : IsWide w32 (2 ^ 32)
wide32 = record { len = λ n. refl; back = λ xs len fits. be_bytes_4 xs _ len fits refl; again = λ n lt. from_be_bytes-to_be_bytes_4 n lt; below = λ xs fits. omega (arith, fits 0, fits 1, fits 2, fits 3) }

pub wide64 : IsWide w64 (2 ^ 64)
wide64 = record { len = λ n. refl; back = λ xs len fits. be_bytes_8 xs _ len fits refl; again = λ n lt. from_be_bytes-to_be_bytes_8 n lt; below = λ xs fits. omega (arith, fits 0, fits 1, fits 2, fits 3, fits 4, fits 5, fits 6, fits 7) }

number_again : (w : Width) (limit : ℕ) → IsWide w limit → (n : ℕ) (rest : List ℕ) → ltb n limit ≡ true → (number w limit).read (to_be_bytes w n ++ rest) ≡ Some (n, rest)
number_again w limit wide n rest h =
    let len = wide.len n in
    let long : ltb (length (to_be_bytes w n ++ rest)) (byte_len w) ≡ false = le-ltb _ _ (omega (arith, length-append (to_be_bytes w n) rest)) in
    rw (long, take_at (to_be_bytes w n) rest (byte_len w) len, drop_at (to_be_bytes w n) rest (byte_len w) len, wide.again n (ltb-true _ _ h)) refl

number_exact : (w : Width) (limit : ℕ) → IsWide w limit → (xs : List ℕ) (n : ℕ) (rest : List ℕ) → AreBytes xs → (number w limit).read xs ≡ Some (n, rest) → PrintsFront ℕ (number w limit) xs n rest
number_exact w limit wide xs n rest fits e =
    let g = unless_some (ltb (length xs) (byte_len w)) (from_be_bytes w (take (byte_len w) xs), drop (byte_len w) xs) (n, rest) e in
    let long : byte_len w ≤ length xs = ltb-false _ _ g.0 in
    let n-is : from_be_bytes w (take (byte_len w) xs) ≡ n = ap (λ (p : ℕ × List ℕ). p.0) g.1 in
    let rest-is : drop (byte_len w) xs ≡ rest = ap (λ (p : ℕ × List ℕ). p.1) g.1 in
    let front : to_be_bytes w n ≡ take (byte_len w) xs = rw (← n-is) (wide.back (take (byte_len w) xs) (omega (arith, length-take (byte_len w) xs)) (AreBytes-take (byte_len w) xs fits)) in
    record { parts = rw (front, ← rest-is) (sym (take-append-drop (byte_len w) xs)); fits = rw (← n-is) (lt-ltb _ _ (wide.below (take (byte_len w) xs) (AreBytes-take (byte_len w) xs fits))) }

pub number_is : (w : Width) (limit : ℕ) → IsWide w limit → IsCodec ℕ (number w limit)
number_is w limit wide = record { again = number_again w limit wide; exact = number_exact w limit wide }

byte_exact : (xs : List ℕ) (n : ℕ) (rest : List ℕ) → AreBytes xs → byte_at xs ≡ Some (n, rest) → PrintsFront ℕ byte xs n rest
byte_exact [] n rest fits e = absurd cc
byte_exact (b ∷ xs) n rest fits e =
    let one = some_is (b, xs) (n, rest) e in
    subst (λ (p : ℕ × List ℕ). PrintsFront ℕ byte (b ∷ xs) p.0 p.1) one (record { parts = refl; fits = lt-ltb b 256 (fits 0) })

pub byte_is : IsCodec ℕ byte
byte_is = record { again = λ n rest h. refl; exact = byte_exact }

-- ---- bytes

pub bytes_again : (n : ℕ) (xs rest : List ℕ) → eqb (length xs) n ≡ true → (bytes n).read (xs ++ rest) ≡ Some (xs, rest)
bytes_again n xs rest h =
    let len : length xs ≡ n = eqb-true _ _ h in
    let long : ltb (length (xs ++ rest)) n ≡ false = le-ltb _ _ (omega (arith, length-append xs rest)) in
    rw (long, take_at xs rest n len, drop_at xs rest n len) refl

pub bytes_exact : (n : ℕ) (all : List ℕ) (xs rest : List ℕ) → AreBytes all → (bytes n).read all ≡ Some (xs, rest) → PrintsFront (List ℕ) (bytes n) all xs rest
bytes_exact n all xs rest fits e =
    let g = unless_some (ltb (length all) n) (take n all, drop n all) (xs, rest) e in
    let long : n ≤ length all = ltb-false _ _ g.0 in
    subst (λ (p : List ℕ × List ℕ). PrintsFront (List ℕ) (bytes n) all p.0 p.1) g.1
    (record { parts = sym (take-append-drop n all); fits = eq-eqb _ _ (omega (arith, length-take n all)) })

pub bytes_is : (n : ℕ) → IsCodec (List ℕ) (bytes n)
bytes_is n = record { again = bytes_again n; exact = bytes_exact n }

-- ---- one after the other

behind_again : {A B : Type 0} (a : Codec A) (b : A → Codec B) → IsCodec A a → ((x : A) → IsCodec B (b x)) → (x : A × B) (rest : List ℕ) → (a.fits x.0 && (b x.0).fits x.1) ≡ true
    → (dependent_pair a b).read ((a.print x.0 ++ (b x.0).print x.1) ++ rest) ≡ Some (x, rest)
behind_again a b p q x rest h =
    let f = both_true (a.fits x.0) ((b x.0).fits x.1) h in
    ap (dependent_pair a b).read (append_assoc (a.print x.0) ((b x.0).print x.1) rest) ∙ rw (p.again x.0 ((b x.0).print x.1 ++ rest) f.0, (q x.0).again x.1 rest f.1) refl

behind_exact : {A B : Type 0} (a : Codec A) (b : A → Codec B) → IsCodec A a → ((x : A) → IsCodec B (b x)) → (xs : List ℕ) (x : A × B) (rest : List ℕ) → AreBytes xs → (dependent_pair a b).read xs ≡ Some (x, rest)
    → PrintsFront (A × B) (dependent_pair a b) xs x rest
behind_exact {A} {B} a b p q xs x rest fits e =
    let u = bind_some (a.read xs) (λ x. (b x.0).read x.1 >>= λ y. Some ((x.0, y.0), y.1)) (x, rest) e in
    let v = bind_some ((b u.0.0).read u.0.1) (λ y. Some ((u.0.0, y.0), y.1)) (x, rest) u.2 in
    let first = p.exact xs u.0.0 u.0.1 fits u.1 in
    let second = (q u.0.0).exact u.0.1 v.0.0 v.0.1 (AreBytes-after (a.print u.0.0) u.0.1 xs first.parts fits) v.1 in
    let made : (A × B) × List ℕ = ((u.0.0, v.0.0), v.0.1) in
    subst (λ (y : (A × B) × List ℕ). PrintsFront (A × B) (dependent_pair a b) xs y.0 y.1) (some_is made (x, rest) v.2)
    (record {
      parts = first.parts ∙ ap (λ (t : List ℕ). a.print u.0.0 ++ t) second.parts ∙ sym (append_assoc (a.print u.0.0) ((b u.0.0).print v.0.0) v.0.1);
      fits = and_true _ _ first.fits second.fits;
    })

pub dependent_pair_is : {A B : Type 0} (a : Codec A) (b : A → Codec B) → IsCodec A a → ((x : A) → IsCodec B (b x)) → IsCodec (A × B) (dependent_pair a b)
dependent_pair_is a b p q = record { again = behind_again a b p q; exact = behind_exact a b p q }

-- ---- a test

only_again : {A : Type 0} (t : A → Bool) (c : Codec A) → IsCodec A c → (x : A) (rest : List ℕ) → (t x && c.fits x) ≡ true → (only t c).read (c.print x ++ rest) ≡ Some (x, rest)
only_again t c p x rest h = let f = both_true (t x) (c.fits x) h in rw (p.again x rest f.1, f.0) refl

only_exact : {A : Type 0} (t : A → Bool) (c : Codec A) → IsCodec A c → (xs : List ℕ) (x : A) (rest : List ℕ) → AreBytes xs → (only t c).read xs ≡ Some (x, rest) → PrintsFront A (only t c) xs x rest
only_exact {A} t c p xs x rest fits e =
    let u = bind_some (c.read xs) (λ x. cond (t x.0) (Some x) None) (x, rest) e in
    let g = guard_some (t u.0.0) u.0 (x, rest) u.2 in
    let s = p.exact xs u.0.0 u.0.1 fits u.1 in
    subst (λ (y : A × List ℕ). PrintsFront A (only t c) xs y.0 y.1) g.1 (record { parts = s.parts; fits = and_true _ _ g.0 s.fits })

pub only_is : {A : Type 0} (t : A → Bool) (c : Codec A) → IsCodec A c → IsCodec A (only t c)
only_is t c p = record { again = only_again t c p; exact = only_exact t c p }

-- ---- the same format of other values

pub record AreSame (A B : Type 0) (to : A → B) (back : B → A) (c : Codec A) : Type 0 where
  pub there : (y : B) → to (back y) ≡ y
  pub here : (x : A) → c.fits x ≡ true → back (to x) ≡ x

seen_again : {A B : Type 0} (to : A → B) (back : B → A) (c : Codec A) → AreSame A B to back c → IsCodec A c → (y : B) (rest : List ℕ) → c.fits (back y) ≡ true → (seen to back c).read (c.print (back y) ++ rest) ≡ Some (y, rest)
seen_again to back c s p y rest h = rw (p.again (back y) rest h, s.there y) refl

seen_exact : {A B : Type 0} (to : A → B) (back : B → A) (c : Codec A) → AreSame A B to back c → IsCodec A c → (xs : List ℕ) (y : B) (rest : List ℕ) → AreBytes xs → (seen to back c).read xs ≡ Some (y, rest) → PrintsFront B (seen to back c) xs y rest
seen_exact {A} {B} to back c s p xs y rest fits e =
    let u = bind_some (c.read xs) (λ x. Some (to x.0, x.1)) (y, rest) e in
    let m = p.exact xs u.0.0 u.0.1 fits u.1 in
    let same : back (to u.0.0) ≡ u.0.0 = s.here u.0.0 m.fits in
    let made : B × List ℕ = (to u.0.0, u.0.1) in
    subst (λ (z : B × List ℕ). PrintsFront B (seen to back c) xs z.0 z.1) (some_is made (y, rest) u.2)
    (record { parts = rw same m.parts; fits = rw same m.fits })

pub seen_is : {A B : Type 0} (to : A → B) (back : B → A) (c : Codec A) → AreSame A B to back c → IsCodec A c → IsCodec B (seen to back c)
seen_is to back c s p = record { again = seen_again to back c s p; exact = seen_exact to back c s p }

-- ---- many

unfoldable pub AllCodecs : {A : Type 0} → List (Codec A) → Type 0
AllCodecs [] = Unit {0}
AllCodecs {A} (c ∷ cs) = IsCodec A c × AllCodecs cs

each_again : {A : Type 0} (cs : List (Codec A)) → AllCodecs cs → (xs : List A) (rest : List ℕ) → fits_each cs xs ≡ true → read_each cs (print_each cs xs ++ rest) ≡ Some (xs, rest)
unfolding print_each read_each fits_each AllCodecs
each_again [] p [] rest h = refl
each_again [] p (x ∷ xs) rest h = absurd cc
each_again (c ∷ cs) p [] rest h = absurd cc
each_again (c ∷ cs) p (x ∷ xs) rest h =
    let f = both_true (c.fits x) (fits_each cs xs) h in
    ap (read_each (c ∷ cs)) (append_assoc (c.print x) (print_each cs xs) rest) ∙ rw (p.0.again x (print_each cs xs ++ rest) f.0, each_again cs p.1 xs rest f.1) refl

each_exact : {A : Type 0} (cs : List (Codec A)) → AllCodecs cs → (bs : List ℕ) (xs : List A) (rest : List ℕ) → AreBytes bs → read_each cs bs ≡ Some (xs, rest) → PrintsFront (List A) (each cs) bs xs rest
unfolding print_each read_each fits_each AllCodecs
each_exact {A} [] p bs xs rest fits e =
    let made : List A × List ℕ = ([], bs) in
    subst (λ (y : List A × List ℕ). PrintsFront (List A) (each []) bs y.0 y.1) (some_is made (xs, rest) e) (record { parts = refl; fits = refl })
each_exact {A} (c ∷ cs) p bs xs rest fits e =
    let u = bind_some (c.read bs) (λ x. read_each cs x.1 >>= λ y. Some (x.0 ∷ y.0, y.1)) (xs, rest) e in
    let v = bind_some (read_each cs u.0.1) (λ y. Some (u.0.0 ∷ y.0, y.1)) (xs, rest) u.2 in
    let first = p.0.exact bs u.0.0 u.0.1 fits u.1 in
    let second = each_exact cs p.1 u.0.1 v.0.0 v.0.1 (AreBytes-after (c.print u.0.0) u.0.1 bs first.parts fits) v.1 in
    let made : List A × List ℕ = (u.0.0 ∷ v.0.0, v.0.1) in
    subst (λ (y : List A × List ℕ). PrintsFront (List A) (each (c ∷ cs)) bs y.0 y.1) (some_is made (xs, rest) v.2)
    (record {
      parts = first.parts ∙ ap (λ (t : List ℕ). c.print u.0.0 ++ t) second.parts ∙ sym (append_assoc (c.print u.0.0) (print_each cs v.0.0) v.0.1);
      fits = and_true _ _ first.fits second.fits;
    })

pub each_is : {A : Type 0} (cs : List (Codec A)) → AllCodecs cs → IsCodec (List A) (each cs)
each_is cs p = record { again = each_again cs p; exact = each_exact cs p }

all_copies : {A : Type 0} (n : ℕ) (c : Codec A) → IsCodec A c → AllCodecs (copies n c)
unfolding copies AllCodecs
all_copies zero c p = tt
all_copies (suc n) c p = (p, all_copies n c p)

pub times_is : {A : Type 0} (n : ℕ) (c : Codec A) → IsCodec A c → IsCodec (List A) (times n c)
times_is n c p = each_is (copies n c) (all_copies n c p)

-- ---- all of the bytes

pub whole_again : {A : Type 0} (c : Codec A) → IsCodec A c → (x : A) → c.fits x ≡ true → whole c (c.print x) ≡ Some x
whole_again c p x h =
    let one : c.read (c.print x) ≡ Some (x, []) = ap c.read (sym (append-nil (c.print x))) ∙ p.again x [] h in
    rw one refl

pub whole_exact : {A : Type 0} (c : Codec A) → IsCodec A c → (bs : List ℕ) (x : A) → AreBytes bs → whole c bs ≡ Some x → (bs ≡ c.print x) × (c.fits x ≡ true)
whole_exact {A} c p bs x fits e =
    let u = bind_some (c.read bs) (λ x. cond (eqb (length x.1) 0) (Some x.0) None) x e in
    let g = guard_some (eqb (length u.0.1) 0) u.0.0 x u.2 in
    let s = p.exact bs u.0.0 u.0.1 fits u.1 in
    let nothing : u.0.1 ≡ [] = nil_from_length u.0.1 (eqb-true _ _ g.0) in
    subst (λ (y : A). (bs ≡ c.print y) × (c.fits y ≡ true)) g.1 (s.parts ∙ ap (λ (r : List ℕ). c.print u.0.0 ++ r) nothing ∙ append-nil (c.print u.0.0), s.fits)

-- ---- one case of a type

under_again : {T B : Type 0} (p : Case T B) (c : Codec T) → IsCase T B p → IsCodec T c → (b : B) (rest : List ℕ) (o : Option T) → p.of b ≡ o → fits_part c o ≡ true → (under p c).read (print_part c o ++ rest) ≡ Some (b, rest)
under_again p c l q b rest None e h = absurd cc
under_again p c l q b rest (Some x) e h = rw (q.again x rest h, l.back b x e) refl

under_exact : {T B : Type 0} (p : Case T B) (c : Codec T) → IsCase T B p → IsCodec T c → (xs : List ℕ) (b : B) (rest : List ℕ) → AreBytes xs → (under p c).read xs ≡ Some (b, rest) → PrintsFront B (under p c) xs b rest
under_exact {T} {B} p c l q xs b rest fits e =
    let u = bind_some (c.read xs) (λ x. Some (p.make x.0, x.1)) (b, rest) e in
    let m = q.exact xs u.0.0 u.0.1 fits u.1 in
    let made : B × List ℕ = (p.make u.0.0, u.0.1) in
    subst (λ (z : B × List ℕ). PrintsFront B (under p c) xs z.0 z.1) (some_is made (b, rest) u.2)
    (record { parts = rw (l.got u.0.0) m.parts; fits = rw (l.got u.0.0) m.fits })

pub under_is : {T B : Type 0} (p : Case T B) (c : Codec T) → IsCase T B p → IsCodec T c → IsCodec B (under p c)
under_is p c l q = record { again = λ b rest h. under_again p c l q b rest (p.of b) refl h; exact = under_exact p c l q }

-- ---- lists after their length

pub fits_copies : {A : Type 0} (n : ℕ) (c : Codec A) (xs : List A) → fits_each (copies n c) xs ≡ true → length xs ≡ n
unfolding fits_each copies
fits_copies zero c [] h = refl
fits_copies zero c (x ∷ xs) h = absurd cc
fits_copies (suc n) c [] h = absurd cc
fits_copies (suc n) c (x ∷ xs) h = ap suc (fits_copies n c xs (both_true (c.fits x) (fits_each (copies n c) xs) h).1)
