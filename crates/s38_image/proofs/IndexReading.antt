-- The entries of an index are read in rising order.
use Rattle.std.proofs.Common.{◌≡◌, ℕ, Bool, true, false, cond, eqb, length, List, [], ◌∷◌, ◌++◌, Option, Some, None, refl, sym, ap, ◌∙◌}
use Rattle.std.specs.Prelude.{◌&&◌}
use Rattle.std.specs.declared.cmp.Ordering.TheVariants.{Less}
use Rattle.s38_base.specs.Relations.{is_less}
use Rattle.s38_base.specs.declared.words.Relation.TheVariants.{Lo}
use Rattle.std.specs.Prelude.{IfOk, Result, Ok, Err}
use Rattle.s38_codec.specs.Codec.{byte, only, times, whole, ◌>>=◌}
use Rattle.s38_codec.specs.Formats.{short_text, u32}
use Rattle.s38_codec.specs.Reading.{Gives}
use Rattle.s38_codec.specs.declared.fault.ReadFault.{ReadFault}
use Rattle.s38_codec.specs.declared.fault.ReadFault.TheVariants as faults
use Rattle.s38_codec.proofs.CodecLaws.{both_true}
use Rattle.s38_image.specs.Indexes.{entries_rise, index, index_by, is_index}
use Rattle.s38_image.specs.Steps.{is_after, last_of}
use Rattle.s38_indexes.specs.Entries.{EntryIndex, IndexEntry, index_with_entry, is_in_relation, order}
use Rattle.s38_indexes.proofs.OrderLaws.{chained, is_less-Less}

pub last_added : (xs : List IndexEntry) (e : IndexEntry) → last_of (xs ++ e ∷ []) ≡ Some e
last_added [] e = refl
last_added (x ∷ []) e = refl
last_added (x ∷ y ∷ xs) e = last_added (y ∷ xs) e

-- one more entry rises where it comes after the last
pub rising_added : (xs : List IndexEntry) (e : IndexEntry) → entries_rise xs ≡ true → entries_rise (xs ++ e ∷ []) ≡ is_after (last_of xs) e
rising_added [] e h = refl
rising_added (x ∷ []) e h = rw_end (is_in_relation Lo e x)
  where
    rw_end : (b : Bool) → (b && true) ≡ b
    rw_end true = refl
    rw_end false = refl
rising_added (x ∷ y ∷ xs) e h =
    let f = both_true (is_in_relation Lo y x) (entries_rise (y ∷ xs)) h in
    ap (λ (b : Bool). b && entries_rise ((y ∷ xs) ++ e ∷ [])) f.0 ∙ rising_added (y ∷ xs) e f.1

never : (b : Bool) → (b && false) ≡ false
never true = refl
never false = refl

not_both : (a b d : Bool) → (a && b) ≡ false → (b ≡ false → d ≡ false) → (a && d) ≡ false
not_both true b d h f = f h
not_both false b d h f = refl

-- what does not rise does not rise with more entries
pub not_rising : (xs ys : List IndexEntry) → entries_rise xs ≡ false → entries_rise (xs ++ ys) ≡ false
not_rising [] ys h = absurd cc
not_rising (x ∷ []) ys h = absurd cc
not_rising (x ∷ y ∷ xs) ys h = not_both (is_in_relation Lo y x) (entries_rise (y ∷ xs)) (entries_rise ((y ∷ xs) ++ ys)) h (λ e. not_rising (y ∷ xs) ys e)

before_last : (x : IndexEntry) (xs : List IndexEntry) (e : IndexEntry) → entries_rise (x ∷ (xs ++ e ∷ [])) ≡ true → order x e ≡ Less
before_last x [] e h = is_less-Less (order x e) (both_true (is_in_relation Lo e x) true h).0
before_last x (y ∷ xs) e h =
    let f = both_true (is_in_relation Lo y x) (entries_rise (y ∷ (xs ++ e ∷ []))) h in
    chained x y e (is_less-Less (order x y) f.0) (before_last y xs e f.1)

rising_rest : (x : IndexEntry) (xs : List IndexEntry) → entries_rise (x ∷ xs) ≡ true → entries_rise xs ≡ true
rising_rest x [] h = refl
rising_rest x (y ∷ xs) h = (both_true (is_in_relation Lo y x) (entries_rise (y ∷ xs)) h).1

-- an entry that comes after all others has its place after them
pub placed_last : (xs : List IndexEntry) (e : IndexEntry) → entries_rise (xs ++ e ∷ []) ≡ true → index_with_entry e xs ≡ xs ++ e ∷ []
placed_last [] e h = refl
placed_last (x ∷ xs) e h =
    let less : is_in_relation Lo e x ≡ true = ap is_less (before_last x xs e h) in
    rw less (ap (λ (es : List IndexEntry). x ∷ es) (placed_last xs e (rising_rest x (xs ++ e ∷ []) h)))

-- ---- an index is its longest entry's length and its entries

abbrev some_fields : (ℕ × List IndexEntry) × List ℕ → Option ((ℕ × List IndexEntry) × List ℕ)
some_fields x = Some x

abbrev some_index : EntryIndex × List ℕ → Option (EntryIndex × List ℕ)
some_index x = Some x

abbrev some_entries : List IndexEntry → List ℕ → Option (List IndexEntry × List ℕ)
some_entries es rest = Some (es, rest)

some_by : (longest : ℕ) (es : List IndexEntry) (rest : List ℕ) (b d : Bool) → (((cond b (some_entries es rest) None >>= λ y. some_fields ((longest, y.0), y.1)) >>= λ y. some_index (index_by y.0, y.1)) >>= λ y. cond d (Some y.0) None)
    ≡ ((cond b (some_entries es rest) None >>= λ y. cond d (Some y.0) None) >>= λ es. Some (index_by (longest, es)))
some_by longest es rest true true = refl
some_by longest es rest true false = refl
some_by longest es rest false true = refl
some_by longest es rest false false = refl

index_end : (longest : ℕ) (es : List IndexEntry) (rest : List ℕ) → (((cond (entries_rise es) (some_entries es rest) None >>= λ y. some_fields ((longest, y.0), y.1)) >>= λ y. some_index (index_by y.0, y.1)) >>= λ y. cond (eqb (length y.1) 0) (Some y.0) None)
    ≡ ((cond (entries_rise es) (some_entries es rest) None >>= λ y. cond (eqb (length y.1) 0) (Some y.0) None) >>= λ es. Some (index_by (longest, es)))
index_end longest es rest = index_cases (entries_rise es)
  where
    index_cases : (b : Bool) → (((cond b (some_entries es rest) None >>= λ y. some_fields ((longest, y.0), y.1)) >>= λ y. some_index (index_by y.0, y.1)) >>= λ y. cond (eqb (length y.1) 0) (Some y.0) None)
        ≡ ((cond b (some_entries es rest) None >>= λ y. cond (eqb (length y.1) 0) (Some y.0) None) >>= λ es. Some (index_by (longest, es)))
    index_cases true = some_by longest es rest true (eqb (length rest) 0)
    index_cases false = refl

index_by_entries : (bytes first second : List ℕ) (longest n : ℕ) → (only is_index byte).read bytes ≡ Some (longest, first) → u32.read first ≡ Some (n, second)
    → (o : Option (List IndexEntry × List ℕ)) → (times n (short_text longest)).read second ≡ o → whole index bytes ≡ (whole (only entries_rise (times n (short_text longest))) second >>= λ es. Some (index_by (longest, es)))
index_by_entries bytes first second longest n one two None e = rw (one, two, e) refl
index_by_entries bytes first second longest n one two (Some (es, rest)) e = rw (one, two, e) (index_end longest es rest)

pub index_whole : (bytes first second : List ℕ) (longest n : ℕ) → (only is_index byte).read bytes ≡ Some (longest, first) → u32.read first ≡ Some (n, second)
    → whole index bytes ≡ (whole (only entries_rise (times n (short_text longest))) second >>= λ es. Some (index_by (longest, es)))
index_whole bytes first second longest n one two = index_by_entries bytes first second longest n one two _ refl

same_index : (i : EntryIndex) (longest : ℕ) → i.longest ≡ longest → index_by (longest, i.entries) ≡ i
same_index i longest a = let x = sym a in λ j. record { longest = x j; entries = i.entries }

pub gives_index : (result : Result EntryIndex ReadFault) (o : Option (List IndexEntry)) (longest : ℕ) → Gives (λ i. i.entries) result o → IfOk result (λ i. i.longest ≡ longest) → Gives (λ i. i) result (o >>= λ es. Some (index_by (longest, es)))
gives_index (Ok i) o longest read a = rw read (ap (λ (j : EntryIndex). Some j) (same_index i longest a))
gives_index (Err faults.NoMemory) o longest read a = tt
gives_index (Err faults.BadForm) o longest read a = rw read refl
