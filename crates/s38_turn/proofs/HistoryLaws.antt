-- What a step adds to a history, as items.
use Rattle.std.proofs.Common.{◌≡◌, ◌⊎◌, ℕ, Bool, true, false, List, [], ◌∷◌, ◌++◌, cond, refl, sym, ap, ◌∙◌, subst, inl, inr, ⊎_elim, Option, Some, None, Result, Ok, Err, IfSome, append-nil, ◌==◌, if◌then◌else◌, eq-eqb}
use Rattle.std.proofs.lemmas.List.Elements.{filter-append}
use Rattle.s38_code.specs.declared.entry.Entry.{Entry}
use Rattle.s38_code.specs.declared.event.Event.{Event}
use Rattle.s38_code.specs.declared.reply.Reply.{Reply}
use Rattle.s38_code.specs.declared.reply.Reply.TheVariants.{MustWait}
use Rattle.s38_code.specs.declared.step.StepFault.{StepFault}
use Rattle.s38_code.specs.declared.step.StepFault.TheVariants as faults
use Rattle.s38_code.specs.History.{IsAnswered, entries_of, entry_after, first_stop}
use Rattle.s38_turn.specs.declared.item.Item.{Item}
use Rattle.s38_turn.specs.declared.item.Item.TheVariants.{Entered, Stopped}
use Rattle.s38_turn.specs.declared.view.ProcessList.{ProcessList}
use Rattle.s38_turn.specs.Items.{IsAdded, entries_in, has_stop, is_by, items, items_by, stop_of}
use Rattle.s38_turn.specs.Lists.{lengthened, list_of, lists_in}
use Rattle.s38_turn.specs.Calls.{Grew}
use Rattle.s38_turn.proofs.ListLaws.{in_more, in_none}

no_entries : (s : Option (ℕ × Event)) → entries_in (stop_of s) ≡ []
no_entries None = refl
no_entries (Some s) = refl

-- the entries of a history's items are the history
pub entries_are : (h : List Entry) (s : Option (ℕ × Event)) → entries_in (items h s) ≡ h
entries_are [] s = no_entries s
entries_are (e ∷ h) s = ap (λ (z : List Entry). e ∷ z) (entries_are h s)

own_if : (p : ℕ) (e : Entry) (xs : List Item) (b : Bool) → entries_in (cond b (Entered e ∷ items_by p xs) (items_by p xs)) ≡ cond b (e ∷ entries_in (items_by p xs)) (entries_in (items_by p xs))
own_if p e xs true = refl
own_if p e xs false = refl

skip_if : (p q : ℕ) (event : Event) (xs : List Item) (b : Bool) → entries_in (cond b (Stopped q event ∷ items_by p xs) (items_by p xs)) ≡ entries_in (items_by p xs)
skip_if p q event xs true = refl
skip_if p q event xs false = refl

-- the entries of a process are those of its items
pub own_entries : (p : ℕ) (xs : List Item) → entries_in (items_by p xs) ≡ entries_of p (entries_in xs)
own_entries p [] = refl
own_entries p (Entered e ∷ xs) = own_if p e xs (e.process == p) ∙ ap (λ (z : List Entry). cond (e.process == p) (e ∷ z) z) (own_entries p xs)
own_entries p (Stopped q event ∷ xs) = skip_if p q event xs (q == p) ∙ own_entries p xs

none_stopped : (h : List Entry) → has_stop (items h None) ≡ false
none_stopped [] = refl
none_stopped (e ∷ h) = none_stopped h

one_stopped : (h : List Entry) (s : ℕ × Event) → has_stop (items h (Some s)) ≡ true
one_stopped [] s = refl
one_stopped (e ∷ h) s = one_stopped h s

entry_end : (h : List Entry) (e : Entry) → items (h ++ e ∷ []) None ≡ items h None ++ Entered e ∷ []
entry_end [] e = refl
entry_end (x ∷ h) e = ap (λ (z : List Item). Entered x ∷ z) (entry_end h e)

stop_end : (h : List Entry) (s : ℕ × Event) → items h (Some s) ≡ items h None ++ Stopped s.0 s.1 ∷ []
stop_end [] s = refl
stop_end (x ∷ h) s = ap (λ (z : List Item). Entered x ∷ z) (stop_end h s)

-- what an answer adds, and the history after it
pub record Adding (p : ℕ) (event : Event) (r : Result Reply StepFault) (old new : List Item) : Type 0 where
  pub added : List Item
  pub is_added : IsAdded old p event r added
  pub now : new ≡ old ++ added

pub nothing : (p : ℕ) (event : Event) (r : Result Reply StepFault) (old new : List Item) → IsAdded old p event r [] → new ≡ old → Adding p event r old new
nothing p event r old new is e = record { added = []; is_added = is; now = e ∙ sym (append-nil old) }

pub reply_adds : (p : ℕ) (event : Event) (reply : Reply) (h h' : List Entry) (s s' : Option (ℕ × Event)) → s ≡ None → IsAnswered p event reply h h' → s' ≡ s → Adding p event (Ok reply) (items h s) (items h' s')
reply_adds p event reply h h' s s' going answered same = subst (λ (z : Option (ℕ × Event)). Adding p event (Ok reply) (items h z) (items h' s')) (sym going) (⊎_elim
    (λ (e : h' ≡ h ++ entry_after h p event reply ∷ []). record {
      added = Entered (entry_after (entries_in (items h None)) p event reply) ∷ [];
      is_added = inl refl;
      now = (λ k. items (e k) ((same ∙ going) k)) ∙ (entry_end h (entry_after h p event reply) ∙ ap (λ (z : List Entry). items h None ++ Entered (entry_after z p event reply) ∷ []) (sym (entries_are h None)));
    })
    (λ (w : (reply ≡ MustWait) × (h' ≡ h)). nothing p event (Ok reply) (items h None) (items h' s') (inr (w.0, refl)) (λ k. items (w.1 k) ((same ∙ going) k)))
    answered)

pub stop_adds : (p : ℕ) (event : Event) (h h' : List Entry) (s s' : Option (ℕ × Event)) → h' ≡ h → s' ≡ first_stop s p event → Adding p event (Err faults.Stopped) (items h s) (items h' s')
stop_adds p event h h' (Some s) s' same stop =
    nothing p event (Err faults.Stopped) (items h (Some s)) (items h' s') (sym (ap (λ b. if b then [] else Stopped p event ∷ []) (one_stopped h s))) (λ k. items (same k) (stop k))
stop_adds p event h h' None s' same stop = record {
  added = Stopped p event ∷ [];
  is_added = sym (ap (λ b. if b then [] else Stopped p event ∷ []) (none_stopped h));
  now = (λ k. items (same k) (stop k)) ∙ stop_end h (p, event);
}

-- it is nothing, or one item of the process
abbrev IsOne : ℕ → List Item → Type 0
IsOne p added = (added ≡ []) ⊎ ((x : Item) × (added ≡ x ∷ []) × (is_by p x ≡ true))

stop_one : (p : ℕ) (event : Event) (added : List Item) (b : Bool) → added ≡ (if b then [] else Stopped p event ∷ []) → IsOne p added
stop_one p event added true e = inl e
stop_one p event added false e = inr (Stopped p event, e, eq-eqb p p refl)

one_added : (p : ℕ) (event : Event) (r : Result Reply StepFault) (old added : List Item) → IsAdded old p event r added → IsOne p added
one_added p event (Ok reply) old added (inl e) = inr (Entered (entry_after (entries_in old) p event reply), e, eq-eqb p p refl)
one_added p event (Ok reply) old added (inr w) = inl w.1
one_added p event (Err faults.Stopped) old added is = stop_one p event added (has_stop old) is
one_added p event (Err faults.NoMemory) old added is = inl is

grew_one : (p : ℕ) (old new added : List Item) → new ≡ old ++ added → IsOne p added → Grew p old new
grew_one p old new added now (inl e) = inl (now ∙ (ap (λ (z : List Item). old ++ z) e ∙ append-nil old))
grew_one p old new added now (inr g) = inr (g.0, now ∙ ap (λ (z : List Item). old ++ z) g.1, g.2)

pub grew : (p : ℕ) (event : Event) (r : Result Reply StepFault) (old new added : List Item) → IsAdded old p event r added → new ≡ old ++ added → Grew p old new
grew p event r old new added is now = grew_one p old new added now (one_added p event r old added is)

long_one : (p : ℕ) (old added : List Item) (ls : List ProcessList) → IsOne p added → lists_in (old ++ added) ls ≡ lengthened p added (lists_in old ls)
long_one p old added ls (inl e) = ap (λ (z : List Item). lists_in (old ++ z) ls) e ∙ (ap (λ (z : List Item). lists_in z ls) (append-nil old) ∙ (sym (in_none p (lists_in old ls)) ∙ ap (λ (z : List Item). lengthened p z (lists_in old ls)) (sym e)))
long_one p old added ls (inr g) = ap (λ (z : List Item). lists_in (old ++ z) ls) g.1 ∙ (in_more p old g.0 ls g.2 ∙ ap (λ (z : List Item). lengthened p z (lists_in old ls)) (sym g.1))

-- a seat's lists grow by what is added
pub lists_grew : (p : ℕ) (event : Event) (r : Result Reply StepFault) (old new added : List Item) (ls : List ProcessList) → IsAdded old p event r added → new ≡ old ++ added → lists_in old ls ≡ ls → lists_in new ls ≡ lengthened p added ls
lists_grew p event r old new added ls is now own = ap (λ (z : List Item). lists_in z ls) now ∙ (long_one p old added ls (one_added p event r old added is) ∙ ap (lengthened p added) own)

-- the stopped call is the last item of its process
stopped_last : (h : List Entry) (s : ℕ × Event) → items_by s.0 (items h (Some s)) ≡ items_by s.0 (items h None) ++ Stopped s.0 s.1 ∷ []
stopped_last h s = ap (items_by s.0) (stop_end h s) ∙ (filter-append (is_by s.0) (items h None) (Stopped s.0 s.1 ∷ []) ∙ ap (λ b. items_by s.0 (items h None) ++ cond b (Stopped s.0 s.1 ∷ []) []) (eq-eqb s.0 s.0 refl))

pub stop_noted : (h : List Entry) (stopped : Option (ℕ × Event)) (lists : List ProcessList) → ((p : ℕ) → items_by p (items h stopped) ≡ list_of p lists) → IfSome stopped (λ s. (before : List Item) × (list_of s.0 lists ≡ before ++ Stopped s.0 s.1 ∷ []))
stop_noted h None lists own = tt
stop_noted h (Some s) lists own = (items_by s.0 (items h None), sym (own s.0) ∙ stopped_last h s)
