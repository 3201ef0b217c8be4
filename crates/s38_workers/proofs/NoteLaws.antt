-- The items of a process: its entries, and the call that is noted after them.
use Rattle.std.proofs.Common.{◌≡◌, ℕ, List, [], ◌∷◌, ◌++◌, cond, refl, sym, ap, ◌∙◌, subst, eq-eqb}
use Rattle.std.proofs.lemmas.List.Elements.{filter-append}
use Rattle.std.specs.Prelude.{Option, Some, None, IfSome, map}
use Rattle.s38_code.specs.declared.entry.Entry.{Entry}
use Rattle.s38_code.specs.declared.event.Event.{Event}
use Rattle.s38_code.specs.History.{entries_of}
use Rattle.s38_process.specs.Process.{ProcessState, event_of}
use Rattle.s38_process.specs.AfterReply.{absorbed, process_after}
use Rattle.s38_turn.specs.declared.item.Item.{Item}
use Rattle.s38_turn.specs.declared.item.Item.TheVariants.{Entered, Stopped}
use Rattle.s38_turn.specs.Items.{entered, entries_in, is_by, items, items_by}
use Rattle.s38_turn.proofs.HistoryLaws.{own_entries}
use Rattle.s38_workers.specs.Asking.{NotedFrom}

pub entries_append : (xs ys : List Item) → entries_in (xs ++ ys) ≡ entries_in xs ++ entries_in ys
entries_append [] ys = refl
entries_append (Entered e ∷ xs) ys = ap (λ (z : List Entry). e ∷ z) (entries_append xs ys)
entries_append (Stopped p event ∷ xs) ys = entries_append xs ys

pub noted_append : (d : ProcessState) (xs ys : List Item) → NotedFrom d xs → NotedFrom (process_after d (entries_in xs)) ys → NotedFrom d (xs ++ ys)
noted_append d [] ys n more = more
noted_append d (Entered e ∷ xs) ys n more = noted_append (absorbed d e.reply) xs ys n more
noted_append d (Stopped p event ∷ xs) ys n more = (n.0, noted_append d xs ys n.1 more)

-- a call that is noted last is what the process asks after its entries
noted_last : (d : ProcessState) (before : List Item) (p : ℕ) (event : Event) → NotedFrom d (before ++ Stopped p event ∷ []) → event_of (process_after d (entries_in before)) ≡ Some event
noted_last d [] p event n = n.0
noted_last d (Entered e ∷ before) p event n = noted_last (absorbed d e.reply) before p event n
noted_last d (Stopped q other ∷ before) p event n = noted_last d before p event n.1

-- ---- the call that a history has as stopped

entered_are : (h : List Entry) → entries_in (map entered h) ≡ h
entered_are [] = refl
entered_are (e ∷ h) = ap (λ (z : List Entry). e ∷ z) (entered_are h)

-- it is the last item of its process
stop_last : (h : List Entry) (p : ℕ) (event : Event) → items_by p (items h (Some (p, event))) ≡ items_by p (map entered h) ++ Stopped p event ∷ []
stop_last h p event = filter-append (is_by p) (map entered h) (Stopped p event ∷ []) ∙ ap (λ b. items_by p (map entered h) ++ cond b (Stopped p event ∷ []) []) (eq-eqb p p refl)

-- it is what its process asks after its entries
pub stop_asked : (d : ProcessState) (h : List Entry) (call : ℕ × Event) → NotedFrom d (items_by call.0 (items h (Some call))) → event_of (process_after d (entries_of call.0 h)) ≡ Some call.1
stop_asked d h call n =
    ap (λ es. event_of (process_after d es)) (sym (own_entries call.0 (map entered h) ∙ ap (entries_of call.0) (entered_are h)))
    ∙ noted_last d (items_by call.0 (map entered h)) call.0 call.1 (subst (NotedFrom d) (stop_last h call.0 call.1) n)

-- what holds of a call where there is one
pub if_call : (o : Option (ℕ × Event)) (P Q : (ℕ × Event) → Type 0) → IfSome o P → ((call : ℕ × Event) → o ≡ Some call → P call → Q call) → IfSome o Q
if_call None P Q h k = tt
if_call (Some call) P Q h k = k call refl h
