-- The content that has what is durable, and nothing else, represents it.
use Rattle.std.proofs.Common.{◌≡◌, ◌∙◌, ◌⊎◌, inl, inr, ℕ, zero, suc, ◌<◌, ◌≤◌, ◌==◌, Bool, true, false, cond, List, [], ◌∷◌, ◌++◌, map, lit<, lit≤, refl, sym, ap, subst, arith, append-nil, append_assoc}
use Rattle.std.proofs.lemmas.Bool.{cases_lt}
use Rattle.std.proofs.lemmas.List.Elements.{All-head, All-tail}
use Rattle.std.specs.FinMap.{empty, get, get-empty}
use Rattle.std.specs.List.{flat_map}
use Rattle.std.specs.Option.{option_map}
use Rattle.std.specs.Prelude.{All, None, Option, Some, is_some}
use Rattle.s38_base.specs.declared.page.Change.{Change}
use Rattle.s38_base.specs.declared.page.Key.{Key}
use Rattle.s38_base.specs.declared.page.Page.{Page}
use Rattle.s38_checkpoint.proofs.PartLaws.{ceiling_wanted}
use Rattle.s38_checkpoint.proofs.PassLaws.{AreSorted, at_place, last_more, none_after, pieces_all, pieces_more, sorted_by}
use Rattle.s38_checkpoint.specs.Closing.{closing, content_of, kept_whole, parts_of_all}
use Rattle.s38_checkpoint.specs.Passing.{last_object_number}
use Rattle.s38_durable_state.specs.Durable.{Durable, kept, whole_object}
use Rattle.s38_durable_state.specs.Represents.{Represents, ceiling_parts, page_of, parts_at, parts_end, parts_in}
use Rattle.s38_page_diff.specs.Differences.{IsWanted, wanted_at}
use Rattle.s38_image.specs.PartPlaces.{ceiling_key}
use Rattle.s38_image.specs.Images.{image_parts}
use Rattle.s38_image.specs.declared.stored.Stored.{Stored}
use Rattle.s38_page_diff.proofs.reconcile.ContentLaws.{get-changed, made_other, wanted_content}
use Rattle.s38_page_diff.proofs.reconcile.PieceLaws.{each_none}
use Rattle.s38_page_diff.proofs.reconcile.PlacedLaws.{made_in}
use Rattle.s38_page_diff.proofs.reconcile.SoFarLaws.{of_number, wanted_whole}
use Rattle.s38_page_diff.specs.reconcile.Replacing.{changes_at, changes_to, each_to, range_of}
use Rattle.s38_page_diff.specs.reconcile.Walking.{IsKnown}
use Rattle.s38_laws_flush.proofs.durable.FoundLaws.{all_found}
use Rattle.s38_laws_flush.proofs.durable.GoesThenLaws.{object_given}
use Rattle.s38_laws_flush.proofs.durable.RoomLaws.{wanted_object}
use Rattle.s38_laws_flush.specs.durable.Kept.{IsKeptOf}
use Rattle.s38_rules.specs.state.Held.{object}
use Rattle.s38_rules.specs.state.State.{State}
use Rattle.s38_rules.specs.declared.object.Object.{Object}
use Rattle.s38_flush.proofs.KeptLaws.{kept_number}
use Rattle.s38_flush.specs.Stepping.{HaveHeaders}
use Rattle.s38_vault.specs.Content.{Content, changed}
use Rattle.s38_vault.specs.Keys.{key_cmp}
use Rattle.s38_laws_checkpoint.proofs.prefix.MarkLaws.{whole_found}
use Rattle.s38_laws_checkpoint.proofs.prefix.TestLaws.{not_same, same_by}

abbrev nothing_held : Content
nothing_held = empty

-- no key is there
nothing_known : (last : ℕ) (key : Key) (page : Option Page) → page ≡ None → is_some page ≡ true → IsKnown last key
nothing_known last key None none there = cc
nothing_known last key (Some page) none there = absurd (cc)

-- a number is one of those up to another, or none
numbered : (n last : ℕ) → ((1 ≤ n) × (n ≤ last)) ⊎ ((k : ℕ) → 1 ≤ k → k ≤ last → n ≡ k → ⊥)
numbered n last = elim (cases_lt n 1) [
  | inl none ↦ inr (λ k low high same. omega (arith, low, none, same))
  | inr low ↦ elim (cases_lt last n) [ inl beyond ↦ inr (λ k from high same. omega (arith, high, beyond, same)) | inr high ↦ inl (low, high) ]
]

module _ (s : State) (d : Durable) (is : IsKeptOf s d) (headers : HaveHeaders (closing s.units s.held)) where
  abbrev all : Durable
  all = closing s.units s.held

  abbrev IsLow : Object → Type 0
  IsLow o = (1 ≤ o.number.0) × (o.number.0 < ceiling_key)

  low_number : (n : ℕ) (o : Object) → object s.held n ≡ Some o → n < ceiling_key
  low_number n o found =
      let given = object_given s.held n o is.numbered found in
      let within = is.numbered.within in
      let low = is.numbered.low in
      omega (arith, given, within, low)

  each_low : All IsLow s.held.objects
  each_low = all_found IsLow s.held is.numbered.rising (λ o found. (from o found o.number.0 refl, low_number o.number.0 o found))
    where
      nothing : (o : Object) → object s.held 0 ≡ Some o → ⊥
      nothing o e = let h : None ≡ Some o = sym is.numbered.none ∙ e in cc

      from : (o : Object) → object s.held o.number.0 ≡ Some o → (n : ℕ) → o.number.0 ≡ n → 1 ≤ o.number.0
      from o found zero e = absurd (nothing o (subst (λ (j : ℕ). object s.held j ≡ Some o) e found))
      from o found (suc n) e = omega (arith, e)

  sorted : AreSorted s.held.objects
  sorted = sorted_by s.held.objects is.numbered.rising

  -- ---- all parts, number by number

  pieces : (os gone : List Object) → s.held.objects ≡ gone ++ os → each_to (parts_at all) (last_object_number gone) ≡ flat_map image_parts (map (whole_object s) gone)
      → each_to (parts_at all) (last_object_number s.held.objects) ≡ flat_map image_parts (kept_whole s.units s.held)
  pieces [] gone are before =
      let same : s.held.objects ≡ gone = are ∙ append-nil gone in
      ap (λ (os : List Object). each_to (parts_at all) (last_object_number os)) same ∙ before ∙ ap (λ (os : List Object). flat_map image_parts (map (whole_object s) os)) (sym same)
  pieces (o ∷ os) gone are before =
      let low = at_place IsLow s.held.objects gone os o each_low are in
      pieces os (gone ++ o ∷ []) (are ∙ sym (append_assoc gone (o ∷ []) os))
      (ap (each_to (parts_at all)) (last_more gone o)
      ∙ pieces_more s.units s.held gone os o (last_object_number gone) are (subst AreSorted are sorted) refl low.0 low.1 before)

  last_low : last_object_number s.held.objects < ceiling_key
  last_low = by s.held.objects (λ o. o) each_low
    where
      by : (os : List Object) → (Object → Object) → All IsLow os → last_object_number os < ceiling_key
      by [] f low = lit< tt
      by (o ∷ []) f low = (All-head IsLow o [] low).1
      by (o ∷ p ∷ os) f low = by (p ∷ os) f (All-tail IsLow o (p ∷ os) low)

  all_pieces : each_to (parts_at all) ceiling_key ≡ parts_of_all all
  all_pieces =
      pieces_all s.units s.held (last_object_number s.held.objects) last_low (λ n above. none_after s.units s.held s.held.objects n sorted above)
      (pieces s.held.objects [] refl (each_none (parts_at all)))

  -- ---- the content

  wanted : (n : ℕ) → IsWanted (range_of n) (parts_at all n)
  wanted n = by (n == ceiling_key) refl
    where
      stored : (x : Option Stored) → kept all.objects n ≡ x → IsWanted (range_of n) (parts_in x)
      stored None at = record { rising = tt; in_range = tt }
      stored (Some x) at = wanted_object x n (kept_number n all.objects x at) (headers n x at)

      by : (b : Bool) → (n == ceiling_key) ≡ b → IsWanted (range_of n) (cond b (ceiling_parts all.ceiling) (parts_in (kept all.objects n)))
      by true own = subst (λ (k : ℕ). IsWanted (range_of k) (ceiling_parts all.ceiling)) (sym (same_by n ceiling_key own)) (wanted_whole ceiling_key (ceiling_parts all.ceiling) (ceiling_wanted all.ceiling))
      by false other = stored (kept all.objects n) refl

  abbrev changes : List Change
  changes = changes_to (get nothing_held) (parts_at all) ceiling_key

  made : content_of all ≡ changed nothing_held changes
  made =
      ap (changed nothing_held) (sym all_pieces)
      ∙ sym (wanted_content nothing_held (parts_at all) ceiling_key (λ n from upto. wanted n) (λ key there. nothing_known ceiling_key key (get nothing_held key) (get-empty key_cmp key) there))

  -- of another number nothing is there, and nothing is durable
  out_of : (key : Key) → ((k : ℕ) → 1 ≤ k → k ≤ ceiling_key → key.object ≡ k → ⊥) → get (changed nothing_held changes) key ≡ page_of all key
  out_of key out =
      get-changed nothing_held changes key
      ∙ made_other (changes_at (get nothing_held) (parts_at all)) key (get nothing_held key) ceiling_key (λ k low high. of_number (get nothing_held) k (parts_at all k)) out
      ∙ get-empty key_cmp key ∙ sym (nothing (object s.held key.object) refl)
    where
      not_there : (n : ℕ) (o : Object) → key.object ≡ n → object s.held n ≡ Some o → ⊥
      not_there zero o at found = let h : None ≡ Some o = sym is.numbered.none ∙ found in cc
      not_there (suc n) o at found = out key.object (omega (arith, at)) (let low = low_number (suc n) o found in omega (arith, low, at)) refl

      nothing : (x : Option Object) → object s.held key.object ≡ x → page_of all key ≡ None
      nothing (Some o) found = absurd (not_there key.object o refl found)
      nothing None none =
          ap (λ b. wanted_at (cond b (ceiling_parts all.ceiling) (parts_in (kept all.objects key.object))) key) (not_same key.object ceiling_key (λ same. out ceiling_key (lit≤ tt) (lit≤ tt) same))
          ∙ ap (λ (x : Option Stored). wanted_at (parts_in x) key) (whole_found s.units s.held s.held.objects key.object ∙ ap (option_map (whole_object s)) none)

  pub content_represents : Represents (content_of all) all
  content_represents = record { each = λ key near. ap (λ (m : Content). get m key) made ∙ by key near (numbered key.object ceiling_key) }
    where
      by : (key : Key) → key.part < parts_end → ((1 ≤ key.object) × (key.object ≤ ceiling_key)) ⊎ ((k : ℕ) → 1 ≤ k → k ≤ ceiling_key → key.object ≡ k → ⊥) → get (changed nothing_held changes) key ≡ page_of all key
      by key near (inl within) = made_in nothing_held (parts_at all) ceiling_key key within.0 within.1 near
      by key near (inr out) = out_of key out
