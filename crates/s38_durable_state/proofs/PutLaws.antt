-- What is put where something else is durable.
use Rattle.std.proofs.Common.{◌==◌, ◌∙◌, ◌∷◌, ◌≡◌, ◌<◌, Bool, List, [], ap, arith, cond, false, map, refl, subst, sym, true, ℕ}
use Rattle.std.proofs.lemmas.Bool.{false≢true}
use Rattle.std.proofs.lemmas.Bool.Decides.{nat_tests}
use Rattle.std.specs.FinMap.{get}
use Rattle.std.specs.Prelude.{◌&&◌, ◌||◌, Option, nat_le, nat_lt}
use Rattle.s38_base.specs.declared.page.Change.{Change}
use Rattle.s38_base.specs.declared.page.Key.{Key}
use Rattle.s38_base.specs.declared.page.Page.{Page}
use Rattle.s38_code.specs.declared.event.Event.{Event}
use Rattle.s38_commits.proofs.MapLaws.{nat_same}
use Rattle.s38_page_diff.proofs.AimLaws.{aims_made}
use Rattle.s38_page_diff.specs.Aims.{RiseByObject, aimed_at}
use Rattle.s38_page_diff.specs.Differences.{wanted_at}
use Rattle.s38_image.specs.PartPlaces.{ceiling_key}
use Rattle.s38_laws_objects.specs.Outline.{is_forced}
use Rattle.s38_rules.specs.store.Forcing.{must_persist}
use Rattle.s38_rules.specs.state.State.{State}
use Rattle.s38_rules.specs.step.Step.{step}
use Rattle.s38_vault.specs.Content.{Content}
use Rattle.s38_durable_state.proofs.KeptLaws.{unforced_stays}
use Rattle.s38_durable_state.specs.Durable.{Durable, durable_after, kept}
use Rattle.s38_durable_state.specs.Following.{Follows, NumbersRise}
use Rattle.s38_durable_state.specs.Represents.{Represents, aim_of, aims_of, ceiling_parts, is_among, page_of, pages_put_at, parts_at, parts_end, parts_in}

-- a key is in the range of a number exactly where it is of that number
in_range : (object n part : ℕ) → part < parts_end → ((object == n) && (nat_le 0 part && nat_lt part parts_end)) ≡ (object == n)
in_range object n part low = by (object == n)
  where
    inside : (nat_le 0 part && nat_lt part parts_end) ≡ true
    inside = grind (arith, nat_tests, low)

    by : (b : Bool) → (b && (nat_le 0 part && nat_lt part parts_end)) ≡ b
    by true = inside
    by false = refl

-- the page that a key is to have: what is durable, at these numbers, and else the page that it has
aimed : (d : Durable) (pages : Key → Option Page) (key : Key) → key.part < parts_end → (ns : List ℕ) → aimed_at pages (map (aim_of d) ns) key ≡ cond (is_among key.object ns) (page_of d key) (pages key)
aimed d pages key low [] = refl
aimed d pages key low (n ∷ ns) = rw (in_range key.object n key.part low) (by (aimed d pages key low ns) (key.object == n) refl)
  where
    by : aimed_at pages (map (aim_of d) ns) key ≡ cond (is_among key.object ns) (page_of d key) (pages key) → (b : Bool) → (key.object == n) ≡ b
        → cond b (wanted_at (parts_at d n) key) (aimed_at pages (map (aim_of d) ns) key) ≡ cond (b || is_among key.object ns) (page_of d key) (pages key)
    by rest true is = ap (λ (k : ℕ). wanted_at (parts_at d k) key) (sym (nat_same key.object n is))
    by rest false is = rest

-- where the other numbers have what they had, the pages represent what is durable then
pub put_represents : (m : Content) (d new : Durable) (ns : List ℕ) → Represents m d → RiseByObject (aims_of new ns) → ((n : ℕ) → is_among n ns ≡ false → parts_at new n ≡ parts_at d n) → Represents (pages_put_at ns m new) new
put_represents m d new ns stands order others = record {
  each = λ key low. aims_made m (aims_of new ns) key order ∙ aimed new (get m) key low ns ∙ by key low (is_among key.object ns) refl;
}
  where
    by : (key : Key) → key.part < parts_end → (b : Bool) → is_among key.object ns ≡ b → cond b (page_of new key) (get m key) ≡ page_of new key
    by key low true is = refl
    by key low false is = stands.each key low ∙ ap (λ (parts : List Change). wanted_at parts key) (sym (others key.object is))

-- ---- a step

unforced_parts : (d new : Durable) (n : ℕ) → (n ≡ ceiling_key → new.ceiling ≡ d.ceiling) → kept new.objects n ≡ kept d.objects n → parts_at new n ≡ parts_at d n
unforced_parts d new n ceiling same = by (n == ceiling_key) refl
  where
    by : (b : Bool) → (n == ceiling_key) ≡ b → cond b (ceiling_parts new.ceiling) (parts_in (kept new.objects n)) ≡ cond b (ceiling_parts d.ceiling) (parts_in (kept d.objects n))
    by true is = ap ceiling_parts (ceiling (nat_same n ceiling_key is))
    by false is = ap parts_in same

-- after a step the pages that differ at the numbers that it forces are put, and then the pages represent what is durable
pub step_represents : (s : State) (p : ℕ) (e : Event) (m : Content) (d : Durable) (ns : List ℕ) → NumbersRise (step s p e).state.held → Follows s.held d → Represents m d
    → RiseByObject (aims_of (durable_after (must_persist s p e) d (step s p e).state) ns) → ((n : ℕ) → is_forced n (must_persist s p e) ≡ true → is_among n ns ≡ true)
    → (is_among ceiling_key ns ≡ false → (step s p e).state.held.ceiling ≡ d.ceiling)
    → Represents (pages_put_at ns m (durable_after (must_persist s p e) d (step s p e).state)) (durable_after (must_persist s p e) d (step s p e).state)
step_represents s p e m d ns rising follows stands order all ceiling =
    put_represents m d new ns stands order
    (λ n other. unforced_parts d new n (λ is. ceiling (subst (λ (k : ℕ). is_among k ns ≡ false) is other)) (unforced_stays s p e d n rising follows (unforced n other (is_forced n (must_persist s p e)) refl)))
  where
    new : Durable
    new = durable_after (must_persist s p e) d (step s p e).state

    unforced : (n : ℕ) → is_among n ns ≡ false → (b : Bool) → is_forced n (must_persist s p e) ≡ b → is_forced n (must_persist s p e) ≡ false
    unforced n other true is = absurd (false≢true (sym other ∙ all n is))
    unforced n other false is = is
