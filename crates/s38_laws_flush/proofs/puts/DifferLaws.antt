-- How many parts of a number differ, piece by piece.
use Rattle.std.proofs.Common.{◌≡◌, ◌∙◌, ℕ, ◌+◌, ◌-◌, ◌<◌, ◌≤◌, true, List, length, sym, ap, arith, length-append}
use Rattle.std.specs.Prelude.{Option}
use Rattle.s38_base.specs.declared.page.Change.{Change}
use Rattle.s38_base.specs.declared.page.Key.{Key}
use Rattle.s38_base.specs.declared.page.Page.{Page}
use Rattle.s38_page_diff.proofs.DifferenceLaws.{split}
use Rattle.s38_page_diff.proofs.LookLaws.{differences_few, nothing_differs}
use Rattle.s38_page_diff.proofs.WalkLaws.{key_at}
use Rattle.s38_page_diff.proofs.WantedLaws.{inside}
use Rattle.s38_page_diff.specs.Differences.{differences, differences_from, is_part_in_range, wanted_at}
use Rattle.s38_page_diff.specs.declared.range.PartRange.{PartRange}

-- the parts of a number from one on, before another
abbrev pub range_at : ℕ → ℕ → ℕ → PartRange
range_at n first end = record { object = n; first = first; end = end }

module _ (pages : Key → Option Page) (wanted : List Change) (n : ℕ) where
  -- how many differ
  abbrev pub differ : ℕ → ℕ → ℕ
  differ first end = length (differences pages (range_at n first end) wanted)

  -- from one part on, before another, the wanted pages are there
  abbrev pub AreSame : ℕ → ℕ → Type 0
  AreSame first end = (p : ℕ) → first ≤ p → p < end → pages (key_at n p) ≡ wanted_at wanted (key_at n p)

  -- those before a part, and those from it on
  pub pieces : (a b c : ℕ) → a ≤ b → b ≤ c → differ a c ≡ differ a b + differ b c
  pieces a b c low high =
      ap (λ (cs : List Change). length cs) (split pages wanted n (b - a) (c - b) a (c - a) b (omega (arith, low, high)) (omega (arith, low)))
      ∙ length-append (differences_from pages wanted n a (b - a)) (differences_from pages wanted n b (c - b))

  pub none_differ : (a b : ℕ) → AreSame a b → differ a b ≡ 0
  none_differ a b same = ap (λ (cs : List Change). length cs) (nothing_differs pages (range_at n a b) wanted stands)
    where
      stands : (key : Key) → is_part_in_range (range_at n a b) key ≡ true → pages key ≡ wanted_at wanted key
      stands key is =
          let own = inside (range_at n a b) key is in
          let here : key ≡ key_at n key.part = λ i. record { object = own.object i; part = key.part } in
          ap pages here ∙ same key.part own.from own.before ∙ ap (wanted_at wanted) (sym here)

  pub few_differ : (a b : ℕ) → differ a b ≤ b - a
  few_differ a b = differences_few pages (range_at n a b) wanted

  -- where those from a part on are the same
  pub differ_before : (a b c : ℕ) → a ≤ b → b ≤ c → AreSame b c → differ a c ≤ b - a
  differ_before a b c low high same =
      let all = pieces a b c low high in
      let none = none_differ b c same in
      let few = few_differ a b in
      omega (arith, all, none, few)

  -- where those before a part are the same
  pub differ_from : (a b c : ℕ) → a ≤ b → b ≤ c → AreSame a b → differ a c ≡ differ b c
  differ_from a b c low high same =
      let all = pieces a b c low high in
      let none = none_differ a b same in
      omega (arith, all, none)
