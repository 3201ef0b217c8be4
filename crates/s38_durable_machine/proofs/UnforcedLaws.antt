-- Where nothing of the numbers is forced, the same pages represent what is durable after a step.
use Rattle.std.proofs.Common.{◌≡◌, ◌∙◌, ℕ, Bool, true, false, cond, [], refl, sym, ap, ◌==◌}
use Rattle.s38_base.specs.declared.page.Key.{Key}
use Rattle.s38_durable_state.specs.Durable.{Durable, durable_after, kept}
use Rattle.s38_durable_state.specs.Represents.{Represents, ceiling_parts, page_of, parts_in}
use Rattle.s38_page_diff.specs.Differences.{wanted_at}
use Rattle.s38_image.specs.PartPlaces.{ceiling_key}
use Rattle.s38_rules.specs.state.State.{State}
use Rattle.s38_flush.specs.Stepping.{HaveHeaders, IsDue}
use Rattle.s38_vault.specs.Content.{Content}

module _ (d : Durable) (s : State) (due : IsDue [] d s) where
  abbrev new : Durable
  new = durable_after [] d s

  same_kept : (n : ℕ) → kept new.objects n ≡ kept d.objects n
  same_kept n = due.objects n refl

  same_page : (key : Key) → page_of new key ≡ page_of d key
  same_page key = ap (λ parts. wanted_at parts key) (by (key.object == ceiling_key))
    where
      by : (b : Bool) → cond b (ceiling_parts new.ceiling) (parts_in (kept new.objects key.object)) ≡ cond b (ceiling_parts d.ceiling) (parts_in (kept d.objects key.object))
      by true = ap ceiling_parts (due.ceiling refl)
      by false = ap parts_in (same_kept key.object)

  pub still_represents : (m : Content) → Represents m d → Represents m new
  still_represents m stands = record { each = λ key part. stands.each key part ∙ sym (same_page key) }

  pub still_headers : HaveHeaders d → HaveHeaders new
  still_headers have n x at = have n x (sym (same_kept n) ∙ at)
