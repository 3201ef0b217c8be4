-- What a vault holds after a checkpoint.
use Rattle.std.proofs.Common.{◌≡◌, ◌∙◌, List, true, ap, subst, sym}
use Rattle.std.specs.FinMap.{contains_key, empty}
use Rattle.s38_base.specs.declared.page.Change.{Change}
use Rattle.s38_base.specs.declared.page.Key.{Key}
use Rattle.s38_checkpoint.specs.Closing.{content_of, parts_of_all}
use Rattle.s38_durable_state.specs.Durable.{Durable}
use Rattle.s38_durable_state.specs.Represents.{parts_at}
use Rattle.s38_image.specs.PartPlaces.{ceiling_key}
use Rattle.s38_page_diff.proofs.reconcile.ContentLaws.{content_made}
use Rattle.s38_page_diff.specs.reconcile.Replacing.{each_to}
use Rattle.s38_page_diff.specs.reconcile.Walking.{AreSoFar, IsKnown}
use Rattle.s38_vault.specs.Content.{Content, changed}
use Rattle.s38_vault.specs.Directory.{Keys}

-- all changes are known
pub record AreClosing (keys : Keys) (holds : Content → Type 0) (d : Durable) (changes : List Change) : Type 0 where
  pub so_far : AreSoFar keys holds (parts_at d) ceiling_key changes
  pub whole : each_to (parts_at d) ceiling_key ≡ parts_of_all d
  pub known : (key : Key) → contains_key keys key ≡ true → IsKnown ceiling_key key

module _ {keys : Keys} {holds : Content → Type 0} {d : Durable} {changes : List Change} (all : AreClosing keys holds d changes) where
  -- they make the content
  pub content_closed : (m : Content) → holds m → changed m changes ≡ content_of d
  content_closed m h = content_made keys holds (parts_at d) ceiling_key changes m all.so_far h all.known ∙ ap (λ (cs : List Change). changed empty cs) all.whole
