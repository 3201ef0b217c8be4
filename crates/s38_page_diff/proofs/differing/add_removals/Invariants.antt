use Rattle.std.proofs.Common.{◌≡◌, ◌-◌, ◌++◌, [], ◌≤◌}
use Rattle.std.specs.Prelude.{Option, vec_capacity}
use Rattle.s38_base.specs.declared.page.Key.{Key}
use Rattle.s38_base.specs.declared.page.Page.{Page}
use Rattle.s38_page_diff.specs.Differences.{HavePages, differences}
use Rattle.s38_page_diff.proofs.differing.add_removals.Given as goal

-- the removals so far and those of what is left are all of them
abbrev pub invariant-loop-part : goal.invariant-loop-part
invariant-loop-part g l = record {
  object : l.left.object ≡ l.fn.range.object;
  end : l.left.end ≡ l.fn.range.end;
  capacity : vec_capacity l.initial.into ≤ vec_capacity l.into;
  items : (pages : Key → Option Page) → HavePages (g.V.Vault.view l.vault).keys pages → l.into.items ++ differences pages l.left [] ≡ l.initial.into.items ++ differences pages l.fn.range [];
}

abbrev pub decreases-loop-part : goal.decreases-loop-part
decreases-loop-part g l = l.left.end - l.left.first
