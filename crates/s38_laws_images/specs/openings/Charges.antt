-- What all users pay for together.
use Rattle.std.specs.Prelude.{ℕ, sum_by}
use Rattle.s38_rules.specs.state.Held.{Held, pages_of}
use Rattle.s38_rules.specs.declared.object.Object.{Object}

abbrev pub pages_in : Object → ℕ
pages_in o = pages_of o.body

-- the pages of all objects
abbrev pub total_charge : Held → ℕ
total_charge h = sum_by pages_in h.objects
