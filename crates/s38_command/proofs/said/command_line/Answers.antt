use Rattle.std.proofs.Common.{◌≡◌, ◌∙◌, rules, ap, ap₂, codes}
use Rattle.std.specs.Prelude.{true}
use Rattle.std.proofs.lemmas.Result.{IfOk-weaker}
use Rattle.clap.specs.Simple.{App, app_of, app_of_fields, new_app, new_rule, on_top, with_rule}
use Rattle.clap.specs.Walk.{rule_of}
use Rattle.s38_command.specs.Said.{option_rule}
use Rattle.s38_command.proofs.said.command_line.Goals as goal

abbrev bare : App
bare = on_top (λ s. record s { no_binary_name = true }) (new_app (codes "s38"))

pub returns : goal.returns
returns c =
    let pick_is : rule_of c.long-pick.result ≡ option_rule (codes "pick") = search rules in
    let workers_is : rule_of c.long-workers.result ≡ option_rule (codes "workers") = search rules in
    let command_is : rule_of c.new-4.result ≡ new_rule (codes "command") = search rules in
    let rest_is : rule_of c.new-5.result ≡ new_rule (codes "rest") = search rules in
    let bare_is : app_of c.no_binary_name.result ≡ bare = ap app_of_fields c.no_binary_name.ensures ∙ ap (on_top (λ s. record s { no_binary_name = true })) c.new-3.ensures.app in
    let one_is : app_of c.in_ok-arg.field-0 ≡ with_rule bare (new_rule (codes "command")) = c.in_ok-arg.ensures.shape (search rules) ∙ ap₂ with_rule bare_is command_is in
    let two_is = c.in_ok-arg-2.ensures.shape (search rules) ∙ ap₂ with_rule one_is rest_is in
    let three_is = c.in_ok-arg-3.ensures.shape (search rules) ∙ ap₂ with_rule two_is pick_is in
    IfOk-weaker c.arg-4.result _ _ (λ m h. h.shape (search rules) ∙ ap₂ with_rule three_is workers_is) c.arg-4.ensures
