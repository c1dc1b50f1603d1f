use Rattle.std.proofs.Common.{◌∙◌, ap}
use Rattle.std.proofs.lemmas.Result.{IfOk-weaker}
use Rattle.serde_json.specs.Written.{has_float, compact_text}
use Rattle.report_tables.proofs.JsonLaws.{has_float-facts_data}
use Rattle.report_tables.proofs.json_report.facts_text.Goals as goal

pub returns : goal.returns
returns c =
    let seen = c.in_ok-value.ensures in
    IfOk-weaker c.to_vec.result _ _ (λ t h. h (ap has_float seen ∙ has_float-facts_data c.args.facts.now) ∙ ap compact_text seen) c.to_vec.ensures.text
