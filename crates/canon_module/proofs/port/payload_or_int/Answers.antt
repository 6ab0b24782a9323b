-- A type that crosses no port is told as Int.
use Rattle.std.proofs.Common.{◌++◌, option_map, sym, ap, ◌∙◌}
use Rattle.std.proofs.lemmas.Result.{IfOk-weaker, on_ok_weaker}
use Rattle.elm_tree.specs.View.{word_view}
use Rattle.elm_tree.specs.Turns.{tokens_view}
use Rattle.elm_canon.specs.View.{payload_view}
use Rattle.canon_module.specs.Ports.{payload_or_int, unless_payload}
use Rattle.canon_module.proofs.port.payload_or_int.Goals as goal

pub returns-in-None : goal.returns-in-None
returns-in-None c =
    let none = ap (option_map payload_view) (sym c.in-None.is) ∙ c.in_ok-payload.ensures in
    record {
      payload = IfOk-weaker c.no_payload.result _ _ (λ p told. told ∙ ap payload_or_int none) c.no_payload.ensures.payload;
      faults = on_ok_weaker c.no_payload.result
          (λ told. told ∙ ap (λ o. c.args.findings.now.items
          ++ unless_payload (word_view (tokens_view c.args.tokens.now) c.args.name) o) none)
          c.no_payload.ensures.faults;
    }
