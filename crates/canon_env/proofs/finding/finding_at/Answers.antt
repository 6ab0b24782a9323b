-- A finding has the place and the text of its token.
use Rattle.std.proofs.Common.{◌∙◌}
use Rattle.canon_env.proofs.finding.finding_at.Goals as goal

pub returns : goal.returns
returns c = λ i. record {
  code = c.args.code;
  place = record { row = c.place_at.ensures.row i; column = c.place_at.ensures.column i };
  detail = (c.in_ok-copy.ensures ∙ c.text_at.ensures) i;
}
