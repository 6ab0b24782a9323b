-- A constructor without fields: `nil_matched`.
use Rattle.std.proofs.Common.{[], ◌∙◌}
use Rattle.elm_canon.specs.Unions.{nil_alternative}
use Rattle.infer_steps.specs.View.{here}
use Rattle.infer_patterns.proofs.Listing.{nil_matched}
use Rattle.infer_steps.specs.declared.bad.InferError.TheVariants as error
use Rattle.infer_patterns.proofs.Leaves.{err_again}
use Rattle.infer_patterns.proofs.parts.match_nil.Goals as goal

pub returns-in-Ok-clause-matches : goal.returns-in-Ok-clause-matches
returns-in-Ok-clause-matches c = λ known.
    nil_matched known c.args.position c.args.wanted (here c.args.state.now) (here c.begin_list.new.state)
    (c.in-Ok.ensures.begins known nil_alternative)

pub returns-in-Err-clause-refuses : goal.returns-in-Err-clause-refuses
returns-in-Err-clause-refuses c =
    λ b e known. c.begin_list.ensures.refuses b (c.in-Err.is ∙ err_again c.in-Err.error (error.Bad b) e) known
    nil_alternative []
