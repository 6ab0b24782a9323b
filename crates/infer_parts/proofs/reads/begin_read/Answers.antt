use Rattle.std.proofs.Common.{sym, subst}
use Rattle.type_store.specs.Shape.{IsStore}
use Rattle.type_walks.specs.Links.{Live}
use Rattle.infer_steps.specs.Codes.{State}
use Rattle.infer_steps.specs.View.{bad_view}
use Rattle.infer_steps.specs.declared.bad.InferError.TheVariants as error
use Rattle.infer_parts.proofs.Reading.{err_is, no_code, is_read, read_unbegun}
use Rattle.infer_parts.proofs.reads.begin_read.Goals as goal

pub returns-in-Err-clause-stops : goal.returns-in-Err-clause-stops
returns-in-Err-clause-stops c b e code x =
    read_unbegun code c.args.position c.args.name.now c.args.wanted _ _ (bad_view b) x
    (c.begin_access.ensures.stops b (err_is c.begin_access.result c.in-Err.error (error.Bad b) c.in-Err.is e) code
    c.args.wanted)

pub returns-clause-whole : goal.returns-clause-whole
returns-clause-whole c =
    subst (λ (s : State). IsStore s.store) (sym c.in_ok-enter_both.ensures)
    (c.in-Ok.ensures.begins no_code 0).follows.whole

pub returns-clause-owner : goal.returns-clause-owner
returns-clause-owner c =
    subst (λ (s : State). Live s.depth s.store c.in-Ok.access.owner) (sym c.in_ok-enter_both.ensures)
    (c.in-Ok.ensures.begins no_code 0).live.0

pub returns-clause-begins : goal.returns-clause-begins
returns-clause-begins c code can =
    is_read code c.args.position c.args.name.now c.in-Ok.access.owner c.in-Ok.access.field c.args.wanted _ _ _
    c.requires.wanted (c.in-Ok.ensures.begins code c.args.wanted) c.in_ok-enter_both.ensures can
