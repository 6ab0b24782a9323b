-- Each part is put after those before it.
use Rattle.std.proofs.Common.{◌++◌, map, ap, ◌∙◌, lit<}
use Rattle.std.specs.Prelude.{codes}
use Rattle.std.specs.List.{join_with_byte}
use Rattle.std.proofs.lemmas.List.{map-append}
use Rattle.std.proofs.lemmas.Iterator.Splits.{YieldsList-from_str_split}
use Rattle.std.proofs.lemmas.Iterator.Consumers.{YieldsList-end}
use Rattle.project_file.proofs.Joins.{next}
use Rattle.project_file.proofs.paths.module_path.Goals as goal

pub loop-part-preserved : goal.loop-part-preserved
loop-part-preserved c =
    let parts = map (λ part. part.now) c.loop-part.yielded in
    let more = next parts c.in-Some.part.now _ _ c.loop-part.is_first c.loop-part.invariant c.in_ok-push_part.ensures in
    rw map-append more

pub returns : goal.returns
returns c =
    let end =
    YieldsList-end (YieldsList-from_str_split 46 c.args.name.now (lit< tt) (cc) (cc) (cc))
    c.loop-part.yielded _ c.loop-part.yielded_by _ _ c.in-None.is c.next.ensures.steps in
    let parts = c.loop-part.invariant.joined ∙ ap (λ parts. join_with_byte 47 parts) end.0 in
    c.in_ok-push_str.ensures.bytes ∙ ap (λ t. t ++ codes ".elm") parts
