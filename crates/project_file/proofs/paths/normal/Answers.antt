-- Each part that is kept is put after those before it.
use Rattle.std.proofs.Common.{map, ap, ◌∙◌, lit<}
use Rattle.std.specs.List.{filter, join_with_byte}
use Rattle.std.proofs.lemmas.List.{map-append}
use Rattle.std.proofs.lemmas.Iterator.Splits.{YieldsList-from_str_split}
use Rattle.std.proofs.lemmas.Iterator.Consumers.{YieldsList-end}
use Rattle.project_file.specs.Paths.{is_kept}
use Rattle.project_file.proofs.Joins.{next, filter-snoc}
use Rattle.project_file.proofs.paths.normal.Goals as goal

pub loop-part-preserved-then-is_kept : goal.loop-part-preserved-then-is_kept
loop-part-preserved-then-is_kept c =
    let parts = map (λ part. part.now) c.loop-part.yielded in
    let more = next (filter is_kept parts) c.in-Some.part.now _ _ c.loop-part.is_first c.loop-part.invariant c.in_ok-push_part.ensures in
    rw (map-append, filter-snoc is_kept parts c.in-Some.part.now (cc)) more

pub returns : goal.returns
returns c =
    let end =
    YieldsList-end (YieldsList-from_str_split 47 c.args.path.now (lit< tt) (cc) (cc) (cc))
    c.loop-part.yielded _ c.loop-part.yielded_by _ _ c.in-None.is c.next.ensures.steps in
    c.loop-part.invariant.joined ∙ ap (λ parts. join_with_byte 47 (filter is_kept parts)) end.0
