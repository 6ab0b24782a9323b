-- Three puts, one after the other: whichever is the last, a beginning of the line is there (`first_part` and on).
use Rattle.std.proofs.Common.{◌≡◌, codes, ◌∙◌, ap, subst}
use Rattle.elm_files.specs.Texts.{LongerByPart, longer}
use Rattle.commands.proofs.Pieces.{put, first_part, second_part, third_part, all_three}
use Rattle.commands.proofs.report.put_failure.Goals as goal

pub returns-in_err-put-clause-part : goal.returns-in_err-put-clause-part
returns-in_err-put-clause-part g c =
    let old = g.E.Sink.text c.args.err.now in
    let new = g.E.Sink.text c.put.new.self in
    first_part old new (codes "elmc: failed: ") c.args.path.now (codes "\n")
    (put old new (codes "elmc: failed: ") c.put.result c.put.ensures.ok c.put.ensures.part c.put.ensures.no_memory)

pub returns-in_err-put-2-clause-part : goal.returns-in_err-put-2-clause-part
returns-in_err-put-2-clause-part g c =
    let old = g.E.Sink.text c.args.err.now in
    let mid = g.E.Sink.text c.put.new.self in
    let new = g.E.Sink.text c.put-2.new.self in
    let told =
    put mid new c.as_bytes.result.now
    c.put-2.result c.put-2.ensures.ok c.put-2.ensures.part c.put-2.ensures.no_memory in
    second_part old new (codes "elmc: failed: ") c.args.path.now (codes "\n") mid c.in_ok-put.ensures.ok
    (subst (λ bytes. LongerByPart mid bytes new) c.as_bytes.ensures told)

pub returns-clause-whole : goal.returns-clause-whole
returns-clause-whole g c =
    let old = g.E.Sink.text c.args.err.now in
    let mid = g.E.Sink.text c.put.new.self in
    let late = g.E.Sink.text c.put-2.new.self in
    let new = g.E.Sink.text c.put-3.new.self in
    let path : late ≡ longer mid c.args.path.now =
    c.in_ok-put-2.ensures.ok ∙ ap (λ bytes. longer mid bytes) c.as_bytes.ensures in
    all_three old new (codes "elmc: failed: ") c.args.path.now (codes "\n") mid late
    c.put-3.result c.in_ok-put.ensures.ok path c.put-3.ensures.ok

pub returns-clause-part : goal.returns-clause-part
returns-clause-part g c =
    let old = g.E.Sink.text c.args.err.now in
    let mid = g.E.Sink.text c.put.new.self in
    let late = g.E.Sink.text c.put-2.new.self in
    let new = g.E.Sink.text c.put-3.new.self in
    let path : late ≡ longer mid c.args.path.now =
    c.in_ok-put-2.ensures.ok ∙ ap (λ bytes. longer mid bytes) c.as_bytes.ensures in
    third_part old new (codes "elmc: failed: ") c.args.path.now (codes "\n") mid late c.in_ok-put.ensures.ok path
    (put late new (codes "\n") c.put-3.result c.put-3.ensures.ok c.put-3.ensures.part c.put-3.ensures.no_memory)
