use Rattle.std.proofs.Common.{arith, map}
use Rattle.std.proofs.lemmas.List.{length-map}
use Rattle.std.proofs.lemmas.Result.{IfOk-weaker}
use Rattle.type_store.specs.View.{field_view, store_view, work_view}
use Rattle.type_store.proofs.Ending.{no_fields, did_none, did_closed, bare_none, first_never, second_never}
use Rattle.type_store.proofs.ends.join_ends.Goals as goal

pub returns-then-len-ne0-clause-no : goal.returns-then-len-ne0-clause-no
returns-then-len-ne0-clause-no c done =
    first_never (store_view c.args.slots.now.items) (map field_view c.args.left.items) (map field_view c.args.right.items) c.args.first c.args.second
    (omega (arith, length-map c.args.left.items field_view, c.len.ensures, c.if-len-ne0.true)) c.requires.apart
    (bare_none (store_view c.args.slots.now.items) c.args.second c.in-None-second.is)

pub returns-then-len-ne0-2-clause-no : goal.returns-then-len-ne0-2-clause-no
returns-then-len-ne0-2-clause-no c done =
    second_never (store_view c.args.slots.now.items) (map field_view c.args.left.items) (map field_view c.args.right.items) c.args.first c.args.second
    (omega (arith, length-map c.args.right.items field_view, c.len-in-None-second.ensures, c.if-len-ne0-2.true)) c.requires.apart
    (bare_none (store_view c.args.slots.now.items) c.args.first c.in-None.is)

pub returns-then-len-ne0-3-clause-no : goal.returns-then-len-ne0-3-clause-no
returns-then-len-ne0-3-clause-no c done =
    second_never (store_view c.args.slots.now.items) (map field_view c.args.left.items) (map field_view c.args.right.items) c.args.first c.args.second
    (omega (arith, length-map c.args.right.items field_view, c.len-in-Some-second.ensures, c.if-len-ne0-3.true)) c.requires.apart
    (bare_none (store_view c.args.slots.now.items) c.args.first c.in-None.is)

pub returns-then-len-ne0-4-clause-no : goal.returns-then-len-ne0-4-clause-no
returns-then-len-ne0-4-clause-no c done =
    first_never (store_view c.args.slots.now.items) (map field_view c.args.left.items) (map field_view c.args.right.items) c.args.first c.args.second
    (omega (arith, length-map c.args.left.items field_view, c.len-in-None-second-2.ensures, c.if-len-ne0-4.true)) c.requires.apart
    (bare_none (store_view c.args.slots.now.items) c.args.second c.in-None-second-2.is)

pub returns-else-len-ne0-2-clause-yes : goal.returns-else-len-ne0-2-clause-yes
returns-else-len-ne0-2-clause-yes c done =
    did_none (store_view c.args.slots.now.items) (work_view c.args.work.now.items) (map field_view c.args.left.items) (map field_view c.args.right.items) c.args.first c.args.second
    (no_fields c.args.left.items (omega (arith, c.len.ensures, c.if-len-ne0.false))) (no_fields c.args.right.items (omega (arith, c.len-in-None-second.ensures, c.if-len-ne0-2.false)))
    c.in-None.is c.in-None-second.is c.requires.graph

pub returns-else-len-ne0-3-clause-yes : goal.returns-else-len-ne0-3-clause-yes
returns-else-len-ne0-3-clause-yes c =
    IfOk-weaker c.end_takes.result _ _ (λ done h yes.
    did_closed (store_view c.args.slots.now.items) (store_view c.end_takes.new.slots.items) (work_view c.args.work.now.items) (work_view c.end_takes.new.work.items)
    (map field_view c.args.left.items) (map field_view c.args.right.items) c.args.first c.args.second c.in-Some-second.end
    (no_fields c.args.right.items (omega (arith, c.len-in-Some-second.ensures, c.if-len-ne0-3.false))) c.in-None.is c.in-Some-second.is (h yes)) c.end_takes.ensures.yes
