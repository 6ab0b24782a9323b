use Rattle.std.proofs.Common.{◌∙◌, List, Some, arith, ap, map, sym}
use Rattle.std.proofs.lemmas.List.{length-map, map_push}
use Rattle.std.proofs.lemmas.Result.{IfOk-weaker}
use Rattle.type_store.specs.Ends.{is_open}
use Rattle.type_store.specs.Store.{slot_at}
use Rattle.type_store.specs.View.{ask_view, field_view, store_view, work_view}
use Rattle.type_store.specs.declared.slot.Slot as stored
use Rattle.type_store.proofs.Ending.{no_fields, did_same, did_turned, over_never, first_never, second_never, bare_at}
use Rattle.type_store.proofs.ends.join_variables.Goals as goal

pub returns-then-len-eq0-2-clause-yes : goal.returns-then-len-eq0-2-clause-yes
returns-then-len-eq0-2-clause-yes c done =
    did_same (store_view c.args.slots.now.items) (work_view c.args.work.now.items) (work_view c.push.new.self.items) (map field_view c.args.left.items) (map field_view c.args.right.items) c.args.first c.args.second
    (no_fields c.args.left.items (omega (arith, c.len.ensures, c.if-len-eq0.true))) (no_fields c.args.right.items (omega (arith, c.len-then-len-eq0.ensures, c.if-len-eq0-2.true)))
    c.requires.graph c.requires.first.0 c.requires.second.0 (ap work_view c.in_ok-push.ensures.items ∙ map_push ask_view c.args.work.now.items _)

pub returns-then-len-eq0-3-clause-yes : goal.returns-then-len-eq0-3-clause-yes
returns-then-len-eq0-3-clause-yes c =
    IfOk-weaker c.end_takes-then-len-eq0-3.result _ _ (λ done h yes.
    did_turned (store_view c.args.slots.now.items) (store_view c.end_takes-then-len-eq0-3.new.slots.items) (work_view c.args.work.now.items) (work_view c.end_takes-then-len-eq0-3.new.work.items)
    (map field_view c.args.left.items) (map field_view c.args.right.items) (Some c.args.first) (Some c.args.second)
    (no_fields c.args.right.items (omega (arith, c.len-2.ensures, c.if-len-eq0-3.true))) (h yes)) c.end_takes-then-len-eq0-3.ensures.yes

pub returns-then-first-second-clause-no : goal.returns-then-first-second-clause-no
returns-then-first-second-clause-no c done =
    over_never (store_view c.args.slots.now.items) (map field_view c.args.left.items) (map field_view c.args.right.items) c.args.first c.args.second
    (omega (arith, length-map c.args.left.items field_view, c.len.ensures, c.if-len-eq0.false)) c.requires.apart c.if-first-second.true

pub returns-then-not-is_open-clause-no : goal.returns-then-not-is_open-clause-no
returns-then-not-is_open-clause-no c done =
    second_never (store_view c.args.slots.now.items) (map field_view c.args.left.items) (map field_view c.args.right.items) (Some c.args.first) (Some c.args.second)
    (omega (arith, length-map c.args.right.items field_view, c.len-2.ensures, c.if-len-eq0-3.false)) c.requires.apart
    (bare_at (store_view c.args.slots.now.items) c.args.first c.requires.first.1 c.requires.first.2
    (sym (c.is_open.ensures ∙ ap (λ (xs : List stored.Slot). is_open (slot_at (store_view xs) c.args.first).cell) c.deref.ensures.value) ∙ c.if-not-is_open.true))

pub returns-then-not-is_open-2-clause-no : goal.returns-then-not-is_open-2-clause-no
returns-then-not-is_open-2-clause-no c done =
    first_never (store_view c.args.slots.now.items) (map field_view c.args.left.items) (map field_view c.args.right.items) (Some c.args.first) (Some c.args.second)
    (omega (arith, length-map c.args.left.items field_view, c.len.ensures, c.if-len-eq0.false)) c.requires.apart
    (bare_at (store_view c.args.slots.now.items) c.args.second c.requires.second.1 c.requires.second.2
    (sym (c.is_open-2.ensures ∙ ap (λ (xs : List stored.Slot). is_open (slot_at (store_view xs) c.args.second).cell) c.deref-2.ensures.value) ∙ c.if-not-is_open-2.true))
