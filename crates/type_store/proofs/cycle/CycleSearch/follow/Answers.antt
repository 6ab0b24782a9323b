-- One step of the search for a cycle, as the code takes it: `follow_none`, `follow_next`, `follow_new`, and others.
use Rattle.std.proofs.Common.{sym, ◌∙◌, arith}
use Rattle.type_store.specs.View.{store_view}
use Rattle.type_store.specs.declared.cycle.Mark.TheVariants.{New, Open, Done}
use Rattle.type_store.proofs.Follow.{same_walk, less_work, slot_inside, follow_none, follow_none_nearer, part_inside, part_marked}
use Rattle.type_store.proofs.Follow.{read_mark, follow_next, follow_next_nearer, other_depth, part_done, follow_new, follow_new_nearer, follow_ring}
use Rattle.type_store.proofs.cycle.CycleSearch.follow.Goals as goal

pub returns-in_default-clause-walk : goal.returns-in_default-clause-walk
returns-in_default-clause-walk c =
    let q = c.requires in
    let r = c.in_ok-close.ensures in
    same_walk (follow_none c.args.slots.now q.searchable q.walk q.last (sym c.part.ensures.part ∙ c.in_default.is)) r.marks r.path r.done

pub returns-in_default-clause-nearer : goal.returns-in_default-clause-nearer
returns-in_default-clause-nearer c _ =
    let q = c.requires in
    let r = c.in_ok-close.ensures in
    less_work (store_view c.args.slots.now) _ _ _ _ _ (follow_none_nearer c.args.slots.now q.searchable q.walk q.last (sym c.part.ensures.part ∙ c.in_default.is)) r.marks r.path

pub depth-requires : goal.depth-requires
depth-requires c =
    let q = c.requires in
    part_inside c.args.slots.now q.searchable q.walk q.last c.in-Some.part (sym c.in-Some.ensures.part)

pub depth-requires-2 : goal.depth-requires-2
depth-requires-2 c =
    let q = c.requires in
    slot_inside c.args.slots.now q.searchable q.walk q.last

pub returns-then-depth-clause-walk : goal.returns-then-depth-clause-walk
returns-then-depth-clause-walk c =
    let q = c.requires in
    let r = c.advance.ensures in
    let there = sym c.in-Some.ensures.part in
    let settled = other_depth c.args.slots.now q.searchable q.walk q.last c.in-Some.part there
    c.depth.result c.depth-2.result c.depth.ensures c.depth-2.ensures c.if-depth.true in
    same_walk (follow_next c.args.slots.now q.searchable q.walk q.last c.in-Some.part there settled) r.marks r.path r.done

pub returns-then-depth-clause-nearer : goal.returns-then-depth-clause-nearer
returns-then-depth-clause-nearer c _ =
    let q = c.requires in
    let r = c.advance.ensures in
    less_work (store_view c.args.slots.now) _ _ _ _ _ (follow_next_nearer c.args.slots.now q.searchable q.walk q.last c.in-Some.part (sym c.in-Some.ensures.part)) r.marks r.path

pub index-requires : goal.index-requires
index-requires c =
    let q = c.requires in
    let l = part_marked c.args.slots.now q.searchable q.walk q.last c.in-Some.part (sym c.in-Some.ensures.part) in
    omega (arith, l, c.args.self.now.marks.ok.0)

pub open-requires : goal.open-requires
open-requires c =
    let q = c.requires in
    part_marked c.args.slots.now q.searchable q.walk q.last c.in-Some.part (sym c.in-Some.ensures.part)

pub returns-in_ok-open-in-New-clause-walk : goal.returns-in_ok-open-in-New-clause-walk
returns-in_ok-open-in-New-clause-walk c =
    let q = c.requires in
    let r = c.in_ok-open-in-New.ensures in
    let there = sym c.in-Some.ensures.part in
    let e = read_mark c.args.slots.now q.searchable q.walk q.last c.in-Some.part there New c.index.result.now c.index.ensures c.in-New.is in
    same_walk (follow_new c.args.slots.now q.searchable q.walk q.last c.in-Some.part there e) r.marks r.path r.done

pub returns-in_ok-open-in-New-clause-nearer : goal.returns-in_ok-open-in-New-clause-nearer
returns-in_ok-open-in-New-clause-nearer c _ =
    let q = c.requires in
    let r = c.in_ok-open-in-New.ensures in
    let there = sym c.in-Some.ensures.part in
    let e = read_mark c.args.slots.now q.searchable q.walk q.last c.in-Some.part there New c.index.result.now c.index.ensures c.in-New.is in
    less_work (store_view c.args.slots.now) _ _ _ _ _ (follow_new_nearer c.args.slots.now q.searchable q.walk q.last c.in-Some.part there e) r.marks r.path

pub returns-in-Open-clause-ring : goal.returns-in-Open-clause-ring
returns-in-Open-clause-ring c _ =
    let q = c.requires in
    let there = sym c.in-Some.ensures.part in
    let e = read_mark c.args.slots.now q.searchable q.walk q.last c.in-Some.part there (Open c.in-Open.field-0) c.index.result.now c.index.ensures c.in-Open.is in
    (c.in-Some.part, follow_ring c.args.slots.now q.searchable q.walk q.last c.in-Some.part there c.in-Open.field-0 e)

pub returns-in-Done-clause-walk : goal.returns-in-Done-clause-walk
returns-in-Done-clause-walk c =
    let q = c.requires in
    let r = c.advance-in-Done.ensures in
    let there = sym c.in-Some.ensures.part in
    let e = read_mark c.args.slots.now q.searchable q.walk q.last c.in-Some.part there (Done c.in-Done.field-0) c.index.result.now c.index.ensures c.in-Done.is in
    let settled = part_done c.args.slots.now q.searchable q.walk q.last c.in-Some.part there c.in-Done.field-0 e in
    same_walk (follow_next c.args.slots.now q.searchable q.walk q.last c.in-Some.part there settled) r.marks r.path r.done

pub returns-in-Done-clause-nearer : goal.returns-in-Done-clause-nearer
returns-in-Done-clause-nearer c _ =
    let q = c.requires in
    let r = c.advance-in-Done.ensures in
    less_work (store_view c.args.slots.now) _ _ _ _ _ (follow_next_nearer c.args.slots.now q.searchable q.walk q.last c.in-Some.part (sym c.in-Some.ensures.part)) r.marks r.path
