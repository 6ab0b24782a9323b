use Rattle.std.proofs.Common.{[], length, subst, sym, All}
use Rattle.std.proofs.lemmas.List.Elements.{All-nil, All-push}
use Rattle.type_store.specs.Linked.{IsRowAt}
use Rattle.type_store.specs.View.{store_view}
use Rattle.type_store.proofs.Linking.{Following, following_start, end_inside, next_there, more_links, row_here}
use Rattle.type_store.proofs.Linking.{closed_links, open_links}
use Rattle.type_store.proofs.linked.links.Goals as goal

pub loop-init : goal.loop-init
loop-init c = record {
  inside = c.requires.inside;
  onward = subst (λ xs. Following (store_view c.args.slots.now) c.args.end xs c.args.end) (sym c.new-rows.ensures.items)
      (following_start (store_view c.args.slots.now) c.args.end);
  each = subst (All (IsRowAt (store_view c.args.slots.now))) (sym c.new-rows.ensures.items)
      (All-nil (IsRowAt (store_view c.args.slots.now)));
}

pub next_link-requires-clause-inside : goal.next_link-requires-clause-inside
next_link-requires-clause-inside c =
    end_inside (length c.args.slots.now) c.in-Some.variable c.loop.at c.in-Some.is c.loop.invariant.inside

pub returns-in-None : goal.returns-in-None
returns-in-None c =
    closed_links (store_view c.args.slots.now) c.args.end c.loop.at c.loop.rows.items c.loop.invariant.onward
    c.in-None.is c.loop.invariant.each

pub returns-in-Ends : goal.returns-in-Ends
returns-in-Ends c =
    open_links (store_view c.args.slots.now) c.args.end c.loop.at c.loop.rows.items c.in-Some.variable c.in-Ends.last
    c.loop.invariant.onward c.in-Some.is c.in-Ends.ensures c.loop.invariant.each

pub loop-preserved : goal.loop-preserved
loop-preserved c = record {
  inside = next_there c.args.slots.now c.in-Some.variable c.in-Row.row c.in-Row.then c.in-Row.ensures;
  onward = more_links (store_view c.args.slots.now) c.args.end c.loop.at c.in-Row.then c.loop.rows.items
      c.push.new.self.items c.in-Some.variable c.in-Row.row c.loop.invariant.onward c.in-Some.is c.in-Row.ensures
      c.in_ok-push-in-Row.ensures.items;
  each = subst (All (IsRowAt (store_view c.args.slots.now))) (sym c.in_ok-push-in-Row.ensures.items)
      (All-push (IsRowAt (store_view c.args.slots.now)) c.loop.rows.items c.in-Row.row c.loop.invariant.each
      (row_here (store_view c.args.slots.now) c.in-Some.variable c.in-Row.row c.in-Row.then c.in-Row.ensures));
}
