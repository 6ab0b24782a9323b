-- What is written is read again: `spelled_by`, `spelled_type`.
use Rattle.std.proofs.Common.{sym, arith}
use Rattle.elm_type.proofs.Reading.{spelled_by, spelled_type}
use Rattle.type_schemes.specs.Bases.{type_in}
use Rattle.type_schemes.specs.Rows.{older_in}
use Rattle.type_schemes.proofs.schemes.type_of.Goals as goal

pub invariant_of-result : goal.invariant_of-result
invariant_of-result c = record {
  spelled = spelled_by c.in_ok-nodes.nodes.items
      (type_in c.args.store.now (older_in c.in_ok-order.order) c.args.variable) (sym c.in_ok-nodes.ensures);
}

pub returns : goal.returns
returns c = record {
  order = older_in c.in_ok-order.order;
  first = c.in_ok-order.ensures.first;
  listed = c.in_ok-order.ensures.start (omega arith);
  is = sym (spelled_type c.in_ok-nodes.nodes.items
      (type_in c.args.store.now (older_in c.in_ok-order.order) c.args.variable) (sym c.in_ok-nodes.ensures));
}
