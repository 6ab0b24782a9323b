use Rattle.std.proofs.Common.{◌≡◌, ◌<◌, ◌≤◌, ap, sym, subst, reverse, length, get_or, min, false, cond, Some, arith, rules, ℕ}
use Rattle.std.specs.List.{All}
use Rattle.std.specs.Prelude.{nat_eq}
use Rattle.std.specs.HashMap as hash
use Rattle.std.proofs.lemmas.List.{take_all}
use Rattle.type_store.specs.Store.{slot_at}
use Rattle.type_store.specs.Shape.{parts_of}
use Rattle.type_store.specs.Steps.{is_bound}
use Rattle.type_schemes.specs.Ends.{end_of}
use Rattle.type_schemes.specs.Order.{IsListed}
use Rattle.type_schemes.specs.Reading.{read_cell}
use Rattle.type_schemes.specs.Bases.{HasBase, base, most, type_in}
use Rattle.type_schemes.proofs.Counting.{next_inside, next_free, parts_known, has_more}
use Rattle.type_schemes.proofs.sizes.size.Goals as goal

pub base-size-requires-clause-inside : goal.base-size-requires-clause-inside
base-size-requires-clause-inside c =
    let e : c.index-at.result.now ≡ get_or c.loop-place.known.order.variables.items c.loop-place.place c.index-at.result.now = search rules in
    let l : c.loop-place.place < length c.loop-place.known.order.variables.items = omega (arith, c.loop-place-test.true, c.len-place-end.ensures, ap length c.loop-place.invariant.same, c.in_ok-order.order.variables.ok.0) in
    subst (λ u. u < length c.args.store.now) (sym e) (next_inside c.args.store.now c.requires.whole c.loop-place.known.order.variables.items c.loop-place.invariant.first c.loop-place.known.bases c.loop-place.place c.index-at.result.now l c.loop-place.invariant.has)

pub base-size-requires-clause-free : goal.base-size-requires-clause-free
base-size-requires-clause-free c =
    let e : c.index-at.result.now ≡ get_or c.loop-place.known.order.variables.items c.loop-place.place c.index-at.result.now = search rules in
    let l : c.loop-place.place < length c.loop-place.known.order.variables.items = omega (arith, c.loop-place-test.true, c.len-place-end.ensures, ap length c.loop-place.invariant.same, c.in_ok-order.order.variables.ok.0) in
    subst (λ u. is_bound (slot_at c.args.store.now u).cell ≡ false) (sym e) (next_free c.args.store.now c.requires.whole c.loop-place.known.order.variables.items c.loop-place.invariant.first c.loop-place.known.bases c.loop-place.place c.index-at.result.now l c.loop-place.invariant.has)

pub base-size-requires-clause-known : goal.base-size-requires-clause-known
base-size-requires-clause-known c =
    let e : c.index-at.result.now ≡ get_or c.loop-place.known.order.variables.items c.loop-place.place c.index-at.result.now = search rules in
    let l : c.loop-place.place < length c.loop-place.known.order.variables.items = omega (arith, c.loop-place-test.true, c.len-place-end.ensures, ap length c.loop-place.invariant.same, c.in_ok-order.order.variables.ok.0) in
    subst (λ u. All (HasBase c.args.store.now (reverse c.loop-place.known.order.variables.items) c.loop-place.known.bases) (parts_of (slot_at c.args.store.now u).cell)) (sym e) (parts_known c.args.store.now c.requires.whole c.loop-place.known.order.variables.items c.loop-place.invariant.first c.loop-place.known.bases c.loop-place.place c.index-at.result.now l c.loop-place.invariant.has)

pub loop-place-preserved : goal.loop-place-preserved
loop-place-preserved c =
    let e : c.index-at.result.now ≡ get_or c.loop-place.known.order.variables.items c.loop-place.place c.index-at.result.now = search rules in
    let l : c.loop-place.place < length c.loop-place.known.order.variables.items = omega (arith, c.loop-place-test.true, c.len-place-end.ensures, ap length c.loop-place.invariant.same, c.in_ok-order.order.variables.ok.0) in
    record {
      same = c.loop-place.invariant.same;
      first = c.loop-place.invariant.first;
      start = c.loop-place.invariant.start;
      has =
          has_more c.args.store.now c.requires.whole c.loop-place.known.order.variables.items c.loop-place.invariant.first c.loop-place.known.bases c.loop-place.place c.index-at.result.now l c.loop-place.invariant.has c.insert.new.self c.base-size.result
          (subst (λ u. c.base-size.result ≡ min (base (read_cell (type_in c.args.store.now (reverse c.loop-place.known.order.variables.items)) u (slot_at c.args.store.now u).cell)) most) e c.base-size.ensures)
          (subst (λ u. (q : ℕ) → hash.get nat_eq c.insert.new.self q ≡ cond (nat_eq u q) (Some c.base-size.result) (hash.get nat_eq c.loop-place.known.bases q)) e (λ q. c.in_ok-insert.ensures.updates.0 q));
    }

pub part_size-requires-clause-known : goal.part_size-requires-clause-known
part_size-requires-clause-known c =
    let l : length c.loop-place.known.order.variables.items ≤ c.loop-place.place = omega (arith, c.loop-place-test.false, c.len-place-end.ensures, ap length c.loop-place.invariant.same, c.in_ok-order.order.variables.ok.0) in
    let h = c.loop-place.invariant.start (omega arith) in
    record {
      inside = c.requires.inside;
      listed = h;
      has =
          c.loop-place.invariant.has (end_of c.args.store.now c.args.variable)
          (subst (λ xs. IsListed (reverse xs) (end_of c.args.store.now c.args.variable)) (sym (take_all c.loop-place.place c.loop-place.known.order.variables.items l)) h);
    }
