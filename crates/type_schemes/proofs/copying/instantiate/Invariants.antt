use Rattle.std.proofs.Common.{◌≡◌, length}
use Rattle.type_store.specs.Shape.{IsStore}
use Rattle.type_schemes.specs.View.{frozen_view}
use Rattle.type_schemes.specs.Copies.{Copying}
use Rattle.type_schemes.proofs.copying.instantiate.Given as goal

abbrev pub invariant-loop-cell : goal.invariant-loop-cell
invariant-loop-cell l = record {
  whole : IsStore l.store;
  count : length l.copies.items ≡ l.cell-index;
  made : Copying l.depth l.fn.store (frozen_view l.frozen) l.copies.items l.store;
}
