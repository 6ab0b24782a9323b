use Rattle.std.proofs.Common.{take}
use Rattle.type_store.specs.Shape.{IsStore}
use Rattle.type_schemes.specs.Copies.{Grows, Partly}
use Rattle.type_schemes.proofs.copying.open.Given as goal

abbrev pub invariant-loop-name : goal.invariant-loop-name
invariant-loop-name l = record {
  whole : IsStore l.store;
  made : Grows l.depth l.fn.store l.variable l.store (Partly l.kind.class (take l.name-index l.kind.lacks.items));
}
