use Rattle.std.proofs.Common.{◌≡◌, ◌++◌, map, take}
use Rattle.std.specs.Prelude.{flat_map}
use Rattle.elm_tree.specs.View.{declaration_view}
use Rattle.elm_tree.specs.Turns.{tokens_view}
use Rattle.canon_env.specs.Shown.{unions_view}
use Rattle.canon_env.specs.Naming.{World, IsWorld}
use Rattle.canon_type.specs.Unions.{unions_in, union_of, union_faults}
use Rattle.canon_type.proofs.unions.declared_unions.Given as goal

abbrev pub invariant-loop-declaration : goal.invariant-loop-declaration
invariant-loop-declaration l = record {
  unions : (w : World) → IsWorld l.world w → unions_view l.unions.items
      ≡ map (union_of l.home w)
      (unions_in (map (declaration_view (tokens_view l.tokens)) (take l.declaration-index l.declarations)));
  faults : (w : World) → IsWorld l.world w → l.findings.items ≡ l.initial.findings.items
      ++ flat_map (union_faults w)
      (unions_in (map (declaration_view (tokens_view l.tokens)) (take l.declaration-index l.declarations)));
}
