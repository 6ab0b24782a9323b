-- All imports, and one more.
use Rattle.std.proofs.Common.{[], ◌∷◌, ◌++◌, map, take, sym, ap, ◌∙◌, arith}
use Rattle.std.proofs.lemmas.List.{map-append}
use Rattle.import_graph.proofs.Uses.{next_front}
use Rattle.import_graph.specs.ModuleWalkView.{import_view}
use Rattle.import_graph.specs.Words.{word_view}
use Rattle.project_parts.specs.Library.{import_among}
use Rattle.project_parts.proofs.Rows.{take_all}
use Rattle.project_parts.proofs.loading.imports_among.Goals as goal

pub returns : goal.returns
returns c =
    let keys = c.args.names.now.keys in
    let items = c.deref-import-items.result.now in (
      map word_view c.in_ok-written.written.items,
      c.in_ok-written.ensures.found,
      c.loop-import.invariant
          ∙ ap (λ ws. map (import_among keys) (map word_view ws))
          (take_all items c.loop-import.import-index (omega arith) ∙ c.deref-import-items.ensures.value),
    )
