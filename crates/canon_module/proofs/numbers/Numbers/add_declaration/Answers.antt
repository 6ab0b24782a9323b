-- A declaration that declares no value: `none_more`.
use Rattle.std.proofs.Common.{[], ◌∷◌, ◌++◌, map, sym, ap, ◌∙◌}
use Rattle.elm_tree.specs.Turns.{tokens_view}
use Rattle.canon_env.specs.Imports.{name_of}
use Rattle.canon_module.specs.TopUses.{number_of}
use Rattle.canon_module.specs.TopUsesKept.{one_word}
use Rattle.canon_module.proofs.Numbering.{none_more}
use Rattle.canon_module.proofs.numbers.Numbers.add_declaration.Goals as goal

pub returns-in-None : goal.returns-in-None
returns-in-None c = λ each many was x.
    let tokens = tokens_view c.args.tokens.now in
    was x ∙ sym (none_more each x)
    ∙ ap (λ ys. number_of (each ++ ys ∷ []) x)
    (ap (map name_of) (ap (one_word tokens) (sym c.in-None.is) ∙ c.value_word.ensures tokens))
