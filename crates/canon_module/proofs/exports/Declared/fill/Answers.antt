-- Each set has the names of its kind.
use Rattle.std.proofs.Common.{List, Bool, ◌||◌, map, sym, ap, ◌∙◌}
use Rattle.std.proofs.lemmas.List.Folds.{list_any-append}
use Rattle.std.proofs.lemmas.Result.{on_ok_weaker}
use Rattle.elm_canon.specs.Names.{Name}
use Rattle.elm_tree.specs.declared.tree.Word.{Word}
use Rattle.elm_canon.specs.Names.{same_name}
use Rattle.elm_tree.specs.View.{words_view}
use Rattle.elm_tree.specs.Turns.{tokens_view}
use Rattle.canon_env.specs.Imports.{name_of}
use Rattle.canon_env.specs.Exposing.{is_among}
use Rattle.canon_module.proofs.exports.Declared.fill.Goals as goal

pub returns : goal.returns
returns c =
    let among : Name → List Word → Bool = λ x ws. is_among x (map name_of (words_view (tokens_view c.args.tokens.now) ws)) in
    on_ok_weaker c.insert_words-3.result
    (λ last none. record {
      values = λ x.
          c.in_ok-insert_words.ensures x ∙ ap (λ b. b || among x c.deref.result.now) (none.values x)
          ∙ ap (among x) c.deref.ensures.value;
      types = λ x.
          c.in_ok-insert_words-2.ensures x
          ∙ ap (λ b. b || among x c.deref-2.result.now) (c.in_ok-insert_names.ensures x
          ∙ ap (λ b. b || is_among x c.args.given.now) (none.types x))
          ∙ ap (λ b. is_among x c.args.given.now || b) (ap (among x) c.deref-2.ensures.value)
          ∙ sym (list_any-append (same_name x) c.args.given.now
          (map name_of (words_view (tokens_view c.args.tokens.now) c.args.names.now.types.items)));
      unions = λ x.
          last x ∙ ap (λ b. b || among x c.deref-3.result.now) (none.unions x)
          ∙ ap (among x) c.deref-3.ensures.value;
    })
    c.insert_words-3.ensures
