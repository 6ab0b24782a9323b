-- By how the type is written: `of_variable` and the others.
use Rattle.std.proofs.Common.{◌≡◌, List, [], ◌∷◌, ◌++◌, map, sym, ap, ◌∙◌, append-nil}
use Rattle.std.proofs.lemmas.Result.{on_ok_weaker}
use Rattle.elm_tree.specs.View.{word_view, type_view}
use Rattle.elm_tree.specs.Turns.{tokens_view}
use Rattle.elm_tree.specs.declared.tree.FieldType.{FieldType}
use Rattle.elm_tree.specs.declared.tree.TypeTree.TheVariants as type_tree
use Rattle.elm_canon.specs.Tree.{Declaration, Given, RecordMaker}
use Rattle.elm_canon.specs.declared.reference.Ref.TheVariants.{Top}
use Rattle.elm_canon.specs.View.{declaration_view}
use Rattle.canon_env.specs.Imports.{name_of}
use Rattle.canon_module.specs.Resolve.{record_maker}
use Rattle.canon_module.proofs.Records.{of_variable, of_named, of_function, of_tuple, of_extension, of_record}
use Rattle.canon_module.proofs.makers.push_alias.Goals as goal

-- what makes nothing adds nothing
none_added : (ms : List Declaration) (made : List Declaration) → made ≡ [] → ms ≡ ms ++ made
none_added ms made none = sym (ap (λ z. ms ++ z) none ∙ append-nil ms)

pub returns-in-Variable : goal.returns-in-Variable
returns-in-Variable c =
    let tokens = tokens_view c.args.tokens.now in
    let home = c.args.home.now in
    let x = word_view tokens c.args.word in
    let d = c.in-Variable in
    none_added (map declaration_view c.args.makers.now.items) (record_maker home x (type_view tokens c.args.written.now))
    (ap (λ t. record_maker home x (type_view tokens t)) d.is ∙ of_variable tokens home x d.field-0)

pub returns-in-Named : goal.returns-in-Named
returns-in-Named c =
    let tokens = tokens_view c.args.tokens.now in
    let home = c.args.home.now in
    let x = word_view tokens c.args.word in
    let d = c.in-Named in
    none_added (map declaration_view c.args.makers.now.items) (record_maker home x (type_view tokens c.args.written.now))
    (ap (λ t. record_maker home x (type_view tokens t)) d.is ∙ of_named tokens home x d.field-0 d.field-1)

pub returns-in-Function : goal.returns-in-Function
returns-in-Function c =
    let tokens = tokens_view c.args.tokens.now in
    let home = c.args.home.now in
    let x = word_view tokens c.args.word in
    let d = c.in-Function in
    none_added (map declaration_view c.args.makers.now.items) (record_maker home x (type_view tokens c.args.written.now))
    (ap (λ t. record_maker home x (type_view tokens t)) d.is ∙ of_function tokens home x d.field-0)

pub returns-in-Tuple : goal.returns-in-Tuple
returns-in-Tuple c =
    let tokens = tokens_view c.args.tokens.now in
    let home = c.args.home.now in
    let x = word_view tokens c.args.word in
    let d = c.in-Tuple in
    none_added (map declaration_view c.args.makers.now.items) (record_maker home x (type_view tokens c.args.written.now))
    (ap (λ t. record_maker home x (type_view tokens t)) d.is ∙ of_tuple tokens home x d.field-0)

pub returns-in-Some : goal.returns-in-Some
returns-in-Some c =
    let tokens = tokens_view c.args.tokens.now in
    let home = c.args.home.now in
    let x = word_view tokens c.args.word in
    let d = c.in-Record in
    none_added (map declaration_view c.args.makers.now.items) (record_maker home x (type_view tokens c.args.written.now))
    (ap (λ t. record_maker home x (type_view tokens t)) d.is
    ∙ ap (λ b. record_maker home x (type_view tokens (type_tree.Record b d.fields))) c.in-Some.is
    ∙ of_extension tokens home x c.in-Some.field-0 d.fields)

pub returns-in-None : goal.returns-in-None
returns-in-None c =
    let tokens = tokens_view c.args.tokens.now in
    let home = c.args.home.now in
    let x = word_view tokens c.args.word in
    let d = c.in-Record in
    let old = map declaration_view c.args.makers.now.items in
    let new = map declaration_view c.push_record.new.makers.items in
    let made : List FieldType → List Declaration =
    λ fs. Given (Top home (name_of x)) (RecordMaker (map (λ (f : FieldType). name_of (word_view tokens f.name)) fs)) ∷ [] in
    let more : new ≡ old ++ made c.deref.result.now → new ≡ old ++ record_maker home x (type_view tokens c.args.written.now) =
    λ e. e ∙ ap (λ z. old ++ z)
    (ap made c.deref.ensures.value
    ∙ sym (ap (λ t. record_maker home x (type_view tokens t)) d.is
    ∙ ap (λ b. record_maker home x (type_view tokens (type_tree.Record b d.fields))) c.in-None.is
    ∙ of_record tokens home x d.fields)) in
    on_ok_weaker c.push_record.result more c.push_record.ensures
