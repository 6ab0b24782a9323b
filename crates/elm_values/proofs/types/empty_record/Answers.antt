-- What is taken off the stacks in turn (`took`) gives way to what is made of it (`acted`).
use Rattle.std.proofs.Common.{map, refl, ap, ◌∙◌, None}
use Rattle.std.proofs.lemmas.Result.{on_ok_weaker}
use Rattle.elm_tree.specs.Tree.{RecordType, field_types_of}
use Rattle.elm_tree.specs.View.{field_type_view}
use Rattle.elm_grammar.specs.declared.action.Action.TheVariants.{EmptyRecordType}
use Rattle.elm_grammar.specs.declared.action.Item.TheVariants as item
use Rattle.elm_grammar.specs.Values.{One, takes, gives, act}
use Rattle.elm_tree.proofs.Views.{record_of_type}
use Rattle.elm_values.proofs.Acting.{acted, done, took}
use Rattle.elm_values.proofs.types.empty_record.Goals as goal

pub returns : goal.returns
unfolding takes gives act
returns c =
    on_ok_weaker c.put_type.result
    (λ e tokens.
    acted EmptyRecordType
    (took (One item.Word) refl (c.skip_word.ensures tokens)
    (done tokens _))
    (record_of_type tokens None c.new.result ∙
    ap (λ z. RecordType (field_types_of (map (field_type_view tokens) z))) c.new.ensures.items) (e tokens)) c.put_type.ensures
