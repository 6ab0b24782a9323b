-- Each single step of evaluation keeps types, where the world holds together.
use Rattle.std.proofs.Common.{◌≡◌, [], Bool, true, refl, ap}
use Rattle.runs.specs.Ends.{Val}
use Rattle.runs.specs.Numbers.{is_number}
use Rattle.std.specs.Str.{bytes_eq}
use Rattle.elm_canon.specs.Names.{Name}
use Rattle.elm_canon.specs.declared.tree.Literal.{Literal}
use Rattle.elm_canon.specs.declared.tree.Literal.TheVariants as literal
use Rattle.elm_meaning.specs.Functions.{Getter}
use Rattle.elm_meaning.specs.Values.{Value}
use Rattle.elm_meaning.specs.Match.{is_literal}
use Rattle.elm_type.specs.Types.{MoreField, NoField, function, int_type, char_type, string_type}
use Rattle.elm_type.specs.Classes.{Ground}
use Rattle.elm_type.specs.Rows.{extend}
use Rattle.elm_type.specs.Ground.{lacks}
use Rattle.type_items.specs.Patterns.{literal_type}
use Rattle.typed_values.specs.Frames.{Frame, of}
use Rattle.typed_values.specs.World.{World, Knows, IsSound}
use Rattle.typed_values.specs.Typed.{Has}
use Rattle.typed_values.specs.Steps.{StepsKeepTypes}
use Rattle.typed_values.proofs.Forms.{Tags, Calls, made_form, plain_made, int_value, text_value}
use Rattle.typed_values.proofs.Makers.{constructed, makes_of, shape_count}
use Rattle.type_safety.proofs.Exhaustive.{none_passed}
use Rattle.typed_values.proofs.Ported.{ported, carriers}
use Rattle.typed_values.proofs.Truths.{truth_values}
use Rattle.typed_values.proofs.Calls.{knows_well}
use Rattle.typed_values.proofs.Operations.{performs, performs_none, fields_well}

module _ (w : World) (sound : IsSound w) where
  literals : (l : Literal) (v : Value) (f : Frame) → Has w v (of f (literal_type l)) → (b : Bool) × (is_literal l v ≡ Val b)
  literals (literal.Int n) v f h = (let r = int_value w sound v int_type refl h in (is_number r.0 n, ap (is_literal (literal.Int n)) r.1))
  literals (literal.Char s) v f h = (let r = text_value w sound v char_type refl h in (bytes_eq r.0 s, ap (is_literal (literal.Char s)) r.1))
  literals (literal.Text s) v f h = (let r = text_value w sound v string_type refl h in (bytes_eq r.0 s, ap (is_literal (literal.Text s)) r.1))

  getter : (x : Name) (r t : Ground) → lacks x r ≡ true → Knows w (Getter x) [] (function (extend (MoreField x t NoField) r) t)
  getter x r t l = record {
    next = extend (MoreField x t NoField) r;
    later = [];
    result = t;
    takes = record { others = r; without = l; argument = refl };
    is = refl;
  }

  pub steps_keep_types : StepsKeepTypes w
  steps_keep_types = record {
    literals = literals;
    truths = truth_values w sound;
    no_function = λ tag vs parts a b made. (let z : Calls ≡ Tags = made_form w sound tag vs parts (function a b) (plain_made w sound tag vs parts (function a b) refl made) in cc);
    constructs = λ u alt k here p f v known d stands sol has. constructed w sound u alt k p f v known d has;
    counts = λ u alt k p known d. shape_count w sound u alt k p (record { values = λ q. int_type; stands = λ r. int_type }) known (makes_of w sound u alt d);
    ported = ported w sound;
    carriers = carriers w sound;
    fields = fields_well w sound;
    taken = none_passed w sound;
    getter = getter;
    knows = knows_well w sound;
    performs = performs w sound;
    performs_none = performs_none w sound;
  }
