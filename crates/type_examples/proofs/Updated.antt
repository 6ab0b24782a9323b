-- The principal type of a function that updates a field of a record.
use Rattle.std.proofs.Common.{◌≡◌, ℕ, zero, suc, List, [], ◌∷◌, ◌++◌, true, refl, arith, sym, ap, ◌∙◌}
use Rattle.std.specs.Fmt.{digits}
use Rattle.elm_type.specs.Types.{Record, NoField, MoreField, Closed, Over, int_type, function, variable, Free, Scheme}
use Rattle.elm_type.specs.Types.{kind_at}
use Rattle.elm_type.specs.Classes.{Ground, meets}
use Rattle.elm_type.specs.Rows.{extend}
use Rattle.elm_type.specs.declared.class.Class.TheVariants.{Any, Number}
use Rattle.elm_type.specs.Naming.{candidate}
use Rattle.elm_type.specs.Text.{type_name, text_in}
use Rattle.elm_type.specs.Ground.{is_ground, lacks, value, fits}
use Rattle.decl_groups.specs.InOrder.{ordered_groups}
use Rattle.type_items.specs.Items.{Place, at}
use Rattle.type_items.specs.Solutions.{Solution}
use Rattle.type_items.specs.Principal.{HasType, IsInstance, IsPrincipal}
use Rattle.type_examples.specs.Programs.{place, x}
use Rattle.type_examples.proofs.Sizes.{one_size, with_size}
use Rattle.type_examples.specs.ItemExamples.{body, updated_items}
use Rattle.type_examples.specs.InferredExamples.{UpdatedType}
use Rattle.type_examples.proofs.Values.{both, first_true, second_true, bare, meets_any, part, chosen, chosen_ground}
use Rattle.type_examples.proofs.Inserting.{extended_ground}

abbrev definition : Place
definition = 0 ∷ 0 ∷ []

abbrev parameter : Place
parameter = 0 ∷ 0 ∷ 0 ∷ 0 ∷ []

-- the other fields of the record, and the type of the field
abbrev row : Place
row = body ++ 1 ∷ []

abbrev field : Place
field = body ++ 2 ∷ 0 ∷ []

-- the other fields of the record that is read
abbrev read_row : Place
read_row = body ++ 0 ∷ 1 ∷ 0 ∷ 0 ∷ 1 ∷ []

abbrev scheme : Scheme
scheme =
    let r = Record (MoreField x (variable (Free 1)) NoField) (Over (Free 0)) in record {
      type = function r r;
      kinds = record { class = Any; lacks = x ∷ [] } ∷ record { class = Number; lacks = [] } ∷ [];
    }

-- a record with a field of a type
abbrev with_field : Ground → Ground → Ground
with_field g rest = extend (MoreField x (extend NoField g) NoField) rest

-- ---- each type that the function has is an instance

module _ (s : Solution updated_items) where
  abbrev type_at : Place → Ground
  type_at p = value s.values (at p)

  abbrev record_type : Ground
  record_type = with_field (s.values field) (s.values row)

  type_is : type_at definition ≡ function record_type record_type
  type_is =
      sym s.solves.0
      ∙ (ap (λ t. function t (type_at body)) s.solves.1.0
      ∙ ap (λ t. function t t) (sym s.solves.1.1.1.0))

  number_is : type_at (body ++ 0 ∷ 1 ∷ 1 ∷ []) ≡ type_at field
  number_is = ap (λ t. part 1 (part 1 t)) s.solves.1.1.1.1.1.0

  number_holds : meets Number (s.values field) ≡ true
  number_holds = ap (meets Number) (sym (number_is ∙ bare (s.values field))) ∙ s.solves.1.1.1.1.0

  lack_holds : lacks x (s.values row) ≡ true
  lack_holds = ap (lacks x) (sym (bare (s.values row))) ∙ s.solves.1.1.0

  abbrev choice : ℕ → Ground
  choice zero = s.values row
  choice (suc i) = s.values field

  choice_ground : (i : ℕ) → is_ground (choice i) ≡ true
  choice_ground zero = s.ground row
  choice_ground (suc i) = s.ground field

  choice_fits : (i : ℕ) → fits (kind_at scheme.kinds i) (choice i) ≡ true
  choice_fits zero =
      both (meets Any (s.values row)) _ (meets_any (s.values row)) (both (lacks x (s.values row)) true lack_holds refl)
  choice_fits (suc zero) = both (meets Number (s.values field)) true number_holds refl
  choice_fits (suc (suc i)) = both (meets Any (s.values field)) true (meets_any (s.values field)) refl

instance_of : (g : Ground) → HasType updated_items (at definition) g → IsInstance scheme g
instance_of g h = record {
  choice = choice h.solution;
  ground = choice_ground h.solution;
  kinds = choice_fits h.solution;
  is = sym (type_is h.solution) ∙ h.has;
}

-- ---- and each instance is a type that it has

module _ (rest g : Ground) (er : is_ground rest ≡ true) (e : is_ground g ≡ true) (l : lacks x rest ≡ true) (m : meets Number g ≡ true) where
  abbrev whole : Ground
  whole = with_field g rest

  abbrev shown : Ground
  shown = extend NoField whole

  abbrev choices : List (Place × Ground)
  choices =
      (definition, function shown shown) ∷ (parameter, whole) ∷ (body, whole) ∷ (row, rest) ∷ (read_row, rest) ∷ []

  whole_ground : is_ground whole ≡ true
  whole_ground = extended_ground x (extend NoField g) rest er l (ap is_ground (bare g) ∙ e)

  shown_ground : is_ground shown ≡ true
  shown_ground = ap is_ground (bare whole) ∙ whole_ground

  function_ground : is_ground (function shown shown) ≡ true
  function_ground = both (is_ground shown) _ shown_ground (both (is_ground shown) true shown_ground refl)

  number_shown : meets Number (extend NoField g) ≡ true
  number_shown = ap (meets Number) (bare g) ∙ m

  lack_shown : lacks x (extend NoField rest) ≡ true
  lack_shown = ap (lacks x) (bare rest) ∙ l

  abbrev solution : Solution updated_items
  solution = record {
    values = chosen choices g;
    ground = chosen_ground choices g (function_ground, (whole_ground, (whole_ground, (er, (er, tt))))) e;
    solves = (
      refl,
      (
        refl,
        (
          lack_shown,
          (
            sym (bare whole),
            (
              number_shown,
              (
                refl,
                (
                  lack_shown,
                  (
                    bare whole,
                    (
                      refl,
                      (
                        number_shown,
                        (refl, tt),
                      ),
                    ),
                  ),
                ),
              ),
            ),
          ),
        ),
      ),
    );
  }

type_of : (g : Ground) → IsInstance scheme g → HasType updated_items (at definition) g
type_of g i =
    let rest = i.choice 0 in
    let field_type = i.choice 1 in
    let l : lacks x rest ≡ true = first_true (lacks x rest) true (second_true (meets Any rest) _ (i.kinds 0)) in
    let m : meets Number field_type ≡ true = first_true (meets Number field_type) true (i.kinds 1) in
    record {
      solution = solution rest field_type (i.ground 0) (i.ground 1) l m;
      has = ap (λ t. function t t) (bare (with_field field_type rest)) ∙ i.is;
    }

principal : IsPrincipal [] updated_items (at definition) scheme
principal = record { formed = refl; each = λ g. (instance_of g, type_of g); kept = λ g outside i. type_of g i }

pub updated_type : UpdatedType
unfolding ordered_groups candidate type_name text_in digits
updated_type = record {
  scheme = scheme;
  inferred = record {
    typable = one_size [] updated_items (place 3 1) (at definition) refl (solution (Record NoField Closed) int_type refl refl refl refl) (record { scheme = scheme; principal = principal; small = omega arith });
    types = ((((record { scheme = scheme; is = refl; ordered = refl; principal = with_size [] updated_items (place 3 1) (at definition) (at definition) scheme principal }, tt), tt)), tt);
  };
  is = refl;
}
