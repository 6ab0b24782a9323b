-- The principal type of a function whose parameters are compared and put together.
use Rattle.std.proofs.Common.{◌≡◌, ℕ, zero, suc, List, [], ◌∷◌, ◌++◌, true, ◌&&◌, refl, arith, sym, ap, ◌∙◌}
use Rattle.std.specs.Fmt.{digits}
use Rattle.elm_type.specs.Types.{ElmType, functions, tuple, bool_type, string_type, variable, Free}
use Rattle.elm_type.specs.Types.{Scheme, kind_at}
use Rattle.elm_type.specs.Classes.{Ground, meets}
use Rattle.elm_type.specs.Rows.{extend}
use Rattle.elm_type.specs.declared.class.Class.TheVariants.{Any, Comparable, Appendable, CompAppend}
use Rattle.elm_type.proofs.Meeting.{meets_both}
use Rattle.elm_type.specs.Naming.{candidate}
use Rattle.elm_type.specs.Text.{type_name, text_in}
use Rattle.elm_type.specs.Ground.{is_ground, value, fits}
use Rattle.decl_groups.specs.InOrder.{ordered_groups}
use Rattle.type_items.specs.Items.{Place, at}
use Rattle.type_items.specs.Solutions.{Solution}
use Rattle.type_items.specs.Principal.{HasType, IsInstance, IsPrincipal}
use Rattle.type_examples.proofs.Sizes.{one_size, with_size}
use Rattle.type_examples.specs.ItemExamples.{body, both_classes_items}
use Rattle.type_examples.specs.Programs.{place}
use Rattle.type_examples.specs.InferredExamples.{BothClassesType}
use Rattle.type_examples.proofs.Values.{both, first_true, second_true, bare, meets_any, part, chosen, chosen_ground}
use Rattle.elm_type.specs.Types.{NoField}

-- the variable of the operator `<`
abbrev compared : Place
compared = body ++ 0 ∷ 0 ∷ 1 ∷ []

abbrev definition : Place
definition = 0 ∷ 0 ∷ []

-- the type of the function, where its parameters have this type
abbrev of_parameters : {X : Type 0} → ElmType X → ElmType X
of_parameters a = functions (a ∷ a ∷ []) (tuple (bool_type ∷ a ∷ []))

abbrev scheme : Scheme
scheme = record { type = of_parameters (variable (Free 0)); kinds = record { class = CompAppend; lacks = [] } ∷ [] }

-- what meets both classes meets the class below both
both_met : (g : Ground) → meets Comparable g ≡ true → meets Appendable g ≡ true → meets CompAppend g ≡ true
both_met g c a = sym (meets_both Comparable Appendable g) ∙ both (meets Comparable g) (meets Appendable g) c a

met_both : (g : Ground) → meets CompAppend g ≡ true → (meets Comparable g && meets Appendable g) ≡ true
met_both g m = meets_both Comparable Appendable g ∙ m

-- ---- each type that the function has is an instance

module _ (s : Solution both_classes_items) where
  abbrev type_at : Place → Ground
  type_at p = value s.values (at p)

  left_is : type_at compared ≡ type_at (body ++ 0 ∷ 0 ∷ 0 ∷ 0 ∷ [])
  left_is = ap (part 0) s.solves.1.1.1.0

  right_is : type_at compared ≡ type_at (body ++ 0 ∷ 0 ∷ 0 ∷ 1 ∷ [])
  right_is = ap (λ t. part 0 (part 1 t)) s.solves.1.1.1.0

  truth_is : bool_type ≡ type_at (body ++ 0 ∷ 0 ∷ [])
  truth_is = ap (λ t. part 1 (part 1 t)) s.solves.1.1.1.0

  joined_is : type_at (body ++ 0 ∷ 1 ∷ 1 ∷ []) ≡ type_at (body ++ 0 ∷ 1 ∷ 0 ∷ 0 ∷ [])
  joined_is = ap (part 0) s.solves.1.1.1.1.1.1.1.0

  result_is : type_at (body ++ 0 ∷ 1 ∷ 1 ∷ []) ≡ type_at (body ++ 0 ∷ 1 ∷ [])
  result_is = ap (λ t. part 1 (part 1 t)) s.solves.1.1.1.1.1.1.1.0

  first_is : type_at (0 ∷ 0 ∷ 0 ∷ 0 ∷ []) ≡ type_at compared
  first_is = s.solves.1.1.1.1.0 ∙ sym left_is

  second_is : type_at (0 ∷ 0 ∷ 0 ∷ 1 ∷ []) ≡ type_at compared
  second_is = s.solves.1.1.1.1.1.0 ∙ sym right_is

  same_variable : type_at (body ++ 0 ∷ 1 ∷ 1 ∷ []) ≡ type_at compared
  same_variable = joined_is ∙ (sym s.solves.1.1.1.1.1.1.1.1.0 ∙ first_is)

  pair_is : type_at body ≡ tuple (bool_type ∷ type_at compared ∷ [])
  pair_is =
      sym s.solves.1.0
      ∙ (ap (λ t. tuple (t ∷ type_at (body ++ 0 ∷ 1 ∷ []) ∷ [])) (sym truth_is)
      ∙ ap (λ t. tuple (bool_type ∷ t ∷ [])) (sym result_is ∙ same_variable))

  type_is : type_at definition ≡ of_parameters (type_at compared)
  type_is =
      sym s.solves.0
      ∙ (ap (λ t. functions (t ∷ type_at (0 ∷ 0 ∷ 0 ∷ 1 ∷ []) ∷ []) (type_at body)) first_is
      ∙ (ap (λ t. functions (type_at compared ∷ t ∷ []) (type_at body)) second_is
      ∙ ap (λ t. functions (type_at compared ∷ type_at compared ∷ []) t) pair_is))

  both_hold : meets CompAppend (s.values compared) ≡ true
  both_hold =
      ap (meets CompAppend) (sym (bare (s.values compared)))
      ∙ both_met (type_at compared) s.solves.1.1.0
      (ap (meets Appendable) (sym same_variable) ∙ s.solves.1.1.1.1.1.1.0)

  variable_fits : (i : ℕ) → fits (kind_at scheme.kinds i) (s.values compared) ≡ true
  variable_fits zero = both (meets CompAppend (s.values compared)) true both_hold refl
  variable_fits (suc i) = both (meets Any (s.values compared)) true (meets_any (s.values compared)) refl

instance_of : (g : Ground) → HasType both_classes_items (at definition) g → IsInstance scheme g
instance_of g h = record {
  choice = λ i. h.solution.values compared;
  ground = λ i. h.solution.ground compared;
  kinds = variable_fits h.solution;
  is = sym (type_is h.solution) ∙ h.has;
}

-- ---- and each instance is a type that it has

module _ (g : Ground) (e : is_ground g ≡ true) (m : meets CompAppend g ≡ true) where
  abbrev shown : Ground
  shown = extend NoField g

  abbrev choices : List (Place × Ground)
  choices =
      (definition, of_parameters shown) ∷ (body, tuple (bool_type ∷ shown ∷ [])) ∷ (body ++ 0 ∷ 0 ∷ [], bool_type) ∷ []

  shown_ground : is_ground shown ≡ true
  shown_ground = ap is_ground (bare g) ∙ e

  pair_ground : is_ground (tuple (bool_type ∷ shown ∷ [])) ≡ true
  pair_ground = both (is_ground shown) true shown_ground refl

  second_ground : is_ground (functions (shown ∷ []) (tuple (bool_type ∷ shown ∷ []))) ≡ true
  second_ground = both (is_ground shown) _ shown_ground (both (is_ground (tuple (bool_type ∷ shown ∷ []))) true pair_ground refl)

  all_ground : is_ground (of_parameters shown) ≡ true
  all_ground = both (is_ground shown) _ shown_ground (both _ true second_ground refl)

  classes : (meets Comparable shown && meets Appendable shown) ≡ true
  classes = met_both shown (ap (meets CompAppend) (bare g) ∙ m)

  abbrev solution : Solution both_classes_items
  solution = record {
    values = chosen choices g;
    ground = chosen_ground choices g (all_ground, (pair_ground, (refl, tt))) e;
    solves = (
      refl,
      (
        refl,
        (
          first_true (meets Comparable shown) (meets Appendable shown) classes,
          (
            refl,
            (
              refl,
              (
                refl,
                (
                  second_true (meets Comparable shown) (meets Appendable shown) classes,
                  (refl, (refl, (refl, tt))),
                ),
              ),
            ),
          ),
        ),
      ),
    );
  }

type_of : (g : Ground) → IsInstance scheme g → HasType both_classes_items (at definition) g
type_of g i = record {
  solution = solution (i.choice 0) (i.ground 0) (first_true (meets CompAppend (i.choice 0)) true (i.kinds 0));
  has = i.is;
}

principal : IsPrincipal [] both_classes_items (at definition) scheme
principal = record { formed = refl; each = λ g. (instance_of g, type_of g); kept = λ g outside i. type_of g i }

pub both_classes_type : BothClassesType
unfolding ordered_groups candidate type_name text_in digits
both_classes_type = record {
  scheme = scheme;
  inferred = record {
    typable = one_size [] both_classes_items (place 3 1) (at definition) refl (solution string_type refl refl) (record { scheme = scheme; principal = principal; small = omega arith });
    types = ((((record { scheme = scheme; is = refl; ordered = refl; principal = with_size [] both_classes_items (place 3 1) (at definition) (at definition) scheme principal }, tt), tt)), tt);
  };
  is = refl;
}
