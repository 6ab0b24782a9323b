-- A definition that keeps what its annotation promises: a constant of the class number is a number.
use Rattle.std.proofs.Common.{[], ◌∷◌, refl, arith}
use Rattle.std.specs.Fmt.{digits}
use Rattle.elm_type.specs.Types.{function, int_type, variable, Free, Fixed, Scheme}
use Rattle.elm_type.specs.Classes.{Ground}
use Rattle.elm_type.specs.declared.class.Class.TheVariants.{Number}
use Rattle.elm_type.specs.Naming.{candidate}
use Rattle.elm_type.specs.Text.{type_name, text_in}
use Rattle.decl_groups.specs.InOrder.{ordered_groups}
use Rattle.type_items.specs.Items.{Wanted}
use Rattle.type_items.specs.Solutions.{Solution}
use Rattle.type_items.specs.Principal.{unscoped, HasType, IsInstance, IsPrincipal}
use Rattle.type_examples.specs.Programs.{place}
use Rattle.type_examples.specs.ItemExamples.{fixed, rigid_number, next_items}
use Rattle.type_examples.specs.InferredExamples.{NextType}
use Rattle.type_examples.proofs.Values.{chosen, chosen_ground}
use Rattle.type_examples.proofs.Sizes.{one_size}

abbrev annotated : Wanted
annotated = function (fixed rigid_number) (fixed rigid_number)

abbrev scheme : Scheme
scheme = record { type = function (variable (Fixed rigid_number)) (variable (Fixed rigid_number)); kinds = [] }

-- the annotation, where the definition is used
abbrev told : Scheme
told = record { type = function (variable (Free 0)) (variable (Free 0)); kinds = record { class = Number; lacks = [] } ∷ [] }

-- each variable stands for the constant
abbrev solution : Solution next_items
solution = record {
  values = chosen [] (variable rigid_number);
  ground = chosen_ground [] (variable rigid_number) tt refl;
  solves = (refl, (refl, (refl, (refl, (refl, (refl, (refl, (tt, tt))))))));
}

abbrev unscoped_solution : Solution (unscoped next_items)
unscoped_solution = record {
  values = chosen [] (variable rigid_number);
  ground = chosen_ground [] (variable rigid_number) tt refl;
  solves = (refl, (refl, (refl, (refl, (refl, (refl, (refl, tt)))))));
}

instance_of : (g : Ground) → HasType (unscoped next_items) annotated g → IsInstance scheme g
instance_of g h = record { choice = λ i. int_type; ground = λ i. refl; kinds = λ i. refl; is = h.has }

principal : IsPrincipal [] next_items annotated scheme
principal = record {
  formed = refl;
  each = λ g. (instance_of g, λ i. record { solution = unscoped_solution; has = i.is });
  kept = λ g outside i. record { solution = solution; has = i.is };
}

pub next_type : NextType
unfolding ordered_groups candidate type_name text_in digits
next_type = record {
  scheme = told;
  inferred = record {
    typable = one_size [] next_items (place 4 1) annotated refl solution (record { scheme = scheme; principal = principal; small = omega arith });
    types = (((refl, tt), tt), tt);
  };
  is = refl;
}
