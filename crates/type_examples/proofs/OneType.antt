-- The first bad item of a function that uses its parameter at two types.
use Rattle.std.proofs.Common.{◌≡◌, ℕ, zero, suc, List, [], ◌∷◌, ◌++◌, true, false, refl, sym, ap, ◌∙◌}
use Rattle.std.specs.Prelude.{drop}
use Rattle.std.specs.Fmt.{digits}
use Rattle.elm_type.specs.Types.{function, tuple, int_type, string_type, variable, Free, Scheme, kind_at, NoField}
use Rattle.elm_type.specs.Classes.{Ground, meets}
use Rattle.elm_type.specs.Rows.{extend}
use Rattle.elm_type.specs.declared.class.Class.TheVariants.{Any, Number}
use Rattle.elm_type.specs.Naming.{candidate}
use Rattle.elm_type.specs.Text.{type_name, text_in}
use Rattle.elm_type.specs.Ground.{is_ground, value, fits}
use Rattle.decl_groups.specs.InOrder.{ordered_groups}
use Rattle.type_items.specs.Items.{Place, Wanted, at, Item, Same, InClass}
use Rattle.type_items.specs.Modules.{module_items}
use Rattle.type_items.specs.Solutions.{Solution}
use Rattle.type_items.specs.Principal.{HasType, IsInstance, IsPrincipal}
use Rattle.type_examples.specs.Programs.{place, pair_once}
use Rattle.type_examples.specs.ItemExamples.{no_known, body}
use Rattle.type_examples.specs.InferredExamples.{OneTypeAlone}
use Rattle.type_examples.proofs.Values.{both, first_true, bare, meets_any, part, chosen, chosen_ground, none_asks}

-- the parameter pair and the body of the function; of each use of pair the argument, and the literal 1
abbrev pair : Place
pair = body ++ 0 ∷ 0 ∷ 0 ∷ []

abbrev both_uses : Place
both_uses = body ++ 0 ∷ 1 ∷ []

abbrev first_argument : Place
first_argument = body ++ 0 ∷ 1 ∷ 0 ∷ 0 ∷ 1 ∷ 0 ∷ []

abbrev second_argument : Place
second_argument = body ++ 0 ∷ 1 ∷ 0 ∷ 1 ∷ 1 ∷ 0 ∷ []

abbrev one : Place
one = body ++ 0 ∷ 1 ∷ 0 ∷ 0 ∷ 1 ∷ 0 ∷ 0 ∷ []

abbrev before : List Item
before =
    Same (place 3 1) (at body) (at (0 ∷ 0 ∷ []))
    ∷ Same (place 4 6) (function (at pair) (at both_uses)) (function (at (body ++ 1 ∷ 0 ∷ [])) (at body))
    ∷ Same (place 4 15) (tuple (at (body ++ 0 ∷ 1 ∷ 0 ∷ 0 ∷ []) ∷ at (body ++ 0 ∷ 1 ∷ 0 ∷ 1 ∷ []) ∷ [])) (at both_uses)
    ∷ Same (place 4 17) (at pair) (function (at first_argument) (at (body ++ 0 ∷ 1 ∷ 0 ∷ 0 ∷ [])))
    ∷ InClass (place 4 22) (at one) Number
    ∷ Same (place 4 22) (at one) (at first_argument)
    ∷ Same (place 4 25) (at pair) (function (at second_argument) (at (body ++ 0 ∷ 1 ∷ 0 ∷ 1 ∷ [])))
    ∷ []

abbrev bad : Item
bad = Same (place 4 30) string_type (at second_argument)

abbrev sides : Wanted
sides = tuple (string_type ∷ at second_argument ∷ [])

abbrev scheme : Scheme
scheme = record { type = tuple (string_type ∷ variable (Free 0) ∷ []); kinds = record { class = Number; lacks = [] } ∷ [] }

-- the second argument has the type of the literal 1
argument_is : (s : Solution before) → value s.values (at second_argument) ≡ value s.values (at one)
argument_is s =
    sym (ap (part 0) s.solves.1.1.1.1.1.1.0) ∙ (ap (part 0) s.solves.1.1.1.0 ∙ sym s.solves.1.1.1.1.1.0)

number_is : (s : Solution before) → meets Number (value s.values (at second_argument)) ≡ true
number_is s = ap (meets Number) (argument_is s) ∙ s.solves.1.1.1.1.0

argument_fits : (s : Solution before) (i : ℕ) → fits (kind_at scheme.kinds i) (s.values second_argument) ≡ true
argument_fits s zero =
    both (meets Number (s.values second_argument)) true
    (ap (meets Number) (sym (bare (s.values second_argument))) ∙ number_is s) refl
argument_fits s (suc i) = both (meets Any (s.values second_argument)) true (meets_any (s.values second_argument)) refl

instance_of : (g : Ground) → HasType before sides g → IsInstance scheme g
instance_of g h = record {
  choice = λ i. h.solution.values second_argument;
  ground = λ i. h.solution.ground second_argument;
  kinds = argument_fits h.solution;
  is = h.has;
}

-- a type for the arguments and what pair gives
module _ (g : Ground) (e : is_ground g ≡ true) (m : meets Number g ≡ true) where
  abbrev shown : Ground
  shown = extend NoField g

  abbrev of_pair : Ground
  of_pair = function shown shown

  abbrev of_body : Ground
  of_body = tuple (shown ∷ shown ∷ [])

  abbrev choices : List (Place × Ground)
  choices =
      (pair, of_pair) ∷ (body ++ 1 ∷ 0 ∷ [], of_pair) ∷ (both_uses, of_body) ∷ (body, of_body) ∷ (0 ∷ 0 ∷ [], of_body) ∷ []

  shown_ground : is_ground shown ≡ true
  shown_ground = ap is_ground (bare g) ∙ e

  two_ground : is_ground of_pair ≡ true
  two_ground = both (is_ground shown) _ shown_ground (both (is_ground shown) true shown_ground refl)

  abbrev solution : Solution before
  solution = record {
    values = chosen choices g;
    ground = chosen_ground choices g (two_ground, (two_ground, (two_ground, (two_ground, (two_ground, tt))))) e;
    solves = (refl, (refl, (refl, (refl, (ap (meets Number) (bare g) ∙ m, (refl, (refl, tt)))))));
  }

type_of : (g : Ground) → IsInstance scheme g → HasType before sides g
type_of g i = record {
  solution = solution (i.choice 0) (i.ground 0) (first_true (meets Number (i.choice 0)) true (i.kinds 0));
  has = i.is;
}

principal : IsPrincipal [] before sides scheme
principal = record { formed = refl; each = λ g. (instance_of g, type_of g); kept = λ g outside i. type_of g i }

abbrev front : Solution (before ++ bad ∷ []) → Solution before
front s = record {
  values = s.values;
  ground = s.ground;
  solves = (s.solves.0, (s.solves.1.0, (s.solves.1.1.0, (s.solves.1.1.1.0, (s.solves.1.1.1.1.0, (s.solves.1.1.1.1.1.0, (s.solves.1.1.1.1.1.1.0, tt)))))));
}

never : Solution (before ++ bad ∷ []) → ⊥
never s =
    let m : meets Number string_type ≡ true = ap (meets Number) s.solves.1.1.1.1.1.1.1.0 ∙ number_is (front s) in
    let w : false ≡ true = m in cc

pub one_type_alone : OneTypeAlone
unfolding ordered_groups candidate type_name text_in digits
one_type_alone = record {
  before = before;
  bad = bad;
  after = drop 8 (module_items pair_once no_known []);
  split = refl;
  here = refl;
  fine = record { solution = solution int_type refl refl; small = none_asks before refl };
  fault = (
    (refl, record { never = never }),
    record {
      scheme = scheme;
      ordered = refl;
      left = string_type;
      right = variable (Free 0);
      pair = refl;
      principal = principal;
      says = refl;
    },
  );
}
