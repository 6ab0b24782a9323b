-- The first bad item of a definition that has not every type that its annotation promises.
use Rattle.std.proofs.Common.{◌≡◌, ℕ, zero, suc, List, [], ◌∷◌, ◌++◌, true, false, refl, sym, ap, ◌∙◌}
use Rattle.std.specs.Fmt.{digits}
use Rattle.elm_type.specs.Types.{Made, NoType, MoreType, function, tuple, int_type, variable, Free, Fixed, Scheme}
use Rattle.elm_type.specs.Types.{kind_at}
use Rattle.elm_type.specs.Classes.{Ground, meets}
use Rattle.elm_type.specs.declared.class.Class.TheVariants.{Any, Number}
use Rattle.elm_type.specs.declared.head.Head.TheVariants as head
use Rattle.elm_type.specs.Naming.{candidate}
use Rattle.elm_type.specs.Text.{type_name, text_in}
use Rattle.elm_type.specs.Ground.{is_ground, value, fits}
use Rattle.decl_groups.specs.InOrder.{ordered_groups}
use Rattle.type_items.specs.Items.{Place, Wanted, at, Item, Same, InClass, Keeps, Small}
use Rattle.type_items.specs.Solutions.{Solution}
use Rattle.type_items.specs.Principal.{HasType, IsInstance, IsPrincipal}
use Rattle.type_examples.specs.Programs.{place}
use Rattle.type_examples.specs.ItemExamples.{rigid_a, fixed}
use Rattle.type_examples.specs.InferredExamples.{NotEveryType}
use Rattle.type_examples.proofs.Values.{both, first_true, bare, meets_any, part, chosen, chosen_ground, none_asks}

-- the parameter, the result and the literal
abbrev parameter : Place
parameter = 0 ∷ 0 ∷ 0 ∷ 0 ∷ []

abbrev result : Place
result = 0 ∷ 0 ∷ 1 ∷ []

abbrev literal : Place
literal = 0 ∷ 0 ∷ 1 ∷ 0 ∷ []

abbrev before : List Item
before =
    Same (place 4 1) (function (at parameter) (at result)) (function (fixed rigid_a) (fixed rigid_a))
    ∷ InClass (place 5 5) (at literal) Number
    ∷ []

abbrev bad : Item
bad = Same (place 5 5) (at literal) (at result)

abbrev after : List Item
after = Keeps (place 4 1) rigid_a [] ∷ Small (place 4 1) (function (fixed rigid_a) (fixed rigid_a)) ∷ []

abbrev pair : Wanted
pair = tuple (at literal ∷ at result ∷ [])

abbrev scheme : Scheme
scheme = record {
  type = tuple (variable (Free 0) ∷ variable (Fixed rigid_a) ∷ []);
  kinds = record { class = Number; lacks = [] } ∷ [];
}

-- a type for the literal, and the constant for all others
abbrev with_literal : (g : Ground) → is_ground g ≡ true → meets Number g ≡ true → Solution before
with_literal g e m = record {
  values = chosen ((literal, g) ∷ []) (variable rigid_a);
  ground = chosen_ground ((literal, g) ∷ []) (variable rigid_a) (e, tt) refl;
  solves = (refl, (ap (meets Number) (bare g) ∙ m, tt));
}

result_is : (s : Solution before) → value s.values (at result) ≡ variable rigid_a
result_is s = ap (part 1) s.solves.0

literal_fits : (s : Solution before) (i : ℕ) → fits (kind_at scheme.kinds i) (s.values literal) ≡ true
literal_fits s zero = both (meets Number (s.values literal)) true (ap (meets Number) (sym (bare (s.values literal))) ∙ s.solves.1.0) refl
literal_fits s (suc i) = both (meets Any (s.values literal)) true (meets_any (s.values literal)) refl

instance_of : (g : Ground) → HasType before pair g → IsInstance scheme g
instance_of g h = record {
  choice = λ i. h.solution.values literal;
  ground = λ i. h.solution.ground literal;
  kinds = literal_fits h.solution;
  is = ap (λ r. Made head.Tuple (MoreType (value h.solution.values (at literal)) (MoreType r NoType))) (sym (result_is h.solution)) ∙ h.has;
}

type_of : (g : Ground) → IsInstance scheme g → HasType before pair g
type_of g i = record {
  solution = with_literal (i.choice 0) (i.ground 0) (first_true (meets Number (i.choice 0)) true (i.kinds 0));
  has = i.is;
}

principal : IsPrincipal [] before pair scheme
principal = record { formed = refl; each = λ g. (instance_of g, type_of g); kept = λ g outside i. type_of g i }

never : Solution (before ++ bad ∷ []) → ⊥
never s =
    let r : value s.values (at result) ≡ variable rigid_a = ap (part 1) s.solves.0 in
    let m : meets Number (variable rigid_a) ≡ true = ap (meets Number) (sym (s.solves.1.1.0 ∙ r)) ∙ s.solves.1.0 in
    let w : false ≡ true = m in cc

pub not_every_type : NotEveryType
unfolding ordered_groups candidate type_name text_in digits
not_every_type = record {
  before = before;
  bad = bad;
  after = after;
  split = refl;
  here = refl;
  fine = record { solution = with_literal int_type refl refl; small = none_asks before refl };
  fault = (
    (refl, record { never = never }),
    record {
      scheme = scheme;
      ordered = refl;
      left = variable (Free 0);
      right = variable (Fixed rigid_a);
      pair = refl;
      principal = principal;
      says = refl;
    },
  );
}
