-- The first bad item of an access to a field that a record has not.
use Rattle.std.proofs.Common.{◌≡◌, ℕ, zero, suc, List, [], ◌∷◌, ◌++◌, Bool, true, false, refl, sym, ap, ◌∙◌}
use Rattle.std.specs.Prelude.{drop}
use Rattle.std.specs.Fmt.{digits}
use Rattle.elm_type.specs.Types.{ElmType, Made, Record, NoType, MoreType, NoField, MoreField, Closed, Over, function}
use Rattle.elm_type.specs.Types.{tuple}
use Rattle.elm_type.specs.Types.{int_type, variable, Leaf, Free, Scheme, kind_at, any_kind}
use Rattle.elm_type.specs.Classes.{Ground, meets}
use Rattle.elm_type.specs.Rows.{extend, has_field}
use Rattle.elm_type.specs.declared.class.Class.TheVariants.{Any}
use Rattle.elm_type.specs.declared.head.Head.TheVariants as head
use Rattle.elm_type.specs.Naming.{candidate}
use Rattle.elm_type.specs.Text.{type_name, text_in}
use Rattle.elm_type.specs.Ground.{is_ground, lacks, value, fits}
use Rattle.decl_groups.specs.InOrder.{ordered_groups}
use Rattle.type_items.specs.Items.{Place, Wanted, at, Item, Same, Lacks}
use Rattle.type_items.specs.Modules.{module_items}
use Rattle.type_items.specs.Solutions.{Solution}
use Rattle.type_items.specs.Principal.{HasType, IsInstance, IsPrincipal}
use Rattle.type_examples.specs.Programs.{place, x, y, z, no_field_z}
use Rattle.type_examples.specs.ItemExamples.{no_known, body}
use Rattle.type_examples.specs.InferredExamples.{NoSuchField}
use Rattle.type_examples.proofs.Values.{both, first_true, second_true, bare, meets_any, part, chosen, chosen_ground}
use Rattle.type_examples.proofs.Values.{none_asks}
use Rattle.type_examples.proofs.Inserting.{extended_ground, has_inserted}

-- the argument, the types of its fields, the type of the field that is wanted, and what the wanted record has beside it
abbrev argument : Place
argument = body ++ 1 ∷ 0 ∷ []

abbrev field_x : Place
field_x = body ++ 1 ∷ 0 ∷ 0 ∷ 0 ∷ []

abbrev field_y : Place
field_y = body ++ 1 ∷ 0 ∷ 0 ∷ 1 ∷ []

abbrev field_z : Place
field_z = body ++ 0 ∷ 1 ∷ 0 ∷ []

abbrev row : Place
row = body ++ 0 ∷ 0 ∷ []

abbrev two_fields : {X : Type 0} → ElmType X → ElmType X → ElmType X
two_fields t u = Record (MoreField x t (MoreField y u NoField)) Closed

abbrev before : List Item
before =
    Same (place 3 1) (at body) (at (0 ∷ 0 ∷ []))
    ∷ Lacks (place 4 5) (at row) z
    ∷ Same (place 4 5) (function (Record (MoreField z (at field_z) NoField) (Over (Free row))) (at field_z))
    (function (at argument) (at body))
    ∷ []

abbrev bad : Item
bad = Same (place 4 8) (two_fields (at field_x) (at field_y)) (at argument)

abbrev sides : Wanted
sides = tuple (two_fields (at field_x) (at field_y) ∷ at argument ∷ [])

abbrev left : ElmType (Leaf ℕ)
left = two_fields (variable (Free 0)) (variable (Free 1))

abbrev right : ElmType (Leaf ℕ)
right = Record (MoreField z (variable (Free 3)) NoField) (Over (Free 2))

abbrev scheme : Scheme
scheme = record {
  type = tuple (left ∷ right ∷ []);
  kinds = any_kind ∷ any_kind ∷ record { class = Any; lacks = z ∷ [] } ∷ any_kind ∷ [];
}

-- a record with the field z
abbrev with_z : Ground → Ground → Ground
with_z g rest = extend (MoreField z (extend NoField g) NoField) rest

any_fits : (g : Ground) → fits any_kind g ≡ true
any_fits g = both (meets Any g) true (meets_any g) refl

-- ---- each type of both sides is an instance

module _ (s : Solution before) where
  lack_holds : lacks z (s.values row) ≡ true
  lack_holds = ap (lacks z) (sym (bare (s.values row))) ∙ s.solves.1.0

  argument_is : with_z (s.values field_z) (s.values row) ≡ value s.values (at argument)
  argument_is = ap (part 0) s.solves.1.1.0

  abbrev choice : ℕ → Ground
  choice zero = s.values field_x
  choice (suc zero) = s.values field_y
  choice (suc (suc zero)) = s.values row
  choice (suc (suc (suc i))) = s.values field_z

  choice_ground : (i : ℕ) → is_ground (choice i) ≡ true
  choice_ground zero = s.ground field_x
  choice_ground (suc zero) = s.ground field_y
  choice_ground (suc (suc zero)) = s.ground row
  choice_ground (suc (suc (suc i))) = s.ground field_z

  choice_fits : (i : ℕ) → fits (kind_at scheme.kinds i) (choice i) ≡ true
  choice_fits zero = any_fits (s.values field_x)
  choice_fits (suc zero) = any_fits (s.values field_y)
  choice_fits (suc (suc zero)) =
      both (meets Any (s.values row)) _ (meets_any (s.values row)) (both (lacks z (s.values row)) true lack_holds refl)
  choice_fits (suc (suc (suc zero))) = any_fits (s.values field_z)
  choice_fits (suc (suc (suc (suc i)))) = any_fits (s.values field_z)

instance_of : (g : Ground) → HasType before sides g → IsInstance scheme g
instance_of g h = record {
  choice = choice h.solution;
  ground = choice_ground h.solution;
  kinds = choice_fits h.solution;
  is = ap (λ t. Made head.Tuple (MoreType (value h.solution.values (two_fields (at field_x) (at field_y))) (MoreType t NoType))) (argument_is h.solution) ∙ h.has;
}

-- ---- and each instance is such a type

module _ (a b rest g : Ground) (ea : is_ground a ≡ true) (eb : is_ground b ≡ true) (er : is_ground rest ≡ true)
    (e : is_ground g ≡ true) (l : lacks z rest ≡ true) where
  abbrev whole : Ground
  whole = with_z g rest

  abbrev choices : List (Place × Ground)
  choices = (field_x, a) ∷ (field_y, b) ∷ (row, rest) ∷ (argument, whole) ∷ []

  whole_ground : is_ground whole ≡ true
  whole_ground = extended_ground z (extend NoField g) rest er l (ap is_ground (bare g) ∙ e)

  abbrev solution : Solution before
  solution = record {
    values = chosen choices g;
    ground = chosen_ground choices g (ea, (eb, (er, (whole_ground, tt)))) e;
    solves = (
      refl,
      (ap (lacks z) (bare rest) ∙ l, (ap (λ t. function t (extend NoField g)) (sym (bare whole)), tt)),
    );
  }

type_of : (g : Ground) → IsInstance scheme g → HasType before sides g
type_of g i =
    let rest = i.choice 2 in
    let l : lacks z rest ≡ true = first_true (lacks z rest) true (second_true (meets Any rest) _ (i.kinds 2)) in
    record {
      solution = solution (i.choice 0) (i.choice 1) rest (i.choice 3) (i.ground 0) (i.ground 1) (i.ground 2) (i.ground 3) l;
      has = ap (λ t. Made head.Tuple (MoreType (two_fields (extend NoField (i.choice 0)) (extend NoField (i.choice 1))) (MoreType t NoType))) (bare (with_z (i.choice 3) rest)) ∙ i.is;
    }

principal : IsPrincipal [] before sides scheme
principal = record { formed = refl; each = λ g. (instance_of g, type_of g); kept = λ g outside i. type_of g i }

-- ---- both sides are never the same

abbrev has_z : Ground → Bool
has_z (Made h ts) = false
has_z (Record fs end) = has_field z fs

extended_has : (t rest : Ground) → lacks z rest ≡ true → has_z (extend (MoreField z t NoField) rest) ≡ true
extended_has t (Made h ts) l = absurd cc
extended_has t (Record fs end) l = has_inserted z t fs

never : Solution (before ++ bad ∷ []) → ⊥
never s =
    let front : Solution before = record { values = s.values; ground = s.ground; solves = (s.solves.0, (s.solves.1.0, (s.solves.1.1.0, tt))) } in
    let h : has_z (two_fields int_type int_type) ≡ true =
    ap has_z (s.solves.1.1.1.0 ∙ sym (argument_is front)) ∙ extended_has (extend NoField (s.values field_z)) (s.values row) (lack_holds front) in
    let w : false ≡ true = h in cc

pub no_such_field : NoSuchField
unfolding ordered_groups candidate type_name text_in digits
no_such_field = record {
  before = before;
  bad = bad;
  after = drop 4 (module_items no_field_z no_known []);
  split = refl;
  here = refl;
  fine = record { solution = solution int_type int_type (Record NoField Closed) int_type refl refl refl refl refl; small = none_asks before refl };
  fault = (
    (refl, record { never = never }),
    record {
      scheme = scheme;
      ordered = refl;
      left = left;
      right = right;
      pair = refl;
      principal = principal;
      says = refl;
    },
  );
}
