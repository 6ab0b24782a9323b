-- A name of a `let` that is used at two types.
use Rattle.std.proofs.Common.{◌≡◌, ℕ, zero, suc, List, [], ◌∷◌, ◌++◌, true, refl, arith, sym, ap, ◌∙◌}
use Rattle.std.specs.Fmt.{digits}
use Rattle.elm_type.specs.Types.{ElmType, NoField, function, tuple, int_type, string_type, variable, Free, Scheme}
use Rattle.elm_type.specs.Types.{kind_at}
use Rattle.elm_type.specs.Classes.{Ground, meets}
use Rattle.elm_type.specs.Rows.{extend}
use Rattle.elm_type.specs.declared.class.Class.TheVariants.{Any, Number}
use Rattle.elm_type.specs.Naming.{candidate}
use Rattle.elm_type.specs.Text.{type_name, text_in}
use Rattle.elm_type.specs.Ground.{is_ground, value, fits}
use Rattle.decl_groups.specs.InOrder.{ordered_groups}
use Rattle.type_items.specs.Items.{Place, at, Small}
use Rattle.type_items.specs.Solutions.{Solution}
use Rattle.type_items.specs.Principal.{HasType, IsInstance, IsPrincipal}
use Rattle.type_items.specs.Faults.{IsSmall}
use Rattle.type_examples.specs.Programs.{place}
use Rattle.type_examples.specs.ItemExamples.{body, pair_place, first_use, second_use, before_pair, copies_items}
use Rattle.type_examples.specs.InferredExamples.{PairsType}
use Rattle.type_examples.proofs.Values.{both, first_true, bare, meets_any, part, chosen, chosen_ground}
use Rattle.type_examples.proofs.Sizes.{more, typable, with_size}

abbrev twice : {X : Type 0} → ElmType X → ElmType X
twice t = tuple (t ∷ t ∷ [])

-- the items of pair say what it is
pair_is : (parameter result left right whole : Ground) → function parameter result ≡ whole → tuple (left ∷ right ∷ []) ≡ result
    → parameter ≡ left → parameter ≡ right → whole ≡ function parameter (twice parameter)
pair_is parameter result left right whole w r l m =
    sym w ∙ ap (function parameter) (sym r ∙ (ap (λ t. tuple (t ∷ right ∷ [])) (sym l) ∙ ap (λ t. tuple (parameter ∷ t ∷ [])) (sym m)))

any_meets : (g : Ground) → fits (kind_at [] 0) g ≡ true
any_meets g = both (meets Any g) true (meets_any g) refl

-- ---- pair alone

abbrev definition : Place
definition = 0 ∷ 0 ∷ []

abbrev pair : Place
pair = pair_place ++ 0 ∷ []

abbrev parameter_of : Place → Place
parameter_of p = p ++ 0 ∷ 0 ∷ 0 ∷ []

abbrev pair_scheme : Scheme
pair_scheme = record { type = function (variable (Free 0)) (twice (variable (Free 0))); kinds = [] }

pair_instance : (g : Ground) → HasType before_pair (at pair) g → IsInstance pair_scheme g
pair_instance g h =
    let s = h.solution in
    let v : Place → Ground = λ p. value s.values (at p) in record {
      choice = λ i. s.values (parameter_of pair_place);
      ground = λ i. s.ground (parameter_of pair_place);
      kinds = λ i. any_meets (s.values (parameter_of pair_place));
      is = sym (pair_is (v (parameter_of pair_place)) (v (pair_place ++ 0 ∷ 1 ∷ [])) (v (pair_place ++ 0 ∷ 1 ∷ 0 ∷ 0 ∷ []))
          (v (pair_place ++ 0 ∷ 1 ∷ 0 ∷ 1 ∷ [])) (v pair) s.solves.1.0 s.solves.1.1.0 s.solves.1.1.1.0 s.solves.1.1.1.1.0) ∙ h.has;
    }

module _ (g : Ground) (e : is_ground g ≡ true) where
  abbrev shown : Ground
  shown = extend NoField g

  shown_ground : is_ground shown ≡ true
  shown_ground = ap is_ground (bare g) ∙ e

  twice_ground : is_ground (twice shown) ≡ true
  twice_ground = both (is_ground shown) _ shown_ground (both (is_ground shown) true shown_ground refl)

  pair_ground : is_ground (function shown (twice shown)) ≡ true
  pair_ground = both (is_ground shown) _ shown_ground (both (is_ground (twice shown)) true twice_ground refl)

  abbrev of_pair_alone : List (Place × Ground)
  of_pair_alone = (pair, function shown (twice shown)) ∷ (pair_place ++ 0 ∷ 1 ∷ [], twice shown) ∷ []

  abbrev pair_solution : Solution before_pair
  pair_solution = record {
    values = chosen of_pair_alone g;
    ground = chosen_ground of_pair_alone g (pair_ground, (twice_ground, tt)) e;
    solves = (refl, (refl, (refl, (refl, (refl, tt)))));
  }

pair_type : (g : Ground) → IsInstance pair_scheme g → HasType before_pair (at pair) g
pair_type g i = record { solution = pair_solution (i.choice 0) (i.ground 0); has = i.is }

pair_principal : IsPrincipal [] before_pair (at pair) pair_scheme
pair_principal = record { formed = refl; each = λ g. (pair_instance g, pair_type g); kept = λ g outside i. pair_type g i }

pair_small : IsSmall [] before_pair (at pair)
pair_small = record { scheme = pair_scheme; principal = pair_principal; small = omega arith }

-- ---- both uses

abbrev scheme : Scheme
scheme = record {
  type = tuple (twice (variable (Free 0)) ∷ twice string_type ∷ []);
  kinds = record { class = Number; lacks = [] } ∷ [];
}

module _ (s : Solution copies_items) where
  abbrev v : Place → Ground
  v p = value s.values (at p)

  first_is : v (first_use ++ 0 ∷ []) ≡ function (v (parameter_of first_use)) (twice (v (parameter_of first_use)))
  first_is =
      pair_is (v (parameter_of first_use)) (v (first_use ++ 0 ∷ 1 ∷ [])) (v (first_use ++ 0 ∷ 1 ∷ 0 ∷ 0 ∷ []))
      (v (first_use ++ 0 ∷ 1 ∷ 0 ∷ 1 ∷ [])) (v (first_use ++ 0 ∷ [])) s.solves.1.1.1.1.1.1.1.0 s.solves.1.1.1.1.1.1.1.1.0
      s.solves.1.1.1.1.1.1.1.1.1.0 s.solves.1.1.1.1.1.1.1.1.1.1.0

  first_called : function (v (parameter_of first_use)) (twice (v (parameter_of first_use)))
      ≡ function (v (body ++ 1 ∷ 0 ∷ 0 ∷ 1 ∷ 0 ∷ [])) (v (body ++ 1 ∷ 0 ∷ 0 ∷ []))
  first_called = sym first_is ∙ s.solves.1.1.1.1.1.1.1.1.1.1.1.0

  number_holds : meets Number (s.values (parameter_of first_use)) ≡ true
  number_holds =
      ap (meets Number) (sym (bare (s.values (parameter_of first_use))) ∙ (ap (part 0) first_called ∙ sym s.solves.1.1.1.1.1.1.1.1.1.1.1.1.1.0))
      ∙ s.solves.1.1.1.1.1.1.1.1.1.1.1.1.0

  second_is : v (second_use ++ 0 ∷ []) ≡ function (v (parameter_of second_use)) (twice (v (parameter_of second_use)))
  second_is =
      pair_is (v (parameter_of second_use)) (v (second_use ++ 0 ∷ 1 ∷ [])) (v (second_use ++ 0 ∷ 1 ∷ 0 ∷ 0 ∷ []))
      (v (second_use ++ 0 ∷ 1 ∷ 0 ∷ 1 ∷ [])) (v (second_use ++ 0 ∷ []))
      s.solves.1.1.1.1.1.1.1.1.1.1.1.1.1.1.0 s.solves.1.1.1.1.1.1.1.1.1.1.1.1.1.1.1.0
      s.solves.1.1.1.1.1.1.1.1.1.1.1.1.1.1.1.1.0 s.solves.1.1.1.1.1.1.1.1.1.1.1.1.1.1.1.1.1.0

  second_called : function (v (parameter_of second_use)) (twice (v (parameter_of second_use)))
      ≡ function (v (body ++ 1 ∷ 0 ∷ 1 ∷ 1 ∷ 0 ∷ [])) (v (body ++ 1 ∷ 0 ∷ 1 ∷ []))
  second_called = sym second_is ∙ s.solves.1.1.1.1.1.1.1.1.1.1.1.1.1.1.1.1.1.1.0

  text_is : v (parameter_of second_use) ≡ string_type
  text_is = ap (part 0) second_called ∙ sym s.solves.1.1.1.1.1.1.1.1.1.1.1.1.1.1.1.1.1.1.1.0

  type_is : v definition ≡ tuple (twice (v (parameter_of first_use)) ∷ twice string_type ∷ [])
  type_is =
      sym s.solves.0 ∙ (sym s.solves.1.1.1.1.1.1.0
      ∙ (ap (λ t. tuple (t ∷ v (body ++ 1 ∷ 0 ∷ 1 ∷ []) ∷ [])) (sym (ap (part 1) first_called))
      ∙ (ap (λ t. tuple (twice (v (parameter_of first_use)) ∷ t ∷ [])) (sym (ap (part 1) second_called))
      ∙ ap (λ t. tuple (twice (v (parameter_of first_use)) ∷ twice t ∷ [])) text_is)))

  choice_fits : (i : ℕ) → fits (kind_at scheme.kinds i) (s.values (parameter_of first_use)) ≡ true
  choice_fits zero = both (meets Number (s.values (parameter_of first_use))) true number_holds refl
  choice_fits (suc i) = any_meets (s.values (parameter_of first_use))

instance_of : (g : Ground) → HasType copies_items (at definition) g → IsInstance scheme g
instance_of g h = record {
  choice = λ i. h.solution.values (parameter_of first_use);
  ground = λ i. h.solution.ground (parameter_of first_use);
  kinds = choice_fits h.solution;
  is = sym (type_is h.solution) ∙ h.has;
}

module _ (g : Ground) (e : is_ground g ≡ true) (m : meets Number g ≡ true) where
  abbrev number : Ground
  number = extend NoField g

  abbrev texts : Ground
  texts = twice string_type

  abbrev whole : Ground
  whole = tuple (twice number ∷ texts ∷ [])

  abbrev choices : List (Place × Ground)
  choices =
      (definition, whole) ∷ (body, whole)
      ∷ (pair, function number (twice number)) ∷ (pair_place ++ 0 ∷ 1 ∷ [], twice number)
      ∷ (first_use ++ 0 ∷ [], function number (twice number)) ∷ (first_use ++ 0 ∷ 1 ∷ [], twice number)
      ∷ (body ++ 1 ∷ 0 ∷ 0 ∷ [], twice number)
      ∷ (second_use ++ 0 ∷ [], function string_type texts) ∷ (second_use ++ 0 ∷ 1 ∷ [], texts)
      ∷ (parameter_of second_use, string_type) ∷ (second_use ++ 0 ∷ 1 ∷ 0 ∷ 0 ∷ [], string_type)
      ∷ (second_use ++ 0 ∷ 1 ∷ 0 ∷ 1 ∷ [], string_type)
      ∷ (body ++ 1 ∷ 0 ∷ 1 ∷ [], texts) ∷ (body ++ 1 ∷ 0 ∷ 1 ∷ 1 ∷ 0 ∷ [], string_type)
      ∷ []

  whole_ground : is_ground whole ≡ true
  whole_ground = both (is_ground (twice number)) _ (twice_ground g e) refl

  number_shown : meets Number number ≡ true
  number_shown = ap (meets Number) (bare g) ∙ m

  abbrev solution : Solution copies_items
  solution = record {
    values = chosen choices g;
    ground = chosen_ground choices g (
      whole_ground,
      (
        whole_ground,
        (
          pair_ground g e,
          (
            twice_ground g e,
            (
              pair_ground g e,
              (
                twice_ground g e,
                (
                  twice_ground g e,
                  (refl, (refl, (refl, (refl, (refl, (refl, (refl, tt))))))),
                ),
              ),
            ),
          ),
        ),
      ),
    ) e;
    solves = (
      refl,
      (
        refl,
        (
          refl,
          (
            refl,
            (
              refl,
              (
                tt,
                (
                  refl,
                  (
                    refl,
                    (
                      refl,
                      (
                        refl,
                        (
                          refl,
                          (
                            refl,
                            (
                              number_shown,
                              (
                                refl,
                                (
                                  refl,
                                  (refl, (refl, (refl, (refl, (refl, tt))))),
                                ),
                              ),
                            ),
                          ),
                        ),
                      ),
                    ),
                  ),
                ),
              ),
            ),
          ),
        ),
      ),
    );
  }

type_of : (g : Ground) → IsInstance scheme g → HasType copies_items (at definition) g
type_of g i = record {
  solution = solution (i.choice 0) (i.ground 0) (first_true (meets Number (i.choice 0)) true (i.kinds 0));
  has = i.is;
}

principal : IsPrincipal [] copies_items (at definition) scheme
principal = record { formed = refl; each = λ g. (instance_of g, type_of g); kept = λ g outside i. type_of g i }

whole_small : IsSmall [] copies_items (at definition)
whole_small = record { scheme = scheme; principal = principal; small = omega arith }

pub pairs_type : PairsType
unfolding ordered_groups candidate type_name text_in digits
pairs_type = record {
  scheme = scheme;
  inferred = record {
    typable =
        typable [] (copies_items ++ Small (place 3 1) (at definition) ∷ [])
        (more (place 3 1) (at definition) copies_items (solution int_type refl refl)) (
          tt,
          (
            tt,
            (
              tt,
              (
                tt,
                (
                  tt,
                  (
                    pair_small,
                    (
                      tt,
                      (
                        tt,
                        (
                          tt,
                          (
                            tt,
                            (
                              tt,
                              (
                                tt,
                                (
                                  tt,
                                  (
                                    tt,
                                    (
                                      tt,
                                      (tt, (tt, (tt, (tt, (tt, (whole_small, tt)))))),
                                    ),
                                  ),
                                ),
                              ),
                            ),
                          ),
                        ),
                      ),
                    ),
                  ),
                ),
              ),
            ),
          ),
        );
    types = (
      ((
        (
          record {
            scheme = scheme;
            is = refl;
            ordered = refl;
            principal = with_size [] copies_items (place 3 1) (at definition) (at definition) scheme principal;
          },
          tt,
        ),
        tt,
      )),
      tt,
    );
  };
  is = refl;
}
