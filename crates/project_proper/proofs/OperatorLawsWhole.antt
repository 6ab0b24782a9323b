-- Modules that lack nothing of what the compiler takes for granted.
use Rattle.std.proofs.Common.{◌≡◌, ℕ, suc, ◌+◌, ◌<◌, ◌≤◌, List, [], ◌∷◌, ◌++◌, map, length, Bool, true, false, codes}
use Rattle.std.proofs.Common.{refl, sym, ap, ◌∙◌}
use Rattle.std.proofs.Common.{subst, ⊎_elim, ◌⊎◌, inl, inr, arith}
use Rattle.std.specs.Prelude.{Option, not, ◌&&◌, ◌||◌, if◌then◌else◌, nat_eq, nat_lt}
use Rattle.std.specs.List.{flat_map, list_any, list_all, enumerate_from}
use Rattle.std.specs.Str.{bytes_eq, chars}
use Rattle.std.proofs.lemmas.Bool.{false≢true, and_parts}
use Rattle.std.proofs.lemmas.Bool.Decides.{nat_tests}
use Rattle.std.proofs.lemmas.Slice.Eq.{bytes_eq-Decides}
use Rattle.std.proofs.lemmas.List.{length-map}
use Rattle.decl_groups.proofs.Reaching.{or_cases}
use Rattle.elm_base.specs.Units.{text_units}
use Rattle.elm_base.specs.declared.fault.Code.TheVariants.{UnknownValue, ConstructorArity}
use Rattle.elm_tree.specs.Regroup.{Row, operator_rows}
use Rattle.elm_tree.specs.Tree.{Declaration, Value, Port, Union, Alias, ConstructorOf}
use Rattle.elm_canon.specs.Names.{Name, same_name}
use Rattle.elm_canon.specs.Tree as canon
use Rattle.elm_canon.specs.Tree.{UnionDeclaration}
use Rattle.elm_canon.specs.declared.unions.Alternative.{Alternative}
use Rattle.elm_canon.specs.declared.reference.Ref.TheVariants.{Top}
use Rattle.canon_expr.specs.Operators.{meaning_of}
use Rattle.canon_type.specs.Unions.{is_type, alternative_of, alternatives_of, type_count, unions_in, union_of}
use Rattle.canon_env.proofs.Adding.{one_name}
use Rattle.canon_env.specs.Env.{declared_alternatives}
use Rattle.canon_env.specs.Exposing.{is_among, is_operator, operator_home}
use Rattle.canon_env.specs.Imports.{name_of}
use Rattle.canon_env.specs.declared.finding.Finding.{Finding}
use Rattle.canon_module.specs.Resolve.{Setting}
use Rattle.canon_env.specs.Naming.{World}
use Rattle.canon_proper.proofs.Quiet.{append_none}
use Rattle.canon_proper.specs.Worlds.{operator_ref}
use Rattle.interface.specs.Interface.{Interface}
use Rattle.module_offers.specs.Offers.{basic_functions}
use Rattle.module_proper.specs.Counted.{HaveFewer}
use Rattle.core_modules.specs.Facts.{core_faults}
use Rattle.core_modules.specs.Faults.{port_faults}
use Rattle.module_offers.specs.Faults.{fault_of, defines, uses, offers, has_function, function_faults, are_truths}
use Rattle.module_offers.specs.Faults.{is_no_bool, truth_faults, operator_faults}
use Rattle.project_proper.specs.Laws.{OwnOperators, HaveTruths, interface_for, OtherOperators, IsWhole, OwnLaw, TruthLaw}
use Rattle.project_proper.specs.Laws.{OtherLaw}
use Rattle.project_proper.proofs.Defined.{module_defined}

-- ---- operators and their functions

abbrev function_name : List ℕ → Name
function_name op = text_units (meaning_of op).function

-- (::) is of List, and each other operator of Basics
abbrev IsOfList : List ℕ → Type 0
IsOfList op =
    (text_units (operator_home op) ≡ codes "List")
    × ((function_name op ≡ codes "cons") × (bytes_eq op (codes "::") ≡ true))

abbrev IsOfBasics : List ℕ → Type 0
IsOfBasics op =
    (text_units (operator_home op) ≡ codes "Basics")
    × ((is_among (function_name op) basic_functions ≡ true) × (bytes_eq op (codes "::") ≡ false))

abbrev IsOf : List ℕ → Type 0
IsOf op = IsOfList op ⊎ IsOfBasics op

abbrev EachIs : List Row → Type 0
EachIs [] = Unit {0}
EachIs (r ∷ rows) = IsOf r.text × EachIs rows

rows_are : EachIs operator_rows
unfolding meaning_of chars
rows_are = (
  inr (refl, (refl, refl)),
  (
    inr (refl, (refl, refl)),
    (
      inr (refl, (refl, refl)),
      (
        inr (refl, (refl, refl)),
        (
          inr (refl, (refl, refl)),
          (
            inr (refl, (refl, refl)),
            (
              inr (refl, (refl, refl)),
              (
                inr (refl, (refl, refl)),
                (
                  inr (refl, (refl, refl)),
                  (
                    inr (refl, (refl, refl)),
                    (
                      inr (refl, (refl, refl)),
                      (
                        inl (refl, (refl, refl)),
                        (
                          inr (refl, (refl, refl)),
                          (
                            inr (refl, (refl, refl)),
                            (
                              inr (refl, (refl, refl)),
                              (
                                inr (refl, (refl, refl)),
                                (
                                  inr (refl, (refl, refl)),
                                  (
                                    inr (refl, (refl, refl)),
                                    (
                                      inr (refl, (refl, refl)),
                                      tt,
                                    ),
                                  ),
                                ),
                              ),
                            ),
                          ),
                        ),
                      ),
                    ),
                  ),
                ),
              ),
            ),
          ),
        ),
      ),
    ),
  ),
)

row_is : (rows : List Row) → EachIs rows → (op : List ℕ) → list_any (λ (r : Row). bytes_eq op r.text) rows ≡ true →
    IsOf op
row_is [] h op e = absurd (false≢true e)
row_is (r ∷ rows) h op e =
    ⊎_elim (λ k. subst IsOf (sym ((bytes_eq-Decides op r.text).0 k)) h.0) (row_is rows h.1 op)
    (or_cases (bytes_eq op r.text) (list_any (λ (q : Row). bytes_eq op q.text) rows) e)

operator_is : (op : List ℕ) → is_operator op ≡ true → IsOf op
operator_is op e = row_is operator_rows rows_are op e

-- ---- functions that are there

function_there : (home : Name) (i : Option Interface) (m : canon.Module) (x : Name) → function_faults home i m x ≡ [] →
    has_function home i m x ≡ true
function_there home i m x e = by (has_function home i m x) e
  where
    by : (b : Bool) → (if b then [] else fault_of UnknownValue x) ≡ [] → b ≡ true
    by true e = refl
    by false e = absurd cc

each_there : (home : Name) (i : Option Interface) (m : canon.Module) (xs : List Name) (x : Name) →
    flat_map (function_faults home i m) xs ≡ [] → is_among x xs ≡ true → has_function home i m x ≡ true
each_there home i m [] x e a = absurd (false≢true a)
each_there home i m (y ∷ xs) x e a =
    let p = append_none (function_faults home i m y) (flat_map (function_faults home i m) xs) e in
    ⊎_elim
    (λ k. subst (λ z. has_function home i m z ≡ true) (sym (one_name x y k)) (function_there home i m y p.0))
    (each_there home i m xs x p.1) (or_cases (same_name x y) (is_among x xs) a)

own_there : (home : Name) (i : Option Interface) (m : canon.Module) (x : Name) → has_function home i m x ≡ true →
    same_name home m.name ≡ true → defines m (Top home x) ≡ true
own_there home i m x e s =
    ap (λ b. if b then defines m (Top home x) else (offers i x || not (uses m (Top home x)))) (sym s) ∙ e

other_there : (home : Name) (i : Option Interface) (m : canon.Module) (x : Name) → has_function home i m x ≡ true →
    same_name home m.name ≡ false → (offers i x ≡ true) ⊎ (uses m (Top home x) ≡ false)
other_there home i m x e s =
    by (offers i x) (uses m (Top home x))
    (ap (λ b. if b then defines m (Top home x) else (offers i x || not (uses m (Top home x)))) (sym s) ∙ e)
  where
    by : (b c : Bool) → (b || not c) ≡ true → (b ≡ true) ⊎ (c ≡ false)
    by true c e = inl refl
    by false true e = absurd (false≢true e)
    by false false e = inr refl

-- ---- truth values

not_false : (b : Bool) → not b ≡ false → b ≡ true
not_false true e = refl
not_false false e = absurd (false≢true (sym e))

not_true : (b : Bool) → not b ≡ true → b ≡ false
not_true true e = absurd (false≢true e)
not_true false e = refl

count_enumerated : (n : ℕ) (cs : List ConstructorOf) → length (enumerate_from n cs) ≡ length cs
count_enumerated n [] = refl
count_enumerated n (c ∷ cs) = ap (λ k. suc k) (count_enumerated (n + 1) cs)

at_most_two : (n : ℕ) → nat_lt 2 n ≡ false → n ≤ 2
at_most_two n e = grind (arith, nat_tests)

none_is : (n : ℕ) → nat_eq n 0 ≡ true → n < 1
none_is n e = grind (arith, nat_tests)

without_fields : (home x : Name) (n : ℕ) (cs : List ConstructorOf) →
    list_all (λ (c : Alternative). nat_eq c.arity 0) (map (alternative_of home x) (enumerate_from n cs)) ≡ true →
    HaveFewer 1 cs
without_fields home x n [] e = tt
without_fields home x n (c ∷ cs) e =
    let p = and_parts (nat_eq (type_count c.fields) 0) _ e in
    (none_is (type_count c.fields) p.0, without_fields home x (n + 1) cs p.1)

truths_are : (home x : Name) (cs : List ConstructorOf) → are_truths (alternatives_of home x cs) ≡ true →
    (length cs ≤ 2) × HaveFewer 1 cs
truths_are home x cs e =
    let made = alternatives_of home x cs in
    let p = and_parts (not (nat_lt 2 (length made))) _ e in
    let few = at_most_two (length made) (not_true (nat_lt 2 (length made)) p.0) in (
      omega (arith, few, length-map (enumerate_from 0 cs) (alternative_of home x), count_enumerated 0 cs),
      without_fields home x 0 cs p.1,
    )

truth_there : (home x : Name) (cs : List ConstructorOf) (u : UnionDeclaration) → u.name ≡ x →
    declared_alternatives u.union ≡ alternatives_of home x cs → truth_faults home u ≡ [] →
    is_type (codes "Basics") (codes "Bool") home x ≡ true → (length cs ≤ 2) × HaveFewer 1 cs
truth_there home x cs u n a e t =
    let is = subst (λ z. is_type (codes "Basics") (codes "Bool") home z ≡ true) (sym n) t in
    truths_are home x cs (ap are_truths (sym a)
    ∙ not_false (are_truths (declared_alternatives u.union))
    (ap (λ b. b && not (are_truths (declared_alternatives u.union))) (sym is) ∙ by (is_no_bool home u) e))
  where
    by : (b : Bool) → (if b then fault_of ConstructorArity (codes "Bool") else []) ≡ [] → b ≡ false
    by true e = absurd cc
    by false e = refl

truths_there : (home : Name) (w : World) (ds : List Declaration) →
    flat_map (truth_faults home) (map (union_of home w) (unions_in ds)) ≡ [] → HaveTruths home ds
truths_there home w [] e = tt
truths_there home w (Value d ∷ ds) e = truths_there home w ds e
truths_there home w (Port x t ∷ ds) e = truths_there home w ds e
truths_there home w (Union x ps cs ∷ ds) e =
    let u = union_of home w (record { name = x; parameters = ps; constructors = cs }) in
    let p = append_none (truth_faults home u) _ e in
    (truth_there home (name_of x) cs u refl refl p.0, truths_there home w ds p.1)
truths_there home w (Alias x ps t ∷ ds) e = truths_there home w ds e

-- ---- all

module _ (basics lists : Option Interface) (s : Setting) (ds : List Declaration) (m : canon.Module)
    (h : IsWhole basics lists s ds m) where
  abbrev of_basics : List Finding
  of_basics = flat_map (function_faults (codes "Basics") basics m) basic_functions

  abbrev of_list : List Finding
  of_list = function_faults (codes "List") lists m (codes "cons")

  abbrev of_truths : List Finding
  of_truths = flat_map (truth_faults m.name) m.unions

  nothing : of_basics ++ of_list ++ of_truths ++ core_faults m ++ port_faults m ≡ []
  unfolding operator_faults
  nothing = h.whole

  parts : ((of_basics ≡ []) × (of_list ≡ [])) × (of_truths ≡ [])
  parts =
      let whole = append_none (of_basics ++ of_list ++ of_truths ++ core_faults m) (port_faults m) nothing in
      let own = append_none (of_basics ++ of_list ++ of_truths) (core_faults m) whole.0 in
      let p = append_none (of_basics ++ of_list) of_truths own.0 in
      (append_none of_basics of_list p.0, p.1)

  abbrev operator_home_of : List ℕ → Name
  operator_home_of op = text_units (operator_home op)

  -- the function x of the module `home` is there; b: it is of List
  abbrev Has : Name → Bool → Name → Type 0
  Has home b x = has_function home (if b then lists else basics) m x ≡ true

  -- the function of an operator is there
  there : (op : List ℕ) → is_operator op ≡ true →
      Has (operator_home_of op) (bytes_eq op (codes "::")) (function_name op)
  there op e = ⊎_elim in_list in_basics (operator_is op e)
    where
      in_list : IsOfList op → Has (operator_home_of op) (bytes_eq op (codes "::")) (function_name op)
      in_list k =
          subst (λ z. Has z (bytes_eq op (codes "::")) (function_name op)) (sym k.0)
          (subst (λ b. Has (codes "List") b (function_name op)) (sym k.1.1)
          (subst (λ x. Has (codes "List") true x) (sym k.1.0)
          (function_there (codes "List") lists m (codes "cons") parts.0.1)))

      in_basics : IsOfBasics op → Has (operator_home_of op) (bytes_eq op (codes "::")) (function_name op)
      in_basics k =
          subst (λ z. Has z (bytes_eq op (codes "::")) (function_name op)) (sym k.0)
          (subst (λ b. Has (codes "Basics") b (function_name op)) (sym k.1.1)
          (each_there (codes "Basics") basics m basic_functions (function_name op) parts.0.0 k.1.0))

  own : OwnOperators s.home ds
  own op e k =
      let named = subst (λ z. same_name (operator_home_of op) z ≡ true) (sym h.is.name) k in
      module_defined s ds m h.is (operator_ref op)
      (own_there (operator_home_of op) (interface_for op basics lists) m (function_name op) (there op e) named)

  others : OtherOperators basics lists s.home m
  others op e k =
      let named = subst (λ z. same_name (operator_home_of op) z ≡ false) (sym h.is.name) k in
      other_there (operator_home_of op) (interface_for op basics lists) m (function_name op) (there op e) named

  truths : HaveTruths s.home ds
  truths =
      truths_there s.home _ ds
      (subst (λ us. flat_map (truth_faults s.home) us ≡ []) h.is.types.unions
      (subst (λ z. flat_map (truth_faults z) m.unions ≡ []) h.is.name parts.1))

pub own_operators : OwnLaw
own_operators basics lists s ds m h = own basics lists s ds m h

pub have_truths : TruthLaw
have_truths basics lists s ds m h = truths basics lists s ds m h

pub other_operators : OtherLaw
other_operators basics lists s ds m h = others basics lists s ds m h
