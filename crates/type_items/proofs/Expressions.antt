-- Expressions: where what they ask is solved, they ask the same where more is known.
use Rattle.std.proofs.Common.{◌≡◌, ℕ, ◌+◌, List, [], ◌∷◌, ◌++◌, refl, sym, ap, ◌∙◌, subst}
use Rattle.std.specs.List.{range_with_len}
use Rattle.elm_base.specs.declared.position.Pos.{Pos}
use Rattle.elm_canon.specs.declared.reference.Ref.{Ref}
use Rattle.elm_canon.specs.declared.tree.Literal.TheVariants as literal
use Rattle.elm_canon.specs.Tree.{Op, TupleOf, ListOf, Build, RecordOf, Access, Update, Negate, Binary}
use Rattle.elm_canon.specs.Tree.{Patterns, NoPattern, Title, Expr, Is, NameOf, Accessor, Lambda, Apply, Strict, If}
use Rattle.elm_canon.specs.Tree.{Logical}
use Rattle.elm_canon.specs.Tree.{Let, Case, Located, Exprs, NoExpr, MoreExpr, Branches, NoBranch, MoreBranch, Groups}
use Rattle.elm_canon.specs.Tree.{NoGroup, MoreGroup, Group, Together, Constant, Destructure, Functions, NoFunction}
use Rattle.elm_canon.specs.Tree.{MoreFunction}
use Rattle.elm_canon.specs.Proper.{count_of, count_exprs}
use Rattle.elm_type.specs.Types.{functions, bool_type}
use Rattle.type_items.specs.Items.{Place, child, Wanted, at, children, Item, Same}
use Rattle.type_items.specs.Scopes.{Known, Entries, Constants, Scope, use_items}
use Rattle.type_items.specs.Patterns.{Shape, shape, shape_items, pattern_items, patterns_items, pattern_names}
use Rattle.type_items.specs.Patterns.{patterns_names, parameter_types, pattern_start}
use Rattle.type_items.specs.Operations.{Plan, in_turn, plan}
use Rattle.type_items.specs.Uses.{used}
use Rattle.type_items.specs.Definitions.{Definition, list_definitions}
use Rattle.type_items.specs.Expressions.{Listing, function_items, titled, nowhere, items, each_items, part_items}
use Rattle.type_items.specs.Expressions.{branch_items, definitions, group_definitions, function_definitions}
use Rattle.type_items.specs.Solutions.{Values, Solves, Meets}
use Rattle.type_items.specs.More.{Grows}
use Rattle.type_items.proofs.Lists.{two, all_left, all_right, all_both, no_nonsense}
use Rattle.type_items.proofs.Patterns.{Alike, many_mapped, names_alike, all_alike, shape_same, asked_same}
use Rattle.type_items.proofs.Patterns.{pattern_same, patterns_same, names_same, all_same}
use Rattle.type_items.proofs.Groups as groups

before_turn : (xs : List Item) (ts : List Wanted) → (in_turn xs ts).before ≡ xs
before_turn xs [] = refl
before_turn xs (t ∷ ts) = refl

module _ (known more : Known) (grows : Grows known more) (v : Values) where
  abbrev less : Entries → Constants → Scope
  less ns cs = groups.less known more grows v ns cs

  abbrev wide : Entries → Constants → Scope
  wide ns cs = groups.wide known more grows v ns cs

  abbrev Steady : Definition → Type 0
  Steady d = groups.Steady known more grows v d

  abbrev AllSteady : List Definition → Type 0
  AllSteady ds = groups.AllSteady known more grows v ds

  -- where its items are solved in a scope, they are the same where more is known
  abbrev Stays : Listing → Type 0
  Stays list =
      (ms ns : Entries) (ks cs : Constants) (here pos : Pos) (p q : Place) (t u : Wanted) → Alike ms ns
      → Solves v (list (less ms ks) here p t) → list (less ns cs) pos q u ≡ list (wide ns cs) pos q u

  -- ---- functions

  function_stays : (rs : Patterns) (body : Listing) → Stays body → Stays (function_items rs body)
  function_stays rs body stays ms ns ks cs here pos p q t u alike s =
      let ts = parameter_types rs (child p 0) in
      let us = parameter_types rs (child q 0) in
      let front = patterns_items rs known here (child p 0) 0 ts in
      let bound = patterns_names rs known (child p 0) 0 ts ms in
      let names = patterns_names rs known (child q 0) 0 us ns in
      ap (λ (l : List Item). Same pos (functions us (at (child q 1))) u ∷ l)
      (two (λ (xs ys : List Item). xs ++ ys)
      (patterns_same known more grows v rs here pos (child p 0) (child q 0) 0 0 ts us (all_left (Meets v) front _ s.1))
      (stays bound names ks cs here pos (child p 1) (child q 1) (at (child p 1)) (at (child q 1))
      (all_alike known rs (child p 0) (child q 0) 0 ts us ms ns
      (many_mapped (λ i. at (child (child p 0) i)) (λ i. at (child (child q 0) i)) (range_with_len 0 (count_of rs)))
      alike) (all_right (Meets v) front _ s.1)
      ∙ ap (λ (l : Entries). body (wide l cs) pos (child q 1) (at (child q 1)))
      (all_same known more grows v rs here (child p 0) (child q 0) 0 0 ts us ns (all_left (Meets v) front _ s.1))))

  titled_steady : (title : Title) (uses : List Ref) (list : Listing) → Stays list
      → Steady (titled title uses (λ scope p t. list scope title.place p t))
  titled_steady title uses list stays = record {
    list = λ ms ns ks cs p q t u alike s. stays ms ns ks cs title.place title.place p q t u alike s;
    types = λ ms ks p q t u s. refl;
    names = λ p q t u. (refl, tt);
  }

  -- ---- operations

  plan_stays : (op : Op) (n : ℕ) (ms ns : Entries) (ks cs : Constants) (here pos : Pos) (p q : Place) (t u : Wanted)
      → Solves v (plan op n (less ms ks) here p t).before → plan op n (less ns cs) pos q u ≡ plan op n (wide ns cs) pos q u
  plan_stays TupleOf n ms ns ks cs here pos p q t u s = refl
  plan_stays ListOf n ms ns ks cs here pos p q t u s = refl
  plan_stays (Build at_ o c) n ms ns ks cs here pos p q t u s =
      let asks = shape_items o c known at_ (child p 1) in
      let z = shape o c known (child p 1) in
      let ts = children (child p 0) n in
      let us = children (child q 0) n in
      let same = Same at_ (functions z.parts z.result) (functions ts t) in
      let first = all_left (Meets v) asks _ (subst (Solves v) (before_turn (asks ++ same ∷ []) ts) s) in
      ap (λ (l : List Item). in_turn l us)
      (two (λ (xs ys : List Item). xs ++ ys) (asked_same known more grows v o c at_ at_ (child p 1) (child q 1) first)
      (ap (λ (y : Shape). Same at_ (functions y.parts y.result) (functions us u) ∷ [])
      (shape_same known more grows v o c at_ (child p 1) (child q 1) first)))
  plan_stays (RecordOf xs) n ms ns ks cs here pos p q t u s = refl
  plan_stays (Access x) n ms ns ks cs here pos p q t u s = refl
  plan_stays (Update xs) n ms ns ks cs here pos p q t u s = refl
  plan_stays Negate n ms ns ks cs here pos p q t u s = refl
  plan_stays (Binary at_ op) n ms ns ks cs here pos p q t u s = refl

  before_solved : (es : Exprs) (l : Plan) (scope : Scope) (here : Pos) (p : Place)
      → Solves v (part_items es l scope here p) → Solves v l.before
  before_solved NoExpr l scope here p s = s
  before_solved (MoreExpr e es) l scope here p s = all_left (Meets v) l.before _ s

  -- ---- expressions

  mutual
    pub stays : (e : Expr) → Stays (items e)
    stays (Is (literal.Int n)) ms ns ks cs here pos p q t u alike s = refl
    stays (Is (literal.Char c)) ms ns ks cs here pos p q t u alike s = refl
    stays (Is (literal.Text l)) ms ns ks cs here pos p q t u alike s = refl
    stays (NameOf x) ms ns ks cs here pos p q t u alike s =
        ap (λ o. use_items o pos q u) (groups.use_same known more grows v x ms ns ks cs here p t alike s)
    stays (Accessor x) ms ns ks cs here pos p q t u alike s = refl
    stays (Lambda rs e) ms ns ks cs here pos p q t u alike s =
        function_stays rs (items e) (stays e) ms ns ks cs here pos p q t u alike s
    stays (Apply f es) ms ns ks cs here pos p q t u alike s =
        let ts = children (child p 1) (count_exprs es) in
        let us = children (child q 1) (count_exprs es) in
        let front = items f (less ms ks) here (child p 0) (functions ts t) in
        two (λ (xs ys : List Item). xs ++ ys)
        (stays f ms ns ks cs here pos (child p 0) (child q 0) (functions ts t) (functions us u) alike
        (all_left (Meets v) front _ s))
        (each_stays es ms ns ks cs here pos (child p 1) (child q 1) 0 0 ts us alike (all_right (Meets v) front _ s))
    stays (Strict op es) ms ns ks cs here pos p q t u alike s =
        let n = count_exprs es in
        let earlier = plan op n (less ms ks) here p t in
        parts_stay es earlier (plan op n (less ns cs) pos q u) ms ns ks cs here pos (child p 0) (child q 0) alike s
        ∙ ap (λ (l : Plan). part_items es l (wide ns cs) pos (child q 0))
        (plan_stays op n ms ns ks cs here pos p q t u (before_solved es earlier (less ms ks) here (child p 0) s))
    stays (If c a b) ms ns ks cs here pos p q t u alike s =
        let first = items c (less ms ks) here (child p 0) bool_type in
        let second = items a (less ms ks) here (child p 1) t in
        let rest = all_right (Meets v) first _ s in
        two (λ (xs ys : List Item). xs ++ ys)
        (stays c ms ns ks cs here pos (child p 0) (child q 0) bool_type bool_type alike (all_left (Meets v) first _ s))
        (two (λ (xs ys : List Item). xs ++ ys)
        (stays a ms ns ks cs here pos (child p 1) (child q 1) t u alike (all_left (Meets v) second _ rest))
        (stays b ms ns ks cs here pos (child p 2) (child q 2) t u alike (all_right (Meets v) second _ rest)))
    stays (Logical place op a b) ms ns ks cs here pos p q t u alike s =
        let first = items a (less ms ks) here (child p 0) (at (child p 0)) in
        let both = functions (at (child q 0) ∷ at (child q 1) ∷ []) u in
        ap (λ (l : List Item). Same place (functions (bool_type ∷ bool_type ∷ []) bool_type) both ∷ l)
        (two (λ (xs ys : List Item). xs ++ ys)
        (stays a ms ns ks cs here pos (child p 0) (child q 0) (at (child p 0)) (at (child q 0)) alike
        (all_left (Meets v) first _ s.1))
        (stays b ms ns ks cs here pos (child p 1) (child q 1) (at (child p 1)) (at (child q 1)) alike
        (all_right (Meets v) first _ s.1)))
    stays (Let gs e) ms ns ks cs here pos p q t u alike s =
        let ds = definitions gs in
        let front = (list_definitions ds (less ms ks) (child p 0)).items in
        let turn = groups.definitions_turn known more grows v ds (definitions_steady gs) ms ks (child p 0)
        (all_left (Meets v) front _ s) ns cs (child q 0) alike in
        let body = subst (λ (z : Scope). Solves v (items e z here (child p 1) t)) turn.first
        (all_right (Meets v) front _ s) in
        two (λ (xs ys : List Item). xs ++ ys) turn.same
        (ap (λ (z : Scope). items e z pos (child q 1) u) turn.second
        ∙ (stays e turn.earlier turn.after ks cs here pos (child p 1) (child q 1) t u turn.alike body
        ∙ sym (ap (λ (z : Scope). items e z pos (child q 1) u) turn.third)))
    stays (Case e bs) ms ns ks cs here pos p q t u alike s =
        let front = items e (less ms ks) here (child p 0) (at (child p 0)) in
        two (λ (xs ys : List Item). xs ++ ys)
        (stays e ms ns ks cs here pos (child p 0) (child q 0) (at (child p 0)) (at (child q 0)) alike
        (all_left (Meets v) front _ s))
        (branches_stay bs ms ns ks cs here pos (child p 1) (child q 1) 0 0 (at (child p 0)) (at (child q 0)) t u alike
        (all_right (Meets v) front _ s))
    stays (Located place e) ms ns ks cs here pos p q t u alike s =
        stays e ms ns ks cs place place p q t u alike s

    each_stays : (es : Exprs) (ms ns : Entries) (ks cs : Constants) (here pos : Pos) (p q : Place) (i j : ℕ)
        (ts us : List Wanted) → Alike ms ns → Solves v (each_items es (less ms ks) here p i ts)
        → each_items es (less ns cs) pos q j us ≡ each_items es (wide ns cs) pos q j us
    each_stays NoExpr ms ns ks cs here pos p q i j ts [] alike s = refl
    each_stays NoExpr ms ns ks cs here pos p q i j ts (u ∷ us) alike s = refl
    each_stays (MoreExpr e es) ms ns ks cs here pos p q i j ts [] alike s = refl
    each_stays (MoreExpr e es) ms ns ks cs here pos p q i j [] (u ∷ us) alike s = no_nonsense v here s
    each_stays (MoreExpr e es) ms ns ks cs here pos p q i j (t ∷ ts) (u ∷ us) alike s =
        let front = items e (less ms ks) here (child p i) t in
        two (λ (xs ys : List Item). xs ++ ys)
        (stays e ms ns ks cs here pos (child p i) (child q j) t u alike (all_left (Meets v) front _ s))
        (each_stays es ms ns ks cs here pos p q (i + 1) (j + 1) ts us alike (all_right (Meets v) front _ s))

    parts_stay : (es : Exprs) (k l : Plan) (ms ns : Entries) (ks cs : Constants) (here pos : Pos) (p q : Place)
        → Alike ms ns → Solves v (part_items es k (less ms ks) here p)
        → part_items es l (less ns cs) pos q ≡ part_items es l (wide ns cs) pos q
    parts_stay NoExpr k l ms ns ks cs here pos p q alike s = refl
    parts_stay (MoreExpr e es) k l ms ns ks cs here pos p q alike s =
        let front = items e (less ms ks) here (child p 0) k.first in
        let rest = all_right (Meets v) k.before _ s in
        let others = all_right (Meets v) k.between _ (all_right (Meets v) front _ rest) in
        ap (λ (x : List Item). l.before ++ x)
        (two (λ (xs ys : List Item). xs ++ ys)
        (stays e ms ns ks cs here pos (child p 0) (child q 0) k.first l.first alike (all_left (Meets v) front _ rest))
        (ap (λ (x : List Item). l.between ++ (x ++ l.after))
        (each_stays es ms ns ks cs here pos p q 1 1 k.rest l.rest alike
        (all_left (Meets v) (each_items es (less ms ks) here p 1 k.rest) _ others))))

    branches_stay : (bs : Branches) (ms ns : Entries) (ks cs : Constants) (here pos : Pos) (p q : Place) (i j : ℕ)
        (a b t u : Wanted) → Alike ms ns → Solves v (branch_items bs (less ms ks) here p i a t)
        → branch_items bs (less ns cs) pos q j b u ≡ branch_items bs (wide ns cs) pos q j b u
    branches_stay NoBranch ms ns ks cs here pos p q i j a b t u alike s = refl
    branches_stay (MoreBranch r e bs) ms ns ks cs here pos p q i j a b t u alike s =
        let first = pattern_items r known here (child (child p i) 0) a in
        let bound = pattern_names r known (child (child p i) 0) a ms in
        let names = pattern_names r known (child (child q j) 0) b ns in
        let body = items e (less bound ks) here (child (child p i) 1) t in
        let solved = all_left (Meets v) first _ s in
        let rest = all_right (Meets v) first _ s in
        two (λ (xs ys : List Item). xs ++ ys)
        (pattern_same known more grows v r here pos (child (child p i) 0) (child (child q j) 0) a b solved)
        (two (λ (xs ys : List Item). xs ++ ys)
        (stays e bound names ks cs here pos (child (child p i) 1) (child (child q j) 1) t u
        (names_alike known r (child (child p i) 0) (child (child q j) 0) a b ms ns alike)
        (all_left (Meets v) body _ rest)
        ∙ ap (λ (l : Entries). items e (wide l cs) pos (child (child q j) 1) u)
        (names_same known more grows v r here (child (child p i) 0) (child (child q j) 0) a b ns solved))
        (branches_stay bs ms ns ks cs here pos p q (i + 1) (j + 1) a b t u alike (all_right (Meets v) body _ rest)))

    pub definitions_steady : (gs : Groups) → AllSteady (definitions gs)
    definitions_steady NoGroup = tt
    definitions_steady (MoreGroup g gs) =
        all_both Steady (group_definitions g) (definitions gs) (group_steady g) (definitions_steady gs)

    pub group_steady : (g : Group) → AllSteady (group_definitions g)
    group_steady (Together fs) = functions_steady fs
    group_steady (Constant title e) =
        (titled_steady title (used e) (function_items NoPattern (items e)) (function_stays NoPattern (items e) (stays e)), tt)
    group_steady (Destructure r e) = (
      record {
        list = λ ms ns ks cs p q t u alike s.
            let start = pattern_start nowhere r in
            let first = pattern_items r known start (child p 0) t in
            two (λ (xs ys : List Item). xs ++ ys)
            (pattern_same known more grows v r start start (child p 0) (child q 0) t u (all_left (Meets v) first _ s))
            (stays e ms ns ks cs start start (child p 1) (child q 1) t u alike (all_right (Meets v) first _ s));
        types = λ ms ks p q t u s.
            let start = pattern_start nowhere r in
            names_same known more grows v r start (child p 0) (child q 0) t u []
            (all_left (Meets v) (pattern_items r known start (child p 0) t) _ s);
        names = λ p q t u. names_alike known r (child p 0) (child q 0) t u [] [] tt;
      },
      tt,
    )

    functions_steady : (fs : Functions) → AllSteady (function_definitions fs)
    functions_steady NoFunction = tt
    functions_steady (MoreFunction title rs e fs) = (
      titled_steady title (used e) (function_items rs (items e)) (function_stays rs (items e) (stays e)),
      functions_steady fs,
    )
