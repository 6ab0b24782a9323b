-- What patterns bind, as statements; and patterns that are a name.
use Rattle.std.proofs.Common.{◌≡◌, ℕ, suc, ◌<◌, List, [], ◌∷◌, ◌++◌, length, Option, Some, None, refl, sym, ap, ◌∙◌}
use Rattle.std.proofs.Common.{arith, map, take, drop, get_or, drop-cons, ◌+◌}
use Rattle.std.proofs.lemmas.List.{take_at}
use Rattle.elm_canon.specs.declared.tree.Pattern as declared
use Rattle.elm_canon.specs.Names.{Name}
use Rattle.elm_canon.specs.Tree.{Pattern, Anything, Named, As, Exactly, Construct, FieldsOf, LocatedPattern, Patterns}
use Rattle.elm_canon.specs.Tree.{NoPattern, MorePattern, patterns_of}
use Rattle.elm_canon.specs.View.{pattern_view, items_before, nil_pattern}
use Rattle.js_tree.specs.Tree.{Local, Made, Js, JVar, JProperty, Stmts, Const}
use Rattle.js_tree.specs.Postorder.{Before, NoStatement, ConstThen, statements_then}
use Rattle.js_emit.specs.Names.{part_name}
use Rattle.js_emit.specs.Patterns.{consts, part_consts, field_consts, made_one, parameter, parameter_consts}
use Rattle.decision_tree.specs.Before.{path_js, fields_before, consts_before, parts_before, own_name, parameter_before}

pub path_push : (e : Js) (is : List ℕ) (i : ℕ) → path_js e (is ++ i ∷ []) ≡ JProperty (path_js e is) (part_name i)
path_push e [] i = refl
path_push e (j ∷ is) i = path_push (JProperty e (part_name j)) is i

fields_law : (b : Before) (xs : List Name) (path : Js) (s : Stmts)
    → statements_then (fields_before b xs path) s ≡ statements_then b (field_consts xs path s)
fields_law b [] path s = refl
fields_law b (x ∷ xs) path s = fields_law (ConstThen b (Local x) (JProperty path x)) xs path s

mutual
  pub consts_law : (b : Before) (p : Pattern) (path : Js) (s : Stmts)
      → statements_then (consts_before b p path) s ≡ statements_then b (consts p path s)
  consts_law b Anything path s = refl
  consts_law b (Named x) path s = refl
  consts_law b (As p x) path s = consts_law b p path (Const (Local x) path s)
  consts_law b (Exactly l) path s = refl
  consts_law b (Construct u a ps) path s = parts_law b 0 ps path s
  consts_law b (FieldsOf xs) path s = fields_law b xs path s
  consts_law b (LocatedPattern place p) path s = consts_law b p path s

  parts_law : (b : Before) (i : ℕ) (ps : Patterns) (path : Js) (s : Stmts)
      → statements_then (parts_before b i ps path) s ≡ statements_then b (part_consts i ps path s)
  parts_law b i NoPattern path s = refl
  parts_law b i (MorePattern p ps) path s =
      parts_law (consts_before b p (JProperty path (part_name i))) (suc i) ps path s
      ∙ consts_law b p (JProperty path (part_name i)) (part_consts (suc i) ps path s)

-- ---- a name of its own

pub own_list : (ps : List Pattern) → own_name (items_before nil_pattern ps) ≡ None
own_list [] = refl
own_list (p ∷ ps) = refl

pub own_some : (rest : Pattern) (ps : List Pattern) → (length ps ≡ 0 → ⊥) → own_name (items_before rest ps) ≡ None
own_some rest [] h = absurd (h refl)
own_some rest (p ∷ ps) h = refl

pub own_rest : (rest : Pattern) (ps : List Pattern) → length ps ≡ 0 → own_name (items_before rest ps) ≡ own_name rest
own_rest rest [] h = refl
own_rest rest (p ∷ ps) h = absurd (omega (arith, h))

pub made_none : (p : Pattern) → own_name p ≡ None → made_one p ≡ 1
made_none Anything h = refl
made_none (Named x) h = absurd cc
made_none (As p x) h = refl
made_none (Exactly l) h = refl
made_none (Construct u a ps) h = refl
made_none (FieldsOf xs) h = refl
made_none (LocatedPattern place p) h = made_none p h

pub made_some : (p : Pattern) (x : Name) → own_name p ≡ Some x → made_one p ≡ 0
made_some Anything x h = absurd cc
made_some (Named y) x h = refl
made_some (As p y) x h = absurd cc
made_some (Exactly l) x h = absurd cc
made_some (Construct u a ps) x h = absurd cc
made_some (FieldsOf xs) x h = absurd cc
made_some (LocatedPattern place p) x h = made_some p x h

pub named_none : (d : ℕ) (p : Pattern) → own_name p ≡ None → parameter d p ≡ Made d
named_none d Anything h = refl
named_none d (Named x) h = absurd cc
named_none d (As p x) h = refl
named_none d (Exactly l) h = refl
named_none d (Construct u a ps) h = refl
named_none d (FieldsOf xs) h = refl
named_none d (LocatedPattern place p) h = named_none d p h

some_same : (x y : Name) → Some y ≡ Some x → Local y ≡ Local x
some_same x y h = cc

pub named_some : (d : ℕ) (p : Pattern) (x : Name) → own_name p ≡ Some x → parameter d p ≡ Local x
named_some d Anything x h = absurd cc
named_some d (Named y) x h = some_same x y h
named_some d (As p y) x h = absurd cc
named_some d (Exactly l) x h = absurd cc
named_some d (Construct u a ps) x h = absurd cc
named_some d (FieldsOf xs) x h = absurd cc
named_some d (LocatedPattern place p) x h = named_some d p x h

pub bound_none : (d : ℕ) (p : Pattern) (s : Stmts) → own_name p ≡ None
    → parameter_consts d p s ≡ consts p (JVar (Made d)) s
bound_none d Anything s h = refl
bound_none d (Named x) s h = absurd cc
bound_none d (As p x) s h = refl
bound_none d (Exactly l) s h = refl
bound_none d (Construct u a ps) s h = refl
bound_none d (FieldsOf xs) s h = refl
bound_none d (LocatedPattern place p) s h = bound_none d p s h

pub bound_some : (d : ℕ) (p : Pattern) (x : Name) (s : Stmts) → own_name p ≡ Some x → parameter_consts d p s ≡ s
bound_some d Anything x s h = absurd cc
bound_some d (Named y) x s h = refl
bound_some d (As p y) x s h = absurd cc
bound_some d (Exactly l) x s h = absurd cc
bound_some d (Construct u a ps) x s h = absurd cc
bound_some d (FieldsOf xs) x s h = absurd cc
bound_some d (LocatedPattern place p) x s h = bound_some d p x s h

-- the constants of a parameter, by whether it is a name
pub bound_law : (b : Before) (d : ℕ) (p : Pattern) (s : Stmts) → own_name p ≡ None
    → statements_then (consts_before b p (JVar (Made d))) s ≡ statements_then b (parameter_consts d p s)
bound_law b d p s h = consts_law b p (JVar (Made d)) s ∙ ap (statements_then b) (sym (bound_none d p s h))

by_name : (d : ℕ) (p : Pattern) (o : Option Name) (s : Stmts) → own_name p ≡ o
    → statements_then (parameter_before d p o) s ≡ parameter_consts d p s
by_name d p None s h = bound_law NoStatement d p s h
by_name d p (Some x) s h = sym (bound_some d p x s h)

pub parameter_law : (d : ℕ) (p : Pattern) (s : Stmts)
    → statements_then (parameter_before d p (own_name p)) s ≡ parameter_consts d p s
parameter_law d p s = by_name d p (own_name p) s refl

-- ---- one part more

back_from : (front long short : List ℕ) (n : ℕ) → long ≡ front ++ n ∷ [] → short ≡ take (length front) long → short ≡ front
back_from front long short n is cut = cut ∙ (ap (take (length front)) is ∙ take_at front (n ∷ []) (length front) refl)

pub back_to : (front pushed same short : List ℕ) (n depth : ℕ) → depth ≡ length front → pushed ≡ front ++ n ∷ []
    → same ≡ pushed → short ≡ take depth same → short ≡ front
back_to front pushed same short n depth at is back cut =
    back_from front same short n (back ∙ is) (cut ∙ ap (λ d. take d same) at)

pub part_step : (root : Js) (b after : Before) (xs : List declared.Pattern) (i : ℕ) (x : declared.Pattern) (front path : List ℕ)
    → i < length xs → get_or xs i x ≡ x → path ≡ front ++ i ∷ []
    → after ≡ consts_before b (pattern_view x) (path_js root path)
    → parts_before after (i + 1) (patterns_of (map pattern_view (drop (i + 1) xs))) (path_js root front)
    ≡ parts_before b i (patterns_of (map pattern_view (drop i xs))) (path_js root front)
part_step root b after xs i x front path h at is stands =
    let next : i + 1 ≡ suc i = omega arith in
    let e = path_js root front in
    let left = patterns_of (map pattern_view (drop (suc i) xs)) in
    ap (λ n. parts_before after n (patterns_of (map pattern_view (drop n xs))) e) next
    ∙ (ap (λ z. parts_before z (suc i) left e)
    (stands ∙ ap (consts_before b (pattern_view x)) (ap (path_js root) is ∙ path_push root front i))
    ∙ ap (λ zs. parts_before b i (patterns_of (map pattern_view zs)) e)
    (sym (drop-cons xs i x h ∙ ap (λ z. z ∷ drop (suc i) xs) at)))

pub item_step : (root : Js) (b after : Before) (xs : List declared.Pattern) (i : ℕ) (x : declared.Pattern) (rest : Pattern)
    (front path path-after : List ℕ)
    → i < length xs → get_or xs i x ≡ x → path ≡ front ++ 0 ∷ [] → path-after ≡ front ++ 1 ∷ []
    → after ≡ consts_before b (pattern_view x) (path_js root path)
    → consts_before after (items_before rest (map pattern_view (drop (i + 1) xs))) (path_js root path-after)
    ≡ consts_before b (items_before rest (map pattern_view (drop i xs))) (path_js root front)
item_step root b after xs i x rest front path path-after h at is is-after stands =
    let next : i + 1 ≡ suc i = omega arith in
    let e = path_js root front in
    let left = items_before rest (map pattern_view (drop (suc i) xs)) in
    ap (λ n. consts_before after (items_before rest (map pattern_view (drop n xs))) (path_js root path-after)) next
    ∙ (ap (consts_before after left) (ap (path_js root) is-after ∙ path_push root front 1)
    ∙ (ap (λ z. consts_before z left (JProperty e (part_name 1)))
    (stands ∙ ap (consts_before b (pattern_view x)) (ap (path_js root) is ∙ path_push root front 0))
    ∙ ap (λ zs. consts_before b (items_before rest (map pattern_view zs)) e)
    (sym (drop-cons xs i x h ∙ ap (λ z. z ∷ drop (suc i) xs) at))))
