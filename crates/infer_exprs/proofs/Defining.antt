-- Definitions of groups, by the numbers of the groups and their own.
use Rattle.std.proofs.Common.{◌≡◌, ℕ, zero, suc, ◌<◌, List, [], ◌∷◌, ◌++◌, length, map, get_or, Some, None, true}
use Rattle.std.proofs.Common.{refl, sym, ap, ◌∙◌, subst, arith}
use Rattle.std.specs.Prelude.{slice_get, Option, option_map, is_some}
use Rattle.std.specs.Borrow.{Bor}
use Rattle.std.proofs.lemmas.Option.{slice_get-map}
use Rattle.std.proofs.lemmas.List.{length-map}
use Rattle.elm_base.specs.declared.position.Pos.{Pos}
use Rattle.elm_canon.specs.Tree.{Annotation, Expr, Title, Group, Together, Constant, Destructure}
use Rattle.elm_canon.specs.Tree.{Functions, NoFunction, MoreFunction, groups_of, functions_of, patterns_of}
use Rattle.elm_canon.specs.View.{FunctionView, title_view, group_view, function_view, expr_view, pattern_view}
use Rattle.elm_canon.specs.declared.tree.Group.{Group as Stored}
use Rattle.elm_canon.specs.declared.tree.Function.{Function}
use Rattle.elm_canon.specs.declared.tree.Title.{Title as StoredTitle}
use Rattle.elm_canon.proofs.Views as view
use Rattle.type_items.specs.Uses.{used}
use Rattle.type_items.specs.Definitions.{Definition}
use Rattle.type_items.specs.Expressions.{items, function_items, titled, function_definitions}
use Rattle.infer_types.specs.Once.{FieldsOnce}
use Rattle.infer_order.specs.Spots.{in_group, at_spot, has_titles}
use Rattle.infer_order.specs.Order.{TitleIs, IsTitled, IsDefinition, AreDefinitions}
use Rattle.infer_order.specs.declared.order.Definition.{Definition as Stands}
use Rattle.infer_exprs.specs.Titles.{title_list, titles_of, AnnotationOnce, AnnotationsOnce}
use Rattle.infer_patterns.specs.Once.{EachFieldsOnce}
use Rattle.infer_parts.specs.Formed.{WrittenOnce, Formed, FormedGroups, FormedGroup, FormedFunctions}
use Rattle.infer_parts.specs.Parts.{function_of}
use Rattle.infer_exprs.specs.First.{HasDefinition, StartsAt, IsAnnotated, IsPattern}
use Rattle.infer_exprs.proofs.Grouping.{some_same, at_number}

abbrev pub views : List (Bor Stored) → List Group
views gs = map (λ (g : Bor Stored). group_view g.now) gs

-- ---- a group that is there

in_length : {X : Type 0} (xs : List X) (i : ℕ) (x : X) → slice_get xs i ≡ Some x → i < length xs
in_length [] i x e = absurd cc
in_length (y ∷ ys) zero x e = omega arith
in_length (y ∷ ys) (suc i) x e = let h = in_length ys i x e in omega (arith, h)

pub some_there : {X : Type 0} (xs : List X) (i : ℕ) → is_some (slice_get xs i) ≡ true → i < length xs
some_there [] i e = absurd cc
some_there (y ∷ ys) zero e = omega arith
some_there (y ∷ ys) (suc i) e = let h = some_there ys i e in omega (arith, h)

spot_some : (o : Option Group) (i : ℕ) (d : Definition) → in_group o i ≡ Some d → is_some o ≡ true
spot_some None i d e = absurd cc
spot_some (Some g) i d e = refl

pub within : (gs : List (Bor Stored)) (g : ℕ) → is_some (slice_get (views gs) g) ≡ true → g < length gs
within gs g e =
    let h = some_there (views gs) g e in let l = length-map gs (λ (r : Bor Stored). group_view r.now) in omega
    (arith, h, l)

-- where a definition stands there is a group
pub spot_within : (gs : List (Bor Stored)) (g i : ℕ) (d : Definition) → at_spot (views gs) g i ≡ Some d → g < length gs
spot_within gs g i d e = within gs g (spot_some (slice_get (views gs) g) i d e)

pub group_there : (gs : List (Bor Stored)) (g : ℕ) (r d : Bor Stored) → g < length gs → r ≡ get_or gs g d
    → slice_get (views gs) g ≡ Some (group_view r.now)
group_there gs g r d l e =
    slice_get-map (λ (x : Bor Stored). group_view x.now) gs g
    ∙ ap (option_map (λ (x : Bor Stored). group_view x.now)) (at_number gs g r d l e)

pub formed_there : (gs : List Group) (i : ℕ) (g : Group) → slice_get gs i ≡ Some g → FormedGroups (groups_of gs)
    → FormedGroup g
formed_there [] i g e h = absurd cc
formed_there (x ∷ xs) zero g e h = subst FormedGroup (some_same x g e) h.0
formed_there (x ∷ xs) (suc i) g e h = formed_there xs i g e h.1

-- ---- annotations

functions_once : (fs : Functions) (i : ℕ) (d : Definition) → FormedFunctions fs
    → slice_get (function_definitions fs) i ≡ Some d → WrittenOnce d.annotation
functions_once NoFunction i d h e = absurd cc
functions_once (MoreFunction title qs b fs) zero d h e =
    subst (λ (y : Definition). WrittenOnce y.annotation) (some_same _ d e) h.0
functions_once (MoreFunction title qs b fs) (suc i) d h e = functions_once fs i d h.1.1.1 e

pub group_once : (g : Group) (i : ℕ) (d : Definition) → FormedGroup g → in_group (Some g) i ≡ Some d
    → WrittenOnce d.annotation
group_once (Together fs) i d h e = functions_once fs i d h e
group_once (Constant title b) zero d h e = subst (λ (y : Definition). WrittenOnce y.annotation) (some_same _ d e) h.0
group_once (Constant title b) (suc i) d h e = absurd cc
group_once (Destructure p b) zero d h e = subst (λ (y : Definition). WrittenOnce y.annotation) (some_same _ d e) tt
group_once (Destructure p b) (suc i) d h e = absurd cc

spot_once : (gs : List Group) (o : Option Group) (g i : ℕ) (d : Definition) → slice_get gs g ≡ o
    → FormedGroups (groups_of gs) → in_group o i ≡ Some d → WrittenOnce d.annotation
spot_once gs None g i d there h e = absurd cc
spot_once gs (Some x) g i d there h e = group_once x i d (formed_there gs g x there h) e

pub annotation_once : (o : Option Annotation) → WrittenOnce o → AnnotationOnce o
annotation_once None h = tt
annotation_once (Some t) h = h

one_title : (gs : List Group) (x : Stands) (d : Definition) → FormedGroups (groups_of gs) → IsDefinition gs x d
    → AnnotationsOnce (title_list x.title)
one_title gs x d h is = go x.title refl
  where
    go : (o : Option (Bor StoredTitle)) → x.title ≡ o → AnnotationsOnce (title_list o)
    go None e = tt
    go (Some t) e =
        let named : IsTitled (title_view t.now) d = subst (λ z. TitleIs z d) e is.title in (
          subst AnnotationOnce (ap (λ (y : Definition). y.annotation) named.is)
              (annotation_once d.annotation (spot_once gs (slice_get gs x.group) x.group x.function d refl h is.at)),
          tt,
        )

both_once : (ts us : List Title) → AnnotationsOnce ts → AnnotationsOnce us → AnnotationsOnce (ts ++ us)
both_once [] us h k = k
both_once (t ∷ ts) us h k = (h.0, both_once ts us h.1 k)

pub titles_once : (gs : List Group) (xs : List Stands) (ds : List Definition) → FormedGroups (groups_of gs)
    → AreDefinitions gs xs ds → AnnotationsOnce (titles_of xs)
titles_once gs [] ds h are = tt
titles_once gs (x ∷ xs) [] h are = absurd are
titles_once gs (x ∷ xs) (d ∷ ds) h are =
    both_once (title_list x.title) (titles_of xs) (one_title gs x d h are.0) (titles_once gs xs ds h are.1)

pub annotated_once : (gs : List Group) (group : List Definition) (g i : ℕ) (place : Pos) (t : Annotation)
    → FormedGroups (groups_of gs) → IsAnnotated gs group g i place t → FieldsOnce t
annotated_once gs group g i place t h is =
    subst WrittenOnce is.annotation
    (spot_once gs (slice_get gs g) g i is.definition refl h is.at)

-- ---- which definition it is

pub has_there : (gs : List Group) (g i : ℕ) (x : Group) (d : Definition) → slice_get gs g ≡ Some x
    → at_spot gs g i ≡ Some d → has_titles (slice_get gs g) ≡ true → HasDefinition x i
has_there gs g i x d there at titled_ = record {
  definition = d;
  at = subst (λ o. in_group o i ≡ Some d) there at;
  titled = subst (λ o. has_titles o ≡ true) there titled_;
}

pub starts_there : (gs : List Group) (group : List Definition) (g : ℕ) (x : Group) (place : Pos)
    → slice_get gs g ≡ Some x → IsPattern gs group g place → StartsAt place x
starts_there gs group g x place there is =
    subst (StartsAt place) (some_same (Destructure is.pattern is.value) x (sym is.at ∙ there)) is.starts

-- ---- functions

function_definition : (fs : List FunctionView) (i : ℕ) (f : FunctionView) → slice_get fs i ≡ Some f
    → slice_get (function_definitions (functions_of fs)) i
    ≡ Some (titled f.0 (used f.2) (λ scope p v. function_items f.1 (items f.2) scope f.0.place p v))
function_definition [] i f e = absurd cc
function_definition (g ∷ gs) zero f e =
    ap (λ (h : FunctionView). Some (titled h.0 (used h.2)
    (λ scope p v. function_items h.1 (items h.2) scope h.0.place p v)))
    (some_same g f e)
function_definition (g ∷ gs) (suc i) f e = function_definition gs i f e

-- the list of a definition that is a function of the program
pub function_list : (fs : List Function) (i : ℕ) (f : Function) (d : Definition) → slice_get fs i ≡ Some f
    → slice_get (function_definitions (functions_of (map function_view fs))) i ≡ Some d
    → d.list ≡ (λ scope q w. function_of (map pattern_view f.parameters.items) (expr_view f.body.value) f.title.place scope q
    w)
function_list fs i f d e at =
    let there = slice_get-map function_view fs i ∙ ap (option_map function_view) e ∙ ap (λ v. Some v) (view.function f)
    in
    let same = some_same _ d (sym (function_definition (map function_view fs) i _ there) ∙ at) in
    ap (λ (y : Definition). y.list) (sym same)

pub constant_list : (t : StoredTitle) (e : Expr) (i : ℕ) (d : Definition)
    → in_group (Some (Constant (title_view t) e)) i ≡ Some d
    → d.list ≡ (λ scope q w. function_of [] e t.place scope q w)
constant_list t e zero d at = ap (λ (y : Definition). y.list) (sym (some_same _ d at))
constant_list t e (suc i) d at = absurd cc

-- what is asked of a function of a group
pub function_formed : (fs : List Function) (i : ℕ) (f : Function) → slice_get fs i ≡ Some f
    → FormedFunctions (functions_of (map function_view fs))
    → EachFieldsOnce (patterns_of (map pattern_view f.parameters.items)) × Formed (expr_view f.body.value)
function_formed [] i f e h = absurd cc
function_formed (g ∷ gs) zero f e h =
    let one = subst (λ (v : FunctionView). EachFieldsOnce v.1 × Formed v.2) (view.function g) (h.1.0, h.1.1.0) in
    subst (λ (k : Function). EachFieldsOnce (patterns_of (map pattern_view k.parameters.items)) × Formed
    (expr_view k.body.value))
    (some_same g f e) one
function_formed (g ∷ gs) (suc i) f e h = function_formed gs i f e h.1.1.1

-- and it is there
pub function_within : (fs : List FunctionView) (i : ℕ) (d : Definition)
    → slice_get (function_definitions (functions_of fs)) i ≡ Some d → i < length fs
function_within [] i d e = absurd cc
function_within (f ∷ fs) zero d e = omega arith
function_within (f ∷ fs) (suc i) d e = let h = function_within fs i d e in omega (arith, h)

-- groups by reference
pub views_now : (rs : List (Bor Stored)) → views rs ≡ map group_view (map (λ (r : Bor Stored). r.now) rs)
views_now [] = refl
views_now (r ∷ rs) = ap (λ l. group_view r.now ∷ l) (views_now rs)

pub refs_views : (rs : List (Bor Stored)) (gs : List Stored) → map (λ (r : Bor Stored). r.now) rs ≡ gs
    → views rs ≡ map group_view gs
refs_views rs gs e = views_now rs ∙ ap (map group_view) e

pub place_there : (gs : List Group) (group : List Definition) (g i : ℕ) (place : Pos) (t : Annotation) (x : Group)
    (d : Definition) → IsAnnotated gs group g i place t → slice_get gs g ≡ Some x → in_group (Some x) i ≡ Some d
    → place ≡ d.place
place_there gs group g i place t x d is there at =
    let same = some_same is.definition d (sym (subst (λ o. in_group o i ≡ Some is.definition) there is.at) ∙ at) in
    is.written ∙ ap (λ (y : Definition). y.place) same
