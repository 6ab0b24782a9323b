-- What is made of lists that are held from the last item to the first: where one is empty, has one item, or is longer.
use Rattle.std.proofs.Common.{◌≡◌, ℕ, List, [], ◌∷◌, map, reverse, length, true, false, nat_eq, Option, None, Some}
use Rattle.std.proofs.Common.{option_map, refl, sym, ap, ◌∙◌, arith}
use Rattle.std.proofs.lemmas.Bool.Decides.{nat_tests}
use Rattle.std.proofs.lemmas.List.{length-reverse}
use Rattle.elm_lexer.specs.Tokens.{Token}
use Rattle.elm_tree.specs.Tree.{Pos, Word, TypeTree, FunctionType, TupleType, Expr, Apply, Chain, Access, TupleOf}
use Rattle.elm_tree.specs.Tree.{As, ConsPattern, TuplePattern, Definition, types_of, patterns_of, exprs_of}
use Rattle.elm_tree.specs.Tree.{parts_of}
use Rattle.elm_tree.specs.Words.{field_of}
use Rattle.elm_tree.specs.View as seen
use Rattle.elm_tree.specs.View.{NamedType, BranchView, WordExpr, token_view, word_view, place_view, fields_view}
use Rattle.elm_tree.specs.View.{type_step, field_type_step, type_view, field_type_view, pattern_view, patterns_view}
use Rattle.elm_tree.specs.View.{expr_step, definition_step, branch_step, part_step, expr_view, branch_view, part_view}
use Rattle.elm_tree.specs.declared.tree.Word as word
use Rattle.elm_tree.specs.declared.tree.TypeTree as type_tree
use Rattle.elm_tree.specs.declared.tree.FieldType as field_type
use Rattle.elm_tree.specs.declared.tree.Expr as expr
use Rattle.elm_tree.specs.declared.tree.Part as part
use Rattle.elm_tree.specs.declared.tree.Branch as branch
use Rattle.elm_tree.specs.declared.tree.Definition as definition
use Rattle.elm_tree.specs.declared.tree.TypeTree.TheOpen.{FieldType-F}
use Rattle.elm_tree.specs.declared.tree.TypeTree.TheViews.{roll-FieldType}
use Rattle.elm_tree.specs.declared.tree.TypeTree.TheFolds.{fold-roll-FieldType}
use Rattle.elm_tree.specs.declared.tree.Definition.TheOpen.{Branch-F, Part-F}
use Rattle.elm_tree.specs.declared.tree.Definition.TheViews.{roll-Branch, roll-Part}
use Rattle.elm_tree.specs.declared.tree.Definition.TheFolds.{fold-roll-Branch, fold-roll-Part}
use Rattle.elm_grammar.specs.Values.{applied, chained, arrows_of, accessed, conses_of, bracket_type, bracketed}
use Rattle.elm_grammar.specs.Values.{bracket_pattern, with_name, fields_from, record_expr, record_type, Begun, begun, patterns_in}
use Rattle.elm_values.specs.declared.value.Begun as value
use Rattle.elm_values.specs.Stack.{base_and_field, held, begun_view, first}

-- ---- empty or not

is_zero : (n : ℕ) → true ≡ nat_eq n 0 → n ≡ 0
is_zero n e = grind (arith, nat_tests)

is_more : (n : ℕ) → false ≡ nat_eq n 0 → n ≡ 0 → ⊥
is_more n e q = grind (arith, nat_tests)

no_item : {A B : Type 0} (f : A → B) (xs : List A) → length xs ≡ 0 → map f xs ≡ []
no_item f [] h = refl
no_item f (x ∷ xs) h = absurd (omega arith)

some_item : {A B : Type 0} (f : A → B) (xs : List A) → (length xs ≡ 0 → ⊥) → map f xs ≡ [] → ⊥
some_item f [] h e = h refl
some_item f (x ∷ xs) h e = cc

pub held_none : {A B : Type 0} (f : A → B) (xs : List A) {n : ℕ} → n ≡ length xs → true ≡ nat_eq n 0 → held f xs ≡ []
held_none f xs {n = n} e h = no_item f (reverse xs) (length-reverse xs ∙ (sym e ∙ is_zero n h))

pub held_some : {A B : Type 0} (f : A → B) (xs : List A) {n : ℕ} → n ≡ length xs → false ≡ nat_eq n 0 →
    held f xs ≡ [] → ⊥
held_some f xs {n = n} e h = some_item f (reverse xs) (λ q. is_more n h (e ∙ (sym (length-reverse xs) ∙ q)))

pub arrows_some : (t : TypeTree) (ts : List TypeTree) → (ts ≡ [] → ⊥) → FunctionType (types_of (t ∷ ts)) ≡ arrows_of t ts
arrows_some t [] h = absurd (h refl)
arrows_some t (u ∷ us) h = refl

pub applied_some : (f : Expr) (es : List Expr) → (es ≡ [] → ⊥) → Apply f (exprs_of es) ≡ applied f es
applied_some f [] h = absurd (h refl)
applied_some f (e ∷ es) h = refl

pub chained_some : (e : Expr) (ps : List (Word × Expr)) → (ps ≡ [] → ⊥) → Chain e (parts_of ps) ≡ chained e ps
chained_some e [] h = absurd (h refl)
chained_some e (p ∷ ps) h = refl

pub accessed_some : (place : Pos) (e : Expr) (xs : List Token) → (xs ≡ [] → ⊥) →
    Access place e (map field_of xs) ≡ accessed place e xs
accessed_some place e [] h = absurd (h refl)
accessed_some place e (x ∷ xs) h = refl

pub conses_some : (p : Begun) (ps : List Begun) → (ps ≡ [] → ⊥) →
    begun p.place (ConsPattern p.place (patterns_in (p ∷ ps))) ≡ conses_of p ps
conses_some p [] h = absurd (h refl)
conses_some p (q ∷ qs) h = refl

-- ---- one or not

not_one : {A B : Type 0} (f : A → B) (xs : List A) → ((x : A) → xs ≡ x ∷ [] → ⊥) → (y : B) → map f xs ≡ y ∷ [] → ⊥
not_one f [] h y e = cc
not_one f (x ∷ []) h y e = h x refl
not_one f (x ∷ z ∷ xs) h y e = cc

pub held_several : {A B : Type 0} (f : A → B) (xs : List A) → ((x : A) → reverse xs ≡ x ∷ [] → ⊥) → (y : B) →
    held f xs ≡ y ∷ [] → ⊥
held_several f xs h = not_one f (reverse xs) h

pub types_several : (ts : List TypeTree) → ((t : TypeTree) → ts ≡ t ∷ [] → ⊥) → TupleType (types_of ts) ≡ bracket_type ts
types_several [] h = refl
types_several (t ∷ []) h = absurd (h t refl)
types_several (t ∷ u ∷ us) h = refl

pub exprs_several : (place : Pos) (es : List Expr) → ((e : Expr) → es ≡ e ∷ [] → ⊥) →
    TupleOf place (exprs_of es) ≡ bracketed place es
exprs_several place [] h = refl
exprs_several place (e ∷ []) h = absurd (h e refl)
exprs_several place (e ∷ f ∷ es) h = refl

pub patterns_several : (place : Pos) (ps : List Begun) → ((p : Begun) → ps ≡ p ∷ [] → ⊥) →
    TuplePattern place (patterns_in ps) ≡ bracket_pattern place ps
patterns_several place [] h = refl
patterns_several place (p ∷ []) h = absurd (h p refl)
patterns_several place (p ∷ q ∷ ps) h = refl

-- ---- names after a first word

pub with_name_some : (tokens : List Token) (p : Begun) (x : word.Word) (xs : List word.Word) → Some x ≡ first xs →
    begun p.place (As p.place p.pattern (word_view tokens x)) ≡ with_name p (map (token_view tokens) xs)
with_name_some tokens p x [] h = cc
with_name_some tokens p x (y ∷ xs) h = cc

pub fields_seen_from : {A : Type 0} (tokens : List Token) (r : word.Word) (xs : List word.Word) (e : A) (fs : List (Word × A)) → (
  option_map (word_view tokens) (base_and_field r (first xs)).0,
  (word_view tokens (base_and_field r (first xs)).1, e) ∷ fs,
)
    ≡ fields_from (word_view tokens r) (map (token_view tokens) xs) e fs
fields_seen_from tokens r [] e fs = refl
fields_seen_from tokens r (x ∷ xs) e fs = refl

-- ---- views of what is made

pub fields_seen : (tokens : List Token) (xs : List word.Word) →
    fields_view tokens xs ≡ map field_of (map (token_view tokens) xs)
fields_seen tokens [] = refl
fields_seen tokens (x ∷ xs) = ap (λ z. field_of (token_view tokens x) ∷ z) (fields_seen tokens xs)

shapes_seen : (tokens : List Token) (bs : List value.Begun) →
    map (pattern_view tokens) (map (λ (b : value.Begun). b.pattern) bs)
    ≡ map (λ (p : Begun). p.pattern) (map (begun_view tokens) bs)
shapes_seen tokens [] = refl
shapes_seen tokens (b ∷ bs) = ap (λ z. pattern_view tokens b.pattern ∷ z) (shapes_seen tokens bs)

pub patterns_seen : (tokens : List Token) (bs : List value.Begun) →
    patterns_view tokens (map (λ (b : value.Begun). b.pattern) bs) ≡ patterns_in (map (begun_view tokens) bs)
patterns_seen tokens bs = ap patterns_of (shapes_seen tokens bs)

pub record_type_seen : (tokens : List Token) (base : Option word.Word) (fs : List (Word × TypeTree)) →
    seen.record_type tokens base fs ≡ record_type (option_map (word_view tokens) base, fs)
record_type_seen tokens None fs = refl
record_type_seen tokens (Some r) fs = refl

pub record_seen : (tokens : List Token) (x : word.Word) (base : Option word.Word) (fs : List (Word × Expr)) →
    seen.record_expr tokens x base fs ≡ record_expr (place_view tokens x) (option_map (word_view tokens) base, fs)
record_seen tokens x None fs = refl
record_seen tokens x (Some r) fs = refl

pub field_type_made : (tokens : List Token) (f : FieldType-F type_tree.TypeTree field_type.FieldType) →
    field_type_view tokens (roll-FieldType f) ≡ (word_view tokens f.name, type_view tokens f.field_type)
unfolding type_view field_type_view
field_type_made tokens f = fold-roll-FieldType TypeTree NamedType (type_step tokens) (field_type_step tokens) f

pub part_made : (tokens : List Token) (p : Part-F definition.Definition expr.Expr branch.Branch part.Part) →
    part_view tokens (roll-Part p) ≡ (word_view tokens p.word, expr_view tokens p.value)
unfolding expr_view part_view
part_made tokens p =
    fold-roll-Part Definition Expr BranchView WordExpr (definition_step tokens) (expr_step tokens) (branch_step tokens)
    (part_step tokens) p

pub branch_made : (tokens : List Token) (b : Branch-F definition.Definition expr.Expr branch.Branch part.Part) →
    branch_view tokens (roll-Branch b) ≡ (pattern_view tokens b.pattern, expr_view tokens b.body)
unfolding expr_view branch_view
branch_made tokens b =
    fold-roll-Branch Definition Expr BranchView WordExpr (definition_step tokens) (expr_step tokens)
    (branch_step tokens) (part_step tokens) b
