-- The uses of a program are allowed exactly if its names are bound.
use Rattle.std.proofs.Common.{◌≡◌, List, [], ◌∷◌, Bool, true, false, refl, ap, sym, ◌∙◌}
use Rattle.std.specs.Prelude.{◌&&◌, ◌||◌, not, if◌then◌else◌}
use Rattle.js_tree.specs.Tree.{Name, same_name, Js, JInt, JBool, JText, JVar, JArrow, JBlock, JCall, JBinary}
use Rattle.js_tree.specs.Tree.{JConditional, JObject, JProperty, JList, JHelper, JsList, NoJs, MoreJs, Fields, NoField}
use Rattle.js_tree.specs.Tree.{MoreField, Stmts, Const, Let, Assign, Return, If, While, Continue, Lines, NoLine}
use Rattle.js_tree.specs.Tree.{MoreLine, Program}
use Rattle.js_tree.specs.Tree.{declares}
use Rattle.js_tree.specs.Subset.{assigns, Fixed, may_assign, Scope, use_of, within, bound_in, with_declared, is_bound}
use Rattle.js_tree.specs.Subset.{list_bound, fields_bound, are_bound, lines_scope, lines_bound, is_program_bound}
use Rattle.js_scope.specs.Uses.{Uses, Nothing, Assigns, Both, Block, declared, uses, list_uses, fields_uses, block_uses}
use Rattle.js_scope.specs.Uses.{lines_uses, line_names, program_uses}
use Rattle.js_scope.specs.Walk.{is_fine}
use Rattle.js_scope.proofs.Names.{all, and-true, or-false}
use Rattle.js_scope.proofs.Marks.{among, is_assigned}
use Rattle.js_scope.proofs.Allowed.{with_scope, allowed, fine_from_nothing}

-- expressions assign nothing themselves
neither : (a b : Bool) → a ≡ false → b ≡ false → (a || b) ≡ false
neither a b p q = ap (λ t. t || b) p ∙ q

but_for : (a b : Bool) → a ≡ false → (a || b) ≡ b
but_for a b p = ap (λ t. t || b) p

mutual
  no_assignment : (e : Js) (x : Name) → is_assigned (uses e) x ≡ false
  no_assignment (JInt n) x = refl
  no_assignment (JBool b) x = refl
  no_assignment (JText us) x = refl
  no_assignment (JVar y) x = refl
  no_assignment (JArrow p s) x = refl
  no_assignment (JBlock s) x = refl
  no_assignment (JCall f a) x = neither _ _ (no_assignment a x) (no_assignment f x)
  no_assignment (JBinary op a b) x = neither _ _ (no_assignment b x) (no_assignment a x)
  no_assignment (JConditional c a b) x = neither _ _ (no_assignment b x) (neither _ _ (no_assignment a x) (no_assignment c x))
  no_assignment (JObject fs) x = fields_assign_nothing fs Nothing x
  no_assignment (JProperty e k) x = no_assignment e x
  no_assignment (JList es) x = list_assigns_nothing es Nothing x
  no_assignment (JHelper h es) x = list_assigns_nothing es Nothing x

  list_assigns_nothing : (es : JsList) (u : Uses) (x : Name) → is_assigned (list_uses es u) x ≡ is_assigned u x
  list_assigns_nothing NoJs u x = refl
  list_assigns_nothing (MoreJs e es) u x = list_assigns_nothing es (Both (uses e) u) x ∙ but_for (is_assigned (uses e) x) (is_assigned u x) (no_assignment e x)

  fields_assign_nothing : (fs : Fields) (u : Uses) (x : Name) → is_assigned (fields_uses fs u) x ≡ is_assigned u x
  fields_assign_nothing NoField u x = refl
  fields_assign_nothing (MoreField k e fs) u x = fields_assign_nothing fs (Both (uses e) u) x ∙ but_for (is_assigned (uses e) x) (is_assigned u x) (no_assignment e x)

lines_assign_nothing : (ls : Lines) (u : Uses) (x : Name) → is_assigned (lines_uses ls u) x ≡ is_assigned u x
lines_assign_nothing NoLine u x = refl
lines_assign_nothing (MoreLine y e ls) u x = lines_assign_nothing ls (Both (uses e) u) x ∙ but_for (is_assigned (uses e) x) (is_assigned u x) (no_assignment e x)

-- the names that a block declares
among_by : (t d a : Bool) → (if t then true else (d || a)) ≡ ((if t then true else d) || a)
among_by true d a = refl
among_by false d a = refl

among_declared : (x : Name) (s : Stmts) (names : List Name) → among x (declared s names) ≡ (declares x s || among x names)
among_declared x (Const y e s) names = ap (λ a. if same_name x y then true else a) (among_declared x s names) ∙ among_by (same_name x y) (declares x s) (among x names)
among_declared x (Let y e s) names = ap (λ a. if same_name x y then true else a) (among_declared x s names) ∙ among_by (same_name x y) (declares x s) (among x names)
among_declared x (Assign y e s) names = among_declared x s names
among_declared x (Return e) names = refl
among_declared x (If c s t) names = refl
among_declared x (While s) names = refl
among_declared x Continue names = refl

-- what statements assign
assign_first : (a t o : Bool) → (a || (t || o)) ≡ ((t || a) || o)
assign_first true true o = refl
assign_first true false o = refl
assign_first false true o = refl
assign_first false false o = refl

either_block : (a b o : Bool) → (b || (a || o)) ≡ ((a || b) || o)
either_block true true o = refl
either_block true false o = refl
either_block false true o = refl
either_block false false o = refl

inner_assigns : (s : Stmts) (x : Name) → is_assigned (block_uses s Nothing) x ≡ (assigns x s || false) → is_assigned (Block (declared s []) (block_uses s Nothing)) x ≡ (not (declares x s) && assigns x s)
inner_assigns s x h =
    ap (λ t. not t && is_assigned (block_uses s Nothing) x) (among_declared x s [] ∙ or-false (declares x s)) ∙ ap (λ t. not (declares x s) && t) (h ∙ or-false (assigns x s))

block_assigns : (s : Stmts) (u : Uses) (x : Name) → is_assigned (block_uses s u) x ≡ (assigns x s || is_assigned u x)
block_assigns (Const y e s) u x = block_assigns s (Both (uses e) u) x ∙ ap (λ t. assigns x s || t) (but_for (is_assigned (uses e) x) (is_assigned u x) (no_assignment e x))
block_assigns (Let y e s) u x = block_assigns s (Both (uses e) u) x ∙ ap (λ t. assigns x s || t) (but_for (is_assigned (uses e) x) (is_assigned u x) (no_assignment e x))
block_assigns (Assign y e s) u x =
    block_assigns s (Both (Assigns y) (Both (uses e) u)) x
    ∙ (ap (λ t. assigns x s || (same_name x y || t)) (but_for (is_assigned (uses e) x) (is_assigned u x) (no_assignment e x)) ∙ assign_first (assigns x s) (same_name x y) (is_assigned u x))
block_assigns (Return e) u x = but_for (is_assigned (uses e) x) (is_assigned u x) (no_assignment e x)
block_assigns (If c s t) u x =
    let a = not (declares x s) && assigns x s in
    let b = not (declares x t) && assigns x t in
    ap (λ k. k || (is_assigned (Block (declared s []) (block_uses s Nothing)) x || (is_assigned (uses c) x || is_assigned u x))) (inner_assigns t x (block_assigns t Nothing x))
    ∙ (ap (λ k. b || (k || (is_assigned (uses c) x || is_assigned u x))) (inner_assigns s x (block_assigns s Nothing x))
    ∙ (ap (λ k. b || (a || k)) (but_for (is_assigned (uses c) x) (is_assigned u x) (no_assignment c x)) ∙ either_block a b (is_assigned u x)))
block_assigns (While s) u x = ap (λ k. k || is_assigned u x) (inner_assigns s x (block_assigns s Nothing x))
block_assigns Continue u x = refl

-- the scope of a block
whole_assigns : (s : Stmts) → is_assigned (block_uses s Nothing) ≡ (λ x. assigns x s)
whole_assigns s = all (λ x. block_assigns s Nothing x ∙ or-false (assigns x s))

scope_declared : (s whole : Stmts) (names : List Name) (scope : Scope) → with_scope (λ x. assigns x whole) (declared s names) scope ≡ with_declared s whole (with_scope (λ x. assigns x whole) names scope)
scope_declared (Const y e s) whole names scope = ap (λ (t : Scope). bound_in whole y ∷ t) (scope_declared s whole names scope)
scope_declared (Let y e s) whole names scope = ap (λ (t : Scope). bound_in whole y ∷ t) (scope_declared s whole names scope)
scope_declared (Assign y e s) whole names scope = scope_declared s whole names scope
scope_declared (Return e) whole names scope = refl
scope_declared (If c s t) whole names scope = refl
scope_declared (While s) whole names scope = refl
scope_declared Continue whole names scope = refl

block_scope : (s : Stmts) (names : List Name) (scope : Scope)
    → with_scope (is_assigned (block_uses s Nothing)) (declared s names) scope ≡ with_declared s s (with_scope (λ x. assigns x s) names scope)
block_scope s names scope = ap (λ f. with_scope f (declared s names) scope) (whole_assigns s) ∙ scope_declared s s names scope

-- the order of tests does not count
turned : (l e u : Bool) → (l && (e && u)) ≡ ((e && l) && u)
turned true true u = refl
turned true false u = refl
turned false true u = refl
turned false false u = refl

turned_three : (l a e u : Bool) → (l && (a && (e && u))) ≡ ((a && (e && l)) && u)
turned_three true true true u = refl
turned_three true true false u = refl
turned_three true false e u = refl
turned_three false true true u = refl
turned_three false true false u = refl
turned_three false false e u = refl

turned_blocks : (t s c u : Bool) → (t && (s && (c && u))) ≡ ((c && (s && t)) && u)
turned_blocks true true true u = refl
turned_blocks true true false u = refl
turned_blocks true false true u = refl
turned_blocks true false false u = refl
turned_blocks false true true u = refl
turned_blocks false true false u = refl
turned_blocks false false true u = refl
turned_blocks false false false u = refl

two : {a b c d : Bool} → a ≡ c → b ≡ d → (a && b) ≡ (c && d)
two p q = cc

turn_two : (a b : Bool) → (b && a) ≡ (a && b)
turn_two true true = refl
turn_two true false = refl
turn_two false true = refl
turn_two false false = refl

turn_choice : (c a b : Bool) → (b && (a && c)) ≡ (c && (a && b))
turn_choice true true true = refl
turn_choice true true false = refl
turn_choice true false true = refl
turn_choice true false false = refl
turn_choice false true true = refl
turn_choice false true false = refl
turn_choice false false true = refl
turn_choice false false false = refl

mutual
  uses_bound : (e : Js) (scope : Scope) → allowed (uses e) scope ≡ is_bound scope e
  uses_bound (JInt n) scope = refl
  uses_bound (JBool b) scope = refl
  uses_bound (JText us) scope = refl
  uses_bound (JVar x) scope = refl
  uses_bound (JArrow p s) scope =
      ap (λ t. allowed (block_uses s Nothing) t) (block_scope s (p ∷ []) (within scope))
      ∙ (block_bound s Nothing (with_declared s s (bound_in s p ∷ within scope)) ∙ and-true (are_bound (with_declared s s (bound_in s p ∷ within scope)) s))
  uses_bound (JBlock s) scope =
      ap (λ t. allowed (block_uses s Nothing) t) (block_scope s [] (within scope))
      ∙ (block_bound s Nothing (with_declared s s (within scope)) ∙ and-true (are_bound (with_declared s s (within scope)) s))
  uses_bound (JCall f a) scope = two (uses_bound a scope) (uses_bound f scope) ∙ turn_two (is_bound scope f) (is_bound scope a)
  uses_bound (JBinary op a b) scope = two (uses_bound b scope) (uses_bound a scope) ∙ turn_two (is_bound scope a) (is_bound scope b)
  uses_bound (JConditional c a b) scope =
      two (uses_bound b scope) (two (uses_bound a scope) (uses_bound c scope)) ∙ turn_choice (is_bound scope c) (is_bound scope a) (is_bound scope b)
  uses_bound (JObject fs) scope = uses_of_fields_bound fs Nothing scope ∙ and-true (fields_bound scope fs)
  uses_bound (JProperty e k) scope = uses_bound e scope
  uses_bound (JList es) scope = uses_of_list_bound es Nothing scope ∙ and-true (list_bound scope es)
  uses_bound (JHelper h es) scope = uses_of_list_bound es Nothing scope ∙ and-true (list_bound scope es)

  uses_of_list_bound : (es : JsList) (u : Uses) (scope : Scope) → allowed (list_uses es u) scope ≡ (list_bound scope es && allowed u scope)
  uses_of_list_bound NoJs u scope = refl
  uses_of_list_bound (MoreJs e es) u scope =
      uses_of_list_bound es (Both (uses e) u) scope
      ∙ (ap (λ t. list_bound scope es && (t && allowed u scope)) (uses_bound e scope) ∙ turned (list_bound scope es) (is_bound scope e) (allowed u scope))

  uses_of_fields_bound : (fs : Fields) (u : Uses) (scope : Scope) → allowed (fields_uses fs u) scope ≡ (fields_bound scope fs && allowed u scope)
  uses_of_fields_bound NoField u scope = refl
  uses_of_fields_bound (MoreField k e fs) u scope =
      uses_of_fields_bound fs (Both (uses e) u) scope
      ∙ (ap (λ t. fields_bound scope fs && (t && allowed u scope)) (uses_bound e scope) ∙ turned (fields_bound scope fs) (is_bound scope e) (allowed u scope))

  block_bound : (s : Stmts) (u : Uses) (scope : Scope) → allowed (block_uses s u) scope ≡ (are_bound scope s && allowed u scope)
  block_bound (Const x e s) u scope =
      block_bound s (Both (uses e) u) scope ∙ (ap (λ t. are_bound scope s && (t && allowed u scope)) (uses_bound e scope) ∙ turned (are_bound scope s) (is_bound scope e) (allowed u scope))
  block_bound (Let x e s) u scope =
      block_bound s (Both (uses e) u) scope ∙ (ap (λ t. are_bound scope s && (t && allowed u scope)) (uses_bound e scope) ∙ turned (are_bound scope s) (is_bound scope e) (allowed u scope))
  block_bound (Assign x e s) u scope =
      let a = may_assign (use_of x scope) in
      block_bound s (Both (Assigns x) (Both (uses e) u)) scope
      ∙ (ap (λ t. are_bound scope s && (a && (t && allowed u scope))) (uses_bound e scope) ∙ turned_three (are_bound scope s) a (is_bound scope e) (allowed u scope))
  block_bound (Return e) u scope = ap (λ t. t && allowed u scope) (uses_bound e scope)
  block_bound (If c s t) u scope =
      let first = are_bound (with_declared s s scope) s in
      let second = are_bound (with_declared t t scope) t in
      ap (λ k. k && (allowed (Block (declared s []) (block_uses s Nothing)) scope && (allowed (uses c) scope && allowed u scope)))
      (ap (λ k. allowed (block_uses t Nothing) k) (block_scope t [] scope) ∙ (block_bound t Nothing (with_declared t t scope) ∙ and-true second))
      ∙ (ap (λ k. second && (k && (allowed (uses c) scope && allowed u scope)))
      (ap (λ k. allowed (block_uses s Nothing) k) (block_scope s [] scope) ∙ (block_bound s Nothing (with_declared s s scope) ∙ and-true first))
      ∙ (ap (λ k. second && (first && (k && allowed u scope))) (uses_bound c scope) ∙ turned_blocks second first (is_bound scope c) (allowed u scope)))
  block_bound (While s) u scope =
      ap (λ k. k && allowed u scope)
      (ap (λ k. allowed (block_uses s Nothing) k) (block_scope s [] scope)
      ∙ (block_bound s Nothing (with_declared s s scope) ∙ and-true (are_bound (with_declared s s scope) s)))
  block_bound Continue u scope = refl

-- a program
uses_of_lines_bound : (ls : Lines) (u : Uses) (scope : Scope) → allowed (lines_uses ls u) scope ≡ (lines_bound scope ls && allowed u scope)
uses_of_lines_bound NoLine u scope = refl
uses_of_lines_bound (MoreLine x e ls) u scope =
    uses_of_lines_bound ls (Both (uses e) u) scope
    ∙ (ap (λ t. lines_bound scope ls && (t && allowed u scope)) (uses_bound e scope) ∙ turned (lines_bound scope ls) (is_bound scope e) (allowed u scope))

names_of_lines : (ls : Lines) → with_scope (λ x. false) (line_names ls []) [] ≡ lines_scope ls
names_of_lines NoLine = refl
names_of_lines (MoreLine x e ls) = ap (λ (t : Scope). (x, Fixed) ∷ t) (names_of_lines ls)

turned_program : (i f m l : Bool) → (i && (f && (m && l))) ≡ (l && (m && (f && i)))
turned_program true true true true = refl
turned_program true true true false = refl
turned_program true true false true = refl
turned_program true true false false = refl
turned_program true false true true = refl
turned_program true false true false = refl
turned_program true false false true = refl
turned_program true false false false = refl
turned_program false true true true = refl
turned_program false true true false = refl
turned_program false true false true = refl
turned_program false true false false = refl
turned_program false false true true = refl
turned_program false false true false = refl
turned_program false false false true = refl
turned_program false false false false = refl

program_assigns_nothing : (p : Program) (x : Name)
    → is_assigned (Both (fields_uses p.ins Nothing) (Both (uses p.flags) (Both (uses p.main) (lines_uses p.lines Nothing)))) x ≡ false
program_assigns_nothing p x =
    neither _ _ (fields_assign_nothing p.ins Nothing x) (neither _ _ (no_assignment p.flags x) (neither _ _ (no_assignment p.main x) (lines_assign_nothing p.lines Nothing x)))

program_bound : (p : Program) → allowed (program_uses p) [] ≡ is_program_bound p
program_bound p =
    let scope = lines_scope p.lines in
    let u = Both (fields_uses p.ins Nothing) (Both (uses p.flags) (Both (uses p.main) (lines_uses p.lines Nothing))) in
    ap (λ t. allowed u t) (ap (λ f. with_scope f (line_names p.lines []) []) (all (λ x. program_assigns_nothing p x)) ∙ names_of_lines p.lines)
    ∙ (two (uses_of_fields_bound p.ins Nothing scope ∙ and-true (fields_bound scope p.ins)) (two (uses_bound p.flags scope) (two (uses_bound p.main scope) (uses_of_lines_bound p.lines Nothing scope ∙ and-true (lines_bound scope p.lines))))
    ∙ turned_program (fields_bound scope p.ins) (is_bound scope p.flags) (is_bound scope p.main) (lines_bound scope p.lines))

-- the walk over a program tells whether its names are bound
pub program_fine : (p : Program) → is_fine (program_uses p) 0 [] ≡ is_program_bound p
program_fine p = sym (fine_from_nothing (program_uses p)) ∙ program_bound p
