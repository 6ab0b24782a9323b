-- The conditions of the subset: names and texts that can be spelled, integers that are exact, each name bound where it
-- is used, and a name that is assigned in no function nested in its scope.
use Rattle.std.specs.Prelude.{ℕ, ◌^◌, List, [], ◌∷◌, map, Bool, true, false, if◌then◌else◌, ◌&&◌, ◌||◌, not, ◌==◌}
use Rattle.std.specs.Prelude.{nat_le, nat_lt}
use Rattle.std.specs.List.{list_all}
use Rattle.js_tree.specs.Tree.{Name, Top, Local, Made, same_name, Js, JInt, JBool, JText, JVar, JArrow, JBlock, JCall}
use Rattle.js_tree.specs.Tree.{JBinary, JConditional, JObject, JProperty, JList, JHelper, JsList, NoJs, MoreJs, Fields}
use Rattle.js_tree.specs.Tree.{NoField, MoreField, Stmts, Const, Let, Assign, Return, If, While, Continue, Lines}
use Rattle.js_tree.specs.Tree.{NoLine, MoreLine, Program, declares}
use Rattle.wire_value.specs.Exact.{is_exact}
use Rattle.js_tree.specs.Text.{is_word_char}

abbrev pub is_unit : ℕ → Bool
is_unit u = nat_lt u 65536

abbrev pub is_upper : ℕ → Bool
is_upper c = nat_le 65 c && nat_le c 90

abbrev pub is_letter : ℕ → Bool
is_letter c = is_upper c || nat_le 97 c && nat_le c 122

-- a unit that a name goes on with
abbrev pub is_name_unit : ℕ → Bool
is_name_unit u = is_word_char u || nat_le 128 u && is_unit u

-- a letter and what names go on with
abbrev pub is_word : List ℕ → Bool
is_word [] = false
is_word (u ∷ us) = is_letter u && list_all is_name_unit us

-- upper-case words that points (46) join; at_start: a word begins here
abbrev pub is_module : Bool → List ℕ → Bool
is_module at_start [] = not at_start
is_module true (u ∷ us) = is_upper u && is_module false us
is_module false (u ∷ us) = if u == 46 then is_module true us else is_name_unit u && is_module false us

-- a name that can be spelled; the number of one that was made fits 64 bits
abbrev pub is_name : Name → Bool
is_name (Top m x) = is_module true m && is_word x
is_name (Local x) = is_word x
is_name (Made n) = nat_lt n (2 ^ 64)

-- names and texts can be spelled, and integers are exact
abbrev mutual
  pub is_spelled : Js → Bool
  is_spelled (JInt n) = is_exact n
  is_spelled (JBool b) = true
  is_spelled (JText us) = list_all is_unit us
  is_spelled (JVar x) = is_name x
  is_spelled (JArrow p s) = is_name p && are_spelled s
  is_spelled (JBlock s) = are_spelled s
  is_spelled (JCall f a) = is_spelled f && is_spelled a
  is_spelled (JBinary op a b) = is_spelled a && is_spelled b
  is_spelled (JConditional c a b) = is_spelled c && (is_spelled a && is_spelled b)
  is_spelled (JObject fs) = fields_spelled fs
  is_spelled (JProperty e k) = is_spelled e && list_all is_unit k
  is_spelled (JList es) = list_spelled es
  is_spelled (JHelper h es) = list_spelled es

  pub list_spelled : JsList → Bool
  list_spelled NoJs = true
  list_spelled (MoreJs e es) = is_spelled e && list_spelled es

  pub fields_spelled : Fields → Bool
  fields_spelled NoField = true
  fields_spelled (MoreField k e fs) = list_all is_unit k && (is_spelled e && fields_spelled fs)

  pub are_spelled : Stmts → Bool
  are_spelled (Const x e s) = is_name x && (is_spelled e && are_spelled s)
  are_spelled (Let x e s) = is_name x && (is_spelled e && are_spelled s)
  are_spelled (Assign x e s) = is_name x && (is_spelled e && are_spelled s)
  are_spelled (Return e) = is_spelled e
  are_spelled (If c s t) = is_spelled c && (are_spelled s && are_spelled t)
  are_spelled (While s) = are_spelled s
  are_spelled Continue = true

abbrev pub lines_spelled : Lines → Bool
lines_spelled NoLine = true
lines_spelled (MoreLine x e ls) = is_name x && (is_spelled e && lines_spelled ls)

abbrev pub is_program_spelled : Program → Bool
is_program_spelled p =
    lines_spelled p.lines && (is_spelled p.main && (list_all is_unit p.name && (is_spelled p.flags && (fields_spelled p.ins
    && list_all (λ o. list_all is_unit o) p.outs))))

-- the statements assign the name, in no function, and in no block of theirs that declares it
abbrev pub assigns : Name → Stmts → Bool
assigns x (Const y e s) = assigns x s
assigns x (Let y e s) = assigns x s
assigns x (Assign y e s) = same_name x y || assigns x s
assigns x (Return e) = false
assigns x (If c s t) = not (declares x s) && assigns x s || not (declares x t) && assigns x t
assigns x (While s) = not (declares x s) && assigns x s
assigns x Continue = false

-- what may be done with a name: it is bound and assigned nowhere in the function that binds it; it is assigned there;
-- it is so in a function round this one; nothing binds it
pub data Use : Type 0 where
  Fixed : Use
  Changing : Use
  Beyond : Use
  Unbound : Use

abbrev pub may_read : Use → Bool
may_read Fixed = true
may_read Changing = true
may_read _ = false

abbrev pub may_assign : Use → Bool
may_assign Changing = true
may_assign _ = false

-- names, the innermost first
abbrev pub Scope : Type 0
Scope = List (Name × Use)

abbrev pub use_of : Name → Scope → Use
use_of x [] = Unbound
use_of x (b ∷ bs) = if same_name x b.0 then b.1 else use_of x bs

-- within a function nested in the scope
abbrev pub nested : Use → Use
nested Changing = Beyond
nested u = u

abbrev pub within : Scope → Scope
within scope = map (λ b. (b.0, nested b.1)) scope

-- a name as its scope, these statements, uses it
abbrev pub bound_in : Stmts → Name → Name × Use
bound_in s x = (x, (if assigns x s then Changing else Fixed))

-- the names that statements declare, before the others; whole: the block that they belong to
abbrev pub with_declared : Stmts → Stmts → Scope → Scope
with_declared (Const x e s) whole scope = bound_in whole x ∷ with_declared s whole scope
with_declared (Let x e s) whole scope = bound_in whole x ∷ with_declared s whole scope
with_declared (Assign x e s) whole scope = with_declared s whole scope
with_declared _ whole scope = scope

-- each name is bound in the scope, and one that is assigned occurs in no function nested in its own
abbrev mutual
  pub is_bound : Scope → Js → Bool
  is_bound scope (JInt n) = true
  is_bound scope (JBool b) = true
  is_bound scope (JText us) = true
  is_bound scope (JVar x) = may_read (use_of x scope)
  is_bound scope (JArrow p s) = are_bound (with_declared s s (bound_in s p ∷ within scope)) s
  is_bound scope (JBlock s) = are_bound (with_declared s s (within scope)) s
  is_bound scope (JCall f a) = is_bound scope f && is_bound scope a
  is_bound scope (JBinary op a b) = is_bound scope a && is_bound scope b
  is_bound scope (JConditional c a b) = is_bound scope c && (is_bound scope a && is_bound scope b)
  is_bound scope (JObject fs) = fields_bound scope fs
  is_bound scope (JProperty e k) = is_bound scope e
  is_bound scope (JList es) = list_bound scope es
  is_bound scope (JHelper h es) = list_bound scope es

  pub list_bound : Scope → JsList → Bool
  list_bound scope NoJs = true
  list_bound scope (MoreJs e es) = is_bound scope e && list_bound scope es

  pub fields_bound : Scope → Fields → Bool
  fields_bound scope NoField = true
  fields_bound scope (MoreField k e fs) = is_bound scope e && fields_bound scope fs

  -- statements of a block that the scope has the names of
  pub are_bound : Scope → Stmts → Bool
  are_bound scope (Const x e s) = is_bound scope e && are_bound scope s
  are_bound scope (Let x e s) = is_bound scope e && are_bound scope s
  are_bound scope (Assign x e s) = may_assign (use_of x scope) && (is_bound scope e && are_bound scope s)
  are_bound scope (Return e) = is_bound scope e
  are_bound scope (If c s t) = is_bound scope c && (are_bound (with_declared s s scope) s && are_bound (with_declared t t scope) t)
  are_bound scope (While s) = are_bound (with_declared s s scope) s
  are_bound scope Continue = true

abbrev pub lines_scope : Lines → Scope
lines_scope NoLine = []
lines_scope (MoreLine x e ls) = (x, Fixed) ∷ lines_scope ls

abbrev pub lines_bound : Scope → Lines → Bool
lines_bound scope NoLine = true
lines_bound scope (MoreLine x e ls) = is_bound scope e && lines_bound scope ls

-- the constants bind their names in all lines
abbrev pub is_program_bound : Program → Bool
is_program_bound p =
    let scope = lines_scope p.lines in
    lines_bound scope p.lines && (is_bound scope p.main && (is_bound scope p.flags && fields_bound scope p.ins))

-- the program is in the subset
abbrev pub in_subset : Program → Bool
in_subset p = is_program_spelled p && is_program_bound p
