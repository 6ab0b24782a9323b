-- What may be done with names: in a block, in a function, and after patterns.
use Rattle.std.proofs.Common.{◌≡◌, ℕ, suc, List, [], ◌∷◌, ◌++◌, Bool, true, false, refl, sym, ap, ◌∙◌}
use Rattle.std.specs.Prelude.{if◌then◌else◌, ◌&&◌}
use Rattle.elm_canon.specs.Names as source
use Rattle.elm_canon.specs.declared.reference.Ref.{Ref}
use Rattle.elm_canon.specs.declared.reference.Ref.TheVariants as ref
use Rattle.elm_canon.specs.Names.{same_ref}
use Rattle.elm_canon.specs.Tree.{Pattern, Anything, Named, As, Exactly, Construct, FieldsOf, LocatedPattern, Patterns, NoPattern, MorePattern}
use Rattle.elm_canon.specs.Proper as proper
use Rattle.elm_canon.specs.Proper.{among, with_all, locals, bound_by, all_bound_by}
use Rattle.js_tree.specs.Tree.{Name, same_name, Js, JProperty, Stmts, Const, Let, Assign, Return, If, While, Continue, declares}
use Rattle.js_tree.specs.Subset.{Use, Fixed, Changing, may_read, may_assign, Scope, use_of, nested, within, with_declared, assigns, is_bound, are_bound}
use Rattle.js_emit.specs.Names.{js_name, part_name}
use Rattle.js_emit.specs.Patterns.{field_consts, consts, part_consts}
use Rattle.emit_laws.proofs.Names.{name_same, name_itself}
use Rattle.emit_laws.proofs.Envs.{js_same}

abbrev pub used_as : Bool → Use
used_as assigned = if assigned then Changing else Fixed

-- ---- blocks

pub use_declared : (y : Name) (s whole : Stmts) (names : Scope) → use_of y (with_declared s whole names) ≡ (if declares y s then used_as (assigns y whole) else use_of y names)
use_declared y (Const x e s) whole names = go (same_name y x) refl (use_declared y s whole names)
  where
    go : (t : Bool) → same_name y x ≡ t → use_of y (with_declared s whole names) ≡ (if declares y s then used_as (assigns y whole) else use_of y names) → (if t then used_as (assigns x whole) else use_of y (with_declared s whole names)) ≡ (if (if t then true else declares y s) then used_as (assigns y whole) else use_of y names)
    go true e rec = ap (λ z. used_as (assigns z whole)) (sym (name_same y x e))
    go false e rec = rec
use_declared y (Let x e s) whole names = go (same_name y x) refl (use_declared y s whole names)
  where
    go : (t : Bool) → same_name y x ≡ t → use_of y (with_declared s whole names) ≡ (if declares y s then used_as (assigns y whole) else use_of y names) → (if t then used_as (assigns x whole) else use_of y (with_declared s whole names)) ≡ (if (if t then true else declares y s) then used_as (assigns y whole) else use_of y names)
    go true e rec = ap (λ z. used_as (assigns z whole)) (sym (name_same y x e))
    go false e rec = rec
use_declared y (Assign x e s) whole names = use_declared y s whole names
use_declared y (Return e) whole names = refl
use_declared y (If c s t) whole names = refl
use_declared y (While s) whole names = refl
use_declared y Continue whole names = refl

-- a name that is fixed, and that the block does not assign
pub fixed_in_block : (y : Name) (s : Stmts) (names : Scope) → assigns y s ≡ false → use_of y names ≡ Fixed → use_of y (with_declared s s names) ≡ Fixed
fixed_in_block y s names none fixed = use_declared y s s names ∙ go (declares y s)
  where
    go : (t : Bool) → (if t then used_as (assigns y s) else use_of y names) ≡ Fixed
    go true = ap used_as none
    go false = fixed

pub fixed_declared : (y : Name) (s : Stmts) (names : Scope) → assigns y s ≡ false → declares y s ≡ true → use_of y (with_declared s s names) ≡ Fixed
fixed_declared y s names none is = use_declared y s s names ∙ ap (λ t. if t then used_as (assigns y s) else use_of y names) is ∙ ap used_as none

-- within a function a name that is fixed stays so
pub fixed_within : (x : Name) (names : Scope) → use_of x names ≡ Fixed → use_of x (within names) ≡ Fixed
fixed_within x [] h = absurd (cc)
fixed_within x (b ∷ bs) h = go (same_name x b.0) h (λ e. fixed_within x bs e)
  where
    go : (t : Bool) → (if t then b.1 else use_of x bs) ≡ Fixed → (use_of x bs ≡ Fixed → use_of x (within bs) ≡ Fixed) → (if t then nested b.1 else use_of x (within bs)) ≡ Fixed
    go true e others = ap nested e
    go false e others = others e

pub fixed_past : (y x : Name) (names : Scope) → use_of y names ≡ Fixed → use_of y ((x, Fixed) ∷ names) ≡ Fixed
fixed_past y x names e = go (same_name y x)
  where
    go : (t : Bool) → (if t then Fixed else use_of y names) ≡ Fixed
    go true = refl
    go false = e

pub fixed_first : (x : Name) (names : Scope) → use_of x ((x, Fixed) ∷ names) ≡ Fixed
fixed_first x names = ap (λ t. if t then Fixed else use_of x names) (name_itself x)

pub readable : (y : Name) (names : Scope) → use_of y names ≡ Fixed → may_read (use_of y names) ≡ true
readable y names e = ap may_read e

-- ---- what statements ask of the names

-- each name of the source in scope is fixed
abbrev pub Refs : Scope → proper.Scope → Type 0
Refs names scope = (r : Ref) → among r scope ≡ true → use_of (js_name r) names ≡ Fixed

-- the names that they assign may be, and those that they declare are fixed
pub record At (names : Scope) (scope : proper.Scope) (s : Stmts) : Type 0 where
  pub refs : Refs names scope
  pub writes : (y : Name) → assigns y s ≡ true → may_assign (use_of y names) ≡ true
  pub declared : (y : Name) → declares y s ≡ true → use_of y names ≡ Fixed

-- ---- names of the source, as a list

abbrev pub named : List Ref → Name → Bool
named [] y = false
named (x ∷ xs) y = if same_name y (js_name x) then true else named xs y

pub named_more : (xs ys : List Ref) (y : Name) (b : Bool) → (if named (xs ++ ys) y then true else b) ≡ (if named xs y then true else (if named ys y then true else b))
named_more [] ys y b = refl
named_more (x ∷ xs) ys y b = go (same_name y (js_name x)) (named_more xs ys y b)
  where
    go : (t : Bool) → (if named (xs ++ ys) y then true else b) ≡ (if named xs y then true else (if named ys y then true else b)) → (if (if t then true else named (xs ++ ys) y) then true else b) ≡ (if (if t then true else named xs y) then true else (if named ys y then true else b))
    go true rec = refl
    go false rec = rec

-- a name in the wider scope is one of these, or was in scope
pub in_with_all : (xs : List Ref) (scope : proper.Scope) (r : Ref) {A : Type 0} → among r (with_all xs scope) ≡ true → (named xs (js_name r) ≡ true → A) → (among r scope ≡ true → A) → A
in_with_all [] scope r is here there = there is
in_with_all (x ∷ xs) scope r {A} is here there =
    in_with_all xs (x ∷ scope) r is (λ e. here (later (same_name (js_name r) (js_name x)) e)) (λ e. go (same_ref r x) refl e)
  where
    later : (t : Bool) → named xs (js_name r) ≡ true → (if t then true else named xs (js_name r)) ≡ true
    later true e = refl
    later false e = e

    go : (t : Bool) → same_ref r x ≡ t → (if t then true else among r scope) ≡ true → A
    go true e is = here (ap (λ t. if t then true else named xs (js_name r)) (ap (λ z. same_name z (js_name x)) (js_same r x e) ∙ name_itself (js_name x)))
    go false e is = there is

-- ---- patterns

pub assigns_fields : (xs : List source.Name) (path : Js) (s : Stmts) (y : Name) → assigns y (field_consts xs path s) ≡ assigns y s
assigns_fields [] path s y = refl
assigns_fields (x ∷ xs) path s y = assigns_fields xs path s y

mutual
  pub assigns_consts : (p : Pattern) (path : Js) (s : Stmts) (y : Name) → assigns y (consts p path s) ≡ assigns y s
  assigns_consts Anything path s y = refl
  assigns_consts (Named x) path s y = refl
  assigns_consts (As p x) path s y = assigns_consts p path _ y
  assigns_consts (Exactly l) path s y = refl
  assigns_consts (Construct u a ps) path s y = assigns_parts 0 ps path s y
  assigns_consts (FieldsOf xs) path s y = assigns_fields xs path s y
  assigns_consts (LocatedPattern place p) path s y = assigns_consts p path s y

  assigns_parts : (i : ℕ) (ps : Patterns) (path : Js) (s : Stmts) (y : Name) → assigns y (part_consts i ps path s) ≡ assigns y s
  assigns_parts i NoPattern path s y = refl
  assigns_parts i (MorePattern p ps) path s y = assigns_consts p (JProperty path (part_name i)) (part_consts (suc i) ps path s) y ∙ assigns_parts (suc i) ps path s y

declares_fields : (xs : List source.Name) (path : Js) (s : Stmts) (y : Name) → declares y (field_consts xs path s) ≡ (if named (locals xs) y then true else declares y s)
declares_fields [] path s y = refl
declares_fields (x ∷ xs) path s y = go (same_name y (js_name (ref.Local x))) (declares_fields xs path s y)
  where
    go : (t : Bool) → declares y (field_consts xs path s) ≡ (if named (locals xs) y then true else declares y s) → (if t then true else declares y (field_consts xs path s)) ≡ (if (if t then true else named (locals xs) y) then true else declares y s)
    go true rec = refl
    go false rec = rec

one_name : (y : Name) (x : Ref) (b : Bool) → (if same_name y (js_name x) then true else b) ≡ (if (if same_name y (js_name x) then true else false) then true else b)
one_name y x b = go (same_name y (js_name x))
  where
    go : (t : Bool) → (if t then true else b) ≡ (if (if t then true else false) then true else b)
    go true = refl
    go false = refl

mutual
  pub declares_consts : (p : Pattern) (path : Js) (s : Stmts) (y : Name) → declares y (consts p path s) ≡ (if named (bound_by p) y then true else declares y s)
  declares_consts Anything path s y = refl
  declares_consts (Named x) path s y = one_name y (ref.Local x) (declares y s)
  declares_consts (As p x) path s y =
      declares_consts p path (Const (js_name (ref.Local x)) path s) y ∙ ap (λ t. if named (bound_by p) y then true else t) (one_name y (ref.Local x) (declares y s))
      ∙ sym (named_more (bound_by p) (ref.Local x ∷ []) y (declares y s))
  declares_consts (Exactly l) path s y = refl
  declares_consts (Construct u a ps) path s y = declares_parts 0 ps path s y
  declares_consts (FieldsOf xs) path s y = declares_fields xs path s y
  declares_consts (LocatedPattern place p) path s y = declares_consts p path s y

  declares_parts : (i : ℕ) (ps : Patterns) (path : Js) (s : Stmts) (y : Name) → declares y (part_consts i ps path s) ≡ (if named (all_bound_by ps) y then true else declares y s)
  declares_parts i NoPattern path s y = refl
  declares_parts i (MorePattern p ps) path s y =
      declares_consts p (JProperty path (part_name i)) (part_consts (suc i) ps path s) y ∙ ap (λ t. if named (bound_by p) y then true else t) (declares_parts (suc i) ps path s y)
      ∙ sym (named_more (bound_by p) (all_bound_by ps) y (declares y s))

both : (a b : Bool) → a ≡ true → b ≡ true → (a && b) ≡ true
both true b e f = f
both false b e f = absurd (cc)

pub fields_bound_too : (xs : List source.Name) (path : Js) (s : Stmts) (names : Scope) → is_bound names path ≡ true → are_bound names s ≡ true → are_bound names (field_consts xs path s) ≡ true
fields_bound_too [] path s names e f = f
fields_bound_too (x ∷ xs) path s names e f = both (is_bound names path) (are_bound names (field_consts xs path s)) e (fields_bound_too xs path s names e f)

mutual
  -- the constants of a pattern read its path alone
  pub consts_bound : (p : Pattern) (path : Js) (s : Stmts) (names : Scope) → is_bound names path ≡ true → are_bound names s ≡ true → are_bound names (consts p path s) ≡ true
  consts_bound Anything path s names e f = f
  consts_bound (Named x) path s names e f = both (is_bound names path) (are_bound names s) e f
  consts_bound (As p x) path s names e f = consts_bound p path (Const (js_name (ref.Local x)) path s) names e (both (is_bound names path) (are_bound names s) e f)
  consts_bound (Exactly l) path s names e f = f
  consts_bound (Construct u a ps) path s names e f = parts_bound 0 ps path s names e f
  consts_bound (FieldsOf xs) path s names e f = fields_bound_too xs path s names e f
  consts_bound (LocatedPattern place p) path s names e f = consts_bound p path s names e f

  parts_bound : (i : ℕ) (ps : Patterns) (path : Js) (s : Stmts) (names : Scope) → is_bound names path ≡ true → are_bound names s ≡ true → are_bound names (part_consts i ps path s) ≡ true
  parts_bound i NoPattern path s names e f = f
  parts_bound i (MorePattern p ps) path s names e f = consts_bound p (JProperty path (part_name i)) (part_consts (suc i) ps path s) names e (parts_bound (suc i) ps path s names e f)

-- what stands after the constants of a pattern
pub after_consts : {names : Scope} {scope : proper.Scope} (p : Pattern) (path : Js) (s : Stmts) → At names scope (consts p path s) → At names (with_all (bound_by p) scope) s
after_consts {names} {scope} p path s at = record {
  refs = λ r is. in_with_all (bound_by p) scope r is (λ e. at.declared (js_name r) (declares_consts p path s (js_name r) ∙ ap (λ t. if t then true else declares (js_name r) s) e)) (λ e. at.refs r e);
  writes = λ y e. at.writes y (assigns_consts p path s y ∙ e);
  declared = λ y e. at.declared y (declares_consts p path s y ∙ go (named (bound_by p) y) (declares y s) e);
}
  where
    go : (t b : Bool) → b ≡ true → (if t then true else b) ≡ true
    go true b e = refl
    go false b e = e
