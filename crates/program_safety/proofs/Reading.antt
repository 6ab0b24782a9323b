-- What a tree is, as its first sign tells: `pattern_reads`, `reads` and `group_reads`; and of parts that have an end,
-- `patterns_read` and `each_reads`.
use Rattle.std.proofs.Common.{◌≡◌, ℕ, pos, List, [], ◌∷◌, ◌++◌, Bool, true, false, refl, sym, ap, subst, ◌∙◌}
use Rattle.std.proofs.Common.{eqb-true, append_assoc, append-nil}
use Rattle.std.specs.Prelude.{codes, nat_eq, if◌then◌else◌}
use Rattle.std.specs.Cmp.Lexicographic.{same_text}
use Rattle.std.proofs.lemmas.Bool.{and_parts}
use Rattle.elm_base.specs.declared.position.Pos.{Pos}
use Rattle.elm_canon.specs.Names.{Name, same_name}
use Rattle.elm_canon.specs.declared.reference.Ref.TheVariants.{Local, Top}
use Rattle.elm_canon.specs.declared.unions.Alternative.{Alternative}
use Rattle.elm_canon.specs.declared.unions.Tag.{Tag}
use Rattle.elm_canon.specs.declared.unions.Tag.TheVariants.{Number, Truth, Blank}
use Rattle.elm_canon.specs.Unions.{Union, TupleUnion, ListUnion, Declared}
use Rattle.elm_canon.specs.Tree.{Pattern, Named, Construct, LocatedPattern, Patterns, NoPattern, MorePattern, Build}
use Rattle.elm_canon.specs.Tree.{Expr, NameOf, Lambda, Apply, Strict, Case, Located, Exprs, NoExpr, MoreExpr}
use Rattle.elm_canon.specs.Tree.{NoBranch, MoreBranch, Title, Group, Together, Constant, Destructure, NoFunction}
use Rattle.elm_canon.specs.Tree.{MoreFunction}
use Rattle.elm_meaning.specs.Seen.{same_tag}
use Rattle.elm_canon.specs.Maps.{bare, bare_pattern}
use Rattle.core_modules.specs.declared.port_faults_sign.Sign.{Sign}
use Rattle.core_modules.specs.declared.port_faults_sign.Sign.TheVariants as sign
use Rattle.core_modules.specs.declared.port_faults_sign.Form.TheVariants as form
use Rattle.core_modules.specs.declared.port_faults_sign.Port.{Port}
use Rattle.core_modules.specs.declared.port_faults_sign.Port.TheVariants as port
use Rattle.core_modules.specs.Makers.{is_maker, are_makers, is_declared, has_makers, is_command, is_subscription}
use Rattle.core_modules.specs.Makers.{is_port_maker, maker_sign, taken_sign, built_sign}
use Rattle.core_modules.specs.PortFaultsSigns.{end, ends, pattern_signs, patterns_signs, signs, exprs_signs, group_signs}

-- ---- constructors of commands and subscriptions

-- the constructor x, with that number and so many fields
abbrev pub maker : Name → ℕ → ℕ → Alternative
maker x number fields = record { name = x; tag = Number (pos number); arity = fields }

abbrev pub batch : Alternative
batch = maker (codes "Batch") 1 1

-- type y of the module home = x a b | Batch a
abbrev pub union_of : Name → Name → Name → Union
union_of home y x = Declared home y (maker x 0 2 ∷ batch ∷ [])

abbrev pub commands : Union
commands = union_of (codes "Platform.Cmd") (codes "Cmd") (codes "Send")

abbrev pub subscriptions : Union
subscriptions = union_of (codes "Platform.Sub") (codes "Sub") (codes "Listen")

abbrev pub send : Alternative
send = maker (codes "Send") 0 2

abbrev pub listen : Alternative
listen = maker (codes "Listen") 0 2

one_tag : (t : Tag) (n : ℕ) → same_tag t (Number (pos n)) ≡ true → t ≡ Number (pos n)
one_tag (Number (pos m)) n e = ap (λ i. Number (pos i)) (eqb-true m n e)
one_tag (Number m) n e = absurd cc
one_tag (Truth b) n e = absurd cc
one_tag Blank n e = absurd cc

one_maker : (x : Name) (number fields : ℕ) (c : Alternative) → is_maker x number fields c ≡ true
    → c ≡ maker x number fields
one_maker x number fields c e =
    let p = and_parts (same_name c.name x) _ e in
    let q = and_parts (same_tag c.tag (Number (pos number))) (nat_eq c.arity fields) p.1 in
    ap (λ z. record { name = z; tag = c.tag; arity = c.arity }) (same_text c.name x (sym p.0))
    ∙ ap (λ t. record { name = x; tag = t; arity = c.arity }) (one_tag c.tag number q.0)
    ∙ ap (λ n. record { name = x; tag = Number (pos number); arity = n }) (eqb-true c.arity fields q.1)

both_makers : (x : Name) (cs : List Alternative) → are_makers x cs ≡ true → cs ≡ maker x 0 2 ∷ batch ∷ []
both_makers x (c ∷ d ∷ []) e =
    let p = and_parts (is_maker x 0 2 c) (is_maker (codes "Batch") 1 1 d) e in
    ap (λ a. a ∷ d ∷ []) (one_maker x 0 2 c p.0)
    ∙ ap (λ a. maker x 0 2 ∷ a ∷ []) (one_maker (codes "Batch") 1 1 d p.1)
both_makers x cs e = absurd cc

one_union : (home y x : Name) (u : Union) → is_declared home y u ≡ true → has_makers x u ≡ true
    → u ≡ union_of home y x
one_union home y x (TupleUnion n) e h = absurd cc
one_union home y x ListUnion e h = absurd cc
one_union home y x (Declared m z cs) e h =
    let p = and_parts (same_name m home) (same_name z y) e in
    ap (λ n. Declared n z cs) (same_text m home (sym p.0))
    ∙ ap (λ n. Declared home n cs) (same_text z y (sym p.1))
    ∙ ap (λ ds. Declared home y ds) (both_makers x cs h)

-- what the sign of a constructor tells of its union and of itself
abbrev pub Tells : Sign → Union → Alternative → Type 0
Tells (sign.Local x) u c = ⊥
Tells (sign.Named x) u c = ⊥
Tells (sign.Form form.Other) u c = Unit {0}
Tells (sign.Form f) u c = ⊥
Tells (sign.Port port.Wrong) u c = Unit {0}
Tells (sign.Port port.Sends) u c = (u ≡ commands) × (c ≡ send)
Tells (sign.Port port.Listens) u c = (u ≡ subscriptions) × (c ≡ listen)
Tells (sign.Port port.TakesSend) u c = (u ≡ commands) × (c ≡ send)
Tells (sign.Port port.TakesListen) u c = (u ≡ subscriptions) × (c ≡ listen)
Tells (sign.Port port.TakesCommands) u c = (u ≡ commands) × (c ≡ batch)
Tells (sign.Port port.TakesSubscriptions) u c = (u ≡ subscriptions) × (c ≡ batch)

chosen : (P : Sign → Type 0) (b : Bool) (x y : Sign) → (b ≡ true → P x) → (b ≡ false → P y)
    → P (if b then x else y)
chosen P true x y f g = f refl
chosen P false x y f g = g refl

-- by the constructors of a union of that name
told : (home y x : Name) (first second : Sign) (u : Union) (c : Alternative) → is_declared home y u ≡ true
    → ((u ≡ union_of home y x) × (c ≡ maker x 0 2) → Tells first u c)
    → ((u ≡ union_of home y x) × (c ≡ batch) → Tells second u c)
    → Tells (maker_sign x first second u c) u c
told home y x first second u c e f g =
    let P : Sign → Type 0 = λ s. Tells s u c in
    let inside : has_makers x u ≡ true → P _ = λ h.
    let is = one_union home y x u e h in
    chosen P (is_maker x 0 2 c) first _ (λ i. f (is, one_maker x 0 2 c i))
    (λ n. chosen P (is_maker (codes "Batch") 1 1 c) second (sign.Port port.Wrong)
    (λ i. g (is, one_maker (codes "Batch") 1 1 c i)) (λ o. tt)) in
    chosen P (has_makers x u) _ _ inside (λ n. tt)

taken : (u : Union) (c : Alternative) → Tells (taken_sign u c) u c
taken u c =
    let P : Sign → Type 0 = λ s. Tells s u c in
    chosen P (is_command u) _ _
    (λ e. told (codes "Platform.Cmd") (codes "Cmd") (codes "Send") (sign.Port port.TakesSend)
    (sign.Port port.TakesCommands) u c e (λ h. h) (λ h. h))
    (λ n. chosen P (is_subscription u) _ _
    (λ e. told (codes "Platform.Sub") (codes "Sub") (codes "Listen") (sign.Port port.TakesListen)
    (sign.Port port.TakesSubscriptions) u c e (λ h. h) (λ h. h))
    (λ o. tt))

built : (u : Union) (c : Alternative) → Tells (built_sign u c) u c
built u c =
    let P : Sign → Type 0 = λ s. Tells s u c in
    chosen P (is_command u) _ _
    (λ e. told (codes "Platform.Cmd") (codes "Cmd") (codes "Send") (sign.Port port.Sends) (sign.Form form.Other) u c e
    (λ h. h) (λ h. tt))
    (λ n. chosen P (is_subscription u) _ _
    (λ e. told (codes "Platform.Sub") (codes "Sub") (codes "Listen") (sign.Port port.Listens) (sign.Form form.Other)
    u c e (λ h. h) (λ h. tt))
    (λ o. tt))

-- ---- patterns

-- what the first sign tells of a pattern, where its signs are followed by k; the place where it begins is left out
abbrev pub PatternReads : Pattern → List Sign → List Sign → Type 0
PatternReads q k [] = ⊥
PatternReads q k (sign.Local x ∷ l) = ⊥
PatternReads q k (sign.Named x ∷ l) = (q ≡ Named x) × (k ≡ l)
PatternReads q k (sign.Form form.Other ∷ l) = Unit {0}
PatternReads q k (sign.Form f ∷ l) = ⊥
PatternReads q k (sign.Port s ∷ l) =
    (u : Union) × (c : Alternative) × (qs : Patterns) × (q ≡ Construct u c qs) × Tells (sign.Port s) u c
    × ((patterns_signs qs ++ ends u) ++ k ≡ l)

taken_apart : (u : Union) (c : Alternative) (qs : Patterns) (k : List Sign) (s : Sign) → Tells s u c
    → PatternReads (Construct u c qs) k (s ∷ ((patterns_signs qs ++ ends u) ++ k))
taken_apart u c qs k (sign.Form form.Other) h = tt
taken_apart u c qs k (sign.Port s) h = (u, c, qs, refl, h, refl)
taken_apart u c qs k s h = absurd h

pub pattern_reads : (q : Pattern) (k : List Sign) → PatternReads (bare_pattern q) k (pattern_signs q ++ k)
pattern_reads (Named x) k = (refl, refl)
pattern_reads (Construct u c qs) k = taken_apart u c qs k (taken_sign u c) (taken u c)
pattern_reads (LocatedPattern place q) k = pattern_reads q k
pattern_reads q k = tt

-- the same of patterns that are followed by an end and k
abbrev pub PatternsRead : Patterns → List Sign → List Sign → Type 0
PatternsRead qs k (sign.Named x ∷ l) =
    (q : Pattern) × (others : Patterns) × (qs ≡ MorePattern q others) × (bare_pattern q ≡ Named x)
    × (patterns_signs others ++ end ∷ k ≡ l)
PatternsRead qs k (sign.Form form.End ∷ l) = (qs ≡ NoPattern) × (k ≡ l)
PatternsRead qs k s = Unit {0}

more_patterns : (q : Pattern) (qs : Patterns) (k s : List Sign)
    → PatternReads (bare_pattern q) (patterns_signs qs ++ end ∷ k) s → PatternsRead (MorePattern q qs) k s
more_patterns q qs k (sign.Named x ∷ l) h = (q, qs, refl, h.0, h.1)
more_patterns q qs k (sign.Form form.End ∷ l) h = absurd h
more_patterns q qs k s h = tt

pub patterns_read : (qs : Patterns) (k : List Sign) → PatternsRead qs k (patterns_signs qs ++ end ∷ k)
patterns_read NoPattern k = (refl, refl)
patterns_read (MorePattern q qs) k =
    subst (PatternsRead (MorePattern q qs) k) (sym (append_assoc (pattern_signs q) (patterns_signs qs) (end ∷ k)))
    (more_patterns q qs k _ (pattern_reads q (patterns_signs qs ++ end ∷ k)))

-- ---- expressions

-- what is built, where its sign says so
abbrev pub ReadsBuild : Port → Expr → List Sign → List Sign → Type 0
ReadsBuild s e k l =
    (place : Pos) × (u : Union) × (c : Alternative) × (es : Exprs) × (e ≡ Strict (Build place u c) es)
    × Tells (sign.Port s) u c × (exprs_signs es ++ end ∷ k ≡ l)

-- what the first sign tells of an expression, where its signs are followed by k
abbrev pub Reads : Expr → List Sign → List Sign → Type 0
Reads e k [] = ⊥
Reads e k (sign.Local x ∷ l) = (e ≡ NameOf (Local x)) × (k ≡ l)
Reads e k (sign.Named x ∷ l) = ⊥
Reads e k (sign.Form form.Other ∷ l) = Unit {0}
Reads e k (sign.Form form.End ∷ l) = ⊥
Reads e k (sign.Form form.Lambda ∷ l) =
    (q : Pattern) × (body : Expr) × (e ≡ Lambda (MorePattern q NoPattern) body)
    × (pattern_signs q ++ (signs body ++ k) ≡ l)
Reads e k (sign.Form form.Apply ∷ l) =
    (f : Expr) × (es : Exprs) × (e ≡ Apply f es) × (signs f ++ (exprs_signs es ++ end ∷ k) ≡ l)
Reads e k (sign.Form form.Two ∷ l) =
    (d : Expr) × (q : Pattern) × (a : Expr) × (r : Pattern) × (b : Expr)
    × (e ≡ Case d (MoreBranch q a (MoreBranch r b NoBranch)))
    × (signs d ++ (pattern_signs q ++ (signs a ++ (pattern_signs r ++ (signs b ++ k)))) ≡ l)
Reads e k (sign.Form form.Alone ∷ l) = ⊥
Reads e k (sign.Port port.Wrong ∷ l) = Unit {0}
Reads e k (sign.Port s ∷ l) = ReadsBuild s e k l

built_there : (place : Pos) (u : Union) (c : Alternative) (es : Exprs) (k l : List Sign) (s : Sign) → Tells s u c
    → exprs_signs es ++ end ∷ k ≡ l → Reads (Strict (Build place u c) es) k (s ∷ l)
built_there place u c es k l (sign.Form form.Other) h e = tt
built_there place u c es k l (sign.Port port.Wrong) h e = tt
built_there place u c es k l (sign.Port s) h e = (place, u, c, es, refl, h, e)
built_there place u c es k l s h e = absurd h

one_more : (us vs k : List Sign) → us ++ (vs ++ k) ≡ ((us ++ []) ++ vs) ++ k
one_more us vs k = sym (append_assoc (us ++ []) vs k ∙ ap (λ l. l ++ (vs ++ k)) (append-nil us))

with_end : (us vs k : List Sign) → us ++ (vs ++ end ∷ k) ≡ ((us ++ vs) ++ end ∷ []) ++ k
with_end us vs k = sym (append_assoc (us ++ vs) (end ∷ []) k ∙ append_assoc us vs (end ∷ k))

two_branches : (d q a r b k : List Sign)
    → d ++ (q ++ (a ++ (r ++ (b ++ k)))) ≡ (d ++ ((q ++ a) ++ ((r ++ b) ++ []))) ++ k
two_branches d q a r b k =
    sym
    (append_assoc d ((q ++ a) ++ ((r ++ b) ++ [])) k
    ∙ ap (λ l. d ++ l)
    (append_assoc (q ++ a) ((r ++ b) ++ []) k ∙ append_assoc q a (((r ++ b) ++ []) ++ k)
    ∙ ap (λ l. q ++ (a ++ l)) (append_assoc (r ++ b) [] k ∙ append_assoc r b k)))

pub reads : (e : Expr) (k : List Sign) → Reads (bare e) k (signs e ++ k)
reads (NameOf (Local x)) k = (refl, refl)
reads (NameOf (Top m x)) k =
    chosen (λ s. Reads (NameOf (Top m x)) k (s ∷ k)) (is_port_maker m x) _ _ (λ e. tt) (λ e. tt)
reads (Lambda (MorePattern q NoPattern) e) k = (q, e, refl, one_more (pattern_signs q) (signs e) k)
reads (Apply f es) k = (f, es, refl, with_end (signs f) (exprs_signs es) k)
reads (Strict (Build place u c) es) k =
    built_there place u c es k _ (built_sign u c) (built u c) (sym (append_assoc (exprs_signs es) (end ∷ []) k))
reads (Case e (MoreBranch q a (MoreBranch r b NoBranch))) k =
    (e, q, a, r, b, refl, two_branches (signs e) (pattern_signs q) (signs a) (pattern_signs r) (signs b) k)
reads (Located place e) k = reads e k
reads e k = tt

-- the same of expressions that are followed by an end and k
abbrev pub EachReads : Exprs → List Sign → List Sign → Type 0
EachReads es k (sign.Form form.End ∷ l) = (es ≡ NoExpr) × (k ≡ l)
EachReads es k s =
    (e : Expr) × (others : Exprs) × (es ≡ MoreExpr e others) × (signs e ++ (exprs_signs others ++ end ∷ k) ≡ s)

more_exprs : (e : Expr) (es : Exprs) (k s : List Sign) → Reads (bare e) (exprs_signs es ++ end ∷ k) s
    → signs e ++ (exprs_signs es ++ end ∷ k) ≡ s → EachReads (MoreExpr e es) k s
more_exprs e es k (sign.Form form.End ∷ l) h is = absurd h
more_exprs e es k s h is = (e, es, refl, is)

pub each_reads : (es : Exprs) (k : List Sign) → EachReads es k (exprs_signs es ++ end ∷ k)
each_reads NoExpr k = (refl, refl)
each_reads (MoreExpr e es) k =
    subst (EachReads (MoreExpr e es) k) (sym (append_assoc (signs e) (exprs_signs es) (end ∷ k)))
    (more_exprs e es k _ (reads e (exprs_signs es ++ end ∷ k)) refl)

-- ---- definitions

-- a group is one function alone, where its first sign says so
abbrev pub GroupReads : Group → List Sign → Type 0
GroupReads g (sign.Form form.Alone ∷ l) =
    (title : Title) × (qs : Patterns) × (e : Expr) × (g ≡ Together (MoreFunction title qs e NoFunction))
    × (patterns_signs qs ++ end ∷ signs e ≡ l)
GroupReads g s = Unit {0}

-- no expression and no pattern begins with that sign
no_expr : (g : Group) (e : Expr) (k s : List Sign) → Reads e k s → GroupReads g s
no_expr g e k (sign.Form form.Alone ∷ l) h = absurd h
no_expr g e k s h = tt

no_pattern : (g : Group) (q : Pattern) (k s : List Sign) → PatternReads q k s → GroupReads g s
no_pattern g q k (sign.Form form.Alone ∷ l) h = absurd h
no_pattern g q k s h = tt

pub group_reads : (g : Group) → GroupReads g (group_signs g)
group_reads (Together NoFunction) = tt
group_reads (Together (MoreFunction title qs e NoFunction)) =
    (title, qs, e, refl, sym (append-nil (patterns_signs qs ++ end ∷ signs e)))
group_reads (Together (MoreFunction title qs e (MoreFunction t rs d fs))) = tt
group_reads (Constant title e) =
    no_expr (Constant title e) (bare e) [] _ (subst (Reads (bare e) []) (append-nil (signs e)) (reads e []))
group_reads (Destructure q e) = no_pattern (Destructure q e) (bare_pattern q) (signs e) _ (pattern_reads q (signs e))
