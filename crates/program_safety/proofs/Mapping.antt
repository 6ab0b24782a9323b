-- Declarations that are spelled as `map` of Platform.Cmd or of Platform.Sub: `command_kept`, `subscription_kept`.
use Rattle.std.proofs.Common.{◌≡◌, List, [], ◌∷◌, ◌++◌, true, false, inl, inr, refl, sym, ap, subst, ◌∙◌}
use Rattle.std.proofs.Common.{append_assoc, append-nil}
use Rattle.std.specs.Prelude.{codes}
use Rattle.std.specs.List.{list_all, AllByRecursion}
use Rattle.elm_base.specs.declared.position.Pos.{Pos}
use Rattle.elm_canon.specs.Names.{Name, same_name}
use Rattle.elm_canon.specs.declared.reference.Ref.TheVariants.{Local}
use Rattle.elm_canon.specs.declared.unions.Alternative.{Alternative}
use Rattle.elm_canon.specs.Unions.{Union}
use Rattle.elm_canon.specs.Tree.{Pattern, Named, Construct, LocatedPattern, Patterns, NoPattern, MorePattern, Build}
use Rattle.elm_canon.specs.Tree.{Expr, NameOf, Lambda, Apply, Strict, Case, Located, Exprs, NoExpr, MoreExpr}
use Rattle.elm_canon.specs.Tree.{NoBranch, MoreBranch, Title, Group, Together, NoFunction, MoreFunction}
use Rattle.elm_canon.specs.Mentions.{PatternTakes}
use Rattle.canon_env.specs.Uses.{expr_uses, exprs_uses, group_uses}
use Rattle.elm_canon.specs.Maps.{bare, bare_pattern, Carrying, IsAfter, IsMapping, MapsCommands}
use Rattle.elm_canon.specs.Maps.{MapsSubscriptions, Rebuilds}
use Rattle.elm_canon.specs.Obeys.{Obeys, GroupObeys}
use Rattle.program_safety.specs.Ports.{IsUnported, IsUnsent}
use Rattle.program_safety.specs.Leaving.{IsSmallUse}
use Rattle.core_modules.specs.declared.port_faults_sign.Sign.{Sign}
use Rattle.core_modules.specs.declared.port_faults_sign.Sign.TheVariants as sign
use Rattle.core_modules.specs.declared.port_faults_sign.Form.TheVariants as form
use Rattle.core_modules.specs.declared.port_faults_sign.Port.{Port}
use Rattle.core_modules.specs.declared.port_faults_sign.Port.TheVariants as port
use Rattle.core_modules.specs.PortFaultsSigns.{end, ends, pattern_signs, patterns_signs, signs, exprs_signs, group_signs}
use Rattle.core_modules.specs.Faults.{is_free, command_map, subscription_map}
use Rattle.program_safety.proofs.Free.{free_expr, uses_both}
use Rattle.program_safety.proofs.Reading.{commands, subscriptions, send, listen, batch, maker, union_of, Tells}
use Rattle.program_safety.proofs.Reading.{PatternReads, pattern_reads, PatternsRead, patterns_read, Reads, reads, EachReads}
use Rattle.program_safety.proofs.Reading.{each_reads, ReadsBuild, GroupReads, group_reads}

-- ---- names

-- patterns that are one name, or two, and are followed by an end and k
abbrev OneName : Patterns → List Sign → Name → List Sign → Type 0
OneName qs k x l = (q : Pattern) × (qs ≡ MorePattern q NoPattern) × (bare_pattern q ≡ Named x) × (k ≡ l)

one_name : (qs : Patterns) (k l : List Sign) (x : Name) → patterns_signs qs ++ end ∷ k ≡ sign.Named x ∷ end ∷ l
    → OneName qs k x l
one_name qs k l x e =
    let a : PatternsRead qs k (sign.Named x ∷ end ∷ l) = subst (PatternsRead qs k) e (patterns_read qs k) in
    let b : PatternsRead a.1 k (end ∷ l) = subst (PatternsRead a.1 k) a.4 (patterns_read a.1 k) in
    (a.0, a.2 ∙ ap (MorePattern a.0) b.0, a.3, b.1)

abbrev TwoNames : Patterns → List Sign → Name → Name → List Sign → Type 0
TwoNames qs k x y l =
    (q : Pattern) × (r : Pattern) × (qs ≡ MorePattern q (MorePattern r NoPattern)) × (bare_pattern q ≡ Named x)
    × (bare_pattern r ≡ Named y) × (k ≡ l)

two_names : (qs : Patterns) (k l : List Sign) (x y : Name)
    → patterns_signs qs ++ end ∷ k ≡ sign.Named x ∷ sign.Named y ∷ end ∷ l → TwoNames qs k x y l
two_names qs k l x y e =
    let a : PatternsRead qs k (sign.Named x ∷ sign.Named y ∷ end ∷ l) =
    subst (PatternsRead qs k) e (patterns_read qs k) in
    let b = one_name a.1 k l y a.4 in
    (a.0, b.0, a.2 ∙ ap (MorePattern a.0) b.1, a.3, b.2, b.3)

-- ---- constructors

-- what is taken apart, where the sign s stands for the constructor d of the union v
abbrev Takes : Pattern → List Sign → Union → Alternative → List Sign → Type 0
Takes q k v d l = (qs : Patterns) × (bare_pattern q ≡ Construct v d qs) × (patterns_signs qs ++ end ∷ k ≡ l)

takes : (q : Pattern) (k l : List Sign) (s : Port) (v : Union) (d : Alternative)
    → ((u : Union) (c : Alternative) → Tells (sign.Port s) u c → (u ≡ v) × (c ≡ d)) → ends v ≡ end ∷ []
    → pattern_signs q ++ k ≡ sign.Port s ∷ l → Takes q k v d l
takes q k l s v d tells one e =
    let a : PatternReads (bare_pattern q) k (sign.Port s ∷ l) =
    subst (PatternReads (bare_pattern q) k) e (pattern_reads q k) in
    let b = tells a.0 a.1 a.4 in (
      a.2,
      a.3 ∙ ap (λ u. Construct u a.1 a.2) b.0 ∙ ap (λ c. Construct v c a.2) b.1,
      sym (append_assoc (patterns_signs a.2) (end ∷ []) k)
          ∙ ap (λ n. (patterns_signs a.2 ++ n) ++ k) (sym (ap ends b.0 ∙ one)) ∙ a.5,
    )

-- the first of expressions is a name
abbrev FirstName : Exprs → List Sign → Name → List Sign → Type 0
FirstName es k x l =
    (e : Expr) × (others : Exprs) × (es ≡ MoreExpr e others) × (bare e ≡ NameOf (Local x))
    × (exprs_signs others ++ end ∷ k ≡ l)

first_name : (es : Exprs) (k l : List Sign) (x : Name) → exprs_signs es ++ end ∷ k ≡ sign.Local x ∷ l
    → FirstName es k x l
first_name es k l x e =
    let a : EachReads es k (sign.Local x ∷ l) = subst (EachReads es k) e (each_reads es k) in
    let rest = exprs_signs a.1 ++ end ∷ k in
    let b : Reads (bare a.0) rest (sign.Local x ∷ l) = subst (Reads (bare a.0) rest) a.3 (reads a.0 rest) in
    (a.0, a.1, a.2, b.0, b.1)

-- no expression is left
no_more : (es : Exprs) (k l : List Sign) → exprs_signs es ++ end ∷ k ≡ end ∷ l → (es ≡ NoExpr) × (k ≡ l)
no_more es k l e = subst (EachReads es k) e (each_reads es k)

alone : (es others : Exprs) (e : Expr) → es ≡ MoreExpr e others → others ≡ NoExpr → es ≡ MoreExpr e NoExpr
alone es others e h is = h ∙ ap (MoreExpr e) is

-- a name alone
abbrev OnlyName : Exprs → List Sign → Name → List Sign → Type 0
OnlyName es k x l = (e : Expr) × (es ≡ MoreExpr e NoExpr) × (bare e ≡ NameOf (Local x)) × (k ≡ l)

only_name : (es : Exprs) (k l : List Sign) (x : Name) → exprs_signs es ++ end ∷ k ≡ sign.Local x ∷ end ∷ l
    → OnlyName es k x l
only_name es k l x e =
    let a = first_name es k (end ∷ l) x e in
    let b = no_more a.1 k l a.4 in
    (a.0, alone es a.1 a.0 a.2 b.0, a.3, b.1)

-- the first of expressions applies a function
abbrev FirstCall : Exprs → List Sign → List Sign → Type 0
FirstCall es k l =
    (e : Expr) × (others : Exprs) × (es ≡ MoreExpr e others)
    × (signs e ++ (exprs_signs others ++ end ∷ k) ≡ sign.Form form.Apply ∷ l)

first_call : (es : Exprs) (k l : List Sign) → exprs_signs es ++ end ∷ k ≡ sign.Form form.Apply ∷ l → FirstCall es k l
first_call es k l e = subst (EachReads es k) e (each_reads es k)

-- a function of that name is applied
abbrev Calls : Expr → List Sign → Name → List Sign → Type 0
Calls e k x l =
    (f : Expr) × (es : Exprs) × (bare e ≡ Apply f es) × (bare f ≡ NameOf (Local x))
    × (exprs_signs es ++ end ∷ k ≡ l)

calls : (e : Expr) (k l : List Sign) (x : Name) → signs e ++ k ≡ sign.Form form.Apply ∷ sign.Local x ∷ l
    → Calls e k x l
calls e k l x h =
    let a : Reads (bare e) k (sign.Form form.Apply ∷ sign.Local x ∷ l) = subst (Reads (bare e) k) h (reads e k) in
    let rest = exprs_signs a.1 ++ end ∷ k in
    let b : Reads (bare a.0) rest (sign.Local x ∷ l) = subst (Reads (bare a.0) rest) a.3 (reads a.0 rest) in
    (a.0, a.1, a.2, b.0, b.1)

one_argument : (e f argument : Expr) (es : Exprs) → bare e ≡ Apply f es → es ≡ MoreExpr argument NoExpr
    → bare e ≡ Apply f (MoreExpr argument NoExpr)
one_argument e f argument es h is = h ∙ ap (Apply f) is

-- ---- what is taken apart and built again

abbrev TakesOne : Pattern → List Sign → Union → Alternative → Name → List Sign → Type 0
TakesOne q k v d x l =
    (p : Pattern) × (bare_pattern q ≡ Construct v d (MorePattern p NoPattern)) × (bare_pattern p ≡ Named x) × (k ≡ l)

takes_one : (q : Pattern) (k l : List Sign) (s : Port) (v : Union) (d : Alternative) (x : Name)
    → ((u : Union) (c : Alternative) → Tells (sign.Port s) u c → (u ≡ v) × (c ≡ d)) → ends v ≡ end ∷ []
    → pattern_signs q ++ k ≡ sign.Port s ∷ sign.Named x ∷ end ∷ l → TakesOne q k v d x l
takes_one q k l s v d x tells one e =
    let a = takes q k (sign.Named x ∷ end ∷ l) s v d tells one e in
    let b = one_name a.0 k l x a.2 in
    (b.0, a.1 ∙ ap (Construct v d) b.1, b.2, b.3)

abbrev TakesTwo : Pattern → List Sign → Union → Alternative → Name → Name → List Sign → Type 0
TakesTwo q k v d x y l =
    (p : Pattern) × (r : Pattern) × (bare_pattern q ≡ Construct v d (MorePattern p (MorePattern r NoPattern)))
    × (bare_pattern p ≡ Named x) × (bare_pattern r ≡ Named y) × (k ≡ l)

takes_two : (q : Pattern) (k l : List Sign) (s : Port) (v : Union) (d : Alternative) (x y : Name)
    → ((u : Union) (c : Alternative) → Tells (sign.Port s) u c → (u ≡ v) × (c ≡ d)) → ends v ≡ end ∷ []
    → pattern_signs q ++ k ≡ sign.Port s ∷ sign.Named x ∷ sign.Named y ∷ end ∷ l → TakesTwo q k v d x y l
takes_two q k l s v d x y tells one e =
    let a = takes q k (sign.Named x ∷ sign.Named y ∷ end ∷ l) s v d tells one e in
    let b = two_names a.0 k l x y a.2 in
    (b.0, b.1, a.1 ∙ ap (Construct v d) b.2, b.3, b.4, b.5)

-- built of a name and of something more
abbrev Builds : Expr → List Sign → Union → Alternative → Name → List Sign → Type 0
Builds e k v d x l =
    (place : Pos) × (name : Expr) × (others : Exprs) × (bare e ≡ Strict (Build place v d) (MoreExpr name others))
    × (bare name ≡ NameOf (Local x)) × (exprs_signs others ++ end ∷ k ≡ l)

builds : (e : Expr) (k l : List Sign) (s : Port) (v : Union) (d : Alternative) (x : Name)
    → ((u : Union) (c : Alternative) → Tells (sign.Port s) u c → (u ≡ v) × (c ≡ d))
    → ReadsBuild s (bare e) k (sign.Local x ∷ l) → Builds e k v d x l
builds e k l s v d x tells a =
    let b = tells a.1 a.2 a.5 in
    let n = first_name a.3 k l x a.6 in (
      a.0,
      n.0,
      n.1,
      a.4 ∙ ap (λ u. Strict (Build a.0 u a.2) a.3) b.0 ∙ ap (λ c. Strict (Build a.0 v c) a.3) b.1
          ∙ ap (Strict (Build a.0 v d)) n.2,
      n.3,
      n.4,
    )

-- ---- names of modules that are used

abbrev Small : Expr → Type 0
Small e = AllByRecursion IsSmallUse (expr_uses e)

bare_small : (e : Expr) → Small (bare e) → Small e
bare_small (Located place e) h = bare_small e h
bare_small e h = h

is_small : (e d : Expr) → bare e ≡ d → Small d → Small e
is_small e d h s = bare_small e (subst Small (sym h) s)

name_small : (e : Expr) (x : Name) → bare e ≡ NameOf (Local x) → Small e
name_small e x h = is_small e (NameOf (Local x)) h tt

-- f argument
call_small : (e function argument : Expr) (f : Name) → bare e ≡ Apply function (MoreExpr argument NoExpr)
    → bare function ≡ NameOf (Local f) → Small argument → Small e
call_small e function argument f h is s =
    is_small e (Apply function (MoreExpr argument NoExpr)) h
    (uses_both (expr_uses function) (expr_uses argument ++ []) (name_small function f is)
    (uses_both (expr_uses argument) [] s tt))

-- ---- the mappings

-- what is taken apart by q is built again by e, and r takes a batch
rebuilds : (home y x : Name) (Again : Carrying) (q : Pattern) (e : Expr) (r : Pattern) (port carried all : Name)
    (k l m n o p : List Sign) → same_name port carried ≡ false
    → TakesTwo q k (union_of home y x) (maker x 0 2) port carried l
    → (b : Builds e m (union_of home y x) (maker x 0 2) port n) (again : Expr) → b.2 ≡ MoreExpr again NoExpr
    → Again port carried again → TakesOne r o (union_of home y x) batch all p → Rebuilds home y Again q e r
rebuilds home y x Again q e r port carried all k l m n o p apart a b again one h c = record {
  constructors = maker x 0 2 ∷ batch ∷ [];
  carrier = maker x 0 2;
  batch = batch;
  carrier_is = refl;
  batch_is = refl;
  port = port;
  carried = carried;
  apart = apart;
  port_pattern = a.0;
  carried_pattern = a.1;
  takes = a.2;
  port_bound = a.3;
  carried_bound = a.4;
  place = b.0;
  name = b.1;
  again = again;
  builds = b.3 ∙ ap (λ es. Strict (Build b.0 (union_of home y x) (maker x 0 2)) (MoreExpr b.1 es)) one;
  name_is = b.4;
  again_is = h;
  all = all;
  all_pattern = c.0;
  takes_all = c.1;
  all_bound = c.2;
}

built_small : (e : Expr) (m n : List Sign) (v : Union) (d : Alternative) (x : Name) (b : Builds e m v d x n)
    (again : Expr) → b.2 ≡ MoreExpr again NoExpr → Small again → Small e
built_small e m n v d x b again one h =
    is_small e (Strict (Build b.0 v d) (MoreExpr b.1 b.2)) b.3
    (uses_both (expr_uses b.1) (exprs_uses b.2) (name_small b.1 x b.4)
    (subst (λ es. AllByRecursion IsSmallUse (exprs_uses es)) (sym one) (uses_both (expr_uses again) [] h tt)))

-- Send name payload -> Send name payload; Batch all -> ..
commands_mapped : (q : Pattern) (e : Expr) (r : Pattern) (k t : List Sign) (name payload all : Name)
    → same_name name payload ≡ false
    → pattern_signs q ++ (signs e ++ (pattern_signs r ++ k))
    ≡ sign.Port port.TakesSend ∷ sign.Named name ∷ sign.Named payload ∷ end
    ∷ sign.Port port.Sends ∷ sign.Local name ∷ sign.Local payload ∷ end
    ∷ sign.Port port.TakesCommands ∷ sign.Named all ∷ end ∷ t
    → MapsCommands q e r × Small e × (k ≡ t)
commands_mapped q e r k t name payload all apart h =
    let rest = pattern_signs r ++ k in
    let last = sign.Port port.TakesCommands ∷ sign.Named all ∷ end ∷ t in
    let made = sign.Port port.Sends ∷ sign.Local name ∷ sign.Local payload ∷ end ∷ last in
    let a = takes_two q (signs e ++ rest) made port.TakesSend commands send name payload (λ u c i. i) refl h in
    let b = builds e rest (sign.Local payload ∷ end ∷ last) port.Sends commands send name (λ u c i. i)
    (subst (Reads (bare e) rest) a.5 (reads e rest)) in
    let c = only_name b.2 rest last payload b.5 in
    let d = takes_one r k t port.TakesCommands commands batch all (λ u c' i. i) refl c.3 in (
      rebuilds _ _ _ _ q e r name payload all _ made rest _ k t apart a b c.0 c.1 c.2 d,
      built_small e rest _ commands send name b c.0 c.1 (name_small c.0 payload c.2),
      d.3,
    )

-- \x -> f (carried x)
after : (e : Expr) (k l : List Sign) (port carried x f : Name) → same_name carried x ≡ false
    → same_name f port ≡ false → same_name f carried ≡ false → same_name f x ≡ false
    → signs e ++ k
    ≡ sign.Form form.Lambda ∷ sign.Named x ∷ sign.Form form.Apply ∷ sign.Local f
    ∷ sign.Form form.Apply ∷ sign.Local carried ∷ sign.Local x ∷ end ∷ end ∷ l
    → IsAfter port carried e × Small e × (k ≡ l)
after e k l port carried x f apart not_port not_carried not_x h =
    let inside = sign.Form form.Apply ∷ sign.Local carried ∷ sign.Local x ∷ end ∷ end ∷ l in
    let called = sign.Form form.Apply ∷ sign.Local f ∷ inside in
    let a : Reads (bare e) k (sign.Form form.Lambda ∷ sign.Named x ∷ called) = subst (Reads (bare e) k) h (reads e k) in
    let q = a.0 in
    let body = a.1 in
    let b : PatternReads (bare_pattern q) (signs body ++ k) (sign.Named x ∷ called) =
    subst (PatternReads (bare_pattern q) (signs body ++ k)) a.3 (pattern_reads q (signs body ++ k)) in
    let c = calls body k inside f b.1 in
    let d = first_call c.1 k (sign.Local carried ∷ sign.Local x ∷ end ∷ end ∷ l) c.4 in
    let rest = exprs_signs d.1 ++ end ∷ k in
    let m = calls d.0 rest (sign.Local x ∷ end ∷ end ∷ l) carried d.3 in
    let n = only_name m.1 rest (end ∷ l) x m.4 in
    let o = no_more d.1 k l n.3 in
    let calls_one : bare body ≡ Apply c.0 (MoreExpr d.0 NoExpr) =
    one_argument body c.0 d.0 c.1 c.2 (alone c.1 d.1 d.0 d.2 o.0) in
    let calls_next : bare d.0 ≡ Apply m.0 (MoreExpr n.0 NoExpr) = one_argument d.0 m.0 n.0 m.1 m.2 n.1 in (
      record {
        x = x;
        f = Local f;
        parameter = q;
        body = body;
        function = c.0;
        inner = d.0;
        message = m.0;
        argument = n.0;
        is = a.2;
        binds = b.0;
        calls = calls_one;
        first = c.3;
        calls_first = calls_next;
        second = m.3;
        third = n.2;
        apart = apart;
        not_port = not_port;
        not_carried = not_carried;
        not_argument = not_x;
      },
      is_small e (Lambda (MorePattern q NoPattern) body) a.2
          (call_small body c.0 d.0 f calls_one c.3
          (call_small d.0 m.0 n.0 carried calls_next m.3 (name_small n.0 x n.2))),
      o.1,
    )

-- Listen name message -> Listen name (\payload -> f (message payload)); Batch all -> ..
subscriptions_mapped : (q : Pattern) (e : Expr) (r : Pattern) (k t : List Sign) (name message payload f all : Name)
    → same_name name message ≡ false → same_name message payload ≡ false
    → same_name f name ≡ false → same_name f message ≡ false → same_name f payload ≡ false
    → pattern_signs q ++ (signs e ++ (pattern_signs r ++ k))
    ≡ sign.Port port.TakesListen ∷ sign.Named name ∷ sign.Named message ∷ end
    ∷ sign.Port port.Listens ∷ sign.Local name
    ∷ sign.Form form.Lambda ∷ sign.Named payload ∷ sign.Form form.Apply ∷ sign.Local f
    ∷ sign.Form form.Apply ∷ sign.Local message ∷ sign.Local payload ∷ end ∷ end ∷ end
    ∷ sign.Port port.TakesSubscriptions ∷ sign.Named all ∷ end ∷ t
    → MapsSubscriptions q e r × Small e × (k ≡ t)
subscriptions_mapped q e r k t name message payload f all apart other not_port not_carried not_argument h =
    let rest = pattern_signs r ++ k in
    let last = sign.Port port.TakesSubscriptions ∷ sign.Named all ∷ end ∷ t in
    let inside = sign.Named payload ∷ sign.Form form.Apply ∷ sign.Local f
    ∷ sign.Form form.Apply ∷ sign.Local message ∷ sign.Local payload ∷ end ∷ end ∷ end ∷ last in
    let made = sign.Port port.Listens ∷ sign.Local name ∷ sign.Form form.Lambda ∷ inside in
    let a = takes_two q (signs e ++ rest) made port.TakesListen subscriptions listen name message (λ u c i. i) refl h in
    let b = builds e rest (sign.Form form.Lambda ∷ inside) port.Listens subscriptions listen name (λ u c i. i)
    (subst (Reads (bare e) rest) a.5 (reads e rest)) in
    let c : EachReads b.2 rest (sign.Form form.Lambda ∷ inside) =
    subst (EachReads b.2 rest) b.5 (each_reads b.2 rest) in
    let d = after c.0 (exprs_signs c.1 ++ end ∷ rest) (end ∷ last) name message payload f other not_port not_carried
    not_argument c.3 in
    let o = no_more c.1 rest last d.2 in
    let one : b.2 ≡ MoreExpr c.0 NoExpr = alone b.2 c.1 c.0 c.2 o.0 in
    let g = takes_one r k t port.TakesSubscriptions subscriptions batch all (λ u c' i. i) refl o.1 in (
      rebuilds _ _ _ _ q e r name message all _ made rest _ k t apart a b c.0 one d.0 g,
      built_small e rest _ subscriptions listen name b c.0 one d.1,
      g.3,
    )

-- ---- declarations

-- one function f s = case t of first -> made; second -> last
record Chooses (g : Group) (f s t : Name) (l : List Sign) : Type 0 where
  title : Title
  one : Pattern
  two : Pattern
  body : Expr
  subject : Expr
  first : Pattern
  made : Expr
  second : Pattern
  last : Expr
  is : g ≡ Together (MoreFunction title (MorePattern one (MorePattern two NoPattern)) body NoFunction)
  one_is : bare_pattern one ≡ Named f
  two_is : bare_pattern two ≡ Named s
  body_is : bare body ≡ Case subject (MoreBranch first made (MoreBranch second last NoBranch))
  subject_is : bare subject ≡ NameOf (Local t)
  rest : pattern_signs first ++ (signs made ++ (pattern_signs second ++ (signs last ++ []))) ≡ l

chooses : (g : Group) (f s t : Name) (l : List Sign)
    → group_signs g
    ≡ sign.Form form.Alone ∷ sign.Named f ∷ sign.Named s ∷ end ∷ sign.Form form.Two ∷ sign.Local t ∷ l
    → Chooses g f s t l
chooses g f s t l e =
    let choice = sign.Form form.Two ∷ sign.Local t ∷ l in
    let a : GroupReads g (sign.Form form.Alone ∷ sign.Named f ∷ sign.Named s ∷ end ∷ choice) =
    subst (GroupReads g) e (group_reads g) in
    let b = two_names a.1 (signs a.2) choice f s a.4 in
    let c : Reads (bare a.2) [] choice =
    subst (Reads (bare a.2) []) (append-nil (signs a.2) ∙ b.5) (reads a.2 []) in
    let rest = pattern_signs c.1 ++ (signs c.2 ++ (pattern_signs c.3 ++ (signs c.4 ++ []))) in
    let d : Reads (bare c.0) rest (sign.Local t ∷ l) = subst (Reads (bare c.0) rest) c.6 (reads c.0 rest) in
    record {
      title = a.0;
      one = b.0;
      two = b.1;
      body = a.2;
      subject = c.0;
      first = c.1;
      made = c.2;
      second = c.3;
      last = c.4;
      is = a.3 ∙ ap (λ qs. Together (MoreFunction a.0 qs a.2 NoFunction)) b.2;
      one_is = b.3;
      two_is = b.4;
      body_is = c.5;
      subject_is = d.0;
      rest = d.1;
    }

abbrev Meets : Expr → Type 0
Meets e = Obeys IsUnported IsUnsent IsMapping e

bare_meets : (e : Expr) → Meets (bare e) → Meets e
bare_meets (Located place e) h = bare_meets e h
bare_meets e h = h

bare_takes : (q : Pattern) → PatternTakes IsUnported (bare_pattern q) → PatternTakes IsUnported q
bare_takes (LocatedPattern place q) h = bare_takes q h
bare_takes q h = h

named_takes : (q : Pattern) (x : Name) → bare_pattern q ≡ Named x → PatternTakes IsUnported q
named_takes q x h = bare_takes q (subst (PatternTakes IsUnported) (sym h) tt)

abbrev Keeps : Group → Type 0
Keeps g = GroupObeys IsUnported IsUnsent IsMapping g × AllByRecursion IsSmallUse (group_uses g)

kept : (g : Group) (f s t : Name) (l u : List Sign) (c : Chooses g f s t l) → IsMapping c.first c.made c.second
    → Small c.made → signs c.last ++ [] ≡ u → list_all is_free u ≡ true → Keeps g
kept g f s t l u c map small is free =
    let last = free_expr c.last
    (subst (λ k. list_all is_free k ≡ true) (sym is ∙ append-nil (signs c.last)) free) in
    let choice = Case c.subject (MoreBranch c.first c.made (MoreBranch c.second c.last NoBranch)) in
    let subject : Meets c.subject = bare_meets c.subject (subst Meets (sym c.subject_is) tt) in
    let meets : Meets c.body = bare_meets c.body (subst Meets (sym c.body_is) (subject, inr (map, last.0))) in
    let uses : Small c.body = is_small c.body choice c.body_is
    (uses_both (expr_uses c.subject) (expr_uses c.made ++ (expr_uses c.last ++ []))
    (name_small c.subject t c.subject_is)
    (uses_both (expr_uses c.made) (expr_uses c.last ++ []) small (uses_both (expr_uses c.last) [] last.1 tt))) in
    subst Keeps (sym c.is) (
      (((named_takes c.one f c.one_is, (named_takes c.two s c.two_is, tt)), meets), tt),
      uses_both (expr_uses c.body) [] uses tt,
    )

pub command_kept : (g : Group) (t : List Sign) → group_signs g ≡ command_map ++ t → list_all is_free t ≡ true
    → GroupObeys IsUnported IsUnsent IsMapping g × AllByRecursion IsSmallUse (group_uses g)
command_kept g t e free =
    let c = chooses g (codes "f") (codes "command") (codes "command") _ e in
    let m = commands_mapped c.first c.made c.second (signs c.last ++ []) t (codes "name") (codes "payload")
    (codes "commands") refl c.rest in
    kept g _ _ _ _ t c (inl m.0) m.1 m.2 free

pub subscription_kept : (g : Group) (t : List Sign) → group_signs g ≡ subscription_map ++ t
    → list_all is_free t ≡ true
    → GroupObeys IsUnported IsUnsent IsMapping g × AllByRecursion IsSmallUse (group_uses g)
subscription_kept g t e free =
    let c = chooses g (codes "f") (codes "subscription") (codes "subscription") _ e in
    let m = subscriptions_mapped c.first c.made c.second (signs c.last ++ []) t (codes "name") (codes "toMessage")
    (codes "payload") (codes "f") (codes "subscriptions") refl refl refl refl refl c.rest in
    kept g _ _ _ _ t c (inr m.0) m.1 m.2 free
