-- The annotations of expressions without faults.
use Rattle.std.proofs.Common.{ℕ, zero, suc, List, [], ◌∷◌, ◌++◌, length, Bool, true, false, Option, None}
use Rattle.std.proofs.Common.{if◌then◌else◌, sym, subst}
use Rattle.std.specs.Prelude.{nat_eq, slice_index_or}
use Rattle.std.specs.List.{AllByRecursion, flat_map}
use Rattle.elm_tree.specs.Tree as tree
use Rattle.elm_tree.specs.Tree.{Word, Long}
use Rattle.elm_tree.specs.Regroup as regroup
use Rattle.elm_tree.specs.Regroup.{Tree, Leaf, Node, opened, grouped_after, grouped, may_stand_left}
use Rattle.elm_canon.specs.Names.{Name}
use Rattle.elm_canon.specs.declared.reference.Ref.TheVariants.{Local}
use Rattle.elm_canon.specs.Tree as canon
use Rattle.elm_canon.specs.Tree.{Annotation, Title, Expr, Strict, Build, Group, Together, exprs_of, groups_of}
use Rattle.canon_env.specs.Imports.{name_of}
use Rattle.canon_env.specs.Found.{Found, Nothing, One, Several}
use Rattle.canon_env.specs.Shown.{MakerMeaning, OfUnion, OfRecord}
use Rattle.canon_env.specs.Naming.{World, maker_found}
use Rattle.canon_env.specs.Locals.{Locals, with_names}
use Rattle.canon_env.specs.Sites.{ValueMeaning, LocalValue, Elsewhere, FieldsTogether, value_meaning}
use Rattle.canon_env.specs.Patterns.{words_of, words_of_all, list_sites, pattern_sites, match_sites, binding_sites}
use Rattle.canon_env.specs.Patterns.{patterns_of}
use Rattle.canon_expr.specs.Operators.{meaning_of}
use Rattle.canon_expr.specs.Callees.{Callee, Head, Maker, Plain, given, finished_by, finished, top_name, maker_head}
use Rattle.canon_expr.specs.Callees.{value_of, joined_by, joined, joined_in, chain_of}
use Rattle.canon_expr.specs.declared.operators.Between.{Between}
use Rattle.canon_expr.specs.declared.operators.Between.TheVariants.{ToRight, ToLeft, Computes, Decides, Calls}
use Rattle.canon_expr.specs.Binding.{is_function, bound_in, bound_by_each, defined_in, uses_among}
use Rattle.canon_expr.specs.Blocks.{Made, NoMade, MadeFunction, MadeConstant, MadeParts, made_of, title_of}
use Rattle.canon_expr.specs.Blocks.{functions_in, group_of, made_at, groups_in, joined_sites, reaching_sites}
use Rattle.canon_expr.specs.Exprs.{expr_sites, exprs_sites, part_sites, chain_sites, branch_sites, definitions_sites}
use Rattle.canon_expr.specs.Exprs.{definition_sites, callee, meant, meant_each, meant_parts, callees, meant_branches}
use Rattle.canon_expr.specs.Exprs.{made_in, made_by, annotation_of, part_words, long_word, accessed, one}
use Rattle.decl_groups.specs.InOrder.{ordered_groups}
use Rattle.canon_proper.proofs.Quiet.{AreSound, sound_split}
use Rattle.canon_proper.proofs.Made.{two_together}
use Rattle.infer_types.specs.Once.{FieldsOnce}
use Rattle.infer_proper.specs.Annotations.{IfWritten, InExpr, InExprs, InBranches, InGroups, InGroup, InFunctions}
use Rattle.module_proper.specs.Records.{NamesHaveRecords}
use Rattle.infer_proper.proofs.Written.{type_well}

-- ---- what is called

abbrev Well : Expr → Type 0
Well e = InExpr FieldsOnce e

abbrev EachWell : List Expr → Type 0
EachWell [] = Unit {0}
EachWell (e ∷ es) = Well e × EachWell es

abbrev HeadWell : Head → Type 0
HeadWell (Maker p home x u c) = Unit {0}
HeadWell (Plain e) = Well e

abbrev CalleeWell : Callee → Type 0
CalleeWell c = HeadWell c.head × EachWell c.arguments

all_well : (es : List Expr) → EachWell es → InExprs FieldsOnce (exprs_of es)
all_well [] h = tt
all_well (e ∷ es) h = (h.0, all_well es h.1)

more_well : (es fs : List Expr) → EachWell es → EachWell fs → EachWell (es ++ fs)
more_well [] fs h g = g
more_well (e ∷ es) fs h g = (h.0, more_well es fs h.1 g)

given_well : (f : Expr) (es : List Expr) → Well f → EachWell es → Well (given f es)
given_well f [] p h = p
given_well f (e ∷ es) p h = (p, (h.0, all_well es h.1))

head_finished : (h : Head) (es : List Expr) → HeadWell h → EachWell es → Well (finished_by h es)
head_finished (Plain e) es p h = given_well e es p h
head_finished (Maker place home x u c) es p h = by (nat_eq (length es) c.arity)
  where
    by : (b : Bool) → Well (if b then Strict (Build place u c) (exprs_of es) else given (top_name place home x) es)
    by true = all_well es h
    by false = given_well (top_name place home x) es tt h

finished_well : (c : Callee) → CalleeWell c → Well (finished c)
finished_well c h = head_finished c.head c.arguments h.0 h.1

maker_well : (x : Long) (f : Found MakerMeaning) → HeadWell (maker_head x f)
maker_well x Nothing = tt
maker_well x Several = tt
maker_well x (One m) = by m.meaning m.home
  where
    by : (n : MakerMeaning) (home : Name) → HeadWell (maker_head x (One (record { home = home; meaning = n })))
    by (OfUnion u c) home = tt
    by (OfRecord fields) home = tt

value_well : (x : Long) (v : ValueMeaning) → Well (value_of x v)
value_well x (LocalValue place) = tt
value_well x (Elsewhere found) = by found
  where
    by : (f : Found (Unit {0})) → Well (value_of x (Elsewhere f))
    by Nothing = tt
    by Several = tt
    by (One r) = tt

accessed_well : (e : Expr) (xs : List Word) → Well e → Well (accessed e xs)
accessed_well e [] h = h
accessed_well e (x ∷ xs) h = accessed_well (Strict (canon.Access (name_of x)) (one e)) xs (h, tt)

-- ---- chains

between_well : (op : Word) (b : Between) (f a : Callee) → CalleeWell f → CalleeWell a → CalleeWell (joined_by op b f a)
between_well op ToRight f a p q = (q.0, more_well a.arguments (finished f ∷ []) q.1 (finished_well f p, tt))
between_well op ToLeft f a p q = (p.0, more_well f.arguments (finished a ∷ []) p.1 (finished_well a q, tt))
between_well op (Computes o) f a p q = ((finished_well f p, (finished_well a q, tt)), tt)
between_well op (Decides c) f a p q = ((finished_well f p, finished_well a q), tt)
between_well op Calls f a p q = ((tt, (finished_well f p, (finished_well a q, tt))), tt)

joined_well : (op : Word) (f a : Callee) → CalleeWell f → CalleeWell a → CalleeWell (joined op f a)
joined_well op f a p q = between_well op (meaning_of op.text).between f a p q

PartsWell : Tree Callee → Type 0
PartsWell (Leaf c) = CalleeWell c
PartsWell (Node l op r) = PartsWell l × PartsWell r

LeftWell : List (Tree Callee × Word) → Type 0
LeftWell [] = Unit {0}
LeftWell (t ∷ ts) = PartsWell t.0 × LeftWell ts

abbrev OthersWell : List (Word × Callee) → Type 0
OthersWell [] = Unit {0}
OthersWell (o ∷ os) = CalleeWell o.1 × OthersWell os

tree_well : (t : Tree Callee) → PartsWell t → CalleeWell (joined_in t)
unfolding PartsWell
tree_well (Leaf c) p = p
tree_well (Node l op r) p = joined_well op (joined_in l) (joined_in r) (tree_well l p.0) (tree_well r p.1)

closed_well : (ts : List (Tree Callee × Word)) (t : Tree Callee) → LeftWell ts → PartsWell t
    → PartsWell (regroup.closed ts t)
unfolding PartsWell LeftWell
closed_well [] t ls p = p
closed_well (s ∷ ts) t ls p = closed_well ts (Node s.0 s.1 t) ls.1 (ls.0, p)

opened_well : (ts : List (Tree Callee × Word)) (t : Tree Callee) (op : Word) → LeftWell ts → PartsWell t
    → LeftWell (opened ts t op)
unfolding PartsWell LeftWell
opened_well [] t op ls p = (p, tt)
opened_well (s ∷ ts) t op ls p = by (may_stand_left s.1 op) (opened_well ts (Node s.0 s.1 t) op ls.1 (ls.0, p))
  where
    by : (b : Bool) → LeftWell (opened ts (Node s.0 s.1 t) op)
        → LeftWell (if b then opened ts (Node s.0 s.1 t) op else ((t, op) ∷ s ∷ ts))
    by true more = more
    by false more = (p, ls)

grouped_well : (ts : List (Tree Callee × Word)) (t : Tree Callee) (os : List (Word × Callee)) → LeftWell ts
    → PartsWell t → OthersWell os → PartsWell (grouped_after ts t os)
unfolding PartsWell
grouped_well ts t [] ls p h = closed_well ts t ls p
grouped_well ts t (o ∷ os) ls p h =
    grouped_well (opened ts t o.0) (Leaf o.1) os (opened_well ts t o.0 ls p) h.0 h.1

chain_well : (c : Callee) (os : List (Word × Callee)) → CalleeWell c → OthersWell os → CalleeWell (chain_of c os)
unfolding grouped PartsWell LeftWell
chain_well c os p h = tree_well (grouped c os) (grouped_well [] (Leaf c) os tt p h)

-- ---- definitions in groups

abbrev pub MadeWell : Made → Type 0
MadeWell NoMade = Unit {0}
MadeWell (MadeFunction title ps e) = IfWritten FieldsOnce title.annotation × Well e
MadeWell (MadeConstant title e) = IfWritten FieldsOnce title.annotation × Well e
MadeWell (MadeParts p e) = Well e

abbrev pub AllMade : List Made → Type 0
AllMade [] = Unit {0}
AllMade (m ∷ ms) = MadeWell m × AllMade ms

pub made_of_well : (b : Bool) (title : Title) (ps : canon.Patterns) (e : Expr) → IfWritten FieldsOnce title.annotation
    → Well e → MadeWell (made_of b title ps e)
made_of_well true title ps e t h = (t, h)
made_of_well false title ps e t h = (t, h)

functions_well : (ms : List Made) → AllMade ms → InFunctions FieldsOnce (functions_in ms)
functions_well [] h = tt
functions_well (NoMade ∷ ms) h = functions_well ms h.1
functions_well (MadeFunction title ps e ∷ ms) h = (h.0.0, (h.0.1, functions_well ms h.1))
functions_well (MadeConstant title e ∷ ms) h = functions_well ms h.1
functions_well (MadeParts p e ∷ ms) h = functions_well ms h.1

pub group_well : (ms : List Made) → AllMade ms → AllByRecursion (InGroup FieldsOnce) (group_of ms)
group_well [] h = (tt, tt)
group_well (NoMade ∷ []) h = tt
group_well (MadeFunction title ps e ∷ []) h = ((h.0.0, (h.0.1, tt)), tt)
group_well (MadeConstant title e ∷ []) h = (h.0, tt)
group_well (MadeParts p e ∷ []) h = (h.0, tt)
group_well (m ∷ n ∷ ms) h =
    subst (AllByRecursion (InGroup FieldsOnce)) (sym (two_together m n ms)) (functions_well (m ∷ n ∷ ms) h, tt)

pub made_well_at : (ms : List Made) → AllMade ms → (i : ℕ) → MadeWell (slice_index_or ms i NoMade)
made_well_at [] h i = tt
made_well_at (m ∷ ms) h zero = h.0
made_well_at (m ∷ ms) h (suc i) = made_well_at ms h.1 i

pub all_more : {X : Type 0} (P : X → Type 0) (xs ys : List X) → AllByRecursion P xs → AllByRecursion P ys
    → AllByRecursion P (xs ++ ys)
all_more P [] ys h g = g
all_more P (x ∷ xs) ys h g = (h.0, all_more P xs ys h.1 g)

groups_in_well : (gs : List Group) → AllByRecursion (InGroup FieldsOnce) gs → InGroups FieldsOnce (groups_of gs)
groups_in_well [] h = tt
groups_in_well (g ∷ gs) h = (h.0, groups_in_well gs h.1)

module _ (made : List Made) (all : AllMade made) where
  made_at_well : (places : List ℕ) → AllMade (made_at made places)
  made_at_well [] = tt
  made_at_well (i ∷ places) = (made_well_at made all i, made_at_well places)

  groups_at_well : (each : List (List ℕ))
      → AllByRecursion (InGroup FieldsOnce) (flat_map (λ places. group_of (made_at made places)) each)
  groups_at_well [] = tt
  groups_at_well (places ∷ each) =
      all_more (InGroup FieldsOnce) (group_of (made_at made places))
      (flat_map (λ places. group_of (made_at made places)) each)
      (group_well (made_at made places) (made_at_well places)) (groups_at_well each)

  block_well : (uses : List (List ℕ)) → InGroups FieldsOnce (groups_in uses made)
  block_well uses =
      groups_in_well (flat_map (λ places. group_of (made_at made places)) (ordered_groups uses))
      (groups_at_well (ordered_groups uses))

-- ---- expressions

module _ (w : World) (names : NamesHaveRecords w) where
  pub annotation_well : (locals : Locals) (d : tree.Definition) → AreSound w (definition_sites w locals d)
      → IfWritten FieldsOnce (annotation_of w d)
  annotation_well locals (tree.Annotate x t) q = type_well w names t q
  annotation_well locals (tree.Define x ps e) q = tt
  annotation_well locals (tree.Destructure p e) q = tt

  mutual
    callee_well : (e : tree.Expr) (locals : Locals) → AreSound w (expr_sites w locals e)
        → CalleeWell (callee w locals e)
    callee_well (tree.Is p l) locals q = (tt, tt)
    callee_well (tree.Name x) locals q = (value_well x (value_meaning w locals x), tt)
    callee_well (tree.Constructor x) locals q = (maker_well x (maker_found w x), tt)
    callee_well (tree.OperatorName op) locals q = (tt, tt)
    callee_well (tree.Accessor x) locals q = (tt, tt)
    callee_well (tree.Lambda p ps e) locals q =
        let r = sound_split w (list_sites locals ps) (expr_sites w (with_names (words_of_all ps) locals) e) q in (
          finished_well (callee w (with_names (words_of_all ps) locals) e)
              (callee_well e (with_names (words_of_all ps) locals) r.1),
          tt,
        )
    callee_well (tree.Apply f es) locals q =
        let r = sound_split w (expr_sites w locals f) (exprs_sites w locals es) q in
        let h = callee_well f locals r.0 in
        (h.0, more_well (callee w locals f).arguments (meant_each w locals es) h.1 (each_well es locals r.1))
    callee_well (tree.Chain e ps) locals q =
        let r = sound_split w (expr_sites w locals e) (chain_sites w locals ps) q in
        chain_well (callee w locals e) (callees w locals ps) (callee_well e locals r.0) (operands_well ps locals r.1)
    callee_well (tree.Negate p e) locals q = ((finished_well (callee w locals e) (callee_well e locals q), tt), tt)
    callee_well (tree.If c a b) locals q =
        let r = sound_split w (expr_sites w locals c ++ expr_sites w locals a) (expr_sites w locals b) q in
        let t = sound_split w (expr_sites w locals c) (expr_sites w locals a) r.0 in (
          (
            finished_well (callee w locals c) (callee_well c locals t.0),
            (
              finished_well (callee w locals a) (callee_well a locals t.1),
              finished_well (callee w locals b)
                  (callee_well b locals r.1),
            ),
          ),
          tt,
        )
    callee_well (tree.Case p e bs) locals q =
        let r = sound_split w (expr_sites w locals e) (branch_sites w locals bs) q in
        ((finished_well (callee w locals e) (callee_well e locals r.0), branches_well bs locals r.1), tt)
    callee_well (tree.Let ds e) locals q =
        let inside = with_names (bound_in ds) locals in
        let each = definitions_sites w inside ds in
        let uses = uses_among w (bound_by_each ds) each in
        let reaching = reaching_sites uses (defined_in ds) in
        let r = sound_split w (binding_sites locals (bound_in ds) ++ joined_sites each ++ reaching)
        (expr_sites w inside e) q in
        let t = sound_split w (binding_sites locals (bound_in ds) ++ joined_sites each) reaching r.0 in
        let u = sound_split w (binding_sites locals (bound_in ds)) (joined_sites each) t.0 in
        let made = made_well ds None inside tt u.1 in (
          (
            block_well (made_in w inside None ds) made uses,
            finished_well (callee w inside e)
                (callee_well e inside r.1),
          ),
          tt,
        )
    callee_well (tree.ListOf p es) locals q = (all_well (meant_each w locals es) (each_well es locals q), tt)
    callee_well (tree.TupleOf p es) locals q = (all_well (meant_each w locals es) (each_well es locals q), tt)
    callee_well (tree.RecordOf p fs) locals q =
        let r = sound_split w (part_sites w locals fs) (FieldsTogether (part_words fs) ∷ []) q in
        (all_well (meant_parts w locals fs) (parts_well fs locals r.0), tt)
    callee_well (tree.Update p x fs) locals q =
        let r = sound_split w (part_sites w locals fs) (FieldsTogether (part_words fs) ∷ []) q.1 in (
          (
            value_well (long_word x) (value_meaning w locals (long_word x)),
            all_well (meant_parts w locals fs) (parts_well fs locals r.0),
          ),
          tt,
        )
    callee_well (tree.Access p e xs) locals q = (
      accessed_well (finished (callee w locals e)) xs (finished_well (callee w locals e) (callee_well e locals q)),
      tt,
    )

    each_well : (es : tree.Exprs) (locals : Locals) → AreSound w (exprs_sites w locals es)
        → EachWell (meant_each w locals es)
    each_well tree.NoExpr locals q = tt
    each_well (tree.MoreExpr e es) locals q =
        let r = sound_split w (expr_sites w locals e) (exprs_sites w locals es) q in
        (finished_well (callee w locals e) (callee_well e locals r.0), each_well es locals r.1)

    parts_well : (fs : tree.Parts) (locals : Locals) → AreSound w (part_sites w locals fs)
        → EachWell (meant_parts w locals fs)
    parts_well tree.NoPart locals q = tt
    parts_well (tree.MorePart x e fs) locals q =
        let r = sound_split w (expr_sites w locals e) (part_sites w locals fs) q in
        (finished_well (callee w locals e) (callee_well e locals r.0), parts_well fs locals r.1)

    operands_well : (ps : tree.Parts) (locals : Locals) → AreSound w (chain_sites w locals ps)
        → OthersWell (callees w locals ps)
    operands_well tree.NoPart locals q = tt
    operands_well (tree.MorePart op e ps) locals q =
        let r = sound_split w (expr_sites w locals e) (chain_sites w locals ps) q.1 in
        (callee_well e locals r.0, operands_well ps locals r.1)

    branches_well : (bs : tree.Branches) (locals : Locals) → AreSound w (branch_sites w locals bs)
        → InBranches FieldsOnce (meant_branches w locals bs)
    branches_well tree.NoBranch locals q = tt
    branches_well (tree.MoreBranch p e bs) locals q =
        let inner = with_names (words_of p) locals in
        let r = sound_split w (pattern_sites locals p ++ expr_sites w inner e) (branch_sites w locals bs) q in
        let t = sound_split w (pattern_sites locals p) (expr_sites w inner e) r.0 in
        (finished_well (callee w inner e) (callee_well e inner t.1), branches_well bs locals r.1)

    made_well : (ds : tree.Definitions) (before : Option Annotation) (locals : Locals) → IfWritten FieldsOnce before
        → AreSound w (joined_sites (definitions_sites w locals ds)) → AllMade (made_in w locals before ds)
    made_well tree.NoDefinition before locals b q = tt
    made_well (tree.MoreDefinition d ds) before locals b q =
        let r = sound_split w (definition_sites w locals d) (joined_sites (definitions_sites w locals ds)) q in (
          definition_well d before locals b r.0,
          made_well ds (annotation_of w d) locals (annotation_well locals d r.0) r.1,
        )

    definition_well : (d : tree.Definition) (before : Option Annotation) (locals : Locals) → IfWritten FieldsOnce before
        → AreSound w (definition_sites w locals d) → MadeWell (made_by w locals before d)
    definition_well (tree.Annotate x t) before locals b q = tt
    definition_well (tree.Define x ps e) before locals b q =
        let inner = with_names (words_of_all ps) locals in
        let r = sound_split w (list_sites locals ps) (expr_sites w inner e) q in
        made_of_well (is_function ps e)
        (title_of (Local (name_of x)) x.place before) (patterns_of w ps)
        (finished (callee w inner e)) b (finished_well (callee w inner e) (callee_well e inner r.1))
    definition_well (tree.Destructure p e) before locals b q =
        let r = sound_split w (match_sites p) (expr_sites w locals e) q in finished_well (callee w locals e)
        (callee_well e locals r.1)

  pub expr_well : (e : tree.Expr) (locals : Locals) → AreSound w (expr_sites w locals e) → Well (meant w locals e)
  expr_well e locals q = finished_well (callee w locals e) (callee_well e locals q)
