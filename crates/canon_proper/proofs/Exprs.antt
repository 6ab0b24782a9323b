-- Expressions without faults mean proper ones, wherever the local names are in scope that they use.
use Rattle.std.proofs.Common.{◌≡◌, ℕ, zero, suc, List, [], ◌∷◌, ◌++◌, map, length, Bool, true, false, None, refl, sym}
use Rattle.std.proofs.Common.{ap, ◌∙◌, subst}
use Rattle.std.specs.Prelude.{Option, slice_index_or, ◌&&◌, not, if◌then◌else◌, is_some, ◌+◌}
use Rattle.std.specs.List.{enumerate_from, flat_map}
use Rattle.std.proofs.Common.{arith}
use Rattle.elm_base.specs.declared.fault.Code.TheVariants.{RecursiveValue}
use Rattle.decl_groups.specs.InOrder.{uses_itself}
use Rattle.std.proofs.lemmas.Bool.{false≢true}
use Rattle.elm_tree.specs.Tree as tree
use Rattle.elm_tree.specs.Tree.{Pos, Word}
use Rattle.elm_canon.specs.Tree as canon
use Rattle.elm_canon.specs.Tree.{Located, Annotation, exprs_of}
use Rattle.elm_canon.specs.declared.reference.Ref.{Ref}
use Rattle.elm_canon.specs.declared.reference.Ref.TheVariants.{Local}
use Rattle.canon_env.specs.Imports.{name_of}
use Rattle.canon_env.specs.Naming.{World, maker_found}
use Rattle.canon_env.specs.Locals.{Locals, with_names}
use Rattle.canon_env.specs.Sites.{Site, FieldsTogether, Reaching, Defined, faults_at, finding}
use Rattle.canon_env.specs.Patterns.{words_of, words_of_all, list_sites, pattern_sites, match_sites, match_sites_all}
use Rattle.canon_env.specs.Patterns.{binding_sites, pattern_of, patterns_of}
use Rattle.canon_expr.specs.Callees.{finished}
use Rattle.canon_expr.specs.Binding.{is_lambda, is_function, bound_in, bound_by, bound_by_each, defined_in}
use Rattle.canon_expr.specs.Binding.{defined_by, uses_among}
use Rattle.canon_expr.specs.Blocks.{Made, NoMade, made_of, title_of, joined_sites, reaching_sites}
use Rattle.canon_expr.specs.Exprs.{expr_sites, exprs_sites, part_sites, chain_sites, branch_sites, definitions_sites}
use Rattle.canon_expr.specs.Exprs.{definition_sites, callee, meant, meant_each, meant_parts, callees, meant_branches}
use Rattle.canon_expr.specs.Exprs.{made_in, made_by, annotation_of, part_words, accessed, one, block_groups}
use Rattle.canon_expr.specs.Exprs.{long_word}
use Rattle.elm_canon.specs.Spelled.{is_word, is_spelled, are_fields}
use Rattle.elm_canon.specs.Proper as proper
use Rattle.elm_canon.specs.Proper.{Scope, AreFresh, with_all, Proper, Binds, BindsAll, ProperBranches}
use Rattle.elm_canon.specs.Proper.{all_bound_by, after, ProperGroups}
use Rattle.canon_proper.specs.Written.{IsSpelled, AreSpelled, AreSpelledOperands, AreSpelledFields, AreSpelledBranches}
use Rattle.canon_proper.specs.Written.{AreSpelledDefinitions, IsSpelledDefinition, has_parameter, StandApart}
use Rattle.canon_proper.specs.Patterns.{AreSpelledWords, AreSpelledPatterns, IsSpelledPattern}
use Rattle.canon_proper.specs.Worlds.{HasMakers, HasNames, IsScopeOf}
use Rattle.canon_proper.proofs.Scopes.{refs, fresh_from, fields_are}
use Rattle.canon_proper.proofs.Quiet.{fields_once, sound_sites}
use Rattle.canon_proper.proofs.Patterns.{maker_is, pattern_good, patterns_good, words_fresh}
use Rattle.canon_proper.proofs.Calls.{ProperEach, ProperCallee, all_proper, more_proper, finished_proper}
use Rattle.canon_proper.proofs.Calls.{function_proper, chain_proper, head_proper, AreOthers, IsOneMaker}
use Rattle.canon_proper.proofs.Stands.{Stands, IsQuiet, AreQuiet, quiet_split, quiet_sound, stands_with, value_proper}
use Rattle.canon_proper.proofs.Stands.{maker_one, operator_known, all_quiet}
use Rattle.canon_proper.proofs.Made.{ProperMade, IsWell, is_functional}
use Rattle.canon_proper.proofs.Apart.{Apart, fresh_none}
use Rattle.canon_proper.proofs.Steps.{flat}
use Rattle.canon_proper.proofs.Blocks.{block_proper}

-- ---- parts

pub accessed_proper : (scope : Scope) (e : canon.Expr) (xs : List Word) → Proper scope e → AreSpelledWords xs →
    Proper scope (accessed e xs)
accessed_proper scope e [] p s = p
accessed_proper scope e (x ∷ xs) p s =
    accessed_proper scope (canon.Strict (canon.Access (name_of x)) (one e)) xs ((s.0, refl), (p, tt)) s.1

field_words : (fs : tree.Parts) → AreSpelledFields fs → AreSpelledWords (part_words fs)
field_words tree.NoPart s = tt
field_words (tree.MorePart x e fs) s = (s.0, field_words fs s.1.1)

names_are : (w : World) (shown : Pos → Bool) (fs : tree.Parts) → AreSpelledFields fs →
    IsQuiet w shown (FieldsTogether (part_words fs)) → are_fields (map name_of (part_words fs)) ≡ true
names_are w shown fs s q =
    fields_are (part_words fs) [] (fresh_from [] (part_words fs) (fields_once w (part_words fs) q.0)) (field_words fs s)

many_fields : (w : World) (locals : Locals) (fs : tree.Parts) →
    proper.count_exprs (exprs_of (meant_parts w locals fs)) ≡ length (map name_of (part_words fs))
many_fields w locals tree.NoPart = refl
many_fields w locals (tree.MorePart x e fs) = ap suc (many_fields w locals fs)

parameters_are : (w : World) (ps : tree.Patterns) → has_parameter ps ≡ true → proper.has_parameter (patterns_of w ps) ≡ true
parameters_are w tree.NoPattern e = absurd (false≢true e)
parameters_are w (tree.MorePattern p ps) e = refl

module _ (w : World) (has : HasMakers w) (shown : Pos → Bool) (locals : Locals) (scope : Scope) where
  -- patterns of one list
  pub binds_all : (ps : tree.Patterns) → Stands w shown locals scope → AreSpelledPatterns ps →
      AreQuiet w shown (list_sites locals ps) →
      BindsAll (patterns_of w ps) scope × (all_bound_by (patterns_of w ps) ≡ refs (words_of_all ps))
  binds_all ps st s q =
      let r = quiet_split w shown (match_sites_all ps) (binding_sites locals (words_of_all ps)) q in
      let f = words_fresh w locals scope (words_of_all ps) (λ x e. st.free x e) (quiet_sound w shown _ r.1) in
      let g = patterns_good w has ps scope f.0 s (quiet_sound w shown _ r.0) in
      ((g.0, subst (λ rs. AreFresh rs scope) (sym g.1) f.0), g.1)

  pub binds_one : (p : tree.Pattern) → Stands w shown locals scope → IsSpelledPattern p →
      AreQuiet w shown (pattern_sites locals p) →
      Binds (pattern_of w p) scope × (proper.bound_by (pattern_of w p) ≡ refs (words_of p))
  binds_one p st s q =
      let r = quiet_split w shown (match_sites p) (binding_sites locals (words_of p)) q in
      let f = words_fresh w locals scope (words_of p) (λ x e. st.free x e) (quiet_sound w shown _ r.1) in
      let g = pattern_good w has p scope f.0 s (quiet_sound w shown _ r.0) in
      ((g.0, subst (λ rs. AreFresh rs scope) (sym g.1) f.0), g.1)

-- ---- definitions

lambda_function : (w : World) (locals : Locals) (e : tree.Expr) → is_lambda e ≡ true →
    proper.is_function canon.NoPattern (meant w locals e) ≡ true
lambda_function w locals (tree.Lambda p ps e) h = refl
lambda_function w locals _ h = absurd (false≢true h)

pub functions_are : (w : World) (locals : Locals) (ps : tree.Patterns) (e : tree.Expr) → is_function ps e ≡ true →
    proper.is_function (patterns_of w ps) (meant w (with_names (words_of_all ps) locals) e) ≡ true
functions_are w locals tree.NoPattern e h = lambda_function w _ e h
functions_are w locals (tree.MorePattern p ps) e h = refl

pub define_proper : (w : World) (scope : Scope) (r : Ref) (place : Pos) (ps : tree.Patterns) (e : tree.Expr)
    (before : Option Annotation) (body : canon.Expr) → is_spelled r ≡ true →
    (is_function ps e ≡ true → proper.is_function (patterns_of w ps) body ≡ true) → BindsAll (patterns_of w ps) scope →
    Proper (with_all (all_bound_by (patterns_of w ps)) scope) body →
    ProperMade scope (r ∷ []) (made_of (is_function ps e) (title_of r place before) (patterns_of w ps) body)
define_proper w scope r place ps e before body s f binds p = by (is_function ps e) refl
  where
    constant : (qs : tree.Patterns) → is_function qs e ≡ false →
        Proper (with_all (all_bound_by (patterns_of w qs)) scope) body → Proper scope body
    constant tree.NoPattern h p = p
    constant (tree.MorePattern q qs) h p = absurd (false≢true (sym h))

    by : (b : Bool) → is_function ps e ≡ b →
        ProperMade scope (r ∷ []) (made_of b (title_of r place before) (patterns_of w ps) body)
    by true h = (refl, s, f h, binds, p)
    by false h = (refl, s, constant ps h p)

-- ---- blocks

flat_bound : (ds : tree.Definitions) → bound_in ds ≡ flat (bound_by_each ds)
flat_bound tree.NoDefinition = refl
flat_bound (tree.MoreDefinition d ds) = ap (λ ws. bound_by d ++ ws) (flat_bound ds)

many_sites : (w : World) (locals : Locals) (ds : tree.Definitions) →
    length (definitions_sites w locals ds) ≡ length (bound_by_each ds)
many_sites w locals tree.NoDefinition = refl
many_sites w locals (tree.MoreDefinition d ds) = ap suc (many_sites w locals ds)

quiet_at : (w : World) (shown : Pos → Bool) (each : List (List Site)) → AreQuiet w shown (joined_sites each) → (i : ℕ) →
    AreQuiet w shown (slice_index_or each i [])
quiet_at w shown [] q i = tt
quiet_at w shown (s ∷ each) q zero = (quiet_split w shown s (joined_sites each) q).0
quiet_at w shown (s ∷ each) q (suc i) = quiet_at w shown each (quiet_split w shown s (joined_sites each) q).1 i

pub not_recursive : (w : World) (reaches : Bool) (d : Defined) → faults_at w (Reaching reaches d) ≡ [] → reaches ≡ true →
    d.is_function ≡ true
unfolding faults_at
not_recursive w true d none e = by d.is_function none
  where
    by : (b : Bool) → (if (true && not b) then finding RecursiveValue d.place d.name ∷ [] else []) ≡ [] → b ≡ true
    by true none = refl
    by false none = absurd (cc)
not_recursive w false d none e = absurd (false≢true e)

made_functional : (w : World) (locals : Locals) (before : Option Annotation) (d : tree.Definition) →
    (defined_by d).is_function ≡ true → is_functional (made_by w locals before d) ≡ true
made_functional w locals before (tree.Annotate x t) e = refl
made_functional w locals before (tree.Define x ps body) e =
    ap (λ b. is_functional (made_of b (title_of (Local (name_of x)) x.place before) (patterns_of w ps)
    (finished (callee w (with_names (words_of_all ps) locals) body)))) e
made_functional w locals before (tree.Destructure p body) e = absurd (false≢true e)

functional_at : (w : World) (shown : Pos → Bool) (locals : Locals) (uses : List (List ℕ)) (ds : tree.Definitions)
    (before : Option Annotation) (k : ℕ) →
    AreQuiet w shown (map (λ (d : ℕ × Defined). Reaching (uses_itself uses d.0) d.1) (enumerate_from k (defined_in ds))) →
    (i j : ℕ) → j ≡ k + i → uses_itself uses j ≡ true →
    is_functional (slice_index_or (made_in w locals before ds) i NoMade) ≡ true
functional_at w shown locals uses tree.NoDefinition before k q i j e t = refl
functional_at w shown locals uses (tree.MoreDefinition d ds) before k q zero j e t =
    let s : j ≡ k = omega arith in
    made_functional w locals before d
    (not_recursive w (uses_itself uses k) (defined_by d) q.0.0 (subst (λ n. uses_itself uses n ≡ true) s t))
functional_at w shown locals uses (tree.MoreDefinition d ds) before k q (suc i) j e t =
    functional_at w shown locals uses ds (annotation_of w d) (k + 1) q.1 i j (omega arith) t

module _ (w : World) (shown : Pos → Bool) (locals : Locals) (scope : Scope) (ds : tree.Definitions) where
  abbrev inside : Locals
  inside = with_names (bound_in ds) locals

  abbrev sites : List (List Site)
  sites = definitions_sites w (with_names (bound_in ds) locals) ds

  abbrev made : List Made
  made = made_in w (with_names (bound_in ds) locals) None ds

  pub let_proper : Stands w shown locals scope → StandApart (bound_in ds) →
      ((i : ℕ) → IsWell w (with_names (bound_in ds) locals) (slice_index_or (bound_by_each ds) i [])
      (slice_index_or sites i []) (slice_index_or made i NoMade)) →
      AreQuiet w shown (binding_sites locals (bound_in ds)) → AreQuiet w shown (joined_sites sites) →
      AreQuiet w shown (reaching_sites (uses_among w (bound_by_each ds) sites) (defined_in ds)) →
      ProperGroups scope (block_groups w (with_names (bound_in ds) locals) ds made)
      × Stands w shown (with_names (bound_in ds) locals)
      (after (block_groups w (with_names (bound_in ds) locals) ds made) scope)
  let_proper st places well binding joined reaching =
      let f = words_fresh w locals scope (bound_in ds) (λ x e. st.free x e) (quiet_sound w shown _ binding) in
      let e = flat_bound ds in
      let r = block_proper w shown scope locals (bound_by_each ds) sites made (record {
        stands = st;
        apart = subst (λ ws. Apart (refs ws) scope) e (fresh_none (refs (bound_in ds)) scope f.0);
        fresh = subst (λ ws. AreFresh (refs ws) []) e f.2;
        places = subst StandApart e places;
        quiet = quiet_at w shown sites joined;
        well = λ i. subst (λ ws. IsWell w (with_names ws locals) (slice_index_or (bound_by_each ds) i [])
            (slice_index_or sites i []) (slice_index_or made i NoMade)) e (well i);
        recursive = λ i t.
            functional_at w shown (with_names (bound_in ds) locals) (uses_among w (bound_by_each ds) sites) ds None 0
            reaching i i (omega arith) t;
        many = many_sites w (with_names (bound_in ds) locals) ds;
      }) in (
        r.0,
        subst (λ ws. Stands w shown (with_names ws locals)
            (after (block_groups w (with_names (bound_in ds) locals) ds made) scope)) (sym e) r.1,
      )

-- ---- expressions

module _ (w : World) (has : HasMakers w) where
  mutual
    pub callee_proper : (e : tree.Expr) (shown : Pos → Bool) (locals : Locals) (scope : Scope) →
        Stands w shown locals scope → IsSpelled e → AreQuiet w shown (expr_sites w locals e) →
        ProperCallee scope (callee w locals e)
    callee_proper (tree.Is p l) shown locals scope st s q = (s, tt)
    callee_proper (tree.Name x) shown locals scope st s q = (value_proper w shown locals scope st x q.0, tt)
    callee_proper (tree.Constructor x) shown locals scope st s q =
        let m = maker_one w shown x q.0 in (
          head_proper w scope st.names x (maker_found w x) (maker_is w x has)
              (subst (IsOneMaker w scope st.names x) (sym m.1) (st.names.makers x m.0 m.1)),
          tt,
        )
    callee_proper (tree.OperatorName op) shown locals scope st s q =
        (function_proper w scope st.names op (operator_known w shown op q.0), tt)
    callee_proper (tree.Accessor x) shown locals scope st s q = (s, tt)
    callee_proper (tree.Lambda p ps e) shown locals scope st s q =
        let r = quiet_split w shown (list_sites locals ps) (expr_sites w (with_names (words_of_all ps) locals) e) q in
        let binds = binds_all w has shown locals scope ps st s.1.0 r.0 in
        let body = callee_proper e shown (with_names (words_of_all ps) locals) (with_all (refs (words_of_all ps)) scope)
        (stands_with w shown locals scope (words_of_all ps) st) s.1.1 r.1 in
        let proper_body = subst (λ rs. Proper (with_all rs scope) (meant w (with_names (words_of_all ps) locals) e))
        (sym binds.1) (finished_proper _ _ body) in
        ((parameters_are w ps s.0, (binds.0, proper_body)), tt)
    callee_proper (tree.Apply f es) shown locals scope st s q =
        let r = quiet_split w shown (expr_sites w locals f) (exprs_sites w locals es) q in
        let h = callee_proper f shown locals scope st s.0 r.0 in (
          h.0,
          more_proper scope (callee w locals f).arguments (meant_each w locals es) h.1
              (each_proper es shown locals scope st s.1 r.1),
        )
    callee_proper (tree.Chain e ps) shown locals scope st s q =
        let r = quiet_split w shown (expr_sites w locals e) (chain_sites w locals ps) q in
        chain_proper w scope st.names (callee w locals e) (callees w locals ps)
        (callee_proper e shown locals scope st s.0 r.0) (operands_proper ps shown locals scope st s.1 r.1)
    callee_proper (tree.Negate p e) shown locals scope st s q =
        ((refl, (finished_proper scope (callee w locals e) (callee_proper e shown locals scope st s q), tt)), tt)
    callee_proper (tree.If c a b) shown locals scope st s q =
        let r = quiet_split w shown (expr_sites w locals c ++ expr_sites w locals a) (expr_sites w locals b) q in
        let t = quiet_split w shown (expr_sites w locals c) (expr_sites w locals a) r.0 in (
          (
            finished_proper scope (callee w locals c) (callee_proper c shown locals scope st s.0 t.0),
            (
              finished_proper scope (callee w locals a) (callee_proper a shown locals scope st s.1.0 t.1),
              finished_proper scope (callee w locals b) (callee_proper b shown locals scope st s.1.1 r.1),
            ),
          ),
          tt,
        )
    callee_proper (tree.Case p e bs) shown locals scope st s q =
        let r = quiet_split w shown (expr_sites w locals e) (branch_sites w locals bs) q in (
          (
            finished_proper scope (callee w locals e) (callee_proper e shown locals scope st s.0 r.0),
            branches_proper bs shown locals scope st s.1 r.1,
          ),
          tt,
        )
    callee_proper (tree.Let ds e) shown locals scope st s q =
        let each = definitions_sites w (with_names (bound_in ds) locals) ds in
        let names = binding_sites locals (bound_in ds) in
        let reaching = reaching_sites (uses_among w (bound_by_each ds) each) (defined_in ds) in
        let body = expr_sites w (with_names (bound_in ds) locals) e in
        let r = quiet_split w shown (names ++ joined_sites each ++ reaching) body q in
        let t = quiet_split w shown (names ++ joined_sites each) reaching r.0 in
        let u = quiet_split w shown names (joined_sites each) t.0 in
        let block = let_proper w shown locals scope ds st s.0
        (λ i. made_well ds None (with_names (bound_in ds) locals) s.1.0 i) u.0 u.1 t.1 in (
          (
            block.0,
            finished_proper _ (callee w (with_names (bound_in ds) locals) e)
                (callee_proper e shown (with_names (bound_in ds) locals) _ block.1 s.1.1 r.1),
          ),
          tt,
        )
    callee_proper (tree.ListOf p es) shown locals scope st s q =
        ((tt, all_proper scope (meant_each w locals es) (each_proper es shown locals scope st s q)), tt)
    callee_proper (tree.TupleOf p es) shown locals scope st s q =
        ((tt, all_proper scope (meant_each w locals es) (each_proper es shown locals scope st s q)), tt)
    callee_proper (tree.RecordOf p fs) shown locals scope st s q =
        let r = quiet_split w shown (part_sites w locals fs) (FieldsTogether (part_words fs) ∷ []) q in (
          (
            (names_are w shown fs s r.1.0, many_fields w locals fs),
            all_proper scope (meant_parts w locals fs) (parts_proper fs shown locals scope st s r.0),
          ),
          tt,
        )
    callee_proper (tree.Update p x fs) shown locals scope st s q =
        let r = quiet_split w shown (part_sites w locals fs) (FieldsTogether (part_words fs) ∷ []) q.1 in (
          (
            (names_are w shown fs s r.1.0, ap suc (many_fields w locals fs)),
            (
              value_proper w shown locals scope st (long_word x) q.0,
              all_proper scope (meant_parts w locals fs) (parts_proper fs shown locals scope st s r.0),
            ),
          ),
          tt,
        )
    callee_proper (tree.Access p e xs) shown locals scope st s q = (
      accessed_proper scope (finished (callee w locals e)) xs
          (finished_proper scope (callee w locals e) (callee_proper e shown locals scope st s.0 q)) s.1,
      tt,
    )

    pub each_proper : (es : tree.Exprs) (shown : Pos → Bool) (locals : Locals) (scope : Scope) →
        Stands w shown locals scope → AreSpelled es → AreQuiet w shown (exprs_sites w locals es) →
        ProperEach scope (meant_each w locals es)
    each_proper tree.NoExpr shown locals scope st s q = tt
    each_proper (tree.MoreExpr e es) shown locals scope st s q =
        let r = quiet_split w shown (expr_sites w locals e) (exprs_sites w locals es) q in (
          finished_proper scope (callee w locals e) (callee_proper e shown locals scope st s.0 r.0),
          each_proper es shown locals scope st s.1 r.1,
        )

    pub parts_proper : (fs : tree.Parts) (shown : Pos → Bool) (locals : Locals) (scope : Scope) →
        Stands w shown locals scope → AreSpelledFields fs → AreQuiet w shown (part_sites w locals fs) →
        ProperEach scope (meant_parts w locals fs)
    parts_proper tree.NoPart shown locals scope st s q = tt
    parts_proper (tree.MorePart x e fs) shown locals scope st s q =
        let r = quiet_split w shown (expr_sites w locals e) (part_sites w locals fs) q in (
          finished_proper scope (callee w locals e) (callee_proper e shown locals scope st s.1.0 r.0),
          parts_proper fs shown locals scope st s.1.1 r.1,
        )

    pub operands_proper : (ps : tree.Parts) (shown : Pos → Bool) (locals : Locals) (scope : Scope) →
        (st : Stands w shown locals scope) → AreSpelledOperands ps → AreQuiet w shown (chain_sites w locals ps) →
        AreOthers w scope st.names (callees w locals ps)
    operands_proper tree.NoPart shown locals scope st s q = tt
    operands_proper (tree.MorePart op e ps) shown locals scope st s q =
        let r = quiet_split w shown (expr_sites w locals e) (chain_sites w locals ps) q.1 in (
          (operator_known w shown op q.0, callee_proper e shown locals scope st s.0 r.0),
          operands_proper ps shown locals scope st s.1 r.1,
        )

    pub branches_proper : (bs : tree.Branches) (shown : Pos → Bool) (locals : Locals) (scope : Scope) →
        Stands w shown locals scope → AreSpelledBranches bs → AreQuiet w shown (branch_sites w locals bs) →
        ProperBranches scope (meant_branches w locals bs)
    branches_proper tree.NoBranch shown locals scope st s q = tt
    branches_proper (tree.MoreBranch p e bs) shown locals scope st s q =
        let inner = with_names (words_of p) locals in
        let r = quiet_split w shown (pattern_sites locals p ++ expr_sites w inner e) (branch_sites w locals bs) q in
        let t = quiet_split w shown (pattern_sites locals p) (expr_sites w inner e) r.0 in
        let binds = binds_one w has shown locals scope p st s.0 t.0 in
        let body = callee_proper e shown (with_names (words_of p) locals) (with_all (refs (words_of p)) scope)
        (stands_with w shown locals scope (words_of p) st) s.1.0 t.1 in
        let proper_body = subst (λ rs. Proper (with_all rs scope) (meant w (with_names (words_of p) locals) e))
        (sym binds.1) (finished_proper _ _ body) in
        (binds.0, (proper_body, branches_proper bs shown locals scope st s.1.1 r.1))

    pub made_well : (ds : tree.Definitions) (before : Option Annotation) (locals : Locals) → AreSpelledDefinitions ds →
        (i : ℕ) →
        IsWell w locals (slice_index_or (bound_by_each ds) i []) (slice_index_or (definitions_sites w locals ds) i [])
        (slice_index_or (made_in w locals before ds) i NoMade)
    made_well tree.NoDefinition before locals s i = λ shown scope st f q. refl
    made_well (tree.MoreDefinition d ds) before locals s zero = definition_well d before locals s.0
    made_well (tree.MoreDefinition d ds) before locals s (suc i) = made_well ds (annotation_of w d) locals s.1 i

    pub definition_well : (d : tree.Definition) (before : Option Annotation) (locals : Locals) → IsSpelledDefinition d →
        IsWell w locals (bound_by d) (definition_sites w locals d) (made_by w locals before d)
    definition_well (tree.Annotate x t) before locals s = λ shown scope st f q. refl
    definition_well (tree.Define x ps e) before locals s = λ shown scope st f q.
        let r = quiet_split w shown (list_sites locals ps) (expr_sites w (with_names (words_of_all ps) locals) e) q in
        let binds = binds_all w has shown locals scope ps st s.1.0 r.0 in
        let body = callee_proper e shown (with_names (words_of_all ps) locals) (with_all (refs (words_of_all ps)) scope)
        (stands_with w shown locals scope (words_of_all ps) st) s.1.1 r.1 in
        let proper_body = subst (λ rs. Proper (with_all rs scope) (meant w (with_names (words_of_all ps) locals) e))
        (sym binds.1) (finished_proper _ _ body) in
        define_proper w scope (Local (name_of x)) x.place ps e before (meant w (with_names (words_of_all ps) locals) e) s.0
        (functions_are w locals ps e) binds.0 proper_body
    definition_well (tree.Destructure p e) before locals s = λ shown scope st f q.
        let r = quiet_split w shown (match_sites p) (expr_sites w locals e) q in
        let g = pattern_good w has p [] f s.0 (quiet_sound w shown (match_sites p) r.0) in
        (sym g.1, g.0, finished_proper scope (callee w locals e) (callee_proper e shown locals scope st s.1 r.1))

-- ---- where no name is hidden

stands_alone : (w : World) (locals : Locals) (scope : Scope) → HasNames w scope → IsScopeOf locals scope →
    Stands w (λ p. true) locals scope
stands_alone w locals scope names is = record {
  names = names;
  bound = λ x p at t. is x ∙ ap is_some at;
  free = λ x no_place. is x ∙ no_place;
}

pub expr_proper : (w : World) (locals : Locals) (scope : Scope) (e : tree.Expr) → HasMakers w → HasNames w scope →
    IsScopeOf locals scope → IsSpelled e → flat_map (faults_at w) (expr_sites w locals e) ≡ [] →
    Proper scope (meant w locals e)
expr_proper w locals scope e has names is s none =
    finished_proper scope (callee w locals e)
    (callee_proper w has e (λ p. true) locals scope (stands_alone w locals scope names is) s
    (all_quiet w (expr_sites w locals e) (sound_sites w (expr_sites w locals e) none)))

pub definition_proper : (w : World) (locals : Locals) (scope : Scope) (ps : tree.Patterns) (e : tree.Expr) → HasMakers w →
    HasNames w scope → IsScopeOf locals scope → AreSpelledPatterns ps → IsSpelled e →
    flat_map (faults_at w) (list_sites locals ps ++ expr_sites w (with_names (words_of_all ps) locals) e) ≡ [] →
    BindsAll (patterns_of w ps) scope
    × Proper (with_all (all_bound_by (patterns_of w ps)) scope) (meant w (with_names (words_of_all ps) locals) e)
definition_proper w locals scope ps e has names is sp s none =
    let inner = with_names (words_of_all ps) locals in
    let sites = list_sites locals ps ++ expr_sites w inner e in
    let r = quiet_split w (λ p. true) (list_sites locals ps) (expr_sites w inner e)
    (all_quiet w sites (sound_sites w sites none)) in
    let st = stands_alone w locals scope names is in
    let binds = binds_all w has (λ p. true) locals scope ps st sp r.0 in
    let body = callee_proper w has e (λ p. true) (with_names (words_of_all ps) locals)
    (with_all (refs (words_of_all ps)) scope)
    (stands_with w (λ p. true) locals scope (words_of_all ps) st) s r.1 in (
      binds.0,
      subst (λ rs. Proper (with_all rs scope) (meant w (with_names (words_of_all ps) locals) e))
          (sym binds.1) (finished_proper _ _ body),
    )
