-- Declarations of which those that no text can say stand in front: the others are proper after them. `moved`.
use Rattle.std.proofs.Common.{◌≡◌, List, [], ◌∷◌, ◌++◌, true, false, Option, Some, None, refl, sym, ap, ◌∙◌}
use Rattle.std.proofs.Common.{subst}
use Rattle.std.proofs.Common.{map, ◌⊎◌, inl, inr, ⊎_elim, option_map}
use Rattle.std.specs.List.{filter_map, cons_option}
use Rattle.std.proofs.lemmas.Bool.{false≢true}
use Rattle.elm_canon.specs.Names.{Name}
use Rattle.elm_canon.specs.declared.reference.Ref.{Ref}
use Rattle.elm_canon.specs.declared.reference.Ref.TheVariants.{Local}
use Rattle.elm_canon.specs.Tree.{Declaration, Given, Define, Together, Constant, Destructure}
use Rattle.elm_canon.specs.Tree.{NoFunction, MoreFunction}
use Rattle.elm_meaning.specs.Functions.{Primitive}
use Rattle.elm_canon.specs.Spelled.{is_spelled}
use Rattle.elm_canon.specs.Proper.{Scope, among, IsIn, with_all, AreFresh, function_names}
use Rattle.elm_canon.specs.Declarations.{ProperDeclaration, ProperDeclarations, declared_names}
use Rattle.emit_size_laws.specs.Programs.{AllSpelled}
use Rattle.decl_groups.proofs.Ordering.{not_true}
use Rattle.canon_proper.specs.Narrower.{IsNarrower}
use Rattle.canon_proper.proofs.Scopes.{in_more, in_first}
use Rattle.canon_proper.proofs.Apart.{fresh_in, fresh_less, fresh_none, in_either, in_left, in_right}
use Rattle.canon_proper.proofs.Narrowing.{narrow, narrow_functions}
use Rattle.module_proper.specs.Inside.{IsInside, AllInside}
use Rattle.link.specs.Cores.{primitive_of, named, core_of, kept_by, others}
use Rattle.project_proper.proofs.Sublists.{Sub, none, take, skip, names_all}
use Rattle.project_proper.proofs.Left.{in_with, in_front}
use Rattle.project_proper.proofs.Used.{used, inside_used, only_one}

-- ---- functions that no text can say

named_is : (r : Ref) (p : Ref × Primitive) → named r ≡ Some p → p.0 ≡ r
named_is r p e = by (primitive_of r) e
  where
    by : (o : Option Primitive) → option_map (λ q. (r, q)) o ≡ Some p → p.0 ≡ r
    by None e = absurd cc
    by (Some q) e = let h : (r, q) ≡ p = cc in ap (λ (z : Ref × Primitive). z.0) (sym h)

pub core_names : (d : Declaration) (p : Ref × Primitive) → core_of d ≡ Some p → declared_names d ≡ p.0 ∷ []
core_names (Given r k) p e = absurd cc
core_names (Define (Together NoFunction)) p e = absurd cc
core_names (Define (Together (MoreFunction title ps b NoFunction))) p e =
    ap (λ r. r ∷ []) (sym (named_is title.name p e))
core_names (Define (Together (MoreFunction title ps b (MoreFunction next qs f fs)))) p e = absurd cc
core_names (Define (Constant title b)) p e = absurd cc
core_names (Define (Destructure q b)) p e = absurd cc

core_spelled : (d : Declaration) (p : Ref × Primitive) (scope : Scope) → core_of d ≡ Some p →
    ProperDeclaration scope d → is_spelled p.0 ≡ true
core_spelled (Given r k) p scope e q = absurd cc
core_spelled (Define (Together NoFunction)) p scope e q = absurd cc
core_spelled (Define (Together (MoreFunction title ps b NoFunction))) p scope e q =
    ap is_spelled (named_is title.name p e) ∙ q.1.1.0
core_spelled (Define (Together (MoreFunction title ps b (MoreFunction next qs f fs)))) p scope e q = absurd cc
core_spelled (Define (Constant title b)) p scope e q = absurd cc
core_spelled (Define (Destructure q b)) p scope e z = absurd cc

pub others_sub : (ds : List Declaration) → Sub (others ds) ds
others_sub [] = none
others_sub (d ∷ ds) = by (core_of d) (others_sub ds)
  where
    by : (o : Option (Ref × Primitive)) → Sub (others ds) ds → Sub (kept_by o d (others ds)) (d ∷ ds)
    by None s = take s
    by (Some p) s = skip s

abbrev pub core_refs : List Declaration → List Ref
core_refs ds = map (λ (c : Ref × Primitive). c.0) (filter_map core_of ds)

-- their names are among those of all
pub cores_sub : (ds : List Declaration) → Sub (core_refs ds) (names_all ds)
cores_sub [] = none
cores_sub (d ∷ ds) = by (core_of d) refl (cores_sub ds)
  where
    skip_all : (rs : List Ref) → Sub (core_refs ds) (names_all ds) → Sub (core_refs ds) (rs ++ names_all ds)
    skip_all [] s = s
    skip_all (r ∷ rs) s = skip (skip_all rs s)

    by : (o : Option (Ref × Primitive)) → core_of d ≡ o → Sub (core_refs ds) (names_all ds) →
        Sub (map (λ (c : Ref × Primitive). c.0) (cons_option o (filter_map core_of ds)))
        (declared_names d ++ names_all ds)
    by None e s = skip_all (declared_names d) s
    by (Some p) e s =
        subst (λ rs. Sub (p.0 ∷ core_refs ds) (rs ++ names_all ds)) (sym (core_names d p e)) (take s)

pub cores_spelled : (ds : List Declaration) (scope : Scope) → ProperDeclarations scope ds → AllSpelled (core_refs ds)
cores_spelled [] scope p = tt
cores_spelled (d ∷ ds) scope p = by (core_of d) refl (cores_spelled ds (with_all (declared_names d) scope) p.1)
  where
    by : (o : Option (Ref × Primitive)) → core_of d ≡ o → AllSpelled (core_refs ds) →
        AllSpelled (map (λ (c : Ref × Primitive). c.0) (cons_option o (filter_map core_of ds)))
    by None e s = s
    by (Some q) e s = (core_spelled d q scope e p.0, s)

-- ---- the others

-- w: where everything is in scope; cores: the names in front
module _ (w : Scope) (cores : List Ref) (no_locals : (x : Name) → among (Local x) w ≡ false) where
  -- a: without those in front, b: with them
  pub record AreBoth (a b : Scope) : Type 0 where
    pub within : (r : Ref) → IsIn r b → IsIn r w
    pub has : (r : Ref) → IsIn r a → IsIn r b
    pub only : (r : Ref) → IsIn r b → IsIn r a ⊎ IsIn r cores
    pub front : (r : Ref) → IsIn r cores → IsIn r b

  both_with : (a b : Scope) (xs : List Ref) → AreBoth a b → ((r : Ref) → IsIn r xs → IsIn r w) →
      AreBoth (with_all xs a) (with_all xs b)
  both_with a b xs h i = record {
    within = λ r e. ⊎_elim (i r) (h.within r) (in_with r xs b e);
    has = λ r e. ⊎_elim (in_front r xs b) (λ k. in_more r xs b (h.has r k)) (in_with r xs a e);
    only = λ r e.
        ⊎_elim (λ k. inl (in_front r xs a k))
        (λ k. ⊎_elim (λ l. inl (in_more r xs a l)) inr (h.only r k)) (in_with r xs b e);
    front = λ r e. in_more r xs b (h.front r e);
  }

  both_core : (a b : Scope) (x : Ref) → AreBoth a b → IsIn x cores → AreBoth (x ∷ a) b
  both_core a b x h i = record {
    within = h.within;
    has = λ r e. ⊎_elim (λ k. h.front r (only_one r x cores k i)) (h.has r) (in_either r (x ∷ []) a e);
    only = λ r e. ⊎_elim (λ k. inl (in_right r (x ∷ []) a k)) inr (h.only r e);
    front = h.front;
  }

  narrower : (a b : Scope) → AreBoth a b → IsNarrower w b
  narrower a b h = record { within = h.within; locals = λ x e. absurd (false≢true (sym (no_locals x) ∙ e)) }

  not_there : (a b : Scope) (r : Ref) → AreBoth a b → among r a ≡ false → among r cores ≡ false → among r b ≡ false
  not_there a b r h e f =
      not_true (among r b) (λ k. ⊎_elim (λ l. false≢true (sym e ∙ l)) (λ l. false≢true (sym f ∙ l)) (h.only r k))

  fresh_there : (a b : Scope) (xs : List Ref) → AreBoth a b → AreFresh xs a →
      ((r : Ref) → IsIn r xs → among r cores ≡ false) → AreFresh xs b
  fresh_there a b xs h f c =
      fresh_in xs b (fresh_less xs a [] (λ r e. absurd (false≢true e)) f)
      (λ r e. not_there a b r h (fresh_none xs a f r e) (c r e))

  one_moved : (d : Declaration) (a b : Scope) → AreBoth a b → ProperDeclaration a d → IsInside w d →
      ((r : Ref) → IsIn r (declared_names d) → among r cores ≡ false) →
      ((r : Ref) → IsIn r (declared_names d) → IsIn r w) → ProperDeclaration b d
  one_moved (Given r k) a b h p q c i =
      (p.0, (not_there a b r h p.1.0 (c r (in_first r [])), p.1.1))
  one_moved (Define (Together fs)) a b h p q c i =
      let xs = function_names fs in
      let more = both_with a b xs h i in (
        p.0,
        (
          fresh_there a b xs h p.1.0 c,
          narrow_functions fs w (with_all xs b) (narrower (with_all xs a) (with_all xs b) more)
              (λ r u e. more.has r (inside_used (Together fs) a w p.1 q r u e)) q,
        ),
      )
  one_moved (Define (Constant title e)) a b h p q c i = (
    p.0,
    (
      p.1.0,
      (
        not_there a b title.name h p.1.1.0 (c title.name (in_first title.name [])),
        narrow e w b (narrower a b h) (λ r u k. h.has r (used e a w p.1.1.1 q.1 r u k)) q.1,
      ),
    ),
  )
  one_moved (Define (Destructure x e)) a b h p q c i = absurd q

  pub moved : (ds : List Declaration) (a b : Scope) → AreBoth a b → ProperDeclarations a ds → AllInside w ds →
      ((r : Ref) → IsIn r (core_refs ds) → IsIn r cores) →
      ((r : Ref) → IsIn r (names_all (others ds)) → among r cores ≡ false) →
      ((r : Ref) → IsIn r (names_all (others ds)) → IsIn r w) → ProperDeclarations b (others ds)
  moved [] a b h p q c f i = tt
  moved (d ∷ ds) a b h p q c f i =
      by (core_of d) refl c f i
      (λ next more. moved ds (with_all (declared_names d) a) next more p.1 q.1)
    where
      xs : List Ref
      xs = declared_names d

      by : (o : Option (Ref × Primitive)) → core_of d ≡ o →
          ((r : Ref) → IsIn r (map (λ (c : Ref × Primitive). c.0) (cons_option o (filter_map core_of ds))) → IsIn r
          cores) →
          ((r : Ref) → IsIn r (names_all (kept_by o d (others ds))) → among r cores ≡ false) →
          ((r : Ref) → IsIn r (names_all (kept_by o d (others ds))) → IsIn r w) →
          ((next : Scope) → AreBoth (with_all (declared_names d) a) next →
          ((r : Ref) → IsIn r (core_refs ds) → IsIn r cores) →
          ((r : Ref) → IsIn r (names_all (others ds)) → among r cores ≡ false) →
          ((r : Ref) → IsIn r (names_all (others ds)) → IsIn r w) → ProperDeclarations next (others ds)) →
          ProperDeclarations b (kept_by o d (others ds))
      by None e c f i rest =
          let own = λ (r : Ref) (k : IsIn r (declared_names d)). in_left r (declared_names d) (names_all (others ds)) k
          in
          let later = λ (r : Ref) (k : IsIn r (names_all (others ds))). in_right r (declared_names d)
          (names_all (others ds)) k in (
            one_moved d a b h p.0 q.0 (λ r k. f r (own r k)) (λ r k. i r (own r k)),
            rest (with_all (declared_names d) b)
                (both_with a b (declared_names d) h (λ r k. i r (own r k))) c
                (λ r k. f r (later r k)) (λ r k. i r (later r k)),
          )
      by (Some x) e c f i rest =
          rest b
          (subst (λ rs. AreBoth (with_all rs a) b) (sym (core_names d x e))
          (both_core a b x.0 h (c x.0 (in_first x.0 (core_refs ds)))))
          (λ r k. c r (in_right r (x.0 ∷ []) (core_refs ds) k)) f i
