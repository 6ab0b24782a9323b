-- The functions of the core that a link takes are those of the modules.
use Rattle.std.proofs.Common.{◌≡◌, ℕ, suc, List, [], ◌∷◌, ◌++◌, map, Bool, true, false, Option, Some, None, inl, inr}
use Rattle.std.proofs.Common.{refl}
use Rattle.std.proofs.Common.{sym, ap, ◌∙◌, if◌then◌else◌, ◌⊎◌, ⊎_elim}
use Rattle.std.specs.Prelude.{flat_map}
use Rattle.std.specs.List.{filter_map, cons_option}
use Rattle.elm_canon.specs.Tree.{Declaration, PortDeclaration}
use Rattle.elm_canon.specs.declared.reference.Ref.{Ref}
use Rattle.elm_meaning.specs.Functions.{Primitive}
use Rattle.link.specs.Cores.{core_of, cores_of}
use Rattle.link.specs.Reached.{kept}
use Rattle.link.specs.Programs.{Item, Core, Declared, items_of, cores_in}
use Rattle.typed_values.specs.World.{Among}
use Rattle.project_proper.specs.Resolved.{source_of}
use Rattle.build_safety.specs.Compiled.{Compiled, resolved_of}
use Rattle.build_safety.specs.ToldPrimitives.{IsCore}

abbrev Named : Type 0
Named = Ref × Primitive

-- what is kept was there
kept_there : (test : ℕ → Bool) (n : ℕ) (is : List Item) (q : Named) → Among q (cores_in (kept test n is)) →
    Among q (cores_in is)
kept_there test n [] q a = a
kept_there test n (Core c ∷ is) q a = by (test n) a (kept_there test (suc n) is q)
  where
    by : (b : Bool) → Among q (cores_in (if b then Core c ∷ kept test (suc n) is else kept test (suc n) is)) →
        (Among q (cores_in (kept test (suc n) is)) → Among q (cores_in is)) → Among q (c ∷ cores_in is)
    by true (inl h) rest = inl h
    by true (inr h) rest = inr (rest h)
    by false h rest = inr (rest h)
kept_there test n (Declared ports d ∷ is) q a = by (test n) a (kept_there test (suc n) is q)
  where
    by : (b : Bool) → Among q (cores_in (if b then Declared ports d ∷ kept test (suc n) is else kept test (suc n) is)) →
        (Among q (cores_in (kept test (suc n) is)) → Among q (cores_in is)) → Among q (cores_in is)
    by true h rest = rest h
    by false h rest = rest h

in_both : (is js : List Item) (q : Named) → Among q (cores_in (is ++ js)) →
    Among q (cores_in is) ⊎ Among q (cores_in js)
in_both [] js q a = inr a
in_both (Core c ∷ is) js q (inl h) = inl (inl h)
in_both (Core c ∷ is) js q (inr h) = ⊎_elim (λ k. inl (inr k)) inr (in_both is js q h)
in_both (Declared ports d ∷ is) js q a = in_both is js q a

declared_none : (ports : List PortDeclaration) (ds : List Declaration) (q : Named) →
    Among q (cores_in (map (Declared ports) ds)) → ⊥
declared_none ports [] q a = a
declared_none ports (d ∷ ds) q a = declared_none ports ds q a

cores_there : (cs : List Named) (q : Named) → Among q (cores_in (map Core cs)) → Among q cs
cores_there [] q a = a
cores_there (c ∷ cs) q (inl h) = inl h
cores_there (c ∷ cs) q (inr h) = inr (cores_there cs q h)

-- a function of the core of a module is one that it defines
record IsDefined (ds : List Declaration) (q : Named) : Type 0 where
  declaration : Declaration
  there : Among declaration ds
  is : core_of declaration ≡ Some q

core_defined : (ds : List Declaration) (q : Named) → Among q (filter_map core_of ds) → IsDefined ds q
core_defined [] q a = absurd a
core_defined (d ∷ ds) q a = by (core_of d) refl a (core_defined ds q)
  where
    by : (o : Option Named) → core_of d ≡ o → Among q (cons_option o (filter_map core_of ds)) →
        (Among q (filter_map core_of ds) → IsDefined ds q) → IsDefined (d ∷ ds) q
    by None e h rest =
        let r = rest h in record { declaration = r.declaration; there = inr r.there; is = r.is }
    by (Some c) e (inl h) rest =
        record { declaration = d; there = inl refl; is = e ∙ ap (λ z. Some z) (sym h) }
    by (Some c) e (inr h) rest =
        let r = rest h in record { declaration = r.declaration; there = inr r.there; is = r.is }

pub core_of_module : (c : Compiled) (q : Named) → Among q (cores_in (items_of (source_of c.resolved))) →
    IsCore c.resolved.whole q.0 q.1
core_of_module c q a =
    let m = c.resolved.whole in
    ⊎_elim (λ h. defined (core_defined m.declarations q (cores_there (cores_of m) q h)))
    (λ h. absurd (declared_none m.ports (source_of c.resolved).tree.declarations q h))
    (in_both (map Core (cores_of m)) (map (Declared m.ports) (source_of c.resolved).tree.declarations) q a)
  where
    defined : IsDefined c.resolved.whole.declarations q → IsCore c.resolved.whole q.0 q.1
    defined r = record { declaration = r.declaration; among = r.there; is = r.is }

-- it is of one of the modules
pub record Comes (cs : List Compiled) (q : Named) : Type 0 where
  pub before : List Compiled
  pub by : Compiled
  pub after : List Compiled
  pub parted : before ++ by ∷ after ≡ cs
  pub core : IsCore by.resolved.whole q.0 q.1

comes : (cs : List Compiled) (q : Named) → Among q (cores_in (flat_map items_of (map source_of (resolved_of cs)))) →
    Comes cs q
comes [] q a = absurd a
comes (c ∷ cs) q a =
    ⊎_elim (λ h. record { before = []; by = c; after = cs; parted = refl; core = core_of_module c q h })
    (λ h. later (comes cs q h))
    (in_both (items_of (source_of c.resolved)) (flat_map items_of (map source_of (resolved_of cs))) q a)
  where
    later : Comes cs q → Comes (c ∷ cs) q
    later r = record {
      before = c ∷ r.before;
      by = r.by;
      after = r.after;
      parted = ap (λ ds. c ∷ ds) r.parted;
      core = r.core;
    }

pub kept_comes : (test : ℕ → Bool) (cs : List Compiled) (q : Named) →
    Among q (cores_in (kept test 0 (flat_map items_of (map source_of (resolved_of cs))))) → Comes cs q
kept_comes test cs q a = comes cs q (kept_there test 0 (flat_map items_of (map source_of (resolved_of cs))) q a)
