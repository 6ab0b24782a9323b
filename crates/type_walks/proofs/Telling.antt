-- What a store tells is principal.
use Rattle.std.proofs.Common.{◌≡◌, ℕ, zero, suc, ◌<◌, ◌≤◌, List, [], ◌∷◌, ◌++◌, length, Bool, true, false, Option, Some, None, inl, inr, refl, sym, ap, ◌∙◌, subst, arith}
use Rattle.std.specs.List.{AllByRecursion}
use Rattle.std.proofs.lemmas.Bool.{cases_lt}
use Rattle.elm_type.specs.Types.{ElmType, ElmTypes, Fields, End, Closed, Over, Made, Record, NoType, MoreType, NoField, MoreField, variable, variables, variables_all, variables_fields, end_variables, Rigid, Leaf, Free, Fixed, Kind, Scheme, any_kind, kind_at}
use Rattle.elm_type.specs.Classes.{Ground, meets}
use Rattle.elm_type.specs.Rows.{extend, at_end, substitute_all, substitute_fields}
use Rattle.elm_type.specs.declared.class.Class.TheVariants.{Any}
use Rattle.elm_type.specs.Ground.{leaf_value, value, fits}
use Rattle.type_items.specs.Items.{Place, Wanted, Item}
use Rattle.type_items.specs.Solutions.{Solves}
use Rattle.type_items.specs.Principal.{HasType, unscoped, IsInstance, Outside, IsPrincipal}
use Rattle.type_store.specs.Store.{Store, Open, slot_at}
use Rattle.type_store.specs.Solutions.{Values, Fit}
use Rattle.type_store.specs.Shape.{IsStore}
use Rattle.type_store.specs.Laws.{Chosen, Refit, EachChoiceFits}
use Rattle.type_store.proofs.RowsMeet.{and_both}
use Rattle.type_store.proofs.Classes.{meets_any}
use Rattle.type_walks.specs.Regions.{Region}
use Rattle.type_walks.specs.Links.{Types, AreGround, Links, Carries, Has, IsClean, Clean, Within}
use Rattle.type_walks.specs.Walks.{Around, Filled}
use Rattle.type_walks.specs.Progress.{Themselves, Stands}
use Rattle.type_walks.proofs.Cleaning.{all_first, all_second, constant_there}
use Rattle.type_walks.proofs.Refitting.{plain, plain_chosen, clean_all}
use Rattle.type_walks.specs.Told.{IsBelow, Told, IsUnder}
use Rattle.type_walks.specs.ToldTypesLaws.{TellsPrincipal}
use Rattle.type_walks.proofs.Parting.{clean_path}

-- ---- a type where its variables have the same types

module _ (n : ℕ) (c d : ℕ → Ground) (same : (i : ℕ) → i < n → c i ≡ d i) where
  same_end : (end : End (Leaf ℕ)) → AllByRecursion (IsBelow n) (end_variables end) → at_end (leaf_value c) end ≡ at_end (leaf_value d) end
  same_end Closed h = refl
  same_end (Over (Free i)) h = same i h.0
  same_end (Over (Fixed r)) h = refl

  mutual
    same_value : (t : ElmType (Leaf ℕ)) → AllByRecursion (IsBelow n) (variables t) → value c t ≡ value d t
    same_value (Made h ts) b = ap (Made h) (same_all ts b)
    same_value (Record fs end) b =
        ap (λ gs. extend gs (at_end (leaf_value c) end)) (same_fields fs (all_second (IsBelow n) (end_variables end) (variables_fields fs) b))
        ∙ ap (extend (substitute_fields (leaf_value d) fs)) (same_end end (all_first (IsBelow n) (end_variables end) (variables_fields fs) b))

    same_all : (ts : ElmTypes (Leaf ℕ)) → AllByRecursion (IsBelow n) (variables_all ts) → substitute_all (leaf_value c) ts ≡ substitute_all (leaf_value d) ts
    same_all NoType b = refl
    same_all (MoreType t ts) b =
        ap (λ u. MoreType u (substitute_all (leaf_value c) ts)) (same_value t (all_first (IsBelow n) (variables t) (variables_all ts) b))
        ∙ ap (MoreType (value d t)) (same_all ts (all_second (IsBelow n) (variables t) (variables_all ts) b))

    same_fields : (fs : Fields (Leaf ℕ)) → AllByRecursion (IsBelow n) (variables_fields fs) → substitute_fields (leaf_value c) fs ≡ substitute_fields (leaf_value d) fs
    same_fields NoField b = refl
    same_fields (MoreField k t fs) b =
        ap (λ u. MoreField k u (substitute_fields (leaf_value c) fs)) (same_value t (all_first (IsBelow n) (variables t) (variables_fields fs) b))
        ∙ ap (MoreField k (value d t)) (same_fields fs (all_second (IsBelow n) (variables t) (variables_fields fs) b))

no_kind : (ks : List Kind) (i : ℕ) → length ks ≤ i → kind_at ks i ≡ any_kind
no_kind [] i l = refl
no_kind (k ∷ ks) zero l = absurd (omega arith)
no_kind (k ∷ ks) (suc i) l = no_kind ks i (omega arith)

any_fits : (t : Ground) → fits any_kind t ≡ true
any_fits t = and_both (meets Any t) true (meets_any t) refl

outside_clean : (p : Place) (R : Region) → IsUnder p R → (rs : List Rigid) → AllByRecursion (λ (r : Rigid). (q : Place) → r.place ≡ p ++ q → ⊥) rs
    → AllByRecursion (λ (r : Rigid). R r.place ≡ false) rs
outside_clean p R under [] h = tt
outside_clean p R under (r ∷ rs) h = (go (R r.place) refl, outside_clean p R under rs h.1)
  where
    go : (b : Bool) → R r.place ≡ b → b ≡ false
    go true e = absurd (let x = under.each r.place e in h.0 x.0 x.1)
    go false e = refl

module _ (choice_fits : EachChoiceFits) (a : Around) (R : Region) (p : Place) (before : List Item) (s : Store) (links : Links) (v : ℕ) (t : Wanted)
    (scheme : Scheme) (place : ℕ → ℕ) (number : ℕ → Option ℕ) (shape : IsStore s) (known : Within a.constants s) (under : IsUnder p R)
    (stands : Stands a R before s links) (has : Has links v t) (told : Told s v scheme place number) where
  abbrev n : ℕ
  n = length scheme.kinds

  -- ---- the types that it has are instances

  kind_fits : (σ : Values) → Fit σ s → (i : ℕ) → fits (kind_at scheme.kinds i) (σ.types (place i)) ≡ true
  kind_fits σ f i = elim (cases_lt i n) [
    | inl l ↦ ap (λ k. fits k (σ.types (place i))) (sym (told.kind i l)) ∙ (f.each (place i)).kind
    | inr h ↦ ap (λ k. fits k (σ.types (place i))) (no_kind scheme.kinds i h) ∙ any_fits (σ.types (place i))
  ]

  pub instance_of : (g : Ground) → HasType (unscoped before) t g → IsInstance scheme g
  instance_of g h =
      let r = stands.complete h.solution.values h.solution.ground h.solution.solves in
      record {
        choice = λ i. r.values.types (place i);
        ground = λ i. (r.fit.each (place i)).ground;
        kinds = kind_fits r.values r.fit;
        is = sym (told.reads r.values r.fit r.constants) ∙ (has.same r.values h.solution.values r.linked ∙ h.has);
      }

  -- ---- and instances are types that it has

  module _ (g : Ground) (i : IsInstance scheme g) where
    choose : Option ℕ → ℕ → Ground
    choose (Some k) u = i.choice k
    choose None u = variable (plain (slot_at s u).kind)

    choice : ℕ → Ground
    choice u = choose (number u) u

    chosen : (u : ℕ) → (slot_at s u).cell ≡ Open → Chosen (slot_at s u).kind (choice u)
    unfolding choice choose
    chosen u e = go (number u) refl
      where
        go : (o : Option ℕ) → number u ≡ o → Chosen (slot_at s u).kind (choose o u)
        go (Some k) h =
            let x = told.placed u k h in
            let kind : (slot_at s u).kind ≡ kind_at scheme.kinds k = ap (λ w. (slot_at s w).kind) (sym x.1) ∙ told.kind k x.0 in
            record { fits = ap (λ j. fits j (i.choice k)) kind ∙ i.kinds k; ground = i.ground k }
        go None h = plain_chosen (slot_at s u).kind

    fitted : Refit s (λ r. r) choice
    fitted = choice_fits s shape (λ r. r) (record { class = λ r. refl; lacks = λ r. refl; apart = λ r q cr cq e. e }) choice chosen

    abbrev σ : Values
    σ = fitted.values

    σ_own : Themselves σ
    σ_own = record { each = fitted.same }

    σ_place : (k : ℕ) → k < n → σ.types (place k) ≡ i.choice k
    unfolding choice choose
    σ_place k l = fitted.chosen (place k) (told.blank k l) ∙ ap (λ o. choose o (place k)) (told.numbered k l)

    σ_is : σ.types v ≡ g
    σ_is =
        told.reads σ fitted.fit σ_own
        ∙ (same_value n (λ k. σ.types (place k)) i.choice σ_place scheme.type told.below ∙ i.is)

    fill : Filled a R before [] s links σ
    fill = stands.sound σ fitted.fit σ_own

    has_g : (all : Types) → Carries R all fill.types → value all t ≡ g
    has_g all c = sym (has.same σ all (fill.linked all c tt)) ∙ σ_is

    type_of : HasType (unscoped before) t g
    type_of = record {
      solution = record { values = fill.types; ground = fill.ground; solves = fill.solves fill.types (λ r e. refl) tt };
      has = has_g fill.types (λ r e. refl);
    }

    -- without constants of the module

    module _ (outside : Outside p g) where
      clean_root : IsClean R (σ.types v)
      clean_root = subst (IsClean R) (sym σ_is) (outside_clean p R under (variables g) outside)

      clean_open : (u : ℕ) → (slot_at s u).cell ≡ Open → IsClean R (σ.types u)
      unfolding choice choose
      clean_open u e = go (number u) refl
        where
          go : (o : Option ℕ) → number u ≡ o → IsClean R (σ.types u)
          go (Some k) h =
              let x = told.placed u k h in
              let d = told.reached k x.0 in
              subst (λ w. IsClean R (σ.types w)) x.1 (clean_path s σ fitted.fit R d.path v (place k) d.leads clean_root)
          go None h = subst (IsClean R) (sym (fitted.chosen u e ∙ ap (λ o. choose o u) h)) (under.root, tt)

      clean : Clean a.depth R s σ
      clean = record {
        each = λ u l.
            clean_all s shape σ fitted.fit R
            (λ w r e. ap (λ (x : Rigid). R x.place) (fitted.same r) ∙ stands.away r (known.each r (constant_there s w r e)))
            (λ w l e. clean_open w e) u l.inside;
      }

      type_kept : HasType before t g
      type_kept = record {
        solution = record { values = fill.types; ground = fill.ground; solves = fill.kept fill.types (λ r e. refl) tt clean };
        has = has_g fill.types (λ r e. refl);
      }

    -- whatever stands at other places
    pub filled : (types : Types) × AreGround types × ((all : Types) → Carries R all types → value all t ≡ g)
        × ((all : Types) → Carries R all types → Solves all (unscoped before))
        × (Outside p g → (all : Types) → Carries R all types → Solves all before)
    filled = (
      fill.types,
      fill.ground,
      has_g,
      (λ all c. fill.solves all c tt),
      (λ outside all c. fill.kept all c tt (clean outside)),
    )

  principal : IsPrincipal p before t scheme
  principal = record {
    formed = told.formed;
    each = λ g. (instance_of g, type_of g);
    kept = λ g outside i. type_kept g i outside;
  }

pub tells_principal : EachChoiceFits → TellsPrincipal
tells_principal choice_fits a R p before s links v t scheme place number shape known under stands has told =
    principal choice_fits a R p before s links v t scheme place number shape known under stands has told
