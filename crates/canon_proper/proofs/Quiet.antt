-- Sites without faults, at which names that are bound at places that do not pass a test are not used.
use Rattle.std.proofs.Common.{◌≡◌, ℕ, List, [], ◌∷◌, ◌++◌, map, Bool, true, false, refl, ap}
use Rattle.std.specs.Prelude.{◌||◌, if◌then◌else◌, is_some, nat_eq}
use Rattle.std.specs.List.{flat_map}
use Rattle.std.proofs.lemmas.Bool.{eqb-true}
use Rattle.elm_tree.specs.Tree.{Word, Long}
use Rattle.elm_canon.specs.Names.{Name}
use Rattle.elm_canon.specs.Unions.{Union}
use Rattle.elm_canon.specs.declared.unions.Alternative.{Alternative}
use Rattle.elm_base.specs.declared.fault.Code.TheVariants.{UnknownConstructor, ConstructorArity, Shadowing}
use Rattle.canon_env.specs.Imports.{name_of}
use Rattle.canon_env.specs.Found.{Found, Nothing, One, Several, find}
use Rattle.canon_env.specs.Shown.{MakerMeaning, OfUnion, OfRecord}
use Rattle.canon_env.specs.Naming.{World, maker_found}
use Rattle.canon_env.specs.Locals.{Locals}
use Rattle.canon_env.specs.Sites.{Site, MakerMatch, Binding, BoundTogether, FieldsTogether, faults_at, unless_one}
use Rattle.canon_env.specs.Sites.{match_faults, repeats, at_word, at_long, is_found}

-- ---- lists

pub append_none : {X : Type 0} (xs ys : List X) → xs ++ ys ≡ [] → (xs ≡ []) × (ys ≡ [])
append_none [] ys e = (refl, e)
append_none (x ∷ xs) ys e = absurd (cc)

pub map_none : {X Y : Type 0} (f : X → Y) (xs : List X) → map f xs ≡ [] → xs ≡ []
map_none f [] e = refl
map_none f (x ∷ xs) e = absurd (cc)

-- ---- sites without faults

abbrev pub AreSound : World → List Site → Type 0
AreSound w [] = Unit {0}
AreSound w (s ∷ sites) = (faults_at w s ≡ []) × AreSound w sites

pub sound_sites : (w : World) (sites : List Site) → flat_map (faults_at w) sites ≡ [] → AreSound w sites
sound_sites w [] e = tt
sound_sites w (s ∷ sites) e =
    let r = append_none (faults_at w s) (flat_map (faults_at w) sites) e in (r.0, sound_sites w sites r.1)

pub sound_split : (w : World) (xs ys : List Site) → AreSound w (xs ++ ys) → AreSound w xs × AreSound w ys
sound_split w [] ys s = (tt, s)
sound_split w (x ∷ xs) ys s = let r = sound_split w xs ys s.1 in ((s.0, r.0), r.1)

-- ---- patterns

-- a constructor of a union, that has so many fields
pub record IsUnionMaker (found : Found MakerMeaning) (n : ℕ) : Type 0 where
  pub home : Name
  pub union : Union
  pub alternative : Alternative
  pub is : found ≡ One (record { home = home; meaning = OfUnion union alternative })
  pub many : n ≡ alternative.arity

pub match_found : (w : World) (x : Long) (n : ℕ) → faults_at w (MakerMatch x n) ≡ [] → IsUnionMaker (maker_found w x) n
unfolding faults_at
match_found w x n e = by (maker_found w x) e
  where
    count : (home : Name) (u : Union) (a : Alternative) (b : Bool) → nat_eq n a.arity ≡ b →
        match_faults x n (OfUnion u a) ≡ [] → IsUnionMaker (One (record { home = home; meaning = OfUnion u a })) n
    count home u a true is none =
        record { home = home; union = u; alternative = a; is = refl; many = eqb-true n a.arity is }
    count home u a false is none =
        let f = ap (λ b. if b then [] else (at_long ConstructorArity x ∷ [])) is in absurd (cc)

    one : (home : Name) (m : MakerMeaning) → match_faults x n m ≡ [] →
        IsUnionMaker (One (record { home = home; meaning = m })) n
    one home (OfUnion u a) none = count home u a (nat_eq n a.arity) refl none
    one home (OfRecord fields) none = absurd (cc)

    by : (f : Found MakerMeaning) → unless_one UnknownConstructor x f (match_faults x n) ≡ [] → IsUnionMaker f n
    by Nothing none = absurd (cc)
    by Several none = absurd (cc)
    by (One m) none = one m.home m.meaning none

-- a name that is bound is no local one in scope
pub binding_new : (w : World) (locals : Locals) (x : Word) → faults_at w (Binding locals x) ≡ [] →
    is_some (locals (name_of x)) ≡ false
unfolding faults_at
binding_new w locals x e =
    by (is_some (locals (name_of x))) (is_found (find w.own.values [] (name_of x))) e
  where
    by : (b c : Bool) → (if b || c then (at_word Shadowing x ∷ []) else []) ≡ [] → b ≡ false
    by true c none = absurd (cc)
    by false c none = refl

pub together_once : (w : World) (xs : List Word) → faults_at w (BoundTogether xs) ≡ [] → repeats xs ≡ []
unfolding faults_at
together_once w xs e = map_none _ (repeats xs) e

pub fields_once : (w : World) (xs : List Word) → faults_at w (FieldsTogether xs) ≡ [] → repeats xs ≡ []
unfolding faults_at
fields_once w xs e = map_none _ (repeats xs) e
