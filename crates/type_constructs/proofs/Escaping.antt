-- A constant that is in a type of what is around: its variable is no deeper than what is around after the body.
--
-- If the types of names in scope had no such constant, the store of before would have a solution without it. That goes on
-- to the body's store, and in use around there is no such constant then either. So the constant may stand for another one
-- there, and nothing in use around changes, but its own variable does. What is in use around determines that variable,
-- though, since it is no deeper.
use Rattle.std.proofs.Common.{◌≡◌, ℕ, zero, suc, ◌+◌, List, [], ◌∷◌, ◌++◌, Bool, true, false, cond, refl, sym, ap, ◌∙◌, subst, arith, append_assoc}
use Rattle.std.specs.Prelude.{All, ◌&&◌, not}
use Rattle.std.specs.List.{AllByRecursion, Contains}
use Rattle.std.specs.Str.{bytes_eq}
use Rattle.std.proofs.lemmas.List.Elements.{All-from_recursion, Contains-append_right}
use Rattle.elm_base.specs.declared.position.Pos.{Pos}
use Rattle.elm_type.specs.Types.{variable, variables, Rigid}
use Rattle.elm_type.specs.Classes.{Ground}
use Rattle.elm_type.specs.Ground.{value}
use Rattle.type_items.specs.Items.{Place, Wanted, Item, Keeps, Small}
use Rattle.type_items.specs.Solutions.{Avoids, Keep, Solves, Unsolvable}
use Rattle.type_items.specs.Principal.{unscoped}
use Rattle.type_items.proofs.Parts.{solves_unscoped}
use Rattle.type_store.specs.Store.{Open, Constant, Store, slot_at}
use Rattle.type_store.specs.Solutions.{Values, Fit, Says, Renames, constants_of}
use Rattle.type_store.specs.Shape.{IsStore, parts_of}
use Rattle.type_store.specs.Laws.{Chosen, Refit, EachChoiceFits}
use Rattle.type_store.proofs.Names.{same_name, equal_itself}
use Rattle.type_walks.specs.Regions.{Region, only}
use Rattle.type_walks.specs.Links.{Types, AreGround, Links, Linked, Live, AgreeTypes, Away}
use Rattle.type_walks.specs.Walks.{Around, Onward, Walk}
use Rattle.type_walks.specs.Progress.{Themselves, Reached}
use Rattle.type_walks.proofs.Cleaning.{constant_there}
use Rattle.type_walks.proofs.Linking.{solves_first, solves_second}
use Rattle.type_walks.proofs.Refitting.{plain, plain_chosen}
use Rattle.type_schemes.specs.Constants.{moved, Own, rigids, own_links, within, Outer}
use Rattle.type_schemes.proofs.Moving.{only_same, rigid_same, far, far_off}
use Rattle.type_walks.proofs.Parting.{parts_there}
use Rattle.type_constructs.specs.Passing.{Ready, Passes}
use Rattle.type_constructs.specs.Annotated.{Entered, ConstantEscapes}
use Rattle.type_constructs.proofs.Refits.{same_there, all_there}
use Rattle.type_constructs.proofs.Entering.{own_here, ReachedIn, reached_in}
use Rattle.type_constructs.proofs.Keeping.{keeps, entered_ready, kept_solution, kept_sized}

-- ---- lists

each_part : {A : Type 0} (P : A → Type 0) (xs : List A) → ((x : A) → Contains xs x → P x) → AllByRecursion P xs
each_part P [] h = tt
each_part P (x ∷ xs) h = (h x (0, omega arith, refl), each_part P xs (λ y c. h y (Contains-append_right (x ∷ []) xs y c)))

pub all_parts : {A : Type 0} (P : A → Type 0) (xs : List A) → ((x : A) → Contains xs x → P x) → All P xs
all_parts P xs h = All-from_recursion P xs (each_part P xs h)

pub at_one : {A : Type 0} (P : A → Type 0) (xs : List A) (x : A) → AllByRecursion P xs → Contains xs x → P x
at_one P [] x h (k, l, e) = absurd (omega arith)
at_one P (y ∷ ys) x h (zero, l, e) = subst P e h.0
at_one P (y ∷ ys) x h (suc k, l, e) = at_one P ys x h.1 (k, omega arith, e)

and_true : (a b : Bool) → (a && b) ≡ true → (a ≡ true) × (b ≡ true)
and_true true b h = (refl, h)
and_true false b h = absurd cc

both_true : (a b : Bool) → a ≡ true → b ≡ true → (a && b) ≡ true
both_true true b h k = k
both_true false b h k = h

-- ---- a constant, by its place and its name

module _ (p : Place) (o : Rigid) where
  pub is_it : Rigid → Bool
  is_it c = only p c.place && bytes_eq c.name o.name

  abbrev pub Free : Rigid → Type 0
  Free c = is_it c ≡ false

  abbrev pub IsFree : Ground → Type 0
  IsFree t = AllByRecursion Free (variables t)

  pub it_is : only p o.place ≡ true → is_it o ≡ true
  unfolding is_it
  it_is h = both_true (only p o.place) (bytes_eq o.name o.name) h (equal_itself o.name)

  off_free : (c : Rigid) → only p c.place ≡ false → Free c
  unfolding is_it
  off_free c h = ap (λ b. b && bytes_eq c.name o.name) h

  avoids_free : (c : Rigid) → Avoids (moved p o) c → Free c
  unfolding is_it
  avoids_free c h = go (only p c.place && bytes_eq c.name o.name) refl
    where
      go : (b : Bool) → (only p c.place && bytes_eq c.name o.name) ≡ b → b ≡ false
      go true e =
          let x = and_true (only p c.place) (bytes_eq c.name o.name) e in
          absurd (h.other (sym (only_same p c.place x.0)) (same_name c.name o.name x.1))
      go false e = refl

  all_avoid_free : (cs : List Rigid) → AllByRecursion (Avoids (moved p o)) cs → AllByRecursion Free cs
  all_avoid_free [] h = tt
  all_avoid_free (c ∷ cs) h = (avoids_free c h.0, all_avoid_free cs h.1)

  are_free : List Rigid → Bool
  are_free [] = true
  are_free (c ∷ cs) = not (is_it c) && are_free cs

  not_it : (b : Bool) → not b ≡ true → b ≡ false
  not_it true h = absurd cc
  not_it false h = refl

  free_by : (cs : List Rigid) → are_free cs ≡ true → AllByRecursion Free cs
  unfolding are_free
  free_by [] h = tt
  free_by (c ∷ cs) h =
      let x = and_true (not (is_it c)) (are_free cs) h in
      (not_it (is_it c) x.0, free_by cs x.1)

  are_by : (cs : List Rigid) → AllByRecursion Free cs → are_free cs ≡ true
  unfolding are_free
  are_by [] h = refl
  are_by (c ∷ cs) h = both_true (not (is_it c)) (are_free cs) (ap not h.0) (are_by cs h.1)

  -- ---- the constant moved to another place

  pub kappa : Place → Rigid → Rigid
  kappa x c = cond (is_it c) (moved x c) c

  pub kappa_it : (x : Place) (c : Rigid) → is_it c ≡ true → kappa x c ≡ moved x c
  unfolding kappa
  kappa_it x c h = ap (λ b. cond b (moved x c) c) h

  pub kappa_other : (x : Place) (c : Rigid) → Free c → kappa x c ≡ c
  unfolding kappa
  kappa_other x c h = ap (λ b. cond b (moved x c) c) h

  pub kappa_renames : (x : Place) (rs : List Rigid) → ((r : Rigid) → Contains rs r → x ≡ r.place → ⊥) → Renames rs (kappa x)
  unfolding kappa is_it
  kappa_renames x rs free = record {
    class = λ c. class_at c (is_it c);
    lacks = λ c. lacks_at c (is_it c);
    apart = λ c t hc ht e. go c t hc ht (is_it c) (is_it t) refl refl e;
  }
    where
      class_at : (c : Rigid) (b : Bool) → (cond b (moved x c) c).class ≡ c.class
      class_at c true = refl
      class_at c false = refl

      lacks_at : (c : Rigid) (b : Bool) → (cond b (moved x c) c).lacks ≡ c.lacks
      lacks_at c true = refl
      lacks_at c false = refl

      go : (c t : Rigid) → Contains rs c → Contains rs t → (b d : Bool) → is_it c ≡ b → is_it t ≡ d
          → cond b (moved x c) c ≡ cond d (moved x t) t → c ≡ t
      go c t hc ht true true a b e =
          let y = and_true (only p c.place) (bytes_eq c.name o.name) a in
          let z = and_true (only p t.place) (bytes_eq t.name o.name) b in
          rigid_same c t (sym (only_same p c.place y.0) ∙ only_same p t.place z.0) (ap (λ (k : Rigid). k.name) e) (ap (λ (k : Rigid). k.class) e)
          (ap (λ (k : Rigid). k.lacks) e)
      go c t hc ht true false a b e = absurd (free t ht (ap (λ (k : Rigid). k.place) e))
      go c t hc ht false true a b e = absurd (free c hc (sym (ap (λ (k : Rigid). k.place) e)))
      go c t hc ht false false a b e = e

-- ---- a solution of the store of before without the constant

module _ (choice_fits : EachChoiceFits) (p : Place) (o : Rigid) (s : Store) (shape : IsStore s) (σ : Values) (f : Fit σ s)
    (own : (r : Rigid) → σ.constants r ≡ r) (others : (r : Rigid) → Contains (constants_of s) r → is_it p o r ≡ false) (root : only p [] ≡ false) where
  pub choice : ℕ → Ground
  choice u = cond (are_free p o (variables (σ.types u))) (σ.types u) (variable (plain (slot_at s u).kind))

  chosen : (u : ℕ) → (slot_at s u).cell ≡ Open → Chosen (slot_at s u).kind (choice u)
  unfolding choice
  chosen u e = go (are_free p o (variables (σ.types u)))
    where
      go : (b : Bool) → Chosen (slot_at s u).kind (cond b (σ.types u) (variable (plain (slot_at s u).kind)))
      go true = record { fits = (f.each u).kind; ground = (f.each u).ground }
      go false = plain_chosen (slot_at s u).kind

  pub freed : Refit s (λ r. r) choice
  freed = choice_fits s shape (λ r. r) (record { class = λ r. refl; lacks = λ r. refl; apart = λ r q a b e. e }) choice chosen

  choice_free : (u : ℕ) → IsFree p o (choice u)
  unfolding choice
  choice_free u = go (are_free p o (variables (σ.types u))) refl
    where
      go : (b : Bool) → are_free p o (variables (σ.types u)) ≡ b → IsFree p o (cond b (σ.types u) (variable (plain (slot_at s u).kind)))
      go true e = free_by p o (variables (σ.types u)) e
      go false e = (off_free p o (plain (slot_at s u).kind) root, tt)

  choice_same : (u : ℕ) → IsFree p o (σ.types u) → choice u ≡ σ.types u
  unfolding choice
  choice_same u h = ap (λ b. cond b (σ.types u) (variable (plain (slot_at s u).kind))) (are_by p o (variables (σ.types u)) h)

  -- it has no such constant at all
  pub freed_free : (v : ℕ) → IsFree p o (freed.values.types v)
  freed_free v =
      all_there s shape (λ u. Unit {0}) (λ u t. all_parts (λ w. Unit {0}) (parts_of (slot_at s u).cell) (λ w c. tt)) freed.values (λ u t. (freed.fit.each u).cell)
      (Free p o) (λ u r t e. subst (Free p o) (sym (freed.same r)) (others r (constant_there s u r e)))
      (λ u t e. subst (IsFree p o) (sym (freed.chosen u e)) (choice_free u)) v tt

  -- and where the first solution has none it is the same
  pub freed_same : (v : ℕ) → IsFree p o (σ.types v) → freed.values.types v ≡ σ.types v
  freed_same =
      same_there s shape (λ u. IsFree p o (σ.types u))
      (λ u g. all_parts (λ w. IsFree p o (σ.types w)) (parts_of (slot_at s u).cell) (λ w c. parts_there s σ f (Free p o) u w g c))
      freed.values σ (λ u g. (freed.fit.each u).cell) (λ u g. (f.each u).cell) (λ u r g e. freed.same r ∙ sym (own r))
      (λ u g e. freed.chosen u e ∙ choice_same u g)

-- ---- another constant in its place, after the body

module _ (choice_fits : EachChoiceFits) (p : Place) (o : Rigid) (s : Store) (shape : IsStore s) (ω : Values) (f : Fit ω s)
    (own : (r : Rigid) → ω.constants r ≡ r) where
  abbrev x : Place
  x = far (λ r. r) (λ r. r) (constants_of s)

  pub elsewhere : Refit s (kappa p o x) ω.types
  elsewhere =
      choice_fits s shape (kappa p o x) (kappa_renames p o x (constants_of s) (λ r h. far_off (λ t. t) (λ t. t) (constants_of s) r h)) ω.types
      (λ u e. record { fits = (f.each u).kind; ground = (f.each u).ground })

  constant_free : (v : ℕ) (r : Rigid) → IsFree p o (ω.types v) → (slot_at s v).cell ≡ Constant r → Free p o r
  constant_free v r g e =
      let says : ω.types v ≡ variable (ω.constants r) = subst (λ c. Says ω (ω.types v) c) e (f.each v).cell in
      let at : IsFree p o (variable (ω.constants r)) = subst (IsFree p o) says g in
      subst (Free p o) (own r) at.0

  pub elsewhere_same : (v : ℕ) → IsFree p o (ω.types v) → elsewhere.values.types v ≡ ω.types v
  elsewhere_same =
      same_there s shape (λ u. IsFree p o (ω.types u))
      (λ u g. all_parts (λ w. IsFree p o (ω.types w)) (parts_of (slot_at s u).cell) (λ w c. parts_there s ω f (Free p o) u w g c))
      elsewhere.values ω (λ u g. (elsewhere.fit.each u).cell) (λ u g. (f.each u).cell)
      (λ u r g e. elsewhere.same r ∙ (kappa_other p o x r (constant_free u r g e) ∙ sym (own r)))
      (λ u g e. elsewhere.chosen u e)

  -- the variable of the constant has another type
  pub elsewhere_other : (u : ℕ) → only p o.place ≡ true → (slot_at s u).cell ≡ Constant o → ω.types u ≡ elsewhere.values.types u → ⊥
  elsewhere_other u h e same =
      let one : ω.types u ≡ variable (ω.constants o) = subst (λ c. Says ω (ω.types u) c) e (f.each u).cell in
      let two : elsewhere.values.types u ≡ variable (elsewhere.values.constants o) = subst (λ c. Says elsewhere.values (elsewhere.values.types u) c) e (elsewhere.fit.each u).cell in
      let both : variable o ≡ variable (moved x o) =
      ap variable (sym (own o)) ∙ (sym one ∙ (same ∙ (two ∙ ap variable (elsewhere.same o ∙ kappa_it p o x o (it_is p o h))))) in
      let rigid : o ≡ moved x o = cc in
      far_off (λ t. t) (λ t. t) (constants_of s) o (constant_there s u o e) (sym (ap (λ (k : Rigid). k.place) rigid))

-- ---- the definition

module _ (choice_fits : EachChoiceFits) (a : Around) (p : Place) (body all : Region) (items : List Item) (own : List Own) (outer : List Wanted) (pos : Pos)
    (s opened walked : Store) (links after : Links) (u : ℕ) (o : Own) (first_shape : IsStore s) (shape : IsStore walked)
    (entered : Entered a p body all own s opened) (outers : AllByRecursion (Outer a.depth s links) outer)
    (covered : AllByRecursion (λ (l : ℕ × Wanted). Contains outer l.1) links)
    (walk : Walk (within a own) body items opened (own_links p own ++ links) walked after)
    (passes : Passes (within a own) opened (own_links p own ++ links) body items) (there : Contains (rigids own) o.rigid)
    (is : (slot_at walked u).cell ≡ Constant o.rigid) (low : Live a.depth walked u)
    (m : Place) (R : Region) (first : List Item) (ready : Ready m a R all first s links) where
  here : only p o.rigid.place ≡ true
  here = own_here p own o.rigid entered.owned.here there

  root : only p [] ≡ false
  root = go (only p []) refl
    where
      go : (b : Bool) → only p [] ≡ b → b ≡ false
      go true e =
          let x = only_same p [] e in
          let y = ap all x in
          let z = entered.region.here in
          let n = ready.inside.root in
          absurd (cc)
      go false e = refl

  no_new : (r : Rigid) → Contains (constants_of s) r → is_it p o.rigid r ≡ false
  no_new r h = off_free p o.rigid r (entered.owned.new r (ready.within.each r h))

  module _ (types : Types) (ground : AreGround types) (one : Solves types (unscoped first)) (two : Solves types (unscoped items))
      (kept : AllByRecursion (λ t. Keep (moved p o.rigid) (value types t)) outer) where
    reached : Reached s links types
    reached = ready.stands.complete types ground one

    abbrev σ : Values
    σ = reached.values

    abbrev less : Values
    less = (freed choice_fits p o.rigid s first_shape σ reached.fit reached.constants.each no_new root).values

    linked_free : (ls : Links) → AllByRecursion (λ (l : ℕ × Wanted). Contains outer l.1) ls → Linked ls σ types → Linked ls less types
    linked_free [] c h = tt
    linked_free (l ∷ ls) c h = (
      freed_same choice_fits p o.rigid s first_shape σ reached.fit reached.constants.each no_new root l.0
          (subst (IsFree p o.rigid) (sym h.0)
          (all_avoid_free p o.rigid (variables (value types l.1)) (at_one (λ t. Keep (moved p o.rigid) (value types t)) outer l.1 kept c.0)))
          ∙ h.0,
      linked_free ls c.1 h.1,
    )

    less_own : Themselves less
    less_own = record { each = (freed choice_fits p o.rigid s first_shape σ reached.fit reached.constants.each no_new root).same }

    inside : ReachedIn a p body all own s opened entered links less types
    inside =
        reached_in a p body all own s opened entered links ready.stands.live less types
        (freed choice_fits p o.rigid s first_shape σ reached.fit reached.constants.each no_new root).fit less_own (linked_free links covered reached.linked)

    before_body : Ready m (within a own) R body first opened (own_links p own ++ links)
    before_body = entered_ready choice_fits a p body all items own outer pos s opened walked links after shape entered outers walk passes m R first ready

    away : Away body (rigids own ++ a.constants) inside.values
    away = record { each = λ r c. ap (λ (k : Rigid). body k.place) (inside.constants.each r) ∙ before_body.outside r c }

    done : Onward (a.depth + 1) opened walked after inside.values types
    done = walk.complete inside.values types inside.fit ground away inside.linked two

    abbrev ω : Values
    ω = done.values

    ω_own : (r : Rigid) → ω.constants r ≡ r
    ω_own r = sym (done.agree.constants r) ∙ inside.constants.each r

    -- in use around there is no such constant
    around_free : (v : ℕ) → Live a.depth opened v → IsFree p o.rigid (ω.types v)
    around_free v l =
        let old = entered.opens.old a.depth v (omega arith) l in
        let same : less.types v ≡ ω.types v =
        inside.agree.types v old.inside ∙ done.agree.types v (record { inside = l.inside; depth = (let x = l.depth in omega arith) }) in
        subst (IsFree p o.rigid) same (freed_free choice_fits p o.rigid s first_shape σ reached.fit reached.constants.each no_new root v)

    abbrev ρ : Values
    ρ = (elsewhere choice_fits p o.rigid walked shape ω done.fit ω_own).values

    agree : AgreeTypes a.depth opened ω ρ
    agree v l = sym (elsewhere_same choice_fits p o.rigid walked shape ω done.fit ω_own v (around_free v l))

    pub escaped : ⊥
    escaped =
        elsewhere_other choice_fits p o.rigid walked shape ω done.fit ω_own u here is
        ((walk.determined a.depth u (omega arith) low).same ω ρ done.fit (elsewhere choice_fits p o.rigid walked shape ω done.fit ω_own).fit agree)

  pub never_kept : (earlier : List Item) → Unsolvable (((first ++ items) ++ earlier) ++ Keeps pos (moved p o.rigid) outer ∷ [])
  never_kept earlier = record {
    never = λ sol. (
        let x = solves_first sol.values ((first ++ items) ++ earlier) (Keeps pos (moved p o.rigid) outer ∷ []) sol.solves in
        let y = solves_second sol.values ((first ++ items) ++ earlier) (Keeps pos (moved p o.rigid) outer ∷ []) sol.solves in
        let z = solves_first sol.values (first ++ items) earlier x in
        escaped sol.values sol.ground (solves_unscoped sol.values first (solves_first sol.values first items z))
        (solves_unscoped sol.values items (solves_second sol.values first items z)) y.0);
  }

there_first : (os rest : List Own) → AllByRecursion (λ (o : Own). Contains (rigids (os ++ rest)) o.rigid) os
there_first [] rest = tt
there_first (o ∷ os) rest = ((0, omega arith, refl), more_there os (there_first os rest))
  where
    more_there : (ts : List Own) → AllByRecursion (λ (t : Own). Contains (rigids (os ++ rest)) t.rigid) ts
        → AllByRecursion (λ (t : Own). Contains (o.rigid ∷ rigids (os ++ rest)) t.rigid) ts
    more_there [] h = tt
    more_there (t ∷ ts) h = (Contains-append_right (o.rigid ∷ []) (rigids (os ++ rest)) t.rigid h.0, more_there ts h.1)

there_one : (os : List Own) (o : Own) (rest : List Own) → Contains (rigids (os ++ o ∷ rest)) o.rigid
there_one [] o rest = (0, omega arith, refl)
there_one (t ∷ os) o rest = Contains-append_right (t.rigid ∷ []) (rigids (os ++ o ∷ rest)) o.rigid (there_one os o rest)

keeps_both : (pos : Pos) (p : Place) (outer : List Wanted) (os ts : List Own) → keeps pos p outer (os ++ ts) ≡ keeps pos p outer os ++ keeps pos p outer ts
keeps_both pos p outer [] ts = refl
keeps_both pos p outer (o ∷ os) ts = ap (λ l. Keeps pos (moved p o.rigid) outer ∷ l) (keeps_both pos p outer os ts)

pub constant_escapes : EachChoiceFits → ConstantEscapes
constant_escapes choice_fits a p body all items own earlier later o outer type pos s opened walked s' links after u first_shape shape entered outers covered walk
    passes split deep is low = record {
      each = λ m R first ready. (
          let there = subst (λ os. AllByRecursion (λ (t : Own). Contains (rigids os) t.rigid) earlier) (sym split) (there_first earlier (o ∷ later)) in
          let this = subst (λ os. Contains (rigids os) o.rigid) (sym split) (there_one earlier o later) in
          let rest = keeps pos p outer later ++ Small pos type ∷ [] in
          let one = keeps pos p outer earlier in
          let all_keeps : keeps pos p outer own ++ Small pos type ∷ [] ≡ one ++ Keeps pos (moved p o.rigid) outer ∷ rest =
          ap (λ os. keeps pos p outer os ++ Small pos type ∷ []) split
          ∙ (ap (λ l. l ++ Small pos type ∷ []) (keeps_both pos p outer earlier (o ∷ later))
          ∙ append_assoc one (keeps pos p outer (o ∷ later)) (Small pos type ∷ [])) in
          record {
            before = (first ++ items) ++ one;
            item = Keeps pos (moved p o.rigid) outer;
            after = rest;
            split =
                ap (λ l. first ++ (items ++ l)) all_keeps
                ∙ (sym (append_assoc first items (one ++ Keeps pos (moved p o.rigid) outer ∷ rest))
                ∙ sym (append_assoc (first ++ items) one (Keeps pos (moved p o.rigid) outer ∷ rest)));
            fine = record {
              solution = kept_solution choice_fits a p body all items own outer pos s opened walked links after shape entered outers walk passes m R first ready earlier there deep;
              small = (kept_sized choice_fits a p body all items own outer pos s opened walked links after shape entered outers walk passes m R first ready earlier there deep).small;
            };
            is = (
              refl,
              refl,
              never_kept choice_fits a p body all items own outer pos s opened walked links after u o first_shape shape entered outers covered walk passes this is low m R
                  first ready one,
            );
          });
    }
