-- Links, and what is in use.
use Rattle.std.proofs.Common.{◌≡◌, ℕ, ◌<◌, ◌≤◌, List, [], ◌∷◌, ◌++◌, length, Bool, true, false, refl, sym, ap, ◌∙◌, subst, arith}
use Rattle.std.specs.Prelude.{◌||◌}
use Rattle.std.specs.List.{AllByRecursion}
use Rattle.std.proofs.lemmas.List.Elements.{filter-append}
use Rattle.elm_type.specs.Types.{variables, Rigid}
use Rattle.type_items.specs.Items.{Item}
use Rattle.type_items.specs.Solutions.{Solves}
use Rattle.type_items.specs.Principal.{unscoped}
use Rattle.type_store.specs.Store.{Store}
use Rattle.type_store.specs.Solutions.{Values, AgreeBelow}
use Rattle.type_walks.specs.Regions.{Region, either, Inside, Apart}
use Rattle.type_walks.specs.Links.{Types, Links, Linked, Live, AreLive, Agree, Later, IsClean, Clean, Away}

-- ---- what is in use

pub live_later : (d e : ℕ) (s s' : Store) (v : ℕ) → Later s s' → e ≤ d → Live e s v → Live d s' v
live_later d e s s' v later le live =
    let h = later.depth v live.inside in
    record { inside = omega (arith, later.grows, live.inside); depth = omega (arith, h, live.depth, le) }

pub later_itself : (s : Store) → Later s s
later_itself s = record { grows = omega arith; depth = λ v l. omega arith; constants = λ r h. h }

pub later_on : (s u s' : Store) → Later s u → Later u s' → Later s s'
later_on s u s' a b = record {
  grows = omega (arith, a.grows, b.grows);
  depth = λ v l. (
      let g : v < length u = omega (arith, a.grows, l) in
      let x = a.depth v l in
      let y = b.depth v g in
      omega (arith, x, y));
  constants = λ r h. a.constants r (b.constants r h);
}

pub all_live_later : (d : ℕ) (s s' : Store) (links : Links) → Later s s' → AreLive d s links → AreLive d s' links
all_live_later d s s' [] later h = tt
all_live_later d s s' (l ∷ ls) later h = (live_later d d s s' l.0 later (omega arith) h.0, all_live_later d s s' ls later h.1)

pub agree_itself : (d : ℕ) (s : Store) (σ : Values) → Agree d s σ σ
agree_itself d s σ = record { types = λ v h. refl; constants = λ r. refl }

pub agree_back : (d : ℕ) (s : Store) (σ τ : Values) → Agree d s σ τ → Agree d s τ σ
agree_back d s σ τ h = record { types = λ v l. sym (h.types v l); constants = λ r. sym (h.constants r) }

pub agree_below : (d : ℕ) (s : Store) (σ τ : Values) → AgreeBelow (length s) σ τ → Agree d s σ τ
agree_below d s σ τ h = record { types = λ v l. h.types v l.inside; constants = h.constants }

pub linked_agree : (d : ℕ) (s : Store) (links : Links) (σ τ : Values) (all : Types) → AreLive d s links → Agree d s σ τ
    → Linked links σ all → Linked links τ all
linked_agree d s [] σ τ all live agree h = tt
linked_agree d s (l ∷ ls) σ τ all live agree h =
    (sym (agree.types l.0 live.0) ∙ h.0, linked_agree d s ls σ τ all live.1 agree h.1)

-- ---- cleanness

clean_all : (R Q : Region) (rs : List Rigid) → Inside R Q → AllByRecursion (λ (c : Rigid). Q c.place ≡ false) rs
    → AllByRecursion (λ (c : Rigid). R c.place ≡ false) rs
clean_all R Q [] i h = tt
clean_all R Q (c ∷ cs) i h = (go (R c.place) refl, clean_all R Q cs i h.1)
  where
    go : (b : Bool) → R c.place ≡ b → b ≡ false
    go true e = absurd (let q : Q c.place ≡ true = i.each c.place e in let n : Q c.place ≡ false = h.0 in cc)
    go false e = refl

pub clean_inside : (d : ℕ) (R Q : Region) (s : Store) (σ : Values) → Inside R Q → Clean d Q s σ → Clean d R s σ
clean_inside d R Q s σ i h = record { each = λ v l. clean_all R Q (variables (σ.types v)) i (h.each v l) }

pub clean_earlier : (d : ℕ) (R : Region) (s s' : Store) (σ τ : Values) → Later s s' → Agree d s σ τ → Clean d R s' σ → Clean d R s τ
clean_earlier d R s s' σ τ later agree h = record {
  each = λ v l. subst (IsClean R) (agree.types v l) (h.each v (live_later d d s s' v later (omega arith) l));
}

pub away_inside : (R Q : Region) (constants : List Rigid) (σ : Values) → Inside R Q → Away Q constants σ → Away R constants σ
away_inside R Q constants σ i h = record { each = λ r c. go r (h.each r c) (R (σ.constants r).place) refl }
  where
    go : (r : Rigid) → Q (σ.constants r).place ≡ false → (b : Bool) → R (σ.constants r).place ≡ b → b ≡ false
    go r n true e = absurd (let q = i.each (σ.constants r).place e in cc)
    go r n false e = refl

pub away_same : (R : Region) (constants : List Rigid) (σ τ : Values) → ((r : Rigid) → σ.constants r ≡ τ.constants r) → Away R constants σ
    → Away R constants τ
away_same R constants σ τ same h = record { each = λ r c. ap (λ (x : Rigid). R x.place) (sym (same r)) ∙ h.each r c }

-- ---- regions

pub left_inside : (R Q : Region) → Inside R (either R Q)
left_inside R Q = record { each = λ r h. ap (λ b. b || Q r) h }

or_second : (a b : Bool) → b ≡ true → (a || b) ≡ true
or_second true b h = refl
or_second false b h = h

pub right_inside : (R Q : Region) → Inside Q (either R Q)
right_inside R Q = record { each = λ r h. or_second (R r) (Q r) h }

pub apart_back : (R Q : Region) → Apart R Q → Apart Q R
apart_back R Q h = record { each = λ r e. go r e (R r) refl }
  where
    go : (r : _) → Q r ≡ true → (b : Bool) → R r ≡ b → b ≡ false
    go r e true x = absurd (let y = h.each r x in cc)
    go r e false x = refl

pub apart_inside : (R Q X : Region) → Inside R Q → Apart Q X → Apart R X
apart_inside R Q X i h = record { each = λ r e. h.each r (i.each r e) }

-- ---- items

pub solves_both : (all : Types) (is js : List Item) → Solves all is → Solves all js → Solves all (is ++ js)
solves_both all [] js h k = k
solves_both all (i ∷ is) js h k = (h.0, solves_both all is js h.1 k)

pub solves_first : (all : Types) (is js : List Item) → Solves all (is ++ js) → Solves all is
solves_first all [] js h = tt
solves_first all (i ∷ is) js h = (h.0, solves_first all is js h.1)

pub solves_second : (all : Types) (is js : List Item) → Solves all (is ++ js) → Solves all js
solves_second all [] js h = h
solves_second all (i ∷ is) js h = solves_second all is js h.1

pub unscoped_both : (is js : List Item) → unscoped (is ++ js) ≡ unscoped is ++ unscoped js
unscoped_both is js = filter-append _ is js
