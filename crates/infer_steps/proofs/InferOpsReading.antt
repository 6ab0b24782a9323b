-- Fields of records: reading one, and replacing some.
use Rattle.std.proofs.Common.{◌≡◌, ℕ, List, [], ◌∷◌, ◌++◌, length, true, Some, refl, sym, ap, ◌∙◌, subst}
use Rattle.std.specs.Prelude.{◌&&◌}
use Rattle.std.specs.List.{AllZip}
use Rattle.elm_base.specs.declared.position.Pos.{Pos}
use Rattle.elm_type.specs.Types.{Name}
use Rattle.elm_type.specs.Ground.{lacks_all}
use Rattle.type_items.specs.Items.{Place, child, Wanted, at, children, Same, Lacks, lack_items}
use Rattle.type_items.specs.Patterns.{open_record}
use Rattle.type_walks.specs.Regions.{none, only}
use Rattle.type_walks.specs.Links.{Links, Live, AreLive, Has, Tells}
use Rattle.type_walks.specs.Walks.{Around, Walk}
use Rattle.type_constructs.specs.Failing.{Bad, Fails}
use Rattle.type_constructs.specs.Binding.{Children, Typed}
use Rattle.type_constructs.proofs.Spots.{Here, Child, Itself, Tops, In}
use Rattle.type_constructs.proofs.Sizes.{lack_sizes, sizes_both}
use Rattle.type_constructs.proofs.Chains.{tells_same, tells_more, tells_on, has_new, has_still, all_still}
use Rattle.infer_steps.specs.Codes.{Code, State}
use Rattle.infer_steps.specs.Made.{IsOpened, AreOpened, IsMade}
use Rattle.infer_steps.specs.Asked.{AsksSame, RefusesSame, AsksLack, RefusesLack, AsksLacks, RefusesLacks}
use Rattle.infer_steps.specs.Records.{OfRecord, RestLacks}
use Rattle.infer_steps.proofs.Stepping.{follows_on, still_live, all_still_live}
use Rattle.infer_steps.specs.Begun.{Gives, Begun, BeginStops}
use Rattle.infer_steps.specs.Operations.{next_two, access_items, access_types, update_items, update_types}
use Rattle.infer_steps.proofs.Inside.{first_next, field_next, fields_next}
use Rattle.infer_steps.proofs.Steps.{ends, quiet, spot, lined, halts, past_quiet, past_spot, halted}
use Rattle.infer_steps.proofs.Plans.{open_zip}

-- ---- a.x

-- what is known of the rest after it was asked, and another variable was made
pub one_lacks : (s t u : State) (pos : Pos) (x : Name) (r f : ℕ) → IsOpened t u f → AsksLack s t pos r x
    → Live s.depth s.store r
    → RestLacks u.store (x ∷ []) (Some r)
one_lacks s t u pos x r f field lack live = record {
  each = λ σ h. (
      let b = field.follows.back σ h in
      let l = lack.back b.values b.fit in
      let there = still_live s t r lack.follows live in
      ap (λ y. lacks_all (x ∷ []) y) (b.agree.types r there) ∙ ap (λ k. k && true) l.1);
}

-- the states between
module _ (code : Code) (old s t u new : State) (here : Pos) (x : Name) (r f v wanted : ℕ) (o : IsOpened old s r)
    (k : AsksLack s t here r x) (p : IsOpened t u f)
    (m : IsMade u new v (OfRecord (x ∷ []) (f ∷ []) (Some r))) where
  access_gives : (a : Around) (links : Links) (q : Place) → a.depth ≡ old.depth → AreLive a.depth old.store links
      → Gives a (next_two q) (Lacks here (at (child q 1)) x ∷ []) old.store links new.store (v ∷ f ∷ [])
      (open_record (x ∷ []) (child q 2) (at (child q 1)) ∷ at (child (child q 2) 0) ∷ [])
  access_gives a links q e live =
      let open_walk = o.walk a links (child q 1) e live in
      let l1 = open_walk.live live in
      let first = (r, at (child q 1)) ∷ links in
      let lack_walk = k.walk a first (at (child q 1)) (e ∙ sym o.follows.depth) l1 (has_new r (at (child q 1)) links) in
      let l2 = lack_walk.live l1 in
      let field_walk = p.walk a first (child (child q 2) 0) (e ∙ sym o.follows.depth ∙ sym k.follows.depth) l2 in
      let second = (f, at (child (child q 2) 0)) ∷ first in
      let tells = tells_more f (at (child (child q 2) 0)) (tells_same first) in
      let y = m.typed a second (open_record (x ∷ []) (child q 2) (at (child q 1)))
      (e ∙ sym o.follows.depth ∙ sym k.follows.depth ∙ sym p.follows.depth) (field_walk.live l2)
      (record {
        types = at (child (child q 2) 0) ∷ [];
        rest = Some (at (child q 1));
        has = (has_new f (at (child (child q 2) 0)) first, tt);
        rest_has = has_still tells (has_new r (at (child q 1)) links);
        is = refl;
      }) in
      record {
        after = y.after;
        walk =
            lined live
            (spot (In (Child Here 1) Itself) refl (first_next q) open_walk
            (quiet lack_walk
            (spot (In (Child (Child Here 2) 0) Itself) refl (field_next q) field_walk (ends y.walk))));
        tells = tells_on y.tells (tells_more f (at (child (child q 2) 0)) (tells_more r (at (child q 1))
            (tells_same links)));
        has = (y.has, (has_still y.tells (has_new f (at (child (child q 2) 0)) first), tt));
      }

  pub access_begun : Begun code wanted next_two (access_items x here) (v ∷ f ∷ []) (access_types x) old new
  access_begun = record {
    follows = follows_on old s new o.follows (follows_on s t new k.follows (follows_on t u new p.follows m.follows));
    live = (m.live, (still_live u new f m.follows p.live, tt));
    plain = λ scope q w. (refl, tt);
    gives = λ a links scope q w set has. access_gives a links q set.around.depth set.live;
  }

pub access_stops : (code : Code) (old s new : State) (here : Pos) (x : Name) (r wanted : ℕ) (bad : Bad)
    → IsOpened old s r → RefusesLack s new here r x bad
    → BeginStops code wanted next_two (access_items x here) old new bad
access_stops code old s new here x r wanted bad o k = record {
  fails = λ a links scope q w set has.
      halted
      (past_spot (In (Child Here 1) Itself) refl (first_next q) tt (o.walk a links (child q 1) set.around.depth
      set.live)
      (halts (k.fails a ((r, at (child q 1)) ∷ links) none (at (child q 1)) [] (has_new r (at (child q 1)) links))));
}

-- ---- { r | x = a, y = b }

pub all_lack : (s t u : State) (pos : Pos) (xs : List Name) (r : ℕ) (vs : List ℕ) → AreOpened t u vs
    → AsksLacks s t pos r xs → Live s.depth s.store r
    → RestLacks u.store xs (Some r)
all_lack s t u pos xs r vs fields lack live = record {
  each = λ σ h. (
      let b = fields.follows.back σ h in
      let l = lack.back b.values b.fit in
      let there = still_live s t r lack.follows live in
      ap (λ y. lacks_all xs y) (b.agree.types r there) ∙ l.1);
}

-- the states between
module _ (old s t u z : State) (here : Pos) (xs : List Name) (r v wanted : ℕ) (vs : List ℕ) (o : IsOpened old s r)
    (k : AsksLacks s t here r xs) (p : AreOpened t u vs)
    (count : length vs ≡ length xs) (m : IsMade u z v (OfRecord xs vs (Some r)))
    (a : Around) (links : Links) (q : Place) (w : Wanted) (e : a.depth ≡ old.depth) (live : AreLive a.depth old.store
    links) (has : Has links wanted w) where
  abbrev first : Links
  first = (r, at (child q 1)) ∷ links

  more_first : Tells first links
  more_first = tells_more r (at (child q 1)) (tells_same links)

  rest_walk : Walk a (only (child q 1)) [] old.store links s.store first
  rest_walk = o.walk a links (child q 1) e live

  l1 : AreLive a.depth s.store first
  l1 = rest_walk.live live

  e1 : a.depth ≡ s.depth
  e1 = e ∙ sym o.follows.depth

  lack_walk : Walk a none (lack_items here (at (child q 1)) xs) s.store first t.store first
  lack_walk = k.walk a first (at (child q 1)) e1 l1 (has_new r (at (child q 1)) links)

  l2 : AreLive a.depth t.store first
  l2 = lack_walk.live l1

  e2 : a.depth ≡ t.depth
  e2 = e1 ∙ sym k.follows.depth

  kids : Children a (child q 2) t.store first u.store vs
  kids = p.children a first (child q 2) e2 l2

  e3 : a.depth ≡ u.depth
  e3 = e2 ∙ sym p.follows.depth

  l3 : AreLive a.depth u.store kids.after
  l3 = kids.walk.live l2

  values : AllZip (Has kids.after) vs (children (child q 2) (length xs))
  values = subst (λ n. AllZip (Has kids.after) vs (children (child q 2) n)) count kids.each

  typed : Typed a (open_record xs (child q 2) (at (child q 1))) u.store kids.after z.store v
  typed =
      m.typed a kids.after (open_record xs (child q 2) (at (child q 1))) e3 l3
      (record {
        types = children (child q 2) (length xs);
        rest = Some (at (child q 1));
        has = values;
        rest_has = has_still kids.tells (has_new r (at (child q 1)) links);
        is = open_zip xs (child q 2) (at (child q 1));
      })

  update_gives : (new : State) → AsksSame z new here v wanted
      → Gives a (next_two q) (lack_items here (at (child q 1)) xs ++ Same here (open_record xs (child q 2)
      (at (child q 1))) w ∷ []) old.store links new.store vs
      (children (child q 2) (length xs))
  update_gives new g = record {
    after = typed.after;
    walk =
        lined live
        (spot (In (Child Here 1) Itself) refl (first_next q) rest_walk
        (quiet lack_walk
        (spot (In (Child Here 2) (Tops 0 (length vs))) refl (fields_next q (length vs)) kids.walk
        (quiet typed.walk
        (ends (g.walk a typed.after (open_record xs (child q 2) (at (child q 1))) w (e3 ∙ sym m.follows.depth)
        (typed.walk.live l3) typed.has
        (has_still typed.tells (has_still kids.tells (has_still more_first has)))))))));
    tells = tells_on typed.tells (tells_on kids.tells more_first);
    has = all_still vs (children (child q 2) (length xs)) typed.tells values;
  }

  update_fails : (new : State) (bad : Bad) → RefusesSame z new here v wanted bad
      → Fails a old.store links (next_two q) (lack_items here (at (child q 1)) xs ++ Same here
      (open_record xs (child q 2) (at (child q 1))) w ∷ []) bad new.store
  update_fails new bad g =
      halted
      (past_spot (In (Child Here 1) Itself) refl (first_next q) tt rest_walk
      (past_quiet (lack_sizes here (at (child q 1)) xs) lack_walk
      (past_spot (In (Child Here 2) (Tops 0 (length vs))) refl (fields_next q (length vs)) tt kids.walk
      (past_quiet tt typed.walk
      (halts (g.fails a typed.after none (open_record xs (child q 2) (at (child q 1))) w [] typed.has
      (has_still typed.tells (has_still kids.tells (has_still more_first has)))))))))

pub update_begun : (code : Code) (old s t u z new : State) (here : Pos) (xs : List Name) (n r v wanted : ℕ)
    (vs : List ℕ) → IsOpened old s r → AsksLacks s t here r xs
    → AreOpened t u vs → length vs ≡ length xs → IsMade u z v (OfRecord xs vs (Some r)) → AsksSame z new here v wanted
    → Begun code wanted next_two (update_items xs n here) vs (update_types xs n here) old new
update_begun code old s t u z new here xs n r v wanted vs o k p count m g =
    let f = follows_on u z new m.follows g.follows in
    record {
      follows = follows_on old s new o.follows (follows_on s t new k.follows (follows_on t u new p.follows f));
      live = all_still_live u new vs f p.live;
      plain = λ scope q w. sizes_both (lack_items here (at (child q 1)) xs) _ (lack_sizes here (at (child q 1)) xs)
          (refl, tt);
      gives = λ a links scope q w set has.
          update_gives old s t u z here xs r v wanted vs o k p count m a links q w set.around.depth set.live has new g;
    }

pub update_stops : (code : Code) (old s t u z new : State) (here : Pos) (xs : List Name) (n r v wanted : ℕ)
    (vs : List ℕ) (bad : Bad) → IsOpened old s r
    → AsksLacks s t here r xs → AreOpened t u vs → length vs ≡ length xs → IsMade u z v (OfRecord xs vs (Some r))
    → RefusesSame z new here v wanted bad
    → BeginStops code wanted next_two (update_items xs n here) old new bad
update_stops code old s t u z new here xs n r v wanted vs bad o k p count m g = record {
  fails = λ a links scope q w set has.
      update_fails old s t u z here xs r v wanted vs o k p count m a links q w set.around.depth set.live has new bad g;
}

pub lacks_stops : (code : Code) (old s new : State) (here : Pos) (xs : List Name) (n r wanted : ℕ) (bad : Bad)
    → IsOpened old s r
    → RefusesLacks s new here r xs bad → BeginStops code wanted next_two (update_items xs n here) old new bad
lacks_stops code old s new here xs n r wanted bad o k = record {
  fails = λ a links scope q w set has. (
      let x = o.walk a links (child q 1) set.around.depth set.live in
      halted
      (past_spot (In (Child Here 1) Itself) refl (first_next q) tt x
      (halts (k.fails a ((r, at (child q 1)) ∷ links) none (at (child q 1)) (Same here
      (open_record xs (child q 2) (at (child q 1))) w ∷ [])
      (set.around.depth ∙ sym o.follows.depth) (x.live set.live) (has_new r (at (child q 1)) links)))));
}
