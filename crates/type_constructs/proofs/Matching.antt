-- The walk of each pattern.
use Rattle.std.proofs.Common.{◌≡◌, ℕ, zero, suc, ◌+◌, [], ◌∷◌, ◌++◌, length, refl, sym, ap, ◌∙◌, subst, arith}
use Rattle.std.specs.List.{AllZip}
use Rattle.std.proofs.lemmas.List.{append-nil, length_push}
use Rattle.elm_canon.specs.Tree.{patterns_of}
use Rattle.elm_type.specs.Types.{list_type}
use Rattle.type_items.specs.Items.{child, Wanted, at, children}
use Rattle.type_items.specs.Patterns.{list_parts, pattern_items, patterns_items, pattern_names, patterns_names}
use Rattle.type_walks.specs.Regions.{none, below, either}
use Rattle.type_walks.specs.Links.{Links, Has}
use Rattle.type_walks.specs.Walks.{Walk}
use Rattle.type_walks.proofs.Regions.{none_inside, either_inside}
use Rattle.type_walks.proofs.Walking.{rests, widens, goes_on}
use Rattle.type_constructs.specs.Regions.{deep}
use Rattle.type_constructs.specs.Binding.{BoundHas, BoundHave}
use Rattle.type_constructs.specs.Patterns.{MatchesAnything, MatchesName, MatchesLiteral, MatchesFields, MatchesAs, MatchesLocated, MatchesConstructor, ShapesTuple, ShapesList, MatchesNone, MatchesOneMore, list_slots}
use Rattle.type_constructs.proofs.Spots.{Here, Child, Itself, Below, Tops, Deep, Nowhere, In}
use Rattle.type_constructs.proofs.Chains.{tells_same, tells_more, tells_on, has_new, has_still, all_still, last, on, under}
use Rattle.type_constructs.proofs.Parts.{deep_in_deep, below_in_deep, deep_apart_below, zip_both}
use Rattle.type_constructs.proofs.Naming.{names_over, names_after, items_after, bound_still, fields_bound}

pub matches_anything : MatchesAnything
matches_anything a known here q t s links = record {
  after = links;
  walk = widens a none (below q) [] s s links links (none_inside (below q)) (rests a s links);
  tells = tells_same links;
  binds = tt;
}

pub matches_name : MatchesName
matches_name a x known here q t s links v has = record {
  after = links;
  walk = widens a none (below q) [] s s links links (none_inside (below q)) (rests a s links);
  tells = tells_same links;
  binds = ((refl, has), tt);
}

pub matches_literal : MatchesLiteral
matches_literal a l known here q t s u s' links v live made asked = record {
  after = made.after;
  walk = under refl live (on Nowhere refl made.walk (last Nowhere asked));
  tells = made.tells;
  binds = tt;
}

pub matches_as : MatchesAs
matches_as a p x known here q t s s' links v bound has m = record {
  after = m.after;
  walk = m.walk;
  tells = m.tells;
  binds = ((refl, has_still m.tells has), m.binds);
}

pub matches_located : MatchesLocated
matches_located a pos p known here q t s s' links bound m =
    record { after = m.after; walk = m.walk; tells = m.tells; binds = m.binds }

pub matches_fields : MatchesFields
matches_fields a xs known here q t s s1 s2 s3 s4 s' links rest fields v live opened_rest lacks opened count made asked = record {
  after = made.after;
  walk = under refl live
      (on (In (Child Here 0) Itself) refl opened_rest
      (on Nowhere refl lacks
      (on (In (Child Here 1) (Tops 0 (length fields))) refl opened.walk (on Nowhere refl made.walk (last Nowhere asked)))));
  tells = tells_on made.tells (tells_on opened.tells (tells_more rest (at (child q 0)) (tells_same links)));
  binds = fields_bound made.after (child q 1) 0 xs fields [] [] tt count (all_still fields (children (child q 1) (length fields)) made.tells opened.each);
}

pub matches_constructor : MatchesConstructor
matches_constructor a u c ps known here q t s s1 s2 s' links result parts bound live made asked each = record {
  after = each.after;
  walk = under refl live
      (on (In (Child Here 0) Below) refl made.walk
      (on Nowhere refl asked (last (In (Child Here 1) (Deep 0 (length ps))) each.walk)));
  tells = tells_on each.tells made.tells;
  binds = each.binds;
}

pub shapes_tuple : ShapesTuple
shapes_tuple a c known here q s u s' links vs v live opened made = record {
  after = made.after;
  walk = under refl live (on (In Here (Tops 0 (length vs))) refl opened.walk (last Nowhere made.walk));
  tells = tells_on made.tells opened.tells;
  result_has = made.has;
  parts_have = all_still vs (children q (length vs)) made.tells opened.each;
}

list_parts_have : (links : Links) (n : ℕ) (item list : ℕ) (t : Wanted) → Has links item t → Has links list (list_type t)
    → AllZip (Has links) (list_slots n item list) (list_parts n t)
list_parts_have links zero item list t h k = tt
list_parts_have links (suc n) item list t h k = (h, (k, tt))

pub shapes_list : ShapesList
shapes_list a c known here q s u s' links item list live opened made = record {
  after = made.after;
  walk = under refl live (on (In (Child Here 0) Itself) refl opened (last Nowhere made.walk));
  tells = tells_on made.tells (tells_more item (at (child q 0)) (tells_same links));
  result_has = made.has;
  parts_have = list_parts_have made.after c.arity item list (at (child q 0)) (has_still made.tells (has_new item (at (child q 0)) links)) made.has;
}

-- ---- in turn

pub matches_none : MatchesNone
matches_none a known here q s links = record {
  after = links;
  walk = widens a none (deep q 0 0) [] s s links links (none_inside (deep q 0 0)) (rests a s links);
  tells = tells_same links;
  binds = tt;
}

pub matches_one_more : MatchesOneMore
matches_one_more a ps p known here q ts t s u s' links bound more live count first second = record {
  after = second.after;
  walk =
      subst (λ l. Walk a (deep q 0 (length (ps ++ p ∷ []))) l s links s' second.after) (sym items)
      (widens a (either (deep q 0 (length ps)) (below (child q (length ps)))) (deep q 0 (length (ps ++ p ∷ []))) _ s s' links second.after
      (either_inside (deep q 0 (length ps)) (below (child q (length ps))) (deep q 0 (length (ps ++ p ∷ [])))
      (deep_in_deep q 0 (length (ps ++ p ∷ [])) 0 (length ps) (omega arith) (omega (arith, longer)))
      (below_in_deep q 0 (length (ps ++ p ∷ [])) (length ps) (omega arith) (omega (arith, longer))))
      (goes_on a (deep q 0 (length ps)) (below (child q (length ps))) (patterns_items (patterns_of ps) known here q 0 ts)
      (pattern_items p known here (child q (length ps)) t) s u s' links first.after second.after
      (deep_apart_below q 0 (length ps) (length ps) (omega arith)) live first.walk second.walk));
  tells = tells_on second.tells first.tells;
  binds =
      subst (BoundHave second.after (more ++ bound)) (sym names)
      (zip_both (BoundHas second.after) more bound _ _ second.binds (bound_still bound (patterns_names (patterns_of ps) known q 0 ts []) second.tells first.binds));
}
  where
    longer : length (ps ++ p ∷ []) ≡ length ps + 1
    longer = length_push ps p

    items : patterns_items (patterns_of (ps ++ p ∷ [])) known here q 0 (ts ++ t ∷ [])
        ≡ patterns_items (patterns_of ps) known here q 0 ts ++ pattern_items p known here (child q (length ps)) t
    items =
        let e : 0 + length ps ≡ length ps = omega arith in
        items_after ps p [] known here q 0 ts t [] count
        ∙ (ap (λ l. patterns_items (patterns_of ps) known here q 0 ts ++ l) (append-nil (pattern_items p known here (child q (0 + length ps)) t))
        ∙ ap (λ j. patterns_items (patterns_of ps) known here q 0 ts ++ pattern_items p known here (child q j) t) e)

    names : patterns_names (patterns_of (ps ++ p ∷ [])) known q 0 (ts ++ t ∷ []) []
        ≡ pattern_names p known (child q (length ps)) t [] ++ patterns_names (patterns_of ps) known q 0 ts []
    names =
        let e : 0 + length ps ≡ length ps = omega arith in
        names_after ps p known q 0 ts t [] count
        ∙ (ap (λ j. pattern_names p known (child q j) t (patterns_names (patterns_of ps) known q 0 ts [])) e
        ∙ names_over p known (child q (length ps)) t (patterns_names (patterns_of ps) known q 0 ts []))
