-- Values and constructors are told apart by their first letter.
use Rattle.std.proofs.Common.{◌≡◌, List, [], ◌∷◌, ◌++◌, map, Bool, true, false, refl, sym, ap, ◌∙◌}
use Rattle.std.specs.Prelude.{if◌then◌else◌}
use Rattle.std.proofs.lemmas.Bool.{false≢true}
use Rattle.elm_tree.specs.Tree as tree
use Rattle.elm_tree.specs.Tree.{Word, Declaration, Value, Port, Union, Alias, ConstructorOf}
use Rattle.elm_canon.specs.Names.{Name, same_name}
use Rattle.elm_canon.specs.declared.reference.Ref.TheVariants.{Top}
use Rattle.canon_env.specs.Imports.{name_of}
use Rattle.canon_env.proofs.Adding.{one_name}
use Rattle.canon_module.specs.Names.{names_of, names_in, constructor_words, is_closed_record}
use Rattle.elm_canon.specs.Proper.{among}
use Rattle.canon_proper.specs.Declared.{begins_upper, AreUpper, IsCased, AreCased}
use Rattle.module_proper.specs.Modules.{tops, value_refs, maker_refs}
use Rattle.module_proper.proofs.Numbers.{same_top}

-- of each, whether the first letter is upper-case
abbrev Begin : Bool → List Word → Type 0
Begin b [] = Unit {0}
Begin b (x ∷ xs) = (begins_upper (name_of x) ≡ b) × Begin b xs

begin_more : (b : Bool) (xs ys : List Word) → Begin b xs → Begin b ys → Begin b (xs ++ ys)
begin_more b [] ys p q = q
begin_more b (x ∷ xs) ys p q = (p.0, begin_more b xs ys p.1 q)

case_of : (home x : Name) (b : Bool) (ws : List Word) → Begin b ws →
    among (Top home x) (tops home (map name_of ws)) ≡ true → begins_upper x ≡ b
case_of home x b [] p e = absurd (false≢true e)
case_of home x b (w ∷ ws) p e =
    by (same_name x (name_of w)) refl
    (sym (ap (λ c. if c then true else among (Top home x) (tops home (map name_of ws))) (same_top home x (name_of w)))
    ∙ e)
    (λ h. case_of home x b ws p.1 h)
  where
    by : (c : Bool) → same_name x (name_of w) ≡ c →
        (if c then true else among (Top home x) (tops home (map name_of ws))) ≡ true →
        (among (Top home x) (tops home (map name_of ws)) ≡ true → begins_upper x ≡ b) → begins_upper x ≡ b
    by true s h later = ap begins_upper (one_name x (name_of w) s) ∙ p.0
    by false s h later = later h

upper_words : (cs : List ConstructorOf) → AreUpper cs → Begin true (constructor_words cs)
upper_words [] u = tt
upper_words (c ∷ cs) u = (u.0, upper_words cs u.1)

one_lower : (d : Declaration) → IsCased d → Begin false (names_of d).values
one_lower (Value (tree.Annotate x t)) c = tt
one_lower (Value (tree.Define x ps e)) c = (c, tt)
one_lower (Value (tree.Destructure p e)) c = tt
one_lower (Port x t) c = (c, tt)
one_lower (Union x ps cs) c = tt
one_lower (Alias x ps t) c = tt

one_upper : (d : Declaration) → IsCased d → Begin true (names_of d).constructors
one_upper (Value d) c = tt
one_upper (Port x t) c = tt
one_upper (Union x ps cs) c = upper_words cs c
one_upper (Alias x ps t) c = by (is_closed_record t)
  where
    by : (b : Bool) → Begin true (if b then x ∷ [] else [])
    by true = (c, tt)
    by false = tt

lower : (ds : List Declaration) → AreCased ds → Begin false (names_in ds).values
lower [] c = tt
lower (d ∷ ds) c = begin_more false (names_of d).values (names_in ds).values (one_lower d c.0) (lower ds c.1)

upper : (ds : List Declaration) → AreCased ds → Begin true (names_in ds).constructors
upper [] c = tt
upper (d ∷ ds) c = begin_more true (names_of d).constructors (names_in ds).constructors (one_upper d c.0) (upper ds c.1)

-- no value has the name of a constructor
pub not_both : (home x : Name) (ds : List Declaration) → AreCased ds → among (Top home x) (value_refs home ds) ≡ true →
    among (Top home x) (maker_refs home ds) ≡ true → ⊥
not_both home x ds c v m =
    false≢true (sym (case_of home x false (names_in ds).values (lower ds c) v)
    ∙ case_of home x true (names_in ds).constructors (upper ds c) m)
