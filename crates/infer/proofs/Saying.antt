-- What the store tells is what is said.
use Rattle.std.proofs.Common.{◌≡◌, ℕ, ◌<◌, [], ◌∷◌, ◌++◌, length, sym, ap, ◌∙◌, subst}
use Rattle.std.specs.Prelude.{codes}
use Rattle.elm_type.specs.Types.{Name, ElmType, tuple, Leaf, Scheme, renamed}
use Rattle.elm_type.specs.Schemes.{placed, rename}
use Rattle.elm_type.specs.declared.head.Head.TheVariants as head
use Rattle.elm_type.specs.Parts.{IsPair}
use Rattle.elm_type.specs.Naming.{names_of}
use Rattle.elm_type.specs.Text.{text_in, leaf_name}
use Rattle.elm_type.specs.declared.frame.Around.TheVariants.{Alone}
use Rattle.type_items.proofs.Renaming.{renamed_twice}
use Rattle.type_items.specs.Faults.{part_text}
use Rattle.type_store.specs.Store.{Built, Store, slot_at}
use Rattle.type_store.specs.Shape.{IsStore}
use Rattle.type_store.specs.Steps.{Here, put, is_bound}
use Rattle.type_store.specs.Levels.{IsLowered}
use Rattle.type_store.proofs.Turns.{slot_pushed}
use Rattle.type_schemes.specs.Ends.{end_of}
use Rattle.type_schemes.specs.Order.{IsListed}
use Rattle.type_schemes.proofs.Ends.{end_is}
use Rattle.type_schemes.specs.Reading.{Graph, Reads, read_in}
use Rattle.type_schemes.specs.Bases.{type_in}
use Rattle.type_schemes.proofs.Types.{read_is}
use Rattle.type_schemes.specs.Schemes.{variables_of, place_of, number_of, HasScheme}
use Rattle.type_constructs.proofs.Telling.{read_is_told, scheme_is_ordered}
use Rattle.type_constructs.specs.Texts.{Tells, SaysClass, SaysPair}
use Rattle.type_constructs.proofs.Pairing.{makes_pair}

told : (s : Store) (v : ℕ) (scheme : Scheme) → IsStore s → HasScheme s v scheme → Tells s v scheme
told s v scheme whole has =
    subst (Tells s v) (sym has.is)
    (record {
      place = place_of has.type;
      number = number_of has.type;
      told = read_is_told s v has.type whole has.reads;
    })

in_order : (s : Store) (v : ℕ) (scheme : Scheme) → HasScheme s v scheme → rename scheme ≡ scheme
in_order = scheme_is_ordered renamed_twice

-- the text of a part
abbrev part_of : Scheme → ElmType (Leaf ℕ) → Name
part_of scheme t = text_in (leaf_name (names_of scheme)) Alone t

pub says_class : (s : Store) (v : ℕ) (class : Name) (scheme : Scheme) (text : Name) → IsStore s → HasScheme s v scheme
    → text ≡ part_of scheme scheme.type ++ codes " is not " ++ class → SaysClass s v class text
says_class s v class scheme text whole has e = record {
  scheme = scheme;
  told = told s v scheme whole has;
  says = e ∙ ap (λ (k : Scheme). part_text k k.type ++ codes " is not " ++ class) (sym (in_order s v scheme has));
}

-- ---- pairs

module _ (s s' : Store) (v w : ℕ) (whole : IsStore s) (whole' : IsStore s') (left : v < length s) (right : w < length s)
    (low : IsLowered (s ++ put (Built head.Tuple (v ∷ w ∷ [])) 0 ∷ []) s') where
  pair_cell : (slot_at s' (length s)).cell ≡ Built head.Tuple (v ∷ w ∷ [])
  pair_cell = low.cells (length s) ∙ ap (λ (x : Rattle.type_store.specs.Store.Slot). x.cell)
      (slot_pushed s (put (Built head.Tuple (v ∷ w ∷ [])) 0))

  pair_end : end_of s' (length s) ≡ length s
  pair_end = end_is s' whole' (length s) (length s) (Here (length s)) (ap is_bound pair_cell)

  module _ (scheme : Scheme) (has : HasScheme s' (length s) scheme) where
    f : ℕ → Graph
    f = type_in s' has.reads.order

    type_is : has.type ≡ tuple (f v ∷ f w ∷ [])
    unfolding f
    type_is =
        sym has.reads.is
        ∙ (ap (read_in s' has.reads.order) pair_end
        ∙ (read_is s' has.reads.order (length s) has.reads.first
        (subst (IsListed has.reads.order) pair_end has.reads.listed)
        ∙ ap (Rattle.type_schemes.specs.Reading.read_cell (type_in s' has.reads.order) (length s)) pair_cell))

    -- the scheme of the pair has a type of pairs
    pub is_pair : IsPair scheme.type
    is_pair = record {
      left = renamed (placed (variables_of has.type)) (f v);
      right = renamed (placed (variables_of has.type)) (f w);
      is = ap (λ (k : Scheme). k.type) has.is ∙ ap (renamed (placed (variables_of has.type))) type_is;
    }

    pub says_pair : (l r : ElmType (Leaf ℕ)) (text : Name) → scheme.type ≡ tuple (l ∷ r ∷ [])
        → text ≡ part_of scheme l ++ codes " /= " ++ part_of scheme r → SaysPair s v w text
    says_pair l r text parts e =
        let same : rename scheme ≡ scheme = in_order s' (length s) scheme has in record {
          after = s';
          pair = length s;
          pairs = makes_pair s s' v w whole whole' left right low;
          whole = whole';
          scheme = scheme;
          told = told s' (length s) scheme whole' has;
          left = l;
          right = r;
          parts = ap (λ (k : Scheme). k.type) same ∙ parts;
          says = e ∙ ap (λ (k : Scheme). part_text k l ++ codes " /= " ++ part_text k r) (sym same);
        }
