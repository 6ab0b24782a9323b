-- What is told of a type group whose names' schemes were read off the store.
use Rattle.std.proofs.Common.{◌≡◌, List, [], ◌∷◌, map, refl, sym, ap, ◌∙◌, subst}
use Rattle.std.specs.List.{AllByRecursion, AllZip, Contains}
use Rattle.elm_canon.specs.declared.reference.Ref.{Ref}
use Rattle.elm_type.specs.Types.{Scheme}
use Rattle.decl_groups.proofs.Basics.{first_member, later_member}
use Rattle.type_items.specs.Scopes.{Entry, Entries, Mono, Instance, General}
use Rattle.type_store.specs.Store.{Store}
use Rattle.type_store.specs.Shape.{IsStore}
use Rattle.type_walks.specs.Links.{Links, Within}
use Rattle.type_walks.specs.Told.{Told}
use Rattle.type_constructs.specs.Lasting.{Telling, IsTold}
use Rattle.type_schemes.specs.Schemes.{place_of, number_of}
use Rattle.type_constructs.specs.Laws.{ReadIsTold, SchemeIsOrdered}
use Rattle.infer_steps.specs.Ready.{IsWritten}
use Rattle.infer_groups.specs.Members.{Named, AreNamed}
use Rattle.infer.specs.Told.{Typed, HasItsScheme}
use Rattle.infer.specs.Middle.{NameIsTold}
use Rattle.infer.proofs.Keeping.{names_still}
use Rattle.infer.proofs.Written.{written_read}

-- the types of names, with what was told of them
abbrev pub tellings_of : Entries → List Typed → List Telling
tellings_of [] ms = []
tellings_of (e ∷ es) [] = []
tellings_of ((x, Mono t) ∷ es) (m ∷ ms) = (t, m.1) ∷ tellings_of es ms
tellings_of ((x, Instance s) ∷ es) (m ∷ ms) = tellings_of es ms
tellings_of ((x, General list type) ∷ es) (m ∷ ms) = tellings_of es ms

module _ (law : ReadIsTold) (ordered : SchemeIsOrdered) (s : Store) (whole : IsStore s) (links : Links) where
  pub all_told : (ns : List Named) (es : Entries) (ms : List Typed) → AreNamed links ns es
      → AllZip (HasItsScheme s) ns ms → AllByRecursion (IsTold s links) (tellings_of es ms)
  all_told [] [] ms h k = tt
  all_told [] (e ∷ es) ms h k = absurd h
  all_told (n ∷ ns) [] ms h k = absurd h
  all_told (n ∷ ns) (e ∷ es) [] h k = absurd k
  all_told (n ∷ ns) ((x, Mono t) ∷ es) (m ∷ ms) h k = (
    record {
      variable = n.1;
      has = h.0.1;
      tells = record {
        place = place_of k.0.1.type;
        number = number_of k.0.1.type;
        told =
            subst (λ (u : Scheme). Told s n.1 u (place_of k.0.1.type) (number_of k.0.1.type)) (sym k.0.1.is)
            (law s n.1 k.0.1.type whole k.0.1.reads);
      };
    },
    all_told ns es ms h.1 k.1,
  )
  all_told (n ∷ ns) ((x, Instance u) ∷ es) (m ∷ ms) h k = absurd h.0.1
  all_told (n ∷ ns) ((x, General list type) ∷ es) (m ∷ ms) h k = absurd h.0.1

  pub all_have : (ns : List Named) (es : Entries) (ms : List Typed) → AreNamed links ns es
      → AllZip (HasItsScheme s) ns ms → AllByRecursion (NameIsTold (tellings_of es ms) ms) es
  all_have [] [] ms h k = tt
  all_have [] (e ∷ es) ms h k = absurd h
  all_have (n ∷ ns) [] ms h k = absurd h
  all_have (n ∷ ns) (e ∷ es) [] h k = absurd k
  all_have (n ∷ ns) ((x, Mono t) ∷ es) (m ∷ ms) h k = (
    (
      record {
        telling = (t, m.1);
        there = first_member (t, m.1) (tellings_of es ms);
        type = refl;
        listed =
            subst (Contains (m ∷ ms))
            (ap (λ y. (y, m.1)) (k.0.0 ∙ sym h.0.0) ∙ ap (λ (u : Scheme). (x, u)) (sym (ordered s n.1 m.1 k.0.1)))
            (first_member m ms);
      },
      tt,
    ),
    names_still (tellings_of es ms) ((t, m.1) ∷ tellings_of es ms) ms (m ∷ ms)
        (λ y c. later_member (t, m.1) y (tellings_of es ms) c) (λ y c. later_member m y ms c) es
        (all_have ns es ms h.1 k.1),
  )
  all_have (n ∷ ns) ((x, Instance u) ∷ es) (m ∷ ms) h k = absurd h.0.1
  all_have (n ∷ ns) ((x, General list type) ∷ es) (m ∷ ms) h k = absurd h.0.1

  pub names_same : (ns : List Named) (es : Entries) (ms : List Typed) → AreNamed links ns es
      → AllZip (HasItsScheme s) ns ms → map (λ (t : Typed). t.0) ms ≡ map (λ (e : Ref × Entry). e.0) es
  names_same [] [] [] h k = refl
  names_same [] [] (m ∷ ms) h k = absurd k
  names_same [] (e ∷ es) ms h k = absurd h
  names_same (n ∷ ns) [] ms h k = absurd h
  names_same (n ∷ ns) (e ∷ es) [] h k = absurd k
  names_same (n ∷ ns) (e ∷ es) (m ∷ ms) h k =
      ap (λ y. y ∷ map (λ (t : Typed). t.0) ms) (k.0.0 ∙ sym h.0.0) ∙ ap (λ l. e.0 ∷ l) (names_same ns es ms h.1 k.1)

  pub all_written : Within [] s → (ns : List Named) (ms : List Typed) → AllZip (HasItsScheme s) ns ms
      → AllByRecursion (λ (t : Typed). IsWritten t.1.kinds t.1) ms
  all_written bare [] [] k = tt
  all_written bare [] (m ∷ ms) k = absurd k
  all_written bare (n ∷ ns) [] k = absurd k
  all_written bare (n ∷ ns) (m ∷ ms) k =
      (written_read law s n.1 m.1 whole bare k.0.1, all_written bare ns ms k.1)
