-- True and False.
use Rattle.std.proofs.Common.{◌≡◌, ℕ, suc, pos, [], map, length, Bool, true, inl, inr, refl, sym, ap, ◌∙◌, subst, arith}
use Rattle.std.specs.Prelude.{codes}
use Rattle.elm_canon.specs.declared.unions.Tag.TheVariants.{Number, Truth}
use Rattle.elm_meaning.specs.Values.{Value, TagV, Values, NoValue, MoreValue, count_of, truth}
use Rattle.elm_meaning.specs.Seen.{same_kind}
use Rattle.elm_type.specs.Types.{Leaf, named, int_type, bool_type}
use Rattle.elm_type.specs.Classes.{Ground}
use Rattle.elm_type.specs.Rows.{substitute}
use Rattle.typed_values.specs.World.{World, Constructor, Among, variables_of, made_type, IsSound}
use Rattle.typed_values.specs.Typed.{Has}
use Rattle.typed_values.proofs.Names.{not_both}
use Rattle.typed_values.proofs.Forms.{each_count, tag_value, plain_made}
use Rattle.typed_values.proofs.Unions.{map_length, of_union}

pub no_values : (vs : Values) → count_of vs ≡ 0 → vs ≡ NoValue
no_values NoValue e = refl
no_values (MoreValue v vs) e = absurd (let z : suc (count_of vs) ≡ 0 = e in omega arith)

module _ (w : World) (sound : IsSound w) where
  pub truth_type : (c : Constructor) → Among c (w.unions (codes "Basics") (codes "Bool")) → (L : Leaf ℕ → Ground) → substitute L (made_type (codes "Basics") (codes "Bool") c) ≡ bool_type
  truth_type c among L = ap (λ ns. substitute L (named (codes "Basics") (codes "Bool") (variables_of ns))) (sound.no_others c among).2

  pub no_fields : (c : Constructor) → Among c (w.unions (codes "Basics") (codes "Bool")) → (b : Bool) × (c.alternative.tag ≡ Truth b) × (c.fields ≡ [])
  no_fields c among =
      let t = sound.no_others c among in (
        t.0,
        t.1,
        elim ((sound.unions (codes "Basics") (codes "Bool")).bare c among) [
          | inl k ↦ not_both (same_kind c.alternative.tag (Number (pos 0))) k (ap (λ z. same_kind z (Number (pos 0))) t.1)
          | inr none ↦ none
        ],
      )

  pub truths : (b : Bool) → Has w (truth b) bool_type
  truths b =
      let t = sound.truths b in
      let n = no_fields t.0 t.1.0 in (
        [],
        inl (inr (inr (record {
          home = codes "Basics";
          name = codes "Bool";
          constructor_ = t.0;
          among = t.1.0;
          tag_is = t.1.1;
          own = refl;
          choice = λ _. int_type;
          parts_are = ap (map (substitute (λ _. int_type))) n.2;
          is = truth_type t.0 t.1.0 (λ _. int_type);
        }))),
        tt,
      )

  pub truth_values : (v : Value) → Has w v bool_type → (b : Bool) × (v ≡ truth b)
  truth_values v h =
      let r = tag_value w sound v bool_type refl h in
      let k : Has w (TagV r.0 r.1) bool_type = subst (λ z. Has w z bool_type) r.2 h in
      let c = sound.truths true in
      let u = of_union w sound (codes "Basics") (codes "Bool") c.0 (λ _. int_type) r.0 r.1 k.0 bool_type c.1.0 (truth_type c.0 c.1.0 (λ _. int_type)) (plain_made w sound r.0 r.1 k.0 bool_type refl k.1) in
      let t = no_fields u.constructor_ u.among in
      let none : r.1 ≡ NoValue =
      no_values r.1 (each_count w r.1 k.0 k.2 ∙ (ap length (sym u.parts_are) ∙ (map_length (substitute u.choice) u.constructor_.fields ∙ ap length t.2))) in
      (t.0, r.2 ∙ (ap (λ z. TagV z r.1) (sym u.tag_is ∙ t.1) ∙ ap (TagV (Truth t.0)) none))
