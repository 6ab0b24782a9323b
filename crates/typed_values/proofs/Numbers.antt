-- Of the types that are made of a head, Int alone is one of numbers; what constants stand for keeps classes and missing fields.
use Rattle.std.proofs.Common.{◌≡◌, suc, Bool, true, false, refl, sym, ap, ◌∙◌, arith, eqb-true}
use Rattle.std.specs.Prelude.{◌&&◌, if◌then◌else◌, codes, nat_eq}
use Rattle.std.specs.Str.{bytes_eq}
use Rattle.std.proofs.lemmas.Slice.Eq.{bytes_eq-Decides}
use Rattle.elm_type.specs.Types.{Name, ElmTypes, NoType, MoreType, Made, count, Rigid, int_type}
use Rattle.elm_type.specs.Classes.{Ground, meets, demand_met}
use Rattle.elm_type.specs.Rows.{substitute}
use Rattle.elm_type.specs.declared.class.Class.{Class}
use Rattle.elm_type.specs.declared.class.Class.TheVariants.{Number}
use Rattle.elm_type.specs.declared.demands.Demand.TheVariants.{Never, Always}
use Rattle.elm_type.specs.declared.head.Head.{Head}
use Rattle.elm_type.specs.declared.head.Head.TheVariants as head
use Rattle.elm_type.specs.Ground.{lacks, value}
use Rattle.type_items.specs.Items.{Place, at}
use Rattle.typed_values.specs.Frames.{Frame, of, Stands}
use Rattle.typed_values.proofs.Names.{not_both}
use Rattle.typed_values.proofs.Rows.{extend_none}
use Rattle.typed_values.proofs.Keeping.{meets_kept, lacks_kept}

number_of_name : (b c d : Bool) → demand_met (if ((b && c) && d) then Always else Never) (λ k. false) ≡ true → (b ≡ true) × (c ≡ true) × (d ≡ true)
number_of_name true true true e = (refl, refl, refl)
number_of_name true true false e = not_both false e refl
number_of_name true false d e = not_both false e refl
number_of_name false c d e = not_both false e refl

demand_same : (b : Bool) (p q : Class → Bool) → demand_met (if b then Always else Never) p ≡ demand_met (if b then Always else Never) q
demand_same true p q = refl
demand_same false p q = refl

no_arguments : (ts : ElmTypes Rigid) → nat_eq (count ts) 0 ≡ true → ts ≡ NoType
no_arguments NoType e = refl
no_arguments (MoreType t ts) e = absurd (let f : suc (count ts) ≡ 0 = eqb-true (suc (count ts)) 0 e in omega arith)

number_head : (h : Head) (ts : ElmTypes Rigid) → meets Number (Made h ts) ≡ true → int_type ≡ Made h ts
number_head (head.Named m x) ts e =
    let n = number_of_name (bytes_eq m (codes "Basics")) (bytes_eq x (codes "Int")) (nat_eq (count ts) 0)
    (demand_same ((bytes_eq m (codes "Basics") && bytes_eq x (codes "Int")) && nat_eq (count ts) 0) (λ k. false) _ ∙ e) in
    let p : m ≡ codes "Basics" = (bytes_eq-Decides m (codes "Basics")).0 n.0 in
    let q : x ≡ codes "Int" = (bytes_eq-Decides x (codes "Int")).0 n.1 in
    let r : ts ≡ NoType = no_arguments ts n.2 in
    cc
number_head head.Function ts e = not_both false e refl
number_head head.Tuple ts e = not_both false e refl

pub number_is_int : (h : Head) (ts : ElmTypes Rigid) → meets Number (Made h ts) ≡ true → int_type ≡ Made h ts
number_is_int h ts m = number_head h ts m

module _ (a : Frame) (bare : Stands a) where
  pub standing_number : (g : Ground) → meets Number g ≡ true → meets Number (substitute a.stands g) ≡ true
  standing_number g m = meets_kept a.stands bare.classes g Number m

  pub standing_lacks : (x : Name) (p : Place) → lacks x (value a.values (at p)) ≡ true → lacks x (of a (at p)) ≡ true
  standing_lacks x p l =
      let same : value a.values (at p) ≡ a.values p = extend_none (a.values p) in
      ap (λ g. lacks x (substitute a.stands g)) same ∙ lacks_kept a.stands bare.rests x (a.values p) (ap (lacks x) (sym same) ∙ l)
