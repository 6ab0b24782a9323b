-- One type more: `tells_all`.
use Rattle.std.proofs.Common.{◌++◌, [], ◌∷◌, map, ap, ◌∙◌, subst}
use Rattle.std.proofs.lemmas.Result.{on_ok_weaker}
use Rattle.canon_env.specs.Found.{rows_of, named_by}
use Rattle.canon_env.specs.Space.{Tells}
use Rattle.canon_env.specs.Shown.{type_meaning_view}
use Rattle.canon_env.proofs.Rows.{tells_all}
use Rattle.canon_env.proofs.env.Env.add_type.Goals as goal

pub returns : goal.returns
returns c =
    let home = c.args.home.now in
    on_ok_weaker c.add_all.result
    (λ e rows h. record {
      values = h.values;
      types =
          subst (λ ns. Tells type_meaning_view c.add_all.new.self (rows.types ++ rows_of [] home (map (named_by type_meaning_view) ns)))
          (c.in_ok-push.ensures.items
          ∙ ap (λ l. l ++ record { name = c.args.name; meaning = c.args.meaning } ∷ []) c.new-named.ensures.items)
          (subst (λ q. Tells type_meaning_view c.add_all.new.self
          (rows.types ++ rows_of q home (map (named_by type_meaning_view) c.push.new.self.items))) c.in_ok-none.ensures
          (tells_all type_meaning_view c.args.self.now.types c.add_all.new.self rows.types c.in_ok-none.none home
          c.push.new.self.items e h.types));
      makers = h.makers;
    })
    c.add_all.ensures
