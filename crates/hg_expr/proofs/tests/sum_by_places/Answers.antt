use Rattle.std.proofs.Common.{◌≡◌, ℕ, pos, List, [], ◌∷◌, ◌++◌, refl, sym, ap, ◌∙◌, subst}
use Rattle.hg_model.specs.Types.{binary_digits, digits_within}
use Rattle.hg_model.specs.Width.{IsSound, is_small_row}
use Rattle.hg_model.specs.declared.trees.Literal.TheVariants as literal
use Rattle.hg_model.specs.declared.trees.Node.{Node}
use Rattle.hg_model.specs.declared.trees.Node.TheVariants as node
use Rattle.hg_model.specs.declared.trees.Op.TheVariants.{Add}
use Rattle.hg_expr.proofs.TableRows.{plain_row_fits}
use Rattle.hg_expr.specs.Over.{RowFits}
use Rattle.hg_expr.specs.Slots.{slots_of}
use Rattle.hg_expr.proofs.tests.sum_by_places.Goals as goal

pub eval-requires-clause-sound : goal.eval-requires-clause-sound
unfolding binary_digits digits_within
eval-requires-clause-sound c =
    let a : Node = node.Col c.default.result in
    let b : Node = node.Lit (literal.Int (pos 7)) in
    let s : Node = node.Arith Add 0 1 in
    let nodes : c.push-3.new.self.items ≡ a ∷ b ∷ s ∷ [] =
    c.push-3.ensures.items ∙ ap (λ l. l ++ s ∷ []) (c.push-2.ensures.items ∙ ap (λ l. l ++ b ∷ []) (c.push.ensures.items ∙ ap (λ l. l ++ a ∷ []) c.new-nodes.ensures)) in
    subst (IsSound []) (sym nodes) (record { tree = refl; narrow = refl; texts_fit = refl })

pub eval-requires-clause-fits : goal.eval-requires-clause-fits
unfolding slots_of
eval-requires-clause-fits c =
    let a : Node = node.Col c.default.result in
    let b : Node = node.Lit (literal.Int (pos 7)) in
    let s : Node = node.Arith Add 0 1 in
    let nodes : c.push-3.new.self.items ≡ a ∷ b ∷ s ∷ [] =
    c.push-3.ensures.items ∙ ap (λ l. l ++ s ∷ []) (c.push-2.ensures.items ∙ ap (λ l. l ++ b ∷ []) (c.push.ensures.items ∙ ap (λ l. l ++ a ∷ []) c.new-nodes.ensures)) in
    let first : ℕ × ℕ = (255, 0) in
    let other : ℕ × ℕ = (255, 255) in
    let places : c.push-6.new.self.items ≡ first ∷ other ∷ other ∷ [] =
    c.push-6.ensures.items ∙ ap (λ l. l ++ other ∷ []) (c.push-5.ensures.items ∙ ap (λ l. l ++ other ∷ []) (c.push-4.ensures.items ∙ ap (λ l. l ++ first ∷ []) c.new-places.ensures)) in
    let P : List Node → List (ℕ × ℕ) → Type 0 = λ ns ps. RowFits ns (slots_of ns ps) c.args.row.now in
    subst (λ ns. P ns c.push-6.new.self.items) (sym nodes)
    (subst (P (a ∷ b ∷ s ∷ [])) (sym places)
    (plain_row_fits (a ∷ b ∷ s ∷ []) (slots_of (a ∷ b ∷ s ∷ []) (first ∷ other ∷ other ∷ [])) c.args.row.now refl (ap is_small_row c.requires) refl))
