use Rattle.std.specs.Prelude.{◌≡◌, List, [], ◌∷◌, ◌++◌}
use Rattle.std.proofs.Common.{◌∙◌, ap, rules}
use Rattle.hg_model.specs.declared.values.Value.{Value}
use Rattle.hg_index.proofs.Trying.{pair_enters}
use Rattle.hg_index.proofs.tests.pair.Goals as goal

pub returns-then-is_ok-2 : goal.returns-then-is_ok-2
returns-then-is_ok-2 c =
    let first : c.push.new.self ≡ c.new-row.result ++ c.value.result ∷ [] = search rules in
    let second : c.push-then-is_ok.new.self ≡ c.push.new.self ++ c.value-then-is_ok.result ∷ [] = search rules in
    pair_enters c.keys_are_as_long.ensures.index c.value.result c.value-then-is_ok.result c.push-then-is_ok.new.self
    (second ∙ ap (λ (l : List Value). l ++ c.value-then-is_ok.result ∷ []) (first ∙ ap (λ (l : List Value). l ++ c.value.result ∷ []) c.new-row.ensures))
    (record { indexed = c.value.ensures.indexed; short = c.value.ensures.short })
    (record { indexed = c.value-then-is_ok.ensures.indexed; short = c.value-then-is_ok.ensures.short })
