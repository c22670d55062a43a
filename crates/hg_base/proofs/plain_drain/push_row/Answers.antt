use Rattle.std.proofs.Common.{◌≡◌, ◌∙◌, ap, arith, ℕ, ◌+◌, ◌-◌, ◌*◌, ◌/◌, ◌%◌, List, ◌∷◌, [], ◌++◌, length, replicate}
use Rattle.hg_base.specs.PlainDrains.{row-joined}
use Rattle.hg_base.proofs.plain_drain.push_row.Goals as goal

pub returns : goal.returns
returns c =
    let old : List ℕ = c.args.rows.now.items in
    let payload : List ℕ = c.args.payload.now in
    let n : ℕ = length payload in
    let rest : ℕ = 16 * ((n + 15) / 16) - n in
    c.push_zeros-2.ensures
    ∙ ap (λ l. l ++ replicate rest 0) (c.push_bytes-2.ensures
    ∙ ap (λ l. l ++ payload) (c.push_zeros.ensures
    ∙ ap (λ l. l ++ replicate 13 0) (c.push.ensures.items
    ∙ ap (λ l. l ++ 1 ∷ []) c.push_bytes.ensures)))
    ∙ row-joined old c.to_le_bytes.result payload (replicate rest 0)
    ∙ ap (λ l. old ++ (l ++ (1 ∷ replicate 13 0 ++ (payload ++ replicate rest 0)))) c.to_le_bytes.ensures
    ∙ ap (λ k. old ++ ((n % 256 ∷ n / 256 % 256 ∷ []) ++ (1 ∷ replicate 13 0 ++ (payload ++ replicate k 0)))) (let e : rest ≡ 16 + 16 * ((n + 15) / 16) - 16 - n = omega arith in e)
