use Rattle.std.proofs.Common.{◌∙◌, ◌++◌, ◌-◌, ap, take, arith}
use Rattle.hg_serve.proofs.Feeds.{keeps-part, ok-gives}
use Rattle.hg_serve.proofs.session.Session.keep.Goals as goal

pub returns-clause-line : goal.returns-clause-line
returns-clause-line c whole is =
    let kept = c.args.self.now.line.items in
    let put = c.try_extend_from_slice.ensures in
    ok-gives c.try_extend_from_slice.result _ _ put.variant (omega (arith, c.front-front.ensures.few, c.len.ensures.value)) put.ok
    ∙ ap (λ l. kept ++ l) (c.front-front.ensures.front ∙ ap (λ n. take (4097 - n) c.args.bytes.now) c.len.ensures.value)
    ∙ keeps-part kept whole c.args.bytes.now is
