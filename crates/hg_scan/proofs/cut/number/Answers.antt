use Rattle.std.proofs.Common.{sym, ◌∙◌, ap, subst, take, length, ◌≤◌, ◌≡◌, true}
use Rattle.std.proofs.lemmas.List.Sums.{prefix_len-le-length}
use Rattle.hg_model.specs.Name.{is_digit}
use Rattle.hg_model.specs.Tokens.{is_number}
use Rattle.hg_scan.proofs.Cuts.{number_bytes}
use Rattle.hg_scan.proofs.cut.number.Goals as goal

pub split_at-requires : goal.split_at-requires
split_at-requires c = subst (λ n. n ≤ length c.args.rest.now) (sym c.number_len.ensures) (prefix_len-le-length is_digit c.args.rest.now)

pub invariant_of-result : goal.invariant_of-result
invariant_of-result c =
    let e = c.split_at.ensures.front ∙ ap (λ n. take n c.args.rest.now) c.number_len.ensures in
    record { spelled = subst (λ l. is_number l ≡ true) (sym e) (number_bytes c.args.rest.now c.requires) }
