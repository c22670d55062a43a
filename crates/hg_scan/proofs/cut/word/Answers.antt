use Rattle.std.proofs.Common.{sym, ◌∙◌, ap, subst, take, length, ◌≤◌, ◌≡◌, true, false}
use Rattle.std.proofs.lemmas.List.Sums.{prefix_len-le-length}
use Rattle.hg_model.specs.Name.{is_in_word}
use Rattle.hg_model.specs.Tokens.{is_word}
use Rattle.hg_scan.specs.Pieces.{is_piece}
use Rattle.hg_scan.proofs.Cuts.{word_bytes, keyword_piece, name_piece}
use Rattle.hg_scan.proofs.cut.word.Goals.{in-Some, in-None}
use Rattle.hg_scan.proofs.cut.word.Goals as goal

pub split_at-requires : goal.split_at-requires
split_at-requires c = subst (λ n. n ≤ length c.args.rest.now) (sym c.word_len.ensures) (prefix_len-le-length is_in_word c.args.rest.now)

pub invariant_of-result : goal.invariant_of-result
invariant_of-result c =
    let e = c.split_at.ensures.front ∙ ap (λ n. take n c.args.rest.now) c.word_len.ensures in
    let h = subst (λ l. is_word l ≡ true) (sym e) (word_bytes c.args.rest.now c.requires) in
    record {
      spelled = elim c.match-keyword.branch [
        | in-Some w ↦ subst (λ k. is_piece k false c.split_at.result.0.now ≡ true) (sym w.kind-is) (keyword_piece c.split_at.result.0.now _ (sym c.keyword.ensures ∙ w.in-Some.is))
        | in-None w ↦ subst (λ k. is_piece k false c.split_at.result.0.now ≡ true) (sym w.kind-is) (name_piece c.split_at.result.0.now h (sym c.keyword.ensures ∙ w.in-None.is))
      ];
    }
