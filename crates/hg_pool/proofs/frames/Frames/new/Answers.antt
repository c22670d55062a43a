use Rattle.std.proofs.Common.{◌≡◌, ℕ, ◌∙◌, ap, length, refl, List}
use Rattle.std.proofs.lemmas.List.{length-replicate}
use Rattle.hg_pool.specs.Seen.{no_mark, mark_at}
use Rattle.hg_pool.specs.declared.frames.Mark.{Mark}
use Rattle.hg_pool.proofs.InFrames.{seen-length, field-at}
use Rattle.hg_pool.proofs.Moves.{more-none}
use Rattle.hg_pool.proofs.frames.Frames.new.Goals as goal

pub returns-clause-made : goal.returns-clause-made
returns-clause-made c =
    let ms : List Mark = c.in-Ok.marks.items in
    let r = c.give_back.new.self in
    let o = c.split-one.new.self in
    let none : (f : ℕ) → mark_at ms f ≡ no_mark = λ f. ap (λ (l : List Mark). mark_at l f) c.in-Ok.ensures.made ∙ more-none c.args.count f no_mark in record {
      count = seen-length r o 0 ms ∙ ap (λ (l : List Mark). length l) c.in-Ok.ensures.made ∙ length-replicate {A = Mark} c.args.count no_mark;
      none = λ f. field-at (λ x. x.page) (λ m. m.page) r o 0 f ms refl (λ j m. refl) ∙ ap (λ (m : Mark). m.page) (none f);
      pinned = λ f. field-at (λ x. x.pinned) (λ m. m.pinned) r o 0 f ms refl (λ j m. refl) ∙ ap (λ (m : Mark). m.pinned) (none f);
      lent = λ f. field-at (λ x. x.lent) (λ m. m.lent) r o 0 f ms refl (λ j m. refl) ∙ ap (λ (m : Mark). m.lent) (none f);
    }
