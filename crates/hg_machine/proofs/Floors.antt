-- No turn ends with the limit error where the ceiling is at least the floor of the cursor at the front.
use Rattle.std.proofs.Common.{◌≡◌, ℕ, ◌≤◌, Bool, true, false, List, [], ◌∷◌, Option, refl, sym, subst, arith}
use Rattle.hg_base.specs.declared.File.{File}
use Rattle.hg_base.specs.declared.File.TheVariants as file
use Rattle.hg_machine.specs.Plain.Laws.{FloorFits, FloorsPreventTheLimit}
use Rattle.hg_machine.specs.Plain.Licences.{Licensed, device_failed, main_is_full, temp_is_full, temp_alone}
use Rattle.hg_machine.specs.Plain.Limits.{ceiling}
use Rattle.hg_machine.specs.Plain.Refused.{too_many_line}
use Rattle.hg_machine.specs.Plain.Replies.{ReplyLine, CursorName, row, done, ended, closed, device_fault, file_full, is_code, code_lines}
use Rattle.hg_machine.specs.Plain.Rounds.{wants_more, one_less}
use Rattle.hg_machine.specs.Plain.State.{State}
use Rattle.hg_machine.specs.Plain.Turn.{Turn, gives_row, ends, groups_too_many, reaches_limit, fails, HasTurn, done_line}
use Rattle.hg_model.specs.CommandNeeds.{needs}
use Rattle.hg_model.specs.Order.{Pair}
use Rattle.hg_model.specs.declared.trees.Count.TheVariants as count

abbrev NoLimit : List ReplyLine → Type 0
NoLimit lines = code_lines 16 lines ≡ 0

row_no_limit : (name : CursorName) (p : Pair) (wanted : Option ℕ) → NoLimit (row name p.row ∷ done_line name wanted)
unfolding code_lines
row_no_limit name p wanted = go (wants_more wanted) refl
  where
    go : (b : Bool) → wants_more wanted ≡ b → NoLimit (row name p.row ∷ done_line name wanted)
    go true e = rw e refl
    go false e = rw e refl

end_no_limit : (name : CursorName) → NoLimit (ended name ∷ [])
unfolding code_lines
end_no_limit name = refl

many_no_limit : (name : CursorName) → NoLimit (too_many_line count.RowsGrouped ∷ closed name ∷ [])
unfolding code_lines
many_no_limit name = refl

fault_no_limit : (f : File) (name : CursorName) → NoLimit (device_fault f ∷ closed name ∷ [])
unfolding code_lines
fault_no_limit file.Main name = refl
fault_no_limit file.Temp name = refl

full_no_limit : (f : File) (name : CursorName) → NoLimit (file_full f ∷ closed name ∷ [])
unfolding code_lines
full_no_limit file.Main name = refl
full_no_limit file.Temp name = refl

failed_no_limit : (s : State) (line : ReplyLine) (name : CursorName) → Licensed s temp_alone (needs 0 0) line → NoLimit (line ∷ closed name ∷ [])
failed_no_limit s line name (device_failed f is) = subst (λ l. NoLimit (l ∷ closed name ∷ [])) (sym is) (fault_no_limit f name)
failed_no_limit s line name (main_is_full may over is) = subst (λ l. NoLimit (l ∷ closed name ∷ [])) (sym is) (full_no_limit file.Main name)
failed_no_limit s line name (temp_is_full may over is) = subst (λ l. NoLimit (l ∷ closed name ∷ [])) (sym is) (full_no_limit file.Temp name)

turn_no_limit : (old new : State) (lines : List ReplyLine) → Turn old lines new → FloorFits old → NoLimit lines
turn_no_limit old new lines (gives_row name c others pair left held has fine may took holds said is) fits = subst NoLimit (sym said) (row_no_limit name pair (one_less c.wanted))
turn_no_limit old new lines (ends name c others held has fine none holds said is) fits = subst NoLimit (sym said) (end_no_limit name)
turn_no_limit old new lines (groups_too_many name c others has many said is) fits = subst NoLimit (sym said) (many_no_limit name)
turn_no_limit old new lines (reaches_limit name c others held has above below need said is) fits =
    let low : c.floor ≤ ceiling old = fits name others c has.front has.is_there in
    absurd (omega arith)
turn_no_limit old new lines (fails name c others line has licensed said is) fits = subst NoLimit (sym said) (failed_no_limit old line name licensed)

pub floors_prevent_the_limit : FloorsPreventTheLimit
floors_prevent_the_limit = turn_no_limit
