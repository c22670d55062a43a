-- What a line is read as, by what was kept of it.
use Rattle.std.proofs.Common.{◌≡◌, ◌<◌, ◌^◌, ℕ, Bool, true, false, ◌&&◌, List, [], ◌∷◌, Option, Some, None, refl, sym, ap, ◌∙◌, inl, inr}
use Rattle.std.specs.Prelude.{◌↔◌, if◌then◌else◌}
use Rattle.std.specs.List.{list_any}
use Rattle.std.proofs.lemmas.Bool.{cases_Bool}
use Rattle.hg_model.specs.Reading.{Reading, Blank, Syntax, BadNumber, TooMany, Statement, Reads, has_bad_number, too_many_of, is_long_name, is_long_text}
use Rattle.hg_model.specs.Tokens.{Token}
use Rattle.hg_model.specs.declared.trees.Count.{Count}
use Rattle.hg_parse.proofs.Cutting.{whole_tokens, broken_tokens}
use Rattle.hg_parse.proofs.FittingParts.{line_fits}
use Rattle.hg_parse.proofs.KeptWhole.{each_no, few, kept_whole}
use Rattle.hg_parse.proofs.Judged.{judges_alike}
use Rattle.hg_parse.proofs.OneReading.{reads_by_descent, line_tokens, has_line}
use Rattle.hg_parse.proofs.RuleImages.{keeps_fronts}
use Rattle.hg_parse.specs.AtHand.{stream, is_whole}
use Rattle.hg_parse.specs.Building.{Draft, plain, empty_draft}
use Rattle.hg_parse.specs.Judging.{bad_kept, too_many_kept}
use Rattle.hg_parse.specs.Keeping.{Kept, kept_of, image, cap_form}
use Rattle.hg_parse.specs.Kept.{keeper}
use Rattle.hg_parse.specs.Readings.{reading_of, by_tokens, by_line, judged, counted}
use Rattle.hg_parse.specs.Rules.{Form, TableForm, IndexForm, InsertForm, UpdateForm, DeleteForm, VacuumForm, SelectForm, OpenForm, StartForm, WorkForm, FetchForm, CloseForm, PoolForm, MplForm, MemoryForm, Line, line_of, line_end, ends_line, is_end, tree_of, command}
use Rattle.hg_parse.specs.Statements.{lined, line_kept, tree_in, short_form}
use Rattle.hg_parse.specs.Steps.{Answer, Got}

-- an answer that is what the line is read as is the answer
pub answers : (max : ℕ) (line : List ℕ) (r : Reading) → reading_of max line ≡ r → (a : Reading) → Reads max line a ↔ (r ≡ a)
answers max line r e a = let d = reads_by_descent max line a in ((λ h. sym e ∙ d.0 h), (λ h. d.1 (e ∙ h)))

pub broken : (max : ℕ) (line : List ℕ) → is_whole line ≡ false → reading_of max line ≡ Syntax
broken max line h = ap (by_tokens max) (broken_tokens line h)

false_true : false ≡ true → ⊥
false_true h = cc

both_true : (a b : Bool) → (a && b) ≡ true → (a ≡ true) × (b ≡ true)
both_true true b h = (refl, h)
both_true false b h = absurd (false_true h)

no_token : (ts : List Token) → is_end ts ≡ true → ts ≡ []
no_token [] h = refl
no_token (t ∷ ts) h = absurd (false_true h)

pub blank_line : (max : ℕ) (line : List ℕ) → (is_end (stream line) && is_whole line) ≡ true → reading_of max line ≡ Blank
blank_line max line h =
    let p = both_true (is_end (stream line)) (is_whole line) h in
    ap (by_tokens max) (whole_tokens line p.1 ∙ ap Some (no_token (stream line) p.0))

-- what is kept of a line, and its tree
pub record Found (ts : List Token) (k : Kept) (f : Form) : Type 0 where
  pub draft : Draft
  pub form : Form
  pub line : line_of ts ≡ Some (record { command = tree_of form draft; texts = draft.read.texts })
  pub kept : k ≡ kept_of draft
  pub same_form : f ≡ cap_form form

none_found : (x : Kept × Form) → None ≡ Some x → ⊥
none_found x h = cc

some_none : (x : Kept × Form) → Some x ≡ None → ⊥
some_none x h = cc

abbrev pair : Kept → Form → Kept × Form
pair k f = (k, f)

abbrev first_of : Option (Kept × Form) → Kept → Kept
first_of None d = d
first_of (Some x) d = x.0

abbrev second_of : Option (Kept × Form) → Form → Form
second_of None d = d
second_of (Some x) d = x.1

same_first : (a b : Kept) (f h : Form) → Some (pair a f) ≡ Some (pair b h) → a ≡ b
same_first a b f h e = ap (λ o. first_of o a) e

same_second : (a b : Kept) (f h : Form) → Some (pair a f) ≡ Some (pair b h) → f ≡ h
same_second a b f h e = ap (λ o. second_of o f) e

found_end : (ts : List Token) (k : Kept) (f : Form) (g : Got Draft Form) (b : Bool) → line_of ts ≡ (if b then Some (record { command = tree_of g.value g.state; texts = g.state.read.texts }) else None)
    → (if b then Some (pair (kept_of g.state) (cap_form g.value)) else None) ≡ Some (pair k f) → Found ts k f
found_end ts k f g true e h = record { draft = g.state; form = g.value; line = e; kept = sym (same_first _ _ _ _ h); same_form = sym (same_second _ _ _ _ h) }
found_end ts k f g false e h = absurd (none_found (pair k f) h)

found_by : (ts : List Token) (k : Kept) (f : Form) (a : Answer Draft Form) → command plain empty_draft ts ≡ a → line_kept (image cap_form a) ≡ Some (pair k f) → Found ts k f
unfolding line_of
found_by ts k f None e h = absurd (none_found (pair k f) h)
found_by ts k f (Some g) e h = found_end ts k f g (ends_line g.rest) (ap line_end e) h

none_end : (ts : List Token) (g : Got Draft Form) (b : Bool) → line_of ts ≡ (if b then Some (record { command = tree_of g.value g.state; texts = g.state.read.texts }) else None)
    → (if b then Some (pair (kept_of g.state) (cap_form g.value)) else None) ≡ None → line_of ts ≡ None
none_end ts g true e h = absurd (some_none _ h)
none_end ts g false e h = e

none_by : (ts : List Token) (a : Answer Draft Form) → command plain empty_draft ts ≡ a → line_kept (image cap_form a) ≡ None → line_of ts ≡ None
unfolding line_of
none_by ts None e h = ap line_end e
none_by ts (Some g) e h = none_end ts g (ends_line g.rest) (ap line_end e) h

-- the descent that keeps, over a line that has tokens up to its end
image_of : (ts : List Token) → line_kept (command keeper (kept_of empty_draft) ts) ≡ line_kept (image cap_form (command plain empty_draft ts))
unfolding keeper
image_of ts = ap line_kept (keeps_fronts ts)

at_true : (w : Bool) (a : Answer Kept Form) (o : Option (Kept × Form)) → w ≡ true → lined w a ≡ o → line_kept a ≡ o
at_true w a o e h = ap (λ b. lined b a) (sym e) ∙ h

at_false : (w : Bool) (a : Answer Kept Form) → w ≡ false → lined w a ≡ None
at_false w a e = ap (λ b. lined b a) e

not_blank : (max : ℕ) (ts : List Token) → is_end ts ≡ false → line_of ts ≡ None → by_tokens max (Some ts) ≡ Syntax
not_blank max [] h e = absurd (false_true (sym h))
not_blank max (t ∷ ts) h e = ap (by_line max (t ∷ ts)) e

and_false : (a b : Bool) → (a && b) ≡ false → b ≡ true → a ≡ false
and_false true b h e = absurd (false_true (sym h ∙ e))
and_false false b h e = refl

pub syntax_line : (max : ℕ) (line : List ℕ) → (is_end (stream line) && is_whole line) ≡ false → lined (is_whole line) (command keeper (kept_of empty_draft) (stream line)) ≡ None
    → reading_of max line ≡ Syntax
syntax_line max line n h = elim (cases_Bool (is_whole line)) [
  | inl w ↦
      ap (by_tokens max) (whole_tokens line w)
      ∙ not_blank max (stream line) (and_false (is_end (stream line)) (is_whole line) n w)
      (none_by (stream line) (command plain empty_draft (stream line)) refl (sym (image_of (stream line)) ∙ at_true (is_whole line) _ None w h))
  | inr w ↦ broken max line w
]

is_whole_found : (line : List ℕ) (x : Kept × Form) → lined (is_whole line) (command keeper (kept_of empty_draft) (stream line)) ≡ Some x → is_whole line ≡ true
is_whole_found line x h = elim (cases_Bool (is_whole line)) [
  | inl w ↦ w
  | inr w ↦ absurd (none_found x (sym (at_false (is_whole line) _ w) ∙ h))
]

pub found_line : (line : List ℕ) (k : Kept) (f : Form) → lined (is_whole line) (command keeper (kept_of empty_draft) (stream line)) ≡ Some (pair k f) → Found (stream line) k f
found_line line k f h =
    found_by (stream line) k f (command plain empty_draft (stream line)) refl (sym (image_of (stream line)) ∙ at_true (is_whole line) _ (Some (pair k f)) (is_whole_found line (pair k f) h) h)

bad_cap : (max : ℕ) (f : Form) (k : Kept) → bad_kept max (cap_form f) k ≡ bad_kept max f k
bad_cap max (TableForm t) k = refl
bad_cap max (IndexForm u i t) k = refl
bad_cap max (InsertForm t) k = refl
bad_cap max (UpdateForm t f) k = refl
bad_cap max (DeleteForm t f) k = refl
bad_cap max (VacuumForm t) k = refl
bad_cap max (SelectForm h) k = refl
bad_cap max (OpenForm c h) k = refl
bad_cap max (StartForm c n) k = refl
bad_cap max (WorkForm n) k = refl
bad_cap max (FetchForm c n) k = refl
bad_cap max (CloseForm c) k = refl
bad_cap max (PoolForm n) k = refl
bad_cap max (MplForm n) k = refl
bad_cap max MemoryForm k = refl

many_cap : (a b : Bool) (f : Form) (k : Kept) → too_many_kept a b (cap_form f) k ≡ too_many_kept a b f k
many_cap x y (TableForm t) k = refl
many_cap x y (IndexForm u i t) k = refl
many_cap x y (InsertForm t) k = refl
many_cap x y (UpdateForm t f) k = refl
many_cap x y (DeleteForm t f) k = refl
many_cap x y (VacuumForm t) k = refl
many_cap x y (SelectForm h) k = refl
many_cap x y (OpenForm c h) k = refl
many_cap x y (StartForm c n) k = refl
many_cap x y (WorkForm n) k = refl
many_cap x y (FetchForm c n) k = refl
many_cap x y (CloseForm c) k = refl
many_cap x y (PoolForm n) k = refl
many_cap x y (MplForm n) k = refl
many_cap x y MemoryForm k = refl

module _ (max : ℕ) (line : List ℕ) (k : Kept) (f : Form) (d : lined (is_whole line) (command keeper (kept_of empty_draft) (stream line)) ≡ Some (pair k f)) where
  abbrev at_hand : Found (stream line) k f
  at_hand = found_line line k f d

  abbrev tree : Line
  tree = record { command = tree_of at_hand.form at_hand.draft; texts = at_hand.draft.read.texts }

  is_judged : reading_of max line ≡ judged max (stream line) tree
  is_judged = ap (by_tokens max) (whole_tokens line (is_whole_found line (pair k f) d)) ∙ line_tokens max (stream line) tree at_hand.line

  same_bad : bad_kept max f k ≡ has_bad_number max tree.command
  same_bad =
      ap (λ h. bad_kept max h k) at_hand.same_form ∙ (bad_cap max at_hand.form k
      ∙ (ap (bad_kept max at_hand.form) at_hand.kept ∙ (judges_alike max (stream line) at_hand.form at_hand.draft).0))

  same_many : too_many_kept (list_any is_long_name (stream line)) (list_any is_long_text (stream line)) f k ≡ too_many_of (stream line) tree.command
  same_many =
      ap (λ h. too_many_kept (list_any is_long_name (stream line)) (list_any is_long_text (stream line)) h k) at_hand.same_form
      ∙ (many_cap (list_any is_long_name (stream line)) (list_any is_long_text (stream line)) at_hand.form k
      ∙ (ap (too_many_kept (list_any is_long_name (stream line)) (list_any is_long_text (stream line)) at_hand.form) at_hand.kept
      ∙ (judges_alike max (stream line) at_hand.form at_hand.draft).1))

  pub bad_line : bad_kept max f k ≡ true → reading_of max line ≡ BadNumber
  bad_line h = is_judged ∙ ap (λ b. if b then BadNumber else counted tree (too_many_of (stream line) tree.command)) (sym same_bad ∙ h)

  good_line : bad_kept max f k ≡ false → reading_of max line ≡ counted tree (too_many_of (stream line) tree.command)
  good_line h = is_judged ∙ ap (λ b. if b then BadNumber else counted tree (too_many_of (stream line) tree.command)) (sym same_bad ∙ h)

  pub many_line : (c : Count) → bad_kept max f k ≡ false → too_many_kept (list_any is_long_name (stream line)) (list_any is_long_text (stream line)) f k ≡ Some c → reading_of max line ≡ TooMany c
  many_line c h m = good_line h ∙ ap (counted tree) (sym same_many ∙ m)

  -- the statement whose tree was kept
  pub statement_line : max < 2 ^ 32 → bad_kept max f k ≡ false → too_many_kept (list_any is_long_name (stream line)) (list_any is_long_text (stream line)) f k ≡ None
      → reading_of max line ≡ Statement (tree_in (short_form f) k) k.texts
  statement_line u h m =
      let form = at_hand.form in
      let draft = at_hand.draft in
      let names = list_any is_long_name (stream line) in
      let texts = list_any is_long_text (stream line) in
      let bad : bad_kept max form (kept_of draft) ≡ false =
      sym (ap (λ x. bad_kept max x k) at_hand.same_form ∙ (bad_cap max form k ∙ ap (bad_kept max form) at_hand.kept)) ∙ h in
      let most : too_many_kept names texts form (kept_of draft) ≡ None =
      sym (ap (λ x. too_many_kept names texts x k) at_hand.same_form ∙ (many_cap names texts form k ∙ ap (too_many_kept names texts form) at_hand.kept)) ∙ m in
      let fewer = few names texts form (kept_of draft) most in
      let fits = line_fits (has_line (stream line) tree at_hand.line) (each_no is_long_name (stream line) fewer.names) in
      let whole : tree_in (short_form (cap_form form)) (kept_of draft) ≡ tree_of form draft = kept_whole max names texts form draft u fits bad fewer in
      good_line h ∙ (ap (counted tree) (sym same_many ∙ m)
      ∙ (ap (λ t. Statement t (kept_of draft).texts) (sym whole)
      ∙ (ap (λ y. Statement (tree_in (short_form y) (kept_of draft)) (kept_of draft).texts) (sym at_hand.same_form)
      ∙ ap (λ y. Statement (tree_in (short_form f) y) y.texts) (sym at_hand.kept))))
