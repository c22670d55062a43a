-- A row joins those before it.
use Rattle.std.specs.Prelude.{◌≡◌, ℕ, zero, suc, ◌+◌, ◌<◌, ◌≤◌, ◌&&◌, Bool, true, false, List, [], ◌∷◌, ◌++◌, length, take, Option, Some, IsTrue, slice_get, nat_lt, nat_abs, ◌^◌, pos, negsuc}
use Rattle.std.specs.List.{AllByRecursion, list_all}
use Rattle.std.proofs.Common.{sym, ◌∙◌, ap, subst, refl, append_assoc, append-nil, arith, length-append}
use Rattle.std.proofs.lemmas.Bool.{false≢true}
use Rattle.std.proofs.lemmas.Bool.Decides.{nat_tests}
use Rattle.std.proofs.lemmas.List.Concat.{flat_map-append}
use Rattle.hg_catalog.specs.Contents.{CatalogTable}
use Rattle.hg_expr.specs.Laws.{held, held_from, TableRowsFit}
use Rattle.hg_expr.specs.Over.{RowFits}
use Rattle.hg_expr.specs.Slots.{named_columns, slots_of}
use Rattle.hg_model.specs.Tables.{fits_columns, fits_integer, fits_type, is_allowed}
use Rattle.hg_model.specs.Width.{is_small, is_small_row}
use Rattle.hg_model.specs.declared.trees.Column.{Column}
use Rattle.hg_model.specs.declared.trees.Node.{Node}
use Rattle.hg_model.specs.declared.trees.SqlType.{SqlType}
use Rattle.hg_model.specs.declared.trees.SqlType.TheVariants.{Integer, Varchar}
use Rattle.hg_model.specs.declared.values.Value.{Value}
use Rattle.hg_model.specs.declared.values.Value.TheVariants.{Null, Int, Text}
use Rattle.hg_value.specs.Choosing.{HasRoomFor}
use Rattle.hg_value.specs.Coding.{coding, coded}
use Rattle.hg_value.specs.Looks.{chosen}
use Rattle.hg_exec.specs.Entering.{MayJoin, IsWhole}
use Rattle.hg_exec.specs.Joins.{Form, joined_with, output_of}
use Rattle.hg_exec.specs.Standing.{entry, AreRowsOf, HasRoom, IsForm, IsJoined, LoopStands}
use Rattle.hg_plan.specs.Planning.{AreNamed}
use Rattle.hg_plan.specs.declared.plan.TableLoop.{TableLoop}
use Rattle.hg_exec.proofs.Opening.{same-one, no-loop}

and-left : (a b : Bool) → (a && b) ≡ true → a ≡ true
and-left true b h = refl
and-left false b h = absurd (false≢true h)

and-right : (a b : Bool) → (a && b) ≡ true → b ≡ true
and-right true b h = h
and-right false b h = absurd (false≢true h)

-- ---- rows that fit

small-fits : (ty : SqlType) (v : Value) → fits_type ty v ≡ true → is_small v ≡ true
small-fits ty Null h = refl
small-fits Integer (Int (pos n)) h = grind (arith, nat_tests)
small-fits Integer (Int (negsuc n)) h = grind (arith, nat_tests)
small-fits Integer (Text t) h = refl
small-fits (Varchar m) (Int x) h = absurd (false≢true h)
small-fits (Varchar m) (Text t) h = refl

small-row : (columns : List Column) (row : List Value) → fits_columns columns row ≡ true → is_small_row row ≡ true
small-row [] [] h = refl
small-row [] (v ∷ row) h = absurd (false≢true h)
small-row (c ∷ columns) [] h = absurd (false≢true h)
small-row (c ∷ columns) (v ∷ row) h =
    let rest : (is_allowed c v && fits_columns columns row) ≡ true = and-right (fits_type c.ty v) (is_allowed c v && fits_columns columns row) h in
    let one : is_small v ≡ true = small-fits c.ty v (and-left (fits_type c.ty v) (is_allowed c v && fits_columns columns row) h) in
    ap (λ b. b && is_small_row row) one ∙ small-row columns row (and-right (is_allowed c v) (fits_columns columns row) rest)

pub fits-length : (columns : List Column) (row : List Value) → fits_columns columns row ≡ true → length row ≡ length columns
fits-length [] [] h = refl
fits-length [] (v ∷ row) h = absurd (false≢true h)
fits-length (c ∷ columns) [] h = absurd (false≢true h)
fits-length (c ∷ columns) (v ∷ row) h =
    let rest : (is_allowed c v && fits_columns columns row) ≡ true = and-right (fits_type c.ty v) (is_allowed c v && fits_columns columns row) h in
    ap suc (fits-length columns row (and-right (is_allowed c v) (fits_columns columns row) rest))

rows-small : (tables : List CatalogTable) (ls : List TableLoop) (rows : List (List Value)) → AreRowsOf tables ls rows → list_all is_small_row rows ≡ true
rows-small tables ls [] h = refl
rows-small tables [] (row ∷ rows) h = absurd h
rows-small tables (l ∷ ls) (row ∷ rows) h =
    ap (λ b. b && list_all is_small_row rows) (small-row (entry tables l.table).columns row h.0) ∙ rows-small tables ls rows h.1

rows-few : (tables : List CatalogTable) (ls : List TableLoop) (rows : List (List Value)) → AreRowsOf tables ls rows → length rows ≤ length ls
rows-few tables ls [] h = omega arith
rows-few tables [] (row ∷ rows) h = absurd h
rows-few tables (l ∷ ls) (row ∷ rows) h = let r = rows-few tables ls rows h.1 in omega arith

rows-more : (tables : List CatalogTable) (ls : List TableLoop) (rows : List (List Value)) (l : TableLoop) (row : List Value) → slice_get ls (length rows) ≡ Some l
    → AreRowsOf tables ls rows → fits_columns (entry tables l.table).columns row ≡ true → AreRowsOf tables ls (rows ++ row ∷ [])
rows-more tables [] rows l row e h fits = absurd (no-loop (length rows) l e)
rows-more tables (m ∷ ls) [] l row e h fits = (subst (λ (x : TableLoop). fits_columns (entry tables x.table).columns row ≡ true) (sym (same-one m l e)) fits, tt)
rows-more tables (m ∷ ls) (r ∷ rows) l row e h fits = (h.0, rows-more tables ls rows l row e h.1 fits)

-- ---- what the joined row holds

named-at : (nodes : List Node) (places : List (ℕ × ℕ)) (k : ℕ) (ls : List TableLoop) (n : ℕ) (l : TableLoop) → slice_get ls n ≡ Some l → AreNamed nodes places k ls
    → l.columns.items ≡ named_columns nodes places (k + n)
named-at nodes places k [] n l e h = absurd (no-loop n l e)
named-at nodes places k (m ∷ ls) zero l e h =
    let same : k ≡ k + 0 = omega arith in
    ap (λ (x : TableLoop). x.columns.items) (sym (same-one m l e)) ∙ h.0 ∙ ap (named_columns nodes places) same
named-at nodes places k (m ∷ ls) (suc n) l e h =
    let same : suc k + n ≡ k + suc n = omega arith in
    named-at nodes places (suc k) ls n l e h.1 ∙ ap (named_columns nodes places) same

pub held-more : (nodes : List Node) (places : List (ℕ × ℕ)) (t : ℕ) (rows : List (List Value)) (row : List Value)
    → held_from nodes places t (rows ++ row ∷ []) ≡ held_from nodes places t rows ++ chosen row (named_columns nodes places (t + length rows))
held-more nodes places t [] row =
    let same : t ≡ t + 0 = omega arith in
    append-nil (chosen row (named_columns nodes places t)) ∙ ap (λ k. chosen row (named_columns nodes places k)) same
held-more nodes places t (r ∷ rows) row =
    let same : suc t + length rows ≡ t + suc (length rows) = omega arith in
    ap (λ vs. chosen r (named_columns nodes places t) ++ vs) (held-more nodes places (suc t) rows row)
    ∙ sym (append_assoc (chosen r (named_columns nodes places t)) (held_from nodes places (suc t) rows) (chosen row (named_columns nodes places (suc t + length rows))))
    ∙ ap (λ k. (chosen r (named_columns nodes places t) ++ held_from nodes places (suc t) rows) ++ chosen row (named_columns nodes places k)) same

room-for : (vs ws : List Value) → HasRoom (vs ++ ws) → HasRoomFor vs ws
room-for vs ws h =
    let p = h.places in
    let b = h.bytes in
    record {
      places = omega (arith, length-append vs ws);
      bytes = omega (arith, ap length (flat_map-append coding vs ws), length-append (coded vs) (coded ws));
    }

all-below : (m n : ℕ) (ks : List ℕ) → m ≡ n → AllByRecursion (λ k. k < m) ks → AllByRecursion (λ k. k < n) ks
all-below m n ks e h = subst (λ x. AllByRecursion (λ k. k < x) ks) e h

-- a row that fits joins those before it
pub record Joins (tables : List CatalogTable) (f : Form) (loops : List TableLoop) (form : IsForm tables f loops) (k : ℕ) (l : TableLoop) (vs row : List Value) : Type 0 where
  pub may : MayJoin f l vs row
  pub joined : IsJoined tables f.nodes form.places loops (suc k) (joined_with l vs row)
  pub fits : RowFits f.nodes f.slots (joined_with l vs row)

pub row-joins : TableRowsFit → (tables : List CatalogTable) (f : Form) (loops : List TableLoop) (form : IsForm tables f loops) (k : ℕ) (l : TableLoop) (vs row : List Value)
    → slice_get loops k ≡ Some l → AllByRecursion (λ c. c < length (entry tables l.table).columns) l.columns.items
    → IsJoined tables f.nodes form.places loops k vs → fits_columns (entry tables l.table).columns row ≡ true → Joins tables f loops form k l vs row
row-joins law tables f loops form k l vs row at columns j fits =
    let rows : List (List Value) = j.rows ++ row ∷ [] in
    let there : slice_get loops (length j.rows) ≡ Some l = ap (slice_get loops) j.count ∙ at in
    let all : AreRowsOf tables loops rows = rows-more tables loops j.rows l row there j.fit fits in
    let named : l.columns.items ≡ named_columns f.nodes form.places (0 + length j.rows) = named-at f.nodes form.places 0 loops (length j.rows) l there form.named in
    let is : joined_with l vs row ≡ held f.nodes form.places rows =
    ap (λ us. us ++ chosen row l.columns.items) j.is
    ∙ ap (λ cs. held f.nodes form.places j.rows ++ chosen row cs) named
    ∙ sym (held-more f.nodes form.places 0 j.rows row) in
    let few : length rows ≤ 4 = let a = rows-few tables loops rows all in let b = form.few in omega arith in
    let ok : RowFits f.nodes (slots_of f.nodes form.places) (held f.nodes form.places rows) =
    law f.nodes form.places rows few (rows-small tables loops rows all) form.placed form.aggregates in
    let whole : RowFits f.nodes f.slots (joined_with l vs row) =
    subst (λ us. RowFits f.nodes f.slots us) (sym is) (subst (λ ss. RowFits f.nodes ss (held f.nodes form.places rows)) (sym form.slots) ok) in
    let room : HasRoom (joined_with l vs row) = subst HasRoom (sym is) (form.room rows all) in
    record {
      may = record {
        sound = form.sound;
        columns = all-below (length (entry tables l.table).columns) (length row) l.columns.items (sym (fits-length (entry tables l.table).columns row fits)) columns;
        room = room-for vs (chosen row l.columns.items) room;
        fits = whole;
      };
      joined = record { rows = rows; count = length-append j.rows (row ∷ []) ∙ (let c = j.count in omega arith); fit = all; is = is };
      fits = whole;
    }

-- a row of all tables is whole
pub whole-row : (tables : List CatalogTable) (f : Form) (loops : List TableLoop) (form : IsForm tables f loops) (k : ℕ) (vs : List Value)
    → IsJoined tables f.nodes form.places loops k vs → k ≡ length loops → RowFits f.nodes f.slots vs → IsWhole f vs
whole-row tables f loops form k vs j all fits = record {
  sound = form.sound;
  fits = fits;
  room = subst (λ us. HasRoom (output_of f us)) (sym j.is) (form.out j.rows j.fit (j.count ∙ all));
}
